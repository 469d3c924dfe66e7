mod CodeLaws
mod FirstFacts
mod FlagLaws
mod FrontFacts
mod PlaceLaws
mod PointedLaws
mod SpotFacts
mod WordFacts
