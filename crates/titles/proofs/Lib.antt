mod EndFacts
mod TitleFacts
mod TitledFacts
