pub mod ActionLaws
mod ClashFacts
mod CopyFacts
mod LimitFacts
mod MountFacts
mod RunFacts
mod SourceFacts
