mod DefinitionBack
mod ExecBack
mod FileBack
mod FitLemmas
mod OpBack
mod SourceBack
