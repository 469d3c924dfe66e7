mod ConfigFacts
mod DotFacts
mod FirstFacts
mod InputFacts
mod LlbFacts
mod TaskFacts
mod TellFacts
mod WhyFacts
