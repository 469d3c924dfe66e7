mod KeyFacts
mod PathFacts
