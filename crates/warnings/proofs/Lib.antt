mod KnownFacts
mod WarningFacts
