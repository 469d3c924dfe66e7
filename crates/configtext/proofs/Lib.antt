mod FieldFacts
mod LabelFacts
