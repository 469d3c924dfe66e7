mod DrawFacts
mod SimpleFacts
