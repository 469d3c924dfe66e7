pub mod WellFormedLaws
