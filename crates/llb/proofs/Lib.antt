pub mod GraphKept
pub mod GraphLaws
pub mod IndexKept
pub mod LastKept
pub mod LineFacts
pub mod PlacesLaws
pub mod WellFormedSteps
