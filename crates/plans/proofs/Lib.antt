pub mod MapViews
pub mod NeedsLaws
pub mod RequestLaws
pub mod ValueLaws
mod SortedSteps
