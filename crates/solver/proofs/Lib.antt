pub mod Crosses
pub mod AlikeLemmas
pub mod RunLemmas
pub mod SolutionLemmas
pub mod RecallLemmas
pub mod RememberLemmas
