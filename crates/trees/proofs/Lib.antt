pub mod WayLaws
pub mod TreeLaws
pub mod CauseLaws
pub mod SubtreeLaws
pub mod BranchLaws
pub mod OverLaws
pub mod RemoveLaws
pub mod CopyLaws
pub mod CopyTrees
pub mod BuiltLaws
mod NodeLaws
mod NodeSteps
mod KidLists
mod PartLists
mod PartSteps
mod RowLists
mod WalkSteps
mod BranchSteps
mod TreeSteps
mod OverSteps
mod CutSteps
mod CopySteps
mod CopyRows
mod FillSteps
mod NameSteps
mod FromSteps
mod BelowSteps
mod MeetSteps
mod DepthSteps
mod SeenSteps
mod PlacedSteps
mod FolderSteps
mod PlacingSteps
mod FolderDone
mod GatheredSteps
mod GrowingSteps
mod PartedSteps
mod SpineSteps
mod ForkSteps
mod BuilderSteps
