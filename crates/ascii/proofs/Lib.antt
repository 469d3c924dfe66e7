pub mod BlankLaws
pub mod NameLaws
pub mod PieceLaws
