pub mod Blanks
pub mod Names
pub mod Numbers
pub mod Pieces
