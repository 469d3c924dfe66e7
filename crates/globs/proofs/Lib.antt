pub mod Cuts
pub mod Tests
mod Characters
mod PlainNames
mod Endings
mod Beginnings
mod Ends
mod Texts
mod Spelling
mod Relating
pub mod SpelledOut
