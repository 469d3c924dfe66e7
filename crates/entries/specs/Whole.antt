-- The tree of a list of entries is that of its rows.
pub use Rattle.trees.specs.Whole.{tree_of}
