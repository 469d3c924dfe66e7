use Rattle.std.proofs.Common.{◌≡◌, ℕ, ◌<◌, ◌≤◌, Some}
use Rattle.std.specs.Prelude.{slice_get}
use Rattle.std.specs.List.{Contains}
use Rattle.cachemounts.specs.declared.content.Content.{Content}
use Rattle.cachemounts.specs.PrivateIndex.{under, Grows}
use Rattle.cachemounts.proofs.index.Index.enter_from.Given as goal

abbrev pub invariant-loop-at : goal.invariant-loop-at
invariant-loop-at l = record {
  grows : Grows l.fn.self.places.entries l.self.places.entries;
  entered : (k : ℕ) (content : Content) → l.from ≤ k → k < l.at → slice_get l.contents k ≡ Some content → Contains (under l.self.places.entries content.id) k;
}
