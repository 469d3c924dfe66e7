use Rattle.std.proofs.Common.{◌≡◌, ◌++◌, drop}
use Rattle.std.specs.Prelude.{option_map}
use Rattle.serde_json.specs.View.{items_view}
use Rattle.words.specs.Form.{texts_of}
use Rattle.words.proofs.form.texts_in.Given as goal

abbrev pub invariant-loop-value : goal.invariant-loop-value
invariant-loop-value l = option_map (λ texts. l.texts ++ texts) (texts_of (items_view (drop l.value-index l.value-items))) ≡ texts_of (items_view l.value-items)
