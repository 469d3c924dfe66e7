use Rattle.std.proofs.Common.{◌≡◌, ◌++◌, drop, map}
use Rattle.std.specs.Option.{option_map}
use Rattle.serde_json.specs.Find.{as_str}
use Rattle.serde_json.specs.View.{items_of}
use Rattle.strict.specs.Strict.{all_in}
use Rattle.imageconfig.proofs.reading.shared_texts.Given as goal

-- what is read with what is left is all
abbrev pub invariant-loop-value : goal.invariant-loop-value
invariant-loop-value g l =
    option_map (λ rest. l.texts ++ rest) (all_in as_str (items_of (map g.J.Looked.meaning (drop l.value-index l.values)))) ≡ all_in as_str (items_of (map g.J.Looked.meaning l.values))
