-- What a sight and the caches are after a change.
use Rattle.std.proofs.Common.{◌≡◌, ◌<◌, ◌≤◌, ℕ, List, Option, Some, None, Err, length, get_or, slice_get, refl, sym, ap, ◌∙◌}
use Rattle.std.proofs.Math.ListN.{set}
use Rattle.std.proofs.lemmas.List.{set-get_or}
use Rattle.std.proofs.lemmas.Option.{slice_get_read, slice_get_past}
use Rattle.trees.specs.TreeMap.{TreeMap}
use Rattle.trees.specs.declared.cause.Cause.{Cause}
use Rattle.runs.specs.declared.run.RunBind.{RunBind}
use Rattle.executor.specs.declared.edit.Change.{Change}
use Rattle.executor.specs.Edits.{SightValue, with_cache, with_change, changed, tree_or_mounted, bind_tree}

-- where a change can't be made, a cache stays as it was
pub with_change-refused : (caches : List TreeMap) (number : ℕ) (path : List (List ℕ)) (change : Change) (tree new : TreeMap) (cause : Cause) → number < length caches → tree ≡ get_or caches number tree → changed tree path change ≡ Err cause → new ≡ tree → set caches number new ≡ with_change caches number path change (slice_get caches number)
with_change-refused caches number path change tree new cause inside is refused same =
    ap (set caches number) (same ∙ is)
    ∙ set-get_or caches number tree
    ∙ sym (ap (with_change caches number path change) (slice_get_read caches (length caches) number tree refl inside is) ∙ ap (with_cache caches number) refused)

-- a bind that wasn't written to has the tree that was mounted
pub bind_tree-mounted : (sight : SightValue) (owns : List (Option TreeMap)) (number : ℕ) (bind : RunBind) (own : Option TreeMap) → owns ≡ sight.own → number < length owns → own ≡ get_or owns number own → own ≡ None → bind_tree sight number bind ≡ bind.tree
bind_tree-mounted sight owns number bind own same inside is none =
    ap (λ all. tree_or_mounted (slice_get all number) bind) (sym same)
    ∙ ap (λ found. tree_or_mounted found bind) (slice_get_read owns (length owns) number own refl inside is ∙ ap Some none)

-- nor has a bind beyond those of a sight another one
pub bind_tree-beyond : (sight : SightValue) (owns : List (Option TreeMap)) (number : ℕ) (bind : RunBind) → owns ≡ sight.own → length owns ≤ number → bind_tree sight number bind ≡ bind.tree
bind_tree-beyond sight owns number bind same past =
    ap (λ all. tree_or_mounted (slice_get all number) bind) (sym same)
    ∙ ap (λ found. tree_or_mounted found bind) (slice_get_past owns number past)
