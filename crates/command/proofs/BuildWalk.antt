-- What clap's parse makes of the words after `build`, where it finds no fault in them.
use Rattle.std.proofs.Common.{◌≡◌, Bool, true, false, cond, List, [], ◌∷◌, refl, sym, subst, codes, fold, slice_index_or, length, pos}
use Rattle.clap.specs.Words.{Row, Rule, Shape, Text, new_rule}
use Rattle.clap.specs.Simple.{built, new_shape}
use Rattle.clap.specs.Kinds.{range_kinds, value_kinds, values_kinds}
use Rattle.clap.specs.Faults.{level_fault, repeat_fault, set_fault, use_fault, values_fault}
use Rattle.clap.specs.Walk.{default_rows, finished, has_row, nothing_held, reading_by, settled, used, values_or_missing, walk, with_default, without}
use Rattle.clap.specs.declared.builder.value_parser.ValueParser.TheVariants as vp
use Rattle.clap.specs.declared.parser.matches.ValueSource.TheVariants.{CommandLine, DefaultValue}
use Rattle.plain.specs.Limits.{most_workers}
use Rattle.command.specs.CommandLine.{default_workers, least_workers, whole_command}
use Rattle.command.proofs.Kept.{or_else-left, or_else-right, passed, some_kind}
use Rattle.command.proofs.LeafWalk.{Arguments, Keeps, leaf_holds}
use Rattle.command.proofs.Rows.{Fine, Fine-with_others, Fine-with_values, Fine-without, HasFine, HasFine-with_values, has_fine, is_worker_text}

-- `build` as clap builds it: it takes `--workers`, the options of a folder, FILE and `--help`
abbrev pub leaf : Shape
leaf = slice_index_or (built whole_command).subs 0 (new_shape [])

abbrev workers : Rule
workers = slice_index_or leaf.rules 0 (new_rule [])

abbrev file : Rule
file = slice_index_or leaf.rules 1 (new_rule [])

abbrev target : Rule
target = slice_index_or leaf.rules 2 (new_rule [])

abbrev argument : Rule
argument = slice_index_or leaf.rules 3 (new_rule [])

abbrev image : Rule
image = slice_index_or leaf.rules 4 (new_rule [])

abbrev bundle : Rule
bundle = slice_index_or leaf.rules 5 (new_rule [])

abbrev help : Rule
help = slice_index_or leaf.rules 6 (new_rule [])

use_workers : (again : Bool) (values : List Text) (rows : List Row) → use_fault again workers values rows ≡ [] → Fine rows
    → Fine (used workers values rows)
use_workers again [] rows e fine = absurd (some_kind _ _ (or_else-left (range_kinds 1 1 0) (set_fault again workers [] rows) e))
use_workers again (v ∷ vs) rows e fine =
    let set = or_else-right (range_kinds 1 1 (length (v ∷ vs))) (set_fault again workers (v ∷ vs) rows) e in
    let all = or_else-right (repeat_fault again workers.id rows) (values_fault workers (v ∷ vs)) set in
    let parser = vp.Signed (pos least_workers) (pos most_workers) in
    let one = or_else-left (value_kinds false parser v) (values_kinds false parser vs) all in
    Fine-with_values CommandLine v vs (without (codes "workers") rows) (passed (is_worker_text v) _ _ one) (Fine-without (codes "workers") rows fine)

use_file : Keeps Fine file
use_file again values rows e fine =
    Fine-with_others (codes "file") (reading_by file) CommandLine (values_or_missing file values) (without (codes "file") rows) refl
    (Fine-without (codes "file") rows fine)

use_target : Keeps Fine target
use_target again values rows e fine =
    Fine-with_others (codes "target") (reading_by target) CommandLine (values_or_missing target values) (without (codes "target") rows) refl
    (Fine-without (codes "target") rows fine)

use_argument : Keeps Fine argument
use_argument again values rows e fine =
    Fine-with_others (codes "build-arg") (reading_by argument) CommandLine (values_or_missing argument values) rows refl fine

use_image : Keeps Fine image
use_image again values rows e fine = Fine-with_others (codes "image") (reading_by image) CommandLine (values_or_missing image values) rows refl fine

use_bundle : Keeps Fine bundle
use_bundle again values rows e fine =
    Fine-with_others (codes "FILE") (reading_by bundle) CommandLine (values_or_missing bundle values) (without (codes "FILE") rows) refl
    (Fine-without (codes "FILE") rows fine)

with_default_ok : (rows : List Row) → Fine rows → HasFine (with_default rows workers)
with_default_ok rows fine = go (has_row (codes "workers") rows) refl
  where
    go : (b : Bool) → has_row (codes "workers") rows ≡ b → HasFine (with_default rows workers)
    go true has = rw has (has_fine rows fine has)
    go false not = rw not (HasFine-with_values DefaultValue default_workers [] rows refl fine)

-- no other argument has a default value
abbrev Plain : List Rule → Type 0
Plain [] = Unit {0}
Plain (rule ∷ rules) = (rule.defaults ≡ []) × Plain rules

HasFine-defaults : (rules : List Rule) (rows : List Row) → Plain rules → HasFine rows → HasFine (fold with_default rows rules)
HasFine-defaults [] rows plain has = has
HasFine-defaults (rule ∷ rules) rows plain has = HasFine-defaults rules (with_default rows rule) plain.1 (go (has_row rule.id rows) rule.defaults plain.0)
  where
    go : (b : Bool) (values : List Text) → values ≡ [] → HasFine (cond b rows (default_rows rule.id (reading_by rule) values rows))
    go true values none = has
    go false values none = subst (λ vs. HasFine (default_rows rule.id (reading_by rule) vs rows)) (sym none) has

pub leaf_ok : (words : List Text) → level_fault leaf [] nothing_held words false [] ≡ []
    → HasFine (finished leaf.rules (walk leaf.rules [] nothing_held words).held)
leaf_ok words e =
    let end = (walk leaf.rules [] nothing_held words).held in
    let arguments : Arguments = (true, workers) ∷ (true, file) ∷ (true, target) ∷ (true, argument) ∷ (true, image) ∷ (true, bundle) ∷ [] in
    let held = leaf_holds leaf arguments Fine (use_workers, (use_file, (use_target, (use_argument, (use_image, (use_bundle, tt)))))) words tt e in
    HasFine-defaults (file ∷ target ∷ argument ∷ image ∷ bundle ∷ help ∷ []) _ (refl, (refl, (refl, (refl, (refl, (refl, tt))))))
    (with_default_ok (settled leaf.rules end).rows held.0)
