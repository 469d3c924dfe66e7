-- What clap's parse makes of the words after `pack`, where it finds no fault in them.
use Rattle.std.proofs.Common.{◌≡◌, ◌||◌, Bool, true, false, not, List, [], ◌∷◌, Some, codes, slice_index_or, bytes_eq, slice_get, is_some, refl}
use Rattle.clap.specs.Words.{Rule, Shape, Text, first_of, new_rule}
use Rattle.clap.specs.Simple.{built, new_shape}
use Rattle.clap.specs.Kinds.{check_kinds, range_kinds}
use Rattle.clap.specs.Faults.{level_fault, set_fault}
use Rattle.clap.specs.Takes.{is_given}
use Rattle.clap.specs.Walk.{finished, nothing_held, reading_by, settled, values_or_missing, walk, without}
use Rattle.clap.specs.declared.parser.matches.ValueSource.TheVariants.{CommandLine}
use Rattle.command.specs.CommandLine.{whole_command}
use Rattle.command.proofs.Kept.{or_else-left, some_kind}
use Rattle.command.proofs.Folders.{Filled, Filled-defaults, Filled-with_values, Filled-without, given_folder}
use Rattle.command.proofs.LeafWalk.{Arguments, Keeps, leaf_holds}

-- `pack` as clap builds it: it takes DIR, its options and `--help`
abbrev pub leaf : Shape
leaf = slice_index_or (built whole_command).subs 2 (new_shape [])

abbrev folder : Rule
folder = slice_index_or leaf.rules 0 (new_rule [])

abbrev file : Rule
file = slice_index_or leaf.rules 1 (new_rule [])

abbrev target : Rule
target = slice_index_or leaf.rules 2 (new_rule [])

abbrev argument : Rule
argument = slice_index_or leaf.rules 3 (new_rule [])

abbrev image : Rule
image = slice_index_or leaf.rules 4 (new_rule [])

abbrev output : Rule
output = slice_index_or leaf.rules 5 (new_rule [])

abbrev ignoring : Rule
ignoring = slice_index_or leaf.rules 6 (new_rule [])

abbrev naming : Rule
naming = slice_index_or leaf.rules 7 (new_rule [])

abbrev arguments : Arguments
arguments = (true, folder) ∷ (true, file) ∷ (true, target) ∷ (true, argument) ∷ (true, image) ∷ (true, output) ∷ (false, ignoring) ∷ (false, naming) ∷ []

use_folder : Keeps Filled folder
use_folder again [] rows e filled = absurd (some_kind _ _ (or_else-left (range_kinds 1 1 0) (set_fault again folder [] rows) e))
use_folder again (v ∷ vs) rows e filled =
    Filled-with_values (codes "DIR") (reading_by folder) CommandLine (v ∷ vs) (without (codes "DIR") rows) (λ _. refl)
    (Filled-without (codes "DIR") rows filled)

-- a use of another option, which has no row of DIR
not_folder : (id : Text) (values : List Text) → bytes_eq id (codes "DIR") ≡ false → bytes_eq id (codes "DIR") ≡ true
    → is_some (slice_get values 0) ≡ true
not_folder id values other same = cc

use_file : Keeps Filled file
use_file again values rows e filled =
    Filled-with_values (codes "file") (reading_by file) CommandLine (values_or_missing file values) (without (codes "file") rows)
    (not_folder (codes "file") _ refl) (Filled-without (codes "file") rows filled)

use_target : Keeps Filled target
use_target again values rows e filled =
    Filled-with_values (codes "target") (reading_by target) CommandLine (values_or_missing target values) (without (codes "target") rows)
    (not_folder (codes "target") _ refl) (Filled-without (codes "target") rows filled)

use_argument : Keeps Filled argument
use_argument again values rows e filled =
    Filled-with_values (codes "build-arg") (reading_by argument) CommandLine (values_or_missing argument values) rows
    (not_folder (codes "build-arg") _ refl) filled

use_image : Keeps Filled image
use_image again values rows e filled =
    Filled-with_values (codes "image") (reading_by image) CommandLine (values_or_missing image values) rows
    (not_folder (codes "image") _ refl) filled

use_output : Keeps Filled output
use_output again values rows e filled =
    Filled-with_values (codes "output") (reading_by output) CommandLine (values_or_missing output values) (without (codes "output") rows)
    (not_folder (codes "output") _ refl) (Filled-without (codes "output") rows filled)

use_ignoring : Keeps Filled ignoring
use_ignoring again values rows e filled =
    Filled-with_values (codes "apply-ignore") (reading_by ignoring) CommandLine (values_or_missing ignoring values) (without (codes "apply-ignore") rows)
    (not_folder (codes "apply-ignore") _ refl) (Filled-without (codes "apply-ignore") rows filled)

use_naming : Keeps Filled naming
use_naming again values rows e filled =
    Filled-with_values (codes "names") (reading_by naming) CommandLine (values_or_missing naming values) (without (codes "names") rows)
    (not_folder (codes "names") _ refl) (Filled-without (codes "names") rows filled)

was_given : (b : Bool) → check_kinds false false (not b || false) ≡ [] → b ≡ true
was_given true e = refl
was_given false e = absurd (some_kind _ _ e)

pub folder_ok : (words : List Text) → level_fault leaf [] nothing_held words false [] ≡ []
    → (text : Text) × (first_of (codes "DIR") (finished leaf.rules (walk leaf.rules [] nothing_held words).held) ≡ Some text)
folder_ok words e =
    let end = (walk leaf.rules [] nothing_held words).held in
    let held = leaf_holds leaf arguments Filled (use_folder, (use_file, (use_target, (use_argument, (use_image, (use_output, (use_ignoring, (use_naming, tt)))))))) words tt e in
    given_folder (finished leaf.rules end) (Filled-defaults leaf.rules (settled leaf.rules end).rows held.0)
    (was_given (is_given (codes "DIR") (finished leaf.rules end)) held.1)
