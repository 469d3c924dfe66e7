-- What a bundle is taken from, by the words (own).
use Rattle.std.specs.Prelude.{◌==◌, ◌||◌, Bool, not, List, [], Option, Some, None, is_some, map, length, codes, unwrap_or, option_map, option_and_then, if◌then◌else◌}
use Rattle.std.specs.List.{list_all, position_or_len, before_first, after_first}
use Rattle.clap.specs.Walk.{all_of}
use Rattle.clap.specs.Words.{Row, Text, first_of}
use Rattle.command.specs.declared.task.Choice.{Choice}
use Rattle.command.specs.declared.task.Source.{Source}

-- a text has a `=` (own)
abbrev pub has_equals : Text → Bool
has_equals text = not (position_or_len (λ c. c == 61) text == length text)

-- the two halves of a text `N=V`: what stands before its first `=`, and what stands after it (own)
abbrev pub halves_of : Text → Text × Text
halves_of text = (before_first (λ c. c == 61) text, after_first (λ c. c == 61) text)

-- the texts of an option that may be given again, in the order of the words (own)
abbrev pub all_texts : Text → List Row → List Text
all_texts id rows = unwrap_or (all_of id rows) []

-- the halves of these, if each has a `=` (own)
abbrev pub pairs_of : Text → List Row → Option (List (Text × Text))
pairs_of id rows = if list_all has_equals (all_texts id rows) then Some (map halves_of (all_texts id rows)) else None

-- the build arguments, each a name and a value (own)
abbrev pub arguments_of : List Row → Option (List (Text × Text))
arguments_of rows = pairs_of (codes "build-arg") rows

-- the images, each a name and a file (own)
abbrev pub images_of : List Row → Option (List (Text × Text))
images_of rows = pairs_of (codes "image") rows

-- what is chosen of a folder by the matches, with these build arguments and these images (own)
abbrev pub choice_with : List Row → List (Text × Text) → List (Text × Text) → Choice
choice_with rows args images = record { file = first_of (codes "file") rows; target = first_of (codes "target") rows; args = args; images = images }

-- the same, where each build argument and each image has a `=` (own)
abbrev pub choice_by : List Row → Option (List (Text × Text)) → Option (List (Text × Text)) → Option Choice
choice_by rows args images = option_and_then (λ args. option_map (choice_with rows args) images) args

-- what is chosen of a folder by the matches (own)
abbrev pub choice_of : List Row → Option Choice
choice_of rows = choice_by rows (arguments_of rows) (images_of rows)

-- what is wrong with the first of these options beside a bundle that no folder gives, if one is given (own)
abbrev pub misplaced : Choice → Option Text
misplaced choice =
    if is_some choice.file then Some (codes "--file goes with a folder; the Dockerfile of a bundle stands in it")
    else (if is_some choice.target then Some (codes "--target goes with a folder; the target of a bundle stands in it")
    else (if not (length choice.args == 0) then Some (codes "--build-arg goes with a folder; the build arguments of a bundle stand in it")
    else (if not (length choice.images == 0) then Some (codes "--image goes with a folder; the images of a bundle stand in it") else None)))

-- A bundle of this file or folder, or on standard input where none is named, of which something may be chosen. Of standard input nothing is (own).
abbrev pub source_with : Option Text → Choice → Option Source
source_with place choice = if is_some place || not (is_some (misplaced choice)) then Some (record { place = place; choice = choice }) else None

-- what a bundle is taken from by the matches, where this argument names its file or a folder (own)
abbrev pub source_of : Text → List Row → Option Source
source_of id rows = option_and_then (source_with (first_of id rows)) (choice_of rows)
