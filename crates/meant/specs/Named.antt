-- What is said of a stage or an image that there isn't (own).
use Rattle.std.specs.Prelude.{◌&&◌, ◌++◌, ◌-◌, ◌==◌, ℕ, Bool, not, List, [], ◌∷◌, Option, codes, filter, length, nat_le, option_map, take, if◌then◌else◌}
use Rattle.std.specs.List.{find, list_any}
use Rattle.std.specs.Option.{option_or}
use Rattle.sentences.specs.declared.message.Message.{Message}
use Rattle.meant.specs.Begun.{stages_in, ended_stages, is_unfinished}
use Rattle.meant.specs.Escapes.{is_whole}
use Rattle.meant.specs.Said.{said_near}
use Rattle.meant.specs.Sources.{sources_in, is_astray}

-- names, each with a comma after it
abbrev pub listed : List (List ℕ) → List ℕ
listed [] = []
listed (name ∷ names) = name ++ (codes ", " ++ listed names)

-- the most names that are listed
abbrev pub most_listed : ℕ
most_listed = 16

-- what helps against a name that there isn't: the first ones that there are, if there is any, and another way
abbrev pub listed_help : List (List ℕ) → List ℕ → List ℕ
listed_help names other = if length names == 0 then other
    else codes "write " ++ (listed (take most_listed names) ++ (codes "or " ++ other))

-- those of some names that stand on their lines whole
abbrev pub whole_names : List (List ℕ) → List (List ℕ)
whole_names names = filter is_whole names

-- what is said of a target that is none of these stages: the nearest of them may have been meant
abbrev pub missing_target : List (List ℕ) → List ℕ → Message
missing_target names target = said_near (codes "there is no stage " ++ target) target names (listed_help names (codes "count the stages from 0"))

-- the same of a file, by the stages of its lines
abbrev pub target_among : List ℕ → List (List ℕ) → Message
target_among target lines = missing_target (whole_names (stages_in lines)) target

-- the same if there is a target
abbrev pub target_message : Option (List ℕ) → List (List ℕ) → Option Message
target_message target lines = option_map (λ it. target_among it lines) target

-- the most images with which a name on a line is compared
abbrev pub most_compared_images : ℕ
most_compared_images = 64

-- the most lines of a file on which names of stages and images are compared with others
abbrev pub most_compared_lines : ℕ
most_compared_lines = 512

-- so few images and lines that a name on each line may be compared with all others
abbrev pub are_few : ℕ → ℕ → Bool
are_few images lines = nat_le images most_compared_images && nat_le lines most_compared_lines

-- what helps against a name that leads to none of these stages and images
abbrev pub packing_help : List (List ℕ) → List ℕ → List ℕ
packing_help names name = listed_help names (codes "pack the image by --image " ++ (name ++ codes "=FILE"))

-- what is said of a name that leads to none of these stages and images, each of which stands on its line whole: the nearest of them may have been meant
abbrev pub missing_among : List ℕ → List (List ℕ) → Message
missing_among name names =
    said_near (codes "there is no image " ++ (name ++ codes ", and no stage of this name above")) name names (packing_help names name)

-- the same of any of these names
abbrev pub missing_source : List ℕ → List (List ℕ) → Message
missing_source name names = missing_among name (whole_names names)

-- the name that a line asks for and that leads to none of these stages and images: `base`, which it asks for once its variables have their values, if that is
-- known, or the first one that is written so
abbrev pub astray : Option (List ℕ) → List (List ℕ) → List (List ℕ) → List ℕ → Option (List ℕ)
astray base stages images line = option_or base (find (is_astray stages images) (sources_in line))

-- what is said of it beside these stages
abbrev pub source_among : List (List ℕ) → Option (List ℕ) → List (List ℕ) → List ℕ → Option Message
source_among images base stages line = option_map (λ name. missing_source name (stages ++ images)) (astray base stages images line)

-- the same on the line of this number of a file, beside the stages that end above it. If a FROM above it may go on in the next line, a name that leads to its
-- stage would be taken for one that leads nowhere, so none but `base` is known then, and no other name is near
unfoldable pub source_message : List (List ℕ) → Option (List ℕ) → List (List ℕ) → ℕ → List ℕ → Option Message
source_message images base lines number line =
    if are_few (length images) (length lines) && not (list_any is_unfinished (take (number - 1) lines))
    then source_among images base (ended_stages (take number lines)) line else option_map (λ name. missing_source name []) base
