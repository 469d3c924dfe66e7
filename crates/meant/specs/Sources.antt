-- The names by which a line takes stages and images, as they are written on it (own).
use Rattle.std.specs.Prelude.{◌&&◌, ◌||◌, ◌==◌, ℕ, Bool, not, List, [], ◌∷◌, Option, Some, None, bytes_eq, codes, if◌then◌else◌}
use Rattle.std.specs.List.{filter_map, list_any, slice_split}
use Rattle.std.specs.Option.{option_and_then, option_or}
use Rattle.std.specs.Str.{all_ascii_digits, str_eq_ignore_ascii_case}
use Rattle.ascii.specs.Pieces.{first_piece, behind_piece, pieces}
use Rattle.words.specs.Pairs.{pair}
use Rattle.meant.specs.Begun.{begins_stage}
use Rattle.meant.specs.Escapes.{may_escape}

-- the value that a text gives to a name: `x` of `name=x`
unfoldable pub value_of : List ℕ → List ℕ → Option (List ℕ)
value_of name text = option_and_then (λ cut. if bytes_eq cut.0 name then Some cut.1 else None) (pair text)

-- the first value of `from` among the parts of a mount
abbrev pub first_source : List (List ℕ) → Option (List ℕ)
first_source [] = None
first_source (part ∷ parts) = option_or (value_of (codes "from") part) (first_source parts)

-- the same of a mount as it is written: its parts stand between commas (Dockerfile reference, RUN --mount)
abbrev pub mount_source : List ℕ → Option (List ℕ)
mount_source mount = first_source (slice_split (λ c. c == 44) mount)

-- the name by which a word of a line takes a stage or an image: the value of `--from`, or that of `from` in the value of `--mount` (Dockerfile reference,
-- COPY --from and RUN --mount)
unfoldable pub source_in : List ℕ → Option (List ℕ)
source_in word = option_or (value_of (codes "--from") word) (option_and_then mount_source (value_of (codes "--mount") word))

-- the names by which a line takes stages and images: what stands after FROM, and of other lines what their words say
unfoldable pub sources_in : List ℕ → List (List ℕ)
sources_in line = if begins_stage line then first_piece (behind_piece line) ∷ [] else filter_map source_in (pieces line)

-- a character with which a text may say another: `$`, a quote, or one that may be the escape character
abbrev pub is_sign : ℕ → Bool
is_sign c = (c == 36) || ((c == 34) || ((c == 39) || may_escape c))

-- a name stands on a line as it is, and is no number (Dockerfile reference, COPY --from)
abbrev pub is_spelled_out : List ℕ → Bool
is_spelled_out name = not (all_ascii_digits name) && not (list_any is_sign name)

-- a stage of one name is called by another: they are the same but for the case of their letters (Dockerfile reference, FROM; own for the case)
unfoldable pub is_called : List ℕ → List ℕ → Bool
is_called name stage = str_eq_ignore_ascii_case stage name

-- one of these stages is called so
abbrev pub is_stage : List (List ℕ) → List ℕ → Bool
is_stage stages name = list_any (is_called name) stages

-- a name is exactly that of one of these images
abbrev pub is_image : List (List ℕ) → List ℕ → Bool
is_image images name = list_any (λ image. bytes_eq image name) images

-- a name is spelled out, and leads to none of these stages and images
unfoldable pub is_astray : List (List ℕ) → List (List ℕ) → List ℕ → Bool
is_astray stages images name = is_spelled_out name && (not (is_stage stages name) && not (is_image images name))
