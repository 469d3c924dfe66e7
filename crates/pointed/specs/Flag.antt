-- Which flag a fault is about (own).
use Rattle.std.specs.Prelude.{◌==◌, ◌&&◌, if◌then◌else◌, ℕ, Bool, true, false, not, List, [], ◌∷◌, Option, Some, None, is_some, length}
use Rattle.ascii.specs.Pieces.{first_piece, is_filled}
use Rattle.plain.specs.declared.refusal.Code.{Code}
use Rattle.plain.specs.declared.refusal.Code.TheVariants.{R07, R12, R16, R17}
use Rattle.words.specs.Flag.{flags, behind_flags}
use Rattle.words.specs.declared.flag.Flag.{Flag}
use Rattle.options.specs.Copy.{are_copy_flags, copy_flags, has_from}
use Rattle.options.specs.Mount.{are_mount_flags, mounts}
use Rattle.sentences.specs.declared.subject.Subject.{Subject}
use Rattle.sentences.specs.declared.subject.Subject.TheVariants.{Run, Copy}
use Rattle.pointed.specs.First.{first_that}
use Rattle.pointed.specs.Spot.{is_whole}

-- a flag isn't taken by the instruction, or stands there for the second time: of COPY the flags up to it aren't flags of a COPY, of RUN it alone isn't
-- one of a RUN, and no other instruction takes a flag
abbrev pub is_unknown : Subject → List Flag → List Flag → Bool
is_unknown Copy begun alone = not (are_copy_flags begun)
is_unknown Run begun alone = not (are_mount_flags alone)
is_unknown subject begun alone = true

-- a code is about a flag, by the flags up to it and by it alone: R07 if it isn't taken, R12 if it is --from, R16 if its owner or its mode is none, and
-- R17 if it is no mount
abbrev pub is_about : Code → Subject → List Flag → List Flag → Bool
is_about R07 subject begun alone = is_unknown subject begun alone
is_about R12 subject begun alone = has_from alone
is_about R16 subject begun alone = not (is_some (copy_flags alone))
is_about R17 subject begun alone = not (is_some (mounts alone))
is_about code subject begun alone = false

-- the number of the first flag that a code is about
abbrev pub first_flag : Code → Subject → List Flag → Option ℕ
first_flag code subject flags = first_that (λ begun flag. is_about code subject begun (flag ∷ [])) flags

-- these are flags of the instruction of a line: those that COPY takes, those that RUN takes, and of all others none (Dockerfile reference; which: own)
abbrev pub are_flags_of : Subject → List Flag → Bool
are_flags_of Copy flags = are_copy_flags flags
are_flags_of Run flags = are_mount_flags flags
are_flags_of subject flags = length flags == 0

-- a word follows the flags on this line: else the next line may have more of them
abbrev pub is_followed : List ℕ → Bool
is_followed rest = is_filled (first_piece rest) && is_whole (first_piece rest)

-- the number of a flag that is the only one, if a word follows it
abbrev pub only_flag : List Flag → List ℕ → Option ℕ
only_flag (flag ∷ []) rest = if is_followed rest then Some 0 else None
only_flag flags rest = None

-- the number of the flag of a RUN that a code is about: by R12 one of its mounts names no stage and no image, which is known if it has one
abbrev pub run_flag : Code → List Flag → List ℕ → Option ℕ
run_flag R12 flags rest = only_flag flags rest
run_flag code flags rest = first_flag code Run flags

-- the number of the flag that a code is about, of those after the name of a line's instruction
unfoldable pub flag_number : Code → Subject → List ℕ → Option ℕ
flag_number code Run text = run_flag code (flags text) (behind_flags text)
flag_number code subject text = first_flag code subject (flags text)
