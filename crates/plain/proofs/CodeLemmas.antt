-- A code's number in two digits is what `{:02}` prints of it.
use Rattle.std.specs.Prelude.{◌≡◌, ◌+◌, ◌-◌, ◌^◌, ◌/◌, ◌%◌, [], ◌∷◌, refl}
use Rattle.std.specs.Fmt.{styled_decimal, format_spec, padded_integral, char_count, digits}
use Rattle.plain.specs.Codes.{number_of}
use Rattle.plain.specs.declared.refusal.Code.{Code}
use Rattle.plain.specs.declared.refusal.Code.TheVariants.{R01, R02, R03, R04, R05, R06, R07, R08, R09, R10, R11, R12, R13, R14, R15, R16, R17, R18, R19, R20}

pub two_digits : (code : Code) → styled_decimal (format_spec 32 0 4 2 (2 ^ 64 - 1)) (number_of code) ≡ (48 + number_of code / 10) ∷ ((48 + number_of code % 10) ∷ [])
unfolding padded_integral char_count digits
two_digits R01 = refl
two_digits R02 = refl
two_digits R03 = refl
two_digits R04 = refl
two_digits R05 = refl
two_digits R06 = refl
two_digits R07 = refl
two_digits R08 = refl
two_digits R09 = refl
two_digits R10 = refl
two_digits R11 = refl
two_digits R12 = refl
two_digits R13 = refl
two_digits R14 = refl
two_digits R15 = refl
two_digits R16 = refl
two_digits R17 = refl
two_digits R18 = refl
two_digits R19 = refl
two_digits R20 = refl
