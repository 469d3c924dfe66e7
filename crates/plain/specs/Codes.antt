-- The codes with which a build's input is refused (own). They are a format: answers name them, as `R07`.
use Rattle.std.specs.Prelude.{ℕ, ◌+◌, ◌/◌, ◌%◌, List, [], ◌∷◌}
use Rattle.plain.specs.declared.refusal.Code.{Code}
use Rattle.plain.specs.declared.refusal.Code.TheVariants.{R01, R02, R03, R04, R05, R06, R07, R08, R09, R10, R11, R12, R13, R14, R15, R16, R17, R18, R19, R20}

-- the number of a refusal's code: that of `R07` is 7 (own)
abbrev pub number_of : Code → ℕ
number_of R01 = 1
number_of R02 = 2
number_of R03 = 3
number_of R04 = 4
number_of R05 = 5
number_of R06 = 6
number_of R07 = 7
number_of R08 = 8
number_of R09 = 9
number_of R10 = 10
number_of R11 = 11
number_of R12 = 12
number_of R13 = 13
number_of R14 = 14
number_of R15 = 15
number_of R16 = 16
number_of R17 = 17
number_of R18 = 18
number_of R19 = 19
number_of R20 = 20

-- the text that names a code: `R` and two digits, as `R07` (own)
abbrev pub code_text : Code → List ℕ
code_text code = 82 ∷ ((48 + number_of code / 10) ∷ ((48 + number_of code % 10) ∷ []))
