-- How a fault or a failure is laid out (own).
use denote.Ref.{Bor}
use Rattle.std.specs.Prelude.{◌++◌, ◌-◌, ◌==◌, ℕ, List, Option, Some, None, codes, length, option_map, if◌then◌else◌}
use Rattle.std.specs.Fmt.{decimal}
use Rattle.std.specs.List.{repeat}

-- a margin that is as wide as a number
abbrev pub margin : List ℕ → List ℕ
margin number = repeat (length number) (codes " ")

-- a line after its number, which gets as much room as the widest number beside it
abbrev pub numbered : List ℕ → List ℕ → List ℕ → List ℕ
numbered widest number line = codes "    " ++ (repeat (length widest - length number) (codes " ") ++ (number ++ (codes " | " ++ (line ++ codes "\n"))))

-- a text after a margin that is as wide as the widest number above it
abbrev pub noted : List ℕ → List ℕ → List ℕ
noted widest text = codes "    " ++ (margin widest ++ (codes " | " ++ (text ++ codes "\n")))

-- where a fault or a failure is, its code or its cause, and what is wrong
abbrev pub headed : List ℕ → List ℕ → List ℕ → List ℕ
headed place name wrong = place ++ (codes ": " ++ (name ++ (codes ": " ++ (wrong ++ codes "\n"))))

-- a word that is pointed at: the number of its first byte in its line, counted from 1, and a text
abbrev pub Pointer : Type 0
Pointer = ℕ × List ℕ

-- the same of a text that is lent, if a word is pointed at
abbrev pub pointer_of : Option (ℕ × Bor (List ℕ)) → Option Pointer
pointer_of pointed = option_map (λ it. (it.0, it.1.now)) pointed

-- where in a line a fault is: the column of the word that it is about, if that is known
abbrev pub after_line : Option ℕ → List ℕ
after_line None = codes ""
after_line (Some column) = codes ":" ++ decimal column

-- where a fault is: the file, the line's number, and the column of the word that it is about, if that is known; one of line 0 is about no line
abbrev pub placed : List ℕ → ℕ → Option ℕ → List ℕ
placed file number column = if number == 0 then file else file ++ (codes ":" ++ (decimal number ++ after_line column))
