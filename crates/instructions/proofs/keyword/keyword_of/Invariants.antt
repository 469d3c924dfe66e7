use Rattle.std.proofs.Common.{◌≡◌, drop}
use Rattle.std.specs.List.{find}
use Rattle.std.specs.Str.{str_eq_ignore_ascii_case}
use Rattle.instructions.specs.Keyword.{name_of, keyword_of}
use Rattle.instructions.proofs.keyword.keyword_of.Given as goal

abbrev pub invariant-loop-keyword : goal.invariant-loop-keyword
invariant-loop-keyword l = find (λ keyword. str_eq_ignore_ascii_case l.name (name_of keyword)) (drop l.keyword-index l.keyword-items) ≡ keyword_of l.name
