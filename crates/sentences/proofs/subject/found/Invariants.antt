use Rattle.std.proofs.Common.{◌≡◌, drop}
use Rattle.std.specs.List.{find}
use Rattle.std.specs.Str.{str_eq_ignore_ascii_case}
use Rattle.sentences.specs.Subject.{name_of, found}
use Rattle.sentences.proofs.subject.found.Given as goal

abbrev pub invariant-loop-subject : goal.invariant-loop-subject
invariant-loop-subject l = find (λ subject. str_eq_ignore_ascii_case l.name (name_of subject)) (drop l.subject-index l.subject-items) ≡ found l.name
