use Rattle.std.proofs.Common.{◌≡◌, ◌<◌, ◌+◌, ℕ, List, Option, Some, Bool, false, cond, refl, sym, ◌∙◌, ap, length, drop, get_or}
use Rattle.std.proofs.lemmas.List.{at_drop_all, at_drop_more}
use Rattle.std.specs.List.{find}
use Rattle.std.specs.Str.{str_eq_ignore_ascii_case}
use Rattle.sentences.specs.declared.subject.Subject.{Subject}
use Rattle.sentences.specs.Subject.{named, found, name_of}
use Rattle.sentences.proofs.subject.found.Goals as goal

-- whether an instruction is the one of a name
abbrev is_of : List ℕ → Subject → Bool
is_of name subject = str_eq_ignore_ascii_case name (name_of subject)

-- what is found behind an item that isn't it
past : (p : Subject → Bool) (xs : List Subject) (i : ℕ) (d : Subject) (is : Option Subject)
    → i < length xs → p (get_or xs i d) ≡ false → find p (drop i xs) ≡ is → find p (drop (i + 1) xs) ≡ is
past p xs i d is h other before =
    sym (at_drop_more (find p) xs i d h ∙ ap (λ b. cond b (Some (get_or xs i d)) (find p (drop (i + 1) xs))) other) ∙ before

pub loop-subject-init : goal.loop-subject-init
unfolding found
loop-subject-init c = refl

pub loop-subject-preserved : goal.loop-subject-preserved
loop-subject-preserved c =
    past (is_of c.args.name.now) named c.loop-subject.subject-index _ (found c.args.name.now) c.loop-subject-test.true
    (ap (str_eq_ignore_ascii_case c.args.name.now) (sym c.name.ensures) ∙ sym c.is_same_name.ensures ∙ c.if-is_same_name.false) c.loop-subject.invariant

pub returns : goal.returns
returns c = sym (at_drop_all (find (is_of c.args.name.now)) named c.loop-subject.subject-index c.loop-subject-test.false) ∙ c.loop-subject.invariant
