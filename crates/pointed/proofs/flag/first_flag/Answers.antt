use Rattle.std.proofs.Common.{◌≡◌, ◌<◌, ◌∙◌, ◌+◌, ◌-◌, ℕ, Bool, true, false, List, [], ◌∷◌, None, length, get_or, take, drop, sym, ap}
use Rattle.plain.specs.declared.refusal.Code.{Code}
use Rattle.words.specs.declared.flag.Flag.{Flag}
use Rattle.sentences.specs.declared.subject.Subject.{Subject}
use Rattle.pointed.specs.Flag.{is_about}
use Rattle.pointed.proofs.FirstFacts.{alone, searched-found, searched-more, searched-none}
use Rattle.pointed.proofs.flag.first_flag.Goals as goal

-- a flag as a default, where a list has one
any : Flag
any = record { name = []; value = None }

abbrev test : Code → Subject → List Flag → Flag → Bool
test code subject begun flag = is_about code subject begun (flag ∷ [])

judged : (code : Code) (subject : Subject) (flags : List Flag) (at : ℕ) (is b : Bool) → at < length flags
    → is ≡ is_about code subject (take (at + 1) flags) (take ((at + 1) - at) (drop at flags)) → is ≡ b
    → test code subject (take (at + 1) flags) (get_or flags at any) ≡ b
judged code subject flags at is b l e f = ap (is_about code subject (take (at + 1) flags)) (sym (alone flags at any l)) ∙ sym e ∙ f

pub loop-at-preserved : goal.loop-at-preserved
loop-at-preserved c =
    let flags = c.args.flags.now in
    let at = c.loop-at.at in
    let tested = judged c.args.code c.args.subject flags at c.in_ok-about.about false c.loop-at-test.true c.in_ok-about.ensures c.if-about.false in
    sym (searched-more (test c.args.code c.args.subject) flags at any c.loop-at-test.true tested) ∙ c.loop-at.invariant

pub returns-then-about : goal.returns-then-about
returns-then-about c =
    let flags = c.args.flags.now in
    let at = c.loop-at.at in
    let tested = judged c.args.code c.args.subject flags at c.in_ok-about.about true c.loop-at-test.true c.in_ok-about.ensures c.if-about.true in
    sym (searched-found (test c.args.code c.args.subject) flags at any c.loop-at-test.true tested) ∙ c.loop-at.invariant

pub returns : goal.returns
returns c = sym (searched-none (test c.args.code c.args.subject) c.args.flags.now c.loop-at.at c.loop-at-test.false) ∙ c.loop-at.invariant
