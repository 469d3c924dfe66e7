use Rattle.std.proofs.Common.{◌≡◌, ◌∙◌, List, ℕ, Bor, IfOk, ap, map, subst}
use Rattle.std.proofs.lemmas.Result.{IfOk-weaker}
use Rattle.std.specs.String.{string_bytes}
use Rattle.plain.specs.declared.refusal.Code.TheVariants.{R04}
use Rattle.sentences.specs.Table.{remedy, sentence}
use Rattle.sentences.specs.declared.subject.Subject.TheVariants.{Other}
use Rattle.meant.specs.Said.{said_near}
use Rattle.meant.proofs.first_word.near_keyword.Goals as goal

pub returns : goal.returns
returns c =
    let word = c.args.word.now in
    let given = map (λ (n : Bor (List ℕ)). n.now) c.keywords.result in
    let wrong = ap (λ (w : List ℕ). said_near w word given c.remedy.result.now) (c.in_ok-wrong.ensures.ok ∙ c.sentence.ensures) in
    let helps = ap (λ (h : List ℕ). said_near (sentence R04 Other) word given h) c.remedy.ensures in
    subst (λ (names : List (List ℕ)). IfOk c.said_near.result (λ message. message ≡ said_near (sentence R04 Other) word names (remedy R04 Other))) c.keywords.ensures
    (IfOk-weaker c.said_near.result (λ message. message ≡ said_near (string_bytes c.in_ok-wrong.wrong) word given c.remedy.result.now)
    (λ message. message ≡ said_near (sentence R04 Other) word given (remedy R04 Other)) (λ message h. h ∙ (wrong ∙ helps)) c.said_near.ensures)
