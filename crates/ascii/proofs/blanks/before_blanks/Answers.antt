use Rattle.std.proofs.Common.{◌≡◌, ℕ, ◌≤◌, ◌-◌, take, sym, ◌∙◌, refl, ap, subst, List, arith}
use Rattle.std.proofs.lemmas.Str.{IsCharBoundary-before_ascii}
use Rattle.ascii.specs.Blanks.{before_blanks}
use Rattle.ascii.proofs.BlankLaws.{blank_is_ascii, before_blanks-step, before_blanks-stop}
use Rattle.ascii.proofs.blanks.before_blanks.Goals as goal
use Rattle.ascii.proofs.blanks.before_blanks.Goals.{then-loop-end-test+else-is_blank, else-loop-end-test}

at_zero : (n : ℕ) → n ≤ 0 → n ≡ 0
at_zero n h = omega arith

pub loop-end-preserved : goal.loop-end-preserved
loop-end-preserved c = record {
  cut = IsCharBoundary-before_ascii _ _ (omega (arith, c.loop-end.invariant.cut)) (blank_is_ascii _ (sym c.if-is_blank.ensures));
  same = before_blanks-step _ c.loop-end.end _ (omega arith) (omega (arith, c.loop-end.invariant.cut)) (sym c.if-is_blank.ensures) ∙ c.loop-end.invariant.same;
}

trims : (bytes text part : List ℕ) (end : ℕ) → bytes ≡ text → part ≡ take (end - 0) text → before_blanks (take end bytes) ≡ before_blanks bytes → before_blanks (take end bytes) ≡ take end bytes → part ≡ before_blanks text
trims bytes text part end b p same stop = let e : take (end - 0) text ≡ take end text = ap (λ n. take n text) (omega arith) in cc

stops_at_none : (bytes : List ℕ) (end : ℕ) → end ≤ 0 → before_blanks (take end bytes) ≡ take end bytes
stops_at_none bytes end h = let P : ℕ → Type 0 = λ n. before_blanks (take n bytes) ≡ take n bytes in subst P (sym (at_zero end h)) refl

pub returns : goal.returns
returns c =
    let stop : before_blanks (take c.loop-end.end c.as_bytes-bytes.result.now) ≡ take c.loop-end.end c.as_bytes-bytes.result.now = elim c.loop-end-test.branch [
      | then-loop-end-test+else-is_blank w ↦ before_blanks-stop c.as_bytes-bytes.result.now c.loop-end.end (c.loop-end.end - 1) (omega arith) (omega (arith, c.loop-end.invariant.cut)) (sym w.if-is_blank.ensures)
      | else-loop-end-test w ↦ stops_at_none c.as_bytes-bytes.result.now c.loop-end.end (omega arith)
    ] in
    trims c.as_bytes-bytes.result.now c.args.text.now c.range.result.now c.loop-end.end c.as_bytes-bytes.ensures.value c.range.ensures.value c.loop-end.invariant.same stop
