use Rattle.std.proofs.Common.{◌≡◌, ◌≤◌, ◌+◌, ◌-◌, ℕ, List, take, drop, length, sym, ap, ◌∙◌, subst, refl, arith}
use Rattle.std.specs.Prelude.{IsUtf8}
use Rattle.std.specs.Str.{IsValidUpTo}
use Rattle.std.specs.Str.Lossy.{utf8_error_len}
use Rattle.plain.specs.Limits.{most_dockerfile_bytes}
use Rattle.lines.specs.Reader.{Knows, IsFine}
use Rattle.lines.specs.declared.kept.Kept.{Kept}
use Rattle.lines.proofs.KeptLaws.{feeds}
use Rattle.lines.proofs.LookLaws.{has_cut, HasKept, HasMoved, moves, has_gone, valid_low, count_low, line_low, fine_low, fine_utf8, fine_cut, looked_fine, looked_other, looked_bad}
use Rattle.lines.proofs.kept.Kept.look.Goals as goal
use Rattle.lines.proofs.kept.Kept.look.Goals.{in-Fine+in_ok-start-in-Fine, in_default}

pub whole_characters-requires : goal.whole_characters-requires
whole_characters-requires c =
    let kept = c.args.self.now in
    let k = c.requires.known in
    let low = valid_low kept k.0 k.1 (has_cut kept.known kept k.0 k.1 k.3 c.requires.read) in
    omega (arith, low, ap length c.as_slice.ensures.value)

pub read_to-requires-clause-within : goal.read_to-requires-clause-within
read_to-requires-clause-within c =
    let kept = c.args.self.now in
    let k = c.requires.known in
    let r : IsFine kept k.0 k.1 = subst (Knows kept k.0 k.1) c.in-Fine.is k.3 in
    let h = c.in-Ok.ensures.whole in
    let high : c.in-Ok.valid ≤ length kept.bytes.items = omega (arith, h.1, ap length c.as_slice.ensures.value) in
    (h.0, high, fine_low kept k.0 k.1 r c.in-Ok.valid k.2 high)

pub read_to-requires-clause-utf8 : goal.read_to-requires-clause-utf8
read_to-requires-clause-utf8 c =
    let kept = c.args.self.now in
    let k = c.requires.known in
    let r : IsFine kept k.0 k.1 = subst (Knows kept k.0 k.1) c.in-Fine.is k.3 in
    let h = c.in-Ok.ensures.whole in
    fine_utf8 kept k.0 k.1 r c.in-Ok.valid h.0 (subst (λ (bs : List ℕ). IsUtf8 (take (c.in-Ok.valid - kept.valid) (drop kept.valid bs))) c.as_slice.ensures.value h.2)

pub read_to-requires-clause-cut : goal.read_to-requires-clause-cut
read_to-requires-clause-cut c =
    let kept = c.args.self.now in
    let k = c.requires.known in
    let r : IsFine kept k.0 k.1 = subst (Knows kept k.0 k.1) c.in-Fine.is k.3 in
    let h = c.in-Ok.ensures.whole in
    fine_cut kept k.0 k.1 r c.in-Ok.valid h.0

pub go_to-requires : goal.go_to-requires
go_to-requires c =
    let kept = c.args.self.now in
    let mid = c.match-self.self in
    let k = c.requires.known in
    let n = c.in-Ok.valid in
    let low = count_low kept k.0 k.1 (has_cut kept.known kept k.0 k.1 k.3 c.requires.read) k.2 in
    let h = c.in-Ok.ensures.whole in
    let high : n ≤ length kept.bytes.items = omega (arith, h.1, ap length c.as_slice.ensures.value) in
    elim c.match-self.branch [
      | in-Fine+in_ok-start-in-Fine w ↦
          let same = w.read_to.ensures.same in
          moves kept mid n c.match-self.start h.0 high (subst (λ s. s ≤ n) (sym w.start-is) w.in_ok-start-in-Fine.ensures.ok.0) low
          (subst (HasKept kept) (sym w.self-is) (same.0, same.1, same.2))
      | in_default w ↦
          moves kept mid n c.match-self.start h.0 high (subst (λ s. s ≤ n) (sym w.start-is) (omega arith)) low
          (subst (HasKept kept) (sym w.self-is) (refl, refl, refl))
    ]

pub overflow_cast-line : goal.overflow_cast-line
unfolding most_dockerfile_bytes
overflow_cast-line c =
    let kept = c.args.self.now in
    let k = c.requires.known in
    let bad = c.in-Err.ensures.bad in
    let high : c.in-Err.at ≤ length kept.bytes.items = omega (arith, bad.1, ap length c.as_slice.ensures.value) in
    let low = line_low kept k.0 k.1 c.in-Err.at (has_cut kept.known kept k.0 k.1 k.3 c.requires.read) k.2 high bad.0 in
    let is : c.line_feeds.result ≡ feeds (take (c.in-Err.at - kept.valid) (drop kept.valid kept.bytes.items)) =
    c.line_feeds.ensures ∙ ap (λ (bs : List ℕ). feeds (take (c.in-Err.at - kept.valid) (drop kept.valid bs))) c.deref.ensures.value in
    omega arith

pub overflow_add-line : goal.overflow_add-line
unfolding most_dockerfile_bytes
overflow_add-line c =
    let kept = c.args.self.now in
    let k = c.requires.known in
    let bad = c.in-Err.ensures.bad in
    let high : c.in-Err.at ≤ length kept.bytes.items = omega (arith, bad.1, ap length c.as_slice.ensures.value) in
    let low = line_low kept k.0 k.1 c.in-Err.at (has_cut kept.known kept k.0 k.1 k.3 c.requires.read) k.2 high bad.0 in
    let is : c.line_feeds.result ≡ feeds (take (c.in-Err.at - kept.valid) (drop kept.valid kept.bytes.items)) =
    c.line_feeds.ensures ∙ ap (λ (bs : List ℕ). feeds (take (c.in-Err.at - kept.valid) (drop kept.valid bs))) c.deref.ensures.value in
    omega arith

pub overflow_add-line-in-Err : goal.overflow_add-line-in-Err
unfolding most_dockerfile_bytes
overflow_add-line-in-Err c =
    let kept = c.args.self.now in
    let k = c.requires.known in
    let bad = c.in-Err.ensures.bad in
    let high : c.in-Err.at ≤ length kept.bytes.items = omega (arith, bad.1, ap length c.as_slice.ensures.value) in
    let low = line_low kept k.0 k.1 c.in-Err.at (has_cut kept.known kept k.0 k.1 k.3 c.requires.read) k.2 high bad.0 in
    let is : c.line_feeds.result ≡ feeds (take (c.in-Err.at - kept.valid) (drop kept.valid kept.bytes.items)) =
    c.line_feeds.ensures ∙ ap (λ (bs : List ℕ). feeds (take (c.in-Err.at - kept.valid) (drop kept.valid bs))) c.deref.ensures.value in
    omega arith

pub returns-after-self-clause-ok : goal.returns-after-self-clause-ok
returns-after-self-clause-ok c =
    let kept = c.args.self.now in
    let new = c.go_to.new.self in
    let n = c.in-Ok.valid in
    let same = c.go_to.ensures.same in
    let moved : HasMoved c.match-self.self new n c.match-self.start = (same.1, same.2, same.3, same.4, same.5, c.go_to.ensures.bytes, c.go_to.ensures.valid, c.go_to.ensures.count) in
    λ text piece k.
    elim c.match-self.branch [
      | in-Fine+in_ok-start-in-Fine w ↦
          let mid = w.read_to.new.self in
          let start = w.in_ok-start-in-Fine.start in
          let stays = w.read_to.ensures.same in
          let ok = w.in_ok-start-in-Fine.ensures.ok in
          let there : HasMoved mid new n start = subst (HasMoved mid new n) w.start-is (subst (λ (m : Kept). HasMoved m new n c.match-self.start) w.self-is moved) in
          let gone = has_gone kept mid new n start c.as_slice.result.now c.as_slice.ensures.value c.in-Ok.ensures.whole ok.0 (stays.0, stays.1, stays.2) there in
          looked_fine kept mid new text piece n start k w.in-Fine.is gone ok.1 there
      | in_default w ↦
          let there : HasMoved kept new n n = subst (HasMoved kept new n) w.start-is (subst (λ (m : Kept). HasMoved m new n c.match-self.start) w.self-is moved) in
          let gone = has_gone kept kept new n n c.as_slice.result.now c.as_slice.ensures.value c.in-Ok.ensures.whole (omega arith) (refl, refl, refl) there in
          looked_other kept new text piece n k w.in_default.not-Fine c.requires.read gone there
    ]

pub returns-in-Err-clause-ok : goal.returns-in-Err-clause-ok
returns-in-Err-clause-ok c =
    let kept = c.args.self.now in
    let new : Kept = record c.forget.new.self { bytes = c.new.result } in
    let at = c.in-Err.at in
    let bad = c.in-Err.ensures.bad in
    let line = kept.count + c.line_feeds.result + 1 in
    let is : line ≡ kept.count + feeds (take (at - kept.valid) (drop kept.valid kept.bytes.items)) + 1 =
    ap (λ n. kept.count + n + 1) (c.line_feeds.ensures ∙ ap (λ (bs : List ℕ). feeds (take (at - kept.valid) (drop kept.valid bs))) c.deref.ensures.value) in
    λ text piece k.
    looked_bad kept new text piece (has_cut kept.known kept text piece k c.requires.read) at bad.3.0 line bad.0
    (subst (λ (bs : List ℕ). IsValidUpTo (drop kept.valid bs) (at - kept.valid)) c.as_slice.ensures.value bad.2)
    (ap (λ (bs : List ℕ). utf8_error_len (drop at bs)) (sym c.as_slice.ensures.value) ∙ bad.3.1) is c.forget.ensures.known c.forget.ensures.lines
