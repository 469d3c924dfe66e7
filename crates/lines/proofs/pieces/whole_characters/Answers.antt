use Rattle.std.proofs.Common.{◌≡◌, ◌+◌, ◌-◌, ℕ, List, length, drop, take, sym, ap, ◌∙◌, subst, inr, arith}
use Rattle.std.specs.Prelude.{IsUtf8, None}
use Rattle.std.specs.Str.{IsValidUpTo}
use Rattle.std.specs.Str.Lossy.{utf8_error_len}
use Rattle.std.proofs.lemmas.List.{length-drop, drop-drop, take_all}
use Rattle.lines.specs.PrivateRead.{IsTail}
use Rattle.lines.proofs.Utf8Lemmas.{valid_behind}
use Rattle.lines.proofs.pieces.whole_characters.Goals as goal

pub returns-in-None-clause-whole : goal.returns-in-None-clause-whole
returns-in-None-clause-whole c =
    let bytes = c.args.bytes.now in
    let size = length-drop c.args.valid bytes in
    let new : take (length bytes - c.args.valid) (drop c.args.valid bytes) ≡ drop c.args.valid bytes = take_all (length bytes - c.args.valid) (drop c.args.valid bytes) (omega arith) in
    let n = c.valid_up_to.result in
    let v : IsValidUpTo (drop c.args.valid bytes) n = subst (λ (bs : List ℕ). IsValidUpTo bs n) new (subst (IsValidUpTo (take (length bytes - c.args.valid) (drop c.args.valid bytes))) (sym c.valid_up_to.ensures) c.in-Err.ensures.cases.1) in
    let within = v.short in
    let far : c.args.valid + n - c.args.valid ≡ n = omega arith in
    let none : utf8_error_len (drop n (drop c.args.valid bytes)) ≡ None =
    sym (ap (λ (bs : List ℕ). utf8_error_len (drop n bs)) new) ∙ ap (λ k. utf8_error_len (drop k (take (length bytes - c.args.valid) (drop c.args.valid bytes)))) c.valid_up_to.ensures ∙ sym c.in-Err.ensures.fault ∙ sym c.error_len.ensures ∙ c.in-None.is in (
      omega arith,
      omega arith,
      subst (λ k. IsUtf8 (take k (drop c.args.valid bytes))) (sym far) v.front,
      subst IsTail (drop-drop n c.args.valid bytes) (inr (valid_behind (drop c.args.valid bytes) n v, none)),
    )

pub returns-in-Some-clause-bad : goal.returns-in-Some-clause-bad
returns-in-Some-clause-bad c =
    let bytes = c.args.bytes.now in
    let size = length-drop c.args.valid bytes in
    let new : take (length bytes - c.args.valid) (drop c.args.valid bytes) ≡ drop c.args.valid bytes = take_all (length bytes - c.args.valid) (drop c.args.valid bytes) (omega arith) in
    let n = c.valid_up_to.result in
    let v : IsValidUpTo (drop c.args.valid bytes) n = subst (λ (bs : List ℕ). IsValidUpTo bs n) new (subst (IsValidUpTo (take (length bytes - c.args.valid) (drop c.args.valid bytes))) (sym c.valid_up_to.ensures) c.in-Err.ensures.cases.1) in
    let within = v.short in
    let far : c.args.valid + n - c.args.valid ≡ n = omega arith in (
      omega arith,
      omega arith,
      subst (IsValidUpTo (drop c.args.valid bytes)) (sym far) v,
      (
        c.in-Some.field-0,
        ap utf8_error_len (sym (drop-drop n c.args.valid bytes)) ∙ sym (ap (λ (bs : List ℕ). utf8_error_len (drop n bs)) new)
            ∙ ap (λ k. utf8_error_len (drop k (take (length bytes - c.args.valid) (drop c.args.valid bytes)))) c.valid_up_to.ensures ∙ sym c.in-Err.ensures.fault ∙ sym c.error_len.ensures ∙ c.in-Some.is,
      ),
    )
