use Rattle.std.proofs.Common.{◌≡◌, ◌≤◌, ◌+◌, ◌++◌, ℕ, List, take, length, sym, ◌∙◌, subst, arith}
use Rattle.std.specs.Prelude.{true}
use Rattle.std.proofs.lemmas.List.{length-take-le}
use Rattle.std.proofs.lemmas.Result.{IfOk-weaker}
use Rattle.lines.specs.PrivateRead.{IsReadFrom, IsAt, StopsAt}
use Rattle.lines.specs.PrivateScan.{state_at, marks_in}
use Rattle.lines.specs.PrivateSteps.{initial_state}
use Rattle.lines.specs.Reader.{WasReadTo}
use Rattle.lines.specs.declared.scan.Stop.TheVariants as stop
use Rattle.lines.specs.declared.kept.Known.TheVariants.{Fine, Refused}
use Rattle.lines.specs.declared.line.Mark.{Mark}
use Rattle.lines.proofs.KeptLaws.{scan_kept, stopped_on}
use Rattle.lines.proofs.kept.Kept.read_to.Goals as goal

pub returns-in-Ok-clause-ok : goal.returns-in-Ok-clause-ok
returns-in-Ok-clause-ok c =
    let kept = c.args.self.now in
    let p = kept.progress in
    let scan = c.in-Ok.scan in
    let new = c.keep.new.self in
    let bytes = take c.args.valid kept.bytes.items in
    let within = c.requires.within in
    let size : length bytes ≡ c.args.valid = length-take-le c.args.valid kept.bytes.items within.1 in
    let marked : IsAt (state_at p.place p.room) p.is_first kept.marks scan (take c.args.valid c.deref.result.now) c.in-Ok.looked (length (take c.args.valid c.deref.result.now)) =
    subst (λ (ms : List Mark). IsAt (state_at p.place p.room) p.is_first ms scan (take c.args.valid c.deref.result.now) c.in-Ok.looked (length (take c.args.valid c.deref.result.now))) c.as_slice-marks.ensures c.in-Ok.ensures.ok in
    let at : IsAt (state_at p.place p.room) p.is_first kept.marks scan bytes c.in-Ok.looked (length bytes) =
    subst (λ (bs : List ℕ). IsAt (state_at p.place p.room) p.is_first kept.marks scan (take c.args.valid bs) c.in-Ok.looked (length (take c.args.valid bs))) c.deref.ensures.value marked in
    let known : new.known ≡ Fine = c.keep.ensures.same.4 ∙ c.requires.known in
    IfOk-weaker c.keep.result
    (λ start. (start ≡ scan.start) × (new.looked + start ≡ c.in-Ok.looked) × (new.progress ≡ scan.progress) × (new.marks ≡ marks_in scan.marks kept.marks) × (new.lines.items ≡ kept.lines.items ++ scan.lines))
    (λ start. (start ≤ c.args.valid) × ((gone : List ℕ) (own : List ℕ) → IsReadFrom initial_state true kept.lines.items p kept.marks gone own → WasReadTo new gone bytes start new.known))
    (λ start k.
    let all = scan_kept kept new scan bytes c.in-Ok.looked start at k.0 k.1 k.2 k.3 k.4 known in
    (subst (λ n. start ≤ n) size all.0, all.1))
    c.keep.ensures.ok

pub returns-in-Err-Refused-clause-ok : goal.returns-in-Err-Refused-clause-ok
returns-in-Err-Refused-clause-ok c =
    let kept = c.args.self.now in
    let p = kept.progress in
    let new = c.forget.new.self in
    let f = c.in-Err-Refused.refusal in
    let bytes = take c.args.valid kept.bytes.items in
    let within = c.requires.within in
    let size : length bytes ≡ c.args.valid = length-take-le c.args.valid kept.bytes.items within.1 in
    let told : StopsAt (state_at p.place p.room) p.is_first (take c.args.valid c.deref.result.now) (stop.Refused f) =
    subst (StopsAt (state_at p.place p.room) p.is_first (take c.args.valid c.deref.result.now)) c.in-Err-Refused.field-0-is c.in-Err-Refused.ensures.err in
    let stops : StopsAt (state_at p.place p.room) p.is_first bytes (stop.Refused f) =
    subst (λ (bs : List ℕ). StopsAt (state_at p.place p.room) p.is_first (take c.args.valid bs) (stop.Refused f)) c.deref.ensures.value told in (
      omega arith,
      λ gone own h.
          subst (WasReadTo new gone bytes c.args.valid) (sym c.forget.ensures.known)
          (subst (λ n. WasReadTo new gone bytes n (Refused f)) size (stopped_on kept new gone own bytes f h stops c.forget.ensures.looked c.forget.ensures.lines)),
    )
