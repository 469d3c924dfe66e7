use Rattle.std.proofs.Common.{◌≡◌, ◌≤◌, ◌<◌, ◌+◌, List, ℕ, length, refl, sym, subst, arith}
use Rattle.std.specs.Prelude.{IsUtf8}
use Rattle.std.specs.contracts.alloc.Global.{the_row}
use Rattle.plain.specs.Limits.{most_dockerfile_bytes}
use Rattle.plain.specs.declared.refusal.Code.TheVariants.{R01}
use Rattle.lines.specs.Faults.{refusal}
use Rattle.lines.specs.PrivateScan.{AnswersLast, state_at, block_lines}
use Rattle.lines.specs.PrivateSteps.{after_lines, end_file}
use Rattle.lines.specs.Reader.{IsKeptAs}
use Rattle.lines.specs.Text.{IsShort}
use Rattle.lines.specs.declared.kept.Known.TheVariants.{Fine, Refused, Bad}
use Rattle.lines.specs.declared.line.Line.{Line}
use Rattle.lines.proofs.ReaderLaws.{reads_refused, finish_bad, finish_tail, finish_refused, finish_fine, fine_or, is_fine, tail_counted, fine_last}
use Rattle.lines.proofs.kept.Kept.finish.Goals as goal

pub returns-in-Bad : goal.returns-in-Bad
returns-in-Bad c =
    let kept = c.args.self in
    λ text h.
    let k : IsKeptAs kept text (Bad c.in-Bad.line) = subst (IsKeptAs kept text) c.in-Bad.is h in
    reads_refused (the_row).Denot text c.because-in-Bad.result (refusal R01 c.in-Bad.line) c.because-in-Bad.ensures (finish_bad c.in-Bad.line kept text k.0 k.2)

pub overflow_add-self : goal.overflow_add-self
unfolding most_dockerfile_bytes
overflow_add-self c =
    let kept = c.args.self in
    let l : kept.valid < length kept.bytes.items = omega (arith, kept.bytes.ok.0) in
    let low = tail_counted kept c.requires.0 (fine_or kept c.requires.0 c.requires.1 c.in-Fine.is) l in
    omega arith

pub returns-then-self-len : goal.returns-then-self-len
returns-then-self-len c =
    let kept = c.args.self in
    let l : kept.valid < length kept.bytes.items = omega (arith, kept.bytes.ok.0) in
    λ text h.
    let k = fine_or kept text h c.in-Fine.is in
    reads_refused (the_row).Denot text c.because-then-self-len.result (refusal R01 (kept.count + 1)) c.because-then-self-len.ensures
    (finish_tail kept text k.1.gone k.1.whole k.1.tail (kept.count + 1) k.0 k.1.cut l refl)

pub returns-in-Refused : goal.returns-in-Refused
returns-in-Refused c =
    let kept = c.args.self in
    let l : length kept.bytes.items ≤ kept.valid = omega (arith, kept.bytes.ok.0) in
    λ text h.
    let k : IsKeptAs kept text (Refused c.in-Refused.refusal) = subst (IsKeptAs kept text) c.in-Refused.is h in
    finish_refused c.in-Refused.refusal kept text k.0 k.2 l

pub last_lines-requires : goal.last_lines-requires
last_lines-requires c =
    let kept = c.args.self in
    let l : length kept.bytes.items ≤ kept.valid = omega (arith, kept.bytes.ok.0) in
    let fine : kept.known ≡ Fine = is_fine kept.known c.in-Fine.is c.in_default.not-Refused in
    let k : IsKeptAs kept c.requires.0 Fine = subst (IsKeptAs kept c.requires.0) fine c.requires.1 in
    let last = fine_last kept c.requires.0 k.0 k.2 l in
    record {
      utf8 = subst IsUtf8 (sym c.as_slice.ensures.value) last.0;
      short = subst IsShort (sym c.as_slice.ensures.value) last.1;
      count = last.2;
    }

pub returns : goal.returns
returns c =
    let kept = c.args.self in
    let p = kept.progress in
    let l : length kept.bytes.items ≤ kept.valid = omega (arith, kept.bytes.ok.0) in
    let fine : kept.known ≡ Fine = is_fine kept.known c.in-Fine.is c.in_default.not-Refused in
    λ text h.
    let k : IsKeptAs kept text Fine = subst (IsKeptAs kept text) fine h in
    finish_fine kept text c.last_lines.result k.0 k.2 l
    (subst (λ (bs : List ℕ). AnswersLast kept.lines.items (end_file (after_lines (state_at p.place p.room) (block_lines p.is_first bs))) c.last_lines.result) c.as_slice.ensures.value
    (subst (λ (ls : List Line). AnswersLast ls (end_file (after_lines (state_at p.place p.room) (block_lines p.is_first c.as_slice.result.now))) c.last_lines.result) c.from_vec.ensures c.last_lines.ensures))
