use Rattle.std.proofs.Common.{◌≡◌, Some, None, option_map, ap, ◌∙◌, arith, rules}
use Rattle.json.specs.Json.{read_key}
use Rattle.json.proofs.Grammar.{left, read_key-shorter, skip_value-shorter}
use Rattle.serde_json.specs.Data.{no_members, put}
use Rattle.borrowed.proofs.PulledFacts.{begins, goes_on, ends, object_is_next}
use Rattle.entries.proofs.pulling.pull_spelled.Goals as goal

pub loop-key-init : goal.loop-key-init
loop-key-init c = (no_members, begins c.in_ok-inner.inner c.open_object.new.reader, c.none-spelled.ensures)

pub loop-key-smaller : goal.loop-key-smaller
loop-key-smaller c =
    let key : read_key c.loop-key.reader ≡ Some (Some c.in-Some.key.now, c.next_key.new.reader) = c.in_ok-key.ensures ∙ ap (λ k. Some (option_map (λ k. k.now) k, c.next_key.new.reader)) c.in-Some.is in
    let pulled = c.in_ok-pull_key.ensures c.in_ok-inner.inner in
    omega (arith, read_key-shorter _ _ _ key, skip_value-shorter c.in_ok-inner.inner _ _ (ap left pulled.1.1))

pub loop-key-preserved : goal.loop-key-preserved
loop-key-preserved c =
    let found = c.loop-key.invariant.0 in
    let key : read_key c.loop-key.reader ≡ Some (Some c.in-Some.key.now, c.next_key.new.reader) = c.in_ok-key.ensures ∙ ap (λ k. Some (option_map (λ k. k.now) k, c.next_key.new.reader)) c.in-Some.is in
    let pulled = c.in_ok-pull_key.ensures c.in_ok-inner.inner in (
      put c.in-Some.key.now pulled.0 found,
      goes_on c.in_ok-inner.inner c.open_object.new.reader _ _ _ c.in-Some.key.now pulled.0 found c.loop-key.invariant.1 key pulled.1,
      pulled.2 found c.loop-key.invariant.2,
    )

pub returns : goal.returns
returns c =
    let found = c.loop-key.invariant.0 in
    let key : read_key c.loop-key.reader ≡ Some (None, c.next_key.new.reader) = search rules in
    let has = ends c.in_ok-inner.inner c.open_object.new.reader _ _ found c.loop-key.invariant.1 key in
    (found, object_is_next c.args.depth c.in_ok-inner.inner _ c.open_object.new.reader _ found c.in_ok-inner.ensures c.in_ok-open_object.ensures has, c.loop-key.invariant.2)
