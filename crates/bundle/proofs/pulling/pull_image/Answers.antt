use Rattle.std.proofs.Common.{◌≡◌, Some, None, option_map, ap, ◌∙◌, arith, rules}
use Rattle.json.specs.Json.{read_key}
use Rattle.json.proofs.Grammar.{left, read_key-shorter, skip_value-shorter}
use Rattle.serde_json.specs.Data.{no_members, put}
use Rattle.borrowed.proofs.PulledFacts.{begins, goes_on, ends, object_is_next}
use Rattle.bundle.proofs.pulling.pull_image.Goals as goal

pub loop-found-init : goal.loop-found-init
loop-found-init g c = (no_members, begins c.in_ok-inner.inner c.open_object.new.reader, c.none-found.ensures)

pub loop-found-smaller : goal.loop-found-smaller
loop-found-smaller g c =
    let key : read_key c.loop-found.reader ≡ Some (Some c.in-Some.key.now, c.next_key.new.reader) = c.in_ok-key.ensures ∙ ap (λ k. Some (option_map (λ k. k.now) k, c.next_key.new.reader)) c.in-Some.is in
    let next = c.in_ok-pull.ensures.1 in
    omega (arith, read_key-shorter _ _ _ key, skip_value-shorter c.in_ok-inner.inner _ _ (ap left next.1))

pub loop-found-preserved : goal.loop-found-preserved
loop-found-preserved g c =
    let members = c.loop-found.invariant.0 in
    let key : read_key c.loop-found.reader ≡ Some (Some c.in-Some.key.now, c.next_key.new.reader) = c.in_ok-key.ensures ∙ ap (λ k. Some (option_map (λ k. k.now) k, c.next_key.new.reader)) c.in-Some.is in
    let pulled = c.in_ok-pull.ensures in (
      put c.in-Some.key.now pulled.0 members,
      goes_on c.in_ok-inner.inner c.open_object.new.reader _ _ _ c.in-Some.key.now pulled.0 members c.loop-found.invariant.1 key pulled.1,
      pulled.2 members c.loop-found.invariant.2,
    )

pub returns : goal.returns
returns g c =
    let members = c.loop-found.invariant.0 in
    let key : read_key c.loop-found.reader ≡ Some (None, c.next_key.new.reader) = search rules in
    let has = ends c.in_ok-inner.inner c.open_object.new.reader _ _ members c.loop-found.invariant.1 key in
    (members, object_is_next c.args.depth c.in_ok-inner.inner _ c.open_object.new.reader _ members c.in_ok-inner.ensures c.in_ok-open_object.ensures has, c.loop-found.invariant.2)
