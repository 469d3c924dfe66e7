use Rattle.std.proofs.Common.{◌≡◌, Some, None, option_map, ap, sym, ◌∙◌, arith, rules}
use Rattle.json.specs.Json.{read_key}
use Rattle.json.proofs.Grammar.{left, read_key-shorter, skip_value-shorter}
use Rattle.serde_json.specs.Data.{object, no_members, put}
use Rattle.strict.specs.Strict.{rows_in}
use Rattle.borrowed.specs.Rows.{owned_rows}
use Rattle.borrowed.proofs.PulledFacts.{begins, goes_on, ends, object_is_next}
use Rattle.borrowed.proofs.RowFacts.{members_in-put}
use Rattle.entries.specs.Listing.{listing_in}
use Rattle.bundle.proofs.pulling.pull_caches.Goals as goal

pub loop-caches-init : goal.loop-caches-init
loop-caches-init g c = (no_members, begins c.in_ok-inner.inner c.open_object.new.reader, ap (λ es. Some (owned_rows es)) (sym c.new-caches.ensures.empty))

pub loop-caches-smaller : goal.loop-caches-smaller
loop-caches-smaller g c =
    let key : read_key c.loop-caches.reader ≡ Some (Some c.in-Some.id.now, c.next_key.new.reader) = c.in_ok-id.ensures ∙ ap (λ k. Some (option_map (λ k. k.now) k, c.next_key.new.reader)) c.in-Some.is in
    let next = c.in_ok-content.ensures.1 in
    omega (arith, read_key-shorter _ _ _ key, skip_value-shorter c.in_ok-inner.inner _ _ (ap left next.1))

pub loop-caches-preserved : goal.loop-caches-preserved
loop-caches-preserved g c =
    let found = c.loop-caches.invariant.0 in
    let key : read_key c.loop-caches.reader ≡ Some (Some c.in-Some.id.now, c.next_key.new.reader) = c.in_ok-id.ensures ∙ ap (λ k. Some (option_map (λ k. k.now) k, c.next_key.new.reader)) c.in-Some.is in
    let pulled = c.in_ok-content.ensures in (
      put c.in-Some.id.now pulled.0 found,
      goes_on c.in_ok-inner.inner c.open_object.new.reader _ _ _ c.in-Some.id.now pulled.0 found c.loop-caches.invariant.1 key pulled.1,
      members_in-put listing_in found c.loop-caches.caches.entries c.in-Some.id pulled.0 c.in_ok-content.content c.loop-caches.invariant.2 pulled.2 ∙ ap (λ es. Some (owned_rows es)) (sym c.in_ok-insert.ensures.entries),
    )

pub returns : goal.returns
unfolding rows_in
returns g c =
    let found = c.loop-caches.invariant.0 in
    let key : read_key c.loop-caches.reader ≡ Some (None, c.next_key.new.reader) = search rules in
    let has = ends c.in_ok-inner.inner c.open_object.new.reader _ _ found c.loop-caches.invariant.1 key in (
      object found,
      object_is_next c.args.depth c.in_ok-inner.inner _ c.open_object.new.reader _ found c.in_ok-inner.ensures c.in_ok-open_object.ensures has,
      c.loop-caches.invariant.2 ∙ ap Some (sym c.in_ok-owned_rows.ensures),
    )
