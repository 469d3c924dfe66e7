use Rattle.std.proofs.Common.{◌≡◌, Some, None, option_map, ap, sym, ◌∙◌, arith, rules}
use Rattle.json.specs.Json.{read_key}
use Rattle.json.proofs.Grammar.{left, read_key-shorter, skip_value-shorter}
use Rattle.serde_json.specs.Data.{object, no_members, put}
use Rattle.strict.specs.Strict.{rows_in}
use Rattle.borrowed.specs.Rows.{owned_rows}
use Rattle.borrowed.proofs.PulledFacts.{begins, goes_on, ends, object_is_next}
use Rattle.borrowed.proofs.RowFacts.{members_in-put}
use Rattle.bundle.specs.Parts.{image_in}
use Rattle.bundle.proofs.pulling.pull_images.Goals as goal

pub loop-images-init : goal.loop-images-init
loop-images-init g c = (no_members, begins c.in_ok-inner.inner c.open_object.new.reader, ap (λ es. Some (owned_rows es)) (sym c.new-images.ensures.empty))

pub loop-images-smaller : goal.loop-images-smaller
loop-images-smaller g c =
    let key : read_key c.loop-images.reader ≡ Some (Some c.in-Some.name.now, c.next_key.new.reader) = c.in_ok-name.ensures ∙ ap (λ k. Some (option_map (λ k. k.now) k, c.next_key.new.reader)) c.in-Some.is in
    let next = c.in_ok-image.ensures.1 in
    omega (arith, read_key-shorter _ _ _ key, skip_value-shorter c.in_ok-inner.inner _ _ (ap left next.1))

pub loop-images-preserved : goal.loop-images-preserved
loop-images-preserved g c =
    let found = c.loop-images.invariant.0 in
    let key : read_key c.loop-images.reader ≡ Some (Some c.in-Some.name.now, c.next_key.new.reader) = c.in_ok-name.ensures ∙ ap (λ k. Some (option_map (λ k. k.now) k, c.next_key.new.reader)) c.in-Some.is in
    let pulled = c.in_ok-image.ensures in (
      put c.in-Some.name.now pulled.0 found,
      goes_on c.in_ok-inner.inner c.open_object.new.reader _ _ _ c.in-Some.name.now pulled.0 found c.loop-images.invariant.1 key pulled.1,
      members_in-put (image_in g.C.FromLentKeyed.reading) found c.loop-images.images.entries c.in-Some.name pulled.0 c.in_ok-image.image c.loop-images.invariant.2 pulled.2 ∙ ap (λ es. Some (owned_rows es)) (sym c.in_ok-insert.ensures.entries),
    )

pub returns : goal.returns
unfolding rows_in
returns g c =
    let found = c.loop-images.invariant.0 in
    let key : read_key c.loop-images.reader ≡ Some (None, c.next_key.new.reader) = search rules in
    let has = ends c.in_ok-inner.inner c.open_object.new.reader _ _ found c.loop-images.invariant.1 key in (
      object found,
      object_is_next c.args.depth c.in_ok-inner.inner _ c.open_object.new.reader _ found c.in_ok-inner.ensures c.in_ok-open_object.ensures has,
      c.loop-images.invariant.2 ∙ ap Some (sym c.in_ok-owned_rows.ensures),
    )
