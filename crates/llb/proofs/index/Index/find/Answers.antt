use Rattle.std.proofs.Common.{◌≡◌, ◌∙◌, ◌-◌, Some, slice_get, ap, sym, refl, arith}
use Rattle.std.specs.Prelude.{get_or, ◌≢◌}
use Rattle.std.proofs.lemmas.List.{get_or_read}
use Rattle.std.proofs.lemmas.Option.{slice_get_read}
use Rattle.llb.proofs.IndexKept.{hash_where, sought_first, sought_next}
use Rattle.llb.proofs.index.Index.find.Goals.{else-index-hash-via-then-index-hash+else-same, else-index-hash-via-else-index-hash}
use Rattle.llb.proofs.index.Index.find.Goals as goal

pub loop-end-init : goal.loop-end-init
loop-end-init c =
    sought_first c.args.self.now c.args.vertices.now c.args.hash c.args.vertex.now c.requires.hash c.requires.index c.requires.indexed c.requires.all
    c.end_of-end.result c.end_of-end.ensures

pub returns-then-same-clause-found : goal.returns-then-same-clause-found
returns-then-same-clause-found c =
    slice_get_read c.args.vertices.now _ (c.loop-end.end - 1) c.index-vertices-at.result refl (omega (arith, c.loop-end-test.true, c.loop-end.invariant.low))
    c.index-vertices-at.is
    ∙ ap Some (c.same.ensures.0 c.if-same.true)

pub loop-end-preserved : goal.loop-end-preserved
loop-end-preserved c =
    let some = c.loop-end-test.true in
    let low = c.loop-end.invariant.low in
    let beside = c.requires.index.beside in
    let all = c.requires.all in
    let is_next : c.index-in-loop-end.result.now ≡ get_or c.args.self.now.befores.items (c.loop-end.end - 1) 0 =
    get_or_read c.args.self.now.befores.items (c.loop-end.end - 1) _ (omega (arith, some, low, beside, all)) c.index-in-loop-end.ensures 0 in
    let value : c.index.result.now ≡ get_or c.args.self.now.hashes.items (c.loop-end.end - 1) 0 =
    get_or_read c.args.self.now.hashes.items (c.loop-end.end - 1) _ (omega (arith, some, low, all)) c.index.ensures 0 in
    let other : slice_get c.args.vertices.now (c.loop-end.end - 1) ≢ Some c.args.vertex.now = elim c.else-index-hash.branch [
      | else-index-hash-via-then-index-hash+else-same w ↦ λ e.
          let read = slice_get_read c.args.vertices.now _ (c.loop-end.end - 1) w.index-vertices-at.result refl
          (omega (arith, c.loop-end-test.true, c.loop-end.invariant.low)) w.index-vertices-at.is in
          let same : w.index-vertices-at.result ≡ c.args.vertex.now =
          (let f : Some w.index-vertices-at.result ≡ Some c.args.vertex.now = sym read ∙ e in cc) in
          let yes = w.same.ensures.1 same in
          let no = w.if-same.false in
          cc
      | else-index-hash-via-else-index-hash w ↦ λ e.
          let of = hash_where c.args.self.now c.args.vertices.now c.args.hash c.args.vertex.now c.requires.hash c.requires.index c.requires.indexed
          c.requires.all (c.loop-end.end - 1) e in
          let no = w.if-index-hash.false in
          absurd (omega (arith, no, value, of))
    ] in
    (sought_next c.args.self.now c.args.vertices.now c.args.hash c.args.vertex.now c.requires.hash c.requires.index c.requires.indexed c.requires.all
    c.loop-end.end (c.loop-end.end - 1) c.index-in-loop-end.result.now c.loop-end.invariant c.loop-end-test.true refl is_next other).1
