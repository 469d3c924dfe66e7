use Rattle.std.proofs.Common.{◌≡◌, ◌∙◌, ◌∷◌, [], Some, ℕ, List, length, slice_get, ap, refl, subst, arith, length-append, rules}
use Rattle.std.proofs.lemmas.Option.{slice_get_read}
use Rattle.llb.proofs.IndexKept.{same_indexed, more_indexed}
use Rattle.llb.proofs.index.Index.enter_rest.Goals as goal

pub loop-alloc-preserved : goal.loop-alloc-preserved
loop-alloc-preserved c =
    let at : c.len-in-loop-alloc.result ≡ length c.loop-alloc.self.hashes.items = search rules in
    let lt = c.loop-alloc-test.true in
    let len : c.len.result ≡ length c.loop-alloc.self.hashes.items = search rules in
    let read = slice_get_read c.args.vertices.now _ c.len-in-loop-alloc.result c.index-vertices-len.result refl (omega (arith, lt, len, at)) c.index-vertices-len.is in
    let there = subst (λ (n : ℕ). slice_get c.args.vertices.now n ≡ Some c.index-vertices-len.result) at read in
    let hashes = c.in_ok-enter.ensures.ok in
    let long = ap (λ (hs : List ℕ). length hs) hashes ∙ length-append c.loop-alloc.self.hashes.items (c.hash_of-hash.result ∷ []) in
    record {
      index = c.in_ok-enter.ensures.index;
      indexed = more_indexed c.args.vertices.now c.loop-alloc.self c.enter.new.self c.index-vertices-len.result c.hash_of-hash.result hashes
          c.loop-alloc.invariant.indexed there c.hash_of-hash.ensures;
      low = omega (arith, lt, len, long);
    }

pub returns-in_err-enter-clause-indexed : goal.returns-in_err-enter-clause-indexed
returns-in_err-enter-clause-indexed c =
    same_indexed c.args.vertices.now c.loop-alloc.self c.enter.new.self c.in_err-enter.ensures.err c.loop-alloc.invariant.indexed
