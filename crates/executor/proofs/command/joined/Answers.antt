use Rattle.std.proofs.Common.{◌≡◌, [], ◌∙◌}
use Rattle.executor.proofs.JoinLemmas.{join_with_byte-found}
use Rattle.executor.proofs.command.joined.Goals as goal

pub returns : goal.returns
returns c =
    let empty : c.new-bytes.result.items ≡ [] = c.new-bytes.ensures.items in
    let start = c.in_ok-extend_from_slice.ensures.items in
    let first = c.as_bytes.ensures.value in
    c.from_vec-2.ensures ∙ join_with_byte-found c.args.words.now _ _ _ _ c.in-len1-up.len_at_least (rw empty at start ∙ first) c.loop-word-test.false c.loop-word.invariant
