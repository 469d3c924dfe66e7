use Rattle.std.proofs.Common.{◌≡◌, ◌∙◌, length, rules}
use Rattle.llb.proofs.IndexKept.{open_index}
use Rattle.llb.proofs.index.Index.open.Goals as goal

pub returns-in_ok-self-clause-index : goal.returns-in_ok-self-clause-index
returns-in_ok-self-clause-index c =
    let empty : length c.args.self.now.ends.items ≡ 0 = search rules in
    let none = c.requires.closed empty in
    open_index _ 4096 none (c.requires.beside ∙ none) (c.in_ok-self.ensures.items_if_clones_equal (λ y e. e))
