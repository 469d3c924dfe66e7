use Rattle.std.proofs.Common.{rules, refl, inl, inr, [], ◌++◌, codes}
use Rattle.program.proofs.ending.named_line.Goals as goal
use Rattle.program.proofs.ending.named_line.Goals.{then-not-is_empty+in_ok-push_str+in_ok-push_str-2+in_ok-push_str-3+in_ok-push_str-4, else-not-is_empty}

-- what is told, with what stands before it; nothing where nothing is known
pub returns : goal.returns
returns c = elim c.if-not-is_empty.branch [
  | then-not-is_empty+in_ok-push_str+in_ok-push_str-2+in_ok-push_str-3+in_ok-push_str-4 w ↦ (codes ": " ++ c.args.name.now ++ codes " " ++ c.args.why.now, (inr (c.args.why.now, refl), search rules))
  | else-not-is_empty w ↦ ([], (inl refl, search rules))
]
