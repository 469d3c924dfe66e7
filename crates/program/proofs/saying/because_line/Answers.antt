use Rattle.std.proofs.Common.{◌≡◌, ◌++◌, ◌∙◌, [], ap, sym, rules, refl, inl, inr, codes}
use Rattle.std.proofs.lemmas.List.{append_assoc, append-nil}
use Rattle.counted.specs.Edges.{line_of}
use Rattle.program.proofs.saying.because_line.Goals as goal
use Rattle.program.proofs.saying.because_line.Goals.{then-not-is_empty+in_ok-push_str+in_ok-push_str-2, else-not-is_empty}

-- why, with what stands before it; nothing where nothing is known
pub returns : goal.returns
returns c = elim c.if-not-is_empty.branch [
  | then-not-is_empty+in_ok-push_str+in_ok-push_str-2 w ↦ (codes ": " ++ c.args.why.now, inr refl, (let left : c.from_string.result ≡ line_of ((c.args.text.now ++ codes ": ") ++ c.args.why.now) = search rules in left ∙ ap line_of (append_assoc c.args.text.now (codes ": ") c.args.why.now)))
  | else-not-is_empty w ↦ ([], inl refl, (let left : c.from_string.result ≡ line_of c.args.text.now = search rules in left ∙ sym (ap line_of (append-nil c.args.text.now))))
]
