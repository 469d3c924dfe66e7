use Rattle.std.proofs.Common.{◌≡◌, ◌++◌, drop, map}
use Rattle.instructions.specs.Arg.{argument_cut}
use Rattle.instructions.specs.PrivateLent.{lent_arguments, lent_texts}
use Rattle.instructions.proofs.arg.argument_cuts.Given as goal

abbrev pub invariant-loop-word : goal.invariant-loop-word
invariant-loop-word l = lent_arguments l.cuts.items ++ map argument_cut (lent_texts (drop l.word-index l.words)) ≡ map argument_cut (lent_texts l.words)
