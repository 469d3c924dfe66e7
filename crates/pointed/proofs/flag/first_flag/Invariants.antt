use Rattle.std.proofs.Common.{◌≡◌, [], ◌∷◌}
use Rattle.pointed.specs.Flag.{first_flag, is_about}
use Rattle.pointed.proofs.FirstFacts.{searched}
use Rattle.pointed.proofs.flag.first_flag.Given as goal

abbrev pub invariant-loop-at : goal.invariant-loop-at
invariant-loop-at l =
    searched (λ begun flag. is_about l.code l.subject begun (flag ∷ [])) l.flags l.at ≡ first_flag l.code l.subject l.flags
