use Rattle.std.proofs.Common.{◌≡◌, ◌++◌, drop}
use Rattle.exported.specs.Chains.{chain_actions}
use Rattle.exported.proofs.chains.chain_actions.Given as goal

-- the copies so far, and those of what is left
abbrev pub invariant-loop-number : goal.invariant-loop-number
invariant-loop-number l = l.actions ++ chain_actions l.trees l.number (drop l.number l.digests) ≡ chain_actions l.trees 0 l.digests
