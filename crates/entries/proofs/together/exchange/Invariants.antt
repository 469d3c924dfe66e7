use Rattle.std.proofs.Common.{◌≡◌, ℕ, ◌<◌, ◌≤◌, length, get_or}
use Rattle.entries.specs.declared.together.Share.{Share}
use Rattle.entries.specs.declared.together.Block.{Block}
use Rattle.entries.specs.declared.together.TheConstants.{SHARES}
use Rattle.entries.proofs.together.exchange.Given as goal

-- the shares before this place have given their blocks, and those from it on are as they were
abbrev pub invariant-loop-place : goal.invariant-loop-place
invariant-loop-place l = record {
  shares : length l.shares ≡ SHARES;
  blocks : length l.blocks ≡ SHARES;
  walks : (i : ℕ) (d : Share) → i < SHARES → ((get_or l.shares i d).walk ≡ (get_or l.fn.shares i d).walk) × ((get_or l.shares i d).more ≡ (get_or l.fn.shares i d).more);
  given : (i : ℕ) (d : Block) (e : Share) → i < l.place → get_or l.blocks i d ≡ (get_or l.fn.shares i e).block;
  kept : (i : ℕ) (e : Share) → l.place ≤ i → i < SHARES → get_or l.shares i e ≡ get_or l.fn.shares i e;
}
