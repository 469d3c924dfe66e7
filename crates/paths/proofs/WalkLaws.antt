-- What a walk keeps of the path that it has come to, after each kind of piece, and the bounds that its path has.
use Rattle.std.proofs.Common.{◌≡◌, ◌+◌, ◌-◌, ◌<◌, ◌≤◌, ℕ, true, false, Some, None, nat_lt, List, [], ◌∷◌, ◌++◌, length, take, refl, sym, ◌∙◌, ap, arith, length-append}
use Rattle.std.specs.List.{list_all}
use Rattle.std.proofs.lemmas.List.{take_all, take-take, take-append-le, length-take}
use Rattle.std.proofs.lemmas.Bool.{lt-ltb, le-ltb}
use Rattle.paths.specs.Path.{climbed, IsClean, is_name, are_short}
use Rattle.paths.specs.PrivateWalk.{IsWalk}
use Rattle.paths.specs.Reading.{pieces, walked, limit_of}
use Rattle.paths.specs.declared.fault.PathLimit.TheVariants.{TooDeep, TooLong}
use Rattle.paths.proofs.ReadingLaws.{list_all-take}

-- where nothing is beyond, all is kept
all_kept : (kept : List (List ℕ)) (beyond : ℕ) (p : List (List ℕ)) → IsWalk kept beyond p → length p ≤ 64 → kept ≡ p
all_kept kept beyond p h few = h.first ∙ take_all 64 p few

length_kept : (kept : List (List ℕ)) (beyond : ℕ) (p : List (List ℕ)) → IsWalk kept beyond p → length kept < 64 → length p ≤ 64
length_kept kept beyond p h few = omega (arith, ap length h.first, length-take 64 p)

-- a path of at most 64 components is kept whole
pub walk_start : (p : List (List ℕ)) → length p ≤ 64 → IsWalk p 0 p
walk_start p few = record { first = sym (take_all 64 p few); more = omega arith }

pub walk_up_beyond : (kept : List (List ℕ)) (beyond : ℕ) (p : List (List ℕ)) → 0 < beyond → IsWalk kept beyond p → IsWalk kept (beyond - 1) (climbed p)
walk_up_beyond kept beyond p some h =
    let more = h.more in
    record {
      first = h.first ∙ sym (take-take 64 (length p - 1) p (omega arith));
      more = omega (arith, length-take (length p - 1) p);
    }

pub walk_up : (kept after : List (List ℕ)) (n beyond : ℕ) (p : List (List ℕ)) → after ≡ take (n - 1) kept → n ≡ length kept → beyond ≤ 0 → IsWalk kept beyond p → IsWalk after beyond (climbed p)
walk_up kept after n beyond p shorter_by n_is none h =
    let more = h.more in
    let all = all_kept kept beyond p h (omega arith) in
    let shorter = length-take (length p - 1) p in
    record {
      first = shorter_by ∙ (ap (λ m. take (m - 1) kept) n_is ∙ (ap (λ q. take (length q - 1) q) all ∙ sym (take_all 64 (climbed p) (omega arith))));
      more = omega arith;
    }

pub walk_down : (kept : List (List ℕ)) (beyond : ℕ) (p : List (List ℕ)) (name : List ℕ) → length kept < 64 → IsWalk kept beyond p → IsWalk (kept ++ name ∷ []) beyond (p ++ name ∷ [])
walk_down kept beyond p name few h =
    let more = h.more in
    let long = length-append p (name ∷ []) in
    let all = all_kept kept beyond p h (length_kept kept beyond p h few) in
    let same = ap length all in
    record {
      first = ap (λ q. q ++ name ∷ []) all ∙ sym (take_all 64 (p ++ name ∷ []) (omega arith));
      more = omega arith;
    }

pub walk_down_beyond : (kept : List (List ℕ)) (beyond : ℕ) (p : List (List ℕ)) (name : List ℕ) → 64 ≤ length kept → IsWalk kept beyond p → IsWalk kept (beyond + 1) (p ++ name ∷ [])
walk_down_beyond kept beyond p name full h =
    let more = h.more in
    let long = length-append p (name ∷ []) in
    let most = ap length h.first in
    let cut = length-take 64 p in
    record {
      first = h.first ∙ sym (take-append-le 64 p (name ∷ []) (omega arith));
      more = omega arith;
    }

-- from the path that a walk has come to, the rest of a text leads to where the whole text leads from its start. Each component that
-- was added cost the text a byte
pub record LeadsOn (kept : List (List ℕ)) (beyond : ℕ) (rest : List ℕ) (start : List (List ℕ)) (text : List ℕ) : Type 0 where
  pub at : List (List ℕ)
  pub is : IsWalk kept beyond at
  pub leads : walked at (pieces rest) ≡ walked start (pieces text)
  pub few : length at + length rest ≤ 64 + length text

-- what is told of the path that a walk has come to

pub limit_deep : (kept : List (List ℕ)) (beyond : ℕ) (p : List (List ℕ)) → 0 < beyond → IsWalk kept beyond p → limit_of p ≡ Some TooDeep
limit_deep kept beyond p some h =
    let more = h.more in
    let deep : nat_lt 64 (length p) ≡ true = lt-ltb 64 (length p) (omega arith) in
    rw deep refl

pub limit_long : (kept : List (List ℕ)) (beyond : ℕ) (p : List (List ℕ)) → beyond ≤ 0 → are_short kept ≡ false → IsWalk kept beyond p → limit_of p ≡ Some TooLong
limit_long kept beyond p none long h =
    let more = h.more in
    let few : length p ≤ 64 = omega arith in
    let shallow : nat_lt 64 (length p) ≡ false = le-ltb 64 (length p) few in
    let fit : are_short p ≡ false = ap are_short (sym (all_kept kept beyond p h few)) ∙ long in
    rw (shallow, fit) refl

pub no_limit : (kept : List (List ℕ)) (beyond : ℕ) (p : List (List ℕ)) → beyond ≤ 0 → are_short kept ≡ true → IsWalk kept beyond p → (kept ≡ p) × (limit_of p ≡ None)
no_limit kept beyond p none short h =
    let more = h.more in
    let few : length p ≤ 64 = omega arith in
    let all = all_kept kept beyond p h few in
    let shallow : nat_lt 64 (length p) ≡ false = le-ltb 64 (length p) few in
    let fit : are_short p ≡ true = ap are_short (sym all) ∙ short in
    (all, rw (shallow, fit) refl)

-- what is kept is a front of the path
pub few_kept : (kept : List (List ℕ)) (beyond : ℕ) (p : List (List ℕ)) → IsWalk kept beyond p → length kept ≤ 64
few_kept kept beyond p h = omega (arith, ap length h.first, length-take 64 p)

pub names_kept : (kept : List (List ℕ)) (beyond : ℕ) (p : List (List ℕ)) → IsWalk kept beyond p → list_all is_name p ≡ true → list_all is_name kept ≡ true
names_kept kept beyond p h names = ap (λ q. list_all is_name q) h.first ∙ list_all-take is_name 64 p names

-- a front of a path is a path
pub clean-take : (n : ℕ) (p : List (List ℕ)) → IsClean p → IsClean (take n p)
clean-take n p h = record {
  names = list_all-take is_name n p h.names;
  short = list_all-take _ n p h.short;
  few = omega (arith, length-take n p, h.few);
}
