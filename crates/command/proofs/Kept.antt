-- A fault list that is empty is empty in each of its parts.
use Rattle.std.proofs.Common.{◌≡◌, Bool, true, false, cond, [], ◌∷◌, refl}
use Rattle.clap.specs.Words.{Kinds}
use Rattle.clap.specs.Kinds.{or_else}
use Rattle.clap.specs.declared.error.kind.ErrorKind.{ErrorKind}

-- a list of one kind or more isn't empty
pub some_kind : (k : ErrorKind) (ks : Kinds) → k ∷ ks ≡ [] → ⊥
some_kind k ks e = cc

pub or_else-left : (a b : Kinds) → or_else a b ≡ [] → a ≡ []
or_else-left [] b e = refl
or_else-left (k ∷ ks) b e = e

pub or_else-right : (a b : Kinds) → or_else a b ≡ [] → b ≡ []
or_else-right [] b e = e
or_else-right (k ∷ ks) b e = absurd (some_kind k ks e)

-- a test that gave no kind passed
pub passed : (b : Bool) (k : ErrorKind) (ks : Kinds) → cond b [] (k ∷ ks) ≡ [] → b ≡ true
passed true k ks e = refl
passed false k ks e = absurd (some_kind k ks e)

-- and one that would give a kind where it passes didn't
pub not_passed : (b : Bool) (k : ErrorKind) (ks : Kinds) → cond b (k ∷ ks) [] ≡ [] → b ≡ false
not_passed true k ks e = absurd (some_kind k ks e)
not_passed false k ks e = refl
