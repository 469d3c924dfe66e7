-- Writing one value after another.
use Rattle.std.specs.Prelude.{[], ◌++◌}
use Rattle.std.specs.Hash.{HashWrites}
use Rattle.std.specs.List.{concat}
use Rattle.std.proofs.Common.{◌≡◌, ◌∙◌, sym, ap, subst}
use Rattle.std.proofs.lemmas.List.{append-nil, append_assoc}
use Rattle.std.proofs.lemmas.List.Folds.{concat-append}
use Rattle.sha2.specs.declared.Sha256.{Sha256}
use Rattle.sha2.specs.Hashers.{Holds256}
use Rattle.memo.specs.Key.{Takes}

-- what was written in two parts
pub takes_then : (first second third : Sha256) (these those : HashWrites) → Takes first second these → Takes second third those → Takes first third (these ++ those)
takes_then first second third these those this that = record {
  holds = λ message holds.
      let joined : message ++ concat these ++ concat those ≡ message ++ concat (these ++ those) =
      append_assoc message (concat these) (concat those) ∙ ap (λ rest. message ++ rest) (sym (concat-append these those)) in
      subst (Holds256 third) joined (that.holds (message ++ concat these) (this.holds message holds));
}

-- what was written in no part
pub takes_none : (hasher : Sha256) → Takes hasher hasher []
takes_none hasher = record { holds = λ message holds. subst (Holds256 hasher) (sym (append-nil message)) holds }
