-- The names of images, each once, and that a bundle names one list of them.
use Rattle.std.specs.Prelude.{◌≡◌, ◌⊎◌, ◌||◌, ℕ, Bool, true, false, cond, not, List, [], ◌∷◌, ◌++◌, Option, Some, None, bytes_eq, filter, map, refl}
use Rattle.std.specs.FinMap.{get}
use Rattle.std.specs.List.{list_any}
use Rattle.std.proofs.Common.{inl, inr, sym, ap, ◌∙◌, true≢false}
use Rattle.plain.specs.declared.refusal.Refusal.{Refusal}
use Rattle.named.specs.Rows.{has_row}
use Rattle.instructions.specs.Instruction.{Instruction}
use Rattle.scopes.specs.Evaluate.{Values}
use Rattle.dockerfile.specs.Dockerfile.{AreInstructions, IsRefused}
use Rattle.stages.specs.ImageNames.{image_names_of}
use Rattle.stages.specs.declared.image_name.ImageName.{ImageName}
use Rattle.imageconfig.specs.Rows.{add_name}
use Rattle.imageconfig.specs.declared.config.Config.{Config}
use Rattle.bundle.specs.declared.whole.Bundle.{Bundle}
use Rattle.stubs.specs.Naming.{AreNamedIn, AreNamed, is_lacked, AreMissing}

-- ---- each name once

not_true : (b : Bool) → not b ≡ true → b ≡ false
not_true true e = absurd (true≢false (sym e))
not_true false e = refl

not_false : (b : Bool) → not b ≡ false → b ≡ true
not_false true e = refl
not_false false e = absurd (true≢false e)

module _ {V : Type 0} where
  any_named : (rows : List (List ℕ × V)) (name : List ℕ) → has_row name rows ≡ list_any (bytes_eq name) (map (λ row. row.0) rows)
  any_named [] name = refl
  any_named (row ∷ rows) name = ap (λ b. bytes_eq name row.0 || b) (any_named rows name)

  -- names that are those of a set, with one more
  name_added : (rows : List (List ℕ × V)) (name : List ℕ) (once : List (List ℕ)) (b : Bool) → once ≡ map (λ row. row.0) rows → has_row name rows ≡ b
      → add_name once name ≡ cond b once (once ++ name ∷ [])
  name_added rows name once b same is =
      ap (λ there. cond there once (once ++ name ∷ [])) (ap (list_any (bytes_eq name)) same ∙ (sym (any_named rows name) ∙ is))

  -- one that the set hasn't
  pub once_new : (rows : List (List ℕ × V)) (copied again name : List ℕ) (once next : List (List ℕ)) (added : Bool) → copied ≡ name → again ≡ name
      → added ≡ not (has_row copied rows) → added ≡ true → once ≡ map (λ row. row.0) rows → next ≡ once ++ again ∷ [] → next ≡ add_name once name
  once_new rows copied again name once next added is same told fresh_is names pushed =
      let fresh : has_row name rows ≡ false = not_true (has_row name rows) (ap (λ n. not (has_row n rows)) (sym is) ∙ (sym told ∙ fresh_is)) in
      pushed ∙ (ap (λ n. once ++ n ∷ []) same ∙ sym (name_added rows name once false names fresh))

  -- one that it has
  pub once_old : (rows : List (List ℕ × V)) (copied name : List ℕ) (once : List (List ℕ)) (added : Bool) → copied ≡ name
      → added ≡ not (has_row copied rows) → added ≡ false → once ≡ map (λ row. row.0) rows → once ≡ add_name once name
  once_old rows copied name once added is told there_is names =
      let there : has_row name rows ≡ true = not_false (has_row name rows) (ap (λ n. not (has_row n rows)) (sym is) ∙ (sym told ∙ there_is)) in
      sym (name_added rows name once true names there)

-- ---- a bundle names one list, and lacks one list

abbrev pub Reads : Type 0
Reads = (text : List ℕ) → ((found : List Instruction) × AreInstructions text found) ⊎ ((refusal : Refusal) × IsRefused text refusal)

abbrev pub OneText : Type 0
OneText = (text : List ℕ) (found others : List Instruction) → AreInstructions text found → AreInstructions text others → found ≡ others

abbrev pub Apart : Type 0
Apart = (text : List ℕ) (found : List Instruction) (refusal : Refusal) → AreInstructions text found → IsRefused text refusal → ⊥

some_named : (text : List ℕ) (args : Values) → ((found : List Instruction) × AreInstructions text found) ⊎ ((refusal : Refusal) × IsRefused text refusal)
    → (names : List ImageName) × AreNamedIn text args names
some_named text args (inl read) = (image_names_of args read.0, inl (read.0, read.1, refl))
some_named text args (inr told) = ([], inr (told.0, told.1, refl))

one_named : OneText → Apart → (text : List ℕ) (args : Values) (names others : List ImageName) → AreNamedIn text args names → AreNamedIn text args others → names ≡ others
one_named one apart text args names others (inl these) (inl those) =
    these.2 ∙ (ap (image_names_of args) (one text these.0 those.0 these.1 those.1) ∙ sym those.2)
one_named one apart text args names others (inl these) (inr those) = absurd (apart text these.0 those.0 these.1 those.1)
one_named one apart text args names others (inr these) (inl those) = absurd (apart text those.0 these.0 those.1 these.1)
one_named one apart text args names others (inr these) (inr those) = these.2 ∙ sym those.2

pub some_names : Reads → (bundle : Bundle Config) → (names : List ImageName) × AreNamed bundle names
some_names reads bundle = some_named bundle.dockerfile (get bundle.args) (reads bundle.dockerfile)

pub one_names : OneText → Apart → (bundle : Bundle Config) (names others : List ImageName) → AreNamed bundle names → AreNamed bundle others → names ≡ others
one_names one apart bundle names others these those = one_named one apart bundle.dockerfile (get bundle.args) names others these those

pub some_missing : Reads → (bundle : Bundle Config) → (missing : List ImageName) × AreMissing bundle missing
some_missing reads bundle =
    let named = some_names reads bundle in
    (filter (is_lacked bundle.images) named.0, (named.0, named.1, refl))

pub one_missing : OneText → Apart → (bundle : Bundle Config) (missing others : List ImageName) → AreMissing bundle missing → AreMissing bundle others → missing ≡ others
one_missing one apart bundle missing others these those =
    these.2 ∙ (ap (filter (is_lacked bundle.images)) (one_names one apart bundle these.0 those.0 these.1 those.1) ∙ sym those.2)
