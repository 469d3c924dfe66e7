-- Lines one after another, up to the first that is refused.
use Rattle.std.specs.Prelude.{◌≡◌, ℕ, List, [], ◌∷◌, ◌++◌, Option, Some, None, Result, Ok, Err, length, refl}
use Rattle.std.proofs.Common.{sym, ◌∙◌, ap, arith, append_assoc}
use Rattle.plain.specs.declared.fault.Fault.{Fault}
use Rattle.plain.specs.declared.fault.Fault.TheVariants.{Because, Memory}
use Rattle.expand.specs.declared.reason.Reason.{Reason}
use Rattle.expand.specs.declared.reason.Rejection.{Rejection}
use Rattle.imageconfig.specs.Stage.{unless_due}
use Rattle.stages.specs.Resolved.{Returns}
use Rattle.evaluation.specs.Refusals.{one_more, all_from}

pub refused_stays : {X P : Type 0} (step : P → X → Result P Rejection) (refusal : Rejection) (xs : List X) → all_from step (Err refusal) xs ≡ Err refusal
refused_stays step refusal [] = refl
refused_stays step refusal (x ∷ xs) = refused_stays step refusal xs

-- how far a loop has come: what was done, what is left, and what there is now
pub record SoFar {X P : Type 0} (step : P → X → Result P Rejection) (first : P) (all rest : List X) (now : P) : Type 0 where
  pub before : List X
  pub split : all ≡ before ++ rest
  pub reached : all_from step (Ok first) before ≡ Ok now
  pub reported : all_from step (Ok now) rest ≡ all_from step (Ok first) all

pub so_far_first : {X P : Type 0} (step : P → X → Result P Rejection) (first : P) (all : List X) → SoFar step first all all first
so_far_first step first all = record { before = []; split = refl; reached = refl; reported = refl }

pub reached_more : {X P : Type 0} (step : P → X → Result P Rejection) (so_far : Result P Rejection) (before : List X) (x : X) (now : P) → all_from step so_far before ≡ Ok now
    → all_from step so_far (before ++ x ∷ []) ≡ step now x
reached_more step so_far [] x now h = ap (λ r. one_more step r x) h
reached_more step so_far (y ∷ ys) x now h = reached_more step (one_more step so_far y) ys x now h

pub so_far_more : {X P : Type 0} (step : P → X → Result P Rejection) (first : P) (all rest left : List X) (x : X) (now more : P)
    → SoFar step first all rest now → rest ≡ x ∷ left → step now x ≡ Ok more → SoFar step first all left more
so_far_more step first all rest left x now more far is made = record {
  before = far.before ++ x ∷ [];
  split = far.split ∙ (ap (λ xs. far.before ++ xs) is ∙ sym (append_assoc far.before (x ∷ []) left));
  reached = reached_more step (Ok first) far.before x now far.reached ∙ made;
  reported = ap (λ r. all_from step r left) (sym made) ∙ (ap (all_from step (Ok now)) (sym is) ∙ far.reported);
}

pub so_far_reported : {X P : Type 0} (step : P → X → Result P Rejection) (first : P) (all rest left : List X) (x : X) (now : P) (fault : Fault Rejection)
    → SoFar step first all rest now → rest ≡ x ∷ left → Returns (step now x) (Err fault) → Returns (all_from step (Ok first) all) (Err fault)
so_far_reported step first all rest left x now (Because refusal) far is reported =
    sym far.reported ∙ (ap (all_from step (Ok now)) is ∙ (ap (λ r. all_from step r left) reported ∙ refused_stays step refusal left))
so_far_reported step first all rest left x now Memory far is reported = tt

pub so_far_all : {X P : Type 0} (step : P → X → Result P Rejection) (first : P) (all rest : List X) (now : P)
    → SoFar step first all rest now → length rest ≡ 0 → all_from step (Ok first) all ≡ Ok now
so_far_all step first all [] now far over = sym far.reported
so_far_all step first all (x ∷ rest) now far over = absurd (omega (arith, over))

-- what went well went well at each step

pub refused_or_ok : {X : Type 0} (refusal : Rejection) (x : X) → Err refusal ≡ Ok x → ⊥
refused_or_ok refusal x e = cc

pub record Went {X P : Type 0} (step : P → X → Result P Rejection) (now : Result P Rejection) (xs : List X) (last : P) : Type 0 where
  pub next : P
  pub is : now ≡ Ok next
  pub on : all_from step (Ok next) xs ≡ Ok last

pub went : {X P : Type 0} (step : P → X → Result P Rejection) (now : Result P Rejection) (xs : List X) (last : P) → all_from step now xs ≡ Ok last → Went step now xs last
went step (Ok next) xs last h = record { next = next; is = refl; on = h }
went step (Err refusal) xs last h = absurd (refused_or_ok refusal last (sym (refused_stays step refusal xs) ∙ h))

pub record NotDue {X : Type 0} (reported : Option Reason) (rest : Result X Rejection) (x : X) : Type 0 where
  pub none : reported ≡ None
  pub after : rest ≡ Ok x

pub not_due : {X : Type 0} (reported : Option Reason) (line : ℕ) (rest : Result X Rejection) (x : X) → unless_due reported line rest ≡ Ok x → NotDue reported rest x
not_due None line rest x h = record { none = refl; after = h }
not_due (Some reported) line rest x h = absurd (refused_or_ok (record { reason = reported; line = line }) x h)
