-- Laws of the reason that is reported: it is the least of those that there are, and there is none if none is reported.
use Rattle.std.specs.Prelude.{◌≡◌, ◌≤◌, ℕ, Bool, false, List, Option, Some, None, refl}
use Rattle.std.proofs.Common.{sym, ◌∙◌, subst, arith}
use Rattle.std.proofs.lemmas.Bool.{true≢false}
use Rattle.plain.specs.Codes.{number_of}
use Rattle.plain.specs.declared.refusal.Code.{Code}
use Rattle.plain.specs.declared.refusal.Code.TheVariants.{R01, R02, R03, R04, R05, R06, R07, R08, R09, R10, R11, R12, R13, R14, R15, R16, R17, R18, R19, R20}
use Rattle.expand.specs.declared.fault.Unexpanded.{Unexpanded}
use Rattle.instructions.specs.Least.{least, IsLeast}
use Rattle.expand.specs.Reasons.{reason_number}
use Rattle.expand.specs.declared.reason.Reason.{Reason}
use Rattle.expand.specs.declared.reason.Reason.TheVariants.{Coded, Required}
use Rattle.instructions.specs.Reason.{required_in, reason_by, reason, IsReason, IsLeastReason}
use Rattle.instructions.proofs.LeastLaws.{least_is, none_due}

-- R21 comes after all codes
below_21 : (c : Code) → number_of c ≤ 21
below_21 R01 = omega arith
below_21 R02 = omega arith
below_21 R03 = omega arith
below_21 R04 = omega arith
below_21 R05 = omega arith
below_21 R06 = omega arith
below_21 R07 = omega arith
below_21 R08 = omega arith
below_21 R09 = omega arith
below_21 R10 = omega arith
below_21 R11 = omega arith
below_21 R12 = omega arith
below_21 R13 = omega arith
below_21 R14 = omega arith
below_21 R15 = omega arith
below_21 R16 = omega arith
below_21 R17 = omega arith
below_21 R18 = omega arith
below_21 R19 = omega arith
below_21 R20 = omega arith

coded_least : (due : Code → Bool) (fault : Option Unexpanded) (c : Code) → IsLeast due c → IsLeastReason due fault (Coded c)
coded_least due fault c h = (h.0, by)
  where
    by : (other : Reason) → IsReason due fault other → reason_number (Coded c) ≤ reason_number other
    by (Coded d) i = h.1 d i
    by (Required text) i = below_21 c

required_least : (due : Code → Bool) (fault : Option Unexpanded) (text : List ℕ) → ((d : Code) → due d ≡ false) → required_in fault ≡ Some text → IsLeastReason due fault (Required text)
required_least due fault text h i = (i, by)
  where
    by : (other : Reason) → IsReason due fault other → reason_number (Required text) ≤ reason_number other
    by (Coded d) j = absurd (true≢false (sym j ∙ h d))
    by (Required more) j = omega arith

least_by : (due : Code → Bool) (fault : Option Unexpanded) (found : Reason) (o : Option Code) (t : Option (List ℕ)) → least due ≡ o → required_in fault ≡ t → reason_by o t ≡ Some found → IsLeastReason due fault found
least_by due fault found (Some c) t h i e = let same : Coded c ≡ found = cc in subst (λ (r : Reason). IsLeastReason due fault r) same (coded_least due fault c (least_is due c h))
least_by due fault found None (Some text) h i e = let same : Required text ≡ found = cc in subst (λ (r : Reason). IsLeastReason due fault r) same (required_least due fault text (none_due due h) i)
least_by due fault found None None h i e = absurd (cc)

pub reason_is : (due : Code → Bool) (fault : Option Unexpanded) (found : Reason) → reason due fault ≡ Some found → IsLeastReason due fault found
reason_is due fault found e = least_by due fault found (least due) (required_in fault) refl refl e

none_by : (due : Code → Bool) (fault : Option Unexpanded) (o : Option Code) (t : Option (List ℕ)) → least due ≡ o → required_in fault ≡ t → reason_by o t ≡ None → (other : Reason) → IsReason due fault other → ⊥
none_by due fault (Some c) t h i e other j = absurd (cc)
none_by due fault None (Some text) h i e other j = absurd (cc)
none_by due fault None None h i e (Coded d) j = true≢false (sym j ∙ none_due due h d)
none_by due fault None None h i e (Required text) j = let bad : None ≡ Some text = sym i ∙ j in absurd (cc)

pub no_reason : (due : Code → Bool) (fault : Option Unexpanded) → reason due fault ≡ None → (other : Reason) → IsReason due fault other → ⊥
no_reason due fault e other j = none_by due fault (least due) (required_in fault) refl refl e other j
