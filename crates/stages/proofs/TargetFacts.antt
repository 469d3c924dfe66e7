-- A file's stages with their target, of its stages.
use Rattle.std.proofs.Common.{◌≡◌, ℕ, List, Option, Some, None, length, refl, sym, ap, ◌∙◌, subst, arith}
use Rattle.std.specs.Prelude.{Result, Ok, Err}
use Rattle.plain.specs.declared.refusal.Code.TheVariants.{R13}
use Rattle.plain.specs.declared.fault.Fault.{Fault}
use Rattle.plain.specs.declared.fault.Fault.TheVariants.{Because, Memory}
use Rattle.expand.specs.declared.reason.Reason.TheVariants.{Coded}
use Rattle.expand.specs.declared.reason.Rejection.{Rejection}
use Rattle.instructions.specs.Instruction.{Instruction}
use Rattle.scopes.specs.Evaluate.{Values}
use Rattle.stages.specs.Naming.{Known}
use Rattle.stages.specs.Before.{stage_names}
use Rattle.stages.specs.Table.{StagesValue, TableValue, targeted, stages_in, IsTable, AreStages}
use Rattle.stages.specs.Resolved.{target_of, refusal_of, unless_refused, with_target, resolved, resolved_stages, Returns}
use Rattle.stages.proofs.WholeFacts.{target_within}

ok_is : {X Y : Type 0} (x y : X) (result : Result X Y) → result ≡ Ok x → result ≡ Ok y → x ≡ y
ok_is x y result is_x is_y = cc

err_is : {X Y : Type 0} (x y : Y) (result : Result X Y) → result ≡ Err x → result ≡ Err y → x ≡ y
err_is x y result is_x is_y = cc

ok_err : {X Y : Type 0} (x : X) (y : Y) (result : Result X Y) → result ≡ Ok x → result ≡ Err y → ⊥
ok_err x y result is_x is_y = cc

ok_along : (refusal : Option Rejection) (stages table : StagesValue) (target : ℕ) → unless_refused refusal stages ≡ Ok table
    → unless_refused refusal (targeted stages target) ≡ Ok (targeted table target)
ok_along None stages table target e = ap (λ t. Ok (targeted t target)) (ok_is stages table (unless_refused None stages) refl e)
ok_along (Some refusal) stages table target e = absurd (ok_err table refusal (unless_refused (Some refusal) stages) e refl)

err_along : (refusal : Option Rejection) (stages : StagesValue) (table : TableValue) (told : Rejection) → unless_refused refusal stages ≡ Err told
    → unless_refused refusal table ≡ Err told
err_along None stages table told e = absurd (ok_err stages told (unless_refused None stages) refl e)
err_along (Some refusal) stages table told e = ap (λ r. Err r) (err_is refusal told (unless_refused (Some refusal) stages) refl e)

made_is : (refusal : Option Rejection) (stages table : StagesValue) → unless_refused refusal stages ≡ Ok table → stages ≡ table
made_is None stages table e = ok_is stages table (unless_refused None stages) refl e
made_is (Some refusal) stages table e = absurd (ok_err table refusal (unless_refused (Some refusal) stages) e refl)

stages_are : (known : Known) (args : Values) (is : List Instruction) (table : StagesValue) → resolved_stages known args is ≡ Ok table → stages_in known args is ≡ table
unfolding resolved_stages
stages_are known args is table e = made_is (refusal_of known args is) (stages_in known args is) table e

target_along : (target : Option (List ℕ)) (is slice : List Instruction) (result wanted : Option ℕ) → slice ≡ is
    → result ≡ target_of (stage_names slice) target → result ≡ wanted → target_of (stage_names is) target ≡ wanted
target_along target is slice result wanted same asked is_so = ap (λ js. target_of (stage_names js) target) (sym same) ∙ sym asked ∙ is_so

no_target : (known : Known) (args : Values) (target : Option (List ℕ)) (is : List Instruction) → target_of (stage_names is) target ≡ None
    → resolved known args target is ≡ Err (record { reason = Coded R13; line = 0 })
unfolding resolved
no_target known args target is none = ap (λ o. with_target known args is o) none

pub answers_target : (known : Known) (args : Values) (target : Option (List ℕ)) (is slice : List Instruction) (result : Option ℕ) (fault : Fault Rejection) → slice ≡ is
    → result ≡ target_of (stage_names slice) target → result ≡ None → fault ≡ Because (record { reason = Coded R13; line = 0 })
    → Returns (resolved known args target is) (Err fault)
answers_target known args target is slice result fault same asked none reported =
    subst (λ f. Returns (resolved known args target is) (Err f)) (sym reported)
    (no_target known args target is (target_along target is slice result None same asked none))

targeted_ok : (known : Known) (args : Values) (target : Option (List ℕ)) (is : List Instruction) (number : ℕ) (table : StagesValue)
    → target_of (stage_names is) target ≡ Some number → resolved_stages known args is ≡ Ok table → resolved known args target is ≡ Ok (targeted table number)
unfolding resolved resolved_stages
targeted_ok known args target is number table found e =
    ap (λ o. with_target known args is o) found ∙ ok_along (refusal_of known args is) (stages_in known args is) table number e

targeted_err : (known : Known) (args : Values) (target : Option (List ℕ)) (is : List Instruction) (number : ℕ) (told : Rejection)
    → target_of (stage_names is) target ≡ Some number → resolved_stages known args is ≡ Err told → resolved known args target is ≡ Err told
unfolding resolved resolved_stages
targeted_err known args target is number told found e =
    ap (λ o. with_target known args is o) found
    ∙ err_along (refusal_of known args is) (stages_in known args is) (targeted (stages_in known args is) number) told e

pub answers_ok : (known : Known) (args : Values) (target : Option (List ℕ)) (is slice : List Instruction) (result : Option ℕ) (number : ℕ) (table : StagesValue)
    → slice ≡ is → result ≡ target_of (stage_names slice) target → result ≡ Some number → resolved_stages known args is ≡ Ok table
    → resolved known args target is ≡ Ok (targeted table number)
answers_ok known args target is slice result number table same asked found e =
    targeted_ok known args target is number table (target_along target is slice result (Some number) same asked found) e

pub answers_err : (known : Known) (args : Values) (target : Option (List ℕ)) (is slice : List Instruction) (result : Option ℕ) (number : ℕ) (fault : Fault Rejection)
    → slice ≡ is → result ≡ target_of (stage_names slice) target → result ≡ Some number → Returns {X = StagesValue} (resolved_stages known args is) (Err fault)
    → Returns {X = TableValue} (resolved known args target is) (Err fault)
answers_err known args target is slice result number (Because told) same asked found e =
    targeted_err known args target is number told (target_along target is slice result (Some number) same asked found) e
answers_err known args target is slice result number Memory same asked found e = tt

-- the number is that of one of the stages
pub targeted_table : (known : Known) (args : Values) (target : Option (List ℕ)) (is slice : List Instruction) (result : Option ℕ) (number : ℕ) (table : StagesValue)
    → slice ≡ is → result ≡ target_of (stage_names slice) target → result ≡ Some number → resolved_stages known args is ≡ Ok table → AreStages table
    → IsTable (targeted table number)
targeted_table known args target is slice result number table same asked found e are =
    let names : stage_names is ≡ table.names = ap (λ (t : StagesValue). t.names) (stages_are known args is table e) in
    let long = ap length names ∙ are.named in
    let some = are.some in
    let inside = target_within (stage_names is) target number (omega (arith, some, long)) (target_along target is slice result (Some number) same asked found) in
    are.each number (omega (arith, inside, long))
