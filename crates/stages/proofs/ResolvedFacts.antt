-- What a file's instructions are resolved to is a table.
use Rattle.std.proofs.Common.{◌≡◌, ℕ, Bool, true, false, List, [], ◌∷◌, ◌++◌, Option, Some, None, refl, sym, ap, ◌∙◌, subst, if◌then◌else◌}
use Rattle.std.specs.Prelude.{Ok}
use Rattle.std.specs.List.{All}
use Rattle.std.proofs.lemmas.List.{append-nil, append_assoc}
use Rattle.plain.specs.declared.refusal.Code.TheVariants.{R05}
use Rattle.expand.specs.declared.reason.Reason.TheVariants.{Coded}
use Rattle.expand.specs.declared.reason.Rejection.{Rejection}
use Rattle.instructions.specs.Instruction.{Instruction}
use Rattle.scopes.specs.Evaluate.{Values}
use Rattle.dockerfile.specs.Dockerfile.{IsDockerfile}
use Rattle.stages.specs.declared.resolving.Draft.{Draft}
use Rattle.stages.specs.Naming.{Known}
use Rattle.stages.specs.Before.{stage_names, outer_scope}
use Rattle.stages.specs.Due.{reason_after}
use Rattle.stages.specs.Table.{TableValue, stages_of, IsTable, NamesKnown}
use Rattle.stages.specs.Resolved.{target_of, first_refusal, are_arguments, refusal_of, unless_refused, with_target, resolved}
use Rattle.stages.specs.PrivateResolving.{draft_after, IsDraft}
use Rattle.stages.specs.PrivateTable.{table_by}
use Rattle.stages.proofs.DraftFacts.{draft_first, draft_step, due_same}
use Rattle.stages.proofs.WholeFacts.{reported_none, table_whole, names_known}

-- where no line of some instructions is refused, all of them are gone through
gone_through : (known : Known) (args : Values) (done rest : List Instruction) (draft : Draft) → IsDraft known args done draft → first_refusal known args done rest ≡ None
    → (last : Draft) × IsDraft known args (done ++ rest) last
gone_through known args done [] draft of clear = (draft, subst (λ is. IsDraft known args is draft) (sym (append-nil done)) of)
gone_through known args done (i ∷ rest) draft of clear =
    let reported = reported_none i.line (reason_after known args done i.kind) (first_refusal known args (done ++ i ∷ []) rest) clear in
    let next = draft_after known args draft i in
    let after = draft_step known args done i draft next of (sym (due_same known args done draft i of) ∙ reported.0) refl in
    let more = gone_through known args (done ++ i ∷ []) rest next after reported.1 in
    (more.0, subst (λ is. IsDraft known args is more.0) (append_assoc done (i ∷ []) rest) more.1)

abbrev no_draft : Draft
no_draft = record { outer = []; names = []; stages = []; last = None }

-- a table of stages, where nothing of its file is refused
record IsResolvedTo (known : Known) (args : Values) (target : Option (List ℕ)) (is : List Instruction) (table : TableValue) : Type 0 where
  number : ℕ
  found : target_of (stage_names is) target ≡ Some number
  other : are_arguments is ≡ false
  clear : first_refusal known args [] is ≡ None
  made : table_by (outer_scope args is) (stages_of known args is) number ≡ table

unrefused : (refusal : Option Rejection) (made table : TableValue) → unless_refused refusal made ≡ Ok table → (refusal ≡ None) × (made ≡ table)
unrefused None made table e = (refl, cc)
unrefused (Some refusal) made table e = absurd cc

nothing_due : (all : Bool) (refusal : Option Rejection) → (if all then Some (record { reason = Coded R05; line = 1 }) else refusal) ≡ None → (all ≡ false) × (refusal ≡ None)
nothing_due true refusal e = absurd cc
nothing_due false refusal e = (refl, e)

by_target : (known : Known) (args : Values) (target : Option (List ℕ)) (is : List Instruction) (table : TableValue) (o : Option ℕ) → target_of (stage_names is) target ≡ o
    → with_target known args is o ≡ Ok table → IsResolvedTo known args target is table
by_target known args target is table None found e = absurd cc
by_target known args target is table (Some number) found e =
    let both = unrefused (refusal_of known args is) (table_by (outer_scope args is) (stages_of known args is) number) table e in
    let due = nothing_due (are_arguments is) (first_refusal known args [] is) both.0 in
    record { number = number; found = found; other = due.0; clear = due.1; made = both.1 }

resolved_to : (known : Known) (args : Values) (target : Option (List ℕ)) (is : List Instruction) (table : TableValue) → resolved known args target is ≡ Ok table
    → IsResolvedTo known args target is table
unfolding resolved
resolved_to known args target is table e = by_target known args target is table (target_of (stage_names is) target) refl e

pub resolved_table : (known : Known) (args : Values) (target : Option (List ℕ)) (is : List Instruction) (table : TableValue) → IsDockerfile is
    → resolved known args target is ≡ Ok table → IsTable table
resolved_table known args target is table file e =
    let to = resolved_to known args target is table e in
    let last = gone_through known args [] is no_draft (draft_first known args no_draft refl refl refl refl) to.clear in
    let whole = table_whole known args target is last.0 (stages_of known args is) to.number file to.found to.other to.clear last.1 (sym last.1.stages) in
    subst IsTable (ap (λ outer. table_by outer (stages_of known args is) to.number) last.1.outer ∙ to.made) whole

pub resolved_known : (known : Known) (args : Values) (target : Option (List ℕ)) (is : List Instruction) (table : TableValue) → resolved known args target is ≡ Ok table
    → All (NamesKnown known) table.stages
resolved_known known args target is table e =
    let to = resolved_to known args target is table e in
    subst (λ (t : TableValue). All (NamesKnown known) t.stages) to.made (names_known known args is)
