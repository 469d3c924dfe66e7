-- The scope before a line of a needed stage is what is kept of the history of its chain of bases.
use Rattle.std.specs.Prelude.{◌≡◌, ◌<◌, ℕ, zero, suc, Bool, List, [], ◌∷◌, ◌++◌, Option, Some, None, Ok, Contains, length, slice_get, slice_index_or, refl}
use Rattle.std.specs.FinMap.{get}
use Rattle.std.proofs.Common.{sym, ◌∙◌, ap, subst, arith}
use Rattle.std.proofs.lemmas.Option.{slice_get_within, slice_get-get_or, get_or_from_slice_get}
use Rattle.llb.specs.declared.op.Source.{Source}
use Rattle.llb.specs.declared.op.Source.TheVariants.{Scratch, Context, Image}
use Rattle.plans.specs.Images.{ImagesValue}
use Rattle.plans.specs.declared.images.Image as image
use Rattle.rows.specs.declared.row.Origin.{Origin}
use Rattle.rows.specs.declared.row.Origin.TheVariants.{Source as SourceOf, Stage as StageOf}
use Rattle.instructions.specs.declared.instruction.InstructionKind.{InstructionKind}
use Rattle.instructions.specs.declared.instruction.InstructionKind.TheVariants.{From, Arg, Env, Label, Expose, User, Workdir, StopSignal, Volume, Shell, Cmd, Entrypoint, Run, Copy}
use Rattle.scopes.specs.Evaluate.{Values}
use Rattle.scopes.specs.History.{ScopeLine, sets, declares, said, history}
use Rattle.scopes.specs.Scope.{kept, run_env, value_in}
use Rattle.scopes.specs.declared.declaration.Declaration.{Declaration}
use Rattle.scopes.proofs.HistoryLemmas.{said-agree}
use Rattle.scopes.proofs.ScopeLemmas.{value_in-kept, kept-append, run_env-kept}
use Rattle.stages.specs.Needed.{stage_origins, AreNeeded}
use Rattle.stages.specs.Table.{TableValue, IsTable, IsBefore}
use Rattle.stages.specs.declared.stage.ResolvedInstruction.{ResolvedInstruction}
use Rattle.stages.specs.declared.stage.ResolvedStage.{ResolvedStage}
use Rattle.imageconfig.specs.declared.config.Config.{Config}
use Rattle.evaluation.specs.Chain.{IsChain, line_of, scope_lines, chain_lines, found_says, source_says, chain_history}
use Rattle.evaluation.specs.Instruction.{after}
use Rattle.evaluation.specs.Reached.{ComesTo}
use Rattle.evaluation.specs.Stages.{next_instruction, instructions_from, begun}
use Rattle.evaluation.specs.State.{found_state, ended_state, source_state, start}
use Rattle.evaluation.specs.declared.stage.Progress.{Progress}
use Rattle.evaluation.specs.declared.state.State.{State}
use Rattle.evaluation.proofs.EndFacts.{end_there, some_same, comes_stage}
use Rattle.evaluation.proofs.FoldFacts.{went}
use Rattle.evaluation.proofs.NeededFacts.{named_marked}
use Rattle.evaluation.proofs.ReachedFacts.{same_ok, next_made}

-- one instruction

line_kept : (args outer : Values) (scope above : List Declaration) (line : ScopeLine) → scope ≡ kept above
    → kept (scope ++ said (value_in scope) args outer line) ≡ kept (history args outer above (line ∷ []))
line_kept args outer scope above line is =
    let same = said-agree (value_in (kept above)) (value_in above) args outer outer (value_in-kept above) (λ n. refl) line in
    ap (λ (ds : List Declaration). kept (ds ++ said (value_in ds) args outer line)) is
    ∙ (ap (λ (ds : List Declaration). kept (kept above ++ ds)) same ∙ kept-append above (said (value_in above) args outer line))

kind_kept : (args outer : Values) (s : State) (kind : InstructionKind) (above : List Declaration) → s.scope ≡ kept above
    → (after args outer s kind).scope ≡ kept (history args outer above (line_of kind))
kind_kept args outer s (From image name) above is = is
kind_kept args outer s (Arg arguments) above is = line_kept args outer s.scope above (declares arguments) is
kind_kept args outer s (Env assignments) above is = line_kept args outer s.scope above (sets assignments) is
kind_kept args outer s (Label labels) above is = is
kind_kept args outer s (Expose ports) above is = is
kind_kept args outer s (User user) above is = is
kind_kept args outer s (Workdir path) above is = is
kind_kept args outer s (StopSignal signal) above is = is
kind_kept args outer s (Volume paths) above is = is
kind_kept args outer s (Shell words) above is = is
kind_kept args outer s (Cmd command) above is = is
kind_kept args outer s (Entrypoint command) above is = is
kind_kept args outer s (Run mounts command) above is = is
kind_kept args outer s (Copy sources destination flags) above is = is

-- the instructions of a stage

history_then : (args outer : Values) (above : List Declaration) (first rest : List ScopeLine) → history args outer above (first ++ rest) ≡ history args outer (history args outer above first) rest
history_then args outer above [] rest = refl
history_then args outer above (line ∷ first) rest = history_then args outer (above ++ said (value_in above) args outer line) first rest

through_kept : (args outer : Values) (rs : List ResolvedInstruction) (p q : Progress) (above : List Declaration) → instructions_from args outer (Ok p) rs ≡ Ok q → p.state.scope ≡ kept above
    → q.state.scope ≡ kept (history args outer above (scope_lines rs))
through_kept args outer [] p q above h is = ap (λ (x : Progress). x.state.scope) (sym (same_ok p q h)) ∙ is
through_kept args outer (r ∷ rs) p q above h is =
    let step = went (next_instruction args outer) (next_instruction args outer p r) rs q h in
    let kind = r.instruction.kind in
    let made = next_made args outer p step.next r step.is in
    let here : step.next.state.scope ≡ kept (history args outer above (line_of kind)) =
    ap (λ (x : Progress). x.state.scope) (sym made) ∙ kind_kept args outer p.state kind above is in
    through_kept args outer rs step.next q (history args outer above (line_of kind)) step.on here
    ∙ ap kept (sym (history_then args outer above (line_of kind) (scope_lines rs)))

-- what a stage begins with

none_kept : [] ≡ kept []
unfolding kept
none_kept = refl

found_kept : (found : Option (image.Image Config)) → (found_state found).scope ≡ kept (found_says found)
found_kept None = none_kept
found_kept (Some found) = refl

source_kept : (images : ImagesValue Config) (source : Source) → (source_state images source).scope ≡ kept (source_says images source)
source_kept images Scratch = none_kept
source_kept images Context = none_kept
source_kept images (Image name) = found_kept (get images name)

-- a chain

base_named : (stage : ResolvedStage) (other : ℕ) → stage.base ≡ StageOf other → Contains (stage_origins stage) (StageOf other)
base_named stage other e = (0, omega arith, e)

shorter : (n m k : ℕ) → n ≡ m → k < m → k < n
shorter n m k same lower = omega (arith, same, lower)

pub chain_scope : (args : Values) (images : ImagesValue Config) (needed : List Bool) (table : TableValue) → IsTable table → AreNeeded table.stages table.target needed
    → (below : List ResolvedStage) (source : Source) (number : ℕ) (stage : ResolvedStage) (before : List ResolvedInstruction) (state : State) → slice_get table.stages number ≡ Some stage
    → IsChain table.stages stage below source → ComesTo args images needed table number before state
    → state.scope ≡ kept (chain_history args (value_in table.outer) images source below before)
chain_scope args images needed table is are [] source number stage before state there chain comes =
    let outer = value_in table.outer in
    let base : comes.stage.base ≡ SourceOf source = ap (λ (s : ResolvedStage). s.base) (comes_stage args images needed table number before state stage comes there) ∙ chain in
    let first = begun images comes.walk comes.stage in
    let begins : first.state.scope ≡ kept (source_says images source) =
    ap (λ (o : Origin). (start images comes.walk.states o).scope) base ∙ source_kept images source in
    ap (λ (s : State). s.scope) (sym comes.is) ∙ through_kept args outer before first comes.progress (source_says images source) comes.went begins
chain_scope args images needed table is are (base ∷ below) source number stage before state there chain comes =
    let outer = value_in table.outer in
    let other = chain.0.0 in
    let same = comes_stage args images needed table number before state stage comes there in
    let named : comes.stage.base ≡ StageOf other = ap (λ (s : ResolvedStage). s.base) same ∙ chain.0.1 in
    let lower : other < number = subst (IsBefore number) chain.0.1 (is.each number stage there).base in
    let at = base_named stage other chain.0.1 in
    let marked = named_marked table.stages table.target needed number stage are there comes.marked other at in
    let in_time = shorter (length comes.earlier) number other comes.at lower in
    let ended = end_there args images needed table comes.earlier (comes.stage ∷ comes.later) comes.walk other comes.stages comes.walked in_time marked in
    let is_base : ended.stage ≡ base = some_same ended.stage base (sym ended.stage_there ∙ chain.0.2) in
    let says = chain_scope args images needed table is are below source other base ended.stage.instructions ended.state chain.0.2 chain.1 ended.comes in
    let first = begun images comes.walk comes.stage in
    let above = chain_history args outer images source below base.instructions in
    let begins : first.state.scope ≡ kept above =
    ap (λ (o : Origin). (start images comes.walk.states o).scope) named
    ∙ (ap (λ (o : Option State). (ended_state o).scope) (get_or_from_slice_get comes.walk.states other (Some ended.state) None ended.there)
    ∙ (says ∙ ap (λ (s : ResolvedStage). kept (chain_history args outer images source below s.instructions)) is_base)) in
    ap (λ (s : State). s.scope) (sym comes.is)
    ∙ (through_kept args outer before first comes.progress above comes.went begins
    ∙ ap kept (sym (history_then args outer (source_says images source) (chain_lines below ++ scope_lines base.instructions) (scope_lines before))))

pub chain_values : (args : Values) (images : ImagesValue Config) (needed : List Bool) (table : TableValue) → IsTable table → AreNeeded table.stages table.target needed
    → (below : List ResolvedStage) (source : Source) (number : ℕ) (stage : ResolvedStage) (before : List ResolvedInstruction) (state : State) → slice_get table.stages number ≡ Some stage
    → IsChain table.stages stage below source → ComesTo args images needed table number before state
    → (name : List ℕ) → value_in state.scope name ≡ value_in (chain_history args (value_in table.outer) images source below before) name
chain_values args images needed table is are below source number stage before state there chain comes name =
    ap (λ (ds : List Declaration). value_in ds name) (chain_scope args images needed table is are below source number stage before state there chain comes)
    ∙ value_in-kept (chain_history args (value_in table.outer) images source below before) name

pub chain_environment : (args : Values) (images : ImagesValue Config) (needed : List Bool) (table : TableValue) → IsTable table → AreNeeded table.stages table.target needed
    → (below : List ResolvedStage) (source : Source) (number : ℕ) (stage : ResolvedStage) (before : List ResolvedInstruction) (state : State) → slice_get table.stages number ≡ Some stage
    → IsChain table.stages stage below source → ComesTo args images needed table number before state
    → run_env state.scope ≡ run_env (chain_history args (value_in table.outer) images source below before)
chain_environment args images needed table is are below source number stage before state there chain comes =
    ap run_env (chain_scope args images needed table is are below source number stage before state there chain comes)
    ∙ run_env-kept (chain_history args (value_in table.outer) images source below before)

-- each stage of a table has one

pub record Chain (stages : List ResolvedStage) (stage : ResolvedStage) : Type 0 where
  pub below : List ResolvedStage
  pub source : Source
  pub is : IsChain stages stage below source

chain_by : (table : TableValue) → IsTable table → (bound number : ℕ) (stage : ResolvedStage) (base : Origin) → number < bound → stage.base ≡ base → slice_get table.stages number ≡ Some stage → Chain table.stages stage
chain_by table is zero number stage base less at there = absurd (omega (arith, less))
chain_by table is (suc bound) number stage (SourceOf source) less at there = record { below = []; source = source; is = at }
chain_by table is (suc bound) number stage (StageOf other) less at there =
    let lower : other < number = subst (IsBefore number) at (is.each number stage there).base in
    let within : number < length table.stages = slice_get_within table.stages number stage there in
    let base = slice_index_or table.stages other stage in
    let found : slice_get table.stages other ≡ Some base = slice_get-get_or table.stages other stage (omega (arith, lower, within)) in
    let rest = chain_by table is bound other base base.base (omega (arith, less, lower)) refl found in
    record { below = base ∷ rest.below; source = rest.source; is = ((other, at, found), rest.is) }

pub has_chain : (table : TableValue) → IsTable table → (number : ℕ) (stage : ResolvedStage) → slice_get table.stages number ≡ Some stage
    → (below : List ResolvedStage) × (source : Source) × IsChain table.stages stage below source
has_chain table is number stage there =
    let chain = chain_by table is (suc number) number stage stage.base (omega arith) refl there in
    (chain.below, chain.source, chain.is)
