-- The environment of a state's configuration is that of its scope: what a stage begins with, and after each instruction.
use Rattle.std.specs.Prelude.{◌≡◌, ◌&&◌, ◌||◌, not, ℕ, zero, suc, Bool, true, false, List, [], ◌∷◌, ◌++◌, map, Option, Some, None, slice_index_or, bytes_eq, refl, if◌then◌else◌}
use Rattle.std.specs.List.{All, list_any, filter_map}
use Rattle.std.specs.FinMap.{get}
use Rattle.std.specs.Cmp.Lexicographic.{nat_list_eq_equiv}
use Rattle.std.proofs.Common.{sym, ◌∙◌, ap, append_assoc}
use Rattle.std.proofs.lemmas.Bool.{true≢false}
use Rattle.std.proofs.lemmas.List.{append-nil}
use Rattle.std.proofs.lemmas.List.Elements.{All-head, All-tail}
use Rattle.plain.specs.declared.variable.Variable.{Variable}
use Rattle.llb.specs.declared.op.Source.{Source}
use Rattle.llb.specs.declared.op.Source.TheVariants.{Scratch, Context, Image}
use Rattle.plans.specs.Images.{ImagesValue}
use Rattle.plans.specs.declared.images.Image as image
use Rattle.rows.specs.declared.row.Origin.{Origin}
use Rattle.rows.specs.declared.row.Origin.TheVariants.{Source as SourceOf, Stage as StageOf}
use Rattle.instructions.specs.declared.instruction.Argument.{Argument}
use Rattle.instructions.specs.declared.instruction.Assignment.{Assignment}
use Rattle.instructions.specs.declared.instruction.InstructionKind.{InstructionKind}
use Rattle.instructions.specs.declared.instruction.InstructionKind.TheVariants.{From, Arg, Env, Label, Expose, User, Workdir, StopSignal, Volume, Shell, Cmd, Entrypoint, Run, Copy}
use Rattle.scopes.specs.Evaluate.{Values, env_line, arg_line, declaration_of}
use Rattle.scopes.specs.Scope.{kept, run_env, value_in, names_differ}
use Rattle.scopes.specs.declared.declaration.Declaration.{Declaration}
use Rattle.scopes.specs.declared.declaration.Declaration.TheVariants.{Env as Set, Arg as Given}
use Rattle.scopes.proofs.Said.{env_said, arg_said, settled}
use Rattle.scopes.proofs.ScopeLemmas.{kept-kept, env_said-kept, row_of, other_row_of, run_env-is}
use Rattle.imageconfig.specs.EnvRows.{env_shown}
use Rattle.imageconfig.specs.Environment.{IsEnvironment, variables_of}
use Rattle.imageconfig.specs.Rows.{Row, names_of, put_row, put_rows}
use Rattle.imageconfig.specs.Steps.{changed}
use Rattle.imageconfig.specs.declared.config.Config.{Config}
use Rattle.evaluation.specs.Instruction.{after}
use Rattle.evaluation.specs.Reached.{HaveEnvironments, HasScopesEnvironment}
use Rattle.evaluation.specs.State.{bare_state, image_state, found_state, ended_state, source_state, start}
use Rattle.evaluation.specs.declared.state.State.{State}

-- the law of a step, as premises
pub record EnvironmentLaws : Type 0 where
  pub env : (before : Values) (config : Config) (ds : List Declaration) (assignments : List Assignment) → env_shown (kept ds) ≡ config.env
      → env_shown (kept (ds ++ env_line before assignments)) ≡ (changed before config (Env assignments)).env
  pub inherited : (ds : List Declaration) (name text : List ℕ) → env_shown (kept (ds ++ Set name text ∷ [])) ≡ put_row (env_shown (kept ds)) name text
  pub arg : (before args outer : Values) (ds : List Declaration) (arguments : List Argument) → env_shown (kept (ds ++ arg_line before args outer arguments)) ≡ env_shown (kept ds)

-- a state's scope is kept, and its configuration has the scope's environment
pub record IsAlike (s : State) : Type 0 where
  pub settled : kept s.scope ≡ s.scope
  pub same : HasScopesEnvironment s

-- one instruction

pub alike_after : EnvironmentLaws → (args outer : Values) (s : State) (kind : InstructionKind) → IsAlike s → IsAlike (after args outer s kind)
alike_after laws args outer s (From image name) is = record { settled = is.settled; same = is.same }
alike_after laws args outer s (Arg arguments) is = record {
  settled = kept-kept (s.scope ++ arg_line (value_in s.scope) args outer arguments);
  same = laws.arg (value_in s.scope) args outer s.scope arguments ∙ (ap env_shown is.settled ∙ is.same);
}
alike_after laws args outer s (Env assignments) is = record {
  settled = kept-kept (s.scope ++ env_line (value_in s.scope) assignments);
  same = laws.env (value_in s.scope) s.config s.scope assignments (ap env_shown is.settled ∙ is.same);
}
alike_after laws args outer s (Label labels) is = record { settled = is.settled; same = is.same }
alike_after laws args outer s (Expose ports) is = record { settled = is.settled; same = is.same }
alike_after laws args outer s (User user) is = record { settled = is.settled; same = is.same }
alike_after laws args outer s (Workdir path) is = record { settled = is.settled; same = is.same }
alike_after laws args outer s (StopSignal signal) is = record { settled = is.settled; same = is.same }
alike_after laws args outer s (Volume paths) is = record { settled = is.settled; same = is.same }
alike_after laws args outer s (Shell words) is = record { settled = is.settled; same = is.same }
alike_after laws args outer s (Cmd command) is = record { settled = is.settled; same = is.same }
alike_after laws args outer s (Entrypoint command) is = record { settled = is.settled; same = is.same }
alike_after laws args outer s (Run mounts command) is = record { settled = is.settled; same = is.same }
alike_after laws args outer s (Copy sources destination flags) is = record { settled = is.settled; same = is.same }

-- rows whose names differ, put one after another

and_first : (a b : Bool) → (a && b) ≡ true → a ≡ true
and_first true b h = refl
and_first false b h = h

and_second : (a b : Bool) → (a && b) ≡ true → b ≡ true
and_second true b h = h
and_second false b h = absurd (true≢false (sym h))

not_off : (b : Bool) → not b ≡ true → b ≡ false
not_off true h = absurd (true≢false (sym h))
not_off false h = refl

or_off : (a b : Bool) → (a || b) ≡ false → b ≡ false
or_off true b h = absurd (true≢false h)
or_off false b h = h

or_off_first : (a b : Bool) → (a || b) ≡ false → a ≡ false
or_off_first true b h = h
or_off_first false b h = refl

apart : (n : List ℕ) (rows : List Row) (row : Row) (more : List Row) → list_any (bytes_eq n) (names_of (rows ++ row ∷ more)) ≡ false → bytes_eq n row.0 ≡ false
apart n [] row more h = or_off_first (bytes_eq n row.0) (list_any (bytes_eq n) (names_of more)) h
apart n (r ∷ rows) row more h = apart n rows row more (or_off (bytes_eq n r.0) (list_any (bytes_eq n) (names_of (rows ++ row ∷ more))) h)

put_new : (rows : List Row) (row : Row) (more : List Row) → names_differ (names_of (rows ++ row ∷ more)) ≡ true → put_row rows row.0 row.1 ≡ rows ++ row ∷ []
put_new [] row more h = refl
put_new (r ∷ rows) row more h =
    let others = list_any (bytes_eq r.0) (names_of (rows ++ row ∷ more)) in
    let rest = names_differ (names_of (rows ++ row ∷ more)) in
    let off : bytes_eq row.0 r.0 ≡ false =
    nat_list_eq_equiv.symm row.0 r.0 ∙ apart r.0 rows row more (not_off others (and_first (not others) rest h)) in
    ap (λ (b : Bool). if b then (r.0, row.1) ∷ rows else r ∷ put_row rows row.0 row.1) off
    ∙ ap (λ (rs : List Row). r ∷ rs) (put_new rows row more (and_second (not others) rest h))

put_differing : (rows more : List Row) → names_differ (names_of (rows ++ more)) ≡ true → put_rows rows more ≡ rows ++ more
put_differing rows [] h = sym (append-nil rows)
put_differing rows (row ∷ more) h =
    ap (λ (rs : List Row). put_rows rs more) (put_new rows row more h)
    ∙ (put_differing (rows ++ row ∷ []) more (ap (λ (rs : List Row). names_differ (names_of rs)) (append_assoc rows (row ∷ []) more) ∙ h)
    ∙ append_assoc rows (row ∷ []) more)

-- what a stage begins with

inherited_all : EnvironmentLaws → (ds : List Declaration) (rows : List Row)
    → env_shown (kept (ds ++ map declaration_of (variables_of rows))) ≡ put_rows (env_shown (kept ds)) rows
inherited_all laws ds [] = ap (λ (es : List Declaration). env_shown (kept es)) (append-nil ds)
inherited_all laws ds (row ∷ rows) =
    ap (λ (es : List Declaration). env_shown (kept es)) (sym (append_assoc ds (Set row.0 row.1 ∷ []) (map declaration_of (variables_of rows))))
    ∙ (inherited_all laws (ds ++ Set row.0 row.1 ∷ []) rows ∙ ap (λ (rs : List Row). put_rows rs rows) (laws.inherited ds row.0 row.1))

none_shown : env_shown (kept []) ≡ []
unfolding kept
none_shown = refl

none_kept : kept [] ≡ []
unfolding kept
none_kept = refl

bare_alike : IsAlike bare_state
bare_alike = record { settled = none_kept; same = refl }

image_alike : EnvironmentLaws → (config : Config) → IsEnvironment config.env → IsAlike (image_state config)
image_alike laws config is = record {
  settled = kept-kept (map declaration_of (variables_of config.env));
  same = inherited_all laws [] config.env ∙ (ap (λ (rs : List Row). put_rows rs config.env) none_shown ∙ put_differing [] config.env is.differ);
}

found_alike : EnvironmentLaws → (found : Option (image.Image Config)) → ((one : image.Image Config) → found ≡ Some one → IsEnvironment one.config.env) → IsAlike (found_state found)
found_alike laws None are = bare_alike
found_alike laws (Some one) are = image_alike laws one.config (are one refl)

source_alike : EnvironmentLaws → (images : ImagesValue Config) (source : Source) → HaveEnvironments images → IsAlike (source_state images source)
source_alike laws images Scratch are = bare_alike
source_alike laws images Context are = bare_alike
source_alike laws images (Image name) are = found_alike laws (get images name) (are name)

abbrev pub IsEndAlike : Option State → Type 0
IsEndAlike None = Unit {0}
IsEndAlike (Some s) = IsAlike s

ended_alike : (state : Option State) → IsEndAlike state → IsAlike (ended_state state)
ended_alike None is = bare_alike
ended_alike (Some s) is = record { settled = is.settled; same = is.same }

end_alike : (states : List (Option State)) (number : ℕ) → All IsEndAlike states → IsEndAlike (slice_index_or states number None)
end_alike [] number are = tt
end_alike (state ∷ states) zero are = All-head IsEndAlike state states are
end_alike (state ∷ states) (suc number) are = end_alike states number (All-tail IsEndAlike state states are)

pub start_alike : EnvironmentLaws → (images : ImagesValue Config) (states : List (Option State)) (base : Origin) → HaveEnvironments images → All IsEndAlike states
    → IsAlike (start images states base)
start_alike laws images states (SourceOf source) images_are are = source_alike laws images source images_are
start_alike laws images states (StageOf number) images_are are = ended_alike (slice_index_or states number None) (end_alike states number are)

-- what a RUN sees of ENV

rows_shown : (ds : List Declaration) → filter_map row_of (env_said ds) ≡ variables_of (env_shown ds)
rows_shown [] = refl
rows_shown (Set n text ∷ ds) = ap (λ (vs : List Variable). record { name = n; value = text } ∷ vs) (rows_shown ds)
rows_shown (Given n value ∷ ds) = rows_shown ds

pub run_sees : (s : State) → IsAlike s → (others : List Variable) × (run_env s.scope ≡ variables_of s.config.env ++ others)
run_sees s is =
    let others = filter_map (other_row_of (env_said s.scope)) (settled (arg_said s.scope)) in
    let once : settled (env_said s.scope) ≡ env_said s.scope = sym (env_said-kept s.scope) ∙ ap env_said is.settled in
    let shown : filter_map row_of (settled (env_said s.scope)) ≡ variables_of s.config.env =
    ap (filter_map row_of) once ∙ (rows_shown s.scope ∙ ap variables_of is.same) in
    (others, run_env-is s.scope ∙ ap (λ (vs : List Variable). vs ++ others) shown)
