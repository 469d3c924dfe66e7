-- Actions for which no code is due are well formed.
use Rattle.std.specs.Prelude.{◌≡◌, ◌<◌, ◌+◌, ◌==◌, ◌&&◌, ◌||◌, ℕ, suc, Bool, true, false, not, cond, List, [], ◌∷◌, ◌++◌, map, filter, Option, Some, None, length, bytes_eq, refl, if◌then◌else◌}
use Rattle.std.specs.List.{list_all, list_any, cons_option, count_by}
use Rattle.std.proofs.Common.{sym, ap, ◌∙◌, subst, arith}
use Rattle.std.proofs.Math.Dec.{eqb-suc-zero}
use Rattle.std.proofs.lemmas.Bool.{eq-eqb, not-false, not_from_false, true≢false}
use Rattle.std.proofs.lemmas.List.Sums.{length-filter}
use Rattle.std.proofs.lemmas.List.Folds.{list_all-append}
use Rattle.std.proofs.lemmas.Option.{none-some}
use Rattle.plain.specs.Variable.{names_of}
use Rattle.plain.specs.VariableName.{is_variable_name}
use Rattle.plain.specs.declared.refusal.Code.{Code}
use Rattle.plain.specs.declared.refusal.Code.TheVariants.{R06, R14, R15, R17, R18}
use Rattle.expand.specs.Value.{Parts, value}
use Rattle.expand.specs.Expanding.{unexpanded, valued, is_valued, worse, worst}
use Rattle.expand.specs.declared.fault.Unexpanded.{Unexpanded}
use Rattle.expand.specs.declared.fault.Unexpanded.TheVariants.{TooLong, Required as required}
use Rattle.expand.specs.declared.reason.Reason.TheVariants.{Coded, Required}
use Rattle.expand.proofs.WorseLaws.{worse_none-left, worse_none-right, valued-is}
use Rattle.globs.specs.Glob.{is_malformed}
use Rattle.instructions.specs.Instruction.{IsInstruction, HasWord}
use Rattle.instructions.specs.Least.{least}
use Rattle.instructions.specs.Reason.{is_long, required_in, reason_by, reason}
use Rattle.instructions.specs.declared.instruction.Command.{Command}
use Rattle.instructions.specs.declared.instruction.Command.TheVariants.{Exec as Listed, Shell as Script}
use Rattle.instructions.specs.declared.instruction.InstructionKind.TheVariants.{Run, Copy}
use Rattle.instructions.specs.declared.instruction.Source.{Source}
use Rattle.instructions.specs.declared.instruction.Source.TheVariants.{Files, Document}
use Rattle.llb.specs.declared.op.Bind.{Bind}
use Rattle.llb.specs.WellFormed.{is_environment, is_pattern, inputs_of_copy, is_well_formed_file_source}
use Rattle.options.specs.declared.copy.CopyFlags.{CopyFlags}
use Rattle.options.specs.declared.mount.Mount.{Mount}
use Rattle.options.specs.declared.mount.MountKind.{MountKind}
use Rattle.options.specs.declared.mount.MountKind.TheVariants.{Bind as BindOf, Cache as CacheOf}
use Rattle.paths.specs.Path.{text_of}
use Rattle.paths.proofs.FrontLaws.{both_first, both_second, both_hold}
use Rattle.rows.specs.Rows.{listed}
use Rattle.rows.specs.WellFormed.{IsAction}
use Rattle.rows.specs.declared.row.Origin.{Origin}
use Rattle.runs.specs.Run.{mounts_fit, ids_differ}
use Rattle.runs.specs.declared.run.CacheUse.{CacheUse}
use Rattle.scopes.specs.Scope.{run_env, names_differ, value_in}
use Rattle.scopes.specs.declared.declaration.Declaration.{Declaration}
use Rattle.actions.proofs.LimitFacts.{neither}
use Rattle.actions.specs.Texts.{is_within}
use Rattle.scopes.specs.Evaluate.{Values}
use Rattle.actions.specs.Copy.{file_sources, pattern_fault, document_fault, copy_fault, is_pattern_and, has_far_name, leads_far, origin_for, copied, copy_action, copy_due}
use Rattle.instructions.specs.Command.{words_of}
use Rattle.actions.specs.Run.{target_in, bind_at, binds_of, cache_at, caches_of, known_id, known_ids, targets_in, has_far_folder, is_unreadable, is_bind, run_action, run_due}

some_none : (c : Code) → Some c ≡ None → ⊥
some_none c e = none-some c (sym e)

-- the codes that may be due for a RUN
two_none : (a b : Bool) → (if a then Some R17 else if b then Some R18 else None) ≡ None → (a ≡ false) × (b ≡ false)
two_none true b e = absurd (some_none R17 e)
two_none false true e = absurd (some_none R18 e)
two_none false false e = (refl, refl)

-- the codes that may be due for a COPY
four_none : (a b c d : Bool) → (if a then Some R06 else if b then Some R14 else if c then Some R15 else if d then Some R18 else None) ≡ None → (c ≡ false) × (d ≡ false)
four_none true b c d e = absurd (some_none R06 e)
four_none false true c d e = absurd (some_none R14 e)
four_none false false true d e = absurd (some_none R15 e)
four_none false false false true e = absurd (some_none R18 e)
four_none false false false false e = (refl, refl)

-- the words

some_words : (shell : List (List ℕ)) (command : Command) → HasWord command → not (length (words_of shell command) == 0) ≡ true
some_words shell (Listed []) h = absurd (omega (arith, h))
some_words shell (Listed (w ∷ ws)) h = ap not (eqb-suc-zero (length ws))
some_words [] (Script text) h = refl
some_words (w ∷ ws) (Script text) h = ap not (eqb-suc-zero (length (ws ++ text ∷ [])))

-- the environment

differ-same : (names : List (List ℕ)) → ids_differ names ≡ names_differ names
differ-same [] = refl
differ-same (name ∷ names) = ap (λ b. not (list_any (bytes_eq name) names) && b) (differ-same names)

is_proper : (scope : List Declaration) → names_differ (names_of (run_env scope)) ≡ true → list_all is_variable_name (names_of (run_env scope)) ≡ true → is_environment (run_env scope) ≡ true
is_proper scope differ fit =
    both_hold _ _ fit (differ-same (names_of (run_env scope)) ∙ differ)

-- the mounts

counted : (target : List (List ℕ)) (kind : MountKind) (binds : List Bind) (mount : Mount) (mounts : List Mount) → length binds ≡ length mounts
    → length (cons_option (bind_at target kind) binds) ≡ length (cond (is_bind kind) (mount ∷ mounts) mounts)
counted target (BindOf source from is_writable) binds mount mounts e = ap suc e
counted target (CacheOf id sharing) binds mount mounts e = e

binds_kept : (dir : List (List ℕ)) (mounts : List Mount) → length (binds_of dir mounts) ≡ length (filter (λ mount. is_bind mount.kind) mounts)
binds_kept dir [] = refl
binds_kept dir (mount ∷ mounts) = counted (target_in dir mount) mount.kind (binds_of dir mounts) mount (filter (λ mount. is_bind mount.kind) mounts) (binds_kept dir mounts)

-- as many binds as mounts that are binds
bind_count : (dir : List (List ℕ)) (mounts : List Mount) → length (binds_of dir mounts) ≡ count_by (λ mount. is_bind mount.kind) mounts
bind_count dir mounts = binds_kept dir mounts ∙ length-filter (λ (mount : Mount). is_bind mount.kind) mounts

-- binds and caches all of whose targets are within the limits, and the ids that are known of them
record AreReadable (binds : List Bind) (caches : List CacheUse) (ids : List (List ℕ)) : Type 0 where
  bind_targets : list_all is_within (map (λ (bind : Bind). bind.target) binds) ≡ true
  cache_targets : list_all is_within (map (λ (cache : CacheUse). cache.target) caches) ≡ true
  known : ids ≡ map (λ (cache : CacheUse). cache.id) caches

readable_more : (target : List (List ℕ)) (kind : MountKind) (binds : List Bind) (caches : List CacheUse) (ids : List (List ℕ)) → is_within target ≡ true → AreReadable binds caches ids
    → AreReadable (cons_option (bind_at target kind) binds) (cons_option (cache_at target kind) caches) (cons_option (known_id target kind) ids)
readable_more target (BindOf source from is_writable) binds caches ids t h = record { bind_targets = both_hold (is_within target) _ t h.bind_targets; cache_targets = h.cache_targets; known = h.known }
readable_more target (CacheOf None sharing) binds caches ids t h =
    record { bind_targets = h.bind_targets; cache_targets = both_hold (is_within target) _ t h.cache_targets; known = rw t (ap (λ (is : List (List ℕ)). text_of target ∷ is) h.known) }
readable_more target (CacheOf (Some id) sharing) binds caches ids t h =
    record { bind_targets = h.bind_targets; cache_targets = both_hold (is_within target) _ t h.cache_targets; known = ap (λ (is : List (List ℕ)). id ∷ is) h.known }

readable : (dir : List (List ℕ)) (mounts : List Mount) → list_any (is_unreadable dir) mounts ≡ false → AreReadable (binds_of dir mounts) (caches_of dir mounts) (known_ids dir mounts)
readable dir [] e = record { bind_targets = refl; cache_targets = refl; known = refl }
readable dir (mount ∷ mounts) e =
    let both = neither (is_unreadable dir mount) (list_any (is_unreadable dir) mounts) e in
    let paths = neither (not (is_within (target_in dir mount))) (has_far_folder mount.kind) both.0 in
    readable_more (target_in dir mount) mount.kind (binds_of dir mounts) (caches_of dir mounts) (known_ids dir mounts) (not-false (is_within (target_in dir mount)) paths.0) (readable dir mounts both.1)

filter-all : {X : Type 0} (p : X → Bool) (xs : List X) → list_all p xs ≡ true → filter p xs ≡ xs
filter-all p [] e = refl
filter-all p (x ∷ xs) e = rw (both_first (p x) _ e) (ap (λ ys. x ∷ ys) (filter-all p xs (both_second (p x) _ e)))

-- a RUN for which no code is due is well formed
pub run_is_action : (scope : List Declaration) (dir : List (List ℕ)) (user : List ℕ) (shell : List (List ℕ)) (mounts : List Mount) (command : Command) (origins : List Origin)
    → IsInstruction (Run mounts command)
    → length origins ≡ count_by (λ mount. is_bind mount.kind) mounts
    → names_differ (names_of (run_env scope)) ≡ true
    → list_all is_variable_name (names_of (run_env scope)) ≡ true
    → least (run_due dir mounts) ≡ None
    → IsAction (run_action scope dir user shell mounts command origins)
run_is_action scope dir user shell mounts command origins whole count names_apart names_fit none =
    let due = two_none (run_due dir mounts R17) (run_due dir mounts R18) none in
    let r17 = neither (not (mounts_fit (filter is_within (targets_in dir mounts)))) (not (ids_differ (known_ids dir mounts))) due.0 in
    let read : AreReadable (binds_of dir mounts) (caches_of dir mounts) (known_ids dir mounts) = readable dir mounts due.1 in
    let all : list_all is_within (targets_in dir mounts) ≡ true =
    list_all-append is_within (map (λ (bind : Bind). bind.target) (binds_of dir mounts)) (map (λ (cache : CacheUse). cache.target) (caches_of dir mounts))
    ∙ both_hold _ _ read.bind_targets read.cache_targets in
    let fit : mounts_fit (targets_in dir mounts) ≡ true = subst (λ (targets : List (List (List ℕ))). mounts_fit targets ≡ true) (filter-all is_within (targets_in dir mounts) all) (not-false _ r17.0) in
    let differ : ids_differ (map (λ (cache : CacheUse). cache.id) (caches_of dir mounts)) ≡ true = subst (λ (ids : List (List ℕ)). ids_differ ids ≡ true) read.known (not-false _ r17.1) in
    both_hold (length origins + 1 == length (binds_of dir mounts) + 1) _ (eq-eqb (length origins + 1) (length (binds_of dir mounts) + 1) (ap (λ n. n + 1) (count ∙ sym (bind_count dir mounts))))
    (both_hold (not (length (words_of shell command) == 0)) _ (some_words shell command whole.1)
    (both_hold (is_environment (run_env scope)) _ (is_proper scope names_apart names_fit) (both_hold (mounts_fit (targets_in dir mounts)) _ fit differ)))

-- the sources

some_sources : (before : Values) (sources : List Source) → 0 < length sources → not (length (file_sources before sources) == 0) ≡ true
some_sources before [] h = absurd (omega (arith, h))
some_sources before (source ∷ sources) h = ap not (eqb-suc-zero (length (file_sources before sources)))

inputs_by : (b : Bool) (origin : Origin) → (length (listed (if b then Some origin else None)) + 1 == (if b then 2 else 1)) ≡ true
inputs_by true origin = refl
inputs_by false origin = refl

-- a line that is refused for no reason has no code that is due, and no text that is required
no_reason : (code : Option Code) (text : Option (List ℕ)) → reason_by code text ≡ None → (code ≡ None) × (text ≡ None)
no_reason (Some code) text e = absurd (none-some (Coded code) (sym e))
no_reason None None e = (refl, refl)
no_reason None (Some text) e = absurd (none-some (Required text) (sym e))

-- and nothing is against its texts
no_fault : (fault : Option Unexpanded) → is_long fault ≡ false → required_in fault ≡ None → fault ≡ None
no_fault None long e = refl
no_fault (Some TooLong) long e = absurd (true≢false long)
no_fault (Some (required text)) long e = absurd (none-some text (sym e))

pattern_is : (before : Values) (word : Parts) → is_valued is_malformed (valued before word) ≡ false → unexpanded before word ≡ None → not (is_malformed (value before word)) ≡ true
pattern_is before word bad e = not_from_false (is_malformed (value before word)) (ap (is_valued is_malformed) (sym (valued-is before word e)) ∙ bad)

sources_are : (before : Values) (sources : List Source) → list_any (is_pattern_and is_malformed before) sources ≡ false → worst (map (pattern_fault before) sources) ≡ None
    → list_all is_well_formed_file_source (file_sources before sources) ≡ true
sources_are before [] bad e = refl
sources_are before (Files word ∷ sources) bad e =
    let b = neither (is_valued is_malformed (valued before word)) (list_any (is_pattern_and is_malformed before) sources) bad in
    let here : unexpanded before word ≡ None = worse_none-left (unexpanded before word) (worst (map (pattern_fault before) sources)) e in
    let there : worst (map (pattern_fault before) sources) ≡ None = worse_none-right (unexpanded before word) (worst (map (pattern_fault before) sources)) e in
    both_hold (not (is_malformed (value before word))) _ (pattern_is before word b.0 here) (sources_are before sources b.1 there)
sources_are before (Document name body ∷ sources) bad e = sources_are before sources bad e

-- a COPY that nothing is against is well formed
pub copy_is_action : (scope : List Declaration) (dir : List (List ℕ)) (sources : List Source) (destination : Parts) (flags : CopyFlags) (origin : Origin)
    → IsInstruction (Copy sources destination flags)
    → reason (copy_due scope dir sources destination) (copy_fault scope sources destination) ≡ None
    → IsAction (copy_action scope dir sources destination flags origin)
copy_is_action scope dir sources destination flags origin whole none =
    let files = file_sources (value_in scope) sources in
    let fault : Option Unexpanded = copy_fault scope sources destination in
    let unrefused = no_reason (least (copy_due scope dir sources destination)) (required_in fault) none in
    let due = four_none (copy_due scope dir sources destination R06) (copy_due scope dir sources destination R14) (copy_due scope dir sources destination R15) (copy_due scope dir sources destination R18) unrefused.0 in
    let r18 = neither (is_long fault) (list_any has_far_name sources || is_valued (leads_far dir) (valued (value_in scope) destination)) due.1 in
    let patterns : worst (map (pattern_fault (value_in scope)) sources) ≡ None =
    worse_none-left (worst (map (pattern_fault (value_in scope)) sources)) (worse (unexpanded (value_in scope) destination) (worst (map (document_fault (value_in scope)) sources))) (no_fault fault r18.0 unrefused.1) in
    both_hold (length (listed (origin_for files origin)) + 1 == inputs_of_copy (copied dir files (value (value_in scope) destination) flags)) _ (inputs_by (list_any is_pattern files) origin)
    (both_hold (not (length files == 0)) _ (some_sources (value_in scope) sources whole.0) (sources_are (value_in scope) sources due.0 patterns))
