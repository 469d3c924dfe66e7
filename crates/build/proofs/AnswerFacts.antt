-- A bundle asks for one thing, and what its answers have in common.
use Rattle.std.proofs.Common.{◌≡◌, inl, inr, ℕ, Bool, true, false, List, Option, Some, None, Result, Ok, Err, refl, sym, ap, ◌∙◌, subst}
use Rattle.std.proofs.lemmas.List.{ext_get_or}
use Rattle.std.specs.Cmp.Lexicographic.{nat_list_cmp_total}
use Rattle.std.specs.FinMap.{entries, get, same_map, slice_cmp-IsAntisymmetric, nat_cmp-IsAntisymmetric}
use Rattle.plain.specs.declared.fault.Fault.TheVariants.{Because}
use Rattle.plain.specs.declared.refusal.Refusal.{Refusal}
use Rattle.expand.specs.Reasons.{rejection_of}
use Rattle.expand.specs.declared.reason.Rejection.{Rejection}
use Rattle.trees.specs.TreeMap.{TreeMap}
use Rattle.plans.specs.Images.{ImagesValue}
use Rattle.rows.specs.Rows.{Rows}
use Rattle.plans.specs.Sources.{SourcesValue}
use Rattle.plans.specs.Value.{Out}
use Rattle.instructions.specs.Instruction.{Instruction}
use Rattle.dockerfile.specs.Dockerfile.{AreInstructions, IsRefused}
use Rattle.stages.specs.Naming.{names_in}
use Rattle.stages.specs.Resolved.{resolved}
use Rattle.stages.specs.Table.{TableValue}
use Rattle.stages.specs.Needed.{AreNeeded}
use Rattle.stages.specs.declared.stage.ResolvedStage.{ResolvedStage}
use Rattle.evaluation.specs.Evaluated.{evaluated, IsMade}
use Rattle.evaluation.specs.Images.{ImageNames, AreSources}
use Rattle.evaluation.specs.declared.evaluated.Evaluated.{Evaluated}
use Rattle.evaluation.specs.declared.walk.Walk.{Walk}
use Rattle.imageconfig.specs.Reading.{config_in}
use Rattle.imageconfig.specs.Writing.{config_data}
use Rattle.imageconfig.specs.declared.config.Config.{Config}
use Rattle.trees.specs.declared.cause.Cause.{Cause}
use Rattle.lowering.specs.Meaning.{serial}
use Rattle.lowering.specs.Means.{world}
use Rattle.bundle.specs.declared.whole.Bundle.{Bundle}
use Rattle.bundle.specs.Answer.{built_text, failed_text}
use Rattle.bundle.specs.Parts.{parts_of}
use Rattle.bundle.specs.Reading.{ignore_bytes, told_line, IsBundle, Completes, ReadsBundle}
use Rattle.bundle.specs.declared.parts.Parts.{Parts}
use Rattle.trees.specs.Row.{Row}
use Rattle.contexts.specs.Context.{IsListing, IsContext}
use Rattle.ignorefile.specs.File.{ignore_of}
use Rattle.ignorefile.specs.declared.line.Line.{Line}
use Rattle.cachemounts.specs.StoreValue.{StoreValue}
use Rattle.scopes.specs.Args.{BuildArguments}
use Rattle.plain.specs.declared.refusal.Code.TheVariants.{R19}
use Rattle.answering.specs.declared.status.Status.{Status}
use Rattle.answering.specs.declared.status.Status.TheVariants as status
use Rattle.build.specs.Graph.{Shows, GraphAnswers}
use Rattle.build.specs.Meaning.{StagesAsk, TableAsks, FileAsks, Asks, Tells, Answers}
use Rattle.build.proofs.OneDrawingFacts.{one_drawing}

-- what is known of the texts of Dockerfiles: one has no two lists of instructions, no two refusals, and never one of each
pub record AreUnique : Type 0 where
  pub instructions : (text : List ℕ) (found others : List Instruction) → AreInstructions text found → AreInstructions text others → found ≡ others
  pub refusals : (text : List ℕ) (one other : Refusal) → IsRefused text one → IsRefused text other → one ≡ other
  pub apart : (text : List ℕ) (found : List Instruction) (refusal : Refusal) → AreInstructions text found → IsRefused text refusal → ⊥

both_ways : (b c : Bool) → (b ≡ true → c ≡ true) → (c ≡ true → b ≡ true) → b ≡ c
both_ways true c there back = sym (there refl)
both_ways false true there back = back refl
both_ways false false there back = refl

same_marks : (stages : List ResolvedStage) (target : ℕ) (a b : List Bool) → AreNeeded stages target a → AreNeeded stages target b → a ≡ b
same_marks stages target a b these those = ext_get_or false a b (these.long ∙ sym those.long) (λ i short.
    both_ways _ _ (λ marked. (those.just i).1 ((these.just i).0 marked)) (λ marked. (these.just i).1 ((those.just i).0 marked)))

same_sources : (context : TreeMap) (images : ImagesValue Config) (names : ImageNames) (a b : SourcesValue)
    → AreSources context images names a → AreSources context images names b → a ≡ b
same_sources context images names a b these those =
    let contexts : a.context ≡ b.context = these.same ∙ sym those.same in
    let trees : a.images ≡ b.images = same_map nat_list_cmp_total (slice_cmp-IsAntisymmetric nat_cmp-IsAntisymmetric) a.images b.images (λ q. these.trees q ∙ sym (those.trees q)) in
    let first : a ≡ record { context = b.context; images = a.images } = ap (λ (c : TreeMap). record a { context = c }) contexts in
    first ∙ ap (λ is. record b { images = is }) trees

abbrev made_of : Rows → ℕ → Config → SourcesValue → Evaluated
made_of rows target config sources = record { rows = rows; target = target; config = config; sources = sources }

made_is : (rows others : Rows) (target number : ℕ) (config beside : Config) (sources given : SourcesValue) → rows ≡ others → target ≡ number
    → config ≡ beside → sources ≡ given → made_of rows target config sources ≡ made_of others number beside given
made_is rows others target number config beside sources given r t c s =
    ap (λ x. made_of x target config sources) r ∙ (ap (λ x. made_of others x config sources) t
    ∙ (ap (λ x. made_of others number x sources) c ∙ ap (λ x. made_of others number beside x) s))

same_made : (images : ImagesValue Config) (context : TreeMap) (number : ℕ) (walk : Walk) (a b : Evaluated)
    → IsMade images context number walk a → IsMade images context number walk b → a ≡ b
same_made images context number walk a b these those =
    made_is a.rows b.rows a.target b.target a.config b.config a.sources b.sources (these.rows ∙ sym those.rows) (these.target ∙ sym those.target)
    (these.config ∙ sym those.config) (same_sources context images walk.names a.sources b.sources these.sources those.sources)

same_ok : (made : Result Walk Rejection) (a b : Walk) → made ≡ Ok a → made ≡ Ok b → a ≡ b
same_ok made a b p q = cc

not_both : (made : Result Walk Rejection) (a : Walk) (refusal : Rejection) → made ≡ Ok a → made ≡ Err refusal → ⊥
not_both made a refusal p q = cc

same_err : (made : Result Walk Rejection) (a b : Rejection) → made ≡ Err a → made ≡ Err b → a ≡ b
same_err made a b p q = cc

one_of_stages : (bundle : Bundle Config) (needed : List Bool) (table : TableValue) (a b : Result Evaluated Rejection)
    → StagesAsk bundle needed table a → StagesAsk bundle needed table b → a ≡ b
one_of_stages bundle needed table (Ok a) (Ok b) these those =
    let same : those.0 ≡ these.0 = same_ok (evaluated (get bundle.args) bundle.images needed table) those.0 these.0 those.1 these.1 in
    ap Ok (same_made bundle.images bundle.context table.target these.0 a b these.2 (subst (λ w. IsMade bundle.images bundle.context table.target w b) same those.2))
one_of_stages bundle needed table (Ok a) (Err refusal) these those =
    absurd (not_both (evaluated (get bundle.args) bundle.images needed table) these.0 refusal these.1 those)
one_of_stages bundle needed table (Err refusal) (Ok b) these those =
    absurd (not_both (evaluated (get bundle.args) bundle.images needed table) those.0 refusal those.1 these)
one_of_stages bundle needed table (Err refusal) (Err other) these those =
    ap Err (same_err (evaluated (get bundle.args) bundle.images needed table) refusal other these those)

one_of_table : (bundle : Bundle Config) (table : Result TableValue Rejection) (a b : Result Evaluated Rejection) → TableAsks bundle table a → TableAsks bundle table b → a ≡ b
one_of_table bundle (Err refusal) a b these those = these ∙ sym those
one_of_table bundle (Ok table) a b these those =
    let marks : those.0 ≡ these.0 = same_marks table.stages table.target those.0 these.0 those.1 these.1 in
    one_of_stages bundle these.0 table a b these.2 (subst (λ needed. StagesAsk bundle needed table b) marks those.2)

-- what is asked for by what is refused before any text is expanded
abbrev err_of : Refusal → Result Evaluated Rejection
err_of refusal = Err (rejection_of refusal)

one_of_file : AreUnique → (bundle : Bundle Config) (a b : Result Evaluated Rejection) → FileAsks bundle a → FileAsks bundle b → a ≡ b
one_of_file unique bundle a b (inl these) (inl those) =
    these.2 ∙ (ap err_of (unique.refusals bundle.dockerfile these.0 those.0 these.1 those.1) ∙ sym those.2)
one_of_file unique bundle a b (inl these) (inr those) = absurd (unique.apart bundle.dockerfile those.0 these.0 those.1 these.1)
one_of_file unique bundle a b (inr these) (inl those) = absurd (unique.apart bundle.dockerfile these.0 those.0 these.1 those.1)
one_of_file unique bundle a b (inr these) (inr those) =
    let same : those.0 ≡ these.0 = unique.instructions bundle.dockerfile those.0 these.0 those.1 these.1 in
    one_of_table bundle (resolved (names_in bundle.images) (get bundle.args) bundle.target these.0) a b these.2
    (subst (λ (is : List Instruction). TableAsks bundle (resolved (names_in bundle.images) (get bundle.args) bundle.target is) b) same those.2)

-- what is known of contexts: a listing and an ignore file have one
abbrev OneContext : Type 0
OneContext = (rows : List Row) (lines : List Line) (a b : TreeMap) → IsListing rows → IsContext rows lines a → IsContext rows lines b → a ≡ b

abbrev bundle_of : List ℕ → TreeMap → ImagesValue Config → List (List ℕ × List ℕ) → BuildArguments → StoreValue → Option (List ℕ) → Bundle Config
bundle_of dockerfile context images digests args caches target =
    record { dockerfile = dockerfile; context = context; images = images; digests = digests; args = args; caches = caches; target = target }

bundle_is : (d e : List ℕ) (c k : TreeMap) (i j : ImagesValue Config) (p q : List (List ℕ × List ℕ)) (a b : BuildArguments) (s t : StoreValue) (g h : Option (List ℕ))
    → d ≡ e → c ≡ k → i ≡ j → p ≡ q → a ≡ b → s ≡ t → g ≡ h → bundle_of d c i p a s g ≡ bundle_of e k j q b t h
bundle_is d e c k i j p q a b s t g h de ck ij pq ab st gh =
    ap (λ x. bundle_of x c i p a s g) de ∙ (ap (λ x. bundle_of e x i p a s g) ck ∙ (ap (λ x. bundle_of e k x p a s g) ij
    ∙ (ap (λ x. bundle_of e k j x a s g) pq
    ∙ (ap (λ x. bundle_of e k j q x s g) ab ∙ (ap (λ x. bundle_of e k j q b x g) st ∙ ap (λ x. bundle_of e k j q b t x) gh)))))

same_bundle : OneContext → (parts : Parts Config) (lines : List Line) (a b : Bundle Config) → IsBundle parts lines a → IsBundle parts lines b → a ≡ b
same_bundle one parts lines a b these those =
    bundle_is a.dockerfile b.dockerfile a.context b.context a.images b.images a.digests b.digests a.args b.args a.caches b.caches a.target b.target
    (these.dockerfile ∙ sym those.dockerfile) (one parts.files.context lines a.context b.context these.listing these.context those.context)
    (these.images ∙ sym those.images) (these.digests ∙ sym those.digests) (these.args ∙ sym those.args) (these.caches ∙ sym those.caches) (these.target ∙ sym those.target)

same_some : (held : Option (Parts Config)) (a b : Parts Config) → held ≡ Some a → held ≡ Some b → a ≡ b
same_some held a b p q = cc

some_or_none : (held : Option (Parts Config)) (a : Parts Config) → held ≡ Some a → held ≡ None → ⊥
some_or_none held a p q = cc

same_lines : (read : Result (List Line) ℕ) (a b : List Line) → read ≡ Ok a → read ≡ Ok b → a ≡ b
same_lines read a b p q = cc

same_number : (read : Result (List Line) ℕ) (a b : ℕ) → read ≡ Err a → read ≡ Err b → a ≡ b
same_number read a b p q = cc

lines_or_number : (read : Result (List Line) ℕ) (a : List Line) (b : ℕ) → read ≡ Ok a → read ≡ Err b → ⊥
lines_or_number read a b p q = cc

one_bundle : OneContext → (parts : Parts Config) (a b : Bundle Config) → Completes parts (Ok a) → Completes parts (Ok b) → a ≡ b
one_bundle one parts a b these those =
    let lines : those.0 ≡ these.0 = same_lines (ignore_of (ignore_bytes parts.files.context)) those.0 these.0 those.1.0 these.1.0 in
    same_bundle one parts these.0 a b these.1.1 (subst (λ ls. IsBundle parts ls b) lines those.1.1)

one_bad_line : (parts : Parts Config) (a b : Refusal) → Completes parts (Err (Because a)) → Completes parts (Err (Because b)) → a ≡ b
one_bad_line parts a b these those =
    let number : these.0 ≡ those.0 = same_number (ignore_of (ignore_bytes parts.files.context)) these.0 those.0 these.1.0 those.1.0 in
    these.1.1 ∙ (ap (λ n. record { code = R19; line = told_line n }) number ∙ sym those.1.1)

bundles : OneContext → (bytes : List ℕ) (a b : Bundle Config) → ReadsBundle config_in bytes (Ok a) → ReadsBundle config_in bytes (Ok b) → a ≡ b
bundles one bytes a b these those =
    let parts : those.0 ≡ these.0 = same_some (parts_of config_in bytes) those.0 these.0 those.1.0 these.1.0 in
    one_bundle one these.0 a b these.1.1 (subst (λ p. Completes p (Ok b)) parts those.1.1)

refusals : (bytes : List ℕ) (a b : Refusal) → ReadsBundle config_in bytes (Err (Because a)) → ReadsBundle config_in bytes (Err (Because b)) → a ≡ b
refusals bytes a b (inl these) (inl those) = these.1 ∙ sym those.1
refusals bytes a b (inl these) (inr those) = absurd (some_or_none (parts_of config_in bytes) those.0 those.1.0 these.0)
refusals bytes a b (inr these) (inl those) = absurd (some_or_none (parts_of config_in bytes) these.0 these.1.0 those.0)
refusals bytes a b (inr these) (inr those) =
    let parts : those.0 ≡ these.0 = same_some (parts_of config_in bytes) those.0 these.0 those.1.0 these.1.0 in
    one_bad_line these.0 a b these.1.1 (subst (λ p. Completes p (Err (Because b))) parts those.1.1)

apart : (bytes : List ℕ) (bundle : Bundle Config) (refusal : Refusal) → ReadsBundle config_in bytes (Ok bundle) → ReadsBundle config_in bytes (Err (Because refusal)) → ⊥
apart bytes bundle refusal these (inl those) = some_or_none (parts_of config_in bytes) these.0 these.1.0 those.0
apart bytes bundle refusal these (inr those) =
    let parts : those.0 ≡ these.0 = same_some (parts_of config_in bytes) those.0 these.0 those.1.0 these.1.0 in
    let bad : Completes these.0 (Err (Because refusal)) = subst (λ p. Completes p (Err (Because refusal))) parts those.1.1 in
    lines_or_number (ignore_of (ignore_bytes these.0.files.context)) these.1.1.0 bad.0 these.1.1.1.0 bad.1.0

pub one_thing : AreUnique → OneContext → (bytes : List ℕ) (a b : Result Evaluated Rejection) → Asks bytes a → Asks bytes b → a ≡ b
one_thing texts one bytes a b (inl these) (inl those) = these.2 ∙ (ap err_of (refusals bytes these.0 those.0 these.1 those.1) ∙ sym those.2)
one_thing texts one bytes a b (inl these) (inr those) = absurd (apart bytes those.0 these.0 those.1 these.1)
one_thing texts one bytes a b (inr these) (inl those) = absurd (apart bytes these.0 those.0 these.1 those.1)
one_thing texts one bytes a b (inr these) (inr those) =
    let same : those.0 ≡ these.0 = bundles one bytes those.0 these.0 those.1 these.1 in
    one_of_file texts these.0 a b these.2 (subst (λ (bundle : Bundle Config). FileAsks bundle b) same those.2)

one_failure : (first : Option (ℕ × Cause)) (this that : ℕ × Cause) → first ≡ Some this → first ≡ Some that → this ≡ that
one_failure first this that p q = (let f : Some this ≡ Some that = sym p ∙ q in cc)

-- two answers to one thing have one status and one text
alike : (out : Out) (asked : Result Evaluated Rejection) (one other : Status) (text beside : List ℕ) → Tells out asked one text → Tells out asked other beside
    → (one ≡ other) × (text ≡ beside)
alike out (Ok made) status.Built status.Built text beside this that =
    let trees : Some this.0 ≡ Some that.0 = sym this.1 ∙ that.1 in
    let tree : this.0 ≡ that.0 = cc in
    (refl, this.2 ∙ (ap (λ t. built_text (config_data made.config) (entries t)) tree ∙ sym that.2))
alike out (Ok made) status.Built status.Failed text beside this that =
    let none : Some this.0 ≡ None = sym this.1 ∙ that.2.0 in cc
alike out (Ok made) status.Failed status.Built text beside this that =
    let none : Some that.0 ≡ None = sym that.1 ∙ this.2.0 in cc
alike out (Ok made) status.Failed status.Failed text beside this that =
    let same = one_failure (serial (world out made.sources) made.rows) (this.0, this.1) (that.0, that.1) this.2.1 that.2.1 in
    (refl, this.3 ∙ (ap (λ (f : ℕ × Cause). failed_text f.0 f.1) same ∙ sym that.3))
alike out (Ok made) status.Refused other text beside this that = absurd this
alike out (Ok made) status.Built status.Refused text beside this that = absurd that
alike out (Ok made) status.Failed status.Refused text beside this that = absurd that
alike out (Err refusal) status.Refused status.Refused text beside this that = (refl, this ∙ sym that)
alike out (Err refusal) status.Built other text beside this that = absurd this
alike out (Err refusal) status.Failed other text beside this that = absurd this
alike out (Err refusal) status.Refused status.Built text beside this that = absurd that
alike out (Err refusal) status.Refused status.Failed text beside this that = absurd that

pub one_answer : AreUnique → OneContext → (bytes : List ℕ) (out : Out) (one other : Status) (text beside : List ℕ)
    → Answers bytes out one text → Answers bytes out other beside → (one ≡ other) × (text ≡ beside)
one_answer texts single bytes out one other text beside this that =
    let asked : that.asked ≡ this.asked = one_thing texts single bytes that.asked this.asked that.asks this.asks in
    alike out this.asked one other text beside this.tells (subst (λ a. Tells out a other beside) asked that.tells)

-- two graphs of one bundle, or two refusals of it, have one status and one text
shown_alike : (asked : Result Evaluated Rejection) (one other : Status) (text beside : List ℕ) → Shows asked one text → Shows asked other beside
    → (one ≡ other) × (text ≡ beside)
shown_alike (Ok made) status.Built status.Built text beside this that =
    (refl, one_drawing this.plan that.plan made.rows made.target text beside this.is that.is this.stands that.stands this.draws that.draws)
shown_alike (Ok made) status.Failed other text beside this that = absurd this
shown_alike (Ok made) status.Refused other text beside this that = absurd this
shown_alike (Ok made) status.Built status.Failed text beside this that = absurd that
shown_alike (Ok made) status.Built status.Refused text beside this that = absurd that
shown_alike (Err refusal) status.Refused status.Refused text beside this that = (refl, this ∙ sym that)
shown_alike (Err refusal) status.Built other text beside this that = absurd this
shown_alike (Err refusal) status.Failed other text beside this that = absurd this
shown_alike (Err refusal) status.Refused status.Built text beside this that = absurd that
shown_alike (Err refusal) status.Refused status.Failed text beside this that = absurd that

pub one_graph_text : AreUnique → OneContext → (bytes : List ℕ) (one other : Status) (text beside : List ℕ)
    → GraphAnswers bytes one text → GraphAnswers bytes other beside → (one ≡ other) × (text ≡ beside)
one_graph_text texts single bytes one other text beside this that =
    let asked : that.asked ≡ this.asked = one_thing texts single bytes that.asked this.asked that.asks this.asks in
    shown_alike this.asked one other text beside this.shows (subst (λ a. Shows a other beside) asked that.shows)
