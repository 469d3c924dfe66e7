-- What is told of a bundle is told of every one that holds the same: the laws of the tellers. They stand among the definitions since the tellers cite
-- them as laws of their trait.
use Rattle.std.proofs.Common.{◌≡◌, inl, inr, ℕ, Bool, true, false, List, Option, Some, None, Result, Ok, Err, sym, ap, ◌∙◌}
use Rattle.plain.specs.declared.refusal.Refusal.{Refusal}
use Rattle.plain.specs.declared.fault.Fault.TheVariants.{Because}
use Rattle.expand.specs.declared.reason.Rejection.{Rejection}
use Rattle.trees.specs.declared.cause.Cause.{Cause}
use Rattle.command.specs.declared.task.LlbOptions.{LlbOptions}
use Rattle.imageconfig.specs.Reading.{config_in}
use Rattle.plans.specs.Value.{Out}
use Rattle.evaluation.specs.declared.evaluated.Evaluated.{Evaluated}
use Rattle.bundle.specs.Reading.{ReadsBundle}
use Rattle.flaws.specs.Flaws.{flaw_in}
use Rattle.flaws.specs.declared.flaw.Flaw.{Flaw}
use Rattle.reasons.specs.declared.leaving.LeavingLine.{LeavingLine}
use Rattle.checks.specs.Checks.{AreFaultsOf}
use Rattle.checks.specs.Checked.{IsCheckOf, faulty_text_in, target_in}
use Rattle.checks.specs.Images.{image_names}
use Rattle.checks.specs.Shown.{readable_lines, shown_check}
use Rattle.checks.specs.declared.checked.Checked.{Checked}
use Rattle.checks.specs.declared.form.Form.{Form}
use Rattle.checks.specs.declared.form.Form.TheVariants.{Plain}
use Rattle.answering.specs.declared.status.Status.{Status}
use Rattle.answering.specs.declared.status.Status.TheVariants.{Built, Failed, Refused}
use Rattle.build.specs.Meaning.{Answers, Asks}
use Rattle.build.specs.Titled.{HasTitlesOf, HasLeftOut, HasDigests}
use Rattle.explains.specs.Explained.{Explains, IsLeftOutBy, ShowsMissed}
use Rattle.lacking.specs.Missing.{missed_source}
use Rattle.lacking.specs.declared.missing.Missed.{Missed}
use Rattle.program.specs.declared.exporting.Beside.{Beside}
use Rattle.program.specs.Check.{TellsFaults}
use Rattle.program.specs.Config.{TellsConfig}
use Rattle.program.specs.Dot.{TellsDot}
use Rattle.program.specs.Llb.{IsBeside, LlbStops, TellsLlb}
use Rattle.program.specs.PrivateTelling.{held, HoldsSame, Moves, MovesStops}
use Rattle.program.specs.Telling.{never}
use Rattle.program.specs.Why.{TellsWhy}

-- bytes that hold the same are refused alike
refused : (bytes others : List ℕ) (refusal : Refusal) → held bytes ≡ held others → ReadsBundle config_in bytes (Err (Because refusal)) → ReadsBundle config_in others (Err (Because refusal))
refused bytes others refusal same (inl none) = inl (sym same ∙ none.0, none.1)
refused bytes others refusal same (inr some) = inr (some.0, (sym same ∙ some.1.0, some.1.1))

-- and ask for the same
asks : (bytes others : List ℕ) (asked : Result Evaluated Rejection) → held bytes ≡ held others → Asks bytes asked → Asks others asked
asks bytes others asked same (inl told) = inl (told.0, refused bytes others told.0 same told.1, told.2)
asks bytes others asked same (inr read) = inr (read.0, (read.1.0, (sym same ∙ read.1.1.0, read.1.1.1)), read.2)

-- they have the same faults
faults_moved : (bytes others : List ℕ) (faults : List Rejection) → held bytes ≡ held others → AreFaultsOf bytes faults → AreFaultsOf others faults
faults_moved bytes others faults same (inl told) = inl (told.0, refused bytes others told.0 same told.1, told.2)
faults_moved bytes others faults same (inr read) = inr (read.0, (read.1.0, (sym same ∙ read.1.1.0, read.1.1.1)), read.2)

checked_moved : (file bytes others : List ℕ) (form : Form) (checked : Checked) → HoldsSame bytes others → IsCheckOf file bytes form checked → IsCheckOf file others form checked
checked_moved file bytes others form checked same is = record {
  faults = is.faults;
  are = faults_moved bytes others is.faults same.parts is.are;
  text = is.text ∙ (ap (λ (flaw : Option Flaw). shown_check file form flaw (target_in (held bytes)) (image_names bytes) (readable_lines (faulty_text_in (held bytes))) is.faults) same.flaw
      ∙ ap (λ parts. shown_check file form (flaw_in config_in others) (target_in parts) (image_names bytes) (readable_lines (faulty_text_in parts)) is.faults) same.parts
      ∙ ap (λ (names : List (List ℕ)). shown_check file form (flaw_in config_in others) (target_in (held others)) names (readable_lines (faulty_text_in (held others))) is.faults) same.names);
  is_sound = is.is_sound;
}

pub check_moves : (file : List ℕ) (form : Form) → Moves (TellsFaults file form)
check_moves file form bytes bundle Built text same told = (told.0, checked_moved file bytes bundle form told.0 same told.1, told.2, told.3)
check_moves file form bytes bundle Failed text same told = (told.0, checked_moved file bytes bundle form told.0 same told.1, told.2, told.3)
check_moves file form bytes bundle Refused text same told = told

-- the same configuration
pub config_moves : Moves TellsConfig
config_moves bytes bundle Built text same told = (told.0, asks bytes bundle (Ok told.0) same.parts told.1, told.2)
config_moves bytes bundle Failed text same told = told
config_moves bytes bundle Refused text same told = (told.0, asks bytes bundle (Err told.0) same.parts told.1, told.2)

-- the same titles
titles_moved : (bytes bundle : List ℕ) (titles : List (Option (List ℕ))) → held bytes ≡ held bundle → HasTitlesOf bytes titles → HasTitlesOf bundle titles
titles_moved bytes bundle titles same has = (has.0, (has.1.0, (sym same ∙ has.1.1.0, has.1.1.1)), has.2)

-- the same graph
pub dot_moves : Moves TellsDot
dot_moves bytes bundle Built text same told =
    (told.0, asks bytes bundle (Ok told.0) same.parts told.1, (told.2.0, titles_moved bytes bundle told.2.0 same.parts told.2.1, told.2.2))
dot_moves bytes bundle Failed text same told = told
dot_moves bytes bundle Refused text same told = (told.0, asks bytes bundle (Err told.0) same.parts told.1, told.2)

-- the same is left out
left_moved : (bytes bundle : List ℕ) (left : List (List (List ℕ))) → held bytes ≡ held bundle → HasLeftOut bytes left → HasLeftOut bundle left
left_moved bytes bundle left same has =
    let reads = has.1.reads in
    (has.0, record { reads = (reads.0, (sym same ∙ reads.1.0, reads.1.1)); leaves = λ parts e. has.1.leaves parts (same ∙ e) })

-- the same digests
digests_moved : (bytes bundle : List ℕ) (digests : List (List ℕ × List ℕ)) → held bytes ≡ held bundle → HasDigests bytes digests → HasDigests bundle digests
digests_moved bytes bundle digests same has = (has.0, (has.1.0, (sym same ∙ has.1.1.0, has.1.1.1)), has.2)

beside_moved : (bytes bundle : List ℕ) (beside : Beside) → held bytes ≡ held bundle → IsBeside bytes beside → IsBeside bundle beside
beside_moved bytes bundle beside same has = record {
  titles = titles_moved bytes bundle beside.titles same has.titles;
  left = left_moved bytes bundle beside.left same has.left;
  digests = digests_moved bytes bundle beside.digests same has.digests;
}

-- the same definition, or none
pub llb_moves : (options : LlbOptions) → Moves (TellsLlb options)
llb_moves options bytes bundle Built text same told =
    (told.0, asks bytes bundle (Ok told.0) same.parts told.1, (told.2.0, beside_moved bytes bundle told.2.0 same.parts told.2.1, told.2.2))
llb_moves options bytes bundle Failed text same told = told
llb_moves options bytes bundle Refused text same told = (told.0, asks bytes bundle (Err told.0) same.parts told.1, told.2)

pub llb_moves_stops : (options : LlbOptions) → MovesStops (LlbStops options)
llb_moves_stops options fault bytes bundle same stops =
    (stops.0, asks bytes bundle (Ok stops.0) same.parts stops.1, (stops.2.0, beside_moved bytes bundle stops.2.0 same.parts stops.2.1, stops.2.2))

-- the same of paths
pub why_moves : (paths : List (List ℕ)) → Moves (TellsWhy paths)
why_moves paths bytes bundle Built text same told =
    (told.0, record { parts = told.1.parts; is = sym same.parts ∙ told.1.is; has = told.1.has }, told.2)
why_moves paths bytes bundle Failed text same told = told
why_moves paths bytes bundle Refused text same told = (told.0, refused bytes bundle told.0 same.parts told.1, told.2)

-- the same answer of a build
answers_moved : (bytes others : List ℕ) (out : Out) (status : Status) (text : List ℕ) → held bytes ≡ held others → Answers bytes out status text
    → Answers others out status text
answers_moved bytes others out status text same answers =
    record { asked = answers.asked; asks = asks bytes others answers.asked same answers.asks; tells = answers.tells }

-- the same line of the ignore file leaves a source out
left_out_moved : (bytes others source : List ℕ) (is_path : Bool) (left : Option LeavingLine) → held bytes ≡ held others → IsLeftOutBy bytes source is_path left
    → IsLeftOutBy others source is_path left
left_out_moved bytes others source false left same is = is
left_out_moved bytes others source true left same is = (is.0, record { parts = is.1.parts; is = sym same ∙ is.1.is; has = is.1.has }, is.2)

-- the same is shown of a source
missed_moved : (file bytes others : List ℕ) (lines : List (List ℕ)) (line : ℕ) (cause : Cause) (found : Option Missed) (text : List ℕ)
    → held bytes ≡ held others → ShowsMissed file bytes lines line cause found text → ShowsMissed file others lines line cause found text
missed_moved file bytes others lines line cause None text same shown = shown
missed_moved file bytes others lines line cause (Some found) text same shown =
    (shown.0, left_out_moved bytes others found.source found.is_context_path shown.0 same shown.1, shown.2)

-- and the same explanation
pub explain_moves : (file : List ℕ) (out : Out) → Moves (Explains file out)
explain_moves file out bytes bundle Built text same told = (told.0, answers_moved bytes bundle out Built _ same.parts told.1, told.2)
explain_moves file out bytes bundle Failed text same told =
    let shows = told.3 in
    let reads = shows.1 in
    let asked = shows.2 in (
      told.0,
      told.1,
      answers_moved bytes bundle out Failed _ same.parts told.2,
      (
        shows.0,
        (reads.0, (sym same.parts ∙ reads.1.0, reads.1.1)),
        (
          asked.0,
          asks bytes bundle (Ok asked.0) same.parts asked.1,
          missed_moved file bytes bundle (readable_lines shows.0.dockerfile) told.0 told.1 (missed_source asked.0.sources asked.0.rows told.0 told.1) text same.parts asked.2,
        ),
      ),
    )
explain_moves file out bytes bundle Refused text same told =
    let shows = told.2 in
    (told.0, answers_moved bytes bundle out Refused _ same.parts told.1, (shows.0, checked_moved file bytes bundle Plain shows.0 same shows.1, shows.2))

-- and one of which nothing is due is of no bundle
pub never_moves : MovesStops never
never_moves fault bytes bundle same stops = stops
