-- The images that are added instruction by instruction are those that the stages name.
use Rattle.std.proofs.Common.{◌≡◌, ◌<◌, ◌+◌, ℕ, suc, Bool, true, false, List, [], ◌∷◌, ◌++◌, map, length, get_or, drop, drop-cons, Option, Some, None, refl, sym, ap, ◌∙◌, append-nil, arith, if◌then◌else◌}
use Rattle.std.specs.List.{cons_option, filter_map}
use Rattle.std.proofs.lemmas.List.Elements.{filter_map-append}
use Rattle.plain.specs.Marks.{is_marked}
use Rattle.llb.specs.declared.op.Source.TheVariants.{Scratch, Context, Image}
use Rattle.rows.specs.declared.row.Origin.{Origin}
use Rattle.rows.specs.declared.row.Origin.TheVariants.{Source as SourceOf, Stage as StageOf}
use Rattle.stages.specs.declared.stage.ResolvedInstruction.{ResolvedInstruction}
use Rattle.stages.specs.declared.stage.ResolvedStage.{ResolvedStage}
use Rattle.imagelist.specs.Images.{is_among, first_after, Naming, image_name, namings_on, namings_inside, stage_namings, namings_from, images_of}
use Rattle.imagelist.specs.PrivateCollecting.{with_naming, with_namings, with_image, with_origins}
use Rattle.imagelist.proofs.RowFacts.{Names, Rows, named_all, namings_append}

-- the namings of a line by these names
abbrev namings_by : ℕ → Bool → Names → List Naming
namings_by line needed names = map (λ name. record { name = name; line = line; needed = needed }) names

-- one that is named, and those after it
one_added : (rows : Rows) (line : ℕ) (needed : Bool) (before : Names) (found : Option (List ℕ)) (names : Names)
    → with_namings (with_image rows line needed before found) (namings_by line needed (first_after (before ++ cons_option found []) names))
    ≡ with_namings rows (namings_by line needed (first_after before (cons_option found names)))
one_added rows line needed before None names =
    ap (λ (texts : Names). with_namings rows (namings_by line needed (first_after texts names))) (append-nil before)
one_added rows line needed before (Some name) names = by (is_among before name)
  where
    by : (b : Bool) → with_namings (if b then rows else with_naming rows (record { name = name; line = line; needed = needed })) (namings_by line needed (first_after (before ++ name ∷ []) names))
        ≡ with_namings rows (namings_by line needed (if b then first_after (before ++ name ∷ []) names else name ∷ first_after (before ++ name ∷ []) names))
    by true = refl
    by false = refl

origins_added : (rows : Rows) (line : ℕ) (needed : Bool) (before origins : List Origin)
    → with_origins rows line needed before origins
    ≡ with_namings rows (namings_by line needed (first_after (filter_map image_name before) (filter_map image_name origins)))
origins_added rows line needed before [] = refl
origins_added rows line needed before (origin ∷ origins) =
    let names = filter_map image_name before in
    let more = filter_map image_name origins in
    let next = with_image rows line needed names (image_name origin) in
    origins_added next line needed (before ++ origin ∷ []) origins
    ∙ ap (λ (texts : Names). with_namings next (namings_by line needed (first_after texts more))) (filter_map-append image_name before (origin ∷ []))
    ∙ one_added rows line needed names (image_name origin) more

-- those of an instruction
pub line_added : (rows : Rows) (line : ℕ) (needed : Bool) (origins : List Origin) → with_origins rows line needed [] origins ≡ with_namings rows (namings_on line needed origins)
line_added rows line needed origins = origins_added rows line needed [] origins

-- that of a FROM, if it is one
pub base_added : (rows : Rows) (line : ℕ) (needed : Bool) (base : Origin)
    → with_image rows line needed [] (image_name base) ≡ with_namings rows (namings_on line needed (base ∷ []))
base_added rows line needed (SourceOf Scratch) = refl
base_added rows line needed (SourceOf Context) = refl
base_added rows line needed (SourceOf (Image name)) = refl
base_added rows line needed (StageOf number) = refl

-- those of all stages
pub stages_added : (marks : List Bool) (stages : List ResolvedStage) (images : Rows) → images ≡ with_namings [] (namings_from marks 0 stages) → images ≡ images_of marks stages
stages_added marks stages images same = same ∙ named_all (namings_from marks 0 stages)

-- what is left of a list begins with its next item
pub next_item : {X : Type 0} (xs : List X) (i : ℕ) (x : X) → i < length xs → x ≡ get_or xs i x → drop i xs ≡ x ∷ drop (i + 1) xs
next_item xs i x within is =
    let step : suc i ≡ i + 1 = omega arith in
    drop-cons xs i x within ∙ ap (λ y. y ∷ drop (suc i) xs) (sym is) ∙ ap (λ (n : ℕ). x ∷ drop n xs) step

-- one step over the instructions of a stage
pub inside_step : (needed : Bool) (rows next : Rows) (rs more : List ResolvedInstruction) (r : ResolvedInstruction) (line : ℕ) (origins : List Origin) (all : Rows)
    → rs ≡ r ∷ more → line ≡ r.instruction.line → origins ≡ r.origins → next ≡ with_namings rows (namings_on line needed origins)
    → with_namings rows (namings_inside needed rs) ≡ all → with_namings next (namings_inside needed more) ≡ all
inside_step needed rows next rs more r line origins all split on same added whole =
    ap (λ (rs : Rows). with_namings rs (namings_inside needed more)) added
    ∙ ap (λ (l : ℕ). with_namings (with_namings rows (namings_on l needed origins)) (namings_inside needed more)) on
    ∙ ap (λ (os : List Origin). with_namings (with_namings rows (namings_on r.instruction.line needed os)) (namings_inside needed more)) same
    ∙ sym (namings_append rows (namings_on r.instruction.line needed r.origins) (namings_inside needed more))
    ∙ ap (λ (is : List ResolvedInstruction). with_namings rows (namings_inside needed is)) (sym split)
    ∙ whole

-- and one over the stages
pub stages_step : (marks : List Bool) (number : ℕ) (rows next : Rows) (stages more : List ResolvedStage) (stage : ResolvedStage) (needed : Bool) (all : Rows)
    → stages ≡ stage ∷ more → needed ≡ is_marked marks number → next ≡ with_namings rows (stage_namings needed stage)
    → with_namings rows (namings_from marks number stages) ≡ all → with_namings next (namings_from marks (number + 1) more) ≡ all
stages_step marks number rows next stages more stage needed all split marked added whole =
    ap (λ (rs : Rows). with_namings rs (namings_from marks (number + 1) more)) added
    ∙ ap (λ b. with_namings (with_namings rows (stage_namings b stage)) (namings_from marks (number + 1) more)) marked
    ∙ sym (namings_append rows (stage_namings (is_marked marks number) stage) (namings_from marks (number + 1) more))
    ∙ ap (λ (ss : List ResolvedStage). with_namings rows (namings_from marks number ss)) (sym split)
    ∙ whole
