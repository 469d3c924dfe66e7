-- The images of a file's stages are those that a stage names.
use Rattle.std.proofs.Common.{◌≡◌, ◌⊎◌, inl, inr, ◌+◌, ℕ, zero, suc, Bool, true, false, ◌&&◌, ◌||◌, if◌then◌else◌, List, [], ◌∷◌, ◌++◌, map, filter, Option, Some, None, slice_get, Contains, refl, sym, ap, ◌∙◌, subst, true≢false, arith}
use Rattle.std.specs.List.{cons_option, filter_map, list_any}
use Rattle.std.specs.Cmp.Lexicographic.{nat_list_eq_equiv}
use Rattle.std.proofs.lemmas.List.Elements.{Contains-append_left, Contains-append_right, Contains-append_cases}
use Rattle.std.proofs.lemmas.Map.Views.{list_any-from_Contains, Contains-from_any}
use Rattle.std.proofs.lemmas.Option.{slice_get_within, slice_get-get_or, get_or_from_slice_get}
use Rattle.plain.specs.Marks.{is_marked}
use Rattle.llb.specs.declared.op.Source.TheVariants.{Scratch, Context, Image}
use Rattle.llb.proofs.LineFacts.{contains_nil, contains_here, contains_there, contains_cases, contains_filter, contains_unfilter}
use Rattle.rows.specs.declared.row.Origin.{Origin}
use Rattle.rows.specs.declared.row.Origin.TheVariants.{Source as SourceOf, Stage as StageOf}
use Rattle.stages.specs.Needed.{origins_in, stage_origins, AreNeeded}
use Rattle.stages.specs.declared.stage.ResolvedInstruction.{ResolvedInstruction}
use Rattle.stages.specs.declared.stage.ResolvedStage.{ResolvedStage}
use Rattle.imagelist.specs.Images.{each_once, Naming, image_name, namings_on, namings_inside, stage_namings, namings_from, is_of, use_of, uses_of, images_of, NamesImage, NeedsImage, BeginsWith, InstructionNames, NamesOnLine}
use Rattle.imagelist.specs.declared.image_rows.ImageUse.{ImageUse}
use Rattle.imagelist.proofs.RowFacts.{Names, among_once, bytes_itself, same_bytes}

-- ---- lists

module _ {X Y : Type 0} (f : X → Y) where
  in_map : (xs : List X) (y : Y) → Contains (map f xs) y → (x : X) × Contains xs x × (y ≡ f x)
  in_map [] y h = absurd (contains_nil y h)
  in_map (x ∷ xs) y h = elim (contains_cases (f x) y (map f xs) h) [
    | inl same ↦ (x, contains_here x xs, same)
    | inr more ↦ let found = in_map xs y more in (found.0, contains_there x found.0 xs found.1, found.2)
  ]

  map_in : (xs : List X) (x : X) → Contains xs x → Contains (map f xs) (f x)
  map_in [] x h = absurd (contains_nil x h)
  map_in (first ∷ xs) x h = elim (contains_cases first x xs h) [
    | inl same ↦ subst (λ z. Contains (f first ∷ map f xs) (f z)) (sym same) (contains_here (f first) (map f xs))
    | inr more ↦ contains_there (f first) (f x) (map f xs) (map_in xs x more)
  ]

module _ {X : Type 0} (p : X → Bool) where
  filter_true : (xs : List X) (x : X) → Contains (filter p xs) x → p x ≡ true
  filter_true [] x h = absurd (contains_nil x h)
  filter_true (first ∷ xs) x h = by (p first) refl h (λ g. filter_true xs x g)
    where
      by : (b : Bool) → p first ≡ b → Contains (if b then first ∷ filter p xs else filter p xs) x → (Contains (filter p xs) x → p x ≡ true) → p x ≡ true
      by true e g rest = elim (contains_cases first x (filter p xs) g) [
        | inl same ↦ ap p same ∙ e
        | inr more ↦ rest more
      ]
      by false e g rest = rest g

  any_found : (xs : List X) → list_any p xs ≡ true → (x : X) × Contains xs x × (p x ≡ true)
  any_found [] h = absurd (true≢false (sym h))
  any_found (first ∷ xs) h = by (p first) refl h (λ g. any_found xs g)
    where
      by : (b : Bool) → p first ≡ b → (b || list_any p xs) ≡ true → (list_any p xs ≡ true → (x : X) × Contains xs x × (p x ≡ true))
          → (x : X) × Contains (first ∷ xs) x × (p x ≡ true)
      by true e g rest = (first, contains_here first xs, e)
      by false e g rest = let found = rest g in (found.0, contains_there first found.0 xs found.1, found.2)

  found_any : (xs : List X) (x : X) → Contains xs x → p x ≡ true → list_any p xs ≡ true
  found_any [] x h holds = absurd (contains_nil x h)
  found_any (first ∷ xs) x h holds = elim (contains_cases first x xs h) [
    | inl same ↦ ap (λ b. b || list_any p xs) (ap p (sym same) ∙ holds)
    | inr more ↦ either (p first) (found_any xs x more holds)
  ]
    where
      either : (b : Bool) → list_any p xs ≡ true → (b || list_any p xs) ≡ true
      either true e = refl
      either false e = e

at_of : {X : Type 0} (xs : List X) (x : X) → Contains xs x → (k : ℕ) × (slice_get xs k ≡ Some x)
at_of xs x h = (h.0, slice_get-get_or xs h.0 x h.1 ∙ ap Some h.2)

of_at : {X : Type 0} (xs : List X) (k : ℕ) (x : X) → slice_get xs k ≡ Some x → Contains xs x
of_at xs k x e = (k, slice_get_within xs k x e, get_or_from_slice_get xs k x x e)

-- ---- texts, each once

once_has : (names : Names) (name : List ℕ) → Contains names name → Contains (each_once names) name
once_has names name h = Contains-from_any same_bytes name (each_once names) (among_once [] names name refl ∙ list_any-from_Contains nat_list_eq_equiv name names h)

has_once : (names : Names) (name : List ℕ) → Contains (each_once names) name → Contains names name
has_once names name h = Contains-from_any same_bytes name names (sym (among_once [] names name refl) ∙ list_any-from_Contains nat_list_eq_equiv name (each_once names) h)

-- ---- what names an image

image_is : (origin : Origin) (name : List ℕ) → image_name origin ≡ Some name → origin ≡ SourceOf (Image name)
image_is (SourceOf Scratch) name e = absurd cc
image_is (SourceOf Context) name e = absurd cc
image_is (SourceOf (Image other)) name e = let same : other ≡ name = cc in ap (λ (n : List ℕ). SourceOf (Image n)) same
image_is (StageOf number) name e = absurd cc

names_found : (origins : List Origin) (name : List ℕ) → Contains (filter_map image_name origins) name → Contains origins (SourceOf (Image name))
names_found [] name h = absurd (contains_nil name h)
names_found (origin ∷ origins) name h = by (image_name origin) refl h (λ g. names_found origins name g)
  where
    by : (found : Option (List ℕ)) → image_name origin ≡ found → Contains (cons_option found (filter_map image_name origins)) name
        → (Contains (filter_map image_name origins) name → Contains origins (SourceOf (Image name))) → Contains (origin ∷ origins) (SourceOf (Image name))
    by None e g rest = contains_there origin (SourceOf (Image name)) origins (rest g)
    by (Some other) e g rest = elim (contains_cases other name (filter_map image_name origins) g) [
      | inl same ↦ subst (λ o. Contains (origin ∷ origins) o) (image_is origin name (e ∙ ap Some (sym same))) (contains_here origin origins)
      | inr more ↦ contains_there origin (SourceOf (Image name)) origins (rest more)
    ]

found_names : (origins : List Origin) (name : List ℕ) → Contains origins (SourceOf (Image name)) → Contains (filter_map image_name origins) name
found_names [] name h = absurd (contains_nil (SourceOf (Image name)) h)
found_names (origin ∷ origins) name h = elim (contains_cases origin (SourceOf (Image name)) origins h) [
  | inl same ↦ subst (λ o. Contains (filter_map image_name (o ∷ origins)) name) same (contains_here name (filter_map image_name origins))
  | inr more ↦ by (image_name origin) (found_names origins name more)
]
  where
    by : (found : Option (List ℕ)) → Contains (filter_map image_name origins) name → Contains (cons_option found (filter_map image_name origins)) name
    by None g = g
    by (Some other) g = contains_there other name (filter_map image_name origins) g

abbrev naming_of : ℕ → Bool → List ℕ → Naming
naming_of line needed name = record { name = name; line = line; needed = needed }

on_found : (line : ℕ) (needed : Bool) (origins : List Origin) (naming : Naming) → Contains (namings_on line needed origins) naming
    → Contains origins (SourceOf (Image naming.name)) × (naming ≡ naming_of line needed naming.name)
on_found line needed origins naming h =
    let found = in_map (naming_of line needed) (each_once (filter_map image_name origins)) naming h in
    let name : found.0 ≡ naming.name = sym (ap (λ (n : Naming). n.name) found.2) in (
      names_found origins naming.name (subst (Contains (filter_map image_name origins)) name (has_once (filter_map image_name origins) found.0 found.1)),
      found.2 ∙ ap (naming_of line needed) name,
    )

found_on : (line : ℕ) (needed : Bool) (origins : List Origin) (name : List ℕ) → Contains origins (SourceOf (Image name))
    → Contains (namings_on line needed origins) (naming_of line needed name)
found_on line needed origins name h =
    map_in (naming_of line needed) (each_once (filter_map image_name origins)) name (once_has (filter_map image_name origins) name (found_names origins name h))

-- an instruction of a stage names an image
record IsInside (needed : Bool) (rs : List ResolvedInstruction) (naming : Naming) : Type 0 where
  r : ResolvedInstruction
  there : Contains rs r
  named : Contains r.origins (SourceOf (Image naming.name))
  same : naming ≡ naming_of r.instruction.line needed naming.name

inside_found : (needed : Bool) (rs : List ResolvedInstruction) (naming : Naming) → Contains (namings_inside needed rs) naming → IsInside needed rs naming
inside_found needed [] naming h = absurd (contains_nil naming h)
inside_found needed (r ∷ rs) naming h = elim (Contains-append_cases (namings_on r.instruction.line needed r.origins) (namings_inside needed rs) naming h) [
  | inl here ↦
      let on = on_found r.instruction.line needed r.origins naming here in
      record { r = r; there = contains_here r rs; named = on.0; same = on.1 }
  | inr more ↦
      let inside = inside_found needed rs naming more in
      record { r = inside.r; there = contains_there r inside.r rs inside.there; named = inside.named; same = inside.same }
]

found_inside : (needed : Bool) (rs : List ResolvedInstruction) (r : ResolvedInstruction) (name : List ℕ) → Contains rs r → Contains r.origins (SourceOf (Image name))
    → Contains (namings_inside needed rs) (naming_of r.instruction.line needed name)
found_inside needed [] r name there named = absurd (contains_nil r there)
found_inside needed (first ∷ rs) r name there named = elim (contains_cases first r rs there) [
  | inl same ↦
      subst (λ (x : ResolvedInstruction). Contains (namings_on x.instruction.line needed x.origins ++ namings_inside needed rs) (naming_of r.instruction.line needed name)) same
      (Contains-append_left (namings_on r.instruction.line needed r.origins) (namings_inside needed rs) (naming_of r.instruction.line needed name)
      (found_on r.instruction.line needed r.origins name named))
  | inr more ↦
      Contains-append_right (namings_on first.instruction.line needed first.origins) (namings_inside needed rs) (naming_of r.instruction.line needed name)
      (found_inside needed rs r name more named)
]

-- an instruction on a line of a stage names an image
abbrev StageNames : ResolvedStage → List ℕ → ℕ → Type 0
StageNames stage name line = BeginsWith stage name line ⊎ InstructionNames stage name line

stage_found : (needed : Bool) (stage : ResolvedStage) (naming : Naming) → Contains (stage_namings needed stage) naming
    → (naming.needed ≡ needed) × StageNames stage naming.name naming.line
stage_found needed stage naming h = elim (Contains-append_cases (namings_on stage.line needed (stage.base ∷ [])) (namings_inside needed stage.instructions) naming h) [
  | inl here ↦
      let on = on_found stage.line needed (stage.base ∷ []) naming here in (
        ap (λ (n : Naming). n.needed) on.1,
        inl (
          sym (ap (λ (n : Naming). n.line) on.1),
          elim (contains_cases stage.base (SourceOf (Image naming.name)) [] on.0) [
            | inl same ↦ sym same
            | inr none ↦ absurd (contains_nil (SourceOf (Image naming.name)) none)
          ],
        ),
      )
  | inr more ↦
      let inside = inside_found needed stage.instructions naming more in (
        ap (λ (n : Naming). n.needed) inside.same,
        inr (record { instruction = inside.r; there = inside.there; on = sym (ap (λ (n : Naming). n.line) inside.same); named = inside.named }),
      )
]

found_stage : (needed : Bool) (stage : ResolvedStage) (name : List ℕ) (line : ℕ) → StageNames stage name line
    → Contains (stage_namings needed stage) (naming_of line needed name)
found_stage needed stage name line (inl begins) =
    subst (λ l. Contains (stage_namings needed stage) (naming_of l needed name)) begins.0
    (Contains-append_left (namings_on stage.line needed (stage.base ∷ [])) (namings_inside needed stage.instructions) (naming_of stage.line needed name)
    (found_on stage.line needed (stage.base ∷ []) name (subst (Contains (stage.base ∷ [])) begins.1 (contains_here stage.base []))))
found_stage needed stage name line (inr names) =
    subst (λ l. Contains (stage_namings needed stage) (naming_of l needed name)) names.on
    (Contains-append_right (namings_on stage.line needed (stage.base ∷ [])) (namings_inside needed stage.instructions) (naming_of names.instruction.instruction.line needed name)
    (found_inside needed stage.instructions names.instruction name names.there names.named))

-- a stage of these names an image; the first of them has this number
record IsNaming (marks : List Bool) (number : ℕ) (stages : List ResolvedStage) (naming : Naming) : Type 0 where
  place : ℕ
  stage : ResolvedStage
  there : slice_get stages place ≡ Some stage
  needed : naming.needed ≡ is_marked marks (number + place)
  names : StageNames stage naming.name naming.line

from_found : (marks : List Bool) (number : ℕ) (stages : List ResolvedStage) (naming : Naming) → Contains (namings_from marks number stages) naming
    → IsNaming marks number stages naming
from_found marks number [] naming h = absurd (contains_nil naming h)
from_found marks number (stage ∷ stages) naming h =
    elim (Contains-append_cases (stage_namings (is_marked marks number) stage) (namings_from marks (number + 1) stages) naming h) [
      | inl here ↦
          let found = stage_found (is_marked marks number) stage naming here in
          let same : number ≡ number + 0 = omega arith in
          record { place = 0; stage = stage; there = refl; needed = found.0 ∙ ap (is_marked marks) same; names = found.1 }
      | inr more ↦
          let found = from_found marks (number + 1) stages naming more in
          let same : number + 1 + found.place ≡ number + suc found.place = omega arith in
          record { place = suc found.place; stage = found.stage; there = found.there; needed = found.needed ∙ ap (is_marked marks) same; names = found.names }
    ]

found_from : (marks : List Bool) (number : ℕ) (stages : List ResolvedStage) (k : ℕ) (stage : ResolvedStage) (name : List ℕ) (line : ℕ)
    → slice_get stages k ≡ Some stage → StageNames stage name line
    → Contains (namings_from marks number stages) (naming_of line (is_marked marks (number + k)) name)
found_from marks number [] k stage name line there names = absurd cc
found_from marks number (first ∷ stages) zero stage name line there names =
    let same : first ≡ stage = cc in
    let start : number ≡ number + 0 = omega arith in
    Contains-append_left (stage_namings (is_marked marks number) first) (namings_from marks (number + 1) stages) (naming_of line (is_marked marks (number + 0)) name)
    (subst (λ (n : ℕ). Contains (stage_namings (is_marked marks number) first) (naming_of line (is_marked marks n) name)) start
    (subst (λ (s : ResolvedStage). Contains (stage_namings (is_marked marks number) s) (naming_of line (is_marked marks number) name)) (sym same)
    (found_stage (is_marked marks number) stage name line names)))
found_from marks number (first ∷ stages) (suc k) stage name line there names =
    let same : number + 1 + k ≡ number + suc k = omega arith in
    Contains-append_right (stage_namings (is_marked marks number) first) (namings_from marks (number + 1) stages) (naming_of line (is_marked marks (number + suc k)) name)
    (subst (λ (n : ℕ). Contains (namings_from marks (number + 1) stages) (naming_of line (is_marked marks n) name)) same
    (found_from marks (number + 1) stages k stage name line there names))

-- ---- what a stage names

inside_origins : (rs : List ResolvedInstruction) (r : ResolvedInstruction) (origin : Origin) → Contains rs r → Contains r.origins origin → Contains (origins_in rs) origin
inside_origins [] r origin there named = absurd (contains_nil r there)
inside_origins (first ∷ rs) r origin there named = elim (contains_cases first r rs there) [
  | inl same ↦ Contains-append_left first.origins (origins_in rs) origin (subst (λ (x : ResolvedInstruction). Contains x.origins origin) same named)
  | inr more ↦ Contains-append_right first.origins (origins_in rs) origin (inside_origins rs r origin more named)
]

origins_inside : (rs : List ResolvedInstruction) (origin : Origin) → Contains (origins_in rs) origin → (r : ResolvedInstruction) × Contains rs r × Contains r.origins origin
origins_inside [] origin h = absurd (contains_nil origin h)
origins_inside (first ∷ rs) origin h = elim (Contains-append_cases first.origins (origins_in rs) origin h) [
  | inl here ↦ (first, contains_here first rs, here)
  | inr more ↦ let found = origins_inside rs origin more in (found.0, contains_there first found.0 rs found.1, found.2)
]

names_origin : (stage : ResolvedStage) (name : List ℕ) (line : ℕ) → StageNames stage name line → Contains (stage_origins stage) (SourceOf (Image name))
names_origin stage name line (inl begins) =
    subst (Contains (stage_origins stage)) begins.1 (contains_here stage.base (origins_in stage.instructions))
names_origin stage name line (inr names) =
    contains_there stage.base (SourceOf (Image name)) (origins_in stage.instructions)
    (inside_origins stage.instructions names.instruction (SourceOf (Image name)) names.there names.named)

origin_names : (stage : ResolvedStage) (name : List ℕ) → Contains (stage_origins stage) (SourceOf (Image name)) → (line : ℕ) × StageNames stage name line
origin_names stage name h = elim (contains_cases stage.base (SourceOf (Image name)) (origins_in stage.instructions) h) [
  | inl same ↦ (stage.line, inl (refl, sym same))
  | inr more ↦
      let found = origins_inside stage.instructions (SourceOf (Image name)) more in
      (found.0.instruction.line, inr (record { instruction = found.0; there = found.1; on = refl; named = found.2 }))
]

-- ---- the laws

abbrev all_namings : List Bool → List ResolvedStage → List Naming
all_namings marks stages = namings_from marks 0 stages

abbrev name_in : Naming → List ℕ
name_in naming = naming.name

abbrev key : List ℕ × ImageUse → List ℕ
key row = row.0

abbrev line_in : Naming → ℕ
line_in naming = naming.line

abbrev is_needed : List ℕ → Naming → Bool
is_needed name naming = is_of name naming && naming.needed

-- a name that is named has its row
named_row : (namings : List Naming) (naming : Naming) → Contains namings naming → Contains (map key (uses_of namings)) naming.name
named_row namings naming h =
    map_in key (uses_of namings) (naming.name, use_of namings naming.name)
    (map_in (λ name. (name, use_of namings name)) (each_once (map name_in namings)) naming.name
    (once_has (map name_in namings) naming.name (map_in name_in namings naming h)))

row_named : (namings : List Naming) (name : List ℕ) → Contains (map key (uses_of namings)) name → (naming : Naming) × Contains namings naming × (naming.name ≡ name)
row_named namings name h =
    let row = in_map key (uses_of namings) name h in
    let once = in_map (λ name. (name, use_of namings name)) (each_once (map name_in namings)) row.0 row.1 in
    let naming = in_map name_in namings once.0 (has_once (map name_in namings) once.0 once.1) in
    (naming.0, naming.1, sym (row.2 ∙ ap key once.2 ∙ naming.2))

-- a row has the use of its name
row_use : (namings : List Naming) (name : List ℕ) (used : ImageUse) → Contains (uses_of namings) (name, used) → used ≡ use_of namings name
row_use namings name used h =
    let once = in_map (λ name. (name, use_of namings name)) (each_once (map name_in namings)) (name, used) h in
    ap (λ (row : List ℕ × ImageUse). row.1) once.2 ∙ ap (use_of namings) (sym (ap key once.2))

pub images_named : (marks : List Bool) (stages : List ResolvedStage) (name : List ℕ)
    → (Contains (map key (images_of marks stages)) name → NamesImage stages name) × (NamesImage stages name → Contains (map key (images_of marks stages)) name)
images_named marks stages name = (there, back)
  where
    there : Contains (map key (images_of marks stages)) name → NamesImage stages name
    there h =
        let row = row_named (all_namings marks stages) name h in
        let found = from_found marks 0 stages row.0 row.1 in
        record {
          number = found.place;
          stage = found.stage;
          there = found.there;
          named = subst (λ (n : List ℕ). Contains (stage_origins found.stage) (SourceOf (Image n))) row.2 (names_origin found.stage row.0.name row.0.line found.names);
        }

    back : NamesImage stages name → Contains (map key (images_of marks stages)) name
    back names =
        let line = origin_names names.stage name names.named in
        named_row (all_namings marks stages) (naming_of line.0 (is_marked marks (0 + names.number)) name)
        (found_from marks 0 stages names.number names.stage name line.0 names.there line.1)

pub images_on_lines : (marks : List Bool) (stages : List ResolvedStage) (name : List ℕ) (used : ImageUse) → Contains (images_of marks stages) (name, used) → (line : ℕ)
    → (Contains used.lines line → NamesOnLine stages name line) × (NamesOnLine stages name line → Contains used.lines line)
images_on_lines marks stages name used row line = (there, back)
  where
    there : Contains used.lines line → NamesOnLine stages name line
    there h =
        let lines : used.lines ≡ map line_in (filter (is_of name) (all_namings marks stages)) = ap (λ (u : ImageUse). u.lines) (row_use (all_namings marks stages) name used row) in
        let found = in_map line_in (filter (is_of name) (all_namings marks stages)) line (subst (λ (ls : List ℕ). Contains ls line) lines h) in
        let naming = from_found marks 0 stages found.0 (contains_unfilter (is_of name) (all_namings marks stages) found.0 found.1) in
        let called : found.0.name ≡ name = same_bytes found.0.name name (filter_true (is_of name) (all_namings marks stages) found.0 found.1) in
        record {
          stage = naming.stage;
          there = of_at stages naming.place naming.stage naming.there;
          names = subst (λ (n : List ℕ). StageNames naming.stage n line) called (subst (λ (l : ℕ). StageNames naming.stage found.0.name l) (sym found.2) naming.names);
        }

    back : NamesOnLine stages name line → Contains used.lines line
    back names =
        let found_at = at_of stages names.stage names.there in
        let naming : Naming = naming_of line (is_marked marks (0 + found_at.0)) name in
        let found : Contains (all_namings marks stages) naming = found_from marks 0 stages found_at.0 names.stage name line found_at.1 names.names in
        subst (λ (u : ImageUse). Contains u.lines line) (sym (row_use (all_namings marks stages) name used row))
        (map_in line_in (filter (is_of name) (all_namings marks stages)) naming (contains_filter (is_of name) (all_namings marks stages) naming (bytes_itself name) found))

nothing_before : (k : ℕ) → 0 + k ≡ k
nothing_before k = omega arith

both_true : (a b : Bool) → (a && b) ≡ true → (a ≡ true) × (b ≡ true)
both_true true b e = (refl, e)
both_true false b e = absurd (true≢false (sym e))

true_both : (a b : Bool) → a ≡ true → b ≡ true → (a && b) ≡ true
true_both true b e f = f
true_both false b e f = absurd (true≢false (sym e))

pub images_needed : (marks : List Bool) (stages : List ResolvedStage) (target : ℕ) (name : List ℕ) (used : ImageUse) → AreNeeded stages target marks
    → Contains (images_of marks stages) (name, used)
    → (used.needed ≡ true → NeedsImage stages target name) × (NeedsImage stages target name → used.needed ≡ true)
images_needed marks stages target name used are row = (there, back)
  where
    same : used.needed ≡ list_any (is_needed name) (all_namings marks stages)
    same = ap (λ (u : ImageUse). u.needed) (row_use (all_namings marks stages) name used row)

    there : used.needed ≡ true → NeedsImage stages target name
    there h =
        let found = any_found (is_needed name) (all_namings marks stages) (sym same ∙ h) in
        let both = both_true (is_of name found.0) found.0.needed found.2 in
        let naming = from_found marks 0 stages found.0 found.1 in
        let called : found.0.name ≡ name = same_bytes found.0.name name both.0 in
        record {
          number = naming.place;
          stage = naming.stage;
          there = naming.there;
          needed = (are.just naming.place).0 (ap (is_marked marks) (sym (nothing_before naming.place)) ∙ sym naming.needed ∙ both.1);
          named = subst (λ (n : List ℕ). Contains (stage_origins naming.stage) (SourceOf (Image n))) called (names_origin naming.stage found.0.name found.0.line naming.names);
        }

    back : NeedsImage stages target name → used.needed ≡ true
    back needs =
        let line = origin_names needs.stage name needs.named in
        let naming : Naming = naming_of line.0 (is_marked marks (0 + needs.number)) name in
        let found : Contains (all_namings marks stages) naming = found_from marks 0 stages needs.number needs.stage name line.0 needs.there line.1 in
        same ∙ found_any (is_needed name) (all_namings marks stages) naming found (true_both (is_of name naming) naming.needed (bytes_itself name) (ap (is_marked marks) (nothing_before needs.number) ∙ (are.just needs.number).1 needs.needed))
