-- Instructions and stages that were lowered.
use Rattle.std.proofs.Common.{◌≡◌, ◌<◌, ◌+◌, ◌*◌, ℕ, true, false, List, [], ◌∷◌, ◌++◌, length, Option, Result, Ok, Err, IfOk, refl, sym, ap, ◌∙◌}
use Rattle.std.proofs.Common.{subst, arith, length-append, append_assoc, append-nil}
use Rattle.std.specs.List.{All}
use Rattle.std.proofs.lemmas.List.Elements.{All-head, All-tail}
use Rattle.plain.specs.declared.memory.Memory.{Memory}
use Rattle.llb.specs.declared.op.Exec.{Exec}
use Rattle.llb.specs.declared.op.CopyFiles.{CopyFiles}
use Rattle.llb.specs.declared.op.Source.TheVariants.{Scratch}
use Rattle.llb.specs.declared.op.Op.{Op}
use Rattle.llb.specs.declared.op.Op.TheVariants.{Source as SourceOp, Exec as ExecOp, Copy as CopyOp, MakeDirs as MakeDirsOp, Merge as MergeOp}
use Rattle.llb.specs.Graph.{GraphValue}
use Rattle.plans.specs.Sources.{SourcesValue, HasSource}
use Rattle.rows.specs.declared.row.Origin.{Origin}
use Rattle.rows.specs.declared.row.Action.TheVariants.{Run, Copy, MakeDirs}
use Rattle.rows.specs.declared.row.Step.{Step}
use Rattle.rows.specs.declared.row.Stage.{Stage}
use Rattle.lowering.specs.Meaning.{listed}
use Rattle.lowering.specs.Vertices.{Tips, Places, origin_places, IsLowered, AreLowered}
use Rattle.rows.specs.WellFormed.{HasTree, NamesOnly, StageNames, IsStep}
use Rattle.lowering.specs.PrivateRoom.{HasRoom, RoomFor}
use Rattle.lowering.specs.PrivateGrowth.{AreInside, HasTip, IsPut, IsOriginPut, IsOperationPut, IsStepPut, AreStepsPut, IsStagePut}
use Rattle.lowering.proofs.Fronts.{vertex_kept, origin_kept, operation_kept, steps_kept, front_then}
use Rattle.lowering.proofs.Growing.{grows_none, grows_both, inside_more}
use Rattle.lowering.proofs.InputFacts.{put_inside, none_left, All-front, All-last}
use Rattle.lowering.proofs.Rooms.{room_less}

-- an instruction of one operation
pub run_ok : (old new : GraphValue) (tips : Tips) (line base : ℕ) (exec : Exec) (from origins : List Origin) (result : Result ℕ Memory)
    → origins ≡ from → IfOk result (IsOperationPut old new tips line base (ExecOp exec) origins)
    → IfOk result (IsStepPut old new tips base (record { line = line; action = Run exec from }))
run_ok old new tips line base exec from origins (Ok id) same put =
    let is : IsOperationPut old new tips line base (ExecOp exec) from id = subst (λ os. IsOperationPut old new tips line base (ExecOp exec) os id) same put in
    record {
      places = is.places;
      is = is.is;
      grows = is.grows;
      inside = is.inside;
      uses = λ s left has room. is.uses s left has (room_less s old (left + 2) (left + 1) room (omega arith));
    }
run_ok old new tips line base exec from origins (Err fault) same put = tt

pub copy_ok : (old new : GraphValue) (tips : Tips) (line base : ℕ) (files : CopyFiles) (from : Option Origin) (origins : List Origin)
    (result : Result ℕ Memory) → origins ≡ listed from → IfOk result (IsOperationPut old new tips line base (CopyOp files) origins)
    → IfOk result (IsStepPut old new tips base (record { line = line; action = Copy files from false }))
copy_ok old new tips line base files from origins (Ok id) same put =
    let is : IsOperationPut old new tips line base (CopyOp files) (listed from) id =
    subst (λ os. IsOperationPut old new tips line base (CopyOp files) os id) same put in
    record {
      places = is.places;
      is = is.is;
      grows = is.grows;
      inside = is.inside;
      uses = λ s left has room. is.uses s left has (room_less s old (left + 2) (left + 1) room (omega arith));
    }
copy_ok old new tips line base files from origins (Err fault) same put = tt

pub dirs_ok : (old new : GraphValue) (tips : Tips) (line base : ℕ) (path : List (List ℕ)) (origins : List Origin) (result : Result ℕ Memory)
    → origins ≡ [] → IfOk result (IsOperationPut old new tips line base (MakeDirsOp path) origins)
    → IfOk result (IsStepPut old new tips base (record { line = line; action = MakeDirs path }))
dirs_ok old new tips line base path origins (Ok id) same put =
    let is : IsOperationPut old new tips line base (MakeDirsOp path) [] id =
    subst (λ os. IsOperationPut old new tips line base (MakeDirsOp path) os id) same put in
    record {
      places = is.places;
      is = is.is;
      grows = is.grows;
      inside = is.inside;
      uses = λ s left has room. is.uses s left (λ k d lt. absurd (omega (arith, lt))) (room_less s old (left + 2) (left + 1) room (omega arith));
    }
dirs_ok old new tips line base path origins (Err fault) same put = tt

-- a linked copy: the empty tree, the copy and the merge, one after another
pub linked_ok : (a b c d : GraphValue) (tips : Tips) (line base scratch copy : ℕ) (files : CopyFiles) (from : Option Origin) (origins : List Origin)
    (nothing both : List ℕ) (result : Result ℕ Memory)
    → nothing ≡ [] → IsPut a b (SourceOp Scratch) nothing line scratch → origins ≡ listed from
    → IsOperationPut b c tips line scratch (CopyOp files) origins copy → both ≡ base ∷ (copy ∷ []) → IfOk result (IsPut c d MergeOp both line)
    → IfOk result (IsStepPut a d tips base (record { line = line; action = Copy files from true }))
linked_ok a b c d tips line base scratch copy files from origins nothing both (Ok id) is_none put_scratch same put_copy is_both put_merge =
    let first : IsPut a b (SourceOp Scratch) [] line scratch = subst (λ is. IsPut a b (SourceOp Scratch) is line scratch) is_none put_scratch in
    let second : IsOperationPut b c tips line scratch (CopyOp files) (listed from) copy =
    subst (λ os. IsOperationPut b c tips line scratch (CopyOp files) os copy) same put_copy in
    let third : IsPut c d MergeOp (base ∷ (copy ∷ [])) line id = subst (λ is. IsPut c d MergeOp is line id) is_both put_merge in
    record {
      places = (line, scratch) ∷ (second.places ++ (line, id) ∷ []);
      is = record {
        scratch = scratch;
        copy = copy;
        copied = second.places;
        empty = vertex_kept b.vertices d.vertices (SourceOp Scratch) [] scratch
            (front_then b.vertices c.vertices d.vertices second.grows.front third.grows.front) first.is;
        copies = operation_kept c.vertices d.vertices tips line scratch (CopyOp files) (listed from) copy second.places third.grows.front second.is;
        merges = third.is;
        all = refl;
      };
      grows = grows_both a b d ((line, scratch) ∷ []) (second.places ++ (line, id) ∷ []) first.grows
          (grows_both b c d second.places ((line, id) ∷ []) second.grows third.grows);
      inside = put_inside c d MergeOp (base ∷ (copy ∷ [])) line id third;
      uses = λ s left has room.
          third.uses s left tt (second.uses s (left + 1) has
          (first.uses s (left + 1 + 1) refl (room_less s a (left + 2) (left + 1 + 1 + 0) room (omega arith))));
    }
linked_ok a b c d tips line base scratch copy files from origins nothing both (Err fault) is_none put_scratch same put_copy is_both put_merge = tt

-- room on the way of a linked copy
pub scratch_room : (a : GraphValue) (origins : List Origin) → RoomFor (λ s. All (HasTree s) origins) a 2 → RoomFor (λ s. HasSource s (SourceOp Scratch)) a 0
scratch_room a origins room = record { sources = room.sources; has = refl; room = room_less room.sources a 2 0 room.room (omega arith) }

after_scratch : (a b : GraphValue) (line scratch : ℕ) (nothing : List ℕ) (s : SourcesValue) → IsPut a b (SourceOp Scratch) nothing line scratch
    → HasRoom s a 2 → HasRoom s b 2
after_scratch a b line scratch nothing s put room = put.uses s 2 refl (room_less s a 2 (2 + 0) room (omega arith))

pub copy_room : (a b : GraphValue) (line scratch : ℕ) (nothing : List ℕ) (from origins : List Origin)
    → IsPut a b (SourceOp Scratch) nothing line scratch → origins ≡ from → RoomFor (λ s. All (HasTree s) from) a 2 → RoomFor (λ s. All (HasTree s) origins) b 1
copy_room a b line scratch nothing from origins put same room = record {
  sources = room.sources;
  has = subst (All (HasTree room.sources)) (sym same) room.has;
  room = room_less room.sources b 2 1 (after_scratch a b line scratch nothing room.sources put room.room) (omega arith);
}

pub merge_room : (a b c : GraphValue) (tips : Tips) (line scratch copy : ℕ) (op : Op) (nothing : List ℕ) (from origins : List Origin)
    → IsPut a b (SourceOp Scratch) nothing line scratch → origins ≡ from → IsOperationPut b c tips line scratch op origins copy
    → RoomFor (λ s. All (HasTree s) from) a 2 → RoomFor (λ s. HasSource s MergeOp) c 1
merge_room a b c tips line scratch copy op nothing from origins put same copies room = record {
  sources = room.sources;
  has = tt;
  room = copies.uses room.sources 1 (subst (All (HasTree room.sources)) (sym same) room.has)
      (after_scratch a b line scratch nothing room.sources put room.room);
}

-- no instruction
pub steps_none : (graph : GraphValue) (tips : Tips) (base : ℕ) → base < length graph.vertices → AreStepsPut graph graph tips base [] base
steps_none graph tips base inside = record {
  places = [];
  are = (refl, refl);
  grows = grows_none graph;
  inside = inside;
  uses = λ s left has room. room_less s graph (left + 0) left room (omega arith);
}

lowered_more : (vertices : _) (tips : Tips) (base middle last : ℕ) (done : List Step) (step : Step) (before here : Places)
    → AreLowered vertices tips base done middle before → IsLowered vertices tips step.line middle step.action last here
    → AreLowered vertices tips base (done ++ step ∷ []) last (before ++ here)
lowered_more vertices tips base middle last [] step before here are is = (
  last,
  here,
  [],
  subst (λ n. IsLowered vertices tips step.line n step.action last here) are.0 is,
  (refl, refl),
  ap (λ ps. ps ++ here) are.1
      ∙ sym (append-nil here),
)
lowered_more vertices tips base middle last (first ∷ done) step before here are is = (
  are.0,
  are.1,
  are.2 ++ here,
  are.3,
  lowered_more vertices tips are.0 middle last done step are.2 here are.4 is,
  ap (λ ps. ps ++ here) are.5
      ∙ append_assoc are.1 are.2 here,
)

steps_long : (done : List Step) (step : Step) → length (done ++ step ∷ []) ≡ length done + 1
steps_long done step = length-append done (step ∷ [])

-- one instruction more
steps_more : (a b c : GraphValue) (tips : Tips) (base middle last : ℕ) (done : List Step) (step : Step) → AreStepsPut a b tips base done middle
    → IsStepPut b c tips middle step last → AreStepsPut a c tips base (done ++ step ∷ []) last
steps_more a b c tips base middle last done step are is = record {
  places = are.places ++ is.places;
  are = lowered_more c.vertices tips base middle last done step are.places is.places
      (steps_kept b.vertices c.vertices tips base done middle are.places is.grows.front are.are) is.is;
  grows = grows_both a b c are.places is.places are.grows is.grows;
  inside = is.inside;
  uses = λ s left has room.
      is.uses s left (All-last (λ (x : Step). NamesOnly (HasTree s) x.action) done step has)
      (are.uses s (left + 2) (All-front (λ (x : Step). NamesOnly (HasTree s) x.action) done step has)
      (room_less s a (left + 2 * length (done ++ step ∷ [])) (left + 2 + 2 * length done) room (omega (arith, steps_long done step))));
}

-- the first of some instructions were lowered, and those are left
pub record StepsSoFar (old new : GraphValue) (tips : Tips) (base : ℕ) (all rest : List Step) (last : ℕ) : Type 0 where
  pub done : List Step
  pub split : all ≡ done ++ rest
  pub are : AreStepsPut old new tips base done last
  pub formed : All IsStep rest
  pub named : All (λ step. NamesOnly (HasTip tips) step.action) rest
  pub inside : AreInside tips (length new.vertices)
  pub from : SourcesValue
  pub has : All (λ step. NamesOnly (HasTree from) step.action) rest
  pub room : HasRoom from new (2 * length rest)

pub steps_step : (a b c : GraphValue) (tips : Tips) (base middle last : ℕ) (all rest left : List Step) (step : Step)
    → StepsSoFar a b tips base all rest middle → rest ≡ step ∷ left → IsStepPut b c tips middle step last → StepsSoFar a c tips base all left last
steps_step a b c tips base middle last all rest left step so_far is put = record {
  done = so_far.done ++ step ∷ [];
  split = so_far.split ∙ (ap (λ ss. so_far.done ++ ss) is ∙ sym (append_assoc so_far.done (step ∷ []) left));
  are = steps_more a b c tips base middle last so_far.done step so_far.are put;
  formed = All-tail IsStep step left (subst (All IsStep) is so_far.formed);
  named = All-tail (λ (x : Step). NamesOnly (HasTip tips) x.action) step left (subst (All (λ (x : Step). NamesOnly (HasTip tips) x.action)) is so_far.named);
  inside = inside_more tips b c put.places put.grows so_far.inside;
  from = so_far.from;
  has = All-tail (λ (x : Step). NamesOnly (HasTree so_far.from) x.action) step left
      (subst (All (λ (x : Step). NamesOnly (HasTree so_far.from) x.action)) is so_far.has);
  room = put.uses so_far.from (2 * length left)
      (All-head (λ (x : Step). NamesOnly (HasTree so_far.from) x.action) step left
      (subst (All (λ (x : Step). NamesOnly (HasTree so_far.from) x.action)) is so_far.has))
      (room_less so_far.from b (2 * length rest) (2 * length left + 2) so_far.room (omega (arith, ap length is)));
}

pub steps_room : (a b : GraphValue) (tips : Tips) (base middle : ℕ) (all rest left : List Step) (step : Step)
    → StepsSoFar a b tips base all rest middle → rest ≡ step ∷ left → RoomFor (λ s. NamesOnly (HasTree s) step.action) b 2
steps_room a b tips base middle all rest left step so_far is = record {
  sources = so_far.from;
  has = All-head (λ (x : Step). NamesOnly (HasTree so_far.from) x.action) step left
      (subst (All (λ (x : Step). NamesOnly (HasTree so_far.from) x.action)) is so_far.has);
  room = room_less so_far.from b (2 * length rest) 2 so_far.room (omega (arith, ap length is));
}

pub steps_formed : (a b : GraphValue) (tips : Tips) (base middle : ℕ) (all rest left : List Step) (step : Step)
    → StepsSoFar a b tips base all rest middle → rest ≡ step ∷ left → IsStep step
steps_formed a b tips base middle all rest left step so_far is = All-head IsStep step left (subst (All IsStep) is so_far.formed)

pub steps_named : (a b : GraphValue) (tips : Tips) (base middle : ℕ) (all rest left : List Step) (step : Step)
    → StepsSoFar a b tips base all rest middle → rest ≡ step ∷ left → NamesOnly (HasTip tips) step.action
steps_named a b tips base middle all rest left step so_far is =
    All-head (λ (x : Step). NamesOnly (HasTip tips) x.action) step left (subst (All (λ (x : Step). NamesOnly (HasTip tips) x.action)) is so_far.named)

pub steps_all : (a b : GraphValue) (tips : Tips) (base last : ℕ) (all rest : List Step) → StepsSoFar a b tips base all rest last → length rest ≡ 0
    → AreStepsPut a b tips base all last
steps_all a b tips base last all rest so_far over =
    let whole : so_far.done ≡ all = sym (so_far.split ∙ (ap (λ ss. so_far.done ++ ss) (none_left rest over) ∙ append-nil so_far.done)) in
    subst (λ ss. AreStepsPut a b tips base ss last) whole so_far.are

-- a stage is its FROM and then its instructions
pub stage_ok : (a b c : GraphValue) (tips : Tips) (stage : Stage) (base : ℕ) (steps : List Step) (result : Result ℕ Memory)
    → IsOriginPut a b tips stage.line stage.base base → steps ≡ stage.steps → IfOk result (AreStepsPut b c tips base steps)
    → IfOk result (IsStagePut a c tips stage)
stage_ok a b c tips stage base steps (Ok last) is same put =
    let are : AreStepsPut b c tips base stage.steps last = subst (λ ss. AreStepsPut b c tips base ss last) same put in
    record {
      places = origin_places stage.line stage.base base ++ are.places;
      is = record {
        base = base;
        others = are.places;
        begins = origin_kept b.vertices c.vertices tips stage.base base are.grows.front is.is;
        steps = are.are;
        all = refl;
      };
      grows = grows_both a b c (origin_places stage.line stage.base base) are.places is.grows are.grows;
      inside = are.inside;
      uses = λ s left has room.
          are.uses s left has.steps
          (is.uses s (left + 2 * length stage.steps) has.base
          (room_less s a (left + 2 * length stage.steps) (left + 2 * length stage.steps + 0) room (omega arith)));
    }
stage_ok a b c tips stage base steps (Err fault) is same put = tt

pub base_room : (a : GraphValue) (stage : Stage) → RoomFor (λ s. StageNames (HasTree s) stage) a (2 * length stage.steps)
    → RoomFor (λ s. HasTree s stage.base) a 0
base_room a stage room =
    record { sources = room.sources; has = room.has.base; room = room_less room.sources a (2 * length stage.steps) 0 room.room (omega arith) }

pub stage_room : (a b : GraphValue) (tips : Tips) (stage : Stage) (base : ℕ) (steps : List Step) → IsOriginPut a b tips stage.line stage.base base
    → steps ≡ stage.steps → RoomFor (λ s. StageNames (HasTree s) stage) a (2 * length stage.steps)
    → RoomFor (λ s. All (λ step. NamesOnly (HasTree s) step.action) steps) b (2 * length steps)
stage_room a b tips stage base steps is same room =
    subst (λ (ss : List Step). RoomFor (λ s. All (λ step. NamesOnly (HasTree s) step.action) ss) b (2 * length ss)) (sym same) (record {
      sources = room.sources;
      has = room.has.steps;
      room = is.uses room.sources (2 * length stage.steps) room.has.base
          (room_less room.sources a (2 * length stage.steps) (2 * length stage.steps + 0) room.room (omega arith));
    })

-- where nothing is named
pub no_names_room : (a : GraphValue) (names : SourcesValue → Type 0) (origins : List Origin) → origins ≡ [] → RoomFor names a 2
    → RoomFor (λ s. All (HasTree s) origins) a 1
no_names_room a names origins none room = subst (λ os. RoomFor (λ s. All (HasTree s) os) a 1) (sym none) (record {
  sources = room.sources;
  has = λ k d lt. absurd (omega (arith, lt));
  room = room_less room.sources a 2 1 room.room (omega arith);
})
