-- The vertices of what an instruction names, and an operation on them.
use Rattle.std.proofs.Common.{◌≡◌, ◌<◌, ◌≤◌, ◌+◌, ℕ, suc, List, [], ◌∷◌, ◌++◌, length, Some, Result, Ok, Err, IfOk, refl, sym, ap, ◌∙◌, subst, arith}
use Rattle.std.proofs.Common.{append_assoc, append-nil}
use Rattle.std.specs.Prelude.{slice_get}
use Rattle.std.specs.List.{All, AllZip}
use Rattle.std.proofs.lemmas.List.Elements.{All-push, All-weaker, All-cons, All-nil, All-head, All-tail}
use Rattle.std.proofs.lemmas.Option.{slice_get_within}
use Rattle.plain.specs.declared.memory.Memory.{Memory}
use Rattle.llb.specs.declared.op.Source.{Source}
use Rattle.llb.specs.declared.op.Op.{Op}
use Rattle.llb.specs.declared.op.Op.TheVariants.{Source as SourceOp, Exec as ExecOp, Copy as CopyOp, MakeDirs as MakeDirsOp, Merge as MergeOp}
use Rattle.llb.specs.declared.vertex.Vertex.{Vertex}
use Rattle.llb.specs.Graph.{GraphValue}
use Rattle.plans.specs.Sources.{SourcesValue, HasSource}
use Rattle.rows.specs.declared.row.Origin.{Origin}
use Rattle.rows.specs.declared.row.Origin.TheVariants.{Source as SourceOf, Stage as StageOf}
use Rattle.lowering.specs.Vertices.{Tips, IsVertex, IsOrigin, origin_places, origins_places}
use Rattle.rows.specs.WellFormed.{HasTree}
use Rattle.lowering.specs.PrivateRoom.{op_others, HasRoom, RoomFor}
use Rattle.lowering.specs.PrivateGrowth.{AreInside, HasTip, IsPut, IsOriginPut, AreInputsPut, IsOperationPut}
use Rattle.lowering.proofs.Fronts.{origins_kept}
use Rattle.lowering.proofs.Growing.{grows_none, grows_both, grows_is, grows_long, inside_more}
use Rattle.lowering.proofs.Rooms.{room_less}

pub put_inside : (old new : GraphValue) (op : Op) (inputs : List ℕ) (line id : ℕ) → IsPut old new op inputs line id → id < length new.vertices
put_inside old new op inputs line id put = slice_get_within new.vertices id (record { op = op; inputs = inputs }) put.is

-- a source's vertex
source_put : (old new : GraphValue) (tips : Tips) (source : Source) (line id : ℕ) → IsPut old new (SourceOp source) [] line id
    → IsOriginPut old new tips line (SourceOf source) id
source_put old new tips source line id put = record {
  is = put.is;
  grows = put.grows;
  inside = put_inside old new (SourceOp source) [] line id put;
  uses = put.uses;
}

pub source_ok : (old new : GraphValue) (tips : Tips) (source : Source) (line : ℕ) (inputs : List ℕ) (result : Result ℕ Memory) → inputs ≡ []
    → IfOk result (IsPut old new (SourceOp source) inputs line) → IfOk result (IsOriginPut old new tips line (SourceOf source))
source_ok old new tips source line inputs (Ok id) none put =
    source_put old new tips source line id (subst (λ is. IsPut old new (SourceOp source) is line id) none put)
source_ok old new tips source line inputs (Err fault) none put = tt

-- a stage's last vertex
pub tip_is : (graph : GraphValue) (tips : Tips) (line number id : ℕ) → AreInside tips (length graph.vertices) → slice_get tips number ≡ Some (Some id)
    → IsOriginPut graph graph tips line (StageOf number) id
tip_is graph tips line number id inside there = record {
  is = there;
  grows = grows_none graph;
  inside = inside number id there;
  uses = λ s left has room. room_less s graph (left + 0) left room (omega arith);
}

pub All-front : {X : Type 0} (P : X → Type 0) (xs : List X) (x : X) → All P (xs ++ x ∷ []) → All P xs
All-front P [] x all = All-nil P
All-front P (y ∷ ys) x all = All-cons P y ys (All-head P y (ys ++ x ∷ []) all) (All-front P ys x (All-tail P y (ys ++ x ∷ []) all))

pub All-last : {X : Type 0} (P : X → Type 0) (xs : List X) (x : X) → All P (xs ++ x ∷ []) → P x
All-last P [] x all = All-head P x [] all
All-last P (y ∷ ys) x all = All-last P ys x (All-tail P y (ys ++ x ∷ []) all)

pub none_left : {X : Type 0} (xs : List X) → length xs ≡ 0 → xs ≡ []
none_left [] e = refl
none_left (x ∷ xs) e = absurd (omega (arith, e))

zip_push : {X Y : Type 0} (R : X → Y → Type 0) (xs : List X) (ys : List Y) (x : X) (y : Y) → AllZip R xs ys → R x y → AllZip R (xs ++ x ∷ []) (ys ++ y ∷ [])
zip_push R [] [] x y all r = (r, tt)
zip_push R [] (z ∷ zs) x y all r = absurd all
zip_push R (z ∷ zs) [] x y all r = absurd all
zip_push R (w ∷ ws) (z ∷ zs) x y all r = (all.0, zip_push R ws zs x y all.1 r)

zip_long : {X Y : Type 0} (R : X → Y → Type 0) (xs : List X) (ys : List Y) → AllZip R xs ys → length ys ≡ length xs
zip_long R [] [] all = refl
zip_long R [] (y ∷ ys) all = absurd all
zip_long R (x ∷ xs) [] all = absurd all
zip_long R (x ∷ xs) (y ∷ ys) all = ap suc (zip_long R xs ys all.1)

origins_places-push : (vertices : List Vertex) (tips : Tips) (line : ℕ) (origins : List Origin) (ids : List ℕ) (origin : Origin) (id : ℕ)
    → AllZip (IsOrigin vertices tips) origins ids
    → origins_places line (origins ++ origin ∷ []) (ids ++ id ∷ []) ≡ origins_places line origins ids ++ origin_places line origin id
origins_places-push vertices tips line [] [] origin id all = append-nil (origin_places line origin id)
origins_places-push vertices tips line [] (i ∷ is) origin id all = absurd all
origins_places-push vertices tips line (o ∷ os) [] origin id all = absurd all
origins_places-push vertices tips line (o ∷ os) (i ∷ is) origin id all =
    ap (λ ps. origin_places line o i ++ ps) (origins_places-push vertices tips line os is origin id all.1)
    ∙ sym (append_assoc (origin_places line o i) (origins_places line os is) (origin_places line origin id))

-- the first input alone
pub inputs_none : (graph : GraphValue) (tips : Tips) (line base : ℕ) (inputs : List ℕ) → base < length graph.vertices → inputs ≡ base ∷ []
    → AreInputsPut graph graph tips line base [] inputs
inputs_none graph tips line base inputs inside is = record {
  named = [];
  all = is;
  are = tt;
  grows = grows_none graph;
  inside = subst (All (λ id. id < length graph.vertices)) (sym is)
      (All-cons (λ id. id < length graph.vertices) base [] inside (All-nil (λ id. id < length graph.vertices)));
  uses = λ s left has room. room_less s graph (left + 0) left room (omega arith);
}

-- one more
inputs_more : (a b c : GraphValue) (tips : Tips) (line base : ℕ) (origins : List Origin) (origin : Origin) (inputs more : List ℕ) (id : ℕ)
    → AreInputsPut a b tips line base origins inputs → IsOriginPut b c tips line origin id → more ≡ inputs ++ id ∷ []
    → AreInputsPut a c tips line base (origins ++ origin ∷ []) more
inputs_more a b c tips line base origins origin inputs more id are put added =
    let long : length b.vertices ≤ length c.vertices = grows_long b c (origin_places line origin id) put.grows in
    let kept : All (λ i. i < length c.vertices) inputs =
    All-weaker (λ i. i < length b.vertices) (λ i. i < length c.vertices) (λ i lt. omega (arith, lt, long)) inputs are.inside in
    record {
      named = are.named ++ id ∷ [];
      all = added ∙ ap (λ is. is ++ id ∷ []) are.all;
      are = zip_push (IsOrigin c.vertices tips) origins are.named origin id
          (origins_kept b.vertices c.vertices tips origins are.named put.grows.front are.are) put.is;
      grows = grows_is a c _ _ (grows_both a b c (origins_places line origins are.named) (origin_places line origin id) are.grows put.grows)
          (origins_places-push b.vertices tips line origins are.named origin id are.are);
      inside = subst (All (λ i. i < length c.vertices)) (sym added) (All-push (λ i. i < length c.vertices) inputs id kept put.inside);
      uses = λ s left has room.
          put.uses s left (All-last (HasTree s) origins origin has) (room_less s b left (left + 0)
          (are.uses s left (All-front (HasTree s) origins origin has) room) (omega arith));
    }

-- the inputs for the first of some names, and the names that are left
pub record InputsSoFar (old new : GraphValue) (tips : Tips) (line base : ℕ) (all rest : List Origin) (inputs : List ℕ) : Type 0 where
  pub done : List Origin
  pub split : all ≡ done ++ rest
  pub are : AreInputsPut old new tips line base done inputs
  pub named : All (HasTip tips) rest
  pub inside : AreInside tips (length new.vertices)
  pub from : SourcesValue
  pub has : All (HasTree from) rest
  pub room : HasRoom from new 0

pub inputs_step : (a b c : GraphValue) (tips : Tips) (line base : ℕ) (all rest left : List Origin) (origin : Origin) (inputs more : List ℕ) (id : ℕ)
    → InputsSoFar a b tips line base all rest inputs → rest ≡ origin ∷ left → IsOriginPut b c tips line origin id → more ≡ inputs ++ id ∷ []
    → InputsSoFar a c tips line base all left more
inputs_step a b c tips line base all rest left origin inputs more id so_far is put added = record {
  done = so_far.done ++ origin ∷ [];
  split = so_far.split ∙ (ap (λ os. so_far.done ++ os) is ∙ sym (append_assoc so_far.done (origin ∷ []) left));
  are = inputs_more a b c tips line base so_far.done origin inputs more id so_far.are put added;
  named = All-tail (HasTip tips) origin left (subst (All (HasTip tips)) is so_far.named);
  inside = inside_more tips b c (origin_places line origin id) put.grows so_far.inside;
  from = so_far.from;
  has = All-tail (HasTree so_far.from) origin left (subst (All (HasTree so_far.from)) is so_far.has);
  room = put.uses so_far.from 0 (All-head (HasTree so_far.from) origin left (subst (All (HasTree so_far.from)) is so_far.has)) so_far.room;
}

pub inputs_named : (a b : GraphValue) (tips : Tips) (line base : ℕ) (all rest left : List Origin) (origin : Origin) (inputs : List ℕ)
    → InputsSoFar a b tips line base all rest inputs → rest ≡ origin ∷ left → HasTip tips origin
inputs_named a b tips line base all rest left origin inputs so_far is = All-head (HasTip tips) origin left (subst (All (HasTip tips)) is so_far.named)

pub inputs_room : (a b : GraphValue) (tips : Tips) (line base : ℕ) (all rest left : List Origin) (origin : Origin) (inputs : List ℕ)
    → InputsSoFar a b tips line base all rest inputs → rest ≡ origin ∷ left → RoomFor (λ s. HasTree s origin) b 0
inputs_room a b tips line base all rest left origin inputs so_far is =
    record { sources = so_far.from; has = All-head (HasTree so_far.from) origin left (subst (All (HasTree so_far.from)) is so_far.has); room = so_far.room }

pub inputs_all : (a b : GraphValue) (tips : Tips) (line base : ℕ) (all rest : List Origin) (inputs : List ℕ)
    → InputsSoFar a b tips line base all rest inputs → length rest ≡ 0 → AreInputsPut a b tips line base all inputs
inputs_all a b tips line base all rest inputs so_far over =
    let is : rest ≡ [] = none_left rest over in
    let whole : so_far.done ≡ all = sym (so_far.split ∙ (ap (λ os. so_far.done ++ os) is ∙ append-nil so_far.done)) in
    subst (λ os. AreInputsPut a b tips line base os inputs) whole so_far.are

pub inputs_long : (a b : GraphValue) (tips : Tips) (line base : ℕ) (origins : List Origin) (inputs : List ℕ)
    → AreInputsPut a b tips line base origins inputs → length inputs ≡ length origins + 1
inputs_long a b tips line base origins inputs are = ap length are.all
    ∙ (let n = zip_long (IsOrigin b.vertices tips) origins are.named are.are in omega (arith, n))

-- an operation that is no source has what it needs
pub other_has : (s : SourcesValue) (op : Op) → op_others op ≡ 1 → HasSource s op
other_has s (SourceOp source) e = absurd (omega (arith, e))
other_has s (ExecOp exec) e = tt
other_has s (CopyOp files) e = tt
other_has s (MakeDirsOp path) e = tt
other_has s MergeOp e = tt

pub operation_ok : (a b c : GraphValue) (tips : Tips) (line base : ℕ) (op : Op) (origins : List Origin) (inputs : List ℕ) (result : Result ℕ Memory)
    → op_others op ≡ 1 → AreInputsPut a b tips line base origins inputs
    → IfOk result (IsPut b c op inputs line) → IfOk result (IsOperationPut a c tips line base op origins)
operation_ok a b c tips line base op origins inputs (Ok id) other are put = record {
  places = origins_places line origins are.named ++ (line, id) ∷ [];
  is = record {
    named = are.named;
    are = origins_kept b.vertices c.vertices tips origins are.named put.grows.front are.are;
    is = subst (λ is. IsVertex c.vertices op is id) are.all put.is;
    all = refl;
  };
  grows = grows_both a b c (origins_places line origins are.named) ((line, id) ∷ []) are.grows put.grows;
  inside = put_inside b c op inputs line id put;
  uses = λ s left has room.
      put.uses s left (other_has s op other)
      (room_less s b (left + 1) (left + op_others op) (are.uses s (left + 1) has (room_less s a (left + 1) (left + 1 + 0) room (omega arith)))
      (omega (arith, other)));
}
operation_ok a b c tips line base op origins inputs (Err fault) other are put = tt

pub operation_room : (a b : GraphValue) (tips : Tips) (line base : ℕ) (op : Op) (origins : List Origin) (inputs : List ℕ) → op_others op ≡ 1
    → AreInputsPut a b tips line base origins inputs → RoomFor (λ s. All (HasTree s) origins) a 1
    → RoomFor (λ s. HasSource s op) b (op_others op)
operation_room a b tips line base op origins inputs other are room = record {
  sources = room.sources;
  has = other_has room.sources op other;
  room = room_less room.sources b 1 (op_others op) (are.uses room.sources 1 room.has room.room) (omega (arith, other));
}

pub operation_room_less : (a : GraphValue) (origins : List Origin) (more : ℕ) (less : ℕ) → less ≤ more → RoomFor (λ s. All (HasTree s) origins) a more
    → RoomFor (λ s. All (HasTree s) origins) a less
operation_room_less a origins more less le room = record { sources = room.sources; has = room.has; room = room_less room.sources a more less room.room le }
