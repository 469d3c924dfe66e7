-- What operations may look at of the files of a build lies at or below what BuildKit is told.
use Rattle.std.specs.Prelude.{◌≡◌, ◌==◌, ◌<◌, ◌+◌, ℕ, zero, suc, Bool, true, false, ◌||◌, cond, Option, Some, None, List, [], ◌∷◌, ◌++◌, ◌↔◌, is_some, length, slice_get, slice_index_or}
use Rattle.std.proofs.Common.{sym, ap, refl, ◌∙◌, subst, true≢false, arith}
use Rattle.std.proofs.lemmas.Bool.{eqb-true}
use Rattle.std.proofs.lemmas.List.{append_assoc}
use Rattle.std.proofs.lemmas.List.Folds.{list_any-append}
use Rattle.std.proofs.lemmas.Option.{same_Some}
use Rattle.std.specs.List.{Any, AllZip, list_all, list_any}
use Rattle.std.specs.Str.{chars}
use Rattle.paths.specs.Path.{is_at_or_under}
use Rattle.paths.proofs.PathLaws.{under_iff}
use Rattle.globs.specs.declared.part.Part.{Part}
use Rattle.globs.specs.Component.{RelatesToName}
use Rattle.globs.specs.Grammar.{Spell}
use Rattle.globs.specs.Glob.{components_of, relates, Relates}
use Rattle.llb.specs.declared.op.Bind.{Bind}
use Rattle.llb.specs.declared.op.FileSource.{FileSource}
use Rattle.llb.specs.declared.op.FileSource.TheVariants.{Pattern, Data}
use Rattle.llb.specs.declared.op.Op.{Op}
use Rattle.llb.specs.declared.op.Op.TheVariants.{Source as SourceOp, Exec as ExecOp, Copy as CopyOp, MakeDirs as MakeDirsOp, Merge as MergeOp}
use Rattle.llb.specs.declared.vertex.Vertex.{Vertex}
use Rattle.llb.specs.Graph.{GraphValue}
use Rattle.exported.specs.Exporting.{is_carried}
use Rattle.exported.specs.Patterns.{begins, name_of}
use Rattle.exported.specs.Following.{carried_names, plain_names, sources_paths, whole, bind_paths, input_paths, is_context, inputs_paths, named_paths, result_paths, paths_of}
use Rattle.fileactions.specs.Followed.{Takes, Reads}
use Rattle.fileactions.proofs.Steps.{Path}
use Rattle.fileactions.proofs.Literal.{related-name, no-sign}

-- a path is one of some, or lies below one
abbrev pub Covers : List Path → Path → Type 0
Covers paths path = list_any (λ top. is_at_or_under path top) paths ≡ true

none-some : {A : Type 0} (a : A) → None ≡ Some a → ⊥
none-some a e = true≢false (sym (ap is_some e))

-- ---- fronts

pub under-front : (front rest : Path) → is_at_or_under (front ++ rest) front ≡ true
under-front front rest = (under_iff (front ++ rest) front).1 (rest, refl)

-- what lies below what lies below
under-trans : (path middle top : Path) → is_at_or_under path middle ≡ true → is_at_or_under middle top ≡ true → is_at_or_under path top ≡ true
under-trans path middle top low high =
    let below = (under_iff path middle).0 low in
    let above = (under_iff middle top).0 high in
    (under_iff path top).1 (above.0 ++ below.0, below.1 ∙ ap (λ m. m ++ below.0) above.1 ∙ append_assoc top above.0 below.0)

under-root : (path : Path) → is_at_or_under path [] ≡ true
under-root path = under-front [] path

-- the names that BuildKit can be told are a path's first ones
under-carried : (names : Path) → is_at_or_under names (carried_names names) ≡ true
under-carried names = let parts = carried-parts names in (under_iff names (carried_names names)).1 parts
  where
    carried-parts : (names : Path) → (rest : Path) × (names ≡ carried_names names ++ rest)
    carried-parts [] = ([], refl)
    carried-parts (name ∷ names) = by (list_all is_carried name) (carried-parts names)
      where
        by : (b : Bool) → (rest : Path) × (names ≡ carried_names names ++ rest) → (rest : Path) × (name ∷ names ≡ cond b (name ∷ carried_names names) [] ++ rest)
        by true more = (more.0, ap (λ ns. name ∷ ns) more.1)
        by false more = (name ∷ names, refl)

-- the names that components spell before the first with a sign are the first ones of each path to which they relate
plain-parts : (components : List (List ℕ)) (glob : List (List Part)) (found : Path) → AllZip (λ component parts. Spell (chars component) parts) components glob
    → AllZip (λ parts name. RelatesToName parts name) glob found → (rest : Path) × (found ≡ plain_names components ++ rest)
plain-parts [] glob found spell relate = (found, refl)
plain-parts (component ∷ components) [] found spell relate = absurd spell
plain-parts (component ∷ components) (parts ∷ glob) [] spell relate = absurd relate
plain-parts (component ∷ components) (parts ∷ glob) (name ∷ found) spell relate = by (begins false component) refl (plain-parts components glob found spell.1 relate.1)
  where
    by : (b : Bool) → begins false component ≡ b → (rest : Path) × (found ≡ plain_names components ++ rest)
        → (rest : Path) × (name ∷ found ≡ cond b [] (name_of component ∷ plain_names components) ++ rest)
    by true begun more = (name ∷ found, refl)
    by false begun more =
        let first = related-name component parts name spell.0 relate.0 (no-sign false component begun) in
        (more.0, λ i. first i ∷ more.1 i)

-- ---- lists of paths

covers-first : (path : Path) (some more : List Path) → Covers some path → Covers (some ++ more) path
covers-first path some more h = list_any-append (λ top. is_at_or_under path top) some more ∙ ap (λ b. b || list_any (λ top. is_at_or_under path top) more) h

covers-second : (path : Path) (some more : List Path) → Covers more path → Covers (some ++ more) path
covers-second path some more h =
    list_any-append (λ top. is_at_or_under path top) some more ∙ ap (λ b. list_any (λ top. is_at_or_under path top) some || b) h ∙ or-true (list_any (λ top. is_at_or_under path top) some)
  where
    or-true : (b : Bool) → (b || true) ≡ true
    or-true true = refl
    or-true false = refl

covers-one : (path top : Path) → is_at_or_under path top ≡ true → Covers (top ∷ []) path
covers-one path top h = ap (λ b. b || false) h

covers-whole : (path : Path) → Covers whole path
covers-whole path = covers-one path [] (under-root path)

module _ (lawful : (text : List ℕ) (path : Path) → (relates text path ≡ true) ↔ Relates text path) where
  -- a path to which a pattern relates lies at or below the one that is told of it
  found-under : (text : List ℕ) (found : Path) → relates text found ≡ true → is_at_or_under found (carried_names (plain_names (components_of text))) ≡ true
  found-under text found h =
      let r = (lawful text found).0 h in
      let plain : Path = plain_names (components_of text) in
      under-trans found plain (carried_names plain) ((under_iff found plain).1 (plain-parts (components_of text) r.0 found r.1.0 r.1.1)) (under-carried plain)

  source-covers : (path : Path) (source : FileSource) (sources : List FileSource) → Takes path source → Covers (sources_paths (source ∷ sources)) path
  source-covers path (Pattern text) sources takes =
      let top : Path = carried_names (plain_names (components_of text)) in
      covers-first path (top ∷ []) (sources_paths sources) (covers-one path top (under-trans path takes.0 top takes.1.1 (found-under text takes.0 takes.1.0)))
  source-covers path (Data name content) sources takes = absurd takes

  -- by the number of a source that takes the path
  source-at : (path : Path) (sources : List FileSource) (n : ℕ) (source : FileSource) → n < length sources → slice_index_or sources n source ≡ source → Takes path source → Covers (sources_paths sources) path
  source-at path [] n source less at takes = absurd (omega (arith, less))
  source-at path (first ∷ sources) zero source less at takes = source-covers path first sources (subst (λ (s : FileSource). Takes path s) (sym at) takes)
  source-at path (Pattern text ∷ sources) (suc n) source less at takes =
      covers-second path (carried_names (plain_names (components_of text)) ∷ []) (sources_paths sources) (source-at path sources n source (omega (arith, less)) at takes)
  source-at path (Data name content ∷ sources) (suc n) source less at takes = source-at path sources n source (omega (arith, less)) at takes

  sources-cover : (path : Path) (sources : List FileSource) → Any (λ source. Takes path source) sources → Covers (sources_paths sources) path
  sources-cover path sources any = source-at path sources any.0 any.1 any.2 any.3 any.4

  bind-covers : (path : Path) (o : Option Bind) → ((bind : Bind) → o ≡ Some bind → is_at_or_under path bind.source ≡ true) → Covers (bind_paths o) path
  bind-covers path None under = covers-whole path
  bind-covers path (Some bind) under =
      covers-one path (carried_names bind.source) (under-trans path bind.source (carried_names bind.source) (under bind refl) (under-carried bind.source))

  -- ---- operations

  input-covers : (op : Op) (number : ℕ) (path : Path) → Reads op number path → Covers (input_paths op number) path
  input-covers (SourceOp source) number path reads = covers-whole path
  input-covers (ExecOp exec) zero path reads = covers-whole path
  input-covers (ExecOp exec) (suc n) path reads = bind-covers path (slice_get exec.binds n) (λ bind at. reads n bind refl at)
  input-covers (CopyOp files) number path reads = by (number == 1) refl
    where
      by : (b : Bool) → (number == 1) ≡ b → Covers (cond b (sources_paths files.sources) whole) path
      by true second = sources-cover path files.sources (reads (eqb-true number 1 second))
      by false other = covers-whole path
  input-covers (MakeDirsOp dir) number path reads = covers-whole path
  input-covers MergeOp number path reads = covers-whole path

  module _ (vertices : List Vertex) (path : Path) where
    inputs-cover : (op : Op) (start : ℕ) (inputs : List ℕ) (n number id : ℕ) → number ≡ start + n → slice_get inputs n ≡ Some id → is_context vertices id ≡ true → Reads op number path
        → Covers (inputs_paths vertices op start inputs) path
    inputs-cover op start [] n number id is at context reads = absurd (none-some id at)
    inputs-cover op start (first ∷ inputs) zero number id is at context reads =
        let here : is_context vertices first ≡ true = ap (is_context vertices) (same_Some first id at) ∙ context in
        let same : number ≡ start = omega (arith, is) in
        covers-first path (cond (is_context vertices first) (input_paths op start) []) (inputs_paths vertices op (start + 1) inputs)
        (ap (λ b. list_any (λ top. is_at_or_under path top) (cond b (input_paths op start) [])) here ∙ input-covers op start path (subst (λ (m : ℕ). Reads op m path) same reads))
    inputs-cover op start (first ∷ inputs) (suc n) number id is at context reads =
        covers-second path (cond (is_context vertices first) (input_paths op start) []) (inputs_paths vertices op (start + 1) inputs)
        (inputs-cover op (start + 1) inputs n number id (omega (arith, is)) at context reads)

    named-covers : (more : List Vertex) (k number id : ℕ) (vertex : Vertex) → slice_get more k ≡ Some vertex → slice_get vertex.inputs number ≡ Some id → is_context vertices id ≡ true
        → Reads vertex.op number path → Covers (named_paths vertices more) path
    named-covers [] k number id vertex at input context reads = absurd (none-some vertex at)
    named-covers (first ∷ more) zero number id vertex at input context reads =
        let same : vertex ≡ first = sym (same_Some first vertex at) in
        covers-first path (inputs_paths vertices first.op 0 first.inputs) (named_paths vertices more)
        (inputs-cover first.op 0 first.inputs number number id (omega arith) (subst (λ (v : Vertex). slice_get v.inputs number ≡ Some id) same input) context
        (subst (λ (v : Vertex). Reads v.op number path) same reads))
    named-covers (first ∷ more) (suc k) number id vertex at input context reads =
        covers-second path (inputs_paths vertices first.op 0 first.inputs) (named_paths vertices more) (named-covers more k number id vertex at input context reads)

  -- what an operation may look at of the files of a build
  pub read-covers : (graph : GraphValue) (wanted k number id : ℕ) (vertex : Vertex) (path : Path) → slice_get graph.vertices k ≡ Some vertex → slice_get vertex.inputs number ≡ Some id
      → is_context graph.vertices id ≡ true → Reads vertex.op number path → Covers (paths_of graph wanted) path
  read-covers graph wanted k number id vertex path at input context reads =
      covers-second path (result_paths graph.vertices wanted) (named_paths graph.vertices graph.vertices) (named-covers graph.vertices path graph.vertices k number id vertex at input context reads)

-- and all of them, where they are the result
pub result-covers : (graph : GraphValue) (wanted : ℕ) (path : Path) → is_context graph.vertices wanted ≡ true → Covers (paths_of graph wanted) path
result-covers graph wanted path context =
    covers-first path (result_paths graph.vertices wanted) (named_paths graph.vertices graph.vertices)
    (ap (λ b. list_any (λ top. is_at_or_under path top) (cond b whole [])) context ∙ covers-whole path)
