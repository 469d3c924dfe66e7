-- What a memo is: for one executor, operations with the trees that they were given and the tree that they gave.
use Rattle.std.specs.Prelude.{◌≡◌, ◌⊎◌, Bool, true, false, Some, Ok, List, [], ◌∷◌, ◌++◌, refl}
use Rattle.std.specs.List.{Contains}
use Rattle.std.specs.Coded.{Coded, code_by, coded×, coded_bool, coded_list}
use Rattle.trees.specs.TreeMap.{TreeMap}
use Rattle.trees.specs.contracts.tree.Tree as tree_row
use Rattle.llb.specs.declared.op.Op.{Op}
use Rattle.llb.specs.declared.op.Op.TheVariants.{Source as SourceOp, Exec as ExecOp, Copy as CopyOp, MakeDirs as MakeDirsOp, Merge as MergeOp}
use Rattle.llb.specs.contracts.op.Op as op_row
use Rattle.llb.specs.declared.op.Exec.{Exec}
use Rattle.runs.specs.declared.run.RunRequest.{RunRequest}
use Rattle.plans.specs.Request.{request_of}
use Rattle.plans.specs.Sources.{SourcesValue}
use Rattle.plans.specs.Value.{Out, result_of}

-- ---- an entry

-- an operation, the trees that it was given, in the order in which it counts them, and the tree that it gave
pub record Entry : Type 0 where
  pub op : Op
  pub inputs : List TreeMap
  pub tree : TreeMap

-- an entry in plain data, for generic code (own)
abbrev pub entry_code : Coded Entry
entry_code =
    code_by (Op × (List TreeMap × TreeMap)) (coded× op_row.the_row.coded (coded× (coded_list tree_row.the_row.coded) tree_row.the_row.coded))
    (λ e. (e.op, (e.inputs, e.tree)))
    (λ t. record { op = t.0; inputs = t.1.0; tree = t.1.1 })
    (λ _. refl)

-- the entry of an operation, the trees that it was given, and the tree that it gave
abbrev pub entry_of : Op → List TreeMap → TreeMap → Entry
entry_of op inputs tree = record { op = op; inputs = inputs; tree = tree }

-- an operation is a source, whose tree a build is given
abbrev pub is_source : Op → Bool
is_source (SourceOp source) = true
is_source (ExecOp exec) = false
is_source (CopyOp files) = false
is_source (MakeDirsOp path) = false
is_source MergeOp = false

-- An entry is lawful under an executor's answers: its operation is no source and gives this tree on these trees, whatever the sources of a build are.
-- So it is lawful in every plan.
pub record IsLawful (out : Out) (entry : Entry) : Type 0 where
  pub no_source : is_source entry.op ≡ false
  pub gives : (sources : SourcesValue) → result_of out sources entry.op entry.inputs ≡ Some (Ok entry.tree)

-- all of the entries are
abbrev pub AreLawful : Out → List Entry → Type 0
AreLawful out entries = (entry : Entry) → Contains entries entry → IsLawful out entry

-- some entries have this tree for an operation on these trees
abbrev pub Has : List Entry → Op → List TreeMap → TreeMap → Type 0
Has entries op inputs tree = Contains entries (entry_of op inputs tree)

-- they have no tree for it
abbrev pub Lacks : List Entry → Op → List TreeMap → Type 0
Lacks entries op inputs = (tree : TreeMap) → ¬ Has entries op inputs tree

-- ---- a memo

-- the entries of one generation, and the trees that it keeps, by their numbers
pub record GenerationValue : Type 0 where
  pub entries : List Entry
  pub trees : List TreeMap

-- a generation in plain data, for generic code (own)
abbrev pub generation_code : Coded GenerationValue
generation_code =
    code_by (List Entry × List TreeMap) (coded× (coded_list entry_code) (coded_list tree_row.the_row.coded))
    (λ g. (g.entries, g.trees))
    (λ t. record { entries = t.0; trees = t.1 })
    (λ _. refl)

-- a generation without an entry and without a tree
abbrev pub no_generation : GenerationValue
no_generation = record { entries = []; trees = [] }

-- a memo: its executor, what was added since the last call of forget, what was added between that one and the one before, and whether it is for one build,
-- after which nobody asks it
pub record MemoValue (E : Type 0) : Type 0 where
  pub executor : E
  pub recent : GenerationValue
  pub earlier : GenerationValue
  pub is_for_one_build : Bool

-- a memo in plain data, for generic code (own)
abbrev pub memo_code : {E : Type 0} → Coded E → Coded (MemoValue E)
memo_code {E} e =
    code_by (E × (GenerationValue × (GenerationValue × Bool))) (coded× e (coded× generation_code (coded× generation_code coded_bool)))
    (λ m. (m.executor, (m.recent, (m.earlier, m.is_for_one_build))))
    (λ t. record { executor = t.0; recent = t.1.0; earlier = t.1.1.0; is_for_one_build = t.1.1.1 })
    (λ _. refl)

-- a memo without an entry
abbrev pub new_memo : {E : Type 0} → E → Bool → MemoValue E
new_memo executor is_for_one_build = record { executor = executor; recent = no_generation; earlier = no_generation; is_for_one_build = is_for_one_build }

-- a memo with one tree more among the recent ones
abbrev pub with_kept : {E : Type 0} → MemoValue E → TreeMap → MemoValue E
with_kept memo tree = record memo { recent = record { entries = memo.recent.entries; trees = memo.recent.trees ++ tree ∷ [] } }

-- a memo has this tree for an operation on these trees
abbrev pub Holds : {E : Type 0} → MemoValue E → Op → List TreeMap → TreeMap → Type 0
Holds memo op inputs tree = Has memo.recent.entries op inputs tree ⊎ Has memo.earlier.entries op inputs tree

-- a memo knows a request: it has an entry of a command whose run is asked for by it
pub record Knows {E : Type 0} (memo : MemoValue E) (request : RunRequest) : Type 0 where
  pub exec : Exec
  pub root : TreeMap
  pub trees : List TreeMap
  pub tree : TreeMap
  pub holds : Holds memo (ExecOp exec) (root ∷ trees) tree
  pub asked : request_of exec root trees ≡ Ok request

-- a memo is another one that grew: of the same executor, with more of the recent generation
pub record Grows {E : Type 0} (old new : MemoValue E) : Type 0 where
  pub executor : new.executor ≡ old.executor
  pub as_long : new.is_for_one_build ≡ old.is_for_one_build
  pub entries : List Entry
  pub more_entries : new.recent.entries ≡ old.recent.entries ++ entries
  pub trees : List TreeMap
  pub more_trees : new.recent.trees ≡ old.recent.trees ++ trees
  pub earlier : new.earlier ≡ old.earlier

-- a memo is another one that grew by this entry, and by trees
pub record Adds {E : Type 0} (old new : MemoValue E) (entry : Entry) : Type 0 where
  pub executor : new.executor ≡ old.executor
  pub as_long : new.is_for_one_build ≡ old.is_for_one_build
  pub more_entries : new.recent.entries ≡ old.recent.entries ++ entry ∷ []
  pub trees : List TreeMap
  pub more_trees : new.recent.trees ≡ old.recent.trees ++ trees
  pub earlier : new.earlier ≡ old.earlier
