-- What an operation is written as is read as it.
use Rattle.std.specs.Prelude.{◌≡◌, ◌+◌, ◌==◌, ℕ, true, not, Option, Some, List, [], ◌∷◌, length, codes}
use Rattle.std.proofs.Common.{ap, refl}
use Rattle.std.specs.Option.{option_map, option_and_then}
use Rattle.std.specs.List.{list_all, AllByRecursion}
use Rattle.serde_json.specs.Find.{get, as_str}
use Rattle.paths.specs.Path.{IsClean}
use Rattle.paths.proofs.FrontLaws.{both_first, both_second}
use Rattle.plain.specs.declared.variable.Variable.{Variable}
use Rattle.llb.specs.declared.op.Exec.{Exec}
use Rattle.llb.specs.declared.op.Source.{Source}
use Rattle.llb.specs.declared.op.CopyFiles.{CopyFiles}
use Rattle.llb.specs.declared.op.Op.{Op}
use Rattle.llb.specs.declared.op.Op.TheVariants.{Source as SourceOp, Exec as ExecOp, Copy as CopyOp, MakeDirs as MakeDirsOp, Merge as MergeOp}
use Rattle.plain.specs.Variable.{names_of}
use Rattle.plain.specs.VariableName.{is_variable_name}
use Rattle.llb.specs.WellFormed.{is_well_formed_on, is_well_formed_exec, is_environment}
use Rattle.strict.specs.Strict.{list_in}
use Rattle.operations.specs.Texts.{bind_data, cache_data, variable_data, file_source_data, source_data, exec_data, copy_data, mkdir_data, merge_data, op_data}
use Rattle.operations.specs.Spelled.{is_address, inputs_in, variable_in, bind_in, cache_in, source_in, exec_in, owner_in, options_in, file_source_in, copy_in, mkdir_in, file_op_in, merge_in, op_of, spelled_in}
use Rattle.operations.specs.Proper.{IsProperBind, IsProperCache, IsProperExec, IsProperFileSource, IsProperCopy, IsProper}
use Rattle.operations.proofs.PartFacts.{list-back, texts-back, path-back, source-text, bind-back, cache-back, variable-back, owner-back, mode-back, file-source-back}

source-back : (inputs : List (List ℕ)) (source : Source) → source_in (source_data inputs source) ≡ Some source
unfolding source_in source_data
source-back inputs source = source-text source

names-hold : (env : List Variable) → list_all is_variable_name (names_of env) ≡ true → AllByRecursion (λ (variable : Variable). is_variable_name variable.name ≡ true) env
names-hold [] all = tt
names-hold (v ∷ vs) all = (both_first _ _ all, names-hold vs (both_second (is_variable_name v.name) _ all))

exec-back : (inputs : List (List ℕ)) (exec : Exec) → IsProperExec exec → is_well_formed_exec exec ≡ true → exec_in (exec_data inputs exec) ≡ Some exec
unfolding exec_in exec_data list_in
exec-back inputs exec proper formed =
    let names = names-hold exec.env (both_first _ _ (both_first (is_environment exec.env) _ (both_second (not (length exec.words == 0)) _ formed))) in
    rw (
      list-back bind_in bind_data IsProperBind bind-back exec.binds proper.0,
      list-back cache_in cache_data IsProperCache cache-back exec.caches proper.1.0,
      path-back exec.dir proper.1.1,
      list-back variable_in variable_data (λ (variable : Variable). is_variable_name variable.name ≡ true) variable-back exec.env names,
      texts-back exec.words,
    ) refl

owner-in-back : (inputs : List (List ℕ)) (files : CopyFiles) → IsProperCopy files → owner_in (copy_data inputs files) ≡ Some files.options.owner
unfolding owner_in copy_data
owner-in-back inputs files proper = owner-back files.options.owner proper.1.1.0

options-back : (inputs : List (List ℕ)) (files : CopyFiles) → IsProperCopy files → owner_in (copy_data inputs files) ≡ Some files.options.owner → options_in (copy_data inputs files) ≡ Some files.options
unfolding options_in copy_data
options-back inputs files proper owner = rw (owner, mode-back files.options.mode proper.1.1.1) refl

copy-back : (inputs : List (List ℕ)) (files : CopyFiles) → IsProperCopy files → options_in (copy_data inputs files) ≡ Some files.options → copy_in (copy_data inputs files) ≡ Some files
unfolding copy_in copy_data list_in
copy-back inputs files proper options =
    rw (
      list-back file_source_in file_source_data IsProperFileSource file-source-back files.sources proper.0,
      path-back files.dest proper.1.0,
      options,
    ) refl

mkdir-back : (inputs path : List (List ℕ)) → IsClean path → mkdir_in (mkdir_data inputs path) ≡ Some path
unfolding mkdir_in mkdir_data
mkdir-back inputs path clean = path-back path clean

abbrev kind_in : Op → List (List ℕ) → Option Op
kind_in op inputs = option_and_then (λ kind. op_of kind (op_data inputs op)) (option_and_then as_str (get (codes "op") (op_data inputs op)))

kind-source : (inputs : List (List ℕ)) (source : Source) → kind_in (SourceOp source) inputs ≡ Some (SourceOp source)
unfolding source_data
kind-source inputs source = ap (option_map SourceOp) (source-back inputs source)

kind-exec : (inputs : List (List ℕ)) (exec : Exec) → exec_in (exec_data inputs exec) ≡ Some exec → kind_in (ExecOp exec) inputs ≡ Some (ExecOp exec)
unfolding exec_data
kind-exec inputs exec back = ap (option_map ExecOp) back

kind-copy : (inputs : List (List ℕ)) (files : CopyFiles) → copy_in (copy_data inputs files) ≡ Some files → kind_in (CopyOp files) inputs ≡ Some (CopyOp files)
unfolding copy_data file_op_in
kind-copy inputs files back = ap (option_map CopyOp) back

kind-mkdir : (inputs path : List (List ℕ)) → mkdir_in (mkdir_data inputs path) ≡ Some path → kind_in (MakeDirsOp path) inputs ≡ Some (MakeDirsOp path)
unfolding mkdir_data file_op_in
kind-mkdir inputs path back = ap (option_map MakeDirsOp) back

kind-merge : (inputs : List (List ℕ)) → kind_in MergeOp inputs ≡ Some MergeOp
unfolding merge_data merge_in
kind-merge inputs = refl

formed-exec : (exec : Exec) (n : ℕ) → is_well_formed_on (ExecOp exec) n ≡ true → is_well_formed_exec exec ≡ true
formed-exec exec n formed = both_second (n == length exec.binds + 1) _ formed

kind-back : (inputs : List (List ℕ)) (op : Op) → IsProper op → is_well_formed_on op (length inputs) ≡ true → kind_in op inputs ≡ Some op
kind-back inputs (SourceOp source) proper formed = kind-source inputs source
kind-back inputs (ExecOp exec) proper formed = kind-exec inputs exec (exec-back inputs exec proper (formed-exec exec (length inputs) formed))
kind-back inputs (CopyOp files) proper formed = kind-copy inputs files (copy-back inputs files proper (options-back inputs files proper (owner-in-back inputs files proper)))
kind-back inputs (MakeDirsOp path) proper formed = kind-mkdir inputs path (mkdir-back inputs path proper)
kind-back inputs MergeOp proper formed = kind-merge inputs

inputs-back : (inputs : List (List ℕ)) (op : Op) → list_all is_address inputs ≡ true → inputs_in (op_data inputs op) ≡ Some inputs
unfolding inputs_in list_in source_data exec_data copy_data mkdir_data merge_data
inputs-back inputs (SourceOp source) are = rw (texts-back inputs, are) refl
inputs-back inputs (ExecOp exec) are = rw (texts-back inputs, are) refl
inputs-back inputs (CopyOp files) are = rw (texts-back inputs, are) refl
inputs-back inputs (MakeDirsOp path) are = rw (texts-back inputs, are) refl
inputs-back inputs MergeOp are = rw (texts-back inputs, are) refl

-- an operation's data spells it
pub op-back : (inputs : List (List ℕ)) (op : Op) → IsProper op → is_well_formed_on op (length inputs) ≡ true → list_all is_address inputs ≡ true → spelled_in (op_data inputs op) ≡ Some (record { op = op; inputs = inputs })
unfolding spelled_in
op-back inputs op proper formed are = rw (kind-back inputs op proper formed, inputs-back inputs op are, formed) refl
