-- How deep an operation's data nests, which is less than what is read.
use Rattle.std.specs.Prelude.{◌≤◌, ℕ, Option, Some, None, List, [], ◌∷◌, map}
use Rattle.std.proofs.Common.{arith}
use Rattle.serde_json.specs.Data.{Data, string, depth, items_depth}
use Rattle.serde_json.specs.View.{items_of}
use Rattle.plain.specs.declared.owner.Owner.{Owner}
use Rattle.llb.specs.declared.op.FileSource.{FileSource}
use Rattle.llb.specs.declared.op.FileSource.TheVariants.{Pattern, Data as OwnFile}
use Rattle.llb.specs.declared.op.Op.{Op}
use Rattle.llb.specs.declared.op.Op.TheVariants.{Source as SourceOp, Exec as ExecOp, Copy as CopyOp, MakeDirs as MakeDirsOp, Merge as MergeOp}
use Rattle.operations.specs.Texts.{bind_data, cache_data, variable_data, number_data, uid_data, gid_data, file_source_data, source_data, exec_data, copy_data, mkdir_data, merge_data, op_data}

list-depth : {A : Type 0} (written : A → Data) (n : ℕ) → ((x : A) → depth (written x) ≤ n) → (xs : List A) → items_depth (items_of (map written xs)) ≤ n
list-depth written n low [] = omega arith
list-depth written n low (x ∷ xs) = let here : depth (written x) ≤ n = low x in let rest : items_depth (items_of (map written xs)) ≤ n = list-depth written n low xs in omega arith

number-depth : (n : Option ℕ) → depth (number_data n) ≤ 0
number-depth None = omega arith
number-depth (Some n) = omega arith

uid-depth : (owner : Option Owner) → depth (uid_data owner) ≤ 0
uid-depth None = omega arith
uid-depth (Some owner) = omega arith

gid-depth : (owner : Option Owner) → depth (gid_data owner) ≤ 0
gid-depth None = omega arith
gid-depth (Some owner) = omega arith

file-source-depth : (source : FileSource) → depth (file_source_data source) ≤ 1
file-source-depth (Pattern text) = omega arith
file-source-depth (OwnFile name content) = omega arith

texts-depth : (inputs : List (List ℕ)) → items_depth (items_of (map string inputs)) ≤ 0
texts-depth inputs = list-depth string 0 (λ t. omega arith) inputs

pub op-depth : (inputs : List (List ℕ)) (op : Op) → depth (op_data inputs op) ≤ 3
unfolding source_data exec_data copy_data mkdir_data merge_data
op-depth inputs (SourceOp source) = let low = texts-depth inputs in omega arith
op-depth inputs (ExecOp exec) =
    let a : items_depth (items_of (map bind_data exec.binds)) ≤ 1 = list-depth bind_data 1 (λ b. omega arith) exec.binds in
    let b : items_depth (items_of (map cache_data exec.caches)) ≤ 1 = list-depth cache_data 1 (λ b. omega arith) exec.caches in
    let d : items_depth (items_of (map variable_data exec.env)) ≤ 0 = list-depth variable_data 0 (λ b. omega arith) exec.env in
    let e = texts-depth inputs in
    let f = texts-depth exec.words in
    omega arith
op-depth inputs (CopyOp files) =
    let a : items_depth (items_of (map file_source_data files.sources)) ≤ 1 = list-depth file_source_data 1 file-source-depth files.sources in
    let b = uid-depth files.options.owner in
    let c = gid-depth files.options.owner in
    let d = number-depth files.options.mode in
    let e = texts-depth inputs in
    omega arith
op-depth inputs (MakeDirsOp path) = let low = texts-depth inputs in omega arith
op-depth inputs MergeOp = let low = texts-depth inputs in omega arith
