-- No operation's data holds a float, so that its compact text is the one that is written.
use Rattle.std.specs.Prelude.{◌≡◌, ℕ, false, List, [], ◌∷◌, map, Option, Some, None}
use Rattle.std.proofs.Common.{refl}
use Rattle.serde_json.specs.Data.{Data, string}
use Rattle.serde_json.specs.View.{items_of}
use Rattle.serde_json.specs.Written.{has_float, items_have_float}
use Rattle.llb.specs.declared.op.Op.{Op}
use Rattle.llb.specs.declared.op.FileSource.{FileSource}
use Rattle.llb.specs.declared.op.FileSource.TheVariants.{Pattern, Data as OwnFile}
use Rattle.llb.specs.declared.op.Op.TheVariants.{Source as SourceOp, Exec as ExecOp, Copy as CopyOp, MakeDirs as MakeDirsOp, Merge as MergeOp}
use Rattle.plain.specs.declared.owner.Owner.{Owner}
use Rattle.operations.specs.Texts.{bind_data, cache_data, variable_data, number_data, uid_data, gid_data, file_source_data, op_data, source_data, exec_data, copy_data, mkdir_data, merge_data}

list_plain : {A : Type 0} (shown : A → Data) → ((x : A) → has_float (shown x) ≡ false) → (xs : List A) → items_have_float (items_of (map shown xs)) ≡ false
list_plain shown each [] = refl
list_plain shown each (x ∷ xs) = rw (each x) (list_plain shown each xs)

number_plain : (n : Option ℕ) → has_float (number_data n) ≡ false
number_plain None = refl
number_plain (Some n) = refl

uid_plain : (owner : Option Owner) → has_float (uid_data owner) ≡ false
uid_plain None = refl
uid_plain (Some owner) = refl

gid_plain : (owner : Option Owner) → has_float (gid_data owner) ≡ false
gid_plain None = refl
gid_plain (Some owner) = refl

file_source_plain : (source : FileSource) → has_float (file_source_data source) ≡ false
file_source_plain (Pattern text) = refl
file_source_plain (OwnFile name content) = refl

pub op_plain : (inputs : List (List ℕ)) (op : Op) → has_float (op_data inputs op) ≡ false
unfolding source_data exec_data copy_data mkdir_data merge_data
op_plain inputs (SourceOp source) = rw (list_plain string (λ t. refl) inputs) refl
op_plain inputs (ExecOp exec) =
    rw (list_plain bind_data (λ b. refl) exec.binds, list_plain cache_data (λ u. refl) exec.caches, list_plain variable_data (λ v. refl) exec.env, list_plain string (λ t. refl) inputs, list_plain string (λ t. refl) exec.words) refl
op_plain inputs (CopyOp files) =
    rw (gid_plain files.options.owner, list_plain string (λ t. refl) inputs, number_plain files.options.mode, list_plain file_source_data file_source_plain files.sources, uid_plain files.options.owner) refl
op_plain inputs (MakeDirsOp path) = rw (list_plain string (λ t. refl) inputs) refl
op_plain inputs MergeOp = rw (list_plain string (λ t. refl) inputs) refl
