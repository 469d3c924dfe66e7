-- An operation of a graph (BuildKit's LLB, `Op`, `Input`, `Platform`, `WorkerConstraints`, `MergeOp`).
use Rattle.std.specs.Prelude.{ℕ, Option, Some, None, option_map, List, [], ◌++◌}
use Rattle.std.specs.Option.{option_and_then}
use Rattle.std.specs.Int.{w64}
use Rattle.std.specs.Int.RustNames.{FitsSigned}
use Rattle.std.specs.List.{AllByRecursion}
use Rattle.wire.specs.Fields.{Field}
use Rattle.wire.specs.Messages.{message_bytes}
use Rattle.wire.specs.Kinds.{int_field, bytes_field, texts_field, message_field, optional_field, messages_field, int_at, bytes_at, blocks_of, joined, messages_at, optional_at, read_as}
use Rattle.llbmessages.specs.Source.{source_fields, source_of}
use Rattle.llbmessages.specs.Exec.{exec_fields, exec_of, FitsExec}
use Rattle.llbmessages.specs.File.{file_fields, file_of, FitsFile}
use Rattle.llbmessages.specs.declared.op.Input.{Input}
use Rattle.llbmessages.specs.declared.op.Platform.{Platform}
use Rattle.llbmessages.specs.declared.op.Constraints.{Constraints}
use Rattle.llbmessages.specs.declared.op.MergeInput.{MergeInput}
use Rattle.llbmessages.specs.declared.op.MergeOp.{MergeOp}
use Rattle.llbmessages.specs.declared.op.OpKind.{OpKind}
use Rattle.llbmessages.specs.declared.op.OpKind.TheVariants.{End, Exec, Source, File, Merge}
use Rattle.llbmessages.specs.declared.op.Op.{Op}

-- ---- written

-- the fields of an input
unfoldable pub input_fields : Input → List Field
input_fields input = bytes_field 1 input.digest ++ int_field 2 input.index

-- the fields of a platform
unfoldable pub platform_fields : Platform → List Field
platform_fields platform = bytes_field 1 platform.architecture ++ bytes_field 2 platform.os ++ bytes_field 3 platform.variant

-- the fields of constraints
unfoldable pub constraint_fields : Constraints → List Field
constraint_fields constraints = texts_field 1 constraints.filters

-- the fields of a tree of a merge
unfoldable pub merge_input_fields : MergeInput → List Field
merge_input_fields input = int_field 1 input.input

-- the fields of a merge
unfoldable pub merge_fields : MergeOp → List Field
merge_fields merge = messages_field merge_input_fields 1 merge.inputs

-- what an operation does: one of four fields is set, or, at the end, none
unfoldable pub kind_fields : OpKind → List Field
kind_fields End = []
kind_fields (Exec exec) = message_field 2 (exec_fields exec)
kind_fields (Source source) = message_field 3 (source_fields source)
kind_fields (File file) = message_field 4 (file_fields file)
kind_fields (Merge merge) = message_field 6 (merge_fields merge)

-- the fields of an operation
unfoldable pub op_fields : Op → List Field
op_fields op =
    messages_field input_fields 1 op.inputs ++ kind_fields op.kind ++ optional_field platform_fields 10 op.platform
    ++ optional_field constraint_fields 11 op.constraints

-- ---- read

-- what the fields of an input are read as
unfoldable pub input_of : List Field → Option Input
input_of fields = Some (record { digest = bytes_at 1 fields; index = int_at 2 fields })

-- what the fields of a platform are read as
unfoldable pub platform_of : List Field → Option Platform
platform_of fields = Some (record { architecture = bytes_at 1 fields; os = bytes_at 2 fields; variant = bytes_at 3 fields })

-- what the fields of constraints are read as
unfoldable pub constraints_of : List Field → Option Constraints
constraints_of fields = Some (record { filters = blocks_of 1 fields })

-- what the fields of a tree of a merge are read as
unfoldable pub merge_input_of : List Field → Option MergeInput
merge_input_of fields = Some (record { input = int_at 1 fields })

-- what the fields of a merge are read as
unfoldable pub merge_of : List Field → Option MergeOp
merge_of fields = option_map (λ inputs. record { inputs = inputs }) (messages_at (read_as merge_input_of) 1 fields)

-- what an operation does, by the one field that is set of four, or that none is
abbrev pub kind_read : Option (List ℕ) → Option (List ℕ) → Option (List ℕ) → Option (List ℕ) → Option OpKind
kind_read None None None None = Some End
kind_read (Some exec) None None None = option_map Exec (read_as exec_of exec)
kind_read None (Some source) None None = option_map Source (read_as source_of source)
kind_read None None (Some file) None = option_map File (read_as file_of file)
kind_read None None None (Some merge) = option_map Merge (read_as merge_of merge)
kind_read exec source file merge = None

-- what the fields of an operation say that it does
abbrev pub kind_of : List Field → Option OpKind
kind_of fields =
    kind_read (joined (blocks_of 2 fields)) (joined (blocks_of 3 fields)) (joined (blocks_of 4 fields)) (joined (blocks_of 6 fields))

-- what the fields of an operation are read as
unfoldable pub op_of : List Field → Option Op
op_of fields =
    option_and_then
    (λ inputs. option_and_then
    (λ kind. option_and_then
    (λ platform. option_map
    (λ constraints. record { inputs = inputs; kind = kind; platform = platform; constraints = constraints })
    (optional_at (read_as constraints_of) 11 fields))
    (optional_at (read_as platform_of) 10 fields))
    (kind_of fields))
    (messages_at (read_as input_of) 1 fields)

-- the operation that bytes are read as
abbrev pub read_op : List ℕ → Option Op
read_op = read_as op_of

-- the bytes of an operation, of which its digest is made
abbrev pub op_bytes : Op → List ℕ
op_bytes op = message_bytes (op_fields op)

-- ---- numbers with a sign have 32 or 64 bits

-- those of an input
abbrev pub FitsInput : Input → Type 0
FitsInput input = FitsSigned w64 input.index

-- those of a tree of a merge
abbrev pub FitsMergeInput : MergeInput → Type 0
FitsMergeInput input = FitsSigned w64 input.input

-- those of a merge
abbrev pub FitsMerge : MergeOp → Type 0
FitsMerge merge = AllByRecursion FitsMergeInput merge.inputs

-- those of what an operation does
abbrev pub FitsKind : OpKind → Type 0
FitsKind End = Unit {0}
FitsKind (Exec exec) = FitsExec exec
FitsKind (Source source) = Unit {0}
FitsKind (File file) = FitsFile file
FitsKind (Merge merge) = FitsMerge merge

-- those of an operation
abbrev pub FitsOp : Op → Type 0
FitsOp op = AllByRecursion FitsInput op.inputs × FitsKind op.kind
