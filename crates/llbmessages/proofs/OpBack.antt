-- Operations are read as they were written.
use Rattle.std.proofs.Common.{◌≡◌, Some, None, option_map, [], refl, sym, ap, ◌∙◌, List, ℕ}
use Rattle.std.specs.Option.{option_and_then}
use Rattle.wire.specs.Messages.{message_bytes}
use Rattle.wire.specs.Kinds.{message_field, blocks_of, int_at, bytes_at, joined, read_as, optional_at, messages_at}
use Rattle.wire.proofs.ReadLemmas.{reads, last-int, last-bytes, joined-one, ReadsBack, fields-back, optional-back, each-back, all_map}
use Rattle.llbmessages.specs.declared.op.Input.{Input}
use Rattle.llbmessages.specs.declared.op.Platform.{Platform}
use Rattle.llbmessages.specs.declared.op.Constraints.{Constraints}
use Rattle.llbmessages.specs.declared.op.MergeInput.{MergeInput}
use Rattle.llbmessages.specs.declared.op.MergeOp.{MergeOp}
use Rattle.llbmessages.specs.declared.op.OpKind.{OpKind}
use Rattle.llbmessages.specs.declared.op.OpKind.TheVariants.{End, Exec, Source, File, Merge}
use Rattle.llbmessages.specs.declared.op.Op.{Op}
use Rattle.llbmessages.specs.Source.{source_fields, source_of}
use Rattle.llbmessages.specs.Exec.{exec_fields, exec_of}
use Rattle.llbmessages.specs.File.{file_fields, file_of}
use Rattle.llbmessages.specs.Op.{input_fields, input_of, platform_fields, platform_of, constraint_fields, constraints_of, merge_input_fields, merge_input_of, merge_fields, merge_of, kind_fields, kind_read, op_fields, op_of, read_op, op_bytes, FitsInput, FitsMergeInput, FitsMerge, FitsKind, FitsOp}
use Rattle.llbmessages.proofs.SourceBack.{source-back}
use Rattle.llbmessages.proofs.ExecBack.{exec-back}
use Rattle.llbmessages.proofs.FileBack.{file-back}

input-back : (input : Input) → FitsInput input → input_of (input_fields input) ≡ Some input
unfolding input_of input_fields
input-back input fits =
    let digest : bytes_at 1 (input_fields input) ≡ input.digest = simp reads (last-bytes input.digest) in
    let index : int_at 2 (input_fields input) ≡ input.index = simp reads (last-int input.index fits) in
    λ i. Some (record { digest = digest i; index = index i })

platform-back : (platform : Platform) → platform_of (platform_fields platform) ≡ Some platform
unfolding platform_of platform_fields
platform-back platform =
    let architecture : bytes_at 1 (platform_fields platform) ≡ platform.architecture = simp reads (last-bytes platform.architecture) in
    let os : bytes_at 2 (platform_fields platform) ≡ platform.os = simp reads (last-bytes platform.os) in
    let variant : bytes_at 3 (platform_fields platform) ≡ platform.variant = simp reads (last-bytes platform.variant) in
    λ i. Some (record { architecture = architecture i; os = os i; variant = variant i })

constraints-back : (constraints : Constraints) → constraints_of (constraint_fields constraints) ≡ Some constraints
unfolding constraints_of constraint_fields
constraints-back constraints =
    let filters : blocks_of 1 (constraint_fields constraints) ≡ constraints.filters = simp reads refl in
    λ i. Some (record { filters = filters i })

merge_input-back : (input : MergeInput) → FitsMergeInput input → merge_input_of (merge_input_fields input) ≡ Some input
unfolding merge_input_of merge_input_fields
merge_input-back input fits =
    let number : int_at 1 (merge_input_fields input) ≡ input.input = simp reads (last-int input.input fits) in
    λ i. Some (record { input = number i })

merge-back : (merge : MergeOp) → FitsMerge merge → merge_of (merge_fields merge) ≡ Some merge
unfolding merge_of merge_fields
merge-back merge fits =
    let inputs : messages_at (read_as merge_input_of) 1 (merge_fields merge) ≡ Some merge.inputs =
    simp reads (each-back merge_input_fields (read_as merge_input_of) merge.inputs
    (all_map FitsMergeInput (ReadsBack merge_input_fields (read_as merge_input_of)) merge.inputs
    (λ input fit. fields-back merge_input_fields merge_input_of input (merge_input-back input fit)) fits)) in
    λ i. option_map (λ inputs. record { inputs = inputs }) (inputs i)

kind-blocks-1 : (kind : OpKind) → blocks_of 1 (kind_fields kind) ≡ []
unfolding kind_fields blocks_of message_field
kind-blocks-1 End = refl
kind-blocks-1 (Exec exec) = refl
kind-blocks-1 (Source source) = refl
kind-blocks-1 (File file) = refl
kind-blocks-1 (Merge merge) = refl

kind-blocks-10 : (kind : OpKind) → blocks_of 10 (kind_fields kind) ≡ []
unfolding kind_fields blocks_of message_field
kind-blocks-10 End = refl
kind-blocks-10 (Exec exec) = refl
kind-blocks-10 (Source source) = refl
kind-blocks-10 (File file) = refl
kind-blocks-10 (Merge merge) = refl

kind-blocks-11 : (kind : OpKind) → blocks_of 11 (kind_fields kind) ≡ []
unfolding kind_fields blocks_of message_field
kind-blocks-11 End = refl
kind-blocks-11 (Exec exec) = refl
kind-blocks-11 (Source source) = refl
kind-blocks-11 (File file) = refl
kind-blocks-11 (Merge merge) = refl

kind-back : (kind : OpKind) → FitsKind kind
    → kind_read (joined (blocks_of 2 (kind_fields kind))) (joined (blocks_of 3 (kind_fields kind))) (joined (blocks_of 4 (kind_fields kind)))
    (joined (blocks_of 6 (kind_fields kind))) ≡ Some kind
unfolding kind_fields blocks_of message_field
kind-back End fits = refl
kind-back (Exec exec) fits =
    ap (λ bytes. kind_read bytes None None None) (joined-one (message_bytes (exec_fields exec)))
    ∙ ap (option_map Exec) (fields-back exec_fields exec_of exec (exec-back exec fits))
kind-back (Source source) fits =
    ap (λ bytes. kind_read None bytes None None) (joined-one (message_bytes (source_fields source)))
    ∙ ap (option_map Source) (fields-back source_fields source_of source (source-back source))
kind-back (File file) fits =
    ap (λ bytes. kind_read None None bytes None) (joined-one (message_bytes (file_fields file)))
    ∙ ap (option_map File) (fields-back file_fields file_of file (file-back file fits))
kind-back (Merge merge) fits =
    ap (λ bytes. kind_read None None None bytes) (joined-one (message_bytes (merge_fields merge)))
    ∙ ap (option_map Merge) (fields-back merge_fields merge_of merge (merge-back merge fits))

ruleset op_reads = (reads, kind-blocks-1, kind-blocks-10, kind-blocks-11)

fields_of_op-back : (op : Op) → FitsOp op → op_of (op_fields op) ≡ Some op
unfolding op_of op_fields
fields_of_op-back op fits =
    let inputs : messages_at (read_as input_of) 1 (op_fields op) ≡ Some op.inputs =
    simp op_reads (each-back input_fields (read_as input_of) op.inputs
    (all_map FitsInput (ReadsBack input_fields (read_as input_of)) op.inputs
    (λ input fit. fields-back input_fields input_of input (input-back input fit)) fits.0)) in
    let kind : kind_read (joined (blocks_of 2 (op_fields op))) (joined (blocks_of 3 (op_fields op))) (joined (blocks_of 4 (op_fields op)))
    (joined (blocks_of 6 (op_fields op))) ≡ Some op.kind = simp op_reads (kind-back op.kind fits.1) in
    let platform : optional_at (read_as platform_of) 10 (op_fields op) ≡ Some op.platform =
    simp op_reads (optional-back platform_fields (read_as platform_of) op.platform
    (λ value _. fields-back platform_fields platform_of value (platform-back value))) in
    let constraints : optional_at (read_as constraints_of) 11 (op_fields op) ≡ Some op.constraints =
    simp op_reads (optional-back constraint_fields (read_as constraints_of) op.constraints
    (λ value _. fields-back constraint_fields constraints_of value (constraints-back value))) in
    λ i. option_and_then
    (λ inputs. option_and_then
    (λ kind. option_and_then
    (λ platform. option_map
    (λ constraints. record { inputs = inputs; kind = kind; platform = platform; constraints = constraints })
    (constraints i))
    (platform i))
    (kind i))
    (inputs i)

pub op-back : (op : Op) → FitsOp op → read_op (op_bytes op) ≡ Some op
op-back op fits = fields-back op_fields op_of op (fields_of_op-back op fits)

-- what an operation's bytes are read as
pub op_read : (op : Op) (bytes : List ℕ) → FitsOp op → bytes ≡ op_bytes op → read_op bytes ≡ Some op
op_read op bytes fits same = ap read_op same ∙ op-back op fits

some-same : {A : Type 0} (this that : A) → Some this ≡ Some that → this ≡ that
some-same this that same = cc

pub op-same : (this that : Op) → FitsOp this → FitsOp that → op_bytes this ≡ op_bytes that → this ≡ that
op-same this that fits_this fits_that same =
    some-same this that (sym (op-back this fits_this) ∙ (ap read_op same ∙ op-back that fits_that))
