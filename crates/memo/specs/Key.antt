-- The key under which an entry is looked for (own): a part of the SHA-256 of all that its operation is made of. It narrows the search and decides
-- nothing: all that counts is that it is a function of the operation.
use Rattle.std.specs.Prelude.{ℕ, List, [], ◌∷◌, ◌++◌, slice_index}
use Rattle.std.specs.Hash.{HashWrites, u8, str, slice}
use Rattle.std.specs.Int.{from_be_bytes, w64}
use Rattle.std.specs.List.{concat}
use Rattle.sha2.specs.declared.Sha256.{Sha256}
use Rattle.sha2.specs.Hashers.{Holds256}
use Rattle.sha2.specs.Sha256.{sha256}
use Rattle.llb.specs.declared.op.Op.{Op}
use Rattle.llb.specs.declared.op.Op.TheVariants.{Source as SourceOp, Exec as ExecOp, Copy as CopyOp, MakeDirs as MakeDirsOp, Merge as MergeOp}
use Rattle.llb.specs.declared.op.Exec.{Exec}
use Rattle.llb.specs.Hash.{path_writes, cache_writes, bind_writes, copy_writes, source_writes}
use Rattle.plain.specs.Hash.{variable_writes}

-- a hasher was handed these pieces, one after another
pub record Takes (old new : Sha256) (writes : HashWrites) : Type 0 where
  pub holds : (message : List ℕ) → Holds256 old message → Holds256 new (message ++ concat writes)

-- what is written of a command, each list with its length: all that it is made of (own)
abbrev pub command_writes : Exec → HashWrites
command_writes exec =
    slice bind_writes exec.binds ++ slice cache_writes exec.caches ++ path_writes exec.dir ++ slice variable_writes exec.env
    ++ str exec.user ++ slice str exec.words

-- what is written of an operation: its kind, and what it is (own)
abbrev pub operation_writes : Op → HashWrites
operation_writes (SourceOp source) = u8 0 ++ source_writes source
operation_writes (ExecOp exec) = u8 1 ++ command_writes exec
operation_writes (CopyOp files) = u8 2 ++ copy_writes files
operation_writes (MakeDirsOp path) = u8 3 ++ path_writes path
operation_writes MergeOp = u8 4

-- the number that the first eight bytes of a digest spell
abbrev pub first_eight : List ℕ → ℕ
first_eight digest = from_be_bytes w64 (slice_index digest 0 ∷ slice_index digest 1 ∷ slice_index digest 2 ∷ slice_index digest 3 ∷ slice_index digest 4 ∷ slice_index digest 5 ∷ slice_index digest 6 ∷ slice_index digest 7 ∷ [])

-- the key of an operation
unfoldable pub key_of : Op → ℕ
key_of op = first_eight (sha256 (concat (operation_writes op)))
