-- What an operation may look at of the trees of its inputs, said by what the operation means and not by what BuildKit is told (Dockerfile reference,
-- COPY and RUN --mount=type=bind; BuildKit's LLB).
use Rattle.std.specs.Prelude.{◌≡◌, ℕ, suc, true, Some, List, slice_get}
use Rattle.std.specs.List.{Any}
use Rattle.paths.specs.Path.{is_at_or_under}
use Rattle.globs.specs.Glob.{relates}
use Rattle.llb.specs.declared.op.Bind.{Bind}
use Rattle.llb.specs.declared.op.FileSource.{FileSource}
use Rattle.llb.specs.declared.op.FileSource.TheVariants.{Pattern, Data}
use Rattle.llb.specs.declared.op.Op.{Op}
use Rattle.llb.specs.declared.op.Op.TheVariants.{Source as SourceOp, Exec as ExecOp, Copy as CopyOp, MakeDirs as MakeDirsOp, Merge as MergeOp}

-- a source of a COPY takes a path of a tree: one to which its pattern relates, or one below that; a file of the COPY's own is in no tree
-- (Dockerfile reference, COPY)
abbrev pub Takes : List (List ℕ) → FileSource → Type 0
Takes path (Pattern text) = (found : List (List ℕ)) × ((relates text found ≡ true) × (is_at_or_under path found ≡ true))
Takes path (Data name content) = ⊥

-- An operation may look at a path of its input of this number. A COPY looks in its second input, that of number 1, only at what its sources take. A
-- command looks in the input of a bind, whose number is one more than the bind's, only at and below the bind's source. Else an operation may look at
-- any path (Dockerfile reference, COPY and RUN --mount=type=bind; BuildKit's LLB)
abbrev pub Reads : Op → ℕ → List (List ℕ) → Type 0
Reads (SourceOp source) number path = Unit {0}
Reads (ExecOp exec) number path = (n : ℕ) (bind : Bind) → number ≡ suc n → slice_get exec.binds n ≡ Some bind → is_at_or_under path bind.source ≡ true
Reads (CopyOp files) number path = number ≡ 1 → Any (λ source. Takes path source) files.sources
Reads (MakeDirsOp dir) number path = Unit {0}
Reads MergeOp number path = Unit {0}
