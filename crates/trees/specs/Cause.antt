-- Why an instruction of a build gives no tree, and what a call that gives or changes a tree answers.
use Rattle.std.specs.Prelude.{◌≡◌, ℕ, Option, Some, None, Result, Ok, Err, List, ◌++◌, codes}
use Rattle.std.specs.Fmt.{decimal}
use Rattle.plain.specs.declared.fault.Fault.{Fault}
use Rattle.plain.specs.declared.fault.Fault.TheVariants.{Because, Memory}
use Rattle.trees.specs.declared.cause.Cause.{Cause}
use Rattle.trees.specs.declared.cause.Cause.TheVariants.{F1, F2, F3, F4, F5, Exit}
use Rattle.trees.specs.TreeMap.{TreeMap}

-- the name of a cause (own). It is a format: an answer names a cause so
abbrev pub cause_text : Cause → List ℕ
cause_text F1 = codes "F1"
cause_text F2 = codes "F2"
cause_text F3 = codes "F3"
cause_text F4 = codes "F4"
cause_text F5 = codes "F5"
cause_text (Exit status) = codes "exit " ++ decimal status

-- a tree, or the cause why there is none
abbrev pub TreeOrCause : Type 0
TreeOrCause = Result TreeMap Cause

-- this tree, unless there is a cause
abbrev pub tree_or : Option Cause → TreeMap → TreeOrCause
tree_or None tree = Ok tree
tree_or (Some cause) tree = Err cause

-- a call that gives a tree answers this value; want of memory may be answered in its place
abbrev pub GivesTree : TreeOrCause → Result TreeMap (Fault Cause) → Type 0
GivesTree value (Ok tree) = value ≡ Ok tree
GivesTree value (Err (Because cause)) = value ≡ Err cause
GivesTree value (Err Memory) = Unit {0}

-- a call that changes a tree from old to new makes it this value; after any fault the tree is as it was
abbrev pub ChangesTree : TreeOrCause → TreeMap → TreeMap → Result (Unit {0}) (Fault Cause) → Type 0
ChangesTree value old new (Ok done) = value ≡ Ok new
ChangesTree value old new (Err (Because cause)) = (value ≡ Err cause) × (new ≡ old)
ChangesTree value old new (Err Memory) = new ≡ old
