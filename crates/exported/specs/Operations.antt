-- An operation as BuildKit has it (BuildKit's LLB, `Op`): the first output of each input, and constraints that are there, though none is set.
use Rattle.std.specs.Prelude.{ℕ, pos, Option, Some, None, List, [], ◌∷◌, map}
use Rattle.llbmessages.specs.declared.op.Input.{Input}
use Rattle.llbmessages.specs.declared.op.Platform.{Platform}
use Rattle.llbmessages.specs.declared.op.OpKind.{OpKind}
use Rattle.llbmessages.specs.declared.op.OpKind.TheVariants.{End}
use Rattle.llbmessages.specs.declared.op.Op.{Op}

-- the first output of the operation of a digest
abbrev pub input_at : List ℕ → Input
input_at digest = record { digest = digest; index = pos 0 }

-- what an operation on inputs of these digests does, for a platform or for any
unfoldable pub op_on : Option Platform → List (List ℕ) → OpKind → Op
op_on platform digests kind =
    record { inputs = map input_at digests; kind = kind; platform = platform; constraints = Some (record { filters = [] }) }

-- the end of a definition, which names its result; nothing is asked of a machine for it
unfoldable pub end_op : List ℕ → Op
end_op digest = record { inputs = map input_at (digest ∷ []); kind = End; platform = None; constraints = None }
