use Rattle.std.proofs.Common.{◌≡◌, drop}
use Rattle.std.specs.List.{list_all}
use Rattle.instructions.specs.Names.{is_in_stage_name}
use Rattle.instructions.proofs.names.are_in_stage_name.Given as goal

abbrev pub invariant-loop-byte : goal.invariant-loop-byte
invariant-loop-byte l = list_all is_in_stage_name (drop l.byte-index l.bytes) ≡ list_all is_in_stage_name l.bytes
