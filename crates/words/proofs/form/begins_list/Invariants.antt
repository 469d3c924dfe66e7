use Rattle.std.proofs.Common.{◌≡◌, drop}
use Rattle.words.specs.PrivateForm.{begins_list}
use Rattle.words.proofs.form.begins_list.Given as goal

-- the bytes so far are white space
abbrev pub invariant-loop-byte : goal.invariant-loop-byte
invariant-loop-byte l = begins_list (drop l.byte-index l.text) ≡ begins_list l.text
