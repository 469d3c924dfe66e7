-- One bind after another, as the code takes them: those that are done, and what becomes of those that are left.
use Rattle.std.specs.Prelude.{Result, Ok, Err, List, ◌++◌}
use Rattle.trees.specs.declared.cause.Cause.{Cause}
use Rattle.runs.specs.declared.run.RunBind.{RunBind}

-- the binds that are done, before those that are left
abbrev pub after : List RunBind → Result (List RunBind) Cause → Result (List RunBind) Cause
after done (Err cause) = Err cause
after done (Ok more) = Ok (done ++ more)
