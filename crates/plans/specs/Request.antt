-- What a command's run is asked: its request, made of the operation and of the trees of its inputs (Dockerfile reference, RUN).
use Rattle.std.specs.Prelude.{Result, Ok, Err, List, [], ◌∷◌}
use Rattle.std.specs.List.{zip}
use Rattle.trees.specs.TreeMap.{TreeMap}
use Rattle.trees.specs.Cause.{TreeOrCause}
use Rattle.trees.specs.Subtree.{subtree}
use Rattle.trees.specs.declared.cause.Cause.{Cause}
use Rattle.runs.specs.declared.run.RunBind.{RunBind}
use Rattle.runs.specs.declared.run.RunRequest.{RunRequest}
use Rattle.llb.specs.declared.op.Bind.{Bind}
use Rattle.llb.specs.declared.op.Exec.{Exec}

-- one bind before others; the first that fails decides
abbrev pub with_bind : Bind → TreeOrCause → Result (List RunBind) Cause → Result (List RunBind) Cause
with_bind bind (Err cause) rest = Err cause
with_bind bind (Ok tree) (Err cause) = Err cause
with_bind bind (Ok tree) (Ok rest) = Ok (record { target = bind.target; tree = tree; rw = bind.rw } ∷ rest)

-- the binds as a run has them: each with what is under its source in its own tree, in order
abbrev pub binds_of : List (Bind × TreeMap) → Result (List RunBind) Cause
binds_of [] = Ok []
binds_of ((bind, tree) ∷ binds) = with_bind bind (subtree tree bind.source) (binds_of binds)

-- the request of a command that runs in this root with these binds
abbrev pub request_with : Exec → TreeMap → Result (List RunBind) Cause → Result RunRequest Cause
request_with exec root (Err cause) = Err cause
request_with exec root (Ok binds) =
    Ok (record { root = root; binds = binds; caches = exec.caches; env = exec.env; dir = exec.dir; user = exec.user; words = exec.words })

-- the request of a command on the tree that it runs in and the trees of its binds, in their order; or why it isn't run
abbrev pub request_of : Exec → TreeMap → List TreeMap → Result RunRequest Cause
request_of exec root trees = request_with exec root (binds_of (zip exec.binds trees))
