use denote.Param.Send.{param_send, arg_send}
use denote.Exit.{no}
use mir.Syntax.{named}
use Rattle.entries.proofs.Crosses.{print_send}
use Rattle.entries.proofs.together.put_and_print.Goals as goal

pub join_mut-said-requires-send-F : goal.join_mut-said-requires-send-F
join_mut-said-requires-send-F g c κs within =
    param_send 1 _ (arg_send _ no _ (print_send _ _ (record { mir = named 10; lft = κs.1.1.1.1.1.1.1.1.1.1.0 }) (record { mir = named 11; lft = κs.1.1.1.1.1.1.1.1.1.1.1.0 }) g.row.R c.type_bounds.sync-R))
