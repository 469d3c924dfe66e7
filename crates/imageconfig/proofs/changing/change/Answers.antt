use Rattle.std.proofs.Common.{◌≡◌, sym, subst}
use Rattle.std.specs.Prelude.{Result}
use Rattle.plain.specs.declared.fault.Fault.{Fault}
use Rattle.expand.specs.declared.reason.Reason.{Reason}
use Rattle.instructions.specs.declared.instruction.InstructionKind.{InstructionKind}
use Rattle.scopes.specs.Evaluate.{Values}
use Rattle.scopes.specs.Scope.{value_in}
use Rattle.imageconfig.specs.declared.config.Config.{Config}
use Rattle.imageconfig.specs.PrivateLines.{IsChanged}
use Rattle.imageconfig.proofs.changing.change.Goals as goal

-- a change by what the instruction is
by_kind : (kind spelled : InstructionKind) (old new : Config) (v : Values) (answer : Result (Unit {0}) (Fault Reason)) → kind ≡ spelled → IsChanged old v spelled new answer → IsChanged old v kind new answer
by_kind kind spelled old new v answer same h = subst (λ (k : InstructionKind). IsChanged old v k new answer) (sym same) h

pub returns-in-Env : goal.returns-in-Env
returns-in-Env c = by_kind _ _ _ c.set_env.new.config (value_in c.args.before.now) _ c.in-Env.is c.set_env.ensures

pub returns-in-Label : goal.returns-in-Label
returns-in-Label c = by_kind _ _ _ c.set_labels.new.config (value_in c.args.before.now) _ c.in-Label.is c.set_labels.ensures

pub returns-in-Expose : goal.returns-in-Expose
returns-in-Expose c = by_kind _ _ _ c.add_ports.new.config (value_in c.args.before.now) _ c.in-Expose.is c.add_ports.ensures

pub returns-in-User : goal.returns-in-User
returns-in-User c = by_kind _ _ _ c.set_user.new.config (value_in c.args.before.now) _ c.in-User.is c.set_user.ensures

pub returns-in-Workdir : goal.returns-in-Workdir
returns-in-Workdir c = by_kind _ _ _ c.set_dir.new.config (value_in c.args.before.now) _ c.in-Workdir.is c.set_dir.ensures

pub returns-in-StopSignal : goal.returns-in-StopSignal
returns-in-StopSignal c = by_kind _ _ _ c.set_stop_signal.new.config (value_in c.args.before.now) _ c.in-StopSignal.is c.set_stop_signal.ensures

pub returns-in-Volume : goal.returns-in-Volume
returns-in-Volume c = by_kind _ _ _ c.add_volumes.new.config (value_in c.args.before.now) _ c.in-Volume.is c.add_volumes.ensures
