use Rattle.std.proofs.Common.{◌≡◌, ◌++◌, drop, map}
use Rattle.std.specs.Option.{option_copied}
use Rattle.std.specs.String.{string_bytes}
use Rattle.checks.specs.Shown.{shown_faults}
use Rattle.checks.proofs.showing.shown_each.Given as goal

abbrev pub invariant-loop-fault : goal.invariant-loop-fault
invariant-loop-fault l =
    string_bytes l.text ++ shown_faults l.file l.form (option_copied l.target) l.images (map (λ line. line.now) l.lines) (drop l.fault-index l.faults)
    ≡ shown_faults l.file l.form (option_copied l.target) l.images (map (λ line. line.now) l.lines) l.faults
