use Rattle.std.proofs.Common.{Err, subst}
use Rattle.imageconfig.specs.Reading.{config_in}
use Rattle.bundle.specs.Reading.{ReadsBundle}
use Rattle.flaws.specs.Flaws.{flaw_in}
use Rattle.checks.proofs.CheckFacts.{bundle_refused, bundle_checked}
use Rattle.checks.proofs.TextFacts.{bundle_text, found_text, bundle_target, found_target, found_flaw}
use Rattle.checks.proofs.checking.check_bundle.Goals as goal

pub refused-requires-after_bounds : goal.refused-requires-after_bounds
refused-requires-after_bounds g c κs within = subst (λ f. ReadsBundle config_in c.args.bytes.now (Err f)) c.in-Err-Because.field-0-is c.in-Err-Because.ensures

pub returns-in-Ok-clause-faults : goal.returns-in-Ok-clause-faults
returns-in-Ok-clause-faults g c = bundle_checked c.args.bytes.now c.in-Ok.bundle c.check_whole.result c.in-Ok.ensures c.check_whole.ensures.faults

pub returns-in-Ok-clause-text : goal.returns-in-Ok-clause-text
returns-in-Ok-clause-text g c =
    found_text c.check_whole.result c.in-Ok.bundle.dockerfile _ (bundle_text c.args.bytes.now c.in-Ok.bundle c.in-Ok.ensures) c.check_whole.ensures.text

pub returns-in-Ok-clause-target : goal.returns-in-Ok-clause-target
returns-in-Ok-clause-target g c =
    found_target c.check_whole.result c.in-Ok.bundle.target _ (bundle_target c.args.bytes.now c.in-Ok.bundle c.in-Ok.ensures) c.check_whole.ensures.target

pub returns-in-Ok-clause-flaw : goal.returns-in-Ok-clause-flaw
returns-in-Ok-clause-flaw g c =
    let read = c.in-Ok.ensures in
    let none = (c.a_bundle_has_no_flaw.ensures config_in c.args.bytes.now).1 (read.0, read.1.0) in
    found_flaw c.check_whole.result (flaw_in config_in c.args.bytes.now) none c.check_whole.ensures.flaw

pub returns-in-Err-Because-clause-faults : goal.returns-in-Err-Because-clause-faults
returns-in-Err-Because-clause-faults g c =
    bundle_refused c.args.bytes.now c.in-Err-Because.refusal c.refused.result
    (subst (λ f. ReadsBundle config_in c.args.bytes.now (Err f)) c.in-Err-Because.field-0-is c.in-Err-Because.ensures) c.refused.ensures.faults
