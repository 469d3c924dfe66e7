use Rattle.std.proofs.Common.{◌∙◌}
use Rattle.checks.proofs.TextFacts.{refused_text, refused_target}
use Rattle.checks.proofs.checking.refused.Goals as goal

pub returns-clause-text : goal.returns-clause-text
returns-clause-text g c = c.in_ok-text.ensures ∙ refused_text c.args.bytes.now c.args.refusal c.requires

pub returns-clause-target : goal.returns-clause-target
returns-clause-target g c = refused_target c.args.bytes.now c.args.refusal c.requires
