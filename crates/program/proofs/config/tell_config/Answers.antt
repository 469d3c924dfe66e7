use Rattle.program.proofs.ConfigFacts.{config_told, refusal_told}
use Rattle.program.proofs.config.tell_config.Goals as goal

pub returns-in-Ok : goal.returns-in-Ok
returns-in-Ok g c =
    config_told c.args.bundle.now c.in-Ok.asked.evaluated c.tell_value-told.result c.in-Ok.ensures.asked c.tell_value-told.ensures.status c.tell_value-told.ensures.text

pub returns-in-Err-Because : goal.returns-in-Err-Because
returns-in-Err-Because g c =
    refusal_told c.args.bundle.now c.in-Err-Because.field-0 c.in-Err-Because.refusal c.tell_refusal.result c.in-Err-Because.field-0-is c.in-Err-Because.ensures.asked
    c.tell_refusal.ensures.status c.tell_refusal.ensures.text
