use Rattle.imageconfig.specs.Reading.{config_in}
use Rattle.checks.proofs.ListFacts.{TextLaws, OneText, NameLaws, StageLaws, one_list, some_list}
use Rattle.checks.proofs.laws.each_bundle_has_its_faults.Goals as goal

pub returns : goal.returns
returns c =
    let told = c.the_first_fault_is_the_refusal.ensures in
    let named = c.the_first_fault_is_the_refusal-2.ensures in
    let texts : TextLaws = record { first = told.first; free = told.free; read = told.read } in
    let names : NameLaws = record { first = named.first; free = named.free; resolved = named.resolved } in
    let stages : StageLaws = record {
      file = c.instructions_of_a_text_are_whole.ensures;
      table = c.what_is_resolved_is_a_table.ensures.table;
      evaluates = c.every_table_is_evaluated_or_refused.ensures;
    } in
    let unique : OneText = record { faults = c.each_text_has_its_faults.ensures.unique; instructions = c.answers_are_unique.ensures.instructions } in
    record {
      exists = some_list (c.bytes_are_read_or_refused.ensures config_in) c.each_text_has_its_faults.ensures.exists texts names stages;
      unique = one_list texts unique names;
    }
