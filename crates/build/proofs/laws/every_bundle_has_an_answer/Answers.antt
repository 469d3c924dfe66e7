use Rattle.imageconfig.specs.Reading.{config_in}
use Rattle.build.proofs.ExistFacts.{has_answer}
use Rattle.build.proofs.laws.every_bundle_has_an_answer.Goals as goal

pub returns : goal.returns
returns c =
    has_answer
    (record {
      read = c.bytes_are_read_or_refused.ensures config_in;
      images = c.images_are_as_they_are_read.ensures config_in;
      environment = c.what_is_read_has_an_environment.ensures;
      texts = c.texts_are_read_or_refused.ensures;
      file = c.instructions_of_a_text_are_whole.ensures;
      table = c.what_is_resolved_is_a_table.ensures.table;
      known = c.what_is_resolved_is_a_table.ensures.known;
      evaluates = c.every_table_is_evaluated_or_refused.ensures;
      formed = c.what_is_evaluated_is_whole.ensures.rows;
      target = c.what_is_evaluated_is_whole.ensures.target;
      named = c.what_is_evaluated_is_whole.ensures.named;
      outcome = c.every_file_has_an_outcome.ensures;
    })
