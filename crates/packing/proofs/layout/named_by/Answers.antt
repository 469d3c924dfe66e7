use Rattle.borrowed.specs.Seen.{data_of}
use Rattle.packing.proofs.ImageFacts.{names_config_result, names_image_result}
use Rattle.packing.proofs.layout.named_by.Goals as goal

pub returns-in-Some-chosen_in-clause-named : goal.returns-in-Some-chosen_in-clause-named
returns-in-Some-chosen_in-clause-named c =
    names_image_result (data_of c.args.value.now) (data_of c.in-Some.images.now) (data_of c.in-Some-chosen_in.image.now) c.named_at.result c.in-Some.ensures
    c.in-Some-chosen_in.ensures c.named_at.ensures.named

pub returns-in-Some-at-clause-named : goal.returns-in-Some-at-clause-named
returns-in-Some-at-clause-named c =
    names_config_result (data_of c.args.value.now) (data_of c.in-Some-at.config.now) c.named_at-in-Some-at.result c.in-None.ensures c.in-Some-at.ensures
    c.named_at-in-Some-at.ensures.named
