use Rattle.serde_json.specs.View.{view}
use Rattle.borrowed.specs.Seen.{data_of}
use Rattle.packing.proofs.ImageFacts.{gives_inspected}
use Rattle.packing.proofs.inspected.config_inspected.Goals as goal

pub returns : goal.returns
returns c =
    gives_inspected (data_of c.args.value.now) (view c.in_ok-architecture.architecture) (view c.in_ok-config.config) (view c.in_ok-os.os) (view c.in_ok-layers.layers)
    (view c.in_ok-config_value.field-0) c.in_ok-architecture.ensures c.in_ok-config.ensures c.in_ok-os.ensures c.in_ok-layers.ensures c.in_ok-config_value.ensures
