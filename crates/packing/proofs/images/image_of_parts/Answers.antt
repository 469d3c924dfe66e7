use Rattle.std.proofs.Common.{option_map}
use Rattle.serde_json.specs.View.{view}
use Rattle.borrowed.specs.Seen.{data_of}
use Rattle.packing.proofs.ImageFacts.{gives_read, tells_config}
use Rattle.packing.proofs.images.image_of_parts.Goals as goal

pub returns-in-Ok : goal.returns-in-Ok
returns-in-Ok c =
    gives_read (data_of c.args.config.now) (option_map view c.args.digest) (view c.args.tree) c.even_image.result (view c.in-Ok.config) c.in-Ok.ensures.0 c.in-Ok.ensures.1
    c.requires.digest c.requires.tree c.even_image.ensures

pub returns-in-Err : goal.returns-in-Err
returns-in-Err c = tells_config (data_of c.args.config.now) (option_map view c.args.digest) (view c.args.tree) c.in-Err.fault c.in-Err.ensures
