use Rattle.std.proofs.Common.{option_map}
use Rattle.serde_json.specs.View.{view}
use Rattle.borrowed.specs.Seen.{data_of}
use Rattle.packing.proofs.ImageFacts.{tells_tree}
use Rattle.packing.proofs.images.image_with_tree.Goals as goal

pub returns-in-Err : goal.returns-in-Err
returns-in-Err c = tells_tree (data_of c.args.config.now) (option_map view c.args.digest) (data_of c.args.tree.now) c.in-Err.fault c.in-Err.ensures
