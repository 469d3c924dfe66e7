use Rattle.std.proofs.Common.{codes}
use Rattle.serde_json.specs.Find.{get}
use Rattle.borrowed.specs.Seen.{data_of}
use Rattle.packing.proofs.ImageFacts.{tells_digest}
use Rattle.packing.proofs.images.image_with_members.Goals as goal

pub returns-in-Err : goal.returns-in-Err
returns-in-Err c = tells_digest (data_of c.args.config.now) (get (codes "digest") (data_of c.args.value.now)) (data_of c.args.tree.now) c.in-Err.fault c.in-Err.ensures
