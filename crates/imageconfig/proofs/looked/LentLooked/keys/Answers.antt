use Rattle.borrowed.specs.Seen.{data_of}
use Rattle.imageconfig.proofs.KeyFacts.{gives_keys, tells_keys}
use Rattle.imageconfig.proofs.looked.LentLooked.keys.Goals as goal

pub returns-in_ok-keys_of-in-Ok : goal.returns-in_ok-keys_of-in-Ok
returns-in_ok-keys_of-in-Ok c =
    gives_keys (record {}) (data_of c.args.self.now) c.in-Ok.rows c.in_ok-keys_of-in-Ok.field-0 c.in-Ok.ensures c.in_ok-keys_of-in-Ok.ensures

pub returns-in-Err : goal.returns-in-Err
returns-in-Err c = tells_keys (record {}) (data_of c.args.self.now) c.in-Err.fault c.in-Err.ensures
