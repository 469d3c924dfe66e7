use Rattle.trees.proofs.BuilderSteps.{root-file, no-root-file}
use Rattle.trees.proofs.spine.is_root_file.Goals as goal

pub returns-in-empty : goal.returns-in-empty
returns-in-empty c = root-file c.args.path.now c.args.entry.now c.is_directory.result c.in-empty.len_below c.is_directory.ensures

pub returns-in-len1-up : goal.returns-in-len1-up
returns-in-len1-up c = no-root-file c.args.path.now c.args.entry.now c.in-len1-up.len_at_least
