use Rattle.std.proofs.Common.{◌≡◌}
use Rattle.serde_json.specs.Data.{no_members}
use Rattle.imageconfig.specs.Writing.{put_texts_of}
use Rattle.configtext.specs.PrivateLabels.{label_members}
use Rattle.configtext.proofs.labels.sort_labels.Given as goal

-- the labels that are left, put to those that are sorted, are all
abbrev pub invariant-loop-key : goal.invariant-loop-key
invariant-loop-key l = put_texts_of l.key-iterator (label_members l.sorted.entries) ≡ put_texts_of l.rows no_members
