use Rattle.std.proofs.Common.{◌≡◌, ap, sym, ◌∙◌}
use Rattle.serde_json.specs.Data.{string, put}
use Rattle.imageconfig.specs.Writing.{put_texts_of}
use Rattle.configtext.specs.PrivateLabels.{label_members}
use Rattle.configtext.proofs.LabelFacts.{inserted}
use Rattle.configtext.proofs.labels.sort_labels.Goals as goal

pub loop-key-preserved : goal.loop-key-preserved
loop-key-preserved c =
    let l = c.loop-key in
    let key = c.in-Some.key.now in
    let put_one : label_members c.insert.new.self.entries ≡ put key (string c.in-Some.value.now) (label_members l.sorted.entries) =
    ap label_members c.in_ok-insert.ensures.entries ∙ inserted l.sorted.entries _ _ ∙ ap (λ k. put k (string c.as_str-in-loop-key.result.now) (label_members l.sorted.entries)) c.as_str.ensures
    ∙ ap (λ v. put key (string v) (label_members l.sorted.entries)) c.as_str-in-loop-key.ensures in
    ap (put_texts_of c.next.new.self) put_one ∙ sym (ap (λ rs. put_texts_of rs (label_members l.sorted.entries)) c.in-Some.ensures.steps) ∙ l.invariant
