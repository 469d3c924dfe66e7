use Rattle.std.proofs.Common.{◌≡◌, ◌∙◌, ◌++◌, ◌∷◌, [], get_or, sym, subst, rules, arith}
use Rattle.std.proofs.lemmas.List.{append-nil}
use Rattle.reasons.specs.Reasons.{AreReasons}
use Rattle.reasons.proofs.Known.{next, ended}
use Rattle.reasons.proofs.telling.tell_all.Goals as goal

pub loop-word-preserved : goal.loop-word-preserved
loop-word-preserved c =
    let this : c.as_str.result.now ≡ get_or c.args.words.now c.loop-word.word-index c.word-item.result = search rules in
    let grown : c.push.new.self.items ≡ (c.loop-word.told.items ++ c.in_ok-reason.reason) ++ 10 ∷ [] = search rules in
    next c.args.file.now c.args.words.now c.loop-word.word-index c.as_str.result.now c.word-item.result c.in_ok-reason.reason c.loop-word.told.items c.push.new.self.items c.loop-word-test.true c.loop-word.invariant this c.in_ok-reason.ensures grown

pub returns : goal.returns
returns c =
    let all = c.loop-word-test.false in
    let told = c.loop-word.invariant [] (ended c.args.file.now c.args.words.now c.loop-word.word-index (omega arith)) in
    subst (AreReasons c.args.file.now c.args.words.now) (append-nil c.loop-word.told.items ∙ sym c.from_vec.ensures) told
