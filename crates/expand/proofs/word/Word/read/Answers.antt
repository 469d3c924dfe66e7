use Rattle.std.proofs.Common.{◌∙◌, refl}
use Rattle.expand.proofs.WordLaws.{word-is, word-only, no_word}
use Rattle.expand.proofs.FormLemmas.{plain_is_word}
use Rattle.expand.proofs.ReadLemmas.{read_some_word, read_none_word}
use Rattle.expand.proofs.word.Word.read.Goals as goal

pub invariant_of-result : goal.invariant_of-result
invariant_of-result c = (read_some_word c.args.kind c.args.escape c.args.text.now c.as_slice.result.now c.in-Some.tokens _ (c.as_slice.ensures.value ∙ c.in_ok-characters.ensures) c.in-Some.is c.in_ok-tokens.ensures).0

pub returns-in-Some-clause-found : goal.returns-in-Some-clause-found
returns-in-Some-clause-found c = (read_some_word c.args.kind c.args.escape c.args.text.now c.as_slice.result.now c.in-Some.tokens _ (c.as_slice.ensures.value ∙ c.in_ok-characters.ensures) c.in-Some.is c.in_ok-tokens.ensures).1

pub returns-in-Some-clause-word : goal.returns-in-Some-clause-word
returns-in-Some-clause-word c = word-is c.args.kind c.args.escape c.args.text.now _ (read_some_word c.args.kind c.args.escape c.args.text.now c.as_slice.result.now c.in-Some.tokens _ (c.as_slice.ensures.value ∙ c.in_ok-characters.ensures) c.in-Some.is c.in_ok-tokens.ensures).1

pub returns-clause-found : goal.returns-clause-found
returns-clause-found c = (refl, read_none_word c.args.kind c.args.escape c.args.text.now c.as_slice.result.now _ (c.as_slice.ensures.value ∙ c.in_ok-characters.ensures) c.in-None.is c.in_ok-tokens.ensures)

pub returns-clause-word : goal.returns-clause-word
returns-clause-word c = (refl, no_word c.args.kind c.args.escape c.args.text.now (read_none_word c.args.kind c.args.escape c.args.text.now c.as_slice.result.now _ (c.as_slice.ensures.value ∙ c.in_ok-characters.ensures) c.in-None.is c.in_ok-tokens.ensures))

pub returns-then-are_ordinary-clause-word : goal.returns-then-are_ordinary-clause-word
returns-then-are_ordinary-clause-word c =
    plain_is_word c.args.kind c.args.escape c.args.text.now c.as_bytes.result.now c.are_ordinary.result c.in_ok-word.word c.utf8.text c.as_bytes.ensures.value c.are_ordinary.ensures c.if-are_ordinary.true c.in_ok-word.ensures

pub returns-then-are_ordinary-clause-found : goal.returns-then-are_ordinary-clause-found
returns-then-are_ordinary-clause-found c = word-only c.args.kind c.args.escape c.args.text.now _
    (plain_is_word c.args.kind c.args.escape c.args.text.now c.as_bytes.result.now c.are_ordinary.result c.in_ok-word.word c.utf8.text c.as_bytes.ensures.value c.are_ordinary.ensures c.if-are_ordinary.true c.in_ok-word.ensures)
