use Rattle.std.proofs.Common.{◌∙◌, ap, sym}
use Rattle.expand.specs.PrivateForm.{kept_word}
use Rattle.expand.specs.PrivateTokens.{word_of}
use Rattle.expand.proofs.ExpandLemmas.{gives_longest}
use Rattle.expand.proofs.FormLemmas.{gives_plain}
use Rattle.expand.proofs.expanding.expand.Goals as goal

pub returns-in-Plain : goal.returns-in-Plain
returns-in-Plain g c =
    gives_plain (g.S.Lookup.value_of c.args.scope.now) c.in-Plain.text c.args.word.now c.copy_within.result (sym (ap kept_word c.in-Plain.is) ∙ c.form.ensures) c.copy_within.ensures

pub returns-in-Tokens : goal.returns-in-Tokens
returns-in-Tokens g c =
    let same = ap word_of c.as_slice.ensures ∙ sym (ap kept_word c.in-Tokens.is) ∙ c.form.ensures in
    gives_longest (g.S.Lookup.value_of c.args.scope.now) c.as_slice.result.now c.args.word.now c.expand_tokens.result same c.expand_tokens.ensures
