use Rattle.std.proofs.lemmas.Str.{IsCharBoundary-after_ascii}
use Rattle.std.proofs.Common.{sym, ◌∙◌, ap, ◌∷◌}
use Rattle.paths.proofs.SpelledLaws.{slashed, spelled-ok}
use Rattle.paths.proofs.path.Path.from_text.Goals as goal

pub range_from-names-requires : goal.range_from-names-requires
range_from-names-requires c = λ _.
    let is = slashed c.args.text.now (cc) in
    IsCharBoundary-after_ascii c.args.text.now 0 c.utf8.text is.inside is.ascii

pub returns : goal.returns
returns c =
    let text = c.args.text.now in
    let is = slashed text (cc) in
    spelled-ok c.from_names.result text c.range_from-names.result.now (is.is ∙ ap (λ x. 47 ∷ x) (sym c.range_from-names.ensures.value)) (cc) c.from_names.ensures
