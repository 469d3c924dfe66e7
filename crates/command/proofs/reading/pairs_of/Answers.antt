use Rattle.std.proofs.Common.{◌≡◌, ◌∙◌, Some, false, true, ap, rules, sym, map, option_map}
use Rattle.std.specs.List.{list_all}
use Rattle.clap.specs.Walk.{all_of}
use Rattle.clap.specs.Words.{found_of, rows_of}
use Rattle.command.specs.Sources.{has_equals}
use Rattle.command.proofs.Arguments.{bare_lent, cut_lent}
use Rattle.command.proofs.reading.pairs_of.Goals as goal

pub returns-then-not-have_equals : goal.returns-then-not-have_equals
returns-then-not-have_equals c =
    let given : Some (map (λ text. text.now) c.in-Some.texts.now) ≡ all_of c.args.id.now (rows_of (found_of c.args.matches.now))
    = ap (option_map (λ texts. map (λ text. text.now) texts.now)) (sym c.in-Some.is) ∙ c.texts_of.ensures in
    let bare : list_all (λ text. has_equals text.now) c.in-Some.texts.now ≡ false = search rules in
    bare_lent c.args.id.now (rows_of (found_of c.args.matches.now)) c.in-Some.texts.now given bare

pub returns : goal.returns
returns c =
    let given : Some (map (λ text. text.now) c.in-Some.texts.now) ≡ all_of c.args.id.now (rows_of (found_of c.args.matches.now))
    = ap (option_map (λ texts. map (λ text. text.now) texts.now)) (sym c.in-Some.is) ∙ c.texts_of.ensures in
    let every : list_all (λ text. has_equals text.now) c.in-Some.texts.now ≡ true = search rules in
    cut_lent c.args.id.now (rows_of (found_of c.args.matches.now)) c.in-Some.texts.now _ given every c.in_ok-cut_texts.ensures
