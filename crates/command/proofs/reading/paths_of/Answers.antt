use Rattle.std.proofs.Common.{◌≡◌, ◌∙◌, Some, [], ap, sym, subst, map, option_map, unwrap_or, codes}
use Rattle.std.specs.Prelude.{IfOk}
use Rattle.clap.specs.Walk.{all_of}
use Rattle.clap.specs.Words.{found_of, rows_of}
use Rattle.command.proofs.reading.paths_of.Goals as goal

pub returns-in-Some : goal.returns-in-Some
returns-in-Some c =
    let given : Some (map (λ text. text.now) c.in-Some.texts.now) ≡ all_of (codes "PATH") (rows_of (found_of c.args.matches.now))
    = ap (option_map (λ texts. map (λ text. text.now) texts.now)) (sym c.in-Some.is) ∙ c.texts_of.ensures in
    subst (λ paths. IfOk c.copy_texts.result (λ copies. copies ≡ paths)) (ap (λ found. unwrap_or found []) given) c.copy_texts.ensures
