use Rattle.std.proofs.Common.{◌≡◌, ◌∙◌, Bool, Option, Some, ap, sym, false, codes, bytes_eq, option_map}
use Rattle.std.specs.Option.{option_map_or}
use Rattle.clap.specs.Words.{Text, first_of, found_of, rows_of}
use Rattle.clap.proofs.WalkLemmas.{first_value-rows}
use Rattle.command.proofs.reading.is_set.Goals as goal

abbrev says_true : Option Text → Bool
says_true found = option_map_or (λ text. bytes_eq text (codes "true")) found false

pub returns-in-Some : goal.returns-in-Some
returns-in-Some c =
    let first : Some c.in-Some.text.now ≡ first_of c.args.id.now (rows_of (found_of c.args.matches.now))
    = ap (option_map (λ text. text.now)) (sym c.in-Some.is) ∙ c.get_str.ensures ∙ first_value-rows (found_of c.args.matches.now) c.args.id.now in
    c.eq.ensures ∙ ap says_true first

pub returns-in-None : goal.returns-in-None
returns-in-None c = ap says_true (ap (option_map (λ text. text.now)) (sym c.in-None.is) ∙ c.get_str.ensures ∙ first_value-rows (found_of c.args.matches.now) c.args.id.now)
