use Rattle.std.proofs.Common.{◌≡◌, ◌∙◌, Some, ap, rules, sym, option_map}
use Rattle.clap.specs.Words.{found_of}
use Rattle.clap.proofs.WalkLemmas.{first_value-rows}
use Rattle.command.proofs.reading.text_of.Goals as goal

pub returns-in_ok-from_str-in-Some : goal.returns-in_ok-from_str-in-Some
returns-in_ok-from_str-in-Some c =
    let copied : c.from_string.result ≡ c.in-Some.text.now = search rules in
    ap Some copied ∙ ap (option_map (λ text. text.now)) (sym c.in-Some.is) ∙ c.get_str.ensures ∙ first_value-rows (found_of c.args.matches.now) c.args.id.now

pub returns-in-None : goal.returns-in-None
returns-in-None c = ap (option_map (λ text. text.now)) (sym c.in-None.is) ∙ c.get_str.ensures ∙ first_value-rows (found_of c.args.matches.now) c.args.id.now
