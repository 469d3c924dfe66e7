use Rattle.std.proofs.Common.{ℕ, List, ◌++◌, ◌∙◌, Some, ap, sym}
use Rattle.std.specs.Option.{option_map}
use Rattle.entries.specs.Reading.{bytes_of}
use Rattle.entries.proofs.DigitFacts.{after_nothing}
use Rattle.entries.proofs.digits.read_digits.Goals as goal

pub returns : goal.returns
returns c =
    sym (after_nothing (bytes_of c.args.text.now))
    ∙ sym (ap (λ (l : List ℕ). option_map (λ (more : List ℕ). l ++ more) (bytes_of c.args.text.now)) c.in_ok-bytes.ensures.items)
    ∙ c.in_ok-add_digits.ensures.ok
    ∙ ap Some (sym c.from_vec.ensures)
