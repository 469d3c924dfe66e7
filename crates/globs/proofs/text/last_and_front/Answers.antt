use Rattle.std.proofs.Common.{◌∙◌, ◌++◌, length, sym, ap}
use Rattle.std.proofs.Math.Utf8.{encode}
use Rattle.globs.proofs.Characters.{last-char, no-char}
use Rattle.globs.proofs.text.last_and_front.Goals as goal

pub returns-in-Some : goal.returns-in-Some
returns-in-Some c = last-char _ _ _ c.utf8.text c.as_str.utf8 (sym c.chars-characters.ensures.rest ∙ c.in-Some.ensures.steps ∙ ap (λ l. l ++ encode c.in-Some.character) (sym c.as_str.ensures))

pub returns-in-None : goal.returns-in-None
returns-in-None c = no-char _ (ap length (sym c.chars-characters.ensures.rest) ∙ c.in-None.ensures.steps.0)
