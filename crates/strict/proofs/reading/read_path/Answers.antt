use Rattle.std.proofs.Common.{◌≡◌, ◌≢◌, ℕ, List, MatchOption, subst}
use Rattle.paths.specs.Path.{IsClean, text_of}
use Rattle.strict.proofs.PathFacts.{path_of-text, path_of-other}
use Rattle.strict.proofs.reading.read_path.Goals as goal

pub returns-in-Some : goal.returns-in-Some
returns-in-Some c =
    let text = c.args.text.now in
    path_of-text _ text c.components-clean.ensures.clean (subst (λ o. MatchOption o ((p : List (List ℕ)) → IsClean p → text_of p ≢ text) (λ p. text_of p ≡ text)) c.in-Some.is c.in_ok-path.ensures)

pub returns-in-None : goal.returns-in-None
returns-in-None c =
    let text = c.args.text.now in
    path_of-other text (subst (λ o. MatchOption o ((p : List (List ℕ)) → IsClean p → text_of p ≢ text) (λ p. text_of p ≡ text)) c.in-None.is c.in_ok-path.ensures)
