use Rattle.std.proofs.Common.{drop, ◌≡◌, ◌++◌, List}
use Rattle.std.specs.Prelude.{option_map}
use Rattle.expand.specs.PrivateScan.{quoted_from}
use Rattle.expand.specs.declared.character.Character.{Character}
use Rattle.words.specs.declared.quote.QuoteState.TheVariants.{Outside}
use Rattle.expand.proofs.scan.scan_quoted.Given as goal

abbrev pub invariant-loop-character : goal.invariant-loop-character
invariant-loop-character l =
    option_map (λ (ms : List Character). l.found.items ++ ms) (quoted_from l.escape l.state (drop l.character-index l.text)) ≡ quoted_from l.escape Outside l.text
