-- What the scan of each kind of text gives.
use Rattle.std.proofs.Common.{◌≡◌, ℕ, List, Option, Some, false, ap, ◌∙◌, sym}
use Rattle.lines.specs.declared.escape.Escape.{Escape}
use Rattle.expand.specs.PrivateScan.{quoted_from, scanned, bare_from}
use Rattle.expand.proofs.ScanLaws.{quoted_from-is}
use Rattle.expand.specs.declared.kind.Kind.{Kind}
use Rattle.expand.specs.declared.kind.Kind.TheVariants.{Quoted, Unquoted}
use Rattle.words.specs.declared.quote.QuoteState.TheVariants.{Outside}
use Rattle.expand.specs.declared.character.Character.{Character}

pub scanned_quoted : (kind : Kind) (e : Escape) (text : List ℕ) (found : Option (List Character)) → kind ≡ Quoted → found ≡ quoted_from e Outside text → found ≡ scanned kind e text
unfolding scanned
scanned_quoted kind e text found h i = i ∙ quoted_from-is e text ∙ ap (λ (k : Kind). scanned k e text) (sym h)

pub scanned_unquoted : (kind : Kind) (e : Escape) (text : List ℕ) (found : Option (List Character)) → kind ≡ Unquoted → found ≡ Some (bare_from e false text) → found ≡ scanned kind e text
unfolding scanned
scanned_unquoted kind e text found h i = i ∙ ap (λ (k : Kind). scanned k e text) (sym h)
