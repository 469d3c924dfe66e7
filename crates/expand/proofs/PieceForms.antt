-- Pieces as they are written, and where they may stand. `SyntaxLaws` says which syntax they are.
use Rattle.std.specs.Prelude.{◌≡◌, ℕ, zero, suc, true, false, List, [], ◌∷◌, ◌++◌}
use Rattle.ascii.specs.Names.{is_name}
use Rattle.expand.specs.PrivatePieces.{Piece, itself, bare, braced, opening, close}
use Rattle.expand.specs.Syntax.{dollar, open_brace, close_brace, active, operator_text, goes_on, StandsForItself, MayNest}
use Rattle.expand.specs.declared.character.Character.{Character}
use Rattle.expand.specs.declared.character.Character.TheVariants.{Active}

-- a piece as it is written (Dockerfile reference, environment replacement)
abbrev pub piece_text : Piece → List Character
piece_text (itself c) = c ∷ []
piece_text (bare v) = Active dollar ∷ active v
piece_text (braced v) = Active dollar ∷ Active open_brace ∷ (active v ++ Active close_brace ∷ [])
piece_text (opening o t v) = Active dollar ∷ Active open_brace ∷ (active v ++ operator_text o t)
piece_text close = Active close_brace ∷ []

-- pieces as they are written, one after another
abbrev pub written : List Piece → List Character
written [] = []
written (p ∷ ps) = piece_text p ++ written ps

-- the pieces may stand where n words are open: a name is a letter or `_` followed by letters, digits or `_`, that of `$v`
-- the longest; each word that is opened is closed
abbrev pub AllStand : ℕ → List Piece → Type 0
AllStand n [] = n ≡ 0
AllStand n (itself c ∷ ps) = StandsForItself n c (written ps) × AllStand n ps
AllStand n (bare v ∷ ps) = (is_name v ≡ true) × (goes_on (written ps) ≡ false) × AllStand n ps
AllStand n (braced v ∷ ps) = (is_name v ≡ true) × MayNest n × AllStand n ps
AllStand n (opening o t v ∷ ps) = (is_name v ≡ true) × MayNest n × AllStand (suc n) ps
AllStand zero (close ∷ ps) = ⊥
AllStand (suc n) (close ∷ ps) = AllStand n ps
