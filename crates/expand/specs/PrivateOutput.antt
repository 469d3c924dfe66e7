-- The tokens that an output stands for, plain text byte by byte.
use Rattle.std.specs.Prelude.{List, [], ◌∷◌, ◌++◌}
use Rattle.std.specs.String.{string_bytes}
use Rattle.expand.specs.PrivatePieces.{plain_bytes}
use Rattle.expand.specs.declared.output.Output.{Output}
use Rattle.expand.specs.declared.token.Token.{Token}
use Rattle.expand.specs.declared.token.Token.TheVariants.{Plain, Variable, Open, Close}

-- tokens with plain text byte by byte
abbrev pub bytewise : List Token → List Token
bytewise [] = []
bytewise (Plain text ∷ ts) = plain_bytes text ++ bytewise ts
bytewise (Variable v ∷ ts) = Variable v ∷ bytewise ts
bytewise (Open o t v ∷ ts) = Open o t v ∷ bytewise ts
bytewise (Close ∷ ts) = Close ∷ bytewise ts

-- the tokens that an output stands for
abbrev pub made : Output → List Token
made o = bytewise o.tokens ++ plain_bytes (string_bytes o.plain)
