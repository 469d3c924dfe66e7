-- Messages of two sentences (own).
use Rattle.std.specs.Prelude.{ℕ, List}
use Rattle.nearest.specs.Nearness.{nearest}
use Rattle.sentences.specs.Table.{wrong_with}
use Rattle.sentences.specs.declared.message.Message.{Message}

-- the message of two sentences
abbrev pub said : List ℕ → List ℕ → Message
said wrong helps = record { wrong = wrong; helps = helps }

-- the same, and the name that may have been meant by a word, if one of these is near
abbrev pub said_near : List ℕ → List ℕ → List (List ℕ) → List ℕ → Message
said_near wrong word names helps = said (wrong_with wrong (nearest word names)) helps
