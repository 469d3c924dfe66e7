-- What is said of a line that begins with no instruction (own).
use Rattle.std.specs.Prelude.{◌==◌, ◌||◌, ℕ, Bool, false, List, [], ◌∷◌, Option, Some, None, bytes_eq, codes, map, if◌then◌else◌}
use Rattle.std.specs.List.{list_all}
use Rattle.plain.specs.declared.refusal.Code.TheVariants.{R04}
use Rattle.ascii.specs.Names.{is_letter}
use Rattle.ascii.specs.Pieces.{first_piece}
use Rattle.instructions.specs.Keyword.{keywords, name_of}
use Rattle.sentences.specs.Table.{remedy, sentence}
use Rattle.sentences.specs.Unseen.{has_unseen}
use Rattle.sentences.specs.declared.message.Message.{Message}
use Rattle.sentences.specs.declared.subject.Subject.{Subject}
use Rattle.sentences.specs.declared.subject.Subject.TheVariants.{Other}
use Rattle.meant.specs.Escapes.{before_escape}
use Rattle.meant.specs.Said.{said, said_near}

-- a word begins as no instruction does, but as what an instruction goes on with: by `-`, `&` or `|`
abbrev pub begins_later : List ℕ → Bool
begins_later [] = false
begins_later (c ∷ cs) = (c == 45) || ((c == 38) || (c == 124))

-- a word is one with which a shell's lines begin
unfoldable pub is_of_shell : List ℕ → Bool
is_of_shell word = bytes_eq word (codes "export") || (bytes_eq word (codes "for") || (bytes_eq word (codes "if") || (bytes_eq word (codes "then")
    || (bytes_eq word (codes "else") || (bytes_eq word (codes "fi") || (bytes_eq word (codes "do") || (bytes_eq word (codes "done")
    || (bytes_eq word (codes "cd") || (bytes_eq word (codes "set") || bytes_eq word (codes "echo"))))))))))

-- what is said of a line that begins with no instruction, and helps so
abbrev pub no_instruction : List ℕ → Message
no_instruction helps = said (sentence R04 Other) helps

-- what is said of a first word that may have been meant for an instruction
abbrev pub near_keyword : List ℕ → Message
near_keyword word = said_near (sentence R04 Other) word (map name_of keywords) (remedy R04 Other)

-- what is said of a first word that is no instruction: a hint is given only where it can have been one, so of letters alone
unfoldable pub unknown_word : List ℕ → Message
unknown_word word = if begins_later word || is_of_shell word then no_instruction (codes "write \\ at the end of the line above, if this line goes on with it")
    else (if has_unseen word then no_instruction (codes "take out the character that is shown by its number: it can't be seen")
    else (if list_all is_letter word then near_keyword word
    else no_instruction (remedy R04 Other)))

-- what is said of a line that begins with no instruction; none if it is one that is left out here on purpose
abbrev pub word_message : Subject → List ℕ → Option Message
word_message Other line = Some (unknown_word (before_escape (first_piece line)))
word_message subject line = None
