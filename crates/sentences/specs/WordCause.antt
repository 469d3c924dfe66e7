-- What is said of a line of which a word is wrong: a sentence and a remedy for each cause (own).
use Rattle.std.specs.Prelude.{◌++◌, ℕ, List, codes}
use Rattle.sentences.specs.declared.message.Message.{Message}
use Rattle.sentences.specs.declared.word_cause.WordCause.{WordCause}
use Rattle.sentences.specs.declared.word_cause.WordCause.TheVariants.{Empty, OpenHeredoc, BesideHeredoc, Interpreter, HeredocFrom, HeredocPlace, OpenQuote, Substitution, EmptyKey, QuotedName, BadName, BrokenList, Pattern}

-- what is wrong with a word
abbrev pub word_sentence : WordCause → List ℕ
word_sentence Empty = codes "this word is empty, since its variable has no value on this line"
word_sentence OpenHeredoc = codes "this heredoc is not closed: no line below is its name alone"
word_sentence BesideHeredoc = codes "a RUN with a heredoc has nothing beside it here"
word_sentence Interpreter = codes "a heredoc's first line names no interpreter here"
word_sentence HeredocFrom = codes "a COPY with --from takes no heredoc"
word_sentence HeredocPlace = codes "a heredoc is no destination"
word_sentence OpenQuote = codes "a quote of this word is not closed"
word_sentence Substitution = codes "a substitution of this word is malformed"
word_sentence EmptyKey = codes "the key of this label is empty, since its variable has no value on this line"
word_sentence QuotedName = codes "the name of a variable has no quotes"
word_sentence BadName = codes "this is no name of a variable"
word_sentence BrokenList = codes "this begins like a list in JSON, and is none"
word_sentence Pattern = codes "the pattern of this source is malformed"

-- what helps against an empty word
abbrev pub value_remedy : List ℕ
value_remedy = codes "give the variable a value above by ENV or ARG (name an ARG from above FROM again), or by a build argument"

-- what helps against what is wrong with a word
abbrev pub word_remedy : WordCause → List ℕ
word_remedy Empty = value_remedy
word_remedy OpenHeredoc = codes "write its name alone on a line below, without blanks around it"
word_remedy BesideHeredoc = codes "drop what stands beside it: the shell, which SHELL names, runs the body; COPY <<EOF /path makes a file"
word_remedy Interpreter = codes "drop the line with #!, and name the shell by SHELL"
word_remedy HeredocFrom = codes "write the heredoc in a COPY of its own"
word_remedy HeredocPlace = codes "write COPY <<EOF /path"
word_remedy OpenQuote = codes "close it; a value with a ' stands in double quotes"
word_remedy Substitution = codes "write ${name}, ${name:-word}, ${name:+word} or ${name:?word}, and \\$ for the character $"
word_remedy EmptyKey = value_remedy
word_remedy QuotedName = codes "write the name without quotes, and its value in them"
word_remedy BadName = codes "begin with a letter or _, and go on with letters, digits and _"
word_remedy BrokenList = codes "write texts in double quotes with commas between them, as [\"a\", \"b\"]"
word_remedy Pattern = codes "close each [, and write \\[ where the character [ is meant"

-- what is wrong with this word
abbrev pub wrong_word : WordCause → List ℕ → List ℕ
wrong_word cause word = word_sentence cause ++ (codes ": " ++ word)

-- both
abbrev pub word_message : WordCause → List ℕ → Message
word_message cause word = record { wrong = wrong_word cause word; helps = word_remedy cause }
