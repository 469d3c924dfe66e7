-- What the lines of a stage say of its configuration, each word with its value under the scope before the line, what is against their texts,
-- and the codes that are due for them. Of a text that has no value nothing else is reported (own).
use Rattle.std.specs.Prelude.{ℕ, ◌||◌, Bool, false, not, List, map, Option, is_some}
use Rattle.std.specs.List.{list_any, filter_map}
use Rattle.plain.specs.declared.refusal.Code.{Code}
use Rattle.plain.specs.declared.refusal.Code.TheVariants.{R06, R10, R16, R18}
use Rattle.paths.specs.Reading.{read_from, limit_of}
use Rattle.expand.specs.Value.{Parts, value}
use Rattle.expand.specs.Expanding.{unexpanded, valued, is_valued, is_empty, worse, worst}
use Rattle.expand.specs.declared.fault.Unexpanded.{Unexpanded}
use Rattle.instructions.specs.Reason.{is_long}
use Rattle.instructions.specs.declared.instruction.Assignment.{Assignment}
use Rattle.instructions.specs.declared.instruction.Label.{Label}
use Rattle.scopes.specs.Evaluate.{Values, env_variables, env_fault}
use Rattle.imageconfig.specs.Environment.{row_of}
use Rattle.imageconfig.specs.Rows.{Row}
use Rattle.imageconfig.specs.Ports.{port_key}

-- the values of words
abbrev pub texts_of : Values → List Parts → List (List ℕ)
texts_of before words = map (value before) words

-- the values of those words that have one
abbrev pub values_of : Values → List Parts → List (List ℕ)
values_of before words = filter_map (valued before) words

-- what is against the texts of words
abbrev pub words_fault : Values → List Parts → Option Unexpanded
words_fault before words = worst (map (unexpanded before) words)

-- ENV: the names with the values of their words (Dockerfile reference, ENV)
abbrev pub env_rows : Values → List Assignment → List Row
env_rows before assignments = map row_of (env_variables before assignments)

abbrev pub env_due : Values → List Assignment → Code → Bool
env_due before assignments R18 = is_long (env_fault before assignments)
env_due before assignments code = false

-- LABEL: keys, which aren't empty, with their values (Dockerfile reference, LABEL)
abbrev pub label_rows : Values → List Label → List Row
label_rows before labels = map (λ l. (value before l.key, value before l.value)) labels

-- what is against the texts of labels, each key before its value
abbrev pub label_fault : Values → List Label → Option Unexpanded
label_fault before labels = worst (map (λ l. worse (unexpanded before l.key) (unexpanded before l.value)) labels)

abbrev pub label_due : Values → List Label → Code → Bool
label_due before labels R10 = list_any (λ l. is_valued is_empty (valued before l.key)) labels
label_due before labels R18 = is_long (label_fault before labels)
label_due before labels code = false

-- EXPOSE: the keys of ports (Dockerfile reference, EXPOSE)
abbrev pub port_keys : Values → List Parts → List (List ℕ)
port_keys before words = filter_map port_key (texts_of before words)

-- a text is no port
abbrev pub is_bad_port : List ℕ → Bool
is_bad_port text = not (is_some (port_key text))

abbrev pub port_due : Values → List Parts → Code → Bool
port_due before words R16 = list_any is_bad_port (values_of before words)
port_due before words R18 = is_long (words_fault before words)
port_due before words code = false

-- VOLUME: texts that aren't empty (Dockerfile reference, VOLUME)
abbrev pub volume_due : Values → List Parts → Code → Bool
volume_due before words R06 = list_any is_empty (values_of before words)
volume_due before words R18 = is_long (words_fault before words)
volume_due before words code = false

-- USER and STOPSIGNAL: one text that isn't empty (Dockerfile reference, USER and STOPSIGNAL)
abbrev pub text_due : Values → Parts → Code → Bool
text_due before word R06 = is_valued is_empty (valued before word)
text_due before word R18 = is_long (unexpanded before word)
text_due before word code = false

-- a text leads past the limits of paths from a base (own)
abbrev pub leads_far : List (List ℕ) → List ℕ → Bool
leads_far base text = is_some (limit_of (read_from text base))

-- WORKDIR: a text that isn't empty, read as a path against the working directory before the line (Dockerfile reference, WORKDIR; the
-- limits of paths: own)
abbrev pub dir_due : Values → List (List ℕ) → Parts → Code → Bool
dir_due before base word R06 = is_valued is_empty (valued before word)
dir_due before base word R18 = is_long (unexpanded before word) || is_valued (leads_far base) (valued before word)
dir_due before base word code = false
