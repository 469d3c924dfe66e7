-- Where clap's parse finds no fault in the words after the program's name, it doesn't stop at `help`.
use Rattle.std.proofs.Common.{◌≡◌, ◌&&◌, ℕ, Bool, true, false, cond, List, [], ◌∷◌, Option, Some, None, refl, codes, fold, bytes_eq, is_some}
use Rattle.clap.specs.Words.{App, Rule, Text}
use Rattle.clap.specs.Simple.{built, names_of}
use Rattle.clap.specs.Kinds.{or_else}
use Rattle.clap.specs.Lexer.{long_of, short_of}
use Rattle.clap.specs.Faults.{other_fault, step_fault, turn_fault, walk_fault, word_fault}
use Rattle.clap.specs.Walk.{Held, Names, Outcome, Step, Waiting, Walk, after_flag, after_step, arg_by_index, arg_by_long, bundle, done, idle, long_met, long_or_other, next, option, plain, plain_word, positional, refused, short_or_plain, subcommand, subcommand_met, subcommand_or_other, to_positional, trailing, value, waits, walked, walked_from, word_met}
use Rattle.clap.specs.declared.error.kind.ErrorKind.TheVariants as kind
use Rattle.command.specs.CommandLine.{whole_command}
use Rattle.command.proofs.Kept.{not_passed, or_else-left, or_else-right}

-- the whole command as clap builds it, with its subcommand `help`
abbrev pub app : App
app = built whole_command

abbrev pub names : Names
names = names_of app

-- a walk that stopped didn't stop at `help`
abbrev pub NotHelp : Option (Text × List Text) → Type 0
NotHelp None = Unit {0}
NotHelp (Some p) = bytes_eq p.0 (codes "help") ≡ false

abbrev NoHelpStep : Step → Type 0
NoHelpStep (next waiting) = Unit {0}
NoHelpStep (trailing position) = Unit {0}
NoHelpStep (subcommand name) = bytes_eq name (codes "help") ≡ false
NoHelpStep value = Unit {0}

plain_step : (waiting : Waiting) (word : Text) (h : Held) → NoHelpStep (plain_word app.top.rules waiting word h).1
plain_step idle word h = tt
plain_step (option id) word h = tt
plain_step positional word h = tt

after_step_of : (waiting : Waiting) (word : Text) (h : Held) (o : Outcome) → NoHelpStep (after_flag app.top.rules waiting word h o).1
after_step_of waiting word h done = tt
after_step_of waiting word h (waits id) = tt
after_step_of waiting word h plain = plain_step waiting word h
after_step_of waiting word h refused = plain_step waiting word h

short_step : (waiting : Waiting) (word : Text) (h : Held) (o : Option Text) → NoHelpStep (short_or_plain app.top.rules waiting word o h).1
short_step waiting word h (Some flags) =
    after_step_of waiting word (bundle app.top.rules flags h).0 (bundle app.top.rules flags h).1
short_step waiting word h None = plain_step waiting word h

long_step : (waiting : Waiting) (word : Text) (h : Held) (o : Option (Text × Option Text)) → NoHelpStep (long_or_other app.top.rules waiting word o h).1
long_step waiting word h (Some p) =
    let met = long_met app.top.rules (arg_by_long app.top.rules p.0) p.1 h in
    after_step_of waiting word met.0 met.1
long_step waiting word h None = short_step waiting word h (short_of word)

dash_step : (b : Bool) (waiting : Waiting) (position : ℕ) (word : Text) (h : Held)
    → NoHelpStep (cond b (h, trailing position) (long_or_other app.top.rules waiting word (long_of word) h)).1
dash_step true waiting position word h = tt
dash_step false waiting position word h = long_step waiting word h (long_of word)

and_true : (b : Bool) → (b && true) ≡ false → b ≡ false
and_true true e = e
and_true false e = refl

met_step : (o : Option Text) (waiting : Waiting) (position : ℕ) (word : Text) (h : Held) → other_fault app.top o word h ≡ []
    → NoHelpStep (subcommand_or_other app.top.rules o waiting position word h).1
met_step (Some name) waiting position word h e =
    and_true _ (not_passed (bytes_eq name (codes "help") && true) kind.DisplayHelp (kind.InvalidSubcommand ∷ []) e)
met_step None waiting position word h e = dash_step (bytes_eq word (45 ∷ 45 ∷ [])) waiting position word h

word_step : (is_trailing : Bool) (waiting : Waiting) (position : ℕ) (word : Text) (h : Held)
    → word_fault app.top names is_trailing waiting word h ≡ [] → NoHelpStep (word_met app.top.rules names is_trailing waiting position word h).1
word_step true waiting position word h e = tt
word_step false waiting position word h e = met_step (subcommand_met names waiting word) waiting position word h e

stop_positional : (o : Option Rule) (word : Text) (w : Walk) (h : Held) → NotHelp w.stopped → NotHelp (to_positional app.top.rules o word w h).stopped
stop_positional None word w h so_far = so_far
stop_positional (Some a) word w h so_far = tt

stop_after_step : (w : Walk) (word : Text) (h : Held) (step : Step) → NotHelp w.stopped → NoHelpStep step
    → NotHelp (after_step app.top.rules word w h step).stopped
stop_after_step w word h (next waiting) so_far here = so_far
stop_after_step w word h (trailing position) so_far here = so_far
stop_after_step w word h (subcommand name) so_far here = here
stop_after_step w word h value so_far here = stop_positional (arg_by_index app.top.rules w.position) word w h so_far

turn_from : (w : Walk) (word : Text) (stop : Option (Text × List Text)) → NotHelp w.stopped → NotHelp stop
    → (let met = word_met app.top.rules names w.is_trailing w.waiting w.position word w.held in
    cond (is_some stop) [] (or_else (word_fault app.top names w.is_trailing w.waiting word w.held) (step_fault app.top w.position met.0 met.1))) ≡ []
    → NotHelp (walked_from app.top.rules names stop w word).stopped
turn_from w word (Some p) so_far stopped e = stopped
turn_from w word None so_far stopped e =
    let met = word_met app.top.rules names w.is_trailing w.waiting w.position word w.held in
    let first = word_fault app.top names w.is_trailing w.waiting word w.held in
    stop_after_step w word met.0 met.1 so_far
    (word_step w.is_trailing w.waiting w.position word w.held (or_else-left first (step_fault app.top w.position met.0 met.1) e))

turn_ok : (w : Walk) (word : Text) → turn_fault app.top names w word ≡ [] → NotHelp w.stopped → NotHelp (walked app.top.rules names w word).stopped
unfolding walked
turn_ok w word e so_far = turn_from w word w.stopped so_far so_far e

pub top_ok : (words : List Text) (w : Walk) → walk_fault app.top names w words ≡ [] → NotHelp w.stopped
    → NotHelp (fold (walked app.top.rules names) w words).stopped
unfolding walk_fault
top_ok [] w e so_far = so_far
top_ok (word ∷ words) w e so_far =
    let turn = turn_fault app.top names w word in
    let later = walk_fault app.top names (walked app.top.rules names w word) words in
    top_ok words (walked app.top.rules names w word) (or_else-right turn later e) (turn_ok w word (or_else-left turn later e) so_far)
