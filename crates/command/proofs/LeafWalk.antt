-- What clap's parse makes of the words after a command with arguments that take a value or are flags, and `--help`, where it finds no fault
-- in them: what holds of the rows and is kept by each use of an argument holds after all words.
use Rattle.std.proofs.Common.{◌≡◌, ◌&&◌, ◌==◌, ℕ, Bool, zero, suc, true, false, not, cond, List, [], ◌∷◌, Option, Some, None, find, fold, bytes_eq, slice_get, is_some, length, drop, encode_utf8, chars}
use Rattle.std.specs.Option.{option_map_or}
use Rattle.clap.specs.Words.{Row, Rule, Shape, Text}
use Rattle.clap.specs.Simple.{filled, help_rule, with_index}
use Rattle.clap.specs.Kinds.{or_else, range_kinds}
use Rattle.clap.specs.Lexer.{long_of, short_of}
use Rattle.clap.specs.Faults.{bundle_fault, bundle_step_fault, check_fault, defaults_fault, flag_word_fault, flags_fault, level_fault, long_fault, option_fault, positional_fault, react_fault, settle_fault, short_fault, step_fault, stray_fault, turn_fault, use_fault, walk_fault, word_fault}
use Rattle.clap.specs.Walk.{Held, Outcome, Step, Waiting, Walk, after_flag, after_step, arg_by_id, arg_by_long, attached_value, bundle, bundle_met, bundle_step, done, finished, has_long, has_short, idle, is_pending, long_met, long_or_other, next, nothing_held, option, option_met, option_word, plain, plain_word, positional, reacted, refused, settled, settled_rows, short_met, short_or_plain, subcommand, to_positional, trailing, used, used_by_id, value, waits, walk, walk_from, walked, walked_from, word_met}
use Rattle.clap.specs.declared.error.kind.ErrorKind.TheVariants as kind
use Rattle.command.proofs.Kept.{or_else-left, or_else-right, some_kind}

-- `--help` as clap builds it
abbrev help : Rule
help = with_index 2 (filled help_rule)

-- an argument, one value of which is read at each use, or none
abbrev pub sized : Bool → Rule → Rule
sized true rule = record rule { range = Some (record { start_inclusive = 1; end_inclusive = 1 }) }
sized false rule = record rule { range = Some (record { start_inclusive = 0; end_inclusive = 0 }) }

-- arguments, each with whether it takes a value
abbrev pub Arguments : Type 0
Arguments = List (Bool × Rule)

abbrev pub rules_of : Arguments → List Rule
rules_of [] = help ∷ []
rules_of (own ∷ owns) = sized own.0 own.1 ∷ rules_of owns

-- the command, which has these
abbrev pub leaf_of : Shape → Arguments → Shape
leaf_of shape owns = record shape { rules = rules_of owns; is_leaf = true; args_override_self = false }

-- each use of an argument keeps what holds of the rows
abbrev pub Keeps : (List Row → Type 0) → Rule → Type 0
Keeps Holds rule = (again : Bool) (values : List Text) (rows : List Row) → use_fault again rule values rows ≡ [] → Holds rows → Holds (used rule values rows)

abbrev pub AllKeep : (List Row → Type 0) → Arguments → Type 0
AllKeep Holds [] = Unit {0}
AllKeep Holds (own ∷ owns) = Keeps Holds (sized own.0 own.1) × AllKeep Holds owns

module _ (shape : Shape) (owns : Arguments) (Holds : List Row → Type 0) (keep : AllKeep Holds owns) where
  abbrev leaf : Shape
  leaf = leaf_of shape owns

  -- an option that is looked for is one of them, or there is none
  among : (args : Arguments) → AllKeep Holds args → (P : Option Rule → Type 0) → P None
      → ((takes : Bool) (rule : Rule) → Keeps Holds (sized takes rule) → P (Some (sized takes rule))) → P (Some help)
      → (p : Rule → Bool) → P (find p (rules_of args))
  among [] kept P none own second p = go (p help)
    where
      go : (b : Bool) → P (cond b (Some help) None)
      go true = second
      go false = none
  among (arg ∷ args) kept P none own second p = go (p (sized arg.0 arg.1)) (among args kept.1 P none own second p)
    where
      go : (b : Bool) → P (find p (rules_of args)) → P (cond b (Some (sized arg.0 arg.1)) (find p (rules_of args)))
      go true later = own arg.0 arg.1 kept.0
      go false later = later

  by_rule : (P : Option Rule → Type 0) → P None → ((takes : Bool) (rule : Rule) → Keeps Holds (sized takes rule) → P (Some (sized takes rule)))
      → P (Some help) → (p : Rule → Bool) → P (find p leaf.rules)
  by_rule = among owns keep

  -- ---- one use of an option

  use_help : (again : Bool) (values : List Text) (rows : List Row) → use_fault again help values rows ≡ [] → ⊥
  use_help again values rows e = some_kind _ _ (or_else-right (range_kinds 0 0 (length values)) (kind.DisplayHelp ∷ []) e)

  settle_ok : (again : Bool) (pending : Option (Text × List Text)) (rows : List Row)
      → option_map_or (λ p. option_map_or (λ a. use_fault again a p.1 rows) (arg_by_id leaf.rules p.0) []) pending [] ≡ [] → Holds rows
      → Holds (settled_rows leaf.rules pending rows)
  settle_ok again None rows e holds = holds
  settle_ok again (Some p) rows e holds =
      by_rule (λ o. option_map_or (λ a. use_fault again a p.1 rows) o [] ≡ [] → Holds rows → Holds (used_by_id o p.1 rows))
      (λ _ f. f) (λ takes rule kept d f. kept again p.1 rows d f) (λ d f. absurd (use_help again p.1 rows d)) (λ a. bytes_eq a.id p.0) e holds

  react_ok : (rule : Rule) → Keeps Holds rule → (again : Bool) (values : List Text) (h : Held) → react_fault leaf.rules again rule values h ≡ []
      → Holds h.rows → Holds (reacted leaf.rules rule values h).rows
  react_ok rule kept again values h e holds =
      let before = settle_fault leaf.rules again h in
      let one = use_fault again rule values (settled leaf.rules h).rows in
      kept again values (settled leaf.rules h).rows (or_else-right before one e)
      (settle_ok again h.pending h.rows (or_else-left before one e) holds)

  react_help : (again : Bool) (values : List Text) (h : Held) → react_fault leaf.rules again help values h ≡ [] → ⊥
  react_help again values h e =
      use_help again values (settled leaf.rules h).rows
      (or_else-right (settle_fault leaf.rules again h) (use_fault again help values (settled leaf.rules h).rows) e)

  option_ok : (rule : Rule) → Keeps Holds rule → (again : Bool) (v : Option Text) (h : Held) → option_fault leaf.rules again rule v h ≡ []
      → Holds h.rows → Holds (option_met leaf.rules rule v h).0.rows
  option_ok rule kept again (Some text) h e holds = react_ok rule kept again (text ∷ []) h e holds
  option_ok rule kept again None h e holds = settle_ok again h.pending h.rows e holds

  -- ---- one word

  long_help : (again : Bool) (v : Option Text) (h : Held) → long_fault leaf.rules again (Some help) v h ≡ [] → ⊥
  long_help again (Some text) h e = some_kind _ _ e
  long_help again None h e = react_help again [] h e

  long_own : (takes : Bool) (rule : Rule) → Keeps Holds (sized takes rule) → (again : Bool) (v : Option Text) (h : Held)
      → long_fault leaf.rules again (Some (sized takes rule)) v h ≡ [] → Holds h.rows
      → Holds (long_met leaf.rules (Some (sized takes rule)) v h).0.rows
  long_own true rule kept again v h e holds = option_ok (sized true rule) kept again v h e holds
  long_own false rule kept again (Some text) h e holds = absurd (some_kind _ _ e)
  long_own false rule kept again None h e holds = react_ok (sized false rule) kept again [] h e holds

  long_ok : (again : Bool) (v : Option Text) (h : Held) (p : Rule → Bool) → long_fault leaf.rules again (find p leaf.rules) v h ≡ []
      → Holds h.rows → Holds (long_met leaf.rules (find p leaf.rules) v h).0.rows
  long_ok again v h p e holds =
      by_rule (λ o. long_fault leaf.rules again o v h ≡ [] → Holds h.rows → Holds (long_met leaf.rules o v h).0.rows)
      (λ d f. f) (λ takes rule kept d f. long_own takes rule kept again v h d f) (λ d f. absurd (long_help again v h d)) p e holds

  short_own : (takes : Bool) (rule : Rule) → Keeps Holds (sized takes rule) → (again : Bool) (k : ℕ) (rest : Text) (h : Held)
      → ((now : Held) → flags_fault leaf.rules again k rest 0 now ≡ [] → Holds now.rows → Holds (bundle_met leaf.rules k rest 0 done now).0.rows)
      → short_fault leaf.rules again (Some (sized takes rule)) rest h (flags_fault leaf.rules again k rest 0) ≡ [] → Holds h.rows
      → Holds (short_met leaf.rules (Some (sized takes rule)) rest h (bundle_met leaf.rules k rest 0 done)).0.rows
  short_own true rule kept again k rest h later e holds = option_ok (sized true rule) kept again (attached_value rest) h e holds
  short_own false rule kept again k rest h later e holds =
      let one = react_fault leaf.rules again (sized false rule) [] h in
      let then = flags_fault leaf.rules again k rest 0 (reacted leaf.rules (sized false rule) [] h) in
      later (reacted leaf.rules (sized false rule) [] h) (or_else-right one then e) (react_ok (sized false rule) kept again [] h (or_else-left one then e) holds)

  step_ok : (again : Bool) (k : ℕ) (h : Held)
      → ((now : Held) (flags : Text) (skip : ℕ) (so_far : Outcome) → flags_fault leaf.rules again k flags skip now ≡ [] → Holds now.rows
      → Holds (bundle_met leaf.rules k flags skip so_far now).0.rows)
      → (o : Option ℕ) (flags : Text) (skip : ℕ) (so_far : Outcome)
      → bundle_step_fault leaf.rules again o flags skip h (flags_fault leaf.rules again k) ≡ [] → Holds h.rows
      → Holds (bundle_step leaf.rules o flags skip so_far h (bundle_met leaf.rules k)).0.rows
  step_ok again k h later None flags skip so_far e holds = holds
  step_ok again k h later (Some x) flags zero so_far e holds =
      let rest = drop (length (encode_utf8 x)) flags in
      by_rule (λ o. short_fault leaf.rules again o rest h (flags_fault leaf.rules again k rest 0) ≡ [] → Holds h.rows
      → Holds (short_met leaf.rules o rest h (bundle_met leaf.rules k rest 0 done)).0.rows)
      (λ d f. f) (λ takes rule kept d f. short_own takes rule kept again k rest h (λ now. later now rest 0 done) d f)
      (λ d f. absurd (react_help again [] h (or_else-left (react_fault leaf.rules again help [] h) (flags_fault leaf.rules again k rest 0 (reacted leaf.rules help [] h)) d)))
      (λ a. not (is_some a.index) && has_short a x) e holds
  step_ok again k h later (Some x) flags (suc skip) so_far e holds = later h (drop (length (encode_utf8 x)) flags) skip so_far e holds

  bundle_ok : (again : Bool) (k : ℕ) (flags : Text) (skip : ℕ) (so_far : Outcome) (h : Held) → flags_fault leaf.rules again k flags skip h ≡ []
      → Holds h.rows → Holds (bundle_met leaf.rules k flags skip so_far h).0.rows
  unfolding flags_fault bundle_met
  bundle_ok again zero flags skip so_far h e holds = holds
  bundle_ok again (suc k) flags skip so_far h e holds =
      step_ok again k h (λ now f s o. bundle_ok again k f s o now) (slice_get (chars flags) 0) flags skip so_far e holds

  option_word_ok : (o : Option Rule) (id word : Text) (h : Held) → Holds h.rows → Holds (option_word o id word h).0.rows
  option_word_ok None id word h holds = holds
  option_word_ok (Some a) id word h holds = holds

  plain_ok : (waiting : Waiting) (word : Text) (h : Held) → Holds h.rows → Holds (plain_word leaf.rules waiting word h).0.rows
  plain_ok idle word h holds = holds
  plain_ok (option id) word h holds = option_word_ok (arg_by_id leaf.rules id) id word h holds
  plain_ok positional word h holds = holds

  after_ok : (waiting : Waiting) (word : Text) (h : Held) (o : Outcome) → Holds h.rows → Holds (after_flag leaf.rules waiting word h o).0.rows
  after_ok waiting word h done holds = holds
  after_ok waiting word h (waits id) holds = holds
  after_ok waiting word h plain holds = plain_ok waiting word h holds
  after_ok waiting word h refused holds = plain_ok waiting word h holds

  short_ok : (again : Bool) (waiting : Waiting) (word : Text) (h : Held) (o : Option Text)
      → option_map_or (λ flags. bundle_fault leaf.rules again flags h) o [] ≡ [] → Holds h.rows
      → Holds (short_or_plain leaf.rules waiting word o h).0.rows
  short_ok again waiting word h (Some flags) e holds =
      let met = bundle leaf.rules flags h in
      after_ok waiting word met.0 met.1 (bundle_ok again (length flags) flags h.skip plain (record h { skip = 0 }) e holds)
  short_ok again waiting word h None e holds = plain_ok waiting word h holds

  flag_ok : (again : Bool) (waiting : Waiting) (word : Text) (h : Held) (o : Option (Text × Option Text))
      → flag_word_fault leaf.rules again o word h ≡ [] → Holds h.rows → Holds (long_or_other leaf.rules waiting word o h).0.rows
  flag_ok again waiting word h (Some p) e holds =
      let met = long_met leaf.rules (arg_by_long leaf.rules p.0) p.1 h in
      after_ok waiting word met.0 met.1 (long_ok again p.1 h (λ a. not (is_some a.index) && has_long a p.0) e holds)
  flag_ok again waiting word h None e holds = short_ok again waiting word h (short_of word) e holds

  other_ok : (b : Bool) (waiting : Waiting) (position : ℕ) (word : Text) (h : Held)
      → cond b [] (flag_word_fault leaf.rules false (long_of word) word h) ≡ [] → Holds h.rows
      → Holds (cond b (h, trailing position) (long_or_other leaf.rules waiting word (long_of word) h)).0.rows
  other_ok true waiting position word h e holds = holds
  other_ok false waiting position word h e holds = flag_ok false waiting word h (long_of word) e holds

  word_ok : (is_trailing : Bool) (waiting : Waiting) (position : ℕ) (word : Text) (h : Held)
      → word_fault leaf [] is_trailing waiting word h ≡ [] → Holds h.rows
      → Holds (word_met leaf.rules [] is_trailing waiting position word h).0.rows
  word_ok true waiting position word h e holds = holds
  word_ok false idle position word h e holds = other_ok (bytes_eq word (45 ∷ 45 ∷ [])) idle position word h e holds
  word_ok false (option id) position word h e holds = other_ok (bytes_eq word (45 ∷ 45 ∷ [])) (option id) position word h e holds
  word_ok false positional position word h e holds = other_ok (bytes_eq word (45 ∷ 45 ∷ [])) positional position word h e holds

  -- ---- all words

  positional_ok : (again : Bool) (b : Bool) (h : Held) → cond (b && false) [] (settle_fault leaf.rules again h) ≡ [] → Holds h.rows
      → Holds (cond (b && false) h (settled leaf.rules h)).rows
  positional_ok again true h e holds = settle_ok again h.pending h.rows e holds
  positional_ok again false h e holds = settle_ok again h.pending h.rows e holds

  positional_own : (takes : Bool) (rule : Rule) (w : Walk) (word : Text) (h : Held)
      → positional_fault leaf.rules false (sized takes rule) h ≡ [] → Holds h.rows
      → Holds (to_positional leaf.rules (Some (sized takes rule)) word w h).held.rows
  positional_own true rule w word h e holds = positional_ok false (is_pending (sized true rule) h.pending) h e holds
  positional_own false rule w word h e holds = positional_ok false (is_pending (sized false rule) h.pending) h e holds

  value_ok : (w : Walk) (word : Text) (h : Held) → Holds h.rows → (p : Rule → Bool)
      → option_map_or (λ a. positional_fault leaf.rules false a h) (find p leaf.rules) (stray_fault leaf) ≡ []
      → Holds (to_positional leaf.rules (find p leaf.rules) word w h).held.rows
  value_ok w word h holds p e =
      by_rule (λ o. option_map_or (λ a. positional_fault leaf.rules false a h) o (stray_fault leaf) ≡ [] → Holds (to_positional leaf.rules o word w h).held.rows)
      (λ d. absurd (some_kind _ _ d)) (λ takes rule kept d. positional_own takes rule w word h d holds)
      (λ d. positional_ok false (is_pending help h.pending) h d holds) p e

  after_step_ok : (w : Walk) (word : Text) (h : Held) (step : Step) → Holds h.rows → step_fault leaf w.position h step ≡ []
      → Holds (after_step leaf.rules word w h step).held.rows
  after_step_ok w word h (next waiting) holds e = holds
  after_step_ok w word h (trailing position) holds e = holds
  after_step_ok w word h (subcommand name) holds e = holds
  after_step_ok w word h value holds e = value_ok w word h holds (λ a. option_map_or (λ k. k == w.position) a.index false) e

  turn_from : (w : Walk) (word : Text) (stop : Option (Text × List Text))
      → (let met = word_met leaf.rules [] w.is_trailing w.waiting w.position word w.held in
      cond (is_some stop) [] (or_else (word_fault leaf [] w.is_trailing w.waiting word w.held) (step_fault leaf w.position met.0 met.1))) ≡ []
      → Holds w.held.rows → Holds (walked_from leaf.rules [] stop w word).held.rows
  turn_from w word (Some p) e holds = holds
  turn_from w word None e holds =
      let met = word_met leaf.rules [] w.is_trailing w.waiting w.position word w.held in
      let first = word_fault leaf [] w.is_trailing w.waiting word w.held in
      let then = step_fault leaf w.position met.0 met.1 in
      after_step_ok w word met.0 met.1 (word_ok w.is_trailing w.waiting w.position word w.held (or_else-left first then e) holds)
      (or_else-right first then e)

  turn_ok : (w : Walk) (word : Text) → turn_fault leaf [] w word ≡ [] → Holds w.held.rows → Holds (walked leaf.rules [] w word).held.rows
  unfolding walked
  turn_ok w word e holds = turn_from w word w.stopped e holds

  walk_ok : (words : List Text) (w : Walk) → walk_fault leaf [] w words ≡ [] → Holds w.held.rows
      → Holds (fold (walked leaf.rules []) w words).held.rows
  unfolding walk_fault
  walk_ok [] w e holds = holds
  walk_ok (word ∷ words) w e holds =
      let turn = turn_fault leaf [] w word in
      let later = walk_fault leaf [] (walked leaf.rules [] w word) words in
      walk_ok words (walked leaf.rules [] w word) (or_else-right turn later e) (turn_ok w word (or_else-left turn later e) holds)

  -- so after all words, where nothing that is required is missing
  pub leaf_holds : (words : List Text) → Holds [] → level_fault leaf [] nothing_held words false [] ≡ []
      → (let end = (walk leaf.rules [] nothing_held words).held in
      Holds (settled leaf.rules end).rows × (check_fault leaf (finished leaf.rules end) false ≡ []))
  leaf_holds words none e =
      let end = (walk leaf.rules [] nothing_held words).held in
      let walking = walk_fault leaf [] (walk_from nothing_held) words in
      let settling = settle_fault leaf.rules false end in
      let filling = defaults_fault (settled leaf.rules end).rows leaf.rules in
      let checking = check_fault leaf (finished leaf.rules end) false in
      let after = or_else settling (or_else filling checking) in
      let rest = or_else-right walking after e in
      let walked_all = walk_ok words (walk_from nothing_held) (or_else-left walking after e) none in (
        settle_ok false end.pending end.rows (or_else-left settling (or_else filling checking) rest) walked_all,
        or_else-right filling checking (or_else-right settling (or_else filling checking) rest),
      )
