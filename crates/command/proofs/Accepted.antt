-- Words in which clap's parse finds no fault ask for a task.
use Rattle.std.proofs.Common.{◌≡◌, ◌≤◌, ℕ, Bool, true, false, cond, List, [], ◌∷◌, Option, Some, None, Result, IfOk, refl, sym, ap, subst, codes, is_some, pos, true≢false, ◌∙◌, arith, inl, inr}
use Rattle.std.proofs.lemmas.Slice.Eq.{bytes_eq-Decides}
use Rattle.std.proofs.lemmas.Int.{ints}
use Rattle.std.specs.Str.Parse.{IsNumeral, digits_value, starts_with_minus, without_leading_plus}
use Rattle.clap.specs.Words.{App, Row, Shape, Text, fault_of, first_of, is_simple, is_simple_and_free, subcommand_of}
use Rattle.clap.proofs.OnLiterals.{clap_on_literals}
use Rattle.clap.specs.Simple.{argument_words, entered, label_of, new_shape, rows_at}
use Rattle.clap.specs.Kinds.{FailsBy, HasKind, Kinds, or_else}
use Rattle.clap.specs.declared.error.Error.{Error}
use Rattle.clap.specs.Faults.{check_fault, defaults_fault, entered_fault, level_fault, settle_fault, walk_fault}
use Rattle.std.specs.Option.{option_map_or}
use Rattle.std.specs.Prelude.{option_map, unwrap_or, slice_index_or, not, ◌||◌, ◌==◌}
use Rattle.clap.specs.Lexer.{without_minus}
use Rattle.clap.specs.Values.{IsSignedIn}
use Rattle.clap.specs.Walk.{answers_to, finished, nothing_held, settled, walk, walk_from}
use Rattle.clap.specs.declared.builder.value_parser.ValueParser.TheVariants as vp
use Rattle.clap.specs.declared.error.kind.ErrorKind.TheVariants.{ValueValidation}
use Rattle.clap.proofs.ValueTestLemmas.{accepts-Accepts}
use Rattle.plain.specs.Limits.{most_workers}
use Rattle.command.specs.CommandLine.{least_workers, whole_command}
use Rattle.command.specs.Sources.{choice_of, source_of}
use Rattle.command.specs.Tasks.{IsTaskOf, IsWorkers, argument_faults, check_with, faults_of, graph_with, is_whole, pack_by, pack_of, pack_with, why_with}
use Rattle.command.specs.Llb.{llb_of}
use Rattle.command.specs.declared.task.Choice.{Choice}
use Rattle.command.specs.declared.task.PackOptions.{PackOptions}
use Rattle.command.specs.declared.task.Task.{Task}
use Rattle.command.specs.declared.task.Task.TheVariants.{Build, Graph, Pack, Why, Llb, Config, Check, Explain}
use Rattle.command.proofs.BuildWalk.{leaf, leaf_ok}
use Rattle.command.proofs.PackWalk.{folder_ok, leaf as pack_leaf}
use Rattle.command.proofs.Kept.{or_else-left, or_else-right, some_kind}
use Rattle.command.proofs.Rows.{HasFine, one_of-fine}
use Rattle.command.proofs.TopWalk.{NotHelp, app, names, top_ok}

-- the text that `get_one` reads is a number within the range
record NumberAt (text : Text) : Type 0 where
  numeral : IsNumeral 10 (without_leading_plus text)
  least : least_workers ≤ digits_value 10 (without_leading_plus text)
  most : digits_value 10 (without_leading_plus text) ≤ most_workers

without_minus-kept : (text : Text) → starts_with_minus text ≡ false → without_minus text ≡ text
without_minus-kept [] e = refl
without_minus-kept (c ∷ text) e = go (c == 45) e
  where
    go : (b : Bool) → b ≡ false → unwrap_or (cond b (Some text) None) (c ∷ text) ≡ c ∷ text
    go true bad = absurd (true≢false bad)
    go false ok = refl

number_at : (text : Text) (b : Bool) → starts_with_minus text ≡ b → IsSignedIn (pos least_workers) (pos most_workers) text
    → NumberAt (without_minus text)
number_at text true minus passed = let low = rw minus at passed.2 in absurd (omega (arith, ints))
number_at text false minus passed =
    let low = rw minus at passed.2 in
    let high = rw minus at passed.3 in
    let here : NumberAt text = record { numeral = rw minus at passed.0; least = omega (arith, ints); most = omega (arith, ints) } in
    subst NumberAt (sym (without_minus-kept text minus)) here

workers_of : (rows : List Row) → HasFine rows → (n : ℕ) × IsWorkers rows n
workers_of rows has =
    let signed = accepts-Accepts false (vp.Signed (pos least_workers) (pos most_workers)) has.fine.text has.fine.passes in
    let number = number_at has.fine.text (starts_with_minus has.fine.text) refl signed in (
      digits_value 10 (without_leading_plus (without_minus has.fine.text)),
      record {
        text = without_minus has.fine.text;
        given = one_of-fine rows has;
        numeral = number.numeral;
        is = refl;
        least = number.least;
        most = number.most;
      },
    )

-- a fault of the arguments is the one, or there is none
one_fault : (found : Option (Text × List Row)) → (argument_faults found ≡ [] → ⊥) → argument_faults found ≡ ValueValidation ∷ []
one_fault None some = absurd (some refl)
one_fault (Some found) some = go (is_whole found) some
  where
    go : (b : Bool) → (cond b [] (ValueValidation ∷ []) ≡ [] → ⊥) → cond b [] (ValueValidation ∷ []) ≡ ValueValidation ∷ []
    go true some = absurd (some refl)
    go false some = refl

-- what is made of something is made where that is there
made_whole : {A B : Type 0} (found : Option A) (made : A → B) (x : B) → option_map made found ≡ Some x → cond (is_some found) [] (ValueValidation ∷ []) ≡ []
made_whole None made x is = cc
made_whole (Some a) made x is = refl

-- there is none where there is a task
task_args : (found : Option (Text × List Row)) (task : Task) → IsTaskOf found task → argument_faults found ≡ []
task_args None task asked = absurd asked
task_args (Some found) (Build options) asked = rw (asked.0, asked.1.source) refl
task_args (Some found) (Graph options) asked = rw asked.0 (made_whole (source_of (codes "FILE") found.1) (graph_with found.1) options asked.1)
task_args (Some found) (Pack options) asked = rw asked.0 (go (first_of (codes "DIR") found.1) (choice_of found.1) asked.1)
  where
    go : (folder : Option Text) (choice : Option Choice) → pack_by found.1 folder choice ≡ Some options
        → cond (is_some choice) [] (ValueValidation ∷ []) ≡ []
    go None choice is = cc
    go (Some folder) choice is = made_whole choice (pack_with found.1 folder) options is
task_args (Some found) (Why options) asked = rw asked.0 (made_whole (source_of (codes "bundle") found.1) (why_with found.1) options asked.1)
task_args (Some found) (Llb options) asked = rw (asked.0, asked.1) refl
task_args (Some found) (Config source) asked = rw (asked.0, asked.1) refl
task_args (Some found) (Check options) asked = rw asked.0 (made_whole (source_of (codes "FILE") found.1) (check_with found.1) options asked.1)
task_args (Some found) (Explain source) asked = rw (asked.0, asked.1) refl

-- the other commands as clap builds them
abbrev graph_leaf : Shape
graph_leaf = slice_index_or app.subs 1 (new_shape [])

abbrev why_leaf : Shape
why_leaf = slice_index_or app.subs 3 (new_shape [])

abbrev llb_leaf : Shape
llb_leaf = slice_index_or app.subs 4 (new_shape [])

abbrev config_leaf : Shape
config_leaf = slice_index_or app.subs 5 (new_shape [])

abbrev check_leaf : Shape
check_leaf = slice_index_or app.subs 6 (new_shape [])

abbrev explain_leaf : Shape
explain_leaf = slice_index_or app.subs 7 (new_shape [])

abbrev help_leaf : Shape
help_leaf = slice_index_or app.subs 8 (new_shape [])

or_false : (b : Bool) → (b || false) ≡ true → b ≡ true
or_false true e = refl
or_false false e = e

-- the command that a name leads to, by which it answers to
abbrev leads : Bool → Bool → Bool → Bool → Bool → Bool → Bool → Bool → Bool → Option Shape
leads x y p w l c k e z =
    cond x (Some leaf) (cond y (Some graph_leaf) (cond p (Some pack_leaf) (cond w (Some why_leaf) (cond l (Some llb_leaf) (cond c (Some config_leaf) (cond k (Some check_leaf) (cond e (Some explain_leaf) (cond z (Some help_leaf) None))))))))

-- what has to be there is
there : {A : Type 0} (found : Option A) → cond (is_some found) [] (ValueValidation ∷ []) ≡ [] → (x : A) × (found ≡ Some x)
there None e = absurd (some_kind _ _ e)
there (Some x) e = (x, refl)

-- `pack` has a folder, and each build argument and each image a `=`
pack_at : (rows : List Row) (folder : Text) → first_of (codes "DIR") rows ≡ Some folder → cond (is_some (choice_of rows)) [] (ValueValidation ∷ []) ≡ []
    → (options : PackOptions) × (pack_of rows ≡ Some options)
pack_at rows folder given e =
    let choice = there (choice_of rows) e in
    (pack_with rows folder choice.0, ap (λ (found : Option Text). pack_by rows found (choice_of rows)) given ∙ ap (λ (found : Option Choice). pack_by rows (Some folder) found) choice.1)

met_at : (p : Text × List Text) (x y k w l c h v z : Bool) → answers_to p.0 (label_of help_leaf) ≡ z → NotHelp (Some p)
    → is_some (option_map (λ s. rows_at s p.1) (leads x y k w l c h v z)) ≡ true
    → option_map_or (λ s. level_fault s [] nothing_held p.1 false []) (leads x y k w l c h v z) [] ≡ []
    → argument_faults (option_map (λ s. rows_at s p.1) (leads x y k w l c h v z)) ≡ []
    → (task : Task) × IsTaskOf (option_map (λ s. rows_at s p.1) (leads x y k w l c h v z)) task
met_at p true y k w l c h v z help not_help some e args =
    let found = workers_of _ (leaf_ok p.1 e) in
    let source = there (source_of (codes "FILE") (rows_at leaf p.1).1) args in
    (Build (record { workers = found.0; source = source.0 }), (refl, record { workers = found.1; source = source.1 }))
met_at p false true k w l c h v z help not_help some e args =
    let rows = (rows_at graph_leaf p.1).1 in
    let source = there (source_of (codes "FILE") rows) args in
    (Graph (graph_with rows source.0), (refl, ap (option_map (graph_with rows)) source.1))
met_at p false false true w l c h v z help not_help some e args =
    let folder = folder_ok p.1 e in
    let found = pack_at (finished pack_leaf.rules (walk pack_leaf.rules [] nothing_held p.1).held) folder.0 folder.1 args in
    (Pack found.0, (refl, found.1))
met_at p false false false true l c h v z help not_help some e args =
    let rows = (rows_at why_leaf p.1).1 in
    let source = there (source_of (codes "bundle") rows) args in
    (Why (why_with rows source.0), (refl, ap (option_map (why_with rows)) source.1))
met_at p false false false false true c h v z help not_help some e args =
    let found = there (llb_of (rows_at llb_leaf p.1).1) args in
    (Llb found.0, (refl, found.1))
met_at p false false false false false true h v z help not_help some e args =
    let source = there (source_of (codes "FILE") (rows_at config_leaf p.1).1) args in
    (Config source.0, (refl, source.1))
met_at p false false false false false false true v z help not_help some e args =
    let rows = (rows_at check_leaf p.1).1 in
    let source = there (source_of (codes "FILE") rows) args in
    (Check (check_with rows source.0), (refl, ap (option_map (check_with rows)) source.1))
met_at p false false false false false false false true z help not_help some e args =
    let source = there (source_of (codes "FILE") (rows_at explain_leaf p.1).1) args in
    (Explain source.0, (refl, source.1))
met_at p false false false false false false false false true help not_help some e args =
    let same = (bytes_eq-Decides (codes "help") p.0).0 (or_false _ help) in
    absurd (true≢false (sym ((bytes_eq-Decides p.0 (codes "help")).1 (sym same)) ∙ not_help))
met_at p false false false false false false false false false help not_help some e args = absurd (true≢false (sym some))

stopped_at : (stop : Option (Text × List Text)) → NotHelp stop → is_some (entered app stop) ≡ true → entered_fault app stop ≡ []
    → argument_faults (entered app stop) ≡ [] → (task : Task) × IsTaskOf (entered app stop) task
stopped_at None not_help some e args = absurd (true≢false (sym some))
stopped_at (Some p) not_help some e args =
    met_at p (answers_to p.0 (label_of leaf)) (answers_to p.0 (label_of graph_leaf)) (answers_to p.0 (label_of pack_leaf)) (answers_to p.0 (label_of why_leaf))
    (answers_to p.0 (label_of llb_leaf)) (answers_to p.0 (label_of config_leaf)) (answers_to p.0 (label_of check_leaf)) (answers_to p.0 (label_of explain_leaf)) (answers_to p.0 (label_of help_leaf)) refl not_help some e args

-- a subcommand is wanted
has_command : (has : Bool) (rows : List Row) → check_fault app.top rows has ≡ [] → has ≡ true
has_command true rows e = refl
has_command false rows e = absurd (some_kind _ _ e)

pub accepted : (words : List Text) → fault_of whole_command words ≡ [] → argument_faults (subcommand_of whole_command words) ≡ []
    → (task : Task) × IsTaskOf (subcommand_of whole_command words) task
accepted words e args =
    let given = argument_words whole_command words in
    let end = walk app.top.rules names nothing_held given in
    let walking = walk_fault app.top names (walk_from nothing_held) given in
    let below = entered_fault app end.stopped in
    let settling = settle_fault app.top.rules app.top.args_override_self end.held in
    let filling = defaults_fault (settled app.top.rules end.held).rows app.top.rules in
    let checking = check_fault app.top (finished app.top.rules end.held) (is_some (entered app end.stopped)) in
    let from_filling = or_else filling checking in
    let from_settling = or_else settling from_filling in
    let from_below = or_else below from_settling in
    let no_walking = or_else-left walking from_below e in
    let no_below = or_else-right walking from_below e in
    let no_settling = or_else-right below from_settling no_below in
    let no_checking = or_else-right filling checking (or_else-right settling from_filling no_settling) in
    stopped_at end.stopped (top_ok given (walk_from nothing_held) no_walking tt)
    (has_command _ (finished app.top.rules end.held) no_checking) (or_else-left below from_settling no_below) args

simple_and_free : is_simple_and_free whole_command ≡ true
unfolding clap_on_literals
simple_and_free = refl

simple : is_simple whole_command ≡ true
unfolding clap_on_literals
simple = refl

-- a parse by the whole command that took the words found no fault in them
pub no_fault : (a : App) (words : List Text) → a ≡ whole_command → (is_simple_and_free a ≡ true → fault_of a words ≡ [])
    → fault_of whole_command words ≡ []
no_fault a words is parsed = ap (λ x. fault_of x words) (sym is) ∙ parsed (ap is_simple_and_free is ∙ simple_and_free)

-- a kind of fault that clap finds is one of all
still_kind : (kinds more : Kinds) (error : Error) → HasKind kinds error → HasKind (or_else kinds more) error
still_kind [] more error (inl memory) = inl memory
still_kind [] more error (inr among) = absurd among
still_kind (kind ∷ kinds) more error has = has

pub clap_fault : (a : App) (words : List Text) (error : Error) → a ≡ whole_command
    → (is_simple_and_free a ≡ true → HasKind (fault_of a words) error) → HasKind (faults_of words) error
clap_fault a words error is parsed =
    still_kind (fault_of whole_command words) (argument_faults (subcommand_of whole_command words)) error
    (subst (λ x. HasKind (fault_of x words) error) is (parsed (ap is_simple_and_free is ∙ simple_and_free)))

-- the task that it found is that of the words
pub asked_task : (a : App) (words : List Text) (found : Option (Text × List Row)) (rows : Type 0) (result : Result Task Error) → a ≡ whole_command
    → (is_simple a ≡ true → rows × (found ≡ subcommand_of a words)) → IfOk result (IsTaskOf found) → IfOk result (IsTaskOf (subcommand_of whole_command words))
asked_task a words found rows result is matched asked =
    subst (λ f. IfOk result (IsTaskOf f)) ((matched (ap is_simple is ∙ simple)).1 ∙ ap (λ x. subcommand_of x words) is) asked

-- no fault at all, if it found a task, and else that of an argument
pub asked_faults : (a : App) (words : List Text) (found : Option (Text × List Row)) (rows : Type 0) (result : Result Task Error) → a ≡ whole_command
    → (is_simple_and_free a ≡ true → fault_of a words ≡ []) → (is_simple a ≡ true → rows × (found ≡ subcommand_of a words))
    → ((task : Task) → IsTaskOf found task → FailsBy [] result) → (((task : Task) → IsTaskOf found task → ⊥) → FailsBy (ValueValidation ∷ []) result)
    → FailsBy (faults_of words) result
asked_faults a words found rows result is parsed matched memory none =
    let clear = no_fault a words is parsed in
    let same : found ≡ subcommand_of whole_command words = (matched (ap is_simple is ∙ simple)).1 ∙ ap (λ x. subcommand_of x words) is in
    let all : faults_of words ≡ argument_faults (subcommand_of whole_command words)
    = ap (λ first. or_else first (argument_faults (subcommand_of whole_command words))) clear in
    subst (λ kinds. FailsBy kinds result) (sym all) (go clear same (argument_faults (subcommand_of whole_command words)) refl)
  where
    go : fault_of whole_command words ≡ [] → found ≡ subcommand_of whole_command words → (kinds : Kinds)
        → argument_faults (subcommand_of whole_command words) ≡ kinds → FailsBy kinds result
    go clear same [] args = let task = accepted words clear args in memory task.0 (subst (λ f. IsTaskOf f task.0) (sym same) task.1)
    go clear same (kind ∷ kinds) args =
        let some : argument_faults (subcommand_of whole_command words) ≡ [] → ⊥ = λ no. some_kind _ _ (sym args ∙ no) in
        subst (λ kinds. FailsBy kinds result) (sym (one_fault (subcommand_of whole_command words) some) ∙ args)
        (none (λ task asked. some (task_args (subcommand_of whole_command words) task (subst (λ f. IsTaskOf f task) same asked))))
