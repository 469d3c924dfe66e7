-- From what clap's getters answer to the task that the matches hold.
use Rattle.std.proofs.Common.{◌≡◌, ◌≤◌, ℕ, List, Option, Some, None, Result, Ok, Err, refl, sym, ap, ◌∙◌, subst, codes, arith, bytes_eq, true≢false}
use Rattle.std.specs.Prelude.{IfNone, IfOk, IfSome, Box, option_map}
use Rattle.std.specs.Box.{box_value}
use Rattle.std.specs.Str.Parse.{ParsesUnsigned}
use Rattle.clap.specs.Words.{ReadsOne, Row, Text, one_of, subcommand_rows}
use Rattle.clap.specs.declared.parser.matches.ArgMatches.TheViews.{out-SubCommand}
use Rattle.clap.specs.declared.parser.matches.SubCommand.{SubCommand}
use Rattle.plain.specs.Limits.{most_workers}
use Rattle.command.specs.CommandLine.{least_workers}
use Rattle.command.specs.PrivateTasks.{IsAnswer}
use Rattle.command.specs.Tasks.{IsBuild, IsTaskOf, IsWorkers}
use Rattle.command.specs.declared.task.BuildOptions.{BuildOptions}
use Rattle.command.specs.declared.task.Task.{Task}
use Rattle.command.specs.declared.task.Task.TheVariants.{Build, Graph, Pack, Why, Llb, Config, Check, Explain}

pub if_none : {T : Type 0} (answer : Option T) (P : Type 0) → P → IfNone answer P
if_none None P p = p
if_none (Some x) P p = tt

-- the name and the rows of a subcommand are the whole of it
pub found_whole : {Z : Type 0} (o : Option (Box SubCommand Z)) (name : Text) (rows : List Row)
    → Some name ≡ option_map (λ b. (out-SubCommand (box_value b)).name.now) o
    → Some rows ≡ option_map (λ p. p.1) (subcommand_rows o) → subcommand_rows o ≡ Some (name, rows)
found_whole None name rows e f = cc
found_whole (Some b) name rows e f = cc

-- the number that was read is that of the option's text
pub read_some : (E : Type 0) (G : List ℕ → Result ℕ E → Type 0) → ((u : List ℕ) (x : Result ℕ E) → G u x → ParsesUnsigned 8 10 u x)
    → (rows : List Row) (one : Option Text) (w : ℕ) → one ≡ one_of (codes "workers") rows → (one ≡ None → Some w ≡ None)
    → ((t : Text) → one ≡ Some t → ReadsOne G t (Some w)) → least_workers ≤ w → w ≤ most_workers → IsWorkers rows w
read_some E G only rows None w is none value least most = let bad : Some w ≡ None = none refl in cc
read_some E G only rows (Some t) w is none value least most =
    let parsed = only t (Ok w) (value t refl) in
    record { text = t; given = sym is; numeral = parsed.0.0; is = parsed.1; least = least; most = most }

-- where no number was read, there is none
pub read_none : (E : Type 0) (G : List ℕ → Result ℕ E → Type 0) → ((u : List ℕ) (x : Result ℕ E) → G u x → ParsesUnsigned 8 10 u x)
    → (rows : List Row) (one : Option Text) → one ≡ one_of (codes "workers") rows
    → ((t : Text) → one ≡ Some t → ReadsOne G t None) → (n : ℕ) → IsWorkers rows n → ⊥
read_none E G only rows one is value n h =
    let gave = value h.text (is ∙ h.given) in
    only h.text (Err gave.0) gave.1 (h.numeral, (let w = h.is in let m = h.most in omega arith))

-- where the number that was read isn't within the range, no other is
pub read_out : (E : Type 0) (G : List ℕ → Result ℕ E → Type 0) → ((u : List ℕ) (x : Result ℕ E) → G u x → ParsesUnsigned 8 10 u x)
    → (rows : List Row) (one : Option Text) (w : ℕ) → one ≡ one_of (codes "workers") rows
    → ((t : Text) → one ≡ Some t → ReadsOne G t (Some w)) → (least_workers ≤ w → w ≤ most_workers → ⊥)
    → (n : ℕ) → IsWorkers rows n → ⊥
read_out E G only rows one w is value out n h =
    let parsed = only h.text (Ok w) (value h.text (is ∙ h.given)) in
    let same : n ≡ w = h.is ∙ sym parsed.1 in
    out (subst (λ k. least_workers ≤ k) same h.least) (subst (λ k. k ≤ most_workers) same h.most)

-- where `build` can be asked for nothing, it asks for no task
pub no_build : (rows : List Row) → ((options : BuildOptions) → IsBuild rows options → ⊥) → (task : Task) → IsTaskOf (Some (codes "build", rows)) task → ⊥
no_build rows none (Build options) h = none options h.1
no_build rows none (Graph options) h = absurd (true≢false (ap (λ t. bytes_eq t (codes "build")) h.0))
no_build rows none (Pack options) h = absurd (true≢false (ap (λ t. bytes_eq t (codes "build")) h.0))
no_build rows none (Why options) h = absurd (true≢false (ap (λ t. bytes_eq t (codes "build")) h.0))
no_build rows none (Llb options) h = absurd (true≢false (ap (λ t. bytes_eq t (codes "build")) h.0))
no_build rows none (Config options) h = absurd (true≢false (ap (λ t. bytes_eq t (codes "build")) h.0))
no_build rows none (Check options) h = absurd (true≢false (ap (λ t. bytes_eq t (codes "build")) h.0))
no_build rows none (Explain options) h = absurd (true≢false (ap (λ t. bytes_eq t (codes "build")) h.0))

-- the answer to a subcommand is that to a parse which found it
pub some_answer : {E : Type 0} (made : Result (Option Task) E) (o : Option (Text × List Row)) (found : Text × List Row) → o ≡ Some found
    → IfOk made (IsAnswer found) → IfOk made (λ answer. IfSome answer (IsTaskOf o))
some_answer (Ok (Some task)) o found is answers = subst (λ o. IsTaskOf o task) (sym is) answers
some_answer (Ok None) o found is answers = tt
some_answer (Err e) o found is answers = tt

pub none_answer : {E : Type 0} (made : Result (Option Task) E) (o : Option (Text × List Row)) (found : Text × List Row) → o ≡ Some found
    → IfOk made (IsAnswer found) → IfOk made (λ answer. IfNone answer ((task : Task) → IsTaskOf o task → ⊥))
none_answer (Ok (Some task)) o found is answers = tt
none_answer (Ok None) o found is answers = subst (λ o. (task : Task) → IsTaskOf o task → ⊥) (sym is) answers
none_answer (Err e) o found is answers = tt
