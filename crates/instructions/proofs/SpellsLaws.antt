-- Laws of spelling: a line spells one instruction at most, and one that spells none has a code that is due.
use Rattle.std.specs.Prelude.{◌≡◌, ◌⊎◌, ◌||◌, ℕ, Bool, true, false, not, List, Option, Some, None, is_some, option_map, option_and_then, refl}
use Rattle.std.proofs.Common.{sym, ◌∙◌, ap₂, inl, inr}
use Rattle.std.proofs.lemmas.Bool.{true≢false}
use Rattle.plain.specs.declared.refusal.Code.{Code}
use Rattle.plain.specs.declared.refusal.Code.TheVariants.{R04, R06, R09, R16, R17}
use Rattle.lines.specs.declared.line.Line.{Line}
use Rattle.words.specs.Flag.{flags, behind_flags}
use Rattle.ascii.specs.Pieces.{behind_piece}
use Rattle.words.specs.Cutting.{words}
use Rattle.options.specs.Copy.{copy_flags}
use Rattle.options.specs.Mount.{mounts}
use Rattle.options.specs.declared.copy.CopyFlags.{CopyFlags}
use Rattle.expand.specs.Word.{word}
use Rattle.expand.specs.Value.{Parts}
use Rattle.expand.specs.declared.kind.Kind.TheVariants.{Quoted}
use Rattle.instructions.specs.Arg.{argument_cuts, arguments_of}
use Rattle.instructions.specs.Copy as copy
use Rattle.instructions.specs.Env.{pairs_in, assignments_of}
use Rattle.instructions.specs.Expanded.{has_no_word, all_words, is_list, texts, kind_of}
use Rattle.instructions.specs.From.{stage_in, stage_from}
use Rattle.instructions.specs.Label.{label_pairs, labels_of}
use Rattle.instructions.specs.Least.{least}
use Rattle.instructions.specs.OneWord.{only_argument}
use Rattle.instructions.specs.Parsing.{named_read, named_due, keyword_in, is_due, Spells}
use Rattle.instructions.specs.Shell.{shell_read}
use Rattle.instructions.specs.Instruction.{Instruction}
use Rattle.instructions.specs.declared.instruction.InstructionKind.{InstructionKind}
use Rattle.instructions.specs.declared.instruction.Source.{Source}
use Rattle.instructions.specs.declared.keyword.Keyword.{Keyword}
use Rattle.instructions.specs.declared.keyword.Keyword.TheVariants.{From, Arg, Env, Label, Expose, User, Workdir, StopSignal, Volume, Shell, Cmd, Entrypoint, Run, Copy}
use Rattle.instructions.proofs.LeastLaws.{none_due}

same : (i j : Instruction) → i.line ≡ j.line → i.kind ≡ j.kind → i ≡ j
same i j h k = let make : ℕ → InstructionKind → Instruction = λ l kind. record { line = l; kind = kind } in ap₂ make h k

some_once : {X : Type 0} (o : Option X) (x y : X) → o ≡ Some x → o ≡ Some y → x ≡ y
some_once o x y h k = let e : Some x ≡ Some y = sym h ∙ k in cc

pub spelled_once : (line : Line) (i j : Instruction) → Spells line i → Spells line j → i ≡ j
spelled_once line i j h k = same i j (h.1 ∙ sym k.1) (some_once (named_read (keyword_in line) line (behind_piece line.text)) i.kind j.kind h.0 k.0)

both : (c : Code) (o : Option Code) → o ≡ None → o ≡ Some c → ⊥
both c o h k = let e : None ≡ Some c = sym h ∙ k in cc

pub never_both : (line : Line) (i : Instruction) (c : Code) → Spells line i → least (is_due line) ≡ Some c → ⊥
never_both line i c h k = both c (least (is_due line)) h.2 k

-- something is there

there : {X : Type 0} (o : Option X) → not (is_some o) ≡ false → (x : X) × (o ≡ Some x)
there None h = absurd (true≢false h)
there (Some x) h = (x, refl)

there_mapped : {X Y : Type 0} (f : X → Y) (o : Option X) → not (is_some o) ≡ false → (y : Y) × (option_map f o ≡ Some y)
there_mapped f None h = absurd (true≢false h)
there_mapped f (Some x) h = (f x, refl)

-- of two conditions for a code neither is met where it isn't due
second : (a b : Bool) → (a || b) ≡ false → b ≡ false
second true b h = absurd (true≢false h)
second false b h = h

-- where something is there, and all its texts are words, it is read
there_read : {X Y Z : Type 0} (f : Y → Z) (read : X → Option Y) (o : Option X) → not (is_some o) ≡ false → has_no_word read o ≡ false → (z : Z) × (option_map f (option_and_then read o) ≡ Some z)
there_read f read None h k = absurd (true≢false h)
there_read f read (Some x) h k = there_mapped f (read x) k

there_stage : {X Y : Type 0} (read : X → Option Y) (o : Option X) → not (is_some o) ≡ false → has_no_word read o ≡ false → (y : Y) × (option_and_then read o ≡ Some y)
there_stage read None h k = absurd (true≢false h)
there_stage read (Some x) h k = there (read x) k

there_copied : (found : Option (List Source × Parts)) (said : Option CopyFlags) → not (is_some found) ≡ false → not (is_some said) ≡ false → (i : InstructionKind) × (copy.copy_from found said ≡ Some i)
there_copied None said h k = absurd (true≢false h)
there_copied (Some found) None h k = absurd (true≢false k)
there_copied (Some found) (Some said) h k = (_, refl)

-- where no code is due, an instruction is made

made : (k : Option Keyword) (line : Line) (rest : List ℕ) → least (named_due k line rest) ≡ None → (i : InstructionKind) × (named_read k line rest ≡ Some i)
made None line rest h = absurd (true≢false (none_due (named_due None line rest) h R04))
made (Some From) line rest h = let due = none_due (named_due (Some From) line rest) h in there_stage (stage_from line.escape) (stage_in line.escape rest) (due R06) (second _ _ (due R09))
made (Some Arg) line rest h = let due = none_due (named_due (Some Arg) line rest) h in there_mapped _ (arguments_of line.escape (argument_cuts line.escape rest)) (second _ _ (due R09))
made (Some Env) line rest h = let due = none_due (named_due (Some Env) line rest) h in there_read _ (assignments_of line.escape) (pairs_in line.escape rest) (due R06) (second _ _ (due R09))
made (Some Label) line rest h = let due = none_due (named_due (Some Label) line rest) h in there_read _ (labels_of line.escape) (label_pairs line.escape rest) (due R06) (second _ _ (due R09))
made (Some Expose) line rest h = let due = none_due (named_due (Some Expose) line rest) h in there_mapped _ (all_words Quoted line.escape (words line.escape rest)) (second _ _ (due R09))
made (Some User) line rest h = let due = none_due (named_due (Some User) line rest) h in there_read _ (word Quoted line.escape) (only_argument line.escape rest) (due R06) (second _ _ (due R09))
made (Some Workdir) line rest h = let due = none_due (named_due (Some Workdir) line rest) h in there_read _ (word Quoted line.escape) (only_argument line.escape rest) (due R06) (second _ _ (due R09))
made (Some StopSignal) line rest h = let due = none_due (named_due (Some StopSignal) line rest) h in there_read _ (word Quoted line.escape) (only_argument line.escape rest) (due R06) (second _ _ (due R09))
made (Some Volume) line rest h = let due = none_due (named_due (Some Volume) line rest) h in there_mapped _ (all_words (kind_of (is_list rest)) line.escape (texts line.escape rest)) (second _ _ (due R09))
made (Some Shell) line rest h = there (shell_read rest) (none_due (named_due (Some Shell) line rest) h R06)
made (Some Cmd) line rest h = (_, refl)
made (Some Entrypoint) line rest h = (_, refl)
made (Some Run) line rest h = there_mapped _ (mounts (flags rest)) (none_due (named_due (Some Run) line rest) h R17)
made (Some Copy) line rest h =
    let due = none_due (named_due (Some Copy) line rest) h in
    let behind = behind_flags rest in
    there_copied (copy.arguments_of (is_list behind) line.escape line.heredocs (texts line.escape behind)) (copy_flags (flags rest)) (second _ _ (due R09)) (due R16)

spelled_by : (line : Line) (o : Option Code) → least (is_due line) ≡ o → ((i : Instruction) × Spells line i) ⊎ ((c : Code) × (least (is_due line) ≡ Some c))
spelled_by line (Some c) h = inr (c, h)
spelled_by line None h = let m = made (keyword_in line) line (behind_piece line.text) h in inl (record { line = line.number; kind = m.0 }, (m.1, refl, h))

pub spelled_or_refused : (line : Line) → ((i : Instruction) × Spells line i) ⊎ ((c : Code) × (least (is_due line) ≡ Some c))
spelled_or_refused line = spelled_by line (least (is_due line)) refl
