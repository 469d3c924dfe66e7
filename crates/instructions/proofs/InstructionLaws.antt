-- What each instruction keeps that a line spells: each rule follows from a code that isn't due.
use Rattle.std.specs.Prelude.{◌≡◌, ◌<◌, ◌≤◌, ℕ, suc, ◌-◌, ◌==◌, ◌||◌, ◌&&◌, nat_lt, Bool, true, false, not, List, [], ◌∷◌, length, map, Option, Some, None, option_map, option_and_then, if◌then◌else◌, refl}
use Rattle.std.specs.List.{list_all, list_any}
use Rattle.std.proofs.Common.{sym, ◌∙◌, ap, subst, arith}
use Rattle.std.proofs.lemmas.Bool.{true≢false}
use Rattle.std.proofs.lemmas.Bool.Decides.{nat_tests}
use Rattle.std.proofs.lemmas.List.{length-map, length-take}
use Rattle.plain.specs.Limits.{most_mounts}
use Rattle.plain.specs.declared.refusal.Code.TheVariants.{R06, R07, R08, R10, R18}
use Rattle.ascii.specs.Names.{is_name}
use Rattle.lines.specs.declared.escape.Escape.{Escape}
use Rattle.lines.specs.declared.line.Heredoc.{Heredoc}
use Rattle.lines.specs.declared.line.Line.{Line}
use Rattle.ascii.specs.Pieces.{first_piece, behind_piece}
use Rattle.words.specs.Cutting.{words}
use Rattle.words.specs.Flag.{flags, behind_flags}
use Rattle.words.specs.Form.{json_form}
use Rattle.words.specs.Pairs.{pair, label_pair}
use Rattle.words.specs.declared.flag.Flag.{Flag}
use Rattle.options.specs.Copy.{are_copy_flags, copy_flags, has_from}
use Rattle.options.specs.Lists.{all_some}
use Rattle.options.specs.Mount.{mounts}
use Rattle.options.specs.declared.copy.CopyFlags.{CopyFlags}
use Rattle.options.specs.declared.mount.Mount.{Mount}
use Rattle.options.proofs.FlagLaws.{mounts-length, from_is_filled, from_is_there}
use Rattle.expand.specs.Value.{Parts}
use Rattle.expand.specs.Word.{word}
use Rattle.expand.specs.declared.kind.Kind.TheVariants.{Quoted}
use Rattle.instructions.specs.Arg.{argument_cut, argument_cuts, argument_from, argument_of, arguments_of}
use Rattle.instructions.specs.Arg as arg
use Rattle.instructions.specs.Command.{command_by, command_of}
use Rattle.instructions.specs.Copy.{but_last, sources, arguments_from, copy_from}
use Rattle.instructions.specs.Copy as copy
use Rattle.instructions.specs.Env.{pairs_among, pair_alone, pairs_in, has_pairs, assignment_of, assignments_of}
use Rattle.instructions.specs.Env as env
use Rattle.instructions.specs.Expanded.{all_words, is_list, texts, kind_of}
use Rattle.instructions.specs.From.{stage_from, stage_in, has_bad_name}
use Rattle.instructions.specs.Instruction.{argument_names, assignment_names, HasWord, is_files, IsInstruction}
use Rattle.instructions.specs.Label.{label_of, labels_of, label_pairs}
use Rattle.instructions.specs.Least.{least}
use Rattle.instructions.specs.OneWord.{one_word_read}
use Rattle.instructions.specs.Parsing.{named_read, named_due, keyword_in, Spells}
use Rattle.instructions.specs.Run.{run_command, is_wordless}
use Rattle.instructions.specs.Shell.{shell_words}
use Rattle.instructions.specs.declared.instruction.Argument.{Argument}
use Rattle.instructions.specs.declared.instruction.Assignment.{Assignment}
use Rattle.instructions.specs.Instruction.{Instruction}
use Rattle.instructions.specs.declared.instruction.InstructionKind.{InstructionKind}
use Rattle.instructions.specs.declared.instruction.InstructionKind.TheVariants as instruction
use Rattle.instructions.specs.declared.instruction.Source.{Source}
use Rattle.instructions.specs.declared.instruction.Source.TheVariants as copy_source
use Rattle.instructions.specs.declared.keyword.Keyword.{Keyword}
use Rattle.instructions.specs.declared.keyword.Keyword.TheVariants.{From, Arg, Env, Label, Expose, User, Workdir, StopSignal, Volume, Shell, Cmd, Entrypoint, Run, Copy}
use Rattle.instructions.proofs.LeastLaws.{none_due}

some_is : {X : Type 0} (x y : X) → Some x ≡ Some y → x ≡ y
some_is x y e = cc

none_is : {X : Type 0} (x : X) → None ≡ Some x → ⊥
none_is x e = cc

or_first : (a b : Bool) → (a || b) ≡ false → a ≡ false
or_first true b h = absurd (true≢false h)
or_first false b h = refl

or_second : (a b : Bool) → (a || b) ≡ false → b ≡ false
or_second true b h = absurd (true≢false h)
or_second false b h = h

not_true : (a : Bool) → not a ≡ false → a ≡ true
not_true true h = refl
not_true false h = absurd (true≢false h)

-- a length that isn't 0
filled : (n : ℕ) → (n == 0) ≡ false → 0 < n
filled n h = grind (arith, nat_tests)

two_at_least : (n : ℕ) → nat_lt n 2 ≡ false → 2 ≤ n
two_at_least n h = grind (arith, nat_tests)

within : (n m : ℕ) → nat_lt m n ≡ false → n ≤ m
within n m h = grind (arith, nat_tests)

-- all of some values that are there

all_some-length_by : {X : Type 0} (x : X) (os : List (Option X)) (xs : List X) (o : Option (List X)) → ((ys : List X) → o ≡ Some ys → length ys ≡ length os)
    → option_map (λ ys. x ∷ ys) o ≡ Some xs → length xs ≡ suc (length os)
all_some-length_by x os xs None rest h = absurd (none_is xs h)
all_some-length_by x os xs (Some ys) rest h = ap length (sym (some_is (x ∷ ys) xs h)) ∙ ap suc (rest ys refl)

all_some-length : {X : Type 0} (os : List (Option X)) (xs : List X) → all_some os ≡ Some xs → length xs ≡ length os
all_some-length [] xs h = ap length (sym (some_is [] xs h))
all_some-length (None ∷ os) xs h = absurd (none_is xs h)
all_some-length (Some x ∷ os) xs h = all_some-length_by x os xs (all_some os) (all_some-length os) h

-- as many as what they are read of
read_length : {X Y : Type 0} (f : X → Option Y) (xs : List X) (ys : List Y) → all_some (map f xs) ≡ Some ys → length ys ≡ length xs
read_length f xs ys h = all_some-length (map f xs) ys h ∙ length-map xs f

read_filled : {X Y : Type 0} (f : X → Option Y) (xs : List X) (ys : List Y) → all_some (map f xs) ≡ Some ys → 0 < length xs → 0 < length ys
read_filled f xs ys h k = let same : length ys ≡ length xs = read_length f xs ys h in omega (arith, same, k)

-- a test that each of them keeps from what it is read of
all_keep_by : {X Y : Type 0} (f : X → Option Y) (p : X → Bool) (name : Y → List ℕ) (q : List ℕ → Bool) → ((x : X) (y : Y) → f x ≡ Some y → p x ≡ q (name y))
    → (x : X) (xs : List X) (ys : List Y) (o : Option Y) → f x ≡ o → (os : Option (List Y)) → all_some (map f xs) ≡ os → all_some (o ∷ map f xs) ≡ Some ys
    → ((zs : List Y) → all_some (map f xs) ≡ Some zs → list_any (λ z. not (p z)) xs ≡ false → list_all q (map name zs) ≡ true)
    → list_any (λ z. not (p z)) (x ∷ xs) ≡ false → list_all q (map name ys) ≡ true
all_keep_by f p name q keep x xs ys None e os i h rest k = absurd (none_is ys h)
all_keep_by f p name q keep x xs ys (Some y) e None i h rest k = absurd (none_is ys (rw i at h))
all_keep_by f p name q keep x xs ys (Some y) e (Some zs) i h rest k =
    let same : y ∷ zs ≡ ys = some_is (y ∷ zs) ys (rw i at h) in
    let first : q (name y) ≡ true = sym (keep x y e) ∙ not_true (p x) (or_first (not (p x)) (list_any (λ z. not (p z)) xs) k) in
    subst (λ us. list_all q (map name us) ≡ true) same (rw first (rest zs i (or_second (not (p x)) (list_any (λ z. not (p z)) xs) k)))

all_keep : {X Y : Type 0} (f : X → Option Y) (p : X → Bool) (name : Y → List ℕ) (q : List ℕ → Bool) → ((x : X) (y : Y) → f x ≡ Some y → p x ≡ q (name y))
    → (xs : List X) (ys : List Y) → all_some (map f xs) ≡ Some ys → list_any (λ x. not (p x)) xs ≡ false → list_all q (map name ys) ≡ true
all_keep f p name q keep [] ys h k = subst (λ us. list_all q (map name us) ≡ true) (some_is [] ys h) refl
all_keep f p name q keep (x ∷ xs) ys h k =
    all_keep_by f p name q keep x xs ys (f x) refl (all_some (map f xs)) refl h (λ zs. all_keep f p name q keep xs zs) k

-- an instruction that is made of what is there

mapped : {X : Type 0} (f : X → InstructionKind) (o : Option X) (i : InstructionKind) → ((x : X) → o ≡ Some x → IsInstruction (f x)) → option_map f o ≡ Some i → IsInstruction i
mapped f None i h e = absurd (none_is i e)
mapped f (Some x) i h e = subst IsInstruction (some_is (f x) i e) (h x refl)

-- the same where that is read of something, about which more is known
mapped_read : {X Y : Type 0} (f : Y → InstructionKind) (read : X → Option Y) (o : Option X) (i : InstructionKind) → ((x : X) (y : Y) → o ≡ Some x → read x ≡ Some y → IsInstruction (f y))
    → option_map f (option_and_then read o) ≡ Some i → IsInstruction i
mapped_read f read None i h e = absurd (none_is i e)
mapped_read f read (Some x) i h e = mapped f (read x) i (λ y. h x y refl) e

-- FROM

from_whole : (e : Escape) (o : Option (List ℕ × Option (List ℕ))) (i : InstructionKind) → has_bad_name o ≡ false → option_and_then (stage_from e) o ≡ Some i → IsInstruction i
from_whole e None i h k = absurd (none_is i k)
from_whole e (Some stage) i h k = mapped (λ image. instruction.From image stage.1) (word Quoted e stage.0) i (λ image j. h) k

-- ARG

mapped_name : (name : List ℕ) (o : Option Parts) (a : Argument) → option_map (λ default. record { name = name; default = Some default }) o ≡ Some a → name ≡ a.name
mapped_name name None a h = absurd (none_is a h)
mapped_name name (Some default) a h = ap (λ (b : Argument). b.name) (some_is (record { name = name; default = Some default }) a h)

argument_name : (e : Escape) (name : List ℕ) (o : Option (List ℕ)) (a : Argument) → argument_from e name o ≡ Some a → name ≡ a.name
argument_name e name None a h = ap (λ (b : Argument). b.name) (some_is (record { name = name; default = None }) a h)
argument_name e name (Some text) a h = mapped_name name (word Quoted e text) a h

pub arguments_named : (e : Escape) (cuts : List (List ℕ × Option (List ℕ))) (arguments : List Argument) → arg.has_bad_name cuts ≡ false → arguments_of e cuts ≡ Some arguments
    → list_all is_name (argument_names arguments) ≡ true
arguments_named e cuts arguments good h =
    all_keep (argument_of e) (λ cut. is_name cut.0) (λ (a : Argument). a.name) is_name (λ cut a k. ap is_name (argument_name e cut.0 cut.1 a k)) cuts arguments h good

arguments_whole : (e : Escape) (text : List ℕ) (arguments : List Argument) → (length (words e text) == 0) ≡ false → arg.has_bad_name (argument_cuts e text) ≡ false
    → arguments_of e (argument_cuts e text) ≡ Some arguments → (0 < length arguments) × (list_all is_name (argument_names arguments) ≡ true)
arguments_whole e text arguments some good h = (
  read_filled (argument_of e) (argument_cuts e text) arguments h
      (let same : length (argument_cuts e text) ≡ length (words e text) = length-map (words e text) argument_cut in
      let k : 0 < length (words e text) = filled (length (words e text)) some in omega (arith, same, k)),
  arguments_named e (argument_cuts e text) arguments good h,
)

-- ENV and LABEL

among_filled : (cut : List ℕ → Option (List ℕ × List ℕ)) (ws : List (List ℕ)) (b : Bool) → (length ws == 0) ≡ b → (pairs : List (List ℕ × List ℕ))
    → (if b then None else all_some (map cut ws)) ≡ Some pairs → 0 < length pairs
among_filled cut ws true e pairs h = absurd (none_is pairs h)
among_filled cut ws false e pairs h = read_filled cut ws pairs h (filled (length ws) e)

alone_filled : (name value : List ℕ) (b : Bool) (pairs : List (List ℕ × List ℕ)) → (if b then None else Some ((name, value) ∷ [])) ≡ Some pairs → 0 < length pairs
alone_filled name value true pairs h = absurd (none_is pairs h)
alone_filled name value false pairs h = subst (λ (ps : List (List ℕ × List ℕ)). 0 < length ps) (some_is ((name, value) ∷ []) pairs h) (omega arith)

pairs_filled : (e : Escape) (text : List ℕ) (b : Bool) (pairs : List (List ℕ × List ℕ))
    → (if b then pairs_among pair (words e text) else pair_alone (first_piece text) (behind_piece text)) ≡ Some pairs → 0 < length pairs
pairs_filled e text true pairs h = among_filled pair (words e text) (length (words e text) == 0) refl pairs h
pairs_filled e text false pairs h = alone_filled (first_piece text) (behind_piece text) (length (behind_piece text) == 0) pairs h

assigned_name : (name : List ℕ) (o : Option Parts) (a : Assignment) → option_map (λ value. record { name = name; value = value }) o ≡ Some a → name ≡ a.name
assigned_name name None a h = absurd (none_is a h)
assigned_name name (Some value) a h = ap (λ (b : Assignment). b.name) (some_is (record { name = name; value = value }) a h)

pub assignments_named : (e : Escape) (pairs : List (List ℕ × List ℕ)) (assignments : List Assignment) → env.has_bad_name (Some pairs) ≡ false → assignments_of e pairs ≡ Some assignments
    → list_all is_name (assignment_names assignments) ≡ true
assignments_named e pairs assignments good h =
    all_keep (assignment_of e) (λ p. is_name p.0) (λ (a : Assignment). a.name) is_name (λ p a k. ap is_name (assigned_name p.0 (word Quoted e p.1) a k)) pairs assignments h good

assignments_whole : (e : Escape) (pairs : List (List ℕ × List ℕ)) (assignments : List Assignment) → 0 < length pairs → list_any (λ pair. not (is_name pair.0)) pairs ≡ false
    → assignments_of e pairs ≡ Some assignments → (0 < length assignments) × (list_all is_name (assignment_names assignments) ≡ true)
assignments_whole e pairs assignments some good h = (read_filled (assignment_of e) pairs assignments h some, assignments_named e pairs assignments good h)

good_pairs : (o : Option (List (List ℕ × List ℕ))) (pairs : List (List ℕ × List ℕ)) → o ≡ Some pairs → env.has_bad_name o ≡ false → list_any (λ pair. not (is_name pair.0)) pairs ≡ false
good_pairs o pairs h k = sym (ap env.has_bad_name h) ∙ k

-- SHELL

shell_by : (ws : List (List ℕ)) (b : Bool) → (length ws == 0) ≡ b → (i : InstructionKind) → (if b then None else Some (instruction.Shell ws)) ≡ Some i → IsInstruction i
shell_by ws true e i h = absurd (none_is i h)
shell_by ws false e i h = subst IsInstruction (some_is (instruction.Shell ws) i h) (filled (length ws) e)

shell_whole : (o : Option (List (List ℕ))) (i : InstructionKind) → shell_words o ≡ Some i → IsInstruction i
shell_whole None i h = absurd (none_is i h)
shell_whole (Some ws) i h = shell_by ws (length ws == 0) refl i h

-- RUN

command_whole : (rest : List ℕ) (o : Option (List (List ℕ))) → (length rest == 0) ≡ false → is_wordless o ≡ false → HasWord (command_by rest o)
command_whole rest None some good = filled (length rest) some
command_whole rest (Some ws) some good = filled (length ws) good

run_whole : (hs : List Heredoc) (rest : List ℕ) → (length rest == 0) ≡ false → is_wordless (json_form rest) ≡ false → list_any (λ h. length h.body == 0) hs ≡ false → HasWord (run_command hs rest)
run_whole [] rest some good bodies = command_whole rest (json_form rest) some good
run_whole (h ∷ hs) rest some good bodies = filled (length h.body) (or_first (length h.body == 0) (list_any (λ g. length g.body == 0) hs) bodies)

few_mounts : (fs : List Flag) (ms : List Mount) → nat_lt most_mounts (length fs) ≡ false → mounts fs ≡ Some ms → length ms ≤ most_mounts
few_mounts fs ms few h = let same : length ms ≡ length fs = mounts-length fs ms h in let k : length fs ≤ most_mounts = within (length fs) most_mounts few in omega (arith, same, k)

-- COPY

sources-length : (listed : Bool) (e : Escape) (hs : List Heredoc) (ts : List (List ℕ)) → length (sources listed e hs ts) ≡ length ts
sources-length listed e hs [] = refl
sources-length listed e hs (t ∷ ts) = ap suc (sources-length listed e (copy.left_behind hs t) ts)

some_sources : (listed : Bool) (e : Escape) (hs : List Heredoc) (ts : List (List ℕ)) (found : List Source) → nat_lt (length ts) 2 ≡ false
    → all_some (sources listed e hs (but_last ts)) ≡ Some found → 0 < length found
some_sources listed e hs ts found two h =
    let a : length found ≡ length (sources listed e hs (but_last ts)) = all_some-length (sources listed e hs (but_last ts)) found h in
    let b : length (sources listed e hs (but_last ts)) ≡ length (but_last ts) = sources-length listed e hs (but_last ts) in
    let c : 2 ≤ length ts = two_at_least (length ts) two in
    let d = length-take (length ts - 1) ts in omega (arith, a, b, c, d)

arguments_there : (o : Option (List Source)) (d : Option Parts) (found : List Source × Parts) → arguments_from o d ≡ Some found → o ≡ Some found.0
arguments_there None d found h = absurd (none_is found h)
arguments_there (Some ss) None found h = absurd (none_is found h)
arguments_there (Some ss) (Some destination) found h = ap (λ (f : List Source × Parts). Some f.0) (some_is (ss, destination) found h)

-- where a line has no heredocs, its sources are patterns

with_pattern : (pattern : Parts) (rest : Option (List Source)) (found : List Source) → ((ss : List Source) → rest ≡ Some ss → list_all is_files ss ≡ true)
    → option_map (λ ss. copy_source.Files pattern ∷ ss) rest ≡ Some found → list_all is_files found ≡ true
with_pattern pattern None found deeper h = absurd (none_is found h)
with_pattern pattern (Some ss) found deeper h = subst (λ us. list_all is_files us ≡ true) (some_is (copy_source.Files pattern ∷ ss) found h) (deeper ss refl)

with_word : (o : Option Parts) (os : List (Option Source)) (found : List Source) → ((ss : List Source) → all_some os ≡ Some ss → list_all is_files ss ≡ true)
    → all_some (option_map (λ pattern. copy_source.Files pattern) o ∷ os) ≡ Some found → list_all is_files found ≡ true
with_word None os found deeper h = absurd (none_is found h)
with_word (Some pattern) os found deeper h = with_pattern pattern (all_some os) found deeper h

patterns_alone : (listed : Bool) (e : Escape) (ts : List (List ℕ)) (found : List Source) → all_some (sources listed e [] ts) ≡ Some found → list_all is_files found ≡ true
patterns_alone listed e [] found h = subst (λ us. list_all is_files us ≡ true) (some_is [] found h) refl
patterns_alone listed e (t ∷ ts) found h = with_word (word (kind_of listed) e t) (sources listed e [] ts) found (patterns_alone listed e ts) h

-- where heredocs aren't refused and `--from` is there, the line has none

not_some : (some other from : Bool) → (some && (other || from)) ≡ false → from ≡ true → some ≡ false
not_some false other from h e = refl
not_some true other from h e = absurd (true≢false (sym e ∙ or_second other from h))

none_left : (hs : List Heredoc) → (length hs == 0) ≡ true → hs ≡ []
none_left [] e = refl
none_left (h ∷ hs) e = absurd (grind (arith, nat_tests))

no_heredocs : (listed : Bool) (hs : List Heredoc) (ts : List (List ℕ)) (fs : List Flag) → copy.are_refused listed hs ts fs ≡ false → has_from fs ≡ true → hs ≡ []
no_heredocs listed hs ts fs allowed from =
    none_left hs (not_true (length hs == 0) (not_some (not (length hs == 0)) (listed || not (copy.are_all_sources hs (but_last ts))) (has_from fs) allowed from))

from_patterns : (listed : Bool) (e : Escape) (hs : List Heredoc) (ts : List (List ℕ)) (fs : List Flag) (said : CopyFlags) (found : List Source)
    → copy.are_refused listed hs ts fs ≡ false → copy_flags fs ≡ Some said → all_some (sources listed e hs (but_last ts)) ≡ Some found
    → (name : List ℕ) → said.from ≡ Some name → list_all is_files found ≡ true
from_patterns listed e hs ts fs said found allowed k there name from =
    let none : hs ≡ [] = no_heredocs listed hs ts fs allowed (from_is_there fs said name k from) in
    patterns_alone listed e (but_last ts) found (subst (λ gs. all_some (sources listed e gs (but_last ts)) ≡ Some found) none there)

copy_by : (o : Option (List Source × Parts)) (s : Option CopyFlags) (i : InstructionKind)
    → ((found : List Source × Parts) (said : CopyFlags) → o ≡ Some found → s ≡ Some said → IsInstruction (instruction.Copy found.0 found.1 said)) → copy_from o s ≡ Some i → IsInstruction i
copy_by None s i h e = absurd (none_is i e)
copy_by (Some found) None i h e = absurd (none_is i e)
copy_by (Some found) (Some said) i h e = subst IsInstruction (some_is (instruction.Copy found.0 found.1 said) i e) (h found said refl refl)

-- each of them

pub whole : (k : Option Keyword) (line : Line) (rest : List ℕ) (i : InstructionKind) → least (named_due k line rest) ≡ None → named_read k line rest ≡ Some i → IsInstruction i
whole None line rest i h e = absurd (none_is i e)
whole (Some From) line rest i h e = from_whole line.escape (stage_in line.escape rest) i (none_due (named_due (Some From) line rest) h R10) e
whole (Some Arg) line rest i h e =
    let due = none_due (named_due (Some Arg) line rest) h in
    mapped (λ arguments. instruction.Arg arguments) (arguments_of line.escape (argument_cuts line.escape rest)) i (λ arguments. arguments_whole line.escape rest arguments (due R06) (due R10)) e
whole (Some Env) line rest i h e =
    let due = none_due (named_due (Some Env) line rest) h in
    mapped_read (λ assignments. instruction.Env assignments) (assignments_of line.escape) (pairs_in line.escape rest) i
    (λ pairs assignments j k. assignments_whole line.escape pairs assignments (pairs_filled line.escape rest (has_pairs rest) pairs j) (good_pairs (pairs_in line.escape rest) pairs j (due R10)) k) e
whole (Some Label) line rest i h e =
    mapped_read (λ labels. instruction.Label labels) (labels_of line.escape) (label_pairs line.escape rest) i
    (λ pairs labels j k. read_filled (label_of line.escape) pairs labels k (among_filled (label_pair line.escape) (words line.escape rest) (length (words line.escape rest) == 0) refl pairs j)) e
whole (Some Expose) line rest i h e =
    let due = none_due (named_due (Some Expose) line rest) h in
    mapped (λ ports. instruction.Expose ports) (all_words Quoted line.escape (words line.escape rest)) i
    (λ ports j. read_filled (word Quoted line.escape) (words line.escape rest) ports j (filled (length (words line.escape rest)) (due R06))) e
whole (Some User) line rest i h e = mapped (λ t. instruction.User t) (one_word_read line.escape rest) i (λ t j. tt) e
whole (Some Workdir) line rest i h e = mapped (λ t. instruction.Workdir t) (one_word_read line.escape rest) i (λ t j. tt) e
whole (Some StopSignal) line rest i h e = mapped (λ t. instruction.StopSignal t) (one_word_read line.escape rest) i (λ t j. tt) e
whole (Some Volume) line rest i h e =
    let due = none_due (named_due (Some Volume) line rest) h in
    mapped (λ paths. instruction.Volume paths) (all_words (kind_of (is_list rest)) line.escape (texts line.escape rest)) i
    (λ paths j. read_filled (word (kind_of (is_list rest)) line.escape) (texts line.escape rest) paths j (filled (length (texts line.escape rest)) (due R06))) e
whole (Some Shell) line rest i h e = shell_whole (json_form rest) i e
whole (Some Cmd) line rest i h e = mapped (λ c. instruction.Cmd c) (Some (command_of rest)) i (λ c j. tt) e
whole (Some Entrypoint) line rest i h e = mapped (λ c. instruction.Entrypoint c) (Some (command_of rest)) i (λ c j. tt) e
whole (Some Run) line rest i h e =
    let due = none_due (named_due (Some Run) line rest) h in
    let behind = behind_flags rest in
    let others = or_second (length behind == 0) (is_wordless (json_form behind) || list_any (λ h. length h.body == 0) line.heredocs) (due R06) in
    mapped (λ ms. instruction.Run ms (run_command line.heredocs behind)) (mounts (flags rest)) i
    (λ ms j. (
      few_mounts (flags rest) ms (due R18) j,
      run_whole line.heredocs behind (or_first (length behind == 0) (is_wordless (json_form behind) || list_any (λ h. length h.body == 0) line.heredocs) (due R06))
          (or_first (is_wordless (json_form behind)) (list_any (λ h. length h.body == 0) line.heredocs) others)
          (or_second (is_wordless (json_form behind)) (list_any (λ h. length h.body == 0) line.heredocs) others),
    )) e
whole (Some Copy) line rest i h e =
    let due = none_due (named_due (Some Copy) line rest) h in
    let behind = behind_flags rest in
    let ts = texts line.escape behind in
    let listed = is_list behind in
    copy_by (copy.arguments_of listed line.escape line.heredocs ts) (copy_flags (flags rest)) i
    (λ found said j k.
    let there = arguments_there (all_some (sources listed line.escape line.heredocs (but_last ts))) (word (kind_of listed) line.escape (copy.last_of ts)) found j in (
      some_sources listed line.escape line.heredocs ts found.0 (due R06) there,
      λ name. from_is_filled (flags rest) said name (not_true (are_copy_flags (flags rest)) (due R07)) k,
      from_patterns listed line.escape line.heredocs ts (flags rest) said found.0 (due R08) k there,
    )) e

pub spelled_is_whole : (line : Line) (i : Instruction) → Spells line i → IsInstruction i.kind
spelled_is_whole line i h = whole (keyword_in line) line (behind_piece line.text) i.kind h.2 h.0
