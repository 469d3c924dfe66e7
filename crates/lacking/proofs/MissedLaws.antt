-- Laws of the source that is named: it is one that the instruction on its line misses.
use Rattle.std.proofs.Common.{◌≡◌, ◌≢◌, ◌++◌, ◌==◌, ◌∙◌, ℕ, Bool, true, false, List, [], ◌∷◌, Option, Some, None, Ok, Err, refl, sym, ap, subst, if◌then◌else◌, arith}
use Rattle.std.specs.List.{All, Contains}
use Rattle.std.specs.Option.{option_or}
use Rattle.std.proofs.lemmas.Bool.{eqb-true}
use Rattle.std.proofs.lemmas.List.Elements.{All-cons, All-nil, Contains-append_right}
use Rattle.std.proofs.lemmas.Option.{none-some, same_Some}
use Rattle.trees.specs.TreeMap.{TreeMap, empty_tree}
use Rattle.trees.specs.Cause.{TreeOrCause}
use Rattle.trees.specs.declared.cause.Cause.{Cause}
use Rattle.trees.specs.declared.cause.Cause.TheVariants.{F1, F2, F3, F4, F5, Exit}
use Rattle.llb.specs.declared.op.FileSource.{FileSource}
use Rattle.llb.specs.declared.op.FileSource.TheVariants.{Pattern, Data}
use Rattle.plans.specs.Sources.{SourcesValue, source_tree}
use Rattle.plans.specs.Value.{copied_files}
use Rattle.rows.specs.Rows.{Rows}
use Rattle.rows.specs.declared.row.Action.{Action}
use Rattle.rows.specs.declared.row.Action.TheVariants.{Run, Copy, MakeDirs}
use Rattle.rows.specs.declared.row.Origin.{Origin}
use Rattle.rows.specs.declared.row.Origin.TheVariants.{Source as SourceOf, Stage as StageOf}
use Rattle.rows.specs.declared.row.Step.{Step}
use Rattle.rows.specs.declared.row.Stage.{Stage}
use Rattle.lacking.specs.Missed.{IsMissedBy, IsMissedFrom, IsMissedOn, IsThere}
use Rattle.lacking.specs.Missing.{alone, fails_for_source, first_lacked, is_context_path, is_for_source, lacked_by, lacks, missed_at, missed_by, missed_from, missed_in, missed_source, only, with_place}
use Rattle.lacking.specs.declared.missing.Missed.{Missed}

never : (t : Bool) → t ≡ false → t ≡ true → ⊥
never t e f = cc

Contains-first : {X : Type 0} (x : X) (xs : List X) → Contains (x ∷ xs) x
Contains-first x xs = (0, omega arith, refl)

Contains-later : {X : Type 0} (y : X) (xs : List X) (x : X) → Contains xs x → Contains (y ∷ xs) x
Contains-later y xs x h = Contains-append_right (y ∷ []) xs x h

-- ---- a tree that lacks a source

cause_is : (cause : Cause) → is_for_source cause ≡ true → cause ≡ F1
cause_is F1 e = refl
cause_is F2 e = absurd (never false refl e)
cause_is F3 e = absurd (never false refl e)
cause_is F4 e = absurd (never false refl e)
cause_is F5 e = absurd (never false refl e)
cause_is (Exit status) e = absurd (never false refl e)

value_is : (value : TreeOrCause) → fails_for_source value ≡ true → value ≡ Err F1
value_is (Ok tree) e = absurd (never false refl e)
value_is (Err cause) e = ap Err (cause_is cause e)

value_isnt : (value : TreeOrCause) → fails_for_source value ≡ false → value ≢ Err F1
value_isnt value e f = never true (sym (ap fails_for_source f) ∙ e) refl

lacks-fails : (tree : TreeMap) (text : List ℕ) → lacks tree (Pattern text) ≡ true → copied_files (alone (Pattern text)) empty_tree tree ≡ Err F1
unfolding lacks
lacks-fails tree text e = value_is (copied_files (alone (Pattern text)) empty_tree tree) e

lacks-not : (tree : TreeMap) (text : List ℕ) → lacks tree (Pattern text) ≡ false → copied_files (alone (Pattern text)) empty_tree tree ≢ Err F1
unfolding lacks
lacks-not tree text e = value_isnt (copied_files (alone (Pattern text)) empty_tree tree) e

-- ---- the source among those of a COPY

record IsSourceOf (fails : List FileSource → List FileSource → Type 0) (sources : List FileSource) (text : List ℕ) : Type 0 where
  front : List FileSource
  back : List FileSource
  is : sources ≡ front ++ Pattern text ∷ back
  holds : fails front back

abbrev IsLacked : TreeMap → List ℕ → List FileSource → List FileSource → Type 0
IsLacked tree text front back = (copied_files (alone (Pattern text)) empty_tree tree ≡ Err F1) × All (IsThere tree) front

later : (tree : TreeMap) (source : FileSource) (sources : List FileSource) (text : List ℕ) → IsThere tree source
    → IsSourceOf (IsLacked tree text) sources text → IsSourceOf (IsLacked tree text) (source ∷ sources) text
later tree source sources text there rest = record {
  front = source ∷ rest.front;
  back = rest.back;
  is = ap (λ (them : List FileSource). source ∷ them) rest.is;
  holds = (rest.holds.0, All-cons (IsThere tree) source rest.front there rest.holds.1);
}

first_by : (tree : TreeMap) (own : List ℕ) (sources : List FileSource) (text : List ℕ) (t : Bool) → lacks tree (Pattern own) ≡ t
    → option_or (if t then Some own else None) (first_lacked tree sources) ≡ Some text
    → (first_lacked tree sources ≡ Some text → IsSourceOf (IsLacked tree text) sources text)
    → IsSourceOf (IsLacked tree text) (Pattern own ∷ sources) text
first_by tree own sources text true e f rest = record {
  front = [];
  back = sources;
  is = ap (λ (it : List ℕ). Pattern it ∷ sources) (same_Some own text f);
  holds = (lacks-fails tree text (subst (λ (it : List ℕ). lacks tree (Pattern it) ≡ true) (same_Some own text f) e), All-nil (IsThere tree));
}
first_by tree own sources text false e f rest = later tree (Pattern own) sources text (lacks-not tree own e) (rest f)

first-is : (tree : TreeMap) (sources : List FileSource) (text : List ℕ) → first_lacked tree sources ≡ Some text → IsSourceOf (IsLacked tree text) sources text
first-is tree [] text e = absurd (none-some text e)
first-is tree (Pattern own ∷ sources) text e = first_by tree own sources text (lacks tree (Pattern own)) refl e (first-is tree sources text)
first-is tree (Data name content ∷ sources) text e = later tree (Data name content) sources text tt (first-is tree sources text e)

from_tree : (trees : SourcesValue) (origin : Origin) (found : Option TreeMap) (sources : List FileSource) (text : List ℕ)
    → ((tree : TreeMap) → found ≡ Some tree → (front back : List FileSource) → IsLacked tree text front back → IsMissedFrom trees origin front text back)
    → lacked_by found sources ≡ Some text → IsSourceOf (λ front back. IsMissedFrom trees origin front text back) sources text
from_tree trees origin None sources text whole e = absurd (none-some text e)
from_tree trees origin (Some tree) sources text whole e =
    let first = first-is tree sources text e in
    record { front = first.front; back = first.back; is = first.is; holds = whole tree refl first.front first.back first.holds }

only-is : (trees : SourcesValue) (number : ℕ) (sources : List FileSource) (text : List ℕ) → only sources ≡ Some text
    → IsSourceOf (λ front back. IsMissedFrom trees (StageOf number) front text back) sources text
only-is trees number [] text e = absurd (none-some text e)
only-is trees number (Pattern own ∷ []) text e =
    record { front = []; back = []; is = ap (λ (it : List ℕ). Pattern it ∷ []) (same_Some own text e); holds = (refl, refl) }
only-is trees number (Data name content ∷ []) text e = absurd (none-some text e)
only-is trees number (source ∷ (other ∷ sources)) text e = absurd (none-some text e)

from-is : (trees : SourcesValue) (origin : Origin) (sources : List FileSource) (text : List ℕ) → missed_from trees origin sources ≡ Some text
    → IsSourceOf (λ front back. IsMissedFrom trees origin front text back) sources text
from-is trees (SourceOf source) sources text e =
    from_tree trees (SourceOf source) (source_tree trees source) sources text (λ tree is front back holds. (tree, is, holds.0, holds.1)) e
from-is trees (StageOf number) sources text e = only-is trees number sources text e

-- ---- the instruction

place_is : (origin : Origin) (found : Option (List ℕ)) (missed : Missed) → with_place origin found ≡ Some missed
    → (found ≡ Some missed.source) × (missed.is_context_path ≡ is_context_path origin missed.source)
place_is origin None missed e = absurd (none-some missed e)
place_is origin (Some text) missed e =
    let same = same_Some (record { source = text; is_context_path = is_context_path origin text }) missed e in
    let own : text ≡ missed.source = ap (λ (it : Missed). it.source) same in
    (ap Some own, sym (ap (λ (it : Missed). it.is_context_path) same) ∙ ap (is_context_path origin) own)

by-is : (trees : SourcesValue) (action : Action) (missed : Missed) → missed_by trees action ≡ Some missed → IsMissedBy trees action missed
by-is trees (Run exec from) missed e = absurd (none-some missed e)
by-is trees (Copy files None linked) missed e = absurd (none-some missed e)
by-is trees (Copy files (Some origin) linked) missed e =
    let found = place_is origin (missed_from trees origin files.sources) missed e in
    let one = from-is trees origin files.sources missed.source found.0 in
    record {
      files = files;
      origin = origin;
      linked = linked;
      front = one.front;
      back = one.back;
      copies = refl;
      sources = one.is;
      fails = one.holds;
      place = found.1;
    }
by-is trees (MakeDirs path) missed e = absurd (none-some missed e)

step_by : (trees : SourcesValue) (line : ℕ) (step : Step) (steps : List Step) (missed : Missed) (t : Bool) → (step.line == line) ≡ t
    → (if t then missed_by trees step.action else missed_in trees line steps) ≡ Some missed
    → (missed_in trees line steps ≡ Some missed → (it : Step) × Contains steps it × (it.line ≡ line) × (missed_by trees it.action ≡ Some missed))
    → (it : Step) × Contains (step ∷ steps) it × (it.line ≡ line) × (missed_by trees it.action ≡ Some missed)
step_by trees line step steps missed true e f rest = (step, Contains-first step steps, eqb-true step.line line e, f)
step_by trees line step steps missed false e f rest =
    let one = rest f in
    (one.0, Contains-later step steps one.0 one.1, one.2, one.3)

step-is : (trees : SourcesValue) (line : ℕ) (steps : List Step) (missed : Missed) → missed_in trees line steps ≡ Some missed
    → (it : Step) × Contains steps it × (it.line ≡ line) × (missed_by trees it.action ≡ Some missed)
step-is trees line [] missed e = absurd (none-some missed e)
step-is trees line (step ∷ steps) missed e = step_by trees line step steps missed (step.line == line) refl e (step-is trees line steps missed)

row_by : (trees : SourcesValue) (line : ℕ) (stage : Stage) (rows : Rows) (missed : Missed) (found : Option Missed) → missed_in trees line stage.steps ≡ found
    → option_or found (missed_at trees line rows) ≡ Some missed
    → (missed_at trees line rows ≡ Some missed → (it : Stage) × Contains rows (Some it) × (missed_in trees line it.steps ≡ Some missed))
    → (it : Stage) × Contains (Some stage ∷ rows) (Some it) × (missed_in trees line it.steps ≡ Some missed)
row_by trees line stage rows missed (Some own) e f rest = (stage, Contains-first (Some stage) rows, e ∙ f)
row_by trees line stage rows missed None e f rest =
    let one = rest f in
    (one.0, Contains-later (Some stage) rows (Some one.0) one.1, one.2)

row-is : (trees : SourcesValue) (line : ℕ) (rows : Rows) (missed : Missed) → missed_at trees line rows ≡ Some missed
    → (it : Stage) × Contains rows (Some it) × (missed_in trees line it.steps ≡ Some missed)
row-is trees line [] missed e = absurd (none-some missed e)
row-is trees line (None ∷ rows) missed e =
    let one = row-is trees line rows missed e in
    (one.0, Contains-later None rows (Some one.0) one.1, one.2)
row-is trees line (Some stage ∷ rows) missed e =
    row_by trees line stage rows missed (missed_in trees line stage.steps) refl e (row-is trees line rows missed)

on-line : (trees : SourcesValue) (rows : Rows) (line : ℕ) (missed : Missed) → missed_at trees line rows ≡ Some missed → IsMissedOn trees rows line missed
on-line trees rows line missed e =
    let row = row-is trees line rows missed e in
    let it = step-is trees line row.0.steps missed row.2 in
    record { stage = row.0; step = it.0; in_rows = row.1; in_stage = it.1; on_line = it.2; missed_by = by-is trees it.0.action missed it.3 }

named_by : (trees : SourcesValue) (rows : Rows) (line : ℕ) (cause : Cause) (missed : Missed) (t : Bool) → is_for_source cause ≡ t
    → (if t then missed_at trees line rows else None) ≡ Some missed → (cause ≡ F1) × IsMissedOn trees rows line missed
named_by trees rows line cause missed true e f = (cause_is cause e, on-line trees rows line missed f)
named_by trees rows line cause missed false e f = absurd (none-some missed f)

-- a source that is named is missed on the line, by an instruction that failed because a source isn't there
pub named-is : (trees : SourcesValue) (rows : Rows) (line : ℕ) (cause : Cause) (missed : Missed) → missed_source trees rows line cause ≡ Some missed
    → (cause ≡ F1) × IsMissedOn trees rows line missed
named-is trees rows line cause missed e = named_by trees rows line cause missed (is_for_source cause) refl e
