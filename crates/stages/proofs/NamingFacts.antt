-- What names lead to is before, known and counted.
use Rattle.std.proofs.Common.{◌≡◌, ◌<◌, ◌&&◌, ◌||◌, ◌+◌, ℕ, Bool, true, false, List, [], ◌∷◌, ◌++◌, Option, Some, None, length, map, refl, sym, ap, ◌∙◌, subst, arith, if◌then◌else◌}
use Rattle.std.specs.Prelude.{nat_eq, nat_lt}
use Rattle.std.specs.List.{All, cons_option, filter_map, list_any}
use Rattle.options.specs.Lists.{all_some}
use Rattle.stages.specs.PrivateResolving.{all_led}
use Rattle.std.specs.Option.{option_map, option_and_then, option_or, is_none, unwrap_or}
use Rattle.std.specs.Str.{all_ascii_digits}
use Rattle.std.specs.Cmp.Lexicographic.{pointwise}
use Rattle.std.proofs.lemmas.Bool.{true≢false, ltb-true}
use Rattle.std.proofs.lemmas.List.{append_assoc, append-nil}
use Rattle.std.proofs.lemmas.List.Elements.{All-nil, All-cons}
use Rattle.ascii.specs.Numbers.{decimal_of}
use Rattle.plain.specs.declared.refusal.Code.TheVariants.{R12}
use Rattle.instructions.specs.Least.{least}
use Rattle.expand.specs.Value.{Parts}
use Rattle.instructions.specs.declared.instruction.InstructionKind.{InstructionKind}
use Rattle.llb.specs.WellFormed.{scratch_name, is_well_formed_source}
use Rattle.llb.specs.declared.op.Source.TheVariants.{Scratch, Context, Image}
use Rattle.rows.specs.declared.row.Origin.{Origin}
use Rattle.rows.specs.declared.row.Origin.TheVariants.{Source as SourceOf, Stage as StageOf}
use Rattle.scopes.specs.declared.declaration.Declaration.{Declaration}
use Rattle.stages.specs.Naming.{Names, Known, is_called, called_from, stage_called, within, stage_numbered, stage_found, image_named, stage_or_image, scratch_or_image, base_named, Reference, to_context, by_flag, by_mount, references, led_to, origins_of, leads_nowhere}
use Rattle.stages.specs.Due.{base_text, base_found, inner_due}
use Rattle.stages.specs.Table.{base_of, IsBefore, IsKnown}

some_is : {X : Type 0} (x y : X) → Some x ≡ Some y → x ≡ y
some_is x y e = cc

none_some : {X : Type 0} (x : X) → None ≡ Some x → ⊥
none_some x e = cc

if_some : {X : Type 0} (b : Bool) (x y : X) → (if b then Some x else None) ≡ Some y → (b ≡ true) × (x ≡ y)
if_some true x y e = (refl, some_is x y e)
if_some false x y e = absurd (none_some y e)

both : (a b : Bool) → (a && b) ≡ true → (a ≡ true) × (b ≡ true)
both true b e = (refl, e)
both false b e = absurd (true≢false (sym e))

-- a number that was found is that of a stage

some_none : {X : Type 0} (x : X) → Some x ≡ None → ⊥
some_none x e = cc

from_within_by : (b : Bool) (number count n : ℕ) (more : Option ℕ) → (more ≡ Some number → number < n + 1 + count)
    → (if b then Some n else more) ≡ Some number → number < n + (count + 1)
from_within_by true number count n more inside e = let same = some_is n number e in omega (arith, same)
from_within_by false number count n more inside e = let lt : number < n + 1 + count = inside e in omega (arith, lt)

from_within : (n : ℕ) (names : Names) (text : List ℕ) (number : ℕ) → called_from n names text ≡ Some number → number < n + length names
from_within n [] text number e = absurd (none_some number e)
from_within n (name ∷ names) text number e =
    let h = from_within_by (is_called text name) number (length names) n (called_from (n + 1) names text) (from_within (n + 1) names text number) e in
    omega (arith, h)

pub called_within : (names : Names) (text : List ℕ) (number : ℕ) → stage_called names text ≡ Some number → number < length names
called_within names text number e = let h : number < 0 + length names = from_within 0 names text number e in omega (arith, h)

within_is : (count : ℕ) (o : Option ℕ) (number : ℕ) → option_and_then (within count) o ≡ Some number → number < count
within_is count None number e = absurd (none_some number e)
within_is count (Some n) number e =
    let h = if_some (nat_lt n count) n number e in subst (λ m. m < count) h.1 (ltb-true n count h.0)

numbered_within : (names : Names) (text : List ℕ) (number : ℕ) → stage_numbered names text ≡ Some number → number < length names
numbered_within names text number e = within_is (length names) (decimal_of text) number e

found_by : (b : Bool) (count number : ℕ) (x y : Option ℕ) → (x ≡ Some number → number < count) → (y ≡ Some number → number < count)
    → (if b then x else y) ≡ Some number → number < count
found_by true count number x y in_x in_y e = in_x e
found_by false count number x y in_x in_y e = in_y e

pub found_within : (names : Names) (text : List ℕ) (number : ℕ) → stage_found names text ≡ Some number → number < length names
found_within names text number e =
    found_by (all_ascii_digits text) (length names) number (stage_numbered names text) (stage_called names text)
    (numbered_within names text number) (called_within names text number) e

-- what a predicate says of all origins that may be found after stages of these names, it says of what a name leads to

-- of each of some stages, of the sources that stand for no image, and of the images that are known
record MaySay (known : Known) (count : ℕ) (P : Origin → Type 0) : Type 0 where
  stages : (number : ℕ) → number < count → P (StageOf number)
  scratch : P (SourceOf Scratch)
  context : P (SourceOf Context)
  images : (name : List ℕ) → known name ≡ true → is_well_formed_source (Image name) ≡ true → P (SourceOf (Image name))

-- of an origin, if there is one
abbrev OfSome : (Origin → Type 0) → Option Origin → Type 0
OfSome P None = Unit {0}
OfSome P (Some origin) = P origin

image_by : (known : Known) (text : List ℕ) (P : Origin → Type 0) (b : Bool) → (known text && is_well_formed_source (Image text)) ≡ b
    → ((name : List ℕ) → known name ≡ true → is_well_formed_source (Image name) ≡ true → P (SourceOf (Image name)))
    → OfSome P (if b then Some (SourceOf (Image text)) else None)
image_by known text P true e say = let h = both (known text) (is_well_formed_source (Image text)) e in say text h.0 h.1
image_by known text P false e say = tt

of_image : (known : Known) (count : ℕ) (P : Origin → Type 0) (text : List ℕ) → MaySay known count P → OfSome P (image_named known text)
of_image known count P text say = image_by known text P (known text && is_well_formed_source (Image text)) refl say.images

of_stage : (count : ℕ) (P : Origin → Type 0) (o : Option ℕ) → ((number : ℕ) → number < count → P (StageOf number))
    → ((number : ℕ) → o ≡ Some number → number < count) → OfSome P (option_map StageOf o)
of_stage count P None say inside = tt
of_stage count P (Some number) say inside = say number (inside number refl)

of_either : (P : Origin → Type 0) (a b : Option Origin) → OfSome P a → OfSome P b → OfSome P (option_or a b)
of_either P None b of_a of_b = of_b
of_either P (Some x) b of_a of_b = of_a

of_if : (P : Origin → Type 0) (c : Bool) (a b : Option Origin) → OfSome P a → OfSome P b → OfSome P (if c then a else b)
of_if P true a b of_a of_b = of_a
of_if P false a b of_a of_b = of_b

of_stage_or_image : (known : Known) (names : Names) (P : Origin → Type 0) (text : List ℕ) → MaySay known (length names) P
    → OfSome P (stage_or_image known names text)
of_stage_or_image known names P text say =
    of_either P (option_map StageOf (stage_called names text)) (image_named known text)
    (of_stage (length names) P (stage_called names text) say.stages (called_within names text))
    (of_image known (length names) P text say)

of_base : (known : Known) (names : Names) (P : Origin → Type 0) (text : List ℕ) → MaySay known (length names) P → OfSome P (base_named known names text)
of_base known names P text say =
    of_either P (option_map StageOf (stage_called names text)) (scratch_or_image known text)
    (of_stage (length names) P (stage_called names text) say.stages (called_within names text))
    (of_if P (pointwise nat_eq text scratch_name) (Some (SourceOf Scratch)) (image_named known text) say.scratch (of_image known (length names) P text say))

of_led : (known : Known) (names : Names) (P : Origin → Type 0) (reference : Reference) → MaySay known (length names) P → OfSome P (led_to known names reference)
of_led known names P to_context say = say.context
of_led known names P (by_flag text) say =
    of_if P (all_ascii_digits text) (option_map StageOf (stage_numbered names text)) (stage_or_image known names text)
    (of_stage (length names) P (stage_numbered names text) say.stages (numbered_within names text)) (of_stage_or_image known names P text say)
of_led known names P (by_mount text) say = of_stage_or_image known names P text say

all_cons : (P : Origin → Type 0) (o : Option Origin) (os : List Origin) → OfSome P o → All P os → All P (cons_option o os)
all_cons P None os of_o of_os = of_os
all_cons P (Some x) os of_o of_os = All-cons P x os of_o of_os

all_say : (known : Known) (names : Names) (P : Origin → Type 0) (rs : List Reference) → MaySay known (length names) P → All P (filter_map (led_to known names) rs)
all_say known names P [] say = All-nil P
all_say known names P (r ∷ rs) say =
    all_cons P (led_to known names r) (filter_map (led_to known names) rs) (of_led known names P r say) (all_say known names P rs say)

of_unwrapped : (P : Origin → Type 0) (o : Option Origin) (d : Origin) → OfSome P o → P d → P (unwrap_or o d)
of_unwrapped P None d of_o of_d = of_d
of_unwrapped P (Some x) d of_o of_d = of_o

before_say : (known : Known) (count : ℕ) → MaySay known count (IsBefore count)
before_say known count = record {
  stages = λ number lt. lt;
  scratch = refl;
  context = refl;
  images = λ name there fits. fits;
}

known_say : (known : Known) (count : ℕ) → MaySay known count (IsKnown known)
known_say known count = record {
  stages = λ number lt. tt;
  scratch = tt;
  context = tt;
  images = λ name there fits. there;
}

of_found : (known : Known) (names : Names) (P : Origin → Type 0) (text : Option (List ℕ)) → MaySay known (length names) P → OfSome P (base_found known names text)
of_found known names P None say = tt
of_found known names P (Some text) say = of_base known names P text say

pub base_before : (known : Known) (scope : List Declaration) (names : Names) (image : Parts) → IsBefore (length names) (base_of known scope names image)
base_before known scope names image =
    of_unwrapped (IsBefore (length names)) (base_found known names (base_text scope image)) (SourceOf Scratch)
    (of_found known names (IsBefore (length names)) (base_text scope image) (before_say known (length names))) refl

pub base_known : (known : Known) (scope : List Declaration) (names : Names) (image : Parts) → IsKnown known (base_of known scope names image)
base_known known scope names image =
    of_unwrapped (IsKnown known) (base_found known names (base_text scope image)) (SourceOf Scratch)
    (of_found known names (IsKnown known) (base_text scope image) (known_say known (length names))) tt

pub origins_before : (known : Known) (names : Names) (kind : InstructionKind) → All (IsBefore (length names)) (origins_of known names kind)
origins_before known names kind = all_say known names (IsBefore (length names)) (references kind) (before_say known (length names))

pub origins_known : (known : Known) (names : Names) (kind : InstructionKind) → All (IsKnown known) (origins_of known names kind)
origins_known known names kind = all_say known names (IsKnown known) (references kind) (known_say known (length names))

-- where no reference leads nowhere there is an origin for each

count_by : (known : Known) (names : Names) (o : Option Origin) (os : List Origin) (rs : List Reference) (b : Bool)
    → (is_none o ≡ false) → length os ≡ length rs → length (cons_option o os) ≡ length rs + 1
count_by known names None os rs b some same = absurd (true≢false some)
count_by known names (Some x) os rs b some same = omega (arith, same)

neither : (a b : Bool) → (a || b) ≡ false → (a ≡ false) × (b ≡ false)
neither true b e = absurd (true≢false e)
neither false b e = (refl, e)

origins_count : (known : Known) (names : Names) (rs : List Reference) → list_any (λ r. is_none (led_to known names r)) rs ≡ false
    → length (filter_map (led_to known names) rs) ≡ length rs
origins_count known names [] none = refl
origins_count known names (r ∷ rs) none =
    let h = neither (is_none (led_to known names r)) (list_any (λ x. is_none (led_to known names x)) rs) none in
    let same = count_by known names (led_to known names r) (filter_map (led_to known names) rs) rs false h.0 (origins_count known names rs h.1) in
    omega (arith, same)

pub origins_counted : (known : Known) (names : Names) (kind : InstructionKind) → leads_nowhere known names kind ≡ false
    → length (origins_of known names kind) ≡ length (references kind)
origins_counted known names kind none = origins_count known names (references kind) none

-- origins one after another

-- a list before another, if there is another
abbrev pub after : List Origin → Option (List Origin) → Option (List Origin)
after xs o = option_map (λ ys. xs ++ ys) o

after_more : (xs : List Origin) (x : Origin) (o : Option (List Origin)) → after xs (option_map (λ ys. x ∷ ys) o) ≡ after (xs ++ x ∷ []) o
after_more xs x None = refl
after_more xs x (Some ys) = ap (λ zs. Some zs) (sym (append_assoc xs (x ∷ []) ys))

pub after_first : (o : Option (List Origin)) → after [] o ≡ o
after_first None = refl
after_first (Some ys) = refl

pub after_none : (known : Known) (names : Names) (xs : List Origin) (r : Reference) (rs : List Reference) → led_to known names r ≡ None
    → after xs (all_led known names (r ∷ rs)) ≡ None
after_none known names xs r rs none = ap (λ o. after xs (all_some (o ∷ map (led_to known names) rs))) none

pub after_some : (known : Known) (names : Names) (xs : List Origin) (x : Origin) (r : Reference) (rs : List Reference) → led_to known names r ≡ Some x
    → after xs (all_led known names (r ∷ rs)) ≡ after (xs ++ x ∷ []) (all_led known names rs)
after_some known names xs x r rs some =
    ap (λ o. after xs (all_some (o ∷ map (led_to known names) rs))) some ∙ after_more xs x (all_led known names rs)

pub after_last : (known : Known) (names : Names) (xs : List Origin) (rs : List Reference) → rs ≡ [] → after xs (all_led known names rs) ≡ Some xs
after_last known names xs rs none = ap (λ qs. after xs (all_led known names qs)) none ∙ ap (λ ys. Some ys) (append-nil xs)

-- where all lead somewhere none leads nowhere

led_after : (x : Origin) (w : Option (List Origin)) (found filtered : List Origin) (b : Bool)
    → option_map (λ xs. x ∷ xs) w ≡ Some found → ((ys : List Origin) → w ≡ Some ys → (b ≡ false) × (filtered ≡ ys))
    → (b ≡ false) × (x ∷ filtered ≡ found)
led_after x None found filtered b e more = absurd (none_some found e)
led_after x (Some ys) found filtered b e more = let h = more ys refl in (h.0, ap (λ zs. x ∷ zs) h.1 ∙ some_is (x ∷ ys) found e)

led_by : (o : Option Origin) (os : List (Option Origin)) (found filtered : List Origin) (b : Bool)
    → all_some (o ∷ os) ≡ Some found → ((ys : List Origin) → all_some os ≡ Some ys → (b ≡ false) × (filtered ≡ ys))
    → ((is_none o || b) ≡ false) × (cons_option o filtered ≡ found)
led_by None os found filtered b e more = absurd (none_some found e)
led_by (Some x) os found filtered b e more = led_after x (all_some os) found filtered b e more

pub led_all : (known : Known) (names : Names) (rs : List Reference) (found : List Origin) → all_led known names rs ≡ Some found
    → (list_any (λ r. is_none (led_to known names r)) rs ≡ false) × (filter_map (led_to known names) rs ≡ found)
led_all known names [] found e = (refl, some_is [] found e)
led_all known names (r ∷ rs) found e =
    led_by (led_to known names r) (map (led_to known names) rs) found (filter_map (led_to known names) rs) (list_any (λ q. is_none (led_to known names q)) rs) e
    (λ ys same. led_all known names rs ys same)

led_none_after : (x : Origin) (w : Option (List Origin)) (b : Bool) → option_map (λ xs. x ∷ xs) w ≡ None → (w ≡ None → b ≡ true) → b ≡ true
led_none_after x None b e more = more refl
led_none_after x (Some ys) b e more = absurd (some_none (x ∷ ys) e)

led_none_by : (o : Option Origin) (os : List (Option Origin)) (b : Bool) → all_some (o ∷ os) ≡ None → (all_some os ≡ None → b ≡ true) → (is_none o || b) ≡ true
led_none_by None os b e more = refl
led_none_by (Some x) os b e more = led_none_after x (all_some os) b e more

pub led_none : (known : Known) (names : Names) (rs : List Reference) → all_led known names rs ≡ None
    → list_any (λ r. is_none (led_to known names r)) rs ≡ true
led_none known names [] e = absurd (some_none [] e)
led_none known names (r ∷ rs) e =
    led_none_by (led_to known names r) (map (led_to known names) rs) (list_any (λ q. is_none (led_to known names q)) rs) e (led_none known names rs)

pub meets_all : (known : Known) (names : Names) (kind : InstructionKind) (found : List Origin) → all_led known names (references kind) ≡ Some found
    → (Some (origins_of known names kind) ≡ Some found) × (least (inner_due known names kind) ≡ None)
meets_all known names kind found e =
    let h = led_all known names (references kind) found e in
    (ap (λ os. Some os) h.1, ap (λ b. if b then Some R12 else None) h.0)

pub meets_none : (known : Known) (names : Names) (kind : InstructionKind) → all_led known names (references kind) ≡ None
    → least (inner_due known names kind) ≡ Some R12
meets_none known names kind e = ap (λ b. if b then Some R12 else None) (led_none known names (references kind) e)
