-- The loops along the items of a line: what is found of their texts, and what is against the others.
use Rattle.std.specs.Prelude.{◌≡◌, ◌<◌, ◌≤◌, ◌+◌, ◌++◌, ◌||◌, ℕ, Bool, true, false, List, [], ◌∷◌, map, Option, Some, None, length, refl}
use Rattle.std.specs.List.{list_any, filter_map, cons_option}
use Rattle.std.proofs.Common.{get_or, drop, ap, ap₂, sym, ◌∙◌, append_assoc, append-nil}
use Rattle.std.proofs.lemmas.List.{at_drop_more, at_drop_all}
use Rattle.expand.specs.Value.{Parts, value}
use Rattle.expand.specs.Expanding.{unexpanded, valued, is_valued, is_empty, worse, worst}
use Rattle.expand.specs.declared.fault.Unexpanded.{Unexpanded}
use Rattle.expand.proofs.WorseLaws.{worse-none, worse-assoc, worse_none-left, worse_none-right, valued-is}
use Rattle.instructions.specs.declared.instruction.Label.{Label}
use Rattle.scopes.specs.Evaluate.{Values}
use Rattle.imageconfig.specs.Lines.{texts_of, values_of, words_fault, label_rows, label_fault}
use Rattle.imageconfig.specs.PrivateLines.{row_with, labelled_row, IsLabelled}
use Rattle.imageconfig.specs.declared.line.Labelled.{Labelled}

-- any line

-- what is found so far of items, each of which gives one thing or has something against it
pub record IsSoFar {X Y : Type 0} (fault : X → Option Unexpanded) (made : X → Option Y) (all rest : List X) (so_far : Option Unexpanded) (found : List Y) : Type 0 where
  pub faults : worse so_far (worst (map fault rest)) ≡ worst (map fault all)
  pub items : found ++ filter_map made rest ≡ filter_map made all

pub so_far-begun : {X Y : Type 0} (fault : X → Option Unexpanded) (made : X → Option Y) (all : List X) (so_far : Option Unexpanded) (found : List Y) → so_far ≡ None → found ≡ []
    → IsSoFar fault made all all so_far found
so_far-begun {X} {Y} fault made all so_far found f e = record {
  faults = ap (λ t. worse t (worst (map fault all))) f;
  items = ap (λ (ys : List Y). ys ++ filter_map made all) e;
}

one_first : {Y : Type 0} (o : Option Y) (ys : List Y) → cons_option o [] ++ ys ≡ cons_option o ys
one_first None ys = refl
one_first (Some y) ys = refl

pub so_far-more : {X Y : Type 0} (fault : X → Option Unexpanded) (made : X → Option Y) (all : List X) (i : ℕ) (x : X) (so_far next : Option Unexpanded) (found new : List Y) → i < length all → x ≡ get_or all i x
    → next ≡ worse so_far (fault x) → new ≡ found ++ cons_option (made x) [] → IsSoFar fault made all (drop i all) so_far found → IsSoFar fault made all (drop (i + 1) all) next new
so_far-more {X} {Y} fault made all i x so_far next found new lt is f e g =
    let faults : worst (map fault (drop i all)) ≡ worse (fault x) (worst (map fault (drop (i + 1) all))) =
    at_drop_more (λ (xs : List X). worst (map fault xs)) all i x lt ∙ ap (λ (u : X). worse (fault u) (worst (map fault (drop (i + 1) all)))) (sym is) in
    let items : filter_map made (drop i all) ≡ cons_option (made x) (filter_map made (drop (i + 1) all)) =
    at_drop_more (λ (xs : List X). filter_map made xs) all i x lt ∙ ap (λ (u : X). cons_option (made u) (filter_map made (drop (i + 1) all))) (sym is) in
    record {
      faults = ap (λ t. worse t (worst (map fault (drop (i + 1) all)))) f ∙ worse-assoc so_far (fault x) (worst (map fault (drop (i + 1) all))) ∙ ap (worse so_far) (sym faults) ∙ g.faults;
      items = ap (λ (ys : List Y). ys ++ filter_map made (drop (i + 1) all)) e ∙ append_assoc found (cons_option (made x) []) (filter_map made (drop (i + 1) all))
          ∙ ap (λ (ys : List Y). found ++ ys) (one_first (made x) (filter_map made (drop (i + 1) all)) ∙ sym items) ∙ g.items;
    }

-- what is found in the end
pub record AreFound {X Y : Type 0} (fault : X → Option Unexpanded) (made : X → Option Y) (all : List X) (so_far : Option Unexpanded) (found : List Y) : Type 0 where
  pub faults : so_far ≡ worst (map fault all)
  pub items : found ≡ filter_map made all

pub so_far-ended : {X Y : Type 0} (fault : X → Option Unexpanded) (made : X → Option Y) (all rest : List X) (so_far : Option Unexpanded) (found : List Y) → rest ≡ [] → IsSoFar fault made all rest so_far found
    → AreFound fault made all so_far found
so_far-ended {X} {Y} fault made all rest so_far found e g = record {
  faults = sym (worse-none so_far) ∙ ap (λ (xs : List X). worse so_far (worst (map fault xs))) (sym e) ∙ g.faults;
  items = sym (append-nil found) ∙ ap (λ (xs : List X). found ++ filter_map made xs) (sym e) ∙ g.items;
}

-- if nothing is against the items, each gives what it says
pub all_given : {X Y : Type 0} (fault : X → Option Unexpanded) (made : X → Option Y) (said : X → Y) → ((x : X) → fault x ≡ None → made x ≡ Some (said x)) → (all : List X) → worst (map fault all) ≡ None
    → filter_map made all ≡ map said all
all_given fault made said each [] e = refl
all_given {X} {Y} fault made said each (x ∷ all) e =
    ap₂ (λ (y : Option Y) (ys : List Y). cons_option y ys) (each x (worse_none-left (fault x) (worst (map fault all)) e))
    (all_given fault made said each all (worse_none-right (fault x) (worst (map fault all)) e))

-- the lines

-- what is against a label
abbrev pub labelled_fault : Values → Label → Option Unexpanded
labelled_fault before label = worse (unexpanded before label.key) (unexpanded before label.value)

label_given : (before : Values) (key value_word : Parts) → worse (unexpanded before key) (unexpanded before value_word) ≡ None
    → row_with (valued before key) (valued before value_word) ≡ Some (value before key, value before value_word)
label_given before key value_word e =
    ap₂ row_with (valued-is before key (worse_none-left (unexpanded before key) (unexpanded before value_word) e)) (valued-is before value_word (worse_none-right (unexpanded before key) (unexpanded before value_word) e))

pub labels_given : (before : Values) (labels : List Label) → label_fault before labels ≡ None → filter_map (labelled_row before) labels ≡ label_rows before labels
labels_given before labels e =
    all_given (labelled_fault before) (labelled_row before) (λ l. (value before l.key, value before l.value)) (λ l none. label_given before l.key l.value none) labels e

pub words_given : (before : Values) (words : List Parts) → words_fault before words ≡ None → values_of before words ≡ texts_of before words
words_given before words e = all_given (unexpanded before) (valued before) (value before) (valued-is before) words e

-- the loop along labels

-- one of these has an empty key
abbrev pub has_empty_key : Values → List Label → Bool
has_empty_key before labels = list_any (λ l. is_valued is_empty (valued before l.key)) labels

pub record IsLabelledSoFar (before : Values) (all rest : List Label) (line : Labelled) : Type 0 where
  pub items : IsSoFar (labelled_fault before) (labelled_row before) all rest line.fault line.rows
  pub keys : (line.has_empty_key || has_empty_key before rest) ≡ has_empty_key before all

pub labelled-begun : (before : Values) (all : List Label) (line : Labelled) → line.fault ≡ None → line.rows ≡ [] → line.has_empty_key ≡ false → IsLabelledSoFar before all all line
labelled-begun before all line f e k = record {
  items = so_far-begun (labelled_fault before) (labelled_row before) all line.fault line.rows f e;
  keys = ap (λ b. b || has_empty_key before all) k;
}

or_assoc : (a b c : Bool) → ((a || b) || c) ≡ (a || (b || c))
or_assoc true b c = refl
or_assoc false b c = refl

pub labelled-more : (before : Values) (all : List Label) (i : ℕ) (label : Label) (line new : Labelled) → i < length all → label ≡ get_or all i label → IsLabelled before line label new
    → IsLabelledSoFar before all (drop i all) line → IsLabelledSoFar before all (drop (i + 1) all) new
labelled-more before all i label line new lt is h g =
    let key : Bool = is_valued is_empty (valued before label.key) in
    let keys : has_empty_key before (drop i all) ≡ (is_valued is_empty (valued before label.key) || has_empty_key before (drop (i + 1) all)) =
    at_drop_more (has_empty_key before) all i label lt ∙ ap (λ (l : Label). is_valued is_empty (valued before l.key) || has_empty_key before (drop (i + 1) all)) (sym is) in
    record {
      items = so_far-more (labelled_fault before) (labelled_row before) all i label line.fault new.fault line.rows new.rows lt is
          (h.fault ∙ worse-assoc line.fault (unexpanded before label.key) (unexpanded before label.value)) h.rows g.items;
      keys = ap (λ b. b || has_empty_key before (drop (i + 1) all)) h.has_empty_key ∙ or_assoc line.has_empty_key key (has_empty_key before (drop (i + 1) all))
          ∙ ap (λ b. line.has_empty_key || b) (sym keys) ∙ g.keys;
    }

or_false : (b : Bool) → (b || false) ≡ b
or_false true = refl
or_false false = refl

pub record AreLabelled (before : Values) (all : List Label) (line : Labelled) : Type 0 where
  pub fault : line.fault ≡ label_fault before all
  pub rows : line.rows ≡ filter_map (labelled_row before) all
  pub keys : line.has_empty_key ≡ has_empty_key before all

pub labelled-done : (before : Values) (all : List Label) (i : ℕ) (line : Labelled) → length all ≤ i → IsLabelledSoFar before all (drop i all) line → AreLabelled before all line
labelled-done before all i line h g =
    let e : drop i all ≡ [] = at_drop_all (λ (labels : List Label). labels) all i h in
    let found : AreFound (labelled_fault before) (labelled_row before) all line.fault line.rows = so_far-ended (labelled_fault before) (labelled_row before) all (drop i all) line.fault line.rows e g.items in
    record {
      fault = found.faults;
      rows = found.items;
      keys = sym (or_false line.has_empty_key) ∙ ap (λ (labels : List Label). line.has_empty_key || has_empty_key before labels) (sym e) ∙ g.keys;
    }
