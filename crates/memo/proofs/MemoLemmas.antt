-- What is found in a memo is lawful, and what is added keeps it so.
use Rattle.std.proofs.Common.{◌≡◌, ◌<◌, inl, inr, ℕ, zero, suc, List, [], ◌∷◌, ◌++◌, length, Option, Some, None, Ok, Err, Result, IfNone, OnOk, OnErr, sym, subst, arith}
use Rattle.std.specs.Prelude.{IfSome, slice_index_or}
use Rattle.std.proofs.lemmas.List.Elements.{Contains-append_cases}
use Rattle.trees.specs.TreeMap.{TreeMap}
use Rattle.llb.specs.declared.op.Op.{Op}
use Rattle.plans.specs.Value.{Out}
use Rattle.memo.specs.declared.number.Age.{Age}
use Rattle.memo.specs.declared.number.Age.TheVariants.{Recent, Earlier}
use Rattle.memo.specs.Kept.{kept_tree, kept_trees}
use Rattle.memo.specs.Memo.{Entry, GenerationValue, MemoValue, entry_of, Has, IsLawful, AreLawful, Lacks, Holds}
use Rattle.memo.specs.Numbers.{generation_of}
use Rattle.memo.specs.PrivateGeneration.{AddsTo}

-- of no entries all are lawful
pub none-lawful : (out : Out) (entries : List Entry) → entries ≡ [] → AreLawful out entries
none-lawful out entries e = λ entry has.
    let none : has.0 < 0 = subst (λ (es : List Entry). has.0 < length es) e has.1 in
    absurd (omega (arith, none))

one_at : (entry other : Entry) (k : ℕ) → k < 1 → slice_index_or (entry ∷ []) k other ≡ other → other ≡ entry
one_at entry other zero l h = sym h
one_at entry other (suc k) l h = absurd (omega (arith, l))

pub one-more : (out : Out) (entries : List Entry) (entry : Entry) → AreLawful out entries → IsLawful out entry → AreLawful out (entries ++ entry ∷ [])
one-more out entries entry are is = λ other has. elim (Contains-append_cases entries (entry ∷ []) other has) [
  | inl h ↦ are other h
  | inr h ↦ subst (IsLawful out) (sym (one_at entry other h.0 h.1 h.2)) is
]

-- one more that is lawful, if it was added
pub added-lawful : {X Y : Type 0} (out : Out) (old new : GenerationValue) (entry : Entry) (result : Result X Y) → OnOk result (AddsTo old new entry) → OnErr result (new ≡ old) → AreLawful out old.entries → IsLawful out entry → AreLawful out new.entries
added-lawful out old new entry (Ok x) ok err are is = subst (AreLawful out) (sym ok.entries) (one-more out old.entries entry are is)
added-lawful out old new entry (Err y) ok err are is = subst (λ (g : GenerationValue). AreLawful out g.entries) (sym err) are

pub entered-lawful : {X Y : Type 0} (out : Out) (old new : GenerationValue) (entry : Entry) (trees : List TreeMap) (result : Result X Y) → OnOk result (new ≡ record { entries = old.entries ++ entry ∷ []; trees = trees }) → OnErr result (new ≡ old) → AreLawful out old.entries → IsLawful out entry → AreLawful out new.entries
entered-lawful out old new entry trees (Ok x) ok err are is = subst (λ (g : GenerationValue). AreLawful out g.entries) (sym ok) (one-more out old.entries entry are is)
entered-lawful out old new entry trees (Err y) ok err are is = subst (λ (g : GenerationValue). AreLawful out g.entries) (sym err) are

-- a tree more says nothing of entries
pub kept-lawful : {X Y : Type 0} (out : Out) (old new : GenerationValue) (trees : List TreeMap) (result : Result X Y) → OnOk result (new ≡ record { entries = old.entries; trees = trees }) → OnErr result (new ≡ old) → AreLawful out old.entries → AreLawful out new.entries
kept-lawful out old new trees (Ok x) ok err are = subst (λ (g : GenerationValue). AreLawful out g.entries) (sym ok) are
kept-lawful out old new trees (Err y) ok err are = subst (λ (g : GenerationValue). AreLawful out g.entries) (sym err) are

-- what a memo has is lawful
pub held-lawful : {E : Type 0} (out : Out) (memo : MemoValue E) (op : Op) (inputs : List TreeMap) (tree : TreeMap) → AreLawful out memo.recent.entries → AreLawful out memo.earlier.entries → Holds memo op inputs tree → IsLawful out (entry_of op inputs tree)
held-lawful out memo op inputs tree recent earlier (inl has) = recent (entry_of op inputs tree) has
held-lawful out memo op inputs tree recent earlier (inr has) = earlier (entry_of op inputs tree) has

-- what neither generation has the memo hasn't
pub lacks-both : {E Y : Type 0} (memo : MemoValue E) (op : Op) (inputs : List TreeMap) (found : Option Y) → Lacks memo.recent.entries op inputs → IfNone found (Lacks memo.earlier.entries op inputs) → IfNone found ((tree : TreeMap) → ¬ Holds memo op inputs tree)
lacks-both memo op inputs (Some y) recent earlier = earlier
lacks-both memo op inputs None recent earlier = λ tree has. elim has [ inl h ↦ recent tree h | inr h ↦ earlier tree h ]

-- the entries of each generation are lawful
age-lawful : {E : Type 0} (out : Out) (memo : MemoValue E) (age : Age) → AreLawful out memo.recent.entries → AreLawful out memo.earlier.entries → AreLawful out (generation_of memo age).entries
age-lawful out memo Recent recent earlier = recent
age-lawful out memo Earlier recent earlier = earlier

lawful_kept : (out : Out) (generation : GenerationValue) (op : Op) (inputs : List ℕ) (found : Option ℕ) → AreLawful out generation.entries → IfSome found (λ number. Has generation.entries op (kept_trees generation inputs) (kept_tree generation number)) → IfSome found (λ number. IsLawful out (entry_of op (kept_trees generation inputs) (kept_tree generation number)))
lawful_kept out generation op inputs None are is = is
lawful_kept out generation op inputs (Some number) are is = are (entry_of op (kept_trees generation inputs) (kept_tree generation number)) is

-- and so is what is found in one by numbers
pub kept-found-lawful : {E : Type 0} (out : Out) (memo : MemoValue E) (age : Age) (op : Op) (inputs : List ℕ) (found : Option ℕ) → AreLawful out memo.recent.entries → AreLawful out memo.earlier.entries → IfSome found (λ number. Has (generation_of memo age).entries op (kept_trees (generation_of memo age) inputs) (kept_tree (generation_of memo age) number)) → IfSome found (λ number. IsLawful out (entry_of op (kept_trees (generation_of memo age) inputs) (kept_tree (generation_of memo age) number)))
kept-found-lawful out memo age op inputs found recent earlier is =
    lawful_kept out (generation_of memo age) op inputs found (age-lawful out memo age recent earlier) is
