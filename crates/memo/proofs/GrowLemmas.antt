-- A memo grows by what is added.
use Rattle.std.proofs.Common.{◌≡◌, ◌∙◌, ◌++◌, [], ◌∷◌, Ok, Err, Result, OnOk, OnErr, refl, sym, ap, subst}
use Rattle.std.proofs.lemmas.List.{append-nil, append_assoc}
use Rattle.memo.specs.Memo.{Entry, MemoValue, Adds, Grows}

pub grows-same : {E : Type 0} (memo : MemoValue E) → Grows memo memo
grows-same memo = record {
  executor = refl;
  as_long = refl;
  entries = [];
  more_entries = sym (append-nil memo.recent.entries);
  trees = [];
  more_trees = sym (append-nil memo.recent.trees);
  earlier = refl;
}

pub grows-on : {E : Type 0} (first second third : MemoValue E) → Grows first second → Grows second third → Grows first third
grows-on first second third this that = record {
  executor = that.executor ∙ this.executor;
  as_long = that.as_long ∙ this.as_long;
  entries = this.entries ++ that.entries;
  more_entries = that.more_entries ∙ (ap (λ entries. entries ++ that.entries) this.more_entries ∙ append_assoc first.recent.entries this.entries that.entries);
  trees = this.trees ++ that.trees;
  more_trees = that.more_trees ∙ (ap (λ trees. trees ++ that.trees) this.more_trees ∙ append_assoc first.recent.trees this.trees that.trees);
  earlier = that.earlier ∙ this.earlier;
}

pub adds-grows : {E : Type 0} (old new : MemoValue E) (entry : Entry) → Adds old new entry → Grows old new
adds-grows old new entry adds = record {
  executor = adds.executor;
  as_long = adds.as_long;
  entries = entry ∷ [];
  more_entries = adds.more_entries;
  trees = adds.trees;
  more_trees = adds.more_trees;
  earlier = adds.earlier;
}

-- what an add left
pub added-grows : {E X Y : Type 0} (old new : MemoValue E) (entry : Entry) (result : Result X Y) → OnOk result (Adds old new entry) → OnErr result (new ≡ old) → Grows old new
added-grows old new entry (Ok x) ok err = adds-grows old new entry ok
added-grows old new entry (Err y) ok err = subst (Grows old) (sym err) (grows-same old)
