-- Each input of an operation is the digest of an operation before it: the places of vertices are digests of operations that are there. Something
-- is said of each operation, and of nothing else.
use Rattle.std.specs.Prelude.{◌≡◌, ℕ, zero, suc, Bool, true, false, cond, Option, Some, None, Result, Ok, Err, List, [], ◌∷◌, ◌++◌, map, length, is_some, is_ok, IsSome, bytes_eq, slice_index_or, ◌==◌}
use Rattle.std.proofs.Common.{sym, ap, refl, ◌∙◌, subst, true≢false, append_assoc}
use Rattle.std.specs.List.{AllByRecursion}
use Rattle.std.specs.Ordering.{is_eq, match_ordering}
use Rattle.std.specs.declared.cmp.Ordering.{Ordering}
use Rattle.std.specs.declared.cmp.Ordering.TheVariants.{Less, Equal, Greater}
use Rattle.std.specs.Map.{lookup, keys_of}
use Rattle.std.specs.BTreeMap.{is_at, insert_entry}
use Rattle.std.specs.Result.{result_unwrap_or}
use Rattle.std.specs.Cmp.Lexicographic.{texts_ties}
use Rattle.paths.specs.Order.{name_cmp}
use Rattle.paths.proofs.FrontLaws.{name_itself}
use Rattle.llb.specs.declared.op.Source.{Source}
use Rattle.llb.specs.declared.op.Source.TheVariants.{Scratch, Context, Image}
use Rattle.llb.specs.declared.op.Op.{Op as Work}
use Rattle.llb.specs.declared.op.Op.TheVariants.{Source as SourceWork, Exec as ExecWork, Copy as CopyWork, MakeDirs as MakeDirsWork, Merge as MergeWork}
use Rattle.llb.specs.declared.vertex.Vertex.{Vertex}
use Rattle.llb.specs.Graph.{GraphValue}
use Rattle.llb.specs.Places.{least_line}
use Rattle.llbmessages.specs.declared.op.OpKind.{OpKind}
use Rattle.llbmessages.specs.declared.op.Platform.{Platform}
use Rattle.llbmessages.specs.declared.definition.OpMetadata.{OpMetadata}
use Rattle.llbmessages.specs.declared.definition.Definition.{Definition}
use Rattle.llbmessages.specs.Op.{op_bytes}
use Rattle.exported.specs.declared.making.Options.{Options}
use Rattle.exported.specs.declared.making.Made.{Made}
use Rattle.exported.specs.declared.making.Made.TheVariants.{Same, By}
use Rattle.exported.specs.declared.fault.Obstacle.{Obstacle}
use Rattle.exported.specs.declared.fault.Obstacle.TheVariants.{Unspeakable, Clash}
use Rattle.exported.specs.Places.{digest_of, number_of, with_once, inputs_after, inputs_of}
use Rattle.exported.specs.Operations.{input_at, op_on, end_op}
use Rattle.exported.specs.Merges.{trees_after, trees_at}
use Rattle.exported.specs.declared.making.Merging.{Merging}
use Rattle.exported.specs.declared.making.Merging.TheVariants.{Native, Chain}
use Rattle.exported.specs.Making.{places_at, source_made, laid, merged, made_on, vertex_made}
use Rattle.exported.specs.Metadata.{vertex_name, metadata_of, end_metadata}
use Rattle.exported.specs.Exporting.{and_then, is_speakable, op_at, with_last, with_found, with_op, placed, vertex_placed, all_placed, nothing, root_op, ended_at, ended, exported}
use Rattle.exported.specs.Order.{IsOn, AreInOrder, AreApart, AreApartToTheEnd, IsSaid}

-- ---- what an operation is made of

module _ (P : List ℕ → Type 0) where
  -- a place whose digest has P, if it has one
  abbrev AtPlace : Option (List ℕ) → Type 0
  AtPlace None = Unit {0}
  AtPlace (Some digest) = P digest

  abbrev IsMade : Made → Type 0
  IsMade (Same place) = AtPlace place
  IsMade (By op) = AllByRecursion (λ input. P input.digest) op.inputs

  place_at : (known : List (Option (List ℕ))) (id : ℕ) → AllByRecursion AtPlace known → AtPlace (slice_index_or known id None)
  place_at [] id all = tt
  place_at (place ∷ known) zero all = all.0
  place_at (place ∷ known) (suc id) all = place_at known id all.1

  all_at : (known : List (Option (List ℕ))) (ids : List ℕ) → AllByRecursion AtPlace known → AllByRecursion AtPlace (places_at known ids)
  all_at known [] all = tt
  all_at known (id ∷ ids) all = (place_at known id all, all_at known ids all)

  all_last : (digests : List (List ℕ)) (digest : List ℕ) → AllByRecursion P digests → P digest → AllByRecursion P (digests ++ digest ∷ [])
  all_last [] digest all one = (one, tt)
  all_last (first ∷ digests) digest all one = (all.0, all_last digests digest all.1 one)

  once_more : (b : Bool) (digests : List (List ℕ)) (digest : List ℕ) → AllByRecursion P digests → P digest → AllByRecursion P (cond b (digests ++ digest ∷ []) digests)
  once_more true digests digest all one = all_last digests digest all one
  once_more false digests digest all one = all

  all_inputs : (digests : List (List ℕ)) (places : List (Option (List ℕ))) → AllByRecursion P digests → AllByRecursion AtPlace places → AllByRecursion P (inputs_after digests places)
  all_inputs digests [] all at = all
  all_inputs digests (None ∷ places) all at = all_inputs digests places all at.1
  all_inputs digests (Some digest ∷ places) all at =
      all_inputs (with_once digests digest) places (once_more (number_of digests digest == length digests) digests digest all at.0) at.1

  all_trees : (digests : List (List ℕ)) (places : List (Option (List ℕ))) → AllByRecursion P digests → AllByRecursion AtPlace places → AllByRecursion P (trees_after digests places)
  all_trees digests [] all at = all
  all_trees digests (None ∷ places) all at = all_trees digests places all at.1
  all_trees digests (Some digest ∷ places) all at = all_trees (digests ++ digest ∷ []) places (all_last digests digest all at.0) at.1

  all_mapped : (digests : List (List ℕ)) → AllByRecursion P digests → AllByRecursion (λ input. P input.digest) (map input_at digests)
  all_mapped [] all = tt
  all_mapped (digest ∷ digests) all = (all.0, all_mapped digests all.1)

  on_all : (platform : Option Platform) (digests : List (List ℕ)) (kind : OpKind) → AllByRecursion P digests → AllByRecursion (λ input. P input.digest) (op_on platform digests kind).inputs
  unfolding op_on
  on_all platform digests kind all = all_mapped digests all

  laid_all : (merging : Merging) (platform : Platform) (digests : List (List ℕ)) → AllByRecursion P digests → IsMade (By (laid merging platform digests))
  laid_all Native platform digests all = on_all _ digests _ all
  laid_all Chain platform digests all = on_all _ digests _ all

  merged_all : (options : Options) (digests : List (List ℕ)) → AllByRecursion P digests → IsMade (merged options digests)
  merged_all options [] all = tt
  merged_all options (digest ∷ []) all = all.0
  merged_all options (first ∷ second ∷ digests) all = laid_all options.merging options.platform (first ∷ second ∷ digests) all

  source_all : (options : Options) (source : Source) → IsMade (source_made options source)
  source_all options Scratch = tt
  source_all options Context = on_all _ [] _ tt
  source_all options (Image name) = on_all _ [] _ tt

  made_all : (options : Options) (places : List (Option (List ℕ))) (work : Work) → AllByRecursion AtPlace places → IsMade (made_on options places work)
  made_all options places (SourceWork source) at = source_all options source
  made_all options places (ExecWork exec) at = on_all _ (inputs_of places) _ (all_inputs [] places tt at)
  made_all options places (CopyWork files) at = on_all _ (inputs_of places) _ (all_inputs [] places tt at)
  made_all options places (MakeDirsWork []) at = place_at places 0 at
  made_all options places (MakeDirsWork (name ∷ names)) at = on_all _ (inputs_of places) _ (all_inputs [] places tt at)
  made_all options places MergeWork at = merged_all options (trees_at places) (all_trees [] places tt at)

  pub vertex_all : (options : Options) (known : List (Option (List ℕ))) (vertex : Vertex) → AllByRecursion AtPlace known → IsMade (vertex_made options known vertex)
  unfolding vertex_made
  vertex_all options known vertex at = made_all options (places_at known vertex.inputs) vertex.op (all_at known vertex.inputs at)

-- ---- operations that are there

abbrev IsThere : List (List ℕ) → List ℕ → Type 0
IsThere ops digest = IsSome (op_at ops digest)

abbrev AreThere : List (List ℕ) → List (Option (List ℕ)) → Type 0
AreThere ops places = AllByRecursion (AtPlace (IsThere ops)) places

there_more : (ops : List (List ℕ)) (bytes digest : List ℕ) → IsThere ops digest → IsThere (ops ++ bytes ∷ []) digest
there_more [] bytes digest there = absurd (true≢false (sym there))
there_more (op ∷ ops) bytes digest there = by (bytes_eq (digest_of op) digest) there (there_more ops bytes digest)
  where
    by : (b : Bool) → is_some (cond b (Some op) (op_at ops digest)) ≡ true → (IsThere ops digest → IsThere (ops ++ bytes ∷ []) digest) → is_some (cond b (Some op) (op_at (ops ++ bytes ∷ []) digest)) ≡ true
    by true there more = refl
    by false there more = more there

there_last : (ops : List (List ℕ)) (bytes : List ℕ) → IsThere (ops ++ bytes ∷ []) (digest_of bytes)
there_last [] bytes = ap (λ b. is_some (cond b (Some bytes) None)) (texts_ties (digest_of bytes) (digest_of bytes) ∙ name_itself (digest_of bytes))
there_last (op ∷ ops) bytes = by (bytes_eq (digest_of op) (digest_of bytes)) (there_last ops bytes)
  where
    by : (b : Bool) → IsThere (ops ++ bytes ∷ []) (digest_of bytes) → is_some (cond b (Some op) (op_at (ops ++ bytes ∷ []) (digest_of bytes))) ≡ true
    by true there = refl
    by false there = there

place_more : (ops : List (List ℕ)) (bytes : List ℕ) (place : Option (List ℕ)) → AtPlace (IsThere ops) place → AtPlace (IsThere (ops ++ bytes ∷ [])) place
place_more ops bytes None at = tt
place_more ops bytes (Some digest) at = there_more ops bytes digest at

places_more : (ops : List (List ℕ)) (bytes : List ℕ) (places : List (Option (List ℕ))) → AreThere ops places → AreThere (ops ++ bytes ∷ []) places
places_more ops bytes [] at = tt
places_more ops bytes (place ∷ places) at = (place_more ops bytes place at.0, places_more ops bytes places at.1)

places_last : (ops : List (List ℕ)) (places : List (Option (List ℕ))) (place : Option (List ℕ)) → AreThere ops places → AtPlace (IsThere ops) place → AreThere ops (places ++ place ∷ [])
places_last ops [] place at one = (one, tt)
places_last ops (first ∷ places) place at one = (at.0, places_last ops places place at.1 one)

append-none : (xs : List (List ℕ)) → xs ++ [] ≡ xs
append-none [] = refl
append-none (x ∷ xs) = ap (λ rest. x ∷ rest) (append-none xs)

order_last : (before ops : List (List ℕ)) (bytes : List ℕ) → AreInOrder before ops → IsOn (before ++ ops) bytes → AreInOrder before (ops ++ bytes ∷ [])
order_last before [] bytes order on = (subst (λ (known : List (List ℕ)). IsOn known bytes) (append-none before) on, tt)
order_last before (op ∷ ops) bytes order on =
    (order.0, order_last (before ++ op ∷ []) ops bytes order.1 (subst (λ (known : List (List ℕ)). IsOn known bytes) (sym (append_assoc before (op ∷ []) ops)) on))

apart_last : (before ops : List (List ℕ)) (bytes : List ℕ) → AreApart before ops → op_at (before ++ ops) (digest_of bytes) ≡ None → AreApart before (ops ++ bytes ∷ [])
apart_last before [] bytes apart fresh = (ap (λ known. op_at known (digest_of bytes)) (sym (append-none before)) ∙ fresh, tt)
apart_last before (op ∷ ops) bytes apart fresh =
    (apart.0, apart_last (before ++ op ∷ []) ops bytes apart.1 (ap (λ known. op_at known (digest_of bytes)) (append_assoc before (op ∷ []) ops) ∙ fresh))

-- ---- what is said

some_later : {A : Type 0} (b : Bool) (x : A) (o : Option A) → is_some o ≡ true → is_some (cond b (Some x) o) ≡ true
some_later true x o there = refl
some_later false x o there = there

some_other : {A : Type 0} (b : Bool) (x y : A) (o : Option A) → is_some (cond b (Some x) o) ≡ true → is_some (cond b (Some y) o) ≡ true
some_other true x y o there = refl
some_other false x y o there = there

some_rest : {A : Type 0} (b : Bool) (x : A) (o p : Option A) → is_some (cond b (Some x) o) ≡ true → (is_some o ≡ true → is_some p ≡ true) → is_some (cond b (Some x) p) ≡ true
some_rest true x o p there more = refl
some_rest false x o p there more = more there

abbrev HasSaid : List (List ℕ × OpMetadata) → List ℕ → Type 0
HasSaid entries digest = IsSome (lookup (is_at (name_cmp digest)) entries)

said_kept : (entries : List (List ℕ × OpMetadata)) (key : List ℕ) (said : OpMetadata) (digest : List ℕ) → HasSaid entries digest → HasSaid (insert_entry name_cmp entries key said) digest
said_kept [] key said digest there = absurd (true≢false (sym there))
said_kept (entry ∷ entries) key said digest there = by (name_cmp key entry.0) (said_kept entries key said digest)
  where
    by : (r : Ordering) → (HasSaid entries digest → HasSaid (insert_entry name_cmp entries key said) digest)
        → HasSaid (match_ordering r ((key, said) ∷ entry ∷ entries) ((entry.0, said) ∷ entries) (entry ∷ insert_entry name_cmp entries key said)) digest
    by Less more = some_later (is_at (name_cmp digest) key) said _ there
    by Equal more = some_other (is_at (name_cmp digest) entry.0) entry.1 said _ there
    by Greater more = some_rest (is_at (name_cmp digest) entry.0) entry.1 _ _ there more

said_put : (entries : List (List ℕ × OpMetadata)) (key : List ℕ) (said : OpMetadata) → HasSaid (insert_entry name_cmp entries key said) key
said_put [] key said = ap (λ b. is_some (cond b (Some said) None)) (name_itself key)
said_put (entry ∷ entries) key said = by (name_cmp key entry.0) refl (said_put entries key said)
  where
    by : (r : Ordering) → name_cmp key entry.0 ≡ r → HasSaid (insert_entry name_cmp entries key said) key
        → HasSaid (match_ordering r ((key, said) ∷ entry ∷ entries) ((entry.0, said) ∷ entries) (entry ∷ insert_entry name_cmp entries key said)) key
    by Less is more = ap (λ b. is_some (cond b (Some said) (lookup (is_at (name_cmp key)) (entry ∷ entries)))) (name_itself key)
    by Equal is more = ap (λ r. is_some (cond (is_eq r) (Some said) (lookup (is_at (name_cmp key)) entries))) is
    by Greater is more = some_later (is_at (name_cmp key) entry.0) entry.1 _ more

module _ (P : List ℕ → Type 0) where
  keys_put : (entries : List (List ℕ × OpMetadata)) (key : List ℕ) (said : OpMetadata) → AllByRecursion P (keys_of entries) → P key → AllByRecursion P (keys_of (insert_entry name_cmp entries key said))
  keys_put [] key said all one = (one, tt)
  keys_put (entry ∷ entries) key said all one = by (name_cmp key entry.0) (keys_put entries key said all.1 one)
    where
      by : (r : Ordering) → AllByRecursion P (keys_of (insert_entry name_cmp entries key said))
          → AllByRecursion P (keys_of (match_ordering r ((key, said) ∷ entry ∷ entries) ((entry.0, said) ∷ entries) (entry ∷ insert_entry name_cmp entries key said)))
      by Less more = (one, all)
      by Equal more = all
      by Greater more = (all.0, more)

  keys_more : (Q : List ℕ → Type 0) (keys : List (List ℕ)) → ((key : List ℕ) → P key → Q key) → AllByRecursion P keys → AllByRecursion Q keys
  keys_more Q [] more all = tt
  keys_more Q (key ∷ keys) more all = (more key all.0, keys_more Q keys more all.1)

-- what is said of operations and one more
said_more : (draft : Definition) (bytes : List ℕ) (said : OpMetadata) → IsSaid draft → IsSaid (with_last draft bytes said)
said_more draft bytes said are = record {
  each = all_last (λ op. HasSaid (insert_entry name_cmp draft.metadata (digest_of bytes) said) (digest_of op)) draft.ops bytes
      (keys_more (λ op. HasSaid draft.metadata (digest_of op)) (λ op. HasSaid (insert_entry name_cmp draft.metadata (digest_of bytes) said) (digest_of op)) draft.ops
      (λ op. said_kept draft.metadata (digest_of bytes) said (digest_of op)) are.each)
      (said_put draft.metadata (digest_of bytes) said);
  only = keys_put (IsThere (draft.ops ++ bytes ∷ [])) draft.metadata (digest_of bytes) said
      (keys_more (IsThere draft.ops) (IsThere (draft.ops ++ bytes ∷ [])) (keys_of draft.metadata) (there_more draft.ops bytes) are.only)
      (there_last draft.ops bytes);
}

-- ---- a walk over vertices

-- what is there after some vertices
record IsSound (places : List (Option (List ℕ))) (draft : Definition) : Type 0 where
  there : AreThere draft.ops places
  order : AreInOrder [] draft.ops
  apart : AreApart [] draft.ops
  said : IsSaid draft

-- one operation more
record IsMore (places : List (Option (List ℕ))) (draft : Definition) (bytes : List ℕ) : Type 0 where
  sound : IsSound places draft
  added : IsThere draft.ops (digest_of bytes)

same_ok : {A : Type 0} (x y : A) → ◌≡◌ {A = Result A Obstacle} (Ok x) (Ok y) → x ≡ y
same_ok x y e = ap (λ r. result_unwrap_or r x) e

err_ok : {A : Type 0} {B : Type 0} (o : Obstacle) (y : A) → ◌≡◌ {A = Result A Obstacle} (Err o) (Ok y) → B
err_ok o y e = absurd (true≢false (sym (ap is_ok e)))

found_more : (number : ℕ) (places : List (Option (List ℕ))) (draft : Definition) (bytes : List ℕ) (said : OpMetadata) (more : Definition) (found : Option (List ℕ)) → op_at draft.ops (digest_of bytes) ≡ found → IsSound places draft
    → IsOn draft.ops bytes → with_found number draft bytes said found ≡ Ok more → IsMore places more bytes
found_more number places draft bytes said more None is sound on told =
    subst (λ (new : Definition). IsMore places new bytes) (same_ok _ _ told)
    (record {
      sound = record {
        there = places_more draft.ops bytes places sound.there;
        order = order_last [] draft.ops bytes sound.order on;
        apart = apart_last [] draft.ops bytes sound.apart is;
        said = said_more draft bytes said sound.said;
      };
      added = there_last draft.ops bytes;
    })
found_more number places draft bytes said more (Some other) is sound on told = by (bytes_eq other bytes) told
  where
    by : (b : Bool) → cond b (Ok draft) (Err (Clash number)) ≡ Ok more → IsMore places more bytes
    by true told = subst (λ (new : Definition). IsMore places new bytes) (same_ok _ _ told) (record { sound = sound; added = ap is_some is })
    by false told = err_ok _ _ told

with_more : (number : ℕ) (places : List (Option (List ℕ))) (draft : Definition) (bytes : List ℕ) (said : OpMetadata) (more : Definition) → IsSound places draft → IsOn draft.ops bytes → with_op number draft bytes said ≡ Ok more
    → IsMore places more bytes
with_more number places draft bytes said more sound on told = found_more number places draft bytes said more (op_at draft.ops (digest_of bytes)) refl sound on told

placed_more : (number : ℕ) (places : List (Option (List ℕ))) (draft : Definition) (name : Option (List ℕ)) (made : Made) (next : Option (List ℕ) × Definition) → IsSound places draft → IsMade (IsThere draft.ops) made
    → placed number draft name made ≡ Ok next → IsSound (places ++ next.0 ∷ []) next.1
placed_more number places draft name (Same place) next sound made told =
    subst (λ (n : Option (List ℕ) × Definition). IsSound (places ++ n.0 ∷ []) n.1) (same_ok _ _ told)
    (record { there = places_last draft.ops places place sound.there made; order = sound.order; apart = sound.apart; said = sound.said })
placed_more number places draft name (By op) next sound made told = by (with_op number draft (op_bytes op) (metadata_of name op)) refl told
  where
    by : (o : Result Definition Obstacle) → with_op number draft (op_bytes op) (metadata_of name op) ≡ o → and_then o (λ more. Ok (Some (digest_of (op_bytes op)), more)) ≡ Ok next
        → IsSound (places ++ next.0 ∷ []) next.1
    by (Ok more) is told =
        let grown : IsMore places more (op_bytes op) = with_more number places draft (op_bytes op) (metadata_of name op) more sound (op, (refl, made)) is in
        subst (λ (n : Option (List ℕ) × Definition). IsSound (places ++ n.0 ∷ []) n.1) (same_ok _ _ told)
        (record { there = places_last more.ops places (Some (digest_of (op_bytes op))) grown.sound.there grown.added; order = grown.sound.order; apart = grown.sound.apart; said = grown.sound.said })
    by (Err obstacle) is told = err_ok _ _ told

vertex_more : (options : Options) (names : List (Option (List ℕ))) (line : ℕ) (places : List (Option (List ℕ))) (draft : Definition) (vertex : Vertex) (next : Option (List ℕ) × Definition) → IsSound places draft
    → vertex_placed options names line places draft vertex ≡ Ok next → IsSound (places ++ next.0 ∷ []) next.1
unfolding vertex_placed
vertex_more options names line places draft vertex next sound told = by (is_speakable options vertex.op) told
  where
    by : (b : Bool) → cond b (placed (length places) draft (vertex_name names line vertex.op) (vertex_made options places vertex)) (Err (Unspeakable (length places))) ≡ Ok next → IsSound (places ++ next.0 ∷ []) next.1
    by true told =
        placed_more (length places) places draft (vertex_name names line vertex.op) (vertex_made options places vertex) next sound (vertex_all (IsThere draft.ops) options places vertex sound.there) told
    by false told = err_ok _ _ told

all_more : (options : Options) (names : List (Option (List ℕ))) (lines : List (List ℕ)) (places : List (Option (List ℕ))) (draft : Definition) (vertices : List Vertex) (known : List (Option (List ℕ)) × Definition) → IsSound places draft
    → all_placed options names lines places draft vertices ≡ Ok known → IsSound known.0 known.1
all_more options names lines places draft [] known sound told =
    subst (λ (k : List (Option (List ℕ)) × Definition). IsSound k.0 k.1) (same_ok _ _ told) sound
all_more options names lines places draft (vertex ∷ vertices) known sound told =
    by (vertex_placed options names line places draft vertex) refl told
    (λ (next : Option (List ℕ) × Definition). all_more options names lines (places ++ next.0 ∷ []) next.1 vertices known)
  where
    line : ℕ
    line = least_line (slice_index_or lines (length places) [])

    by : (o : Result (Option (List ℕ) × Definition) Obstacle) → vertex_placed options names line places draft vertex ≡ o
        → and_then o (λ next. all_placed options names lines (places ++ next.0 ∷ []) next.1 vertices) ≡ Ok known
        → ((next : Option (List ℕ) × Definition) → IsSound (places ++ next.0 ∷ []) next.1 → all_placed options names lines (places ++ next.0 ∷ []) next.1 vertices ≡ Ok known → IsSound known.0 known.1)
        → IsSound known.0 known.1
    by (Ok next) is told rest = rest next (vertex_more options names line places draft vertex next sound is) told
    by (Err obstacle) is told rest = err_ok _ _ told

end_inputs : (ops : List (List ℕ)) (digest : List ℕ) → IsThere ops digest → AllByRecursion (λ input. IsThere ops input.digest) (end_op digest).inputs
unfolding end_op
end_inputs ops digest there = (there, tt)

end_on : (ops : List (List ℕ)) (digest : List ℕ) → IsThere ops digest → IsOn ops (op_bytes (end_op digest))
end_on ops digest there = (end_op digest, (refl, end_inputs ops digest there))

root_inputs : (options : Options) (ops : List (List ℕ)) → AllByRecursion (λ input. IsThere ops input.digest) (root_op options).inputs
unfolding root_op
root_inputs options ops = on_all (IsThere ops) _ [] _ tt

root_on : (options : Options) (ops : List (List ℕ)) → IsOn ops (op_bytes (root_op options))
root_on options ops = (root_op options, (refl, root_inputs options ops))

-- what a whole definition is
record IsEnded (definition : Definition) : Type 0 where
  order : AreInOrder [] definition.ops
  apart : AreApartToTheEnd definition
  said : IsSaid definition

ended_sound : (places : List (Option (List ℕ))) (draft : Definition) (digest : List ℕ) → IsSound places draft → IsThere draft.ops digest → IsEnded (ended_at draft digest)
unfolding ended_at
ended_sound places draft digest sound there = record {
  order = order_last [] draft.ops (op_bytes (end_op digest)) sound.order (end_on draft.ops digest there);
  apart = (draft.ops, (digest, (refl, sound.apart)));
  said = said_more draft (op_bytes (end_op digest)) (end_metadata draft.metadata) sound.said;
}

end_sound : (options : Options) (number : ℕ) (places : List (Option (List ℕ))) (draft : Definition) (place : Option (List ℕ)) (definition : Definition) → IsSound places draft → AtPlace (IsThere draft.ops) place
    → ended options number draft place ≡ Ok definition → IsEnded definition
end_sound options number places draft (Some digest) definition sound at told =
    subst IsEnded (same_ok _ _ told) (ended_sound places draft digest sound at)
end_sound options number places draft None definition sound at told = by (with_op number draft (op_bytes (root_op options)) (metadata_of None (root_op options))) refl told
  where
    by : (o : Result Definition Obstacle) → with_op number draft (op_bytes (root_op options)) (metadata_of None (root_op options)) ≡ o
        → and_then o (λ more. Ok (ended_at more (digest_of (op_bytes (root_op options))))) ≡ Ok definition → IsEnded definition
    by (Ok more) is told =
        let grown : IsMore places more (op_bytes (root_op options)) = with_more number places draft (op_bytes (root_op options)) (metadata_of None (root_op options)) more sound (root_on options draft.ops) is in
        subst IsEnded (same_ok _ _ told) (ended_sound places more (digest_of (op_bytes (root_op options))) grown.sound grown.added)
    by (Err obstacle) is told = err_ok _ _ told

none_sound : IsSound [] nothing
none_sound = record { there = tt; order = tt; apart = tt; said = record { each = tt; only = tt } }

whole_sound : (options : Options) (names : List (Option (List ℕ))) (graph : GraphValue) (wanted : ℕ) (definition : Definition) → exported options names graph wanted ≡ Ok definition → IsEnded definition
whole_sound options names graph wanted definition told = by (all_placed options names graph.places [] nothing graph.vertices) refl told
  where
    by : (o : Result (List (Option (List ℕ)) × Definition) Obstacle) → all_placed options names graph.places [] nothing graph.vertices ≡ o
        → and_then o (λ known. ended options (length graph.vertices) known.1 (slice_index_or known.0 wanted None)) ≡ Ok definition → IsEnded definition
    by (Ok known) is told =
        let sound : IsSound known.0 known.1 = all_more options names graph.places [] nothing graph.vertices known none_sound is in
        end_sound options (length graph.vertices) known.0 known.1 (slice_index_or known.0 wanted None) definition sound (place_at (IsThere known.1.ops) known.0 wanted sound.there) told
    by (Err obstacle) is told = err_ok _ _ told

pub inputs_before : (options : Options) (names : List (Option (List ℕ))) (graph : GraphValue) (wanted : ℕ) (definition : Definition) → exported options names graph wanted ≡ Ok definition → AreInOrder [] definition.ops
inputs_before options names graph wanted definition told = (whole_sound options names graph wanted definition told).order

pub digests_apart : (options : Options) (names : List (Option (List ℕ))) (graph : GraphValue) (wanted : ℕ) (definition : Definition) → exported options names graph wanted ≡ Ok definition → AreApartToTheEnd definition
digests_apart options names graph wanted definition told = (whole_sound options names graph wanted definition told).apart

pub each_said : (options : Options) (names : List (Option (List ℕ))) (graph : GraphValue) (wanted : ℕ) (definition : Definition) → exported options names graph wanted ≡ Ok definition → IsSaid definition
each_said options names graph wanted definition told = (whole_sound options names graph wanted definition told).said
