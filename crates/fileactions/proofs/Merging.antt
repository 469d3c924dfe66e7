-- A chain of copies of whole trees: where it gives a tree, that is the merge of the trees, but for the root's mode and owner.
use Rattle.std.specs.Prelude.{◌≡◌, ◌==◌, ℕ, zero, suc, ◌+◌, ◌-◌, pos, negsuc, true, false, cond, Option, Some, None, List, [], ◌∷◌, ◌++◌, is_some, map, length, drop, slice_get, Bool}
use Rattle.std.proofs.Common.{sym, ap, refl, ◌∙◌, subst, true≢false, arith, append-nil, append_assoc}
use Rattle.std.proofs.lemmas.Bool.Decides.{nat_tests}
use Rattle.std.proofs.lemmas.Option.{same_Some}
use Rattle.std.proofs.lemmas.List.{length-append, length-map}
use Rattle.std.specs.List.{AllByRecursion, fold}
use Rattle.std.specs.Option.{option_and_then}
use Rattle.std.specs.FinMap.{get, entries}
use Rattle.trees.specs.declared.meta.Meta.{Meta}
use Rattle.trees.specs.declared.entry.Entry.{Entry}
use Rattle.trees.specs.declared.entry.Entry.TheVariants.{Directory, File}
use Rattle.trees.specs.declared.cause.Cause.TheVariants.{F2}
use Rattle.trees.specs.TreeMap.{TreeMap, IsTree, is_directory, is_file}
use Rattle.trees.specs.Over.{over, merged}
use Rattle.trees.specs.Subtree.{map_below}
use Rattle.trees.proofs.CopyLaws.{with_directory-kept}
use Rattle.trees.proofs.TreeLaws.{merged-IsTree}
use Rattle.llbmessages.specs.declared.file.FileAction.{FileAction}
use Rattle.exported.specs.Chains.{whole_copy, chain_input, chain_output, chain_action, chain_actions, chain_of}
use Rattle.fileactions.specs.Copying.{folder_meta, with_folder, with_entries, with_found, with_path, with_paths}
use Rattle.fileactions.specs.Copies.{Finder, copied_by, is_modelled}
use Rattle.fileactions.specs.Claims.{AreAlike}
use Rattle.fileactions.specs.Actions.{tree_at, action_by, actions_by, is_output, output_number, operation_by, is_last_output}
use Rattle.fileactions.proofs.Steps.{folder-made}
use Rattle.fileactions.proofs.Texts.{path_of-text}
use Rattle.fileactions.proofs.Trees.{next-tree}
use Rattle.fileactions.proofs.Layers.{keeping, and-then-some, alike-tree, copied-alike, root-stays, root-same}

-- ---- one copy

root-there : (meta : Meta) (tree : TreeMap) → IsTree tree → with_folder meta [] tree ≡ Some tree
root-there meta tree is =
    folder-made meta tree [] (ap (λ b. cond b (Some F2) None) (no-file (get tree []) is.root)) ∙ ap Some (with_directory-kept meta tree [] is is.root)
  where
    no-file : (o : Option Entry) → is_directory o ≡ true → is_file o ≡ false
    no-file None d = refl
    no-file (Some (Directory m)) d = refl
    no-file (Some (File m b)) d = absurd (true≢false (sym d))

-- what is under a condition was given, so the condition holds
guarded : (b : Bool) (o : Option TreeMap) (new : TreeMap) → cond b o None ≡ Some new → o ≡ Some new
guarded true o new e = e
guarded false o new e = absurd (true≢false (sym (ap is_some e)))

-- what the copy of a whole tree does
whole-copied : (finder : Finder) (from tree new : TreeMap) → IsTree from → IsTree tree → copied_by finder whole_copy from tree ≡ Some new
    → with_entries keeping [] (drop 1 (entries (map_below from []))) tree ≡ Some new
unfolding copied_by whole_copy
whole-copied finder from tree new from_is is copied =
    by (get from []) refl from_is.root (and-then-some (with_paths true keeping from [] []) (with_path true keeping from [] [] tree) new one)
  where
    one : with_paths true keeping from [] ([] ∷ []) tree ≡ Some new
    one = ap (λ p. with_paths true keeping from p (p ∷ []) tree) (sym (path_of-text [] refl)) ∙ guarded (is_modelled whole_copy) _ new copied

    by : (o : Option Entry) → get from [] ≡ o → is_directory o ≡ true → (x : TreeMap) × ((with_path true keeping from [] [] tree ≡ Some x) × (Some x ≡ Some new))
        → with_entries keeping [] (drop 1 (entries (map_below from []))) tree ≡ Some new
    by None at d parts = absurd (true≢false (sym d))
    by (Some (File m b)) at d parts = absurd (true≢false (sym d))
    by (Some (Directory m)) at d parts =
        sym (ap (option_and_then (with_found keeping from [] [] (get from []))) (root-there (folder_meta keeping) tree is)
        ∙ ap (λ o. with_found keeping from [] [] o tree) at
        ∙ ap (option_and_then (with_entries keeping [] (drop 1 (entries (map_below from []))))) (root-there (folder_meta keeping) tree is))
        ∙ parts.1.0 ∙ parts.1.1

-- ---- numbers

get-left : (xs ys : List TreeMap) (n : ℕ) (x : TreeMap) → slice_get xs n ≡ Some x → slice_get (xs ++ ys) n ≡ Some x
get-left [] ys zero x e = absurd (true≢false (sym (ap is_some e)))
get-left [] ys (suc n) x e = absurd (true≢false (sym (ap is_some e)))
get-left (y ∷ xs) ys zero x e = e
get-left (y ∷ xs) ys (suc n) x e = get-left xs ys n x e

get-right : (xs ys : List TreeMap) (n : ℕ) → slice_get (xs ++ ys) (length xs + n) ≡ slice_get ys n
get-right [] ys n = ap (slice_get ys) (omega arith)
get-right (x ∷ xs) ys n = ap (slice_get (x ∷ (xs ++ ys))) (more (length xs)) ∙ get-right xs ys n
  where
    more : (m : ℕ) → suc m + n ≡ suc (m + n)
    more m = omega arith

last-output : (n k : ℕ) → n ≡ k + 1 + 1 → is_output (chain_output n k) ≡ true
unfolding chain_output
last-output n k e = let t : (k + 2 == n) ≡ true = grind (arith, nat_tests, e) in ap (λ b. is_output (cond b (pos 0) (negsuc 0))) t

no-output : (n k m : ℕ) → n ≡ k + 1 + suc (suc m) → is_output (chain_output n k) ≡ false
unfolding chain_output
no-output n k m e = let t : (k + 2 == n) ≡ false = grind (arith, nat_tests, e) in ap (λ b. is_output (cond b (pos 0) (negsuc 0))) t

next-input : (n k : ℕ) → chain_input n (k + 1) ≡ pos (n + k)
unfolding chain_input
next-input n k =
    let t : (k + 1 == 0) ≡ false = grind (arith, nat_tests) in
    let m : n + (k + 1 - 1) ≡ n + k = omega arith in
    ap (λ b. cond b (pos 0) (pos (n + (k + 1 - 1)))) t ∙ ap pos m

module _ (finder : Finder) (trees : List ℕ → TreeMap) (inputs : List TreeMap) where
  -- the actions from one on
  abbrev Gives : ℕ → List FileAction → List TreeMap → TreeMap → Type 0
  Gives k actions so_far new = option_and_then (λ all. slice_get all (length inputs + k + output_number actions)) (actions_by finder (inputs ++ so_far) actions) ≡ Some new

  -- the tree that is copied onto, and the one that is copied
  record Stand (k : ℕ) (so_far : List TreeMap) (tree upper : TreeMap) : Type 0 where
    first : tree_at (inputs ++ so_far) (chain_input (length inputs) k) ≡ Some tree
    second : tree_at (inputs ++ so_far) (pos (k + 1)) ≡ Some upper
    count : length so_far ≡ k

  acted : (k : ℕ) (so_far : List TreeMap) (tree upper mid : TreeMap) → Stand k so_far tree upper → action_by finder (chain_action (length inputs) k) (inputs ++ so_far) ≡ Some mid → copied_by finder whole_copy upper tree ≡ Some mid
  unfolding chain_action
  acted k so_far tree upper mid stand is =
      sym (ap (option_and_then (λ t. option_and_then (λ f. copied_by finder whole_copy f t) (tree_at (inputs ++ so_far) (pos (k + 1))))) stand.first
      ∙ ap (option_and_then (λ f. copied_by finder whole_copy f tree)) stand.second) ∙ is

  step : (k : ℕ) (so_far : List TreeMap) (tree lower upper : TreeMap) (rest : List FileAction) (new : TreeMap) → Stand k so_far tree upper → AreAlike tree lower → IsTree lower → IsTree upper
      → Gives k (chain_action (length inputs) k ∷ rest) so_far new
      → (mid : TreeMap) × ((AreAlike mid (over lower upper) × (get mid [] ≡ get tree [])) × ((all : List TreeMap) × ((actions_by finder ((inputs ++ so_far) ++ mid ∷ []) rest ≡ Some all) × (slice_get all (length inputs + k + output_number (chain_action (length inputs) k ∷ rest)) ≡ Some new))))
  step k so_far tree lower upper rest new stand alike is upper_is gives =
      let whole = and-then-some (λ all. slice_get all (length inputs + k + output_number (chain_action (length inputs) k ∷ rest))) (actions_by finder (inputs ++ so_far) (chain_action (length inputs) k ∷ rest)) new gives in
      let parts = and-then-some (λ t. actions_by finder ((inputs ++ so_far) ++ t ∷ []) rest) (action_by finder (chain_action (length inputs) k) (inputs ++ so_far)) whole.0 whole.1.0 in
      let tree_is : IsTree tree = alike-tree tree lower alike is in
      let done = whole-copied finder upper tree parts.0 upper_is tree_is (acted k so_far tree upper parts.0 stand parts.1.0) in
      (parts.0, ((copied-alike tree lower upper parts.0 alike is upper_is done (root-stays tree upper parts.0 tree_is upper_is done), root-same tree upper parts.0 tree_is upper_is done), (whole.0, (parts.1.1, whole.1.1))))

  -- the rest of the inputs, from one on
  abbrev AreInputs : ℕ → List (List ℕ) → Type 0
  AreInputs k digests = ((j : ℕ) → slice_get inputs (k + 1 + j) ≡ slice_get (map trees digests) j) × (length inputs ≡ k + 1 + length digests)

  over-IsTree : (lower upper : TreeMap) → IsTree lower → IsTree upper → IsTree (over lower upper)
  over-IsTree lower upper is upper_is = merged-IsTree (lower ∷ upper ∷ []) (is, (upper_is, tt))

  later-inputs : (k : ℕ) (digest : List ℕ) (digests : List (List ℕ)) → AreInputs k (digest ∷ digests) → AreInputs (k + 1) digests
  later-inputs k digest digests inputs_are = ((λ j. ap (slice_get inputs) (moved k j) ∙ inputs_are.0 (suc j)), inputs_are.1 ∙ counted k (length digests))
    where
      moved : (k j : ℕ) → k + 1 + 1 + j ≡ k + 1 + suc j
      moved k j = omega arith

      counted : (k n : ℕ) → k + 1 + suc n ≡ k + 1 + 1 + n
      counted k n = omega arith

  stand-of : (k : ℕ) (digest : List ℕ) (digests : List (List ℕ)) (so_far : List TreeMap) (tree : TreeMap) → AreInputs k (digest ∷ digests) → length so_far ≡ k
      → tree_at (inputs ++ so_far) (chain_input (length inputs) k) ≡ Some tree → Stand k so_far tree (trees digest)
  stand-of k digest digests so_far tree inputs_are count first = record {
    first = first;
    second = get-left inputs so_far (k + 1) (trees digest) (ap (slice_get inputs) (plus-none (k + 1)) ∙ inputs_are.0 0);
    count = count;
  }
    where
      plus-none : (m : ℕ) → m ≡ m + 0
      plus-none m = omega arith

  last-number : (k : ℕ) (rest : List FileAction) → length inputs ≡ k + 1 + 1 → output_number (chain_action (length inputs) k ∷ rest) ≡ 0
  unfolding chain_action
  last-number k rest e = ap (λ b. cond b 0 (suc (output_number rest))) (last-output (length inputs) k e)

  more-number : (k m : ℕ) (rest : List FileAction) → length inputs ≡ k + 1 + suc (suc m) → output_number (chain_action (length inputs) k ∷ rest) ≡ suc (output_number rest)
  unfolding chain_action
  more-number k m rest e = ap (λ b. cond b 0 (suc (output_number rest))) (no-output (length inputs) k m e)

  last-at : (k : ℕ) (so_far : List TreeMap) (mid : TreeMap) → length so_far ≡ k → length inputs ≡ k + 1 + 1
      → slice_get ((inputs ++ so_far) ++ mid ∷ []) (length inputs + k + output_number (chain_action (length inputs) k ∷ [])) ≡ Some mid
  last-at k so_far mid count few =
      let whole : length (inputs ++ so_far) ≡ length inputs + length so_far = length-append inputs so_far in
      let out = last-number k [] few in
      let at : length inputs + k + output_number (chain_action (length inputs) k ∷ []) ≡ length (inputs ++ so_far) = omega (arith, whole, out, count) in
      ap (slice_get ((inputs ++ so_far) ++ mid ∷ [])) at ∙ next-tree (inputs ++ so_far) mid []

  next-first : (k : ℕ) (so_far : List TreeMap) (mid : TreeMap) → length so_far ≡ k → tree_at (inputs ++ (so_far ++ mid ∷ [])) (chain_input (length inputs) (k + 1)) ≡ Some mid
  next-first k so_far mid count =
      ap (tree_at (inputs ++ (so_far ++ mid ∷ []))) (next-input (length inputs) k) ∙ get-right inputs (so_far ++ mid ∷ []) k
      ∙ ap (slice_get (so_far ++ mid ∷ [])) (sym count) ∙ next-tree so_far mid []

  next-count : (k : ℕ) (so_far : List TreeMap) (mid : TreeMap) → length so_far ≡ k → length (so_far ++ mid ∷ []) ≡ k + 1
  next-count k so_far mid count = let more : length (so_far ++ mid ∷ []) ≡ length so_far + 1 = length-append so_far (mid ∷ []) in omega (arith, more, count)

  next-gives : (k : ℕ) (so_far : List TreeMap) (mid new : TreeMap) (all : List TreeMap) (actions : List FileAction) (m : ℕ) → length inputs ≡ k + 1 + suc (suc m)
      → actions_by finder ((inputs ++ so_far) ++ mid ∷ []) actions ≡ Some all → slice_get all (length inputs + k + output_number (chain_action (length inputs) k ∷ actions)) ≡ Some new
      → Gives (k + 1) actions (so_far ++ mid ∷ []) new
  next-gives k so_far mid new all actions m many acted at =
      let out = more-number k m actions many in
      let same : length inputs + (k + 1) + output_number actions ≡ length inputs + k + output_number (chain_action (length inputs) k ∷ actions) = omega (arith, out) in
      ap (option_and_then (λ xs. slice_get xs (length inputs + (k + 1) + output_number actions))) (ap (λ ts. actions_by finder ts actions) (sym (append_assoc inputs so_far (mid ∷ []))) ∙ acted)
      ∙ ap (slice_get all) same ∙ at

  pub chained : (digest : List ℕ) (digests : List (List ℕ)) (k : ℕ) (so_far : List TreeMap) (tree lower new : TreeMap) → AreInputs k (digest ∷ digests) → length so_far ≡ k
      → tree_at (inputs ++ so_far) (chain_input (length inputs) k) ≡ Some tree → AreAlike tree lower → IsTree lower → AllByRecursion (λ d. IsTree (trees d)) (digest ∷ digests)
      → Gives k (chain_actions (length inputs) k (digest ∷ digests)) so_far new → AreAlike new (fold over lower (map trees (digest ∷ digests))) × (get new [] ≡ get tree [])
  chained digest [] k so_far tree lower new inputs_are count first alike is all gives =
      let done = step k so_far tree lower (trees digest) [] new (stand-of k digest [] so_far tree inputs_are count first) alike is all.0 gives in
      let mid : TreeMap = done.0 in
      let at : slice_get ((inputs ++ so_far) ++ mid ∷ []) (length inputs + k + output_number (chain_action (length inputs) k ∷ [])) ≡ Some new =
      ap (λ xs. slice_get xs (length inputs + k + output_number (chain_action (length inputs) k ∷ []))) (same_Some ((inputs ++ so_far) ++ mid ∷ []) done.1.1.0 done.1.1.1.0) ∙ done.1.1.1.1 in
      subst (λ (t : TreeMap). AreAlike t (over lower (trees digest)) × (get t [] ≡ get tree [])) (same_Some mid new (sym (last-at k so_far mid count inputs_are.1) ∙ at)) done.1.0
  chained digest (next ∷ digests) k so_far tree lower new inputs_are count first alike is all gives =
      let actions : List FileAction = chain_actions (length inputs) (k + 1) (next ∷ digests) in
      let done = step k so_far tree lower (trees digest) actions new (stand-of k digest (next ∷ digests) so_far tree inputs_are count first) alike is all.0 gives in
      let mid : TreeMap = done.0 in
      let rest = chained next digests (k + 1) (so_far ++ mid ∷ []) mid (over lower (trees digest)) new (later-inputs k digest (next ∷ digests) inputs_are) (next-count k so_far mid count)
      (next-first k so_far mid count) done.1.0.0 (over-IsTree lower (trees digest) is all.0) all.1
      (next-gives k so_far mid new done.1.1.0 actions (length digests) inputs_are.1 done.1.1.1.0 done.1.1.1.1) in
      (rest.0, rest.1 ∙ done.1.0.1)

pub chain-gives : (finder : Finder) (trees : List ℕ → TreeMap) (first second : List ℕ) (digests : List (List ℕ)) (new : TreeMap) → AllByRecursion (λ d. IsTree (trees d)) (first ∷ second ∷ digests)
    → operation_by finder (map trees (first ∷ second ∷ digests)) (chain_of (first ∷ second ∷ digests)) ≡ Some new → AreAlike new (merged (map trees (first ∷ second ∷ digests))) × (get new [] ≡ get (trees first) [])
unfolding operation_by chain_input
chain-gives finder trees first second digests new all gives =
    let inputs : List TreeMap = map trees (first ∷ second ∷ digests) in
    let count : length inputs ≡ length (first ∷ second ∷ digests) = length-map (first ∷ second ∷ digests) trees in
    let actions : List FileAction = chain_actions (length inputs) 0 (second ∷ digests) in
    let zero-more : length inputs + 0 + output_number actions ≡ length inputs + output_number actions = omega arith in
    let inner = guarded (is_last_output (chain_of (first ∷ second ∷ digests))) _ new gives in
    let given : option_and_then (λ xs. slice_get xs (length inputs + output_number actions)) (actions_by finder inputs actions) ≡ Some new =
    (λ i. option_and_then (λ xs. slice_get xs (length inputs + output_number (chain_actions (count i) 0 (second ∷ digests)))) (actions_by finder inputs (chain_actions (count i) 0 (second ∷ digests)))) ∙ inner in
    let given' : option_and_then (λ xs. slice_get xs (length inputs + 0 + output_number actions)) (actions_by finder (inputs ++ []) actions) ≡ Some new =
    (λ i. option_and_then (λ xs. slice_get xs (zero-more i)) (actions_by finder (append-nil inputs i) actions)) ∙ given in
    chained finder trees inputs second digests 0 [] (trees first) (trees first) new (moved, counted count) refl refl (record { root = all.0.root; below = λ c cs. refl }) all.0 all.1 given'
  where
    moved : (j : ℕ) → slice_get (map trees (first ∷ second ∷ digests)) (0 + 1 + j) ≡ slice_get (map trees (second ∷ digests)) j
    moved j = let e : 0 + 1 + j ≡ suc j = omega arith in ap (slice_get (map trees (first ∷ second ∷ digests))) e

    counted : {n : ℕ} → n ≡ length (first ∷ second ∷ digests) → n ≡ 0 + 1 + length (second ∷ digests)
    counted {n} e = let f : length (first ∷ second ∷ digests) ≡ 0 + 1 + length (second ∷ digests) = omega arith in e ∙ f
