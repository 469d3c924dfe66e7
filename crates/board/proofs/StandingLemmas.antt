-- In a content stands what it held at first, or what the last settle that gave it back brought, which its vertex's run left of what it was lent.
use Rattle.std.proofs.Common.{◌≡◌, ℕ, zero, suc, ◌==◌, Bool, true, false, cond, ◌⊎◌, inl, inr, List, [], ◌∷◌, ◌++◌, map, Option, Some, None, refl, sym, ap, ◌∙◌, subst, append_assoc, append-nil}
use Rattle.std.specs.Prelude.{slice_get}
use Rattle.trees.specs.TreeMap.{TreeMap, empty_tree}
use Rattle.runs.specs.Run.{ids_of}
use Rattle.runs.specs.declared.run.CacheUse.{CacheUse}
use Rattle.plans.specs.Plan.{Problem, uses_at}
use Rattle.cachemounts.specs.declared.holds.Hold.{Hold}
use Rattle.cachemounts.specs.declared.content.Content.{Content}
use Rattle.cachemounts.specs.Holds.{new_holds, of_holder, without_holder}
use Rattle.cachemounts.specs.Content.{tree_in, slot_of, same_content, given_back}
use Rattle.cachemounts.specs.Changes.{holds_then, content_then, content_after}
use Rattle.cachemounts.proofs.HoldLemmas.{of_holder-takes, of_holder-without}
use Rattle.cachemounts.proofs.ContentLemmas.{cell-is, content-push}
use Rattle.board.specs.Problem.{IsProblem}
use Rattle.board.specs.Legal.{vertex_out, vertex_out_then, change_of, held_caches, IsNext, Possible, GoesOn, IsLegal}
use Rattle.board.specs.Board.{AreContents}
use Rattle.board.specs.Leaving.{Leaving, GivesBack, GiveBackOn, GivesBackWhatIsLeft, BringsNone, BringNoneOn, IsLeftIn}
use Rattle.board.proofs.ReadyLemmas.{IsSound}
use Rattle.board.proofs.CacheLemmas.{AreHeld, AreHeld-begun, AreHeld-claim, AreHeld-end, held_caches-push, map_push}
use Rattle.board.proofs.StepLemmas.{held-push}
use Rattle.board.proofs.SoundLemmas.{sound}
use Rattle.board.specs.declared.event.Happened.{Happened}
use Rattle.board.specs.declared.event.Happened.TheVariants.{Claimed, Settled, Abandoned}

-- the ids of the caches that are held, in the order of the holds
abbrev ids_held : List Hold → List (List ℕ)
ids_held holds = map (λ (hold : Hold). hold.id) holds

ids-takings : (holder : ℕ) (holds : List Hold) (uses : List CacheUse) → ids_held (new_holds holder holds uses) ≡ ids_of uses
ids-takings holder holds [] = refl
ids-takings holder holds (mount ∷ uses) = ap (λ ids. mount.id ∷ ids) (ids-takings holder holds uses)

-- what each worker holds are the caches that its vertex uses, in their order
record AreTheirs (problem : Problem) (history : List Happened) : Type 0 where
  held : AreHeld problem history
  ids : (worker vertex : ℕ) → vertex_out history worker ≡ Some vertex → ids_held (of_holder worker (held_caches problem history)) ≡ ids_of (uses_at problem vertex)

theirs-begun : (problem : Problem) → AreTheirs problem []
theirs-begun problem = record { held = AreHeld-begun problem; ids = λ worker vertex e. absurd cc }

theirs-claim : (problem : Problem) (history : List Happened) (worker vertex : ℕ) → IsSound problem → AreTheirs problem history → IsNext problem history worker vertex → AreTheirs problem (history ++ Claimed worker vertex ∷ [])
theirs-claim problem history worker vertex is_sound is next_is = record {
  held = AreHeld-claim problem history worker vertex is.held next_is.idle next_is.ready.caches (is_sound.differ vertex);
  ids = λ by u e. subst (λ b. ids_held (of_holder by b) ≡ ids_of (uses_at problem u)) (sym now) (ids by u e (worker == by) refl);
}
  where
    holds : List Hold
    holds = held_caches problem history

    now : held_caches problem (history ++ Claimed worker vertex ∷ []) ≡ holds ++ new_holds worker holds (uses_at problem vertex)
    now = held_caches-push problem history (Claimed worker vertex)

    ids : (by u : ℕ) → vertex_out (history ++ Claimed worker vertex ∷ []) by ≡ Some u → (b : Bool) → (worker == by) ≡ b → ids_held (of_holder by (holds ++ new_holds worker holds (uses_at problem vertex))) ≡ ids_of (uses_at problem u)
    ids by u e true t =
        let f : Some vertex ≡ Some u = rw t at (sym (held-push history (Claimed worker vertex) by) ∙ e) in
        let same : vertex ≡ u = cc in
        ap ids_held (of_holder-takes worker by holds (uses_at problem vertex) (is.held.owners worker next_is.idle)) ∙ rw t (ids-takings worker holds (uses_at problem vertex) ∙ ap (λ v. ids_of (uses_at problem v)) same)
    ids by u e false t =
        let f : vertex_out history by ≡ Some u = rw t at (sym (held-push history (Claimed worker vertex) by) ∙ e) in
        ap ids_held (of_holder-takes worker by holds (uses_at problem vertex) (is.held.owners worker next_is.idle)) ∙ rw t (is.ids by u f)

theirs-end : (problem : Problem) (history : List Happened) (happened : Happened) (worker : ℕ) → AreTheirs problem history → ((by : ℕ) → vertex_out_then by (vertex_out history by) happened ≡ cond (worker == by) None (vertex_out history by))
    → holds_then (held_caches problem history) (change_of problem happened) ≡ without_holder worker (held_caches problem history) → AreTheirs problem (history ++ happened ∷ [])
theirs-end problem history happened worker is ends leaves = record {
  held = AreHeld-end problem history happened worker is.held ends leaves;
  ids = λ by u e. subst (λ b. ids_held (of_holder by b) ≡ ids_of (uses_at problem u)) (sym now) (ids by u e (worker == by) refl);
}
  where
    holds : List Hold
    holds = held_caches problem history

    now : held_caches problem (history ++ happened ∷ []) ≡ without_holder worker holds
    now = held_caches-push problem history happened ∙ leaves

    ids : (by u : ℕ) → vertex_out (history ++ happened ∷ []) by ≡ Some u → (b : Bool) → (worker == by) ≡ b → ids_held (of_holder by (without_holder worker holds)) ≡ ids_of (uses_at problem u)
    ids by u e true t = (let f : None ≡ Some u = rw t at (sym (ends by) ∙ (sym (held-push history happened by) ∙ e)) in cc)
    ids by u e false t =
        let f : vertex_out history by ≡ Some u = rw t at (sym (ends by) ∙ (sym (held-push history happened by) ∙ e)) in
        ap ids_held (of_holder-without worker by holds) ∙ rw t (is.ids by u f)

theirs-step : (problem : Problem) (history : List Happened) (happened : Happened) → IsSound problem → AreTheirs problem history → Possible problem history happened → AreTheirs problem (history ++ happened ∷ [])
theirs-step problem history (Claimed worker vertex) is_sound is possible = theirs-claim problem history worker vertex is_sound is possible
theirs-step problem history (Settled worker vertex given) is_sound is possible = theirs-end problem history (Settled worker vertex given) worker is (λ by. refl) refl
theirs-step problem history (Abandoned worker vertex) is_sound is possible = theirs-end problem history (Abandoned worker vertex) worker is (λ by. refl) refl

-- a tree was given back for one of these holds, of this content
record IsBack (holds : List Hold) (trees : List TreeMap) (id : List ℕ) (slot : Option ℕ) (tree : TreeMap) : Type 0 where
  at : ℕ
  hold : Hold
  held : slice_get holds at ≡ Some hold
  held_id : hold.id ≡ id
  held_slot : slot_of hold.access ≡ slot
  given : slice_get trees at ≡ Some tree

-- trees that are given back for holds bring a content none, or one of them, whatever stood there
abbrev BringNoneOrOne : List Hold → List TreeMap → List ℕ → Option ℕ → Type 0
BringNoneOrOne holds trees id slot =
    ((before : TreeMap) → given_back holds trees id slot before ≡ before)
    ⊎ ((tree : TreeMap) × IsBack holds trees id slot tree × ((before : TreeMap) → given_back holds trees id slot before ≡ tree))

none-or-one : (holds : List Hold) (trees : List TreeMap) (id : List ℕ) (slot : Option ℕ) → BringNoneOrOne holds trees id slot
none-or-one [] trees id slot = inl (λ before. refl)
none-or-one (hold ∷ holds) [] id slot = inl (λ before. refl)
none-or-one (hold ∷ holds) (tree ∷ trees) id slot = by_rest (none-or-one holds trees id slot)
  where
    by_test : (b : Bool) → same_content hold.id (slot_of hold.access) id slot ≡ b → ((before : TreeMap) → given_back holds trees id slot before ≡ before) → BringNoneOrOne (hold ∷ holds) (tree ∷ trees) id slot
    by_test true t none =
        let one = cell-is id slot (record { id = hold.id; slot = slot_of hold.access; tree = empty_tree }) t in
        inr (tree, record { at = 0; hold = hold; held = refl; held_id = one.0; held_slot = one.1; given = refl }, λ before. rw t (none tree))
    by_test false t none = inl (λ before. rw t (none before))

    by_rest : BringNoneOrOne holds trees id slot → BringNoneOrOne (hold ∷ holds) (tree ∷ trees) id slot
    by_rest (inl none) = by_test (same_content hold.id (slot_of hold.access) id slot) refl none
    by_rest (inr found) =
        let back = found.1 in
        let more : IsBack (hold ∷ holds) (tree ∷ trees) id slot found.0 = record { at = suc back.at; hold = back.hold; held = back.held; held_id = back.held_id; held_slot = back.held_slot; given = back.given } in
        inr (found.0, more, λ before. found.2 (cond (same_content hold.id (slot_of hold.access) id slot) tree before))

-- the use of a cache that is held
use-at : (holds : List Hold) (uses : List CacheUse) (at : ℕ) (hold : Hold) → ids_held holds ≡ ids_of uses → slice_get holds at ≡ Some hold → (mount : CacheUse) × (slice_get uses at ≡ Some mount) × (mount.id ≡ hold.id)
use-at [] uses at hold e there = cc
use-at (first ∷ holds) [] at hold e there = cc
use-at (first ∷ holds) (mount ∷ uses) zero hold e there =
    let same : first ≡ hold = cc in
    let f : first.id ∷ ids_held holds ≡ mount.id ∷ ids_of uses = e in
    let ids : first.id ≡ mount.id = cc in
    (mount, refl, sym ids ∙ ap (λ h. h.id) same)
use-at (first ∷ holds) (mount ∷ uses) (suc at) hold e there =
    let f : first.id ∷ ids_held holds ≡ mount.id ∷ ids_of uses = e in
    let rest : ids_held holds ≡ ids_of uses = cc in
    use-at holds uses at hold rest there

-- what stands in a content after a history
abbrev standing : Problem → List Content → List ℕ → Option ℕ → List Happened → TreeMap
standing problem first id slot history = content_after (tree_in first) (map (change_of problem) history) id slot

-- a tree is what a content held at first, or what the last settle brought that gave it back
abbrev IsFirstOrLeft : Leaving → Problem → List Content → List ℕ → Option ℕ → List Happened → TreeMap → Type 0
IsFirstOrLeft leaves problem first id slot history tree = (tree ≡ tree_in first id slot) ⊎ IsLeftIn leaves problem first history id slot tree

none-push : (problem : Problem) (id : List ℕ) (slot : Option ℕ) (before events : List Happened) (happened : Happened) → BringNoneOn problem id slot before events
    → BringsNone problem id slot (before ++ events) happened → BringNoneOn problem id slot before (events ++ happened ∷ [])
none-push problem id slot before [] happened on none = (subst (λ b. BringsNone problem id slot b happened) (append-nil before) none, tt)
none-push problem id slot before (event ∷ events) happened on none =
    (on.0, none-push problem id slot (before ++ event ∷ []) events happened on.1 (subst (λ b. BringsNone problem id slot b happened) (sym (append_assoc before (event ∷ []) events)) none))

-- what stands in a content is still that after an event that brings it no tree
still : (leaves : Leaving) (problem : Problem) (first : List Content) (id : List ℕ) (slot : Option ℕ) (history : List Happened) (happened : Happened) (tree : TreeMap) → BringsNone problem id slot history happened
    → IsFirstOrLeft leaves problem first id slot history tree → IsFirstOrLeft leaves problem first id slot (history ++ happened ∷ []) tree
still leaves problem first id slot history happened tree none (inl e) = inl e
still leaves problem first id slot history happened tree none (inr is) =
    let settled = Settled is.worker is.vertex is.given in
    let past : history ≡ (is.before ++ settled ∷ []) ++ is.after = is.whole ∙ sym (append_assoc is.before (settled ∷ []) is.after) in
    inr (record {
      before = is.before;
      worker = is.worker;
      vertex = is.vertex;
      given = is.given;
      after = is.after ++ happened ∷ [];
      whole = ap (λ h. h ++ happened ∷ []) is.whole ∙ append_assoc is.before (settled ∷ is.after) (happened ∷ []);
      left = is.left;
      at = is.at;
      mount = is.mount;
      uses = is.uses;
      same = is.same;
      hold = is.hold;
      held = is.held;
      held_id = is.held_id;
      held_slot = is.held_slot;
      there = is.there;
      last = none-push problem id slot (is.before ++ settled ∷ []) is.after happened is.last (subst (λ h. BringsNone problem id slot h happened) past none);
    })

standing-push : (problem : Problem) (first : List Content) (id : List ℕ) (slot : Option ℕ) (history : List Happened) (happened : Happened)
    → standing problem first id slot (history ++ happened ∷ []) ≡ content_then (held_caches problem history) (change_of problem happened) id slot (standing problem first id slot history)
standing-push problem first id slot history happened =
    ap (λ changes. content_after (tree_in first) changes id slot) (map_push (change_of problem) history happened) ∙ content-push (tree_in first) (map (change_of problem) history) (change_of problem happened) id slot

-- an event that brings a content no tree leaves what stands there
standing-still : (leaves : Leaving) (problem : Problem) (first : List Content) (history : List Happened) (happened : Happened) (id : List ℕ) (slot : Option ℕ) → BringsNone problem id slot history happened
    → IsFirstOrLeft leaves problem first id slot history (standing problem first id slot history) → IsFirstOrLeft leaves problem first id slot (history ++ happened ∷ []) (standing problem first id slot (history ++ happened ∷ []))
standing-still leaves problem first history happened id slot none was =
    let before = standing problem first id slot history in
    subst (IsFirstOrLeft leaves problem first id slot (history ++ happened ∷ [])) (sym (standing-push problem first id slot history happened ∙ none before))
    (still leaves problem first id slot history happened before none was)

standing-step : (leaves : Leaving) (problem : Problem) (first : List Content) (history : List Happened) (happened : Happened) → AreTheirs problem history → Possible problem history happened → GivesBack leaves problem first history happened
    → (id : List ℕ) (slot : Option ℕ) → IsFirstOrLeft leaves problem first id slot history (standing problem first id slot history)
    → IsFirstOrLeft leaves problem first id slot (history ++ happened ∷ []) (standing problem first id slot (history ++ happened ∷ []))
standing-step leaves problem first history (Claimed worker vertex) is possible gives id slot was = standing-still leaves problem first history (Claimed worker vertex) id slot (λ tree. refl) was
standing-step leaves problem first history (Settled worker vertex given) is possible gives id slot was = by_case (none-or-one holds given id slot)
  where
    holds : List Hold
    holds = of_holder worker (held_caches problem history)

    After : TreeMap → Type 0
    After = IsFirstOrLeft leaves problem first id slot (history ++ Settled worker vertex given ∷ [])

    by_case : BringNoneOrOne holds given id slot → After (standing problem first id slot (history ++ Settled worker vertex given ∷ []))
    by_case (inl none) = standing-still leaves problem first history (Settled worker vertex given) id slot none was
    by_case (inr found) =
        let back = found.1 in
        let of = use-at holds (uses_at problem vertex) back.at back.hold (is.ids worker vertex possible.0) back.held in
        subst After (sym (standing-push problem first id slot history (Settled worker vertex given) ∙ found.2 (standing problem first id slot history)))
        (inr (record {
          before = history;
          worker = worker;
          vertex = vertex;
          given = given;
          after = [];
          whole = refl;
          left = gives;
          at = back.at;
          mount = of.0;
          uses = of.1;
          same = of.2 ∙ back.held_id;
          hold = back.hold;
          held = back.held;
          held_id = back.held_id;
          held_slot = back.held_slot;
          there = back.given;
          last = tt;
        }))
standing-step leaves problem first history (Abandoned worker vertex) is possible gives id slot was = standing-still leaves problem first history (Abandoned worker vertex) id slot (λ tree. refl) was

standing-on : (leaves : Leaving) (problem : Problem) (first : List Content) (before events : List Happened) → IsSound problem → AreTheirs problem before → GoesOn problem before events → GiveBackOn leaves problem first before events
    → (id : List ℕ) (slot : Option ℕ) → IsFirstOrLeft leaves problem first id slot before (standing problem first id slot before) → IsFirstOrLeft leaves problem first id slot (before ++ events) (standing problem first id slot (before ++ events))
standing-on leaves problem first before [] is_sound is goes on id slot was = subst (λ h. IsFirstOrLeft leaves problem first id slot h (standing problem first id slot h)) (sym (append-nil before)) was
standing-on leaves problem first before (event ∷ events) is_sound is goes on id slot was =
    let now = standing-step leaves problem first before event is goes.0 on.0 id slot was in
    let rest = standing-on leaves problem first (before ++ event ∷ []) events is_sound (theirs-step problem before event is_sound is goes.0) goes.1 on.1 id slot now in
    subst (λ h. IsFirstOrLeft leaves problem first id slot h (standing problem first id slot h)) (append_assoc before (event ∷ []) events) rest

-- in a content stands what it held at first, or what the last settle brought that gave it back
pub first-or-left : (leaves : Leaving) (problem : Problem) (first contents : List Content) (history : List Happened) → IsProblem problem → IsLegal problem history → AreContents problem history first contents
    → GivesBackWhatIsLeft leaves problem first history → (id : List ℕ) (slot : Option ℕ) → (tree_in contents id slot ≡ tree_in first id slot) ⊎ IsLeftIn leaves problem first history id slot (tree_in contents id slot)
first-or-left leaves problem first contents history is legal are gives id slot =
    subst (IsFirstOrLeft leaves problem first id slot history) (sym (are id slot))
    (standing-on leaves problem first [] history (sound problem is) (theirs-begun problem) legal gives id slot (inl refl))
