-- Each step of a seat keeps the rule.
use Rattle.std.proofs.Common.{◌≡◌, ◌≢◌, ◌⊎◌, inl, inr, ℕ, zero, suc, ◌+◌, ◌<◌, ◌≤◌, ◌==◌, List, [], ◌∷◌, ◌++◌, length, set, Bool, true, false, true≢false, cond, refl, sym, ap, ◌∙◌, subst, ⊎_elim, arith}
use Rattle.std.proofs.lemmas.Bool.{eq-eqb, ne_eqb}
use Rattle.std.proofs.lemmas.List.{length-set}
use mathlib.Core.Option.{none, some, some-ne-none, some-injective}
use lib.ListN.{get_elem?}
use Rattle.atomic_table.specs.Table.{Me, step, keeps, Allows, Splits, Joins}
use Rattle.atomic_table.proofs.Lists.{at_set, set_else}
use Rattle.trees.specs.TreeMap.{TreeMap}
use Rattle.rolls.specs.declared.note.Note.{Note}
use Rattle.rolls.specs.declared.note.Told.{Told}
use Rattle.rolls.specs.declared.rule.View.{View}
use Rattle.rolls.proofs.RollLemmas.{of_worker-here, of_worker-other}
use Rattle.rolls.specs.Rolls.{of_worker, nobody, opener, knower, giver, sitter, with_sitter, with_giver, Fits, Keeps, noted, Wrote, Learnt}
use Rattle.rolls.specs.PrivateSeats.{seated, handing}

off : {A : Type 0} → false ≡ true → A
off e = absurd (true≢false (sym e))

-- a list and one item more
at_end : {A : Type 0} (l : List A) (a b : A) (j : ℕ) → get_elem? (l ++ a ∷ []) j ≡ some b → (get_elem? l j ≡ some b) ⊎ ((j ≡ length l) × (a ≡ b))
at_end [] a b zero e = inr (refl, some-injective a b e)
at_end [] a b (suc j) e = absurd (some-ne-none b (sym e))
at_end (x ∷ xs) a b zero e = inl e
at_end (x ∷ xs) a b (suc j) e = ⊎_elim (λ t. inl t) (λ t. inr (ap suc t.0, t.1)) (at_end xs a b j e)

-- what is in a list stands below its length
at_below : {A : Type 0} (l : List A) (b : A) (j : ℕ) → get_elem? l j ≡ some b → j < length l
at_below [] b j e = absurd (some-ne-none b (sym e))
at_below (x ∷ xs) b zero e = omega arith
at_below (x ∷ xs) b (suc j) e = (let l = at_below xs b j e in omega arith)

module _ (roll : List (ℕ × Told)) (keeper giving : ℕ) (place : ℕ → ℕ) (given : ℕ) where
  fits_nobody : (by : ℕ) → Fits roll keeper giving place given by nobody
  fits_nobody by = record { keeps = λ e. off e; gives = λ e. off e; sits = λ e. off e }

  -- one view is another one
  fits_set : (views : List View) (by : ℕ) (w : View)
      → ((j : ℕ) (u : View) → j ≢ by → get_elem? views j ≡ some u → Fits roll keeper giving place given j u)
      → Fits roll keeper giving place given by w
      → (j : ℕ) (u : View) → get_elem? (set views by w) j ≡ some u → Fits roll keeper giving place given j u
  fits_set views by w others mine j u e =
      ⊎_elim
      (λ (x : (j ≡ by) × (w ≡ u)). subst (λ (y : ℕ × View). Fits roll keeper giving place given y.0 y.1) (λ i. (sym x.0 i, x.1 i)) mine)
      (λ (x : (j ≢ by) × (get_elem? views j ≡ some u)). others j u x.0 x.1)
      (at_set views by j w u e)

  -- one view more
  fits_end : (views : List View) (w : View)
      → ((j : ℕ) (u : View) → get_elem? views j ≡ some u → Fits roll keeper giving place given j u)
      → Fits roll keeper giving place given (length views) w
      → (j : ℕ) (u : View) → get_elem? (views ++ w ∷ []) j ≡ some u → Fits roll keeper giving place given j u
  fits_end views w others mine j u e =
      ⊎_elim
      (λ (x : get_elem? views j ≡ some u). others j u x)
      (λ (x : (j ≡ length views) × (w ≡ u)). subst (λ (y : ℕ × View). Fits roll keeper giving place given y.0 y.1) (λ i. (sym x.0 i, x.1 i)) mine)
      (at_end views w u j e)

  -- a view is cut in two
  fits_cut : (views : List View) (by : ℕ) (left right : View)
      → ((j : ℕ) (u : View) → j ≢ by → get_elem? views j ≡ some u → Fits roll keeper giving place given j u)
      → Fits roll keeper giving place given by left
      → Fits roll keeper giving place given (length views) right
      → (j : ℕ) (u : View) → get_elem? (set views by left ++ right ∷ []) j ≡ some u → Fits roll keeper giving place given j u
  fits_cut views by left right others mine more =
      fits_end (set views by left) right (fits_set views by left others mine) (subst (λ n. Fits roll keeper giving place given n right) (sym (length-set views by left)) more)

  -- two views are made one
  fits_join : (views : List View) (by other : ℕ) (both : View)
      → ((j : ℕ) (u : View) → j ≢ by → j ≢ other → get_elem? views j ≡ some u → Fits roll keeper giving place given j u)
      → Fits roll keeper giving place given by both
      → (j : ℕ) (u : View) → get_elem? (set (set views by both) other nobody) j ≡ some u → Fits roll keeper giving place given j u
  fits_join views by other both others mine =
      fits_set (set views by both) other nobody
      (λ j u apart e. ⊎_elim
      (λ (x : (j ≡ by) × (both ≡ u)). subst (λ (y : ℕ × View). Fits roll keeper giving place given y.0 y.1) (λ i. (sym x.0 i, x.1 i)) mine)
      (λ (x : (j ≢ by) × (get_elem? views j ≡ some u)). others j u x.0 apart x.1)
      (at_set views by j both u e))
      (fits_nobody other)

-- a place for one worker
abbrev placed : (ℕ → ℕ) → ℕ → ℕ → ℕ → ℕ
placed place worker at u = cond (worker == u) at (place u)

placed_here : (place : ℕ → ℕ) (worker at : ℕ) → at ≡ placed place worker at worker
placed_here place worker at = sym (ap (λ b. cond b at (place worker)) (eq-eqb worker worker refl))

placed_other : (place : ℕ → ℕ) (worker at u : ℕ) → worker ≢ u → place u ≡ placed place worker at u
placed_other place worker at u n = sym (ap (λ b. cond b at (place u)) (ne_eqb worker u n))

pub begins : Keeps (opener ∷ [])
begins = record {
  roll = [];
  keeper = 0;
  giving = 0;
  place = λ w. 0;
  given = 0;
  fits = one;
  fresh = λ worker l. refl;
}
  where
    one : (by : ℕ) (v : View) → get_elem? (opener ∷ []) by ≡ some v → Fits [] 0 0 (λ w. 0) 0 by v
    one zero v e = subst (Fits [] 0 0 (λ w. 0) 0 0) (some-injective _ _ e) (record { keeps = λ _. (refl, refl); gives = λ _. (refl, refl); sits = λ s. off s })
    one (suc by) v e = absurd (some-ne-none v (sym e))

-- a view that stays beside a new one that knows nothing
pub spares : (by : ℕ) (v : View) → Splits {S = Note} (λ s. Keeps s.views) by v v nobody
spares by v s k at = record {
  roll = k.roll;
  keeper = k.keeper;
  giving = k.giving;
  place = k.place;
  given = k.given;
  fits = fits_cut k.roll k.keeper k.giving k.place k.given s.views by v nobody (λ j u apart e. k.fits j u e) (k.fits by v at) (fits_nobody k.roll k.keeper k.giving k.place k.given (length s.views));
  fresh = k.fresh;
}

-- the giver goes apart from the keeper
pub parts : (by : ℕ) (all : List (ℕ × Told)) (given : ℕ) → Splits {S = Note} (λ s. Keeps s.views) by (handing all given) (knower all) (giver given)
parts by all given s k at =
    let mine = k.fits by (handing all given) at in record {
      roll = k.roll;
      keeper = k.keeper;
      giving = length s.views;
      place = k.place;
      given = k.given;
      fits = fits_cut k.roll k.keeper (length s.views) k.place k.given s.views by (knower all) (giver given)
          (λ j u apart e. record { keeps = (k.fits j u e).keeps; gives = λ g. absurd (apart (((k.fits j u e).gives g).0 ∙ sym ((mine.gives refl).0))); sits = (k.fits j u e).sits })
          (record { keeps = mine.keeps; gives = λ g. off g; sits = λ g. off g })
          (record { keeps = λ g. off g; gives = λ _. (refl, (mine.gives refl).1); sits = λ g. off g });
      fresh = k.fresh;
    }

-- a slip more
pub seats : (by given : ℕ) → Splits {S = Note} (λ s. Keeps s.views) by (giver given) (giver (given + 1)) (sitter given [])
seats by given s k at =
    let mine = k.fits by (giver given) at in
    let same : given ≡ k.given = (mine.gives refl).1 in
    let place = placed k.place given (length s.views) in record {
      roll = k.roll;
      keeper = k.keeper;
      giving = k.giving;
      place = place;
      given = given + 1;
      fits = fits_cut k.roll k.keeper k.giving place (given + 1) s.views by (giver (given + 1)) (sitter given [])
          (λ j u apart e. record {
            keeps = (k.fits j u e).keeps;
            gives = λ g. absurd (apart (((k.fits j u e).gives g).0 ∙ sym ((mine.gives refl).0)));
            sits = λ g. (
              ((k.fits j u e).sits g).0 ∙ placed_other k.place given (length s.views) u.worker (λ n. absurd (let l = ((k.fits j u e).sits g).1 in omega (arith, n, same))),
              (let l = ((k.fits j u e).sits g).1 in omega (arith, same)),
              ((k.fits j u e).sits g).2,
            );
          })
          (record { keeps = λ g. off g; gives = λ _. ((mine.gives refl).0, refl); sits = λ g. off g })
          (record { keeps = λ g. off g; gives = λ g. off g; sits = λ _. (placed_here k.place given (length s.views), omega arith, sym (k.fresh given (omega (arith, same)))) });
      fresh = λ worker l. k.fresh worker (omega (arith, same));
    }

-- a slip goes apart from the keeper
pub cuts : (by : ℕ) (all : List (ℕ × Told)) (worker : ℕ) (mine : List Told) → Splits {S = Note} (λ s. Keeps s.views) by (seated all worker mine) (knower all) (sitter worker mine)
cuts by all worker mine s k at =
    let known = k.fits by (seated all worker mine) at in
    let sits = known.sits refl in
    let place = placed k.place worker (length s.views) in record {
      roll = k.roll;
      keeper = k.keeper;
      giving = k.giving;
      place = place;
      given = k.given;
      fits = fits_cut k.roll k.keeper k.giving place k.given s.views by (knower all) (sitter worker mine)
          (λ j u apart e. record {
            keeps = (k.fits j u e).keeps;
            gives = (k.fits j u e).gives;
            sits = λ g. (
              ((k.fits j u e).sits g).0 ∙ placed_other k.place worker (length s.views) u.worker (λ n. apart (((k.fits j u e).sits g).0 ∙ (ap k.place (sym n) ∙ sym sits.0))),
              ((k.fits j u e).sits g).1,
              ((k.fits j u e).sits g).2,
            );
          })
          (record { keeps = known.keeps; gives = λ g. off g; sits = λ g. off g })
          (record { keeps = λ g. off g; gives = λ g. off g; sits = λ _. (placed_here k.place worker (length s.views), sits.1, sits.2) });
      fresh = k.fresh;
    }

-- a slip comes to the keeper
pub joins : (by other : ℕ) (all : List (ℕ × Told)) (worker : ℕ) (mine : List Told) → Joins {S = Note} (λ s. Keeps s.views) by (knower all) other (sitter worker mine) (seated all worker mine) nobody
joins by other all worker mine s k at apart there =
    let known = k.fits by (knower all) at in
    let beside = k.fits other (sitter worker mine) (sym (set_else s.views by other (seated all worker mine) apart) ∙ there) in
    let sits = beside.sits refl in
    let place = placed k.place worker by in record {
      roll = k.roll;
      keeper = k.keeper;
      giving = k.giving;
      place = place;
      given = k.given;
      fits = fits_join k.roll k.keeper k.giving place k.given s.views by other (seated all worker mine)
          (λ j u far away e. record {
            keeps = (k.fits j u e).keeps;
            gives = (k.fits j u e).gives;
            sits = λ g. (
              ((k.fits j u e).sits g).0 ∙ placed_other k.place worker by u.worker (λ n. away (((k.fits j u e).sits g).0 ∙ (ap k.place (sym n) ∙ sym sits.0))),
              ((k.fits j u e).sits g).1,
              ((k.fits j u e).sits g).2,
            );
          })
          (record { keeps = known.keeps; gives = λ g. off g; sits = λ _. (placed_here k.place worker by, sits.1, sits.2) });
      fresh = k.fresh;
    }

-- the giver comes to the keeper
pub meets : (by other : ℕ) (all : List (ℕ × Told)) (given : ℕ) → Joins {S = Note} (λ s. Keeps s.views) by (knower all) other (giver given) (handing all given) nobody
meets by other all given s k at apart there =
    let known = k.fits by (knower all) at in
    let beside = k.fits other (giver given) (sym (set_else s.views by other (handing all given) apart) ∙ there) in
    record {
      roll = k.roll;
      keeper = k.keeper;
      giving = by;
      place = k.place;
      given = k.given;
      fits = fits_join k.roll k.keeper by k.place k.given s.views by other (handing all given)
          (λ j u far away e. record {
            keeps = (k.fits j u e).keeps;
            gives = λ g. absurd (away (((k.fits j u e).gives g).0 ∙ sym ((beside.gives refl).0)));
            sits = (k.fits j u e).sits;
          })
          (record { keeps = known.keeps; gives = λ _. (refl, (beside.gives refl).1); sits = λ g. off g });
      fresh = k.fresh;
    }

-- a note of the worker beside the keeper
pub writes : (slots by : ℕ) (all : List (ℕ × Told)) (worker : ℕ) (mine : List Told) (note : Note) (lent : List TreeMap) (f : ℕ → ℕ)
    → Allows (λ s. Keeps s.views) slots by (seated all worker mine, []) 0 f (Wrote lent (step slots 0 0 0 (some note)) (seated all worker mine, []))
writes slots by all worker mine note lent f s k homes at small =
    let known = k.fits by (seated all worker mine) at in
    let sits = known.sits refl in
    let keeps_all = known.keeps refl in
    let told : Told = record { note = note; lent = lent } in
    let roll = k.roll ++ (worker, told) ∷ [] in
    let agrees : mine ≡ of_worker worker all = sits.2 ∙ ap (of_worker worker) (sym keeps_all.1) in
    let w = noted (seated all worker mine) told in (
      w,
      keeps,
      tt,
      record {
        roll = roll;
        keeper = k.keeper;
        giving = k.giving;
        place = k.place;
        given = k.given;
        fits = fits_set roll k.keeper k.giving k.place k.given s.views by w
            (λ j u apart e. record {
              keeps = λ g. absurd (apart (((k.fits j u e).keeps g).0 ∙ sym keeps_all.0));
              gives = (k.fits j u e).gives;
              sits = λ g. (
                ((k.fits j u e).sits g).0,
                ((k.fits j u e).sits g).1,
                ((k.fits j u e).sits g).2 ∙ sym (of_worker-other k.roll worker u.worker told (λ n. apart (((k.fits j u e).sits g).0 ∙ (ap k.place (sym n) ∙ sym sits.0)))),
              );
            })
            (record {
              keeps = λ _. (keeps_all.0, ap (λ l. l ++ (worker, told) ∷ []) keeps_all.1);
              gives = λ g. off g;
              sits = λ _. (sits.0, sits.1, ap (λ l. l ++ told ∷ []) sits.2 ∙ sym (of_worker-here k.roll worker told));
            });
        fresh = λ other l. of_worker-other k.roll worker other told (λ n. absurd (let t = sits.1 in omega (arith, n))) ∙ k.fresh other l;
      },
      (λ other said. (ap (λ n. (noted (seated all worker mine) (record { note = n; lent = lent }), [])) (some-injective note other said), agrees)),
    )

-- the keeper looks at what is beside it
pub learns : (slots by : ℕ) (v : View) → v.keeps ≡ true
    → Allows (λ s. Keeps s.views) slots by (v, []) 0 (λ n. n) (Learnt (step slots 0 0 0 none) (v, []))
learns slots by v keeper s k homes at small =
    let known = k.fits by v at in
    let keeps_all = known.keeps keeper in (
      v,
      keeps,
      tt,
      record {
        roll = k.roll;
        keeper = k.keeper;
        giving = k.giving;
        place = k.place;
        given = k.given;
        fits = fits_set k.roll k.keeper k.giving k.place k.given s.views by v (λ j u apart e. k.fits j u e) known;
        fresh = k.fresh;
      },
      (
        refl,
        (λ sits. (known.sits sits).2 ∙ ap (of_worker v.worker) (sym keeps_all.1)),
        (λ gives worker l. ap (of_worker worker) keeps_all.1 ∙ k.fresh worker (subst (λ n. n ≤ worker) ((known.gives gives).1) l)),
      ),
    )

-- the same, at a view that is known
pub parts_as : (by : ℕ) (v : View) (all : List (ℕ × Told)) (given : ℕ) → v ≡ handing all given → Splits {S = Note} (λ s. Keeps s.views) by v (knower v.all) (giver v.given)
parts_as by v all given e = subst (λ x. Splits {S = Note} (λ s. Keeps s.views) by x (knower x.all) (giver x.given)) (sym e) (parts by all given)

pub seats_as : (by : ℕ) (v : View) (given : ℕ) → v ≡ giver given → Splits {S = Note} (λ s. Keeps s.views) by v (giver (v.given + 1)) (sitter v.given [])
seats_as by v given e = subst (λ x. Splits {S = Note} (λ s. Keeps s.views) by x (giver (x.given + 1)) (sitter x.given [])) (sym e) (seats by given)

pub cuts_as : (by : ℕ) (v : View) (all : List (ℕ × Told)) (worker : ℕ) (mine : List Told) → v ≡ seated all worker mine → Splits {S = Note} (λ s. Keeps s.views) by v (knower v.all) (sitter v.worker v.mine)
cuts_as by v all worker mine e = subst (λ x. Splits {S = Note} (λ s. Keeps s.views) by x (knower x.all) (sitter x.worker x.mine)) (sym e) (cuts by all worker mine)

pub joins_as : (by other : ℕ) (v w : View) (all : List (ℕ × Told)) (worker : ℕ) (mine : List Told) → v ≡ knower all → w ≡ sitter worker mine → Joins {S = Note} (λ s. Keeps s.views) by v other w (with_sitter v w) nobody
joins_as by other v w all worker mine e f =
    subst (λ x. Joins {S = Note} (λ s. Keeps s.views) by x other w (with_sitter x w) nobody) (sym e)
    (subst (λ y. Joins {S = Note} (λ s. Keeps s.views) by (knower all) other y (with_sitter (knower all) y) nobody) (sym f) (joins by other all worker mine))

pub meets_as : (by other : ℕ) (v w : View) (all : List (ℕ × Told)) (given : ℕ) → v ≡ knower all → w ≡ giver given → Joins {S = Note} (λ s. Keeps s.views) by v other w (with_giver v w) nobody
meets_as by other v w all given e f =
    subst (λ x. Joins {S = Note} (λ s. Keeps s.views) by x other w (with_giver x w) nobody) (sym e)
    (subst (λ y. Joins {S = Note} (λ s. Keeps s.views) by (knower all) other y (with_giver (knower all) y) nobody) (sym f) (meets by other all given))

pub writes_as : (slots by : ℕ) (me : Me Note View) (all : List (ℕ × Told)) (worker : ℕ) (mine : List Told) (note : Note) (lent : List TreeMap) (f : ℕ → ℕ) → me ≡ (seated all worker mine, [])
    → Allows (λ s. Keeps s.views) slots by me 0 f (Wrote lent (step slots 0 0 0 (some note)) me)
writes_as slots by me all worker mine note lent f e =
    subst (λ x. Allows (λ s. Keeps s.views) slots by x 0 f (Wrote lent (step slots 0 0 0 (some note)) x)) (sym e) (writes slots by all worker mine note lent f)

pub learns_as : (slots by : ℕ) (me : Me Note View) (v : View) → me ≡ (v, []) → v.keeps ≡ true
    → Allows (λ s. Keeps s.views) slots by me 0 (λ n. n) (Learnt (step slots 0 0 0 none) me)
learns_as slots by me v e keeper =
    subst (λ x. Allows (λ s. Keeps s.views) slots by x 0 (λ n. n) (Learnt (step slots 0 0 0 none) x)) (sym e) (learns slots by v keeper)

pub beside : (k m s : Me Note View) (all : List (ℕ × Told)) (worker : ℕ) (mine : List Told) → k ≡ (knower all, []) → m ≡ (sitter worker mine, []) → s ≡ (with_sitter k.0 m.0, k.1) → s ≡ (seated all worker mine, [])
beside k m s all worker mine e f g = g ∙ (ap (λ (x : Me Note View). (with_sitter x.0 m.0, x.1)) e ∙ ap (λ (y : Me Note View). (with_sitter (knower all) y.0, [])) f)

pub handed : (k m s : Me Note View) (all : List (ℕ × Told)) (given : ℕ) → k ≡ (knower all, []) → m ≡ (giver given, []) → s ≡ (with_giver k.0 m.0, k.1) → s ≡ (handing all given, [])
handed k m s all given e f g = g ∙ (ap (λ (x : Me Note View). (with_giver x.0 m.0, x.1)) e ∙ ap (λ (y : Me Note View). (with_giver (knower all) y.0, [])) f)

pub wrote : (s t : Me Note View) (all : List (ℕ × Told)) (worker : ℕ) (mine : List Told) (note : Note) (lent : List TreeMap) (n slots : ℕ) → s ≡ (seated all worker mine, []) → Wrote lent (step slots 0 0 0 (some note)) s n t
    → (t ≡ (seated (all ++ (worker, record { note = note; lent = lent }) ∷ []) worker (mine ++ record { note = note; lent = lent } ∷ []), [])) × (mine ≡ of_worker worker all)
wrote s t all worker mine note lent n slots e w =
    let w' = subst (λ (x : Me Note View). Wrote lent (step slots 0 0 0 (some note)) x n t) e w in w' note refl

pub learnt : (s t : Me Note View) (v : View) (n slots : ℕ) → s ≡ (v, []) → Learnt (step slots 0 0 0 none) s n t
    → (t ≡ (v, [])) × (v.sits ≡ true → v.mine ≡ of_worker v.worker v.all) × (v.gives ≡ true → (worker : ℕ) → v.given ≤ worker → of_worker worker v.all ≡ [])
learnt s t v n slots e w = subst (λ (x : Me Note View). Learnt (step slots 0 0 0 none) x n t) e w

pub known : (m : Me Note View) (all : List (ℕ × Told)) → m ≡ (knower all, []) → m ≡ (knower m.0.all, [])
known m all e = e ∙ sym (ap (λ (x : Me Note View). (knower x.0.all, [])) e)

pub sits_as : (m : Me Note View) (worker : ℕ) (mine : List Told) → m ≡ (sitter worker mine, []) → m ≡ (sitter m.0.worker m.0.mine, [])
sits_as m worker mine e = e ∙ sym (ap (λ (x : Me Note View). (sitter x.0.worker x.0.mine, [])) e)

pub gives_as : (m : Me Note View) (given : ℕ) → m ≡ (giver given, []) → m ≡ (giver m.0.given, [])
gives_as m given e = e ∙ sym (ap (λ (x : Me Note View). (giver x.0.given, [])) e)
