use Rattle.std.proofs.Common.{◌≡◌, ◌∙◌, ℕ, List, true, sym, ap, subst, refl, arith, length}
use Rattle.std.specs.Option.{is_some}
use Rattle.std.specs.FinMap.{get}
use Rattle.paths.specs.Path.{IsClean}
use Rattle.trees.specs.Put.{cause_at, planted}
use Rattle.trees.specs.TreeMap.{TreeMap, directory_meta}
use Rattle.trees.specs.declared.entry.Entry.TheVariants.{Directory}
use Rattle.trees.specs.declared.meta.Meta.{Meta}
use Rattle.trees.proofs.TreeLaws.{get-placed}
use Rattle.contexts.specs.PrivatePlaces.{HasModes}
use Rattle.contexts.proofs.Rows.{front-all, front-less, front-at, length-more}
use Rattle.contexts.proofs.Folders.{modes-start, modes-skip, modes-more, modes-no-cause}
use Rattle.contexts.proofs.places.set_modes.Goals as goal
use Rattle.contexts.proofs.places.set_modes.Goals.{then-stands+in_ok-place, else-stands}

pub loop-path-init : goal.loop-path-init
loop-path-init c = record {
  front = front-all c.args.folders.items;
  modes = modes-start c.args.folders.items c.args.before c.requires c.args.before refl (length c.args.folders.items) (omega arith);
}

pub place-requires : goal.place-requires
place-requires c =
    let e = c.in-Some.ensures.items in
    let folders = c.args.folders.items in
    let k = c.pop.new.self.items in
    let folder : List (List ℕ) × Meta = (c.in-Some.path, c.in-Some.meta) in
    let here = front-at c.loop-path.left.items k folders folder e c.loop-path.invariant.front in
    let modes = subst (λ (n : ℕ). HasModes folders n c.args.before c.loop-path.tree) (length-more c.loop-path.left.items k folder e) c.loop-path.invariant.modes in
    let clean : IsClean c.in-Some.path = subst IsClean c.path.view_is c.path.invariant in
    let some : is_some (get c.loop-path.tree c.in-Some.path) ≡ true = sym c.stands.ensures.value ∙ c.if-stands.true in
    ap (λ m. cause_at (get c.loop-path.tree) c.in-Some.path (Directory m)) c.owned_meta.ensures ∙ modes-no-cause folders c.args.before c.requires (length k) folder here c.loop-path.tree modes c.stands.ensures.tree clean some

pub loop-path-preserved : goal.loop-path-preserved
loop-path-preserved c =
    let e = c.in-Some.ensures.items in
    let folders = c.args.folders.items in
    let k = c.pop.new.self.items in
    let folder : List (List ℕ) × Meta = (c.in-Some.path, c.in-Some.meta) in
    let here = front-at c.loop-path.left.items k folders folder e c.loop-path.invariant.front in
    let modes = subst (λ (n : ℕ). HasModes folders n c.args.before c.loop-path.tree) (length-more c.loop-path.left.items k folder e) c.loop-path.invariant.modes in
    record {
      front = front-less c.loop-path.left.items k folders folder e c.loop-path.invariant.front;
      modes = elim c.if-stands.branch [
        | then-stands+in_ok-place w ↦ subst (λ (t : TreeMap). HasModes folders (length k) c.args.before t) (sym w.tree-is)
            (modes-more folders c.args.before c.requires (length k) folder here c.loop-path.tree modes c.stands.ensures.tree (sym c.stands.ensures.value ∙ w.if-stands.true) w.place.new.self
            (λ q. ap (λ (t : TreeMap). get t q) w.in_ok-place.ensures.ok ∙ get-placed directory_meta c.loop-path.tree c.in-Some.path (Directory w.owned_meta.result) q ∙ ap (λ m. planted (get c.loop-path.tree) c.in-Some.path directory_meta (Directory m) q) w.owned_meta.ensures))
        | else-stands w ↦ subst (λ (t : TreeMap). HasModes folders (length k) c.args.before t) (sym w.tree-is)
            (modes-skip folders c.args.before c.requires (length k) folder here c.loop-path.tree modes (sym c.stands.ensures.value ∙ w.if-stands.false))
      ];
    }

pub returns : goal.returns
returns c =
    let none = c.in_default.ensures.cases in
    let count : length c.loop-path.left.items ≡ 0 = sym c.loop-path.left.ok.0 ∙ none.0 in
    subst (λ (n : ℕ). HasModes c.args.folders.items n c.args.before c.loop-path.tree) count c.loop-path.invariant.modes
