use Rattle.std.proofs.Common.{◌≡◌, ◌∙◌, ap, subst, List, ℕ, is_some, ◌∷◌, [], true}
use Rattle.std.specs.FinMap.{get}
use Rattle.trees.specs.declared.entry.Entry.TheVariants.{Directory}
use Rattle.trees.specs.Copy.{changes_of}
use Rattle.trees.specs.PrivateCopy.{Comes}
use Rattle.trees.specs.PrivateNode.{NodeValue, map_of}
use Rattle.trees.proofs.FolderDone.{is-whole, is-deep}
use Rattle.trees.proofs.folder.whole_folder.Goals as goal

pub returns : goal.returns
returns c = λ into.
    is-whole (map_of c.args.root.now) c.args.dest.now (changes_of c.args.options.now into c.args.from.now c.args.dest.now c.args.sources.now) c.leaf-joined.result c.join_sources.new.joined (ap (λ (n : NodeValue). n.top) c.leaf-joined.ensures ∙ ap Directory c.directory.ensures) (ap (λ (n : NodeValue). n.below) c.leaf-joined.ensures)
    (c.is_free_below.ensures.free c.if-not-is_free_below.false) (subst (λ (n : NodeValue). (name : List ℕ) × (is_some (get n.below (name ∷ [])) ≡ true)) c.lent.ensures (c.is_bare.ensures.full c.if-is_bare.false))
    (subst (Comes c.args.dest.now (changes_of c.args.options.now into c.args.from.now c.args.dest.now c.args.sources.now) (map_of c.leaf-joined.result) (map_of c.join_sources.new.joined)) c.in-All.is (c.in_ok-join_sources.ensures into))

pub returns-in-TooDeep : goal.returns-in-TooDeep
returns-in-TooDeep c = λ into.
    is-deep (map_of c.args.root.now) c.args.dest.now (changes_of c.args.options.now into c.args.from.now c.args.dest.now c.args.sources.now) c.leaf-joined.result (ap (λ (n : NodeValue). n.top) c.leaf-joined.ensures ∙ ap Directory c.directory.ensures) (ap (λ (n : NodeValue). n.below) c.leaf-joined.ensures)
    (c.is_free_below.ensures.free c.if-not-is_free_below.false)
    (subst (Comes c.args.dest.now (changes_of c.args.options.now into c.args.from.now c.args.dest.now c.args.sources.now) (map_of c.leaf-joined.result) (map_of c.join_sources.new.joined)) c.in-TooDeep.is (c.in_ok-join_sources.ensures into))
