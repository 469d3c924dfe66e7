use Rattle.std.proofs.Common.{◌≡◌, [], ◌∷◌, sym, ap, refl, ◌∙◌, subst}
use Rattle.std.specs.Option.{option_to_list}
use Rattle.std.specs.FinMap.{entries}
use Rattle.trees.specs.PrivateNode.{map_of}
use Rattle.trees.specs.PrivateWalk.{rows_of}
use Rattle.trees.proofs.WalkSteps.{Gives, gives_on, gives_past, has_room, is_named, leaves, stay_first}
use Rattle.trees.proofs.walk.step.Goals as goal
use Rattle.trees.proofs.walk.step.Goals.{then-not-is_bare, else-not-is_bare}

pub loop-name-init : goal.loop-name-init
loop-name-init c =
    let now = c.leave_bare.ensures c.args.kids.now c.args.are_bare.now c.requires in
    record { way = now.way; level = now.level; same = now.same; first = now.first }

pub unwrap-requires : goal.unwrap-requires
unwrap-requires c =
    c.push.ensures.succeeds (has_room c.loop-name.names c.loop-name.above c.loop-name.kids c.next.new.self c.loop-name.are_bare c.in-Some.name c.in-Some.kid c.loop-name.invariant.way c.loop-name.invariant.level c.in-Some.ensures).0

pub unwrap-requires-then-not-is_bare : goal.unwrap-requires-then-not-is_bare
unwrap-requires-then-not-is_bare c =
    c.push-then-not-is_bare.ensures.succeeds (has_room c.loop-name.names c.loop-name.above c.loop-name.kids c.next.new.self c.loop-name.are_bare c.in-Some.name c.in-Some.kid c.loop-name.invariant.way c.loop-name.invariant.level c.in-Some.ensures).1

pub loop-name-preserved : goal.loop-name-preserved
loop-name-preserved c =
    let old = c.loop-name.names in
    let new = c.pop-in-loop-name.new.self in
    let above = c.pop.new.self in
    let some = c.pop-in-loop-name.ensures.variant.1 (is_named old c.loop-name.above above c.in-Some-pop.left c.loop-name.invariant.level c.in-Some-pop.ensures.items) in
    let left = leaves old new c.loop-name.above above c.loop-name.kids c.in-Some-pop.left c.loop-name.are_bare c.pop-in-loop-name.result
    c.loop-name.invariant.way c.loop-name.invariant.level c.in_default.ensures.0 c.in-Some-pop.ensures.items c.pop-in-loop-name.ensures.items some c.in-Some-pop.ensures.capacity c.pop-in-loop-name.ensures.capacity in
    record {
      way = left.0;
      level = left.1.0;
      same = left.1.1 ∙ c.loop-name.invariant.same;
      first = stay_first c.args.names.now.items old.items new.items (option_to_list c.pop-in-loop-name.result) c.loop-name.invariant.first c.pop-in-loop-name.ensures.items;
    }

gives : (c : goal.Joined-not-is_bare) → Gives c.loop-name.names c.push.new.self c.loop-name.above c.if-not-is_bare.above c.loop-name.kids c.if-not-is_bare.kids c.if-not-is_bare.are_bare c.in-Some.kid.top
gives c =
    let old = c.loop-name.names in
    let names = c.push.new.self in
    let above = c.loop-name.above in
    let kids = c.loop-name.kids in
    let rest = c.next.new.self in
    let entry = c.in-Some.kid.top in
    let kid = c.in-Some.kid in
    let top = kid.top in
    let way = c.loop-name.invariant.way in
    let level = c.loop-name.invariant.level in
    let named = rw c.unwrap.ensures at c.push.ensures.items in
    elim c.if-not-is_bare.branch [
      | then-not-is_bare w ↦
          let below = w.replace-left.new.dest in
          let own : entries (map_of kid) ≡ ([], top) ∷ rows_of below = w.kids.ensures ∙ ap (λ kids. ([], top) ∷ rows_of kids) (sym w.replace-left.ensures.after) in
          let pushed = rw w.unwrap-then-not-is_bare.ensures at w.push-then-not-is_bare.ensures.items in
          let given = gives_on old names above w.push-then-not-is_bare.new.self kids rest below w.replace-left.result c.loop-name.are_bare w.has_bare_kids.result c.in-Some.name kid entry
          way level c.in-Some.ensures own w.replace-left.ensures.value pushed named w.push-then-not-is_bare.ensures.capacity c.push.ensures.capacity (λ known. w.has_bare_kids.ensures known below own) refl in
          subst (λ above'. Gives old names above above' kids c.if-not-is_bare.kids c.if-not-is_bare.are_bare entry) (sym w.above-is)
          (subst (λ kids'. Gives old names above w.push-then-not-is_bare.new.self kids kids' c.if-not-is_bare.are_bare entry) (sym w.kids-is)
          (subst (λ are_bare'. Gives old names above w.push-then-not-is_bare.new.self kids below are_bare' entry) (sym w.are_bare-is) given))
      | else-not-is_bare w ↦
          let given = gives_past old names above kids rest c.loop-name.are_bare c.in-Some.name kid entry way level c.in-Some.ensures (w.if-not-is_bare.ensures refl) named c.push.ensures.capacity refl in
          subst (λ above'. Gives old names above above' kids c.if-not-is_bare.kids c.if-not-is_bare.are_bare entry) (sym w.above-is)
          (subst (λ kids'. Gives old names above above kids kids' c.if-not-is_bare.are_bare entry) (sym w.kids-is)
          (subst (λ are_bare'. Gives old names above above kids rest are_bare' entry) (sym w.are_bare-is) given))
    ]

pub returns-in-Some-clause-next : goal.returns-in-Some-clause-next
returns-in-Some-clause-next c = sym c.loop-name.invariant.same ∙ (gives c).rows

pub returns-in-Some-clause-way : goal.returns-in-Some-clause-way
returns-in-Some-clause-way c = (gives c).way
