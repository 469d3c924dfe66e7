use Rattle.std.proofs.Common.{◌≡◌, ◌==◌, [], ◌∷◌, ◌++◌, rules, sym, ap, ◌∙◌, subst}
use prog.Atomic.{either}
use Rattle.rolls.specs.declared.note.Told.{Told}
use Rattle.rolls.specs.Rolls.{knower, of_worker}
use Rattle.rolls.proofs.Moves.{spares, joins_as, beside, cuts_as, wrote, writes_as, known}
use Rattle.rolls.proofs.roll.Roll.write_named.Goals as goal

pub split_seat-spare-requires : goal.split_seat-spare-requires
split_seat-spare-requires g c = (search rules, search rules, spares _ _)

pub join_seat-requires : goal.join_seat-requires
join_seat-requires g c =
    let i = c.self.invariant in
    let j = c.slip.invariant in
    let a = c.split_seat-spare.ensures in
    let r = c.replace-mine.ensures.value in (
      a.0 ∙ (i.2 ∙ sym i.0),
      ap (λ s. s.table_id) r ∙ (j.0 ∙ sym i.0),
      ap (λ s. s.me.1) r ∙ ap (λ m. m.1) j.1,
      search rules,
      joins_as _ _ _ _ _ _ _ (ap (λ m. m.0) (a.2 ∙ i.3)) (ap (λ s. s.me.0) r ∙ ap (λ m. m.0) j.1),
    )

pub compare_exchange_with-requires : goal.compare_exchange_with-requires
compare_exchange_with-requires g c =
    let i = c.self.invariant in
    let j = c.slip.invariant in
    let a = c.split_seat-spare.ensures in
    let r = c.replace-mine.ensures.value in
    let b = c.join_seat.ensures in
    (b.0 ∙ (a.0 ∙ (i.2 ∙ sym i.0)), search rules, writes_as _ _ _ _ _ _ _ g.L.Lends.lent (λ n. either (n == 0) 0 n) (beside _ _ _ _ _ _ (a.2 ∙ i.3) (ap (λ s. s.me) r ∙ j.1) b.2))

pub split_seat-requires : goal.split_seat-requires
split_seat-requires g c =
    let i = c.self.invariant in
    let j = c.slip.invariant in
    let a = c.split_seat-spare.ensures in
    let r = c.replace-mine.ensures.value in
    let b = c.join_seat.ensures in
    let w = c.compare_exchange_with.ensures in
    let written = wrote c.join_seat.new.seat.me c.compare_exchange_with.new.seat.me c.self.inside.keeper.me.0.all c.slip.inside.seat.me.0.worker c.slip.inside.seat.me.0.mine c.args.note g.L.Lends.lent c.compare_exchange_with.result c.self.inside.table.shared.table_id.slots (beside _ _ _ _ _ _ (a.2 ∙ i.3) (ap (λ s. s.me) r ∙ j.1) b.2) w.2 in
    (w.0 ∙ (b.0 ∙ (a.0 ∙ (i.2 ∙ sym i.0))), search rules, cuts_as _ _ _ _ _ (ap (λ m. m.0) written.0))

pub invariant_of-self : goal.invariant_of-self
invariant_of-self g c =
    let i = c.self.invariant in
    let j = c.slip.invariant in
    let a = c.split_seat-spare.ensures in
    let r = c.replace-mine.ensures.value in
    let b = c.join_seat.ensures in
    let w = c.compare_exchange_with.ensures in
    let written = wrote c.join_seat.new.seat.me c.compare_exchange_with.new.seat.me c.self.inside.keeper.me.0.all c.slip.inside.seat.me.0.worker c.slip.inside.seat.me.0.mine c.args.note g.L.Lends.lent c.compare_exchange_with.result c.self.inside.table.shared.table_id.slots (beside _ _ _ _ _ _ (a.2 ∙ i.3) (ap (λ s. s.me) r ∙ j.1) b.2) w.2 in
    let d = c.split_seat.ensures in
    (i.0, i.1, d.0 ∙ (w.0 ∙ (b.0 ∙ (a.0 ∙ i.2))), known _ _ (d.2 ∙ ap (λ x. (knower x.0.all, x.1)) written.0))

pub returns-clause-agrees : goal.returns-clause-agrees
returns-clause-agrees g c =
    let i = c.self.invariant in
    let j = c.slip.invariant in
    let a = c.split_seat-spare.ensures in
    let r = c.replace-mine.ensures.value in
    let b = c.join_seat.ensures in
    let w = c.compare_exchange_with.ensures in
    let written = wrote c.join_seat.new.seat.me c.compare_exchange_with.new.seat.me c.self.inside.keeper.me.0.all c.slip.inside.seat.me.0.worker c.slip.inside.seat.me.0.mine c.args.note g.L.Lends.lent c.compare_exchange_with.result c.self.inside.table.shared.table_id.slots (beside _ _ _ _ _ _ (a.2 ∙ i.3) (ap (λ s. s.me) r ∙ j.1) b.2) w.2 in
    subst (λ s. s.mine ≡ of_worker s.worker c.args.self.now) c.slip.view_is (subst (λ l. c.slip.inside.seat.me.0.mine ≡ of_worker c.slip.inside.seat.me.0.worker l) c.self.view_is written.1)

pub returns-clause-roll : goal.returns-clause-roll
returns-clause-roll g c =
    let i = c.self.invariant in
    let j = c.slip.invariant in
    let a = c.split_seat-spare.ensures in
    let r = c.replace-mine.ensures.value in
    let b = c.join_seat.ensures in
    let w = c.compare_exchange_with.ensures in
    let written = wrote c.join_seat.new.seat.me c.compare_exchange_with.new.seat.me c.self.inside.keeper.me.0.all c.slip.inside.seat.me.0.worker c.slip.inside.seat.me.0.mine c.args.note g.L.Lends.lent c.compare_exchange_with.result c.self.inside.table.shared.table_id.slots (beside _ _ _ _ _ _ (a.2 ∙ i.3) (ap (λ s. s.me) r ∙ j.1) b.2) w.2 in
    let d = c.split_seat.ensures in
    let told : Told = record { note = c.args.note; lent = g.L.Lends.lent } in
    ap (λ x. x.0.all) (d.2 ∙ ap (λ x. (knower x.0.all, x.1)) written.0) ∙ (ap (λ l. l ++ (c.slip.inside.seat.me.0.worker, told) ∷ []) c.self.view_is ∙ ap (λ s. c.args.self.now ++ (s.worker, told) ∷ []) c.slip.view_is)
