use Rattle.std.proofs.Common.{◌≡◌, ◌-◌, ◌∙◌, refl, rules, arith, ap}
use Rattle.words.specs.Flag.{behind_pieces}
use Rattle.pointed.proofs.SpotFacts.{one-piece}
use Rattle.pointed.proofs.spot.after_pieces.Goals as goal

pub pieces-init : goal.pieces-init
pieces-init c = record { utf8 = search rules; same = refl }

pub pieces-preserved : goal.pieces-preserved
pieces-preserved c = record {
  utf8 = search rules;
  same = one-piece c.pieces.left (c.pieces.left - 1) c.pieces.rest.now _ _ (omega arith) refl c.first_piece.ensures.behind c.pieces.invariant.same;
}

pub returns : goal.returns
returns c =
    let none : 0 ≡ c.pieces.left = omega arith in
    c.after_blanks.ensures ∙ ap (λ n. behind_pieces n c.pieces.rest.now) none ∙ c.pieces.invariant.same
