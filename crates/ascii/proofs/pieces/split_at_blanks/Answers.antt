use Rattle.std.proofs.Common.{rules, map, length, ap, arith}
use Rattle.std.proofs.lemmas.List.{map_push}
use Rattle.ascii.specs.Pieces.{from_blank}
use Rattle.ascii.specs.Blanks.{after_blanks}
use Rattle.ascii.proofs.BlankLaws.{after_blanks-twice}
use Rattle.ascii.proofs.PieceLaws.{pieces-after_blanks, IsCut, cut, found_more}
use Rattle.ascii.proofs.pieces.split_at_blanks.Goals as goal

pub loop-rest-init : goal.loop-rest-init
loop-rest-init c = record {
  utf8 = search rules;
  trimmed = rw c.after_blanks-rest.ensures (after_blanks-twice c.args.text.now);
  found = rw (c.new-found.ensures.items, c.after_blanks-rest.ensures) (pieces-after_blanks c.args.text.now);
}

pub loop-rest-smaller : goal.loop-rest-smaller
loop-rest-smaller c =
    let is : IsCut c.loop-rest.rest.now = cut c.loop-rest.rest.now c.loop-rest.invariant.trimmed (search rules) in
    omega (arith, is.less, ap length c.first_piece.ensures.behind)

pub loop-rest-preserved : goal.loop-rest-preserved
loop-rest-preserved c =
    let is : IsCut c.loop-rest.rest.now = cut c.loop-rest.rest.now c.loop-rest.invariant.trimmed (search rules) in
    record {
      utf8 = search rules;
      trimmed = rw c.first_piece.ensures.behind (after_blanks-twice (from_blank (after_blanks c.loop-rest.rest.now)));
      found = found_more (map (λ piece. piece.now) c.loop-rest.found.items) (map (λ piece. piece.now) c.push.new.self.items) c.args.text.now c.loop-rest.rest.now
          c.first_piece.result.0.now c.first_piece.result.1.now is c.loop-rest.invariant.found c.first_piece.ensures.piece c.first_piece.ensures.behind
          (search (rules, map_push));
    }
