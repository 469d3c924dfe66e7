use Rattle.std.proofs.Common.{◌≡◌, ◌+◌, ◌*◌, [], refl, sym, ap, ◌∙◌, subst, drop, arith, rules}
use Rattle.counted.proofs.GatheringFacts.{says_as}
use Rattle.entries.specs.PrivateTogether.{text_behind_rows, HavePrinted}
use Rattle.entries.proofs.TogetherFacts.{positive, text-done}
use Rattle.entries.proofs.together.put_rounds.Goals as goal

pub loop-round-init : goal.loop-round-init
loop-round-init g c = record {
  said = λ rows past last rest. rest;
  printed = λ rows past. c.print_round.ensures.printed rows 0 refl past;
  shares = first_of (omega arith, search rules);
  blocks = c.requires.blocks;
  room = c.requires.room;
}

pub loop-round-preserved : goal.loop-round-preserved
loop-round-preserved g c =
    let at = c.loop-round.round * 6144 in
    let said = c.put_and_print-said.result in
    record {
      said = λ rows past last rest.
          let given = c.exchange.ensures.printed rows at (c.loop-round.invariant.printed rows past) in
          let all : said ≡ 3 = omega (arith, given.1.count) in
          let e : (c.loop-round.round + 1) * 6144 ≡ at + said * 2048 = omega arith in
          c.loop-round.invariant.said rows past last (c.put_and_print-said.ensures.says rows at given.1 last (says_as rest (ap (text_behind_rows rows) e)));
      printed = λ rows past.
          let given = c.exchange.ensures.printed rows at (c.loop-round.invariant.printed rows past) in
          let e : at + 6144 ≡ (c.loop-round.round + 1) * 6144 = omega arith in
          subst (λ k. HavePrinted rows k c.put_and_print-said.new.shares) e
          (c.put_and_print-said.ensures.printed.printed rows (at + 6144) (sym (positive (at + 6144) (omega arith))) given.0);
      shares = first_of (omega arith, search rules);
      blocks = first_of (omega arith, search rules);
      room = c.put_and_print-said.ensures.room;
    }

pub returns-then-said-lt-SHARES-clause-says : goal.returns-then-said-lt-SHARES-clause-says
returns-then-said-lt-SHARES-clause-says g c = λ rows past last rest.
    let at = c.loop-round.round * 6144 in
    let given = c.exchange.ensures.printed rows at (c.loop-round.invariant.printed rows past) in
    c.loop-round.invariant.said rows past last (c.put_and_print-said.ensures.says rows at given.1 last rest)

pub returns-then-not-more-clause-says : goal.returns-then-not-more-clause-says
returns-then-not-more-clause-says g c = λ rows past last rest.
    let at = c.loop-round.round * 6144 in
    let said = c.put_and_print-said.result in
    let given = c.exchange.ensures.printed rows at (c.loop-round.invariant.printed rows past) in
    let all : said ≡ 3 = omega (arith, given.1.count) in
    let none : drop (at + 6144) rows ≡ [] = (given.0.each 0 c.index-shares-0.result (omega arith)).ended c.if-not-more.true in
    let e : at + said * 2048 ≡ at + 6144 = omega arith in
    c.loop-round.invariant.said rows past last
    (c.put_and_print-said.ensures.says rows at given.1 last (says_as rest (text-done rows (at + said * 2048) (ap (λ k. drop k rows) e ∙ none))))

pub returns-clause-says : goal.returns-clause-says
returns-clause-says g c = λ rows past last rest.
    let end : c.loop-round.round ≡ 4294967295 = omega arith in
    c.loop-round.invariant.said rows past last (says_as rest (ap (λ n. text_behind_rows rows (n * 6144)) (sym end)))
