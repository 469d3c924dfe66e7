use Rattle.std.proofs.Common.{◌<◌, ◌≤◌, length, sym, ap, ◌∙◌, arith}
use Rattle.std.proofs.lemmas.List.{drop_all}
use Rattle.json.specs.Print.{escape}
use Rattle.paths.specs.Path.{rooted}
use Rattle.counted.proofs.GatheringFacts.{says_none, says_both, says_as}
use Rattle.trees.specs.Rows.{lent_names}
use Rattle.entries.proofs.PrintingFacts.{names-from}
use Rattle.entries.proofs.printing.put_names.Goals as goal

pub loop-name-preserved : goal.loop-name-preserved
loop-name-preserved g c =
    let names = c.args.names.now in
    let lt : c.loop-name.name-index < length names = omega arith in
    record {
      said = λ last rest.
          c.loop-name.invariant.said last (says_as (says_both c.put_name.ensures.says rest)
          (names-from names c.name-item.result c.as_bytes.result.now c.loop-name.name-index lt c.name-item.is (c.as_bytes.ensures.value ∙ c.as_str.ensures)));
      room = c.put_name.ensures.room;
    }

pub returns-clause-says : goal.returns-clause-says
returns-clause-says g c =
    let names = c.args.names.now in
    let past : length names ≤ c.loop-name.name-index = omega arith in
    c.loop-name.invariant.said _ (says_as (says_none _) (ap (λ ns. escape (rooted (lent_names ns))) (sym (drop_all c.loop-name.name-index names past))))
