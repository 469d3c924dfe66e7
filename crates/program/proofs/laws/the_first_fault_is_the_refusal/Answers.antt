use Rattle.program.proofs.FirstFacts.{TextLaws, NamesRefused, TableLaws, BundleLaws, failing, first, refused, free, accepted}
use Rattle.program.proofs.laws.the_first_fault_is_the_refusal.Goals as goal

pub returns : goal.returns
returns c =
    let texts : TextLaws = record { exists = c.each_text_has_its_faults.ensures.exists; refused = c.the_first_fault_is_the_refusal.ensures.refused } in
    let names : NamesRefused = c.the_first_fault_is_the_refusal-2.ensures.refused in
    let tables : TableLaws = record { refused = c.the_first_fault_is_the_refusal-3.ensures.refused; accepted = c.the_first_fault_is_the_refusal-3.ensures.evaluated } in
    let bundles : BundleLaws = record {
      asks = λ bytes. (let answer = c.every_bundle_has_an_answer.ensures bytes failing in (answer.2.asked, answer.2.asks));
      unique = c.each_bundle_has_its_faults.ensures.unique;
    } in
    record { first = first texts names tables bundles; refused = refused texts names tables; free = free texts names tables bundles; accepted = accepted tables }
