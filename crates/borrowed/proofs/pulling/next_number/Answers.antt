use Rattle.std.proofs.Common.{◌≡◌, ap, sym, ◌∙◌, ◌∷◌, Some, arith}
use Rattle.json.specs.Reads.{token_of}
use Rattle.serde_json.specs.Data.{unsigned}
use Rattle.serde_json.specs.Read.{number_of}
use Rattle.borrowed.proofs.FewDigits.{number_of-few}
use Rattle.borrowed.proofs.PulledFacts.{number_is_next}
use Rattle.borrowed.proofs.pulling.next_number.Goals as goal

pub returns : goal.returns
returns c depth =
    let text = c.in-Some-Number.text.now in
    let few = c.in-Some.ensures in
    let is : number_of text ≡ Some (unsigned c.in-Some.number) =
    sym (ap number_of c.as_bytes.ensures.value) ∙ number_of-few c.as_bytes.result.now few.0 (omega (arith, few.1, few.2)) ∙ ap (λ n. Some (unsigned n)) (sym few.1) in
    number_is_next depth c.args.reader.now c.next.new.self text c.in-Some.number (c.in-Some-Number.ensures.value ∙ ap (λ t. token_of t ∷ c.next.new.self) c.in-Some-Number.field-0-is) is (omega (arith, c.if-number.false))
