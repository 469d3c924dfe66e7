use Rattle.std.proofs.Common.{◌≡◌, true, false, [], ◌∷◌, Some, None, ap, sym, ◌∙◌, arith}
use Rattle.std.proofs.lemmas.Bool.Decides.{Decides-eqb}
use Rattle.std.proofs.lemmas.Slice.Eq.{strip_prefix_is}
use Rattle.serde_json.specs.Data.{unsigned}
use Rattle.serde_json.specs.Read.{number_of, number_from}
use Rattle.borrowed.proofs.FewDigits.{number_of-few}
use Rattle.borrowed.proofs.NumberFacts.{number_of-minus, number_of-digits}
use Rattle.borrowed.proofs.numbers.read_number.Goals as goal

pub returns-in-Some : goal.returns-in-Some
returns-in-Some c =
    let few = c.in-Some.ensures in
    ap Some (c.from.ensures ∙ ap unsigned few.1) ∙ sym (number_of-few c.as_bytes-bytes.result.now few.0 (omega (arith, few.1, few.2))) ∙ ap number_of c.as_bytes-bytes.ensures.value

pub returns-in-Some-strip_prefix : goal.returns-in-Some-strip_prefix
returns-in-Some-strip_prefix c =
    let text = c.as_bytes-bytes.result.now in
    let digits = c.in-Some-strip_prefix.digits.now in
    let is : text ≡ 45 ∷ digits = strip_prefix_is Decides-eqb text (45 ∷ []) (Some c.in-Some-strip_prefix.digits) c.in-Some-strip_prefix.ensures.cases in
    c.read_negative.ensures ∙ ap (number_from true) c.scan.ensures.parts ∙ sym (number_of-minus digits) ∙ ap number_of (sym is ∙ c.as_bytes-bytes.ensures.value)

pub returns-in-None : goal.returns-in-None
returns-in-None c =
    let text = c.as_bytes-bytes.result.now in
    let none = strip_prefix_is Decides-eqb text (45 ∷ []) None c.in-None.ensures.cases in
    c.read_positive.ensures ∙ ap (number_from false) c.scan-in-None.ensures.parts ∙ sym (number_of-digits text (λ digits e. none digits e)) ∙ ap number_of c.as_bytes-bytes.ensures.value
