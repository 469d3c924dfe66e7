use Rattle.std.proofs.Common.{◌≡◌, List, ℕ, [], None, Some, arith, bytes_eq, ap, sym, ◌∙◌}
use Rattle.std.specs.Option.{option_map}
use Rattle.exported.specs.Exporting.{op_at}
use Rattle.exported.specs.PrivateExporting.{number_at}
use Rattle.exported.proofs.OpsFacts.{op_none, op_some}
use Rattle.exported.proofs.ops.Ops.is_same.Goals as goal

pub returns-in-None-get : goal.returns-in-None-get
returns-in-None-get c =
    let same : c.deref.result.now ≡ c.args.self.now = cc in
    let number : number_at c.args.self.now c.args.digest.now ≡ Some c.in-Some.number = cc in
    let none : op_at c.args.self.now c.args.digest.now ≡ None = op_none c.args.self.now c.deref.result.now c.args.digest.now c.in-Some.number same number c.in-None-get.ensures.lookup.3 in
    sym (ap (option_map (λ (other : List ℕ). bytes_eq other c.args.bytes.now)) none)

pub returns-in-Some-get : goal.returns-in-Some-get
returns-in-Some-get c =
    let same : c.deref.result.now ≡ c.args.self.now = cc in
    let number : number_at c.args.self.now c.args.digest.now ≡ Some c.in-Some.number = cc in
    let some : op_at c.args.self.now c.args.digest.now ≡ Some c.in-Some-get.other.now =
    op_some c.args.self.now c.deref.result.now c.args.digest.now c.in-Some-get.other.now c.in-Some.number same number c.in-Some-get.ensures.lookup.3.0 (c.in-Some-get.ensures.lookup.4 (omega arith) []) in
    let equal : c.eq.result ≡ bytes_eq c.in-Some-get.other.now c.args.bytes.now = cc in
    ap Some equal ∙ sym (ap (option_map (λ (other : List ℕ). bytes_eq other c.args.bytes.now)) some)
