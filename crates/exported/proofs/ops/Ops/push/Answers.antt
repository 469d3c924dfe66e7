use Rattle.std.proofs.Common.{◌≡◌, ◌++◌, ◌∷◌, [], None, length, ap, sym, ◌∙◌, rules}
use Rattle.exported.specs.Places.{digest_of}
use Rattle.exported.specs.Exporting.{op_at}
use Rattle.exported.proofs.OpsFacts.{numbers_more}
use Rattle.exported.proofs.ops.Ops.push.Goals as goal

pub invariant_of-self-2 : goal.invariant_of-self-2
invariant_of-self-2 c =
    let bytes : c.push.new.self.items ≡ c.self.inside.bytes.items ++ c.args.bytes ∷ [] = search rules in
    let fresh : op_at c.self.inside.bytes.items (digest_of c.args.bytes) ≡ None =
    ap (λ ops. op_at ops (digest_of c.args.bytes)) c.self.view_is ∙ (sym (ap (op_at _) c.requires.digest) ∙ c.requires.fresh) in
    let number : c.len-number.result ≡ length c.self.inside.bytes.items = search rules in
    rw bytes (numbers_more _ _ c.in_ok-copy.field-0 c.self.inside.numbers.entries c.insert.new.self.entries _ c.self.invariant fresh (c.in_ok-copy.ensures ∙ c.requires.digest) number c.in_ok-insert.ensures.updates.0)
