use Rattle.std.proofs.Common.{◌≡◌, ◌++◌, ◌∷◌, [], None, length, ap, ◌∙◌, rules}
use Rattle.addresses.specs.Address.{place_of}
use Rattle.addresses.proofs.PlaceFacts.{once-push, places-push}
use Rattle.addresses.proofs.addresses.Addresses.push.Goals as goal

pub invariant_of-self-2 : goal.invariant_of-self-2
invariant_of-self-2 c =
    let texts : c.push.new.self.items ≡ c.self.inside.texts.items ++ c.args.address ∷ [] = search rules in
    let fresh : place_of c.self.inside.texts.items c.args.address ≡ None = ap (λ k. place_of k c.args.address) c.self.view_is ∙ c.requires.fresh in
    let place : c.len-place.result ≡ length c.self.inside.texts.items = search rules in
    rw texts (once-push _ _ c.self.invariant.0 fresh, places-push _ _ c.in_ok-copy.field-0 c.self.inside.places.entries c.insert.new.self.entries _ c.self.invariant.1 fresh c.in_ok-copy.ensures place c.in_ok-insert.ensures.updates.0)
