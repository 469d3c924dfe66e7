use Rattle.std.specs.Prelude.{◌≡◌, ℕ, ◌%◌, false, Option, Some, List, nat_eq, is_ok, IfSome}
use Rattle.std.proofs.Common.{ap, sym, subst, ◌∙◌}
use Rattle.std.specs.List.{list_any}
use Rattle.std.specs.List.Sorted.{IsNonDecreasing}
use Rattle.std.proofs.lemmas.List.Elements.{All-set}
use Rattle.entries.proofs.FingerprintFacts.{search-tells}
use Rattle.entries.proofs.sought.Sought.contains.Goals as goal

pub returns-then-is_ok-clause-found : goal.returns-then-is_ok-clause-found
returns-then-is_ok-clause-found c =
    let searched : is_ok c.binary_search.result ≡ list_any (nat_eq c.args.number) c.deref.result.now =
    search-tells c.deref.result.now c.args.number c.binary_search.result (subst IsNonDecreasing (sym c.deref.ensures.value) c.self.invariant.0) c.binary_search.ensures.position in
    let told : c.is_ok.result ≡ list_any (nat_eq c.args.number) c.self.inside.numbers.items =
    c.is_ok.ensures.value ∙ searched ∙ ap (λ (numbers : List ℕ). list_any (nat_eq c.args.number) numbers) c.deref.ensures.value in
    sym c.if-is_ok.true ∙ told ∙ ap (λ (numbers : List ℕ). list_any (nat_eq c.args.number) numbers) c.self.view_is

pub invariant_of-self : goal.invariant_of-self
invariant_of-self c =
    let searched : is_ok c.binary_search.result ≡ list_any (nat_eq c.args.number) c.deref.result.now =
    search-tells c.deref.result.now c.args.number c.binary_search.result (subst IsNonDecreasing (sym c.deref.ensures.value) c.self.invariant.0) c.binary_search.ensures.position in
    let told : c.is_ok.result ≡ list_any (nat_eq c.args.number) c.self.inside.numbers.items =
    c.is_ok.ensures.value ∙ searched ∙ ap (λ (numbers : List ℕ). list_any (nat_eq c.args.number) numbers) c.deref.ensures.value in (
      c.self.invariant.0,
      All-set (λ (place : Option ℕ). IfSome place (λ number. list_any (nat_eq number) c.self.inside.numbers.items ≡ false)) c.self.inside.missed.items (c.args.number % 32768) (Some c.args.number)
          (sym told ∙ c.if-is_ok.false) c.self.invariant.1,
    )

pub returns-then-place-len-clause-found : goal.returns-then-place-len-clause-found
returns-then-place-len-clause-found c =
    let searched : is_ok c.binary_search.result ≡ list_any (nat_eq c.args.number) c.deref.result.now =
    search-tells c.deref.result.now c.args.number c.binary_search.result (subst IsNonDecreasing (sym c.deref.ensures.value) c.self.invariant.0) c.binary_search.ensures.position in
    let told : c.is_ok.result ≡ list_any (nat_eq c.args.number) c.self.inside.numbers.items =
    c.is_ok.ensures.value ∙ searched ∙ ap (λ (numbers : List ℕ). list_any (nat_eq c.args.number) numbers) c.deref.ensures.value in
    sym c.if-is_ok.false ∙ told ∙ ap (λ (numbers : List ℕ). list_any (nat_eq c.args.number) numbers) c.self.view_is

pub returns-else-place-len-clause-found : goal.returns-else-place-len-clause-found
returns-else-place-len-clause-found c =
    let searched : is_ok c.binary_search.result ≡ list_any (nat_eq c.args.number) c.deref.result.now =
    search-tells c.deref.result.now c.args.number c.binary_search.result (subst IsNonDecreasing (sym c.deref.ensures.value) c.self.invariant.0) c.binary_search.ensures.position in
    let told : c.is_ok.result ≡ list_any (nat_eq c.args.number) c.self.inside.numbers.items =
    c.is_ok.ensures.value ∙ searched ∙ ap (λ (numbers : List ℕ). list_any (nat_eq c.args.number) numbers) c.deref.ensures.value in
    sym c.if-is_ok.false ∙ told ∙ ap (λ (numbers : List ℕ). list_any (nat_eq c.args.number) numbers) c.self.view_is
