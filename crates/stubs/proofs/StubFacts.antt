-- Stubs for images that a bundle lacks: a bundle has one with its stubs, and what holds of the bundle that is given in place of it.
use Rattle.std.specs.Prelude.{◌≡◌, ◌||◌, ℕ, Bool, true, false, cond, List, [], ◌∷◌, ◌++◌, Option, Some, None, bytes_eq, map, refl, Result, Ok, Err, IfOk}
use Rattle.std.specs.BTreeMap.{is_at}
use Rattle.std.specs.Cmp.{eq_by_cmp_equiv}
use Rattle.std.specs.Cmp.Lexicographic.{nat_list_cmp_total, texts_ties}
use Rattle.std.specs.FinMap.{entries, from_entries, get, get-entries, get-from_entries, same_map, slice_cmp-IsAntisymmetric, nat_cmp-IsAntisymmetric}
use Rattle.std.specs.FinMap.Entries.{find}
use Rattle.std.specs.Map.{lookup}
use Rattle.std.specs.Option.{option_or}
use Rattle.std.specs.Ordering.{eq_by_cmp}
use Rattle.std.proofs.Common.{sym, ap, subst, ◌∙◌}
use Rattle.paths.specs.Order.{name_cmp}
use Rattle.plain.specs.declared.memory.Memory.{Memory}
use Rattle.plans.specs.Images.{ImagesValue}
use Rattle.plans.specs.declared.images.Image.{Image}
use Rattle.stages.specs.declared.image_name.ImageName.{ImageName}
use Rattle.imageconfig.specs.declared.config.Config.{Config}
use Rattle.bundle.specs.declared.whole.Bundle.{Bundle}
use Rattle.stubs.specs.Naming.{AreNamed}
use Rattle.stubs.specs.Stubbing.{stub, is_named, stub_if, AreStubbed, with_images, IsStubbed, IsGivenBy, HoldsBy}
use Rattle.stubs.proofs.RowFacts.{find_append, get_rows}

-- ---- what holds of the bundle that is given

pub holds_given : (any : Bool) (P : Bundle Config → Type 0) (bundle given : Bundle Config) → IsGivenBy any bundle given → P given → HoldsBy any P bundle
holds_given false P bundle given is h = subst P is h
holds_given true P bundle given is h = (given, is, h)

-- what follows from it holds too
pub holds_more : (any : Bool) (P Q : Bundle Config → Type 0) (bundle : Bundle Config) → ((given : Bundle Config) → P given → Q given) → HoldsBy any P bundle → HoldsBy any Q bundle
holds_more false P Q bundle more h = more bundle h
holds_more true P Q bundle more h = (h.0, h.1, more h.0 h.2)

-- its images alone are other ones
pub given_rest : (any : Bool) (bundle given : Bundle Config) → IsGivenBy any bundle given → given ≡ with_images bundle given.images
given_rest false bundle given is = is ∙ ap (λ (b : Bundle Config). with_images bundle b.images) (sym is)
given_rest true bundle given is = is.rest

-- ---- the rows of stubs

-- a stub is put under a name
pub stub_put : (named : ImageName) (rest : List ImageName) (name : List ℕ) (old new : Option (Image Config)) → new ≡ cond (is_at (name_cmp named.name) name) (Some stub) old
    → option_or (stub_if (is_named rest name)) new ≡ option_or (stub_if (is_named (named ∷ rest) name)) old
stub_put named rest name old new put =
    by (bytes_eq named.name name) (is_named rest name) (put ∙ ap (λ b. cond b (Some stub) old) (sym (texts_ties named.name name)))
  where
    by : (b c : Bool) → new ≡ cond b (Some stub) old → option_or (stub_if c) new ≡ option_or (stub_if (b || c)) old
    by true true e = refl
    by true false e = e
    by false true e = refl
    by false false e = e

-- images that are put over stubs
stubbed_rows : (images : ImagesValue Config) (names : List ImageName) (stubs rows : List (List ℕ × Image Config)) (made : ImagesValue Config)
    → ((name : List ℕ) → lookup (is_at (name_cmp name)) stubs ≡ stub_if (is_named names name))
    → ((name : List ℕ) → lookup (is_at (name_cmp name)) rows ≡ option_or (get images name) (lookup (is_at (name_cmp name)) stubs))
    → made ≡ from_entries rows → AreStubbed images names made
stubbed_rows images names stubs rows made are put is name =
    ap (λ (m : ImagesValue Config). get m name) is ∙ (get_rows rows name ∙ (put name ∙ ap (option_or (get images name)) (are name)))

pub stubbed_made : (images : ImagesValue Config) (names : List ImageName) (stubs rows : List (List ℕ × Image Config)) (result : Result (ImagesValue Config) Memory)
    → ((name : List ℕ) → lookup (is_at (name_cmp name)) stubs ≡ stub_if (is_named names name))
    → ((name : List ℕ) → lookup (is_at (name_cmp name)) rows ≡ option_or (get images name) (lookup (is_at (name_cmp name)) stubs))
    → IfOk result (λ made. made ≡ from_entries rows) → IfOk result (AreStubbed images names)
stubbed_made images names stubs rows (Ok made) are put is = stubbed_rows images names stubs rows made are put is
stubbed_made images names stubs rows (Err memory) are put is = tt

-- ---- a bundle has one with its stubs

abbrev stub_rows : List ImageName → List (List ℕ × Image Config)
stub_rows names = map (λ named. (named.name, stub)) names

found_stub : (names : List ImageName) (name : List ℕ) → find name_cmp name (stub_rows names) ≡ stub_if (is_named names name)
found_stub [] name = refl
found_stub (named ∷ names) name =
    ap (λ b. cond b (Some stub) (find name_cmp name (stub_rows names))) ((eq_by_cmp_equiv nat_list_cmp_total).symm name named.name ∙ sym (texts_ties named.name name))
    ∙ by (bytes_eq named.name name) (found_stub names name)
  where
    by : (b : Bool) → find name_cmp name (stub_rows names) ≡ stub_if (is_named names name) → cond b (Some stub) (find name_cmp name (stub_rows names)) ≡ stub_if (b || is_named names name)
    by true e = refl
    by false e = e

abbrev filled : ImagesValue Config → List ImageName → ImagesValue Config
filled images names = from_entries (entries images ++ stub_rows names)

are_filled : (images : ImagesValue Config) (names : List ImageName) → AreStubbed images names (filled images names)
are_filled images names name =
    get-from_entries nat_list_cmp_total (entries images ++ stub_rows names) name
    ∙ (find_append name (entries images) (stub_rows names)
    ∙ (ap (λ found. option_or found (find name_cmp name (stub_rows names))) (sym (get-entries images name)) ∙ ap (option_or (get images name)) (found_stub names name)))

abbrev pub HasNames : Type 0
HasNames = (bundle : Bundle Config) → (names : List ImageName) × AreNamed bundle names

abbrev pub HasOneList : Type 0
HasOneList = (bundle : Bundle Config) (names others : List ImageName) → AreNamed bundle names → AreNamed bundle others → names ≡ others

pub some_stubbed : HasNames → (bundle : Bundle Config) → (stubbed : Bundle Config) × IsStubbed bundle stubbed
some_stubbed names bundle =
    let found = names bundle in (
      with_images bundle (filled bundle.images found.0),
      record { names = found.0; named = found.1; images = are_filled bundle.images found.0; rest = refl },
    )

same_images : (images one other : ImagesValue Config) (names others : List ImageName) → names ≡ others → AreStubbed images names one → AreStubbed images others other → one ≡ other
same_images images one other names others same these those =
    same_map nat_list_cmp_total (slice_cmp-IsAntisymmetric nat_cmp-IsAntisymmetric) one other (λ name.
    these name ∙ (ap (λ (ns : List ImageName). option_or (get images name) (stub_if (is_named ns name))) same ∙ sym (those name)))

pub one_stubbed : HasOneList → (bundle one other : Bundle Config) → IsStubbed bundle one → IsStubbed bundle other → one ≡ other
one_stubbed unique bundle one other these those =
    let same = unique bundle these.names those.names these.named those.named in
    these.rest ∙ (ap (with_images bundle) (same_images bundle.images one.images other.images these.names those.names same these.images those.images) ∙ sym those.rest)
