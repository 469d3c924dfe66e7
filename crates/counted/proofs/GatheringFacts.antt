-- What is said piece by piece.
use Rattle.std.proofs.Common.{◌≡◌, ℕ, ◌+◌, Bool, true, false, List, ◌++◌, Option, Result, Ok, Err, OnOk, OnErr, IfErr, inl, inr, refl, sym, ap, ◌∙◌, subst, append_assoc, append-nil, []}
use Rattle.std.proofs.lemmas.Bool.{cases_Bool}
use Rattle.std.proofs.KnownBytes.{Appends-nil, Appends-trans}
use Rattle.std.specs.Io.KnownBytes.{Appends}
use Rattle.plain.specs.declared.fault.Fault.{Fault}
use Rattle.plain.specs.declared.fault.Fault.TheVariants.{Because, Memory}
use Rattle.counted.specs.declared.fault.Device.{Device}
use Rattle.counted.specs.Edges.{AppendsBeginning, IsDevice, CountsFault}
use Rattle.counted.specs.Gathering.{Gathering, nothing, Sink, sink, IsGathered, IsBroken, IsStill, Says, IsWritten}

apart : {P : Type 0} (b : Bool) → b ≡ true → b ≡ false → P
apart b p q = cc

-- after a failed call anything is said
pub says_still : (s : Sink) (text : List ℕ) → s.gathered.failed ≡ true → Says s s text
says_still s text failed = record {
  whole = λ a b. apart s.gathered.failed failed a;
  broken = λ a b. apart s.gathered.failed failed a;
  still = λ a. record { failed = failed; contents = refl; count = refl };
}

-- nothing is said
pub says_none : (s : Sink) → Says s s []
says_none s = record {
  whole = λ a b. record { front = []; whole = append-nil s.gathered.bytes; grown = Appends-nil s.contents; count = refl };
  broken = λ a b. apart s.gathered.failed b a;
  still = λ a. record { failed = a; contents = refl; count = refl };
}

-- what is taken in behind what is gathered is said
pub says_taken : (contents : Option (List ℕ)) (failures : ℕ) (old new : Gathering) (text : List ℕ) → new.bytes ≡ old.bytes ++ text → new.failed ≡ old.failed
    → Says (sink contents failures old) (sink contents failures new) text
says_taken contents failures old new text taken same = record {
  whole = λ a b. record { front = []; whole = sym taken; grown = Appends-nil contents; count = refl };
  broken = λ a b. apart old.failed (sym same ∙ b) a;
  still = λ a. record { failed = same ∙ a; contents = refl; count = refl };
}

-- ---- two calls

gathered_both : {old mid new : Sink} {first second : List ℕ} → IsGathered old mid first → IsGathered mid new second → IsGathered old new (first ++ second)
gathered_both {old} {mid} {new} {first} {second} p q = record {
  front = p.front ++ q.front;
  whole = sym (append_assoc old.gathered.bytes first second)
      ∙ ap (λ t. t ++ second) p.whole
      ∙ append_assoc p.front mid.gathered.bytes second
      ∙ ap (λ t. p.front ++ t) q.whole
      ∙ sym (append_assoc p.front q.front new.gathered.bytes);
  grown = Appends-trans old.contents mid.contents new.contents p.front q.front p.grown q.grown;
  count = q.count ∙ p.count;
}

broken_later : {old mid new : Sink} {first second : List ℕ} → IsGathered old mid first → IsBroken mid new second → IsBroken old new (first ++ second)
broken_later {old} {mid} {new} {first} {second} p q =
    let front = q.begun.0 in
    let rest = q.begun.1.0 in
    record {
      begun = (
        p.front ++ front,
        (
          rest,
          sym (append_assoc old.gathered.bytes first second)
              ∙ ap (λ t. t ++ second) p.whole
              ∙ append_assoc p.front mid.gathered.bytes second
              ∙ ap (λ t. p.front ++ t) q.begun.1.1
              ∙ sym (append_assoc p.front front rest),
        ),
        Appends-trans old.contents mid.contents new.contents p.front front p.grown q.begun.2,
      );
      count = q.count ∙ ap (λ n. n + 1) p.count;
    }

broken_before : {old mid new : Sink} {first : List ℕ} (second : List ℕ) → IsBroken old mid first → IsStill mid new → IsBroken old new (first ++ second)
broken_before {old} {mid} {new} {first} second p q =
    let front = p.begun.0 in
    let rest = p.begun.1.0 in
    record {
      begun = (
        front,
        (
          rest ++ second,
          sym (append_assoc old.gathered.bytes first second) ∙ ap (λ t. t ++ second) p.begun.1.1 ∙ append_assoc front rest second,
        ),
        subst (λ contents. Appends old.contents contents front) (sym q.contents) p.begun.2,
      );
      count = q.count ∙ p.count;
    }

-- two texts, one behind the other
pub says_both : {old mid new : Sink} {first second : List ℕ} → Says old mid first → Says mid new second → Says old new (first ++ second)
says_both {old} {mid} {new} {first} {second} p q = record {
  whole = λ a b. elim (cases_Bool mid.gathered.failed) [
    | inl gone ↦ apart new.gathered.failed (q.still gone).failed b
    | inr fine ↦ gathered_both (p.whole a fine) (q.whole fine b)
  ];
  broken = λ a b. elim (cases_Bool mid.gathered.failed) [
    | inl gone ↦ broken_before second (p.broken a gone) (q.still gone)
    | inr fine ↦ broken_later (p.whole a fine) (q.broken fine b)
  ];
  still = λ a.
      let first_still = p.still a in
      let second_still = q.still first_still.failed in
      record { failed = second_still.failed; contents = second_still.contents ∙ first_still.contents; count = second_still.count ∙ first_still.count };
}

-- a text by another name
pub says_as : {old new : Sink} {said text : List ℕ} → Says old new said → said ≡ text → Says old new text
says_as {old} {new} p is = subst (Says old new) is p

-- ---- the end

-- what was said from an empty start, and then what is gathered was written, as far as no call failed
pub ends_written : (contents now new : Option (List ℕ)) (failures before after : ℕ) (gathered : Gathering) (text piece : List ℕ) (result : Result (Unit {0}) (Fault Device)) → gathered.failed ≡ false → piece ≡ gathered.bytes
    → OnOk result (Appends now new piece) → OnErr result (AppendsBeginning now new piece) → IfErr result IsDevice → CountsFault before after result
    → Says (sink contents failures nothing) (sink now before gathered) text → IsWritten contents failures new after text result
ends_written contents now new failures before after gathered text piece (Ok done) fine is grown begun device count said =
    let so = said.whole refl fine in
    let all : text ≡ so.front ++ piece = so.whole ∙ ap (λ t. so.front ++ t) (sym is) in
    (subst (Appends contents new) (sym all) (Appends-trans contents now new so.front piece so.grown grown), count ∙ so.count)
ends_written contents now new failures before after gathered text piece (Err Memory) fine is grown begun device count said = absurd device
ends_written contents now new failures before after gathered text piece (Err (Because gone)) fine is grown begun device count said =
    let so = said.whole refl fine in
    let front = begun.0 in
    let rest = begun.1.0 in
    let all : text ≡ (so.front ++ front) ++ rest =
    so.whole ∙ ap (λ t. so.front ++ t) (sym is ∙ begun.1.1) ∙ sym (append_assoc so.front front rest) in
    ((so.front ++ front, (rest, all), Appends-trans contents now new so.front front so.grown begun.2), count ∙ ap (λ n. n + 1) so.count)
