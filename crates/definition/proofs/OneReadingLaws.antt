-- A text has one reading at most, want of memory aside.
use Rattle.std.specs.Prelude.{◌≡◌, ◌⊎◌, ℕ, true, Some, None, Result, Ok, Err, List, [], ◌∷◌, is_some, slice_get}
use Rattle.std.proofs.Common.{sym, ap, ◌∙◌, subst, true≢false, inl, inr}
use Rattle.std.specs.Option.{unwrap_or}
use Rattle.serde_json.specs.Data.{Data}
use Rattle.llb.specs.declared.vertex.Vertex.{Vertex}
use Rattle.llb.specs.Graph.{GraphValue, IsNew}
use Rattle.plain.specs.declared.fault.Fault.{Fault}
use Rattle.plain.specs.declared.fault.Fault.TheVariants.{Because, Memory}
use Rattle.definition.specs.declared.fault.Defect.{Defect}
use Rattle.definition.specs.declared.fault.Defect.TheVariants.{Malformed, Unknown, Repeated, Clash}
use Rattle.operations.specs.declared.spelled.Spelled.{Spelled}
use Rattle.addresses.specs.Address.{addresses_of, place_of}
use Rattle.operations.specs.Spelled.{spelled_in}
use Rattle.definition.specs.Reading.{Operations, IsReason, IsConclusive, named_in, address_place, Spells, IsNext, IsReadAfter, grown, no_graph, IsEnd, parts_of, IsFault, IsReadAs}

none_some : {A : Type 0} (x : A) → None ≡ Some x → ⊥
none_some x e = true≢false (sym (ap is_some e))

some_same : {A : Type 0} (x y : A) → Some x ≡ Some y → x ≡ y
some_same x y e = ap (λ o. unwrap_or o x) e

told-same : (d : Data) (s t : Spelled) → spelled_in d ≡ Some s → spelled_in d ≡ Some t → s ≡ t
told-same d s t e f = some_same s t (sym e ∙ f)

spells-same : (before : List Vertex) (d : Data) (v w : Vertex) → Spells before d v → Spells before d w → v ≡ w
spells-same before d v w h g = some_same v w (sym h.named ∙ ap (named_in (addresses_of before)) (told-same d h.told g.told h.spelled g.spelled) ∙ g.named)

-- what one operation tells: none of the five beside another
unspelled : (before : List Vertex) (d : Data) (v : Vertex) → spelled_in d ≡ None → Spells before d v → ⊥
unspelled before d v none h = none_some h.told (sym none ∙ h.spelled)

unnamed : (before : List Vertex) (d : Data) (v : Vertex) (t : Spelled) → spelled_in d ≡ Some t → named_in (addresses_of before) t ≡ None → Spells before d v → ⊥
unnamed before d v t e none h = none_some v (sym none ∙ ap (named_in (addresses_of before)) (told-same d t h.told e h.spelled) ∙ h.named)

stood : (before : List Vertex) (d : Data) (v w : Vertex) (k : ℕ) → Spells before d v → Spells before d w → IsNew before v → slice_get before k ≡ Some w → ⊥
stood before d v w k h g fresh there = fresh k (there ∙ ap Some (spells-same before d w v g h))

placed : (before : List Vertex) (d : Data) (v w : Vertex) → Spells before d v → Spells before d w → address_place before v ≡ None → is_some (address_place before w) ≡ true → ⊥
placed before d v w h g none some = true≢false (sym some ∙ ap (λ x. is_some (address_place before x)) (spells-same before d w v g h) ∙ ap is_some none)

ok-fault : (before : List Vertex) (d : Data) (v : Vertex) (f : Fault Defect) → IsReason f → IsNext before d (Ok v) → IsNext before d (Err f) → ⊥
ok-fault before d v (Because (Malformed n)) t h g = unspelled before d v g.1 h.0
ok-fault before d v (Because (Unknown n)) t h g = unnamed before d v g.1.0 g.1.1.0 g.1.1.1 h.0
ok-fault before d v (Because (Repeated n)) t h g = stood before d v g.1.0 g.1.1.1.0 h.0 g.1.1.0 h.1.0 g.1.1.1.1
ok-fault before d v (Because (Clash n)) t h g = placed before d v g.1.0 h.0 g.1.1.0 h.1.1 g.1.1.1.1
ok-fault before d v Memory t h g = absurd t

fault-same : (before : List Vertex) (d : Data) (f g : Fault Defect) → IsReason f → IsReason g → IsNext before d (Err f) → IsNext before d (Err g) → f ≡ g
fault-same before d (Because (Malformed n)) (Because (Malformed m)) t u h g = ap (λ n. Because (Malformed n)) (h.0 ∙ sym g.0)
fault-same before d (Because (Malformed n)) (Because (Unknown m)) t u h g = absurd (none_some g.1.0 (sym h.1 ∙ g.1.1.0))
fault-same before d (Because (Malformed n)) (Because (Repeated m)) t u h g = absurd (unspelled before d g.1.0 h.1 g.1.1.0)
fault-same before d (Because (Malformed n)) (Because (Clash m)) t u h g = absurd (unspelled before d g.1.0 h.1 g.1.1.0)
fault-same before d (Because (Unknown n)) (Because (Malformed m)) t u h g = absurd (none_some h.1.0 (sym g.1 ∙ h.1.1.0))
fault-same before d (Because (Unknown n)) (Because (Unknown m)) t u h g = ap (λ n. Because (Unknown n)) (h.0 ∙ sym g.0)
fault-same before d (Because (Unknown n)) (Because (Repeated m)) t u h g = absurd (unnamed before d g.1.0 h.1.0 h.1.1.0 h.1.1.1 g.1.1.0)
fault-same before d (Because (Unknown n)) (Because (Clash m)) t u h g = absurd (unnamed before d g.1.0 h.1.0 h.1.1.0 h.1.1.1 g.1.1.0)
fault-same before d (Because (Repeated n)) (Because (Malformed m)) t u h g = absurd (unspelled before d h.1.0 g.1 h.1.1.0)
fault-same before d (Because (Repeated n)) (Because (Unknown m)) t u h g = absurd (unnamed before d h.1.0 g.1.0 g.1.1.0 g.1.1.1 h.1.1.0)
fault-same before d (Because (Repeated n)) (Because (Repeated m)) t u h g = ap (λ n. Because (Repeated n)) (h.0 ∙ sym g.0)
fault-same before d (Because (Repeated n)) (Because (Clash m)) t u h g = absurd (stood before d g.1.0 h.1.0 h.1.1.1.0 g.1.1.0 h.1.1.0 g.1.1.1.0 h.1.1.1.1)
fault-same before d (Because (Clash n)) (Because (Malformed m)) t u h g = absurd (unspelled before d h.1.0 g.1 h.1.1.0)
fault-same before d (Because (Clash n)) (Because (Unknown m)) t u h g = absurd (unnamed before d h.1.0 g.1.0 g.1.1.0 g.1.1.1 h.1.1.0)
fault-same before d (Because (Clash n)) (Because (Repeated m)) t u h g = absurd (stood before d h.1.0 g.1.0 g.1.1.1.0 h.1.1.0 g.1.1.0 h.1.1.1.0 g.1.1.1.1)
fault-same before d (Because (Clash n)) (Because (Clash m)) t u h g = ap (λ n. Because (Clash n)) (h.0 ∙ sym g.0)
fault-same before d (Because (Malformed n)) Memory t u h g = absurd u
fault-same before d (Because (Unknown n)) Memory t u h g = absurd u
fault-same before d (Because (Repeated n)) Memory t u h g = absurd u
fault-same before d (Because (Clash n)) Memory t u h g = absurd u
fault-same before d Memory g t u h k = absurd t

-- all operations
again : (before : GraphValue) (os : Operations) (lines : List ℕ) (r : Result GraphValue (Fault Defect)) (v w : Vertex) → v ≡ w → IsReadAfter (grown before w lines) os r → IsReadAfter (grown before v lines) os r
again before os lines r v w same h = subst (λ (x : Vertex). IsReadAfter (grown before x lines) os r) (sym same) h

oks : (os : Operations) (before a b : GraphValue) → IsReadAfter before os (Ok a) → IsReadAfter before os (Ok b) → a ≡ b
oks [] before a b h g = h ∙ sym g
oks (o ∷ os) before a b h g = oks os (grown before h.0 o.1) a b h.1.1 (again before os o.1 (Ok b) h.0 g.0 (spells-same before.vertices o.0 h.0 g.0 h.1.0.0 g.1.0.0) g.1.1)

ok-err : (os : Operations) (before a : GraphValue) (f : Fault Defect) → IsReason f → IsReadAfter before os (Ok a) → IsReadAfter before os (Err f) → ⊥
ok-err [] before a f t h g = g
ok-err (o ∷ os) before a f t h g =
    elim g [
      | inl now ↦ ok-fault before.vertices o.0 h.0 f t h.1.0 now
      | inr later ↦ ok-err os (grown before h.0 o.1) a f t h.1.1 (again before os o.1 (Err f) h.0 later.0 (spells-same before.vertices o.0 h.0 later.0 h.1.0.0 later.1.0.0) later.1.1)
    ]

errs : (os : Operations) (before : GraphValue) (f g : Fault Defect) → IsReason f → IsReason g → IsReadAfter before os (Err f) → IsReadAfter before os (Err g) → f ≡ g
errs [] before f g t u h k = absurd h
errs (o ∷ os) before f g t u h k =
    elim h [
      | inl now ↦ elim k [
        | inl now' ↦ fault-same before.vertices o.0 f g t u now now'
        | inr later' ↦ absurd (ok-fault before.vertices o.0 later'.0 f t later'.1.0 now)
      ]
      | inr later ↦ elim k [
        | inl now' ↦ absurd (ok-fault before.vertices o.0 later.0 g u later.1.0 now')
        | inr later' ↦ errs os (grown before later.0 o.1) f g t u later.1.1 (again before os o.1 (Err g) later.0 later'.0 (spells-same before.vertices o.0 later.0 later'.0 later.1.0.0 later'.1.0.0) later'.1.1)
      ]
    ]

-- the end
end-oks : (before : List Vertex) (d : Data) (a b : ℕ) → IsEnd before d (Ok a) → IsEnd before d (Ok b) → a ≡ b
end-oks before d a b h g = some_same a b (sym h.1.1 ∙ ap (place_of (addresses_of before)) (some_same h.0 g.0 (sym h.1.0 ∙ g.1.0)) ∙ g.1.1)

end-ok-err : (before : List Vertex) (d : Data) (a : ℕ) (f : Fault Defect) → IsReason f → IsEnd before d (Ok a) → IsEnd before d (Err f) → ⊥
end-ok-err before d a (Because (Malformed n)) t h g = none_some h.0 (sym g.1 ∙ h.1.0)
end-ok-err before d a (Because (Unknown n)) t h g = none_some a (sym g.1.1.1 ∙ ap (place_of (addresses_of before)) (some_same g.1.0 h.0 (sym g.1.1.0 ∙ h.1.0)) ∙ h.1.1)
end-ok-err before d a (Because (Repeated n)) t h g = g
end-ok-err before d a (Because (Clash n)) t h g = g
end-ok-err before d a Memory t h g = t

end-errs : (before : List Vertex) (d : Data) (f g : Fault Defect) → IsReason f → IsReason g → IsEnd before d (Err f) → IsEnd before d (Err g) → f ≡ g
end-errs before d (Because (Malformed n)) (Because (Malformed m)) t u h g = ap (λ n. Because (Malformed n)) (h.0 ∙ sym g.0)
end-errs before d (Because (Malformed n)) (Because (Unknown m)) t u h g = absurd (none_some g.1.0 (sym h.1 ∙ g.1.1.0))
end-errs before d (Because (Unknown n)) (Because (Malformed m)) t u h g = absurd (none_some h.1.0 (sym g.1 ∙ h.1.1.0))
end-errs before d (Because (Unknown n)) (Because (Unknown m)) t u h g = ap (λ n. Because (Unknown n)) (h.0 ∙ sym g.0)
end-errs before d (Because (Malformed n)) (Because (Repeated m)) t u h g = absurd g
end-errs before d (Because (Malformed n)) (Because (Clash m)) t u h g = absurd g
end-errs before d (Because (Unknown n)) (Because (Repeated m)) t u h g = absurd g
end-errs before d (Because (Unknown n)) (Because (Clash m)) t u h g = absurd g
end-errs before d (Because (Malformed n)) Memory t u h g = absurd u
end-errs before d (Because (Unknown n)) Memory t u h g = absurd u
end-errs before d (Because (Repeated n)) g t u h k = absurd h
end-errs before d (Because (Clash n)) g t u h k = absurd h
end-errs before d Memory g t u h k = absurd t

-- ---- a text

-- the two forms of a fault
fault-of : (text : List ℕ) (f : Fault Defect) → IsReason f → IsReadAs text (Err f) → IsFault text f
fault-of text (Because (Malformed n)) t h = h
fault-of text (Because (Unknown n)) t h = h
fault-of text (Because (Repeated n)) t h = h
fault-of text (Because (Clash n)) t h = h
fault-of text Memory t h = absurd t

same-parts : (text : List ℕ) (p q : Operations × Data) → parts_of text ≡ Some p → parts_of text ≡ Some q → p ≡ q
same-parts text p q e f = some_same p q (sym e ∙ f)

both_ok : (text : List ℕ) (x y : GraphValue × ℕ) → IsReadAs text (Ok x) → IsReadAs text (Ok y) → x ≡ y
both_ok text (g, a) (k, b) x y =
    let same : (x.0, x.1.0) ≡ (y.0, y.1.0) = same-parts text (x.0, x.1.0) (y.0, y.1.0) x.1.1.0 y.1.1.0 in
    let all : IsReadAfter no_graph x.0 (Ok k) = subst (λ (p : Operations × Data). IsReadAfter no_graph p.0 (Ok k)) (sym same) y.1.1.1.0 in
    let graphs : g ≡ k = oks x.0 no_graph g k x.1.1.1.0 all in
    let ending : IsEnd g.vertices x.1.0 (Ok b) = subst (λ (m : GraphValue). IsEnd m.vertices x.1.0 (Ok b)) (sym graphs) (subst (λ (p : Operations × Data). IsEnd k.vertices p.1 (Ok b)) (sym same) y.1.1.1.1) in
    λ i. (graphs i, end-oks g.vertices x.1.0 a b x.1.1.1.1 ending i)

-- a fault after the shape
abbrev pub Later : Operations × Data → (Fault Defect) → Type 0
Later p f = IsReadAfter no_graph p.0 (Err f) ⊎ ((graph : GraphValue) × (IsReadAfter no_graph p.0 (Ok graph) × IsEnd graph.vertices p.1 (Err f)))

ok_later : (p : Operations × Data) (g : GraphValue) (a : ℕ) (f : Fault Defect) → IsReason f → IsReadAfter no_graph p.0 (Ok g) → IsEnd g.vertices p.1 (Ok a) → Later p f → ⊥
ok_later p g a f t all end (inl now) = ok-err p.0 no_graph g f t all now
ok_later p g a f t all end (inr later) =
    end-ok-err g.vertices p.1 a f t end (subst (λ (m : GraphValue). IsEnd m.vertices p.1 (Err f)) (sym (oks p.0 no_graph g later.0 all later.1.0)) later.1.1)

ok_fault : (text : List ℕ) (x : GraphValue × ℕ) (f : Fault Defect) → IsReason f → IsReadAs text (Ok x) → IsFault text f → ⊥
ok_fault text (g, a) f t x (inl none) = none_some (x.0, x.1.0) (sym none.0 ∙ x.1.1.0)
ok_fault text (g, a) f t x (inr y) =
    ok_later (x.0, x.1.0) g a f t x.1.1.1.0 x.1.1.1.1 (subst (λ (p : Operations × Data). Later p f) (same-parts text (y.0, y.1.0) (x.0, x.1.0) y.1.1.0 x.1.1.0) y.1.1.1)

both_faults : (text : List ℕ) (f g : Fault Defect) → IsReason f → IsReason g → IsFault text f → IsFault text g → f ≡ g
both_faults text f g t u h k =
    elim h [
      | inl none ↦ elim k [
        | inl none' ↦ none.1 ∙ sym none'.1
        | inr y ↦ absurd (none_some (y.0, y.1.0) (sym none.0 ∙ y.1.1.0))
      ]
      | inr x ↦ elim k [
        | inl none' ↦ absurd (none_some (x.0, x.1.0) (sym none'.0 ∙ x.1.1.0))
        | inr y ↦
            let same : (x.0, x.1.0) ≡ (y.0, y.1.0) = same-parts text (x.0, x.1.0) (y.0, y.1.0) x.1.1.0 y.1.1.0 in
            elim x.1.1.1 [
              | inl now ↦ elim y.1.1.1 [
                | inl now' ↦ errs x.0 no_graph f g t u now (subst (λ (p : Operations × Data). IsReadAfter no_graph p.0 (Err g)) (sym same) now')
                | inr later' ↦ absurd (ok-err x.0 no_graph later'.0 f t (subst (λ (p : Operations × Data). IsReadAfter no_graph p.0 (Ok later'.0)) (sym same) later'.1.0) now)
              ]
              | inr later ↦ elim y.1.1.1 [
                | inl now' ↦ absurd (ok-err x.0 no_graph later.0 g u later.1.0 (subst (λ (p : Operations × Data). IsReadAfter no_graph p.0 (Err g)) (sym same) now'))
                | inr later' ↦
                    let all : IsReadAfter no_graph x.0 (Ok later'.0) = subst (λ (p : Operations × Data). IsReadAfter no_graph p.0 (Ok later'.0)) (sym same) later'.1.0 in
                    let graphs : later.0 ≡ later'.0 = oks x.0 no_graph later.0 later'.0 later.1.0 all in
                    end-errs later.0.vertices x.1.0 f g t u later.1.1 (subst (λ (m : GraphValue). IsEnd m.vertices x.1.0 (Err g)) (sym graphs) (subst (λ (p : Operations × Data). IsEnd later'.0.vertices p.1 (Err g)) (sym same) later'.1.1))
              ]
            ]
      ]
    ]

-- a text has one reading
pub one-reading : (text : List ℕ) (x y : Result (GraphValue × ℕ) (Fault Defect)) → IsConclusive x → IsConclusive y → IsReadAs text x → IsReadAs text y → x ≡ y
one-reading text (Ok x) (Ok y) t u h g = ap Ok (both_ok text x y h g)
one-reading text (Ok x) (Err g) t u h k = absurd (ok_fault text x g u h (fault-of text g u k))
one-reading text (Err f) (Ok y) t u h k = absurd (ok_fault text y f t k (fault-of text f t h))
one-reading text (Err f) (Err g) t u h k = ap Err (both_faults text f g t u (fault-of text f t h) (fault-of text g u k))
