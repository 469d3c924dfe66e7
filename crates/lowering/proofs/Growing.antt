-- How graphs grow one after another.
use Rattle.std.proofs.Common.{◌≡◌, inl, inr, ◌≤◌, ◌+◌, ℕ, [], ◌∷◌, ◌++◌, length, refl, sym, ap, subst, arith, length-append}
use Rattle.std.proofs.lemmas.List.Elements.{Contains-append_left, Contains-append_right, Contains-append_cases}
use Rattle.llb.specs.Graph.{GraphValue}
use Rattle.lowering.specs.Vertices.{Tips, Places, AreNumbered}
use Rattle.lowering.specs.PrivateGrowth.{Grows, AreInside}
use Rattle.lowering.proofs.Fronts.{front_all, front_then}
use Rattle.llb.proofs.LineFacts.{contains_nil}

pub grows_none : (graph : GraphValue) → Grows graph graph []
grows_none graph = record {
  front = front_all graph.vertices;
  lines = λ id line. (λ h. inl h, λ cases. elim cases [ inl h ↦ h | inr none ↦ absurd (contains_nil {X = ℕ × ℕ} (line, id) none) ]);
  more = λ id lt. inl lt;
  order = refl;
}

-- places after places
numbered_both : (a b c : ℕ) (here there : Places) → AreNumbered a here b → AreNumbered b there c → AreNumbered a (here ++ there) c
numbered_both a b c [] there first second = subst (λ n. AreNumbered n there c) first second
numbered_both a b c (place ∷ here) there first second = elim first [
  | inl known ↦ inl (known.0, numbered_both a b c here there known.1 second)
  | inr next ↦ inr (next.0, numbered_both (a + 1) b c here there next.1 second)
]

pub grows_both : (a b c : GraphValue) (here there : Places) → Grows a b here → Grows b c there → Grows a c (here ++ there)
grows_both a b c here there first second = record {
  front = front_then a.vertices b.vertices c.vertices first.front second.front;
  lines = λ id line. (
    λ h. elim ((second.lines id line).0 h) [
      | inl before ↦ elim ((first.lines id line).0 before) [ inl old ↦ inl old | inr x ↦ inr (Contains-append_left here there (line, id) x) ]
      | inr y ↦ inr (Contains-append_right here there (line, id) y)
    ],
    λ cases. elim cases [
      | inl old ↦ (second.lines id line).1 (inl ((first.lines id line).1 (inl old)))
      | inr now ↦ elim (Contains-append_cases here there (line, id) now) [
        | inl x ↦ (second.lines id line).1 (inl ((first.lines id line).1 (inr x)))
        | inr y ↦ (second.lines id line).1 (inr y)
      ]
    ],
  );
  more = λ id lt. elim (second.more id lt) [
    | inl before ↦ elim (first.more id before) [ inl old ↦ inl old | inr x ↦ inr (x.0, Contains-append_left here there (x.0, id) x.1) ]
    | inr y ↦ inr (y.0, Contains-append_right here there (y.0, id) y.1)
  ];
  order = numbered_both (length a.vertices) (length b.vertices) (length c.vertices) here there first.order second.order;
}

pub grows_is : (a b : GraphValue) (places others : Places) → Grows a b places → others ≡ places → Grows a b others
grows_is a b places others grows is = subst (Grows a b) (sym is) grows

pub grows_long : (a b : GraphValue) (places : Places) → Grows a b places → length a.vertices ≤ length b.vertices
grows_long a b places grows = omega (arith, ap length grows.front.1, length-append a.vertices grows.front.0)

pub inside_more : (tips : Tips) (a b : GraphValue) (places : Places) → Grows a b places → AreInside tips (length a.vertices)
    → AreInside tips (length b.vertices)
inside_more tips a b places grows inside number id e = omega (arith, inside number id e, grows_long a b places grows)
