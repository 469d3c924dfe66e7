-- Reading a component's characters gives the parts that they spell, and no others.
use Rattle.std.proofs.Common.{◌≡◌, ◌∙◌, ℕ, Bool, true, false, List, [], ◌∷◌, ◌++◌, ◌⊎◌, Option, Some, sym, ap, refl, subst, inl, inr, true≢false, append_assoc, codes, nat_eq, cond, not, eq-eqb, ◌||◌, get_or}
use Rattle.std.specs.Option.{option_and_then}
use Rattle.std.proofs.lemmas.Bool.{eqb-true}
use Rattle.std.proofs.lemmas.List.{append-nil}
use Rattle.std.proofs.lemmas.Option.{same_Some, none-some}
use Rattle.globs.specs.declared.part.Range.{Range}
use Rattle.globs.specs.declared.part.Part.{Part}
use Rattle.globs.specs.declared.part.Part.TheVariants.{AnyRun, AnyOne, Exactly, Class}
use Rattle.globs.specs.declared.sign.Sign.{Sign}
use Rattle.globs.specs.declared.sign.Sign.TheVariants.{Star, Question, Backslash, Open, Close, Hyphen, Caret, Other}
use Rattle.globs.specs.declared.reading.State.{State}
use Rattle.globs.specs.declared.reading.State.TheVariants.{Outside, Escaped, Opened, Between, EscapedLow, Low, Dash, EscapedHigh}
use Rattle.globs.specs.declared.reading.Reading.{Reading}
use Rattle.globs.specs.Grammar.{is_none_of, SpellsEnd, SpellsRange, SpellRanges, SpellsInside, SpellsPart, Spell}
use Rattle.globs.specs.Reading.{sign_at, stepped, step, run, finished, parts_of, between, low, dashed, opened, outside, closed, with_part, with_range, in_state}

abbrev at : State → List Part → Bool → List Range → Reading
at state parts negated ranges = record { parts = parts; negated = negated; ranges = ranges; state = state }

abbrev out : List Part → Reading
out parts = at Outside parts false []

abbrev range : ℕ → ℕ → Range
range l h = record { low = l; high = h }

-- ---- signs

sign-star : sign_at 42 ≡ Star
unfolding sign_at
sign-star = refl

sign-question : sign_at 63 ≡ Question
unfolding sign_at
sign-question = refl

sign-backslash : sign_at 92 ≡ Backslash
unfolding sign_at
sign-backslash = refl

sign-open : sign_at 91 ≡ Open
unfolding sign_at
sign-open = refl

sign-close : sign_at 93 ≡ Close
unfolding sign_at
sign-close = refl

sign-hyphen : sign_at 45 ≡ Hyphen
unfolding sign_at
sign-hyphen = refl

sign-caret : sign_at 94 ≡ Caret
unfolding sign_at
sign-caret = refl

-- a character outside of classes that is none of `*?[\` stands for itself
abbrev pub IsPlain : Sign → Type 0
IsPlain Star = ⊥
IsPlain Question = ⊥
IsPlain Backslash = ⊥
IsPlain Open = ⊥
IsPlain Close = Unit {0}
IsPlain Hyphen = Unit {0}
IsPlain Caret = Unit {0}
IsPlain Other = Unit {0}

-- in a class, a character that is none of `\-]` is an end of a range
abbrev IsEnd : Sign → Type 0
IsEnd Star = Unit {0}
IsEnd Question = Unit {0}
IsEnd Backslash = ⊥
IsEnd Open = Unit {0}
IsEnd Close = ⊥
IsEnd Hyphen = ⊥
IsEnd Caret = Unit {0}
IsEnd Other = Unit {0}

-- what a sign says of the character
abbrev pub SaysOf : Sign → ℕ → Type 0
SaysOf Star c = c ≡ 42
SaysOf Question c = c ≡ 63
SaysOf Backslash c = c ≡ 92
SaysOf Open c = c ≡ 91
SaysOf Close c = c ≡ 93
SaysOf Hyphen c = c ≡ 45
SaysOf Caret c = c ≡ 94
SaysOf Other c =
    (nat_eq c 42 ≡ false) × ((nat_eq c 63 ≡ false) × ((nat_eq c 92 ≡ false) × ((nat_eq c 91 ≡ false) × ((nat_eq c 93 ≡ false) × ((nat_eq c 45 ≡ false) × (nat_eq c 94 ≡ false))))))

says-by : (c : ℕ) (a : Bool) → nat_eq c 42 ≡ a → (b : Bool) → nat_eq c 63 ≡ b → (d : Bool) → nat_eq c 92 ≡ d → (e : Bool) → nat_eq c 91 ≡ e → (f : Bool) → nat_eq c 93 ≡ f → (g : Bool) → nat_eq c 45 ≡ g → (h : Bool) → nat_eq c 94 ≡ h
    → SaysOf (cond a Star (cond b Question (cond d Backslash (cond e Open (cond f Close (cond g Hyphen (cond h Caret Other))))))) c
says-by c true ai b bi d di e ei f fi g gi h hi = eqb-true c 42 ai
says-by c false ai true bi d di e ei f fi g gi h hi = eqb-true c 63 bi
says-by c false ai false bi true di e ei f fi g gi h hi = eqb-true c 92 di
says-by c false ai false bi false di true ei f fi g gi h hi = eqb-true c 91 ei
says-by c false ai false bi false di false ei true fi g gi h hi = eqb-true c 93 fi
says-by c false ai false bi false di false ei false fi true gi h hi = eqb-true c 45 gi
says-by c false ai false bi false di false ei false fi false gi true hi = eqb-true c 94 hi
says-by c false ai false bi false di false ei false fi false gi false hi = (ai, (bi, (di, (ei, (fi, (gi, hi))))))

pub says : (c : ℕ) → SaysOf (sign_at c) c
unfolding sign_at
says c = says-by c (nat_eq c 42) refl (nat_eq c 63) refl (nat_eq c 92) refl (nat_eq c 91) refl (nat_eq c 93) refl (nat_eq c 45) refl (nat_eq c 94) refl

-- a sign that stands for itself is none of those that don't, and the other way round
none-of : (signs : List ℕ) (c d : ℕ) → c ≡ d → is_none_of signs d ≡ false → is_none_of signs c ≡ true → ⊥
none-of signs c d e off on = true≢false (sym on ∙ ap (λ x. is_none_of signs x) e ∙ off)

moved-none : (signs : List ℕ) (c d : ℕ) → c ≡ d → is_none_of signs d ≡ true → is_none_of signs c ≡ true
moved-none signs c d e on = ap (λ x. is_none_of signs x) e ∙ on

pub plain-by : (s : Sign) (c : ℕ) → SaysOf s c → is_none_of (codes "*?[\\") c ≡ true → IsPlain s
plain-by Star c e h = none-of (codes "*?[\\") c 42 e refl h
plain-by Question c e h = none-of (codes "*?[\\") c 63 e refl h
plain-by Backslash c e h = none-of (codes "*?[\\") c 92 e refl h
plain-by Open c e h = none-of (codes "*?[\\") c 91 e refl h
plain-by Close c e h = tt
plain-by Hyphen c e h = tt
plain-by Caret c e h = tt
plain-by Other c e h = tt

plain-back : (s : Sign) (c : ℕ) → SaysOf s c → IsPlain s → is_none_of (codes "*?[\\") c ≡ true
plain-back Star c e h = absurd h
plain-back Question c e h = absurd h
plain-back Backslash c e h = absurd h
plain-back Open c e h = absurd h
plain-back Close c e h = moved-none (codes "*?[\\") c 93 e refl
plain-back Hyphen c e h = moved-none (codes "*?[\\") c 45 e refl
plain-back Caret c e h = moved-none (codes "*?[\\") c 94 e refl
plain-back Other c e h = λ i. not (e.0 i || (e.1.0 i || (e.1.1.1.0 i || (e.1.1.0 i || false))))

end-by : (s : Sign) (c : ℕ) → SaysOf s c → is_none_of (codes "\\-]") c ≡ true → IsEnd s
end-by Star c e h = tt
end-by Question c e h = tt
end-by Backslash c e h = none-of (codes "\\-]") c 92 e refl h
end-by Open c e h = tt
end-by Close c e h = none-of (codes "\\-]") c 93 e refl h
end-by Hyphen c e h = none-of (codes "\\-]") c 45 e refl h
end-by Caret c e h = tt
end-by Other c e h = tt

end-back : (s : Sign) (c : ℕ) → SaysOf s c → IsEnd s → is_none_of (codes "\\-]") c ≡ true
end-back Star c e h = moved-none (codes "\\-]") c 42 e refl
end-back Question c e h = moved-none (codes "\\-]") c 63 e refl
end-back Backslash c e h = absurd h
end-back Open c e h = moved-none (codes "\\-]") c 91 e refl
end-back Close c e h = absurd h
end-back Hyphen c e h = absurd h
end-back Caret c e h = moved-none (codes "\\-]") c 94 e refl
end-back Other c e h = λ i. not (e.1.1.0 i || (e.1.1.1.1.1.0 i || (e.1.1.1.1.0 i || false)))

-- ---- what is spelled is read

go : (r next : Reading) (c : ℕ) (ds : List ℕ) → step r c ≡ Some next → run r (c ∷ ds) ≡ run next ds
go r next c ds e = ap (λ o. option_and_then (λ n. run n ds) o) e

by-sign : (s : State) (r : Reading) (c : ℕ) (sign : Sign) → r.state ≡ s → sign_at c ≡ sign → step r c ≡ stepped s r sign c
by-sign s r c sign e is = λ i. stepped (e i) r (is i) c

pub outside-plain : (s : Sign) (r : Reading) (c : ℕ) → IsPlain s → outside r s c ≡ with_part r (Exactly c)
outside-plain Star r c h = absurd h
outside-plain Question r c h = absurd h
outside-plain Backslash r c h = absurd h
outside-plain Open r c h = absurd h
outside-plain Close r c h = refl
outside-plain Hyphen r c h = refl
outside-plain Caret r c h = refl
outside-plain Other r c h = refl

between-end : (s : Sign) (r : Reading) (c : ℕ) → IsEnd s → between r s c ≡ Some (in_state r (Low c))
between-end Star r c h = refl
between-end Question r c h = refl
between-end Backslash r c h = absurd h
between-end Open r c h = refl
between-end Close r c h = absurd h
between-end Hyphen r c h = absurd h
between-end Caret r c h = refl
between-end Other r c h = refl

dashed-end : (s : Sign) (r : Reading) (l c : ℕ) → IsEnd s → dashed r l s c ≡ Some (with_range r l c Between)
dashed-end Star r l c h = refl
dashed-end Question r l c h = refl
dashed-end Backslash r l c h = absurd h
dashed-end Open r l c h = refl
dashed-end Close r l c h = absurd h
dashed-end Hyphen r l c h = absurd h
dashed-end Caret r l c h = refl
dashed-end Other r l c h = refl

module _ (P : List Part) (n : Bool) (R : List Range) where
  end-run : (front : List ℕ) (l : ℕ) (ds : List ℕ) → SpellsEnd front l → run (at Between P n R) (front ++ ds) ≡ run (at (Low l) P n R) ds
  end-run front l ds (inl (e, h)) =
      ap (λ f. run (at Between P n R) (f ++ ds)) e ∙ go (at Between P n R) (at (Low l) P n R) l ds (between-end (sign_at l) (at Between P n R) l (end-by (sign_at l) l (says l) h))
  end-run front l ds (inr e) =
      ap (λ f. run (at Between P n R) (f ++ ds)) e
      ∙ go (at Between P n R) (at EscapedLow P n R) 92 (l ∷ ds) (by-sign Between (at Between P n R) 92 Backslash refl sign-backslash)
      ∙ go (at EscapedLow P n R) (at (Low l) P n R) l ds refl

  high-run : (l : ℕ) (front : List ℕ) (h : ℕ) (ds : List ℕ) → SpellsEnd front h → run (at (Dash l) P n R) (front ++ ds) ≡ run (at Between P n (R ++ range l h ∷ [])) ds
  high-run l front h ds (inl (e, plain)) =
      ap (λ f. run (at (Dash l) P n R) (f ++ ds)) e ∙ go (at (Dash l) P n R) (at Between P n (R ++ range l h ∷ [])) h ds (dashed-end (sign_at h) (at (Dash l) P n R) l h (end-by (sign_at h) h (says h) plain))
  high-run l front h ds (inr e) =
      ap (λ f. run (at (Dash l) P n R) (f ++ ds)) e
      ∙ go (at (Dash l) P n R) (at (EscapedHigh l) P n R) 92 (h ∷ ds) (by-sign (Dash l) (at (Dash l) P n R) 92 Backslash refl sign-backslash)
      ∙ go (at (EscapedHigh l) P n R) (at Between P n (R ++ range l h ∷ [])) h ds refl

  -- behind an item something else than `-` follows
  low-by : (l : ℕ) (s : Sign) (c : ℕ) → (s ≡ Hyphen → ⊥) → low (at (Low l) P n R) l s c ≡ between (at Between P n (R ++ range l l ∷ [])) s c
  low-by l Star c h = refl
  low-by l Question c h = refl
  low-by l Backslash c h = refl
  low-by l Open c h = refl
  low-by l Close c h = closed-same (R ++ range l l ∷ [])
    where
      closed-same : (rs : List Range) → closed (at (Low l) P n rs) rs ≡ closed (at Between P n rs) rs
      closed-same [] = refl
      closed-same (x ∷ xs) = refl
  low-by l Hyphen c h = absurd (h refl)
  low-by l Caret c h = refl
  low-by l Other c h = refl

-- characters that go on with something else than `-`
abbrev GoesOn : List ℕ → Type 0
GoesOn ds = (c : ℕ) × ((rest : List ℕ) × ((ds ≡ c ∷ rest) × (sign_at c ≡ Hyphen → ⊥)))

low-run : (P : List Part) (n : Bool) (R : List Range) (l : ℕ) (ds : List ℕ) → GoesOn ds → run (at (Low l) P n R) ds ≡ run (at Between P n (R ++ range l l ∷ [])) ds
low-run P n R l ds (c, (rest, (e, h))) =
    ap (λ f. run (at (Low l) P n R) f) e ∙ ap (λ o. option_and_then (λ next. run next rest) o) (low-by P n R l (sign_at c) c h) ∙ ap (λ f. run (at Between P n (R ++ range l l ∷ [])) f) (sym e)

range-run : (P : List Part) (n : Bool) (R : List Range) (front : List ℕ) (r : Range) (ds : List ℕ) → SpellsRange front r → GoesOn ds → run (at Between P n R) (front ++ ds) ≡ run (at Between P n (R ++ r ∷ [])) ds
range-run P n R front r ds (inl (sp, same)) on =
    end-run P n R front r.low ds sp ∙ low-run P n R r.low ds on ∙ ap (λ h. run (at Between P n (R ++ range r.low h ∷ [])) ds) (sym same)
range-run P n R front r ds (inr (lows, (highs, (e, (sl, sh))))) on =
    ap (λ f. run (at Between P n R) (f ++ ds)) e ∙ ap (λ f. run (at Between P n R) f) (append_assoc lows (45 ∷ highs) ds)
    ∙ end-run P n R lows r.low (45 ∷ highs ++ ds) sl
    ∙ go (at (Low r.low) P n R) (at (Dash r.low) P n R) 45 (highs ++ ds) (by-sign (Low r.low) (at (Low r.low) P n R) 45 Hyphen refl sign-hyphen)
    ∙ high-run P n R r.low highs r.high ds sh

not-hyphen : (s : Sign) (c : ℕ) → SaysOf s c → IsEnd s → s ≡ Hyphen → ⊥
not-hyphen s c e h is = subst IsEnd is h

end-goes-on : (front : List ℕ) (l : ℕ) (ds : List ℕ) → SpellsEnd front l → GoesOn (front ++ ds)
end-goes-on front l ds (inl (e, h)) = (l, (ds, (ap (λ f. f ++ ds) e, not-hyphen (sign_at l) l (says l) (end-by (sign_at l) l (says l) h))))
end-goes-on front l ds (inr e) = (92, (l ∷ ds, (ap (λ f. f ++ ds) e, λ is. (let off : Backslash ≡ Hyphen = sym sign-backslash ∙ is in cc))))

range-goes-on : (front : List ℕ) (r : Range) (ds : List ℕ) → SpellsRange front r → GoesOn (front ++ ds)
range-goes-on front r ds (inl (sp, same)) = end-goes-on front r.low ds sp
range-goes-on front r ds (inr (lows, (highs, (e, (sl, sh))))) =
    subst GoesOn (sym (ap (λ f. f ++ ds) e ∙ append_assoc lows (45 ∷ highs) ds)) (end-goes-on lows r.low (45 ∷ highs ++ ds) sl)

ranges-go-on : (cs : List ℕ) (rs : List Range) (ds : List ℕ) → SpellRanges cs rs → GoesOn (cs ++ 93 ∷ ds)
ranges-go-on cs [] ds e = (93, (ds, (ap (λ f. f ++ 93 ∷ ds) e, λ is. (let off : Close ≡ Hyphen = sym sign-close ∙ is in cc))))
ranges-go-on cs (r ∷ rs) ds (front, (rest, (e, (sp, more)))) =
    subst GoesOn (sym (ap (λ f. f ++ 93 ∷ ds) e ∙ append_assoc front rest (93 ∷ ds))) (range-goes-on front r (rest ++ 93 ∷ ds) sp)

ranges-run : (P : List Part) (n : Bool) (R : List Range) (cs : List ℕ) (rs : List Range) (ds : List ℕ) → SpellRanges cs rs → run (at Between P n R) (cs ++ 93 ∷ ds) ≡ run (at Between P n (R ++ rs)) (93 ∷ ds)
ranges-run P n R cs [] ds e = ap (λ f. run (at Between P n R) (f ++ 93 ∷ ds)) e ∙ ap (λ l. run (at Between P n l) (93 ∷ ds)) (sym (append-nil R))
ranges-run P n R cs (r ∷ rs) ds (front, (rest, (e, (sp, more)))) =
    ap (λ f. run (at Between P n R) (f ++ 93 ∷ ds)) e ∙ ap (λ f. run (at Between P n R) f) (append_assoc front rest (93 ∷ ds))
    ∙ range-run P n R front r (rest ++ 93 ∷ ds) sp (ranges-go-on rest rs ds more)
    ∙ ranges-run P n (R ++ r ∷ []) rest rs ds more
    ∙ ap (λ l. run (at Between P n l) (93 ∷ ds)) (append_assoc R (r ∷ []) rs)

opened-by : (P : List Part) (s : Sign) (c : ℕ) → (s ≡ Caret → ⊥) → opened (at Opened P false []) s c ≡ between (at Between P false []) s c
opened-by P Star c h = refl
opened-by P Question c h = refl
opened-by P Backslash c h = refl
opened-by P Open c h = refl
opened-by P Close c h = refl
opened-by P Hyphen c h = refl
opened-by P Caret c h = absurd (h refl)
opened-by P Other c h = refl

opened-run : (P : List Part) (c : ℕ) (ds : List ℕ) → (c ≡ 94 → ⊥) → run (at Opened P false []) (c ∷ ds) ≡ run (at Between P false []) (c ∷ ds)
opened-run P c ds h = ap (λ o. option_and_then (λ next. run next ds) o) (opened-by P (sign_at c) c (λ is. h (subst (λ s. SaysOf s c) is (says c))))

plain-inside : (P : List Part) (inside ds : List ℕ) → ((items : List ℕ) → inside ≡ 94 ∷ items → ⊥) → run (at Opened P false []) (inside ++ 93 ∷ ds) ≡ run (at Between P false []) (inside ++ 93 ∷ ds)
plain-inside P [] ds h = opened-run P 93 ds (λ e. (let off : nat_eq 93 94 ≡ true = eq-eqb 93 94 e in true≢false (sym off)))
plain-inside P (c ∷ cs) ds h = opened-run P c (cs ++ 93 ∷ ds) (λ e. h cs (ap (λ x. x ∷ cs) e))

inside-run : (P : List Part) (inside : List ℕ) (n : Bool) (rs : List Range) (ds : List ℕ) → SpellsInside inside n rs → run (at Opened P false []) (inside ++ 93 ∷ ds) ≡ run (out (P ++ Class n rs ∷ [])) ds
inside-run P inside true [] ds sp = absurd sp
inside-run P inside false [] ds sp = absurd sp
inside-run P inside true (r ∷ rs) ds (items, (e, sp)) =
    ap (λ f. run (at Opened P false []) (f ++ 93 ∷ ds)) e
    ∙ go (at Opened P false []) (at Between P true []) 94 (items ++ 93 ∷ ds) (by-sign Opened (at Opened P false []) 94 Caret refl sign-caret)
    ∙ ranges-run P true [] items (r ∷ rs) ds sp
    ∙ go (at Between P true (r ∷ rs)) (out (P ++ Class true (r ∷ rs) ∷ [])) 93 ds (by-sign Between (at Between P true (r ∷ rs)) 93 Close refl sign-close)
inside-run P inside false (r ∷ rs) ds (plain, sp) =
    plain-inside P inside ds plain ∙ ranges-run P false [] inside (r ∷ rs) ds sp
    ∙ go (at Between P false (r ∷ rs)) (out (P ++ Class false (r ∷ rs) ∷ [])) 93 ds (by-sign Between (at Between P false (r ∷ rs)) 93 Close refl sign-close)

part-run : (P : List Part) (front : List ℕ) (part : Part) (ds : List ℕ) → SpellsPart front part → run (out P) (front ++ ds) ≡ run (out (P ++ part ∷ [])) ds
part-run P front AnyRun ds e = ap (λ f. run (out P) (f ++ ds)) e ∙ go (out P) (out (P ++ AnyRun ∷ [])) 42 ds (by-sign Outside (out P) 42 Star refl sign-star)
part-run P front AnyOne ds e = ap (λ f. run (out P) (f ++ ds)) e ∙ go (out P) (out (P ++ AnyOne ∷ [])) 63 ds (by-sign Outside (out P) 63 Question refl sign-question)
part-run P front (Exactly c) ds (inl (e, h)) =
    ap (λ f. run (out P) (f ++ ds)) e ∙ go (out P) (out (P ++ Exactly c ∷ [])) c ds (ap (λ r. Some r) (outside-plain (sign_at c) (out P) c (plain-by (sign_at c) c (says c) h)))
part-run P front (Exactly c) ds (inr e) =
    ap (λ f. run (out P) (f ++ ds)) e ∙ go (out P) (at Escaped P false []) 92 (c ∷ ds) (by-sign Outside (out P) 92 Backslash refl sign-backslash) ∙ go (at Escaped P false []) (out (P ++ Exactly c ∷ [])) c ds refl
part-run P front (Class n rs) ds (inside, (e, sp)) =
    ap (λ f. run (out P) (f ++ ds)) e ∙ ap (λ f. run (out P) (91 ∷ f)) (append_assoc inside (93 ∷ []) ds)
    ∙ go (out P) (at Opened P false []) 91 (inside ++ 93 ∷ ds) (by-sign Outside (out P) 91 Open refl sign-open)
    ∙ inside-run P inside n rs ds sp

parts-run : (P : List Part) (cs : List ℕ) (ps : List Part) → Spell cs ps → run (out P) cs ≡ Some (out (P ++ ps))
parts-run P cs [] e = ap (λ f. run (out P) f) e ∙ ap (λ l. Some (out l)) (sym (append-nil P))
parts-run P cs (part ∷ ps) (front, (rest, (e, (sp, more)))) =
    ap (λ f. run (out P) f) e ∙ part-run P front part rest sp ∙ parts-run (P ++ part ∷ []) rest ps more ∙ ap (λ l. Some (out l)) (append_assoc P (part ∷ []) ps)

pub spelled-read : (cs : List ℕ) (ps : List Part) → Spell cs ps → parts_of cs ≡ Some ps
spelled-read cs ps sp = ap (λ o. option_and_then finished o) (parts-run [] cs ps sp)

-- ---- what is read was spelled

abbrev IsSome : List Range → Type 0
IsSome [] = ⊥
IsSome (r ∷ rs) = Unit {0}

module _ (o : List Part) where
  -- what the characters that are left say, by where the reading is
  abbrev SaysOutside : List Part → List ℕ → Type 0
  SaysOutside P cs = (ps : List Part) × (Spell cs ps × (o ≡ P ++ ps))

  abbrev SaysEscaped : List Part → List ℕ → Type 0
  SaysEscaped P cs = (c : ℕ) × ((rest : List ℕ) × ((cs ≡ c ∷ rest) × SaysOutside (P ++ Exactly c ∷ []) rest))

  abbrev SaysBetween : List Part → Bool → List Range → List ℕ → Type 0
  SaysBetween P n R cs =
      (items : List ℕ) × ((rest : List ℕ) × ((rs : List Range) × ((cs ≡ items ++ 93 ∷ rest) × (SpellRanges items rs × (IsSome (R ++ rs) × SaysOutside (P ++ Class n (R ++ rs) ∷ []) rest)))))

  abbrev SaysOpened : List Part → List ℕ → Type 0
  SaysOpened P cs =
      (inside : List ℕ) × ((rest : List ℕ) × ((n : Bool) × ((rs : List Range) × ((cs ≡ inside ++ 93 ∷ rest) × (SpellsInside inside n rs × SaysOutside (P ++ Class n rs ∷ []) rest)))))

  abbrev SaysDash : List Part → Bool → List Range → ℕ → List ℕ → Type 0
  SaysDash P n R l cs = (high : List ℕ) × ((rest : List ℕ) × ((h : ℕ) × ((cs ≡ high ++ rest) × (SpellsEnd high h × SaysBetween P n (R ++ range l h ∷ []) rest))))

  abbrev SaysLow : List Part → Bool → List Range → ℕ → List ℕ → Type 0
  SaysLow P n R l cs = SaysBetween P n (R ++ range l l ∷ []) cs ⊎ ((rest : List ℕ) × ((cs ≡ 45 ∷ rest) × SaysDash P n R l rest))

  abbrev SaysEscapedLow : List Part → Bool → List Range → List ℕ → Type 0
  SaysEscapedLow P n R cs = (l : ℕ) × ((rest : List ℕ) × ((cs ≡ l ∷ rest) × SaysLow P n R l rest))

  abbrev SaysEscapedHigh : List Part → Bool → List Range → ℕ → List ℕ → Type 0
  SaysEscapedHigh P n R l cs = (h : ℕ) × ((rest : List ℕ) × ((cs ≡ h ∷ rest) × SaysBetween P n (R ++ range l h ∷ []) rest))

  abbrev Ends : Reading → List ℕ → Type 0
  Ends r cs = option_and_then finished (run r cs) ≡ Some o

  abbrev Goes : Option Reading → List ℕ → Type 0
  Goes next cs = option_and_then finished (option_and_then (λ r. run r cs) next) ≡ Some o

  record Sound (cs : List ℕ) : Type 0 where
    outside_says : (P : List Part) → Ends (out P) cs → SaysOutside P cs
    escaped_says : (P : List Part) → Ends (at Escaped P false []) cs → SaysEscaped P cs
    opened_says : (P : List Part) → Ends (at Opened P false []) cs → SaysOpened P cs
    between_says : (P : List Part) (n : Bool) (R : List Range) → Ends (at Between P n R) cs → SaysBetween P n R cs
    escaped_low_says : (P : List Part) (n : Bool) (R : List Range) → Ends (at EscapedLow P n R) cs → SaysEscapedLow P n R cs
    low_says : (P : List Part) (n : Bool) (R : List Range) (l : ℕ) → Ends (at (Low l) P n R) cs → SaysLow P n R l cs
    dash_says : (P : List Part) (n : Bool) (R : List Range) (l : ℕ) → Ends (at (Dash l) P n R) cs → SaysDash P n R l cs
    escaped_high_says : (P : List Part) (n : Bool) (R : List Range) (l : ℕ) → Ends (at (EscapedHigh l) P n R) cs → SaysEscapedHigh P n R l cs

  -- a part and what is behind it
  part-says : (P : List Part) (part : Part) (front rest cs : List ℕ) → cs ≡ front ++ rest → SpellsPart front part → SaysOutside (P ++ part ∷ []) rest → SaysOutside P cs
  part-says P part front rest cs e sp (ps, (more, is)) = (part ∷ ps, ((front, (rest, (e, (sp, more)))), is ∙ append_assoc P (part ∷ []) ps))

  -- an item and what is behind it
  item-says : (P : List Part) (n : Bool) (R : List Range) (r : Range) (front rest cs : List ℕ) → cs ≡ front ++ rest → SpellsRange front r → SaysBetween P n (R ++ r ∷ []) rest → SaysBetween P n R cs
  item-says P n R r front rest cs e sp (items, (left, (rs, (is, (more, (some, says)))))) =
      let same = append_assoc R (r ∷ []) rs in
      (front ++ items, (left, (r ∷ rs, (e ∙ ap (λ l. front ++ l) is ∙ sym (append_assoc front items (93 ∷ left)), ((front, (items, (refl, (sp, more)))), (subst IsSome same some, subst (λ l. SaysOutside (P ++ Class n l ∷ []) left) same says))))))

  -- the low end of an item and what is behind it
  low-item : (P : List Part) (n : Bool) (R : List Range) (l : ℕ) (front rest cs : List ℕ) → cs ≡ front ++ rest → SpellsEnd front l → SaysLow P n R l rest → SaysBetween P n R cs
  low-item P n R l front rest cs e sp (inl says) = item-says P n R (range l l) front rest cs e (inl (sp, refl)) says
  low-item P n R l front rest cs e sp (inr (more, (is, (high, (left, (h, (same, (sh, says)))))))) =
      item-says P n R (range l h) (front ++ 45 ∷ high) left cs (e ∙ ap (λ t. front ++ t) (is ∙ ap (λ t. 45 ∷ t) same) ∙ sym (append_assoc front (45 ∷ high) left)) (inr (front, (high, (refl, (sp, sh))))) says

  module _ (c : ℕ) (cs : List ℕ) (IH : Sound cs) where
    plain-says : (P : List Part) (s : Sign) → SaysOf s c → IsPlain s → Ends (out (P ++ Exactly c ∷ [])) cs → SaysOutside P (c ∷ cs)
    plain-says P s e plain h = part-says P (Exactly c) (c ∷ []) cs (c ∷ cs) refl (inl (refl, plain-back s c e plain)) (IH.outside_says (P ++ Exactly c ∷ []) h)

    escape-says : (P : List Part) → c ≡ 92 → SaysEscaped P cs → SaysOutside P (c ∷ cs)
    escape-says P e (d, (rest, (is, says))) = part-says P (Exactly d) (c ∷ d ∷ []) rest (c ∷ cs) (ap (λ t. c ∷ t) is) (inr (ap (λ x. x ∷ d ∷ []) e)) says

    class-says : (P : List Part) → c ≡ 91 → SaysOpened P cs → SaysOutside P (c ∷ cs)
    class-says P e (inside, (rest, (n, (rs, (is, (sp, says)))))) =
        part-says P (Class n rs) (c ∷ (inside ++ 93 ∷ [])) rest (c ∷ cs) (ap (λ t. c ∷ t) (is ∙ sym (append_assoc inside (93 ∷ []) rest))) (inside, (ap (λ x. x ∷ (inside ++ 93 ∷ [])) e, sp)) says

    outside-by : (P : List Part) (s : Sign) → SaysOf s c → Goes (Some (outside (out P) s c)) cs → SaysOutside P (c ∷ cs)
    outside-by P Star e h = part-says P AnyRun (c ∷ []) cs (c ∷ cs) refl (ap (λ x. x ∷ []) e) (IH.outside_says (P ++ AnyRun ∷ []) h)
    outside-by P Question e h = part-says P AnyOne (c ∷ []) cs (c ∷ cs) refl (ap (λ x. x ∷ []) e) (IH.outside_says (P ++ AnyOne ∷ []) h)
    outside-by P Backslash e h = escape-says P e (IH.escaped_says P h)
    outside-by P Open e h = class-says P e (IH.opened_says P h)
    outside-by P Close e h = plain-says P Close e tt h
    outside-by P Hyphen e h = plain-says P Hyphen e tt h
    outside-by P Caret e h = plain-says P Caret e tt h
    outside-by P Other e h = plain-says P Other e tt h

    end-says : (P : List Part) (n : Bool) (R : List Range) (s : Sign) → SaysOf s c → IsEnd s → Ends (at (Low c) P n R) cs → SaysBetween P n R (c ∷ cs)
    end-says P n R s e plain h = low-item P n R c (c ∷ []) cs (c ∷ cs) refl (inl (refl, end-back s c e plain)) (IH.low_says P n R c h)

    escaped-end : (P : List Part) (n : Bool) (R : List Range) → c ≡ 92 → SaysEscapedLow P n R cs → SaysBetween P n R (c ∷ cs)
    escaped-end P n R e (l, (rest, (is, says))) = low-item P n R l (c ∷ l ∷ []) rest (c ∷ cs) (ap (λ t. c ∷ t) is) (inr (ap (λ x. x ∷ l ∷ []) e)) says

    close-says : (P : List Part) (n : Bool) (R : List Range) (state : State) → c ≡ 93 → Goes (closed (at state P n R) R) cs → SaysBetween P n R (c ∷ cs)
    close-says P n [] state e h = absurd (none-some o h)
    close-says P n (r ∷ R) state e h =
        let whole = append-nil (r ∷ R) in
        ([], (cs, ([], (ap (λ x. x ∷ cs) e, (refl, (tt, subst (λ l. SaysOutside (P ++ Class n l ∷ []) cs) (sym whole) (IH.outside_says (P ++ Class n (r ∷ R) ∷ []) h)))))))

    between-by : (P : List Part) (n : Bool) (R : List Range) (s : Sign) → SaysOf s c → Goes (between (at Between P n R) s c) cs → SaysBetween P n R (c ∷ cs)
    between-by P n R Star e h = end-says P n R Star e tt h
    between-by P n R Question e h = end-says P n R Question e tt h
    between-by P n R Backslash e h = escaped-end P n R e (IH.escaped_low_says P n R h)
    between-by P n R Open e h = end-says P n R Open e tt h
    between-by P n R Close e h = close-says P n R Between e h
    between-by P n R Hyphen e h = absurd (none-some o h)
    between-by P n R Caret e h = end-says P n R Caret e tt h
    between-by P n R Other e h = end-says P n R Other e tt h

    -- a class that isn't negated begins with no `^`
    plain-class : (P : List Part) → (c ≡ 94 → ⊥) → SaysBetween P false [] (c ∷ cs) → SaysOpened P (c ∷ cs)
    plain-class P off (items, (rest, ([], (is, (sp, (some, says)))))) = absurd some
    plain-class P off (items, (rest, (r ∷ rs, (is, (sp, (some, says)))))) =
        (items, (rest, (false, (r ∷ rs, (is, (((λ more e. off (ap (λ l. get_or l 0 c) (is ∙ ap (λ l. l ++ 93 ∷ rest) e))), sp), says))))))

    negated-class : (P : List Part) → c ≡ 94 → SaysBetween P true [] cs → SaysOpened P (c ∷ cs)
    negated-class P e (items, (rest, ([], (is, (sp, (some, says)))))) = absurd some
    negated-class P e (items, (rest, (r ∷ rs, (is, (sp, (some, says)))))) = (c ∷ items, (rest, (true, (r ∷ rs, (ap (λ t. c ∷ t) is, ((items, (ap (λ x. x ∷ items) e, sp)), says))))))

    off-caret : (d : ℕ) → c ≡ d → nat_eq d 94 ≡ false → c ≡ 94 → ⊥
    off-caret d e off is = true≢false (sym (eq-eqb d 94 (sym e ∙ is)) ∙ off)

    opened-says-by : (P : List Part) (s : Sign) → SaysOf s c → Goes (opened (at Opened P false []) s c) cs → SaysOpened P (c ∷ cs)
    opened-says-by P Star e h = plain-class P (off-caret 42 e refl) (between-by P false [] Star e h)
    opened-says-by P Question e h = plain-class P (off-caret 63 e refl) (between-by P false [] Question e h)
    opened-says-by P Backslash e h = plain-class P (off-caret 92 e refl) (between-by P false [] Backslash e h)
    opened-says-by P Open e h = plain-class P (off-caret 91 e refl) (between-by P false [] Open e h)
    opened-says-by P Close e h = absurd (none-some o h)
    opened-says-by P Hyphen e h = absurd (none-some o h)
    opened-says-by P Caret e h = negated-class P e (IH.between_says P true [] h)
    opened-says-by P Other e h = plain-class P (λ is. true≢false (sym (eq-eqb c 94 is) ∙ e.1.1.1.1.1.1)) (between-by P false [] Other e h)

    low-says-by : (P : List Part) (n : Bool) (R : List Range) (l : ℕ) (s : Sign) → SaysOf s c → Goes (low (at (Low l) P n R) l s c) cs → SaysLow P n R l (c ∷ cs)
    low-says-by P n R l Star e h = inl (between-by P n (R ++ range l l ∷ []) Star e h)
    low-says-by P n R l Question e h = inl (between-by P n (R ++ range l l ∷ []) Question e h)
    low-says-by P n R l Backslash e h = inl (between-by P n (R ++ range l l ∷ []) Backslash e h)
    low-says-by P n R l Open e h = inl (between-by P n (R ++ range l l ∷ []) Open e h)
    low-says-by P n R l Close e h = inl (close-says P n (R ++ range l l ∷ []) (Low l) e h)
    low-says-by P n R l Hyphen e h = inr (cs, (ap (λ x. x ∷ cs) e, IH.dash_says P n R l h))
    low-says-by P n R l Caret e h = inl (between-by P n (R ++ range l l ∷ []) Caret e h)
    low-says-by P n R l Other e h = inl (between-by P n (R ++ range l l ∷ []) Other e h)

    high-says : (P : List Part) (n : Bool) (R : List Range) (l : ℕ) (s : Sign) → SaysOf s c → IsEnd s → Ends (at Between P n (R ++ range l c ∷ [])) cs → SaysDash P n R l (c ∷ cs)
    high-says P n R l s e plain h = (c ∷ [], (cs, (c, (refl, (inl (refl, end-back s c e plain), IH.between_says P n (R ++ range l c ∷ []) h)))))

    escaped-high : (P : List Part) (n : Bool) (R : List Range) (l : ℕ) → c ≡ 92 → SaysEscapedHigh P n R l cs → SaysDash P n R l (c ∷ cs)
    escaped-high P n R l e (h, (rest, (is, says))) = (c ∷ h ∷ [], (rest, (h, (ap (λ t. c ∷ t) is, (inr (ap (λ x. x ∷ h ∷ []) e), says)))))

    dash-says-by : (P : List Part) (n : Bool) (R : List Range) (l : ℕ) (s : Sign) → SaysOf s c → Goes (dashed (at (Dash l) P n R) l s c) cs → SaysDash P n R l (c ∷ cs)
    dash-says-by P n R l Star e h = high-says P n R l Star e tt h
    dash-says-by P n R l Question e h = high-says P n R l Question e tt h
    dash-says-by P n R l Backslash e h = escaped-high P n R l e (IH.escaped_high_says P n R l h)
    dash-says-by P n R l Open e h = high-says P n R l Open e tt h
    dash-says-by P n R l Close e h = absurd (none-some o h)
    dash-says-by P n R l Hyphen e h = absurd (none-some o h)
    dash-says-by P n R l Caret e h = high-says P n R l Caret e tt h
    dash-says-by P n R l Other e h = high-says P n R l Other e tt h

  sound : (cs : List ℕ) → Sound cs
  sound [] = record {
    outside_says = λ P h. ([], (refl, sym (same_Some P o h) ∙ sym (append-nil P)));
    escaped_says = λ P h. absurd (none-some o h);
    opened_says = λ P h. absurd (none-some o h);
    between_says = λ P n R h. absurd (none-some o h);
    escaped_low_says = λ P n R h. absurd (none-some o h);
    low_says = λ P n R l h. absurd (none-some o h);
    dash_says = λ P n R l h. absurd (none-some o h);
    escaped_high_says = λ P n R l h. absurd (none-some o h);
  }
  sound (c ∷ cs) =
      let more = sound cs in
      let s = says c in
      record {
        outside_says = λ P h. outside-by c cs more P (sign_at c) s h;
        escaped_says = λ P h. (c, (cs, (refl, more.outside_says (P ++ Exactly c ∷ []) h)));
        opened_says = λ P h. opened-says-by c cs more P (sign_at c) s h;
        between_says = λ P n R h. between-by c cs more P n R (sign_at c) s h;
        escaped_low_says = λ P n R h. (c, (cs, (refl, more.low_says P n R c h)));
        low_says = λ P n R l h. low-says-by c cs more P n R l (sign_at c) s h;
        dash_says = λ P n R l h. dash-says-by c cs more P n R l (sign_at c) s h;
        escaped_high_says = λ P n R l h. (c, (cs, (refl, more.between_says P n (R ++ range l c ∷ []) h)));
      }

pub read-spelled : (cs : List ℕ) (ps : List Part) → parts_of cs ≡ Some ps → Spell cs ps
read-spelled cs ps h =
    let all = sound ps cs in
    let w = all.outside_says [] h in
    subst (λ (l : List Part). Spell cs l) (sym w.1.1) w.1.0
