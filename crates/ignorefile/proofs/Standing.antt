-- Where the lines of an ignore file stand in it.
use Rattle.std.proofs.Common.{◌≡◌, ◌∙◌, ◌+◌, ◌-◌, ◌++◌, ℕ, if◌then◌else◌, List, [], ◌∷◌, Option, Some, None, Result, Ok, Err, sym, ap, subst, refl, true≢false, arith, zero, suc}
use Rattle.std.proofs.lemmas.Option.{none-some, same_Some}
use Rattle.std.specs.Prelude.{slice_get}
use Rattle.std.specs.Result.{is_ok}
use Rattle.std.specs.Str.Lines.{lines}
use Rattle.ignorefile.specs.declared.line.Line.{Line}
use Rattle.ignorefile.specs.File.{without_byte_order_mark, line_of, lines_from, all_say, ignore_of, is_line, numbers_from, numbers_of}

abbrev lines_in : Result (List Line) ℕ → List Line
lines_in (Ok said) = said
lines_in (Err bad) = []

-- the line at a position among those that texts say stands at a number and is what the text there says
abbrev Stands : ℕ → List (List ℕ) → ℕ → Line → Type 0
Stands number texts n line = (i : ℕ) × ((text : List ℕ) × ((slice_get (numbers_from number texts) n ≡ Some (number + i)) × ((slice_get texts i ≡ Some text) × (line_of text ≡ Some (Some line)))))

-- the same behind one more text
later : (number n m : ℕ) (bytes : List ℕ) (more : List (List ℕ)) (line : Line) → ((k : ℕ) → slice_get (numbers_from (number + 1) more) n ≡ Some k → slice_get (numbers_from number (bytes ∷ more)) m ≡ Some k) → Stands (number + 1) more n line → Stands number (bytes ∷ more) m line
later number n m bytes more line moved (i, (text, (at, (there, says)))) =
    let same : number + 1 + i ≡ number + suc i = omega arith in
    (suc i, (text, (subst (λ (k : ℕ). slice_get (numbers_from number (bytes ∷ more)) m ≡ Some k) same (moved (number + 1 + i) at), (there, says))))

stands : (number : ℕ) (texts : List (List ℕ)) (said : List Line) (n : ℕ) (line : Line) → lines_from number texts ≡ Ok said → slice_get said n ≡ Some line → Stands number texts n line
stands number [] said n line read at = absurd (none-some line (ap (λ (l : List Line). slice_get l n) (ap lines_in read) ∙ at))
stands number (bytes ∷ more) said n line read at =
    by (λ (others : List Line) (m : ℕ). stands (number + 1) more others m line) (line_of bytes) refl (lines_from (number + 1) more) refl
  where
    by : ((others : List Line) (m : ℕ) → lines_from (number + 1) more ≡ Ok others → slice_get others m ≡ Some line → Stands (number + 1) more m line) → (found : Option (Option Line)) → line_of bytes ≡ found → (rest : Result (List Line) ℕ) → lines_from (number + 1) more ≡ rest → Stands number (bytes ∷ more) n line
    by deeper None f rest r = absurd (true≢false (sym (ap is_ok (sym (ap (λ s. all_say number s (lines_from (number + 1) more)) f) ∙ read))))
    by deeper (Some found) f (Err bad) r =
        absurd (true≢false (sym (ap is_ok (sym (ap (λ s. all_say number s (lines_from (number + 1) more)) f ∙ ap (all_say number (Some found)) r) ∙ read))))
    by deeper (Some None) f (Ok others) r =
        let is : others ≡ said = ap lines_in (sym (ap (λ s. all_say number s (lines_from (number + 1) more)) f ∙ ap (all_say number (Some None)) r) ∙ read) in
        later number n n bytes more line (λ k e. ap (λ (s : Option (Option Line)). slice_get ((if is_line s then number ∷ [] else []) ++ numbers_from (number + 1) more) n) f ∙ e)
        (deeper others n r (ap (λ (l : List Line). slice_get l n) is ∙ at))
    by deeper (Some (Some first)) f (Ok others) r = this n at
      where
        is : first ∷ others ≡ said
        is = ap lines_in (sym (ap (λ s. all_say number s (lines_from (number + 1) more)) f ∙ ap (all_say number (Some (Some first))) r) ∙ read)

        this : (m : ℕ) → slice_get said m ≡ Some line → Stands number (bytes ∷ more) m line
        this zero e =
            let same : first ≡ line = same_Some first line (ap (λ (l : List Line). slice_get l 0) is ∙ e) in
            let here : number ≡ number + 0 = omega arith in
            (0, (bytes, (ap (λ (s : Option (Option Line)). slice_get ((if is_line s then number ∷ [] else []) ++ numbers_from (number + 1) more) 0) f ∙ ap Some here, (refl, f ∙ ap (λ l. Some (Some l)) same))))
        this (suc m) e =
            later number m (suc m) bytes more line (λ k g. ap (λ (s : Option (Option Line)). slice_get ((if is_line s then number ∷ [] else []) ++ numbers_from (number + 1) more) (suc m)) f ∙ g)
            (deeper others m r (ap (λ (l : List Line). slice_get l (suc m)) is ∙ e))

pub line-stands : (bytes : List ℕ) (said : List Line) (n : ℕ) (line : Line) → ignore_of bytes ≡ Ok said → slice_get said n ≡ Some line
    → (number : ℕ) × ((text : List ℕ) × ((slice_get (numbers_of bytes) n ≡ Some number) × ((slice_get (lines (without_byte_order_mark bytes)) (number - 1) ≡ Some text) × (line_of text ≡ Some (Some line)))))
line-stands bytes said n line read at =
    let w = stands 1 (lines (without_byte_order_mark bytes)) said n line read at in
    let back : w.0 ≡ 1 + w.0 - 1 = omega arith in
    (1 + w.0, (w.1.0, (w.1.1.0, (subst (λ (i : ℕ). slice_get (lines (without_byte_order_mark bytes)) i ≡ Some w.1.0) back w.1.1.1.0, w.1.1.1.1))))
