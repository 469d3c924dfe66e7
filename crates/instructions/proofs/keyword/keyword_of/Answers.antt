use Rattle.std.proofs.Common.{◌≡◌, ◌<◌, ◌+◌, ℕ, List, Option, Some, Bool, false, cond, refl, sym, ◌∙◌, ap, length, drop, get_or}
use Rattle.std.proofs.lemmas.List.{at_drop_all, at_drop_more}
use Rattle.std.specs.List.{find}
use Rattle.std.specs.Str.{str_eq_ignore_ascii_case}
use Rattle.instructions.specs.declared.keyword.Keyword.{Keyword}
use Rattle.instructions.specs.Keyword.{keywords, keyword_of, name_of}
use Rattle.instructions.proofs.keyword.keyword_of.Goals as goal

-- whether a keyword is the one of a name
abbrev is_of : List ℕ → Keyword → Bool
is_of name keyword = str_eq_ignore_ascii_case name (name_of keyword)

-- what is found behind an item that isn't it
past : (p : Keyword → Bool) (xs : List Keyword) (i : ℕ) (d : Keyword) (found : Option Keyword)
    → i < length xs → p (get_or xs i d) ≡ false → find p (drop i xs) ≡ found → find p (drop (i + 1) xs) ≡ found
past p xs i d found h other before =
    sym (at_drop_more (find p) xs i d h ∙ ap (λ b. cond b (Some (get_or xs i d)) (find p (drop (i + 1) xs))) other) ∙ before

pub loop-keyword-init : goal.loop-keyword-init
unfolding keyword_of
loop-keyword-init c = refl

pub loop-keyword-preserved : goal.loop-keyword-preserved
loop-keyword-preserved c =
    past (is_of c.args.name.now) keywords c.loop-keyword.keyword-index _ (keyword_of c.args.name.now) c.loop-keyword-test.true
    (ap (str_eq_ignore_ascii_case c.args.name.now) (sym c.name.ensures) ∙ sym c.is_same_name.ensures ∙ c.if-is_same_name.false) c.loop-keyword.invariant

pub returns : goal.returns
returns c = sym (at_drop_all (find (is_of c.args.name.now)) keywords c.loop-keyword.keyword-index c.loop-keyword-test.false) ∙ c.loop-keyword.invariant
