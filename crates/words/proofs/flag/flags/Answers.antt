use Rattle.std.proofs.Common.{◌≡◌, ◌++◌, ◌∷◌, [], List, ℕ, true, rules, sym, ◌∙◌, ap, ap₂, subst, append_assoc, append-nil, length, ◌<◌}
use Rattle.ascii.specs.Blanks.{after_blanks}
use Rattle.lines.specs.Marks.{is_flag}
use Rattle.ascii.specs.Pieces.{from_blank, first_piece, behind_piece}
use Rattle.words.specs.Flag.{flag_of, flags, behind_flags}
use Rattle.ascii.proofs.BlankLaws.{after_blanks-twice}
use Rattle.words.proofs.FlagLaws.{flags-after_blanks, behind_flags-after_blanks, flags-flag, behind_flags-flag, flags-none, behind_flags-none, behind_flag-shorter}
use Rattle.words.specs.declared.flag.Flag.{Flag}
use Rattle.words.proofs.flag.flags.Goals as goal

begins_so : (text rest : List ℕ) → rest ≡ after_blanks text → after_blanks rest ≡ rest
begins_so text rest h = ap after_blanks h ∙ after_blanks-twice text ∙ sym h

none_found : (found : List Flag) (text rest : List ℕ) → found ≡ [] → rest ≡ after_blanks text → found ++ flags rest ≡ flags text
none_found found text rest f h = ap₂ (λ (fs : List Flag) t. fs ++ flags t) f h ∙ flags-after_blanks text

one_found : (found more : List Flag) (flag : Flag) (text piece rest behind : List ℕ) → is_flag rest ≡ true → more ≡ found ++ flag ∷ [] → flag ≡ flag_of piece → piece ≡ first_piece rest → behind ≡ behind_piece rest
    → found ++ flags rest ≡ flags text → more ++ flags behind ≡ flags text
one_found found more flag text piece rest behind h m f p b i =
    ap₂ (λ (fs : List Flag) t. fs ++ flags t) (m ∙ ap (λ (g : Flag). found ++ g ∷ []) (f ∙ ap flag_of p)) b
    ∙ append_assoc found (flag_of (first_piece rest) ∷ []) (flags (behind_piece rest))
    ∙ ap (λ (fs : List Flag). found ++ fs) (sym (flags-flag rest h)) ∙ i

begins_behind : (rest behind : List ℕ) → behind ≡ behind_piece rest → after_blanks behind ≡ behind
begins_behind rest behind b = ap after_blanks b ∙ after_blanks-twice (from_blank (after_blanks rest)) ∙ sym b

pub loop-alloc-init : goal.loop-alloc-init
loop-alloc-init c = record {
  text = search rules;
  begins = begins_so c.args.text.now _ c.after_blanks-rest.ensures;
  found = none_found _ c.args.text.now _ c.new-found.ensures c.after_blanks-rest.ensures;
  left = ap behind_flags c.after_blanks-rest.ensures ∙ behind_flags-after_blanks c.args.text.now;
}

pub loop-alloc-smaller : goal.loop-alloc-smaller
loop-alloc-smaller c =
    subst (λ (t : List ℕ). length t < length c.loop-alloc.rest.now) (sym c.first_piece.ensures.behind) (behind_flag-shorter c.loop-alloc.rest.now (sym c.is_flag.ensures ∙ c.loop-alloc-test.true))

pub loop-alloc-preserved : goal.loop-alloc-preserved
loop-alloc-preserved c = record {
  text = search rules;
  begins = begins_behind c.loop-alloc.rest.now _ c.first_piece.ensures.behind;
  found = one_found c.loop-alloc.found c.push.new.self c.in_ok-read_flag.field-0 c.args.text.now c.first_piece.result.0.now c.loop-alloc.rest.now c.first_piece.result.1.now
      (sym c.is_flag.ensures ∙ c.loop-alloc-test.true) c.in_ok-push.ensures.ok c.in_ok-read_flag.ensures c.first_piece.ensures.piece c.first_piece.ensures.behind c.loop-alloc.invariant.found;
  left = ap behind_flags c.first_piece.ensures.behind ∙ sym (behind_flags-flag c.loop-alloc.rest.now (sym c.is_flag.ensures ∙ c.loop-alloc-test.true)) ∙ c.loop-alloc.invariant.left;
}

pub returns-clause-flags : goal.returns-clause-flags
returns-clause-flags c =
    sym (append-nil c.loop-alloc.found)
    ∙ ap (λ (fs : List Flag). c.loop-alloc.found ++ fs) (sym (flags-none c.loop-alloc.rest.now c.loop-alloc.invariant.begins (sym c.is_flag.ensures ∙ c.loop-alloc-test.false)))
    ∙ c.loop-alloc.invariant.found

pub returns-clause-rest : goal.returns-clause-rest
returns-clause-rest c =
    sym (behind_flags-none c.loop-alloc.rest.now c.loop-alloc.invariant.begins (sym c.is_flag.ensures ∙ c.loop-alloc-test.false)) ∙ c.loop-alloc.invariant.left
