-- What continued lines join to, by the structure of their file.
use Rattle.std.proofs.Common.{◌≡◌, ◌≢◌, ◌==◌, ◌||◌, ◌+◌, ℕ, Bool, true, false, cond, Option, Some, None, List, [], ◌∷◌, ◌++◌, length, map, refl, sym, ap, ap₂, ◌∙◌, subst, append_assoc, inl, true≢false, arith}
use Rattle.std.specs.Prelude.{is_some, unwrap_or}
use Rattle.std.specs.List.{concat}
use Rattle.std.proofs.Math.Bool.{or-true}
use Rattle.std.proofs.lemmas.Bool.Decides.{nat_tests}
use Rattle.std.proofs.lemmas.List.{append-nil}
use Rattle.plain.specs.declared.refusal.Refusal.{Refusal}
use Rattle.ascii.specs.Blanks.{trimmed}
use Rattle.lines.specs.Blanks.{continued_part, is_blank_line, is_comment, is_skipped}
use Rattle.lines.specs.Continued.{AreContinued, plain_line}
use Rattle.lines.specs.Directives.{after_sharp, directive_after, directive_of}
use Rattle.lines.specs.Escape.{byte_of}
use Rattle.lines.specs.File.{AreDirectives, BeginsBelowDirectives, escape_below, directive_faults, goes_on, IsKept, BeginsKept, AreJoined, part_of, joined_text, AreBodies, line_of, AreBlocks, none, logical, IsFile}
use Rattle.lines.proofs.FileLaws.{IsFile-same}
use Rattle.lines.specs.Marks.{marks_of}
use Rattle.lines.specs.declared.escape.Escape.{Escape}
use Rattle.lines.specs.declared.escape.Escape.TheVariants.{Backslash}
use Rattle.lines.specs.declared.line.Line.{Line}
use Rattle.lines.specs.declared.line.Mark.{Mark}
use Rattle.lines.specs.declared.directives.Directive.{Directive}

-- a line that is no comment is no directive
sharp_by : (c : ℕ) (cs : List ℕ) (b : Bool) → (c == 35) ≡ b → is_comment (c ∷ cs) ≡ false → cond b (Some cs) None ≡ None
sharp_by c cs true e h =
    let is : c ≡ 35 = grind (arith, nat_tests) in
    absurd (true≢false (subst (λ (x : ℕ). is_comment (x ∷ cs) ≡ false) is h))
sharp_by c cs false e h = refl

no_sharp : (line : List ℕ) → is_comment line ≡ false → after_sharp line ≡ None
no_sharp [] h = refl
no_sharp (c ∷ cs) h = sharp_by c cs (c == 35) refl h

no_comment : (a b : Bool) → (a || b) ≡ false → b ≡ false
no_comment true b h = absurd (true≢false h)
no_comment false b h = h

no_directive : (line : List ℕ) → IsKept line → directive_of line ≡ None
no_directive line kept = ap directive_after (no_sharp line (no_comment (is_blank_line line) (is_comment line) kept))

-- what each line does

continued_goes_on : (e : ℕ) (line part : List ℕ) → continued_part e line ≡ Some part → goes_on e line ≡ true
continued_goes_on e line part h = ap (λ (o : Option (List ℕ)). is_skipped line || is_some o) h ∙ or-true (is_skipped line)

last_ends : (e : ℕ) (line : List ℕ) → IsKept line → continued_part e line ≡ None → goes_on e line ≡ false
last_ends e line kept h = ap₂ (λ (b : Bool) (o : Option (List ℕ)). b || is_some o) kept h

adds : (e : ℕ) (line : List ℕ) (o : Option (List ℕ)) → IsKept line → continued_part e line ≡ o → part_of e line ≡ unwrap_or o line
adds e line o kept h = ap₂ (λ (b : Bool) (o : Option (List ℕ)). cond b [] (unwrap_or o line)) kept h

-- what they are together

goes_to : (e : ℕ) (line : List ℕ) (lines : List (List ℕ)) (last : List ℕ) → goes_on e line ≡ true → AreJoined e (lines ++ last ∷ []) [] → AreJoined e (line ∷ (lines ++ last ∷ [])) []
goes_to e line [] last h i = (h, i)
goes_to e line (next ∷ lines) last h i = (h, i)

joined : (e : ℕ) (fronts parts : List (List ℕ)) (last : List ℕ) → AreContinued e fronts parts → IsKept last → continued_part e last ≡ None → AreJoined e (fronts ++ last ∷ []) []
joined e [] [] last all kept ends = inl (last_ends e last kept ends)
joined e [] (q ∷ qs) last all kept ends = absurd all
joined e (l ∷ ls) [] last all kept ends = absurd all
joined e (l ∷ ls) (q ∷ qs) last all kept ends = goes_to e l ls last (continued_goes_on e l q all.1) (joined e ls qs last all.2 kept ends)

parts_are : (e : ℕ) (fronts parts : List (List ℕ)) (last : List ℕ) → AreContinued e fronts parts → IsKept last → continued_part e last ≡ None → concat (map (part_of e) (fronts ++ last ∷ [])) ≡ concat parts ++ last
parts_are e [] [] last all kept ends = append-nil (part_of e last) ∙ adds e last None kept ends
parts_are e [] (q ∷ qs) last all kept ends = absurd all
parts_are e (l ∷ ls) [] last all kept ends = absurd all
parts_are e (l ∷ ls) (q ∷ qs) last all kept ends =
    ap₂ (λ x y. x ++ y) (adds e l (Some q) all.0 all.1) (parts_are e ls qs last all.2 kept ends) ∙ sym (append_assoc q (concat qs) last)

begins : (e : ℕ) (fronts parts : List (List ℕ)) (last : List ℕ) → AreContinued e fronts parts → IsKept last
    → BeginsKept (fronts ++ last ∷ []) × BeginsBelowDirectives (fronts ++ last ∷ [])
begins e [] [] last all kept = (kept, no_directive last kept)
begins e [] (q ∷ qs) last all kept = absurd all
begins e (l ∷ ls) [] last all kept = absurd all
begins e (l ∷ ls) (q ∷ qs) last all kept = (all.0, no_directive l all.0)

lone_line : (number : ℕ) (escape : Escape) (text : List ℕ) → text ≢ [] → line_of number escape text [] ++ [] ≡ plain_line number escape text ∷ []
lone_line number escape [] h = absurd (h refl)
lone_line number escape (c ∷ cs) h = refl

-- the file of directives and one logical line
continued_blocks : (escape : Escape) (above : ℕ) (own : List (List ℕ)) (text : List ℕ) → BeginsKept own → AreJoined (byte_of escape) own [] → joined_text (byte_of escape) own ≡ text → text ≢ [] → marks_of text ≡ []
    → AreBlocks escape above own (plain_line (above + 1) escape text ∷ []) None
continued_blocks escape above own text kept all is some unmarked =
    let bodies : AreBodies (marks_of (joined_text (byte_of escape) own)) [] [] = subst (λ (marks : List Mark). AreBodies marks [] []) (sym (ap marks_of is ∙ unmarked)) refl in
    let found : line_of (above + 1) escape (joined_text (byte_of escape) own) [] ++ [] ≡ plain_line (above + 1) escape text ∷ [] = ap (λ t. line_of (above + 1) escape t [] ++ []) is ∙ lone_line (above + 1) escape text some in
    subst (λ (found : List Line). AreBlocks escape above own found None) found
    (logical above own own [] [] [] [] None (sym (append-nil own)) kept all bodies (none (above + length (own ++ []))))

pub continued_join : (top : List (List ℕ)) (directives : List Directive) (escape : Escape) (fronts parts : List (List ℕ)) (last : List ℕ) (found : List Line) (faults : List Refusal)
    → AreDirectives top directives → escape ≡ escape_below Backslash directives
    → AreContinued (byte_of escape) fronts parts → IsKept last → continued_part (byte_of escape) last ≡ None
    → trimmed (concat parts ++ last) ≢ [] → marks_of (trimmed (concat parts ++ last)) ≡ []
    → IsFile (top ++ (fronts ++ last ∷ [])) found faults
    → (faults ≡ directive_faults [] directives) × (found ≡ plain_line (length top + 1) escape (trimmed (concat parts ++ last)) ∷ [])
continued_join top directives escape fronts parts last found faults read is all kept ends some unmarked file =
    let e = byte_of escape in
    let own = fronts ++ last ∷ [] in
    let text = trimmed (concat parts ++ last) in
    let wrong = directive_faults [] directives in
    let begin = begins e fronts parts last all kept in
    let line = plain_line (length top + 1) escape text in
    let blocks = continued_blocks escape (length top) own text begin.0 (joined e fronts parts last all kept ends) (ap trimmed (parts_are e fronts parts last all kept ends)) some unmarked in
    let built : IsFile (top ++ own) (line ∷ []) wrong = record {
      top = top;
      rest = own;
      directives = directives;
      unclosed = None;
      cut = refl;
      read = read;
      ended = begin.1;
      blocks = subst (λ (x : Escape). AreBlocks x (length top) own (line ∷ []) None) is blocks;
      wrong = sym (append-nil wrong);
    } in
    let same = IsFile-same (top ++ own) found (line ∷ []) faults wrong file built in
    (same.1, same.0)
