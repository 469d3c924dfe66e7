-- The step: what is known of a text, and one more line of it, is what is known of the text with that line.
use Rattle.std.specs.Prelude.{◌≡◌, ◌≢◌, ℕ, ◌+◌, Bool, true, false, List, [], ◌∷◌, ◌++◌, length, map, refl}
use Rattle.std.proofs.Common.{◌∙◌, sym, ap, ap₂, subst, inl, inr, append_assoc, arith}
use Rattle.std.proofs.lemmas.Bool.{true≢false}
use Rattle.std.proofs.lemmas.List.{length-append, append-nil, map-append}
use Rattle.std.specs.Str.Lines.{strip_carriage_return}
use Rattle.lines.specs.PrivateSteps.{read_line, after_lines, end_file}
use Rattle.lines.specs.PrivateScan.{state_at, block_lines, IsInside, IsInStage, StageIs, IsBehind, IsLater, below}
use Rattle.lines.specs.PrivateRead.{IsFirst, IsReadFrom}
use Rattle.lines.specs.Ready.{IsWhole, empty, ended, HasNoLf}
use Rattle.lines.specs.declared.line.Mark.{Mark}
use Rattle.lines.specs.declared.line.Line.{Line}
use Rattle.lines.specs.declared.scan.Place.{Place}
use Rattle.lines.specs.declared.scan.Progress.{Progress}
use Rattle.lines.specs.declared.scan.Stage.{Stage}
use Rattle.lines.specs.declared.scan.Stage.TheVariants.{Fresh, Own, Closing}
use Rattle.lines.specs.declared.state.FileState.{FileState}
use denote.Ref.{Bor}
use Rattle.lines.proofs.FitLaws.{block_fit, inside_line, closing_line}
use Rattle.lines.proofs.StepLaws.{read_line-count}
use Rattle.lines.proofs.ShiftLaws.{after_lines_below, end_file_below}
use Rattle.lines.proofs.TextLemmas.{after_lines-append, after_lines-split}
use Rattle.lines.proofs.WholeLemmas.{IsOneLine, one_line, first_line, block_more, whole_more, lines_append, text_lines_append}

-- the state below what was found above and then below what was found above that
pub below_below : (ls ks : List Line) (s : FileState) → below ls (below ks s) ≡ below (ls ++ ks) s
below_below ls ks s =
    let room : (s.room + length ks) + length ls ≡ s.room + length (ls ++ ks) = let l = length-append ls ks in omega (arith, l) in
    ap₂ (λ (n : ℕ) (x : List Line). record s { room = n; lines = x }) room (sym (append_assoc ls ks s.lines))

pub not_empty : (own line : List ℕ) → own ++ (line ++ 10 ∷ []) ≢ []
not_empty own line e =
    let a = ap length e in
    let b = length-append own (line ++ 10 ∷ []) in
    let c = length-append line (10 ∷ []) in omega (arith, a, b, c)

pub not_empty_below : (front block : List ℕ) → block ≢ [] → front ++ block ≢ []
not_empty_below [] block h = h
not_empty_below (c ∷ front) block h = λ e. let l = ap length e in omega (arith, l)

-- the lines of a block's bytes, of which some are whole lines
block_block : (begins : Bool) (front block : List ℕ) (first : Bool) → IsWhole front → IsFirst begins front first
    → block_lines begins (front ++ block) ≡ block_lines begins front ++ block_lines first block
block_block false front block true w h = absurd (true≢false (sym h.0))
block_block true front block true w h = subst (λ (f : List ℕ). block_lines true (f ++ block) ≡ block_lines true f ++ block_lines true block) (sym h.1) refl
block_block false front block false w h = lines_append front block w
block_block true front block false w (inl e) = absurd (true≢false e)
block_block true front block false w (inr n) = text_lines_append front block w n

-- what was read of the blocks, and one more
pub block_read : (from : FileState) (begins : Bool) (found : List Line) (progress : Progress) (marks : List Mark) (front own block : List ℕ)
    → IsReadFrom from begins found progress marks front own
    → below found (after_lines (state_at progress.place progress.room) (block_lines progress.is_first block)) ≡ after_lines from (block_lines begins (front ++ block))
block_read from begins found progress marks front own block h =
    sym (after_lines_below found (state_at progress.place progress.room) (block_lines progress.is_first block))
    ∙ ap (λ (s : FileState). after_lines s (block_lines progress.is_first block)) h.state
    ∙ sym (after_lines-split from (block_lines begins front) (block_lines progress.is_first block))
    ∙ ap (after_lines from) (sym (block_block begins front block progress.is_first h.above h.first))

-- the line completes its block
pub step_moved : (from : FileState) (begins : Bool) (found more : List Line) (progress next : Progress) (marks kept : List Mark) (front own line : List ℕ)
    → IsReadFrom from begins found progress marks front own
    → next.stage ≡ Fresh → next.is_past ≡ false → next.is_first ≡ false
    → below more (state_at next.place next.room) ≡ below found (after_lines (state_at progress.place progress.room) (block_lines progress.is_first (own ++ (line ++ 10 ∷ []))))
    → IsReadFrom from begins more next kept (front ++ (own ++ (line ++ 10 ∷ []))) []
step_moved from begins found more progress next marks kept front own line h fresh past first e = record {
  above = subst IsWhole (append_assoc front own (line ++ 10 ∷ [])) (whole_more (front ++ own) line);
  whole = empty;
  behind = subst (λ (s : Stage). IsBehind s []) (sym fresh) refl;
  first = subst (IsFirst begins (front ++ (own ++ (line ++ 10 ∷ [])))) (sym first) (inr (not_empty_below front (own ++ (line ++ 10 ∷ [])) (not_empty own line)));
  state = e ∙ block_read from begins found progress marks front own (own ++ (line ++ 10 ∷ [])) h;
  reached = subst (λ (s : Stage). IsInStage kept next s (after_lines (state_at next.place next.room) (block_lines next.is_first []))) (sym fresh) past;
}

behind_more : (stage : Stage) (own : List ℕ) → stage ≢ Fresh → own ≢ [] → IsBehind stage own
behind_more Fresh own h n = absurd (h refl)
behind_more Own own h n = n
behind_more (Closing k) own h n = n

-- the line doesn't complete it
pub step_stayed : (from : FileState) (begins : Bool) (found : List Line) (progress next : Progress) (marks kept : List Mark) (front own line : List ℕ)
    → IsReadFrom from begins found progress marks front own → IsLater progress next
    → StageIs kept next (after_lines (state_at progress.place progress.room) (block_lines progress.is_first (own ++ (line ++ 10 ∷ []))))
    → IsReadFrom from begins found next kept front (own ++ (line ++ 10 ∷ []))
step_stayed from begins found progress next marks kept front own line h later s = record {
  above = h.above;
  whole = whole_more own line;
  behind = behind_more next.stage (own ++ (line ++ 10 ∷ [])) later.3 (not_empty own line);
  first = subst (IsFirst begins front) (sym later.1) h.first;
  state = ap₂ (λ (p : Place) (n : ℕ). below found (state_at p n)) later.0 later.2 ∙ h.state;
  reached = subst (λ (b : Bool). StageIs kept next (after_lines (state_at next.place next.room) (block_lines b (own ++ (line ++ 10 ∷ []))))) (sym later.1)
      (subst (λ (p : Place). StageIs kept next (after_lines (state_at p next.room) (block_lines progress.is_first (own ++ (line ++ 10 ∷ []))))) (sym later.0)
      (subst (λ (n : ℕ). StageIs kept next (after_lines (state_at progress.place n) (block_lines progress.is_first (own ++ (line ++ 10 ∷ []))))) (sym later.2) s));
}

behind_own : (stage : Stage) (own : List ℕ) → IsBehind stage own → stage ≢ Fresh → own ≢ []
behind_own Fresh own h n = absurd (n refl)
behind_own Own own h n = h
behind_own (Closing k) own h n = h

-- the state after one more line of a block
pub block_line : (place : Place) (room : ℕ) (first : Bool) (stage : Stage) (own line : List ℕ) → IsWhole own → IsBehind stage own → stage ≢ Fresh → HasNoLf line
    → after_lines (state_at place room) (block_lines first (own ++ (line ++ 10 ∷ []))) ≡ read_line (after_lines (state_at place room) (block_lines first own)) (strip_carriage_return line)
block_line place room first stage own line w b n plain =
    ap (after_lines (state_at place room)) (block_more first own line w (behind_own stage own b n) plain)
    ∙ after_lines-append (state_at place room) (block_lines first own) (strip_carriage_return line)

-- before any line of a block
pub no_lines : (first : Bool) → block_lines first [] ≡ []
no_lines true = refl
no_lines false = refl

-- a line between blocks that is a block of its own
pub block_alone : (place : Place) (room : ℕ) (first : Bool) (own line block : List ℕ) (s : FileState) → own ≡ [] → first ≡ false → HasNoLf line → block ≡ own ++ (line ++ 10 ∷ [])
    → read_line (state_at place room) (strip_carriage_return line) ≡ s
    → s ≡ after_lines (state_at place room) (block_lines first block)
block_alone place room first own line block s none other plain cut e =
    let r : FileState = state_at place room in
    let is : block ≡ line ++ 10 ∷ [] = cut ∙ ap (λ (o : List ℕ). o ++ (line ++ 10 ∷ [])) none in
    sym (ap₂ (λ (b : Bool) (bytes : List ℕ). after_lines r (block_lines b bytes)) other is ∙ ap (after_lines r) (one_line line plain) ∙ e)

-- no line of a block stands above its first one, and the block isn't past the limit
pub fresh_none : (stage : Stage) (own : List ℕ) → stage ≡ Fresh → IsBehind stage own → own ≡ []
fresh_none stage own e h = subst (λ (s : Stage). IsBehind s own) e h

pub fresh_past : (marks : List Mark) (progress : Progress) (s : FileState) → progress.stage ≡ Fresh → StageIs marks progress s → progress.is_past ≡ false
fresh_past marks progress s e h = subst (λ (stage : Stage). IsInStage marks progress stage s) e h

-- so a block that isn't complete has given no line yet, also after its next line
pub block_inside : (marks : List Mark) (progress : Progress) (stage : Stage) (own line : List ℕ) → IsWhole own → IsBehind stage own → HasNoLf line
    → IsInStage marks progress stage (after_lines (state_at progress.place progress.room) (block_lines progress.is_first own))
    → IsInside (after_lines (state_at progress.place progress.room) (block_lines progress.is_first (own ++ (line ++ 10 ∷ []))))
block_inside marks progress Fresh own line w b plain h =
    let one : IsOneLine progress.is_first line = first_line progress.is_first line plain in
    let s : FileState = state_at progress.place progress.room in
    let is : after_lines s (block_lines progress.is_first (own ++ (line ++ 10 ∷ []))) ≡ read_line s one.line =
    ap (λ (o : List ℕ). after_lines s (block_lines progress.is_first (o ++ (line ++ 10 ∷ [])))) b ∙ ap (after_lines s) one.is in
    subst IsInside (sym is) (inside_line s one.line (block_fit progress.place progress.room []) refl refl)
block_inside marks progress Own own line w b plain h =
    let s : FileState = after_lines (state_at progress.place progress.room) (block_lines progress.is_first own) in
    subst IsInside (sym (block_line progress.place progress.room progress.is_first Own own line w b (λ e. cc) plain))
    (inside_line s (strip_carriage_return line) (block_fit progress.place progress.room (block_lines progress.is_first own)) h.2 h.3)
block_inside marks progress (Closing n) own line w b plain h =
    let s : FileState = after_lines (state_at progress.place progress.room) (block_lines progress.is_first own) in
    subst IsInside (sym (block_line progress.place progress.room progress.is_first (Closing n) own line w b (λ e. cc) plain))
    (closing_line s h.2.0 (strip_carriage_return line) (block_fit progress.place progress.room (block_lines progress.is_first own)) h.0 h.2.1)

-- the whole text: what its last block gives, with the line that isn't complete, and the end of the text
pub text_read : (from : FileState) (begins : Bool) (found : List Line) (progress : Progress) (marks : List Mark) (front own block : List ℕ)
    → IsReadFrom from begins found progress marks front own
    → below found (end_file (after_lines (state_at progress.place progress.room) (block_lines progress.is_first block))) ≡ end_file (after_lines from (block_lines begins (front ++ block)))
text_read from begins found progress marks front own block h =
    sym (end_file_below found (after_lines (state_at progress.place progress.room) (block_lines progress.is_first block)))
    ∙ ap end_file (block_read from begins found progress marks front own block h)

-- one more line that was read from a state on
pub read_one_more : (first r s : FileState) (xs : List (Bor (List ℕ))) (x : Bor (List ℕ)) → r ≡ after_lines first (map (λ line. line.now) xs) → s ≡ read_line r x.now
    → s ≡ after_lines first (map (λ line. line.now) (xs ++ x ∷ []))
read_one_more first r s xs x h e =
    e ∙ ap (λ q. read_line q x.now) h ∙ sym (after_lines-append first (map (λ line. line.now) xs) x.now) ∙ ap (after_lines first) (sym (map-append (λ line. line.now) xs (x ∷ [])))

pub count_one_more : (n : ℕ) (r s : FileState) (xs : List (Bor (List ℕ))) (x : Bor (List ℕ)) → r.count ≡ n + length xs → s ≡ read_line r x.now → s.count ≡ n + length (xs ++ x ∷ [])
count_one_more n r s xs x h e = omega (arith, ap (λ q. q.count) e, read_line-count r x.now, length-append xs (x ∷ []), h)

pub whole_append : (a b : List ℕ) → IsWhole a → IsWhole b → IsWhole (a ++ b)
whole_append a _ w empty = subst IsWhole (sym (append-nil a)) w
whole_append a _ w (ended f) = subst IsWhole (append_assoc a f (10 ∷ [])) (ended (a ++ f))

first_composed : (begins first next : Bool) (front more : List ℕ) → IsFirst begins front first → IsFirst first more next → IsFirst begins (front ++ more) next
first_composed begins true true front more h i = (h.0, ap₂ (λ (x y : List ℕ). x ++ y) h.1 i.1)
first_composed begins false true front more h i = absurd (true≢false (sym i.0))
first_composed begins true false front more h (inl e) = absurd (true≢false e)
first_composed begins true false front more h (inr n) = inr (not_empty_below front more n)
first_composed begins false false front more (inl e) i = inl e
first_composed begins false false front more (inr n) i = inr (λ e. n (front_empty front more e))
  where
    front_empty : (a b : List ℕ) → a ++ b ≡ [] → a ≡ []
    front_empty [] b e = refl
    front_empty (c ∷ a) b e = let l = ap length e in absurd (omega (arith, l))

-- what a piece gave after what was given above it: the step from a text to the text with one more piece
pub piece_read : (from : FileState) (begins : Bool) (found more : List Line) (progress next : Progress) (marks kept : List Mark) (front own behind rest : List ℕ)
    → IsReadFrom from begins found progress marks front own
    → IsReadFrom (state_at progress.place progress.room) progress.is_first more next kept behind rest
    → IsReadFrom from begins (found ++ more) next kept (front ++ behind) rest
piece_read from begins found more progress next marks kept front own behind rest h i = record {
  above = whole_append front behind h.above i.above;
  whole = i.whole;
  behind = i.behind;
  first = first_composed begins progress.is_first next.is_first front behind h.first i.first;
  state = sym (below_below found more (state_at next.place next.room))
      ∙ ap (below found) i.state
      ∙ block_read from begins found progress marks front own behind h;
  reached = i.reached;
}
