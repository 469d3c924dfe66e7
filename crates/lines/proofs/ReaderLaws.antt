-- What a reader answers is what its text gives.
use Rattle.std.specs.Prelude.{◌≡◌, ◌≢◌, ◌<◌, ◌≤◌, ◌⊎◌, ℕ, ◌+◌, ◌==◌, Bool, true, false, MatchBool, List, [], ◌∷◌, ◌++◌, Result, Ok, Err, length, take, drop, count_by, IsUtf8, refl}
use Rattle.std.specs.Str.{IsValidUpTo}
use Rattle.std.specs.Str.Lines.{lines}
use Rattle.std.specs.Str.Lossy.{utf8_error_len}
use Rattle.std.specs.declared.vec.Vec.{Vec}
use Rattle.std.proofs.Common.{◌∙◌, sym, ap, subst, inl, inr, append_assoc, arith, get_or}
use Rattle.std.proofs.Math.Seq.{drop-append-add}
use Rattle.std.proofs.lemmas.Bool.Decides.{nat_tests}
use Rattle.std.proofs.lemmas.List.{length-append, append-nil, take-append-le, drop_all, take_all, nil_from_length}
use Rattle.std.proofs.lemmas.List.Elements.{All-append}
use Rattle.std.proofs.lemmas.Str.{IsUtf8-nil, utf8_valid_len-IsValidUpTo, utf8_valid_len-IsUtf8}
use Rattle.std.proofs.str.Faults.{not_text}
use Rattle.std.proofs.str.Lossy.{utf8_error_len-nil}
use Rattle.plain.specs.Limits.{most_dockerfile_bytes}
use Rattle.plain.specs.declared.fault.Fault.{Fault}
use Rattle.plain.specs.declared.fault.Fault.TheVariants.{Because, Memory}
use Rattle.plain.specs.declared.refusal.Code.TheVariants.{R01, R18}
use Rattle.plain.specs.declared.refusal.Refusal.{Refusal}
use Rattle.lines.specs.Faults.{refusal, IsAmong, IsLeast}
use Rattle.lines.specs.File.{IsFile}
use Rattle.lines.specs.PrivateRead.{first_progress, IsReadFrom, IsTail}
use Rattle.lines.specs.PrivateScan.{state_at, block_lines, below, IsBehind, AnswersLast}
use Rattle.lines.specs.PrivateSteps.{initial_state, after_lines, end_file}
use Rattle.lines.specs.Reader.{IsCut, IsFine, IsRefusedBy, IsBadAt, IsKeptAs}
use Rattle.lines.specs.Ready.{IsWhole, empty, ended, HasNoLf, AreWhole, BeginsUtf8, AreReady}
use Rattle.lines.specs.Text.{IsShort, text_lines, IsRefused, ReadsText}
use Rattle.lines.specs.declared.kept.Kept.{Kept}
use Rattle.lines.specs.declared.kept.Known.{Known}
use Rattle.lines.specs.declared.kept.Known.TheVariants.{Fine, Refused, Bad, TooLong}
use Rattle.lines.specs.declared.line.Line.{Line}
use Rattle.lines.specs.declared.line.Mark.{Mark}
use Rattle.lines.specs.declared.scan.Progress.{Progress}
use Rattle.lines.specs.declared.scan.Stage.{Stage}
use Rattle.lines.specs.declared.scan.Stage.TheVariants.{Fresh, Own, Closing}
use Rattle.lines.specs.declared.state.FileState.{FileState}
use Rattle.lines.proofs.DecidedLaws.{decided, wrong_stays}
use Rattle.lines.proofs.FileLaws.{IsFile-is}
use Rattle.lines.proofs.ReadLaws.{no_lines, whole_append, block_read, text_read}
use Rattle.lines.proofs.ReadyLaws.{ready_lines, ready_nothing, ready_bad, ready_long}
use Rattle.lines.proofs.ScanLaws.{faults_so_far, IsHeldBack, held_back}
use Rattle.lines.proofs.ShiftLaws.{stopped_below}
use Rattle.lines.proofs.TextLemmas.{after_lines-split}
use Rattle.lines.proofs.LookLaws.{HasCut, has_cut, count_low, fine_low}
use Rattle.lines.proofs.Utf8Lemmas.{valid_below, utf8_below, begun_plain}
use Rattle.lines.proofs.WholeLemmas.{text_lines_append}

-- where a text stops being UTF-8

abbrev feeds : List ℕ → ℕ
feeds bytes = count_by (λ b. b == 10) bytes

bad_refused : (text : List ℕ) (at line : ℕ) → IsShort text → IsValidUpTo text at → line ≡ feeds (take at text) + 1 → IsRefused text (refusal R01 line)
bad_refused text at line s v e =
    inr (inl (s, not_text text at v, ap (refusal R01) (e ∙ ap (λ n. feeds (take n text) + 1) (sym (utf8_valid_len-IsValidUpTo text at v)))))

tail_valid : (done tail : List ℕ) → IsUtf8 done → IsValidUpTo tail 0 → IsValidUpTo (done ++ tail) (length done)
tail_valid done tail u v = subst (IsValidUpTo (done ++ tail)) (let e : length done + 0 ≡ length done = omega arith in e) (valid_below done tail 0 u v)

take_done : (done tail : List ℕ) → take (length done) (done ++ tail) ≡ done
take_done done tail = take-append-le (length done) done tail (omega arith) ∙ take_all (length done) done (omega arith)

begins_by : (done tail : List ℕ) → IsUtf8 done → IsTail tail → BeginsUtf8 (done ++ tail)
begins_by done tail u (inl e) =
    subst (λ (t : List ℕ). BeginsUtf8 (done ++ t)) (sym e) (subst BeginsUtf8 (sym (append-nil done))
    (ap (λ n. utf8_error_len (drop n done)) (utf8_valid_len-IsUtf8 done u) ∙ ap utf8_error_len (drop_all (length done) done (omega arith)) ∙ utf8_error_len-nil))
begins_by done tail u (inr h) =
    let drop_done : drop (length done) (done ++ tail) ≡ tail = ap (λ n. drop n (done ++ tail)) (let e : length done ≡ length done + 0 = omega arith in e) ∙ drop-append-add done tail 0 in
    ap (λ n. utf8_error_len (drop n (done ++ tail))) (utf8_valid_len-IsValidUpTo (done ++ tail) (length done) (tail_valid done tail u h.0)) ∙ ap utf8_error_len drop_done ∙ h.1

tail_plain : (tail : List ℕ) → IsTail tail → HasNoLf tail
tail_plain tail (inl e) = subst HasNoLf (sym e) (λ k d l. absurd (omega arith))
tail_plain tail (inr h) = begun_plain tail h.1

plain_append : (a b : List ℕ) → HasNoLf a → HasNoLf b → HasNoLf (a ++ b)
plain_append a b h i = All-append (λ c. (c == 10) ≡ false) a b h i

-- a text is cut after its last LF

pub record IsLastCut (text : List ℕ) : Type 0 where
  pub whole : List ℕ
  pub rest : List ℕ
  pub is : text ≡ whole ++ rest
  pub ends : IsWhole whole
  pub plain : HasNoLf rest

cons_plain : (c : ℕ) (rest : List ℕ) → (c == 10) ≡ false → HasNoLf rest → HasNoLf (c ∷ rest)
cons_plain c rest e h = plain_append (c ∷ []) rest (λ k d l. one k d l) h
  where
    one : (k d : ℕ) → k < 1 → (get_or (c ∷ []) k d == 10) ≡ false
    one k d l = let z : 0 ≡ k = omega arith in subst (λ n. (get_or (c ∷ []) n d == 10) ≡ false) z e

last_by : (c : ℕ) (w rest : List ℕ) (b : Bool) → (c == 10) ≡ b → IsWhole w → HasNoLf rest → IsLastCut (c ∷ (w ++ rest))
last_by c _ rest true e empty h = record { whole = c ∷ []; rest = rest; is = refl; ends = subst (λ d. IsWhole (d ∷ [])) (let x : 10 ≡ c = grind (arith, nat_tests) in x) (ended []); plain = h }
last_by c _ rest false e empty h = record { whole = []; rest = c ∷ rest; is = refl; ends = empty; plain = cons_plain c rest e h }
last_by c _ rest b e (ended f) h = record { whole = c ∷ (f ++ 10 ∷ []); rest = rest; is = refl; ends = ended (c ∷ f); plain = h }

pub last_cut : (text : List ℕ) → IsLastCut text
last_cut [] = record { whole = []; rest = []; is = refl; ends = empty; plain = λ k d l. absurd (omega arith) }
last_cut (c ∷ text) =
    let t = last_cut text in
    subst (λ (x : List ℕ). IsLastCut (c ∷ x)) (sym t.is) (last_by c t.whole t.rest (c == 10) refl t.ends t.plain)

-- what is ready

either_nothing : (text : List ℕ) (found : List Line) (b : Bool) → found ≡ [] → AreReady text [] → MatchBool b (AreReady text []) (AreReady text found)
either_nothing text found true e h = h
either_nothing text found false e h = subst (AreReady text) (sym e) h

not_least : (f : Refusal) (fs : List Refusal) → IsLeast fs f → fs ≢ []
not_least f fs h e = let bad : IsAmong f [] = subst (IsAmong f) e h.0 in bad

refused_ready : (f : Refusal) (kept : Kept) (text : List ℕ) → IsRefusedBy f kept text [] → AreReady text []
refused_ready f kept text r =
    let t = last_cut (r.rest ++ r.tail) in
    let is : text ≡ (r.front ++ t.whole) ++ t.rest =
    r.cut.is ∙ ap (λ (x : List ℕ). x ++ r.tail) (append-nil (r.front ++ r.rest)) ∙ append_assoc r.front r.rest r.tail ∙ ap (λ (x : List ℕ). r.front ++ x) t.is ∙ sym (append_assoc r.front t.whole t.rest) in
    let s = after_lines initial_state (text_lines r.front) in
    let walk : after_lines initial_state (text_lines (r.front ++ t.whole)) ≡ after_lines s (lines t.whole) =
    ap (after_lines initial_state) (text_lines_append r.front t.whole r.whole r.some) ∙ after_lines-split initial_state (text_lines r.front) (lines t.whole) in
    ready_nothing text (r.front ++ t.whole) (t.rest, is, whole_append r.front t.whole r.whole t.ends, t.plain)
    (subst (λ (q : FileState). faults_so_far q ≢ []) (sym walk) (wrong_stays s (lines t.whole) r.at_rest (not_least f s.faults r.least)))

so_far_below : (ls : List Line) (s : FileState) → faults_so_far (below ls s) ≡ faults_so_far s
so_far_below ls s = ap (λ (q : FileState). q.faults) (stopped_below ls s s.position)

fresh_is : (kept : Kept) (front own : List ℕ) (stage : Stage) → IsBehind stage own → stage ≡ Fresh
    → after_lines (state_at kept.progress.place kept.progress.room) (block_lines kept.progress.is_first own) ≡ state_at kept.progress.place kept.progress.room
fresh_is kept front own Fresh b e = ap (λ (o : List ℕ). after_lines (state_at kept.progress.place kept.progress.room) (block_lines kept.progress.is_first o)) b ∙ ap (after_lines (state_at kept.progress.place kept.progress.room)) (no_lines kept.progress.is_first)
fresh_is kept front own Own b e = absurd (cc)
fresh_is kept front own (Closing n) b e = absurd (cc)

fine_by : (text whole : List ℕ) (found : List Line) (b : Bool) → IsShort text → BeginsUtf8 text → AreWhole text whole
    → (after_lines initial_state (text_lines whole)).lines ≡ found
    → MatchBool b (faults_so_far (after_lines initial_state (text_lines whole)) ≢ []) (faults_so_far (after_lines initial_state (text_lines whole)) ≡ [])
    → MatchBool b (AreReady text []) (AreReady text found)
fine_by text whole found true s u w e h = ready_nothing text whole w h
fine_by text whole found false s u w e h = subst (AreReady text) e (ready_lines text whole s u w h)

fine_ready : (kept : Kept) (text : List ℕ) → IsShort text → IsFine kept text [] → MatchBool kept.progress.is_past (AreReady text []) (AreReady text kept.lines.items)
fine_ready kept text short r =
    let p = kept.progress in
    let b = after_lines (state_at p.place p.room) (block_lines p.is_first r.own) in
    let read : below kept.lines.items b ≡ after_lines initial_state (text_lines (r.front ++ r.own)) = block_read initial_state true kept.lines.items p kept.marks r.front r.own r.own r.read in
    let back : IsHeldBack p b = held_back kept.marks p p.stage b refl r.read.reached (fresh_is kept r.front r.own p.stage r.read.behind) in
    let is : text ≡ (r.front ++ r.own) ++ (r.rest ++ r.tail) =
    r.cut.is ∙ ap (λ (x : List ℕ). x ++ r.tail) (sym (append_assoc r.front r.own r.rest)) ∙ append_assoc (r.front ++ r.own) r.rest r.tail in
    fine_by text (r.front ++ r.own) kept.lines.items p.is_past short (subst BeginsUtf8 (sym r.cut.is) (begins_by (r.front ++ (r.own ++ r.rest)) r.tail r.cut.utf8 r.cut.tail_is))
    (r.rest ++ r.tail, is, whole_append r.front r.own r.read.above r.read.whole, plain_append r.rest r.tail r.plain (tail_plain r.tail r.cut.tail_is))
    (ap (λ (s : FileState). s.lines) (sym read) ∙ ap (λ (x : List Line). kept.lines.items ++ x) back.lines ∙ append-nil kept.lines.items)
    (subst (λ (fs : List Refusal). MatchBool p.is_past (fs ≢ []) (fs ≡ [])) (sym (so_far_below kept.lines.items b) ∙ ap faults_so_far read) back.past)

bad_ready : (line : ℕ) (kept : Kept) (text : List ℕ) → IsBadAt line kept text → AreReady text []
bad_ready line kept text r =
    ready_bad text (λ h.
    let v = r.valid r.rest in
    let g : BeginsUtf8 (r.front ++ r.rest) = subst BeginsUtf8 r.is h in
    r.told r.rest (ap (λ n. utf8_error_len (drop n (r.front ++ r.rest))) (sym (utf8_valid_len-IsValidUpTo (r.front ++ r.rest) r.at v)) ∙ g))

pub ready_known : (known : Known) (kept : Kept) (text : List ℕ) → IsKeptAs kept text known → MatchBool kept.progress.is_past (AreReady text []) (AreReady text kept.lines.items)
ready_known Fine kept text h = fine_ready kept text h.0 h.2
ready_known (Refused f) kept text h = either_nothing text kept.lines.items kept.progress.is_past h.2.none (refused_ready f kept text h.2)
ready_known (Bad line) kept text h = either_nothing text kept.lines.items kept.progress.is_past h.2.none (bad_ready line kept text h.2)
ready_known TooLong kept text h = either_nothing text kept.lines.items kept.progress.is_past h.1 (ready_long text h.0)

-- what a whole text gives

pub finish_long : (text : List ℕ) → ¬ (IsShort text) → IsRefused text (refusal R18 0)
finish_long text h = inl (h, refl)

pub finish_bad : (line : ℕ) (kept : Kept) (text : List ℕ) → IsShort text → IsBadAt line kept text → IsRefused text (refusal R01 line)
finish_bad line kept text s r =
    bad_refused text r.at line s (subst (λ (t : List ℕ). IsValidUpTo t r.at) (sym r.is) (r.valid r.rest))
    (r.line_is ∙ ap (λ (t : List ℕ). feeds t + 1) (sym (ap (take r.at) r.is ∙ take-append-le r.at r.front r.rest r.within)))

tail_refused : (done tail : List ℕ) (line : ℕ) → IsShort (done ++ tail) → IsUtf8 done → IsTail tail → 0 < length tail → line ≡ feeds done + 1 → IsRefused (done ++ tail) (refusal R01 line)
tail_refused done tail line s u (inl e) l n = absurd (omega (arith, ap length e))
tail_refused done tail line s u (inr h) l n =
    bad_refused (done ++ tail) (length done) line s (tail_valid done tail u h.0) (n ∙ ap (λ (t : List ℕ). feeds t + 1) (sym (take_done done tail)))

pub finish_tail : (kept : Kept) (text gone whole tail : List ℕ) (line : ℕ) → IsShort text → IsCut kept text [] gone whole tail → kept.valid < length kept.bytes.items → line ≡ kept.count + 1
    → IsRefused text (refusal R01 line)
finish_tail kept text gone whole tail line s c l n =
    let v = c.valid in
    let some : 0 < length tail = omega (arith, ap length c.bytes, length-append whole (tail ++ []), ap length (append-nil tail)) in
    subst (λ (t : List ℕ). IsRefused t (refusal R01 line)) (sym c.is)
    (tail_refused (gone ++ whole) tail line (subst IsShort c.is s) c.utf8 c.tail_is some (n ∙ ap (λ m. m + 1) c.count))

-- without a character that is only begun all is UTF-8
pub no_tail : (kept : Kept) (text gone whole tail : List ℕ) → IsCut kept text [] gone whole tail → length kept.bytes.items ≤ kept.valid → (text ≡ gone ++ whole) × (kept.bytes.items ≡ whole) × IsUtf8 text
no_tail kept text gone whole tail c l =
    let v = c.valid in
    let none : tail ≡ [] = nil_from_length tail (omega (arith, ap length c.bytes, length-append whole (tail ++ []), ap length (append-nil tail))) in
    let is : text ≡ gone ++ whole = c.is ∙ ap (λ (t : List ℕ). (gone ++ whole) ++ t) none ∙ append-nil (gone ++ whole) in
    (is, c.bytes ∙ ap (λ (t : List ℕ). whole ++ (t ++ [])) none ∙ append-nil whole, subst IsUtf8 (sym is) c.utf8)

pub finish_refused : (f : Refusal) (kept : Kept) (text : List ℕ) → IsShort text → IsRefusedBy f kept text [] → length kept.bytes.items ≤ kept.valid → IsRefused text f
finish_refused f kept text short r l =
    let n = no_tail kept text (r.front ++ r.rest) [] r.tail r.cut l in
    let is : text ≡ r.front ++ r.rest = n.0 ∙ append-nil (r.front ++ r.rest) in
    let s = after_lines initial_state (text_lines r.front) in
    let walk : after_lines s (lines r.rest) ≡ after_lines initial_state (text_lines text) =
    sym (ap (λ (t : List ℕ). after_lines initial_state (text_lines t)) is ∙ ap (after_lines initial_state) (text_lines_append r.front r.rest r.whole r.some) ∙ after_lines-split initial_state (text_lines r.front) (lines r.rest)) in
    let end = end_file (after_lines initial_state (text_lines text)) in
    inr (inr (short, n.2, (end.lines, end.faults, IsFile-is (text_lines text), subst (λ (q : FileState). IsLeast (end_file q).faults f) walk (decided (text_lines r.front) (lines r.rest) f r.at_rest r.least))))

pub finish_fine : {A : Type 0} (kept : Kept) (text : List ℕ) (answer : Result (Vec Line A) (Fault Refusal)) → IsShort text → (r : IsFine kept text []) → length kept.bytes.items ≤ kept.valid
    → AnswersLast kept.lines.items (end_file (after_lines (state_at kept.progress.place kept.progress.room) (block_lines kept.progress.is_first kept.bytes.items))) answer → ReadsText text answer
finish_fine {A = A} kept text answer short r l h =
    let p = kept.progress in
    let n = no_tail kept text r.front (r.own ++ r.rest) r.tail r.cut l in
    let is : text ≡ r.front ++ kept.bytes.items = n.0 ∙ ap (λ (t : List ℕ). r.front ++ t) (sym n.1) in
    let state = end_file (after_lines (state_at p.place p.room) (block_lines p.is_first kept.bytes.items)) in
    let read : below kept.lines.items state ≡ end_file (after_lines initial_state (text_lines text)) =
    text_read initial_state true kept.lines.items p kept.marks r.front r.own kept.bytes.items r.read ∙ ap (λ (t : List ℕ). end_file (after_lines initial_state (text_lines t))) (sym is) in
    let file : IsFile (text_lines text) (kept.lines.items ++ state.lines) state.faults =
    subst (λ (q : FileState). IsFile (text_lines text) q.lines q.faults) (sym read) (IsFile-is (text_lines text)) in
    by answer h file n.2
  where
    by : (answer : Result (Vec Line A) (Fault Refusal)) → AnswersLast kept.lines.items (end_file (after_lines (state_at kept.progress.place kept.progress.room) (block_lines kept.progress.is_first kept.bytes.items))) answer
        → IsFile (text_lines text) (kept.lines.items ++ (end_file (after_lines (state_at kept.progress.place kept.progress.room) (block_lines kept.progress.is_first kept.bytes.items))).lines)
        (end_file (after_lines (state_at kept.progress.place kept.progress.room) (block_lines kept.progress.is_first kept.bytes.items))).faults → IsUtf8 text → ReadsText text answer
    by (Ok found) k file u = (
      short,
      u,
      subst (λ (ls : List Line). IsFile (text_lines text) ls []) (sym k.1)
          (subst (λ (fs : List Refusal). IsFile (text_lines text) (kept.lines.items ++ (end_file (after_lines (state_at kept.progress.place kept.progress.room) (block_lines kept.progress.is_first kept.bytes.items))).lines) fs) k.0 file),
    )
    by (Err (Because f)) k file u =
        let end = end_file (after_lines (state_at kept.progress.place kept.progress.room) (block_lines kept.progress.is_first kept.bytes.items)) in
        inr (inr (short, u, (kept.lines.items ++ end.lines, end.faults, file, k)))
    by (Err Memory) k file u = tt

-- what is known of the empty text

first_read : (marks : List Mark) → IsReadFrom initial_state true [] first_progress marks [] []
first_read marks = record { above = empty; whole = empty; behind = refl; first = (refl, refl); state = refl; reached = refl }

pub nothing_fine : (kept : Kept) → kept.count ≡ 0 → kept.bytes.items ≡ [] → kept.looked ≡ 0 → kept.valid ≡ 0 → kept.progress ≡ first_progress → kept.lines.items ≡ [] → IsFine kept [] []
nothing_fine kept count bytes looked valid progress lines = record {
  front = [];
  own = [];
  rest = [];
  tail = [];
  cut = record { is = refl; bytes = bytes; valid = sym valid; utf8 = IsUtf8-nil; tail_is = inl refl; count = count };
  looked = sym looked;
  plain = λ k d l. absurd (omega arith);
  read = subst (λ (ls : List Line). IsReadFrom initial_state true ls kept.progress kept.marks [] []) (sym lines)
      (subst (λ (p : Progress). IsReadFrom initial_state true [] p kept.marks [] []) (sym progress) (first_read kept.marks));
}

-- a refusal as the answer
pub reads_refused : (A : Type 0) (text : List ℕ) (fault : Fault Refusal) (f : Refusal) → fault ≡ Because f → IsRefused text f → ReadsText {A = A} text (Err fault)
reads_refused A text fault f e h = subst (λ (g : Fault Refusal). ReadsText {A = A} text (Err g)) (sym e) h

-- what is kept of a text whose bytes are still read
pub fine_or : (kept : Kept) (text : List ℕ) → IsKeptAs kept text kept.known → (kept.known ≡ Fine) ⊎ ((f : Refusal) × (kept.known ≡ Refused f)) → IsShort text × HasCut kept text []
fine_or kept text h (inl e) =
    let k : IsKeptAs kept text Fine = subst (IsKeptAs kept text) e h in
    (k.0, has_cut Fine kept text [] k.2 (λ line d. cc))
fine_or kept text h (inr e) =
    let k : IsKeptAs kept text (Refused e.0) = subst (IsKeptAs kept text) e.1 h in
    (k.0, has_cut (Refused e.0) kept text [] k.2 (λ line d. cc))

pub is_fine : (known : Known) → (known ≡ Fine) ⊎ ((f : Refusal) × (known ≡ Refused f)) → ((f : Refusal) → known ≡ Refused f → ⊥) → known ≡ Fine
is_fine known (inl e) n = e
is_fine known (inr e) n = absurd (n e.0 e.1)

-- without a character that is only begun there is room to count its line
pub tail_counted : (kept : Kept) (text : List ℕ) → IsShort text × HasCut kept text [] → kept.valid < length kept.bytes.items → kept.count + 1 ≤ most_dockerfile_bytes
tail_counted kept text h l =
    let low = count_low kept text [] h.1 (subst IsShort (sym (append-nil text)) h.0) in
    omega arith

-- the bytes of the last block, where nothing is wrong so far
pub fine_last : (kept : Kept) (text : List ℕ) → IsShort text → (r : IsFine kept text []) → length kept.bytes.items ≤ kept.valid
    → IsUtf8 kept.bytes.items × IsShort kept.bytes.items × (kept.progress.place.count ≤ most_dockerfile_bytes)
fine_last kept text short r l =
    let n = no_tail kept text r.front (r.own ++ r.rest) r.tail r.cut l in
    let low : kept.progress.place.count + 0 ≤ most_dockerfile_bytes = fine_low kept text [] r 0 (subst IsShort (sym (append-nil text)) short) (omega arith) in (
      subst IsUtf8 (sym n.1) (utf8_below r.front (r.own ++ r.rest) r.read.above r.cut.utf8),
      omega (arith, ap length n.0, length-append r.front (r.own ++ r.rest), ap length n.1),
      omega arith,
    )
