-- Values that are put at the keys of an entry, and what is read of them.
use Rattle.std.proofs.Common.{Result, Ok, Err, IfOk, ◌≡◌, ℕ, Bool, true, false, ◌&&◌, ◌||◌, List, [], ◌∷◌, Option, Some, None, is_some, option_map, option_and_then, bytes_eq, Bor, if◌then◌else◌, Ordering, Less, Equal, Greater, is_eq, nat_cmp, refl, ap, ap₂, sym, ◌∙◌, subst}
use Rattle.std.proofs.lemmas.Map.Text.{is_eq-slice_cmp}
use Rattle.std.specs.Cmp.Lexicographic.{slice_cmp}
use Rattle.std.specs.Ordering.{match_ordering}
use Rattle.std.specs.List.{list_any}
use Rattle.std.specs.Prelude.{codes}
use Rattle.serde_json.specs.Data.{Data, Members, no_members, member, object, put}
use Rattle.serde_json.specs.Find.{as_bool, as_str, get_member}
use Rattle.strict.specs.Strict.{at_most_one, has_only, path_in, path_of, short_number_in, strict}
use Rattle.trees.specs.Row.{Row}
use Rattle.trees.specs.TreeMap.{directory_meta, file_meta}
use Rattle.trees.specs.declared.entry.Entry.TheVariants.{Directory, File}
use Rattle.trees.specs.declared.meta.Meta.{Meta}
use Rattle.borrowed.proofs.LookFacts.{strict-object}
use Rattle.borrowed.proofs.PutFacts.{read_here, read_there, still_known}
use Rattle.entries.specs.PrivateKeys.{Spells, is_entry_key, lent_text}
use Rattle.entries.specs.Reading.{bytes_of, content_in, content_of, directory_at, directory_in, file_at, file_in, meta_at, meta_in, meta_with, mode_in, mode_of, row_in}
use Rattle.entries.specs.declared.spelled.Spelled.{Spelled}

pub put_dir : (s : Spelled) (x : Bool) (d : Data) (key : List ℕ) (found : Members) → key ≡ codes "dir" → as_bool d ≡ Some x → Spells s found
    → Spells (record { dir = Some x; gid = s.gid; hex = s.hex; mode = s.mode; path = s.path; text = s.text; uid = s.uid }) (put key d found)
put_dir s x d key found is read h = subst (λ k. Spells (record { dir = Some x; gid = s.gid; hex = s.hex; mode = s.mode; path = s.path; text = s.text; uid = s.uid }) (put k d found)) (sym is) (record {
  known = still_known is_entry_key (codes "dir") d found refl h.known;
  dir = read_here as_bool (codes "dir") (Some x) x d found refl read;
  gid = read_there short_number_in (codes "gid") (codes "dir") s.gid d found refl h.gid;
  hex = read_there as_str (codes "hex") (codes "dir") (lent_text s.hex) d found refl h.hex;
  mode = read_there as_str (codes "mode") (codes "dir") (lent_text s.mode) d found refl h.mode;
  path = read_there as_str (codes "path") (codes "dir") (lent_text s.path) d found refl h.path;
  text = read_there as_str (codes "text") (codes "dir") (lent_text s.text) d found refl h.text;
  uid = read_there short_number_in (codes "uid") (codes "dir") s.uid d found refl h.uid;
})

pub put_gid : (s : Spelled) (x : ℕ) (d : Data) (key : List ℕ) (found : Members) → key ≡ codes "gid" → short_number_in d ≡ Some x → Spells s found
    → Spells (record { dir = s.dir; gid = Some x; hex = s.hex; mode = s.mode; path = s.path; text = s.text; uid = s.uid }) (put key d found)
put_gid s x d key found is read h = subst (λ k. Spells (record { dir = s.dir; gid = Some x; hex = s.hex; mode = s.mode; path = s.path; text = s.text; uid = s.uid }) (put k d found)) (sym is) (record {
  known = still_known is_entry_key (codes "gid") d found refl h.known;
  dir = read_there as_bool (codes "dir") (codes "gid") s.dir d found refl h.dir;
  gid = read_here short_number_in (codes "gid") (Some x) x d found refl read;
  hex = read_there as_str (codes "hex") (codes "gid") (lent_text s.hex) d found refl h.hex;
  mode = read_there as_str (codes "mode") (codes "gid") (lent_text s.mode) d found refl h.mode;
  path = read_there as_str (codes "path") (codes "gid") (lent_text s.path) d found refl h.path;
  text = read_there as_str (codes "text") (codes "gid") (lent_text s.text) d found refl h.text;
  uid = read_there short_number_in (codes "uid") (codes "gid") s.uid d found refl h.uid;
})

pub put_hex : (s : Spelled) (x : Bor (List ℕ)) (d : Data) (key : List ℕ) (found : Members) → key ≡ codes "hex" → as_str d ≡ Some x.now → Spells s found
    → Spells (record { dir = s.dir; gid = s.gid; hex = Some x; mode = s.mode; path = s.path; text = s.text; uid = s.uid }) (put key d found)
put_hex s x d key found is read h = subst (λ k. Spells (record { dir = s.dir; gid = s.gid; hex = Some x; mode = s.mode; path = s.path; text = s.text; uid = s.uid }) (put k d found)) (sym is) (record {
  known = still_known is_entry_key (codes "hex") d found refl h.known;
  dir = read_there as_bool (codes "dir") (codes "hex") s.dir d found refl h.dir;
  gid = read_there short_number_in (codes "gid") (codes "hex") s.gid d found refl h.gid;
  hex = read_here as_str (codes "hex") (Some x.now) x.now d found refl read;
  mode = read_there as_str (codes "mode") (codes "hex") (lent_text s.mode) d found refl h.mode;
  path = read_there as_str (codes "path") (codes "hex") (lent_text s.path) d found refl h.path;
  text = read_there as_str (codes "text") (codes "hex") (lent_text s.text) d found refl h.text;
  uid = read_there short_number_in (codes "uid") (codes "hex") s.uid d found refl h.uid;
})

pub put_mode : (s : Spelled) (x : Bor (List ℕ)) (d : Data) (key : List ℕ) (found : Members) → key ≡ codes "mode" → as_str d ≡ Some x.now → Spells s found
    → Spells (record { dir = s.dir; gid = s.gid; hex = s.hex; mode = Some x; path = s.path; text = s.text; uid = s.uid }) (put key d found)
put_mode s x d key found is read h = subst (λ k. Spells (record { dir = s.dir; gid = s.gid; hex = s.hex; mode = Some x; path = s.path; text = s.text; uid = s.uid }) (put k d found)) (sym is) (record {
  known = still_known is_entry_key (codes "mode") d found refl h.known;
  dir = read_there as_bool (codes "dir") (codes "mode") s.dir d found refl h.dir;
  gid = read_there short_number_in (codes "gid") (codes "mode") s.gid d found refl h.gid;
  hex = read_there as_str (codes "hex") (codes "mode") (lent_text s.hex) d found refl h.hex;
  mode = read_here as_str (codes "mode") (Some x.now) x.now d found refl read;
  path = read_there as_str (codes "path") (codes "mode") (lent_text s.path) d found refl h.path;
  text = read_there as_str (codes "text") (codes "mode") (lent_text s.text) d found refl h.text;
  uid = read_there short_number_in (codes "uid") (codes "mode") s.uid d found refl h.uid;
})

pub put_path : (s : Spelled) (x : Bor (List ℕ)) (d : Data) (key : List ℕ) (found : Members) → key ≡ codes "path" → as_str d ≡ Some x.now → Spells s found
    → Spells (record { dir = s.dir; gid = s.gid; hex = s.hex; mode = s.mode; path = Some x; text = s.text; uid = s.uid }) (put key d found)
put_path s x d key found is read h = subst (λ k. Spells (record { dir = s.dir; gid = s.gid; hex = s.hex; mode = s.mode; path = Some x; text = s.text; uid = s.uid }) (put k d found)) (sym is) (record {
  known = still_known is_entry_key (codes "path") d found refl h.known;
  dir = read_there as_bool (codes "dir") (codes "path") s.dir d found refl h.dir;
  gid = read_there short_number_in (codes "gid") (codes "path") s.gid d found refl h.gid;
  hex = read_there as_str (codes "hex") (codes "path") (lent_text s.hex) d found refl h.hex;
  mode = read_there as_str (codes "mode") (codes "path") (lent_text s.mode) d found refl h.mode;
  path = read_here as_str (codes "path") (Some x.now) x.now d found refl read;
  text = read_there as_str (codes "text") (codes "path") (lent_text s.text) d found refl h.text;
  uid = read_there short_number_in (codes "uid") (codes "path") s.uid d found refl h.uid;
})

pub put_text : (s : Spelled) (x : Bor (List ℕ)) (d : Data) (key : List ℕ) (found : Members) → key ≡ codes "text" → as_str d ≡ Some x.now → Spells s found
    → Spells (record { dir = s.dir; gid = s.gid; hex = s.hex; mode = s.mode; path = s.path; text = Some x; uid = s.uid }) (put key d found)
put_text s x d key found is read h = subst (λ k. Spells (record { dir = s.dir; gid = s.gid; hex = s.hex; mode = s.mode; path = s.path; text = Some x; uid = s.uid }) (put k d found)) (sym is) (record {
  known = still_known is_entry_key (codes "text") d found refl h.known;
  dir = read_there as_bool (codes "dir") (codes "text") s.dir d found refl h.dir;
  gid = read_there short_number_in (codes "gid") (codes "text") s.gid d found refl h.gid;
  hex = read_there as_str (codes "hex") (codes "text") (lent_text s.hex) d found refl h.hex;
  mode = read_there as_str (codes "mode") (codes "text") (lent_text s.mode) d found refl h.mode;
  path = read_there as_str (codes "path") (codes "text") (lent_text s.path) d found refl h.path;
  text = read_here as_str (codes "text") (Some x.now) x.now d found refl read;
  uid = read_there short_number_in (codes "uid") (codes "text") s.uid d found refl h.uid;
})

pub put_uid : (s : Spelled) (x : ℕ) (d : Data) (key : List ℕ) (found : Members) → key ≡ codes "uid" → short_number_in d ≡ Some x → Spells s found
    → Spells (record { dir = s.dir; gid = s.gid; hex = s.hex; mode = s.mode; path = s.path; text = s.text; uid = Some x }) (put key d found)
put_uid s x d key found is read h = subst (λ k. Spells (record { dir = s.dir; gid = s.gid; hex = s.hex; mode = s.mode; path = s.path; text = s.text; uid = Some x }) (put k d found)) (sym is) (record {
  known = still_known is_entry_key (codes "uid") d found refl h.known;
  dir = read_there as_bool (codes "dir") (codes "uid") s.dir d found refl h.dir;
  gid = read_there short_number_in (codes "gid") (codes "uid") s.gid d found refl h.gid;
  hex = read_there as_str (codes "hex") (codes "uid") (lent_text s.hex) d found refl h.hex;
  mode = read_there as_str (codes "mode") (codes "uid") (lent_text s.mode) d found refl h.mode;
  path = read_there as_str (codes "path") (codes "uid") (lent_text s.path) d found refl h.path;
  text = read_there as_str (codes "text") (codes "uid") (lent_text s.text) d found refl h.text;
  uid = read_here short_number_in (codes "uid") (Some x) x d found refl read;
})

-- ---- a key at which nothing stands is none of the keys

one_less_at : (o : Ordering) (ask : List ℕ → Bool) (k l : List ℕ) (d : Data) (ms : Members) → slice_cmp nat_cmp k l ≡ o → match_ordering o (get_member k ms) (Some d) (get_member k ms) ≡ None
    → (bytes_eq k l ≡ false) × (get_member k ms ≡ None)
one_less_at Less ask k l d ms is none = (sym (is_eq-slice_cmp k l) ∙ ap is_eq is, none)
one_less_at Equal ask k l d ms is none = absurd (cc)
one_less_at Greater ask k l d ms is none = (sym (is_eq-slice_cmp k l) ∙ ap is_eq is, none)

both : (a b : Bool) → a && b ≡ true → (a ≡ true) × (b ≡ true)
both true true e = (refl, refl)
both true false e = absurd (cc)
both false b e = absurd (cc)

has_fewer : (some fewer : List ℕ → Bool) (k : List ℕ) (ms : Members) → ((l : List ℕ) → some l ≡ true → bytes_eq k l ≡ false → fewer l ≡ true) → has_only some ms ≡ true → get_member k ms ≡ None → has_only fewer ms ≡ true
has_fewer some fewer k no_members less all none = refl
has_fewer some fewer k (member l d ms) less all none =
    let parts = both (some l) (has_only some ms) all in
    let apart = one_less_at (slice_cmp nat_cmp k l) some k l d ms refl none in
    ap₂ (λ x y. x && y) (less l parts.0 apart.0) (has_fewer some fewer k ms less parts.1 apart.1)

-- ---- what an object is read as, that has no other keys

module _ (found : Members) (known : has_only is_entry_key found ≡ true) where
  abbrev value_of : List ℕ → Option Data
  value_of k = get_member k found

  abbrev file_keys : List (List ℕ)
  file_keys = codes "gid" ∷ codes "hex" ∷ codes "mode" ∷ codes "path" ∷ codes "text" ∷ codes "uid" ∷ []

  abbrev directory_keys : List (List ℕ)
  directory_keys = codes "dir" ∷ codes "gid" ∷ codes "mode" ∷ codes "path" ∷ codes "uid" ∷ []

  abbrev keys_but_text : List (List ℕ)
  keys_but_text = codes "dir" ∷ codes "gid" ∷ codes "hex" ∷ codes "mode" ∷ codes "path" ∷ codes "uid" ∷ []

  abbrev is_of : List (List ℕ) → List ℕ → Bool
  is_of keys key = list_any (λ k. bytes_eq k key) keys

  pub file_row : (row : Row) → value_of (codes "dir") ≡ None
      → file_at (value_of (codes "path")) (meta_at file_meta (value_of (codes "mode")) (value_of (codes "uid")) (value_of (codes "gid"))) (content_of (value_of (codes "text")) (value_of (codes "hex"))) ≡ Some row → row_in (object found) ≡ Some row
  unfolding file_in meta_in content_in
  file_row row none is =
      let strictly : is_some (strict file_keys (object found)) ≡ true =
      strict-object file_keys found
      ∙ has_fewer is_entry_key (is_of file_keys) (codes "dir") found
      (λ l yes no. subst (λ b. b || (bytes_eq (codes "gid") l || (bytes_eq (codes "hex") l || (bytes_eq (codes "mode") l || (bytes_eq (codes "path") l || (bytes_eq (codes "text") l || (bytes_eq (codes "uid") l || false)))))) ≡ true) no yes)
      known none in
      ap (λ o. if is_some o then directory_in (object found) else file_in (object found)) none
      ∙ ap (λ b. if b then file_at (value_of (codes "path")) (meta_at file_meta (value_of (codes "mode")) (value_of (codes "uid")) (value_of (codes "gid"))) (content_of (value_of (codes "text")) (value_of (codes "hex"))) else None) strictly
      ∙ is

  pub directory_row : (row : Row) → is_some (value_of (codes "dir")) ≡ true → value_of (codes "text") ≡ None → value_of (codes "hex") ≡ None
      → directory_at (value_of (codes "dir")) (value_of (codes "path")) (meta_at directory_meta (value_of (codes "mode")) (value_of (codes "uid")) (value_of (codes "gid"))) ≡ Some row → row_in (object found) ≡ Some row
  unfolding directory_in meta_in
  directory_row row some text hex is =
      let but_text =
      has_fewer is_entry_key (is_of keys_but_text) (codes "text") found
      (λ l yes no. subst (λ b. bytes_eq (codes "dir") l || (bytes_eq (codes "gid") l || (bytes_eq (codes "hex") l || (bytes_eq (codes "mode") l || (bytes_eq (codes "path") l || (b || (bytes_eq (codes "uid") l || false)))))) ≡ true) no yes)
      known text in
      let strictly : is_some (strict directory_keys (object found)) ≡ true =
      strict-object directory_keys found
      ∙ has_fewer (is_of keys_but_text) (is_of directory_keys) (codes "hex") found
      (λ l yes no. subst (λ b. bytes_eq (codes "dir") l || (bytes_eq (codes "gid") l || (b || (bytes_eq (codes "mode") l || (bytes_eq (codes "path") l || (bytes_eq (codes "uid") l || false))))) ≡ true) no yes)
      but_text hex in
      ap (λ b. if b then directory_in (object found) else file_in (object found)) some
      ∙ ap (λ b. if b then directory_at (value_of (codes "dir")) (value_of (codes "path")) (meta_at directory_meta (value_of (codes "mode")) (value_of (codes "uid")) (value_of (codes "gid"))) else None) strictly
      ∙ is

-- ---- what the values are, by what they are read as

module _ {A : Type 0} (one : Data → Option A) where
  none_made : (o : Option A) → option_map Some o ≡ Some None → ⊥
  none_made None e = absurd (cc)
  none_made (Some x) e = absurd (cc)

  one_made : (o : Option A) (x : A) → option_map Some o ≡ Some (Some x) → o ≡ Some x
  one_made None x e = absurd (cc)
  one_made (Some y) x e = cc

  -- nothing stands there
  pub missing : (o : Option Data) → at_most_one one o ≡ Some None → o ≡ None
  missing None e = refl
  missing (Some d) e = absurd (none_made (one d) e)

  -- what stands there is something
  pub there : (o : Option Data) (x : A) → at_most_one one o ≡ Some (Some x) → option_and_then one o ≡ Some x
  there None x e = absurd (cc)
  there (Some d) x e = one_made (one d) x e

  pub is_there : (o : Option Data) (x : A) → at_most_one one o ≡ Some (Some x) → is_some o ≡ true
  is_there None x e = absurd (cc)
  is_there (Some d) x e = refl

pub path_read : (o : Option Data) (text : List ℕ) → at_most_one as_str o ≡ Some (Some text) → option_and_then path_in o ≡ path_of text
unfolding path_in
path_read None text e = absurd (cc)
path_read (Some d) text e = ap (option_and_then path_of) (there as_str (Some d) text e)

pub text_read : (t h : Option Data) (text : List ℕ) → at_most_one as_str t ≡ Some (Some text) → at_most_one as_str h ≡ Some None → content_of t h ≡ Some text
text_read None h text e f = absurd (cc)
text_read (Some d) h text e f = ap (content_of (Some d)) (missing as_str h f) ∙ there as_str (Some d) text e

pub hex_read : (t h : Option Data) (hex : List ℕ) → at_most_one as_str t ≡ Some None → at_most_one as_str h ≡ Some (Some hex) → content_of t h ≡ bytes_of hex
hex_read t None hex e f = absurd (cc)
hex_read t (Some d) hex e f = ap (λ o. content_of o (Some d)) (missing as_str t e) ∙ ap (option_and_then bytes_of) (there as_str (Some d) hex f)

pub no_mode : (o : Option Data) → at_most_one as_str o ≡ Some None → at_most_one mode_in o ≡ Some None
no_mode o e = ap (at_most_one mode_in) (missing as_str o e)

pub mode_read : (o : Option Data) (text : List ℕ) (mode : ℕ) → at_most_one as_str o ≡ Some (Some text) → mode_of text ≡ Some mode → at_most_one mode_in o ≡ Some (Some mode)
unfolding mode_in
mode_read None text mode e is = absurd (cc)
mode_read (Some d) text mode e is = ap (option_map Some) (ap (option_and_then mode_of) (there as_str (Some d) text e) ∙ is)

pub meta_read : (default : Meta) (m u g : Option Data) (mode uid gid : Option ℕ) → at_most_one mode_in m ≡ Some mode → at_most_one short_number_in u ≡ Some uid → at_most_one short_number_in g ≡ Some gid
    → meta_at default m u g ≡ Some (meta_with default mode uid gid)
meta_read default m u g mode uid gid a b c =
    λ i. option_and_then (λ mode. option_and_then (λ uid. option_map (λ gid. meta_with default mode uid gid) (c i)) (b i)) (a i)

pub file_read : (m : Option Meta) (c : Option (List ℕ)) (path : List (List ℕ)) (meta : Meta) (content : List ℕ) (d : Option Data) → option_and_then path_in d ≡ Some path → m ≡ Some meta → c ≡ Some content
    → file_at d m c ≡ Some (path, File meta content)
file_read m c path meta content d p is has = λ i. option_and_then (λ path. option_and_then (λ meta. option_map (λ content. (path, File meta content)) (has i)) (is i)) (p i)

pub directory_read : (m : Option Meta) (path : List (List ℕ)) (meta : Meta) (f d : Option Data) → at_most_one as_bool f ≡ Some (Some true) → option_and_then path_in d ≡ Some path → m ≡ Some meta
    → directory_at f d m ≡ Some (path, Directory meta)
directory_read m path meta f d flag p is =
    λ i. option_and_then (λ flag. if flag then option_and_then (λ path. option_map (λ meta. (path, Directory meta)) (is i)) (p i) else None) (there as_bool f true flag i)

pub none_is : {A : Type 0} → (o : Option A) → is_some o ≡ false → o ≡ None
none_is None e = refl
none_is (Some x) e = absurd (cc)

pub if_ok : {A E : Type 0} → (r : Result A E) (P Q : A → Type 0) → IfOk r P → ((x : A) → P x → Q x) → IfOk r Q
if_ok (Ok x) P Q h so = so x h
if_ok (Err e) P Q h so = tt
