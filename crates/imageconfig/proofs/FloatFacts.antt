-- No number in a configuration's JSON is a float: there is no number in it.
use Rattle.std.proofs.Common.{◌≡◌, ℕ, Bool, true, false, ◌||◌, List, [], ◌∷◌, map, Option, Some, None, Ordering, Less, Equal, Greater, refl}
use Rattle.std.specs.Prelude.{codes}
use Rattle.std.specs.Ordering.{match_ordering, nat_cmp}
use Rattle.std.specs.Cmp.Lexicographic.{slice_cmp}
use Rattle.serde_json.specs.Data.{Data, string, object, Members, no_members, member, put}
use Rattle.serde_json.specs.View.{items_of}
use Rattle.serde_json.specs.Written.{has_float, items_have_float, members_have_float}
use Rattle.paths.specs.Path.{text_of}
use Rattle.strict.specs.Written.{list_data}
use Rattle.imageconfig.specs.declared.config.Config.{Config}
use Rattle.imageconfig.specs.Rows.{Row}
use Rattle.imageconfig.specs.Writing.{variable_data, put_names, names_data, put_texts_of, rows_data, is_set, put_if, put_dir, put_first, put_middle, put_last, settings_data, config_data}

neither : (a b : Bool) → a ≡ false → b ≡ false → (a || b) ≡ false
neither a b h i = rw (h, i) refl

halves : (a b : Bool) → (a || b) ≡ false → (a ≡ false) × (b ≡ false)
halves true b h = cc
halves false b h = (refl, h)

put-plain : (k : List ℕ) (d : Data) (ms : Members) → has_float d ≡ false → members_have_float ms ≡ false → members_have_float (put k d ms) ≡ false
put-plain k d no_members h i = neither _ _ h refl
put-plain k d (member l e ms) h i =
    let parts = halves (has_float e) (members_have_float ms) i in
    by (slice_cmp nat_cmp k l) parts.0 parts.1 (put-plain k d ms h parts.1)
  where
    by : (o : Ordering) → has_float e ≡ false → members_have_float ms ≡ false → members_have_float (put k d ms) ≡ false
        → members_have_float (match_ordering o (member k d (member l e ms)) (member l d ms) (member l e (put k d ms))) ≡ false
    by Less p q r = neither _ _ h (neither _ _ p q)
    by Equal p q r = neither _ _ h q
    by Greater p q r = neither _ _ p r

if-plain : (b : Bool) (k : List ℕ) (d : Data) (ms : Members) → has_float d ≡ false → members_have_float ms ≡ false → members_have_float (put_if b k d ms) ≡ false
if-plain true k d ms h i = put-plain k d ms h i
if-plain false k d ms h i = i

dir-plain : (dir : Option (List (List ℕ))) (ms : Members) → members_have_float ms ≡ false → members_have_float (put_dir dir ms) ≡ false
dir-plain None ms i = i
dir-plain (Some path) ms i = put-plain (codes "WorkingDir") (string (text_of path)) ms refl i

strings-plain : (xs : List (List ℕ)) → items_have_float (items_of (map string xs)) ≡ false
strings-plain [] = refl
strings-plain (x ∷ xs) = strings-plain xs

variables-plain : (rows : List Row) → items_have_float (items_of (map variable_data rows)) ≡ false
variables-plain [] = refl
variables-plain (row ∷ rows) = variables-plain rows

names-plain : (ns : List (List ℕ)) (ms : Members) → members_have_float ms ≡ false → members_have_float (put_names ns ms) ≡ false
names-plain [] ms h = h
names-plain (n ∷ ns) ms h = names-plain ns (put n (object no_members) ms) (put-plain n (object no_members) ms refl h)

rows-plain : (rows : List Row) (ms : Members) → members_have_float ms ≡ false → members_have_float (put_texts_of rows ms) ≡ false
rows-plain [] ms h = h
rows-plain (row ∷ rows) ms h = rows-plain rows (put row.0 (string row.1) ms) (put-plain row.0 (string row.1) ms refl h)

pub names_are_plain : (ns : List (List ℕ)) → has_float (names_data ns) ≡ false
unfolding names_data
names_are_plain ns = names-plain ns no_members refl

rows-data : (rows : List Row) → has_float (rows_data rows) ≡ false
unfolding rows_data
rows-data rows = rows-plain rows no_members refl

three-plain : (a b c : Bool) (k l m : List ℕ) (d e f : Data) (ms : Members) → has_float d ≡ false → has_float e ≡ false → has_float f ≡ false → members_have_float ms ≡ false
    → members_have_float (put_if a k d (put_if b l e (put_if c m f ms))) ≡ false
three-plain a b c k l m d e f ms p q r h = if-plain a k d (put_if b l e (put_if c m f ms)) p (if-plain b l e (put_if c m f ms) q (if-plain c m f ms r h))

first-plain : (c : Config) (ms : Members) → members_have_float ms ≡ false → members_have_float (put_first c ms) ≡ false
first-plain c ms h =
    three-plain (is_set c.cmd) (is_set c.entrypoint) (is_set c.env) (codes "Cmd") (codes "Entrypoint") (codes "Env")
    (list_data string c.cmd) (list_data string c.entrypoint) (list_data variable_data c.env) ms (strings-plain c.cmd) (strings-plain c.entrypoint) (variables-plain c.env) h

middle-plain : (c : Config) (ms : Members) → members_have_float ms ≡ false → members_have_float (put_middle c ms) ≡ false
middle-plain c ms h =
    three-plain (is_set c.exposed_ports) (is_set c.labels) (is_set c.stop_signal) (codes "ExposedPorts") (codes "Labels") (codes "StopSignal")
    (names_data c.exposed_ports) (rows_data c.labels) (string c.stop_signal) ms (names_are_plain c.exposed_ports) (rows-data c.labels) refl h

last-plain : (c : Config) (ms : Members) → members_have_float ms ≡ false → members_have_float (put_last c ms) ≡ false
last-plain c ms h =
    let volumes = put_if (is_set c.volumes) (codes "Volumes") (names_data c.volumes) (put_dir c.working_dir ms) in
    if-plain (is_set c.user) (codes "User") (string c.user) volumes refl
    (if-plain (is_set c.volumes) (codes "Volumes") (names_data c.volumes) (put_dir c.working_dir ms) (names_are_plain c.volumes) (dir-plain c.working_dir ms h))

settings-plain : (c : Config) → has_float (settings_data c) ≡ false
unfolding settings_data
settings-plain c = first-plain c (put_middle c (put_last c no_members)) (middle-plain c (put_last c no_members) (last-plain c no_members refl))

pub config_is_plain : (c : Config) → has_float (config_data c) ≡ false
unfolding config_data
config_is_plain c = rw (settings-plain c) refl
