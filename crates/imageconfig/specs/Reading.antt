-- An image's configuration in JSON (OCI image specification). Other keys than those that are named are passed over, at the top and in
-- `config`, and in `config` a field that is `null` counts as absent.
use Rattle.std.specs.Prelude.{ℕ, ◌==◌, false, List, [], ◌∷◌, map, length, Option, Some, None, is_some, option_map, option_and_then, codes, bytes_eq, if◌then◌else◌}
use Rattle.std.specs.List.{position_or_len, before_first, after_first}
use Rattle.serde_json.specs.Data.{Data, Members, no_members, member}
use Rattle.serde_json.specs.Find.{get, as_str, as_null, as_object}
use Rattle.options.specs.Lists.{all_some}
use Rattle.paths.specs.Reading.{read_from, is_absolute, limit_of}
use Rattle.scopes.specs.Scope.{names_differ}
use Rattle.strict.specs.Strict.{strict, list_in, rows_in}
use Rattle.imageconfig.specs.declared.config.Config.{Config}
use Rattle.imageconfig.specs.declared.fields.Lists.{Lists}
use Rattle.imageconfig.specs.declared.fields.Objects.{Objects}
use Rattle.imageconfig.specs.declared.fields.Texts.{Texts}
use Rattle.imageconfig.specs.Rows.{Row, names_of, put_rows, add_names}

-- `null` counts as absent
abbrev pub unless_null : Data → Option Data
unless_null d = if is_some (as_null d) then None else Some d

-- what stands at a key
abbrev pub set_at : List ℕ → Data → Option Data
set_at key d = option_and_then unless_null (get key d)

-- what is read of a value, and what there is without one
abbrev pub or_default : {A : Type 0} → A → (Data → Option A) → Option Data → Option A
or_default x reading None = Some x
or_default x reading (Some d) = reading d

-- a field of `config`, and what there is without it
abbrev pub field : {A : Type 0} → A → (Data → Option A) → List ℕ → Data → Option A
field x reading key d = or_default x reading (set_at key d)

-- a text `NAME=VALUE`, cut at its first `=`, whose name isn't empty
abbrev pub cut_row : List ℕ → Option Row
cut_row text =
    if position_or_len (λ c. c == 61) text == length text then None
    else if length (before_first (λ c. c == 61) text) == 0 then None
    else Some (before_first (λ c. c == 61) text, after_first (λ c. c == 61) text)

-- rows of which no two have the same name
abbrev pub if_they_differ : List Row → Option (List Row)
if_they_differ rows = if names_differ (names_of rows) then Some rows else None

-- Env: a list of texts `NAME=VALUE`, no name twice
unfoldable pub env_in : Data → Option (List Row)
env_in d = option_and_then if_they_differ (option_and_then (λ texts. all_some (map cut_row texts)) (list_in as_str d))

-- the keys of an object
abbrev pub member_keys : Members → List (List ℕ)
member_keys no_members = []
member_keys (member key d members) = key ∷ member_keys members

-- the keys of a value that is an object
abbrev pub keys_in : Data → Option (List (List ℕ))
keys_in d = option_map member_keys (as_object d)

-- ExposedPorts and Volumes: the keys of an object, whose values are forgotten
unfoldable pub names_in : Data → Option (List (List ℕ))
names_in d = option_map (add_names []) (keys_in d)

-- Labels: an object of texts
unfoldable pub labels_in : Data → Option (List Row)
labels_in d = option_map (λ rows. put_rows [] rows) (rows_in as_str d)

-- a path within the limits
abbrev pub short_path : List (List ℕ) → Option (List (List ℕ))
short_path path = if is_some (limit_of path) then None else Some path

-- WorkingDir: the empty text is none; else the text begins with `/` and is read as a path, which need not be clean
abbrev pub dir_of_text : List ℕ → Option (Option (List (List ℕ)))
dir_of_text text =
    if length text == 0 then Some None
    else if is_absolute text then option_map (λ path. Some path) (short_path (read_from text [])) else None

unfoldable pub dir_in : Data → Option (Option (List (List ℕ)))
dir_in d = option_and_then dir_of_text (as_str d)

-- the words before a shell form's text where no SHELL was given (Dockerfile reference, SHELL)
abbrev pub default_shell : List (List ℕ)
default_shell = codes "/bin/sh" ∷ codes "-c" ∷ []

-- the configuration with nothing set
abbrev pub bare : List ℕ → List ℕ → Config
bare architecture os = record {
  architecture = architecture;
  os = os;
  env = [];
  user = [];
  stop_signal = [];
  working_dir = None;
  cmd = [];
  cmd_is_own = false;
  entrypoint = [];
  labels = [];
  exposed_ports = [];
  volumes = [];
  shell = default_shell;
}

-- the configuration that a stage from `scratch` begins with (own)
abbrev pub plain : Config
plain = bare (codes "amd64") (codes "linux")

-- the fields that are lists
unfoldable pub lists_in : Data → Option Lists
lists_in d =
    option_and_then (λ cmd.
    option_and_then (λ entrypoint.
    option_map (λ env. record { cmd = cmd; entrypoint = entrypoint; env = env })
    (field [] env_in (codes "Env") d))
    (field [] (list_in as_str) (codes "Entrypoint") d))
    (field [] (list_in as_str) (codes "Cmd") d)

-- the fields that are objects
unfoldable pub objects_in : Data → Option Objects
objects_in d =
    option_and_then (λ exposed_ports.
    option_and_then (λ labels.
    option_map (λ volumes. record { exposed_ports = exposed_ports; labels = labels; volumes = volumes })
    (field [] names_in (codes "Volumes") d))
    (field [] labels_in (codes "Labels") d))
    (field [] names_in (codes "ExposedPorts") d)

-- the fields that are texts
unfoldable pub texts_in : Data → Option Texts
texts_in d =
    option_and_then (λ stop_signal.
    option_and_then (λ user.
    option_map (λ working_dir. record { stop_signal = stop_signal; user = user; working_dir = working_dir })
    (field None dir_in (codes "WorkingDir") d))
    (field [] as_str (codes "User") d))
    (field [] as_str (codes "StopSignal") d)

-- the configuration of these fields; an image's Cmd isn't a stage's own
abbrev pub joined : List ℕ → List ℕ → Lists → Objects → Texts → Config
joined architecture os lists objects texts = record {
  architecture = architecture;
  os = os;
  env = lists.env;
  user = texts.user;
  stop_signal = texts.stop_signal;
  working_dir = texts.working_dir;
  cmd = lists.cmd;
  cmd_is_own = false;
  entrypoint = lists.entrypoint;
  labels = objects.labels;
  exposed_ports = objects.exposed_ports;
  volumes = objects.volumes;
  shell = default_shell;
}

-- the fields of `config`, in these groups
unfoldable pub groups_in : Data → Option (Lists × Objects × Texts)
groups_in d =
    option_and_then (λ lists.
    option_and_then (λ objects.
    option_map (λ texts. (lists, objects, texts))
    (texts_in d))
    (objects_in d))
    (lists_in d)

-- the configuration whose fields are read
unfoldable pub fields_in : List ℕ → List ℕ → Data → Option Config
fields_in architecture os d = option_map (λ groups. joined architecture os groups.0 groups.1 groups.2) (groups_in d)

-- `config`, which is an object
abbrev pub settings_in : List ℕ → List ℕ → Data → Option Config
settings_in architecture os d = option_and_then (λ members. fields_in architecture os d) (as_object d)

-- `rootfs`, which has no other keys; its `diff_ids` are forgotten
unfoldable pub rootfs_in : Data → Option (List (List ℕ))
rootfs_in d =
    option_and_then (λ members.
    option_and_then (λ kind. if bytes_eq kind (codes "layers") then option_and_then (list_in as_str) (get (codes "diff_ids") d) else None)
    (option_and_then as_str (get (codes "type") d)))
    (strict (codes "diff_ids" ∷ codes "type" ∷ []) d)

-- the configuration that a value is
unfoldable pub config_in : Data → Option Config
config_in d =
    option_and_then (λ architecture.
    option_and_then (λ os.
    option_and_then (λ layers. or_default (bare architecture os) (settings_in architecture os) (get (codes "config") d))
    (option_and_then rootfs_in (get (codes "rootfs") d)))
    (option_and_then as_str (get (codes "os") d)))
    (option_and_then as_str (get (codes "architecture") d))
