-- A configuration as JSON (OCI image specification): only what is set and not empty is written, and no layers. `put` keeps the keys of an
-- object in the order of their bytes.
use Rattle.std.specs.Prelude.{ℕ, ◌==◌, ◌++◌, Bool, not, List, [], ◌∷◌, length, Option, Some, None, codes, if◌then◌else◌}
use Rattle.serde_json.specs.Data.{Data, string, object, Members, no_members, member, put}
use Rattle.paths.specs.Path.{text_of}
use Rattle.strict.specs.Written.{list_data}
use Rattle.imageconfig.specs.declared.config.Config.{Config}
use Rattle.imageconfig.specs.Rows.{Row}

-- a variable is `NAME=VALUE`
abbrev pub variable_data : Row → Data
variable_data row = string (row.0 ++ 61 ∷ row.1)

-- the members of an object, with an empty object for each name
abbrev pub put_names : List (List ℕ) → Members → Members
put_names [] members = members
put_names (name ∷ names) members = put_names names (put name (object no_members) members)

unfoldable pub names_data : List (List ℕ) → Data
names_data names = object (put_names names no_members)

-- the members of an object, with the text of each row
abbrev pub put_texts_of : List Row → Members → Members
put_texts_of [] members = members
put_texts_of (row ∷ rows) members = put_texts_of rows (put row.0 (string row.1) members)

unfoldable pub rows_data : List Row → Data
rows_data rows = object (put_texts_of rows no_members)

-- a member that is written where it is set
abbrev pub put_if : Bool → List ℕ → Data → Members → Members
put_if is_set key d members = if is_set then put key d members else members

-- the working directory, where it is set
abbrev pub put_dir : Option (List (List ℕ)) → Members → Members
put_dir None members = members
put_dir (Some path) members = put (codes "WorkingDir") (string (text_of path)) members

-- a list or text isn't empty
abbrev pub is_set : {A : Type 0} → List A → Bool
is_set xs = not (length xs == 0)

-- Cmd, Entrypoint and Env, as far as they are set: the last key is put first, so each stands before those that are there
abbrev pub put_first : Config → Members → Members
put_first c members =
    put_if (is_set c.cmd) (codes "Cmd") (list_data string c.cmd)
    (put_if (is_set c.entrypoint) (codes "Entrypoint") (list_data string c.entrypoint)
    (put_if (is_set c.env) (codes "Env") (list_data variable_data c.env) members))

-- ExposedPorts, Labels and StopSignal
abbrev pub put_middle : Config → Members → Members
put_middle c members =
    put_if (is_set c.exposed_ports) (codes "ExposedPorts") (names_data c.exposed_ports)
    (put_if (is_set c.labels) (codes "Labels") (rows_data c.labels)
    (put_if (is_set c.stop_signal) (codes "StopSignal") (string c.stop_signal) members))

-- User, Volumes and WorkingDir
abbrev pub put_last : Config → Members → Members
put_last c members =
    put_if (is_set c.user) (codes "User") (string c.user)
    (put_if (is_set c.volumes) (codes "Volumes") (names_data c.volumes)
    (put_dir c.working_dir members))

-- `config`
unfoldable pub settings_data : Config → Data
settings_data c = object (put_first c (put_middle c (put_last c no_members)))

-- `rootfs`, without layers
abbrev pub rootfs_data : Data
rootfs_data = object (member (codes "diff_ids") (list_data string []) (member (codes "type") (string (codes "layers")) no_members))

unfoldable pub config_data : Config → Data
config_data c = object (member (codes "architecture") (string c.architecture) (member (codes "config") (settings_data c)
    (member (codes "os") (string c.os) (member (codes "rootfs") rootfs_data no_members))))
