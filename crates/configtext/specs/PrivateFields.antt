-- The fields of a configuration, and how they are said one behind the other.
use Rattle.std.specs.Prelude.{ℕ, Bool, ◌||◌, List, [], ◌∷◌, ◌++◌, Option, Some, None, codes, if◌then◌else◌}
use Rattle.json.specs.Print.{quoted}
use Rattle.paths.specs.Path.{text_of}
use Rattle.serde_json.specs.Data.{Data, string}
use Rattle.serde_json.specs.Written.{comma_if, compact_text}
use Rattle.strict.specs.Written.{list_data}
use Rattle.imageconfig.specs.declared.config.Config.{Config}
use Rattle.imageconfig.specs.Writing.{is_set, variable_data, names_data, rows_data}

-- a field: whether it is set, its key, and its value
pub record Field : Type 0 where
  pub is_set : Bool
  pub key : List ℕ
  pub value : Data

-- the three, in this order
abbrev pub field : Bool → List ℕ → Data → Field
field is_set key value = record { is_set = is_set; key = key; value = value }

-- a member of this text, where it is set, behind a comma where others stand before
abbrev pub said_if : Bool → Bool → List ℕ → List ℕ → List ℕ
said_if is_set later key text = if is_set then comma_if later ++ (quoted key ++ 58 ∷ text) else []

-- fields, one behind the other, as far as they are set
abbrev pub said_fields : Bool → List Field → List ℕ
said_fields later [] = []
said_fields later (f ∷ fs) = said_if f.is_set later f.key (compact_text f.value) ++ said_fields (f.is_set || later) fs

-- whether a field has been said by then
abbrev pub later_after : Bool → List Field → Bool
later_after later [] = later
later_after later (f ∷ fs) = later_after (f.is_set || later) fs

-- Cmd, Entrypoint and Env
abbrev pub first_fields : Config → List Field
first_fields c =
    field (is_set c.cmd) (codes "Cmd") (list_data string c.cmd)
    ∷ (field (is_set c.entrypoint) (codes "Entrypoint") (list_data string c.entrypoint)
    ∷ (field (is_set c.env) (codes "Env") (list_data variable_data c.env) ∷ []))

-- ExposedPorts, Labels and StopSignal
abbrev pub middle_fields : Config → List Field
middle_fields c =
    field (is_set c.exposed_ports) (codes "ExposedPorts") (names_data c.exposed_ports)
    ∷ (field (is_set c.labels) (codes "Labels") (rows_data c.labels)
    ∷ (field (is_set c.stop_signal) (codes "StopSignal") (string c.stop_signal) ∷ []))

-- the working directory as a text, which is empty where none is set
abbrev pub dir_text : Option (List (List ℕ)) → List ℕ
dir_text None = []
dir_text (Some path) = text_of path

-- User, Volumes and WorkingDir
abbrev pub last_fields : Config → List Field
last_fields c =
    field (is_set c.user) (codes "User") (string c.user)
    ∷ (field (is_set c.volumes) (codes "Volumes") (names_data c.volumes)
    ∷ (field (is_set (dir_text c.working_dir)) (codes "WorkingDir") (string (dir_text c.working_dir)) ∷ []))
