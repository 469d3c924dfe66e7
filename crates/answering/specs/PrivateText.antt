-- The answer of a build that gave a tree, as JSON.
use Rattle.std.specs.Prelude.{codes}
use Rattle.serde_json.specs.Data.{Data, string, object, no_members, member}

-- of its configuration and its tree, both as JSON
abbrev pub built_of : Data → Data → Data
built_of config tree = object (member (codes "config") config
    (member (codes "result") (string (codes "built"))
    (member (codes "tree") tree no_members)))
