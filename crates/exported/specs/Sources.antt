-- Trees that no operation makes (BuildKit's LLB, `SourceOp`; BuildKit, attributes of local sources).
use Rattle.std.specs.Prelude.{ℕ, Option, Some, None, List, [], ◌∷◌, ◌++◌, codes}
use Rattle.llbmessages.specs.declared.source.SourceOp.{SourceOp}

-- an image, by its whole name, which may be pinned
unfoldable pub image_source : List ℕ → SourceOp
image_source name = record { identifier = codes "docker-image://" ++ name; attrs = [] }

-- the attribute of patterns, if there are some: a JSON list of them
abbrev pub exclude_entries : Option (List ℕ) → List (List ℕ × List ℕ)
exclude_entries None = []
exclude_entries (Some patterns) = (codes "local.excludepatterns", patterns) ∷ []

-- attributes with that of the patterns of what alone is given, if there are some: a JSON list of them
abbrev pub with_follows : Option (List ℕ) → List (List ℕ × List ℕ) → List (List ℕ × List ℕ)
with_follows None entries = entries
with_follows (Some patterns) entries = entries ++ (codes "local.followpaths", patterns) ∷ []

-- the attributes of the files that a build is given. `local.unique` tells builds apart that run at the same time with other files, which an engine
-- would take for one
abbrev pub context_entries : List ℕ → Option (List ℕ) → Option (List ℕ) → List (List ℕ × List ℕ)
context_entries unique excludes follows =
    (with_follows follows (exclude_entries excludes) ++ (codes "local.sharedkeyhint", codes "context") ∷ []) ++ (codes "local.unique", unique) ∷ []

-- the files that a build is given, without those of some patterns, and of the others only those of some other patterns
unfoldable pub context_source : List ℕ → Option (List ℕ) → Option (List ℕ) → SourceOp
context_source unique excludes follows = record { identifier = codes "local://context"; attrs = context_entries unique excludes follows }
