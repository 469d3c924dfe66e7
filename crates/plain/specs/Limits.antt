-- The limits of the rules, as numbers (own, but where a definition names its source).
use Rattle.std.specs.Prelude.{ℕ}

-- the most bytes of a Dockerfile
unfoldable pub most_dockerfile_bytes : ℕ
most_dockerfile_bytes = 1048576

-- the most bytes of a bundle
unfoldable pub most_bundle_bytes : ℕ
most_bundle_bytes = 67108864

-- the most logical lines of a Dockerfile
abbrev pub most_lines : ℕ
most_lines = 4096

-- the greatest number of a line, of which the first is 1
abbrev pub most_line_number : ℕ
most_line_number = 1048576

-- the most stages of a Dockerfile
abbrev pub most_stages : ℕ
most_stages = 256

-- the most mounts of one RUN
abbrev pub most_mounts : ℕ
most_mounts = 16

-- the most bytes of a text whose variables were replaced by their values
unfoldable pub most_text_bytes : ℕ
most_text_bytes = 1048576

-- the most components of a path
abbrev pub most_components : ℕ
most_components = 64

-- the most bytes of one component of a path (the limit of Linux's file systems)
abbrev pub most_component_bytes : ℕ
most_component_bytes = 255

-- the most different images that the stages of one build name
abbrev pub most_images : ℕ
most_images = 8000

-- the most vertices of a graph
abbrev pub most_vertices : ℕ
most_vertices = 16384

-- the most workers of one build
abbrev pub most_workers : ℕ
most_workers = 64
