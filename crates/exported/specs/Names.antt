-- The whole name of an image (Docker's distribution/reference, `ParseNormalizedNamed` and `TagNameOnly`): the host `docker.io` where none is
-- named, `library/` before a name of one part there, and the tag `latest` where there is neither a tag nor a digest. A name that is no
-- reference has a whole name too, which an engine refuses.
use Rattle.std.specs.Prelude.{ℕ, Bool, true, false, ◌&&◌, ◌||◌, Option, Some, None, List, [], ◌∷◌, ◌++◌, bytes_eq, codes, drop, nat_eq, nat_le, ◌==◌, if◌then◌else◌}
use Rattle.std.specs.List.{list_any, starts_with}
use Rattle.std.specs.Map.{lookup}

-- whether a byte is among some
abbrev pub has_byte : ℕ → List ℕ → Bool
has_byte byte bytes = list_any (λ b. b == byte) bytes

-- a byte that only a host has in a name's first part: `.`, `:` or a capital letter
unfoldable pub is_host_byte : ℕ → Bool
is_host_byte b = b == 46 || (b == 58 || (nat_le 65 b && nat_le b 90))

-- whether such a byte stands before the first `/`
abbrev pub has_host_byte : List ℕ → Bool
has_host_byte [] = false
has_host_byte (b ∷ bs) = if b == 47 then false else (if is_host_byte b then true else has_host_byte bs)

-- a name's first part is a host: another part follows it, and it is `localhost` or has such a byte
unfoldable pub names_host : List ℕ → Bool
names_host name = has_byte 47 name && (if starts_with nat_eq name (codes "localhost/") then true else has_host_byte name)

-- what follows `docker.io/` in a name that begins with it
unfoldable pub after_docker : List ℕ → Option (List ℕ)
after_docker name = if starts_with nat_eq name (codes "docker.io/") then Some (drop 10 name) else None

-- what follows the same host's other name, `index.docker.io/`
unfoldable pub after_index : List ℕ → Option (List ℕ)
after_index name = if starts_with nat_eq name (codes "index.") then after_docker (drop 6 name) else None

-- a name that names no host
unfoldable pub without_host : List ℕ → Option (List ℕ)
without_host name = if names_host name then None else Some name

-- the first that is there
abbrev pub or_else : Option (List ℕ) → Option (List ℕ) → Option (List ℕ)
or_else None other = other
or_else (Some rest) other = Some rest

-- what follows the host of a name on Docker's own host, where no host is named too
abbrev pub hub_rest : List ℕ → Option (List ℕ)
hub_rest name = or_else (after_docker name) (or_else (after_index name) (without_host name))

-- a name on Docker's own host, where one of one part is in the library
unfoldable pub in_hub : List ℕ → List ℕ
in_hub rest = if has_byte 47 rest then codes "docker.io/" ++ rest else codes "docker.io/library/" ++ rest

-- what follows a name's first part
abbrev pub from_slash : List ℕ → List ℕ
from_slash [] = []
from_slash (b ∷ bs) = if b == 47 then b ∷ bs else from_slash bs

-- a name with the tag `latest`, where what follows its host has neither a digest nor a tag
unfoldable pub with_tag : List ℕ → List ℕ → List ℕ
with_tag rest whole = if has_byte 64 rest || has_byte 58 rest then whole else whole ++ codes ":latest"

-- a name on Docker's own host, or on the one that it names
abbrev pub whole_of : List ℕ → Option (List ℕ) → List ℕ
whole_of name (Some rest) = with_tag rest (in_hub rest)
whole_of name None = with_tag (from_slash name) name

unfoldable pub whole_name : List ℕ → List ℕ
whole_name name = whole_of name (hub_rest name)

-- ---- names that are pinned

-- the digest that a name is given: that of the name among some, but none for a name that has a digest itself
unfoldable pub digest_for : List (List ℕ × List ℕ) → List ℕ → Option (List ℕ)
digest_for digests name = if has_byte 64 name then None else lookup (bytes_eq name) digests

-- a name with a digest, if there is one (Docker's distribution/reference, `WithDigest`)
abbrev pub with_digest : Option (List ℕ) → List ℕ → List ℕ
with_digest None whole = whole
with_digest (Some digest) whole = (whole ++ codes "@") ++ digest

-- the whole name of an image, with the digest that pins it, if there is one (BuildKit, frontend/dockerfile/dockerfile2llb)
unfoldable pub pinned_name : List (List ℕ × List ℕ) → List ℕ → List ℕ
pinned_name digests name = with_digest (digest_for digests name) (whole_name name)
