-- What the words of `llb` ask for (own; BuildKit, `--platform` of `buildctl` and `docker`).
use Rattle.std.specs.Prelude.{◌==◌, ◌&&◌, Bool, not, List, Option, Some, None, length, codes, bytes_eq, unwrap_or, option_map, option_and_then, if◌then◌else◌}
use Rattle.std.specs.List.{position_or_len, before_first, after_first}
use Rattle.clap.specs.Words.{Row, Text, first_of}
use Rattle.command.specs.Flags.{is_set}
use Rattle.command.specs.Sources.{source_of}
use Rattle.command.specs.declared.task.LlbOptions.{LlbOptions}
use Rattle.command.specs.declared.task.MergeName.{MergeName}
use Rattle.command.specs.declared.task.MergeName.TheVariants.{Native, Chain}
use Rattle.command.specs.declared.task.NetworkName.{NetworkName}
use Rattle.command.specs.declared.task.NetworkName.TheVariants.{Usual, Absent, Host}
use Rattle.command.specs.declared.task.PlatformName.{PlatformName}
use Rattle.command.specs.declared.task.Source.{Source}

-- the platform of words that name none
abbrev pub default_platform : Text
default_platform = codes "linux/amd64"

-- the network of words that name none
abbrev pub default_network : Text
default_network = codes "default"

-- what a merge is by words that don't say it
abbrev pub default_merge : Text
default_merge = codes "native"

-- what stands before the first `/` of a text, all of it where there is none, and what stands after that
abbrev pub before_slash : Text → Text
before_slash text = before_first (λ c. c == 47) text

abbrev pub after_slash : Text → Text
after_slash text = after_first (λ c. c == 47) text

-- a text has no `/`
abbrev pub has_no_slash : Text → Bool
has_no_slash text = position_or_len (λ c. c == 47) text == length text

-- The end of a platform's text, after its OS, where the second text is what stands after the first `/` of that: there is no `/`, or a variant without
-- one. A `/` with nothing after it ends no platform.
abbrev pub ends_platform : Text → Text → Bool
ends_platform rest variant = if length variant == 0 then has_no_slash rest else has_no_slash variant

-- the names of a platform: neither the OS nor the architecture is empty, and after them the text ends
abbrev pub are_names : Text → Text → Text → Text → Bool
are_names os rest architecture variant = not (length os == 0) && (not (length architecture == 0) && ends_platform rest variant)

abbrev pub platform_with : Text → Text → Text → PlatformName
platform_with os architecture variant = record { os = os; architecture = architecture; variant = variant }

-- the platform of these names, where the second is what stands after the OS
abbrev pub platform_of_names : Text → Text → Text → Text → Option PlatformName
platform_of_names os rest architecture variant = if are_names os rest architecture variant then Some (platform_with os architecture variant) else None

-- the platform of a text `OS/ARCH` or `OS/ARCH/VARIANT`
abbrev pub platform_named : Text → Option PlatformName
platform_named text =
    platform_of_names (before_slash text) (after_slash text) (before_slash (after_slash text)) (after_slash (after_slash text))

-- the platform that the matches hold, or the usual one
abbrev pub platform_of : List Row → Option PlatformName
platform_of rows = platform_named (unwrap_or (first_of (codes "platform") rows) default_platform)

-- the network of a name
abbrev pub network_named : Text → Option NetworkName
network_named name =
    if bytes_eq name (codes "default") then Some Usual
    else (if bytes_eq name (codes "none") then Some Absent else (if bytes_eq name (codes "host") then Some Host else None))

-- the network that the matches hold, or the usual one
abbrev pub network_of : List Row → Option NetworkName
network_of rows = network_named (unwrap_or (first_of (codes "network") rows) default_network)

-- what a merge is by a name
abbrev pub merge_named : Text → Option MergeName
merge_named name = if bytes_eq name (codes "native") then Some Native else (if bytes_eq name (codes "chain") then Some Chain else None)

-- what a merge is by the matches, or the usual one
abbrev pub merge_of : List Row → Option MergeName
merge_of rows = merge_named (unwrap_or (first_of (codes "merge") rows) default_merge)

-- a text that no other build has: any but the empty one, which is the text of each build that has none of its own
abbrev pub unique_named : Text → Option Text
unique_named text = if length text == 0 then None else Some text

-- the one that the matches hold
abbrev pub unique_of : List Row → Option Text
unique_of rows = option_and_then unique_named (first_of (codes "unique") rows)

-- what `llb` is asked for by its matches, with this text that no other build has, this platform, this network and such merges, of this bundle
abbrev pub llb_with : List Row → Text → PlatformName → NetworkName → MergeName → Source → LlbOptions
llb_with rows unique platform network merging source =
    record { source = source; platform = platform; network = network; merging = merging; follow = is_set (codes "follow") rows; unique = unique }

-- the same, where it is said what a merge is and what the bundle is taken from
abbrev pub llb_by : List Row → Text → PlatformName → NetworkName → Option LlbOptions
llb_by rows unique platform network =
    option_and_then (λ merging. option_map (llb_with rows unique platform network merging) (source_of (codes "FILE") rows)) (merge_of rows)

-- the same, where there are such a text, such a platform and such a network too
abbrev pub llb_of : List Row → Option LlbOptions
llb_of rows =
    option_and_then (λ unique. option_and_then (λ platform. option_and_then (llb_by rows unique platform) (network_of rows)) (platform_of rows)) (unique_of rows)
