-- What the words that were found ask for (own).
use Rattle.std.specs.Prelude.{◌≡◌, ◌≤◌, ℕ, Bool, List, [], ◌∷◌, Option, Some, None, codes, bytes_eq, is_some, option_map, option_and_then, if◌then◌else◌}
use Rattle.std.specs.Str.Parse.{IsNumeral, digits_value, without_leading_plus}
use Rattle.clap.specs.Kinds.{Kinds, or_else}
use Rattle.clap.specs.Words.{Row, Text, fault_of, first_of, one_of, subcommand_of}
use Rattle.clap.specs.declared.error.kind.ErrorKind.TheVariants.{ValueValidation}
use Rattle.plain.specs.Limits.{most_workers}
use Rattle.command.specs.CommandLine.{least_workers, whole_command}
use Rattle.command.specs.Flags.{is_set}
use Rattle.command.specs.Llb.{llb_of}
use Rattle.command.specs.Sources.{all_texts, choice_of, source_of}
use Rattle.command.specs.declared.task.BuildOptions.{BuildOptions}
use Rattle.command.specs.declared.task.CheckOptions.{CheckOptions}
use Rattle.command.specs.declared.task.Choice.{Choice}
use Rattle.command.specs.declared.task.GraphOptions.{GraphOptions}
use Rattle.command.specs.declared.task.PackOptions.{PackOptions}
use Rattle.command.specs.declared.task.Source.{Source}
use Rattle.command.specs.declared.task.WhyOptions.{WhyOptions}
use Rattle.command.specs.declared.task.Task.{Task}
use Rattle.command.specs.declared.task.Task.TheVariants.{Build, Graph, Pack, Why, Llb, Config, Check, Explain}

-- the number that the value of `--workers` says, within its range: decimal digits, of which a `+` may stand in front, which is how
-- clap reads a number (own)
pub record IsWorkers (rows : List Row) (workers : ℕ) : Type 0 where
  pub text : Text
  pub given : one_of (codes "workers") rows ≡ Some text
  pub numeral : IsNumeral 10 (without_leading_plus text)
  pub is : workers ≡ digits_value 10 (without_leading_plus text)
  pub least : least_workers ≤ workers
  pub most : workers ≤ most_workers

-- what `build` is asked for by its matches (own)
pub record IsBuild (rows : List Row) (options : BuildOptions) : Type 0 where
  pub workers : IsWorkers rows options.workers
  pub source : source_of (codes "FILE") rows ≡ Some options.source

-- what `graph` is asked for by its matches (own)
abbrev pub graph_with : List Row → Source → GraphOptions
graph_with rows source = record { source = source; dot = is_set (codes "dot") rows }

-- what `graph` is asked for by the matches (own)
abbrev pub graph_of : List Row → Option GraphOptions
graph_of rows = option_map (graph_with rows) (source_of (codes "FILE") rows)

-- what `pack` is asked for by its matches, with this folder and what is chosen of it (own)
abbrev pub pack_with : List Row → Text → Choice → PackOptions
pack_with rows folder choice = record {
  folder = folder;
  choice = choice;
  output = first_of (codes "output") rows;
  apply_ignore = is_set (codes "apply-ignore") rows;
  names = is_set (codes "names") rows;
}

-- the same, where there are such (own)
abbrev pub pack_by : List Row → Option Text → Option Choice → Option PackOptions
pack_by rows folder choice = option_and_then (λ folder. option_map (pack_with rows folder) choice) folder

-- what `pack` is asked for by the matches (own)
abbrev pub pack_of : List Row → Option PackOptions
pack_of rows = pack_by rows (first_of (codes "DIR") rows) (choice_of rows)

-- the paths of `why`, in the order of the words (own)
abbrev pub paths_of : List Row → List Text
paths_of rows = all_texts (codes "PATH") rows

-- what `why` is asked for by its matches: what the bundle is taken from, and its paths (own)
abbrev pub why_with : List Row → Source → WhyOptions
why_with rows source = record { source = source; paths = paths_of rows }

-- what `why` is asked for by the matches (own)
abbrev pub why_of : List Row → Option WhyOptions
why_of rows = option_map (why_with rows) (source_of (codes "bundle") rows)

-- what `check` is asked for by its matches (own)
abbrev pub check_with : List Row → Source → CheckOptions
check_with rows source = record { source = source; json = is_set (codes "json") rows }

-- what `check` is asked for by the matches (own)
abbrev pub check_of : List Row → Option CheckOptions
check_of rows = option_map (check_with rows) (source_of (codes "FILE") rows)

-- the task that a subcommand, by its name and its matches, asks for (own)
abbrev pub IsTaskOf : Option (Text × List Row) → Task → Type 0
IsTaskOf None task = ⊥
IsTaskOf (Some found) (Build options) = (found.0 ≡ codes "build") × IsBuild found.1 options
IsTaskOf (Some found) (Graph options) = (found.0 ≡ codes "graph") × (graph_of found.1 ≡ Some options)
IsTaskOf (Some found) (Pack options) = (found.0 ≡ codes "pack") × (pack_of found.1 ≡ Some options)
IsTaskOf (Some found) (Why options) = (found.0 ≡ codes "why") × (why_of found.1 ≡ Some options)
IsTaskOf (Some found) (Llb options) = (found.0 ≡ codes "llb") × (llb_of found.1 ≡ Some options)
IsTaskOf (Some found) (Config source) = (found.0 ≡ codes "config") × (source_of (codes "FILE") found.1 ≡ Some source)
IsTaskOf (Some found) (Check options) = (found.0 ≡ codes "check") × (check_of found.1 ≡ Some options)
IsTaskOf (Some found) (Explain source) = (found.0 ≡ codes "explain") × (source_of (codes "FILE") found.1 ≡ Some source)

-- the argument that names the file or the folder of a command's bundle (own)
abbrev pub place_of : Text → Text
place_of name = if bytes_eq name (codes "why") then codes "bundle" else codes "FILE"

-- The matches of a command hold what it is asked for: each build argument and each image has a `=`; of a bundle on standard input nothing is
-- chosen; and `llb` has a text of `--unique`, a platform, a network and a kind of merge (own).
abbrev pub is_whole : Text × List Row → Bool
is_whole found =
    if bytes_eq found.0 (codes "pack") then is_some (choice_of found.1)
    else (if bytes_eq found.0 (codes "llb") then is_some (llb_of found.1) else is_some (source_of (place_of found.0) found.1))

-- what is wrong with words in which clap finds no fault (own)
abbrev pub argument_faults : Option (Text × List Row) → Kinds
argument_faults None = []
argument_faults (Some found) = if is_whole found then [] else ValueValidation ∷ []

-- what is wrong with the words: what clap finds in them, or else that (own)
abbrev pub faults_of : List Text → Kinds
faults_of words = or_else (fault_of whole_command words) (argument_faults (subcommand_of whole_command words))
