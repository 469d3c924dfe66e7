-- The words that the program takes, as a command of the crate `clap` (own).
use Rattle.std.specs.Prelude.{ℕ, [], ◌∷◌, Some, true, codes, pos}
use Rattle.plain.specs.Limits.{most_workers}
use Rattle.clap.specs.Words.{App, Rule, Text, new_app, new_rule, with_rule, with_subcommand}
use Rattle.clap.specs.Simple.{on_top}
use Rattle.clap.specs.declared.builder.action.ArgAction.TheVariants.{Append, SetTrue}
use Rattle.clap.specs.declared.builder.value_parser.ValueParser.TheVariants as vp

-- the least number of workers of a build (own)
abbrev pub least_workers : ℕ
least_workers = 1

-- the number of workers of a build whose words give none, as it would be written (own)
abbrev pub default_workers : Text
default_workers = codes "4"

-- `--workers N` (own)
abbrev pub workers_option : Rule
workers_option = record (new_rule (codes "workers")) {
  long = Some (codes "workers");
  value_names = 1;
  parser = Some (vp.Signed (pos least_workers) (pos most_workers));
  defaults = default_workers ∷ [];
}

-- an option that takes a text, as `--target T` (own)
abbrev pub text_option : Text → Rule
text_option name = record (new_rule name) { long = Some name; value_names = 1 }

-- a flag, as `--dot` (own)
abbrev pub flag : Text → Rule
flag name = record (new_rule name) { long = Some name; action = Some SetTrue }

-- `--build-arg N=V`, any number of times (own)
abbrev pub argument_option : Rule
argument_option = record (text_option (codes "build-arg")) { action = Some Append }

-- `--image NAME=FILE`, any number of times (own)
abbrev pub image_option : Rule
image_option = record (text_option (codes "image")) { action = Some Append }

-- the options that choose what the bundle of a folder has: `[--file F] [--target T] [--build-arg N=V].. [--image NAME=FILE]..` (own)
abbrev pub with_choice : App → App
with_choice app = with_rule (with_rule (with_rule (with_rule app (text_option (codes "file"))) (text_option (codes "target"))) argument_option) image_option

-- FILE or DIR, which may be left out (own)
abbrev pub bundle_argument : Rule
bundle_argument = record (new_rule (codes "FILE")) { value_names = 1 }

-- what a bundle is taken from: these options and `[FILE|DIR]` (own)
abbrev pub with_source : App → App
with_source app = with_rule (with_choice app) bundle_argument

-- `build [--workers N] [FILE|DIR]` with the options of a folder (own)
abbrev pub build_command : App
build_command = with_source (with_rule (new_app (codes "build")) workers_option)

-- `graph [--dot] [FILE|DIR]` with the options of a folder (own)
abbrev pub graph_command : App
graph_command = with_source (with_rule (new_app (codes "graph")) (flag (codes "dot")))

-- DIR, which has to be given (own)
abbrev pub folder_argument : Rule
folder_argument = record (new_rule (codes "DIR")) { required = true }

-- `pack DIR [--output FILE]` with the options of a folder (own)
abbrev pub pack_to : App
pack_to = with_rule (with_choice (with_rule (new_app (codes "pack")) folder_argument)) (text_option (codes "output"))

-- the same with `--apply-ignore` and `--names` (own)
abbrev pub pack_command : App
pack_command = with_rule (with_rule pack_to (flag (codes "apply-ignore"))) (flag (codes "names"))

-- `dfsolve COMMAND` with no command yet; one has to be given, the program has a version to tell, and its name isn't among the words (own)
abbrev pub bare_command : App
bare_command = on_top (λ top. record top { subcommand_required = true; has_version = true; no_binary_name = true }) (new_app (codes "dfsolve"))

-- `dfsolve COMMAND` of the commands that read a bundle (own)
abbrev pub bundle_command : App
bundle_command = with_subcommand (with_subcommand bare_command build_command.top) graph_command.top

-- PATH, once or more (own)
abbrev pub paths_argument : Rule
paths_argument = record (new_rule (codes "PATH")) { required = true; action = Some Append }

-- `why [--bundle FILE|DIR] PATH..` with the options of a folder (own)
abbrev pub why_command : App
why_command = with_rule (with_choice (with_rule (new_app (codes "why")) (text_option (codes "bundle")))) paths_argument

-- `dfsolve COMMAND` of the commands that have to do with no engine but the program's own (own)
abbrev pub asking_command : App
asking_command = with_subcommand (with_subcommand bundle_command pack_command.top) why_command.top

-- `llb [--platform P] [--network N] --unique TEXT` (own)
abbrev pub llb_options : App
llb_options = with_rule (with_rule (with_rule (new_app (codes "llb")) (text_option (codes "platform"))) (text_option (codes "network"))) (text_option (codes "unique"))

-- `llb [--platform P] [--network N] --unique TEXT [--merge M] [--follow]` (own)
abbrev pub llb_choices : App
llb_choices = with_rule (with_rule llb_options (text_option (codes "merge"))) (flag (codes "follow"))

-- `llb [--platform P] [--network N] --unique TEXT [--merge M] [--follow] [FILE|DIR]` with the options of a folder (own)
abbrev pub llb_command : App
llb_command = with_source llb_choices

-- `config [FILE|DIR]` with the options of a folder (own)
abbrev pub config_command : App
config_command = with_source (new_app (codes "config"))

-- `check [--json] [FILE|DIR]` with the options of a folder (own)
abbrev pub check_command : App
check_command = with_source (with_rule (new_app (codes "check")) (flag (codes "json")))

-- `explain [FILE|DIR]` with the options of a folder (own)
abbrev pub explain_command : App
explain_command = with_source (new_app (codes "explain"))

-- `dfsolve COMMAND` (own)
abbrev pub whole_command : App
whole_command = with_subcommand
    (with_subcommand (with_subcommand (with_subcommand asking_command llb_command.top) config_command.top) check_command.top)
    explain_command.top
