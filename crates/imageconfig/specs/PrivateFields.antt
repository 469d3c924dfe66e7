-- A configuration's fields in groups.
use Rattle.std.specs.Prelude.{Bool}
use Rattle.imageconfig.specs.declared.config.Config.{Config}
use Rattle.imageconfig.specs.declared.fields.Basics.{Basics}
use Rattle.imageconfig.specs.declared.fields.Lists.{Lists}
use Rattle.imageconfig.specs.declared.fields.Objects.{Objects}
use Rattle.imageconfig.specs.declared.fields.Texts.{Texts}

-- the groups of a configuration
abbrev pub basics_of : Config → Basics
basics_of c = record { architecture = c.architecture; os = c.os; shell = c.shell }

abbrev pub lists_of : Config → Lists
lists_of c = record { cmd = c.cmd; entrypoint = c.entrypoint; env = c.env }

abbrev pub objects_of : Config → Objects
objects_of c = record { exposed_ports = c.exposed_ports; labels = c.labels; volumes = c.volumes }

abbrev pub texts_of : Config → Texts
texts_of c = record { stop_signal = c.stop_signal; user = c.user; working_dir = c.working_dir }

-- the configuration of these groups
abbrev pub together : Basics → Texts → Objects → Lists → Bool → Config
together basics texts objects lists cmd_is_own = record {
  architecture = basics.architecture;
  os = basics.os;
  env = lists.env;
  user = texts.user;
  stop_signal = texts.stop_signal;
  working_dir = texts.working_dir;
  cmd = lists.cmd;
  cmd_is_own = cmd_is_own;
  entrypoint = lists.entrypoint;
  labels = objects.labels;
  exposed_ports = objects.exposed_ports;
  volumes = objects.volumes;
  shell = basics.shell;
}
