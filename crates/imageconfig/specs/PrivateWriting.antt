-- The members of a configuration in JSON, put one after another onto those that are there.
use Rattle.std.specs.Prelude.{[], codes}
use Rattle.serde_json.specs.Data.{string, Members, put}
use Rattle.strict.specs.Written.{list_data}
use Rattle.imageconfig.specs.declared.config.Config.{Config}
use Rattle.imageconfig.specs.Writing.{put_first, put_middle, put_last, settings_data, rootfs_data}

-- those of `config`
abbrev pub put_settings : Config → Members → Members
put_settings c members = put_first c (put_middle c (put_last c members))

-- those of `rootfs`
abbrev pub put_rootfs : Members → Members
put_rootfs members = put (codes "type") (string (codes "layers")) (put (codes "diff_ids") (list_data string []) members)

-- those at the top
abbrev pub put_config : Config → Members → Members
put_config c members =
    put (codes "rootfs") rootfs_data (put (codes "os") (string c.os) (put (codes "config") (settings_data c) (put (codes "architecture") (string c.architecture) members)))
