-- What is asked for beside a folder, of the options (own).
use Rattle.std.specs.Prelude.{is_some, map, option_map}
use Rattle.packing.specs.Packed.{Asked}
use Rattle.packing.specs.declared.asked.PackOptions.{PackOptions}

abbrev pub asked_of : PackOptions → Asked
asked_of options = record {
  has_file = is_some options.file;
  images = map (λ image. image.0) options.images.now;
  target = option_map (λ target. target.now) options.target;
  args = options.args.now;
  apply_ignore = options.apply_ignore;
  names = options.names;
  pass = options.pass;
}
