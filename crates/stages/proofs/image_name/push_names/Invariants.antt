use Rattle.std.proofs.Common.{◌≡◌, ◌++◌}
use Rattle.stages.specs.ImageNames.{on_line}
use Rattle.stages.proofs.image_name.push_names.Given as goal

abbrev pub invariant-loop-name : goal.invariant-loop-name
invariant-loop-name l = l.found ++ on_line l.line l.name-iterator.rest.items ≡ l.initial.found ++ on_line l.line l.initial.name-iterator.rest.items
