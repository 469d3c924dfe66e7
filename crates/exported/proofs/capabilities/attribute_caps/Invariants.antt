use Rattle.std.proofs.Common.{◌≡◌, drop}
use Rattle.exported.specs.Capabilities.{attribute_caps}
use Rattle.exported.proofs.capabilities.attribute_caps.Given as goal

-- the capabilities so far, with those of what is left
abbrev pub invariant-loop-attribute : goal.invariant-loop-attribute
invariant-loop-attribute l = attribute_caps (drop l.attribute-index l.attributes) l.caps.entries ≡ attribute_caps l.attributes l.fn.caps.entries
