use Rattle.std.proofs.Common.{◌≡◌, ◌++◌, drop, map, string_bytes}
use Rattle.std.specs.List.{flat_map}
use Rattle.lines.specs.Escape.{byte_of}
use Rattle.lines.specs.File.{part_of}
use Rattle.meant.proofs.own.joined.Given as goal

-- the text so far and what the lines add that are left are all
abbrev pub invariant-loop-line : goal.invariant-loop-line
invariant-loop-line l =
    string_bytes l.text ++ flat_map (part_of (byte_of l.escape)) (map (λ line. line.now) (drop l.line-index l.own)) ≡ flat_map (part_of (byte_of l.escape)) (map (λ line. line.now) l.own)
