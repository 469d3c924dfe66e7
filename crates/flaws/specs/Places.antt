-- How it is written where a bundle is wrong (own): a place in the JSON as jq takes it, as in `.images["node:20"].tree[3].mode`; and else in a few words.
use Rattle.std.specs.Prelude.{◌++◌, ℕ, List, [], ◌∷◌, codes, decimal, if◌then◌else◌}
use Rattle.std.specs.List.{flat_map}
use Rattle.ascii.specs.Names.{is_name}
use Rattle.serde_json.specs.Data.{string}
use Rattle.serde_json.specs.Written.{compact_text}
use Rattle.flaws.specs.Looks.{Way}
use Rattle.flaws.specs.declared.flaw.Step.{Step}
use Rattle.flaws.specs.declared.flaw.Step.TheVariants.{Key, Item}
use Rattle.flaws.specs.declared.flaw.Flaw.{Flaw}
use Rattle.flaws.specs.declared.flaw.Flaw.TheVariants.{TooLong, NoText, NoJson, At}

-- one step of a way: a key that is a name stands after a point, and any other as JSON in brackets
abbrev pub step_text : Step → List ℕ
step_text (Key key) = if is_name key then codes "." ++ key else codes "[" ++ (compact_text (string key) ++ codes "]")
step_text (Item place) = codes "[" ++ (decimal place ++ codes "]")

-- what stands before a way that begins with this step: a way begins with a point
abbrev pub way_head : Way → List ℕ
way_head [] = codes "."
way_head (Key key ∷ way) = if is_name key then [] else codes "."
way_head (Item place ∷ way) = codes "."

-- a way, and the whole value as a point
abbrev pub way_text : Way → List ℕ
way_text way = way_head way ++ flat_map step_text way

-- where a bundle is wrong
abbrev pub place_text : Flaw → List ℕ
place_text TooLong = codes "too long"
place_text (NoText after) = codes "not UTF-8 after " ++ (decimal after ++ codes " bytes")
place_text NoJson = codes "not JSON"
place_text (At way) = way_text way
