-- A refusal as JSON.
use Rattle.std.proofs.Common.{◌≡◌, ℕ, false, List, Option, Some, None, refl}
use Rattle.serde_json.specs.Written.{has_float}
use Rattle.sentences.specs.Json.{data_with, refusal_data, pointed_data, place_data}
use Rattle.sentences.specs.Showing.{Pointer}
use Rattle.sentences.specs.declared.message.Message.{Message}

-- it holds no float
pub refusal_is_plain : (pointed : Option Pointer) (code file : List ℕ) (number : ℕ) (message : Message) (text : List ℕ)
    → has_float (data_with pointed code file number message text) ≡ false
unfolding refusal_data pointed_data
refusal_is_plain None code file number message text = refl
refusal_is_plain (Some pointed) code file number message text = refl

-- nor does that of a place
pub place_is_plain : (code file message place helps : List ℕ) → has_float (place_data code file message place helps) ≡ false
unfolding place_data
place_is_plain code file message place helps = refl
