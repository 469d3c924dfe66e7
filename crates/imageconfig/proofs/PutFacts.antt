-- Members put one after another.
use Rattle.std.proofs.Common.{◌≡◌, ℕ, Bool, List, ap, ◌∙◌}
use Rattle.serde_json.specs.Data.{Data, Members}
use Rattle.imageconfig.specs.Writing.{put_if}

pub put-step : (k : List ℕ) (b s : Bool) (d x : Data) (old want new : Members) → b ≡ s → d ≡ x → old ≡ want → new ≡ put_if b k d old → new ≡ put_if s k x want
put-step k b s d x old want new h i j e = e ∙ ap (λ t. put_if t k d old) h ∙ ap (λ y. put_if s k y old) i ∙ ap (put_if s k x) j
