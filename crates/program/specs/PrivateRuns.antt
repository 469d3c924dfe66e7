-- What the function that refuses words does (own).
use Rattle.std.specs.Prelude.{◌≡◌, ◌≢◌, ◌⊎◌, ℕ}
use Rattle.clap.specs.declared.error.kind.ErrorKind.{ErrorKind}
use Rattle.clap.specs.declared.error.kind.ErrorKind.TheVariants.{OutOfMemory}
use Rattle.program.specs.Saying.{Stream}
use Rattle.program.specs.Runs.{WantsMemory, SaysKind}

-- words that clap refuses were refused, or there was no memory to say why
abbrev pub IsRefused : ErrorKind → Stream → Stream → Stream → Stream → ℕ → Type 0
IsRefused kind output new_output errors new_errors status =
    WantsMemory output new_output errors new_errors status
    ⊎ ((kind ≢ OutOfMemory) × SaysKind kind output new_output errors new_errors × (status ≡ 2))
