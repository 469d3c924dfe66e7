-- What is known of a task that words spell, and of words that are refused.
use Rattle.std.proofs.Common.{◌≡◌, ◌⊎◌, inl, inr, ◌<◌, ◌≤◌, ℕ, List, Option, Some, None, Ok, arith, subst}
use Rattle.clap.specs.Words.{IsAmong, Row, Text}
use Rattle.clap.specs.declared.error.kind.ErrorKind.{ErrorKind}
use Rattle.clap.specs.declared.error.kind.ErrorKind.TheVariants.{OutOfMemory}
use Rattle.command.specs.Tasks.{IsTaskOf, faults_of}
use Rattle.command.specs.declared.task.BuildOptions.{BuildOptions}
use Rattle.command.specs.declared.task.Task.{Task}
use Rattle.command.specs.declared.task.Task.TheVariants.{Build}
use Rattle.plain.specs.Limits.{most_workers}
use Rattle.plans.specs.Value.{Out}
use Rattle.program.specs.PrivateRuns.{IsRefused}
use Rattle.program.specs.Runs.{IsUnread, Runs, Streams, output_of}

-- a build has a number of workers that a build may have
of_build : (found : Option (Text × List Row)) (options : BuildOptions) → IsTaskOf found (Build options) → (0 < options.workers) × (options.workers ≤ most_workers)
of_build None options is = absurd is
of_build (Some found) options is = let least = is.1.workers.least in (omega (arith, least), is.1.workers.most)

pub workers_within : (found : Option (Text × List Row)) (task : Task) (options : BuildOptions) → IsTaskOf found task → task ≡ Build options
    → (0 < options.workers) × (options.workers ≤ most_workers)
workers_within found task options is build = of_build found options (subst (λ t. IsTaskOf found t) build is)

-- words in which a fault was found, or for which there was no memory, were refused
pub refused : (out : Out) (words : List Text) (old new : Streams) (kind : ErrorKind) (status : ℕ) → (kind ≡ OutOfMemory) ⊎ IsAmong kind (faults_of words)
    → IsUnread old new → IsRefused kind (output_of old) (output_of new) old.errors new.errors status → Runs out (Ok words) old new status
refused out words old new kind status has unread (inl wants) = inl (unread, wants)
refused out words old new kind status (inl memory) unread (inr said) = absurd (said.0 memory)
refused out words old new kind status (inr among) unread (inr said) =
    inr (inl (record { kind = kind; is = among; unread = unread; says = said.1; ends = said.2 }))
