-- What a reader or a writer with a count shows (own).
use Rattle.std.specs.Prelude.{ℕ}
use Rattle.counted.specs.declared.counting.Counted.{Counted}

-- the reader or writer that is counted (own)
abbrev pub inner_of : {T : Type 0} → Counted T → T
inner_of counted = counted.inner

-- how many of its calls failed (own)
abbrev pub failures_of : {T : Type 0} → Counted T → ℕ
failures_of counted = counted.failures
