-- What a source gave and a sink took in one call.
use Rattle.std.specs.Prelude.{◌≡◌, ℕ, ◌<◌, ◌-◌, ◌^◌, ◌⊎◌}
use Rattle.base_edges.specs.declared.source.Took.{Took}
use Rattle.base_edges.specs.declared.source.Took.TheVariants as took
use Rattle.base_edges.specs.declared.sink.Gave.{Gave}
use Rattle.base_edges.specs.declared.sink.Gave.TheVariants as gave

-- Where the source gave bytes, this holds of how many. This project's rule.
abbrev pub IfTaken : Took → (ℕ → Type 0) → Type 0
IfTaken (took.Some n) P = P n
IfTaken took.End P = Unit {0}
IfTaken took.Failed P = Unit {0}

-- Where the source has ended, this holds. This project's rule.
abbrev pub OnEnd : Took → Type 0 → Type 0
OnEnd (took.Some n) P = Unit {0}
OnEnd took.End P = P
OnEnd took.Failed P = Unit {0}

-- Where the source failed, this holds. This project's rule.
abbrev pub OnSourceFault : Took → Type 0 → Type 0
OnSourceFault (took.Some n) P = Unit {0}
OnSourceFault took.End P = Unit {0}
OnSourceFault took.Failed P = P

-- Where the sink took bytes, this holds of how many. This project's rule.
abbrev pub IfGiven : Gave → (ℕ → Type 0) → Type 0
IfGiven (gave.Some n) P = P n
IfGiven gave.Failed P = Unit {0}

-- Where the sink failed, this holds. This project's rule.
abbrev pub OnSinkFault : Gave → Type 0 → Type 0
OnSinkFault (gave.Some n) P = Unit {0}
OnSinkFault gave.Failed P = P

-- A fault count increased: it is greater, or stays at its last value, where it can't increase. This project's rule.
abbrev pub Rose : ℕ → ℕ → Type 0
Rose old new = (old < new) ⊎ (new ≡ 2 ^ 64 - 1)
