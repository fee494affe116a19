-- Reasons to refuse, of which the first that holds counts.
use Rattle.std.specs.Prelude.{Bool, if◌then◌else◌, List, [], ◌∷◌, Option, Some, None, Result, Err}

-- reasons to refuse and the refusal of each, in order
abbrev pub Reasons : Type 0 → Type 0
Reasons C = List (Bool × C)

-- the refusal of the first reason that holds
abbrev pub first_reason : {C : Type 0} → Reasons C → Option C
first_reason [] = None
first_reason (reason ∷ reasons) = if reason.0 then Some reason.1 else first_reason reasons

-- refused for that reason, where one holds
abbrev pub unless : {A C : Type 0} → Option C → Result A C → Result A C
unless (Some code) other = Err code
unless None other = other
