-- The number and the name of each refusal of a plan's keys (this project's).
use Rattle.std.specs.Prelude.{codes, ℕ, List, Option, Some, None, Result, Ok, Err}
use Rattle.plan_keys.specs.declared.fault.KeyRefusal.{KeyRefusal}
use Rattle.plan_keys.specs.declared.fault.KeyRefusal.TheVariants.{UnknownKey, MissingKey, WrongType, OutOfRange, TooMany}

-- a refusal's number and its name
abbrev pub key_code : KeyRefusal → ℕ × List ℕ
key_code UnknownKey = (51, codes "unknown_key")
key_code MissingKey = (52, codes "missing_key")
key_code WrongType = (53, codes "wrong_type")
key_code OutOfRange = (54, codes "out_of_range")
key_code TooMany = (55, codes "too_many")

-- what was found, or that it has the wrong type
abbrev pub typed : {A : Type 0} → Option A → Result A KeyRefusal
typed (Some found) = Ok found
typed None = Err WrongType
