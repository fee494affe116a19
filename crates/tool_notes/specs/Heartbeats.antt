-- *Number of a heartbeat row*.
use Rattle.std.specs.Prelude.{codes, ℕ, ◌-◌, pos, nat_lt, nat_le, ◌&&◌, if◌then◌else◌, List, [], ◌∷◌, Option, Some, None}
use Rattle.std.specs.Fmt.{signed_decimal}
use Rattle.std.specs.Str.{bytes_eq}
use Rattle.base_values.specs.declared.value.Value.{Value}
use Rattle.base_values.specs.declared.value.Value.TheVariants.{Num, Text}

-- the number whose heartbeat row this is; heartbeats count from 1 to 1,000
abbrev pub heartbeat_of : List Value → Option ℕ
heartbeat_of (Num (pos id) ∷ (Text hint ∷ (Text value ∷ []))) =
    if nat_lt 1000000 id && nat_le id 1001000 && bytes_eq hint (codes "heartbeat") && bytes_eq value (signed_decimal (pos (id - 1000000))) then Some (id - 1000000) else None
heartbeat_of row = None
