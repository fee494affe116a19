-- *Heartbeat rows*: the rows of the changelog by which the tool tells how far its reading of the log lags.
-- (gh-ost, `subsecond-lag.md`: heartbeats in the changelog; their columns are this project's rule.)
use Rattle.std.specs.Prelude.{codes, ℕ, ◌+◌, pos, List, [], ◌∷◌}
use Rattle.std.specs.Fmt.{signed_decimal}
use Rattle.base_values.specs.declared.value.Value.{Value}
use Rattle.base_values.specs.declared.value.Value.TheVariants.{Num, Text}

-- the heartbeat row of a number: a million more, `heartbeat`, and the number as text
unfoldable pub heartbeat_row : ℕ → List Value
heartbeat_row number = Num (pos (1000000 + number)) ∷ Text (codes "heartbeat") ∷ Text (signed_decimal (pos number)) ∷ []
