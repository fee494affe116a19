-- No hint row is logged of an attempt before the attempt writes it: the premise of the law of that step.
use Rattle.std.proofs.Common.{◌≡◌, ◌≢◌, ℕ, zero, suc, ◌≤◌, ◌<◌, Bool, true, false, cond, List, [], ◌∷◌, take, refl, arith}
use Rattle.std.specs.List.{AllByRecursion}
use Rattle.std.specs.Str.{bytes_eq}
use Rattle.base_values.specs.declared.event.RowEvent.{RowEvent}
use Rattle.base_values.specs.ToolNames.{log_name}
use Rattle.tool_changelog.specs.Hints.{hint_in, last_hint}

-- the event is no hint row of an attempt above this one
abbrev pub IsBelow : List ℕ → ℕ → RowEvent → Type 0
IsBelow t most event = bytes_eq event.table (log_name t) ≡ true → (last : ℕ) → last ≤ most → hint_in last event.change ≤ most

-- all logged hint rows are of attempts up to this one
abbrev pub HintsBelow : List ℕ → ℕ → List RowEvent → Type 0
HintsBelow t most log = AllByRecursion (IsBelow t most) log

last_below : (t : List ℕ) (most last : ℕ) (log : List RowEvent) → last ≤ most → HintsBelow t most log → last_hint t last log ≤ most
last_below t most last [] le below = le
last_below t most last (event ∷ log) le below = last_below t most (cond (bytes_eq event.table (log_name t)) (hint_in last event.change) last) log (by (bytes_eq event.table (log_name t)) refl) below.1
  where
    by : (b : Bool) → bytes_eq event.table (log_name t) ≡ b → cond b (hint_in last event.change) last ≤ most
    by true is = below.0 is last le
    by false is = le

below_take : (t : List ℕ) (most count : ℕ) (log : List RowEvent) → HintsBelow t most log → HintsBelow t most (take count log)
below_take t most zero log below = tt
below_take t most (suc count) [] below = tt
below_take t most (suc count) (event ∷ log) below = (below.0, below_take t most count log below.1)

-- so an attempt above them all has no hint row yet
pub none_earlier : (t : List ℕ) (most attempt : ℕ) (log : List RowEvent) → most < attempt → HintsBelow t most log → (count : ℕ) → last_hint t 0 (take count log) ≢ attempt
none_earlier t most attempt log less below count is =
    let le : last_hint t 0 (take count log) ≤ most = last_below t most 0 (take count log) (omega arith) (below_take t most count log below) in
    absurd (omega (arith, le, is, less))
