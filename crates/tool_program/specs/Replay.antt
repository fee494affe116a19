-- What holds of every replay.
use Rattle.std.specs.Prelude.{◌≡◌, ◌⊎◌, List, ◌++◌, length}
use Rattle.server_model.specs.declared.entry.Entry.{Entry}
use Rattle.plan_data.specs.PlanData.{PlanData}
use Rattle.tool_program.specs.Orders.{IsReplay}

-- *Replays agree*: of two replays of a plan one is a prefix of the other.
abbrev pub ReplaysAgree : Type 0
ReplaysAgree = (plan : PlanData) (one two : List Entry) → IsReplay plan one → IsReplay plan two → (rest : List Entry) × ((two ≡ one ++ rest) ⊎ (one ≡ two ++ rest))

-- *There is one replay* of a plan with this many turns.
abbrev pub OneReplay : Type 0
OneReplay = (plan : PlanData) (one two : List Entry) → IsReplay plan one → IsReplay plan two → length one ≡ length two → one ≡ two
