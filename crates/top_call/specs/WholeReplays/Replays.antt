-- *Sound replay* of a plan: what holds of the journal that it leaves. (This project's rule.)
use Rattle.std.specs.Prelude.{◌≡◌, List, length}
use Rattle.server_model.specs.declared.entry.Entry.{Entry}
use Rattle.plan_data.specs.PlanData.{PlanData}
use Rattle.tool_program.specs.Orders.{IsReplay}
use Rattle.proof_feeds.specs.Laws.{StaysBehind}
use Rattle.top_call.specs.WholeReplays.SoundRuns.{IsSoundRun}

-- *Sound replay*: a sound run whose turns go in a replay's order. It stays behind its replica, where the plan has one. No other replay
-- of the plan has as many turns. That the run is over is said apart.
pub record IsSoundReplay (plan : PlanData) (journal : List Entry) : Type 0 where
  pub sound : IsSoundRun plan journal
  pub replay : IsReplay plan journal
  pub behind : StaysBehind plan journal
  pub only : (other : List Entry) → IsReplay plan other → length other ≡ length journal → other ≡ journal
