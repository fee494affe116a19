-- An audit after some turns. (This project's rule.)
use Rattle.std.specs.Prelude.{◌≡◌, ◌<◌, ◌-◌, ◌^◌, ℕ, Bool, true, false, not, nat_lt, ◌&&◌, ◌||◌, List, [], ◌∷◌, ◌++◌, length}
use Rattle.server_storage.specs.Storage.{committed}
use Rattle.plan_data.specs.PlanData.{PlanData}
use Rattle.server_model.specs.Along.{gathered}
use Rattle.run_audit.specs.declared.line.TraceLine.{TraceLine}
use Rattle.run_audit.specs.declared.trace.Trace.{Trace}
use Rattle.run_audit.specs.Audits.{is_unfinished, judged, judged_in, misdraws, straight_lines}
use Rattle.run_audit.specs.Rules.{all_are_over, breaks, has_altered, turn_if}
use Rattle.run_auditor.specs.declared.auditing.Auditing.{Auditing}
use Rattle.run_auditor.specs.Judging.{AltersTables, IsJudging, IsPlanned, IsSound}
use Rattle.run_auditor.specs.AllClients.{AreFollowed, is_of_plan}
use Rattle.run_judge.specs.TurnsSeen.{IsSeen}

-- the line breaks a rule of turns, or has a number that no statement drew
abbrev pub is_noted : PlanData → List TraceLine → TraceLine → Bool
is_noted plan before line = breaks plan before line || misdraws plan before line

-- *Noted turns*: those in which a line breaks a rule of turns, or has a number that no statement drew
unfoldable pub noted_turns : PlanData → List TraceLine → List ℕ
noted_turns plan lines = gathered (λ before line. turn_if (is_noted plan before line) before) [] lines

-- the run ended, within the turns that the plan allows, and left a script that wasn't gone through
abbrev pub is_unended : PlanData → Trace → Bool
is_unended plan trace = not (is_unfinished trace.verdict) && not (nat_lt plan.options.turn_limit (length trace.lines)) && not (all_are_over plan trace.lines 1 plan.clients)

-- what a turn asks of the audit before it
pub record IsReady (plan : PlanData) (line : TraceLine) (auditing : Auditing) : Type 0 where
  pub known : is_of_plan plan line.actor ≡ true
  pub count : length auditing.clients.items ≡ length plan.clients
  pub few : auditing.seen.turns < 2 ^ 64 - 1
  pub sound : IsSound auditing.judge
  pub planned : auditing.seen.has_altered ≡ false → IsPlanned plan (committed auditing.judge.storage)
  pub alters : AltersTables plan

-- *Auditing*: what is kept is what these turns say, none of which is astray
pub record IsAuditing (plan : PlanData) (before : List TraceLine) (auditing : Auditing) : Type 0 where
  pub seen : IsSeen before auditing.seen
  pub clients : AreFollowed plan before auditing.clients.items
  pub judge : IsJudging plan (judged plan before) auditing.judge
  pub sound : IsSound auditing.judge
  pub planned : has_altered before ≡ false → IsPlanned plan (committed auditing.judge.storage)
  pub straight : straight_lines plan [] before ≡ before

-- what ended with a turn was judged
pub record HasJudged (plan : PlanData) (before : List TraceLine) (line : TraceLine) (auditing : Auditing) : Type 0 where
  pub clients : AreFollowed plan (before ++ line ∷ []) auditing.clients.items
  pub judge : IsJudging plan (judged plan before ++ judged_in plan before line line.actor) auditing.judge
  pub sound : IsSound auditing.judge
  pub planned : has_altered (before ++ line ∷ []) ≡ false → IsPlanned plan (committed auditing.judge.storage)
