-- A command changes nothing on the server.
use Rattle.std.proofs.Common.{◌≡◌, ◌+◌, ℕ, Bool, true, not, List, [], ◌∷◌, ◌++◌, Option, Some, None, refl, sym, ◌∙◌}
use Rattle.std.proofs.lemmas.Bool.{false≢true}
use Rattle.base_script.specs.declared.actor.Actor.TheVariants.{Lock, Ren}
use Rattle.base_script.specs.declared.actor.Side.{Side}
use Rattle.server_model.specs.Entries.{is_client, is_command}
use Rattle.server_model.specs.PlainServer.{leaves, recounted, counters_left}
use Rattle.server_model.specs.Counting.{counted}
use Rattle.server_model.specs.States.{State}
use Rattle.server_model.specs.declared.entry.Asked.{Asked}
use Rattle.server_model.specs.declared.entry.Asked.TheVariants.{Call, Poll, Command, Cut}
use Rattle.server_model.specs.declared.entry.Entry.{Entry}
use Rattle.plan_data.specs.PlanData.{PlanData}
use Rattle.tool_program.specs.JournalWords.Journals.{opens_if, state_at}
use Rattle.tool_program.specs.Tools.{ToolPhase, Migrating, SettingUp, Work, moment}
use Rattle.proof_journals.specs.Run.Kept.{IsKept}
use Rattle.proof_journals.proofs.Run.Living.{never_lost}
use Rattle.proof_journals.proofs.Machine.Journals.{IsRun, IsTogether, all_together}
use Rattle.proof_journals.proofs.Machine.Seated.{state_more}
use Rattle.proof_journals.specs.Sentry.TurnResults.{AskedTurn, ToolPhaseTurn, IsTurned, last_session}
use Rattle.proof_migration.proofs.Program.Turns.Follows.{kept_front, kept_run}

stays : (side : Option Side) (asked : Asked) (tool : Bool) (session : ℕ) (state : State) → side ≡ None → is_command asked ≡ true
    → recounted (counters_left side (opens_if (is_command asked) tool session state) session asked) (leaves side (opens_if (is_command asked) tool session state) session asked) ≡ state
unfolding opens_if counted
stays None (Command word) tool session state none is = refl
stays None (Call request) tool session state none is = absurd (false≢true is)
stays None Poll tool session state none is = absurd (false≢true is)
stays None Cut tool session state none is = absurd (false≢true is)
stays (Some side) asked tool session state none is = absurd cc

module _ (plan : PlanData) (journal : List Entry) (entry : Entry) (is : is_command entry.asked ≡ true) (kept : IsKept plan (journal ++ entry ∷ [])) where
  abbrev more : List Entry
  more = journal ++ entry ∷ []

  before : IsKept plan journal
  before = kept_front plan journal (entry ∷ []) kept

  run : IsRun plan journal entry
  run = kept_run plan journal entry kept

  together : IsTogether plan journal
  together = all_together plan journal before.faithful before.follows

  then_together : IsTogether plan more
  then_together = all_together plan more kept.faithful kept.follows

  same : (moment plan more).server ≡ (moment plan journal).server
  same =
      then_together.server ∙ state_more plan journal entry ∙ stays entry.side entry.asked (not (is_client entry.actor)) entry.session (state_at plan journal) (run.answered.sides (never_lost entry.asked is)) is
      ∙ sym together.server

  asks : (work : Work) (turns : ℕ) (asked : Asked) → is_command asked ≡ true → AskedTurn plan (moment plan journal).server (moment plan more).server (last_session journal Lock) (last_session journal Ren) work turns entry asked
  asks work turns (Command word) is = same
  asks work turns (Call request) is = absurd (false≢true is)
  asks work turns Poll is = absurd (false≢true is)
  asks work turns Cut is = absurd (false≢true is)

  turned : IsTurned plan journal entry
  turned = record { turn = by (moment plan journal).tool.tool_phase } where
    by : (tool_phase : ToolPhase) → ToolPhaseTurn plan (moment plan journal).server (moment plan more).server (last_session journal Lock) (last_session journal Ren) tool_phase ((moment plan journal).tool.turns + 1) entry
    by (SettingUp setup tries) = tt
    by (Migrating work) = asks work ((moment plan journal).tool.turns + 1) entry.asked is

-- *A command is turned*
pub command_turned : (plan : PlanData) (journal : List Entry) (entry : Entry) → is_command entry.asked ≡ true → IsKept plan (journal ++ entry ∷ []) → IsTurned plan journal entry
command_turned plan journal entry is kept = turned plan journal entry is kept
