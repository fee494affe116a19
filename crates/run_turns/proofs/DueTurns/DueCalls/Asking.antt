-- The turn that is due may be taken.
use Rattle.std.proofs.Common.{◌≡◌, ◌≤◌, ◌<◌, ℕ, Bool, false, not, List, length, Option, Some, None, refl, sym, ap, ◌∙◌, subst, arith}
use Rattle.std.proofs.lemmas.Bool.{true≢false}
use Rattle.base_script.specs.declared.actor.Actor.{Actor}
use Rattle.base_script.specs.declared.actor.Side.{Side}
use Rattle.server_model.specs.declared.entry.Asked.{Asked}
use Rattle.server_model.specs.declared.entry.Asked.TheVariants.{Call, Poll, Command, Cut}
use Rattle.server_model.specs.declared.entry.Entry.{Entry}
use Rattle.server_model.specs.declared.request.Request.{Request}
use Rattle.server_model.specs.Conditions.{MayCall, MayPoll, MayLose, LosesWell}
use Rattle.server_model.specs.Entries.{is_client, is_command}
use Rattle.server_model.specs.States.{State}
use Rattle.plan_data.specs.PlanData.{PlanData}
use Rattle.tool_program.specs.JournalWords.Journals.{opens_if, state_at}
use Rattle.tool_program.specs.JournalWords.Sessions.{live_session, sessions_named}
use Rattle.tool_program.specs.Programs.{given}
use Rattle.proof_journals.specs.Machine.Laws.{MayLoseAny}
use Rattle.proof_journals.specs.Machine.Runnable.{IsRunnable}
use Rattle.proof_journals.specs.Machine.Standings.{MayTake, opened_for}
use Rattle.proof_journals.proofs.Machine.Whole.{given_called, given_polled, losses as losses_may}
use Rattle.proof_journals.specs.Run.Counts.{numbered, IsAfter, AreApart}
use Rattle.proof_journals.specs.Run.Kept.{IsKept}
use Rattle.proof_journals.specs.Run.Laws.{Living, NoneWaits}
use Rattle.proof_journals.proofs.Run.Living.{all_living}
use Rattle.proof_journals.proofs.Run.Waits.{all_waits}
use Rattle.run_turns.specs.declared.due_turns.migration_run.turn.Turn.{Turn}
use Rattle.run_turns.specs.DueTurns.MigrationRun.Requests.{MayAsk}
use Rattle.run_turns.specs.DueTurns.MigrationRun.Sessions.{IsSessionOf}
use Rattle.run_turns.specs.DueTurns.MigrationRun.ServerTurns.{session_for, opened_on, MayTurn}
use Rattle.run_turns.proofs.DueTurns.MigrationRun.Connecting.{opened_live}
use Rattle.run_turns.proofs.DueTurns.Coming.{Comes, Cuts, Gives, comes, given_uncut, Lives, cut_lives}
use Rattle.run_turns.proofs.DueTurns.Turning.{take_own as takes_own, stays_open as turn_stays_open, asked_may}
use Rattle.run_turns.specs.DueTurns.DueCalls.Laws.{DueTurnsMayBe}

module _ (plan : PlanData) (journal : List Entry) (server : State) (actor : Actor) (turn : Turn) (runs : IsRunnable plan) (kept : IsKept plan journal) (following : IsAfter (state_at plan journal) server) (made : server.made ≤ 4294967295) (room : live_session journal turn.actor ≡ None → server.made < 4294967295) (comes_so : Comes plan journal actor turn) (called : is_command turn.asked ≡ false) where
  abbrev now : State
  now = state_at plan journal

  abbrev live : Option ℕ
  live = live_session journal turn.actor

  abbrev n : ℕ
  n = session_for live server.made

  take_own : MayTake journal n live
  take_own = takes_own plan journal server turn kept.faithful kept.sessions following

  -- WHAT IS ASKED

  abbrev open_reported : State
  open_reported = opened_for plan journal turn.actor n

  -- the session that lives already
  stays_open : (own : ℕ) → live ≡ Some own → (n ≡ own) × (open_reported ≡ now)
  stays_open = turn_stays_open plan journal server turn kept.faithful kept.sessions following

  losses : MayLoseAny plan journal turn.actor
  losses = losses_may plan journal turn.actor runs kept.faithful kept.follows

  cut_may : (own : ℕ) → live ≡ Some own → MayAsk open_reported n None Cut
  cut_may own is =
      let at = stays_open own is in
      subst (λ (s : State). MayLose s n None Cut) (sym at.1) (subst (λ (k : ℕ). MayLose now k None Cut) (sym at.0) (losses.between own is))

  poll_may : (side : Option Side) → given plan journal turn.actor ≡ Some Poll → MayAsk open_reported n side Poll
  poll_may None gives =
      let reported = given_polled plan journal turn.actor runs kept.faithful kept.follows gives in
      let at = stays_open reported.0 reported.1 in
      subst (λ (s : State). MayPoll s n) (sym at.1) (subst (λ (k : ℕ). MayPoll now k) (sym at.0) reported.2)
  poll_may (Some side) gives =
      let reported = given_polled plan journal turn.actor runs kept.faithful kept.follows gives in
      let at = stays_open reported.0 reported.1 in
      subst (λ (s : State). MayLose s n (Some side) Poll) (sym at.1) (subst (λ (k : ℕ). MayLose now k (Some side) Poll) (sym at.0) (losses.polled reported.0 side gives reported.1))

  call_may : (side : Option Side) (request : Request) → given plan journal turn.actor ≡ Some (Call request) → MayAsk open_reported n side (Call request)
  call_may None request gives = given_called plan journal turn.actor request n runs kept.faithful kept.follows gives take_own
  call_may (Some side) request gives = losses.called request n side gives take_own

  given_may : (side : Option Side) (asked : Asked) → is_command asked ≡ false → given plan journal turn.actor ≡ Some asked → MayAsk open_reported n side asked
  given_may side (Call request) none gives = call_may side request gives
  given_may side Poll none gives = poll_may side gives
  given_may side (Command word) none gives = absurd (true≢false none)
  given_may side Cut none gives = absurd (true≢false (given_uncut plan journal turn.actor Cut gives))

  reported_may : MayAsk open_reported n turn.side turn.asked
  reported_may = by comes_so
    where
      by : Comes plan journal actor turn → MayAsk open_reported n turn.side turn.asked
      by (Cuts at none cut) =
          let lives : Lives journal turn.actor = cut_lives plan journal turn.actor at in
          subst (λ (side : Option Side). MayAsk open_reported n side turn.asked) (sym none) (subst (MayAsk open_reported n None) (sym cut) (cut_may lives.number lives.is))
      by (Gives none same gives side) = given_may turn.side turn.asked called gives

  pub turn_may : MayTurn server live turn
  turn_may = asked_may plan journal server turn kept.faithful kept.sessions following made room called reported_may

-- *Due turns may be taken*
pub turns_may_be : DueTurnsMayBe
turns_may_be plan journal server actor turn runs kept following made room is called = turn_may plan journal server actor turn runs kept following made room (comes plan journal actor turn is) called
