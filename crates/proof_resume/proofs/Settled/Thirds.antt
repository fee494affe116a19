-- Sessions of others than the copier and the applier have written no row of the new table.
use Rattle.std.proofs.Common.{◌≡◌, ◌<◌, ℕ, Bool, true, false, List, [], ◌∷◌, ◌++◌, Option, Some, None, refl, sym, ap, ◌∙◌, subst, arith}
use Rattle.std.specs.Prelude.{◌==◌}
use Rattle.std.proofs.lemmas.Bool.{true≢false}
use Rattle.std.proofs.lemmas.Bool.Decides.{nat_tests}
use Rattle.base_script.specs.declared.actor.Actor.{Actor}
use Rattle.base_script.specs.declared.actor.Actor.TheVariants.{Copy, Apply}
use Rattle.base_values.specs.declared.span.Span.{Span}
use Rattle.server_model.specs.declared.entry.Entry.{Entry}
use Rattle.server_model.specs.declared.request.Request.{Request}
use Rattle.server_model.specs.declared.session.Session.{Session}
use Rattle.server_model.specs.Entries.{is_command, same_actor}
use Rattle.server_model.specs.States.{State}
use Rattle.plan_data.specs.PlanData.{PlanData}
use Rattle.tool_program.specs.JournalWords.Journals.{opens, state_at}
use Rattle.tool_program.specs.JournalWords.Sessions.{live_session}
use Rattle.tool_program.specs.Tools.{Migrating, Work, moment}
use Rattle.proof_journals.specs.Scenes.{SessionHold}
use Rattle.proof_journals.specs.Holdings.{face_in, stored}
use Rattle.proof_journals.specs.Plans.{limits_of, scene_of}
use Rattle.proof_journals.specs.Turns.{IsSceneRun, about, reported_at}
use Rattle.proof_journals.specs.Run.Kept.{IsKept}
use Rattle.proof_journals.specs.Ghost.HeldKeys.{Clustered}
use Rattle.proof_journals.specs.Ghost.Invariant.{NotOf}
use Rattle.proof_journals.specs.Ghost.Rows.Moments.{Row}
use Rattle.proof_journals.specs.Ghost.Rows.Timelines.{Migration}
use Rattle.proof_journals.specs.Machine.Standings.{MayTake}
use Rattle.proof_journals.proofs.Actors.{Begins, Commands, GoesOn, Placed, SessionsKnown, live_cases, others_differ, placed, same_actor_itself}
use Rattle.proof_journals.proofs.Machine.Journals.{IsRun, IsTogether}
use Rattle.proof_journals.proofs.Machine.Marks.{Unmarked}
use Rattle.proof_journals.proofs.Machine.Seated.{IsServed, session_there}
use Rattle.server_model.proofs.LockedRows.Tests.{are_one}
use Rattle.proof_migration.specs.Migration.Away.{KeepsAway}
use Rattle.proof_migration.specs.Migration.Machines.{hold_at}
use Rattle.proof_migration.specs.Program.Turns.Goes.{Goes}
use Rattle.proof_migration.specs.Program.Turns.Laws.{IsMigrationOf}
use Rattle.proof_migration.specs.ToolPhase.Unaltered.{IsUnaltered}
use Rattle.proof_migration.proofs.Migration.Leaves.{Cases, turn_leaves}
use Rattle.proof_migration.proofs.Program.Turns.ActorStates.{SomeActorStates, new_holds, some_actor_states}
use Rattle.proof_migration.proofs.Program.Turns.Follows.{kept_front, kept_run, kept_scene, unmarked_now}
use Rattle.proof_migration.proofs.Program.Turns.Others.{IsThird, others_away}
use Rattle.proof_migration.proofs.ToolPhase.Unaltered.Away.{IsKnownAsked, all_asked, unaltered_front}
use Rattle.proof_resume.specs.Settled.NewTable.{IsSettled}
use Rattle.proof_migration.proofs.Migration.Others.{writes_away}
use Rattle.proof_resume.proofs.Settled.KeptAway.{turns_settle}

-- no live session of another has written a row of the new table
abbrev pub ThirdsAway : PlanData → Migration → List Entry → Type 0
ThirdsAway plan m journal = (actor : Actor) → IsThird actor → (n : ℕ) → live_session journal actor ≡ Some n → NotOf m.new.name (hold_at (state_at plan journal) n).writes

-- WHERE THE MIGRATION GOES

above_apart : (a b : ℕ) → b < a → (a == b) ≡ false
above_apart a b less = grind (arith, nat_tests)

sessions_apart : (journal : List Entry) (actor one : Actor) (k n : ℕ) → SessionsKnown journal → same_actor actor one ≡ false → live_session journal actor ≡ Some n → MayTake journal k (live_session journal one) → (k == n) ≡ false
sessions_apart journal actor one k n known differ lives may = by (live_session journal one) refl may where
  unlike : actor ≡ one → true ≡ false
  unlike same = sym (same_actor_itself one) ∙ ap (λ (a : Actor). same_actor a one) (sym same) ∙ differ

  by_test : (session : ℕ) → live_session journal one ≡ Some session → k ≡ session → (b : Bool) → (k == n) ≡ b → (k == n) ≡ false
  by_test session live same false is = is
  by_test session live same true is = absurd (true≢false (unlike (known.apart actor one n lives (live ∙ ap Some (sym same ∙ are_one k n is)))))

  by : (live : Option ℕ) → live_session journal one ≡ live → MayTake journal k live → (k == n) ≡ false
  by (Some session) live same = by_test session live same (k == n) refl
  by None live above = let within = (known.own actor n lives).1 in above_apart k n (omega (arith, within, above))

pub thirds_start : (plan : PlanData) (m : Migration) (at : Clustered m.schema) (rows : List Row) (journal : List Entry) (work : Work) → SessionsKnown journal → Goes plan m at rows journal work → ThirdsAway plan m journal
thirds_start plan m at rows journal work known goes actor third n lives =
    let some : SomeActorStates journal = some_actor_states journal known in
    (goes.stands some.copier some.applier some.actor_states).tool.away n (sessions_apart journal actor Copy some.copier n known third.0 lives some.actor_states.copy) (sessions_apart journal actor Apply some.applier n known third.1 lives some.actor_states.apply)

-- A TURN OF ANOTHER

module _ (plan : PlanData) (m : Migration) (rows : List Row) (of : IsMigrationOf plan m rows) (journal : List Entry) (entry : Entry) (kept : IsKept plan (journal ++ entry ∷ [])) (off : IsUnaltered plan (journal ++ entry ∷ [])) (work : Work) (tool_phase : (moment plan journal).tool.tool_phase ≡ Migrating work)
    (was : ThirdsAway plan m journal) where
  abbrev more : List Entry
  more = journal ++ entry ∷ []

  abbrev now : State
  now = state_at plan journal

  abbrev then : State
  then = state_at plan more

  before : IsKept plan journal
  before = kept_front plan journal (entry ∷ []) kept

  known : IsKnownAsked plan journal
  known = all_asked plan journal of.runs before.faithful before.follows

  run : IsRun plan journal entry
  run = kept_run plan journal entry kept

  together : IsTogether plan journal
  together = known.marking.tabled.all.tool

  served : IsServed plan journal entry
  served = record { answered = run.answered; seated = record { session = run.followed.session } }

  at : Placed journal entry
  at = placed journal entry served.seated

  scene_run : IsSceneRun (limits_of plan) (scene_of plan more) more
  scene_run = kept_scene plan m rows of more kept off

  unmarked : Unmarked plan journal work
  unmarked = unmarked_now plan journal work known (unaltered_front plan journal (entry ∷ []) off) tool_phase

  module _ (third : IsThird entry.actor) (called : is_command entry.asked ≡ false) where
    own_away : NotOf m.new.name (hold_at now entry.session).writes
    own_away = by at where
      by : Placed journal entry → NotOf m.new.name (hold_at now entry.session).writes
      by (Commands command zero) = absurd (true≢false (sym command ∙ called))
      by (GoesOn calls live) = was entry.actor third entry.session live
      by (Begins calls uncut live above) = subst (λ (h : SessionHold). NotOf m.new.name h.writes) (sym (new_holds plan journal entry.session together.known above)) tt

    away : (request : Request) → about (opens entry now) entry.session entry.asked ≡ Some request → KeepsAway m (reported_at entry.side entry.answer entry.missed) request
    away request is = others_away plan of.serial m of.of of.runs.fitting journal entry known run off work tool_phase unmarked called third request is

    -- it leaves the new table settled
    pub third_settles : (position : ℕ) (left : Option Span) (made : List Row) → IsSettled m rows (stored now) position left made → IsSettled m rows (stored then) position left made
    third_settles position left made settled = turns_settle m rows of.planned (limits_of plan) (scene_of plan more) journal entry scene_run run.answered.sides own_away away position left made settled

    own_then : NotOf m.new.name (hold_at then entry.session).writes
    own_then = turn_leaves m (limits_of plan) (scene_of plan more) journal entry scene_run run.answered.sides own_away (λ request is. writes_away m (reported_at entry.side entry.answer entry.missed) request (away request is)) Goal cases where
      Goal : Type 0
      Goal = NotOf m.new.name (hold_at then entry.session).writes

      cases : Cases m (limits_of plan) (scene_of plan more) journal entry scene_run Goal
      cases =
          record {
            holds = λ held none same besides. subst (λ (h : SessionHold). NotOf m.new.name h.writes) (sym besides.here) none;
            commits = λ middle held besides given none tables log last. subst (λ (h : SessionHold). NotOf m.new.name h.writes) (sym last.here) tt;
            moves = λ request tables held asked moved made_of log none besides. subst (λ (h : SessionHold). NotOf m.new.name h.writes) (sym besides.here) none;
          }

  -- *Still away*, after whatever turn
  pub thirds_more : ThirdsAway plan m more
  thirds_more actor third n lives = live_cases journal entry together.known.sessions at actor n (NotOf m.new.name (hold_at then n).writes) lives own there where
    own : actor ≡ entry.actor → is_command entry.asked ≡ false → n ≡ entry.session → NotOf m.new.name (hold_at then n).writes
    own same called is = subst (λ (k : ℕ). NotOf m.new.name (hold_at then k).writes) (sym is) (own_then (subst IsThird same third) called)

    there : same_actor entry.actor actor ≡ false → live_session journal actor ≡ Some n → NotOf m.new.name (hold_at then n).writes
    there differ old =
        subst (λ (o : Option Session). NotOf m.new.name (face_in o).hold.writes) (sym (session_there plan journal entry together.known served n (others_differ journal entry together.known.sessions at actor n differ old))) (was actor third n old)
