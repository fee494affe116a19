-- A client's turn is such a turn as the sentry relation asks: another session's, which takes no name exclusively. So is one of
-- the operator's, which has no session of its own.
use Rattle.std.proofs.Common.{◌≡◌, ◌≢◌, ◌+◌, ℕ, Bool, true, false, List, [], ◌∷◌, ◌++◌, Option, Some, None, refl, sym, ap, ◌∙◌, subst}
use Rattle.std.proofs.lemmas.Bool.{true≢false}
use Rattle.base_script.specs.declared.actor.Actor.{Actor}
use Rattle.base_script.specs.declared.actor.Actor.TheVariants.{Op, Insp, Copy, Apply, Lock, Ren, Client}
use Rattle.server_model.specs.Entries.{is_client, is_command, same_actor}
use Rattle.server_model.specs.States.{State}
use Rattle.server_model.specs.declared.answer.Answer.{Answer}
use Rattle.server_model.specs.declared.entry.Asked.{Asked}
use Rattle.server_model.specs.declared.entry.Asked.TheVariants.{Call, Poll, Command, Cut}
use Rattle.server_model.specs.declared.entry.Entry.{Entry}
use Rattle.server_model.specs.declared.request.Request.{Request}
use Rattle.server_model.specs.declared.request.Request.TheVariants as requests
use Rattle.plan_data.specs.PlanData.{PlanData}
use Rattle.tool_program.specs.JournalWords.Journals.{opens, state_at}
use Rattle.tool_program.specs.Programs.{IsGiven, given}
use Rattle.tool_program.specs.Tools.{ToolPhase, Migrating, SettingUp, Work, moment}
use Rattle.proof_journals.specs.Plans.{IsSerialPlan, limits_of, scene_of}
use Rattle.proof_journals.specs.Turns.{ClientAsks, about}
use Rattle.proof_journals.proofs.PlanJournals.{plan_runs_are_scene_runs}
use Rattle.proof_journals.specs.ServerTurns.Others.{EntriesAreTurns, TurnOf, asks_names, takes_names}
use Rattle.proof_journals.specs.Run.Kept.{IsKept}
use Rattle.proof_journals.specs.Machine.Runnable.{IsRunnable}
use Rattle.proof_journals.proofs.Machine.Journals.{IsRun, IsTogether, client_commands}
use Rattle.proof_journals.specs.Sentry.TurnResults.{AskedTurn, ToolPhaseTurn, IsTurned, OtherTurn, WorkTurn, last_session, reported}
use Rattle.proof_journals.proofs.Sentry.Calling.{other_says}
use Rattle.proof_migration.specs.ToolPhase.Unaltered.{IsUnaltered}
use Rattle.proof_migration.proofs.ToolPhase.Unaltered.Asking.{AskedAs}
use Rattle.proof_migration.proofs.ToolPhase.Unaltered.Away.{IsKnownAsked, all_asked, unaltered_front}
use Rattle.proof_migration.proofs.ToolPhase.Unaltered.Runs.{unaltered_runs}
use Rattle.proof_migration.proofs.Program.Turns.Asked.{asked_as}
use Rattle.proof_migration.proofs.Program.Turns.Follows.{kept_front, kept_run}
use Rattle.proof_migration.proofs.Program.Holds.ActorStates.{kept_differs}
use Rattle.proof_migration.specs.CutOver.{ClientsAreTurned, OperatorsAreTurned}
use Rattle.proof_migration.proofs.CutOver.Commands.{command_turned}

-- ANOTHER SESSION'S TURN

-- where the relation asks of an actor's turn no more than that it is another session's
abbrev IsOther : PlanData → Entry → Actor → Type 0
IsOther plan entry actor = (before after : State) (locker renamer : ℕ) (work : Work) (turn : ℕ) (answer : Option Answer) → OtherTurn plan before after locker renamer entry.session → WorkTurn plan before after locker renamer work turn entry actor answer

module _ (entries_are_turns : EntriesAreTurns) (plan : PlanData) (journal : List Entry) (entry : Entry) (actor : Actor) (same : entry.actor ≡ actor) (called : is_command entry.asked ≡ false) (asks_shared : (request : Request) → AskedAs plan actor request → takes_names request ≡ false) (no_locker : same_actor actor Lock ≡ false) (no_renamer : same_actor actor Ren ≡ false) (is_other : IsOther plan entry actor) (runs : IsRunnable plan) (serial : IsSerialPlan plan) (kept : IsKept plan (journal ++ entry ∷ [])) (off : IsUnaltered plan (journal ++ entry ∷ [])) where
  abbrev now : State
  now = state_at plan journal

  abbrev more : List Entry
  more = journal ++ entry ∷ []

  before : IsKept plan journal
  before = kept_front plan journal (entry ∷ []) kept

  known : IsKnownAsked plan journal
  known = all_asked plan journal runs before.faithful before.follows

  run : IsRun plan journal entry
  run = kept_run plan journal entry kept

  together : IsTogether plan journal
  together = known.marking.tabled.all.tool

  then_together : IsTogether plan more
  then_together = (all_asked plan more runs kept.faithful kept.follows).marking.tabled.all.tool

  shared : asks_names (about (opens entry now) entry.session entry.asked) ≡ false
  shared = by (about (opens entry now) entry.session entry.asked) refl where
    by : (asks : Option Request) → about (opens entry now) entry.session entry.asked ≡ asks → asks_names asks ≡ false
    by None is = refl
    by (Some request) is = asks_shared request (subst (λ (a : Actor). AskedAs plan a request) same (asked_as plan serial runs.fitting journal entry known run off request is))

  turn : TurnOf false entry.session now (state_at plan more)
  turn =
      subst (λ (b : Bool). TurnOf b entry.session now (state_at plan more)) shared
      (entries_are_turns (limits_of plan) (scene_of plan journal) journal entry (plan_runs_are_scene_runs plan journal (unaltered_runs plan journal runs serial before (unaltered_front plan journal (entry ∷ []) off))))

  differs : (other : Actor) → same_actor actor other ≡ false → last_session journal other ≢ entry.session
  differs other apart = kept_differs plan journal entry kept called other (ap (λ (a : Actor). same_actor a other) same ∙ apart)

  others : OtherTurn plan (moment plan journal).server (moment plan more).server (last_session journal Lock) (last_session journal Ren) entry.session
  others =
      subst (λ (s : State). OtherTurn plan s (moment plan more).server (last_session journal Lock) (last_session journal Ren) entry.session) (sym together.server)
      (subst (λ (s : State). OtherTurn plan now s (last_session journal Lock) (last_session journal Ren) entry.session) (sym then_together.server)
      (other_says plan now (state_at plan more) (last_session journal Lock) (last_session journal Ren) entry.session (differs Lock no_locker) (differs Ren no_renamer) turn))

  other_turned : IsTurned plan journal entry
  other_turned = record { turn = by (moment plan journal).tool.tool_phase } where
    working : (work : Work) (turns : ℕ) (answer : Option Answer) → WorkTurn plan (moment plan journal).server (moment plan more).server (last_session journal Lock) (last_session journal Ren) work turns entry entry.actor answer
    working work turns answer =
        subst (λ (a : Actor). WorkTurn plan (moment plan journal).server (moment plan more).server (last_session journal Lock) (last_session journal Ren) work turns entry a answer) (sym same)
        (is_other (moment plan journal).server (moment plan more).server (last_session journal Lock) (last_session journal Ren) work turns answer others)

    asks : (work : Work) (turns : ℕ) (asked : Asked) → is_command asked ≡ false → AskedTurn plan (moment plan journal).server (moment plan more).server (last_session journal Lock) (last_session journal Ren) work turns entry asked
    asks work turns (Command word) calls = absurd (true≢false calls)
    asks work turns (Call request) calls = working work turns (reported (moment plan journal).server entry (Call request))
    asks work turns Poll calls = working work turns (reported (moment plan journal).server entry Poll)
    asks work turns Cut calls = working work turns (reported (moment plan journal).server entry Cut)

    by : (tool_phase : ToolPhase) → ToolPhaseTurn plan (moment plan journal).server (moment plan more).server (last_session journal Lock) (last_session journal Ren) tool_phase ((moment plan journal).tool.turns + 1) entry
    by (SettingUp setup tries) = tt
    by (Migrating work) = asks work ((moment plan journal).tool.turns + 1) entry.asked called

-- CLIENTS

client_shared : (plan : PlanData) (request : Request) → ClientAsks (scene_of plan []) request → takes_names request ≡ false
client_shared plan (requests.LockTables names) asks = absurd asks
client_shared plan (requests.Create schema) asks = absurd asks
client_shared plan (requests.Drop name) asks = absurd asks
client_shared plan (requests.Rename pairs) asks = absurd asks
client_shared plan request asks = refl

-- a client gives no command
client_called : (plan : PlanData) (journal : List Entry) (entry : Entry) (number : ℕ) → entry.actor ≡ Client number → IsGiven plan journal entry entry.asked → is_command entry.asked ≡ false
unfolding given
client_called plan journal entry number client gives = by entry.asked gives where
  by : (asked : Asked) → IsGiven plan journal entry asked → is_command asked ≡ false
  by (Call request) gives = refl
  by Poll gives = refl
  by Cut gives = refl
  by (Command word) gives = absurd (client_commands plan journal number word (subst (λ (a : Actor). given plan journal a ≡ Some (Command word)) client gives))

-- *Clients' turns are turned*
pub clients_turned : EntriesAreTurns → ClientsAreTurned
clients_turned entries plan journal entry client runs serial kept off = by entry.actor refl where
  by : (actor : Actor) → entry.actor ≡ actor → IsTurned plan journal entry
  by (Client number) same =
      other_turned entries plan journal entry (Client number) same (client_called plan journal entry number same (kept_run plan journal entry kept).followed.given) (client_shared plan) refl refl
      (λ before after locker renamer work turn answer other. other) runs serial kept off
  by Op same = absurd (true≢false (sym client ∙ ap is_client same))
  by Insp same = absurd (true≢false (sym client ∙ ap is_client same))
  by Copy same = absurd (true≢false (sym client ∙ ap is_client same))
  by Apply same = absurd (true≢false (sym client ∙ ap is_client same))
  by Lock same = absurd (true≢false (sym client ∙ ap is_client same))
  by Ren same = absurd (true≢false (sym client ∙ ap is_client same))

-- THE OPERATOR

-- *Operators' turns are turned*
pub operators_turned : EntriesAreTurns → OperatorsAreTurned
operators_turned entries plan journal entry operates runs serial kept off = by (is_command entry.asked) refl where
  by : (b : Bool) → is_command entry.asked ≡ b → IsTurned plan journal entry
  by true commands = command_turned plan journal entry commands kept
  by false called = other_turned entries plan journal entry Op operates called (λ request asks. absurd asks) refl refl (λ before after locker renamer work turn answer other. other) runs serial kept off
