-- What the cut-over keeps of the locker and the renamer is in their live sessions.
use Rattle.std.proofs.Common.{◌≡◌, ◌⊎◌, ℕ, Bool, true, false, List, [], ◌∷◌, ◌++◌, Option, Some, None, refl, sym, ap, ◌∙◌, subst, inl, inr}
use Rattle.std.proofs.lemmas.Bool.{true≢false}
use Rattle.std.proofs.lemmas.Option.{none-some}
use Rattle.base_script.specs.declared.actor.Actor.{Actor}
use Rattle.base_script.specs.declared.actor.Actor.TheVariants.{Lock, Ren}
use Rattle.server_model.specs.Entries.{is_command}
use Rattle.server_model.specs.declared.entry.Asked.{Asked}
use Rattle.server_model.specs.declared.entry.Asked.TheVariants.{Call, Poll, Command, Cut}
use Rattle.server_model.specs.declared.entry.Entry.{Entry}
use Rattle.server_model.specs.declared.request.Request.{Request}
use Rattle.plan_data.specs.PlanData.{PlanData}
use Rattle.tool_program.specs.CutoverCore.Attempts as cutovers
use Rattle.tool_program.specs.declared.cutover_core.cutover.CutOver.{CutOver}
use Rattle.tool_program.specs.declared.cutover_core.cutover.Hold.{Hold}
use Rattle.tool_program.specs.declared.cutover_core.cutover.Hold.TheVariants.{Nothing, WaitsToGuard, WaitsToLock, Locks}
use Rattle.tool_program.specs.declared.cutover_core.cutover.Phase.{Phase}
use Rattle.tool_program.specs.declared.cutover_core.cutover.Phase.TheVariants.{Resting, Attempting}
use Rattle.tool_program.specs.declared.cutover_core.cutover.Stage.TheVariants.{Locking, Drained}
use Rattle.tool_program.specs.JournalWords.Journals.{state_at}
use Rattle.tool_program.specs.JournalWords.Sessions.{IsInSession, live_session}
use Rattle.tool_program.specs.Programs.{IsGiven, given, tool_call}
use Rattle.tool_program.specs.Tools.{ToolPhase, Migrating, Work, is_reverting, moment}
use Rattle.proof_journals.specs.Run.Kept.{IsKept}
use Rattle.proof_journals.specs.Sentry.TurnResults.{IsLockerFree, IsRenamerFree, last_session}
use Rattle.proof_journals.specs.Machine.Machines.{ToolPhaseStands, WorkStands, held, renaming}
use Rattle.proof_journals.specs.Machine.Standings.{Standing, free, standing_in, standing_of}
use Rattle.proof_journals.proofs.Machine.CuttingOver.{LockerAsks}
use Rattle.proof_journals.proofs.Machine.Journals.{Asking, IsRun, IsTogether, all_together, asking, calls_so, lock_about, polls_so}
use Rattle.proof_migration.proofs.Program.Turns.Follows.{kept_front, kept_run}
use Rattle.proof_migration.specs.Program.Holds.{HoldsAreLive, LockersGoOn, RenamersGoOn}
use Rattle.proof_migration.proofs.Program.Holds.ActorStates.{kept_last}

-- WHO HAS NO SESSION HAS NOTHING

free_without : (plan : PlanData) (journal : List Entry) (actor : Actor) → live_session journal actor ≡ None → standing_of plan journal actor ≡ free
free_without plan journal actor none = ap (standing_in (state_at plan journal)) none

pub nothing_held : (table : List ℕ) (hold : Hold) → held table hold ≡ free → hold ≡ Nothing
nothing_held table Nothing is = refl
nothing_held table WaitsToGuard is = absurd (none-some _ (sym (ap (λ (s : Standing). s.waits) is)))
nothing_held table WaitsToLock is = absurd (none-some _ (sym (ap (λ (s : Standing). s.waits) is)))
nothing_held table Locks is = absurd (no (ap (λ (s : Standing). s.locked) is)) where
  no : {A : Type 0} {first : A} {rest : List A} → first ∷ rest ≡ [] → ⊥
  no same = cc

pub nothing_waits : (table : List ℕ) (waits : Bool) → renaming table waits ≡ free → waits ≡ false
nothing_waits table false is = refl
nothing_waits table true is = absurd (none-some _ (sym (ap (λ (s : Standing). s.waits) is)))

pub work_stands : (plan : PlanData) (journal : List Entry) (work : Work) → IsTogether plan journal → (moment plan journal).tool.tool_phase ≡ Migrating work → WorkStands journal (is_reverting (moment plan journal).tool.reason) (standing_of plan journal) work
work_stands plan journal work together tool_phase = subst (ToolPhaseStands journal (standing_of plan journal) (is_reverting (moment plan journal).tool.reason)) tool_phase together.stands

-- *Holds are live*
pub holds_live : HoldsAreLive
holds_live plan journal work faithful follows tool_phase =
    let stands : WorkStands journal (is_reverting (moment plan journal).tool.reason) (standing_of plan journal) work = work_stands plan journal work (all_together plan journal faithful follows) tool_phase in
    record {
      locker = λ none. nothing_held work.cutover.table work.cutover.hold (sym stands.locker ∙ free_without plan journal Lock none);
      renamer = λ none. nothing_waits work.cutover.table work.cutover.renamer_waits (sym stands.renamer ∙ free_without plan journal Ren none);
    }

-- WHAT IS ASKED WITHOUT A LOCK

locker_free : (table : List ℕ) (phase : Phase) (request : Request) → LockerAsks table Nothing phase request → IsLockerFree phase
locker_free table Resting request asks = tt
locker_free table (Attempting Locking) request asks = tt
locker_free table phase request asks = absurd asks

renamer_free : (cutover : CutOver) (phase : Phase) (request : Request) → cutovers.renamer_call cutover phase ≡ Some request → IsRenamerFree phase
renamer_free cutover (Attempting Drained) request is = tt
renamer_free cutover phase request is = absurd cc

module _ (plan : PlanData) (journal : List Entry) (entry : Entry) (work : Work) (kept : IsKept plan (journal ++ entry ∷ [])) (tool_phase : (moment plan journal).tool.tool_phase ≡ Migrating work) (called : is_command entry.asked ≡ false) where
  before : IsKept plan journal
  before = kept_front plan journal (entry ∷ []) kept

  run : IsRun plan journal entry
  run = kept_run plan journal entry kept

  together : IsTogether plan journal
  together = all_together plan journal before.faithful before.follows

  stands : WorkStands journal (is_reverting (moment plan journal).tool.reason) (standing_of plan journal) work
  stands = work_stands plan journal work together tool_phase

  -- a session that is new was given a call or a poll
  gave : live_session journal entry.actor ≡ None → given plan journal entry.actor ≡ Some entry.asked
  gave none = by entry.asked refl called run.followed.given (live_session journal entry.actor) none run.followed.session where
    by : (asked : Asked) → entry.asked ≡ asked → is_command asked ≡ false → IsGiven plan journal entry asked → (live : Option ℕ) → live ≡ None → IsInSession journal entry asked live → given plan journal entry.actor ≡ Some entry.asked
    by (Call request) asks called gives live none seated = gives ∙ ap Some (sym asks)
    by Poll asks called gives live none seated = gives ∙ ap Some (sym asks)
    by (Command word) asks called gives live none seated = absurd (true≢false called)
    by Cut asks called gives None none seated = absurd seated
    by Cut asks called gives (Some session) none seated = absurd cc

  new_locker : entry.actor ≡ Lock → live_session journal Lock ≡ None → IsLockerFree work.cutover.phase
  unfolding given
  new_locker same none =
      lock_about plan journal entry together run work tool_phase stands
      (asking plan journal Lock entry.asked together.server (subst (λ (a : Actor). given plan journal a ≡ Some entry.asked) same (gave (ap (live_session journal) same ∙ none)))) (IsLockerFree work.cutover.phase)
      (λ request about asks. locker_free work.cutover.table work.cutover.phase request (subst (λ (h : Hold). LockerAsks work.cutover.table h work.cutover.phase request) ((holds_live plan journal work before.faithful before.follows tool_phase).locker none) asks))

  new_renamer : entry.actor ≡ Ren → live_session journal Ren ≡ None → IsRenamerFree work.cutover.phase
  unfolding given cutovers.next
  new_renamer same none =
      by (asking plan journal Ren entry.asked together.server (subst (λ (a : Actor). given plan journal a ≡ Some entry.asked) same (gave (ap (live_session journal) same ∙ none)))) where
        by : Asking plan journal Ren entry.asked → IsRenamerFree work.cutover.phase
        by (calls_so request asks idle call) = renamer_free work.cutover work.cutover.phase request (ap (λ (c : ToolPhase). tool_call plan (moment plan journal).server journal (moment plan journal).tool c Ren) (sym tool_phase) ∙ call)
        by (polls_so request asks some) = absurd (no (sym (ap (λ (s : Standing). s.waits) (free_without plan journal Ren none)) ∙ some)) where
          no : None ≡ Some request → ⊥
          no same = cc

  in_last : (actor : Actor) (Free : Type 0) → entry.actor ≡ actor → (live_session journal actor ≡ None → Free) → (entry.session ≡ last_session journal actor) ⊎ Free
  in_last actor Free same new = by (live_session journal actor) refl where
    by : (live : Option ℕ) → live_session journal actor ≡ live → (entry.session ≡ last_session journal actor) ⊎ Free
    by None lives = inr (new lives)
    by (Some session) lives = inl (kept_last plan journal entry kept called session (ap (live_session journal) same ∙ lives) ∙ ap (last_session journal) same)

-- *Lockers go on*
pub lockers_go_on : LockersGoOn
lockers_go_on plan journal entry work kept tool_phase same called = in_last plan journal entry work kept tool_phase called Lock (IsLockerFree work.cutover.phase) same (new_locker plan journal entry work kept tool_phase called same)

-- *Renamers go on*
pub renamers_go_on : RenamersGoOn
renamers_go_on plan journal entry work kept tool_phase same called = in_last plan journal entry work kept tool_phase called Ren (IsRenamerFree work.cutover.phase) same (new_renamer plan journal entry work kept tool_phase called same)
