-- What the journal tells of the counter in each phase of the cut-over: the number that is set next is the one that was shown, and once
-- the attempt drains the new table's counter is set.
use Rattle.std.proofs.Common.{◌≡◌, ℕ, ◌+◌, ◌==◌, Bool, true, false, cond, not, ◌&&◌, ◌||◌, List, [], ◌∷◌, ◌++◌, Option, Some, None, refl, sym, ap, ◌∙◌, subst, arith}
use Rattle.std.specs.Str.{bytes_eq}
use Rattle.std.proofs.lemmas.Bool.{false≢true}
use Rattle.std.proofs.lemmas.Bool.Decides.{nat_tests}
use Rattle.std.proofs.lemmas.List.Sums.{fold-append}
use Rattle.std.proofs.lemmas.Option.{none-some}
use Rattle.base_script.specs.declared.actor.Actor.{Actor}
use Rattle.base_script.specs.declared.actor.Actor.TheVariants.{Op, Insp, Copy, Apply, Lock, Ren, Client}
use Rattle.base_script.specs.declared.operator.OperatorWord.{OperatorWord}
use Rattle.base_script.specs.declared.operator.OperatorWord.TheVariants.{ChunkSize}
use Rattle.base_values.specs.ToolNames.{ghost_name}
use Rattle.server_model.specs.declared.answer.Answer.{Answer}
use Rattle.server_model.specs.declared.answer.Answer.TheVariants as answers
use Rattle.server_model.specs.declared.entry.Asked.{Asked}
use Rattle.server_model.specs.declared.entry.Asked.TheVariants.{Call, Poll, Command, Cut}
use Rattle.server_model.specs.declared.entry.Entry.{Entry}
use Rattle.server_model.specs.declared.request.Request.{Request}
use Rattle.server_model.specs.declared.request.Request.TheVariants as requests
use Rattle.server_model.specs.Entries.{same_actor, is_command, is_cut}
use Rattle.server_model.specs.States.{State, has_work}
use Rattle.server_model.proofs.LockedRows.Tests.{same_bytes}
use Rattle.plan_data.specs.PlanData.{PlanData, has_counter}
use Rattle.tool_program.specs.JournalWords.Journals.{state_at}
use Rattle.tool_program.specs.declared.cutover_core.cutover.Clearing.TheVariants.{Looking, Drops}
use Rattle.tool_program.specs.declared.cutover_core.cutover.CutOver.{CutOver}
use Rattle.tool_program.specs.declared.cutover_core.cutover.Drain.{Drain}
use Rattle.tool_program.specs.declared.cutover_core.cutover.Drain.TheVariants.{Turns, Passed}
use Rattle.tool_program.specs.declared.cutover_core.cutover.Phase.{Phase}
use Rattle.tool_program.specs.declared.cutover_core.cutover.Phase.TheVariants.{Resting, Attempting, Ending, Finishing, Finished}
use Rattle.tool_program.specs.declared.cutover_core.cutover.Role.TheVariants.{Inspector, Locker, Renamer}
use Rattle.tool_program.specs.declared.cutover_core.cutover.Stage.{Stage}
use Rattle.tool_program.specs.declared.cutover_core.cutover.Stage.TheVariants.{Guarding, Locking, Hinting, ReadingCounter, SettingCounter, Draining, Drained, Showing, Dropping, Unlocking, Exchanging}
use Rattle.tool_program.specs.CutoverCore.Attempts as attempts
use Rattle.tool_program.specs.CutoverCore.CutOvers as cutovers
use Rattle.tool_program.specs.CutoverCore.CutOvers.{is_bad, ended, failed, waits_phase, drained, locker_phase, locker_stage, renamer_phase, inspector_phase, inspector_stage, applier_turn, reverted}
use Rattle.tool_program.specs.Programs.{tool_call, given}
use Rattle.tool_program.specs.Setups.{Setup, Listing, Clearing, MakingLog, MakingGhost, Marking, Reaching, Ready, setup_after}
use Rattle.tool_program.specs.Tools.{Work, ToolPhase, SettingUp, Migrating, Tool, Moment, stopped, is_reverting, tool_phase_of, moment}
use Rattle.tool_program.proofs.OnlineCalls.Machines.{ToolPhaseIsNamed, named}
use Rattle.proof_journals.specs.Machine.Machines.{ToolPhaseStands, WorkStands}
use Rattle.proof_journals.specs.Machine.MigrationTables.{ghost_schema}
use Rattle.proof_journals.specs.Machine.Standings.{Standing, standing_in, standing_of, answered, answers_to, IsAbout, is_called, is_polled}
use Rattle.proof_journals.proofs.Actors.{same_actor_is}
use Rattle.proof_journals.proofs.Machine.Asking.{some_request, idle_stands}
use Rattle.proof_journals.proofs.Machine.CuttingOver.{drain_cases}
use Rattle.proof_journals.proofs.Machine.Inspecting.{inspects_or}
use Rattle.proof_journals.proofs.Machine.Journals.{IsRun, IsTogether, Asking, calls_so, polls_so, asking, never_commands}
use Rattle.proof_journals.proofs.Machine.Seated.{IsKnown, IsServed, others_stand, own_fits, own_lost, own_session, own_stands}
use Rattle.proof_migration.specs.InspectorWaits.{SetsCounter, IsSettingCounter}
use Rattle.proof_migration.proofs.Attempt.Counting.{IsUnrefused, sets_unrefused}
use Rattle.proof_migration.proofs.Attempt.Stages.{StandsAt, TablesAt, GuardedTables}
use Rattle.proof_migration.proofs.Attempt.Standing.{ToolPhaseAt, IsStanding, about_own}
use Rattle.proof_migration.proofs.ToolPhase.ToolPhaseTurns.{Kept, UnfitKeeps, CopyKeeps, ApplyKeeps, SetupKeeps, AnswerKeeps, ResizeKeeps, turn_kept, gives_asked}
use Rattle.proof_order.specs.CutOverOrder.{call_after, called_after, last_call, reply_after, last_reply, shown_so, set_so}

-- WHAT IS TOLD

pub call_more : (actor : Actor) (journal : List Entry) (entry : Entry) → last_call actor (journal ++ entry ∷ []) ≡ call_after actor entry.actor entry.asked (last_call actor journal)
unfolding last_call
call_more actor journal entry = fold-append (λ last entry. call_after actor entry.actor entry.asked last) None journal (entry ∷ [])

pub reply_more : (actor : Actor) (journal : List Entry) (entry : Entry) → last_reply actor (journal ++ entry ∷ []) ≡ reply_after actor entry.actor entry.asked entry.answer (last_reply actor journal)
unfolding last_reply
reply_more actor journal entry = fold-append (λ last entry. reply_after actor entry.actor entry.asked entry.answer last) None journal (entry ∷ [])

-- another's turn tells nothing of the inspector's
other_reply : (actor other : Actor) (asked : Asked) (answer : Answer) (last : Option Answer) → same_actor other actor ≡ false → reply_after actor other asked answer last ≡ last
other_reply actor other Cut answer last differ = refl
other_reply actor other (Call request) answer last differ = ap (λ (b : Bool). cond b (Some answer) last) differ
other_reply actor other Poll answer last differ = ap (λ (b : Bool). cond b (Some answer) last) differ
other_reply actor other (Command word) answer last differ = ap (λ (b : Bool). cond b (Some answer) last) differ

-- WHAT EACH PHASE SAYS

-- where the table has a counter, the new table's is set
abbrev pub CarriedAt : PlanData → Option Request → Option Answer → Type 0
CarriedAt plan call reply = (not (has_counter plan) || set_so (ghost_name plan.table) call reply) ≡ true

-- the number that is set next is the one that was shown; where the request waits it was called last
pub record ShownAt (plan : PlanData) (waits : Option Request) (call : Option Request) (reply : Option Answer) (number : ℕ) : Type 0 where
  pub shown : waits ≡ None → shown_so plan.table number call reply ≡ true
  pub waiting : (request : Request) → waits ≡ Some request → call ≡ Some (requests.SetCounter (ghost_name plan.table) number)

abbrev pub CountsAt : PlanData → Option Request → Option Request → Option Answer → Phase → Type 0
CountsAt plan waits call reply (Attempting (SettingCounter number drain)) = ShownAt plan waits call reply number
CountsAt plan waits call reply (Attempting (Draining turns)) = CarriedAt plan call reply
CountsAt plan waits call reply (Attempting Drained) = CarriedAt plan call reply
CountsAt plan waits call reply phase = Unit {0}

abbrev pub ToolPhaseCounts : PlanData → Option Request → Option Request → Option Answer → ToolPhase → Type 0
ToolPhaseCounts plan waits call reply (SettingUp setup tries) = Unit {0}
ToolPhaseCounts plan waits call reply (Migrating work) = CountsAt plan waits call reply work.cutover.phase

-- *After a journal*
abbrev pub IsCounting : PlanData → List Entry → Type 0
IsCounting plan journal = ToolPhaseCounts plan (standing_of plan journal Insp).waits (last_call Insp journal) (last_reply Insp journal) (moment plan journal).tool.tool_phase

-- FROM PHASE TO PHASE

module _ (plan : PlanData) (waits : Option Request) (call : Option Request) (reply : Option Answer) where
  abbrev At : Phase → Type 0
  At phase = CountsAt plan waits call reply phase

  pub ended_counts : (phase : Phase) → At phase → At (ended phase)
  ended_counts (Attempting Unlocking) at = tt
  ended_counts (Attempting Exchanging) at = tt
  ended_counts (Attempting stage) at = tt
  ended_counts Resting at = tt
  ended_counts (Ending clearing) at = tt
  ended_counts (Finishing clearing) at = tt
  ended_counts Finished at = tt

  pub failed_counts : (phase : Phase) → At phase → At (failed phase)
  failed_counts (Attempting stage) at = tt
  failed_counts Resting at = tt
  failed_counts (Ending clearing) at = tt
  failed_counts (Finishing clearing) at = tt
  failed_counts Finished at = tt

  pub drained_counts : (cutover : CutOver) (hint : ℕ) (phase : Phase) → At phase → At (drained cutover hint phase)
  drained_counts cutover hint (Attempting (Draining turns)) at = drain_cases At cutover hint turns (Draining turns) (λ same. at) tt at
  drained_counts cutover hint (Attempting (ReadingCounter (Turns turns))) at = drain_cases At cutover hint turns (ReadingCounter (Turns turns)) (λ same. tt) tt tt
  drained_counts cutover hint (Attempting (SettingCounter number (Turns turns))) at = drain_cases At cutover hint turns (SettingCounter number (Turns turns)) (λ same. at) tt at
  drained_counts cutover hint (Attempting (ReadingCounter Passed)) at = tt
  drained_counts cutover hint (Attempting (SettingCounter number Passed)) at = at
  drained_counts cutover hint (Attempting stage) at = at
  drained_counts cutover hint Resting at = tt
  drained_counts cutover hint (Ending clearing) at = tt
  drained_counts cutover hint (Finishing clearing) at = tt
  drained_counts cutover hint Finished at = tt

  staged_counts : (stage : Stage) (answer : Answer) → At (Attempting stage) → At (Attempting (locker_stage stage answer))
  staged_counts Guarding (answers.Ok count) at = tt
  staged_counts Locking (answers.Ok count) at = tt
  staged_counts Dropping (answers.Ok count) at = tt
  staged_counts Unlocking (answers.Ok count) at = tt
  staged_counts stage answer at = at

  begun_counts : (answer : Answer) → At (cutovers.begun answer)
  begun_counts (answers.Ok count) = tt
  begun_counts (answers.Waits by) = tt
  begun_counts answer = tt

  pub locked_counts : (phase : Phase) (answer : Answer) → At phase → At (locker_phase phase answer)
  locked_counts Resting answer at = begun_counts answer
  locked_counts (Attempting stage) answer at = by (is_bad answer) where
    by : (b : Bool) → At (cond b (Ending Looking) (Attempting (locker_stage stage answer)))
    by true = tt
    by false = staged_counts stage answer at
  locked_counts (Ending clearing) answer at = tt
  locked_counts (Finishing clearing) answer at = tt
  locked_counts Finished answer at = tt

  waits_counts : (phase : Phase) → At phase → At (waits_phase phase)
  waits_counts (Attempting Drained) at = tt
  waits_counts (Attempting stage) at = at
  waits_counts Resting at = tt
  waits_counts (Ending clearing) at = tt
  waits_counts (Finishing clearing) at = tt
  waits_counts Finished at = tt

  pub renamed_counts : (phase : Phase) (answer : Answer) → At phase → At (renamer_phase phase answer)
  renamed_counts phase (answers.Ok count) at = tt
  renamed_counts phase (answers.Waits by) at = waits_counts phase at
  renamed_counts phase answers.Lost at = failed_counts phase at
  renamed_counts phase (answers.TimedOut waited) at = failed_counts phase at
  renamed_counts phase answer at = at

-- a phase that is no attempt's says nothing
finishing_counts : (plan : PlanData) (waits call : Option Request) (reply : Option Answer) (left : Rattle.tool_program.specs.declared.cutover_core.cutover.Leftovers.Leftovers) → CountsAt plan waits call reply (cutovers.finishing left)
finishing_counts plan waits call reply left = by (attempts.is_clear left) where
  by : (b : Bool) → CountsAt plan waits call reply (cond b Finished (Finishing (Drops left)))
  by true = tt
  by false = tt

seen_counts : (plan : PlanData) (waits call : Option Request) (reply : Option Answer) (cutover : CutOver) (tables : List Rattle.server_model.specs.declared.listing.TableName.TableName) → CountsAt plan waits call reply (cutovers.seen cutover tables)
seen_counts plan waits call reply cutover tables = by (not (attempts.has_name (ghost_name cutover.table) tables)) (attempts.has_sentry cutover.table tables) where
  by : (a b : Bool) → CountsAt plan waits call reply (cond a (cutovers.finishing (cutovers.left_at_end cutover tables)) (cond b (Ending (Drops cutovers.sentry_alone)) Resting))
  by true b = finishing_counts plan waits call reply (cutovers.left_at_end cutover tables)
  by false true = tt
  by false false = tt

ending_counts : (plan : PlanData) (waits call : Option Request) (reply : Option Answer) (cutover : CutOver) (clearing : Rattle.tool_program.specs.declared.cutover_core.cutover.Clearing.Clearing) (answer : Answer) → CountsAt plan waits call reply (cutovers.ending_after cutover clearing answer)
ending_counts plan waits call reply cutover clearing answers.Lost = tt
ending_counts plan waits call reply cutover clearing (answers.TimedOut waited) = tt
ending_counts plan waits call reply cutover Looking (answers.Tables tables) = seen_counts plan waits call reply cutover tables
ending_counts plan waits call reply cutover (Drops left) (answers.Ok count) = tt
ending_counts plan waits call reply cutover Looking answer = tt
ending_counts plan waits call reply cutover (Drops left) answer = tt

finished_counts : (plan : PlanData) (waits call : Option Request) (reply : Option Answer) (cutover : CutOver) (clearing : Rattle.tool_program.specs.declared.cutover_core.cutover.Clearing.Clearing) (answer : Answer) → CountsAt plan waits call reply (cutovers.finishing_after cutover clearing answer)
finished_counts plan waits call reply cutover clearing answers.Lost = tt
finished_counts plan waits call reply cutover clearing (answers.TimedOut waited) = tt
finished_counts plan waits call reply cutover Looking (answers.Tables tables) = finishing_counts plan waits call reply (cutovers.left_at_end cutover tables)
finished_counts plan waits call reply cutover (Drops left) (answers.Ok count) = finishing_counts plan waits call reply (attempts.without_first left)
finished_counts plan waits call reply cutover Looking answer = tt
finished_counts plan waits call reply cutover (Drops left) answer = tt

no_some : {A : Type 0} (request : Request) → None ≡ Some request → A
no_some request same = absurd (none-some request same)

-- ONE TURN

module _ (plan : PlanData) (journal : List Entry) (entry : Entry) (run : IsRun plan journal entry) (standing : IsStanding plan journal) (waits_so : (request : Request) → (standing_of plan journal Insp).waits ≡ Some request → IsSettingCounter plan (moment plan journal).tool.tool_phase request) (is : IsCounting plan journal) where
  abbrev now : Moment
  now = moment plan journal

  abbrev tool : Tool
  tool = record now.tool { turns = now.tool.turns + 1 }

  abbrev more : List Entry
  more = journal ++ entry ∷ []

  abbrev has : Actor → Standing
  has = standing_of plan journal

  abbrev now_has : Actor → Standing
  now_has = standing_of plan more

  abbrev New : Kept
  New = λ b tool_phase. ToolPhaseCounts plan (now_has Insp).waits (last_call Insp more) (last_reply Insp more) tool_phase

  together : IsTogether plan journal
  together = standing.tabled.all.tool

  known : IsKnown plan journal
  known = together.known

  served : IsServed plan journal entry
  served = record { answered = run.answered; seated = record { session = run.followed.session } }

  work_has : (work : Work) → now.tool.tool_phase ≡ Migrating work → WorkStands journal (is_reverting now.tool.reason) has work
  work_has work eq = subst (ToolPhaseStands journal has (is_reverting now.tool.reason)) eq together.stands

  work_at : (work : Work) → now.tool.tool_phase ≡ Migrating work → StandsAt plan (state_at plan journal).tables (has Insp).waits work.cutover.phase work.cutover.hold work.cutover.renamer_waits work.cutover.is_asked
  work_at work eq = subst (ToolPhaseAt plan (state_at plan journal).tables (has Insp).waits) eq standing.tool_phase

  own_table : (work : Work) → now.tool.tool_phase ≡ Migrating work → work.cutover.table ≡ plan.table
  own_table work eq = (subst (ToolPhaseIsNamed plan) eq (named plan journal)).cutover

  own_counter : (work : Work) → now.tool.tool_phase ≡ Migrating work → work.cutover.has_counter ≡ has_counter plan
  own_counter work eq = (subst (ToolPhaseIsNamed plan) eq (named plan journal)).counter

  old_at : (tool_phase : ToolPhase) → now.tool.tool_phase ≡ tool_phase → ToolPhaseCounts plan (has Insp).waits (last_call Insp journal) (last_reply Insp journal) tool_phase
  old_at tool_phase eq = subst (ToolPhaseCounts plan (has Insp).waits (last_call Insp journal) (last_reply Insp journal)) eq is

  back : (b : Bool) (tool_phase : ToolPhase) → New b tool_phase → New true (stopped tool_phase)
  unfolding reverted
  back b (SettingUp setup tries) at = tt
  back b (Migrating work) at = ended_counts plan (now_has Insp).waits (last_call Insp more) (last_reply Insp more) work.cutover.phase at

  drain : (b : Bool) (work : Work) (tries : List ℕ) → New b (Migrating work) → New b (Migrating (record work { cutover = applier_turn work.applier.hint work.cutover; attempt_tries = tries }))
  unfolding applier_turn
  drain b work tries at = drained_counts plan (now_has Insp).waits (last_call Insp more) (last_reply Insp more) work.cutover work.applier.hint work.cutover.phase at

  -- in another's turn
  others : same_actor entry.actor Insp ≡ false → (tool_phase : ToolPhase) → now.tool.tool_phase ≡ tool_phase → New false tool_phase
  others differ tool_phase eq =
      subst (λ (s : Standing). ToolPhaseCounts plan s.waits (last_call Insp more) (last_reply Insp more) tool_phase) (sym (others_stand plan journal entry known served Insp differ))
      (subst (λ (c : Option Request). ToolPhaseCounts plan (has Insp).waits c (last_reply Insp more) tool_phase) (sym (call_more Insp journal entry ∙ ap (λ (b : Bool). cond b (called_after entry.asked (last_call Insp journal)) (last_call Insp journal)) differ))
      (subst (λ (a : Option Answer). ToolPhaseCounts plan (has Insp).waits (last_call Insp journal) a tool_phase) (sym (reply_more Insp journal entry ∙ other_reply Insp entry.actor entry.asked entry.answer (last_reply Insp journal) differ)) (old_at tool_phase eq)))

  other_turn : (a : Actor) → entry.actor ≡ a → same_actor a Insp ≡ false → (tool_phase : ToolPhase) → now.tool.tool_phase ≡ tool_phase → New false tool_phase
  other_turn a who differ tool_phase eq = others (ap (λ (x : Actor). same_actor x Insp) who ∙ differ) tool_phase eq

  unfit_at : (work : Work) → New false (Migrating work) → UnfitKeeps New work
  unfit_at work at = record { renamed = λ renamed. at; reverts = back false (Migrating work) at }

  copy_at : (answer : Answer) (work : Work) → New false (Migrating work) → CopyKeeps New answer tool work
  copy_at answer work at = record { reverting = λ reverting. at; unfit = λ going place number unfit. unfit_at work at; took = λ going fits tries. at }

  apply_at : (answer : Answer) (work : Work) → New false (Migrating work) → ApplyKeeps New answer tool work
  apply_at answer work at = record { reverting = λ reverting. at; unfit = λ going place number unfit. unfit_at work at; took = λ going fits tries. at }

  begins : (size : ℕ) (setup : Setup) (tries : List ℕ) → New false (tool_phase_of plan size setup tries)
  begins size (Ready position range) tries = tt
  begins size Listing tries = tt
  begins size (Clearing left) tries = tt
  begins size MakingLog tries = tt
  begins size MakingGhost tries = tt
  begins size Marking tries = tt
  begins size (Reaching position) tries = tt

  setup_turn : (answer : Answer) (setup : Setup) (tries : List ℕ) → SetupKeeps plan New answer tool setup tries
  setup_turn answer setup tries = record { reverting = λ reverting. tt; again = λ going bad more_tries. tt; goes = λ going good. begins tool.operator.size (setup_after plan.table setup answer) tries }

  locker_turn : (work : Work) → entry.actor ≡ Lock → now.tool.tool_phase ≡ Migrating work → (answer : Answer) (tries : List ℕ) → New false (Migrating (record work { cutover = cutovers.took Locker work.cutover answer; attempt_tries = tries }))
  unfolding cutovers.took
  locker_turn work who eq answer tries = locked_counts plan (now_has Insp).waits (last_call Insp more) (last_reply Insp more) work.cutover.phase answer (other_turn Lock who refl (Migrating work) eq)

  renamer_turn : (work : Work) → entry.actor ≡ Ren → now.tool.tool_phase ≡ Migrating work → (answer : Answer) (tries : List ℕ) → New false (Migrating (record work { cutover = cutovers.took Renamer work.cutover answer; attempt_tries = tries }))
  unfolding cutovers.took
  renamer_turn work who eq answer tries = renamed_counts plan (now_has Insp).waits (last_call Insp more) (last_reply Insp more) work.cutover.phase answer (other_turn Ren who refl (Migrating work) eq)

  -- THE INSPECTOR

  module _ (who : entry.actor ≡ Insp) where
    own_itself : same_actor entry.actor Insp ≡ true
    own_itself = ap (λ (a : Actor). same_actor a Insp) who

    calls_it : (request : Request) → entry.asked ≡ Call request → last_call Insp more ≡ Some request
    calls_it request asks =
        call_more Insp journal entry ∙ ap (λ (b : Bool). cond b (called_after entry.asked (last_call Insp journal)) (last_call Insp journal)) own_itself ∙ ap (λ (a : Asked). called_after a (last_call Insp journal)) asks

    polls_it : entry.asked ≡ Poll → last_call Insp more ≡ last_call Insp journal
    polls_it asks =
        call_more Insp journal entry ∙ ap (λ (b : Bool). cond b (called_after entry.asked (last_call Insp journal)) (last_call Insp journal)) own_itself ∙ ap (λ (a : Asked). called_after a (last_call Insp journal)) asks

    replies_it : (asked : Asked) → entry.asked ≡ asked → (asked ≡ Cut → ⊥) → last_reply Insp more ≡ Some entry.answer
    replies_it asked asks uncut = reply_more Insp journal entry ∙ ap (λ (a : Asked). reply_after Insp entry.actor a entry.answer (last_reply Insp journal)) asks ∙ by asked uncut where
      own : cond (same_actor entry.actor Insp) (Some entry.answer) (last_reply Insp journal) ≡ Some entry.answer
      own = ap (λ (b : Bool). cond b (Some entry.answer) (last_reply Insp journal)) own_itself

      by : (asked : Asked) → (asked ≡ Cut → ⊥) → reply_after Insp entry.actor asked entry.answer (last_reply Insp journal) ≡ Some entry.answer
      by Cut uncut = absurd (uncut refl)
      by (Call request) uncut = own
      by Poll uncut = own
      by (Command word) uncut = own

    own_about : (request : Request) → IsAbout request (has Insp) entry.asked → IsAbout request (has entry.actor) entry.asked
    own_about request about = about_own plan journal entry standing run Insp request who about

    has_left : (request : Request) → IsAbout request (has Insp) entry.asked → (now_has Insp).waits ≡ (answered request entry.answer (has entry.actor)).waits
    has_left request about = ap (λ (a : Actor). (now_has a).waits) (sym who) ∙ ap (λ (s : Standing). s.waits) (own_stands plan journal entry known served request (own_about request about))

    module _ (work : Work) (eq : now.tool.tool_phase ≡ Migrating work) (called : is_command entry.asked ≡ false) where
      abbrev Becomes : Answer → Phase → Type 0
      Becomes answer phase = CountsAt plan (now_has Insp).waits (last_call Insp more) (last_reply Insp more) phase

      unlocked : (has entry.actor).locked ≡ []
      unlocked = ap (λ (a : Actor). (has a).locked) who ∙ (work_has work eq).inspector.locked

      -- the hint row is written: where the table has a counter that comes next
      hinted_at : (b : Bool) → work.cutover.has_counter ≡ b → Becomes entry.answer (Attempting (cutovers.hinted b))
      hinted_at true carries = tt
      hinted_at false none = ap (λ (b : Bool). not b || set_so (ghost_name plan.table) (last_call Insp more) (last_reply Insp more)) (sym (own_counter work eq) ∙ none)

      hinting : (answer : Answer) → Becomes answer (Attempting (inspector_stage work.cutover.has_counter Hinting answer))
      hinting (answers.Ok count) = hinted_at work.cutover.has_counter refl
      hinting answer = tt

      same_number : (n : ℕ) → (n == n) ≡ true
      same_number n = grind (arith, nat_tests)

      -- the number is shown
      reading : (drain : Drain) → IsAbout (requests.ShowCounter plan.table) (has Insp) entry.asked → last_call Insp more ≡ Some (requests.ShowCounter plan.table) → last_reply Insp more ≡ Some entry.answer → (answer : Answer) → entry.answer ≡ answer → Becomes answer (Attempting (inspector_stage work.cutover.has_counter (ReadingCounter drain) answer))
      reading drain about call reply (answers.At number) is_at = record {
        shown = λ none. ap (λ (c : Option Request). shown_so plan.table number c (last_reply Insp more)) call ∙ ap (λ (a : Option Answer). shown_so plan.table number (Some (requests.ShowCounter plan.table)) a) (reply ∙ ap (λ (a : Answer). Some a) is_at) ∙ both;
        waiting = λ request some. no_some request (sym (has_left (requests.ShowCounter plan.table) about ∙ ap (λ (a : Answer). (answered (requests.ShowCounter plan.table) a (has entry.actor)).waits) is_at) ∙ some);
      } where
        both : (bytes_eq plan.table plan.table && (number == number)) ≡ true
        both = rw (same_bytes plan.table, same_number number) refl
      reading drain about call reply answer is_at = tt

      -- it is set, or waits to be
      carried : (number : ℕ) → last_call Insp more ≡ Some (requests.SetCounter (ghost_name plan.table) number) → (count : ℕ) → last_reply Insp more ≡ Some (answers.Ok count) → CarriedAt plan (last_call Insp more) (last_reply Insp more)
      carried number call count reply = by (not (has_counter plan)) where
        set : set_so (ghost_name plan.table) (last_call Insp more) (last_reply Insp more) ≡ true
        set = ap (λ (c : Option Request). set_so (ghost_name plan.table) c (last_reply Insp more)) call ∙ ap (λ (a : Option Answer). set_so (ghost_name plan.table) (Some (requests.SetCounter (ghost_name plan.table) number)) a) reply ∙ same_bytes (ghost_name plan.table)

        by : (b : Bool) → (b || set_so (ghost_name plan.table) (last_call Insp more) (last_reply Insp more)) ≡ true
        by true = refl
        by false = set

      setting : (number : ℕ) (drain : Drain) → work.cutover.phase ≡ Attempting (SettingCounter number drain) → IsAbout (requests.SetCounter (ghost_name plan.table) number) (has Insp) entry.asked → last_call Insp more ≡ Some (requests.SetCounter (ghost_name plan.table) number) → last_reply Insp more ≡ Some entry.answer
          → Becomes entry.answer (cond (is_bad entry.answer) (Ending Looking) (Attempting (inspector_stage work.cutover.has_counter (SettingCounter number drain) entry.answer)))
      setting number drain at_phase about call reply = by entry.answer refl unrefused fits where
        guards : GuardedTables plan (state_at plan journal).tables
        guards = subst (TablesAt plan (state_at plan journal).tables) at_phase (work_at work eq).tables

        unrefused : IsUnrefused entry.answer
        unrefused = sets_unrefused plan journal entry known served called unlocked (ghost_name plan.table) number (ghost_schema plan) guards.stand.ghost (own_about (requests.SetCounter (ghost_name plan.table) number) about)

        fits : answers_to (requests.SetCounter (ghost_name plan.table) number) entry.answer ≡ true
        fits = own_fits plan journal entry known served (requests.SetCounter (ghost_name plan.table) number) (own_about (requests.SetCounter (ghost_name plan.table) number) about)

        drains : (drain : Drain) (count : ℕ) → last_reply Insp more ≡ Some (answers.Ok count) → Becomes entry.answer (Attempting (cutovers.drain_stage drain))
        drains (Turns turns) count reported = carried number call count reported
        drains Passed count reported = carried number call count reported

        by : (answer : Answer) → entry.answer ≡ answer → IsUnrefused answer → answers_to (requests.SetCounter (ghost_name plan.table) number) answer ≡ true
            → Becomes answer (cond (is_bad answer) (Ending Looking) (Attempting (inspector_stage work.cutover.has_counter (SettingCounter number drain) answer)))
        by (answers.Ok count) is_at fine fit = drains drain count (reply ∙ ap (λ (a : Answer). Some a) is_at)
        by (answers.Waits other) is_at fine fit = record {
          shown = λ none. no_some (requests.SetCounter (ghost_name plan.table) number) (sym none ∙ has_left (requests.SetCounter (ghost_name plan.table) number) about ∙ ap (λ (a : Answer). (answered (requests.SetCounter (ghost_name plan.table) number) a (has entry.actor)).waits) is_at);
          waiting = λ request some. call;
        }
        by (answers.TimedOut waited) is_at fine fit = tt
        by answers.Lost is_at fine fit = tt
        by (answers.Refused code column) is_at fine fit = absurd fine
        by answer is_at fine fit = absurd (false≢true fit)

      -- what the phase has become, where it called this
      called_at : (phase : Phase) → work.cutover.phase ≡ phase → (request : Request) → entry.asked ≡ Call request → (has Insp).waits ≡ None → attempts.inspector_call work.cutover phase ≡ Some request → Becomes entry.answer (inspector_phase work.cutover phase entry.answer)
      called_at (Attempting Hinting) at_phase request asks none call = by (is_bad entry.answer) where
        by : (b : Bool) → Becomes entry.answer (cond b (Ending Looking) (Attempting (inspector_stage work.cutover.has_counter Hinting entry.answer)))
        by true = tt
        by false = hinting entry.answer
      called_at (Attempting (ReadingCounter drain)) at_phase request asks none call = by (is_bad entry.answer) where
        is_it : request ≡ requests.ShowCounter plan.table
        is_it = some_request (λ (r : Request). r ≡ requests.ShowCounter plan.table) (requests.ShowCounter work.cutover.table) request call (ap (λ (t : List ℕ). requests.ShowCounter t) (own_table work eq))

        by : (b : Bool) → Becomes entry.answer (cond b (Ending Looking) (Attempting (inspector_stage work.cutover.has_counter (ReadingCounter drain) entry.answer)))
        by true = tt
        by false =
            reading drain (is_called (asks ∙ ap Call is_it) none) (calls_it request asks ∙ ap (λ (r : Request). Some r) is_it) (replies_it (Call request) asks no_cut) entry.answer refl where
              no_cut : Call request ≡ Cut → ⊥
              no_cut both = cc
      called_at (Attempting (SettingCounter number drain)) at_phase request asks none call =
          setting number drain at_phase (is_called (asks ∙ ap Call is_it) none) (calls_it request asks ∙ ap (λ (r : Request). Some r) is_it) (replies_it (Call request) asks no_cut) where
            is_it : request ≡ requests.SetCounter (ghost_name plan.table) number
            is_it = some_request (λ (r : Request). r ≡ requests.SetCounter (ghost_name plan.table) number) (requests.SetCounter (ghost_name work.cutover.table) number) request call (ap (λ (t : List ℕ). requests.SetCounter (ghost_name t) number) (own_table work eq))

            no_cut : Call request ≡ Cut → ⊥
            no_cut both = cc
      called_at (Attempting Showing) at_phase request asks none call = by (is_bad entry.answer) where
        shows : (answer : Answer) → Becomes answer (Attempting (inspector_stage work.cutover.has_counter Showing answer))
        shows (answers.Waiting waiters) = at (cutovers.shows_wait waiters) where
          at : (b : Bool) → Becomes (answers.Waiting waiters) (Attempting (cond b Dropping Showing))
          at true = tt
          at false = tt
        shows answer = tt

        by : (b : Bool) → Becomes entry.answer (cond b (Ending Looking) (Attempting (inspector_stage work.cutover.has_counter Showing entry.answer)))
        by true = tt
        by false = shows entry.answer
      called_at (Attempting stage) at_phase request asks none call = absurd cc
      called_at (Ending clearing) at_phase request asks none call = ending_counts plan (now_has Insp).waits (last_call Insp more) (last_reply Insp more) work.cutover clearing entry.answer
      called_at (Finishing clearing) at_phase request asks none call = finished_counts plan (now_has Insp).waits (last_call Insp more) (last_reply Insp more) work.cutover clearing entry.answer
      called_at Resting at_phase request asks none call = absurd cc
      called_at Finished at_phase request asks none call = absurd cc

      polled_at : (phase : Phase) → work.cutover.phase ≡ phase → (request : Request) → entry.asked ≡ Poll → (has Insp).waits ≡ Some request → SetsCounter plan phase request → Becomes entry.answer (inspector_phase work.cutover phase entry.answer)
      polled_at (Attempting (SettingCounter number drain)) at_phase request asks some sets =
          setting number drain at_phase (is_polled asks (some ∙ ap (λ (r : Request). Some r) sets)) (polls_it asks ∙ (subst (CountsAt plan (has Insp).waits (last_call Insp journal) (last_reply Insp journal)) at_phase (old_at (Migrating work) eq)).waiting request some) (replies_it Poll asks no_cut) where
            no_cut : Poll ≡ Cut → ⊥
            no_cut both = cc
      polled_at (Ending clearing) at_phase request asks some sets = ending_counts plan (now_has Insp).waits (last_call Insp more) (last_reply Insp more) work.cutover clearing entry.answer
      polled_at phase at_phase request asks some sets = absurd sets

    inspector_turn : (work : Work) → now.tool.tool_phase ≡ Migrating work → is_command entry.asked ≡ false → Asking plan journal Insp entry.asked → (tries : List ℕ) → New false (Migrating (record work { cutover = cutovers.took Inspector work.cutover entry.answer; attempt_tries = tries }))
    unfolding cutovers.took attempts.next
    inspector_turn work eq called (calls_so request asks none call) tries =
        inspects_or plan journal now.tool work request (CountsAt plan (now_has Insp).waits (last_call Insp more) (last_reply Insp more) (inspector_phase work.cutover work.cutover.phase entry.answer)) (ap (λ (c : ToolPhase). tool_call plan now.server journal now.tool c Insp) (sym eq) ∙ call)
        (λ note resting. subst (λ (p : Phase). CountsAt plan (now_has Insp).waits (last_call Insp more) (last_reply Insp more) (inspector_phase work.cutover p entry.answer)) (sym resting) tt) (λ next. called_at work eq called work.cutover.phase refl request asks none next)
    inspector_turn work eq called (polls_so request asks some) tries = polled_at work eq called work.cutover.phase refl request asks some (subst (λ (c : ToolPhase). IsSettingCounter plan c request) eq (waits_so request some))

    -- its session is lost between calls
    lost_at_phase : (work : Work) (tries : List ℕ) → New false (Migrating (record work { cutover = cutovers.took Inspector work.cutover answers.Lost; attempt_tries = tries }))
    unfolding cutovers.took
    lost_at_phase work tries = by work.cutover.phase where
      by : (phase : Phase) → CountsAt plan (now_has Insp).waits (last_call Insp more) (last_reply Insp more) (inspector_phase work.cutover phase answers.Lost)
      by Resting = tt
      by (Attempting stage) = tt
      by (Ending clearing) = tt
      by (Finishing clearing) = tt
      by Finished = tt

    -- ... or one that had nothing
    idle_own : entry.asked ≡ Cut → has_work now.server entry.session ≡ false → (tool_phase : ToolPhase) → now.tool.tool_phase ≡ tool_phase → New false tool_phase
    idle_own cut none tool_phase eq =
        subst (λ (w : Option Request). ToolPhaseCounts plan w (last_call Insp more) (last_reply Insp more) tool_phase) (had ∙ sym gone)
        (subst (λ (c : Option Request). ToolPhaseCounts plan (has Insp).waits c (last_reply Insp more) tool_phase) (sym same_call)
        (subst (λ (a : Option Answer). ToolPhaseCounts plan (has Insp).waits (last_call Insp journal) a tool_phase) (sym same_reply) (old_at tool_phase eq))) where
          gone : (now_has Insp).waits ≡ None
          gone = ap (λ (a : Actor). (now_has a).waits) (sym who) ∙ ap (λ (s : Standing). s.waits) (own_lost plan journal entry known served cut)

          had : (has Insp).waits ≡ None
          had =
              ap (λ (a : Actor). (has a).waits) (sym who)
              ∙ ap (λ (s : Standing). s.waits) (ap (standing_in (state_at plan journal)) (own_session plan journal entry known served (ap is_cut cut)) ∙ idle_stands (state_at plan journal) entry.session (ap (λ (s : State). has_work s entry.session) (sym together.server) ∙ none))

          same_call : last_call Insp more ≡ last_call Insp journal
          same_call =
              call_more Insp journal entry ∙ ap (λ (b : Bool). cond b (called_after entry.asked (last_call Insp journal)) (last_call Insp journal)) own_itself ∙ ap (λ (a : Asked). called_after a (last_call Insp journal)) cut

          same_reply : last_reply Insp more ≡ last_reply Insp journal
          same_reply = reply_more Insp journal entry ∙ ap (λ (a : Asked). reply_after Insp entry.actor a entry.answer (last_reply Insp journal)) cut

  -- EVERY ACTOR

  heard_at : (actor : Actor) → entry.actor ≡ actor → is_command entry.asked ≡ false → given plan journal actor ≡ Some entry.asked → (tool_phase : ToolPhase) → now.tool.tool_phase ≡ tool_phase → AnswerKeeps plan New entry.answer tool actor tool_phase
  unfolding given
  heard_at Insp who called gives (SettingUp setup tries) eq = setup_turn entry.answer setup tries
  heard_at Insp who called gives (Migrating work) eq = inspector_turn who work eq called (asking plan journal Insp entry.asked together.server gives)
  heard_at Copy who called gives (SettingUp setup tries) eq = tt
  heard_at Copy who called gives (Migrating work) eq = copy_at entry.answer work (other_turn Copy who refl (Migrating work) eq)
  heard_at Apply who called gives (SettingUp setup tries) eq = tt
  heard_at Apply who called gives (Migrating work) eq = apply_at entry.answer work (other_turn Apply who refl (Migrating work) eq)
  heard_at Lock who called gives (SettingUp setup tries) eq = tt
  heard_at Lock who called gives (Migrating work) eq = locker_turn work who eq entry.answer
  heard_at Ren who called gives (SettingUp setup tries) eq = tt
  heard_at Ren who called gives (Migrating work) eq = renamer_turn work who eq entry.answer
  heard_at Op who called gives (SettingUp setup tries) eq = tt
  heard_at Op who called gives (Migrating work) eq = other_turn Op who refl (Migrating work) eq
  heard_at (Client c) who called gives (SettingUp setup tries) eq = tt
  heard_at (Client c) who called gives (Migrating work) eq = other_turn (Client c) who refl (Migrating work) eq

  lost_at : (actor : Actor) → entry.actor ≡ actor → (tool_phase : ToolPhase) → now.tool.tool_phase ≡ tool_phase → AnswerKeeps plan New answers.Lost tool actor tool_phase
  lost_at Insp who (SettingUp setup tries) eq = setup_turn answers.Lost setup tries
  lost_at Insp who (Migrating work) eq = lost_at_phase who work
  lost_at Copy who (SettingUp setup tries) eq = tt
  lost_at Copy who (Migrating work) eq = copy_at answers.Lost work (other_turn Copy who refl (Migrating work) eq)
  lost_at Apply who (SettingUp setup tries) eq = tt
  lost_at Apply who (Migrating work) eq = apply_at answers.Lost work (other_turn Apply who refl (Migrating work) eq)
  lost_at Lock who (SettingUp setup tries) eq = tt
  lost_at Lock who (Migrating work) eq = locker_turn work who eq answers.Lost
  lost_at Ren who (SettingUp setup tries) eq = tt
  lost_at Ren who (Migrating work) eq = renamer_turn work who eq answers.Lost
  lost_at Op who (SettingUp setup tries) eq = tt
  lost_at Op who (Migrating work) eq = other_turn Op who refl (Migrating work) eq
  lost_at (Client c) who (SettingUp setup tries) eq = tt
  lost_at (Client c) who (Migrating work) eq = other_turn (Client c) who refl (Migrating work) eq

  idle_at : entry.asked ≡ Cut → has_work now.server entry.session ≡ false → New false now.tool.tool_phase
  idle_at cut none = by (same_actor entry.actor Insp) refl where
    by : (b : Bool) → same_actor entry.actor Insp ≡ b → New false now.tool.tool_phase
    by false differ = others differ now.tool.tool_phase refl
    by true same = idle_own (same_actor_is entry.actor Insp same) cut none now.tool.tool_phase refl

  command_at : (word : OperatorWord) → entry.asked ≡ Command word → (tool_phase : ToolPhase) → now.tool.tool_phase ≡ tool_phase → New false tool_phase
  unfolding given
  command_at word asks tool_phase eq = by (same_actor entry.actor Insp) refl where
    no : Command word ≡ Cut → ⊥
    no both = cc

    by : (b : Bool) → same_actor entry.actor Insp ≡ b → New false tool_phase
    by false differ = others differ tool_phase eq
    by true same =
        absurd (never_commands plan journal Insp word (subst (λ (a : Actor). given plan journal a ≡ Some entry.asked) (same_actor_is entry.actor Insp same) (gives_asked plan journal entry entry.asked run.followed.given refl (λ cut. no (sym asks ∙ cut))) ∙ ap Some asks))

  resize_at : (size : ℕ) → entry.asked ≡ Command (ChunkSize size) → (tool_phase : ToolPhase) → now.tool.tool_phase ≡ tool_phase → ResizeKeeps New tool size tool_phase
  resize_at size asks (SettingUp setup tries) eq = tt
  resize_at size asks (Migrating work) eq = command_at (ChunkSize size) asks (Migrating work) eq

  called_of : ((word : OperatorWord) → entry.asked ≡ Command word → ⊥) → is_command entry.asked ≡ false
  called_of commanded = by entry.asked commanded where
    by : (asked : Asked) → ((word : OperatorWord) → asked ≡ Command word → ⊥) → is_command asked ≡ false
    by (Command word) commanded = absurd (commanded word refl)
    by (Call request) commanded = refl
    by Poll commanded = refl
    by Cut commanded = refl

  -- *One turn more*
  pub counting_more : IsCounting plan more
  counting_more =
      turn_kept plan New back journal entry drain
      (record {
        commanded = λ word asks unsized. command_at word asks now.tool.tool_phase refl;
        resized = λ size asks. resize_at size asks now.tool.tool_phase refl;
        idle = λ asks none. idle_at asks none;
        lost = λ asks worked. lost_at entry.actor refl now.tool.tool_phase refl;
        heard = λ called commanded. heard_at entry.actor refl (called_of commanded) (gives_asked plan journal entry entry.asked run.followed.given refl called) now.tool.tool_phase refl;
      })

pub counting_begins : (plan : PlanData) → IsCounting plan []
unfolding moment
counting_begins plan = tt
