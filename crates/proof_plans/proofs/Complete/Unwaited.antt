-- In a quiet run no session of the tool's waits but the renamer's.
use Rattle.std.proofs.Common.{◌≡◌, ◌≢◌, ◌⊎◌, ℕ, Bool, true, false, cond, List, [], ◌∷◌, ◌++◌, Option, Some, None, refl, sym, ap, ◌∙◌, subst, inl, inr}
use Rattle.std.specs.Prelude.{codes, fold}
use Rattle.std.specs.List.{AllByRecursion, list_any}
use Rattle.std.specs.Str.{bytes_eq}
use Rattle.std.proofs.Math.Bool.{or-true}
use Rattle.std.proofs.lemmas.Bool.{true≢false, false≢true}
use Rattle.std.proofs.lemmas.List.{append_cancel_left}
use Rattle.base_script.specs.declared.actor.Actor.{Actor}
use Rattle.base_script.specs.declared.actor.Actor.TheVariants.{Op, Insp, Copy, Apply, Lock, Ren, Client}
use Rattle.server_model.specs.declared.answer.Answer.{Answer}
use Rattle.server_model.specs.declared.answer.Answer.TheVariants as answers
use Rattle.server_model.specs.declared.entry.Asked.{Asked}
use Rattle.server_model.specs.declared.entry.Asked.TheVariants.{Call, Cut}
use Rattle.server_model.specs.declared.entry.Entry.{Entry}
use Rattle.server_model.specs.declared.request.Request.{Request}
use Rattle.server_model.specs.declared.request.Request.TheVariants as requests
use Rattle.server_model.specs.Entries.{same_actor, is_client}
use Rattle.server_model.specs.Blockers.{blocker, need}
use Rattle.server_model.specs.PlainServer.{called_unless, calls, serves}
use Rattle.server_model.specs.States.{State, names_in}
use Rattle.plan_data.specs.PlanData.{PlanData, has_counter}
use Rattle.proof_plans.proofs.Complete.Uncarried.{is_carrying, none_carried}
use Rattle.base_values.specs.ToolNames.{log_name, old_name}
use Rattle.tool_program.specs.JournalWords.Journals.{opens, state_at}
use Rattle.tool_program.specs.JournalWords.Sessions.{live_session, session_in, session_left}
use Rattle.tool_program.specs.ChunkCopier.Copiers as copiers
use Rattle.tool_program.specs.declared.chunk_copier.copier.CopyStep.{CopyStep}
use Rattle.tool_program.specs.declared.chunk_copier.copier.CopyStep.TheVariants as copying
use Rattle.tool_program.specs.EventApplier.Appliers as appliers
use Rattle.tool_program.specs.declared.event_applier.applier.ApplyStep.{ApplyStep}
use Rattle.tool_program.specs.declared.event_applier.applier.ApplyStep.TheVariants as applying
use Rattle.tool_program.specs.CutoverCore.Attempts as attempts
use Rattle.tool_program.specs.CutoverCore.CutOvers.{is_done, is_ending, is_wait}
use Rattle.tool_program.specs.declared.cutover_core.cutover.Hold.{Hold}
use Rattle.tool_program.specs.declared.cutover_core.cutover.Hold.TheVariants.{Nothing, WaitsToGuard, WaitsToLock, Locks}
use Rattle.tool_program.specs.declared.cutover_core.cutover.Phase.{Phase}
use Rattle.tool_program.specs.declared.cutover_core.cutover.Phase.TheVariants.{Resting, Attempting, Ending, Finishing, Finished}
use Rattle.tool_program.specs.declared.cutover_core.cutover.Stage.TheVariants.{Locking, Hinting, ReadingCounter, SettingCounter, Showing, Dropping, Unlocking}
use Rattle.tool_program.specs.Programs.{apply_call, inspect_call, rolls_back, tool_call}
use Rattle.tool_program.specs.Tools.{Work, ToolPhase, SettingUp, Migrating, Moment, is_renamed, is_reverting, moment}
use Rattle.proof_journals.specs.Plans.{limits_of, scene_of}
use Rattle.proof_journals.proofs.Actors.{same_actor_is}
use Rattle.proof_journals.proofs.Journals.{JournalHolds}
use Rattle.proof_journals.proofs.Waiting.{IsDone, done_answers}
use Rattle.proof_journals.specs.Run.Laws.{Living, NoneWaits}
use Rattle.server_model.proofs.LockedRows.Tests.{are_same, same_bytes}
use Rattle.proof_migration.proofs.Attempt.Stages.{RenamerAt, StandsAt}
use Rattle.proof_migration.proofs.Attempt.Standing.{ToolPhaseAt, IsStanding}
use Rattle.proof_migration.proofs.ToolPhase.Owners.{AllOwned}
use Rattle.proof_journals.specs.Machine.Machines.{ApplierStands, ToolPhaseStands, PhaseHolds, SetupStands, Stands, WorkStands, applier_busy, both_names, copier_asks, copier_busy, held, renaming}
use Rattle.proof_journals.specs.Machine.Standings.{Standing, answered, free, needs_names, serves_to, standing_in, standing_of, IsAbout, is_called}
use Rattle.proof_journals.specs.Machine.MigrationTables.{ToolPhaseTables, Uncopied, WorkTables}
use Rattle.proof_journals.proofs.Machine.Inspecting.{IsNote, inspects_or}
use Rattle.proof_journals.proofs.Machine.CuttingOver.{LockerAsks}
use Rattle.proof_journals.proofs.Machine.Fitting.{IsPrompt}
use Rattle.proof_journals.proofs.Machine.Journals.{Asking, IsRun, apply_called, calls_so, copier_had, lock_about, polls_so}
use Rattle.proof_journals.proofs.Machine.Seated.{IsServed, others_stand, own_given, own_heard, own_prompt, own_stands}
use Rattle.proof_journals.proofs.Machine.Tabling.{copied_idle, lock_none}
use Rattle.proof_journals.proofs.Machine.Polling.{answered_idle}
use Rattle.proof_plans.specs.Complete.Laws.{gives_up}
use Rattle.proof_plans.specs.Complete.Quiet.{is_timed_out}
use Rattle.proof_plans.proofs.Complete.Alone.{Nobody}
use Rattle.proof_plans.proofs.Complete.Prompt.{Harmless, call_prompt, unlocked_harmless}
use Rattle.proof_plans.proofs.Complete.ReadingOn.{ReadsOn, reading_call}

-- nobody waits but the renamer
abbrev pub Unwaited : PlanData → List Entry → Type 0
Unwaited plan journal = (a : Actor) → same_actor a Ren ≡ false → (standing_of plan journal a).waits ≡ None

-- behind the range's end the copier would ask where a chunk ends
abbrev pub Chosen : ToolPhase → Type 0
Chosen (SettingUp setup tries) = Unit {0}
Chosen (Migrating work) = work.copier.is_copied ≡ true → copiers.starts work.copier ≡ true

-- SMALL FACTS

no_live : (c : ℕ) (old : Option ℕ) (journal : List Entry) → Nobody journal → fold (session_in (Client c)) old journal ≡ old
no_live c old [] nobody = refl
no_live c old (entry ∷ journal) nobody = ap (λ (o : Option ℕ). fold (session_in (Client c)) o journal) (by entry.actor nobody.0) ∙ no_live c old journal nobody.1 where
  by : (actor : Actor) → is_client actor ≡ false → cond (same_actor actor (Client c)) (session_left entry.asked entry.answer entry.session) old ≡ old
  by (Client d) kind = absurd (true≢false kind)
  by Ren kind = refl
  by Lock kind = refl
  by Apply kind = refl
  by Copy kind = refl
  by Insp kind = refl
  by Op kind = refl

unneeded : (request : Request) (answer : Answer) → serves_to request answer ≡ true → needs_names request ≡ false → is_wait answer ≡ false
unneeded request (answers.Waits by) fits none = absurd (true≢false (sym fits ∙ none))
unneeded request answer fits none = refl

prompt_unwaits : (answer : Answer) → IsPrompt answer → is_wait answer ≡ false
prompt_unwaits (answers.Waits by) prompt = absurd prompt
prompt_unwaits answer prompt = refl

-- a call isn't answered by a time-out
done_untimed : (answer : Answer) → IsDone answer → is_timed_out answer ≡ false
done_untimed (answers.TimedOut waited) done = absurd done
done_untimed answer done = refl

call_untimed : (state : State) (number : ℕ) (request : Request) → is_timed_out (calls state number request).answer ≡ false
unfolding calls
call_untimed state number request = by (blocker state number (need state number request)) where
  by : (blocked : Option ℕ) → is_timed_out (called_unless blocked state number request).answer ≡ false
  by None = done_untimed _ (done_answers state number request)
  by (Some other) = refl

starts_idle : (step : CopyStep) → copiers.is_choosing step ≡ true → copier_busy step ≡ false
starts_idle copying.Choosing is = refl
starts_idle (copying.Spanning reported size) is = refl
starts_idle (copying.Copying chunk copied) is = absurd (false≢true is)
starts_idle (copying.Committing chunk) is = absurd (false≢true is)

reads_idle : (step : ApplyStep) → appliers.is_reading step ≡ true → applier_busy step ≡ false
reads_idle applying.Reading is = refl
reads_idle (applying.Beginning batch) is = refl
reads_idle (applying.Applying batch done part) is = absurd (false≢true is)
reads_idle (applying.Committing batch) is = absurd (false≢true is)

-- what the locker has locked isn't the changelog
locked_off_log : (table : List ℕ) → AllByRecursion (λ (locked : List ℕ). bytes_eq locked (log_name table) ≡ false) (both_names table)
unfolding old_name log_name
locked_off_log table = (Rattle.tool_program.proofs.OnlineCalls.Naming.not_log table, (by (bytes_eq (front ++ codes "_del") (front ++ codes "_ghc")) refl, tt)) where
  front : List ℕ
  front = codes "_" ++ table

  tails : codes "_del" ≡ codes "_ghc" → ⊥
  tails same = true≢false (sym (same_bytes (codes "_del")) ∙ ap (bytes_eq (codes "_del")) same)

  by : (b : Bool) → bytes_eq (front ++ codes "_del") (front ++ codes "_ghc") ≡ b → b ≡ false
  by true same = absurd (tails (append_cancel_left front (codes "_del") (codes "_ghc") (are_same (front ++ codes "_del") (front ++ codes "_ghc") same)))
  by false same = refl

-- ONE TURN

module _ (plan : PlanData) (journal : List Entry) (entry : Entry) (uncounted : has_counter plan ≡ false) (is : IsStanding plan journal) (none : (moment plan journal).tool.reason ≡ None) (on : gives_up (moment plan journal).tool.tool_phase ≡ false) (going : is_renamed (moment plan journal).tool.tool_phase ≡ false) (run : IsRun plan journal entry) (asks : Asking plan journal entry.actor entry.asked)
    (uncut : entry.asked ≢ Cut) (unlost : entry.side ≡ None) (nobody : Nobody journal) (living : Living journal (state_at plan journal)) (owned : AllOwned plan journal) (lively : NoneWaits (state_at plan journal)) (holds : JournalHolds (limits_of plan) (scene_of plan journal) journal)
    (reads : ReadsOn (moment plan journal).tool.tool_phase) (chosen : Chosen (moment plan journal).tool.tool_phase) (waits : Unwaited plan journal)
    (notes_done : (request : Request) → IsNote plan.table request → entry.actor ≡ Insp → entry.asked ≡ Call request → is_wait entry.answer ≡ false) where
  abbrev now : Moment
  now = moment plan journal

  abbrev has : Actor → Standing
  has = standing_of plan journal

  served : IsServed plan journal entry
  served = record { answered = run.answered; seated = record { session = run.followed.session } }

  onward : is_reverting now.tool.reason ≡ false
  onward = ap is_reverting none

  op_free : has Op ≡ free
  op_free = ap (standing_in (state_at plan journal)) owned.operator

  client_free : (c : ℕ) → has (Client c) ≡ free
  unfolding live_session
  client_free c = ap (standing_in (state_at plan journal)) (no_live c None journal nobody)

  free_harmless : (names : List (List ℕ)) (a : Actor) → has a ≡ free → Harmless names (has a)
  free_harmless names a is_free = unlocked_harmless names (has a) (ap (λ (s : Standing). s.busy) is_free) (ap (λ (s : Standing). s.locked) is_free)

  -- what is called
  record IsCalled : Type 0 where
    request : Request
    asked : entry.asked ≡ Call request
    call : tool_call plan now.server journal now.tool now.tool.tool_phase entry.actor ≡ Some request

  called_so : same_actor entry.actor Ren ≡ false → IsCalled
  called_so other = by asks where
    by : Asking plan journal entry.actor entry.asked → IsCalled
    by (calls_so request asked idle call) = record { request = request; asked = asked; call = call }
    by (polls_so request polled some) = absurd (no (sym (waits entry.actor other) ∙ some)) where
      no : None ≡ Some request → ⊥
      no same = cc

  pub untimed : same_actor entry.actor Ren ≡ false → is_timed_out entry.answer ≡ false
  untimed other =
      let one : IsCalled = called_so other in
      ap is_timed_out (sym (own_given plan journal entry is.tabled.all.tool.known served unlost) ∙ ap (λ (a : Asked). (serves (opens entry (state_at plan journal)) entry.session a).answer) one.asked)
      ∙ call_untimed (opens entry (state_at plan journal)) entry.session one.request

  quick : same_actor entry.actor Ren ≡ false → (request : Request) → entry.asked ≡ Call request → needs_names request ≡ false → is_wait entry.answer ≡ false
  quick other request asked none_needed = unneeded request entry.answer (own_heard plan journal entry is.tabled.all.tool.known served request (is_called asked (waits entry.actor other)) unlost) none_needed

  -- where the renamer doesn't wait and the others are harmless
  prompt : (request : Request) → entry.asked ≡ Call request → (has Ren).waits ≡ None
      → (same_actor entry.actor Insp ≡ false → Harmless (names_in request) (has Insp)) → (same_actor entry.actor Copy ≡ false → Harmless (names_in request) (has Copy)) → (same_actor entry.actor Apply ≡ false → Harmless (names_in request) (has Apply)) → (same_actor entry.actor Lock ≡ false → Harmless (names_in request) (has Lock)) → Harmless (names_in request) (has Ren)
      → is_wait entry.answer ≡ false
  prompt request asked rests insp copy apply lock ren = call_prompt plan journal entry is.tabled.all.tool.known run living owned lively holds unlost request asked idle each where
    idle : (a : Actor) → (has a).waits ≡ None
    idle Ren = rests
    idle Op = waits Op refl
    idle Insp = waits Insp refl
    idle Copy = waits Copy refl
    idle Apply = waits Apply refl
    idle Lock = waits Lock refl
    idle (Client c) = waits (Client c) refl

    each : (a : Actor) → same_actor entry.actor a ≡ false → Harmless (names_in request) (has a)
    each Op differs = free_harmless (names_in request) Op op_free
    each (Client c) differs = free_harmless (names_in request) (Client c) (client_free c)
    each Insp differs = insp differs
    each Copy differs = copy differs
    each Apply differs = apply differs
    each Lock differs = lock differs
    each Ren differs = ren

  no_request : {A : Type 0} (request : Request) → None ≡ Some request → A
  no_request request same = absurd (no same) where
    no : None ≡ Some request → ⊥
    no both = cc

  -- THE SETUP

  setup_unwaits : (other : same_actor entry.actor Ren ≡ false) → SetupStands has → is_wait entry.answer ≡ false
  setup_unwaits other at =
      let one : IsCalled = called_so other in
      prompt one.request one.asked (ap (λ (s : Standing). s.waits) at.renamer) (λ differs. unlocked_harmless (names_in one.request) (has Insp) at.inspector.busy at.inspector.locked) (λ differs. free_harmless (names_in one.request) Copy at.copier) (λ differs. free_harmless (names_in one.request) Apply at.applier)
      (λ differs. free_harmless (names_in one.request) Lock at.locker) (free_harmless (names_in one.request) Ren at.renamer)

  -- BEHIND THE SETUP

  module _ (work : Work) (eq : now.tool.tool_phase ≡ Migrating work) where
    at : WorkStands journal (is_reverting now.tool.reason) has work
    at = subst (ToolPhaseStands journal has (is_reverting now.tool.reason)) eq is.tabled.all.tool.stands

    tables : WorkTables plan (state_at plan journal).tables has work
    tables = subst (ToolPhaseTables plan (state_at plan journal).tables has) eq is.tabled.tables

    cut : StandsAt plan (state_at plan journal).tables (has Insp).waits work.cutover.phase work.cutover.hold work.cutover.renamer_waits work.cutover.is_asked
    cut = subst (ToolPhaseAt plan (state_at plan journal).tables (has Insp).waits) eq is.tool_phase

    insp_harmless : (names : List (List ℕ)) → Harmless names (has Insp)
    insp_harmless names = unlocked_harmless names (has Insp) at.inspector.busy at.inspector.locked

    copy_stands : Stands (copier_asks work.copier.step) (copier_busy work.copier.step) [] (has Copy)
    copy_stands = copier_had plan journal entry is.tabled.all.tool run work at onward

    copy_harmless : (names : List (List ℕ)) → work.copier.is_copied ≡ true → Harmless names (has Copy)
    copy_harmless names copied = unlocked_harmless names (has Copy) (copy_stands.busy ∙ starts_idle work.copier.step (subst Chosen eq chosen copied)) copy_stands.locked

    apply_harmless : (names : List (List ℕ)) → Harmless names (has Apply)
    apply_harmless names = by at.applier where
      by : (is_reverting now.tool.reason ≡ true) ⊎ ApplierStands journal work.applier (has Apply) → Harmless names (has Apply)
      by (inl reverting) = absurd (true≢false (sym reverting ∙ onward))
      by (inr stands) = unlocked_harmless names (has Apply) (stands.stands.busy ∙ reads_idle work.applier.step (subst ReadsOn eq reads)) stands.stands.locked

    ren_harmless : (names : List (List ℕ)) → Harmless names (has Ren)
    ren_harmless names = subst (Harmless names) (sym at.renamer) (by work.cutover.renamer_waits) where
      by : (b : Bool) → Harmless names (renaming work.cutover.table b)
      by true = unlocked_harmless names (renaming work.cutover.table true) refl refl
      by false = unlocked_harmless names (renaming work.cutover.table false) refl refl

    ren_rests : work.cutover.renamer_waits ≡ false → (has Ren).waits ≡ None
    ren_rests off = ap (λ (s : Standing). s.waits) (at.renamer ∙ ap (renaming work.cutover.table) off)

    lock_free : work.cutover.hold ≡ Nothing → has Lock ≡ free
    lock_free off = at.locker ∙ ap (held work.cutover.table) off

    lock_off : work.cutover.hold ≡ Locks → Harmless (log_name work.cutover.table ∷ []) (has Lock)
    lock_off holds_it = subst (Harmless (log_name work.cutover.table ∷ [])) (sym (at.locker ∙ ap (held work.cutover.table) holds_it)) (record { busy = refl; off = (locked_off_log work.cutover.table, tt) })

    -- THE INSPECTOR

    insp_unwaits : entry.actor ≡ Insp → is_wait entry.answer ≡ false
    unfolding attempts.next
    insp_unwaits who = inspects_or plan journal now.tool work one.request (is_wait entry.answer ≡ false) here (λ note resting. notes_done one.request note who one.asked) (λ next. by work.cutover.phase refl next) where
      other : same_actor entry.actor Ren ≡ false
      other = ap (λ (a : Actor). same_actor a Ren) who

      one : IsCalled
      one = called_so other

      here : inspect_call plan journal now.tool work ≡ Some one.request
      here = ap (λ (c : ToolPhase). tool_call plan now.server journal now.tool c Insp) (sym eq) ∙ ap (tool_call plan now.server journal now.tool now.tool.tool_phase) (sym who) ∙ one.call

      hinting : work.cutover.phase ≡ Attempting Hinting → attempts.writes_hint work.cutover.table work.cutover.attempts ≡ one.request → is_wait entry.answer ≡ false
      hinting phase same =
          prompt (attempts.writes_hint work.cutover.table work.cutover.attempts) (one.asked ∙ ap Call (sym same)) (ren_rests (subst (λ (p : Phase). RenamerAt p work.cutover.renamer_waits) phase cut.renamer)) (λ differs. insp_harmless _) (λ differs. copy_harmless _ copied) (λ differs. apply_harmless _)
          (λ differs. lock_off (subst (λ (p : Phase). PhaseHolds p work.cutover.hold) phase at.phase)) (ren_harmless _) where
            copied : work.copier.is_copied ≡ true
            copied = by (work.copier.is_copied) refl where
              no : Attempting Hinting ≡ Resting → ⊥
              no same = cc

              by : (b : Bool) → work.copier.is_copied ≡ b → work.copier.is_copied ≡ true
              by true is_so = is_so
              by false left = absurd (no (sym phase ∙ (tables.going left).phase))

      by : (phase : Phase) → work.cutover.phase ≡ phase → attempts.inspector_call work.cutover phase ≡ Some one.request → is_wait entry.answer ≡ false
      by Resting phase call = no_request one.request call
      by (Attempting Hinting) phase call = hinting phase (let same : attempts.writes_hint work.cutover.table work.cutover.attempts ≡ one.request = cc in same)
      by (Attempting (ReadingCounter drain)) phase call = absurd (true≢false (sym (ap is_carrying phase) ∙ none_carried plan uncounted journal work eq))
      by (Attempting (SettingCounter number drain)) phase call = absurd (true≢false (sym (ap is_carrying phase) ∙ none_carried plan uncounted journal work eq))
      by (Attempting Showing) phase call = quick other one.request one.asked (let same : requests.ShowWaiting ≡ one.request = cc in ap needs_names (sym same))
      by (Attempting stage) phase call = no_request one.request call
      by (Ending clearing) phase call = absurd (true≢false (sym (ap is_ending phase) ∙ ap gives_up (sym eq) ∙ on))
      by (Finishing clearing) phase call = absurd (true≢false (sym (ap is_done phase) ∙ ap is_renamed (sym eq) ∙ going))
      by Finished phase call = no_request one.request call

    -- THE COPIER

    pub copy_left : entry.actor ≡ Copy → work.copier.is_copied ≡ false
    copy_left who = by work.copier.is_copied refl where
      by : (b : Bool) → work.copier.is_copied ≡ b → work.copier.is_copied ≡ false
      by false left = left
      by true copied = absurd (true≢false (sym (copied_idle plan journal entry is.tabled.all is.tabled.quiet run work eq copied (tables.copied copied) (subst (λ (a : Actor). Asking plan journal a entry.asked) who asks)).0 ∙ onward))

    copy_unwaits : entry.actor ≡ Copy → is_wait entry.answer ≡ false
    copy_unwaits who =
        let one : IsCalled = called_so (ap (λ (a : Actor). same_actor a Ren) who) in
        let left : Uncopied plan (state_at plan journal).tables has work = tables.going (copy_left who) in
        prompt one.request one.asked (ren_rests left.renamer) (λ differs. insp_harmless _) (λ differs. absurd (true≢false (sym (ap (λ (a : Actor). same_actor a Copy) who) ∙ differs))) (λ differs. apply_harmless _)
        (λ differs. free_harmless _ Lock (lock_free (subst (λ (p : Phase). PhaseHolds p work.cutover.hold) left.phase at.phase))) (ren_harmless _)

    -- THE APPLIER

    apply_unwaits : entry.actor ≡ Apply → is_wait entry.answer ≡ false
    apply_unwaits who = quick other one.request one.asked (ap needs_names (request_is ∙ reading_call journal work.applier (subst ReadsOn eq reads))) where
      other : same_actor entry.actor Ren ≡ false
      other = ap (λ (a : Actor). same_actor a Ren) who

      one : IsCalled
      one = called_so other

      request_is : one.request ≡ appliers.next journal work.applier
      request_is = apply_called plan journal work one.request
          (ap (λ (b : Bool). cond b (rolls_back now.server (live_session journal Apply)) (apply_call plan now.server journal now.tool work)) (sym onward) ∙ ap (λ (c : ToolPhase). tool_call plan now.server journal now.tool c Apply) (sym eq) ∙ ap (tool_call plan now.server journal now.tool now.tool.tool_phase) (sym who) ∙ one.call)

    -- THE LOCKER

    lock_unwaits : entry.actor ≡ Lock → is_wait entry.answer ≡ false
    lock_unwaits who = lock_about plan journal entry is.tabled.all.tool run work eq at asks_lock (is_wait entry.answer ≡ false) (λ request about kind. reported request about (by work.cutover.hold work.cutover.phase refl refl request kind)) where
      other : same_actor entry.actor Ren ≡ false
      other = ap (λ (a : Actor). same_actor a Ren) who

      asks_lock : Asking plan journal Lock entry.asked
      asks_lock = subst (λ (a : Actor). Asking plan journal a entry.asked) who asks

      one : IsCalled
      one = called_so other

      reported : (request : Request) → IsAbout request (has Lock) entry.asked → (entry.asked ≡ Call request → is_wait entry.answer ≡ false) → is_wait entry.answer ≡ false
      reported request (is_called asked idle) then = then asked
      reported request (Rattle.proof_journals.specs.Machine.Standings.is_polled polled some) then = no_request request (sym (waits Lock refl) ∙ some)

      copied : ((left : work.copier.is_copied ≡ false) → ⊥) → work.copier.is_copied ≡ true
      copied never = at_copied work.copier.is_copied refl where
        at_copied : (b : Bool) → work.copier.is_copied ≡ b → work.copier.is_copied ≡ true
        at_copied true is_so = is_so
        at_copied false left = absurd (never left)

      calls_now : (request : Request) → work.cutover.renamer_waits ≡ false → work.copier.is_copied ≡ true → entry.asked ≡ Call request → is_wait entry.answer ≡ false
      calls_now request rests is_copied asked =
          prompt request asked (ren_rests rests) (λ differs. insp_harmless _) (λ differs. copy_harmless _ is_copied) (λ differs. apply_harmless _) (λ differs. absurd (true≢false (sym (ap (λ (a : Actor). same_actor a Lock) who) ∙ differs))) (ren_harmless _)

      dropped : work.cutover.hold ≡ Locks → (request : Request) → request ≡ requests.Drop (old_name work.cutover.table) → entry.asked ≡ Call request → is_wait entry.answer ≡ false
      dropped locks request same asked =
          prompt_unwaits entry.answer
          (own_prompt plan journal entry is.tabled.all.tool.known served (old_name work.cutover.table) (asked ∙ ap Call same)
          (ap (λ (s : Standing). list_any (bytes_eq (old_name work.cutover.table)) s.locked) (ap has who ∙ at.locker ∙ ap (held work.cutover.table) locks) ∙ among)) where
            among : list_any (bytes_eq (old_name work.cutover.table)) (both_names work.cutover.table) ≡ true
            among = rw (same_bytes (old_name work.cutover.table)) (or-true (bytes_eq (old_name work.cutover.table) work.cutover.table))

      waits_held : (hold : Hold) → work.cutover.hold ≡ hold → (held work.cutover.table hold).waits ≡ None
      waits_held hold same = ap (λ (s : Standing). s.waits) (sym (at.locker ∙ ap (held work.cutover.table) same)) ∙ waits Lock refl

      by : (hold : Hold) (phase : Phase) → work.cutover.hold ≡ hold → work.cutover.phase ≡ phase → (request : Request) → LockerAsks work.cutover.table hold phase request → entry.asked ≡ Call request → is_wait entry.answer ≡ false
      by Nothing Resting hold phase request kind =
          calls_now request (subst (λ (p : Phase). RenamerAt p work.cutover.renamer_waits) phase cut.renamer) (copied (λ left. lock_none plan journal entry is.tabled.all is.tabled.quiet run work eq left (tables.going left) asks_lock))
      by Nothing (Attempting Locking) hold phase request kind = calls_now request (subst (λ (p : Phase). RenamerAt p work.cutover.renamer_waits) phase cut.renamer) (copied (λ left. no (sym phase ∙ (tables.going left).phase))) where
        no : Attempting Locking ≡ Resting → ⊥
        no same = cc
      by Nothing phase_at hold phase request kind = absurd kind
      by WaitsToGuard phase_at hold phase request kind = no_request _ (sym (waits_held WaitsToGuard hold))
      by WaitsToLock phase_at hold phase request kind = no_request _ (sym (waits_held WaitsToLock hold))
      by Locks (Attempting Dropping) hold phase request kind = dropped hold request kind
      by Locks (Attempting Unlocking) hold phase request kind = λ asked. quick other request asked (ap needs_names kind)
      by Locks (Ending clearing) hold phase request kind = absurd (true≢false (sym (ap is_ending phase) ∙ ap gives_up (sym eq) ∙ on))
      by Locks phase_at hold phase request kind = absurd kind

  -- EVERY ACTOR

  unwaits : (actor : Actor) → entry.actor ≡ actor → same_actor actor Ren ≡ false → (tool_phase : ToolPhase) → now.tool.tool_phase ≡ tool_phase → is_wait entry.answer ≡ false
  unwaits actor who other (SettingUp setup tries) eq = setup_unwaits (ap (λ (a : Actor). same_actor a Ren) who ∙ other) (subst (ToolPhaseStands journal has (is_reverting now.tool.reason)) eq is.tabled.all.tool.stands)
  unwaits Insp who other (Migrating work) eq = insp_unwaits work eq who
  unwaits Copy who other (Migrating work) eq = copy_unwaits work eq who
  unwaits Apply who other (Migrating work) eq = apply_unwaits work eq who
  unwaits Lock who other (Migrating work) eq = lock_unwaits work eq who
  unwaits Ren who other (Migrating work) eq = absurd (true≢false other)
  unwaits Op who other (Migrating work) eq = no_request one.request (ap (λ (c : ToolPhase). tool_call plan now.server journal now.tool c Op) (sym eq) ∙ ap (tool_call plan now.server journal now.tool now.tool.tool_phase) (sym who) ∙ one.call) where
    one : IsCalled
    one = called_so (ap (λ (a : Actor). same_actor a Ren) who)
  unwaits (Client n) who other (Migrating work) eq = no_request one.request (ap (λ (c : ToolPhase). tool_call plan now.server journal now.tool c (Client n)) (sym eq) ∙ ap (tool_call plan now.server journal now.tool now.tool.tool_phase) (sym who) ∙ one.call) where
    one : IsCalled
    one = called_so (ap (λ (a : Actor). same_actor a Ren) who)

  -- *Nobody waits but the renamer*
  pub unwaited_more : Unwaited plan (journal ++ entry ∷ [])
  unwaited_more a other = by (same_actor entry.actor a) refl where
    own : entry.actor ≡ a → (standing_of plan (journal ++ entry ∷ []) entry.actor).waits ≡ None
    own who =
        let here : same_actor entry.actor Ren ≡ false = ap (λ (b : Actor). same_actor b Ren) who ∙ other in
        let one : IsCalled = called_so here in
        ap (λ (s : Standing). s.waits) (own_stands plan journal entry is.tabled.all.tool.known served one.request (is_called one.asked (waits entry.actor here))) ∙ answered_idle one.request entry.answer (has entry.actor) (unwaits entry.actor refl here now.tool.tool_phase refl)

    by : (b : Bool) → same_actor entry.actor a ≡ b → (standing_of plan (journal ++ entry ∷ []) a).waits ≡ None
    by true same = let who : entry.actor ≡ a = same_actor_is entry.actor a same in subst (λ (b : Actor). (standing_of plan (journal ++ entry ∷ []) b).waits ≡ None) who (own who)
    by false differs = ap (λ (s : Standing). s.waits) (others_stand plan journal entry is.tabled.all.tool.known served a differs) ∙ waits a other
