-- What each machine needs to go on, behind every journal: the setup has a call; the copier's next key is there; and once
-- all is reverted, no attempt stands but one that the sentry's drop lets go on.
use Rattle.std.proofs.Common.{◌≡◌, ℕ, ◌+◌, ◌<◌, ◌==◌, Bool, true, false, cond, not, ◌&&◌, List, [], ◌∷◌, ◌++◌, length, Option, Some, None, refl, sym, ap, ◌∙◌, subst, arith}
use Rattle.std.specs.Prelude.{is_some}
use Rattle.std.proofs.lemmas.Bool.{true≢false, false≢true}
use Rattle.std.proofs.lemmas.Bool.Decides.{nat_tests}
use Rattle.base_values.specs.declared.value.Value.{Value}
use Rattle.base_script.specs.declared.actor.Actor.{Actor}
use Rattle.base_script.specs.declared.actor.Actor.TheVariants.{Op, Insp, Copy, Apply, Lock, Ren, Client}
use Rattle.server_model.specs.Along.{Along-keeps}
use Rattle.server_model.specs.declared.answer.Answer.{Answer}
use Rattle.server_model.specs.declared.answer.Answer.TheVariants as answers
use Rattle.server_model.specs.declared.answer.KeyRange.{KeyRange}
use Rattle.server_model.specs.declared.entry.Asked.TheVariants.{Cut}
use Rattle.server_model.specs.declared.entry.Entry.{Entry}
use Rattle.server_model.specs.declared.listing.TableName.{TableName}
use Rattle.server_model.specs.declared.request.Request.{Request}
use Rattle.server_model.specs.Entries.{answer_at, is_cut}
use Rattle.server_model.specs.States.{State, has_work}
use Rattle.plan_data.specs.PlanData.{PlanData}
use Rattle.base_values.specs.ToolNames.{ghost_name}
use Rattle.tool_program.specs.JournalWords.Journals.{state_at, IsFaithful}
use Rattle.tool_program.proofs.JournalWords.Answers.{answer_more, answer_here}
use Rattle.tool_program.specs.ChunkCopier.Copiers as copiers
use Rattle.tool_program.specs.ChunkCopier.Copiers.{begun, after_copies, after_answer}
use Rattle.tool_program.specs.declared.chunk_copier.copier.Chunk.{Chunk}
use Rattle.tool_program.specs.declared.chunk_copier.copier.Copier.{Copier}
use Rattle.tool_program.specs.declared.chunk_copier.copier.CopyStep.{CopyStep}
use Rattle.tool_program.specs.declared.chunk_copier.copier.CopyStep.TheVariants as copying
use Rattle.tool_program.specs.declared.cutover_core.cutover.Clearing.{Clearing as Cleared}
use Rattle.tool_program.specs.declared.cutover_core.cutover.Clearing.TheVariants.{Looking, Drops}
use Rattle.tool_program.specs.declared.cutover_core.cutover.CutOver.{CutOver}
use Rattle.tool_program.specs.declared.cutover_core.cutover.Leftovers.{Leftovers}
use Rattle.tool_program.specs.declared.cutover_core.cutover.Phase.{Phase}
use Rattle.tool_program.specs.declared.cutover_core.cutover.Phase.TheVariants.{Resting, Attempting, Ending, Finishing, Finished}
use Rattle.tool_program.specs.declared.cutover_core.cutover.Role.TheVariants.{Inspector, Locker, Renamer}
use Rattle.tool_program.specs.declared.cutover_core.cutover.Stage.TheVariants.{ReadingCounter, SettingCounter, Draining, Drained, Unlocking, Exchanging}
use Rattle.tool_program.specs.CutoverCore.Attempts as attempts
use Rattle.tool_program.specs.CutoverCore.Attempts.{is_clear, has_name, has_sentry}
use Rattle.tool_program.specs.CutoverCore.CutOvers as cutovers
use Rattle.tool_program.specs.CutoverCore.CutOvers.{is_bad, is_resting, locker_phase, locker_stage, inspector_phase, inspector_stage, ending_after, finishing_after, finishing, left_at_end, sentry_alone, seen, renamer_phase, waits_phase, failed, drained, ended, applier_turn, reverted}
use Rattle.tool_program.specs.Programs.{may_begin, tool_call, given, Follows}
use Rattle.tool_program.specs.Setups.{Setup, Listing, Clearing, MakingLog, MakingGhost, Marking, Reaching, Ready, setup_call, setup_after}
use Rattle.tool_program.specs.Tools.{Work, ToolPhase, SettingUp, Migrating, Tool, Moment, stopped, is_reverting, tool_phase_of, copy_range, moment}
use Rattle.proof_journals.specs.Machine.FormedPlans.{IsFitting}
use Rattle.proof_journals.specs.Machine.Machines.{ToolPhaseStands, PhaseHolds, held}
use Rattle.proof_journals.specs.Machine.Standings.{Standing, free, standing_in, standing_of}
use Rattle.proof_journals.specs.Machine.MigrationTables.{ToolPhaseTables, WorkTables, TableExists}
use Rattle.proof_journals.proofs.Machine.Asking.{unless_called}
use Rattle.proof_journals.proofs.Machine.Journals.{IsRun, all_runs, Asking, calls_so, polls_so, asking}
use Rattle.proof_journals.proofs.Machine.Seated.{IsServed, own_session}
use Rattle.proof_journals.proofs.Machine.Tabling.{IsTabled, tabled_more, tabled_begins, free_idle, copied_idle}
use Rattle.proof_migration.proofs.ToolPhase.ToolPhaseTurns.{Kept, UnfitKeeps, CopyKeeps, AnswerKeeps, ResizeKeeps, turn_kept, gives_asked}

-- THE CUT-OVER IN A REVERT

-- a revert leaves the phase as it is
abbrev pub IsEnded : Phase → Type 0
IsEnded phase = ended phase ≡ phase

ended_twice : (phase : Phase) → IsEnded (ended phase)
ended_twice Resting = refl
ended_twice (Attempting Unlocking) = refl
ended_twice (Attempting Exchanging) = refl
ended_twice (Attempting stage) = refl
ended_twice (Ending clearing) = refl
ended_twice (Finishing clearing) = refl
ended_twice Finished = refl

drained_ended : (cutover : CutOver) (hint : ℕ) (phase : Phase) → IsEnded phase → IsEnded (drained cutover hint phase)
drained_ended cutover hint Resting is = refl
drained_ended cutover hint (Attempting (Draining turns)) is = absurd cc
drained_ended cutover hint (Attempting (ReadingCounter drain)) is = absurd cc
drained_ended cutover hint (Attempting (SettingCounter number drain)) is = absurd cc
drained_ended cutover hint (Attempting stage) is = is
drained_ended cutover hint (Ending clearing) is = refl
drained_ended cutover hint (Finishing clearing) is = refl
drained_ended cutover hint Finished is = refl

locker_ended : (phase : Phase) (answer : Answer) → (phase ≡ Resting → ⊥) → IsEnded phase → IsEnded (locker_phase phase answer)
locker_ended Resting answer asked is = absurd (asked refl)
locker_ended (Attempting Unlocking) answer asked is = by (is_bad answer) answer where
  going : (answer : Answer) → IsEnded (Attempting (locker_stage Unlocking answer))
  going (answers.Ok count) = refl
  going answer = refl

  by : (b : Bool) (answer : Answer) → IsEnded (cond b (Ending Looking) (Attempting (locker_stage Unlocking answer)))
  by true answer = refl
  by false answer = going answer
locker_ended (Attempting Exchanging) answer asked is = by (is_bad answer) where
  by : (b : Bool) → IsEnded (cond b (Ending Looking) (Attempting Exchanging))
  by true = refl
  by false = refl
locker_ended (Attempting stage) answer asked is = absurd cc
locker_ended (Ending clearing) answer asked is = refl
locker_ended (Finishing clearing) answer asked is = refl
locker_ended Finished answer asked is = refl

finishing_ended : (left : Leftovers) → IsEnded (finishing left)
finishing_ended left = by (is_clear left) where
  by : (b : Bool) → IsEnded (cond b Finished (Finishing (Drops left)))
  by true = refl
  by false = refl

seen_ended : (cutover : CutOver) (tables : List TableName) → IsEnded (seen cutover tables)
seen_ended cutover tables = by (has_name (ghost_name cutover.table) tables) (has_sentry cutover.table tables) where
  by : (a b : Bool) → IsEnded (cond (not a) (finishing (left_at_end cutover tables)) (cond b (Ending (Drops sentry_alone)) Resting))
  by true true = refl
  by true false = refl
  by false b = finishing_ended (left_at_end cutover tables)

ending_ended : (cutover : CutOver) (clearing : Cleared) (answer : Answer) → IsEnded (ending_after cutover clearing answer)
ending_ended cutover clearing answers.Lost = refl
ending_ended cutover clearing (answers.TimedOut waited) = refl
ending_ended cutover Looking (answers.Tables tables) = seen_ended cutover tables
ending_ended cutover (Drops left) (answers.Ok count) = refl
ending_ended cutover Looking answer = refl
ending_ended cutover (Drops left) answer = refl

finished_ended : (cutover : CutOver) (clearing : Cleared) (answer : Answer) → IsEnded (finishing_after cutover clearing answer)
finished_ended cutover clearing answers.Lost = refl
finished_ended cutover clearing (answers.TimedOut waited) = refl
finished_ended cutover Looking (answers.Tables tables) = finishing_ended (left_at_end cutover tables)
finished_ended cutover (Drops left) (answers.Ok count) = finishing_ended (attempts.without_first left)
finished_ended cutover Looking answer = refl
finished_ended cutover (Drops left) answer = refl

inspector_ended : (cutover : CutOver) (phase : Phase) (answer : Answer) → IsEnded phase → IsEnded (inspector_phase cutover phase answer)
inspector_ended cutover Resting answer is = refl
inspector_ended cutover (Attempting Unlocking) answer is = by (is_bad answer) where
  by : (b : Bool) → IsEnded (cond b (Ending Looking) (Attempting Unlocking))
  by true = refl
  by false = refl
inspector_ended cutover (Attempting Exchanging) answer is = by (is_bad answer) where
  by : (b : Bool) → IsEnded (cond b (Ending Looking) (Attempting Exchanging))
  by true = refl
  by false = refl
inspector_ended cutover (Attempting stage) answer is = absurd cc
inspector_ended cutover (Ending clearing) answer is = ending_ended cutover clearing answer
inspector_ended cutover (Finishing clearing) answer is = finished_ended cutover clearing answer
inspector_ended cutover Finished answer is = refl

waits_ended : (phase : Phase) → IsEnded phase → IsEnded (waits_phase phase)
waits_ended (Attempting Drained) is = absurd cc
waits_ended (Attempting stage) is = is
waits_ended Resting is = is
waits_ended (Ending clearing) is = is
waits_ended (Finishing clearing) is = is
waits_ended Finished is = is

failed_ended : (phase : Phase) → IsEnded phase → IsEnded (failed phase)
failed_ended (Attempting stage) is = refl
failed_ended Resting is = is
failed_ended (Ending clearing) is = is
failed_ended (Finishing clearing) is = is
failed_ended Finished is = is

renamer_ended : (phase : Phase) (answer : Answer) → IsEnded phase → IsEnded (renamer_phase phase answer)
renamer_ended phase (answers.Ok count) is = refl
renamer_ended phase (answers.Waits by) is = waits_ended phase is
renamer_ended phase answers.Lost is = failed_ended phase is
renamer_ended phase (answers.TimedOut waited) is = failed_ended phase is
renamer_ended phase answer is = is

-- THE COPIER'S NEXT KEY

-- the chunk's keys were told, and one is left
pub record IsKeysReported (journal : List Entry) (chunk : Chunk) (done : ℕ) : Type 0 where
  pub keys : List (List Value)
  pub end : List Value
  pub reported : answer_at journal chunk.reported ≡ Some (answers.Keys keys end)
  pub counted : chunk.keys ≡ length keys
  pub below : done < chunk.keys

abbrev pub StepGoes : List Entry → CopyStep → Type 0
StepGoes journal (copying.Copying chunk done) = IsKeysReported journal chunk done
StepGoes journal step = Unit {0}

pub record CopierGoes (journal : List Entry) (copier : Copier) : Type 0 where
  pub range : copier.is_copied ≡ false → is_some copier.range ≡ true
  pub step : StepGoes journal copier.step

step_more : (journal : List Entry) (entry : Entry) (step : CopyStep) → StepGoes journal step → StepGoes (journal ++ entry ∷ []) step
step_more journal entry (copying.Copying chunk done) is = record { keys = is.keys; end = is.end; reported = answer_more journal (entry ∷ []) chunk.reported (answers.Keys is.keys is.end) is.reported; counted = is.counted; below = is.below }
step_more journal entry copying.Choosing is = tt
step_more journal entry (copying.Spanning reported size) is = tt
step_more journal entry (copying.Committing chunk) is = tt

copier_more : (journal : List Entry) (entry : Entry) (copier : Copier) → CopierGoes journal copier → CopierGoes (journal ++ entry ∷ []) copier
copier_more journal entry copier is = record { range = is.range; step = step_more journal entry copier.step is.step }

module _ (journal : List Entry) (entry : Entry) (turn : ℕ) (turn_is : turn ≡ length journal + 1) (copier : Copier) where
  begun_goes : (keys : List (List Value)) (end : List Value) (chunk : Chunk) → entry.answer ≡ answers.Keys keys end → chunk.reported ≡ turn → chunk.keys ≡ length keys → StepGoes (journal ++ entry ∷ []) (begun chunk)
  begun_goes keys end chunk is reported counted = by (chunk.keys == 0) refl where
    some : (n : ℕ) → (n == 0) ≡ false → 0 < n
    some n off = grind (arith, nat_tests)

    by : (b : Bool) → (chunk.keys == 0) ≡ b → StepGoes (journal ++ entry ∷ []) (cond b (copying.Committing chunk) (copying.Copying chunk 0))
    by true none = tt
    by false off = record { keys = keys; end = end; reported = ap (answer_at (journal ++ entry ∷ [])) (reported ∙ turn_is) ∙ answer_here journal entry ∙ ap Some is; counted = counted; below = some chunk.keys off }

  copied_goes : (chunk : Chunk) (done : ℕ) → IsKeysReported journal chunk done → StepGoes (journal ++ entry ∷ []) (after_copies chunk (done + 1))
  copied_goes chunk done is = by (done + 1 == chunk.keys) refl where
    next : (n most : ℕ) → n < most → (n + 1 == most) ≡ false → n + 1 < most
    next n most below off = grind (arith, nat_tests)

    by : (b : Bool) → (done + 1 == chunk.keys) ≡ b → StepGoes (journal ++ entry ∷ []) (cond b (copying.Committing chunk) (copying.Copying chunk (done + 1)))
    by true none = tt
    by false off = record { keys = is.keys; end = is.end; reported = answer_more journal (entry ∷ []) chunk.reported (answers.Keys is.keys is.end) is.reported; counted = is.counted; below = next done chunk.keys is.below off }

  answer_goes : (step : CopyStep) (answer : Answer) → entry.answer ≡ answer → StepGoes journal step → copier.step ≡ step → StepGoes (journal ++ entry ∷ []) (after_answer turn copier step answer).step
  answer_goes copying.Choosing (answers.End end) is goes at = tt
  answer_goes copying.Choosing answer is goes at = subst (StepGoes (journal ++ entry ∷ [])) (sym at) tt
  answer_goes (copying.Spanning reported size) (answers.Keys keys end) is goes at = begun_goes keys end _ is refl refl
  answer_goes (copying.Spanning reported size) answer is goes at = subst (StepGoes (journal ++ entry ∷ [])) (sym at) tt
  answer_goes (copying.Copying chunk done) (answers.Ok count) is goes at = copied_goes chunk done goes
  answer_goes (copying.Copying chunk done) answer is goes at = subst (StepGoes (journal ++ entry ∷ [])) (sym at) (step_more journal entry (copying.Copying chunk done) goes)
  answer_goes (copying.Committing chunk) (answers.Ok count) is goes at = tt
  answer_goes (copying.Committing chunk) answer is goes at = subst (StepGoes (journal ++ entry ∷ [])) (sym at) tt

  answer_range : (step : CopyStep) (answer : Answer) → (after_answer turn copier step answer).range ≡ copier.range
  answer_range copying.Choosing (answers.End end) = refl
  answer_range copying.Choosing answer = refl
  answer_range (copying.Spanning reported size) (answers.Keys keys end) = refl
  answer_range (copying.Spanning reported size) answer = refl
  answer_range (copying.Copying chunk done) (answers.Ok count) = refl
  answer_range (copying.Copying chunk done) answer = refl
  answer_range (copying.Committing chunk) (answers.Ok count) = refl
  answer_range (copying.Committing chunk) answer = refl

  took_goes : (answer : Answer) → entry.answer ≡ answer → copier.is_copied ≡ false → CopierGoes journal copier → CopierGoes (journal ++ entry ∷ []) (copiers.took turn copier answer)
  unfolding copiers.took
  took_goes answers.Lost is off goes = record { range = λ off. goes.range off; step = tt }
  took_goes (answers.TimedOut waited) is off goes = record { range = λ off. goes.range off; step = tt }
  took_goes answer is off goes = record { range = λ off_now. ap is_some (answer_range copier.step answer) ∙ goes.range off; step = answer_goes copier.step answer is goes.step refl }

-- BEHIND EVERY JOURNAL

pub record WorkGoes (journal : List Entry) (reverting : Bool) (work : Work) : Type 0 where
  pub stopped : work.cutover.is_stopped ≡ reverting
  pub ended : reverting ≡ true → IsEnded work.cutover.phase
  pub copier : CopierGoes journal work.copier

abbrev pub ToolPhaseGoes : PlanData → List Entry → Kept
ToolPhaseGoes plan journal reverting (SettingUp setup tries) = is_some (setup_call plan setup) ≡ true
ToolPhaseGoes plan journal reverting (Migrating work) = WorkGoes journal reverting work

pub record IsGoing (plan : PlanData) (journal : List Entry) : Type 0 where
  pub tabled : IsTabled plan journal
  pub tool_phase : ToolPhaseGoes plan journal (is_reverting (moment plan journal).tool.reason) (moment plan journal).tool.tool_phase

module _ (plan : PlanData) (journal : List Entry) (entry : Entry) (is : IsGoing plan journal) (run : IsRun plan journal entry) where
  abbrev now : Moment
  now = moment plan journal

  abbrev tool : Tool
  tool = record now.tool { turns = now.tool.turns + 1 }

  abbrev more : List Entry
  more = journal ++ entry ∷ []

  abbrev has : Actor → Standing
  has = standing_of plan journal

  abbrev New : Kept
  New = ToolPhaseGoes plan more

  served : IsServed plan journal entry
  served = record { answered = run.answered; seated = record { session = run.followed.session } }

  turn_is : tool.turns ≡ length journal + 1
  turn_is = ap (λ (n : ℕ). n + 1) is.tabled.all.tool.turns

  back : (b : Bool) (tool_phase : ToolPhase) → New b tool_phase → New true (stopped tool_phase)
  unfolding reverted
  back b (SettingUp setup tries) goes = goes
  back b (Migrating work) goes = record { stopped = refl; ended = λ reverting. ended_twice work.cutover.phase; copier = goes.copier }

  drain : (b : Bool) (work : Work) (tries : List ℕ) → New b (Migrating work) → New b (Migrating (record work { cutover = applier_turn work.applier.hint work.cutover; attempt_tries = tries }))
  unfolding applier_turn
  drain b work tries goes = record { stopped = goes.stopped; ended = λ reverting. drained_ended work.cutover work.applier.hint work.cutover.phase (goes.ended reverting); copier = goes.copier }

  still : (b : Bool) (tool_phase : ToolPhase) → ToolPhaseGoes plan journal b tool_phase → New b tool_phase
  still b (SettingUp setup tries) goes = goes
  still b (Migrating work) goes = record { stopped = goes.stopped; ended = goes.ended; copier = copier_more journal entry work.copier goes.copier }

  goes_at : (tool_phase : ToolPhase) → now.tool.tool_phase ≡ tool_phase → ToolPhaseGoes plan journal (is_reverting now.tool.reason) tool_phase
  goes_at tool_phase eq = subst (ToolPhaseGoes plan journal (is_reverting now.tool.reason)) eq is.tool_phase

  still_at : (tool_phase : ToolPhase) → now.tool.tool_phase ≡ tool_phase → New (is_reverting now.tool.reason) tool_phase
  still_at tool_phase eq = still (is_reverting now.tool.reason) tool_phase (goes_at tool_phase eq)

  stands_at : (tool_phase : ToolPhase) → now.tool.tool_phase ≡ tool_phase → ToolPhaseStands journal has (is_reverting now.tool.reason) tool_phase
  stands_at tool_phase eq = subst (ToolPhaseStands journal has (is_reverting now.tool.reason)) eq is.tabled.all.tool.stands

  at_reverting : (b : Bool) (tool_phase : ToolPhase) → is_reverting now.tool.reason ≡ b → New (is_reverting now.tool.reason) tool_phase → New b tool_phase
  at_reverting b tool_phase same goes = subst (λ (b : Bool). New b tool_phase) same goes

  unfit_goes : (work : Work) → now.tool.tool_phase ≡ Migrating work → is_reverting now.tool.reason ≡ false → UnfitKeeps New work
  unfit_goes work eq going =
      let goes : New false (Migrating work) = at_reverting false (Migrating work) going (still_at (Migrating work) eq) in
      record { renamed = λ renamed. goes; reverts = back false (Migrating work) goes }

  -- THE SETUP

  range_there : (range : Option KeyRange) → copiers.is_empty_range (copy_range range) ≡ false → is_some (copy_range range) ≡ true
  range_there None off = absurd (true≢false off)
  range_there (Some range) off = refl

  begins : (size : ℕ) (setup : Setup) (tries : List ℕ) → New false (tool_phase_of plan size setup tries)
  begins size (Ready position range) tries = record { stopped = refl; ended = λ reverting. absurd (false≢true reverting); copier = record { range = λ off. range_there range off; step = tt } }
  begins size Listing tries = refl
  begins size (Clearing left) tries = refl
  begins size MakingLog tries = refl
  begins size MakingGhost tries = refl
  begins size Marking tries = refl
  begins size (Reaching position) tries = refl

  -- THE CUT-OVER'S THREE

  locker_goes : (answer : Answer) (work : Work) → now.tool.tool_phase ≡ Migrating work → (is_reverting now.tool.reason ≡ true → work.cutover.phase ≡ Resting → ⊥) → (tries : List ℕ) → New (is_reverting now.tool.reason) (Migrating (record work { cutover = cutovers.took Locker work.cutover answer; attempt_tries = tries }))
  unfolding cutovers.took
  locker_goes answer work eq asked tries =
      let goes : New (is_reverting now.tool.reason) (Migrating work) = still_at (Migrating work) eq in
      record { stopped = goes.stopped; ended = λ reverting. locker_ended work.cutover.phase answer (asked reverting) (goes.ended reverting); copier = goes.copier }

  inspector_goes : (answer : Answer) (work : Work) → now.tool.tool_phase ≡ Migrating work → (tries : List ℕ) → New (is_reverting now.tool.reason) (Migrating (record work { cutover = cutovers.took Inspector work.cutover answer; attempt_tries = tries }))
  unfolding cutovers.took
  inspector_goes answer work eq tries =
      let goes : New (is_reverting now.tool.reason) (Migrating work) = still_at (Migrating work) eq in
      record { stopped = goes.stopped; ended = λ reverting. inspector_ended work.cutover work.cutover.phase answer (goes.ended reverting); copier = goes.copier }

  renamer_goes : (answer : Answer) (work : Work) → now.tool.tool_phase ≡ Migrating work → (tries : List ℕ) → New (is_reverting now.tool.reason) (Migrating (record work { cutover = cutovers.took Renamer work.cutover answer; attempt_tries = tries }))
  unfolding cutovers.took
  renamer_goes answer work eq tries =
      let goes : New (is_reverting now.tool.reason) (Migrating work) = still_at (Migrating work) eq in
      record { stopped = goes.stopped; ended = λ reverting. renamer_ended work.cutover.phase answer (goes.ended reverting); copier = goes.copier }

  -- at rest the locker has nothing
  resting_free : (work : Work) → now.tool.tool_phase ≡ Migrating work → work.cutover.phase ≡ Resting → has Lock ≡ free
  resting_free work eq resting =
      let stands = stands_at (Migrating work) eq in
      stands.locker ∙ ap (held work.cutover.table) (subst (λ (p : Phase). PhaseHolds p work.cutover.hold) resting stands.phase)

  -- and in a revert it isn't asked
  lock_asked : (work : Work) → now.tool.tool_phase ≡ Migrating work → Asking plan journal Lock entry.asked → is_reverting now.tool.reason ≡ true → work.cutover.phase ≡ Resting → ⊥
  unfolding attempts.next
  lock_asked work eq (polls_so request asks some) reverting resting = no (sym (ap (λ (s : Standing). s.waits) (resting_free work eq resting)) ∙ some) where
    no : None ≡ Some request → ⊥
    no same = cc
  lock_asked work eq (calls_so request asks idle call) reverting resting = no (stopped_call ∙ next_is) where
    next_is : attempts.next Locker work.cutover ≡ Some request
    next_is = unless_called (is_resting work.cutover.phase && not (may_begin plan now.server now.tool work)) (attempts.next Locker work.cutover) request (ap (λ (c : ToolPhase). tool_call plan now.server journal now.tool c Lock) (sym eq) ∙ call)

    stopped_is : work.cutover.is_stopped ≡ true
    stopped_is = (goes_at (Migrating work) eq).stopped ∙ reverting

    stopped_call : None ≡ attempts.next Locker work.cutover
    stopped_call =
        ap (λ (b : Bool). cond b None (Some (Rattle.server_model.specs.declared.request.Request.TheVariants.Create (Rattle.tool_changelog.specs.ToolTables.sentry_schema work.cutover.table)))) (sym stopped_is)
        ∙ ap (attempts.locker_call work.cutover) (sym resting)

    no : None ≡ Some request → ⊥
    no same = cc

  lock_lost : (work : Work) → now.tool.tool_phase ≡ Migrating work → entry.actor ≡ Lock → entry.asked ≡ Cut → has_work now.server entry.session ≡ true → is_reverting now.tool.reason ≡ true → work.cutover.phase ≡ Resting → ⊥
  lock_lost work eq same cut worked reverting resting = true≢false (sym worked ∙ idle) where
    idle : has_work now.server entry.session ≡ false
    idle =
        ap (λ (s : State). has_work s entry.session) is.tabled.all.tool.server
        ∙ free_idle (state_at plan journal) entry.session
        (ap (standing_in (state_at plan journal)) (sym (own_session plan journal entry is.tabled.all.tool.known served (ap is_cut cut))) ∙ ap has same ∙ resting_free work eq resting)

  -- THE COPIER

  copy_uncopied : (work : Work) → now.tool.tool_phase ≡ Migrating work → Asking plan journal Copy entry.asked → is_reverting now.tool.reason ≡ false → work.copier.is_copied ≡ false
  copy_uncopied work eq asks going = by work.copier.is_copied refl where
    tables : WorkTables plan (state_at plan journal).tables has work
    tables = subst (ToolPhaseTables plan (state_at plan journal).tables has) eq is.tabled.tables

    by : (b : Bool) → work.copier.is_copied ≡ b → b ≡ false
    by true on = absurd (true≢false (sym (copied_idle plan journal entry is.tabled.all is.tabled.quiet run work eq on (tables.copied on) asks).0 ∙ going))
    by false off = refl

  copy_heard : (work : Work) → now.tool.tool_phase ≡ Migrating work → Asking plan journal Copy entry.asked → CopyKeeps New entry.answer tool work
  copy_heard work eq asks = record {
    reverting = λ reverting. at_reverting true (Migrating work) reverting (still_at (Migrating work) eq);
    unfit = λ going place number unfit. unfit_goes work eq going;
    took = λ going fits tries.
        let goes : New false (Migrating work) = at_reverting false (Migrating work) going (still_at (Migrating work) eq) in
        record { stopped = goes.stopped; ended = goes.ended; copier = took_goes journal entry tool.turns turn_is work.copier entry.answer refl (copy_uncopied work eq asks going) (goes_at (Migrating work) eq).copier };
  }

  copy_lost : (work : Work) → now.tool.tool_phase ≡ Migrating work → CopyKeeps New answers.Lost tool work
  unfolding copiers.took
  copy_lost work eq = record {
    reverting = λ reverting. at_reverting true (Migrating work) reverting (still_at (Migrating work) eq);
    unfit = λ going place number unfit. unfit_goes work eq going;
    took = λ going fits tries.
        let goes : New false (Migrating work) = at_reverting false (Migrating work) going (still_at (Migrating work) eq) in
        record { stopped = goes.stopped; ended = goes.ended; copier = record { range = λ off. goes.copier.range off; step = tt } };
  }

  -- EVERY ACTOR

  answered_goes : (answer : Answer) (actor : Actor) (tool_phase : ToolPhase) → now.tool.tool_phase ≡ tool_phase → ((work : Work) → actor ≡ Copy → now.tool.tool_phase ≡ Migrating work → CopyKeeps New answer tool work)
      → ((work : Work) → actor ≡ Lock → now.tool.tool_phase ≡ Migrating work → is_reverting now.tool.reason ≡ true → work.cutover.phase ≡ Resting → ⊥) → AnswerKeeps plan New answer tool actor tool_phase
  answered_goes answer Insp (SettingUp setup tries) eq copy lock = record {
    reverting = λ reverting. at_reverting true (SettingUp setup tries) reverting (still_at (SettingUp setup tries) eq);
    again = λ going bad more_tries. refl;
    goes = λ going good. begins tool.operator.size (setup_after plan.table setup answer) tries;
  }
  answered_goes answer Insp (Migrating work) eq copy lock = inspector_goes answer work eq
  answered_goes answer Lock (Migrating work) eq copy lock = locker_goes answer work eq (lock work refl eq)
  answered_goes answer Ren (Migrating work) eq copy lock = renamer_goes answer work eq
  answered_goes answer Copy (Migrating work) eq copy lock = copy work refl eq
  answered_goes answer Apply (Migrating work) eq copy lock = record {
    reverting = λ reverting. at_reverting true (Migrating work) reverting (still_at (Migrating work) eq);
    unfit = λ going place number unfit. unfit_goes work eq going;
    took = λ going fits tries.
        let goes : New false (Migrating work) = at_reverting false (Migrating work) going (still_at (Migrating work) eq) in
        record { stopped = goes.stopped; ended = goes.ended; copier = goes.copier };
  }
  answered_goes answer Op (Migrating work) eq copy lock = still_at (Migrating work) eq
  answered_goes answer (Client c) (Migrating work) eq copy lock = still_at (Migrating work) eq
  answered_goes answer Op (SettingUp setup tries) eq copy lock = still_at (SettingUp setup tries) eq
  answered_goes answer (Client c) (SettingUp setup tries) eq copy lock = still_at (SettingUp setup tries) eq
  answered_goes answer Copy (SettingUp setup tries) eq copy lock = still_at (SettingUp setup tries) eq
  answered_goes answer Apply (SettingUp setup tries) eq copy lock = still_at (SettingUp setup tries) eq
  answered_goes answer Lock (SettingUp setup tries) eq copy lock = still_at (SettingUp setup tries) eq
  answered_goes answer Ren (SettingUp setup tries) eq copy lock = still_at (SettingUp setup tries) eq

  own_asking : (actor own : Actor) → actor ≡ own → (given plan journal own ≡ Some entry.asked → Asking plan journal own entry.asked) → given plan journal actor ≡ Some entry.asked → Asking plan journal own entry.asked
  own_asking actor own same ask gives = ask (subst (λ (a : Actor). given plan journal a ≡ Some entry.asked) same gives)

  heard_goes : given plan journal entry.actor ≡ Some entry.asked → AnswerKeeps plan New entry.answer tool entry.actor tool.tool_phase
  unfolding given
  heard_goes gives =
      answered_goes entry.answer entry.actor now.tool.tool_phase refl
      (λ work same eq. copy_heard work eq (own_asking entry.actor Copy same (λ own. asking plan journal Copy entry.asked is.tabled.all.tool.server own) gives))
      (λ work same eq. lock_asked work eq (own_asking entry.actor Lock same (λ own. asking plan journal Lock entry.asked is.tabled.all.tool.server own) gives))

  lost_goes : entry.asked ≡ Cut → has_work now.server entry.session ≡ true → AnswerKeeps plan New answers.Lost tool entry.actor tool.tool_phase
  lost_goes cut worked = answered_goes answers.Lost entry.actor now.tool.tool_phase refl (λ work same eq. copy_lost work eq) (λ work same eq. lock_lost work eq same cut worked)

  resize_goes : (size : ℕ) (tool_phase : ToolPhase) → now.tool.tool_phase ≡ tool_phase → ResizeKeeps New tool size tool_phase
  resize_goes size (SettingUp setup tries) eq = still_at (SettingUp setup tries) eq
  resize_goes size (Migrating work) eq =
      let goes : New (is_reverting now.tool.reason) (Migrating work) = still_at (Migrating work) eq in
      record { stopped = goes.stopped; ended = goes.ended; copier = record { range = goes.copier.range; step = goes.copier.step } }

  pub going_more : IsGoing plan more
  going_more = record {
    tabled = tabled_more plan journal entry run is.tabled;
    tool_phase =
        turn_kept plan New back journal entry drain
        (record {
          commanded = λ word asks unsized. still_at now.tool.tool_phase refl;
          resized = λ size asks. resize_goes size now.tool.tool_phase refl;
          idle = λ asks none. still_at now.tool.tool_phase refl;
          lost = λ asks worked. lost_goes asks worked;
          heard = λ called commanded. heard_goes (gives_asked plan journal entry entry.asked run.followed.given refl called);
        });
  }

going_begins : (plan : PlanData) → IsFitting plan → TableExists plan → IsGoing plan []
unfolding moment
going_begins plan fit stands = record { tabled = tabled_begins plan fit stands; tool_phase = refl }

pub all_going : (plan : PlanData) (journal : List Entry) → IsFitting plan → TableExists plan → IsFaithful plan journal → Follows plan journal → IsGoing plan journal
unfolding Follows
all_going plan journal fit stands faithful follows = Along-keeps (IsRun plan) (IsGoing plan) (λ before entry run is. going_more plan before entry is run) [] journal (all_runs plan [] journal faithful follows) (going_begins plan fit stands)
