-- Tasks are tried as often as the plan lets them.
use Rattle.std.proofs.Common.{◌≡◌, ◌≤◌, ◌<◌, ℕ, ◌+◌, ◌==◌, Bool, true, false, cond, List, [], ◌∷◌, ◌++◌, length, refl, sym, ◌∙◌, subst, arith}
use Rattle.std.specs.Prelude.{fold}
use Rattle.std.proofs.lemmas.Bool.{true≢false, false≢true}
use Rattle.std.proofs.lemmas.Bool.Decides.{nat_tests}
use Rattle.std.proofs.lemmas.List.{length_push}
use Rattle.base_script.specs.declared.actor.Actor.{Actor}
use Rattle.base_script.specs.declared.actor.Actor.TheVariants.{Op, Insp, Copy, Apply, Lock, Ren, Client}
use Rattle.base_script.specs.declared.operator.OperatorWord.{OperatorWord}
use Rattle.base_script.specs.declared.operator.OperatorWord.TheVariants.{Throttle, NoThrottle, ChunkSize, Unpostpone, Panic, Wait}
use Rattle.server_model.specs.declared.answer.Answer.{Answer}
use Rattle.server_model.specs.declared.answer.Answer.TheVariants as answers
use Rattle.server_model.specs.declared.entry.Asked.{Asked}
use Rattle.server_model.specs.declared.entry.Asked.TheVariants.{Call, Poll, Command, Cut}
use Rattle.server_model.specs.declared.entry.Entry.{Entry}
use Rattle.server_model.specs.declared.outcome.Progress.{Progress}
use Rattle.server_model.specs.declared.outcome.Progress.TheVariants.{Going, TaskDone, TaskFailed, Unfit}
use Rattle.server_model.specs.declared.outcome.Task.{Task}
use Rattle.server_model.specs.declared.outcome.Task.TheVariants as tasks
use Rattle.server_model.specs.States.{State, has_work}
use Rattle.plan_data.specs.PlanData.{PlanData}
use Rattle.tool_program.specs.declared.chunk_copier.copier.Copier.{Copier}
use Rattle.tool_program.specs.declared.event_applier.applier.Applier.{Applier}
use Rattle.tool_program.specs.declared.cutover_core.cutover.Clearing.{Clearing}
use Rattle.tool_program.specs.declared.cutover_core.cutover.Clearing.TheVariants.{Looking, Drops}
use Rattle.tool_program.specs.declared.cutover_core.cutover.CutOver.{CutOver}
use Rattle.tool_program.specs.declared.cutover_core.cutover.Leftovers.{Leftovers}
use Rattle.tool_program.specs.declared.cutover_core.cutover.Phase.{Phase}
use Rattle.tool_program.specs.declared.cutover_core.cutover.Phase.TheVariants.{Resting, Attempting, Ending, Finishing, Finished}
use Rattle.tool_program.specs.declared.cutover_core.cutover.Role.{Role}
use Rattle.tool_program.specs.declared.cutover_core.cutover.Role.TheVariants.{Inspector, Locker, Renamer}
use Rattle.tool_program.specs.ChunkCopier.Copiers as copiers
use Rattle.tool_program.specs.EventApplier.Appliers as appliers
use Rattle.tool_program.specs.CutoverCore.Attempts.{is_clear}
use Rattle.tool_program.specs.CutoverCore.CutOvers as cutovers
use Rattle.tool_program.specs.CutoverCore.CutOvers.{is_done, is_bad}
use Rattle.tool_program.specs.Operators.{commanded}
use Rattle.tool_program.specs.Setups.{Setup, Listing, Clearing as clears, MakingLog, MakingGhost, Marking, Reaching, Ready, setup_after}
use Rattle.tool_program.specs.Tools.{ToolPhase, SettingUp, Migrating, CopyUnfit, ApplyUnfit, Panicked, Reason, Spent, Tool, Moment, Work, tool_phase_of, first_reason, reverts, spends, is_renamed, is_reverting, is_failure, stopped, working, resizes, actor_took, attempt_after, copy_after, copy_took, apply_after, apply_took, cutover_took, setup_took, turn_counts, drains, command_took, asked_took, after_turn, took, moment}
use Rattle.proof_journals.proofs.Machine.Lifting.{first_some}
use Rattle.proof_bounds.specs.Tries.{Room, WorkRoom, ToolPhaseRoom, TriesAreFew}

-- ONCE THE RENAME IS DONE

finishing_done : (left : Leftovers) → is_done (cutovers.finishing left) ≡ true
finishing_done left = by (is_clear left) where
  by : (b : Bool) → is_done (cond b Finished (Finishing (Drops left))) ≡ true
  by true = refl
  by false = refl

finishing_after_done : (cutover : CutOver) (clearing : Clearing) (answer : Answer) → is_done (cutovers.finishing_after cutover clearing answer) ≡ true
finishing_after_done cutover clearing answers.Lost = refl
finishing_after_done cutover clearing (answers.TimedOut waited) = refl
finishing_after_done cutover Looking (answers.Tables tables) = finishing_done (cutovers.left_at_end cutover tables)
finishing_after_done cutover (Drops left) (answers.Ok count) = finishing_done (Rattle.tool_program.specs.CutoverCore.Attempts.without_first left)
finishing_after_done cutover clearing answer = refl

inspector_done : (cutover : CutOver) (phase : Phase) (answer : Answer) → is_done phase ≡ true → is_done (cutovers.inspector_phase cutover phase answer) ≡ true
inspector_done cutover (Finishing clearing) answer is = finishing_after_done cutover clearing answer
inspector_done cutover Finished answer is = refl
inspector_done cutover Resting answer is = absurd (false≢true is)
inspector_done cutover (Attempting stage) answer is = absurd (false≢true is)
inspector_done cutover (Ending clearing) answer is = absurd (false≢true is)

locker_done : (phase : Phase) (answer : Answer) → is_done phase ≡ true → is_done (cutovers.locker_phase phase answer) ≡ true
locker_done (Finishing clearing) answer is = refl
locker_done Finished answer is = refl
locker_done Resting answer is = absurd (false≢true is)
locker_done (Attempting stage) answer is = absurd (false≢true is)
locker_done (Ending clearing) answer is = absurd (false≢true is)

renamer_done : (phase : Phase) (answer : Answer) → is_done phase ≡ true → is_done (cutovers.renamer_phase phase answer) ≡ true
renamer_done phase (answers.Ok count) is = refl
renamer_done (Finishing clearing) answer is = by answer where
  by : (answer : Answer) → is_done (cutovers.renamer_phase (Finishing clearing) answer) ≡ true
  by (answers.Ok count) = refl
  by (answers.Waits one) = refl
  by answers.Lost = refl
  by (answers.TimedOut waited) = refl
  by answer = refl
renamer_done Finished answer is = by answer where
  by : (answer : Answer) → is_done (cutovers.renamer_phase Finished answer) ≡ true
  by (answers.Ok count) = refl
  by (answers.Waits one) = refl
  by answers.Lost = refl
  by (answers.TimedOut waited) = refl
  by answer = refl
renamer_done Resting answer is = absurd (false≢true is)
renamer_done (Attempting stage) answer is = absurd (false≢true is)
renamer_done (Ending clearing) answer is = absurd (false≢true is)

pub took_done : (role : Role) (cutover : CutOver) (answer : Answer) → is_done cutover.phase ≡ true → is_done (cutovers.took role cutover answer).phase ≡ true
unfolding cutovers.took
took_done Inspector cutover answer is = inspector_done cutover cutover.phase answer is
took_done Locker cutover answer is = locker_done cutover.phase answer is
took_done Renamer cutover answer is = renamer_done cutover.phase answer is

pub drained_done : (cutover : CutOver) (hint : ℕ) (phase : Phase) → is_done phase ≡ true → is_done (cutovers.drained cutover hint phase) ≡ true
drained_done cutover hint (Finishing clearing) is = refl
drained_done cutover hint Finished is = refl
drained_done cutover hint Resting is = absurd (false≢true is)
drained_done cutover hint (Attempting stage) is = absurd (false≢true is)
drained_done cutover hint (Ending clearing) is = absurd (false≢true is)

-- what isn't done then wasn't
pub was_not : (before after : Bool) → (before ≡ true → after ≡ true) → after ≡ false → before ≡ false
was_not false after stays off = refl
was_not true after stays off = absurd (true≢false (sym (stays refl) ∙ off))

-- ROOM

module _ (plan : PlanData) (some : 1 ≤ plan.options.default_retries) where
  none_yet : (b : Bool) → Room plan b []
  none_yet b = record { most = omega (arith, some); left = λ going. omega (arith, some) }

  reverted : (b : Bool) (tries : List ℕ) → Room plan b tries → Room plan true tries
  reverted b tries room = record { most = room.most; left = λ going. absurd (true≢false going) }

  works_reverted : (b : Bool) (work : Work) → WorkRoom plan b work → WorkRoom plan true work
  works_reverted b work room = record { chunk = reverted b work.chunk_tries room.chunk; batch = reverted b work.batch_tries room.batch }

  abbrev Fits : Tool → Type 0
  Fits tool = ToolPhaseRoom plan (is_reverting tool.reason) tool.tool_phase

  tool_phase_reverted : (b : Bool) (tool_phase : ToolPhase) → ToolPhaseRoom plan b tool_phase → ToolPhaseRoom plan true tool_phase
  tool_phase_reverted b (SettingUp setup tries) room = reverted b tries room
  tool_phase_reverted b (Migrating work) room = λ off. works_reverted b work (room off)

  -- nothing is said of a course whose RENAME is done
  says_nothing : (b : Bool) (tool_phase : ToolPhase) → is_renamed tool_phase ≡ true → ToolPhaseRoom plan b tool_phase
  says_nothing b (SettingUp setup tries) on = absurd (false≢true on)
  says_nothing b (Migrating work) on = λ off. absurd (true≢false (sym on ∙ off))

  stop_fits : (tool_phase : ToolPhase) → is_renamed tool_phase ≡ false → ToolPhaseRoom plan true tool_phase → ToolPhaseRoom plan true (stopped tool_phase)
  stop_fits (SettingUp setup tries) off room = room
  stop_fits (Migrating work) off room = λ same. record { chunk = (room off).chunk; batch = (room off).batch }

  reverts_fit : (reason : Reason) (tool : Tool) → ToolPhaseRoom plan true tool.tool_phase → Fits (reverts reason tool)
  reverts_fit reason tool room = decide (is_renamed tool.tool_phase) refl where
    decide : (b : Bool) → is_renamed tool.tool_phase ≡ b → Fits (cond b tool (record tool { reason = first_reason tool.reason reason; tool_phase = stopped tool.tool_phase }))
    decide true on = says_nothing (is_reverting tool.reason) tool.tool_phase on
    decide false off = subst (λ (b : Bool). ToolPhaseRoom plan b (stopped tool.tool_phase)) (sym (first_some tool.reason reason)) (stop_fits tool.tool_phase off room)

  -- a failed try: with the last all is reverted
  fails_fit : (task : Task) (tries : List ℕ) (tool : Tool) → ToolPhaseRoom plan true tool.tool_phase → ((length tries == plan.options.default_retries) ≡ false → Fits tool) → Fits (spends plan task tries tool)
  fails_fit task tries tool last more = by (length tries == plan.options.default_retries) refl where
    by : (b : Bool) → (length tries == plan.options.default_retries) ≡ b → Fits (cond b (reverts (Spent task tries) tool) tool)
    by true all = reverts_fit (Spent task tries) tool last
    by false off = more off

  last_try : (tries : List ℕ) (turn : ℕ) → Room plan false tries → length (tries ++ turn ∷ []) ≤ plan.options.default_retries
  last_try tries turn room = let long = length_push tries turn in let left = room.left refl in omega (arith, long, left)

  not_last : (tries : List ℕ) (turn : ℕ) → Room plan false tries → (length (tries ++ turn ∷ []) == plan.options.default_retries) ≡ false → Room plan false (tries ++ turn ∷ [])
  not_last tries turn room off = let most = last_try tries turn room in record { most = most; left = λ going. below (length (tries ++ turn ∷ [])) plan.options.default_retries most off } where
    below : (a b : ℕ) → a ≤ b → (a == b) ≡ false → a < b
    below a b less off = grind (arith, nat_tests, less, off)

  is_last : (tries : List ℕ) (turn : ℕ) → Room plan false tries → Room plan true (tries ++ turn ∷ [])
  is_last tries turn room = record { most = last_try tries turn room; left = λ going. absurd (true≢false going) }

  -- WHAT AN ANSWER CHANGES

  off_room : (tool : Tool) (tries : List ℕ) → is_reverting tool.reason ≡ false → Room plan (is_reverting tool.reason) tries → Room plan false tries
  off_room tool tries off room = subst (λ (b : Bool). Room plan b tries) off room

  on_room : (tool : Tool) (tries : List ℕ) → is_reverting tool.reason ≡ false → Room plan false tries → Room plan (is_reverting tool.reason) tries
  on_room tool tries off room = subst (λ (b : Bool). Room plan b tries) (sym off) room

  copy_fits : (work : Work) (progress : Progress) (copier : Copier) (tool : Tool) → is_reverting tool.reason ≡ false → tool.tool_phase ≡ Migrating work → ToolPhaseRoom plan (is_reverting tool.reason) (Migrating work) → Fits (copy_after plan work progress copier tool)
  copy_fits work Going copier tool off at room = λ same. record { chunk = (room same).chunk; batch = (room same).batch }
  copy_fits work TaskDone copier tool off at room = λ same. record { chunk = none_yet (is_reverting tool.reason); batch = (room same).batch }
  copy_fits work TaskFailed copier tool off at room =
      fails_fit (tasks.Chunk copier.number) (work.chunk_tries ++ tool.turns ∷ []) (working (record work { copier = copier; chunk_tries = work.chunk_tries ++ tool.turns ∷ [] }) tool)
      (λ same. record { chunk = is_last work.chunk_tries tool.turns (off_room tool work.chunk_tries off (room same).chunk); batch = reverted (is_reverting tool.reason) work.batch_tries (room same).batch })
      (λ more same. record { chunk = on_room tool (work.chunk_tries ++ tool.turns ∷ []) off (not_last work.chunk_tries tool.turns (off_room tool work.chunk_tries off (room same).chunk) more); batch = (room same).batch })
  copy_fits work (Unfit place number) copier tool off at room = reverts_fit (CopyUnfit tool.turns place number) tool (tool_phase_reverted (is_reverting tool.reason) tool.tool_phase (subst (ToolPhaseRoom plan (is_reverting tool.reason)) (sym at) room))

  apply_fits : (work : Work) (progress : Progress) (applier : Applier) (tool : Tool) → is_reverting tool.reason ≡ false → tool.tool_phase ≡ Migrating work → ToolPhaseRoom plan (is_reverting tool.reason) (Migrating work) → Fits (apply_after plan work progress applier tool)
  apply_fits work Going applier tool off at room = λ same. record { chunk = (room same).chunk; batch = (room same).batch }
  apply_fits work TaskDone applier tool off at room = λ same. record { chunk = (room same).chunk; batch = none_yet (is_reverting tool.reason) }
  apply_fits work TaskFailed applier tool off at room =
      fails_fit (tasks.Batch applier.position) (work.batch_tries ++ tool.turns ∷ []) (working (record work { applier = applier; batch_tries = work.batch_tries ++ tool.turns ∷ [] }) tool)
      (λ same. record { chunk = reverted (is_reverting tool.reason) work.chunk_tries (room same).chunk; batch = is_last work.batch_tries tool.turns (off_room tool work.batch_tries off (room same).batch) })
      (λ more same. record { chunk = (room same).chunk; batch = on_room tool (work.batch_tries ++ tool.turns ∷ []) off (not_last work.batch_tries tool.turns (off_room tool work.batch_tries off (room same).batch) more) })
  apply_fits work (Unfit place number) applier tool off at room = reverts_fit (ApplyUnfit tool.turns place number) tool (tool_phase_reverted (is_reverting tool.reason) tool.tool_phase (subst (ToolPhaseRoom plan (is_reverting tool.reason)) (sym at) room))

  -- the cut-over became this one
  cut_fits : (fails : Bool) (work : Work) (cutover : CutOver) (tool : Tool) → (is_done work.cutover.phase ≡ true → is_done cutover.phase ≡ true) → ToolPhaseRoom plan (is_reverting tool.reason) (Migrating work) → Fits (attempt_after plan fails work cutover tool)
  cut_fits false work cutover tool stays room = λ same. let one = room (was_not (is_done work.cutover.phase) (is_done cutover.phase) stays same) in record { chunk = one.chunk; batch = one.batch }
  cut_fits true work cutover tool stays room =
      fails_fit tasks.CutOver (work.attempt_tries ++ tool.turns ∷ []) (working (record work { cutover = cutover; attempt_tries = work.attempt_tries ++ tool.turns ∷ [] }) tool)
      (λ same. let one = room (was_not (is_done work.cutover.phase) (is_done cutover.phase) stays same) in record { chunk = reverted (is_reverting tool.reason) work.chunk_tries one.chunk; batch = reverted (is_reverting tool.reason) work.batch_tries one.batch })
      (λ more same. let one = room (was_not (is_done work.cutover.phase) (is_done cutover.phase) stays same) in record { chunk = one.chunk; batch = one.batch })

  setup_fits : (setup : Setup) (tries : List ℕ) (answer : Answer) (tool : Tool) → is_reverting tool.reason ≡ false → Room plan (is_reverting tool.reason) tries → Fits (setup_took plan setup tries answer tool)
  setup_fits setup tries answer tool off room = by (is_bad answer) where
    of_tool_phase : (next : Setup) → ToolPhaseRoom plan (is_reverting tool.reason) (tool_phase_of plan tool.operator.size next tries)
    of_tool_phase Listing = room
    of_tool_phase (clears left) = room
    of_tool_phase MakingLog = room
    of_tool_phase MakingGhost = room
    of_tool_phase Marking = room
    of_tool_phase (Reaching position) = room
    of_tool_phase (Ready position range) = λ same. record { chunk = none_yet (is_reverting tool.reason); batch = none_yet (is_reverting tool.reason) }

    by : (b : Bool) → Fits (cond b (spends plan tasks.Setup (tries ++ tool.turns ∷ []) (record tool { tool_phase = SettingUp Listing (tries ++ tool.turns ∷ []) })) (record tool { tool_phase = tool_phase_of plan tool.operator.size (setup_after plan.table setup answer) tries }))
    by true =
        fails_fit tasks.Setup (tries ++ tool.turns ∷ []) (record tool { tool_phase = SettingUp Listing (tries ++ tool.turns ∷ []) }) (is_last tries tool.turns (off_room tool tries off room))
        (λ more. on_room tool (tries ++ tool.turns ∷ []) off (not_last tries tool.turns (off_room tool tries off room) more))
    by false = of_tool_phase (setup_after plan.table setup answer)

  unless_fits : (tool other : Tool) (b : Bool) → is_reverting tool.reason ≡ b → Fits tool → (is_reverting tool.reason ≡ false → Fits other) → Fits (cond b tool other)
  unless_fits tool other true on fits more = fits
  unless_fits tool other false off fits more = more off

  cut_over_fits : (role : Role) (answer : Answer) (work : Work) (tool : Tool) → ToolPhaseRoom plan (is_reverting tool.reason) (Migrating work) → Fits (cutover_took plan role answer work tool)
  cut_over_fits role answer work tool room = cut_fits (is_failure work.cutover.phase (cutovers.took role work.cutover answer).phase) work (cutovers.took role work.cutover answer) tool (took_done role work.cutover answer) room

  actor_fits : (actor : Actor) (answer : Answer) (tool_phase : ToolPhase) (tool : Tool) → tool.tool_phase ≡ tool_phase → Fits tool → ToolPhaseRoom plan (is_reverting tool.reason) tool_phase → Fits (actor_took plan actor answer tool_phase tool)
  actor_fits Insp answer (SettingUp setup tries) tool at fits room = unless_fits tool (setup_took plan setup tries answer tool) (is_reverting tool.reason) refl fits (λ off. setup_fits setup tries answer tool off room)
  actor_fits Insp answer (Migrating work) tool at fits room = cut_over_fits Inspector answer work tool room
  actor_fits Copy answer (SettingUp setup tries) tool at fits room = fits
  actor_fits Copy answer (Migrating work) tool at fits room =
      unless_fits tool (copy_took plan answer work tool) (is_reverting tool.reason) refl fits (λ off. copy_fits work (copiers.progress work.copier answer) (copiers.took tool.turns work.copier answer) tool off at room)
  actor_fits Apply answer (SettingUp setup tries) tool at fits room = fits
  actor_fits Apply answer (Migrating work) tool at fits room =
      unless_fits tool (apply_took plan answer work tool) (is_reverting tool.reason) refl fits (λ off. apply_fits work (appliers.progress work.applier answer) (appliers.took tool.turns work.applier answer) tool off at room)
  actor_fits Lock answer (SettingUp setup tries) tool at fits room = fits
  actor_fits Lock answer (Migrating work) tool at fits room = cut_over_fits Locker answer work tool room
  actor_fits Ren answer (SettingUp setup tries) tool at fits room = fits
  actor_fits Ren answer (Migrating work) tool at fits room = cut_over_fits Renamer answer work tool room
  actor_fits Op answer tool_phase tool at fits room = fits
  actor_fits (Client c) answer tool_phase tool at fits room = fits

  drains_fit : (tool_phase : ToolPhase) (tool : Tool) → tool.tool_phase ≡ tool_phase → Fits tool → Fits (drains plan tool_phase tool)
  unfolding cutovers.applier_turn
  drains_fit (SettingUp setup tries) tool at fits = fits
  drains_fit (Migrating work) tool at fits =
      cut_fits (is_failure work.cutover.phase (cutovers.applier_turn work.applier.hint work.cutover).phase) work (cutovers.applier_turn work.applier.hint work.cutover) tool
      (drained_done work.cutover work.applier.hint work.cutover.phase) (subst (ToolPhaseRoom plan (is_reverting tool.reason)) at fits)

  counts_fit : (actor : Actor) (tool : Tool) → Fits tool → Fits (turn_counts plan actor tool)
  counts_fit Apply tool fits = drains_fit tool.tool_phase tool refl fits
  counts_fit Op tool fits = fits
  counts_fit Insp tool fits = fits
  counts_fit Copy tool fits = fits
  counts_fit Lock tool fits = fits
  counts_fit Ren tool fits = fits
  counts_fit (Client c) tool fits = fits

  resized_fits : (word : OperatorWord) (b : Bool) (tool_phase : ToolPhase) → ToolPhaseRoom plan b tool_phase → ToolPhaseRoom plan b (resizes word tool_phase)
  resized_fits (ChunkSize size) b (SettingUp setup tries) room = room
  resized_fits (ChunkSize size) b (Migrating work) room = λ same. record { chunk = (room same).chunk; batch = (room same).batch }
  resized_fits Throttle b tool_phase room = room
  resized_fits NoThrottle b tool_phase room = room
  resized_fits Unpostpone b tool_phase room = room
  resized_fits Wait b tool_phase room = room
  resized_fits Panic b tool_phase room = room

  command_fits : (word : OperatorWord) (tool : Tool) → Fits tool → Fits (command_took word tool)
  command_fits Panic tool fits = reverts_fit (Panicked tool.turns) (record tool { operator = commanded Panic tool.operator; tool_phase = resizes Panic tool.tool_phase }) (tool_phase_reverted (is_reverting tool.reason) tool.tool_phase fits)
  command_fits Throttle tool fits = fits
  command_fits NoThrottle tool fits = fits
  command_fits Unpostpone tool fits = fits
  command_fits Wait tool fits = fits
  command_fits (ChunkSize size) tool fits = resized_fits (ChunkSize size) (is_reverting tool.reason) tool.tool_phase fits

  asked_fits : (state : State) (entry : Entry) (asked : Asked) (tool : Tool) → Fits tool → Fits (asked_took plan state entry asked tool)
  asked_fits state entry (Command word) tool fits = command_fits word tool fits
  asked_fits state entry Cut tool fits = by (has_work state entry.session) where
    by : (b : Bool) → Fits (cond b (actor_took plan entry.actor answers.Lost tool.tool_phase tool) tool)
    by true = actor_fits entry.actor answers.Lost tool.tool_phase tool refl fits fits
    by false = fits
  asked_fits state entry (Call request) tool fits = counts_fit entry.actor (actor_took plan entry.actor entry.answer tool.tool_phase tool) (actor_fits entry.actor entry.answer tool.tool_phase tool refl fits fits)
  asked_fits state entry Poll tool fits = counts_fit entry.actor (actor_took plan entry.actor entry.answer tool.tool_phase tool) (actor_fits entry.actor entry.answer tool.tool_phase tool refl fits fits)

  turns_fit : (now : Moment) (journal : List Entry) → Fits now.tool → Fits (fold (after_turn plan) now journal).tool
  unfolding took
  turns_fit now [] fits = fits
  turns_fit now (entry ∷ journal) fits = turns_fit (after_turn plan now entry) journal (asked_fits now.server entry entry.asked (record now.tool { turns = now.tool.turns + 1 }) fits)

-- *Tries are few*
pub tries_few : TriesAreFew
unfolding moment
tries_few plan journal some = turns_fit plan some (moment plan []) journal (none_yet plan some false)
