-- At most as many attempts are begun as the plan lets a task be tried: each that ends is a failed try, or all is reverted, and then no
-- other begins.
use Rattle.std.proofs.Common.{◌≡◌, ◌≤◌, ◌<◌, ◌⊎◌, ℕ, ◌+◌, ◌==◌, Bool, true, false, cond, not, ◌&&◌, List, [], ◌∷◌, ◌++◌, length, Option, Some, None, refl, sym, ap, ◌∙◌, subst, inl, inr, arith}
use Rattle.std.proofs.lemmas.Bool.{true≢false, false≢true}
use Rattle.std.proofs.lemmas.Bool.Decides.{nat_tests}
use Rattle.std.proofs.lemmas.List.{length_push}
use Rattle.base_script.specs.declared.actor.Actor.{Actor}
use Rattle.base_script.specs.declared.actor.Actor.TheVariants.{Op, Insp, Copy, Apply, Lock, Ren, Client}
use Rattle.base_script.specs.declared.operator.OperatorWord.{OperatorWord}
use Rattle.base_script.specs.declared.operator.OperatorWord.TheVariants.{Throttle, NoThrottle, ChunkSize, Unpostpone, Panic, Wait}
use Rattle.server_model.specs.Along.{Along-keeps}
use Rattle.server_model.specs.declared.answer.Answer.{Answer}
use Rattle.server_model.specs.declared.answer.Answer.TheVariants as answers
use Rattle.server_model.specs.declared.entry.Asked.{Asked}
use Rattle.server_model.specs.declared.entry.Asked.TheVariants.{Call, Poll, Command, Cut}
use Rattle.server_model.specs.declared.entry.Entry.{Entry}
use Rattle.server_model.specs.declared.outcome.Progress.{Progress}
use Rattle.server_model.specs.declared.outcome.Progress.TheVariants.{Going, TaskDone, TaskFailed, Unfit}
use Rattle.server_model.specs.declared.outcome.Task.{Task}
use Rattle.server_model.specs.declared.outcome.Task.TheVariants as tasks
use Rattle.server_model.specs.declared.request.Request.{Request}
use Rattle.server_model.specs.declared.request.Request.TheVariants as requests
use Rattle.server_model.specs.Entries.{is_cut}
use Rattle.server_model.specs.States.{State, has_work}
use Rattle.plan_data.specs.PlanData.{PlanData}
use Rattle.tool_changelog.specs.ToolTables.{sentry_schema}
use Rattle.tool_program.specs.JournalWords.Journals.{state_at, IsFaithful}
use Rattle.tool_program.specs.declared.chunk_copier.copier.Copier.{Copier}
use Rattle.tool_program.specs.declared.event_applier.applier.Applier.{Applier}
use Rattle.tool_program.specs.declared.cutover_core.cutover.Clearing.TheVariants.{Looking}
use Rattle.tool_program.specs.declared.cutover_core.cutover.CutOver.{CutOver}
use Rattle.tool_program.specs.declared.cutover_core.cutover.Phase.{Phase}
use Rattle.tool_program.specs.declared.cutover_core.cutover.Phase.TheVariants.{Resting, Attempting, Ending, Finishing, Finished}
use Rattle.tool_program.specs.declared.cutover_core.cutover.Role.TheVariants.{Inspector, Locker, Renamer}
use Rattle.tool_program.specs.declared.cutover_core.cutover.Stage.{Stage}
use Rattle.tool_program.specs.declared.cutover_core.cutover.Stage.TheVariants.{Drained}
use Rattle.tool_program.specs.declared.cutover_core.cutover.Drain.{Drain}
use Rattle.tool_program.specs.declared.cutover_core.cutover.Drain.TheVariants.{Turns}
use Rattle.tool_program.specs.CutoverCore.Attempts as attempts
use Rattle.tool_program.specs.ChunkCopier.Copiers as copiers
use Rattle.tool_program.specs.EventApplier.Appliers as appliers
use Rattle.tool_program.specs.CutoverCore.CutOvers as cutovers
use Rattle.tool_program.specs.CutoverCore.CutOvers.{is_bad, is_done, is_resting, attempts_after, begun, waits_phase, drained, inspector_phase, locker_phase, renamer_phase}
use Rattle.tool_program.specs.Operators.{commanded}
use Rattle.tool_program.specs.Programs.{tool_call, may_begin, given, Follows}
use Rattle.tool_program.specs.Setups.{Setup, Listing, Clearing, MakingLog, MakingGhost, Marking, Reaching, Ready, setup_after}
use Rattle.tool_program.specs.Tools.{ToolPhase, SettingUp, Migrating, CopyUnfit, ApplyUnfit, Panicked, Reason, Spent, Tool, Moment, Work, tool_phase_of, first_reason, reverts, spends, is_renamed, is_reverting, is_failure, stopped, working, resizes, actor_took, attempt_after, copy_after, copy_took, apply_after, apply_took, cutover_took, setup_took, drains, turn_counts, command_took, asked_took, took, moment}
use Rattle.proof_journals.specs.Machine.Machines.{ToolPhaseStands, WorkStands, PhaseHolds, held}
use Rattle.proof_journals.specs.Machine.Standings.{Standing, free, standing_in, standing_of}
use Rattle.proof_journals.proofs.Machine.Asking.{unless_called}
use Rattle.proof_journals.proofs.Machine.CuttingOver.{drain_cases}
use Rattle.proof_journals.proofs.Machine.Journals.{IsRun, all_runs, IsTogether, together_more, together_begins, Asking, calls_so, polls_so, asking}
use Rattle.proof_journals.proofs.Machine.Lifting.{first_some}
use Rattle.proof_journals.proofs.Machine.Seated.{own_session}
use Rattle.proof_journals.proofs.Machine.Tabling.{free_idle}
use Rattle.proof_journals.proofs.Sentry.Inductions.{moment_more}
use Rattle.proof_migration.proofs.ToolPhase.ToolPhaseTurns.{gives_asked}
use Rattle.proof_bounds.specs.Attempts.{AttemptsAreFew}
use Rattle.proof_bounds.proofs.Tries.{took_done, drained_done, was_not}

-- WHAT IS LEFT TO BE BEGUN

-- an attempt that may yet succeed has been begun, and hasn't failed
abbrev under_way : Phase → ℕ
under_way Resting = 0
under_way (Attempting stage) = 1
under_way (Ending clearing) = 0
under_way (Finishing clearing) = 0
under_way Finished = 0

-- of a cut-over: how often it has begun; where all is reverted none begins; and while nothing is, each but the one under way has failed
record Begun (plan : PlanData) (reverting : Bool) (phase : Phase) (begins : ℕ) (is_stopped : Bool) (tries : ℕ) : Type 0 where
  most : begins ≤ plan.options.default_retries
  stops : reverting ≡ true → is_done phase ≡ false → is_stopped ≡ true
  goes : reverting ≡ false → is_done phase ≡ false → (tries < plan.options.default_retries) × (begins ≤ tries + under_way phase)

abbrev WorkBegun : PlanData → Bool → Work → Type 0
WorkBegun plan reverting work = Begun plan reverting work.cutover.phase work.cutover.attempts work.cutover.is_stopped (length work.attempt_tries)

abbrev ToolPhaseBegun : PlanData → Bool → ToolPhase → Type 0
ToolPhaseBegun plan reverting (SettingUp setup tries) = Unit {0}
ToolPhaseBegun plan reverting (Migrating work) = WorkBegun plan reverting work

-- PHASES

at_most_one : (phase : Phase) → under_way phase ≤ 1
at_most_one Resting = omega arith
at_most_one (Attempting stage) = omega arith
at_most_one (Ending clearing) = omega arith
at_most_one (Finishing clearing) = omega arith
at_most_one Finished = omega arith

-- an attempt that is under way stays so, fails, or is done
abbrev Stays : Phase → Phase → Type 0
Stays before after = is_failure before after ≡ false → is_done after ≡ false → under_way before ≤ under_way after

ends_or : (b : Bool) (stage next : Stage) → Stays (Attempting stage) (cond b (Ending Looking) (Attempting next))
ends_or true stage next unfailed undone = absurd (true≢false unfailed)
ends_or false stage next unfailed undone = omega arith

inspector_stays : (cutover : CutOver) (phase : Phase) (answer : Answer) → Stays phase (inspector_phase cutover phase answer)
inspector_stays cutover (Attempting stage) answer unfailed undone = ends_or (is_bad answer) stage (cutovers.inspector_stage cutover.has_counter stage answer) unfailed undone
inspector_stays cutover Resting answer unfailed undone = omega arith
inspector_stays cutover (Ending clearing) answer unfailed undone = omega arith
inspector_stays cutover (Finishing clearing) answer unfailed undone = omega arith
inspector_stays cutover Finished answer unfailed undone = omega arith

locker_stays : (phase : Phase) (answer : Answer) → Stays phase (locker_phase phase answer)
locker_stays (Attempting stage) answer unfailed undone = ends_or (is_bad answer) stage (cutovers.locker_stage stage answer) unfailed undone
locker_stays Resting answer unfailed undone = omega arith
locker_stays (Ending clearing) answer unfailed undone = omega arith
locker_stays (Finishing clearing) answer unfailed undone = omega arith
locker_stays Finished answer unfailed undone = omega arith

waits_stays : (stage : Stage) → under_way (waits_phase (Attempting stage)) ≡ 1
waits_stays Drained = refl
waits_stays stage = refl

renamer_stays : (phase : Phase) (answer : Answer) → Stays phase (renamer_phase phase answer)
renamer_stays (Attempting stage) (answers.Ok count) unfailed undone = absurd (true≢false undone)
renamer_stays (Attempting stage) (answers.Waits by) unfailed undone = let one = waits_stays stage in omega (arith, one)
renamer_stays (Attempting stage) answers.Lost unfailed undone = absurd (true≢false unfailed)
renamer_stays (Attempting stage) (answers.TimedOut waited) unfailed undone = absurd (true≢false unfailed)
renamer_stays (Attempting stage) answer unfailed undone = omega arith
renamer_stays Resting answer unfailed undone = omega arith
renamer_stays (Ending clearing) answer unfailed undone = omega arith
renamer_stays (Finishing clearing) answer unfailed undone = omega arith
renamer_stays Finished answer unfailed undone = omega arith

drained_stays : (cutover : CutOver) (hint : ℕ) (phase : Phase) → Stays phase (drained cutover hint phase)
drained_stays cutover hint (Attempting stage) unfailed undone = by (cutovers.drain_of stage) unfailed undone where
  by : (drain : Option Drain) → Stays (Attempting stage) (cutovers.drains_to cutover hint stage drain)
  by (Some (Turns turns)) =
      drain_cases (Stays (Attempting stage)) cutover hint turns stage (λ same unfailed undone. omega arith) (λ unfailed undone. absurd (true≢false unfailed)) (λ unfailed undone. omega arith)
  by drain = λ unfailed undone. omega arith
drained_stays cutover hint Resting unfailed undone = omega arith
drained_stays cutover hint (Ending clearing) unfailed undone = omega arith
drained_stays cutover hint (Finishing clearing) unfailed undone = omega arith
drained_stays cutover hint Finished unfailed undone = omega arith

-- ONE TURN

module _ (plan : PlanData) (some : 1 ≤ plan.options.default_retries) where
  abbrev Fits : Tool → Type 0
  Fits tool = ToolPhaseBegun plan (is_reverting tool.reason) tool.tool_phase

  abbrev Most : ToolPhase → Type 0
  Most (SettingUp setup tries) = Unit {0}
  Most (Migrating work) = work.cutover.attempts ≤ plan.options.default_retries

  most_of : (b : Bool) (tool_phase : ToolPhase) → ToolPhaseBegun plan b tool_phase → Most tool_phase
  most_of b (SettingUp setup tries) fits = tt
  most_of b (Migrating work) fits = fits.most

  -- nothing more is said once the RENAME is done
  renamed_fits : (b : Bool) (tool_phase : ToolPhase) → is_renamed tool_phase ≡ true → Most tool_phase → ToolPhaseBegun plan b tool_phase
  renamed_fits b (SettingUp setup tries) on most = tt
  renamed_fits b (Migrating work) on most = record { most = most; stops = λ reverting off. absurd (true≢false (sym on ∙ off)); goes = λ going off. absurd (true≢false (sym on ∙ off)) }

  stopped_fits : (tool_phase : ToolPhase) → Most tool_phase → ToolPhaseBegun plan true (stopped tool_phase)
  unfolding cutovers.reverted
  stopped_fits (SettingUp setup tries) most = tt
  stopped_fits (Migrating work) most = record { most = most; stops = λ reverting off. refl; goes = λ going. absurd (true≢false going) }

  reverts_fit : (reason : Reason) (tool : Tool) → Most tool.tool_phase → Fits (reverts reason tool)
  reverts_fit reason tool most = by (is_renamed tool.tool_phase) refl where
    by : (b : Bool) → is_renamed tool.tool_phase ≡ b → Fits (cond b tool (record tool { reason = first_reason tool.reason reason; tool_phase = stopped tool.tool_phase }))
    by true on = renamed_fits (is_reverting tool.reason) tool.tool_phase on most
    by false off = subst (λ (b : Bool). ToolPhaseBegun plan b (stopped tool.tool_phase)) (sym (first_some tool.reason reason)) (stopped_fits tool.tool_phase most)

  spends_fit : (task : Task) (tries : List ℕ) (tool : Tool) → Most tool.tool_phase → ((length tries == plan.options.default_retries) ≡ false → Fits tool) → Fits (spends plan task tries tool)
  spends_fit task tries tool most more = by (length tries == plan.options.default_retries) refl where
    by : (b : Bool) → (length tries == plan.options.default_retries) ≡ b → Fits (cond b (reverts (Spent task tries) tool) tool)
    by true all = reverts_fit (Spent task tries) tool most
    by false off = more off

  -- a cut-over that follows another
  record Next (reverting : Bool) (work : Work) (cutover : CutOver) (fails : Bool) : Type 0 where
    most : cutover.attempts ≤ plan.options.default_retries
    stops : cutover.is_stopped ≡ work.cutover.is_stopped
    done : is_done work.cutover.phase ≡ true → is_done cutover.phase ≡ true
    onward : reverting ≡ false → is_done cutover.phase ≡ false → cutover.attempts ≤ length work.attempt_tries + cond fails 1 (under_way cutover.phase)

  room : (tries : List ℕ) (turn : ℕ) → length tries < plan.options.default_retries → (length (tries ++ turn ∷ []) == plan.options.default_retries) ≡ false → length (tries ++ turn ∷ []) < plan.options.default_retries
  room tries turn less off = let long = length_push tries turn in below (length (tries ++ turn ∷ [])) plan.options.default_retries (omega (arith, long, less)) off where
    below : (a b : ℕ) → a ≤ b → (a == b) ≡ false → a < b
    below a b less off = grind (arith, nat_tests, less, off)

  cut_fits : (fails : Bool) (work : Work) (cutover : CutOver) (tool : Tool) → WorkBegun plan (is_reverting tool.reason) work → Next (is_reverting tool.reason) work cutover fails → Fits (attempt_after plan fails work cutover tool)
  cut_fits false work cutover tool fits next = record {
    most = next.most;
    stops = λ reverting off. next.stops ∙ fits.stops reverting (was_not (is_done work.cutover.phase) (is_done cutover.phase) next.done off);
    goes = λ going off. let old = fits.goes going (was_not (is_done work.cutover.phase) (is_done cutover.phase) next.done off) in (old.0, next.onward going off);
  }
  cut_fits true work cutover tool fits next =
      spends_fit tasks.CutOver (work.attempt_tries ++ tool.turns ∷ []) (working (record work { cutover = cutover; attempt_tries = work.attempt_tries ++ tool.turns ∷ [] }) tool) next.most
      (λ unspent. record {
        most = next.most;
        stops = λ reverting off. next.stops ∙ fits.stops reverting (was_not (is_done work.cutover.phase) (is_done cutover.phase) next.done off);
        goes = λ going off.
            let old = fits.goes going (was_not (is_done work.cutover.phase) (is_done cutover.phase) next.done off) in
            let long = length_push work.attempt_tries tool.turns in
            let onward = next.onward going off in
            (room work.attempt_tries tool.turns old.0 unspent, omega (arith, onward, long));
      })

  -- the same number of attempts
  same_next : (b : Bool) (work : Work) (cutover : CutOver) → WorkBegun plan b work → cutover.attempts ≡ work.cutover.attempts → cutover.is_stopped ≡ work.cutover.is_stopped → (is_done work.cutover.phase ≡ true → is_done cutover.phase ≡ true) → Stays work.cutover.phase cutover.phase
      → Next b work cutover (is_failure work.cutover.phase cutover.phase)
  same_next b work cutover fits same stops done stays = record {
    most = let most = fits.most in omega (arith, same, most);
    stops = stops;
    done = done;
    onward = λ going off.
        let old = (fits.goes going (was_not (is_done work.cutover.phase) (is_done cutover.phase) done off)).1 in
        by (is_failure work.cutover.phase cutover.phase) refl off old;
  } where
    by : (fails : Bool) → is_failure work.cutover.phase cutover.phase ≡ fails → is_done cutover.phase ≡ false → work.cutover.attempts ≤ length work.attempt_tries + under_way work.cutover.phase → cutover.attempts ≤ length work.attempt_tries + cond fails 1 (under_way cutover.phase)
    by true failed_so off old = let one = at_most_one work.cutover.phase in omega (arith, same, old, one)
    by false unfailed off old = let more = stays unfailed off in omega (arith, same, old, more)

  inspector_fits : (answer : Answer) (work : Work) (tool : Tool) → WorkBegun plan (is_reverting tool.reason) work → Fits (cutover_took plan Inspector answer work tool)
  unfolding cutovers.took
  inspector_fits answer work tool fits =
      cut_fits (is_failure work.cutover.phase (cutovers.took Inspector work.cutover answer).phase) work (cutovers.took Inspector work.cutover answer) tool fits
      (same_next (is_reverting tool.reason) work (cutovers.took Inspector work.cutover answer) fits refl refl (took_done Inspector work.cutover answer) (inspector_stays work.cutover work.cutover.phase answer))

  renamer_fits : (answer : Answer) (work : Work) (tool : Tool) → WorkBegun plan (is_reverting tool.reason) work → Fits (cutover_took plan Renamer answer work tool)
  unfolding cutovers.took
  renamer_fits answer work tool fits =
      cut_fits (is_failure work.cutover.phase (cutovers.took Renamer work.cutover answer).phase) work (cutovers.took Renamer work.cutover answer) tool fits
      (same_next (is_reverting tool.reason) work (cutovers.took Renamer work.cutover answer) fits refl refl (took_done Renamer work.cutover answer) (renamer_stays work.cutover.phase answer))

  -- the sentry's CREATE begins one attempt more, while nothing is reverted
  begun_onward : (answer : Answer) (begins tries : ℕ) → begins ≤ tries → begins + 1 ≤ tries + cond (is_failure Resting (begun answer)) 1 (under_way (begun answer))
  begun_onward (answers.Ok count) begins tries less = omega (arith, less)
  begun_onward (answers.Waits by) begins tries less = omega (arith, less)
  begun_onward answer begins tries less = omega (arith, less)

  begins_next : (answer : Answer) (work : Work) (b : Bool) → work.cutover.phase ≡ Resting → (b ≡ true → ⊥) → WorkBegun plan b work → Next b work (cutovers.took Locker work.cutover answer) (is_failure work.cutover.phase (cutovers.took Locker work.cutover answer).phase)
  unfolding cutovers.took
  begins_next answer work b resting unstopped fits = record {
    most = let old = before going in let one = ap (λ (p : Phase). attempts_after p work.cutover.attempts) resting in omega (arith, old.0, old.1, one);
    stops = refl;
    done = λ done. absurd (false≢true (sym (ap is_done resting) ∙ done));
    onward = λ onward off.
        subst (λ (p : Phase). attempts_after p work.cutover.attempts ≤ length work.attempt_tries + cond (is_failure p (locker_phase p answer)) 1 (under_way (locker_phase p answer))) (sym resting)
        (begun_onward answer work.cutover.attempts (length work.attempt_tries) (before going).0);
  } where
    going : b ≡ false
    going = by b refl where
      by : (c : Bool) → b ≡ c → b ≡ false
      by true on = absurd (unstopped on)
      by false off = off

    before : b ≡ false → (work.cutover.attempts ≤ length work.attempt_tries) × (length work.attempt_tries < plan.options.default_retries)
    before off = let old = fits.goes off (ap is_done resting) in let under = ap under_way resting in let most = old.1 in (omega (arith, most, under), old.0)

  -- a turn of the locker's, which is none where all is reverted and none stands
  abbrev MayBegin : Bool → Work → Type 0
  MayBegin b work = work.cutover.phase ≡ Resting → b ≡ true → ⊥

  resting_or : (phase : Phase) → (phase ≡ Resting) ⊎ (is_resting phase ≡ false)
  resting_or Resting = inl refl
  resting_or (Attempting stage) = inr refl
  resting_or (Ending cleared) = inr refl
  resting_or (Finishing cleared) = inr refl
  resting_or Finished = inr refl

  not_begun : (phase : Phase) (begins : ℕ) → is_resting phase ≡ false → attempts_after phase begins ≡ begins
  not_begun Resting begins off = absurd (true≢false off)
  not_begun (Attempting stage) begins off = refl
  not_begun (Ending cleared) begins off = refl
  not_begun (Finishing cleared) begins off = refl
  not_begun Finished begins off = refl

  locker_fits : (answer : Answer) (work : Work) (tool : Tool) → MayBegin (is_reverting tool.reason) work → WorkBegun plan (is_reverting tool.reason) work → Fits (cutover_took plan Locker answer work tool)
  unfolding cutovers.took
  locker_fits answer work tool may fits = cut_fits (is_failure work.cutover.phase (cutovers.took Locker work.cutover answer).phase) work (cutovers.took Locker work.cutover answer) tool fits (by (resting_or work.cutover.phase)) where
    by : (work.cutover.phase ≡ Resting) ⊎ (is_resting work.cutover.phase ≡ false) → Next (is_reverting tool.reason) work (cutovers.took Locker work.cutover answer) (is_failure work.cutover.phase (cutovers.took Locker work.cutover answer).phase)
    by (inl resting) = begins_next answer work (is_reverting tool.reason) resting (may resting) fits
    by (inr off) =
        same_next (is_reverting tool.reason) work (cutovers.took Locker work.cutover answer) fits (not_begun work.cutover.phase work.cutover.attempts off) refl (took_done Locker work.cutover answer) (locker_stays work.cutover.phase answer)

  copy_fits : (work : Work) (progress : Progress) (copier : Copier) (tool : Tool) → tool.tool_phase ≡ Migrating work → WorkBegun plan (is_reverting tool.reason) work → Fits (copy_after plan work progress copier tool)
  copy_fits work Going copier tool at fits = fits
  copy_fits work TaskDone copier tool at fits = fits
  copy_fits work TaskFailed copier tool at fits = spends_fit (tasks.Chunk copier.number) (work.chunk_tries ++ tool.turns ∷ []) (working (record work { copier = copier; chunk_tries = work.chunk_tries ++ tool.turns ∷ [] }) tool) fits.most (λ more. fits)
  copy_fits work (Unfit place number) copier tool at fits = reverts_fit (CopyUnfit tool.turns place number) tool (subst Most (sym at) fits.most)

  apply_fits : (work : Work) (progress : Progress) (applier : Applier) (tool : Tool) → tool.tool_phase ≡ Migrating work → WorkBegun plan (is_reverting tool.reason) work → Fits (apply_after plan work progress applier tool)
  apply_fits work Going applier tool at fits = fits
  apply_fits work TaskDone applier tool at fits = fits
  apply_fits work TaskFailed applier tool at fits = spends_fit (tasks.Batch applier.position) (work.batch_tries ++ tool.turns ∷ []) (working (record work { applier = applier; batch_tries = work.batch_tries ++ tool.turns ∷ [] }) tool) fits.most (λ more. fits)
  apply_fits work (Unfit place number) applier tool at fits = reverts_fit (ApplyUnfit tool.turns place number) tool (subst Most (sym at) fits.most)

  -- the setup is over: no attempt is begun, and nothing is reverted
  setup_fits : (setup : Setup) (tries : List ℕ) (answer : Answer) (tool : Tool) → is_reverting tool.reason ≡ false → Fits (setup_took plan setup tries answer tool)
  setup_fits setup tries answer tool going = by (is_bad answer) where
    of_tool_phase : (next : Setup) → ToolPhaseBegun plan (is_reverting tool.reason) (tool_phase_of plan tool.operator.size next tries)
    of_tool_phase Listing = tt
    of_tool_phase (Clearing left) = tt
    of_tool_phase MakingLog = tt
    of_tool_phase MakingGhost = tt
    of_tool_phase Marking = tt
    of_tool_phase (Reaching position) = tt
    of_tool_phase (Ready position range) = record { most = omega arith; stops = λ reverting. absurd (true≢false (sym reverting ∙ going)); goes = λ onward off. (omega (arith, some), omega arith) }

    by : (b : Bool) → Fits (cond b (spends plan tasks.Setup (tries ++ tool.turns ∷ []) (record tool { tool_phase = SettingUp Listing (tries ++ tool.turns ∷ []) })) (record tool { tool_phase = tool_phase_of plan tool.operator.size (setup_after plan.table setup answer) tries }))
    by true = spends_fit tasks.Setup (tries ++ tool.turns ∷ []) (record tool { tool_phase = SettingUp Listing (tries ++ tool.turns ∷ []) }) tt (λ more. tt)
    by false = of_tool_phase (setup_after plan.table setup answer)

  unless_fits : (tool other : Tool) (b : Bool) → is_reverting tool.reason ≡ b → Fits tool → (is_reverting tool.reason ≡ false → Fits other) → Fits (cond b tool other)
  unless_fits tool other true on fits more = fits
  unless_fits tool other false off fits more = more off

  -- where the actor is the locker
  abbrev ActorMay : Actor → Bool → ToolPhase → Type 0
  ActorMay actor b tool_phase = (work : Work) → actor ≡ Lock → tool_phase ≡ Migrating work → MayBegin b work

  actor_fits : (actor : Actor) (answer : Answer) (tool_phase : ToolPhase) (tool : Tool) → tool.tool_phase ≡ tool_phase → ActorMay actor (is_reverting tool.reason) tool_phase → Fits tool → ToolPhaseBegun plan (is_reverting tool.reason) tool_phase → Fits (actor_took plan actor answer tool_phase tool)
  actor_fits Insp answer (SettingUp setup tries) tool at may fits room = unless_fits tool (setup_took plan setup tries answer tool) (is_reverting tool.reason) refl fits (λ off. setup_fits setup tries answer tool off)
  actor_fits Insp answer (Migrating work) tool at may fits room = inspector_fits answer work tool room
  actor_fits Copy answer (SettingUp setup tries) tool at may fits room = fits
  actor_fits Copy answer (Migrating work) tool at may fits room =
      unless_fits tool (copy_took plan answer work tool) (is_reverting tool.reason) refl fits (λ off. copy_fits work (copiers.progress work.copier answer) (copiers.took tool.turns work.copier answer) tool at room)
  actor_fits Apply answer (SettingUp setup tries) tool at may fits room = fits
  actor_fits Apply answer (Migrating work) tool at may fits room =
      unless_fits tool (apply_took plan answer work tool) (is_reverting tool.reason) refl fits (λ off. apply_fits work (appliers.progress work.applier answer) (appliers.took tool.turns work.applier answer) tool at room)
  actor_fits Lock answer (SettingUp setup tries) tool at may fits room = fits
  actor_fits Lock answer (Migrating work) tool at may fits room = locker_fits answer work tool (may work refl refl) room
  actor_fits Ren answer (SettingUp setup tries) tool at may fits room = fits
  actor_fits Ren answer (Migrating work) tool at may fits room = renamer_fits answer work tool room
  actor_fits Op answer tool_phase tool at may fits room = fits
  actor_fits (Client c) answer tool_phase tool at may fits room = fits

  drains_fit : (tool_phase : ToolPhase) (tool : Tool) → tool.tool_phase ≡ tool_phase → Fits tool → Fits (drains plan tool_phase tool)
  unfolding cutovers.applier_turn
  drains_fit (SettingUp setup tries) tool at fits = fits
  drains_fit (Migrating work) tool at fits =
      let old : WorkBegun plan (is_reverting tool.reason) work = subst (ToolPhaseBegun plan (is_reverting tool.reason)) at fits in
      cut_fits (is_failure work.cutover.phase (cutovers.applier_turn work.applier.hint work.cutover).phase) work (cutovers.applier_turn work.applier.hint work.cutover) tool old
      (same_next (is_reverting tool.reason) work (cutovers.applier_turn work.applier.hint work.cutover) old refl refl (drained_done work.cutover work.applier.hint work.cutover.phase) (drained_stays work.cutover work.applier.hint work.cutover.phase))

  counts_fit : (actor : Actor) (tool : Tool) → Fits tool → Fits (turn_counts plan actor tool)
  counts_fit Apply tool fits = drains_fit tool.tool_phase tool refl fits
  counts_fit Op tool fits = fits
  counts_fit Insp tool fits = fits
  counts_fit Copy tool fits = fits
  counts_fit Lock tool fits = fits
  counts_fit Ren tool fits = fits
  counts_fit (Client c) tool fits = fits

  resized_fits : (size : ℕ) (b : Bool) (tool_phase : ToolPhase) → ToolPhaseBegun plan b tool_phase → ToolPhaseBegun plan b (resizes (ChunkSize size) tool_phase)
  resized_fits size b (SettingUp setup tries) fits = tt
  resized_fits size b (Migrating work) fits = fits

  command_fits : (word : OperatorWord) (tool : Tool) → Fits tool → Fits (command_took word tool)
  command_fits Panic tool fits = reverts_fit (Panicked tool.turns) (record tool { operator = commanded Panic tool.operator; tool_phase = resizes Panic tool.tool_phase }) (most_of (is_reverting tool.reason) tool.tool_phase fits)
  command_fits Throttle tool fits = fits
  command_fits NoThrottle tool fits = fits
  command_fits Unpostpone tool fits = fits
  command_fits Wait tool fits = fits
  command_fits (ChunkSize size) tool fits = resized_fits size (is_reverting tool.reason) tool.tool_phase fits

  asked_fits : (state : State) (entry : Entry) (asked : Asked) (tool : Tool) → ((asked ≡ Cut → has_work state entry.session ≡ true) → ActorMay entry.actor (is_reverting tool.reason) tool.tool_phase) → Fits tool → Fits (asked_took plan state entry asked tool)
  asked_fits state entry (Command word) tool may fits = command_fits word tool fits
  asked_fits state entry Cut tool may fits = by (has_work state entry.session) refl where
    by : (b : Bool) → has_work state entry.session ≡ b → Fits (cond b (actor_took plan entry.actor answers.Lost tool.tool_phase tool) tool)
    by true worked = actor_fits entry.actor answers.Lost tool.tool_phase tool refl (may (λ cut. worked)) fits fits
    by false idle = fits
  asked_fits state entry (Call request) tool may fits =
      counts_fit entry.actor (actor_took plan entry.actor entry.answer tool.tool_phase tool) (actor_fits entry.actor entry.answer tool.tool_phase tool refl (may (λ cut. no cut)) fits fits) where
        no : {A : Type 0} → Call request ≡ Cut → A
        no same = absurd cc
  asked_fits state entry Poll tool may fits =
      counts_fit entry.actor (actor_took plan entry.actor entry.answer tool.tool_phase tool) (actor_fits entry.actor entry.answer tool.tool_phase tool refl (may (λ cut. no cut)) fits fits) where
        no : {A : Type 0} → Poll ≡ Cut → A
        no same = absurd cc

  -- THE LOCKER'S TURNS

  record IsBegun (journal : List Entry) : Type 0 where
    together : IsTogether plan journal
    fits : Fits (moment plan journal).tool

  module _ (journal : List Entry) (entry : Entry) (run : IsRun plan journal entry) (is : IsBegun journal) where
    abbrev now : Moment
    now = moment plan journal

    -- at rest the locker has nothing, and once all is reverted isn't asked
    lock_may : (work : Work) → entry.actor ≡ Lock → now.tool.tool_phase ≡ Migrating work → (entry.asked ≡ Cut → has_work now.server entry.session ≡ true) → MayBegin (is_reverting now.tool.reason) work
    unfolding given attempts.next
    lock_may work same eq worked resting reverting = by entry.asked refl where
      stands : WorkStands journal (is_reverting now.tool.reason) (standing_of plan journal) work
      stands = subst (ToolPhaseStands journal (standing_of plan journal) (is_reverting now.tool.reason)) eq is.together.stands

      nothing : standing_of plan journal Lock ≡ free
      nothing = stands.locker ∙ ap (held work.cutover.table) (subst (λ (p : Phase). PhaseHolds p work.cutover.hold) resting stands.phase)

      stopped_so : work.cutover.is_stopped ≡ true
      stopped_so = (subst (ToolPhaseBegun plan (is_reverting now.tool.reason)) eq is.fits).stops reverting (ap is_done resting)

      none_called : (request : Request) → attempts.locker_call work.cutover work.cutover.phase ≡ Some request → ⊥
      none_called request call = no (sym (ap (attempts.locker_call work.cutover) resting ∙ ap (λ (b : Bool). cond b None (Some (requests.Create (sentry_schema work.cutover.table)))) stopped_so) ∙ call) where
        no : None ≡ Some request → ⊥
        no both = cc

      asked_none : Asking plan journal Lock entry.asked → ⊥
      asked_none (calls_so request asks idle call) =
          none_called request
          (unless_called (is_resting work.cutover.phase && not (may_begin plan now.server now.tool work)) (attempts.next Locker work.cutover) request (ap (λ (c : ToolPhase). tool_call plan now.server journal now.tool c Lock) (sym eq) ∙ call))
      asked_none (polls_so request asks some) = no (sym (ap (λ (s : Standing). s.waits) nothing) ∙ some) where
        no : None ≡ Some request → ⊥
        no both = cc

      heard : (entry.asked ≡ Cut → ⊥) → ⊥
      heard uncut = asked_none (asking plan journal Lock entry.asked is.together.server (subst (λ (a : Actor). given plan journal a ≡ Some entry.asked) same (gives_asked plan journal entry entry.asked run.followed.given refl uncut)))

      by : (asked : Asked) → entry.asked ≡ asked → ⊥
      by Cut cut =
          true≢false (sym (worked cut) ∙ ap (λ (s : State). has_work s entry.session) is.together.server
          ∙ free_idle (state_at plan journal) entry.session (ap (standing_in (state_at plan journal)) (sym (own_session plan journal entry is.together.known (record { answered = run.answered; seated = record { session = run.followed.session } }) (ap is_cut cut))) ∙ ap (standing_of plan journal) same ∙ nothing))
      by (Call request) asks = heard (λ cut. let no : Call request ≡ Cut = sym asks ∙ cut in cc)
      by Poll asks = heard (λ cut. let no : Poll ≡ Cut = sym asks ∙ cut in cc)
      by (Command word) asks = heard (λ cut. let no : Command word ≡ Cut = sym asks ∙ cut in cc)

    begun_more : IsBegun (journal ++ entry ∷ [])
    unfolding took
    begun_more = record {
      together = together_more plan journal entry is.together run;
      fits = subst (λ (m : Moment). Fits m.tool) (sym (moment_more plan journal entry))
          (asked_fits now.server entry entry.asked (record now.tool { turns = now.tool.turns + 1 }) (λ worked work same eq. lock_may work same eq worked) is.fits);
    }

  begun_begins : IsBegun []
  unfolding moment
  begun_begins = record { together = together_begins plan; fits = tt }

all_begun : (plan : PlanData) (some : 1 ≤ plan.options.default_retries) (journal : List Entry) → IsFaithful plan journal → Follows plan journal → IsBegun plan some journal
unfolding Follows
all_begun plan some journal faithful follows = Along-keeps (IsRun plan) (IsBegun plan some) (λ before entry run is. begun_more plan some before entry run is) [] journal (all_runs plan [] journal faithful follows) (begun_begins plan some)

-- *Attempts are few*
pub attempts_few : AttemptsAreFew
attempts_few plan journal work some faithful follows eq = (subst (ToolPhaseBegun plan (is_reverting (moment plan journal).tool.reason)) eq (all_begun plan some journal faithful follows).fits).most

-- *Attempts are left*: while nothing is reverted, and until the RENAME is known to be done, fewer have failed than the plan lets
pub attempts_left : (plan : PlanData) (journal : List Entry) (work : Work) → 1 ≤ plan.options.default_retries → IsFaithful plan journal → Follows plan journal → (moment plan journal).tool.tool_phase ≡ Migrating work → is_reverting (moment plan journal).tool.reason ≡ false → is_done work.cutover.phase ≡ false
    → length work.attempt_tries < plan.options.default_retries
attempts_left plan journal work some faithful follows eq going undone =
    ((subst (ToolPhaseBegun plan (is_reverting (moment plan journal).tool.reason)) eq (all_begun plan some journal faithful follows).fits).goes going undone).0
