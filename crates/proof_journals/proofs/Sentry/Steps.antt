-- *The sentry relation stands behind every entry of a journal*: one turn of each actor, and the induction.
use Rattle.std.proofs.Common.{◌≡◌, ℕ, Bool, true, false, cond, List, Some, None, refl, sym, subst, inl, inr}
use Rattle.std.specs.Prelude.{◌⊎◌}
use Rattle.base_script.specs.declared.actor.Actor.{Actor}
use Rattle.base_script.specs.declared.actor.Actor.TheVariants.{Op, Insp, Copy, Apply, Lock, Ren, Client}
use Rattle.base_script.specs.declared.operator.OperatorWord.{OperatorWord}
use Rattle.base_script.specs.declared.operator.OperatorWord.TheVariants.{ChunkSize, Throttle, NoThrottle, Unpostpone, Panic, Wait}
use Rattle.tool_program.specs.ChunkCopier.Copiers as copiers
use Rattle.tool_program.specs.EventApplier.Appliers as appliers
use Rattle.proof_journals.specs.Sentry.Sentries.{scene, HasTurned, IsDraining}
use Rattle.proof_journals.specs.Sentry.TurnResults.{Holds, ToolPhaseHolds, LockerTurn, RenamerTurn, InspectorTurn, OtherTurn, WorkTurn}
use Rattle.proof_journals.proofs.Sentry.Guarding.{others_keep}
use Rattle.proof_journals.proofs.Sentry.Fitting.{locker_fits, revert_fits}
use Rattle.proof_journals.proofs.Sentry.LockerTurns.{revert_guards}
use Rattle.proof_journals.proofs.Sentry.OtherTurns.{next_both, applier_guards}
use Rattle.proof_journals.proofs.Sentry.RenamerTurns.{rests_keep, renamer_guards, renamer_fits, after_renamer}
use Rattle.proof_journals.proofs.Sentry.InspectorTurns.{inspector_turn, inspector_fits, drained_fits}
use Rattle.proof_journals.proofs.Sentry.Working.{guards_of, locker_is, renamer_is, locker_turn, locker_stands, renamer_stands, inspector_stands, ended_stands, drained_stands}
use Rattle.proof_journals.proofs.Sentry.Lifting.{reverts_keeps, attempt_keeps, copy_keeps, apply_keeps}
use Rattle.server_model.specs.declared.answer.Answer.{Answer}
use Rattle.server_model.specs.declared.entry.Entry.{Entry}
use Rattle.server_model.specs.Entries.{same_actor}
use Rattle.server_model.specs.States.{State}
use Rattle.plan_data.specs.PlanData.{PlanData}
use Rattle.tool_program.specs.declared.chunk_copier.copier.Copier.{Copier}
use Rattle.tool_program.specs.declared.event_applier.applier.Applier.{Applier}
use Rattle.tool_program.specs.declared.cutover_core.cutover.CutOver.{CutOver}
use Rattle.tool_program.specs.declared.cutover_core.cutover.Phase.{Phase}
use Rattle.tool_program.specs.declared.cutover_core.cutover.Phase.TheVariants.{Resting, Attempting, Ending, Finishing, Finished}
use Rattle.tool_program.specs.declared.cutover_core.cutover.Role.TheVariants.{Inspector, Locker, Renamer}
use Rattle.tool_program.specs.declared.cutover_core.cutover.Stage.TheVariants.{Guarding, Locking, Hinting, ReadingCounter, SettingCounter, Draining, Drained, Showing, Dropping, Unlocking, Exchanging}
use Rattle.tool_program.specs.CutoverCore.CutOvers.{took, reverted, applier_turn, stands, ended, inspector_took, renamer_took}
use Rattle.tool_program.specs.Operators.{commanded}
use Rattle.tool_program.specs.Tools.{Work, ToolPhase, Tool, stopped, is_reverting, is_failure, copy_took, apply_took, drains, actor_took, turn_counts, resizes, command_took}
use Rattle.tool_program.specs.Tools.ToolPhase.{SettingUp, Migrating}
use Rattle.tool_program.specs.Tools.Reason.{Panicked}

-- a revert keeps the relation
pub stops : (plan : PlanData) (state : State) (l r : ℕ) (tool_phase : ToolPhase) → ToolPhaseHolds plan state l r tool_phase → ToolPhaseHolds plan state l r (stopped tool_phase)
unfolding reverted
stops plan state l r (SettingUp setup tries) at = tt
stops plan state l r (Migrating work) at =
    let c : CutOver = work.cutover in
    record {
      fits = revert_fits c.phase c.hold c.renamer_waits at.fits;
      copied = λ is. at.copied (ended_stands c.phase is);
      guards = guards_of plan.table l r (scene state) work.copier work.applier c (reverted c) (reverted c).phase refl refl refl (revert_guards plan.table l r (scene state) work.copier work.applier c c.phase at.fits at.guards);
    }

-- THE ACTORS

lock_holds : (plan : PlanData) (before after : State) (l r s : ℕ) (work : Work) (answer : Answer) → Holds plan before l r work → LockerTurn plan before after l r work (Some answer) s → (tries : List ℕ) → Holds plan after s r (record work { cutover = took Locker work.cutover answer; attempt_tries = tries })
unfolding took
lock_holds plan before after l r s work answer at turn tries =
    let c : CutOver = work.cutover in
    record {
      fits = locker_fits c.phase c.hold c.renamer_waits answer at.fits turn.may;
      copied = λ is. by (locker_stands c.phase answer is);
      guards = locker_turn plan.table s r (scene before) (scene after) work.copier work.applier c answer (locker_is plan.table l s r (scene before) work.copier work.applier c c.phase turn.same at.guards) at.fits turn.may turn.serves;
    }
  where
    by : (stands work.cutover.phase ≡ true) ⊎ (work.cutover.phase ≡ Resting) → work.copier.is_copied ≡ true
    by (inl is) = at.copied is
    by (inr is) = turn.copied is

ren_holds : (plan : PlanData) (before after : State) (l r s : ℕ) (work : Work) (answer : Answer) → Holds plan before l r work → RenamerTurn plan before after l r work (Some answer) s → (tries : List ℕ) → Holds plan after l s (record work { cutover = took Renamer work.cutover answer; attempt_tries = tries })
unfolding took
ren_holds plan before after l r s work answer at turn tries =
    let c : CutOver = work.cutover in
    record {
      fits = renamer_fits plan.table s (scene before) (scene after) c.phase c.hold c.renamer_waits answer at.fits turn.may turn.serves;
      copied = λ is. at.copied (renamer_stands c.phase answer is);
      guards = guards_of plan.table l s (scene after) work.copier work.applier (after_renamer c answer) (renamer_took c answer) (renamer_took c answer).phase refl refl refl
          (renamer_guards plan.table l s (scene before) (scene after) work.copier work.applier c c.phase answer turn.apart (renamer_is plan.table l r s (scene before) work.copier work.applier c c.phase turn.same at.guards) at.fits turn.may turn.serves);
    }

insp_holds : (plan : PlanData) (before after : State) (l r s : ℕ) (work : Work) (answer : Answer) → Holds plan before l r work → InspectorTurn plan before after l r work (Some answer) s → (tries : List ℕ) → Holds plan after l r (record work { cutover = took Inspector work.cutover answer; attempt_tries = tries })
unfolding took
insp_holds plan before after l r s work answer at turn tries =
    let c : CutOver = work.cutover in
    record {
      fits = inspector_fits c c.phase answer c.hold c.renamer_waits turn.may at.fits;
      copied = λ is. at.copied (inspector_stands c c.phase answer is);
      guards = guards_of plan.table l r (scene after) work.copier work.applier c (inspector_took c answer) (inspector_took c answer).phase refl refl refl
          (inspector_turn plan.table l r s (scene before) (scene after) work.copier work.applier c c.phase answer turn.apart.locks turn.apart.renames turn.turn turn.writes at.fits turn.may at.guards);
    }

-- another session's turn
other_holds : (plan : PlanData) (before after : State) (l r s : ℕ) (work : Work) → Holds plan before l r work → OtherTurn plan before after l r s → Holds plan after l r work
other_holds plan before after l r s work at turn =
    record { fits = at.fits; copied = at.copied; guards = others_keep plan.table r s l (scene before) (scene after) turn.1 work.copier work.applier work.cutover turn.0.locks turn.0.renames work.cutover.phase at.guards }

copier_holds : (plan : PlanData) (after : State) (l r : ℕ) (work : Work) (copier : Copier) → Holds plan after l r work → (work.copier.is_copied ≡ true → copier.is_copied ≡ true) → (tries : List ℕ) → Holds plan after l r (record work { copier = copier; chunk_tries = tries })
copier_holds plan after l r work copier at stays tries =
    record {
      fits = at.fits;
      copied = λ is. stays (at.copied is);
      guards = next_both plan.table l r (scene after) work.copier copier work.applier work.applier work.cutover (λ d. record { copied = stays d.copied; applied = d.applied; within = d.within; idle = d.idle }) work.cutover.phase at.guards;
    }

-- with what the drain reads
abbrev Turned : PlanData → State → ℕ → ℕ → ToolPhase → Type 0
Turned plan state l r (SettingUp setup tries) = Unit {0}
Turned plan state l r (Migrating work) = Holds plan state l r work × HasTurned plan.table (scene state) work.copier work.applier work.applier work.cutover.attempts work.cutover.phase

turned_stops : (plan : PlanData) (state : State) (l r : ℕ) (tool_phase : ToolPhase) → Turned plan state l r tool_phase → Turned plan state l r (stopped tool_phase)
unfolding reverted
turned_stops plan state l r (SettingUp setup tries) at = tt
turned_stops plan state l r (Migrating work) at = (stops plan state l r (Migrating work) at.0, record { knows = at.1.knows; within = at.1.within; idle = λ is. absurd (none work.cutover.phase is); stays = at.1.stays })
  where
    none : (phase : Phase) → IsDraining (ended phase) → ⊥
    none Resting is = is
    none (Attempting Guarding) is = is
    none (Attempting Locking) is = is
    none (Attempting Hinting) is = is
    none (Attempting (Draining turns)) is = is
    none (Attempting (ReadingCounter drain)) is = is
    none (Attempting (SettingCounter number drain)) is = is
    none (Attempting Drained) is = is
    none (Attempting Showing) is = is
    none (Attempting Dropping) is = is
    none (Attempting Unlocking) is = is
    none (Attempting Exchanging) is = is
    none (Ending clearing) is = is
    none (Finishing clearing) is = is
    none Finished is = is

applier_holds : (plan : PlanData) (after : State) (l r : ℕ) (work : Work) (applier : Applier) → Holds plan after l r work → HasTurned plan.table (scene after) work.copier work.applier applier work.cutover.attempts work.cutover.phase → (tries : List ℕ) → Turned plan after l r (Migrating (record work { applier = applier; batch_tries = tries }))
applier_holds plan after l r work applier at turned tries = (
  record { fits = at.fits; copied = at.copied; guards = next_both plan.table l r (scene after) work.copier work.copier work.applier applier work.cutover turned.stays work.cutover.phase at.guards },
  record { knows = turned.knows; within = turned.within; idle = turned.idle; stays = λ d. d },
)

drains_holds : (plan : PlanData) (after : State) (l r : ℕ) (tool_phase : ToolPhase) (tool : Tool) → tool.tool_phase ≡ tool_phase → Turned plan after l r tool_phase → ToolPhaseHolds plan after l r (drains plan tool_phase tool).tool_phase
unfolding applier_turn
drains_holds plan after l r (SettingUp setup tries) tool is at = subst (ToolPhaseHolds plan after l r) (sym is) tt
drains_holds plan after l r (Migrating work) tool is at =
    attempt_keeps (ToolPhaseHolds plan after l r) (stops plan after l r) plan (is_failure work.cutover.phase (applier_turn work.applier.hint work.cutover).phase) work (applier_turn work.applier.hint work.cutover) tool now
  where
    now : (tries : List ℕ) → Holds plan after l r (record work { cutover = applier_turn work.applier.hint work.cutover; attempt_tries = tries })
    now tries =
        record {
          fits = drained_fits work.cutover work.applier.hint work.cutover.phase work.cutover.hold work.cutover.renamer_waits at.0.fits;
          copied = λ so. at.0.copied (drained_stands work.cutover work.applier.hint work.cutover.phase so);
          guards = guards_of plan.table l r (scene after) work.copier work.applier work.cutover (applier_turn work.applier.hint work.cutover) (applier_turn work.applier.hint work.cutover).phase refl refl refl
              (applier_guards plan.table l r (scene after) work.copier work.applier work.applier work.cutover work.cutover.phase at.1 at.0.copied at.0.fits at.0.guards);
        }

-- the locker's session, and the renamer's, behind a turn of an actor
abbrev pub locker_next : Actor → ℕ → ℕ → ℕ
locker_next actor l s = cond (same_actor actor Lock) s l

abbrev pub renamer_next : Actor → ℕ → ℕ → ℕ
renamer_next actor r s = cond (same_actor actor Ren) s r

-- an actor was answered; behind the applier's turn comes the drain where the turn counts
pub actor_holds : (plan : PlanData) (before after : State) (l r : ℕ) (work : Work) (tool : Tool) (entry : Entry) (actor : Actor) (answer : Answer) → tool.tool_phase ≡ Migrating work → Holds plan before l r work → WorkTurn plan before after l r work tool.turns entry actor (Some answer)
    → ToolPhaseHolds plan after (locker_next actor l entry.session) (renamer_next actor r entry.session) (actor_took plan actor answer (Migrating work) tool).tool_phase
actor_holds plan before after l r work tool entry Lock answer is at turn =
    attempt_keeps (ToolPhaseHolds plan after entry.session r) (stops plan after entry.session r) plan (is_failure work.cutover.phase (took Locker work.cutover answer).phase) work (took Locker work.cutover answer) tool (lock_holds plan before after l r entry.session work answer at turn)
actor_holds plan before after l r work tool entry Ren answer is at turn =
    attempt_keeps (ToolPhaseHolds plan after l entry.session) (stops plan after l entry.session) plan (is_failure work.cutover.phase (took Renamer work.cutover answer).phase) work (took Renamer work.cutover answer) tool (ren_holds plan before after l r entry.session work answer at turn)
actor_holds plan before after l r work tool entry Insp answer is at turn =
    attempt_keeps (ToolPhaseHolds plan after l r) (stops plan after l r) plan (is_failure work.cutover.phase (took Inspector work.cutover answer).phase) work (took Inspector work.cutover answer) tool (insp_holds plan before after l r entry.session work answer at turn)
actor_holds plan before after l r work tool entry Copy answer is at turn = by (is_reverting tool.reason)
  where
    same : ToolPhaseHolds plan after l r tool.tool_phase
    same = subst (ToolPhaseHolds plan after l r) (sym is) (other_holds plan before after l r entry.session work at turn.0)

    by : (b : Bool) → ToolPhaseHolds plan after l r (cond b tool (copy_took plan answer work tool)).tool_phase
    by true = same
    by false = copy_keeps (ToolPhaseHolds plan after l r) (stops plan after l r) plan work (copiers.progress work.copier answer) (copiers.took tool.turns work.copier answer) tool same
        (copier_holds plan after l r work (copiers.took tool.turns work.copier answer) (other_holds plan before after l r entry.session work at turn.0) turn.1)
actor_holds plan before after l r work tool entry Apply answer is at turn = by (is_reverting tool.reason)
  where
    now : Holds plan after l r work
    now = other_holds plan before after l r entry.session work at turn.0

    by : (b : Bool) → ToolPhaseHolds plan after l r (cond b tool (apply_took plan answer work tool)).tool_phase
    by true = subst (ToolPhaseHolds plan after l r) (sym is) now
    by false = apply_keeps (ToolPhaseHolds plan after l r) (stops plan after l r) plan work (appliers.progress work.applier answer) (appliers.took tool.turns work.applier answer) tool (subst (ToolPhaseHolds plan after l r) (sym is) now)
        (λ tries. (applier_holds plan after l r work (appliers.took tool.turns work.applier answer) now turn.1.0 tries).0)
actor_holds plan before after l r work tool entry Op answer is at turn = subst (ToolPhaseHolds plan after l r) (sym is) (other_holds plan before after l r entry.session work at turn)
actor_holds plan before after l r work tool entry (Client client) answer is at turn = subst (ToolPhaseHolds plan after l r) (sym is) (other_holds plan before after l r entry.session work at turn)

-- .. with the drain
pub counted_holds : (plan : PlanData) (before after : State) (l r : ℕ) (work : Work) (tool : Tool) (entry : Entry) (actor : Actor) (answer : Answer) → tool.tool_phase ≡ Migrating work → Holds plan before l r work → WorkTurn plan before after l r work tool.turns entry actor (Some answer)
    → ToolPhaseHolds plan after (locker_next actor l entry.session) (renamer_next actor r entry.session) (turn_counts plan actor (actor_took plan actor answer (Migrating work) tool)).tool_phase
counted_holds plan before after l r work tool entry Apply answer is at turn = by (is_reverting tool.reason)
  where
    now : Holds plan after l r work
    now = other_holds plan before after l r entry.session work at turn.0

    same : Turned plan after l r tool.tool_phase
    same = subst (Turned plan after l r) (sym is) (now, turn.1.1)

    ends : (next : Tool) → Turned plan after l r next.tool_phase → ToolPhaseHolds plan after l r (drains plan next.tool_phase next).tool_phase
    ends next held = drains_holds plan after l r next.tool_phase next refl held

    by : (b : Bool) → ToolPhaseHolds plan after l r (drains plan (cond b tool (apply_took plan answer work tool)).tool_phase (cond b tool (apply_took plan answer work tool))).tool_phase
    by true = ends tool same
    by false = ends (apply_took plan answer work tool)
        (apply_keeps (Turned plan after l r) (turned_stops plan after l r) plan work (appliers.progress work.applier answer) (appliers.took tool.turns work.applier answer) tool same
        (applier_holds plan after l r work (appliers.took tool.turns work.applier answer) now turn.1.0))
counted_holds plan before after l r work tool entry Lock answer is at turn = actor_holds plan before after l r work tool entry Lock answer is at turn
counted_holds plan before after l r work tool entry Ren answer is at turn = actor_holds plan before after l r work tool entry Ren answer is at turn
counted_holds plan before after l r work tool entry Insp answer is at turn = actor_holds plan before after l r work tool entry Insp answer is at turn
counted_holds plan before after l r work tool entry Copy answer is at turn = actor_holds plan before after l r work tool entry Copy answer is at turn
counted_holds plan before after l r work tool entry Op answer is at turn = actor_holds plan before after l r work tool entry Op answer is at turn
counted_holds plan before after l r work tool entry (Client client) answer is at turn = actor_holds plan before after l r work tool entry (Client client) answer is at turn

-- a loss that is told to nobody
pub idle_holds : (plan : PlanData) (before after : State) (l r : ℕ) (work : Work) (turn : ℕ) (entry : Entry) (actor : Actor) → Holds plan before l r work → WorkTurn plan before after l r work turn entry actor None → Holds plan after (locker_next actor l entry.session) (renamer_next actor r entry.session) work
idle_holds plan before after l r work n entry Lock at turn =
    record { fits = at.fits; copied = at.copied; guards = locker_is plan.table l entry.session r (scene after) work.copier work.applier work.cutover work.cutover.phase turn.is (rests_keep plan.table l r (scene before) (scene after) work.copier work.applier work.cutover work.cutover.phase turn.rests at.guards) }
idle_holds plan before after l r work n entry Ren at turn =
    record { fits = at.fits; copied = at.copied; guards = renamer_is plan.table l r entry.session (scene after) work.copier work.applier work.cutover work.cutover.phase turn.is (rests_keep plan.table l r (scene before) (scene after) work.copier work.applier work.cutover work.cutover.phase turn.rests at.guards) }
idle_holds plan before after l r work n entry Insp at turn =
    record { fits = at.fits; copied = at.copied; guards = rests_keep plan.table l r (scene before) (scene after) work.copier work.applier work.cutover work.cutover.phase turn at.guards }
idle_holds plan before after l r work n entry Copy at turn = other_holds plan before after l r entry.session work at turn.0
idle_holds plan before after l r work n entry Apply at turn = other_holds plan before after l r entry.session work at turn.0
idle_holds plan before after l r work n entry Op at turn = other_holds plan before after l r entry.session work at turn
idle_holds plan before after l r work n entry (Client client) at turn = other_holds plan before after l r entry.session work at turn

-- the operator's command
pub command_holds : (plan : PlanData) (state : State) (l r : ℕ) (work : Work) (word : OperatorWord) (tool : Tool) → tool.tool_phase ≡ Migrating work → Holds plan state l r work → ToolPhaseHolds plan state l r (command_took word tool).tool_phase
command_holds plan state l r work word tool is at = by word
  where
    same : ToolPhaseHolds plan state l r tool.tool_phase
    same = subst (ToolPhaseHolds plan state l r) (sym is) at

    resized : (size : ℕ) (tool_phase : ToolPhase) → ToolPhaseHolds plan state l r tool_phase → ToolPhaseHolds plan state l r (resizes (ChunkSize size) tool_phase)
    resized size (SettingUp setup tries) held = tt
    resized size (Migrating work) held =
        record { fits = held.fits; copied = held.copied; guards = next_both plan.table l r (scene state) work.copier (copiers.resized size work.copier) work.applier work.applier work.cutover (λ d. record { copied = d.copied; applied = d.applied; within = d.within; idle = d.idle }) work.cutover.phase held.guards }

    by : (word : OperatorWord) → ToolPhaseHolds plan state l r (command_took word tool).tool_phase
    by Panic = reverts_keeps (ToolPhaseHolds plan state l r) (stops plan state l r) (Panicked tool.turns) (record tool { operator = commanded Panic tool.operator; tool_phase = tool.tool_phase }) same
    by (ChunkSize size) = resized size tool.tool_phase same
    by Throttle = same
    by NoThrottle = same
    by Unpostpone = same
    by Wait = same
