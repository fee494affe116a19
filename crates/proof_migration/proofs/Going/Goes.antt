-- No attempt is stuck: its sentry's CREATE and its RENAME wait until they are done, and while it is drained something is left
-- to be read.
use Rattle.std.proofs.Common.{◌≡◌, ◌⊎◌, ℕ, Bool, true, false, not, ◌&&◌, List, [], ◌∷◌, take, drop, refl, sym, ap, ◌∙◌, subst, inl, inr, arith, cond}
use Rattle.std.specs.Prelude.{nat_lt, count_by}
use Rattle.std.specs.List.{list_any}
use Rattle.std.proofs.lemmas.Bool.{true≢false, false≢true}
use Rattle.std.proofs.lemmas.Bool.Decides.{nat_tests}
use Rattle.std.proofs.lemmas.List.{take-append-drop}
use Rattle.base_script.specs.declared.actor.Actor.TheVariants.{Insp}
use Rattle.base_values.specs.declared.event.RowEvent.{RowEvent}
use Rattle.server_model.specs.declared.entry.Entry.{Entry}
use Rattle.server_model.specs.States.{State, is_of, unread}
use Rattle.plan_data.specs.PlanData.{PlanData}
use Rattle.base_values.specs.ToolNames.{log_name}
use Rattle.tool_changelog.specs.Hints.{last_hint}
use Rattle.tool_program.specs.JournalWords.Histories.{history, is_alter}
use Rattle.tool_program.specs.JournalWords.Journals.{state_at}
use Rattle.tool_program.specs.declared.cutover_core.cutover.Hold.TheVariants.{Nothing, WaitsToGuard}
use Rattle.tool_program.specs.declared.cutover_core.cutover.Phase.{Phase}
use Rattle.tool_program.specs.declared.cutover_core.cutover.Phase.TheVariants.{Resting, Attempting, Ending, Finishing, Finished}
use Rattle.tool_program.specs.declared.cutover_core.cutover.Stage.TheVariants.{Guarding, Draining, Exchanging, ReadingCounter, SettingCounter}
use Rattle.tool_program.specs.Orders.{actors, is_ready}
use Rattle.tool_program.specs.Programs.{may_read, unread_in}
use Rattle.tool_program.specs.Tools.{Work, ToolPhase, SettingUp, Migrating, Moment, moment}
use Rattle.tool_program.proofs.OnlineCalls.Machines.{ToolPhaseIsNamed, named}
use Rattle.proof_journals.specs.Plans.{IsSerialPlan}
use Rattle.proof_journals.specs.ServerTurns.Others.{EntriesAreTurns}
use Rattle.proof_journals.specs.Run.Kept.{IsKept}
use Rattle.proof_journals.specs.Machine.Runnable.{IsRunnable}
use Rattle.proof_journals.specs.Machine.Standings.{standing_of}
use Rattle.proof_journals.specs.Sentry.Sentries.{IsDraining}
use Rattle.proof_migration.specs.ToolPhase.Unaltered.{IsUnaltered}
use Rattle.proof_migration.specs.ToolPhase.Ready.{IsStuckAt, IsStuck}
use Rattle.proof_migration.proofs.ToolPhase.Ready.Actors.{someone_ready}
use Rattle.proof_migration.specs.Attempt.Laws.{IsWaiting}
use Rattle.proof_migration.proofs.Attempt.Stages.{AskedAt}
use Rattle.proof_migration.proofs.Attempt.Standing.{ToolPhaseAt, IsStanding, all_standing, all_wait}
use Rattle.proof_migration.specs.Attempt.Renamed.{IsRenamedAt, ToolPhaseRenamed}
use Rattle.proof_migration.proofs.Attempt.Renamed.Seen.{all_seen}
use Rattle.proof_migration.specs.Program.Hints.{KnowsHints}
use Rattle.proof_migration.proofs.Program.Hints.Known.{hints_known}
use Rattle.proof_migration.specs.Going.{SomeoneGoes}
use Rattle.proof_migration.proofs.Going.Drains.{ToolPhaseDrains, hinted_last, last_away, last_both, unread_away}
use Rattle.tool_program.specs.CutoverCore.CutOvers.{stands}
use Rattle.tool_program.specs.Operators.{is_throttled}

module _ (turns : EntriesAreTurns) (plan : PlanData) (journal : List Entry) (runs : IsRunnable plan) (serial : IsSerialPlan plan) (kept : IsKept plan journal) where
  abbrev now : Moment
  now = moment plan journal

  standing : IsStanding plan journal
  standing = all_standing plan journal runs.fitting runs.stands kept.faithful kept.follows

  module _ (work : Work) (eq : now.tool.tool_phase ≡ Migrating work) where
    -- while an attempt is drained the RENAME isn't done
    unaltered : IsDraining work.cutover.phase → IsUnaltered plan journal
    unaltered drains = by (list_any is_alter (history plan journal)) refl where
      never : (phase : Phase) → IsDraining phase → IsRenamedAt plan (state_at plan journal).tables phase → ⊥
      never (Attempting stage) drains renamed = renamed
      never Resting drains renamed = drains
      never (Ending clearing) drains renamed = drains
      never (Finishing clearing) drains renamed = drains
      never Finished drains renamed = drains

      by : (b : Bool) → list_any is_alter (history plan journal) ≡ b → b ≡ false
      by false off = refl
      by true on = absurd (never work.cutover.phase drains (subst (ToolPhaseRenamed plan (state_at plan journal).tables) eq (all_seen plan journal runs serial kept.faithful kept.follows on)))

    -- nor was it asked for
    unasked : IsDraining work.cutover.phase → work.cutover.is_asked ≡ false
    unasked drains = by work.cutover.phase drains (subst (ToolPhaseAt plan (state_at plan journal).tables (standing_of plan journal Insp).waits) eq standing.tool_phase).asked where
      by : (phase : Phase) → IsDraining phase → AskedAt phase work.cutover.is_asked → work.cutover.is_asked ≡ false
      by (Attempting (Draining count)) drains asked = asked
      by (Attempting (ReadingCounter drain)) drains asked = asked
      by (Attempting (SettingCounter number drain)) drains asked = asked
      by phase drains asked = absurd drains

    -- something is left to be read
    some_unread : IsDraining work.cutover.phase → count_by (is_of (plan.table ∷ log_name plan.table ∷ [])) (drop work.applier.position (state_at plan journal).log) ≡ 0 → ⊥
    some_unread drains none = knows.ahead drains (knows.hint ∙ sym last_is) where
      knows : KnowsHints plan (state_at plan journal).log work
      knows = hints_known plan journal work runs serial kept (unaltered drains) eq

      log : List RowEvent
      log = (state_at plan journal).log

      last_is : work.cutover.attempts ≡ last_hint plan.table 0 (take work.applier.position (state_at plan journal).log)
      last_is =
          sym (subst (ToolPhaseDrains plan.table (state_at plan journal).log) eq (hinted_last turns plan journal runs serial kept (unaltered drains)) drains)
          ∙ ap (last_hint plan.table 0) (sym (take-append-drop work.applier.position (state_at plan journal).log))
          ∙ last_both plan.table 0 (take work.applier.position (state_at plan journal).log) (drop work.applier.position (state_at plan journal).log)
          ∙ last_away plan.table (last_hint plan.table 0 (take work.applier.position (state_at plan journal).log)) (drop work.applier.position (state_at plan journal).log) (unread_away plan.table (drop work.applier.position (state_at plan journal).log) none)

    reads : (count : ℕ) → work.cutover.phase ≡ Attempting (Draining count) → may_read plan now.server now.tool work ≡ true
    unfolding unread
    reads count at = ap (λ (p : Phase). nat_lt 0 (unread_in now.server work) && not (cond (stands p) work.cutover.is_asked (is_throttled plan now.server now.tool.operator))) at
        ∙ ap (λ (b : Bool). nat_lt 0 (unread_in now.server work) && not b) (unasked drains) ∙ some where
          drains : IsDraining work.cutover.phase
          drains = subst IsDraining (sym at) tt

          unread_is : unread_in now.server work ≡ count_by (is_of (plan.table ∷ log_name plan.table ∷ [])) (drop work.applier.position (state_at plan journal).log)
          unread_is =
              ap (λ (s : State). unread_in s work) standing.tabled.all.tool.server ∙ ap (λ (t : List ℕ). unread (state_at plan journal) work.applier.position (t ∷ log_name t ∷ [])) (subst (ToolPhaseIsNamed plan) eq (named plan journal)).applier

          above : (n : ℕ) → (n ≡ 0 → ⊥) → nat_lt 0 n ≡ true
          above n some = by (nat_lt 0 n) refl where
            by : (b : Bool) → nat_lt 0 n ≡ b → b ≡ true
            by true is = refl
            by false is = absurd (some (grind (arith, nat_tests, is)))

          both : (b : Bool) → b ≡ true → (b && true) ≡ true
          both true is = refl
          both false is = absurd (false≢true is)

          some : (nat_lt 0 (unread_in now.server work) && true) ≡ true
          some = both (nat_lt 0 (unread_in now.server work)) (above (unread_in now.server work) (λ none. some_unread drains (sym unread_is ∙ none)))

    not_stuck : (phase : Phase) → work.cutover.phase ≡ phase → IsWaiting work.cutover → IsStuckAt plan now work phase → ⊥
    not_stuck (Attempting Guarding) at waits stuck = no (sym stuck ∙ waits.guards at) where
      no : Nothing ≡ WaitsToGuard → ⊥
      no same = cc
    not_stuck (Attempting Exchanging) at waits stuck = true≢false (sym (waits.exchanges at) ∙ stuck)
    not_stuck (Attempting (Draining count)) at waits stuck = true≢false (sym (reads count at) ∙ stuck.1)
    not_stuck (Attempting stage) at waits stuck = stuck
    not_stuck Resting at waits stuck = stuck
    not_stuck (Ending clearing) at waits stuck = stuck
    not_stuck (Finishing clearing) at waits stuck = stuck
    not_stuck Finished at waits stuck = stuck

  none_stuck : (tool_phase : ToolPhase) → now.tool.tool_phase ≡ tool_phase → IsStuck plan now tool_phase → ⊥
  none_stuck (SettingUp setup tries) eq stuck = stuck
  none_stuck (Migrating work) eq stuck = not_stuck work eq work.cutover.phase refl (all_wait plan journal work runs.fitting runs.stands kept.faithful kept.follows eq) stuck

-- *Someone goes*
pub someone_goes : EntriesAreTurns → SomeoneGoes
someone_goes turns plan journal runs serial ends kept unended = by (someone_ready plan journal runs.fitting runs.stands ends kept.faithful kept.follows unended) where
  by : (list_any (is_ready plan journal) (actors plan) ≡ true) ⊎ IsStuck plan (moment plan journal) (moment plan journal).tool.tool_phase → list_any (is_ready plan journal) (actors plan) ≡ true
  by (inl ready) = ready
  by (inr stuck) = absurd (none_stuck turns plan journal runs serial kept (moment plan journal).tool.tool_phase refl stuck)
