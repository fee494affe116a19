-- Where the migration goes, the range is copied and the applier reads, it is frozen.
use Rattle.std.proofs.Common.{◌≡◌, ◌<◌, ◌≤◌, ℕ, ◌+◌, Bool, true, false, cond, List, [], Option, Some, None, refl, sym, ap, ◌∙◌, subst, arith}
use Rattle.std.specs.Prelude.{◌==◌}
use Rattle.std.proofs.Math.Nat.{le_refl}
use Rattle.std.proofs.lemmas.Bool.Decides.{nat_tests}
use Rattle.server_model.specs.declared.entry.Entry.{Entry}
use Rattle.server_model.specs.declared.request.Request.{Request}
use Rattle.base_script.specs.declared.actor.Actor.TheVariants.{Apply, Copy}
use Rattle.plan_data.specs.PlanData.{PlanData}
use Rattle.tool_program.specs.ChunkCopier.Copiers as copiers
use Rattle.tool_program.specs.ChunkCopier.Copiers.{resized}
use Rattle.tool_program.specs.declared.chunk_copier.copier.Copier.{Copier}
use Rattle.tool_program.specs.declared.chunk_copier.copier.CopyStep.TheVariants.{Choosing}
use Rattle.tool_program.specs.declared.event_applier.applier.ApplyStep.{ApplyStep}
use Rattle.tool_program.specs.declared.event_applier.applier.ApplyStep.TheVariants.{Reading}
use Rattle.tool_program.specs.EventApplier.Appliers as appliers
use Rattle.tool_program.specs.JournalWords.Journals.{state_at}
use Rattle.tool_program.specs.JournalWords.Sessions.{sessions_named}
use Rattle.tool_program.specs.Tools.{Migrating, Work, is_reverting, moment}
use Rattle.proof_journals.specs.Plans.{limits_of, scene_of}
use Rattle.proof_journals.specs.Scenes.{no_hold}
use Rattle.server_model.proofs.LockedRows.Tests.{turned}
use Rattle.proof_journals.specs.Ghost.Rows.Moments.{Row}
use Rattle.proof_journals.specs.Ghost.Rows.Timelines.{Migration}
use Rattle.proof_journals.specs.Ghost.HeldKeys.{Clustered}
use Rattle.proof_journals.specs.Ghost.ToolTurns.{ToolStands}
use Rattle.proof_journals.specs.Ghost.Tool.{CopyState}
use Rattle.proof_migration.specs.Migration.Applier.ApplierPlace.{plan_at}
use Rattle.proof_migration.specs.Migration.Copier.CopierPlace.{copy_state, moment_of}
use Rattle.proof_journals.specs.Machine.Standings.{standing_of}
use Rattle.proof_journals.proofs.Machine.Journals.{IsTogether}
use Rattle.proof_migration.specs.Migration.Machines.{IsUnbusy, Machines, MigrationStands, hold_at}
use Rattle.proof_migration.specs.Migration.Machines.MigrationMove.{applier_moves, copier_moves}
use Rattle.proof_migration.proofs.Migration.Migrating.{moves_keep}
use Rattle.proof_migration.proofs.Migration.Moving.{copied_state}
use Rattle.proof_migration.proofs.ToolPhase.Unaltered.Away.{IsKnownAsked}
use Rattle.proof_migration.specs.Program.Turns.Goes.{CopyWaits, Goes, machines_in}
use Rattle.proof_migration.proofs.Program.Turns.ActorStates.{SomeActorStates, new_holds, some_actor_states}
use Rattle.proof_migration.proofs.Program.Turns.Goes.{rests_own}
use Rattle.proof_migration.proofs.Program.Turns.NextCalls.{apply_next, copy_next}
use Rattle.proof_migration.proofs.Stays.{StandsAt}
use Rattle.proof_migration.proofs.Frozen.{CallsQuiet, Frozen, IsHarmless, IsQuiet, WaitsHarmless}

-- a copier that has copied the range asks for nothing
no_next : (journal : List Entry) (copier : Copier) (request : Request) → copier.is_copied ≡ true → copiers.next journal copier ≡ Some request → ⊥
unfolding copiers.next
no_next journal copier request is some = no (sym (ap (λ (b : Bool). cond b None (copiers.call_in journal copier copier.range)) is) ∙ some) where
  no : None ≡ Some request → ⊥
  no same = cc

apart_less : (a b : ℕ) → a < b → (a == b) ≡ false
apart_less a b less = grind (arith, nat_tests)

fresh_apart_too : (a b n : ℕ) → (n + a + b + 1 == b) ≡ false
fresh_apart_too a b n = turned b (n + a + b + 1) (apart_less b (n + a + b + 1) (omega arith))

above_less : (a b n low : ℕ) → low ≤ n → low < n + a + b + 1
above_less a b n low small = omega (arith, small)

above_more : (a b n low : ℕ) → low ≤ n → low < n + a + b + 2
above_more a b n low small = omega (arith, small)

one_two : (a b n : ℕ) → n + a + b + 1 < n + a + b + 2
one_two a b n = omega arith

module _ (plan : PlanData) (m : Migration) (at : Clustered m.schema) (rows : List Row) (above : ℕ) (journal : List Entry) (known : IsKnownAsked plan journal) (within : sessions_named journal ≤ above) (work : Work) (tool_phase : (moment plan journal).tool.tool_phase ≡ Migrating work)
    (goes : Goes plan m at rows journal work) (copied : work.copier.is_copied ≡ true) (reading : work.applier.step ≡ Reading) where
  together : IsTogether plan journal
  together = known.marking.tabled.all.tool

  some : SomeActorStates journal
  some = some_actor_states journal together.known.sessions

  abbrev Stands : Machines → Type 0
  Stands machines = MigrationStands m at rows (limits_of plan) (scene_of plan []) journal machines

  was : Stands (machines_in work some.copier some.applier)
  was = goes.stands some.copier some.applier some.actor_states

  abbrev copier : Copier
  copier = record (work.copier) { step = Choosing }

  -- between chunks, in the sessions that they have
  abbrev between : Machines
  between = record { copier = copier; copier_session = some.copier; applier = work.applier; applier_session = some.applier }

  stands_between : Stands between
  stands_between = record {
    tool = record {
      stands = subst (λ (c : CopyState). ToolStands m at rows some.copier some.applier (moment_of (state_at plan journal) c (plan_at m journal work.applier.step) work.applier.position)) (copied_state journal work.copier copied ∙ sym (copied_state journal copier copied)) was.tool.stands;
      away = was.tool.away;
    };
    copier_knows = record { following = was.copier_knows.following; step = tt; sized = was.copier_knows.sized };
    applier_knows = was.applier_knows;
    busy = was.busy;
  }

  abbrev one : ℕ
  one = above + some.copier + some.applier + 1

  abbrev two : ℕ
  two = above + some.copier + some.applier + 2

  abbrev moved : Machines
  moved = record { copier = copier; copier_session = one; applier = work.applier; applier_session = some.applier }

  new_one : hold_at (state_at plan journal) one ≡ no_hold
  new_one = new_holds plan journal one together.known (above_less some.copier some.applier above (sessions_named journal) within)

  new_two : hold_at (state_at plan journal) two ≡ no_hold
  new_two = new_holds plan journal two together.known (above_more some.copier some.applier above (sessions_named journal) within)

  stands_moved : Stands moved
  stands_moved = moves_keep m at rows (limits_of plan) (scene_of plan []) journal between moved (copier_moves one tt new_one (fresh_apart_too some.copier some.applier above) refl) stands_between

  abbrev settled : Machines
  settled = record { copier = copier; copier_session = one; applier = work.applier; applier_session = two }

  own_free : hold_at (state_at plan journal) some.applier ≡ no_hold
  own_free = rests_own m at rows one some.applier (moment_of (state_at plan journal) (copy_state journal copier) (plan_at m journal work.applier.step) work.applier.position) (ap (plan_at m journal) reading) stands_moved.tool.stands

  unbusy : (step : ApplyStep) → step ≡ Reading → IsUnbusy step
  unbusy step is = subst IsUnbusy (sym is) tt

  stands_settled : Stands settled
  stands_settled =
      moves_keep m at rows (limits_of plan) (scene_of plan []) journal moved settled
      (applier_moves two own_free (unbusy work.applier.step reading) new_two (apart_less one two (one_two some.copier some.applier above)) refl) stands_moved

  reads : appliers.next journal work.applier ≡ appliers.call_at journal work.applier Reading
  unfolding appliers.next
  reads = ap (appliers.call_at journal work.applier) reading

  harmless : (request : Request) → appliers.next journal work.applier ≡ request → IsHarmless request
  harmless request is = subst IsHarmless (sym reads ∙ is) tt

  quiet : IsQuiet plan journal
  quiet = (by_copy (standing_of plan journal Copy).waits refl, by_apply (standing_of plan journal Apply).waits refl) where
    by_copy : (waits : Option Request) → (standing_of plan journal Copy).waits ≡ waits → WaitsHarmless waits
    by_copy None is = tt
    by_copy (Some request) is = let waits : CopyWaits journal work.copier request = goes.copy_waits request is in absurd (no_next journal (resized waits.size work.copier) request copied waits.next)

    by_apply : (waits : Option Request) → (standing_of plan journal Apply).waits ≡ waits → WaitsHarmless waits
    by_apply None is = tt
    by_apply (Some request) is = harmless request (goes.apply_waits request is)

  -- *It is frozen*
  pub frozen_here : Frozen plan m at rows above journal
  frozen_here = record {
    machines = settled;
    stands = stands_settled;
    copied = copied;
    idle = reading;
    here = subst (StandsAt work.applier.position) (sym tool_phase) refl;
    copier_above = above_less some.copier some.applier above above (le_refl above);
    applier_above = above_more some.copier some.applier above above (le_refl above);
    quiet = quiet;
  }

  -- and the two are asked for nothing but to read the log
  pub copier_quiet : is_reverting (moment plan journal).tool.reason ≡ false → CallsQuiet plan journal Copy
  copier_quiet going request call =
      absurd (no_next journal work.copier request copied (copy_next plan journal work tool_phase going request call))

  pub applier_quiet : is_reverting (moment plan journal).tool.reason ≡ false → CallsQuiet plan journal Apply
  applier_quiet going request call =
      harmless request (apply_next plan journal work tool_phase going request call)
