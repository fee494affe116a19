-- What an answer that the copier or the applier takes leaves of the migration, whether all is reverted after it or not.
use Rattle.std.proofs.Common.{◌≡◌, ◌<◌, ℕ, ◌+◌, true, false, List, [], ◌∷◌, ◌++◌, length, refl, sym, ap, ◌∙◌, subst}
use Rattle.base_values.specs.ToolNames.{ghost_name}
use Rattle.base_script.specs.declared.actor.Actor.{Actor}
use Rattle.base_script.specs.declared.actor.Actor.TheVariants.{Copy, Apply}
use Rattle.server_model.specs.declared.entry.Asked.TheVariants.{Cut}
use Rattle.server_model.specs.declared.entry.Entry.{Entry}
use Rattle.server_model.specs.declared.outcome.Progress.TheVariants.{Unfit}
use Rattle.server_model.specs.declared.session.Limits.{Limits}
use Rattle.server_model.specs.Entries.{is_client, is_command, is_cut, same_actor}
use Rattle.server_model.specs.States.{State, is_of_tool, session_of}
use Rattle.server_model.proofs.LockedRows.Tests.{turned}
use Rattle.plan_data.specs.PlanData.{PlanData}
use Rattle.tool_program.specs.JournalWords.Journals.{may_lose, opens, state_at}
use Rattle.tool_program.specs.JournalWords.Sessions.{live_session}
use Rattle.tool_program.specs.declared.chunk_copier.copier.Copier.{Copier}
use Rattle.tool_program.specs.declared.chunk_copier.copier.CopyStep.TheVariants.{Choosing}
use Rattle.tool_program.specs.ChunkCopier.Copiers as copiers
use Rattle.tool_program.specs.ChunkCopier.Copiers.{resized}
use Rattle.tool_program.specs.declared.event_applier.applier.ApplyStep.TheVariants.{Reading}
use Rattle.tool_program.specs.EventApplier.Appliers as appliers
use Rattle.tool_program.specs.Tools.{Migrating, Work, is_reverting, moment}
use Rattle.tool_program.proofs.OnlineCalls.Machines.{IsNamed, ToolPhaseIsNamed, named}
use Rattle.proof_journals.specs.Plans.{limits_of, scene_of}
use Rattle.proof_journals.specs.Scenes.{Scene}
use Rattle.proof_journals.specs.Turns.{IsSceneRun}
use Rattle.proof_journals.specs.Ghost.HeldKeys.{Clustered}
use Rattle.proof_journals.specs.Ghost.Rows.Moments.{Row}
use Rattle.proof_journals.specs.Ghost.Rows.Timelines.{Migration}
use Rattle.proof_journals.specs.Machine.Standings.{MayTake, standing_of}
use Rattle.proof_journals.specs.Run.Kept.{IsKept}
use Rattle.proof_journals.proofs.Actors.{Placed, placed}
use Rattle.proof_migration.specs.Migration.Machines.{IsApplierTurn, IsCopierTurn, IsCut, Machines, MigrationStands}
use Rattle.proof_migration.specs.Migration.Machines.MigrationMove.{chunks_resize, span_resizes}
use Rattle.proof_migration.specs.Migration.Machines.MigrationTurn.{applier_is_cut, applier_turns, copier_is_cut, copier_turns}
use Rattle.proof_migration.specs.Program.Turns.Goes.{ActorStates, Goes, machines_in, machines_of}
use Rattle.proof_migration.specs.Program.Turns.Laws.{IsMigrationOf}
use Rattle.proof_migration.specs.ToolPhase.Unaltered.{IsUnaltered}
use Rattle.proof_migration.proofs.Migration.Migrating.{moves_keep, turns_keep}
use Rattle.proof_migration.proofs.Program.Turns.ActorStates.{actor_state_apart, actor_state_before, actor_state_own}
use Rattle.proof_migration.proofs.Program.Turns.Asked.{about_called, gave}
use Rattle.proof_migration.proofs.Program.Turns.Follows.{kept_front, kept_scene}
use Rattle.proof_migration.proofs.Program.Turns.NextCalls.{ApplyAsks, CopyAsks, apply_asked, chunks_sized, copy_asked}
use Rattle.proof_migration.proofs.Program.Turns.Others.{ghost_named}
use Rattle.proof_migration.proofs.Program.Turns.Sizes.{Sized, same_so, sized_took, spans_so}
use Rattle.proof_migration.proofs.ToolServes.{about_uncommanded, tool_serves}
use Rattle.proof_migration.proofs.Unfit.Known.{IsKnownTurn, known_turn}

-- whose each session is doesn't matter to it
pub in_scene : (plan : PlanData) (m : Migration) (at : Clustered m.schema) (rows : List Row) (some other : List Entry) (journal : List Entry) (now : Machines) → MigrationStands m at rows (limits_of plan) (scene_of plan some) journal now → MigrationStands m at rows (limits_of plan) (scene_of plan other) journal now
in_scene plan m at rows some other journal now is = record { tool = is.tool; copier_knows = is.copier_knows; applier_knows = is.applier_knows; busy = is.busy }

module _ (plan : PlanData) (m : Migration) (at : Clustered m.schema) (rows : List Row) (of : IsMigrationOf plan m rows) (journal : List Entry) (entry : Entry) (kept : IsKept plan (journal ++ entry ∷ [])) (off : IsUnaltered plan (journal ++ entry ∷ [])) (work : Work) (tool_phase : (moment plan journal).tool.tool_phase ≡ Migrating work)
    (going : is_reverting (moment plan journal).tool.reason ≡ false) (goes : Goes plan m at rows journal work) where
  abbrev more : List Entry
  more = journal ++ entry ∷ []

  abbrev now : State
  now = state_at plan journal

  abbrev limits : Limits
  limits = limits_of plan

  abbrev scene : Scene
  scene = scene_of plan more

  abbrev Before : Machines → Type 0
  Before machines = MigrationStands m at rows limits scene journal machines

  abbrev Following : Machines → Type 0
  Following machines = MigrationStands m at rows limits scene more machines

  abbrev turn : ℕ
  turn = length journal + 1

  known : IsKnownTurn plan journal entry
  known = known_turn plan of.runs journal entry kept

  here : Placed journal entry
  here = placed journal entry known.served.seated

  scene_run : IsSceneRun limits scene more
  scene_run = kept_scene plan m rows of more kept off

  names : IsNamed plan work
  names = subst (ToolPhaseIsNamed plan) tool_phase (named plan journal)

  named_new : m.new.name ≡ ghost_name m.name
  named_new = ghost_named plan m of.of ∙ ap ghost_name (sym of.of.name)

  sized : 0 < work.copier.size
  sized = chunks_sized plan m at rows journal entry.asked known.together work tool_phase going goes

  tool_so : is_command entry.asked ≡ false → is_client entry.actor ≡ false → is_of_tool (session_of entry.session (opens entry now).sessions) ≡ true
  tool_so called tool = tool_serves plan journal entry (kept_front plan journal (entry ∷ []) kept) known.together known.run called tool

  pub before_in : (copier applier : ℕ) → ActorStates journal copier applier → Before (machines_in work copier applier)
  before_in copier applier actor_states = in_scene plan m at rows [] more journal (machines_in work copier applier) (goes.stands copier applier actor_states)

  -- WHAT IS ASKED

  pub copy_asks : entry.actor ≡ Copy → is_cut entry.asked ≡ false → CopyAsks plan journal entry.asked work.copier
  copy_asks same uncut = copy_asked plan m at rows journal entry.asked known.together work tool_phase going goes (gave plan of.serial of.runs.fitting journal entry known.known known.run off Copy same uncut)

  pub apply_asks : entry.actor ≡ Apply → is_cut entry.asked ≡ false → ApplyAsks plan journal entry.asked work.applier
  apply_asks same uncut = apply_asked plan m at rows journal entry.asked known.together work tool_phase going goes (gave plan of.serial of.runs.fitting journal entry known.known known.run off Apply same uncut)

  -- the copier's turn, with the size that its chunks had when it called
  pub copier_turn : (same : entry.actor ≡ Copy) (uncut : is_cut entry.asked ≡ false) → ((place number : ℕ) → copiers.progress work.copier entry.answer ≡ Unfit place number → ⊥) → IsCopierTurn m limits scene journal entry (resized ((copy_asks same uncut).waits).size work.copier) entry.session
  unfolding copiers.progress
  copier_turn same uncut fits =
      let asks : CopyAsks plan journal entry.asked work.copier = copy_asks same uncut in
      record {
        its = refl;
        table = names.copier ∙ sym of.of.name;
        map = goes.map;
        request = asks.request;
        asked = about_called plan of.serial of.runs.fitting journal entry known.known known.run off Copy asks.request same asks.is_about;
        tool = tool_so (about_uncommanded asks.request (standing_of plan journal Copy) entry.asked asks.is_about) (ap is_client same);
        given = (asks.waits).next;
        uncut = uncut;
        fits = fits;
      }

  applier_turn : entry.actor ≡ Apply → is_cut entry.asked ≡ false → ((place number : ℕ) → appliers.progress work.applier entry.answer ≡ Unfit place number → ⊥) → IsApplierTurn m limits scene journal entry work.applier entry.session
  applier_turn same uncut fits =
      let asks : ApplyAsks plan journal entry.asked work.applier = apply_asks same uncut in
      record {
        its = refl;
        table = names.applier ∙ sym of.of.name;
        schema = goes.schema;
        map = goes.apply_map;
        request = asks.request;
        asked = about_called plan of.serial of.runs.fitting journal entry known.known known.run off Apply asks.request same asks.is_about;
        tool = tool_so (about_uncommanded asks.request (standing_of plan journal Apply) entry.asked asks.is_about) (ap is_client same);
        given = asks.next;
        uncut = uncut;
        fits = fits;
      }

  lost_between : entry.asked ≡ Cut → IsCut entry entry.session
  lost_between asks = record { its = refl; cut = ap is_cut asks; side = known.run.answered.sides (ap may_lose asks) }

  -- IN THESE SESSIONS

  module _ (copier applier : ℕ) (then_states : ActorStates more copier applier) where
    -- the copier goes on in the turn's session
    pub copier_before : entry.actor ≡ Copy → is_command entry.asked ≡ false → Before (machines_in work entry.session applier)
    copier_before same called = before_in entry.session applier
        (record {
          copy = subst (λ (a : Actor). MayTake journal entry.session (live_session journal a)) same (actor_state_own plan journal entry known.together.known here called);
          apply = actor_state_before plan journal entry known.together.known here Apply applier (ap (λ (a : Actor). same_actor a Apply) same) then_states.apply;
          two = turned applier entry.session (actor_state_apart plan journal entry known.together.known here Apply applier (ap (λ (a : Actor). same_actor a Apply) same) then_states.apply);
        })

    pub applier_before : entry.actor ≡ Apply → is_command entry.asked ≡ false → Before (machines_in work copier entry.session)
    applier_before same called = before_in copier entry.session
        (record {
          copy = actor_state_before plan journal entry known.together.known here Copy copier (ap (λ (a : Actor). same_actor a Copy) same) then_states.copy;
          apply = subst (λ (a : Actor). MayTake journal entry.session (live_session journal a)) same (actor_state_own plan journal entry known.together.known here called);
          two = actor_state_apart plan journal entry known.together.known here Copy copier (ap (λ (a : Actor). same_actor a Copy) same) then_states.copy;
        })

    abbrev with_copier : Copier → Machines
    with_copier one = machines_of one entry.session work.applier applier

    -- where the size was another
    copier_back : (size : ℕ) → Following (with_copier (copiers.took turn (resized size work.copier) entry.answer)) → Following (with_copier (copiers.took turn work.copier entry.answer))
    copier_back size was = by (sized_took turn size work.copier entry.answer) where
      back : Following (with_copier (resized work.copier.size (copiers.took turn (resized size work.copier) entry.answer)))
      back = moves_keep m at rows limits scene more (with_copier (copiers.took turn (resized size work.copier) entry.answer)) _ (chunks_resize work.copier.size sized refl) was

      by : Sized (resized work.copier.size (copiers.took turn (resized size work.copier) entry.answer)) (copiers.took turn work.copier entry.answer) → Following (with_copier (copiers.took turn work.copier entry.answer))
      by (same_so same) = subst (λ (c : Copier). Following (with_copier c)) same back
      by (spans_so reported old step same) =
          subst (λ (c : Copier). Following (with_copier c)) (sym same)
          (moves_keep m at rows limits scene more (with_copier (resized work.copier.size (copiers.took turn (resized size work.copier) entry.answer))) _ (span_resizes reported old work.copier.size step sized refl) back)

    -- *The copier takes an answer*
    pub copier_takes : entry.actor ≡ Copy → is_cut entry.asked ≡ false → ((place number : ℕ) → copiers.progress work.copier entry.answer ≡ Unfit place number → ⊥) → Following (with_copier (copiers.took turn work.copier entry.answer))
    copier_takes same uncut fits =
        let asks : CopyAsks plan journal entry.asked work.copier = copy_asks same uncut in
        let one : Machines = with_copier (resized (asks.waits).size work.copier) in
        copier_back (asks.waits).size
        (turns_keep m at rows of.place of.planned of.is_place of.finds named_new limits scene journal entry one _ scene_run (copier_turns (copier_turn same uncut fits) refl)
        (moves_keep m at rows limits scene journal (machines_in work entry.session applier) one (chunks_resize (asks.waits).size (asks.waits).some refl)
        (copier_before same (about_uncommanded asks.request (standing_of plan journal Copy) entry.asked asks.is_about))))

    -- *Its session is lost between its calls*
    pub copier_loses : entry.actor ≡ Copy → entry.asked ≡ Cut → Following (with_copier (record (work.copier) { step = Choosing }))
    copier_loses same asks =
        turns_keep m at rows of.place of.planned of.is_place of.finds named_new limits scene journal entry (machines_in work entry.session applier) _ scene_run (copier_is_cut (lost_between asks) refl) (copier_before same (ap is_command asks))

    -- *The applier takes an answer*
    pub applier_takes : entry.actor ≡ Apply → is_cut entry.asked ≡ false → ((place number : ℕ) → appliers.progress work.applier entry.answer ≡ Unfit place number → ⊥) → Following (machines_of work.copier copier (appliers.took turn work.applier entry.answer) entry.session)
    applier_takes same uncut fits =
        let asks : ApplyAsks plan journal entry.asked work.applier = apply_asks same uncut in
        turns_keep m at rows of.place of.planned of.is_place of.finds named_new limits scene journal entry (machines_in work copier entry.session) _ scene_run (applier_turns (applier_turn same uncut fits) refl)
        (applier_before same (about_uncommanded asks.request (standing_of plan journal Apply) entry.asked asks.is_about))

    -- *Its session is lost between its calls*
    pub applier_loses : entry.actor ≡ Apply → entry.asked ≡ Cut → Following (machines_of work.copier copier (record (work.applier) { step = Reading }) entry.session)
    applier_loses same asks =
        turns_keep m at rows of.place of.planned of.is_place of.finds named_new limits scene journal entry (machines_in work copier entry.session) _ scene_run (applier_is_cut (lost_between asks) refl) (applier_before same (ap is_command asks))
