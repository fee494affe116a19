-- How the migration stands behind a journal that is kept, and that each turn keeps it so.
use Rattle.proof_journals.specs.Run.Kept.{IsKept}
use Rattle.proof_migration.proofs.ToolServes.{about_uncommanded}
use Rattle.std.proofs.Common.{◌≡◌, ◌⊎◌, ◌<◌, ℕ, zero, suc, ◌+◌, Bool, true, false, cond, List, [], ◌∷◌, ◌++◌, length, Option, Some, None, refl, sym, ap, ◌∙◌, subst, inl, inr}
use Rattle.std.specs.List.{AllByRecursion, slice_get}
use Rattle.std.proofs.lemmas.Bool.{true≢false}
use Rattle.base_script.specs.declared.actor.Actor.{Actor}
use Rattle.base_script.specs.declared.actor.Actor.TheVariants.{Op, Copy, Apply}
use Rattle.base_script.specs.declared.operator.OperatorWord.{OperatorWord}
use Rattle.base_script.specs.declared.operator.OperatorWord.TheVariants.{ChunkSize}
use Rattle.server_model.specs.declared.answer.Answer.{Answer}
use Rattle.server_model.specs.declared.answer.Answer.TheVariants as answers
use Rattle.server_model.specs.declared.entry.Asked.{Asked}
use Rattle.server_model.specs.declared.entry.Asked.TheVariants.{Call, Poll, Command, Cut}
use Rattle.server_model.specs.declared.entry.Entry.{Entry}
use Rattle.server_model.specs.declared.request.Request.{Request}
use Rattle.server_model.specs.declared.session.Limits.{Limits}
use Rattle.server_model.specs.Entries.{same_actor, is_command, is_cut}
use Rattle.server_model.specs.States.{State, has_work}
use Rattle.plan_data.specs.PlanData.{PlanData}
use Rattle.base_values.specs.ToolNames.{ghost_name}
use Rattle.tool_program.specs.JournalWords.Journals.{may_lose, opens, state_at}
use Rattle.tool_program.specs.JournalWords.KeptPlans.{words_of}
use Rattle.tool_program.specs.JournalWords.Sessions.{live_session, session_left}
use Rattle.tool_program.specs.declared.chunk_copier.copier.Copier.{Copier}
use Rattle.tool_program.specs.declared.chunk_copier.copier.CopyStep.{CopyStep}
use Rattle.tool_program.specs.declared.chunk_copier.copier.CopyStep.TheVariants as copying
use Rattle.tool_program.specs.ChunkCopier.Copiers as copiers
use Rattle.tool_program.specs.ChunkCopier.Copiers.{resized}
use Rattle.tool_program.specs.declared.event_applier.applier.Applier.{Applier}
use Rattle.tool_program.specs.declared.event_applier.applier.ApplyStep.{ApplyStep}
use Rattle.tool_program.specs.declared.event_applier.applier.ApplyStep.TheVariants as applying
use Rattle.tool_program.specs.EventApplier.Appliers as appliers
use Rattle.tool_program.specs.Programs.{commands, given, IsGiven}
use Rattle.tool_program.specs.Tools.{Work, Migrating, is_reverting, moment}
use Rattle.proof_journals.specs.Plans.{limits_of, scene_of}
use Rattle.proof_journals.specs.Scenes.{Scene, no_hold}
use Rattle.proof_journals.specs.Holdings.{face_of}
use Rattle.proof_journals.specs.Turns.{IsSceneRun, about, reported_at}
use Rattle.proof_journals.proofs.Actors.{Placed, left_own, live_more, placed, same_actor_itself}
use Rattle.proof_journals.proofs.Journals.{journal_holds}
use Rattle.proof_journals.specs.Ghost.Rows.Moments.{Row}
use Rattle.proof_journals.specs.Ghost.Rows.Timelines.{Migration}
use Rattle.proof_journals.specs.Ghost.HeldKeys.{Clustered}
use Rattle.proof_journals.specs.Ghost.ToolTurns.ApplyPlan.{Resting, Planned, Returning}
use Rattle.proof_journals.specs.Ghost.ToolTurns.{ApplyPlan, ToolMoment, ToolStands}
use Rattle.proof_journals.specs.Ghost.ToolTurns.ToolStands.{at_rest, at_work, halfway, returns}
use Rattle.proof_journals.proofs.Ghost.Turns.{run_front}
use Rattle.proof_journals.proofs.Ghost.Undone.{cuts_are_left}
use Rattle.proof_migration.specs.Migration.Applier.ApplierPlace.{ApplierKnows, plan_at}
use Rattle.proof_migration.specs.Migration.Copier.CopierPlace.{CopierKnows}
use Rattle.proof_migration.proofs.Migration.Applier.Knowing as knowing
use Rattle.proof_migration.proofs.Migration.Copier.Knowing.{quiet_took}
use Rattle.proof_journals.specs.Machine.FormedPlans.{SizeFits}
use Rattle.proof_journals.specs.Machine.Machines.{ApplierStands, ToolPhaseStands, Stands, WorkStands, applier_busy, copier_asks, copier_busy}
use Rattle.proof_journals.specs.Machine.Standings.{IsAbout, MayTake, Standing, answered, free, standing_in, standing_of}
use Rattle.proof_journals.proofs.Machine.Asking.{idle_stands}
use Rattle.proof_journals.proofs.Machine.Journals.{IsRun, IsTogether, applier_had, copier_had}
use Rattle.proof_journals.proofs.Machine.Marks.{Unmarked}
use Rattle.proof_journals.proofs.Machine.Seated.{IsServed, others_stand, own_lost, own_session, own_stands}
use Rattle.proof_migration.specs.Migration.Away.{KeepsAway}
use Rattle.proof_migration.specs.Migration.Machines.{IsBetween, IsCut, IsUnbusy, Machines, MigrationStands, hold_at}
use Rattle.proof_migration.specs.Migration.Machines.MigrationMove.{applier_moves, chunks_resize, copier_moves}
use Rattle.proof_migration.specs.Migration.Machines.MigrationTurn.{applier_is_idle, copier_is_idle, others_turn}
use Rattle.proof_migration.proofs.Migration.Migrating.{moves_keep, turns_keep}
use Rattle.proof_migration.specs.ToolPhase.Unaltered.{IsUnaltered}
use Rattle.proof_migration.proofs.ToolPhase.Unaltered.Away.{IsKnownAsked, asked_more}
use Rattle.proof_migration.specs.Program.Turns.Goes.{CopyWaits, Goes, ActorStates, machines_in}
use Rattle.proof_migration.specs.Program.Turns.Laws.{IsMigrationOf}
use Rattle.proof_migration.proofs.Program.Turns.Follows.{kept_scene}
use Rattle.proof_migration.proofs.Program.Turns.NextCalls.{ApplyAsks, CopyAsks}
use Rattle.proof_migration.proofs.Program.Turns.Takes.{applier_before, applier_loses, applier_takes, apply_asks, before_in, copier_before, copier_loses, copier_takes, copy_asks, in_scene}
use Rattle.proof_migration.proofs.Unfit.Known.{IsKnownTurn, known_turn}
use Rattle.proof_migration.proofs.Program.Turns.Effects.{Effect, applier_idle, applier_lost, applier_took, copier_idle, copier_lost, copier_took, neither, resizes_so}
use Rattle.proof_migration.proofs.Program.Turns.Others.{IsThird, ghost_named, others_away}
use Rattle.proof_migration.proofs.Program.Turns.ActorStates.{SomeActorStates, new_holds, actor_state_apart, actor_state_before, some_actor_states}
use Rattle.proof_migration.proofs.Program.Turns.Sizes.{Fixed, apply_next_more, fixed, fixed_took, map_took, next_more}

between_if : (step : CopyStep) → copier_busy step ≡ false → IsBetween step
between_if copying.Choosing off = tt
between_if (copying.Spanning reported size) off = tt
between_if (copying.Copying chunk copied) off = absurd (true≢false off)
between_if (copying.Committing chunk) off = absurd (true≢false off)

unbusy_if : (step : ApplyStep) → applier_busy step ≡ false → IsUnbusy step
unbusy_if applying.Reading off = tt
unbusy_if (applying.Beginning batch) off = tt
unbusy_if (applying.Applying batch done part) off = absurd (true≢false off)
unbusy_if (applying.Committing batch) off = tt

abbrev Rests : ApplyPlan → Type 0
Rests Resting = Unit {0}
Rests (Planned next todo) = ⊥
Rests (Returning next before after rest) = ⊥

-- where the applier rests its session holds nothing
pub rests_own : (m : Migration) (at : Clustered m.schema) (rows : List Row) (copier applier : ℕ) (now : ToolMoment) → now.plan ≡ Resting → ToolStands m at rows copier applier now → now.hold applier ≡ no_hold
rests_own m at rows copier applier now rests (at_rest is kept) = kept.tool.applying.rests
rests_own m at rows copier applier now rests (at_work next todo is kept) = absurd (subst Rests (sym rests ∙ is) tt)
rests_own m at rows copier applier now rests (halfway next old row rest is kept) = absurd (subst Rests (sym rests ∙ is) tt)
rests_own m at rows copier applier now rests (returns next old row rest is kept) = absurd (subst Rests (sym rests ∙ is) tt)

-- ONE TURN

module _ (plan : PlanData) (m : Migration) (at : Clustered m.schema) (rows : List Row) (of : IsMigrationOf plan m rows) (journal : List Entry) (entry : Entry) (kept : IsKept plan (journal ++ entry ∷ [])) (off : IsUnaltered plan (journal ++ entry ∷ [])) (work then_work : Work) (tool_phase : (moment plan journal).tool.tool_phase ≡ Migrating work)
    (unmarked : Unmarked plan journal work) (going : is_reverting (moment plan journal).tool.reason ≡ false) (then_tool_phase : (moment plan (journal ++ entry ∷ [])).tool.tool_phase ≡ Migrating then_work) (then_going : is_reverting (moment plan (journal ++ entry ∷ [])).tool.reason ≡ false)
    (effect : Effect plan journal entry work then_work) (goes : Goes plan m at rows journal work) where
  abbrev more : List Entry
  more = journal ++ entry ∷ []

  abbrev now : State
  now = state_at plan journal

  abbrev then : State
  then = state_at plan more

  abbrev has : Actor → Standing
  has = standing_of plan journal

  abbrev limits : Limits
  limits = limits_of plan

  abbrev scene : Scene
  scene = scene_of plan more

  abbrev Before : Machines → Type 0
  Before machines = MigrationStands m at rows limits scene journal machines

  abbrev Following : Machines → Type 0
  Following machines = MigrationStands m at rows limits scene more machines

  turn_known : IsKnownTurn plan journal entry
  turn_known = known_turn plan of.runs journal entry kept

  known : IsKnownAsked plan journal
  known = turn_known.known

  run : IsRun plan journal entry
  run = turn_known.run

  together : IsTogether plan journal
  together = turn_known.together

  then_together : IsTogether plan more
  then_together = (asked_more plan journal entry run known).marking.tabled.all.tool

  served : IsServed plan journal entry
  served = turn_known.served

  actor_state : Placed journal entry
  actor_state = placed journal entry served.seated

  scene_run : IsSceneRun limits scene more
  scene_run = kept_scene plan m rows of more kept off

  named_new : m.new.name ≡ ghost_name m.name
  named_new = ghost_named plan m of.of ∙ ap ghost_name (sym of.of.name)

  work_stands : WorkStands journal (is_reverting (moment plan journal).tool.reason) has work
  work_stands = subst (ToolPhaseStands journal has (is_reverting (moment plan journal).tool.reason)) tool_phase together.stands

  then_stands : WorkStands more (is_reverting (moment plan more).tool.reason) (standing_of plan more) then_work
  then_stands = subst (ToolPhaseStands more (standing_of plan more) (is_reverting (moment plan more).tool.reason)) then_tool_phase then_together.stands

  -- what is kept is known of the journal
  some_before : (P : Type 0) → ((machines : Machines) → machines.copier ≡ work.copier → machines.applier ≡ work.applier → Before machines → P) → P
  some_before P keeps = let some : SomeActorStates journal = some_actor_states journal together.known.sessions in keeps (machines_in work some.copier some.applier) refl refl (before_in plan m at rows of journal entry kept off work tool_phase going goes some.copier some.applier some.actor_states)

  -- THE TURN OF ONE OF THE TWO

  is_cut_by : (session : ℕ) → entry.session ≡ session → entry.asked ≡ Cut → IsCut entry session
  is_cut_by session same asks = record { its = same; cut = ap is_cut asks; side = run.answered.sides (ap may_lose asks) }

  abbrev turn : ℕ
  turn = length journal + 1

  -- a session without work has no transaction
  idle_free : (actor : Actor) → entry.actor ≡ actor → entry.asked ≡ Cut → has_work (moment plan journal).server entry.session ≡ false → has actor ≡ free
  idle_free actor same asks rests =
      ap (standing_in now) (ap (live_session journal) (sym same) ∙ own_session plan journal entry together.known served (ap is_cut asks)) ∙ idle_stands now entry.session (ap (λ (s : State). has_work s entry.session) (sym together.server) ∙ rests)

  copier_stood : Stands (copier_asks work.copier.step) (copier_busy work.copier.step) [] (has Copy)
  copier_stood = copier_had plan journal entry together run work work_stands going

  applier_stood : ApplierStands journal work.applier (has Apply)
  applier_stood = applier_had plan journal entry together run work work_stands going

  copier_between : has Copy ≡ free → IsBetween work.copier.step
  copier_between is = between_if work.copier.step (sym copier_stood.busy ∙ ap (λ (s : Standing). s.busy) is)

  applier_between : has Apply ≡ free → IsUnbusy work.applier.step
  applier_between is = unbusy_if work.applier.step (sym (applier_stood.stands).busy ∙ ap (λ (s : Standing). s.busy) is)

  -- outside a transaction nothing is held
  free_holds : (actor : Actor) → entry.actor ≡ actor → entry.asked ≡ Cut → has actor ≡ free → hold_at now entry.session ≡ no_hold
  free_holds actor same asks is = (((journal_holds limits scene journal (run_front limits scene journal (entry ∷ []) scene_run)).holds.fits entry.session).rests quiet).0 where
    live : live_session journal actor ≡ Some entry.session
    live = ap (live_session journal) (sym same) ∙ own_session plan journal entry together.known served (ap is_cut asks)

    quiet : (face_of now.sessions entry.session).busy ≡ false
    quiet = ap (λ (o : Option ℕ). (standing_in now o).busy) (sym live) ∙ ap (λ (s : Standing). s.busy) is

  -- THE SESSIONS BEHIND THE TURN

  lost_answer : (asked : Asked) (answer : Answer) (session : ℕ) → is_command asked ≡ false → session_left asked answer session ≡ None → answer ≡ answers.Lost
  lost_answer (Command word) answer session called none = absurd (true≢false called)
  lost_answer (Call request) answers.Lost session called none = refl
  lost_answer (Call request) answer session called none = absurd cc
  lost_answer Poll answers.Lost session called none = refl
  lost_answer Poll answer session called none = absurd cc
  lost_answer Cut answers.Lost session called none = refl
  lost_answer Cut answer session called none = absurd cc

  left_here : (actor : Actor) → entry.actor ≡ actor → live_session more actor ≡ session_left entry.asked entry.answer entry.session
  left_here actor same = live_more journal entry actor ∙ ap (λ (b : Bool). cond b (session_left entry.asked entry.answer entry.session) (live_session journal actor)) (ap (λ (a : Actor). same_actor a actor) same ∙ same_actor_itself actor)

  then_free : (actor : Actor) → live_session more actor ≡ None → standing_of plan more actor ≡ free
  then_free actor none = ap (standing_in then) none

  then_copier_between : live_session more Copy ≡ None → IsBetween then_work.copier.step
  then_copier_between none = by then_stands.copier where
    by : (is_reverting (moment plan more).tool.reason ≡ true) ⊎ Stands (copier_asks then_work.copier.step) (copier_busy then_work.copier.step) [] (standing_of plan more Copy) → IsBetween then_work.copier.step
    by (inl on) = absurd (true≢false (sym on ∙ then_going))
    by (inr stands) = between_if then_work.copier.step (sym stands.busy ∙ ap (λ (s : Standing). s.busy) (then_free Copy none))

  then_applier_between : live_session more Apply ≡ None → IsUnbusy then_work.applier.step
  then_applier_between none = by then_stands.applier where
    by : (is_reverting (moment plan more).tool.reason ≡ true) ⊎ ApplierStands more then_work.applier (standing_of plan more Apply) → IsUnbusy then_work.applier.step
    by (inl on) = absurd (true≢false (sym on ∙ then_going))
    by (inr applier) = unbusy_if then_work.applier.step (sym (applier.stands).busy ∙ ap (λ (s : Standing). s.busy) (then_free Apply none))

  -- the copier goes on in its session, or in a new one
  copier_seated : (copier applier : ℕ) → entry.actor ≡ Copy → ActorStates more copier applier → Following (machines_in then_work entry.session applier) → Following (machines_in then_work copier applier)
  copier_seated copier applier same actor_states was = by (live_session more Copy) refl actor_states.copy where
    by : (live : Option ℕ) → live_session more Copy ≡ live → MayTake more copier live → Following (machines_in then_work copier applier)
    by (Some session) lives may =
        let own = left_own entry.asked entry.answer entry.session session (sym (left_here Copy same) ∙ lives) in
        subst (λ (n : ℕ). Following (machines_in then_work n applier)) (sym (may ∙ own.1)) was
    by None lives above =
        moves_keep m at rows limits scene more (machines_in then_work entry.session applier) (machines_in then_work copier applier)
        (copier_moves copier (then_copier_between lives) (new_holds plan more copier then_together.known above) actor_states.two refl) was

  -- so does the applier
  applier_seated : (copier applier : ℕ) → entry.actor ≡ Apply → ActorStates more copier applier → (live_session more Apply ≡ None → hold_at then entry.session ≡ no_hold) → Following (machines_in then_work copier entry.session) → Following (machines_in then_work copier applier)
  applier_seated copier applier same actor_states gone was = by (live_session more Apply) refl actor_states.apply where
    by : (live : Option ℕ) → live_session more Apply ≡ live → MayTake more applier live → Following (machines_in then_work copier applier)
    by (Some session) lives may =
        let own = left_own entry.asked entry.answer entry.session session (sym (left_here Apply same) ∙ lives) in
        subst (λ (n : ℕ). Following (machines_in then_work copier n)) (sym (may ∙ own.1)) was
    by None lives above =
        moves_keep m at rows limits scene more (machines_in then_work copier entry.session) (machines_in then_work copier applier)
        (applier_moves applier (gone lives) (then_applier_between lives) (new_holds plan more applier then_together.known above) actor_states.two refl) was

  cut_gone : entry.asked ≡ Cut → hold_at then entry.session ≡ no_hold
  cut_gone asks = (cuts_are_left limits scene journal entry (ap is_cut asks) (run.answered.sides (ap may_lose asks))).1.here

  took_gone : (copier : ℕ) → entry.actor ≡ Apply → is_cut entry.asked ≡ false → then_work.applier ≡ appliers.took turn work.applier entry.answer → Following (machines_in then_work copier entry.session) → live_session more Apply ≡ None → hold_at then entry.session ≡ no_hold
  unfolding appliers.took
  took_gone copier same uncut applier was none =
      rests_own m at rows copier entry.session _
      (ap (λ (s : ApplyStep). plan_at m more s)
      (ap (λ (a : Applier). a.step) applier ∙ ap (λ (a : Answer). (appliers.took turn work.applier a).step) (lost_answer entry.asked entry.answer entry.session (about_uncommanded asks.request (has Apply) entry.asked asks.is_about) (sym (left_here Apply same) ∙ none)))) was.tool.stands where
        asks : ApplyAsks plan journal entry.asked work.applier
        asks = apply_asks plan m at rows of journal entry kept off work tool_phase going goes same uncut

  -- seats before the turn
  both_before : (copier applier : ℕ) → IsThird entry.actor → ActorStates more copier applier → ActorStates journal copier applier
  both_before copier applier third actor_states = record {
    copy = actor_state_before plan journal entry together.known actor_state Copy copier third.0 actor_states.copy;
    apply = actor_state_before plan journal entry together.known actor_state Apply applier third.1 actor_states.apply;
    two = actor_states.two;
  }

  -- ALL TURNS

  -- the machines behind the turn are the tool's
  become : (copier : Copier) (applier : Applier) (copier_session applier_session : ℕ) → then_work.copier ≡ copier → then_work.applier ≡ applier → Following (record { copier = copier; copier_session = copier_session; applier = applier; applier_session = applier_session }) → Following (machines_in then_work copier_session applier_session)
  become copier applier copier_session applier_session one other was =
      subst (λ (c : Copier). Following (record { copier = c; copier_session = copier_session; applier = then_work.applier; applier_session = applier_session })) (sym one)
      (subst (λ (a : Applier). Following (record { copier = copier; copier_session = copier_session; applier = a; applier_session = applier_session })) (sym other) was)

  others_turned : (copier applier : ℕ) → IsThird entry.actor → ActorStates more copier applier → Following (machines_in work copier applier)
  others_turned copier applier third actor_states =
      turns_keep m at rows of.place of.planned of.is_place of.finds named_new limits scene journal entry (machines_in work copier applier) _ scene_run
      (others_turn
      (record {
        sides = run.answered.sides;
        no_copier = actor_state_apart plan journal entry together.known actor_state Copy copier third.0 actor_states.copy;
        no_applier = actor_state_apart plan journal entry together.known actor_state Apply applier third.1 actor_states.apply;
        away = λ request is. by entry.asked refl request is;
      }) refl) (before_in plan m at rows of journal entry kept off work tool_phase going goes copier applier (both_before copier applier third actor_states)) where
        by : (asked : Asked) → entry.asked ≡ asked → (request : Request) → about (opens entry now) entry.session entry.asked ≡ Some request → KeepsAway m (reported_at entry.side entry.answer entry.missed) request
        by (Command word) asks request is = absurd (no (sym (ap (about (opens entry now) entry.session) asks) ∙ is)) where
          no : None ≡ Some request → ⊥
          no same = cc
        by (Call called) asks request is = others_away plan of.serial m of.of of.runs.fitting journal entry known run off work tool_phase unmarked (ap is_command asks) third request is
        by Poll asks request is = others_away plan of.serial m of.of of.runs.fitting journal entry known run off work tool_phase unmarked (ap is_command asks) third request is
        by Cut asks request is = others_away plan of.serial m of.of of.runs.fitting journal entry known run off work tool_phase unmarked (ap is_command asks) third request is

  word_size : (all : List OperatorWord) (column_position : ℕ) (size : ℕ) → AllByRecursion SizeFits all → commands (slice_get all column_position) ≡ Some (Command (ChunkSize size)) → 0 < size
  word_size [] column_position size fits none = absurd cc
  word_size (first ∷ all) zero size fits some = let same : first ≡ ChunkSize size = cc in subst SizeFits same fits.0
  word_size (first ∷ all) (suc column_position) size fits some = word_size all column_position size fits.1 some

  op_size : (size : ℕ) → entry.actor ≡ Op → entry.asked ≡ Command (ChunkSize size) → 0 < size
  unfolding given
  op_size size same asks = word_size (words_of plan) (moment plan journal).tool.operator.taken size of.runs.fitting.commands (subst (λ (a : Actor). given plan journal a ≡ Some (Command (ChunkSize size))) same (by entry.asked asks run.followed.given)) where
    by : (asked : Asked) → asked ≡ Command (ChunkSize size) → IsGiven plan journal entry asked → given plan journal entry.actor ≡ Some (Command (ChunkSize size))
    by (Command word) one gives = gives ∙ ap Some one
    by (Call request) one gives = absurd cc
    by Poll one gives = absurd cc
    by Cut one gives = absurd cc

  stands_then : (copier applier : ℕ) → ActorStates more copier applier → Effect plan journal entry work then_work → Following (machines_in then_work copier applier)
  stands_then copier applier actor_states (copier_took same uncut fits one other) =
      copier_seated copier applier same actor_states (become _ _ entry.session applier one other (copier_takes plan m at rows of journal entry kept off work tool_phase going goes copier applier actor_states same uncut fits))
  stands_then copier applier actor_states (copier_lost same asks one other) =
      copier_seated copier applier same actor_states (become _ _ entry.session applier one other (copier_loses plan m at rows of journal entry kept off work tool_phase going goes copier applier actor_states same asks))
  stands_then copier applier actor_states (copier_idle same asks rests one other) =
      copier_seated copier applier same actor_states
      (become _ _ entry.session applier one other
      (turns_keep m at rows of.place of.planned of.is_place of.finds named_new limits scene journal entry (machines_in work entry.session applier) _ scene_run (copier_is_idle (is_cut_by entry.session refl asks) (copier_between (idle_free Copy same asks rests)) refl)
      (copier_before plan m at rows of journal entry kept off work tool_phase going goes copier applier actor_states same (ap is_command asks))))
  stands_then copier applier actor_states (applier_took same uncut fits one other) =
      let was : Following (machines_in then_work copier entry.session) = become _ _ copier entry.session one other (applier_takes plan m at rows of journal entry kept off work tool_phase going goes copier applier actor_states same uncut fits) in
      applier_seated copier applier same actor_states (took_gone copier same uncut other was) was
  stands_then copier applier actor_states (applier_lost same asks one other) =
      applier_seated copier applier same actor_states (λ none. cut_gone asks) (become _ _ copier entry.session one other (applier_loses plan m at rows of journal entry kept off work tool_phase going goes copier applier actor_states same asks))
  stands_then copier applier actor_states (applier_idle same asks rests one other) =
      let none : has Apply ≡ free = idle_free Apply same asks rests in
      applier_seated copier applier same actor_states (λ lost. cut_gone asks)
      (become _ _ copier entry.session one other
      (turns_keep m at rows of.place of.planned of.is_place of.finds named_new limits scene journal entry (machines_in work copier entry.session) _ scene_run (applier_is_idle (is_cut_by entry.session refl asks) (free_holds Apply same asks none) (applier_between none) refl)
      (applier_before plan m at rows of journal entry kept off work tool_phase going goes copier applier actor_states same (ap is_command asks))))
  stands_then copier applier actor_states (neither no_copy no_apply one other) = become _ _ copier applier one other (others_turned copier applier (no_copy, no_apply) actor_states)
  stands_then copier applier actor_states (resizes_so size asks same one other) =
      become _ _ copier applier one other
      (moves_keep m at rows limits scene more (machines_in work copier applier) _ (chunks_resize size (op_size size same asks) refl)
      (others_turned copier applier (ap (λ (a : Actor). same_actor a Copy) same, ap (λ (a : Actor). same_actor a Apply) same) actor_states))

  -- WHAT WAITS BEHIND THE TURN

  copier_knows : CopierKnows journal work.copier
  copier_knows = some_before (CopierKnows journal work.copier) (λ machines copier applier is. subst (CopierKnows journal) copier is.copier_knows)

  applier_knows : ApplierKnows m journal work.applier
  applier_knows = some_before (ApplierKnows m journal work.applier) (λ machines copier applier is. subst (ApplierKnows m journal) applier is.applier_knows)

  -- with another size it knows as much
  waits_longer : (request : Request) → CopyWaits journal work.copier request → CopyWaits more work.copier request
  waits_longer request waits =
      record { size = waits.size; some = waits.some; next = next_more journal (entry ∷ []) (resized waits.size work.copier) request (record { following = copier_knows.following; step = copier_knows.step; sized = waits.some }) waits.next }

  -- an answer behind which it waits leaves the copier
  quiet_if : (request asked : Request) (answer : Answer) (old : Standing) → (answered asked answer old).waits ≡ Some request → (copiers.took turn work.copier answer ≡ work.copier) × (appliers.took turn work.applier answer ≡ work.applier) × (asked ≡ request)
  quiet_if request asked (answers.Waits by) old some = (quiet_took turn work.copier (answers.Waits by) tt, knowing.waits_took turn work.applier (answers.Waits by) tt, let one : asked ≡ request = cc in one)
  quiet_if request asked answers.Lost old some = absurd cc
  quiet_if request asked (answers.TimedOut waited) old some = absurd cc
  quiet_if request asked answer old some = absurd cc

  has_then : (actor : Actor) (request : Request) → entry.actor ≡ actor → IsAbout request (has actor) entry.asked → standing_of plan more actor ≡ answered request entry.answer (has actor)
  has_then actor request same is_about =
      subst (λ (a : Actor). standing_of plan more a ≡ answered request entry.answer (has a)) same (own_stands plan journal entry together.known served request (subst (λ (a : Actor). IsAbout request (has a) entry.asked) (sym same) is_about))

  lost_then : (actor : Actor) → entry.actor ≡ actor → entry.asked ≡ Cut → (request : Request) → (standing_of plan more actor).waits ≡ Some request → ⊥
  lost_then actor same asks request some = no (sym (ap (λ (s : Standing). s.waits) (subst (λ (a : Actor). standing_of plan more a ≡ free) same (own_lost plan journal entry together.known served asks))) ∙ some) where
    no : None ≡ Some request → ⊥
    no both = cc

  same_then : (actor : Actor) → same_actor entry.actor actor ≡ false → (request : Request) → (standing_of plan more actor).waits ≡ Some request → (has actor).waits ≡ Some request
  same_then actor differ request some = ap (λ (s : Standing). s.waits) (sym (others_stand plan journal entry together.known served actor differ)) ∙ some

  as_copier : (request : Request) (copier : Copier) → then_work.copier ≡ copier → CopyWaits more copier request → CopyWaits more then_work.copier request
  as_copier request copier same waits = subst (λ (c : Copier). CopyWaits more c request) (sym same) waits

  copy_waits_then : Effect plan journal entry work then_work → (request : Request) → (standing_of plan more Copy).waits ≡ Some request → CopyWaits more then_work.copier request
  copy_waits_then (copier_took same uncut fits one other) request some =
      let asks : CopyAsks plan journal entry.asked work.copier = copy_asks plan m at rows of journal entry kept off work tool_phase going goes same uncut in
      let quiet = quiet_if request asks.request entry.answer (has Copy) (ap (λ (s : Standing). s.waits) (sym (has_then Copy asks.request same asks.is_about)) ∙ some) in
      as_copier request work.copier (one ∙ quiet.0) (waits_longer request (subst (CopyWaits journal work.copier) quiet.2 asks.waits))
  copy_waits_then (copier_lost same asks one other) request some = absurd (lost_then Copy same asks request some)
  copy_waits_then (copier_idle same asks rests one other) request some = absurd (lost_then Copy same asks request some)
  copy_waits_then (applier_took same uncut fits one other) request some = as_copier request work.copier one (waits_longer request (goes.copy_waits request (same_then Copy (ap (λ (a : Actor). same_actor a Copy) same) request some)))
  copy_waits_then (applier_lost same asks one other) request some = as_copier request work.copier one (waits_longer request (goes.copy_waits request (same_then Copy (ap (λ (a : Actor). same_actor a Copy) same) request some)))
  copy_waits_then (applier_idle same asks rests one other) request some = as_copier request work.copier one (waits_longer request (goes.copy_waits request (same_then Copy (ap (λ (a : Actor). same_actor a Copy) same) request some)))
  copy_waits_then (neither no_copy no_apply one other) request some = as_copier request work.copier one (waits_longer request (goes.copy_waits request (same_then Copy no_copy request some)))
  copy_waits_then (resizes_so size asks same one other) request some =
      let waits : CopyWaits more work.copier request = waits_longer request (goes.copy_waits request (same_then Copy (ap (λ (a : Actor). same_actor a Copy) same) request some)) in
      as_copier request (resized size work.copier) one (record { size = waits.size; some = waits.some; next = waits.next })

  as_applier : (request : Request) → then_work.applier ≡ work.applier → appliers.next journal work.applier ≡ request → appliers.next more then_work.applier ≡ request
  as_applier request same next = ap (appliers.next more) same ∙ apply_next_more m journal (entry ∷ []) work.applier applier_knows ∙ next

  apply_waits_then : Effect plan journal entry work then_work → (request : Request) → (standing_of plan more Apply).waits ≡ Some request → appliers.next more then_work.applier ≡ request
  apply_waits_then (applier_took same uncut fits one other) request some =
      let asks : ApplyAsks plan journal entry.asked work.applier = apply_asks plan m at rows of journal entry kept off work tool_phase going goes same uncut in
      let quiet = quiet_if request asks.request entry.answer (has Apply) (ap (λ (s : Standing). s.waits) (sym (has_then Apply asks.request same asks.is_about)) ∙ some) in
      as_applier request (other ∙ quiet.1) (asks.next ∙ quiet.2)
  apply_waits_then (applier_lost same asks one other) request some = absurd (lost_then Apply same asks request some)
  apply_waits_then (applier_idle same asks rests one other) request some = absurd (lost_then Apply same asks request some)
  apply_waits_then (copier_took same uncut fits one other) request some = as_applier request other (goes.apply_waits request (same_then Apply (ap (λ (a : Actor). same_actor a Apply) same) request some))
  apply_waits_then (copier_lost same asks one other) request some = as_applier request other (goes.apply_waits request (same_then Apply (ap (λ (a : Actor). same_actor a Apply) same) request some))
  apply_waits_then (copier_idle same asks rests one other) request some = as_applier request other (goes.apply_waits request (same_then Apply (ap (λ (a : Actor). same_actor a Apply) same) request some))
  apply_waits_then (neither no_copy no_apply one other) request some = as_applier request other (goes.apply_waits request (same_then Apply no_apply request some))
  apply_waits_then (resizes_so size asks same one other) request some = as_applier request other (goes.apply_waits request (same_then Apply (ap (λ (a : Actor). same_actor a Apply) same) request some))

  -- WHAT NEVER CHANGES

  map_then : Effect plan journal entry work then_work → then_work.copier.map ≡ work.copier.map
  map_then (copier_took same uncut fits one other) = ap (λ (c : Copier). c.map) one ∙ map_took turn work.copier entry.answer
  map_then (copier_lost same asks one other) = ap (λ (c : Copier). c.map) one
  map_then (copier_idle same asks rests one other) = ap (λ (c : Copier). c.map) one
  map_then (applier_took same uncut fits one other) = ap (λ (c : Copier). c.map) one
  map_then (applier_lost same asks one other) = ap (λ (c : Copier). c.map) one
  map_then (applier_idle same asks rests one other) = ap (λ (c : Copier). c.map) one
  map_then (neither no_copy no_apply one other) = ap (λ (c : Copier). c.map) one
  map_then (resizes_so size asks same one other) = ap (λ (c : Copier). c.map) one

  fixed_then : Effect plan journal entry work then_work → fixed then_work.applier ≡ fixed work.applier
  fixed_then (copier_took same uncut fits one other) = ap fixed other
  fixed_then (copier_lost same asks one other) = ap fixed other
  fixed_then (copier_idle same asks rests one other) = ap fixed other
  fixed_then (applier_took same uncut fits one other) = ap fixed other ∙ fixed_took turn work.applier entry.answer
  fixed_then (applier_lost same asks one other) = ap fixed other
  fixed_then (applier_idle same asks rests one other) = ap fixed other
  fixed_then (neither no_copy no_apply one other) = ap fixed other
  fixed_then (resizes_so size asks same one other) = ap fixed other

  -- *The migration goes on*
  pub goes_on : Goes plan m at rows more then_work
  goes_on = record {
    stands = λ copier applier actor_states. in_scene plan m at rows more [] more (machines_in then_work copier applier) (stands_then copier applier actor_states effect);
    copy_waits = copy_waits_then effect;
    apply_waits = apply_waits_then effect;
    map = map_then effect ∙ goes.map;
    schema = ap (λ (f : Fixed). f.schema) (fixed_then effect) ∙ goes.schema;
    apply_map = ap (λ (f : Fixed). f.map) (fixed_then effect) ∙ goes.apply_map;
  }
