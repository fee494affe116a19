-- Every turn of the migration, and every move between turns, keeps it standing; and the law over journals.
use Rattle.std.proofs.Common.{◌≡◌, ◌≤◌, ℕ, ◌+◌, Bool, true, false, cond, List, [], ◌∷◌, ◌++◌, drop, length, Some, None, refl, sym, ap, ◌∙◌, subst, arith}
use Rattle.std.specs.Prelude.{◌==◌}
use Rattle.std.specs.List.{slice_get}
use Rattle.std.specs.Str.{bytes_eq}
use Rattle.base_values.specs.GhoSchema.ClusteredKey.{clustered_place}
use Rattle.base_values.specs.declared.event.RowEvent.{RowEvent}
use Rattle.server_model.specs.declared.entry.Entry.{Entry}
use Rattle.server_model.specs.declared.session.Limits.{Limits}
use Rattle.server_model.specs.States.{State, opened}
use Rattle.base_values.specs.ToolNames.{ghost_name}
use Rattle.tool_program.specs.declared.chunk_copier.copier.Copier.{Copier}
use Rattle.tool_program.specs.declared.chunk_copier.copier.CopyStep.TheVariants.{Choosing}
use Rattle.tool_program.specs.declared.event_applier.applier.Applier.{Applier}
use Rattle.tool_program.specs.declared.event_applier.applier.ApplyStep.{ApplyStep}
use Rattle.tool_program.specs.declared.event_applier.applier.ApplyStep.TheVariants.{Reading, Beginning, Applying, Committing}
use Rattle.tool_program.specs.ChunkCopier.Copiers as copiers
use Rattle.tool_program.specs.EventApplier.Appliers.{events_of}
use Rattle.tool_program.specs.EventApplier.Appliers as appliers
use Rattle.proof_journals.specs.Scenes.{Besides, Scene, SessionHold, no_hold}
use Rattle.proof_journals.specs.Holdings.{Face, face_of, stored}
use Rattle.proof_journals.specs.Turns.{IsSceneRun, IsReported as IsEntryReported, scene_state}
use Rattle.proof_journals.proofs.Journals.{journal_holds, state_more}
use Rattle.proof_journals.proofs.ServerTurns.Others.{entry_faces}
use Rattle.server_model.proofs.LockedRows.Tests.{are_one, turned}
use Rattle.proof_journals.specs.Ghost.Rows.Moments.{Row}
use Rattle.proof_journals.specs.Ghost.Rows.Timelines.{IsPlanned, Migration}
use Rattle.proof_journals.specs.Ghost.Copies.{IsAltered}
use Rattle.proof_journals.specs.Ghost.Doings.{changes_in, planned}
use Rattle.proof_journals.specs.Ghost.HeldKeys.{Clustered}
use Rattle.proof_journals.specs.Ghost.Invariant.{IsServed, NotOf}
use Rattle.proof_journals.specs.Ghost.OwnChanges.{EventsReported, IsReported, own_changes}
use Rattle.proof_journals.specs.Ghost.ToolTurns.{ApplyPlan, ToolMoment, ToolStands}
use Rattle.proof_journals.specs.Ghost.ToolTurns.ApplyPlan.{Resting}
use Rattle.proof_journals.specs.Ghost.ToolTurns.ToolTurn.{batch_is_lost, batch_is_passed}
use Rattle.proof_journals.specs.Ghost.Tool.{CopyState}
use Rattle.proof_journals.specs.Ghost.Tool.CopyState.{Waiting}
use Rattle.proof_journals.proofs.Ghost.Copies.{end_altered, start_stands}
use Rattle.proof_journals.proofs.Ghost.Leaving.{holds_of}
use Rattle.proof_journals.proofs.Ghost.Reading.{IsPart, next_part, part_of}
use Rattle.proof_journals.proofs.Ghost.Running.{any_kept, turn_keeps}
use Rattle.proof_journals.proofs.Ghost.Turns.{along_next, run_front, writes_fit}
use Rattle.proof_journals.proofs.Ghost.Undone.{cuts_are_left}
use Rattle.proof_migration.specs.Migration.Copier.CopierPlace.{AfterReported, CopierKnows, StepKnows, copy_state, moment_of}
use Rattle.proof_migration.specs.Migration.Copier.Laws.{CopierStands}
use Rattle.proof_migration.proofs.Migration.Copier.Copiers.{copiers_keep}
use Rattle.proof_migration.proofs.Migration.Copier.Served.{stands_same}
use Rattle.proof_migration.specs.Migration.Applier.ApplierPlace.{ApplierKnows, StepIsBusy, apply_plan}
use Rattle.proof_migration.specs.Migration.Applier.ApplierPlace as applying
use Rattle.proof_migration.specs.Migration.Applier.FoundColumns.{FindsRows}
use Rattle.proof_migration.specs.Migration.Applier.Laws.{ApplierStands}
use Rattle.proof_migration.proofs.Migration.Applier.Appliers.{appliers_keep}
use Rattle.proof_migration.proofs.Migration.Applier.Knowing as knowing
use Rattle.proof_migration.specs.Migration.Away.{OthersAway}
use Rattle.proof_migration.specs.Migration.Laws.{JournalsAlter, MovesKeep, TurnsKeep}
use Rattle.proof_migration.specs.Migration.Machines.{IsCut, IsMigrationEnd, IsMigrationStart, IsUnbusy, Machines, MigrationRun, MigrationStands, MigrationTurn, StandsAway, Step, journal_after, machines_after, moment_at}
use Rattle.proof_migration.specs.Migration.Machines.MigrationMove.{copier_moves, applier_moves, chunks_resize, span_resizes}
use Rattle.proof_migration.specs.Migration.Machines.MigrationTurn.{copier_turns, applier_turns, others_turn, copier_is_cut, copier_is_idle, applier_is_cut, applier_is_idle}
use Rattle.proof_migration.specs.Migration.Machines.Step.{Turned, Moved}
use Rattle.proof_migration.proofs.Migration.Moving.{applier_in, copier_cut, copier_in, copier_knows_more, copy_more, span_state, waiting_own, waits_for}
use Rattle.proof_migration.proofs.Migration.Others.{others_keep}

-- EACH TURN

module _ (m : Migration) (at : Clustered m.schema) (rows : List Row) (place : ℕ) (plan : IsPlanned m rows) (is_place : clustered_place m.new ≡ Some place) (finds : FindsRows m) (named : m.new.name ≡ ghost_name m.name) (limits : Limits) (scene : Scene) (journal : List Entry) (entry : Entry) (run : IsSceneRun limits scene (journal ++ entry ∷ [])) (now : Machines)
    (was : MigrationStands m at rows limits scene journal now) where
  abbrev before : State
  before = scene_state limits scene journal

  abbrev after : State
  after = scene_state limits scene (journal ++ entry ∷ [])

  abbrev longer : List Entry
  longer = journal ++ entry ∷ []

  abbrev Goal : Machines → Type 0
  Goal next = MigrationStands m at rows limits scene longer next

  abbrev moment : ToolMoment
  moment = moment_at m before journal now

  front : IsSceneRun limits scene journal
  front = run_front limits scene journal (entry ∷ []) run

  entry_reported : IsEntryReported limits scene journal entry
  entry_reported = along_next (IsEntryReported limits scene) [] journal entry [] run.reported

  served : IsServed (stored before) (holds_of before)
  served = writes_fit limits scene journal front

  -- another session is as it was
  face_stays : (n : ℕ) → (n == entry.session) ≡ false → face_of after.sessions n ≡ face_of before.sessions n
  face_stays n differ = ap (λ (s : State). face_of s.sessions n) (state_more (opened limits scene.opening) journal entry) ∙ entry_faces limits scene journal entry (journal_holds limits scene journal front) n differ

  -- the two sessions are two
  two : (now.copier_session == now.applier_session) ≡ false
  two = any_kept ((now.copier_session == now.applier_session) ≡ false) m at rows now.copier_session now.applier_session moment (λ apply kept. kept.tool.two) was.tool.stands

  other : (now.applier_session == now.copier_session) ≡ false
  other = any_kept ((now.applier_session == now.copier_session) ≡ false) m at rows now.copier_session now.applier_session moment (λ apply kept. kept.tool.other) was.tool.stands

  -- others' writes stay in a turn of the copier or the applier
  away_more : ((n : ℕ) → (now.copier_session == n) ≡ false → (now.applier_session == n) ≡ false → (n == entry.session) ≡ false) → OthersAway m (holds_of after) now.copier_session now.applier_session
  away_more differs n no_copier no_applier = subst (λ (f : Face). NotOf m.new.name f.hold.writes) (sym (face_stays n (differs n no_copier no_applier))) (was.tool.away n no_copier no_applier)

  by_copier : entry.session ≡ now.copier_session → OthersAway m (holds_of after) now.copier_session now.applier_session
  by_copier its = away_more (λ n no_copier no_applier. ap (λ (k : ℕ). n == k) its ∙ turned now.copier_session n no_copier)

  by_applier : entry.session ≡ now.applier_session → OthersAway m (holds_of after) now.copier_session now.applier_session
  by_applier its = away_more (λ n no_copier no_applier. ap (λ (k : ℕ). n == k) its ∙ turned now.applier_session n no_applier)

  -- the applier's session where another has its turn
  busy_more : (now.applier_session == entry.session) ≡ false → StepIsBusy (now.applier).step (face_of after.sessions now.applier_session).busy
  busy_more differ = subst (λ (f : Face). StepIsBusy (now.applier).step f.busy) (sym (face_stays now.applier_session differ)) was.busy

  plan_longer : apply_plan m longer now.applier ≡ apply_plan m journal now.applier
  plan_longer = knowing.plan_more m journal (entry ∷ []) (now.applier).step was.applier_knows.step

  copy_longer : copy_state longer now.copier ≡ copy_state journal now.copier
  copy_longer = copy_more journal (entry ∷ []) now.copier was.copier_knows

  applier_longer : ApplierKnows m longer now.applier
  applier_longer = record { step = knowing.step_more m journal (entry ∷ []) (now.applier).step was.applier_knows.step; sized = was.applier_knows.sized }

  copier_longer : CopierKnows longer now.copier
  copier_longer = copier_knows_more journal (entry ∷ []) now.copier was.copier_knows

  -- where both stay as they are
  stays : StandsAway m at rows now.copier_session now.applier_session (moment_of after (copy_state journal now.copier) (apply_plan m journal now.applier) (now.applier).position) → StepIsBusy (now.applier).step (face_of after.sessions now.applier_session).busy → Goal now
  stays tool busy =
      record {
        tool =
            subst (λ (c : CopyState). StandsAway m at rows now.copier_session now.applier_session (moment_of after c (apply_plan m longer now.applier) (now.applier).position)) (sym copy_longer)
            (subst (λ (p : ApplyPlan). StandsAway m at rows now.copier_session now.applier_session (moment_of after (copy_state journal now.copier) p (now.applier).position)) (sym plan_longer) tool);
        copier_knows = copier_longer;
        applier_knows = applier_longer;
        busy = busy;
      }

  -- the copier's session is as before but that it is another's turn
  not_applier : entry.session ≡ now.copier_session → (now.applier_session == entry.session) ≡ false
  not_applier its = ap (λ (k : ℕ). now.applier_session == k) its ∙ other

  -- the copier is here
  copier_here : (copier : Copier) → entry.session ≡ now.copier_session → ToolStands m at rows now.copier_session now.applier_session (moment_of after (copy_state longer copier) (apply_plan m journal now.applier) (now.applier).position) → CopierKnows longer copier → Goal (record now { copier = copier })
  copier_here copier its stands knows =
      record {
        tool = record { stands = subst (λ (p : ApplyPlan). ToolStands m at rows now.copier_session now.applier_session (moment_of after (copy_state longer copier) p (now.applier).position)) (sym plan_longer) stands; away = by_copier its };
        copier_knows = knows;
        applier_knows = applier_longer;
        busy = busy_more (not_applier its);
      }

  -- the applier is here
  applier_here : (applier : Applier) → entry.session ≡ now.applier_session → ToolStands m at rows now.copier_session now.applier_session (moment_of after (copy_state journal now.copier) (apply_plan m longer applier) applier.position) → ApplierKnows m longer applier → StepIsBusy applier.step (face_of after.sessions now.applier_session).busy
      → Goal (record now { applier = applier })
  applier_here applier its stands knows busy =
      record {
        tool = record { stands = subst (λ (c : CopyState). ToolStands m at rows now.copier_session now.applier_session (moment_of after c (apply_plan m longer applier) applier.position)) (sym copy_longer) stands; away = by_applier its };
        copier_knows = copier_longer;
        applier_knows = knows;
        busy = busy;
      }

  unbusy : (step : ApplyStep) (b : Bool) → IsUnbusy step → StepIsBusy step b
  unbusy Reading b is = tt
  unbusy (Beginning batch) b is = tt
  unbusy (Applying batch done part) b is = absurd is
  unbusy (Committing batch) b is = tt

  -- what a loss between calls leaves
  cut_left : (session : ℕ) → IsCut entry session → (stored after ≡ stored before) × Besides session (holds_of before) (holds_of after) no_hold
  cut_left session cut = let left = cuts_are_left limits scene journal entry cut.cut cut.side in (left.0, subst (λ (n : ℕ). Besides n (holds_of before) (holds_of after) no_hold) cut.its left.1)

  abbrev copied : Copier
  copied = copiers.took (length journal + 1) now.copier entry.answer

  abbrev applied : Applier
  applied = appliers.took (length journal + 1) now.applier entry.answer

  turn_goal : (next : Machines) → MigrationTurn m limits scene journal entry now next → Goal next
  turn_goal next (copier_turns turn is) =
      subst Goal (sym is)
      (let keeps : CopierStands m at rows limits scene longer copied (apply_plan m journal now.applier) (now.applier).position entry.session now.applier_session =
      copiers_keep m at rows place plan is_place limits scene journal entry now.copier turn.request (apply_plan m journal now.applier) (now.applier).position now.applier_session
      (record { run = front; more = run; reported = entry_reported; table = turn.table; new_name = named; map = turn.map; asked = turn.asked; tool = turn.tool; given = turn.given; uncut = turn.uncut; fits = turn.fits })
      (record { stands = subst (λ (n : ℕ). ToolStands m at rows n now.applier_session moment) (sym turn.its) was.tool.stands; knows = was.copier_knows }) in
      copier_here copied turn.its (subst (λ (n : ℕ). ToolStands m at rows n now.applier_session (moment_of after (copy_state longer copied) (apply_plan m journal now.applier) (now.applier).position)) turn.its keeps.stands) keeps.knows)
  turn_goal next (applier_turns turn is) =
      subst Goal (sym is)
      (let keeps : ApplierStands m at rows limits scene longer applied (copy_state journal now.copier) now.copier_session entry.session =
      appliers_keep m at rows place plan is_place finds limits scene journal entry now.applier turn.request (copy_state journal now.copier) now.copier_session
      (record { run = front; more = run; reported = entry_reported; table = turn.table; schema = turn.schema; map = turn.map; asked = turn.asked; tool = turn.tool; given = turn.given; uncut = turn.uncut; fits = turn.fits })
      (record {
        stands = subst (λ (n : ℕ). ToolStands m at rows now.copier_session n moment) (sym turn.its) was.tool.stands;
        knows = was.applier_knows;
        busy = subst (λ (n : ℕ). StepIsBusy (now.applier).step (face_of before.sessions n).busy) (sym turn.its) was.busy;
      }) in
      applier_here applied turn.its (subst (λ (n : ℕ). ToolStands m at rows now.copier_session n (moment_of after (copy_state journal now.copier) (apply_plan m longer applied) applied.position)) turn.its keeps.stands) keeps.knows
      (subst (λ (n : ℕ). StepIsBusy applied.step (face_of after.sessions n).busy) turn.its keeps.busy))
  turn_goal next (others_turn turn is) =
      subst Goal (sym is)
      (stays (others_keep m at rows place plan is_place limits scene journal entry (copy_state journal now.copier) (apply_plan m journal now.applier) (now.applier).position now.copier_session now.applier_session run turn was.tool) (busy_more turn.no_applier))
  turn_goal next (copier_is_cut cut is) =
      let left = cut_left now.copier_session cut in
      subst Goal (sym is)
      (copier_here (record (now.copier) { step = Choosing }) cut.its
      (copier_cut m at rows place plan is_place journal entry before after now.copier now.copier_session now.applier_session (apply_plan m journal now.applier) (now.applier).position was.copier_knows served was.tool.stands left.0 left.1)
      (record { following = copier_longer.following; step = tt; sized = was.copier_knows.sized }))
  turn_goal next (copier_is_idle cut between is) =
      let left = cut_left now.copier_session cut in
      let waits = waits_for journal now.copier between in
      subst Goal (sym is)
      (stays
      (record {
        stands =
            stands_same m at rows now.copier_session now.applier_session before after (copy_state journal now.copier) (copy_state journal now.copier) (apply_plan m journal now.applier) (now.applier).position now.copier_session no_hold left.0 left.1
            (sym (waiting_own m at rows now.copier_session now.applier_session moment waits.left waits.is was.tool.stands)) refl was.tool.stands;
        away = by_copier cut.its;
      }) (busy_more (not_applier cut.its)))
  turn_goal next (applier_is_cut cut is) =
      let left = cut_left now.applier_session cut in
      subst Goal (sym is)
      (applier_here (record (now.applier) { step = Reading }) cut.its
      (turn_keeps m at rows place now.copier_session now.applier_session plan is_place moment (moment_of after (copy_state journal now.copier) Resting (now.applier).position) served was.tool.stands (batch_is_lost left.1 left.0 refl refl refl)) (record { step = tt; sized = was.applier_knows.sized }) tt)
  turn_goal next (applier_is_idle cut rests between is) =
      let left = cut_left now.applier_session cut in
      subst Goal (sym is)
      (stays
      (record {
        stands =
            stands_same m at rows now.copier_session now.applier_session before after (copy_state journal now.copier) (copy_state journal now.copier) (apply_plan m journal now.applier) (now.applier).position now.applier_session no_hold left.0 left.1 (sym rests) refl was.tool.stands;
        away = by_applier cut.its;
      }) (unbusy (now.applier).step _ between))

-- *Turns keep the migration*
pub turns_keep : TurnsKeep
turns_keep m at rows place plan is_place finds named limits scene journal entry before after run turn was = turn_goal m at rows place plan is_place finds named limits scene journal entry run before was after turn

-- EACH MOVE

-- no other session wrote, where one of the two is another
away_moved : (m : Migration) (hold : ℕ → SessionHold) (old copier applier : ℕ) → hold old ≡ no_hold → ((n : ℕ) → (n == old) ≡ false → (copier == n) ≡ false → (applier == n) ≡ false → NotOf m.new.name (hold n).writes) → OthersAway m hold copier applier
away_moved m hold old copier applier none each n no_copier no_applier = by (n == old) refl
  where
    by : (b : Bool) → (n == old) ≡ b → NotOf m.new.name (hold n).writes
    by true same = subst (λ (h : SessionHold). NotOf m.new.name h.writes) (sym (ap hold (are_one n old same) ∙ none)) tt
    by false differ = each n differ no_copier no_applier

-- *Moves keep the migration*
pub moves_keep : MovesKeep
moves_keep m at rows limits scene journal before _ (copier_moves session between free two is) was =
    let state : State = scene_state limits scene journal in
    let waits = waits_for journal before.copier between in
    let rests : holds_of state before.copier_session ≡ no_hold = waiting_own m at rows before.copier_session before.applier_session (moment_at m state journal before) waits.left waits.is was.tool.stands in
    subst (MigrationStands m at rows limits scene journal) (sym is)
    (record {
      tool = record {
        stands = copier_in m at rows before.copier_session session before.applier_session (moment_at m state journal before) (free ∙ sym rests) two (turned session before.applier_session two) was.tool.stands;
        away = away_moved m (holds_of state) before.copier_session session before.applier_session rests (λ n differ no_copier no_applier. was.tool.away n (turned n before.copier_session differ) no_applier);
      };
      copier_knows = was.copier_knows;
      applier_knows = was.applier_knows;
      busy = was.busy;
    })
moves_keep m at rows limits scene journal before _ (applier_moves session rests between free two is) was =
    let state : State = scene_state limits scene journal in
    subst (MigrationStands m at rows limits scene journal) (sym is)
    (record {
      tool = record {
        stands = applier_in m at rows before.copier_session before.applier_session session (moment_at m state journal before) (free ∙ sym rests) two (turned before.copier_session session two) was.tool.stands;
        away = away_moved m (holds_of state) before.applier_session before.copier_session session rests (λ n differ no_copier no_applier. was.tool.away n no_copier (turned n before.applier_session differ));
      };
      copier_knows = was.copier_knows;
      applier_knows = was.applier_knows;
      busy = still (before.applier).step between;
    })
  where
    still : (step : ApplyStep) → IsUnbusy step → StepIsBusy step (face_of (scene_state limits scene journal).sessions session).busy
    still Reading is = tt
    still (Beginning batch) is = tt
    still (Applying batch done part) is = absurd is
    still (Committing batch) is = tt
moves_keep m at rows limits scene journal _ _ (chunks_resize size some is) was =
    subst (MigrationStands m at rows limits scene journal) (sym is)
    (record { tool = was.tool; copier_knows = record { following = was.copier_knows.following; step = was.copier_knows.step; sized = some }; applier_knows = was.applier_knows; busy = was.busy })
moves_keep m at rows limits scene journal before _ (span_resizes reported old size here some is) was =
    subst (MigrationStands m at rows limits scene journal) (sym is)
    (record {
      tool = subst (λ (c : CopyState). StandsAway m at rows before.copier_session before.applier_session (moment_of (scene_state limits scene journal) c (apply_plan m journal before.applier) before.applier.position)) (span_state journal before.copier reported old size here) was.tool;
      copier_knows = record { following = was.copier_knows.following; step = ((subst (StepKnows journal (before.copier).range) here was.copier_knows.step).0, some); sized = was.copier_knows.sized };
      applier_knows = was.applier_knows;
      busy = was.busy;
    })

-- ALL OF A JOURNAL

pub run_after : (limits : Limits) (scene : Scene) (journal : List Entry) (steps : List Step) → IsSceneRun limits scene (journal_after journal steps) → IsSceneRun limits scene journal
run_after limits scene journal [] run = run
run_after limits scene journal (Turned entry next ∷ steps) run = run_front limits scene journal (entry ∷ []) (run_after limits scene (journal ++ entry ∷ []) steps run)
run_after limits scene journal (Moved next ∷ steps) run = run_after limits scene journal steps run

pub runs_keep : (m : Migration) (at : Clustered m.schema) (rows : List Row) (place : ℕ) → IsPlanned m rows → clustered_place m.new ≡ Some place → FindsRows m → m.new.name ≡ ghost_name m.name → (limits : Limits) (scene : Scene) (journal : List Entry) (now : Machines) (steps : List Step) → IsSceneRun limits scene (journal_after journal steps)
    → MigrationRun m limits scene journal now steps → MigrationStands m at rows limits scene journal now → MigrationStands m at rows limits scene (journal_after journal steps) (machines_after now steps)
runs_keep m at rows place plan is_place finds named limits scene journal now [] run turns was = was
runs_keep m at rows place plan is_place finds named limits scene journal now (Turned entry next ∷ steps) run turns was =
    runs_keep m at rows place plan is_place finds named limits scene (journal ++ entry ∷ []) next steps run turns.1
    (turns_keep m at rows place plan is_place finds named limits scene journal entry now next (run_after limits scene (journal ++ entry ∷ []) steps run) turns.0 was)
runs_keep m at rows place plan is_place finds named limits scene journal now (Moved next ∷ steps) run turns was =
    runs_keep m at rows place plan is_place finds named limits scene journal next steps run turns.1 (moves_keep m at rows limits scene journal now next turns.0 was)

-- the start
pub starts : (m : Migration) (at : Clustered m.schema) (rows : List Row) → IsPlanned m rows → (limits : Limits) (scene : Scene) (journal : List Entry) (now : Machines) → IsMigrationStart m rows limits scene journal now → MigrationStands m at rows limits scene journal now
starts m at rows plan limits scene journal now start =
    record {
      tool = record { stands = start_stands m at rows now.copier_session now.applier_session (moment_at m (scene_state limits scene journal) journal now) plan start.start; away = start.away };
      copier_knows = record { following = subst (AfterReported journal) (sym start.following) tt; step = subst (StepKnows journal (now.copier).range) (sym start.choosing) tt; sized = start.sized };
      applier_knows = record { step = subst (applying.StepKnows m journal) (sym start.reading) tt; sized = start.batched };
      busy = subst (λ (s : ApplyStep). StepIsBusy s (face_of (scene_state limits scene journal).sessions now.applier_session).busy) (sym start.reading) tt;
    }

-- no change of a table is among events that are none of its
none_in : (name : List ℕ) (log : List RowEvent) (place : ℕ) (part : List RowEvent) → IsPart log place part → events_of name part ≡ [] → changes_in name log place (length part) ≡ []
unfolding changes_in
none_in name log place [] is none = refl
none_in name log place (event ∷ part) is none =
    let here : slice_get log place ≡ Some event = (let e : place ≡ place + 0 = omega arith in ap (slice_get log) e) ∙ is.at 0 in
    rw here (by (bytes_eq event.table name) none (none_in name log (place + 1) part (next_part log place event part is)))
  where
    by : (b : Bool) → cond b (event ∷ events_of name part) (events_of name part) ≡ [] → (events_of name part ≡ [] → changes_in name log (place + 1) (length part) ≡ []) → cond b (event.change ∷ []) [] ++ changes_in name log (place + 1) (length part) ≡ []
    by true some rest = absurd cc
    by false nothing rest = rest nothing

nothing_reported : (name : List ℕ) (log : List RowEvent) (position : ℕ) → position ≤ length log → events_of name (drop position log) ≡ [] → IsReported name log position (record { events = []; next = length log })
unfolding own_changes
nothing_reported name log position within none =
    let part : IsPart log position (drop position log) = part_of log position within in
    let size = part.size in
    record { steps = length (drop position log); sum = sym size; within = omega arith; are = sym (none_in name log position (drop position log) part none) }

no_plan : (m : Migration) → planned m (own_changes m.name []) ≡ []
unfolding planned own_changes
no_plan m = refl

-- the mark
pub ends : (m : Migration) (at : Clustered m.schema) (rows : List Row) (place : ℕ) → IsPlanned m rows → clustered_place m.new ≡ Some place → (limits : Limits) (scene : Scene) (journal : List Entry) (now : Machines) → IsSceneRun limits scene journal → IsMigrationEnd m (scene_state limits scene journal) now
    → MigrationStands m at rows limits scene journal now → IsAltered m (scene_state limits scene journal).tables
ends m at rows place plan is_place limits scene journal now run end was =
    let state : State = scene_state limits scene journal in
    let moment : ToolMoment = moment_at m state journal now in
    let copied : copy_state journal now.copier ≡ Waiting None = rw (end.copied) refl in
    let within : (now.applier).position ≤ length state.log =
    any_kept ((now.applier).position ≤ length state.log) m at rows now.copier_session now.applier_session moment
    (λ apply kept.
    let from = kept.tool.kept.joined.under_way.are.from in
    let to = kept.tool.kept.joined.under_way.are.to in
    let last = kept.tool.kept.joined.under_way.end in
    let here = kept.here in omega (arith, from, to, last, here)) was.tool.stands in
    let reported : EventsReported = record { events = []; next = length state.log } in
    let resting : apply_plan m journal now.applier ≡ Resting = ap (applying.plan_at m journal) end.idle in
    end_altered m at rows now.copier_session now.applier_session (moment_of state (copy_state journal now.copier) Resting (length state.log)) plan (record { copied = copied; applied = refl })
    (turn_keeps m at rows place now.copier_session now.applier_session plan is_place moment (moment_of state (copy_state journal now.copier) Resting (length state.log)) (writes_fit limits scene journal run) was.tool.stands
    (batch_is_passed reported resting (nothing_reported m.name state.log (now.applier).position within end.applied) (no_plan m) refl refl refl refl refl))

-- *Journals alter the table.*
pub journals_alter : JournalsAlter
journals_alter m at rows place plan is_place finds limits scene journal now steps run start turns end =
    ends m at rows place plan is_place limits scene (journal_after journal steps) (machines_after now steps) run end
    (runs_keep m at rows place plan is_place finds start.named limits scene journal now steps run turns (starts m at rows plan limits scene journal now start))
