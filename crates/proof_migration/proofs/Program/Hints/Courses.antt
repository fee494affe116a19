-- What is known of the hint rows goes on through each turn.
use Rattle.std.proofs.Common.{◌≡◌, ◌≢◌, ◌⊎◌, ◌≤◌, ◌+◌, ℕ, Bool, true, false, cond, List, [], ◌∷◌, ◌++◌, length, Option, Some, None, refl, sym, ap, ◌∙◌, subst, inl, inr, arith, length-append}
use Rattle.std.proofs.lemmas.Bool.{false≢true, true≢false}
use Rattle.base_values.specs.declared.event.RowEvent.{RowEvent}
use Rattle.base_script.specs.declared.actor.Actor.{Actor}
use Rattle.base_script.specs.declared.actor.Actor.TheVariants.{Op, Insp, Copy, Apply, Lock, Ren, Client}
use Rattle.base_script.specs.declared.actor.Side.{Side}
use Rattle.base_script.specs.declared.operator.OperatorWord.{OperatorWord}
use Rattle.base_script.specs.declared.operator.OperatorWord.TheVariants.{ChunkSize}
use Rattle.server_model.specs.declared.answer.Answer.{Answer}
use Rattle.server_model.specs.declared.answer.Answer.TheVariants as answers
use Rattle.server_model.specs.declared.answer.KeyRange.{KeyRange}
use Rattle.server_model.specs.declared.entry.Asked.{Asked}
use Rattle.server_model.specs.declared.entry.Asked.TheVariants.{Call, Poll, Command, Cut}
use Rattle.server_model.specs.declared.entry.Entry.{Entry}
use Rattle.server_model.specs.declared.request.Request.{Request}
use Rattle.server_model.specs.declared.request.Request.TheVariants as requests
use Rattle.server_model.specs.Entries.{is_cut, same_actor}
use Rattle.server_model.specs.States.{State}
use Rattle.plan_data.specs.PlanData.{PlanData}
use Rattle.tool_changelog.specs.Hints.{last_hint}
use Rattle.base_values.specs.ToolNames.{log_name}
use Rattle.tool_program.specs.JournalWords.Journals.{opens, state_at}
use Rattle.tool_program.specs.declared.event_applier.applier.ApplyStep.{ApplyStep}
use Rattle.tool_program.specs.declared.event_applier.applier.ApplyStep.TheVariants.{Reading, Beginning, Applying, Committing}
use Rattle.tool_program.specs.EventApplier.Appliers as appliers
use Rattle.tool_program.specs.declared.cutover_core.cutover.Leftovers.{Leftovers}
use Rattle.tool_program.specs.declared.cutover_core.cutover.Phase.{Phase}
use Rattle.tool_program.specs.declared.cutover_core.cutover.Phase.TheVariants.{Attempting}
use Rattle.tool_program.specs.declared.cutover_core.cutover.Role.TheVariants.{Inspector, Locker, Renamer}
use Rattle.tool_program.specs.declared.cutover_core.cutover.Stage.TheVariants.{Hinting}
use Rattle.tool_program.specs.CutoverCore.Attempts.{is_clear, without_first}
use Rattle.tool_program.specs.CutoverCore.CutOvers as cutovers
use Rattle.tool_program.specs.CutoverCore.CutOvers.{inspector_phase, renamer_phase}
use Rattle.tool_program.specs.Programs.{IsGiven, given}
use Rattle.tool_program.specs.Setups.{Setup, Listing, Clearing, MakingLog, MakingGhost, Marking, Reaching, Ready, clearing, listed, setup_after, setup_call, setup_step}
use Rattle.tool_program.specs.Tools.{ToolPhase, Migrating, SettingUp, Moment, Tool, Work, actor_took, asked_took, tool_phase_of, drains, is_failure, is_reverting, moment, stopped, took, turn_counts}
use Rattle.tool_program.proofs.OnlineCalls.Machines.{ToolPhaseIsNamed, named}
use Rattle.proof_journals.specs.Plans.{IsSerialPlan, limits_of, scene_of}
use Rattle.proof_journals.specs.Turns.{about}
use Rattle.proof_journals.proofs.Actors.{same_actor_is}
use Rattle.proof_journals.proofs.Joined.{reported_answer, reported_missed, reported_draw}
use Rattle.proof_journals.specs.Ghost.Invariant.{NotOf}
use Rattle.proof_journals.proofs.Ghost.Turns.{run_front}
use Rattle.proof_journals.specs.Run.Kept.{IsKept}
use Rattle.proof_journals.specs.Machine.Runnable.{IsRunnable}
use Rattle.proof_journals.specs.Machine.Standings.{IsAbout, Standing, answered, answers_to, free, is_called, is_polled, needs_names, standing_of}
use Rattle.proof_journals.proofs.Machine.Journals.{Asking, IsRun, asking, calls_so, polls_so}
use Rattle.proof_journals.proofs.Machine.Lifting.{attempt_keeps}
use Rattle.proof_journals.proofs.Machine.Seated.{others_stand, own_fits, own_lost, own_missed, own_stands}
use Rattle.proof_migration.proofs.ToolPhase.ToolPhaseTurns.{AnswerKeeps, ApplyKeeps, CopyKeeps, CutKeeps, DrainKeeps, Kept, ResizeKeeps, SetupKeeps, TurnKeeps, UnfitKeeps, gives_asked, turn_kept}
use Rattle.proof_migration.proofs.ToolPhase.Owners.{commands_operator}
use Rattle.proof_migration.proofs.Program.Said.{log_said}
use Rattle.proof_migration.proofs.Program.Starts.{grows, NotedIn}
use Rattle.proof_migration.proofs.Program.Turns.Asked.{about_called}
use Rattle.proof_migration.proofs.Program.Turns.NextCalls.{apply_next}
use Rattle.proof_journals.specs.Sentry.Sentries.{IsDraining}
use Rattle.proof_journals.proofs.Sentry.Draining.{IsRead, Knows, knows_later}
use Rattle.proof_journals.proofs.Sentry.Hinting.{HintsBelow, none_earlier}
use Rattle.proof_journals.proofs.Sentry.Inductions.{moment_more}
use Rattle.proof_journals.proofs.Sentry.Knowing.{Reads, knows_took}
use Rattle.proof_migration.specs.ToolPhase.Unaltered.{IsUnaltered}
use Rattle.proof_migration.proofs.Migration.Leaves.{not_both}
use Rattle.proof_migration.specs.Program.Hints.{is_unhinted}
use Rattle.proof_migration.proofs.Program.Hints.Asked.{InspLeft, before, insp_left, insp_setup, insp_work, known, lost_left, others_left, run, scene_run, served, setup_left, together}
use Rattle.proof_migration.proofs.Program.Hints.Logging.{LeavesAway, LogsAway, LogsHint, LogsNoHint, LogsNote, NoneWrote, away_logs, note_logs}
use Rattle.proof_migration.proofs.Program.Hints.Phases.{AsksHint, HintsIn, HintsStand, WaitsHint, asks_waits, drain_ahead, drain_passes, end_drains, end_passes, hint_below, insp_below, insp_drains, locker_drains, locker_hints, may_hint, passes, renamer_drains, renamer_passes}
use Rattle.proof_migration.proofs.Program.Hints.Telling.{both_tables, read_later, reading_said}
use Rattle.proof_migration.proofs.Program.Hints.States.{BatchIs, ToolPhaseAhead, ToolPhaseHints, HintsGo, SetupHints, batch_is, hints_later, last_at_most, none_hinted, weakly}
use Rattle.proof_migration.proofs.Program.Hints.Writes.{Rises, away_none, rises_away, rises_both, below_both, none_below, none_rises}

-- ONE TURN

-- a wait leaves the request that it was about
pub record IsWait (about request : Request) (answer : Answer) : Type 0 where
  pub by : ℕ
  pub is : answer ≡ answers.Waits by
  pub same : about ≡ request

pub waits_wait : (about request : Request) (answer : Answer) (old : Standing) → (answered about answer old).waits ≡ Some request → IsWait about request answer
waits_wait about request (answers.Waits by) old some = record { by = by; is = refl; same = let one : about ≡ request = cc in one }
waits_wait about request answers.Lost old some = absurd cc
waits_wait about request (answers.TimedOut waited) old some = absurd cc
waits_wait about request answer old some = absurd cc

-- what reads the log doesn't wait
pub names_read : (request : Request) (events : List RowEvent) (next : ℕ) → needs_names request ≡ true → answers_to request (answers.Events events next) ≡ true → ⊥
names_read (requests.ReadLog position limit tables) events next needs fits = false≢true needs
names_read request events next needs fits = false≢true fits

pub no_waits : (standing : Standing) (request : Request) → standing ≡ free → standing.waits ≡ Some request → ⊥
no_waits standing request none some = no (sym (ap (λ (s : Standing). s.waits) none) ∙ some) where
  no : None ≡ Some request → ⊥
  no same = cc

setup_ahead : (plan : PlanData) (size : ℕ) (setup : Setup) (tries : List ℕ) → ToolPhaseAhead (tool_phase_of plan size setup tries)
setup_ahead plan size (Ready position range) tries = λ drains. absurd drains
setup_ahead plan size Listing tries = tt
setup_ahead plan size (Clearing left) tries = tt
setup_ahead plan size MakingLog tries = tt
setup_ahead plan size MakingGhost tries = tt
setup_ahead plan size Marking tries = tt
setup_ahead plan size (Reaching position) tries = tt

back_ahead : (b : Bool) (tool_phase : ToolPhase) → ToolPhaseAhead tool_phase → ToolPhaseAhead (stopped tool_phase)
unfolding cutovers.reverted
back_ahead b (SettingUp setup tries) at = tt
back_ahead b (Migrating work) at = λ drains. at (end_drains work.cutover.phase drains)

-- behind the applier's turn an attempt that is drained isn't the applier's hint's
counted_ahead : (plan : PlanData) (tool_phase : ToolPhase) (tool : Tool) → tool.tool_phase ≡ tool_phase → ToolPhaseAhead (drains plan tool_phase tool).tool_phase
unfolding cutovers.applier_turn
counted_ahead plan (SettingUp setup tries) tool is = subst ToolPhaseAhead (sym is) tt
counted_ahead plan (Migrating work) tool is =
    attempt_keeps (λ (b : Bool) (tool_phase : ToolPhase). ToolPhaseAhead tool_phase) back_ahead plan (is_failure work.cutover.phase (cutovers.applier_turn work.applier.hint work.cutover).phase) work (cutovers.applier_turn work.applier.hint work.cutover) tool
    (λ tries. drain_ahead work.cutover work.applier.hint work.cutover.phase)

module _ (plan : PlanData) (runs : IsRunnable plan) (serial : IsSerialPlan plan) (journal : List Entry) (entry : Entry) (kept : IsKept plan (journal ++ entry ∷ [])) (off : IsUnaltered plan (journal ++ entry ∷ [])) (was : HintsGo plan journal) where
  abbrev t : List ℕ
  t = plan.table

  abbrev more : List Entry
  more = journal ++ entry ∷ []

  abbrev now : State
  now = state_at plan journal

  abbrev then : State
  then = state_at plan more

  abbrev has : Actor → Standing
  has = standing_of plan journal

  abbrev now_has : Actor → Standing
  now_has = standing_of plan more

  abbrev tool : Tool
  tool = record (moment plan journal).tool { turns = (moment plan journal).tool.turns + 1 }

  abbrev waits_now : Option Request
  waits_now = (now_has Insp).waits

  -- what is to be shown
  abbrev Goal : ToolPhase → Type 0
  Goal tool_phase = ToolPhaseHints t then.log waits_now tool_phase

  the_run : IsRun plan journal entry
  the_run = run plan runs serial journal entry kept off

  -- THE SAME COURSE, WITH THE LATER LOG

  rises_later : LogsAway t now then → Rises t 0 now.log → Rises t 0 then.log
  rises_later logs at = subst (Rises t 0) (sym logs.log) (rises_both t 0 now.log logs.events at (rises_away t (last_hint t 0 now.log) logs.events logs.away))

  log_later : LogsAway t now then → (tool_phase : ToolPhase) → ((work : Work) → tool_phase ≡ Migrating work → WaitsHint t work.cutover.attempts work.cutover.phase waits_now) → ToolPhaseHints t now.log (has Insp).waits tool_phase → Goal tool_phase
  log_later logs (SettingUp setup tries) waits at =
      let size : length then.log ≡ length now.log + length logs.events = ap length logs.log ∙ length-append now.log logs.events in
      record { away = subst (NotOf (log_name t)) (sym logs.log) (not_both (log_name t) now.log logs.events at.away logs.away); noted = grows setup (length now.log) (length then.log) (omega (arith, size)) at.noted }
  log_later logs (Migrating work) waits at = record {
    knows = subst (λ (l : List RowEvent). Knows t l work.applier) (sym logs.log) (knows_later t now.log logs.events work.applier at.knows);
    below = subst (HintsIn (is_unhinted work.cutover.phase) t work.cutover.attempts) (sym logs.log) (hints_later t work.cutover.attempts now.log logs.events (is_unhinted work.cutover.phase) (away_none t logs.events logs.away) at.below);
    rises = rises_later logs at.rises;
    waits_so = waits work refl;
  }

  -- the inspector waits as before
  same_waits : now_has Insp ≡ has Insp → (tool_phase : ToolPhase) → ToolPhaseHints t now.log (has Insp).waits tool_phase → (work : Work) → tool_phase ≡ Migrating work → WaitsHint t work.cutover.attempts work.cutover.phase waits_now
  same_waits same tool_phase at work is = subst (λ (s : Standing). WaitsHint t work.cutover.attempts work.cutover.phase s.waits) (sym same) (subst (ToolPhaseHints t now.log (has Insp).waits) is at).waits_so

  no_waits_now : now_has Insp ≡ free → (tool_phase : ToolPhase) (work : Work) → tool_phase ≡ Migrating work → WaitsHint t work.cutover.attempts work.cutover.phase waits_now
  no_waits_now none tool_phase work is request some = absurd (no_waits (now_has Insp) request none some)

  others_same : same_actor entry.actor Insp ≡ false → now_has Insp ≡ has Insp
  others_same other = others_stand plan journal entry (together plan runs serial journal entry kept off).known (served plan runs serial journal entry kept off) Insp other

  -- of another actor's turn
  others_old : same_actor entry.actor Insp ≡ false → Goal (moment plan journal).tool.tool_phase
  others_old other = log_later (others_left plan runs serial journal entry kept off was.none other).logs (moment plan journal).tool.tool_phase (same_waits (others_same other) (moment plan journal).tool.tool_phase was.tool_phase) was.tool_phase

  insp_or : (b : Bool) → same_actor entry.actor Insp ≡ b → entry.actor ≡ Insp ⊎ (same_actor entry.actor Insp ≡ false)
  insp_or true is = inl (same_actor_is entry.actor Insp is)
  insp_or false is = inr is

  -- of a loss between calls
  lost_old : entry.asked ≡ Cut → Goal (moment plan journal).tool.tool_phase
  lost_old cut = log_later (lost_left plan runs serial journal entry kept off was.none cut).logs (moment plan journal).tool.tool_phase (by (insp_or (same_actor entry.actor Insp) refl)) was.tool_phase where
    by : entry.actor ≡ Insp ⊎ (same_actor entry.actor Insp ≡ false) → (work : Work) → (moment plan journal).tool.tool_phase ≡ Migrating work → WaitsHint t work.cutover.attempts work.cutover.phase waits_now
    by (inr other) = same_waits (others_same other) (moment plan journal).tool.tool_phase was.tool_phase
    by (inl same) = no_waits_now (subst (λ (a : Actor). now_has a ≡ free) same (own_lost plan journal entry (together plan runs serial journal entry kept off).known (served plan runs serial journal entry kept off) cut)) (moment plan journal).tool.tool_phase

  -- THE MACHINES

  back : (b : Bool) (tool_phase : ToolPhase) → Goal tool_phase → Goal (stopped tool_phase)
  unfolding cutovers.reverted
  back b (SettingUp setup tries) at = at
  back b (Migrating work) at = passes t then.log waits_now work.applier work.cutover.attempts work.cutover.phase (cutovers.ended work.cutover.phase) (end_passes work.cutover.phase) at

  abbrev New : Kept
  New b tool_phase = Goal tool_phase

  drained_so : DrainKeeps New
  unfolding cutovers.applier_turn
  drained_so b work tries at = passes t then.log waits_now work.applier work.cutover.attempts work.cutover.phase (cutovers.drained work.cutover work.applier.hint work.cutover.phase) (drain_passes work.cutover work.applier.hint work.cutover.phase) at

  unfit_so : (work : Work) → Goal (Migrating work) → UnfitKeeps New work
  unfit_so work at = record { renamed = λ is. at; reverts = back true (Migrating work) at }

  copy_so : (answer : Answer) (work : Work) → Goal (Migrating work) → CopyKeeps New answer tool work
  copy_so answer work at = record { reverting = λ is. at; unfit = λ going place number is. unfit_so work at; took = λ going fits tries. at }

  apply_so : (answer : Answer) (work : Work) → (moment plan journal).tool.tool_phase ≡ Migrating work → (is_reverting tool.reason ≡ false → Reads t then.log work.applier answer) → Goal (Migrating work) → ApplyKeeps New answer tool work
  apply_so answer work tool_phase reads at = record {
    reverting = λ is. at;
    unfit = λ going place number is. unfit_so work at;
    took = λ going fits tries. record {
      knows = knows_took t then.log tool.turns work.applier answer (subst (ToolPhaseIsNamed plan) tool_phase (named plan journal)).applier at.knows (reads going);
      below = at.below;
      rises = at.rises;
      waits_so = at.waits_so;
    };
  }

  lock_so : (answer : Answer) (work : Work) → Goal (Migrating work) → CutKeeps New answer tool Locker work
  unfolding cutovers.took
  lock_so answer work at tries = locker_hints t then.log waits_now work.applier work.cutover.attempts work.cutover.phase answer at

  ren_so : (answer : Answer) (work : Work) → Goal (Migrating work) → CutKeeps New answer tool Renamer work
  unfolding cutovers.took
  ren_so answer work at tries = passes t then.log waits_now work.applier work.cutover.attempts work.cutover.phase (renamer_phase work.cutover.phase answer) (renamer_passes work.cutover.phase answer) at

  -- the inspector's that was lost between calls
  insp_cut : (setup : Setup) (tries : List ℕ) → Goal (SettingUp setup tries) → SetupKeeps plan New answers.Lost tool setup tries
  insp_cut setup tries at = record { reverting = λ is. at; again = λ going bad some. record { away = at.away; noted = tt }; goes = λ going good. absurd (true≢false good) }

  insp_lost : (work : Work) → now_has Insp ≡ free → Goal (Migrating work) → CutKeeps New answers.Lost tool Inspector work
  unfolding cutovers.took
  insp_lost work none at tries = record {
    knows = at.knows;
    below = insp_below t work.cutover work.cutover.attempts work.cutover.phase answers.Lost then.log at.below;
    rises = at.rises;
    waits_so = λ request some. absurd (no_waits (now_has Insp) request none some);
  }

  -- WHAT IS ASKED

  -- it was given
  gave : (actor : Actor) → entry.actor ≡ actor → (entry.asked ≡ Cut → ⊥) → given plan journal actor ≡ Some entry.asked
  gave actor same uncut = subst (λ (a : Actor). given plan journal a ≡ Some entry.asked) same (gives_asked plan journal entry entry.asked the_run.followed.given refl uncut)

  -- an answer but a loss was heard
  heard_here : (answer : Answer) → entry.answer ≡ answer → (answer ≡ answers.Lost → ⊥) → entry.side ≡ None
  heard_here answer is unlost = by entry.side refl where
    by : (side : Option Side) → entry.side ≡ side → side ≡ None
    by None at_side = refl
    by (Some side) at_side = absurd (unlost (sym is ∙ own_missed plan journal entry (together plan runs serial journal entry kept off).known (served plan runs serial journal entry kept off) side at_side))

  abbrev About : Request → Type 0
  About request = about (opens entry now) entry.session entry.asked ≡ Some request

  -- what the inspector's turn is about
  record InspAsks : Type 0 where
    request : Request
    is_about : IsAbout request (has Insp) entry.asked
    about_it : About request

  insp_asks : entry.actor ≡ Insp → (entry.asked ≡ Cut → ⊥) → InspAsks
  unfolding given
  insp_asks same uncut = by (asking plan journal Insp entry.asked (together plan runs serial journal entry kept off).server (gave Insp same uncut)) where
    with : (request : Request) → IsAbout request (has Insp) entry.asked → InspAsks
    with request is = record { request = request; is_about = is; about_it = about_called plan serial runs.fitting journal entry (known plan runs serial journal entry kept off) the_run off Insp request same is }

    by : Asking plan journal Insp entry.asked → InspAsks
    by (calls_so request asks idle call) = with request (is_called asks idle)
    by (polls_so request asks some) = with request (is_polled asks some)

  insp_has : (request : Request) → entry.actor ≡ Insp → IsAbout request (has Insp) entry.asked → now_has Insp ≡ answered request entry.answer (has Insp)
  insp_has request same is =
      subst (λ (a : Actor). now_has a ≡ answered request entry.answer (has a)) same
      (own_stands plan journal entry (together plan runs serial journal entry kept off).known (served plan runs serial journal entry kept off) request (subst (λ (a : Actor). IsAbout request (has a) entry.asked) (sym same) is))

  no_cut : (asked : Asked) → (asked ≡ Cut → ⊥) → is_cut asked ≡ false
  no_cut Cut uncut = absurd (uncut refl)
  no_cut (Call request) uncut = refl
  no_cut Poll uncut = refl
  no_cut (Command word) uncut = refl

  -- the applier's reading told what the log has
  pub applier_reads : (work : Work) → (moment plan journal).tool.tool_phase ≡ Migrating work → entry.actor ≡ Apply → (entry.asked ≡ Cut → ⊥) → is_reverting tool.reason ≡ false → Reads t then.log work.applier entry.answer
  unfolding appliers.next given
  applier_reads work tool_phase same uncut going = by entry.answer refl where
    own : work.applier.table ≡ t
    own = (subst (ToolPhaseIsNamed plan) tool_phase (named plan journal)).applier

    stands : HintsStand t now.log (has Insp).waits work.applier work.cutover.attempts work.cutover.phase
    stands = subst (ToolPhaseHints t now.log (has Insp).waits) tool_phase was.tool_phase

    logs : LogsAway t now then
    logs = (others_left plan runs serial journal entry kept off was.none (ap (λ (a : Actor). same_actor a Insp) same)).logs

    some : 1 ≤ work.applier.batch
    some = let is : work.applier.batch ≡ plan.options.dml_batch_size = subst (BatchIs plan) tool_phase (batch_is plan journal) in let fits = runs.fitting.batch in omega (arith, is, fits)

    read : (events : List RowEvent) (next : ℕ) → entry.answer ≡ answers.Events events next → entry.asked ≡ Call (requests.ReadLog work.applier.position work.applier.batch (both_tables t)) → Reads t then.log work.applier (answers.Events events next)
    read events next is asks =
        subst (λ (l : List RowEvent). IsRead t l work.applier.position events next) (sym logs.log)
        (read_later t now.log logs.events work.applier.position next events
        (reading_said t (limits_of plan) (scene_of plan more) journal entry work.applier.batch work.applier.position events next (run_front (limits_of plan) (scene_of plan more) journal (entry ∷ []) (scene_run plan runs serial journal entry kept off))
        (record { answer = reported_answer now entry the_run.answered; missed = reported_missed now entry the_run.answered; draw = reported_draw now entry the_run.answered }) (heard_here (answers.Events events next) is (λ same. cc)) (ap (about (opens entry now) entry.session) asks) is some stands.knows.within))

    -- its call at this step, that is answered events
    called : (events : List RowEvent) (next : ℕ) → entry.answer ≡ answers.Events events next → (step : ApplyStep) → entry.asked ≡ Call (appliers.call_at journal work.applier step) → answers_to (appliers.call_at journal work.applier step) (answers.Events events next) ≡ true → Reads t then.log work.applier (answers.Events events next)
    called events next is Reading asks fits = read events next is (asks ∙ ap (λ (n : List ℕ). Call (requests.ReadLog work.applier.position work.applier.batch (n ∷ log_name n ∷ []))) own)
    called events next is (Beginning batch) asks fits = absurd (false≢true fits)
    called events next is (Committing batch) asks fits = absurd (false≢true fits)
    called events next is (Applying batch done part) asks fits = absurd (none (appliers.doing_at journal work.applier (Applying batch done part)) fits) where
      none : (doing : Option appliers.Doing) → answers_to (appliers.statement_result work.applier doing) (answers.Events events next) ≡ true → ⊥
      none None fits = false≢true fits
      none (Some doing) fits = false≢true fits

    reported : (events : List RowEvent) (next : ℕ) → entry.answer ≡ answers.Events events next → Asking plan journal Apply entry.asked → Reads t then.log work.applier (answers.Events events next)
    reported events next is (calls_so request asks idle call) =
        let one : request ≡ appliers.next journal work.applier = sym (apply_next plan journal work tool_phase going request call) in
        called events next is work.applier.step (asks ∙ ap Call one)
        (ap (λ (r : Request). answers_to r (answers.Events events next)) (sym one) ∙ ap (answers_to request) (sym is)
        ∙ own_fits plan journal entry (together plan runs serial journal entry kept off).known (served plan runs serial journal entry kept off) request (subst (λ (a : Actor). IsAbout request (has a) entry.asked) (sym same) (is_called asks idle)))
    reported events next is (polls_so request asks waits) =
        absurd (names_read request events next (was.names request waits)
        (ap (answers_to request) (sym is)
        ∙ own_fits plan journal entry (together plan runs serial journal entry kept off).known (served plan runs serial journal entry kept off) request (subst (λ (a : Actor). IsAbout request (has a) entry.asked) (sym same) (is_polled asks waits))))

    by : (answer : Answer) → entry.answer ≡ answer → Reads t then.log work.applier answer
    by (answers.Events events next) is = reported events next is (asking plan journal Apply entry.asked (together plan runs serial journal entry kept off).server (gave Apply same uncut))
    by answer is = tt

  -- THE INSPECTOR'S TURN

  insp_setup_so : (setup : Setup) (tries : List ℕ) → (moment plan journal).tool.tool_phase ≡ SettingUp setup tries → entry.actor ≡ Insp → (entry.asked ≡ Cut → ⊥) → SetupKeeps plan New entry.answer tool setup tries
  insp_setup_so setup tries tool_phase same uncut = record { reverting = λ is. at; again = λ going bad some. on Listing tt; goes = λ going good. rw good (steps setup refl entry.answer refl) } where
    left : LeavesAway t now then
    left = setup_left plan runs serial journal entry kept off was.none setup tries tool_phase same

    at : Goal (SettingUp setup tries)
    at = log_later left.logs (SettingUp setup tries) (λ work is. absurd cc) (subst (ToolPhaseHints t now.log (has Insp).waits) tool_phase was.tool_phase)

    asks : InspAsks
    asks = insp_asks same uncut

    call : setup_call plan setup ≡ Some asks.request
    call = insp_setup plan runs serial journal entry kept off setup tries asks.request tool_phase same asks.about_it

    on : (next : Setup) → NotedIn next (length then.log) → SetupHints t then.log next
    on next noted = record { away = at.away; noted = noted }

    size : ℕ
    size = tool.operator.size

    To : Setup → Type 0
    To next = Goal (tool_phase_of plan size next tries)

    cleared : (left : Leftovers) → To (clearing left)
    cleared left = by (is_clear left) where
      by : (b : Bool) → To (cond b MakingLog (Clearing left))
      by true = on MakingLog tt
      by false = on (Clearing left) tt

    no_call : (position : ℕ) (range : Option KeyRange) → setup ≡ Ready position range → ⊥
    no_call position range is = no (sym (ap (setup_call plan) is) ∙ call) where
      no : None ≡ Some asks.request → ⊥
      no both = cc

    keeps : (s : Setup) → setup ≡ s → To s
    keeps Listing is = on Listing tt
    keeps (Clearing left) is = on (Clearing left) tt
    keeps MakingLog is = on MakingLog tt
    keeps MakingGhost is = on MakingGhost tt
    keeps Marking is = on Marking tt
    keeps (Reaching position) is = on (Reaching position) (subst (λ (s : Setup). NotedIn s (length then.log)) is at.noted)
    keeps (Ready position range) is = absurd (no_call position range is)

    marked : (position : ℕ) → setup ≡ Marking → entry.answer ≡ answers.At position → position ≤ length then.log
    marked position is reported =
        let asked : About requests.LogEnd = asks.about_it ∙ sym call ∙ ap (setup_call plan) is in
        let end : position ≡ length now.log = log_said (limits_of plan) (scene_of plan more) journal entry (scene_run plan runs serial journal entry kept off) (heard_here (answers.At position) reported (λ same. cc)) position asked reported in
        let later : length then.log ≡ length now.log + length left.logs.events = ap length left.logs.log ∙ length-append now.log left.logs.events in
        omega (arith, end, later)

    ready : (position : ℕ) (range : Option KeyRange) → setup ≡ Reaching position → entry.answer ≡ answers.Ends range → To (Ready position range)
    ready position range is reported = record {
      knows = record { within = subst (λ (s : Setup). NotedIn s (length then.log)) is at.noted; hint = sym (none_hinted t then.log position at.away); step = tt };
      below = none_below t 0 then.log at.away;
      rises = rises_away t 0 then.log at.away;
      waits_so = λ request some. absurd (no (waits_wait asks.request request entry.answer (has Insp) (ap (λ (s : Standing). s.waits) (sym (insp_has asks.request same asks.is_about)) ∙ some)));
    } where
      no : {request : Request} → IsWait asks.request request entry.answer → ⊥
      no wait = let both : answers.Ends range ≡ answers.Waits wait.by = sym reported ∙ wait.is in cc

    steps : (s : Setup) → setup ≡ s → (answer : Answer) → entry.answer ≡ answer → To (setup_step t s answer)
    steps Listing is (answers.Tables tables) reported = cleared (listed t tables)
    steps (Clearing some) is (answers.Ok count) reported = cleared (without_first some)
    steps MakingLog is (answers.Ok count) reported = on MakingGhost tt
    steps MakingGhost is (answers.Ok count) reported = on Marking tt
    steps Marking is (answers.At position) reported = on (Reaching position) (marked position is reported)
    steps (Reaching position) is (answers.Ends range) reported = ready position range is reported
    steps s is answer reported = keeps s is

  insp_work_so : (work : Work) → (moment plan journal).tool.tool_phase ≡ Migrating work → entry.actor ≡ Insp → (entry.asked ≡ Cut → ⊥) → ((word : OperatorWord) → entry.asked ≡ Command word → ⊥) → CutKeeps New entry.answer tool Inspector work
  unfolding cutovers.took
  insp_work_so work tool_phase same uncut uncommanded tries = record { knows = knows_so left.logs; below = below_so left.logs; rises = rises_so left.logs; waits_so = waits_so } where
    at : HintsStand t now.log (has Insp).waits work.applier work.cutover.attempts work.cutover.phase
    at = subst (ToolPhaseHints t now.log (has Insp).waits) tool_phase was.tool_phase

    asks : InspAsks
    asks = insp_asks same uncut

    left : InspLeft plan runs serial journal entry kept off was.none work
    left = insp_left plan runs serial journal entry kept off was.none work tool_phase at.waits_so same (no_cut entry.asked uncut)

    next : Phase
    next = inspector_phase work.cutover work.cutover.phase entry.answer

    Logs : Type 0
    Logs = LogsAway t now then ⊎ (LogsNote t now then ⊎ (LogsHint t work.cutover.attempts entry.answer now then × (may_hint work.cutover.phase ≡ true)))

    knows_with : (events : List RowEvent) → then.log ≡ now.log ++ events → Knows t then.log work.applier
    knows_with events is = subst (λ (l : List RowEvent). Knows t l work.applier) (sym is) (knows_later t now.log events work.applier at.knows)

    knows_so : Logs → Knows t then.log work.applier
    knows_so (inl away) = knows_with away.events away.log
    knows_so (inr (inl note)) = let logs : LogsNoHint t now then = note_logs t now then note in knows_with logs.events logs.log
    knows_so (inr (inr hint)) = knows_with hint.0.events hint.0.log

    -- where no hint row is logged
    below_none : LogsNoHint t now then → HintsIn (is_unhinted next) t work.cutover.attempts then.log
    below_none logs =
        insp_below t work.cutover work.cutover.attempts work.cutover.phase entry.answer then.log
        (subst (HintsIn (is_unhinted work.cutover.phase) t work.cutover.attempts) (sym logs.log) (hints_later t work.cutover.attempts now.log logs.events (is_unhinted work.cutover.phase) logs.none at.below))

    below_so : Logs → HintsIn (is_unhinted next) t work.cutover.attempts then.log
    below_so (inl away) = below_none (away_logs t now then away)
    below_so (inr (inl note)) = below_none (note_logs t now then note)
    below_so (inr (inr hint)) =
        hint_below t work.cutover work.cutover.attempts work.cutover.phase entry.answer then.log hint.1 hint.0.said
        (subst (HintsBelow t work.cutover.attempts) (sym hint.0.log) (below_both t work.cutover.attempts now.log hint.0.events (weakly t work.cutover.attempts now.log (is_unhinted work.cutover.phase) at.below) hint.0.below))

    rises_so : Logs → Rises t 0 then.log
    rises_so (inl away) = rises_later away at.rises
    rises_so (inr (inl note)) =
        let logs : LogsNoHint t now then = note_logs t now then note in subst (Rises t 0) (sym logs.log) (rises_both t 0 now.log logs.events at.rises (none_rises t (last_hint t 0 now.log) logs.events logs.none))
    rises_so (inr (inr hint)) =
        subst (Rises t 0) (sym hint.0.log)
        (rises_both t 0 now.log hint.0.events at.rises (hint.0.rises (last_hint t 0 now.log) (last_at_most t work.cutover.attempts now.log (weakly t work.cutover.attempts now.log (is_unhinted work.cutover.phase) at.below))))

    waits_so : WaitsHint t work.cutover.attempts next waits_now
    waits_so request some = by (waits_wait asks.request request entry.answer (has Insp) (ap (λ (s : Standing). s.waits) (sym (insp_has asks.request same asks.is_about)) ∙ some)) where
      by : IsWait asks.request request entry.answer → AsksHint t work.cutover.attempts next request
      by wait =
          subst (λ (a : Answer). AsksHint t work.cutover.attempts (inspector_phase work.cutover work.cutover.phase a) request) (sym wait.is)
          (asks_waits t work.cutover work.cutover.attempts work.cutover.phase wait.by request
          (subst (AsksHint t work.cutover.attempts work.cutover.phase) wait.same (insp_work plan runs serial journal entry kept off work asks.request tool_phase at.waits_so same asks.about_it)))

  -- THE WHOLE TURN

  lost_so : entry.asked ≡ Cut → (actor : Actor) → entry.actor ≡ actor → (tool_phase : ToolPhase) → (moment plan journal).tool.tool_phase ≡ tool_phase → Goal tool_phase → AnswerKeeps plan New answers.Lost tool actor tool_phase
  lost_so cut Insp same (SettingUp setup tries) tool_phase at = insp_cut setup tries at
  lost_so cut Insp same (Migrating work) tool_phase at = insp_lost work (subst (λ (a : Actor). now_has a ≡ free) same (own_lost plan journal entry (together plan runs serial journal entry kept off).known (served plan runs serial journal entry kept off) cut)) at
  lost_so cut Lock same (Migrating work) tool_phase at = lock_so answers.Lost work at
  lost_so cut Ren same (Migrating work) tool_phase at = ren_so answers.Lost work at
  lost_so cut Copy same (Migrating work) tool_phase at = copy_so answers.Lost work at
  lost_so cut Apply same (Migrating work) tool_phase at = apply_so answers.Lost work tool_phase (λ going. tt) at
  lost_so cut actor same tool_phase is at = at

  heard_so : (entry.asked ≡ Cut → ⊥) → ((word : OperatorWord) → entry.asked ≡ Command word → ⊥) → (actor : Actor) → entry.actor ≡ actor → (tool_phase : ToolPhase) → (moment plan journal).tool.tool_phase ≡ tool_phase → AnswerKeeps plan New entry.answer tool actor tool_phase
  heard_so uncut uncommanded Insp same (SettingUp setup tries) tool_phase = insp_setup_so setup tries tool_phase same uncut
  heard_so uncut uncommanded Insp same (Migrating work) tool_phase = insp_work_so work tool_phase same uncut uncommanded
  heard_so uncut uncommanded Lock same (Migrating work) tool_phase = lock_so entry.answer work (subst Goal tool_phase (others_old (ap (λ (a : Actor). same_actor a Insp) same)))
  heard_so uncut uncommanded Ren same (Migrating work) tool_phase = ren_so entry.answer work (subst Goal tool_phase (others_old (ap (λ (a : Actor). same_actor a Insp) same)))
  heard_so uncut uncommanded Copy same (Migrating work) tool_phase = copy_so entry.answer work (subst Goal tool_phase (others_old (ap (λ (a : Actor). same_actor a Insp) same)))
  heard_so uncut uncommanded Apply same (Migrating work) tool_phase = apply_so entry.answer work tool_phase (applier_reads work tool_phase same uncut) (subst Goal tool_phase (others_old (ap (λ (a : Actor). same_actor a Insp) same)))
  heard_so uncut uncommanded Lock same (SettingUp setup tries) tool_phase = subst Goal tool_phase (others_old (ap (λ (a : Actor). same_actor a Insp) same))
  heard_so uncut uncommanded Ren same (SettingUp setup tries) tool_phase = subst Goal tool_phase (others_old (ap (λ (a : Actor). same_actor a Insp) same))
  heard_so uncut uncommanded Copy same (SettingUp setup tries) tool_phase = subst Goal tool_phase (others_old (ap (λ (a : Actor). same_actor a Insp) same))
  heard_so uncut uncommanded Apply same (SettingUp setup tries) tool_phase = subst Goal tool_phase (others_old (ap (λ (a : Actor). same_actor a Insp) same))
  heard_so uncut uncommanded Op same tool_phase is = subst Goal is (others_old (ap (λ (a : Actor). same_actor a Insp) same))
  heard_so uncut uncommanded (Client c) same tool_phase is = subst Goal is (others_old (ap (λ (a : Actor). same_actor a Insp) same))

  commanded_old : (word : OperatorWord) → entry.asked ≡ Command word → Goal (moment plan journal).tool.tool_phase
  commanded_old word asks =
      others_old (ap (λ (a : Actor). same_actor a Insp) (commands_operator plan journal entry.actor word (subst (IsGiven plan journal entry) asks the_run.followed.given)))

  resize_so : (size : ℕ) (tool_phase : ToolPhase) → Goal tool_phase → ResizeKeeps New tool size tool_phase
  resize_so size (SettingUp setup tries) at = at
  resize_so size (Migrating work) at = at

  turn_hints : TurnKeeps plan New (moment plan journal).server entry tool
  turn_hints = record {
    commanded = λ word asks unsized. commanded_old word asks;
    resized = λ size asks. resize_so size (moment plan journal).tool.tool_phase (commanded_old (ChunkSize size) asks);
    idle = λ cut idle. lost_old cut;
    lost = λ cut worked. lost_so cut entry.actor refl (moment plan journal).tool.tool_phase refl (lost_old cut);
    heard = λ uncut uncommanded. heard_so uncut uncommanded entry.actor refl (moment plan journal).tool.tool_phase refl;
  }

  tool_phase_then : Goal (moment plan more).tool.tool_phase
  tool_phase_then = turn_kept plan New back journal entry drained_so turn_hints

  -- AHEAD OF THE HINT ROW

  abbrev Ahead : Kept
  Ahead b tool_phase = ToolPhaseAhead tool_phase

  ahead_at : (tool_phase : ToolPhase) → (moment plan journal).tool.tool_phase ≡ tool_phase → ToolPhaseAhead tool_phase
  ahead_at tool_phase is = subst ToolPhaseAhead is was.ahead

  insp_ahead : (answer : Answer) (work : Work) → (moment plan journal).tool.tool_phase ≡ Migrating work → CutKeeps Ahead answer tool Inspector work
  unfolding cutovers.took
  insp_ahead answer work tool_phase tries drains = by (insp_drains work.cutover work.cutover.phase answer drains) where
    at : HintsStand t now.log (has Insp).waits work.applier work.cutover.attempts work.cutover.phase
    at = subst (ToolPhaseHints t now.log (has Insp).waits) tool_phase was.tool_phase

    by : IsDraining work.cutover.phase ⊎ (work.cutover.phase ≡ Attempting Hinting) → work.applier.hint ≢ work.cutover.attempts
    by (inl before) = ahead_at (Migrating work) tool_phase before
    by (inr hinting) =
        let below : HintsIn true t work.cutover.attempts now.log = subst (λ (p : Phase). HintsIn (is_unhinted p) t work.cutover.attempts now.log) hinting at.below in
        λ same. none_earlier t below.0 work.cutover.attempts now.log below.1 below.2 work.applier.position (sym at.knows.hint ∙ same)

  lock_ahead : (answer : Answer) (work : Work) → (moment plan journal).tool.tool_phase ≡ Migrating work → CutKeeps Ahead answer tool Locker work
  unfolding cutovers.took
  lock_ahead answer work tool_phase tries = locker_drains work.applier.hint work.cutover.attempts work.cutover.phase answer (ahead_at (Migrating work) tool_phase)

  ren_ahead : (answer : Answer) (work : Work) → (moment plan journal).tool.tool_phase ≡ Migrating work → CutKeeps Ahead answer tool Renamer work
  unfolding cutovers.took
  ren_ahead answer work tool_phase tries = λ drains. ahead_at (Migrating work) tool_phase (renamer_drains work.cutover.phase answer drains)

  setup_ahead_so : (answer : Answer) (setup : Setup) (tries : List ℕ) → SetupKeeps plan Ahead answer tool setup tries
  setup_ahead_so answer setup tries = record { reverting = λ is. tt; again = λ going bad some. tt; goes = λ going good. setup_ahead plan tool.operator.size (setup_after plan.table setup answer) tries }

  unfit_ahead : (work : Work) → ToolPhaseAhead (Migrating work) → UnfitKeeps Ahead work
  unfit_ahead work at = record { renamed = λ is. at; reverts = back_ahead true (Migrating work) at }

  -- but for the applier's own turn
  answer_ahead : (answer : Answer) (actor : Actor) → (actor ≡ Apply → answer ≡ answers.Lost) → (tool_phase : ToolPhase) → (moment plan journal).tool.tool_phase ≡ tool_phase → AnswerKeeps plan Ahead answer tool actor tool_phase
  unfolding appliers.took
  answer_ahead answer Insp lost (SettingUp setup tries) tool_phase = setup_ahead_so answer setup tries
  answer_ahead answer Insp lost (Migrating work) tool_phase = insp_ahead answer work tool_phase
  answer_ahead answer Lock lost (Migrating work) tool_phase = lock_ahead answer work tool_phase
  answer_ahead answer Ren lost (Migrating work) tool_phase = ren_ahead answer work tool_phase
  answer_ahead answer Copy lost (Migrating work) tool_phase =
      let at : ToolPhaseAhead (Migrating work) = ahead_at (Migrating work) tool_phase in
      record { reverting = λ is. at; unfit = λ going place number is. unfit_ahead work at; took = λ going fits tries. at }
  answer_ahead answer Apply lost (Migrating work) tool_phase =
      let at : ToolPhaseAhead (Migrating work) = ahead_at (Migrating work) tool_phase in
      record {
        reverting = λ is. at;
        unfit = λ going place number is. unfit_ahead work at;
        took = λ going fits tries. subst (λ (a : Answer). ToolPhaseAhead (Migrating (record work { applier = appliers.took tool.turns work.applier a; batch_tries = tries }))) (sym (lost refl)) at;
      }
  answer_ahead answer actor lost tool_phase is = ahead_at tool_phase is

  resize_ahead : (size : ℕ) (tool_phase : ToolPhase) → ToolPhaseAhead tool_phase → ResizeKeeps Ahead tool size tool_phase
  resize_ahead size (SettingUp setup tries) at = at
  resize_ahead size (Migrating work) at = at

  drained_ahead : DrainKeeps Ahead
  unfolding cutovers.applier_turn
  drained_ahead b work tries at = drain_ahead work.cutover work.applier.hint work.cutover.phase

  turn_ahead : (entry.asked ≡ Cut ⊎ (entry.actor ≡ Apply → ⊥)) → ToolPhaseAhead (moment plan more).tool.tool_phase
  turn_ahead but = turn_kept plan Ahead back_ahead journal entry drained_ahead (record {
    commanded = λ word asks unsized. was.ahead;
    resized = λ size asks. resize_ahead size (moment plan journal).tool.tool_phase was.ahead;
    idle = λ cut idle. was.ahead;
    lost = λ cut worked. answer_ahead answers.Lost entry.actor (λ same. refl) (moment plan journal).tool.tool_phase refl;
    heard = λ uncut uncommanded. answer_ahead entry.answer entry.actor (λ same. absurd (no uncut same but)) (moment plan journal).tool.tool_phase refl;
  }) where
    no : (entry.asked ≡ Cut → ⊥) → entry.actor ≡ Apply → (entry.asked ≡ Cut ⊎ (entry.actor ≡ Apply → ⊥)) → ⊥
    no uncut same (inl cut) = uncut cut
    no uncut same (inr other) = other same

  -- the applier's own
  own_ahead : entry.actor ≡ Apply → ToolPhaseAhead (moment plan more).tool.tool_phase
  unfolding took
  own_ahead same = by entry.asked refl the_run.followed.given where
    counted : (asked : Asked) → entry.asked ≡ asked → asked_took plan (moment plan journal).server entry asked tool ≡ turn_counts plan entry.actor (actor_took plan entry.actor entry.answer tool.tool_phase tool) → ToolPhaseAhead (moment plan more).tool.tool_phase
    counted asked asks is =
        subst (λ (m : Moment). ToolPhaseAhead m.tool.tool_phase) (sym (moment_more plan journal entry))
        (subst (λ (a : Asked). ToolPhaseAhead (asked_took plan (moment plan journal).server entry a tool).tool_phase) (sym asks)
        (subst (λ (x : Tool). ToolPhaseAhead x.tool_phase) (sym is)
        (subst (λ (a : Actor). ToolPhaseAhead (turn_counts plan a (actor_took plan entry.actor entry.answer tool.tool_phase tool)).tool_phase) (sym same) (counted_ahead plan (actor_took plan entry.actor entry.answer tool.tool_phase tool).tool_phase (actor_took plan entry.actor entry.answer tool.tool_phase tool) refl))))

    by : (asked : Asked) → entry.asked ≡ asked → IsGiven plan journal entry asked → ToolPhaseAhead (moment plan more).tool.tool_phase
    by Cut asks gives = turn_ahead (inl asks)
    by (Call request) asks gives = counted (Call request) asks refl
    by Poll asks gives = counted Poll asks refl
    by (Command word) asks gives = turn_ahead (inr (λ applies. no (sym (commands_operator plan journal entry.actor word gives) ∙ applies))) where
      no : Op ≡ Apply → ⊥
      no both = cc

  ahead_then : ToolPhaseAhead (moment plan more).tool.tool_phase
  ahead_then = by (same_actor entry.actor Apply) refl where
    by : (b : Bool) → same_actor entry.actor Apply ≡ b → ToolPhaseAhead (moment plan more).tool.tool_phase
    by true is = own_ahead (same_actor_is entry.actor Apply is)
    by false is = turn_ahead (inr (λ same. true≢false (sym (ap (λ (a : Actor). same_actor a Apply) same) ∙ is)))

  -- WHAT THE APPLIER WAITS WITH

  own_names : entry.actor ≡ Apply → (request : Request) → (now_has Apply).waits ≡ Some request → needs_names request ≡ true
  unfolding given
  own_names same request some = by entry.asked refl the_run.followed.given where
    lost : entry.asked ≡ Cut → needs_names request ≡ true
    lost cut = absurd (no_waits (now_has Apply) request (subst (λ (a : Actor). now_has a ≡ free) same (own_lost plan journal entry (together plan runs serial journal entry kept off).known (served plan runs serial journal entry kept off) cut)) some)

    asked_so : Asking plan journal Apply entry.asked → needs_names request ≡ true
    asked_so asks = about_so asks where
      with : (called : Request) → IsAbout called (has Apply) entry.asked → needs_names request ≡ true
      with called is =
          let there : IsAbout called (has entry.actor) entry.asked = subst (λ (a : Actor). IsAbout called (has a) entry.asked) (sym same) is in
          let stands : now_has Apply ≡ answered called entry.answer (has Apply) = subst (λ (a : Actor). now_has a ≡ answered called entry.answer (has a)) same (own_stands plan journal entry (together plan runs serial journal entry kept off).known (served plan runs serial journal entry kept off) called there) in
          let wait : IsWait called request entry.answer = waits_wait called request entry.answer (has Apply) (ap (λ (s : Standing). s.waits) (sym stands) ∙ some) in
          ap needs_names (sym wait.same) ∙ ap (answers_to called) (sym wait.is) ∙ own_fits plan journal entry (together plan runs serial journal entry kept off).known (served plan runs serial journal entry kept off) called there

      about_so : Asking plan journal Apply entry.asked → needs_names request ≡ true
      about_so (calls_so called asks idle call) = with called (is_called asks idle)
      about_so (polls_so called asks waits) = with called (is_polled asks waits)

    by : (asked : Asked) → entry.asked ≡ asked → IsGiven plan journal entry asked → needs_names request ≡ true
    by Cut asks gives = lost asks
    by (Call called) asks gives = asked_so (asking plan journal Apply entry.asked (together plan runs serial journal entry kept off).server (gave Apply same (λ cut. no (sym asks ∙ cut)))) where
      no : Call called ≡ Cut → ⊥
      no both = cc
    by Poll asks gives = asked_so (asking plan journal Apply entry.asked (together plan runs serial journal entry kept off).server (gave Apply same (λ cut. no (sym asks ∙ cut)))) where
      no : Poll ≡ Cut → ⊥
      no both = cc
    by (Command word) asks gives = absurd (no (sym (commands_operator plan journal entry.actor word gives) ∙ same)) where
      no : Op ≡ Apply → ⊥
      no both = cc

  names_then : (request : Request) → (now_has Apply).waits ≡ Some request → needs_names request ≡ true
  names_then request some = by (same_actor entry.actor Apply) refl where
    by : (b : Bool) → same_actor entry.actor Apply ≡ b → needs_names request ≡ true
    by true is = own_names (same_actor_is entry.actor Apply is) request some
    by false is = was.names request (ap (λ (s : Standing). s.waits) (sym (others_stand plan journal entry (together plan runs serial journal entry kept off).known (served plan runs serial journal entry kept off) Apply is)) ∙ some)

  -- what sessions wrote
  none_then : NoneWrote t then
  none_then = by (insp_or (same_actor entry.actor Insp) refl) entry.asked refl where
    insp : entry.actor ≡ Insp → is_cut entry.asked ≡ false → (tool_phase : ToolPhase) → (moment plan journal).tool.tool_phase ≡ tool_phase → NoneWrote t then
    insp same uncut (SettingUp setup tries) tool_phase = (setup_left plan runs serial journal entry kept off was.none setup tries tool_phase same).none
    insp same uncut (Migrating work) tool_phase = (insp_left plan runs serial journal entry kept off was.none work tool_phase (subst (ToolPhaseHints t now.log (has Insp).waits) tool_phase was.tool_phase).waits_so same uncut).wrote

    by : entry.actor ≡ Insp ⊎ (same_actor entry.actor Insp ≡ false) → (asked : Asked) → entry.asked ≡ asked → NoneWrote t then
    by (inr other) asked asks = (others_left plan runs serial journal entry kept off was.none other).none
    by (inl same) Cut asks = (lost_left plan runs serial journal entry kept off was.none asks).none
    by (inl same) (Call request) asks = insp same (ap is_cut asks) (moment plan journal).tool.tool_phase refl
    by (inl same) Poll asks = insp same (ap is_cut asks) (moment plan journal).tool.tool_phase refl
    by (inl same) (Command word) asks = insp same (ap is_cut asks) (moment plan journal).tool.tool_phase refl

  -- *One turn more*
  pub hints_more : HintsGo plan more
  hints_more = record { none = none_then; tool_phase = tool_phase_then; ahead = ahead_then; names = names_then }
