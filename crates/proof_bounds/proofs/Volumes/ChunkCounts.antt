-- After every journal that is kept, until the RENAME is done: the chunks that were committed end at different keys that the
-- migrated table ever had.
use Rattle.std.proofs.Common.{◌≡◌, ◌≤◌, ℕ, ◌+◌, Bool, true, false, cond, List, [], ◌∷◌, ◌++◌, length, Option, Some, None, refl, sym, ap, ◌∙◌, subst, arith, append_assoc, append-nil}
use Rattle.std.specs.Prelude.{option_map, unwrap_or}
use Rattle.std.proofs.lemmas.Bool.{false≢true, true≢false}
use Rattle.base_script.specs.declared.actor.Actor.{Actor}
use Rattle.base_script.specs.declared.actor.Actor.TheVariants.{Op, Insp, Copy, Apply, Lock, Ren, Client}
use Rattle.base_script.specs.declared.operator.OperatorWord.{OperatorWord}
use Rattle.base_script.specs.declared.operator.OperatorWord.TheVariants.{ChunkSize}
use Rattle.base_values.specs.declared.span.Bound.{Bound}
use Rattle.base_values.specs.declared.span.Bound.TheVariants.{Closed}
use Rattle.base_values.specs.declared.span.Span.{Span}
use Rattle.base_values.specs.GhoSchema.Rows.{key_places}
use Rattle.table_store.specs.Databases.{TableRows, find_table}
use Rattle.server_model.specs.declared.answer.Answer.{Answer}
use Rattle.server_model.specs.declared.answer.Answer.TheVariants as answers
use Rattle.server_model.specs.declared.answer.KeyRange.{KeyRange}
use Rattle.server_model.specs.declared.entry.Asked.TheVariants.{Command, Cut}
use Rattle.server_model.specs.declared.entry.Entry.{Entry}
use Rattle.server_model.specs.declared.outcome.Progress.TheVariants.{Unfit}
use Rattle.server_model.specs.declared.request.Request.{Request}
use Rattle.server_model.specs.declared.request.Request.TheVariants as requests
use Rattle.server_model.specs.EarlierAnswers.{end_in}
use Rattle.server_model.specs.Entries.{answer_at, same_actor}
use Rattle.server_model.specs.LockedRows.Databases.{IsWellFormedDatabase}
use Rattle.server_model.specs.States.{State}
use Rattle.plan_data.specs.PlanData.{PlanData, old_schema}
use Rattle.tool_program.specs.declared.chunk_copier.copier.Copier.{Copier}
use Rattle.tool_program.specs.declared.chunk_copier.copier.CopyRange.{CopyRange}
use Rattle.tool_program.specs.declared.chunk_copier.copier.CopyStep.{CopyStep}
use Rattle.tool_program.specs.declared.chunk_copier.copier.CopyStep.TheVariants.{Choosing, Spanning, Copying, Committing}
use Rattle.tool_program.specs.ChunkCopier.Copiers as copiers
use Rattle.tool_program.specs.declared.cutover_core.cutover.Role.{Role}
use Rattle.tool_program.specs.declared.cutover_core.cutover.Role.TheVariants.{Inspector, Locker, Renamer}
use Rattle.tool_program.specs.ChunkCopier.Copiers.{low_end, took}
use Rattle.tool_program.specs.CutoverCore.Attempts.{is_clear, without_first}
use Rattle.tool_program.specs.JournalWords.Bounds.{measures, events}
use Rattle.tool_program.specs.JournalWords.Journals.{opens, state_at}
use Rattle.tool_program.specs.Programs.{IsGiven, given, tool_call}
use Rattle.tool_program.specs.Setups.{Setup, Listing, Clearing, MakingLog, MakingGhost, Marking, Reaching, Ready, clearing, listed, setup_call, setup_step}
use Rattle.tool_program.specs.Tools.{Tool, ToolPhase, Migrating, SettingUp, Work, is_reverting, moment, new_work, stopped, tool_phase_of}
use Rattle.tool_program.proofs.JournalWords.Answers.{answer_here}
use Rattle.tool_program.proofs.OnlineCalls.Machines.{ToolPhaseIsNamed, named}
use Rattle.proof_journals.specs.Ghost.Rows.Moments.{Row}
use Rattle.proof_journals.specs.Machine.Machines.{Stands, ToolPhaseStands, WorkStands, SetupStands, copier_asks, copier_busy}
use Rattle.proof_journals.specs.Machine.MigrationTables.{SetupTables, ToolPhaseTables, WorkTables}
use Rattle.proof_journals.specs.Machine.Runnable.{IsRunnable}
use Rattle.proof_journals.specs.Machine.Standings.{IsAbout, Standing, answered, free, is_called, is_polled, standing_of}
use Rattle.proof_journals.specs.Machine.TableKeys.{ToolPhaseKeyed}
use Rattle.proof_journals.specs.Plans.{IsSerialPlan, limits_of, scene_of}
use Rattle.proof_journals.specs.Run.Kept.{IsKept}
use Rattle.proof_journals.specs.ServerTurns.Others.{TurnOf, asks_names}
use Rattle.proof_journals.specs.Turns.{about}
use Rattle.proof_journals.proofs.Machine.Asking.{copier_next, unless_called, waits_asks}
use Rattle.proof_journals.proofs.Machine.Journals.{Asking, asking, calls_so, copier_had, polls_so}
use Rattle.proof_journals.proofs.Machine.Keyed.{IsKeyedAll, all_keyed}
use Rattle.proof_journals.proofs.Machine.Seated.{others_stand, own_lost, own_stands}
use Rattle.proof_journals.proofs.Machine.Staying.{tables_stay}
use Rattle.proof_journals.proofs.PlanJournals.{plan_runs_are_scene_runs}
use Rattle.proof_journals.proofs.ServerTurns.Others.{entries_are_turns}
use Rattle.proof_migration.specs.ToolPhase.Unaltered.{IsUnaltered}
use Rattle.proof_migration.proofs.Migration.Copier.Knowing.{Asks, asks_at}
use Rattle.proof_migration.proofs.Program.Turns.Follows.{kept_front}
use Rattle.proof_migration.proofs.ToolPhase.Owners.{commands_operator}
use Rattle.proof_migration.proofs.ToolPhase.ToolPhaseTurns.{AnswerKeeps, ApplyKeeps, CopyKeeps, CutKeeps, DrainKeeps, Kept, ResizeKeeps, SetupKeeps, UnfitKeeps, gives_asked, turn_kept}
use Rattle.proof_migration.proofs.ToolPhase.Unaltered.Away.{unaltered_front}
use Rattle.proof_migration.proofs.ToolPhase.Unaltered.Runs.{unaltered_runs}
use Rattle.proof_migration.proofs.Program.Turns.NextCalls.{copy_next}
use Rattle.proof_migration.proofs.Unfit.Grounds.{lost_copies}
use Rattle.proof_migration.proofs.Unfit.Known.{IsKnownTurn, known_turn}
use Rattle.proof_journals.specs.Ghost.Rows.Counts.{all_keys}
use Rattle.proof_migration.proofs.HeldNames.Holders.{all_held_well}
use Rattle.proof_migration.proofs.Program.Hints.Courses.{IsWait, waits_wait, no_waits}
use Rattle.proof_bounds.specs.Volumes.Laws.{ChunksAreFew}
use Rattle.proof_bounds.proofs.Volumes.ChunkAnswers.{RangeSays, end_said, range_said, span_said}
use Rattle.proof_bounds.proofs.Volumes.Chunks.{AsksSo, CopierCounted, RangeCounted, SaysAt, StepCounted, again, answered_so, asks_later, copier_later, few_chunks, next_asks, resized_counted, took_range, waits_going, waits_took}
use Rattle.proof_bounds.proofs.Volumes.Keys.{all_ever, ever_more, ever_short, in_left, is_in, put_keys}
use Rattle.proof_journals.proofs.Ghost.Rows.LineEvents.{count_of}
use Rattle.proof_bounds.proofs.Volumes.Volumes.{events_few, keys_known}

-- WHAT IS KEPT

-- all keys that the migrated table ever had
abbrev keys_at : PlanData → TableRows → List Entry → List Row
keys_at plan opened journal = all_ever plan.table (key_places opened.schema) opened.rows (state_at plan journal).log

-- the copier's request that waits is what it asks at its step
abbrev WaitsSo : PlanData → List Entry → Option Request → Copier → Type 0
WaitsSo plan journal waits copier = (range : CopyRange) (request : Request) → copier.range ≡ Some range → waits ≡ Some request → AsksSo journal plan.table (low_end journal range copier.following) range copier.step request

abbrev PhaseCounted : PlanData → TableRows → List Entry → Bool → ToolPhase → Type 0
PhaseCounted plan opened journal reverting (SettingUp setup tries) = Unit {0}
PhaseCounted plan opened journal reverting (Migrating work) = CopierCounted journal (keys_at plan opened journal) work.copier work.copier.range × (reverting ≡ false → WaitsSo plan journal (standing_of plan journal Copy).waits work.copier)

-- ONE TURN

module _ (plan : PlanData) (runs : IsRunnable plan) (serial : IsSerialPlan plan) (opened : TableRows) (found : find_table plan.table plan.tables ≡ Some opened) (journal : List Entry) (entry : Entry) (kept : IsKept plan (journal ++ entry ∷ [])) (off : IsUnaltered plan (journal ++ entry ∷ []))
    (was : PhaseCounted plan opened journal (is_reverting (moment plan journal).tool.reason) (moment plan journal).tool.tool_phase) where
  abbrev more : List Entry
  more = journal ++ entry ∷ []

  abbrev now : State
  now = state_at plan journal

  abbrev then : State
  then = state_at plan more

  abbrev has : Actor → Standing
  has = standing_of plan journal

  abbrev now_has : Actor → Standing
  now_has = standing_of plan more

  abbrev tool : Tool
  tool = record (moment plan journal).tool { turns = (moment plan journal).tool.turns + 1 }

  abbrev keys : List Row
  keys = keys_at plan opened journal

  before : IsKept plan journal
  before = kept_front plan journal (entry ∷ []) kept

  off_before : IsUnaltered plan journal
  off_before = unaltered_front plan journal (entry ∷ []) off

  turn : IsKnownTurn plan journal entry
  turn = known_turn plan runs journal entry kept

  keyed : IsKeyedAll plan journal
  keyed = all_keyed plan journal runs.fitting runs.stands (tables_stay plan journal runs.fitting runs.tables before.faithful before.follows) before.faithful before.follows

  well : IsWellFormedDatabase now.tables
  well = (all_held_well plan journal runs serial before).serving.well_formed

  -- THE KEYS GROW

  grows : TurnOf (asks_names (about (opens entry now) entry.session entry.asked)) entry.session now then
  grows = entries_are_turns (limits_of plan) (scene_of plan journal) journal entry (plan_runs_are_scene_runs plan journal (unaltered_runs plan journal runs serial before off_before))

  abbrev new_keys : List Row
  new_keys = put_keys plan.table (key_places opened.schema) grows.events

  keys_are : keys_at plan opened more ≡ keys ++ new_keys
  keys_are = ap (all_ever plan.table (key_places opened.schema) opened.rows) grows.log ∙ ever_more plan.table (key_places opened.schema) opened.rows now.log grows.events

  all_known : (table : TableRows) → find_table plan.table now.tables ≡ Some table → all_keys (is_in keys) (key_places table.schema) table.rows ≡ true
  all_known table is = keys_known plan journal runs serial before off_before opened table found is

  abbrev New : Kept
  New reverting tool_phase = PhaseCounted plan opened more reverting tool_phase

  counted_now : (copier : Copier) → CopierCounted more (keys ++ new_keys) copier copier.range → CopierCounted more (keys_at plan opened more) copier copier.range
  counted_now copier is = subst (λ (ks : List Row). CopierCounted more ks copier copier.range) (sym keys_are) is

  later : (copier : Copier) → CopierCounted journal keys copier copier.range → CopierCounted more (keys_at plan opened more) copier copier.range
  later copier is = counted_now copier (copier_later journal entry keys new_keys copier copier.range is)

  -- THE COPIER'S WAIT

  others_waits : same_actor entry.actor Copy ≡ false → (work : Work) → CopierCounted journal keys work.copier work.copier.range → WaitsSo plan journal (has Copy).waits work.copier → WaitsSo plan more (now_has Copy).waits work.copier
  others_waits other work counted waits range request ranged some =
      asks_later journal entry keys new_keys plan.table work.copier range request (subst (CopierCounted journal keys work.copier) ranged counted)
      (waits range request ranged (ap (λ (s : Standing). s.waits) (sym (others_stand plan journal entry turn.together.known turn.served Copy other)) ∙ some))

  others_old : same_actor entry.actor Copy ≡ false → (reverting : Bool) (tool_phase : ToolPhase) → PhaseCounted plan opened journal reverting tool_phase → New reverting tool_phase
  others_old other reverting (SettingUp setup tries) is = tt
  others_old other reverting (Migrating work) is = (later work.copier is.0, λ going. others_waits other work is.0 (is.1 going))

  -- in a revert
  reverted_old : (reverting : Bool) (tool_phase : ToolPhase) → PhaseCounted plan opened journal reverting tool_phase → New true tool_phase
  reverted_old reverting (SettingUp setup tries) is = tt
  reverted_old reverting (Migrating work) is = (later work.copier is.0, λ going. absurd (true≢false going))

  back : (reverting : Bool) (tool_phase : ToolPhase) → New reverting tool_phase → New true (stopped tool_phase)
  back reverting (SettingUp setup tries) is = tt
  back reverting (Migrating work) is = (is.0, λ going. absurd (true≢false going))

  at_work : (work : Work) → (moment plan journal).tool.tool_phase ≡ Migrating work → PhaseCounted plan opened journal (is_reverting tool.reason) (Migrating work)
  at_work work eq = subst (PhaseCounted plan opened journal (is_reverting tool.reason)) eq was

  -- THE COPIER'S TURN

  module _ (work : Work) (eq : (moment plan journal).tool.tool_phase ≡ Migrating work) (same : entry.actor ≡ Copy) where
    abbrev counted : CopierCounted journal keys work.copier work.copier.range
    counted = (at_work work eq).0

    -- nothing of it waits
    idle_waits : now_has Copy ≡ free → (copier : Copier) → WaitsSo plan more (now_has Copy).waits copier
    idle_waits none copier range request ranged some = absurd (no_waits (now_has Copy) request none some)

    -- its session is lost between calls
    lost_so : entry.asked ≡ Cut → CopyKeeps New answers.Lost tool work
    unfolding took copiers.progress
    lost_so cut = record {
      reverting = λ is. reverted_old (is_reverting tool.reason) (Migrating work) (at_work work eq);
      unfit = λ going place number is. absurd (lost_copies work.copier.step place number is);
      took = λ going fits tries. (counted_now (record (work.copier) { step = Choosing }) (again journal entry keys new_keys work.copier work.copier.range counted), λ still. idle_waits none (record (work.copier) { step = Choosing }));
    } where
      none : now_has Copy ≡ free
      none = subst (λ (a : Actor). now_has a ≡ free) same (own_lost plan journal entry turn.together.known turn.served cut)

    module _ (uncut : entry.asked ≡ Cut → ⊥) (going : is_reverting tool.reason ≡ false) where
      work_tables : WorkTables plan now.tables has work
      work_tables = subst (ToolPhaseTables plan now.tables has) eq turn.known.marking.tabled.tables

      stands : WorkStands journal (is_reverting tool.reason) has work
      stands = subst (ToolPhaseStands journal has (is_reverting tool.reason)) eq turn.together.stands

      stood : Stands (copier_asks work.copier.step) (copier_busy work.copier.step) [] (has Copy)
      stood = copier_had plan journal entry turn.together turn.run work stands going

      -- what its turn is about
      record CopyAsks : Type 0 where
        request : Request
        is_about : IsAbout request (has Copy) entry.asked
        kind : copier_asks work.copier.step request ≡ true
        uncopied : work.copier.is_copied ≡ false
        so : (range : CopyRange) → work.copier.range ≡ Some range → AsksSo journal plan.table (low_end journal range work.copier.following) range work.copier.step request

      table_is : work.copier.table ≡ plan.table
      table_is = (subst (ToolPhaseIsNamed plan) eq (named plan journal)).copier

      copy_asks : CopyAsks
      unfolding given
      copy_asks = by (asking plan journal Copy entry.asked turn.together.server (subst (λ (a : Actor). given plan journal a ≡ Some entry.asked) same (gives_asked plan journal entry entry.asked turn.run.followed.given refl uncut))) where
        by : Asking plan journal Copy entry.asked → CopyAsks
        by (calls_so request asks idle call) =
            let next : copiers.next journal work.copier ≡ Some request = copy_next plan journal work eq going request call in
            let asks_here : Asks journal work.copier request = asks_at journal work.copier request next in
            record {
              request = request;
              is_about = is_called asks idle;
              kind = copier_next journal work.copier request next;
              uncopied = asks_here.going;
              so = λ range ranged. subst (λ (name : List ℕ). AsksSo journal name (low_end journal range work.copier.following) range work.copier.step request) table_is
                  (next_asks journal work.copier range request (ap (λ (r : CopyRange). copiers.call_at journal work.copier r work.copier.step) (same_range range asks_here.range ranged asks_here.is) ∙ asks_here.call));
            } where
              same_range : (one two : CopyRange) → work.copier.range ≡ Some one → work.copier.range ≡ Some two → one ≡ two
              same_range one two first second = let both : Some one ≡ Some two = sym first ∙ second in cc
        by (polls_so request asks some) = record {
          request = request;
          is_about = is_polled asks some;
          kind = waits_asks (copier_asks work.copier.step) (has Copy).waits request stood.waits some;
          uncopied = off_so work.copier.is_copied refl;
          so = λ range ranged. (at_work work eq).1 going range request ranged some;
        } where
          off_so : (b : Bool) → work.copier.is_copied ≡ b → b ≡ false
          off_so false copied = refl
          off_so true copied = absurd (no (sym (work_tables.copied copied) ∙ some)) where
            no : None ≡ Some request → ⊥
            no both = cc

      is_about : IsAbout copy_asks.request (has entry.actor) entry.asked
      is_about = subst (λ (a : Actor). IsAbout copy_asks.request (has a) entry.asked) (sym same) copy_asks.is_about

      sized : 1 ≤ work.copier.size
      sized = (subst (ToolPhaseKeyed plan journal) eq keyed.tool_phase).sized

      -- what the answer says
      abbrev low_of : CopyRange → Bound
      low_of range = low_end journal range work.copier.following

      says_by : (range : CopyRange) (step : CopyStep) (request : Request) → copier_asks step request ≡ true → AsksSo journal plan.table (low_of range) range step request → StepCounted journal keys (low_of range) range step → IsAbout request (has entry.actor) entry.asked
          → SaysAt journal keys (low_of range) range entry.answer step
      says_by range Choosing (requests.ChunkEnd table from top size) kind so known asked =
          end_said plan journal entry turn.together.known turn.served keys all_known (low_of range) range.top size
          (subst (λ (r : Request). IsAbout r (has entry.actor) entry.asked) (ap (λ (t : List ℕ). requests.ChunkEnd t from top size) so.0 ∙ ap (λ (l : Bound). requests.ChunkEnd plan.table l top size) so.1 ∙ ap (λ (k : Row). requests.ChunkEnd plan.table (low_of range) k size) so.2) asked)
      says_by range (Spanning reported most) (requests.BeginSpan table span size) kind so known asked =
          span_said plan journal entry turn.together.known turn.served keys all_known (low_of range) (end_in (answer_at journal reported)) size (subst (λ (n : ℕ). 1 ≤ n) (sym so.2) known.1)
          (subst (λ (r : Request). IsAbout r (has entry.actor) entry.asked) (ap (λ (t : List ℕ). requests.BeginSpan t span size) so.0 ∙ ap (λ (s : Span). requests.BeginSpan plan.table s size) so.1) asked)
      says_by range (Copying chunk copied) request kind so known asked = tt
      says_by range (Committing chunk) request kind so known asked = tt
      says_by range Choosing request kind so known asked = absurd (false≢true kind)
      says_by range (Spanning reported most) request kind so known asked = absurd (false≢true kind)

      -- the copier after it
      abbrev next_copier : Copier
      next_copier = took tool.turns work.copier entry.answer

      here : answer_at more tool.turns ≡ Some entry.answer
      here = ap (λ (n : ℕ). answer_at more (n + 1)) turn.together.turns ∙ answer_here journal entry

      counted_at : (range : CopyRange) → work.copier.range ≡ Some range → RangeCounted journal keys work.copier range
      counted_at range ranged = subst (CopierCounted journal keys work.copier) ranged counted

      took_counted : CopierCounted more (keys_at plan opened more) next_copier next_copier.range
      took_counted = by work.copier.range refl where
        by : (range : Option CopyRange) → work.copier.range ≡ range → CopierCounted more (keys_at plan opened more) next_copier next_copier.range
        by None none = absurd (true≢false (sym (subst (CopierCounted journal keys work.copier) none counted).0 ∙ copy_asks.uncopied))
        by (Some range) ranged =
            counted_now next_copier
            (subst (CopierCounted more (keys ++ new_keys) next_copier) (sym (took_range tool.turns work.copier entry.answer ∙ ranged))
            (answered_so journal entry keys new_keys work.copier range tool.turns entry.answer here sized copy_asks.uncopied (counted_at range ranged) ranged
            (says_by range work.copier.step copy_asks.request copy_asks.kind (copy_asks.so range ranged) (counted_at range ranged).step is_about)))

      waits_now : (request : Request) → (now_has Copy).waits ≡ Some request → IsWait copy_asks.request request entry.answer
      waits_now request some =
          waits_wait copy_asks.request request entry.answer (has Copy)
          (ap (λ (s : Standing). s.waits) (sym (subst (λ (a : Actor). now_has a ≡ answered copy_asks.request entry.answer (has a)) same (own_stands plan journal entry turn.together.known turn.served copy_asks.request is_about))) ∙ some)

      -- what it asks, where it waits
      asks_then : (range : CopyRange) (request : Request) → work.copier.range ≡ Some range → IsWait copy_asks.request request entry.answer → AsksSo more plan.table (low_end more range work.copier.following) range work.copier.step request
      asks_then range request ranged wait =
          asks_later journal entry keys new_keys plan.table work.copier range request (counted_at range ranged) (subst (AsksSo journal plan.table (low_end journal range work.copier.following) range work.copier.step) wait.same (copy_asks.so range ranged))

      took_waits : WaitsSo plan more (now_has Copy).waits next_copier
      took_waits range request ranged some =
          let wait : IsWait copy_asks.request request entry.answer = waits_now request some in
          let still : next_copier ≡ work.copier = ap (took tool.turns work.copier) wait.is ∙ waits_took tool.turns work.copier wait.by in
          subst (λ (c : Copier). AsksSo more plan.table (low_end more range c.following) range c.step request) (sym still) (asks_then range request (ap (λ (c : Copier). c.range) (sym still) ∙ ranged) wait)

      unfit_so : (place number : ℕ) → copiers.progress work.copier entry.answer ≡ Unfit place number → UnfitKeeps New work
      unfit_so place number is = record { renamed = λ done. old; reverts = back false (Migrating work) old } where
        old : New false (Migrating work)
        old = (
          later work.copier counted,
          λ still range request ranged some. let wait : IsWait copy_asks.request request entry.answer = waits_now request some in absurd (waits_going work.copier wait.by place number (ap (copiers.progress work.copier) (sym wait.is) ∙ is)),
        )

    heard_copy : (entry.asked ≡ Cut → ⊥) → CopyKeeps New entry.answer tool work
    heard_copy uncut = record {
      reverting = λ is. reverted_old (is_reverting tool.reason) (Migrating work) (at_work work eq);
      unfit = λ going place number is. unfit_so uncut going place number is;
      took = λ going fits tries. (took_counted uncut going, λ still. took_waits uncut going);
    }

  -- THE SETUP

  module _ (setup : Setup) (tries : List ℕ) (eq : (moment plan journal).tool.tool_phase ≡ SettingUp setup tries) (same : entry.actor ≡ Insp) where
    copy_free : now_has Copy ≡ free
    copy_free = others_stand plan journal entry turn.together.known turn.served Copy (ap (λ (a : Actor). same_actor a Copy) same) ∙ stands.copier where
      stands : SetupStands has
      stands = subst (ToolPhaseStands journal has (is_reverting tool.reason)) eq turn.together.stands

    abbrev To : Setup → Type 0
    To next = New false (tool_phase_of plan tool.operator.size next tries)

    ready : (position : ℕ) (range : Option KeyRange) → RangeSays keys (answers.Ends range) → To (Ready position range)
    ready position None says = ((refl, refl), λ still range request ranged some. absurd (no_waits (now_has Copy) request copy_free some))
    ready position (Some range) says = (
      subst (λ (ks : List Row). RangeCounted more ks (new_work plan tool.operator.size position (Some range)).copier (record { low = Closed range.least; top = range.greatest })) (sym keys_are) (record {
        top = in_left keys new_keys range.greatest says.top;
        following = tt;
        number = omega arith;
        left = λ uncopied. says.less;
        step = tt;
      }),
      λ still one request ranged some. absurd (no_waits (now_has Copy) request copy_free some),
    )

    lost_setup : SetupKeeps plan New answers.Lost tool setup tries
    lost_setup = record { reverting = λ is. tt; again = λ going bad some. tt; goes = λ going good. absurd (true≢false good) }

    module _ (uncut : entry.asked ≡ Cut → ⊥) where
      tables : SetupTables plan now.tables has setup
      tables = subst (ToolPhaseTables plan now.tables has) eq turn.known.marking.tabled.tables

      record InspAsks : Type 0 where
        request : Request
        is_about : IsAbout request (has entry.actor) entry.asked
        call : setup_call plan setup ≡ Some request

      insp_asks : InspAsks
      unfolding given
      insp_asks = by (asking plan journal Insp entry.asked turn.together.server (subst (λ (a : Actor). given plan journal a ≡ Some entry.asked) same (gives_asked plan journal entry entry.asked turn.run.followed.given refl uncut))) where
        about_so : (request : Request) → IsAbout request (has Insp) entry.asked → IsAbout request (has entry.actor) entry.asked
        about_so request is = subst (λ (a : Actor). IsAbout request (has a) entry.asked) (sym same) is

        by : Asking plan journal Insp entry.asked → InspAsks
        by (calls_so request asks idle call) = record {
          request = request;
          is_about = about_so request (is_called asks idle);
          call = unless_called (is_reverting (moment plan journal).tool.reason) (setup_call plan setup) request (ap (λ (c : ToolPhase). tool_call plan (moment plan journal).server journal (moment plan journal).tool c Insp) (sym eq) ∙ call);
        }
        by (polls_so request asks some) = record { request = request; is_about = about_so request (is_polled asks some); call = tables.waits request some }

      said_range : (position : ℕ) → setup ≡ Reaching position → RangeSays keys entry.answer
      said_range position is =
          let one : requests.Ends plan.table ≡ insp_asks.request = same_request (ap (setup_call plan) (sym is) ∙ insp_asks.call) in
          range_said plan journal entry turn.together.known turn.served keys all_known well (subst (λ (r : Request). IsAbout r (has entry.actor) entry.asked) (sym one) insp_asks.is_about) where
            same_request : Some (requests.Ends plan.table) ≡ Some insp_asks.request → requests.Ends plan.table ≡ insp_asks.request
            same_request both = cc

      cleared : (left : _) → To (clearing left)
      cleared left = by (is_clear left) where
        by : (b : Bool) → To (cond b MakingLog (Clearing left))
        by true = tt
        by false = tt

      keeps : (s : Setup) → setup ≡ s → To s
      keeps Listing is = tt
      keeps (Clearing left) is = tt
      keeps MakingLog is = tt
      keeps MakingGhost is = tt
      keeps Marking is = tt
      keeps (Reaching position) is = tt
      keeps (Ready position range) is = absurd (no (sym (ap (setup_call plan) is) ∙ insp_asks.call)) where
        no : None ≡ Some insp_asks.request → ⊥
        no both = cc

      steps : (s : Setup) → setup ≡ s → (answer : Answer) → entry.answer ≡ answer → To (setup_step plan.table s answer)
      steps Listing is (answers.Tables tables) said = cleared (listed plan.table tables)
      steps (Clearing left) is (answers.Ok count) said = cleared (without_first left)
      steps MakingLog is (answers.Ok count) said = tt
      steps MakingGhost is (answers.Ok count) said = tt
      steps Marking is (answers.At position) said = tt
      steps (Reaching position) is (answers.Ends range) said = ready position range (subst (RangeSays keys) said (said_range position is))
      steps s is answer said = keeps s is

      heard_setup : SetupKeeps plan New entry.answer tool setup tries
      heard_setup = record { reverting = λ is. tt; again = λ going bad some. tt; goes = λ going good. rw good (steps setup refl entry.answer refl) }

  -- THE OTHERS

  at_same : (work : Work) → (moment plan journal).tool.tool_phase ≡ Migrating work → same_actor entry.actor Copy ≡ false → (reverting : Bool) → is_reverting tool.reason ≡ reverting → New reverting (Migrating work)
  at_same work eq other reverting is = others_old other reverting (Migrating work) (subst (λ (b : Bool). PhaseCounted plan opened journal b (Migrating work)) is (at_work work eq))

  apply_so : (answer : Answer) (work : Work) → (moment plan journal).tool.tool_phase ≡ Migrating work → same_actor entry.actor Copy ≡ false → ApplyKeeps New answer tool work
  apply_so answer work eq other = record {
    reverting = λ is. reverted_old (is_reverting tool.reason) (Migrating work) (at_work work eq);
    unfit = λ going place number is. record { renamed = λ done. at_same work eq other false going; reverts = back false (Migrating work) (at_same work eq other false going) };
    took = λ going fits tries. at_same work eq other false going;
  }

  cut_so : (answer : Answer) (role : Role) (work : Work) → (moment plan journal).tool.tool_phase ≡ Migrating work → same_actor entry.actor Copy ≡ false → CutKeeps New answer tool role work
  cut_so answer role work eq other tries = at_same work eq other (is_reverting tool.reason) refl

  old_so : same_actor entry.actor Copy ≡ false → New (is_reverting tool.reason) (moment plan journal).tool.tool_phase
  old_so other = others_old other (is_reverting tool.reason) (moment plan journal).tool.tool_phase was

  other_than : (actor : Actor) → same_actor actor Copy ≡ false → entry.actor ≡ actor → same_actor entry.actor Copy ≡ false
  other_than actor other same = ap (λ (a : Actor). same_actor a Copy) same ∙ other

  at_phase : (tool_phase : ToolPhase) → (moment plan journal).tool.tool_phase ≡ tool_phase → same_actor entry.actor Copy ≡ false → New (is_reverting tool.reason) tool_phase
  at_phase tool_phase eq other = subst (New (is_reverting tool.reason)) eq (old_so other)

  -- an answer, heard or that of a loss between calls
  answer_so : (answer : Answer) (actor : Actor) → entry.actor ≡ actor → (tool_phase : ToolPhase) → (moment plan journal).tool.tool_phase ≡ tool_phase → ((work : Work) → (moment plan journal).tool.tool_phase ≡ Migrating work → entry.actor ≡ Copy → CopyKeeps New answer tool work)
      → ((setup : Setup) (tries : List ℕ) → (moment plan journal).tool.tool_phase ≡ SettingUp setup tries → entry.actor ≡ Insp → SetupKeeps plan New answer tool setup tries) → AnswerKeeps plan New answer tool actor tool_phase
  answer_so answer Insp same (SettingUp setup tries) eq copy setups = setups setup tries eq same
  answer_so answer Insp same (Migrating work) eq copy setups = cut_so answer Inspector work eq (other_than Insp refl same)
  answer_so answer Lock same (Migrating work) eq copy setups = cut_so answer Locker work eq (other_than Lock refl same)
  answer_so answer Ren same (Migrating work) eq copy setups = cut_so answer Renamer work eq (other_than Ren refl same)
  answer_so answer Copy same (Migrating work) eq copy setups = copy work eq same
  answer_so answer Apply same (Migrating work) eq copy setups = apply_so answer work eq (other_than Apply refl same)
  answer_so answer Lock same (SettingUp setup tries) eq copy setups = tt
  answer_so answer Ren same (SettingUp setup tries) eq copy setups = tt
  answer_so answer Copy same (SettingUp setup tries) eq copy setups = tt
  answer_so answer Apply same (SettingUp setup tries) eq copy setups = tt
  answer_so answer Op same tool_phase eq copy setups = at_phase tool_phase eq (other_than Op refl same)
  answer_so answer (Client c) same tool_phase eq copy setups = at_phase tool_phase eq (other_than (Client c) refl same)

  -- the operator's commands
  not_copy : (word : OperatorWord) → entry.asked ≡ Command word → same_actor entry.actor Copy ≡ false
  not_copy word asks = other_than Op refl (commands_operator plan journal entry.actor word (subst (IsGiven plan journal entry) asks turn.run.followed.given))

  sized_so : (size : ℕ) (tool_phase : ToolPhase) → New (is_reverting tool.reason) tool_phase → ResizeKeeps New tool size tool_phase
  sized_so size (SettingUp setup tries) is = tt
  sized_so size (Migrating work) is = (resized_counted more (keys_at plan opened more) size work.copier work.copier.range is.0, is.1)

  -- a session that has no work is lost
  idle_cut : entry.asked ≡ Cut → (actor : Actor) → entry.actor ≡ actor → (tool_phase : ToolPhase) → (moment plan journal).tool.tool_phase ≡ tool_phase → New (is_reverting tool.reason) tool_phase
  idle_cut cut Copy same (SettingUp setup tries) eq = tt
  idle_cut cut Copy same (Migrating work) eq =
      (later work.copier (at_work work eq).0, λ still. idle_waits work eq same (subst (λ (a : Actor). now_has a ≡ free) same (own_lost plan journal entry turn.together.known turn.served cut)) work.copier)
  idle_cut cut Op same tool_phase eq = at_phase tool_phase eq (other_than Op refl same)
  idle_cut cut Insp same tool_phase eq = at_phase tool_phase eq (other_than Insp refl same)
  idle_cut cut Apply same tool_phase eq = at_phase tool_phase eq (other_than Apply refl same)
  idle_cut cut Lock same tool_phase eq = at_phase tool_phase eq (other_than Lock refl same)
  idle_cut cut Ren same tool_phase eq = at_phase tool_phase eq (other_than Ren refl same)
  idle_cut cut (Client c) same tool_phase eq = at_phase tool_phase eq (other_than (Client c) refl same)

  drained_so : DrainKeeps New
  drained_so reverting work tries is = is

  phase_more : New (is_reverting (moment plan more).tool.reason) (moment plan more).tool.tool_phase
  phase_more = turn_kept plan New back journal entry drained_so (record {
    commanded = λ word asks unsized. old_so (not_copy word asks);
    resized = λ size asks. sized_so size (moment plan journal).tool.tool_phase (old_so (not_copy (ChunkSize size) asks));
    idle = λ cut none. idle_cut cut entry.actor refl (moment plan journal).tool.tool_phase refl;
    lost = λ cut worked. answer_so answers.Lost entry.actor refl (moment plan journal).tool.tool_phase refl (λ work eq same. lost_so work eq same cut) (λ setup tries eq same. lost_setup setup tries eq same);
    heard = λ uncut uncommanded. answer_so entry.answer entry.actor refl (moment plan journal).tool.tool_phase refl (λ work eq same. heard_copy work eq same uncut) (λ setup tries eq same. heard_setup setup tries eq same uncut);
  })

-- EVERY JOURNAL

abbrev AllCounted : PlanData → TableRows → List Entry → Type 0
AllCounted plan opened journal = PhaseCounted plan opened journal (is_reverting (moment plan journal).tool.reason) (moment plan journal).tool.tool_phase

counts_on : (plan : PlanData) → IsRunnable plan → IsSerialPlan plan → (opened : TableRows) → find_table plan.table plan.tables ≡ Some opened → (journal rest : List Entry) → IsKept plan (journal ++ rest) → IsUnaltered plan (journal ++ rest) → AllCounted plan opened journal → AllCounted plan opened (journal ++ rest)
counts_on plan runs serial opened found journal [] kept off was = subst (AllCounted plan opened) (sym (append-nil journal)) was
counts_on plan runs serial opened found journal (entry ∷ rest) kept off was =
    let same : (journal ++ entry ∷ []) ++ rest ≡ journal ++ entry ∷ rest = append_assoc journal (entry ∷ []) rest in
    let kept_all : IsKept plan ((journal ++ entry ∷ []) ++ rest) = subst (IsKept plan) (sym same) kept in
    let off_all : IsUnaltered plan ((journal ++ entry ∷ []) ++ rest) = subst (IsUnaltered plan) (sym same) off in
    subst (AllCounted plan opened) same
    (counts_on plan runs serial opened found (journal ++ entry ∷ []) rest kept_all off_all
    (phase_more plan runs serial opened found journal entry (kept_front plan (journal ++ entry ∷ []) rest kept_all) (unaltered_front plan (journal ++ entry ∷ []) rest off_all) was))

none_counted : (plan : PlanData) (opened : TableRows) → AllCounted plan opened []
unfolding moment
none_counted plan opened = tt

-- *Chunks are few*
pub chunks_few : ChunksAreFew
unfolding measures
chunks_few plan journal work runs serial kept off eq = by (find_table plan.table plan.tables) refl where
  none_stands : find_table plan.table plan.tables ≡ None → ⊥
  none_stands none = no (sym (ap (option_map (λ (table : TableRows). table.schema)) none) ∙ runs.stands) where
    no : None ≡ Some (old_schema plan) → ⊥
    no both = cc

  by : (found : Option TableRows) → find_table plan.table plan.tables ≡ found → work.copier.number ≤ (measures plan).rows + events (measures plan) + cond work.copier.is_copied 1 0
  by None none = absurd (none_stands none)
  by (Some opened) found =
      let all : AllCounted plan opened journal = counts_on plan runs serial opened found [] journal kept off (none_counted plan opened) in
      let counted : PhaseCounted plan opened journal (is_reverting (moment plan journal).tool.reason) (Migrating work) = subst (PhaseCounted plan opened journal (is_reverting (moment plan journal).tool.reason)) eq all in
      let few = few_chunks journal (keys_at plan opened journal) work.copier work.copier.range counted.0 in
      let short = ever_short plan.table (key_places opened.schema) opened.rows (state_at plan journal).log in
      let logged = events_few plan journal runs serial kept off in
      let rows : (measures plan).rows ≡ length opened.rows = ap (λ (o : Option TableRows). unwrap_or (option_map (λ (table : TableRows). length table.rows) o) 0) found in
      join work.copier.number (length (keys_at plan opened journal)) (length opened.rows) (count_of plan.table (state_at plan journal).log) (measures plan).rows (events (measures plan)) (cond work.copier.is_copied 1 0) few short logged rows where
        join : (number long rows logged all most one : ℕ) → number ≤ long + one → long ≤ rows + logged → logged ≤ most → all ≡ rows → number ≤ all + most + one
        join number long rows logged all most one few short less same = omega (arith, few, short, less, same)
