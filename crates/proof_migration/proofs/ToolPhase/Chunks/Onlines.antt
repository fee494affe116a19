-- Behind every journal each chunk is small; so each journal is online.
use Rattle.std.proofs.Common.{◌≡◌, ℕ, ◌+◌, ◌≤◌, ◌<◌, Bool, true, false, not, ◌&&◌, List, [], ◌∷◌, ◌++◌, cond, Option, Some, None, refl, sym, ap, ◌∙◌, subst, arith}
use Rattle.std.specs.Prelude.{nat_le}
use Rattle.std.proofs.lemmas.Bool.{true≢false, false≢true, not-true}
use Rattle.std.proofs.lemmas.Bool.Decides.{nat_tests}
use Rattle.std.proofs.lemmas.Option.{none-some}
use Rattle.base_values.specs.Laws.{StoresAgain}
use Rattle.base_values.specs.declared.value.Value.{Value}
use Rattle.base_script.specs.declared.actor.Actor.{Actor}
use Rattle.base_script.specs.declared.actor.Actor.TheVariants.{Op, Insp, Copy, Apply, Lock, Ren, Client}
use Rattle.base_script.specs.declared.actor.Side.{Side}
use Rattle.base_script.specs.declared.operator.OperatorWord.{OperatorWord}
use Rattle.base_script.specs.declared.operator.OperatorWord.TheVariants.{Throttle, NoThrottle, ChunkSize, Unpostpone, Panic, Wait}
use Rattle.base_script.specs.declared.script.ScriptWord.{ScriptWord}
use Rattle.base_script.specs.declared.script.ScriptWord.TheVariants as words
use Rattle.server_model.specs.Along.{Along}
use Rattle.server_model.specs.declared.answer.Answer.{Answer}
use Rattle.server_model.specs.declared.answer.Answer.TheVariants as answers
use Rattle.server_model.specs.declared.entry.Asked.{Asked}
use Rattle.server_model.specs.declared.entry.Asked.TheVariants.{Call, Poll, Command, Cut}
use Rattle.server_model.specs.declared.entry.Entry.{Entry}
use Rattle.server_model.specs.declared.outcome.Progress.TheVariants.{Unfit}
use Rattle.server_model.specs.declared.request.Request.{Request}
use Rattle.server_model.specs.declared.request.Request.TheVariants as requests
use Rattle.server_model.specs.Entries.{same_actor, is_client, is_command, is_cut, request_in}
use Rattle.server_model.specs.PlainServer.{serves}
use Rattle.server_model.specs.States.{State, has_work, view}
use Rattle.plan_data.specs.PlanData.{PlanData, new_map}
use Rattle.base_values.specs.ToolNames.{ghost_name}
use Rattle.tool_program.specs.JournalWords.Clients.{client_at, word_asks}
use Rattle.tool_program.specs.JournalWords.Journals.{opens, state_at, IsFaithful}
use Rattle.tool_program.specs.JournalWords.Sessions.{live_session}
use Rattle.tool_program.specs.ChunkCopier.Copiers as copiers
use Rattle.tool_program.specs.ChunkCopier.Copiers.{progress_at, key_at}
use Rattle.tool_program.specs.declared.chunk_copier.copier.Copier.{Copier}
use Rattle.tool_program.specs.declared.chunk_copier.copier.CopyRange.{CopyRange}
use Rattle.tool_program.specs.declared.chunk_copier.copier.CopyStep.{CopyStep}
use Rattle.tool_program.specs.declared.chunk_copier.copier.CopyStep.TheVariants.{Choosing, Spanning, Copying, Committing}
use Rattle.tool_program.specs.CutoverCore.CutOvers.{is_wait, is_done}
use Rattle.tool_program.specs.Online.{Copied, sized, copied_after, copied_at, is_small, IsOnlineCall, IsOnlineTurn, IsOnline}
use Rattle.tool_program.specs.Operators.{Operator, is_throttled, commanded}
use Rattle.tool_program.specs.Programs.{rolls_back, copy_call, tool_call, given, IsGiven, Follows}
use Rattle.tool_program.specs.Setups.{Setup, Listing, Clearing, MakingLog, MakingGhost, Marking, Reaching, Ready, setup_after}
use Rattle.tool_program.specs.Tools.{Work, ToolPhase, SettingUp, Migrating, Tool, Moment, stopped, is_renamed, is_reverting, tool_phase_of, moment}
use Rattle.tool_program.specs.OnlineCalls.{AsksWell, copies_rows, copies_well}
use Rattle.tool_program.proofs.OnlineCalls.Given as asking_well
use Rattle.tool_program.proofs.OnlineCalls.Machines.{ToolPhaseIsNamed, named}
use Rattle.proof_journals.proofs.Actors.{same_actor_is}
use Rattle.proof_journals.proofs.Waiting.{IsDone}
use Rattle.proof_journals.specs.Machine.Standings.{Standing, free, standing_in, standing_of, answered, IsAbout, is_called, is_polled}
use Rattle.proof_journals.specs.Machine.Machines.{Stands, copier_asks, copier_busy, ToolPhaseStands}
use Rattle.proof_journals.specs.Machine.FormedPlans.{IsFitting}
use Rattle.proof_journals.specs.Machine.TableKeys.{IsKeyed, CopierKeyed, ToolPhaseKeyed}
use Rattle.proof_journals.specs.Machine.Runnable.{IsRunnable}
use Rattle.proof_journals.specs.Machine.MigrationTables.{ToolPhaseTables, WorkTables, Uncopied, TableExists}
use Rattle.proof_journals.proofs.Machine.Asking.{some_request, unless_called, copier_next, idle_stands, waits_asks}
use Rattle.proof_journals.proofs.Machine.Calling.{reverting_or}
use Rattle.proof_journals.proofs.Machine.Clients.{Next, calls_line, polls_line, client_next}
use Rattle.proof_journals.proofs.Machine.Counting.{operator_more, operator_commanded}
use Rattle.proof_journals.proofs.Machine.Journals.{IsRun, all_runs, Asking, calls_so, polls_so, asking, copier_had}
use Rattle.proof_journals.proofs.Machine.Keyed.{copy_uncopied, IsKeyedAll, IsKeyedRun, keyed_more, keyed_begins, keyed_runs}
use Rattle.proof_journals.proofs.Machine.Seated.{IsKnown, IsServed, others_stand, own_stands, own_lost, own_session, own_given, own_missed}
use Rattle.proof_journals.proofs.Machine.Staying.{tables_stay}
use Rattle.proof_journals.proofs.Machine.Tabling.{IsTabled, next_uncopied}
use Rattle.proof_migration.proofs.ToolPhase.CopyAnswers.{CopyFits, own_copy}
use Rattle.proof_migration.proofs.ToolPhase.ToolPhaseTurns.{Kept, AnswerKeeps, ResizeKeeps, turn_kept, gives_asked}
use Rattle.proof_migration.proofs.ToolPhase.Hearing.{own_answer}
use Rattle.proof_migration.proofs.ToolPhase.Owners.{commands_operator}
use Rattle.proof_migration.specs.ToolPhase.Chunks.{ChunkEndsComeAtOnce, JournalsAreOnline}
use Rattle.proof_migration.proofs.ToolPhase.Chunks.Sparing.{opened_spared, ends_at_once}
use Rattle.proof_migration.proofs.ToolPhase.Chunks.Sizes.{weight, SpanWaits, SmallStep, IsSmall, FewKeys, keys_few, took_size, small_choosing, small_spanning, small_copying, small_committing, step_after, copied_more, is_counted, uncounted, unsized}
use Rattle.proof_migration.proofs.ToolPhase.Chunks.Uncopied.{is_uncopied, copy_before, IsUntouched, untouched_more, untouched_begins}
use Rattle.proof_migration.proofs.Program.Turns.NextCalls.{copy_next}

-- WHERE A CHUNK ENDS IS ANSWERED AT ONCE

-- what is done does not wait
pub done_waits : (answer : Answer) → IsDone answer → is_wait answer ≡ false
done_waits (answers.Waits by) is = absurd is
done_waits (answers.TimedOut waited) is = absurd is
done_waits answers.Lost is = absurd is
done_waits answer is = refl

module _ (plan : PlanData) (journal : List Entry) (entry : Entry) (is : IsUntouched plan journal) (run : IsRun plan journal entry) where
  abbrev then : Moment
  then = moment plan journal

  was_served : IsServed plan journal entry
  was_served = record { answered = run.answered; seated = record { session = run.followed.session } }

  -- the copier's call is of the plan's table, and comes while rows are left
  pub ends_here : (low : _) (top : List Value) (size : ℕ) → entry.asked ≡ Call (requests.ChunkEnd plan.table low top size) → is_uncopied then.tool.tool_phase ≡ true → is_wait entry.answer ≡ false
  ends_here low top size asks off = by entry.side refl where
    known : IsKnown plan journal
    known = is.tabled.all.tool.known

    by : (side : Option Side) → entry.side ≡ side → is_wait entry.answer ≡ false
    by (Some side) at_side = ap is_wait (own_missed plan journal entry known was_served side at_side)
    by None no_side =
        ap is_wait (sym (own_given plan journal entry known was_served no_side) ∙ ap (λ (a : Asked). (serves (opens entry (state_at plan journal)) entry.session a).answer) asks)
        ∙ done_waits _ (ends_at_once plan.table (opens entry (state_at plan journal)) entry.session low top size (opened_spared plan.table (is_command entry.asked) (not (is_client entry.actor)) entry.session (state_at plan journal) (is.spared off)))

  no_poll : (request : Request) → Call request ≡ Poll → ⊥
  no_poll request same = cc

  -- its table is the plan's
  ends_called : (table : List ℕ) (low : _) (top : List Value) (size : ℕ) → entry.asked ≡ Call (requests.ChunkEnd table low top size) → Asking plan journal Copy entry.asked → is_wait entry.answer ≡ false
  unfolding copiers.next
  ends_called table low top size asks (polls_so other polled some) = absurd (no_poll _ (sym asks ∙ polled))
  ends_called table low top size asks (calls_so other called idle call) = by then.tool.tool_phase refl where
    ends : Request
    ends = requests.ChunkEnd table low top size

    one : other ≡ ends
    one = same_call other ends (sym called ∙ asks) where
      same_call : (a b : Request) → Call a ≡ Call b → a ≡ b
      same_call a b same = cc

    by : (tool_phase : ToolPhase) → then.tool.tool_phase ≡ tool_phase → is_wait entry.answer ≡ false
    by (SettingUp setup tries) tool_phase = absurd (none-some other (ap (λ (c : ToolPhase). tool_call plan then.server journal then.tool c Copy) (sym tool_phase) ∙ call))
    by (Migrating work) tool_phase =
        let call_here : tool_call plan then.server journal then.tool (Migrating work) Copy ≡ Some ends = ap (λ (c : ToolPhase). tool_call plan then.server journal then.tool c Copy) (sym tool_phase) ∙ call ∙ ap Some one in
        let off : work.copier.is_copied ≡ false = copy_uncopied plan journal ends work refl call_here in
        let named_so : ToolPhaseIsNamed plan (Migrating work) = subst (ToolPhaseIsNamed plan) tool_phase (named plan journal) in
        ends_here low top size (asks ∙ ap (λ (t : List ℕ). Call (requests.ChunkEnd t low top size)) (table_is work call_here ∙ named_so.copier)) (ap is_uncopied tool_phase ∙ ap not off) where
          table_is : (work : Work) → tool_call plan then.server journal then.tool (Migrating work) Copy ≡ Some ends → table ≡ work.copier.table
          table_is work call =
              reverting_or (table ≡ work.copier.table) (is_reverting then.tool.reason) (rolls_back then.server (live_session journal Copy)) (copy_call plan then.server journal then.tool work) ends call
              (λ reverting back. absurd (rolled (Rattle.tool_program.specs.Programs.in_transaction then.server (live_session journal Copy)) back))
              (λ going asks_so. next_table work.copier (unless_called (copiers.starts work.copier && is_throttled plan then.server then.tool.operator) (copiers.next journal work.copier) ends asks_so)) where
                rolled : (b : Bool) → cond b (Some requests.Rollback) None ≡ Some ends → ⊥
                rolled true same = cc
                rolled false same = cc

                at_step : (copier : Copier) (range : CopyRange) (step : CopyStep) → copiers.call_at journal copier range step ≡ Some ends → table ≡ copier.table
                at_step copier range Choosing same = let both : copier.table ≡ table = cc in sym both
                at_step copier range (Spanning reported most) same = absurd cc
                at_step copier range (Committing chunk) same = absurd cc
                at_step copier range (Copying chunk done) same = at_key (key_at journal (Copying chunk done)) same where
                  at_key : (key : Option (List Value)) → copiers.copies copier key ≡ Some ends → table ≡ copier.table
                  at_key None same = absurd cc
                  at_key (Some key) same = absurd cc

                in_range : (copier : Copier) (range : Option CopyRange) → copiers.call_in journal copier range ≡ Some ends → table ≡ copier.table
                in_range copier None same = absurd cc
                in_range copier (Some range) same = at_step copier range copier.step same

                next_table : (copier : Copier) → copiers.next journal copier ≡ Some ends → table ≡ copier.table
                next_table copier same = in_range copier copier.range (unless_called copier.is_copied (copiers.call_in journal copier copier.range) ends same)

  pub ends_turn : (table : List ℕ) (low : _) (top : List Value) (size : ℕ) → entry.actor ≡ Copy → entry.asked ≡ Call (requests.ChunkEnd table low top size) → is_wait entry.answer ≡ false
  unfolding given
  ends_turn table low top size same asks =
      ends_called table low top size asks (asking plan journal Copy entry.asked is.tabled.all.tool.server (subst (λ (a : Actor). given plan journal a ≡ Some entry.asked) same (gives_asked plan journal entry entry.asked run.followed.given refl uncut))) where
        uncut : entry.asked ≡ Cut → ⊥
        uncut cut = no (sym asks ∙ cut) where
          no : Call (requests.ChunkEnd table low top size) ≡ Cut → ⊥
          no both = cc

pub all_untouched : (plan : PlanData) (journal : List Entry) → IsFitting plan → TableExists plan → IsFaithful plan journal → Follows plan journal → IsUntouched plan journal
unfolding Follows
all_untouched plan journal fit stands faithful follows =
    Rattle.server_model.specs.Along.Along-keeps (IsRun plan) (IsUntouched plan) (λ before entry run is. untouched_more plan before entry run is) [] journal (all_runs plan [] journal faithful follows) (untouched_begins plan fit stands)

-- *Chunk ends come at once*
pub ends_come : ChunkEndsComeAtOnce
ends_come plan journal entry table low top size fit stands faithful follows answered_so followed same asks =
    ends_turn plan journal entry (all_untouched plan journal fit stands faithful follows) (record { answered = answered_so; followed = followed }) table low top size same asks

-- EVERY CHUNK IS SMALL

abbrev pub SmallToolPhase : Copied → Option Request → Bool → ToolPhase → Type 0
SmallToolPhase copied waits reverting (SettingUp setup tries) = Unit {0}
SmallToolPhase copied waits reverting (Migrating work) = reverting ≡ false → work.copier.is_copied ≡ false → IsSmall copied waits work.copier

pub record IsSized (plan : PlanData) (journal : List Entry) : Type 0 where
  pub keyed : IsKeyedAll plan journal
  pub untouched : IsUntouched plan journal
  pub standing : (copied_at plan journal).standing ≡ (moment plan journal).tool.operator.size
  pub tool_phase : SmallToolPhase (copied_at plan journal) (standing_of plan journal Copy).waits (is_reverting (moment plan journal).tool.reason) (moment plan journal).tool.tool_phase

-- the same rows, whatever size stands
restand : (copied : Copied) (standing : ℕ) (waits : Option Request) (step : CopyStep) → SmallStep copied waits step → SmallStep (record copied { standing = standing }) waits step
restand copied standing waits Choosing is = is
restand copied standing waits (Spanning reported size) is = is
restand copied standing waits (Copying chunk done) is = is
restand copied standing waits (Committing chunk) is = is

-- who counts chunks and rows
counted_call : (request : Request) → copies_rows request ≡ false → is_counted (Call request) ≡ false
counted_call (requests.ChunkEnd table low top size) none = absurd (true≢false none)
counted_call (requests.CopyRow from into map key) none = absurd (true≢false none)
counted_call request none = refl

word_counted : (word : ScriptWord) → is_counted (Call (word_asks word)) ≡ false
word_counted words.Begin = refl
word_counted words.Commit = refl
word_counted words.Rollback = refl
word_counted (words.Do statement) = refl

others_copy : (actor : Actor) (request : Request) → same_actor actor Copy ≡ false → copies_well actor request ≡ true → copies_rows request ≡ false
others_copy Copy request differ well = absurd (true≢false differ)
others_copy Op request differ well = not-true (copies_rows request) well
others_copy Insp request differ well = not-true (copies_rows request) well
others_copy Apply request differ well = not-true (copies_rows request) well
others_copy Lock request differ well = not-true (copies_rows request) well
others_copy Ren request differ well = not-true (copies_rows request) well
others_copy (Client c) request differ well = not-true (copies_rows request) well

module _ (again : StoresAgain) (plan : PlanData) (runs : IsRunnable plan) (journal : List Entry) (entry : Entry) (is : IsSized plan journal) (one : IsKeyedRun plan journal entry) where
  abbrev now : Moment
  now = moment plan journal

  abbrev tool : Tool
  tool = record now.tool { turns = now.tool.turns + 1 }

  abbrev more : List Entry
  more = journal ++ entry ∷ []

  abbrev has : Actor → Standing
  has = standing_of plan journal

  abbrev now_has : Actor → Standing
  now_has = standing_of plan more

  abbrev copied : Copied
  copied = copied_at plan journal

  abbrev copied_now : Copied
  copied_now = copied_after entry.asked copied

  run : IsRun plan journal entry
  run = one.run

  tabled : IsTabled plan journal
  tabled = is.keyed.tabled

  known : IsKnown plan journal
  known = tabled.all.tool.known

  served : IsServed plan journal entry
  served = record { answered = run.answered; seated = record { session = run.followed.session } }

  abbrev New : Kept
  New b tool_phase = SmallToolPhase copied_now (now_has Copy).waits b tool_phase

  back : (b : Bool) (tool_phase : ToolPhase) → New b tool_phase → New true (stopped tool_phase)
  back b (SettingUp setup tries) small = tt
  back b (Migrating work) small = λ going. absurd (true≢false going)

  reverted : (work : Work) → New true (Migrating work)
  reverted work = λ going. absurd (true≢false going)

  -- nothing is counted, and the copier waits as before
  still : copied_now ≡ copied → now_has Copy ≡ has Copy → (tool_phase : ToolPhase) → now.tool.tool_phase ≡ tool_phase → New (is_reverting now.tool.reason) tool_phase
  still counts same tool_phase eq =
      subst (λ (c : Copied). SmallToolPhase c (now_has Copy).waits (is_reverting now.tool.reason) tool_phase) (sym counts)
      (subst (λ (s : Standing). SmallToolPhase copied s.waits (is_reverting now.tool.reason) tool_phase) (sym same) (subst (SmallToolPhase copied (has Copy).waits (is_reverting now.tool.reason)) eq is.tool_phase))

  tool_phase_stands : (tool_phase : ToolPhase) → now.tool.tool_phase ≡ tool_phase → ToolPhaseStands journal has (is_reverting now.tool.reason) tool_phase
  tool_phase_stands tool_phase eq = subst (ToolPhaseStands journal has (is_reverting now.tool.reason)) eq tabled.all.tool.stands

  work_tables : (work : Work) → now.tool.tool_phase ≡ Migrating work → WorkTables plan (state_at plan journal).tables has work
  work_tables work eq = subst (ToolPhaseTables plan (state_at plan journal).tables has) eq tabled.tables

  -- ANOTHER'S TURN

  standing_now : (asked : Asked) → is_command asked ≡ false → (copied_after asked copied).standing ≡ copied.standing
  standing_now (Command word) called = absurd (true≢false called)
  standing_now (Call (requests.ChunkEnd table low top size)) called = refl
  standing_now (Call (requests.CopyRow from into map key)) called = refl
  standing_now (Call request) called = refl
  standing_now Poll called = refl
  standing_now Cut called = refl

  -- a copy begins with the size that stands
  begins : is_command entry.asked ≡ false → now_has Copy ≡ free → (setup : Setup) (tries : List ℕ) → New false (tool_phase_of plan tool.operator.size setup tries)
  begins called none (Ready position range) tries = λ going off. record { size = sym (standing_now entry.asked called ∙ is.standing); step = ap (λ (s : Standing). s.waits) none }
  begins called none Listing tries = tt
  begins called none (Clearing left) tries = tt
  begins called none MakingLog tries = tt
  begins called none MakingGhost tries = tt
  begins called none Marking tries = tt
  begins called none (Reaching position) tries = tt

  others_kept : (answer : Answer) → is_command entry.asked ≡ false → copied_now ≡ copied → now_has Copy ≡ has Copy → (actor : Actor) → same_actor actor Copy ≡ false → (tool_phase : ToolPhase) → now.tool.tool_phase ≡ tool_phase → AnswerKeeps plan New answer tool actor tool_phase
  others_kept answer called counts same Copy differ tool_phase eq = absurd (true≢false differ)
  others_kept answer called counts same Insp differ (SettingUp setup tries) eq = record {
    reverting = λ reverting. tt;
    again = λ going bad more. tt;
    goes = λ going good. begins called (same ∙ (tool_phase_stands (SettingUp setup tries) eq).copier) (setup_after plan.table setup answer) tries;
  }
  others_kept answer called counts same Insp differ (Migrating work) eq = λ tries. still counts same (Migrating work) eq
  others_kept answer called counts same Lock differ (Migrating work) eq = λ tries. still counts same (Migrating work) eq
  others_kept answer called counts same Ren differ (Migrating work) eq = λ tries. still counts same (Migrating work) eq
  others_kept answer called counts same Apply differ (Migrating work) eq = record {
    reverting = λ reverting. reverted work;
    unfit = λ going place number unfit. record { renamed = λ renamed. subst (λ (b : Bool). New b (Migrating work)) going (still counts same (Migrating work) eq); reverts = reverted (record work { cutover = Rattle.tool_program.specs.CutoverCore.CutOvers.reverted work.cutover }) };
    took = λ going fits tries. subst (λ (b : Bool). New b (Migrating work)) going (still counts same (Migrating work) eq);
  }
  others_kept answer called counts same Op differ (Migrating work) eq = still counts same (Migrating work) eq
  others_kept answer called counts same (Client c) differ (Migrating work) eq = still counts same (Migrating work) eq
  others_kept answer called counts same Op differ (SettingUp setup tries) eq = tt
  others_kept answer called counts same (Client c) differ (SettingUp setup tries) eq = tt
  others_kept answer called counts same Apply differ (SettingUp setup tries) eq = tt
  others_kept answer called counts same Lock differ (SettingUp setup tries) eq = tt
  others_kept answer called counts same Ren differ (SettingUp setup tries) eq = tt

  others_same : same_actor entry.actor Copy ≡ false → now_has Copy ≡ has Copy
  others_same differ = others_stand plan journal entry known served Copy differ

  client_counted : (c : ℕ) (request : Request) → Next (client_at plan journal c) (Call request) → is_counted (Call request) ≡ false
  client_counted c request (calls_line line lines going off left same) = ap is_counted same ∙ word_counted line.word
  client_counted c request (polls_line going on same) = absurd (no same) where
    no : Call request ≡ Poll → ⊥
    no both = cc

  called_counted : (actor : Actor) (request : Request) → same_actor actor Copy ≡ false → given plan journal actor ≡ Some (Call request) → is_counted (Call request) ≡ false
  unfolding given
  called_counted actor request differ gives = by actor refl where
    tool_counted : is_client actor ≡ false → is_counted (Call request) ≡ false
    tool_counted off = counted_call request (others_copy actor request differ (asking_well.given_calls plan journal actor request off gives).copies)

    client_given : (c : ℕ) → given plan journal (Client c) ≡ Some (Call request) → is_counted (Call request) ≡ false
    client_given c gives = client_counted c request (client_next plan journal c (Call request) gives)

    by : (a : Actor) → actor ≡ a → is_counted (Call request) ≡ false
    by (Client c) same = client_given c (subst (λ (a : Actor). given plan journal a ≡ Some (Call request)) same gives)
    by Op same = tool_counted (ap is_client same)
    by Insp same = tool_counted (ap is_client same)
    by Copy same = tool_counted (ap is_client same)
    by Apply same = tool_counted (ap is_client same)
    by Lock same = tool_counted (ap is_client same)
    by Ren same = tool_counted (ap is_client same)

  heard_counts : same_actor entry.actor Copy ≡ false → (asked : Asked) → entry.asked ≡ asked → IsGiven plan journal entry asked → (entry.asked ≡ Cut → ⊥) → ((word : OperatorWord) → entry.asked ≡ Command word → ⊥) → is_counted entry.asked ≡ false
  heard_counts differ (Call request) asks gives called commanded_none = ap is_counted asks ∙ called_counted entry.actor request differ gives
  heard_counts differ Poll asks gives called commanded_none = ap is_counted asks
  heard_counts differ Cut asks gives called commanded_none = absurd (called asks)
  heard_counts differ (Command word) asks gives called commanded_none = absurd (commanded_none word asks)

  uncommanded : (asked : Asked) → entry.asked ≡ asked → ((word : OperatorWord) → entry.asked ≡ Command word → ⊥) → is_command entry.asked ≡ false
  uncommanded (Command word) asks none = absurd (none word asks)
  uncommanded (Call request) asks none = ap is_command asks
  uncommanded Poll asks none = ap is_command asks
  uncommanded Cut asks none = ap is_command asks

  -- THE COPIER'S TURN

  module _ (same : entry.actor ≡ Copy) (work : Work) (eq : now.tool.tool_phase ≡ Migrating work) (asks_so : Asking plan journal Copy entry.asked) (going : is_reverting now.tool.reason ≡ false) where
    off : work.copier.is_copied ≡ false
    off = not-true work.copier.is_copied (ap is_uncopied (sym eq) ∙ copy_before plan journal entry tabled run work eq asks_so going)

    small : IsSmall copied (has Copy).waits work.copier
    small = subst (SmallToolPhase copied (has Copy).waits (is_reverting now.tool.reason)) eq is.tool_phase going off

    keyed : CopierKeyed plan journal work.copier
    keyed = subst (ToolPhaseKeyed plan journal) eq is.keyed.tool_phase

    stands : Stands (copier_asks work.copier.step) (copier_busy work.copier.step) [] (has Copy)
    stands = copier_had plan journal entry tabled.all.tool run work (tool_phase_stands (Migrating work) eq) going

    uncopied : Uncopied plan (state_at plan journal).tables has work
    uncopied = (work_tables work eq).going off

    about : (request : Request) → IsAbout request (has Copy) entry.asked → IsAbout request (has entry.actor) entry.asked
    about request is_about = subst (λ (a : Actor). IsAbout request (has a) entry.asked) (sym same) is_about

    has_now : (request : Request) → IsAbout request (has Copy) entry.asked → now_has Copy ≡ answered request entry.answer (has Copy)
    has_now request is_about = subst (λ (a : Actor). now_has a ≡ answered request entry.answer (has a)) same (own_stands plan journal entry known served request (about request is_about))

    few : (table : List ℕ) (span : _) (size : ℕ) → IsAbout (requests.BeginSpan table span size) (has Copy) entry.asked → FewKeys size entry.answer
    few table span size is_about =
        own_answer (FewKeys size) (record { waits = λ by. tt; timed = λ waited. tt; lost = tt }) plan journal entry known served (requests.BeginSpan table span size) (about _ is_about) (λ found is_found. keys_few found entry.session table span size)

    fits : (key : List Value) → IsAbout (requests.CopyRow plan.table (ghost_name plan.table) (new_map plan) key) (has Copy) entry.asked → CopyFits (view entry.session (opens entry (state_at plan journal))) plan.table (new_map plan) key entry.answer
    fits key is_about = own_copy again plan runs.mapped journal entry known served key (about _ is_about) (ap (λ (a : Actor). (has a).locked) same ∙ stands.locked) uncopied.tables

    abbrev Unfits : CopyStep → Type 0
    Unfits step = (place number : ℕ) → progress_at step entry.answer ≡ Unfit place number → ⊥

    waits_none : (has Copy).waits ≡ None → (request : Request) → (has Copy).waits ≡ Some request → ⊥
    waits_none none request some = no (sym none ∙ some) where
      no : None ≡ Some request → ⊥
      no both = cc

    size_within : work.copier.size ≤ copied.standing
    size_within = let same : work.copier.size ≡ copied.standing = small.size in omega (arith, same)

    called_step : (range : CopyRange) (step : CopyStep) → work.copier.step ≡ step → SmallStep copied (has Copy).waits step → (has Copy).waits ≡ None → Unfits step → (request : Request) → entry.asked ≡ Call request → copiers.call_at journal work.copier range step ≡ Some request
        → SmallStep (copied_after (Call request) copied) (answered request entry.answer (has Copy)).waits (step_after tool.turns work.copier step entry.answer)
    called_step range Choosing at now_small idle unfits request asks call =
        some_request (λ r. entry.asked ≡ Call r → SmallStep (copied_after (Call r) copied) (answered r entry.answer (has Copy)).waits (step_after tool.turns work.copier Choosing entry.answer)) _ request call
        (λ asks. small_choosing tool.turns work.copier (has Copy) (record copied { size = copied.standing; rows = 0 }) _ _ _ _ entry.answer size_within refl
        (ends_turn plan journal entry is.untouched run _ _ _ _ same asks)) asks
    called_step range (Spanning reported most) at now_small idle unfits request asks call =
        some_request (λ r. entry.asked ≡ Call r → SmallStep (copied_after (Call r) copied) (answered r entry.answer (has Copy)).waits (step_after tool.turns work.copier (Spanning reported most) entry.answer)) _ request call
        (λ asks. small_spanning tool.turns work.copier (has Copy) copied reported most _ _ most entry.answer (omega arith) now_small.0 now_small.1 (few _ _ most (is_called asks idle))) asks
    called_step range (Copying chunk done) at now_small idle unfits request asks call = by (key_at journal (Copying chunk done)) call where
      row : (key : List Value) → entry.asked ≡ Call (requests.CopyRow work.copier.table (ghost_name work.copier.table) work.copier.map key)
          → SmallStep (record copied { rows = copied.rows + 1 }) (answered (requests.CopyRow work.copier.table (ghost_name work.copier.table) work.copier.map key) entry.answer (has Copy)).waits (step_after tool.turns work.copier (Copying chunk done) entry.answer)
      row key asks =
          let counted : copied.rows + 1 ≡ done + 1 = ap (λ (n : ℕ). n + 1) (now_small.1 ∙ ap (λ w. done + weight w) idle ∙ (let zero_more : done + 0 ≡ done = omega arith in zero_more)) in
          let own : requests.CopyRow work.copier.table (ghost_name work.copier.table) work.copier.map key ≡ requests.CopyRow plan.table (ghost_name plan.table) (new_map plan) key = ap (λ t. requests.CopyRow t (ghost_name t) work.copier.map key) keyed.table ∙ ap (λ m. requests.CopyRow plan.table (ghost_name plan.table) m key) keyed.map in
          small_copying tool.turns work.copier (has Copy) (record copied { rows = copied.rows + 1 }) chunk done work.copier.table (ghost_name work.copier.table) work.copier.map key entry.answer (view entry.session (opens entry (state_at plan journal))) now_small.0 counted now_small.2
          (subst (λ t. CopyFits (view entry.session (opens entry (state_at plan journal))) t work.copier.map key entry.answer) (sym keyed.table) (subst (λ m. CopyFits (view entry.session (opens entry (state_at plan journal))) plan.table m key entry.answer) (sym keyed.map)
          (fits key (is_called (asks ∙ ap Call own) idle)))) unfits

      by : (key : Option (List Value)) → copiers.copies work.copier key ≡ Some request → SmallStep (copied_after (Call request) copied) (answered request entry.answer (has Copy)).waits (step_after tool.turns work.copier (Copying chunk done) entry.answer)
      by None none = absurd cc
      by (Some key) some =
          some_request (λ r. entry.asked ≡ Call r → SmallStep (copied_after (Call r) copied) (answered r entry.answer (has Copy)).waits (step_after tool.turns work.copier (Copying chunk done) entry.answer)) _ request some (λ asks. row key asks) asks
    called_step range (Committing chunk) at now_small idle unfits request asks call =
        some_request (λ r. SmallStep (copied_after (Call r) copied) (answered r entry.answer (has Copy)).waits (step_after tool.turns work.copier (Committing chunk) entry.answer)) _ request call (small_committing tool.turns work.copier (has Copy) copied chunk entry.answer)

    polled_step : (step : CopyStep) → SmallStep copied (has Copy).waits step → Unfits step → (request : Request) → entry.asked ≡ Poll → (has Copy).waits ≡ Some request → copier_asks step request ≡ true
        → SmallStep copied (answered request entry.answer (has Copy)).waits (step_after tool.turns work.copier step entry.answer)
    polled_step Choosing now_small unfits request asks some kind = absurd (waits_none now_small request some)
    polled_step (Spanning reported most) now_small unfits (requests.BeginSpan table span size) asks some kind =
        let within : SpanWaits most (Some (requests.BeginSpan table span size)) = subst (SpanWaits most) some now_small.2 in
        small_spanning tool.turns work.copier (has Copy) copied reported most table span size entry.answer within now_small.0 now_small.1 (few table span size (is_polled asks some))
    polled_step (Copying chunk done) now_small unfits (requests.CopyRow from into map key) asks some kind =
        let keyed_so : IsKeyed plan (requests.CopyRow from into map key) = is.keyed.waits Copy (requests.CopyRow from into map key) some refl in
        let own : requests.CopyRow from into map key ≡ requests.CopyRow plan.table (ghost_name plan.table) (new_map plan) key =
        ap (λ f. requests.CopyRow f into map key) keyed_so.0 ∙ ap (λ i. requests.CopyRow plan.table i map key) keyed_so.1 ∙ ap (λ m. requests.CopyRow plan.table (ghost_name plan.table) m key) keyed_so.2 in
        let counted : copied.rows ≡ done + 1 = now_small.1 ∙ ap (λ w. done + weight w) some in
        small_copying tool.turns work.copier (has Copy) copied chunk done from into map key entry.answer (view entry.session (opens entry (state_at plan journal))) now_small.0 counted now_small.2
        (subst (λ t. CopyFits (view entry.session (opens entry (state_at plan journal))) t map key entry.answer) (sym keyed_so.0) (subst (λ m. CopyFits (view entry.session (opens entry (state_at plan journal))) plan.table m key entry.answer) (sym keyed_so.2)
        (fits key (is_polled asks (some ∙ ap Some own))))) unfits
    polled_step (Committing chunk) now_small unfits requests.Commit asks some kind = small_committing tool.turns work.copier (has Copy) copied chunk entry.answer
    polled_step step now_small unfits request asks some kind = absurd cc

    next_in : (copier : Copier) (request : Request) → copiers.next journal copier ≡ Some request → (range : CopyRange) × (copiers.call_at journal copier range copier.step ≡ Some request)
    unfolding copiers.next
    next_in copier request is_next = by copier.range (unless_called copier.is_copied (copiers.call_in journal copier copier.range) request is_next) where
      by : (range : Option CopyRange) → copiers.call_in journal copier range ≡ Some request → (range : CopyRange) × (copiers.call_at journal copier range copier.step ≡ Some request)
      by None none = absurd cc
      by (Some range) some = (range, some)

    step_now : Unfits work.copier.step → Asking plan journal Copy entry.asked → SmallStep copied_now (now_has Copy).waits (copiers.took tool.turns work.copier entry.answer).step
    step_now unfits (calls_so request asks idle call) =
        let found = next_in work.copier request (copy_next plan journal work eq going request call) in
        subst (λ (a : Asked). SmallStep (copied_after a copied) (now_has Copy).waits (copiers.took tool.turns work.copier entry.answer).step) (sym asks)
        (subst (λ (s : Standing). SmallStep (copied_after (Call request) copied) s.waits (copiers.took tool.turns work.copier entry.answer).step) (sym (has_now request (is_called asks idle)))
        (called_step found.0 work.copier.step refl small.step idle unfits request asks found.1))
    step_now unfits (polls_so request asks some) =
        subst (λ (a : Asked). SmallStep (copied_after a copied) (now_has Copy).waits (copiers.took tool.turns work.copier entry.answer).step) (sym asks)
        (subst (λ (s : Standing). SmallStep copied s.waits (copiers.took tool.turns work.copier entry.answer).step) (sym (has_now request (is_polled asks some)))
        (polled_step work.copier.step small.step unfits request asks some (waits_asks (copier_asks work.copier.step) (has Copy).waits request stands.waits some)))

    not_renamed : is_renamed (Migrating work) ≡ true → ⊥
    not_renamed renamed = true≢false (sym renamed ∙ ap is_done uncopied.phase)

  heard_copy : entry.actor ≡ Copy → Asking plan journal Copy entry.asked → is_command entry.asked ≡ false → (tool_phase : ToolPhase) → now.tool.tool_phase ≡ tool_phase → AnswerKeeps plan New entry.answer tool Copy tool_phase
  unfolding copiers.progress
  heard_copy same asks_so called (SettingUp setup tries) eq = tt
  heard_copy same asks_so called (Migrating work) eq = record {
    reverting = λ reverting. reverted work;
    unfit = λ going place number unfit. record { renamed = λ renamed. absurd (not_renamed same work eq asks_so going renamed); reverts = reverted (record work { cutover = Rattle.tool_program.specs.CutoverCore.CutOvers.reverted work.cutover }) };
    took = λ going fits tries again_going off_now. record {
      size = took_size tool.turns work.copier entry.answer ∙ (small same work eq asks_so going).size ∙ sym (standing_now entry.asked called);
      step = step_now same work eq asks_so going fits asks_so;
    };
  }

  copy_asking : entry.actor ≡ Copy → given plan journal entry.actor ≡ Some entry.asked → Asking plan journal Copy entry.asked
  unfolding given
  copy_asking same gives = asking plan journal Copy entry.asked tabled.all.tool.server (subst (λ (a : Actor). given plan journal a ≡ Some entry.asked) same gives)

  heard_kept : (entry.asked ≡ Cut → ⊥) → ((word : OperatorWord) → entry.asked ≡ Command word → ⊥) → AnswerKeeps plan New entry.answer tool entry.actor tool.tool_phase
  heard_kept called none = by (same_actor entry.actor Copy) refl where
    plain : is_command entry.asked ≡ false
    plain = uncommanded entry.asked refl none

    by : (b : Bool) → same_actor entry.actor Copy ≡ b → AnswerKeeps plan New entry.answer tool entry.actor tool.tool_phase
    by false differ = others_kept entry.answer plain (uncounted entry.asked copied (heard_counts differ entry.asked refl run.followed.given called none)) (others_same differ) entry.actor differ now.tool.tool_phase refl
    by true same_so =
        let same : entry.actor ≡ Copy = same_actor_is entry.actor Copy same_so in
        subst (λ (a : Actor). AnswerKeeps plan New entry.answer tool a tool.tool_phase) (sym same)
        (heard_copy same (copy_asking same (gives_asked plan journal entry entry.asked run.followed.given refl called)) plain now.tool.tool_phase refl)

  -- LOSSES BETWEEN CALLS

  cut_counts : entry.asked ≡ Cut → copied_now ≡ copied
  cut_counts cut = ap (λ (a : Asked). copied_after a copied) cut

  copy_lost : entry.asked ≡ Cut → entry.actor ≡ Copy → (tool_phase : ToolPhase) → now.tool.tool_phase ≡ tool_phase → AnswerKeeps plan New answers.Lost tool Copy tool_phase
  unfolding copiers.took copiers.progress
  copy_lost cut same (SettingUp setup tries) eq = tt
  copy_lost cut same (Migrating work) eq = record {
    reverting = λ reverting. reverted work;
    unfit = λ going place number unfit. absurd cc;
    took = λ going fits tries again_going off. record {
      size = (subst (SmallToolPhase copied (has Copy).waits (is_reverting now.tool.reason)) eq is.tool_phase going off).size ∙ sym (ap (λ (c : Copied). c.standing) (cut_counts cut));
      step = ap (λ (s : Standing). s.waits) (subst (λ (a : Actor). now_has a ≡ free) same (own_lost plan journal entry known served cut));
    };
  }

  lost_kept : entry.asked ≡ Cut → AnswerKeeps plan New answers.Lost tool entry.actor tool.tool_phase
  lost_kept cut = by (same_actor entry.actor Copy) refl where
    by : (b : Bool) → same_actor entry.actor Copy ≡ b → AnswerKeeps plan New answers.Lost tool entry.actor tool.tool_phase
    by false differ = others_kept answers.Lost (ap is_command cut) (cut_counts cut) (others_same differ) entry.actor differ now.tool.tool_phase refl
    by true same_so =
        let same : entry.actor ≡ Copy = same_actor_is entry.actor Copy same_so in
        subst (λ (a : Actor). AnswerKeeps plan New answers.Lost tool a tool.tool_phase) (sym same) (copy_lost cut same now.tool.tool_phase refl)

  idle_kept : entry.asked ≡ Cut → has_work now.server entry.session ≡ false → New (is_reverting tool.reason) tool.tool_phase
  idle_kept cut idle = still (cut_counts cut) (by (same_actor entry.actor Copy) refl) now.tool.tool_phase refl where
    had : has entry.actor ≡ free
    had =
        ap (standing_in (state_at plan journal)) (own_session plan journal entry known served (ap is_cut cut))
        ∙ idle_stands (state_at plan journal) entry.session (ap (λ (s : State). has_work s entry.session) (sym tabled.all.tool.server) ∙ idle)

    by : (b : Bool) → same_actor entry.actor Copy ≡ b → now_has Copy ≡ has Copy
    by false differ = others_same differ
    by true same_so = subst (λ (a : Actor). now_has a ≡ has a) (same_actor_is entry.actor Copy same_so) (own_lost plan journal entry known served cut ∙ sym had)

  -- COMMANDS

  command_same : (word : OperatorWord) → entry.asked ≡ Command word → now_has Copy ≡ has Copy
  command_same word asks =
      let operator : entry.actor ≡ Op = commands_operator plan journal entry.actor word (subst (λ (a : Asked). IsGiven plan journal entry a) asks run.followed.given) in
      others_same (ap (λ (a : Actor). same_actor a Copy) operator)

  commanded_kept : (word : OperatorWord) → entry.asked ≡ Command word → ((size : ℕ) → word ≡ ChunkSize size → ⊥) → New (is_reverting tool.reason) tool.tool_phase
  commanded_kept word asks none = still (ap (λ (a : Asked). copied_after a copied) asks ∙ unsized word copied none) (command_same word asks) now.tool.tool_phase refl

  resized_kept : (size : ℕ) → entry.asked ≡ Command (ChunkSize size) → (tool_phase : ToolPhase) → now.tool.tool_phase ≡ tool_phase → ResizeKeeps New tool size tool_phase
  resized_kept size asks (SettingUp setup tries) eq = tt
  resized_kept size asks (Migrating work) eq = λ going off.
      let small : IsSmall copied (has Copy).waits work.copier = subst (SmallToolPhase copied (has Copy).waits (is_reverting now.tool.reason)) eq is.tool_phase going off in
      subst (λ (a : Asked). IsSmall (copied_after a copied) (now_has Copy).waits (copiers.resized size work.copier)) (sym asks)
      (record { size = refl; step = restand copied size (now_has Copy).waits work.copier.step (subst (λ (s : Standing). SmallStep copied s.waits work.copier.step) (sym (command_same (ChunkSize size) asks)) small.step) })

  -- ONE TURN MORE

  tool_phase_now : New (is_reverting (moment plan more).tool.reason) (moment plan more).tool.tool_phase
  tool_phase_now =
      turn_kept plan New back journal entry (λ b work tries small. small)
      (record {
        commanded = λ word asks unsized_word. commanded_kept word asks unsized_word;
        resized = λ size asks. resized_kept size asks now.tool.tool_phase refl;
        idle = λ asks none. idle_kept asks none;
        lost = λ asks worked. lost_kept asks;
        heard = λ called none. heard_kept called none;
      })

  commanded_size : (word : OperatorWord) (operator : Operator) → (commanded word operator).size ≡ sized word operator.size
  commanded_size (ChunkSize size) operator = refl
  commanded_size Throttle operator = refl
  commanded_size NoThrottle operator = refl
  commanded_size Unpostpone operator = refl
  commanded_size Panic operator = refl
  commanded_size Wait operator = refl

  standing_more : copied_now.standing ≡ (moment plan more).tool.operator.size
  standing_more = by entry.asked refl where
    kept : is_command entry.asked ≡ false → copied_now.standing ≡ (moment plan more).tool.operator.size
    kept called = standing_now entry.asked called ∙ is.standing ∙ ap (λ (o : Operator). o.size) (sym (operator_more plan journal entry called))

    by : (asked : Asked) → entry.asked ≡ asked → copied_now.standing ≡ (moment plan more).tool.operator.size
    by (Command word) asks =
        ap (λ (a : Asked). (copied_after a copied).standing) asks ∙ ap (sized word) is.standing ∙ sym (commanded_size word now.tool.operator)
        ∙ ap (λ (o : Operator). o.size) (sym (operator_commanded plan journal entry word asks))
    by (Call request) asks = kept (ap is_command asks)
    by Poll asks = kept (ap is_command asks)
    by Cut asks = kept (ap is_command asks)

  pub sized_more : IsSized plan more
  sized_more = record {
    keyed = keyed_more plan runs.fitting journal entry one is.keyed;
    untouched = untouched_more plan journal entry run is.untouched;
    standing = ap (λ (c : Copied). c.standing) (copied_more plan journal entry) ∙ standing_more;
    tool_phase = subst (λ (c : Copied). SmallToolPhase c (now_has Copy).waits (is_reverting (moment plan more).tool.reason) (moment plan more).tool.tool_phase) (sym (copied_more plan journal entry)) tool_phase_now;
  }

  -- THE TURN IS ONLINE

  within : (rows done keys size : ℕ) → rows ≡ done + 0 → done < keys → keys ≤ size → nat_le (rows + 1) size ≡ true
  within rows done keys size same below fits = grind (arith, nat_tests)

  row_small : (request : Request) → entry.actor ≡ Copy → entry.asked ≡ Call request → Asking plan journal Copy entry.asked → is_small plan journal request ≡ true
  row_small (requests.CopyRow from into map key) same asks (polls_so other polled some) = absurd (no (sym asks ∙ polled)) where
    no : Call (requests.CopyRow from into map key) ≡ Poll → ⊥
    no both = cc
  row_small (requests.CopyRow from into map key) same asks (calls_so other called idle call) = by now.tool.tool_phase refl where
    row : Request
    row = requests.CopyRow from into map key

    same_row : other ≡ row
    same_row = by_call (sym called ∙ asks) where
      by_call : Call other ≡ Call row → other ≡ row
      by_call both = cc

    by_step : (step : CopyStep) → copier_asks step row ≡ true → SmallStep copied (has Copy).waits step → nat_le (copied.rows + 1) copied.size ≡ true
    by_step (Copying chunk done) kind step_small = within copied.rows done chunk.keys copied.size (step_small.1 ∙ ap (λ w. done + weight w) idle) step_small.2 step_small.0
    by_step Choosing kind step_small = absurd (false≢true kind)
    by_step (Spanning reported most) kind step_small = absurd (false≢true kind)
    by_step (Committing chunk) kind step_small = absurd (false≢true kind)

    by : (tool_phase : ToolPhase) → now.tool.tool_phase ≡ tool_phase → nat_le (copied.rows + 1) copied.size ≡ true
    by (SettingUp setup tries) eq = absurd (no (ap (λ (c : ToolPhase). tool_call plan now.server journal now.tool c Copy) (sym eq) ∙ call)) where
      no : None ≡ Some other → ⊥
      no both = cc
    by (Migrating work) eq =
        reverting_or (nat_le (copied.rows + 1) copied.size ≡ true) (is_reverting now.tool.reason) (rolls_back now.server (live_session journal Copy)) (copy_call plan now.server journal now.tool work) row
        (ap (λ (c : ToolPhase). tool_call plan now.server journal now.tool c Copy) (sym eq) ∙ call ∙ ap Some same_row) (λ reverting rolls. absurd (rolled (Rattle.tool_program.specs.Programs.in_transaction now.server (live_session journal Copy)) rolls))
        (λ going asks_so.
        let next_row : copiers.next journal work.copier ≡ Some row = unless_called (copiers.starts work.copier && is_throttled plan now.server now.tool.operator) (copiers.next journal work.copier) row asks_so in
        by_step work.copier.step (copier_next journal work.copier row next_row) (subst (SmallToolPhase copied (has Copy).waits (is_reverting now.tool.reason)) eq is.tool_phase going (next_uncopied journal work.copier row next_row)).step) where
          rolled : (b : Bool) → cond b (Some requests.Rollback) None ≡ Some row → ⊥
          rolled true same = cc
          rolled false same = cc
  row_small request same asks asks_so = by request asks refl where
    by : (r : Request) → entry.asked ≡ Call r → request ≡ r → is_small plan journal request ≡ true
    by (requests.CopyRow from into map key) asks eq = absurd cc
    by r asks eq = refl

  call_small : (request : Request) → is_client entry.actor ≡ false → given plan journal entry.actor ≡ Some (Call request) → entry.asked ≡ Call request → is_small plan journal request ≡ true
  call_small request off gives asks = by (same_actor entry.actor Copy) refl where
    plain : (r : Request) → copies_rows r ≡ false → is_small plan journal r ≡ true
    plain (requests.CopyRow from into map key) none = absurd (true≢false none)
    plain r none = refl

    by : (b : Bool) → same_actor entry.actor Copy ≡ b → is_small plan journal request ≡ true
    by false differ = plain request (others_copy entry.actor request differ (asking_well.given_calls plan journal entry.actor request off gives).copies)
    by true same_so =
        let same : entry.actor ≡ Copy = same_actor_is entry.actor Copy same_so in
        row_small request same asks (copy_asking same (gives ∙ ap Some (sym asks)))

  online_call : (request : Request) → is_client entry.actor ≡ false → entry.asked ≡ Call request → IsOnlineCall plan journal entry.actor request
  online_call request off asks =
      let gives : given plan journal entry.actor ≡ Some (Call request) = subst (λ (a : Asked). IsGiven plan journal entry a) asks run.followed.given in
      let well : AsksWell plan now entry.actor request = asking_well.given_calls plan journal entry.actor request off gives in
      record { writes = well.writes; names = well.names; small = call_small request off gives asks; excludes = well.excludes; guards = well.guards; held = well.held }

  pub online_turn : IsOnlineTurn plan journal entry.actor (request_in entry.asked)
  online_turn = by entry.actor refl entry.asked refl where
    none : (actor : Actor) → IsOnlineTurn plan journal actor None
    none (Client c) = tt
    none Op = tt
    none Insp = tt
    none Copy = tt
    none Apply = tt
    none Lock = tt
    none Ren = tt

    some : (actor : Actor) → entry.actor ≡ actor → is_client actor ≡ false → (request : Request) → entry.asked ≡ Call request → IsOnlineCall plan journal actor request
    some actor same off request asks = subst (λ (a : Actor). IsOnlineCall plan journal a request) same (online_call request (ap is_client same ∙ off) asks)

    by : (actor : Actor) → entry.actor ≡ actor → (asked : Asked) → entry.asked ≡ asked → IsOnlineTurn plan journal actor (request_in asked)
    by actor same Poll asks = none actor
    by actor same (Command word) asks = none actor
    by actor same Cut asks = none actor
    by (Client c) same (Call request) asks = tt
    by Op same (Call request) asks = some Op same refl request asks
    by Insp same (Call request) asks = some Insp same refl request asks
    by Copy same (Call request) asks = some Copy same refl request asks
    by Apply same (Call request) asks = some Apply same refl request asks
    by Lock same (Call request) asks = some Lock same refl request asks
    by Ren same (Call request) asks = some Ren same refl request asks

-- WHOLE JOURNALS

sized_begins : (plan : PlanData) → IsRunnable plan → IsSized plan []
unfolding moment copied_at
sized_begins plan runs = record { keyed = keyed_begins plan runs.fitting runs.stands; untouched = untouched_begins plan runs.fitting runs.stands; standing = refl; tool_phase = tt }

-- what each turn is, where each keeps what is so behind it
along_gives : {E : Type 0} (keeps : List E → E → Type 0) (P : List E → Type 0) (gives : List E → E → Type 0) → ((all : List E) (entry : E) → keeps all entry → P all → P (all ++ entry ∷ [])) → ((all : List E) (entry : E) → keeps all entry → P all → gives all entry)
    → (before entries : List E) → Along keeps before entries → P before → Along gives before entries
along_gives keeps P gives step each before [] kept held = tt
along_gives keeps P gives step each before (entry ∷ entries) kept held = (each before entry kept.0 held, along_gives keeps P gives step each (before ++ entry ∷ []) entries kept.1 (step before entry kept.0 held))

-- *Journals are online*
pub journals_online : StoresAgain → JournalsAreOnline
unfolding IsOnline Follows
journals_online again plan journal runs faithful follows =
    along_gives (IsKeyedRun plan) (IsSized plan) (λ before entry. IsOnlineTurn plan before entry.actor (request_in entry.asked)) (λ before entry one is. sized_more again plan runs before entry is one) (λ before entry one is. online_turn again plan runs before entry is one) [] journal
    (keyed_runs plan [] journal (all_runs plan [] journal faithful follows) (tables_stay plan journal runs.fitting runs.tables faithful follows)) (sized_begins plan runs)
