-- What the copier keeps, and asks with, are keys of the migrated table's kinds.
use Rattle.std.proofs.Common.{◌≡◌, ◌≤◌, ◌⊎◌, ℕ, zero, suc, ◌+◌, ◌==◌, Bool, true, false, cond, ◌&&◌, List, [], ◌∷◌, ◌++◌, length, Option, Some, None, refl, sym, ap, ◌∙◌, subst, inl, inr}
use Rattle.std.specs.List.{AllByRecursion, slice_get}
use Rattle.std.proofs.lemmas.Bool.{true≢false}
use Rattle.base_values.specs.declared.value.Value.{Value}
use Rattle.base_values.specs.declared.span.Bound.TheVariants.{Closed}
use Rattle.base_values.specs.Spans.{EndOfKinds}
use Rattle.base_script.specs.declared.actor.Actor.{Actor}
use Rattle.base_script.specs.declared.actor.Actor.TheVariants.{Op, Insp, Copy, Apply, Lock, Ren, Client}
use Rattle.base_script.specs.declared.operator.OperatorWord.{OperatorWord}
use Rattle.base_script.specs.declared.operator.OperatorWord.TheVariants.{Throttle, NoThrottle, ChunkSize, Unpostpone, Panic, Wait}
use Rattle.server_model.specs.Along.{Along, Along-keeps}
use Rattle.server_model.specs.declared.answer.Answer.{Answer}
use Rattle.server_model.specs.declared.answer.Answer.TheVariants as answers
use Rattle.server_model.specs.declared.answer.KeyRange.{KeyRange}
use Rattle.server_model.specs.declared.entry.Asked.{Asked}
use Rattle.server_model.specs.declared.entry.Asked.TheVariants.{Call, Poll, Command, Cut}
use Rattle.server_model.specs.declared.entry.Entry.{Entry}
use Rattle.server_model.specs.declared.outcome.Task.TheVariants as tasks
use Rattle.server_model.specs.declared.request.Request.{Request}
use Rattle.server_model.specs.declared.request.Request.TheVariants as requests
use Rattle.server_model.specs.Entries.{answer_at, is_command}
use Rattle.server_model.specs.EarlierAnswers.{end_in, keys_in}
use Rattle.server_model.specs.States.{has_work}
use Rattle.server_model.specs.LockedRows.Databases.{IsWellFormedDatabase}
use Rattle.plan_data.specs.PlanData.{PlanData}
use Rattle.base_values.specs.ToolNames.{ghost_name}
use Rattle.tool_program.specs.JournalWords.Journals.{state_at, IsFaithful}
use Rattle.tool_program.specs.JournalWords.KeptPlans.{words_of}
use Rattle.tool_program.specs.JournalWords.Sessions.{live_session}
use Rattle.tool_program.proofs.JournalWords.Answers.{answer_more, answer_here}
use Rattle.tool_program.specs.declared.chunk_copier.copier.Chunk.{Chunk}
use Rattle.tool_program.specs.declared.chunk_copier.copier.Copier.{Copier}
use Rattle.tool_program.specs.declared.chunk_copier.copier.CopyRange.{CopyRange}
use Rattle.tool_program.specs.declared.chunk_copier.copier.CopyStep.{CopyStep}
use Rattle.tool_program.specs.declared.chunk_copier.copier.CopyStep.TheVariants.{Choosing, Spanning, Copying, Committing}
use Rattle.tool_program.specs.ChunkCopier.Copiers as copiers
use Rattle.tool_program.specs.ChunkCopier.Copiers.{begun, after_copies, low_end, key_at, copies, call_at, call_in, took, after_answer}
use Rattle.tool_program.specs.EventApplier.Appliers as appliers
use Rattle.tool_program.specs.declared.cutover_core.cutover.Role.{Role}
use Rattle.tool_program.specs.declared.cutover_core.cutover.Role.TheVariants.{Inspector, Locker, Renamer}
use Rattle.tool_program.specs.CutoverCore.CutOvers as cuts
use Rattle.tool_program.specs.CutoverCore.CutOvers.{is_bad, applier_turn, reverted}
use Rattle.tool_program.specs.Operators.{Operator, commanded, is_throttled}
use Rattle.tool_program.specs.Setups.{Setup, Listing, Clearing, MakingLog, MakingGhost, Marking, Reaching, Ready, setup_call, setup_step, clearing}
use Rattle.tool_program.specs.Programs.{in_transaction, commands, tool_call, copy_call, rolls_back, given, IsGiven, Follows}
use Rattle.tool_program.specs.Tools.{Work, ToolPhase, SettingUp, Migrating, Panicked, Tool, Moment, stopped, spends, is_reverting, is_failure, new_work, copy_range, tool_phase_of, setup_took, copy_took, apply_took, cutover_took, actor_took, turn_counts, resizes, command_took, asked_took, moment}
use Rattle.tool_program.specs.Tools as tools
use Rattle.proof_journals.specs.Machine.Standings.{standing_of, IsAbout, is_called, is_polled}
use Rattle.proof_journals.specs.Machine.Machines.{Stands, copier_asks, copier_busy}
use Rattle.proof_journals.specs.Machine.FormedPlans.{IsFitting, SizeFits}
use Rattle.proof_journals.specs.Machine.MigrationTables.{SetupTables, WorkTables, ToolPhaseTables, TableExists}
use Rattle.proof_journals.specs.Machine.TableKeys.{kinds_of, IsKey, IsKeyed, AnswersKeys, IsEndReported, IsChunkReported, AfterKeyed, StepKeyed, RangeKeyed, CopierKeyed, ToolPhaseKeyed, StaysWellFormed}
use Rattle.proof_journals.specs.Machine.Laws.{has_keys}
use Rattle.proof_journals.proofs.Machine.Calling.{reverting_or}
use Rattle.proof_journals.proofs.Machine.Seated.{IsServed}
use Rattle.proof_journals.proofs.Machine.Asking.{some_request, unless_called, copier_next, waits_asks}
use Rattle.proof_journals.proofs.Machine.Lifting.{reverts_keeps, spends_keeps, attempt_keeps, copy_keeps, apply_keeps, drains_keeps}
use Rattle.proof_journals.proofs.Machine.Counting.{operator_more, operator_commanded}
use Rattle.proof_journals.proofs.Machine.Journals.{IsRun, all_runs, Asking, calls_so, polls_so, asking, client_commands, never_commands}
use Rattle.proof_journals.proofs.Machine.Polling.{AllWaits, waits_more, waits_begin}
use Rattle.proof_journals.proofs.Machine.Tabling.{IsTabled, tabled_more, tabled_begins, back_quiet, next_uncopied}
use Rattle.proof_journals.proofs.Machine.Answering.{own_keys}
use Rattle.proof_journals.proofs.Sentry.Inductions.{moment_more}

-- WHAT STAYS KNOWN

end_more : (plan : PlanData) (journal more : List Entry) (reported : ℕ) → IsEndReported plan journal reported → IsEndReported plan (journal ++ more) reported
end_more plan journal more reported is = record { answer = is.answer; is = answer_more journal more reported is.answer is.is; key = is.key }

chunk_more : (plan : PlanData) (journal more : List Entry) (chunk : Chunk) → IsChunkReported plan journal chunk → IsChunkReported plan (journal ++ more) chunk
chunk_more plan journal more chunk is = record { keys = is.keys; end = is.end; is = answer_more journal more chunk.reported _ is.is; each = is.each; last = is.last }

after_more : (plan : PlanData) (journal more : List Entry) (following : Option ℕ) → AfterKeyed plan journal following → AfterKeyed plan (journal ++ more) following
after_more plan journal more None is = tt
after_more plan journal more (Some reported) is = end_more plan journal more reported is

step_more : (plan : PlanData) (journal more : List Entry) (step : CopyStep) → StepKeyed plan journal step → StepKeyed plan (journal ++ more) step
step_more plan journal more Choosing is = tt
step_more plan journal more (Spanning reported size) is = (end_more plan journal more reported is.0, is.1)
step_more plan journal more (Copying chunk copied) is = chunk_more plan journal more chunk is
step_more plan journal more (Committing chunk) is = chunk_more plan journal more chunk is

copier_more : (plan : PlanData) (journal more : List Entry) (copier : Copier) → CopierKeyed plan journal copier → CopierKeyed plan (journal ++ more) copier
copier_more plan journal more copier is =
    record { table = is.table; map = is.map; sized = is.sized; range = is.range; following = after_more plan journal more copier.following is.following; step = step_more plan journal more copier.step is.step }

tool_phase_more : (plan : PlanData) (journal more : List Entry) (tool_phase : ToolPhase) → ToolPhaseKeyed plan journal tool_phase → ToolPhaseKeyed plan (journal ++ more) tool_phase
tool_phase_more plan journal more (SettingUp setup tries) is = tt
tool_phase_more plan journal more (Migrating work) is = copier_more plan journal more work.copier is

-- WHAT THE COPIER ASKS WITH

low_keyed : (plan : PlanData) (journal : List Entry) (range : CopyRange) (following : Option ℕ) → RangeKeyed plan (Some range) → AfterKeyed plan journal following → EndOfKinds (low_end journal range following) (kinds_of plan)
low_keyed plan journal range None keyed reported = keyed.0
low_keyed plan journal range (Some turn) keyed reported = subst (λ (answer : Option Answer). IsKey plan (end_in answer)) (sym reported.is) reported.key

slice_keyed : (plan : PlanData) (keys : List (List Value)) (place : ℕ) (key : List Value) → AllByRecursion (IsKey plan) keys → slice_get keys place ≡ Some key → IsKey plan key
slice_keyed plan [] place key all is = absurd cc
slice_keyed plan (first ∷ keys) zero key all is = let same : first ≡ key = cc in subst (IsKey plan) same all.0
slice_keyed plan (first ∷ keys) (suc place) key all is = slice_keyed plan keys place key all.1 is

at_keyed : (plan : PlanData) (journal : List Entry) (copier : Copier) (range : CopyRange) (step : CopyStep) (request : Request) → CopierKeyed plan journal copier → RangeKeyed plan (Some range) → StepKeyed plan journal step → call_at journal copier range step ≡ Some request → IsKeyed plan request
at_keyed plan journal copier range Choosing request is keyed known call = some_request (IsKeyed plan) _ request call (is.table, is.sized, low_keyed plan journal range copier.following keyed is.following, keyed.1)
at_keyed plan journal copier range (Spanning reported size) request is keyed known call =
    some_request (IsKeyed plan) _ request call (is.table, known.1, low_keyed plan journal range copier.following keyed is.following, subst (λ (answer : Option Answer). IsKey plan (end_in answer)) (sym known.0.is) known.0.key)
at_keyed plan journal copier range (Committing chunk) request is keyed known call = some_request (IsKeyed plan) _ request call tt
at_keyed plan journal copier range (Copying chunk copied) request is keyed known call = at (key_at journal (Copying chunk copied)) refl call where
  at : (key : Option (List Value)) → key_at journal (Copying chunk copied) ≡ key → copies copier key ≡ Some request → IsKeyed plan request
  at None none call = absurd cc
  at (Some key) some call =
      some_request (IsKeyed plan) _ request call
      (is.table, ap ghost_name is.table, is.map, slice_keyed plan known.keys copied key known.each (ap (λ (answer : Option Answer). slice_get (keys_in answer) copied) (sym known.is) ∙ some))

in_keyed : (plan : PlanData) (journal : List Entry) (copier : Copier) (range : Option CopyRange) (request : Request) → CopierKeyed plan journal copier → RangeKeyed plan range → call_in journal copier range ≡ Some request → IsKeyed plan request
in_keyed plan journal copier None request is keyed call = absurd cc
in_keyed plan journal copier (Some range) request is keyed call = at_keyed plan journal copier range copier.step request is keyed is.step call

pub next_keyed : (plan : PlanData) (journal : List Entry) (copier : Copier) (request : Request) → CopierKeyed plan journal copier → copiers.next journal copier ≡ Some request → IsKeyed plan request
unfolding copiers.next
next_keyed plan journal copier request is call = in_keyed plan journal copier copier.range request is is.range (unless_called copier.is_copied (call_in journal copier copier.range) request call)

setup_keyed : (plan : PlanData) (setup : Setup) (request : Request) → setup_call plan setup ≡ Some request → IsKeyed plan request
setup_keyed plan Listing request is = some_request (IsKeyed plan) _ request is tt
setup_keyed plan (Clearing left) request is = some_request (IsKeyed plan) _ request is tt
setup_keyed plan MakingLog request is = some_request (IsKeyed plan) _ request is tt
setup_keyed plan MakingGhost request is = some_request (IsKeyed plan) _ request is tt
setup_keyed plan Marking request is = some_request (IsKeyed plan) _ request is tt
setup_keyed plan (Reaching position) request is = some_request (IsKeyed plan) _ request is refl
setup_keyed plan (Ready position range) request is = absurd cc

-- AN ANSWER

-- another step, with all else as before
with_step : (plan : PlanData) (journal more : List Entry) (copier : Copier) (old step : CopyStep) → CopierKeyed plan journal (record copier { step = old }) → StepKeyed plan (journal ++ more) step → CopierKeyed plan (journal ++ more) (record copier { step = step })
with_step plan journal more copier old step is known = record { table = is.table; map = is.map; sized = is.sized; range = is.range; following = after_more plan journal more copier.following is.following; step = known }

stays_so : (plan : PlanData) (journal more : List Entry) (copier : Copier) (step : CopyStep) → CopierKeyed plan journal (record copier { step = step }) → CopierKeyed plan (journal ++ more) (record copier { step = step })
stays_so plan journal more copier step is = copier_more plan journal more (record copier { step = step }) is

module _ (plan : PlanData) (journal : List Entry) (entry : Entry) (copier : Copier) where
  abbrev more : List Entry
  more = journal ++ entry ∷ []

  reported_here : (turn : ℕ) (answer : Answer) → turn ≡ length journal + 1 → entry.answer ≡ answer → answer_at more turn ≡ Some answer
  reported_here turn answer turns is = ap (answer_at more) turns ∙ answer_here journal entry ∙ ap Some is

  at_choosing : (turn : ℕ) (table : _) (low : _) (top : _) (size : ℕ) (answer : Answer) → turn ≡ length journal + 1 → entry.answer ≡ answer → CopierKeyed plan journal (record copier { step = Choosing }) → AnswersKeys plan (requests.ChunkEnd table low top size) answer
      → CopierKeyed plan more (took turn (record copier { step = Choosing }) answer)
  unfolding took
  at_choosing turn table low top size (answers.End end) turns same is keys = with_step plan journal (entry ∷ []) copier Choosing (Spanning turn copier.size) is (record { answer = answers.End end; is = reported_here turn (answers.End end) turns same; key = keys }, is.sized)
  at_choosing turn table low top size answers.Lost turns same is keys = stays_so plan journal (entry ∷ []) copier Choosing is
  at_choosing turn table low top size (answers.TimedOut waited) turns same is keys = stays_so plan journal (entry ∷ []) copier Choosing is
  at_choosing turn table low top size answer turns same is keys = stays_so plan journal (entry ∷ []) copier Choosing is

  begins : (chunk : Chunk) (old : CopyStep) → CopierKeyed plan journal (record copier { step = old }) → IsChunkReported plan more chunk → CopierKeyed plan more (record copier { step = begun chunk })
  begins chunk old is reported = at (chunk.keys == 0) where
    at : (b : Bool) → CopierKeyed plan more (record copier { step = cond b (Committing chunk) (Copying chunk 0) })
    at true = with_step plan journal (entry ∷ []) copier old (Committing chunk) is reported
    at false = with_step plan journal (entry ∷ []) copier old (Copying chunk 0) is reported

  at_spanning : (turn reported most : ℕ) (table : _) (span : _) (size : ℕ) (answer : Answer) → turn ≡ length journal + 1 → entry.answer ≡ answer → CopierKeyed plan journal (record copier { step = Spanning reported most }) → AnswersKeys plan (requests.BeginSpan table span size) answer
      → CopierKeyed plan more (took turn (record copier { step = Spanning reported most }) answer)
  unfolding took
  at_spanning turn reported most table span size (answers.Keys keys end) turns same is typed = begins _ (Spanning reported most) is (record { keys = keys; end = end; is = reported_here turn (answers.Keys keys end) turns same; each = typed.0; last = typed.1 })
  at_spanning turn reported most table span size answers.Lost turns same is keys = with_step plan journal (entry ∷ []) copier (Spanning reported most) Choosing is tt
  at_spanning turn reported most table span size (answers.TimedOut waited) turns same is keys = with_step plan journal (entry ∷ []) copier (Spanning reported most) Choosing is tt
  at_spanning turn reported most table span size answer turns same is keys = stays_so plan journal (entry ∷ []) copier (Spanning reported most) is

  at_copying : (turn : ℕ) (chunk : Chunk) (copied : ℕ) (answer : Answer) → CopierKeyed plan journal (record copier { step = Copying chunk copied }) → CopierKeyed plan more (took turn (record copier { step = Copying chunk copied }) answer)
  unfolding took
  at_copying turn chunk copied (answers.Ok count) is = at ((copied + 1) == chunk.keys) where
    at : (b : Bool) → CopierKeyed plan more (record copier { step = cond b (Committing chunk) (Copying chunk (copied + 1)) })
    at true = with_step plan journal (entry ∷ []) copier (Copying chunk copied) (Committing chunk) is (chunk_more plan journal (entry ∷ []) chunk is.step)
    at false = with_step plan journal (entry ∷ []) copier (Copying chunk copied) (Copying chunk (copied + 1)) is (chunk_more plan journal (entry ∷ []) chunk is.step)
  at_copying turn chunk copied answers.Lost is = with_step plan journal (entry ∷ []) copier (Copying chunk copied) Choosing is tt
  at_copying turn chunk copied (answers.TimedOut waited) is = with_step plan journal (entry ∷ []) copier (Copying chunk copied) Choosing is tt
  at_copying turn chunk copied answer is = stays_so plan journal (entry ∷ []) copier (Copying chunk copied) is

  at_committing : (turn : ℕ) (chunk : Chunk) (answer : Answer) → CopierKeyed plan journal (record copier { step = Committing chunk }) → CopierKeyed plan more (took turn (record copier { step = Committing chunk }) answer)
  unfolding took
  at_committing turn chunk (answers.Ok count) is = record {
    table = is.table;
    map = is.map;
    sized = is.sized;
    range = is.range;
    following = let reported = chunk_more plan journal (entry ∷ []) chunk is.step in record { answer = answers.Keys reported.keys reported.end; is = reported.is; key = reported.last };
    step = tt;
  }
  at_committing turn chunk answers.Lost is = with_step plan journal (entry ∷ []) copier (Committing chunk) Choosing is tt
  at_committing turn chunk (answers.TimedOut waited) is = with_step plan journal (entry ∷ []) copier (Committing chunk) Choosing is tt
  at_committing turn chunk answer is = stays_so plan journal (entry ∷ []) copier (Committing chunk) is

  by_step : (turn : ℕ) (step : CopyStep) (request : Request) → turn ≡ length journal + 1 → CopierKeyed plan journal (record copier { step = step }) → copier_asks step request ≡ true → AnswersKeys plan request entry.answer → CopierKeyed plan more (took turn (record copier { step = step }) entry.answer)
  by_step turn Choosing (requests.ChunkEnd table low top size) turns is asks keys = at_choosing turn table low top size entry.answer turns refl is keys
  by_step turn (Spanning reported most) (requests.BeginSpan table span size) turns is asks keys = at_spanning turn reported most table span size entry.answer turns refl is keys
  by_step turn (Copying chunk copied) (requests.CopyRow from into map key) turns is asks keys = at_copying turn chunk copied entry.answer is
  by_step turn (Committing chunk) requests.Commit turns is asks keys = at_committing turn chunk entry.answer is
  by_step turn step request turns is asks keys = absurd cc

  -- *Behind each answer the copier keeps keys of the kinds*
  pub copier_keyed : (turn : ℕ) (request : Request) → turn ≡ length journal + 1 → CopierKeyed plan journal copier → copier_asks copier.step request ≡ true → AnswersKeys plan request entry.answer → CopierKeyed plan more (took turn copier entry.answer)
  copier_keyed turn request turns is asks keys = by_step turn copier.step request turns is asks keys

  pub copier_lost : (turn : ℕ) → CopierKeyed plan journal copier → CopierKeyed plan more (took turn copier answers.Lost)
  unfolding took
  copier_lost turn is = record { table = is.table; map = is.map; sized = is.sized; range = is.range; following = after_more plan journal (entry ∷ []) copier.following is.following; step = tt }

-- THE SETUP'S RANGE

begins_keyed : (plan : PlanData) (journal : List Entry) (size position : ℕ) (range : Option KeyRange) → 1 ≤ size → RangeKeyed plan (copy_range range) → ToolPhaseKeyed plan journal (Migrating (new_work plan size position range))
begins_keyed plan journal size position range some keyed = record { table = refl; map = refl; sized = some; range = keyed; following = tt; step = tt }

clearing_keyed : (plan : PlanData) (journal : List Entry) (size : ℕ) (left : _) (tries : List ℕ) → ToolPhaseKeyed plan journal (tool_phase_of plan size (clearing left) tries)
clearing_keyed plan journal size left tries = by (Rattle.tool_program.specs.CutoverCore.Attempts.is_clear left) where
  by : (b : Bool) → ToolPhaseKeyed plan journal (tool_phase_of plan size (cond b MakingLog (Clearing left)) tries)
  by true = tt
  by false = tt

setup_done : (plan : PlanData) (journal : List Entry) (size : ℕ) (setup : Setup) (answer : Answer) (tries : List ℕ) (request : Request) → 1 ≤ size → setup_call plan setup ≡ Some request → AnswersKeys plan request answer → ToolPhaseKeyed plan journal (tool_phase_of plan size (setup_step plan.table setup answer) tries)
setup_done plan journal size Listing (answers.Tables tables) tries request some call keys = clearing_keyed plan journal size _ tries
setup_done plan journal size Listing answer tries request some call keys = tt
setup_done plan journal size (Clearing left) (answers.Ok count) tries request some call keys = clearing_keyed plan journal size _ tries
setup_done plan journal size (Clearing left) answer tries request some call keys = tt
setup_done plan journal size MakingLog (answers.Ok count) tries request some call keys = tt
setup_done plan journal size MakingLog answer tries request some call keys = tt
setup_done plan journal size MakingGhost (answers.Ok count) tries request some call keys = tt
setup_done plan journal size MakingGhost answer tries request some call keys = tt
setup_done plan journal size Marking (answers.At position) tries request some call keys = tt
setup_done plan journal size Marking answer tries request some call keys = tt
setup_done plan journal size (Reaching position) (answers.Ends None) tries request some call keys = begins_keyed plan journal size position None some tt
setup_done plan journal size (Reaching position) (answers.Ends (Some range)) tries request some call keys =
    begins_keyed plan journal size position (Some range) some (some_request (λ r. AnswersKeys plan r (answers.Ends (Some range)) → EndOfKinds (Closed range.least) (kinds_of plan) × IsKey plan range.greatest) _ request call (λ typed. typed) keys)
setup_done plan journal size (Reaching position) answer tries request some call keys = tt
setup_done plan journal size (Ready position range) answer tries request some call keys = absurd cc

-- ONE TURN

-- the copier waits with a keyed request alone
abbrev pub needs_keys : Actor → Bool
needs_keys Copy = true
needs_keys actor = false

abbrev pub KeyedAt : PlanData → Actor → Request → Type 0
KeyedAt plan actor request = needs_keys actor ≡ true → IsKeyed plan request

-- what the copier calls is keyed
pub copy_called : (plan : PlanData) (journal : List Entry) (request : Request) (tool_phase : ToolPhase) → ToolPhaseKeyed plan journal tool_phase → tool_call plan (moment plan journal).server journal (moment plan journal).tool tool_phase Copy ≡ Some request → IsKeyed plan request
copy_called plan journal request (SettingUp setup tries) at call = absurd cc
copy_called plan journal request (Migrating work) at call =
    reverting_or (IsKeyed plan request) (is_reverting (moment plan journal).tool.reason) (rolls_back (moment plan journal).server (live_session journal Copy)) (copy_call plan (moment plan journal).server journal (moment plan journal).tool work) request call
    (λ reverting back_so. subst (IsKeyed plan) (sym (back_quiet (in_transaction (moment plan journal).server (live_session journal Copy)) request back_so)) tt)
    (λ going asks. next_keyed plan journal work.copier request at
    (unless_called (copiers.starts work.copier && is_throttled plan (moment plan journal).server (moment plan journal).tool.operator) (copiers.next journal work.copier) request asks))

-- ... and where it has keys, rows are left
pub copy_uncopied : (plan : PlanData) (journal : List Entry) (request : Request) (work : Work) → has_keys request ≡ true → tool_call plan (moment plan journal).server journal (moment plan journal).tool (Migrating work) Copy ≡ Some request → work.copier.is_copied ≡ false
copy_uncopied plan journal request work keys call =
    reverting_or (work.copier.is_copied ≡ false) (is_reverting (moment plan journal).tool.reason) (rolls_back (moment plan journal).server (live_session journal Copy)) (copy_call plan (moment plan journal).server journal (moment plan journal).tool work) request call
    (λ reverting back_so. absurd (true≢false (sym keys ∙ ap has_keys (back_quiet (in_transaction (moment plan journal).server (live_session journal Copy)) request back_so))))
    (λ going asks. next_uncopied journal work.copier request (unless_called (copiers.starts work.copier && is_throttled plan (moment plan journal).server (moment plan journal).tool.operator) (copiers.next journal work.copier) request asks))

module _ (plan : PlanData) (journal : List Entry) (entry : Entry) (is : IsTabled plan journal) (keyed : AllWaits (KeyedAt plan) plan journal) (at : ToolPhaseKeyed plan journal (moment plan journal).tool.tool_phase) (sized : 1 ≤ (moment plan journal).tool.operator.size) (well_formed : IsWellFormedDatabase (state_at plan journal).tables) (run : IsRun plan journal entry) (fit : IsFitting plan) where
  abbrev now : Moment
  now = moment plan journal

  abbrev tool : Tool
  tool = record now.tool { turns = now.tool.turns + 1 }

  abbrev all_more : List Entry
  all_more = journal ++ entry ∷ []

  abbrev Now : Bool → ToolPhase → Type 0
  Now b tool_phase = ToolPhaseKeyed plan all_more tool_phase

  abbrev Held : Tool → Type 0
  Held one = ToolPhaseKeyed plan all_more one.tool_phase

  turn_is : tool.turns ≡ length journal + 1
  turn_is = ap (λ (n : ℕ). n + 1) is.all.tool.turns

  served : IsServed plan journal entry
  served = record { answered = run.answered; seated = record { session = run.followed.session } }

  back : (b : Bool) (tool_phase : ToolPhase) → Now b tool_phase → Now true (stopped tool_phase)
  back b (SettingUp setup tries) one = tt
  back b (Migrating work) one = one

  drain : (b : Bool) (work : Work) (tries : List ℕ) → Now b (Migrating work) → Now b (Migrating (record work { cutover = applier_turn work.applier.hint work.cutover; attempt_tries = tries }))
  drain b work tries one = one

  still : (tool_phase : ToolPhase) → now.tool.tool_phase ≡ tool_phase → ToolPhaseKeyed plan all_more tool_phase
  still tool_phase same = tool_phase_more plan journal (entry ∷ []) tool_phase (subst (ToolPhaseKeyed plan journal) same at)

  still_tool : Held tool
  still_tool = still now.tool.tool_phase refl

  about : (actor : Actor) (request : Request) → entry.actor ≡ actor → IsAbout request (standing_of plan journal actor) entry.asked → IsAbout request (standing_of plan journal entry.actor) entry.asked
  about actor request same is_about = subst (λ (a : Actor). IsAbout request (standing_of plan journal a) entry.asked) (sym same) is_about

  -- THE COPIER

  work_tables : (work : Work) → now.tool.tool_phase ≡ Migrating work → WorkTables plan (state_at plan journal).tables (standing_of plan journal) work
  work_tables work tool_phase = subst (ToolPhaseTables plan (state_at plan journal).tables (standing_of plan journal)) tool_phase is.tables

  copier_stands_now : (work : Work) → now.tool.tool_phase ≡ Migrating work → is_reverting now.tool.reason ≡ false → Stands (copier_asks work.copier.step) (copier_busy work.copier.step) [] (standing_of plan journal Copy)
  copier_stands_now work tool_phase going = by (subst (Rattle.proof_journals.specs.Machine.Machines.ToolPhaseStands journal (standing_of plan journal) (is_reverting now.tool.reason)) tool_phase is.all.tool.stands).copier where
    by : (is_reverting now.tool.reason ≡ true) ⊎ Stands (copier_asks work.copier.step) (copier_busy work.copier.step) [] (standing_of plan journal Copy) → Stands (copier_asks work.copier.step) (copier_busy work.copier.step) [] (standing_of plan journal Copy)
    by (inl reverting) = absurd (true≢false (sym reverting ∙ going))
    by (inr stands) = stands

  -- its request, where rows are left
  copy_about : (work : Work) → now.tool.tool_phase ≡ Migrating work → is_reverting now.tool.reason ≡ false → entry.actor ≡ Copy → Asking plan journal Copy entry.asked
      → (P : Type 0) → ((request : Request) → copier_asks work.copier.step request ≡ true → AnswersKeys plan request entry.answer → P) → P
  copy_about work tool_phase going same (calls_so request asks idle call) P then =
      let next : copiers.next journal work.copier ≡ Some request = unless_called (copiers.starts work.copier && is_throttled plan now.server now.tool.operator) (copiers.next journal work.copier) request
      (ap (λ (b : Bool). cond b (rolls_back now.server (live_session journal Copy)) (copy_call plan now.server journal now.tool work)) (sym going) ∙ ap (λ (c : ToolPhase). tool_call plan now.server journal now.tool c Copy) (sym tool_phase) ∙ call) in
      let keyed_copier : CopierKeyed plan journal work.copier = subst (ToolPhaseKeyed plan journal) tool_phase at in
      then request (copier_next journal work.copier request next)
      (own_keys plan journal entry is.all.tool.known served request (about Copy request same (is_called asks idle)) ((work_tables work tool_phase).going (next_uncopied journal work.copier request next)).tables.old well_formed (next_keyed plan journal work.copier request keyed_copier next))
  copy_about work tool_phase going same (polls_so request asks some) P then =
      then request (waits_asks (copier_asks work.copier.step) (standing_of plan journal Copy).waits request (copier_stands_now work tool_phase going).waits some)
      (own_keys plan journal entry is.all.tool.known served request (about Copy request same (is_polled asks some)) ((work_tables work tool_phase).going (off work.copier.is_copied refl)).tables.old well_formed (keyed Copy request some refl)) where
        off : (b : Bool) → work.copier.is_copied ≡ b → b ≡ false
        off false copied = refl
        off true copied = absurd (no (sym ((work_tables work tool_phase).copied copied) ∙ some)) where
          no : None ≡ Some request → ⊥
          no both = cc

  copy_turn : entry.actor ≡ Copy → Asking plan journal Copy entry.asked → (tool_phase : ToolPhase) → now.tool.tool_phase ≡ tool_phase → Held (actor_took plan Copy entry.answer tool_phase tool)
  copy_turn same asks (SettingUp setup tries) tool_phase = still_tool
  copy_turn same asks (Migrating work) tool_phase = by (is_reverting tool.reason) refl where
    by : (b : Bool) → is_reverting tool.reason ≡ b → Held (cond b tool (copy_took plan entry.answer work tool))
    by true reverting = still_tool
    by false going =
        copy_keeps Now back plan work (copiers.progress work.copier entry.answer) (copiers.took tool.turns work.copier entry.answer) tool (λ place number unfit. still_tool)
        (λ tries. copy_about work tool_phase going same asks (CopierKeyed plan all_more (copiers.took tool.turns work.copier entry.answer))
        (λ request kind keys. copier_keyed plan journal entry work.copier tool.turns request turn_is (subst (ToolPhaseKeyed plan journal) tool_phase at) kind keys))

  copy_lost : (tool_phase : ToolPhase) → now.tool.tool_phase ≡ tool_phase → Held (actor_took plan Copy answers.Lost tool_phase tool)
  copy_lost (SettingUp setup tries) tool_phase = still_tool
  copy_lost (Migrating work) tool_phase = by (is_reverting tool.reason) where
    by : (b : Bool) → Held (cond b tool (copy_took plan answers.Lost work tool))
    by true = still_tool
    by false =
        copy_keeps Now back plan work (copiers.progress work.copier answers.Lost) (copiers.took tool.turns work.copier answers.Lost) tool (λ place number unfit. still_tool)
        (λ tries. copier_lost plan journal entry work.copier tool.turns (subst (ToolPhaseKeyed plan journal) tool_phase at))

  -- THE OTHERS

  apply_turn : (answer : Answer) (tool_phase : ToolPhase) → now.tool.tool_phase ≡ tool_phase → Held (actor_took plan Apply answer tool_phase tool)
  apply_turn answer (SettingUp setup tries) tool_phase = still_tool
  apply_turn answer (Migrating work) tool_phase = by (is_reverting tool.reason) where
    by : (b : Bool) → Held (cond b tool (apply_took plan answer work tool))
    by true = still_tool
    by false =
        apply_keeps Now back plan work (appliers.progress work.applier answer) (appliers.took tool.turns work.applier answer) tool (λ place number unfit. still_tool)
        (λ tries. still (Migrating work) tool_phase)

  cut_turn : (role : Role) (answer : Answer) (work : Work) → now.tool.tool_phase ≡ Migrating work → Held (cutover_took plan role answer work tool)
  cut_turn role answer work tool_phase =
      attempt_keeps Now back plan (is_failure work.cutover.phase (cuts.took role work.cutover answer).phase) work (cuts.took role work.cutover answer) tool (λ tries. still (Migrating work) tool_phase)

  insp_turn : (answer : Answer) (tool_phase : ToolPhase) → now.tool.tool_phase ≡ tool_phase → ((setup : Setup) (tries : List ℕ) → tool_phase ≡ SettingUp setup tries → is_bad answer ≡ false → ToolPhaseKeyed plan all_more (tool_phase_of plan tool.operator.size (setup_step plan.table setup answer) tries)) → Held (actor_took plan Insp answer tool_phase tool)
  insp_turn answer (Migrating work) tool_phase good = cut_turn Inspector answer work tool_phase
  insp_turn answer (SettingUp setup tries) tool_phase good = by (is_reverting tool.reason) (is_bad answer) refl where
    by : (a b : Bool) → is_bad answer ≡ b
        → Held (cond a tool (cond b (spends plan tasks.Setup (tries ++ tool.turns ∷ []) (record tool { tool_phase = SettingUp Listing (tries ++ tool.turns ∷ []) })) (record tool { tool_phase = tool_phase_of plan tool.operator.size (cond b Listing (setup_step plan.table setup answer)) tries })))
    by true b is_b = still_tool
    by false true is_b = spends_keeps Now back plan tasks.Setup (tries ++ tool.turns ∷ []) (record tool { tool_phase = SettingUp Listing (tries ++ tool.turns ∷ []) }) tt
    by false false is_b = good setup tries refl is_b

  setup_good : entry.actor ≡ Insp → Asking plan journal Insp entry.asked → (setup : Setup) (tries : List ℕ) → now.tool.tool_phase ≡ SettingUp setup tries → is_bad entry.answer ≡ false → ToolPhaseKeyed plan all_more (tool_phase_of plan tool.operator.size (setup_step plan.table setup entry.answer) tries)
  setup_good same asks setup tries tool_phase is_b = by asks where
    tables : SetupTables plan (state_at plan journal).tables (standing_of plan journal) setup
    tables = subst (ToolPhaseTables plan (state_at plan journal).tables (standing_of plan journal)) tool_phase is.tables

    so : (request : Request) → IsAbout request (standing_of plan journal Insp) entry.asked → setup_call plan setup ≡ Some request → ToolPhaseKeyed plan all_more (tool_phase_of plan tool.operator.size (setup_step plan.table setup entry.answer) tries)
    so request is_about call =
        setup_done plan all_more tool.operator.size setup entry.answer tries request sized call
        (own_keys plan journal entry is.all.tool.known served request (about Insp request same is_about) tables.old well_formed (setup_keyed plan setup request call))

    by : Asking plan journal Insp entry.asked → ToolPhaseKeyed plan all_more (tool_phase_of plan tool.operator.size (setup_step plan.table setup entry.answer) tries)
    by (calls_so request asks idle call) =
        so request (is_called asks idle) (unless_called (is_reverting now.tool.reason) (setup_call plan setup) request (ap (λ (c : ToolPhase). tool_call plan now.server journal now.tool c Insp) (sym tool_phase) ∙ call))
    by (polls_so request asks some) = so request (is_polled asks some) (tables.waits request some)

  role_turn : (actor : Actor) (role : Role) (answer : Answer) (tool_phase : ToolPhase) → now.tool.tool_phase ≡ tool_phase → ((setup : Setup) (tries : List ℕ) → actor_took plan actor answer (SettingUp setup tries) tool ≡ tool) → ((work : Work) → actor_took plan actor answer (Migrating work) tool ≡ cutover_took plan role answer work tool)
      → Held (actor_took plan actor answer tool_phase tool)
  role_turn actor role answer (SettingUp setup tries) tool_phase rests takes = subst Held (sym (rests setup tries)) still_tool
  role_turn actor role answer (Migrating work) tool_phase rests takes = subst Held (sym (takes work)) (cut_turn role answer work tool_phase)

  -- COMMANDS

  word_fits : (all : List OperatorWord) (place : ℕ) (word : OperatorWord) → AllByRecursion SizeFits all → commands (slice_get all place) ≡ Some (Command word) → SizeFits word
  word_fits [] place word fits none = absurd cc
  word_fits (first ∷ all) zero word fits some = let same : first ≡ word = cc in subst SizeFits same fits.0
  word_fits (first ∷ all) (suc place) word fits some = word_fits all place word fits.1 some

  resized : (size : ℕ) (tool_phase : ToolPhase) → 1 ≤ size → ToolPhaseKeyed plan all_more tool_phase → ToolPhaseKeyed plan all_more (resizes (ChunkSize size) tool_phase)
  resized size (SettingUp setup tries) some one = tt
  resized size (Migrating work) some one = record { table = one.table; map = one.map; sized = some; range = one.range; following = one.following; step = one.step }

  commanded_so : (word : OperatorWord) → SizeFits word → Held (command_took word tool)
  commanded_so Panic fits = reverts_keeps Now back (Panicked tool.turns) (record tool { operator = commanded Panic tool.operator; tool_phase = tool.tool_phase }) still_tool
  commanded_so (ChunkSize size) fits = resized size tool.tool_phase fits still_tool
  commanded_so Throttle fits = still_tool
  commanded_so NoThrottle fits = still_tool
  commanded_so Unpostpone fits = still_tool
  commanded_so Wait fits = still_tool

  -- EVERY TURN

  asked_so : (actor : Actor) → entry.actor ≡ actor → given plan journal actor ≡ Some entry.asked → Held (turn_counts plan actor (actor_took plan actor entry.answer tool.tool_phase tool))
  unfolding given
  asked_so (Client c) same gives = still_tool
  asked_so Op same gives = still_tool
  asked_so Insp same gives = insp_turn entry.answer now.tool.tool_phase refl (λ setup tries tool_phase is_b. setup_good same (asking plan journal Insp entry.asked is.all.tool.server gives) setup tries tool_phase is_b)
  asked_so Copy same gives = copy_turn same (asking plan journal Copy entry.asked is.all.tool.server gives) now.tool.tool_phase refl
  asked_so Apply same gives = drains_keeps Now back plan (actor_took plan Apply entry.answer tool.tool_phase tool).tool_phase (actor_took plan Apply entry.answer tool.tool_phase tool) refl drain (apply_turn entry.answer now.tool.tool_phase refl)
  asked_so Lock same gives = role_turn Lock Locker entry.answer now.tool.tool_phase refl (λ setup tries. refl) (λ work. refl)
  asked_so Ren same gives = role_turn Ren Renamer entry.answer now.tool.tool_phase refl (λ setup tries. refl) (λ work. refl)

  lost_so : (actor : Actor) → Held (actor_took plan actor answers.Lost tool.tool_phase tool)
  lost_so (Client c) = still_tool
  lost_so Op = still_tool
  lost_so Insp = insp_turn answers.Lost now.tool.tool_phase refl (λ setup tries tool_phase is_b. absurd (true≢false is_b))
  lost_so Copy = copy_lost now.tool.tool_phase refl
  lost_so Apply = apply_turn answers.Lost now.tool.tool_phase refl
  lost_so Lock = role_turn Lock Locker answers.Lost now.tool.tool_phase refl (λ setup tries. refl) (λ work. refl)
  lost_so Ren = role_turn Ren Renamer answers.Lost now.tool.tool_phase refl (λ setup tries. refl) (λ work. refl)

  word_size : (actor : Actor) (word : OperatorWord) → given plan journal actor ≡ Some (Command word) → SizeFits word
  unfolding given
  word_size Op word gives = word_fits (words_of plan) now.tool.operator.taken word fit.commands gives
  word_size (Client c) word gives = absurd (client_commands plan journal c word gives)
  word_size Insp word gives = absurd (never_commands plan journal Insp word gives)
  word_size Copy word gives = absurd (never_commands plan journal Copy word gives)
  word_size Apply word gives = absurd (never_commands plan journal Apply word gives)
  word_size Lock word gives = absurd (never_commands plan journal Lock word gives)
  word_size Ren word gives = absurd (never_commands plan journal Ren word gives)

  all_so : (asked : Asked) → entry.asked ≡ asked → IsGiven plan journal entry asked → Held (asked_took plan now.server entry asked tool)
  all_so (Command word) asks gives = commanded_so word (word_size entry.actor word gives)
  all_so Cut asks gives = by (has_work now.server entry.session) where
    by : (b : Bool) → Held (cond b (actor_took plan entry.actor answers.Lost tool.tool_phase tool) tool)
    by true = lost_so entry.actor
    by false = still_tool
  all_so (Call request) asks gives = asked_so entry.actor refl (gives ∙ ap Some (sym asks))
  all_so Poll asks gives = asked_so entry.actor refl (gives ∙ ap Some (sym asks))

  pub tool_phase_keyed : ToolPhaseKeyed plan all_more (moment plan all_more).tool.tool_phase
  unfolding tools.took
  tool_phase_keyed = subst (λ (m : Moment). ToolPhaseKeyed plan all_more m.tool.tool_phase) (sym (moment_more plan journal entry)) (all_so entry.asked refl run.followed.given)

  size_of : (word : OperatorWord) (operator : Operator) → 1 ≤ operator.size → SizeFits word → 1 ≤ (commanded word operator).size
  size_of (ChunkSize size) operator some fits = fits
  size_of Throttle operator some fits = some
  size_of NoThrottle operator some fits = some
  size_of Unpostpone operator some fits = some
  size_of Panic operator some fits = some
  size_of Wait operator some fits = some

  operator_sized : 1 ≤ (moment plan all_more).tool.operator.size
  operator_sized = by entry.asked refl run.followed.given where
    same : is_command entry.asked ≡ false → 1 ≤ (moment plan all_more).tool.operator.size
    same called = subst (λ (o : Operator). 1 ≤ o.size) (sym (operator_more plan journal entry called)) sized

    by : (asked : Asked) → entry.asked ≡ asked → IsGiven plan journal entry asked → 1 ≤ (moment plan all_more).tool.operator.size
    by (Command word) asks gives = subst (λ (o : Operator). 1 ≤ o.size) (sym (operator_commanded plan journal entry word asks)) (size_of word now.tool.operator sized (word_size entry.actor word gives))
    by Cut asks gives = same (ap is_command asks)
    by Poll asks gives = same (ap is_command asks)
    by (Call request) asks gives = same (ap is_command asks)

  called_keyed : (actor : Actor) (request : Request) → given plan journal actor ≡ Some (Call request) → KeyedAt plan actor request
  unfolding given
  called_keyed Copy request gives needs = by (asking plan journal Copy (Call request) is.all.tool.server gives) where
    by : Asking plan journal Copy (Call request) → IsKeyed plan request
    by (calls_so other same idle call) = let one : other ≡ request = cc in copy_called plan journal request now.tool.tool_phase at (call ∙ ap Some one)
    by (polls_so other same some) = absurd (no same) where
      no : Call request ≡ Poll → ⊥
      no both = cc
  called_keyed Op request gives needs = absurd cc
  called_keyed Insp request gives needs = absurd cc
  called_keyed Apply request gives needs = absurd cc
  called_keyed Lock request gives needs = absurd cc
  called_keyed Ren request gives needs = absurd cc
  called_keyed (Client c) request gives needs = absurd cc

-- WHOLE JOURNALS

pub record IsKeyedAll (plan : PlanData) (journal : List Entry) : Type 0 where
  pub tabled : IsTabled plan journal
  pub waits : AllWaits (KeyedAt plan) plan journal
  pub tool_phase : ToolPhaseKeyed plan journal (moment plan journal).tool.tool_phase
  pub sized : 1 ≤ (moment plan journal).tool.operator.size

-- an entry, before which the tables are tables
pub record IsKeyedRun (plan : PlanData) (journal : List Entry) (entry : Entry) : Type 0 where
  pub run : IsRun plan journal entry
  pub well_formed : IsWellFormedDatabase (state_at plan journal).tables

pub keyed_more : (plan : PlanData) → IsFitting plan → (journal : List Entry) (entry : Entry) → IsKeyedRun plan journal entry → IsKeyedAll plan journal → IsKeyedAll plan (journal ++ entry ∷ [])
keyed_more plan fit journal entry one is = record {
  tabled = tabled_more plan journal entry one.run is.tabled;
  waits = waits_more (KeyedAt plan) plan journal entry is.tabled.all is.waits one.run (λ request asks gives. called_keyed plan journal entry is.tabled is.waits is.tool_phase is.sized one.well_formed one.run fit entry.actor request gives);
  tool_phase = tool_phase_keyed plan journal entry is.tabled is.waits is.tool_phase is.sized one.well_formed one.run fit;
  sized = operator_sized plan journal entry is.tabled is.waits is.tool_phase is.sized one.well_formed one.run fit;
}

pub keyed_begins : (plan : PlanData) → IsFitting plan → TableExists plan → IsKeyedAll plan []
unfolding moment
keyed_begins plan fit stands = record { tabled = tabled_begins plan fit stands; waits = waits_begin (KeyedAt plan) plan; tool_phase = tt; sized = fit.chunk }

pub keyed_runs : (plan : PlanData) (before journal : List Entry) → Along (IsRun plan) before journal → Along (λ some entry. IsWellFormedDatabase (state_at plan some).tables) before journal → Along (IsKeyedRun plan) before journal
keyed_runs plan before [] runs well_formed = tt
keyed_runs plan before (entry ∷ journal) runs well_formed = (record { run = runs.0; well_formed = well_formed.0 }, keyed_runs plan (before ++ entry ∷ []) journal runs.1 well_formed.1)

pub all_keyed : (plan : PlanData) (journal : List Entry) → IsFitting plan → TableExists plan → StaysWellFormed plan journal → IsFaithful plan journal → Follows plan journal → IsKeyedAll plan journal
unfolding Follows
all_keyed plan journal fit stands well_formed faithful follows =
    Along-keeps (IsKeyedRun plan) (IsKeyedAll plan) (keyed_more plan fit) [] journal (keyed_runs plan [] journal (all_runs plan [] journal faithful follows) well_formed) (keyed_begins plan fit stands)
