-- What a new tool's copier is answered: where a chunk ends and its keys are the migrated table's, a row is copied unless a column refuses a
-- value, and a commit is done.
use Rattle.std.proofs.Common.{◌≡◌, ℕ, Bool, true, false, List, [], ◌∷◌, ◌++◌, length, cond, Option, Some, None, refl, sym, ap, ◌∙◌, subst, append_assoc, append-nil}
use Rattle.std.specs.Prelude.{drop, is_some, not}
use Rattle.std.proofs.lemmas.Bool.{false≢true}
use Rattle.std.proofs.Math.Seq.{drop-append_seam}
use Rattle.base_values.specs.ToolNames.{ghost_name}
use Rattle.base_values.specs.Laws.{StoresAgain}
use Rattle.base_values.specs.declared.row_conversion.map.MapColumn.{MapColumn}
use Rattle.base_values.specs.declared.span.Bound.{Bound}
use Rattle.base_values.specs.declared.span.Bound.TheVariants.{Closed}
use Rattle.base_values.specs.declared.span.Span.{Span}
use Rattle.base_values.specs.declared.value.Value.{Value}
use Rattle.base_values.proofs.StoredValues.{keeps}
use Rattle.base_script.specs.declared.actor.Actor.TheVariants.{Copy}
use Rattle.table_store.specs.Databases.{Database, TableRows, find_table}
use Rattle.server_model.specs.Along.{Along}
use Rattle.server_model.specs.Chunks.{chunk_end, span_keys}
use Rattle.server_model.specs.EarlierAnswers.{end_in}
use Rattle.server_model.specs.Effects.{is_outside}
use Rattle.server_model.specs.Entries.{answer_at, is_client, is_command, is_cut}
use Rattle.server_model.specs.PlainServer.{did, done}
use Rattle.server_model.specs.States.{State, session_of, view}
use Rattle.server_model.specs.declared.answer.Answer.{Answer}
use Rattle.server_model.specs.declared.answer.Answer.TheVariants as answers
use Rattle.server_model.specs.declared.entry.Asked.TheVariants.{Call}
use Rattle.server_model.specs.declared.entry.Entry.{Entry}
use Rattle.server_model.specs.declared.request.Request.{Request}
use Rattle.server_model.specs.declared.request.Request.TheVariants as requests
use Rattle.plan_data.specs.PlanData.{PlanData, new_map}
use Rattle.tool_program.specs.ChunkCopier.Copiers.{low_end}
use Rattle.tool_program.specs.ChunkCopier.Copiers as copiers
use Rattle.tool_program.specs.JournalWords.Journals.{opens, state_at, IsAnswered}
use Rattle.tool_program.specs.JournalWords.Sessions.{live_session, IsSeated}
use Rattle.tool_program.specs.declared.chunk_copier.copier.Copier.{Copier}
use Rattle.tool_program.specs.declared.chunk_copier.copier.CopyRange.{CopyRange}
use Rattle.tool_program.specs.declared.chunk_copier.copier.CopyStep.{CopyStep}
use Rattle.tool_program.specs.declared.chunk_copier.copier.CopyStep.TheVariants.{Choosing, Spanning, Copying, Committing}
use Rattle.tool_program.specs.declared.event_applier.applier.Applier.{Applier}
use Rattle.tool_finish.specs.declared.stage.Stage.{Stage}
use Rattle.tool_finish.specs.declared.stage.Stage.TheVariants as stages
use Rattle.tool_finish.specs.Finishes.{first_live, losing, next, stage_behind, took, IsFinishTurn}
use Rattle.tool_finish.specs.Finishes as finishes
use Rattle.tool_finish.proofs.Walking.{stage_more}
use Rattle.proof_journals.specs.Machine.MigrationTables.{TablesExist}
use Rattle.proof_journals.specs.Machine.Runnable.{IsRunnable}
use Rattle.proof_journals.specs.Machine.Standings.{is_called, standing_of, IsAbout}
use Rattle.proof_journals.specs.Scenes.{Stored}
use Rattle.proof_journals.proofs.Journals.{stored_opened}
use Rattle.proof_journals.proofs.Machine.Seated.{IsKnown}
use Rattle.proof_migration.proofs.Attempt.Stages.{FreeTables}
use Rattle.proof_migration.proofs.ToolPhase.CopyAnswers.{not_outside, own_copy, CopyFits}
use Rattle.proof_resume.specs.Finish.Chunks.{CopiersGoOn, LetsCopyGoOn, StepGoesOn}
use Rattle.proof_resume.specs.Finish.Prompt.{came_at_once}
use Rattle.proof_resume.proofs.Finish.Holders.{opened_held, IsHeldBy}
use Rattle.proof_resume.proofs.Finish.Machines.{losing_knows, took_knows, IsApplierOf, IsCopierOf, KnowsAt}
use Rattle.proof_resume.proofs.Finish.Owners.{Owners}
use Rattle.proof_resume.proofs.Finish.Prompt.{alone_more, answer_is, finish_turns, its_actor, its_request, own_held, StandsAlone}
use Rattle.proof_resume.proofs.Finish.Verdicts.{guard_begins, guards_more, idle_in, migrating_of, none_locked, GuardAt, Guards, IsIdle}

-- WHAT IS DONE

done_end : (name : List ℕ) (low : Bound) (top : List Value) (size : ℕ) (table : TableRows) (state : State) (number : ℕ) → is_outside (session_of number state.sessions) (requests.ChunkEnd name low top size) ≡ false → find_table name state.tables ≡ Some table
    → (done state number (requests.ChunkEnd name low top size)).answer ≡ answers.End (chunk_end low top size table)
unfolding did
done_end name low top size table state number inside found = rw inside (rw found refl)

done_span : (name : List ℕ) (span : Span) (size : ℕ) (table : TableRows) (state : State) (number : ℕ) → is_outside (session_of number state.sessions) (requests.BeginSpan name span size) ≡ false → find_table name state.tables ≡ Some table
    → (done state number (requests.BeginSpan name span size)).answer ≡ span_keys span size table
unfolding did
done_span name span size table state number inside found = rw inside (rw found refl)

done_commit : (state : State) (number : ℕ) → is_outside (session_of number state.sessions) requests.Commit ≡ false → (done state number requests.Commit).answer ≡ answers.Ok 0
unfolding did
done_commit state number inside = rw inside refl

-- a chunk's keys are the table's
keys_said : (journal : List Entry) (table : TableRows) (copier : Copier) (range : CopyRange) (reported size : ℕ) → StepGoesOn journal table copier range (Spanning reported size) (span_keys (record { low = low_end journal range copier.following; high = Closed (end_in (answer_at journal reported)) }) size table)
unfolding span_keys
keys_said journal table copier range reported size = refl

again : StoresAgain
again value kind nullable stored stores = (keeps value kind nullable stored stores).again

-- ONE TURN

module _ (plan : PlanData) (runs : IsRunnable plan) (journal : List Entry) (entry : Entry) (in_own : IsSeated journal entry) (unlost : entry.side ≡ None) (answered : IsAnswered (state_at plan journal) entry) (owners : Owners plan journal) (known : IsKnown plan journal)
    (at_once : is_cut entry.asked ≡ false → came_at_once entry.answer ≡ true) (copier : Copier) (of_plan : IsCopierOf plan copier) (held : IsHeldBy (live_session journal Copy) (state_at plan journal)) (exist : TablesExist plan (state_at plan journal).tables) (table : TableRows)
    (there : find_table plan.table (state_at plan journal).tables ≡ Some table) where
  abbrev now : State
  now = state_at plan journal

  abbrev open_now : State
  open_now = opens entry now

  abbrev n : ℕ
  n = entry.session

  open_there : find_table plan.table open_now.tables ≡ Some table
  open_there = ap (λ (s : Stored). find_table plan.table s.tables) (stored_opened (is_command entry.asked) (not (is_client entry.actor)) n now) ∙ there

  module _ (request : Request) (given : finishes.calls Copy request ≡ Some (entry.actor, entry.asked)) where
    called : entry.asked ≡ Call request
    called = its_request entry Copy request given

    own : IsHeldBy (Some n) now
    own = own_held plan journal entry in_own.session unlost answered owners request called (live_session journal Copy) (ap (live_session journal) (sym (its_actor entry Copy request given))) held

    answer_so : entry.answer ≡ (done open_now n request).answer
    answer_so = answer_is plan journal entry in_own.session unlost answered owners request called own

    inside : is_outside (session_of n open_now.sessions) request ≡ false
    inside = not_outside (session_of n open_now.sessions) request (none_locked (Some n) n open_now.sessions (opened_held (Some n) (is_command entry.asked) (not (is_client entry.actor)) n now own).sessions)

    idle : IsIdle (standing_of plan journal entry.actor)
    idle = idle_in (Some n) (live_session journal entry.actor) now own

    about_call : IsAbout request (standing_of plan journal entry.actor) entry.asked
    about_call = is_called called idle.idle

    once : came_at_once entry.answer ≡ true
    once = at_once (ap is_cut called)

  -- a row's copy
  row_copied : (seen : Database) (from : List ℕ) (map : List MapColumn) (key : List Value) (range : CopyRange) (chunk : _) (copied : ℕ) (answer : Answer) → came_at_once answer ≡ true → CopyFits seen from map key answer → StepGoesOn journal table copier range (Copying chunk copied) answer
  row_copied seen from map key range chunk copied (answers.Refused number None) prompt fits = fits
  row_copied seen from map key range chunk copied (answers.Refused number (Some place)) prompt fits = tt
  row_copied seen from map key range chunk copied (answers.Ok count) prompt fits = tt
  row_copied seen from map key range chunk copied (answers.Waits by) prompt fits = absurd (false≢true prompt)
  row_copied seen from map key range chunk copied (answers.TimedOut waited) prompt fits = absurd (false≢true prompt)
  row_copied seen from map key range chunk copied answers.Lost prompt fits = absurd (false≢true prompt)
  row_copied seen from map key range chunk copied answer prompt fits = absurd fits

  copies_row : (range : CopyRange) (chunk : _) (copied : ℕ) (key : List Value) → finishes.calls Copy (requests.CopyRow plan.table (ghost_name plan.table) (new_map plan) key) ≡ Some (entry.actor, entry.asked) → StepGoesOn journal table copier range (Copying chunk copied) entry.answer
  copies_row range chunk copied key given =
      row_copied (view n open_now) plan.table (new_map plan) key range chunk copied entry.answer (once _ given)
      (own_copy again plan runs.mapped journal entry known (record { answered = answered; seated = in_own }) key (about_call _ given) (idle _ given).unlocked exist)

  -- the chunk's end, its keys, and its commit
  step_goes : (range : CopyRange) (step : CopyStep) → finishes.copies (copiers.call_at journal copier range step) ≡ Some (entry.actor, entry.asked) → StepGoesOn journal table copier range step entry.answer
  step_goes range Choosing given = subst (StepGoesOn journal table copier range Choosing) (sym (answer_so _ named ∙ done_end plan.table (low_end journal range copier.following) range.top copier.size table open_now n (inside _ named) open_there)) refl where
    named : finishes.calls Copy (requests.ChunkEnd plan.table (low_end journal range copier.following) range.top copier.size) ≡ Some (entry.actor, entry.asked)
    named = subst (λ (t : List ℕ). finishes.calls Copy (requests.ChunkEnd t (low_end journal range copier.following) range.top copier.size) ≡ Some (entry.actor, entry.asked)) of_plan.table given
  step_goes range (Spanning reported size) given = subst (StepGoesOn journal table copier range (Spanning reported size)) (sym (answer_so _ named ∙ done_span plan.table span size table open_now n (inside _ named) open_there)) (keys_said journal table copier range reported size) where
    span : Span
    span = record { low = low_end journal range copier.following; high = Closed (end_in (answer_at journal reported)) }

    named : finishes.calls Copy (requests.BeginSpan plan.table span size) ≡ Some (entry.actor, entry.asked)
    named = subst (λ (t : List ℕ). finishes.calls Copy (requests.BeginSpan t span size) ≡ Some (entry.actor, entry.asked)) of_plan.table given
  step_goes range (Copying chunk copied) given = by (copiers.key_at journal (Copying chunk copied)) given where
    by : (key : Option (List Value)) → finishes.copies (copiers.copies copier key) ≡ Some (entry.actor, entry.asked) → StepGoesOn journal table copier range (Copying chunk copied) entry.answer
    by None given = absurd (cc)
    by (Some key) given =
        copies_row range chunk copied key
        (subst (λ (m : List MapColumn). finishes.calls Copy (requests.CopyRow plan.table (ghost_name plan.table) m key) ≡ Some (entry.actor, entry.asked)) of_plan.map
        (subst (λ (t : List ℕ). finishes.calls Copy (requests.CopyRow t (ghost_name t) copier.map key) ≡ Some (entry.actor, entry.asked)) of_plan.table given))
  step_goes range (Committing chunk) given = subst (StepGoesOn journal table copier range (Committing chunk)) (sym (answer_so _ given ∙ done_commit open_now n (inside _ given))) tt

  goes_on : finishes.copies (copiers.next journal copier) ≡ Some (entry.actor, entry.asked) → LetsCopyGoOn journal table copier copier.range entry.answer
  unfolding copiers.next
  goes_on given = by copier.is_copied given where
    in_range : (range : Option CopyRange) → finishes.copies (copiers.call_in journal copier range) ≡ Some (entry.actor, entry.asked) → LetsCopyGoOn journal table copier range entry.answer
    in_range None given = absurd (cc)
    in_range (Some range) given = step_goes range copier.step given

    by : (b : Bool) → finishes.copies (cond b None (copiers.call_in journal copier copier.range)) ≡ Some (entry.actor, entry.asked) → LetsCopyGoOn journal table copier copier.range entry.answer
    by true given = absurd (cc)
    by false given = in_range copier.range given

-- ALONG THE TURNS

abbrev Goes : PlanData → List Entry → List Entry → Entry → Type 0
Goes plan run before entry = (copier : Copier) (applier : Applier) (table : TableRows) → stage_behind plan run (drop (length run) before) ≡ stages.Copying copier applier → find_table plan.table (state_at plan before).tables ≡ Some table → LetsCopyGoOn before table copier copier.range entry.answer

abbrev Turn : PlanData → List Entry → List Entry → Entry → Type 0
Turn plan run before entry = IsFinishTurn plan run before entry × IsAnswered (state_at plan before) entry

-- the copier is the plan's
abbrev Knows : PlanData → Stage → Type 0
Knows = KnowsAt (Unit {0})

knows_more : (plan : PlanData) (journal : List Entry) (state : State) (answer : Answer) (stage : Stage) → Knows plan stage → Knows plan (took plan journal state answer stage)
unfolding took
knows_more plan journal state answer stages.Losing is = losing_knows (Unit {0}) (Unit {0}) plan journal state answer (is_some (first_live plan journal)) tt
knows_more plan journal state answer stage is = took_knows (Unit {0}) (Unit {0}) plan journal state answer stage refl is

copier_given : (plan : PlanData) (journal : List Entry) (copier : Copier) (applier : Applier) (entry : Entry) → next plan journal (stages.Copying copier applier) ≡ Some (entry.actor, entry.asked) → finishes.copies (copiers.next journal copier) ≡ Some (entry.actor, entry.asked)
unfolding next
copier_given plan journal copier applier entry is = is

turn_goes : (plan : PlanData) (runs : IsRunnable plan) (run turns : List Entry) (entry : Entry) → Turn plan run (run ++ turns) entry → Guards plan run turns → Knows plan (stage_behind plan run turns) → Goes plan run (run ++ turns) entry
turn_goes plan runs run turns entry turn guards knows copier applier table same there =
    let journal : List Entry = run ++ turns in
    let alone = guards.marked.alone in
    let seam : drop (length run) journal ≡ turns = drop-append_seam run turns in
    let at : stage_behind plan run turns ≡ stages.Copying copier applier = ap (stage_behind plan run) (sym seam) ∙ same in
    let given : next plan journal (stages.Copying copier applier) ≡ Some (entry.actor, entry.asked) = ap (next plan journal) (sym same) ∙ turn.0.given in
    let guard : FreeTables plan (state_at plan journal).tables = subst (GuardAt plan journal) at guards.guard in
    let machines : IsCopierOf plan copier × IsApplierOf plan applier = subst (Knows plan) at knows in
    let held : IsHeldBy (live_session journal Copy) (state_at plan journal) = subst (StandsAlone journal (state_at plan journal)) at alone.stands in
    goes_on plan runs journal entry (record { session = turn.0.session }) turn.0.side turn.1 alone.owners guards.marked.known (alone_more plan run turns entry turn.0 turn.1 alone).at_once copier machines.0 held guard.stand table there
    (copier_given plan journal copier applier entry given)

all_go : (plan : PlanData) (runs : IsRunnable plan) (run turns rest : List Entry) → Along (Turn plan run) (run ++ turns) rest → Guards plan run turns → Knows plan (stage_behind plan run turns) → Along (Goes plan run) (run ++ turns) rest
all_go plan runs run turns [] kept guards knows = tt
all_go plan runs run turns (entry ∷ rest) kept guards knows =
    let more : List Entry = (run ++ turns) ++ entry ∷ [] in
    let later : Along (Goes plan run) (run ++ (turns ++ entry ∷ [])) rest =
    all_go plan runs run (turns ++ entry ∷ []) rest (subst (λ (j : List Entry). Along (Turn plan run) j rest) (append_assoc run turns (entry ∷ [])) kept.1) (guards_more plan run turns entry kept.0 guards)
    (subst (Knows plan) (sym (stage_more plan run turns entry)) (knows_more plan more (state_at plan more) entry.answer (stage_behind plan run turns) knows)) in
    (turn_goes plan runs run turns entry kept.0 guards knows, subst (λ (j : List Entry). Along (Goes plan run) j rest) (sym (append_assoc run turns (entry ∷ []))) later)

-- *The server lets a new tool's copier go on*
pub copiers_go_on : CopiersGoOn
unfolding stage_behind
copiers_go_on plan run turns runs serial kept has finish faithful =
    subst (λ (j : List Entry). Along (Goes plan run) j turns) (append-nil run)
    (all_go plan runs run [] turns (subst (λ (all : List Entry). Along (Turn plan run) all turns) (sym (append-nil run)) (finish_turns plan run turns finish faithful)) (guard_begins plan run runs serial kept (migrating_of plan run has)) (by (is_some (first_live plan run)))) where
      by : (live : Bool) → Knows plan (cond live stages.Losing stages.Listing)
      by true = tt
      by false = tt
