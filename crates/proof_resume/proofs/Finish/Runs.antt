-- A finished run is a run of its plan: the new tool keeps away from the clients' tables.
use Rattle.std.proofs.Common.{◌≡◌, ℕ, ◌==◌, Bool, true, false, List, [], ◌∷◌, ◌++◌, cond, Option, Some, None, refl, sym, ap, ◌∙◌, subst, inr, append_assoc, append-nil}
use Rattle.std.specs.Prelude.{drop, is_some, length}
use Rattle.std.specs.List.{list_any}
use Rattle.std.proofs.lemmas.Bool.{true≢false}
use Rattle.std.proofs.Math.Seq.{drop-append_seam}
use Rattle.base_values.specs.ToolNames.{ghost_name, is_tool_name, log_name, old_name}
use Rattle.base_values.specs.declared.gho_schema.schema.Schema.{Schema}
use Rattle.base_script.specs.declared.actor.Actor.{Actor}
use Rattle.base_script.specs.declared.actor.Actor.TheVariants.{Op, Insp, Copy, Apply, Lock, Ren, Client}
use Rattle.server_model.specs.Along.{Along, Along-append, Along-both}
use Rattle.server_model.specs.Answers.{ok}
use Rattle.server_model.specs.declared.entry.Asked.{Asked}
use Rattle.server_model.specs.declared.entry.Asked.TheVariants.{Call, Poll, Command, Cut}
use Rattle.server_model.specs.declared.entry.Entry.{Entry}
use Rattle.server_model.specs.declared.request.Request.{Request}
use Rattle.server_model.specs.declared.request.Request.TheVariants as requests
use Rattle.server_model.specs.declared.session.Waiting.{Waiting}
use Rattle.server_model.specs.Entries.{is_cut}
use Rattle.server_model.specs.Operations.{table_of}
use Rattle.server_model.specs.States.{State, is_in_transaction, session_of}
use Rattle.plan_data.specs.PlanData.{PlanData}
use Rattle.tool_program.specs.CutoverCore.Attempts.{exchange}
use Rattle.tool_program.specs.JournalWords.Histories.{about, answer_in, asked_about, request_waiting}
use Rattle.tool_program.specs.JournalWords.Journals.{state_at, IsAnswered}
use Rattle.tool_program.specs.JournalWords.KeptPlans.{TakesNext}
use Rattle.tool_program.specs.Programs.{IsGiven}
use Rattle.tool_program.specs.declared.chunk_copier.copier.Copier.{Copier}
use Rattle.tool_program.specs.declared.chunk_copier.copier.CopyRange.{CopyRange}
use Rattle.tool_program.specs.declared.chunk_copier.copier.CopyStep.{CopyStep}
use Rattle.tool_program.specs.declared.chunk_copier.copier.CopyStep.TheVariants as chunks
use Rattle.tool_program.specs.ChunkCopier.Copiers as copiers
use Rattle.tool_program.specs.declared.event_applier.applier.Applier.{Applier}
use Rattle.tool_program.specs.declared.event_applier.applier.ApplyStep.{ApplyStep}
use Rattle.tool_program.specs.declared.event_applier.applier.ApplyStep.TheVariants as batches
use Rattle.tool_program.specs.EventApplier.Appliers.{Doing, Putting, Removing, Changing}
use Rattle.tool_program.specs.EventApplier.Appliers as appliers
use Rattle.tool_finish.specs.declared.stage.Stage.{Stage}
use Rattle.tool_finish.specs.declared.stage.Stage.TheVariants.{Losing, Listing, Reading, Clearing, ReadingCounter, SettingCounter, Ranging, Copying, Applying, Exchanging, DroppingLog, DroppingOld, RollingBack, Done, Reverted}
use Rattle.tool_finish.specs.declared.stage.UnfitRow.{UnfitRow}
use Rattle.tool_finish.specs.declared.stage.UnfitRow.TheVariants.{Copied, Applied}
use Rattle.tool_finish.specs.Finishes.{first_live, losing, next, rolls_back, stage_behind, took, IsFinishTurn}
use Rattle.tool_finish.specs.Finishes as finishes
use Rattle.tool_finish.proofs.Walking.{stage_more}
use Rattle.proof_journals.specs.Machine.Runnable.{IsRunnable}
use Rattle.proof_journals.specs.Plans.{AsksAway, AsksIdle, IsAway, IsSerialPlan, KeepsAway, TakesLines, scene_of}
use Rattle.proof_journals.specs.Run.Kept.{IsKept}
use Rattle.proof_journals.specs.Turns.{AtRest, RenamesSo, ToolAsks}
use Rattle.proof_journals.proofs.Machine.Journals.{IsRun}
use Rattle.proof_journals.proofs.PlanJournals.{journals_are_serial}
use Rattle.proof_migration.proofs.ToolPhase.Marked.{old_is_tool}
use Rattle.proof_migration.proofs.ToolPhase.Unaltered.Asking.{exchange_takes}
use Rattle.proof_migration.proofs.ToolPhase.Unaltered.Away.{IsKnownAsked, all_asked, asked_more, ghost_is_tool, keeps_away_so, log_is_tool, tool_not_mine}
use Rattle.proof_resume.specs.Finish.Runs.{FinishesAreRuns, FinishesAreSerial}
use Rattle.proof_resume.proofs.Finish.Holders.{rests_free, IsHeldBy}
use Rattle.proof_resume.proofs.Finish.Machines.{is_losing, losing_knows, took_knows, IsApplierOf, IsCopierOf, KnowsAt}
use Rattle.proof_resume.proofs.Finish.Marks.{finishes_alter_once}
use Rattle.proof_resume.proofs.Finish.Prompt.{alone_begins, alone_more, finish_turns, finishes_keep_sessions, its_actor, its_request, lost_cut, GoesAlone, StandsAlone}

-- an actor of the tool's program that calls
abbrev calls_server : Actor → Bool
calls_server Op = false
calls_server (Client c) = false
calls_server actor = true

-- what is asked of a turn
pub record IsAwayTurn (plan : PlanData) (journal : List Entry) (entry : Entry) : Type 0 where
  pub away : KeepsAway plan journal entry entry.actor
  pub next : TakesNext plan journal entry.actor entry.asked

module _ (plan : PlanData) (serial : IsSerialPlan plan) (journal : List Entry) (entry : Entry) where
  abbrev now : State
  now = state_at plan journal

  abbrev busy : Bool
  busy = is_in_transaction (session_of entry.session now.sessions)

  -- a call of the tool's that keeps away
  record Keeping (request : Request) : Type 0 where
    asks : ToolAsks (scene_of plan []) request
    rests : AtRest busy (Some request)
    renames : RenamesSo (scene_of plan []) now.tables (Some request)

  call_away : (request : Request) → entry.asked ≡ Call request → now.waiting ≡ [] → Keeping request → IsAway plan journal entry
  call_away request called idle keeping =
      let about_is : about journal entry ≡ Some request = ap (λ (asked : Asked). asked_about asked (request_waiting journal entry.actor)) called in
      record {
        asks = subst (AsksAway plan) (sym called) keeping.asks;
        idle = subst (AsksIdle now entry.session) (sym called) (ap (list_any (λ (one : Waiting). one.session == entry.session)) idle);
        rests = subst (AtRest busy) (sym about_is) keeping.rests;
        exchanges = λ done. subst (RenamesSo (scene_of plan []) now.tables) (sym about_is) keeping.renames;
      }

  call_turn : (actor : Actor) (request : Request) → calls_server actor ≡ true → entry.actor ≡ actor → entry.asked ≡ Call request → IsAway plan journal entry → IsAwayTurn plan journal entry
  call_turn Op request server same called away = absurd (true≢false (sym server))
  call_turn (Client c) request server same called away = absurd (true≢false (sym server))
  call_turn Insp request server same called away = record { away = subst (KeepsAway plan journal entry) (sym same) away; next = subst (λ (a : Actor). TakesNext plan journal a entry.asked) (sym same) (subst (TakesNext plan journal Insp) (sym called) refl) }
  call_turn Copy request server same called away = record { away = subst (KeepsAway plan journal entry) (sym same) away; next = subst (λ (a : Actor). TakesNext plan journal a entry.asked) (sym same) (subst (TakesNext plan journal Copy) (sym called) refl) }
  call_turn Apply request server same called away = record { away = subst (KeepsAway plan journal entry) (sym same) away; next = subst (λ (a : Actor). TakesNext plan journal a entry.asked) (sym same) (subst (TakesNext plan journal Apply) (sym called) refl) }
  call_turn Lock request server same called away = record { away = subst (KeepsAway plan journal entry) (sym same) away; next = subst (λ (a : Actor). TakesNext plan journal a entry.asked) (sym same) (subst (TakesNext plan journal Lock) (sym called) refl) }
  call_turn Ren request server same called away = record { away = subst (KeepsAway plan journal entry) (sym same) away; next = subst (λ (a : Actor). TakesNext plan journal a entry.asked) (sym same) (subst (TakesNext plan journal Ren) (sym called) refl) }

  of_call : (actor : Actor) (request : Request) → calls_server actor ≡ true → finishes.calls actor request ≡ Some (entry.actor, entry.asked) → now.waiting ≡ [] → Keeping request → IsAwayTurn plan journal entry
  of_call actor request server is idle keeping =
      let same : entry.actor ≡ actor = its_actor entry actor request is in
      let called : entry.asked ≡ Call request = its_request entry actor request is in call_turn actor request server same called (call_away request called idle keeping)

  -- WHAT IS CALLED

  drops : (name : List ℕ) → is_tool_name plan.table name ≡ true → IsHeldBy None now → Keeping (requests.Drop name)
  drops name tool held = record { asks = tool_not_mine plan name serial tool; rests = rests_free None entry.session now.sessions refl held.sessions; renames = tt }

  exchanges : RenamesSo (scene_of plan []) now.tables (Some (exchange plan.table)) → IsHeldBy None now → Keeping (exchange plan.table)
  exchanges so held = record { asks = inr (refl, exchange_takes plan.table _ refl); rests = rests_free None entry.session now.sessions refl held.sessions; renames = so }

  copies_row : (copier : Copier) → IsCopierOf plan copier → (key : List _) → Keeping (requests.CopyRow copier.table (ghost_name copier.table) copier.map key)
  copies_row copier is key = record { asks = tool_not_mine plan (ghost_name copier.table) serial (ap (λ (t : List ℕ). is_tool_name plan.table (ghost_name t)) is.table ∙ ghost_is_tool plan.table); rests = tt; renames = tt }

  copier_away : (copier : Copier) → IsCopierOf plan copier → finishes.copies (copiers.next journal copier) ≡ Some (entry.actor, entry.asked) → now.waiting ≡ [] → IsAwayTurn plan journal entry
  unfolding copiers.next
  copier_away copier of_plan is idle = by copier.is_copied is where
    row : (key : Option _) → finishes.copies (copiers.copies copier key) ≡ Some (entry.actor, entry.asked) → IsAwayTurn plan journal entry
    row None is = absurd (cc)
    row (Some key) is = of_call Copy _ refl is idle (copies_row copier of_plan key)

    at : (range : CopyRange) (step : CopyStep) → finishes.copies (copiers.call_at journal copier range step) ≡ Some (entry.actor, entry.asked) → IsAwayTurn plan journal entry
    at range chunks.Choosing is = of_call Copy _ refl is idle (record { asks = tt; rests = tt; renames = tt })
    at range (chunks.Spanning reported size) is = of_call Copy _ refl is idle (record { asks = tt; rests = tt; renames = tt })
    at range (chunks.Copying chunk copied) is = row (copiers.key_at journal (chunks.Copying chunk copied)) is
    at range (chunks.Committing chunk) is = of_call Copy _ refl is idle (record { asks = tt; rests = tt; renames = tt })

    in_range : (range : Option CopyRange) → finishes.copies (copiers.call_in journal copier range) ≡ Some (entry.actor, entry.asked) → IsAwayTurn plan journal entry
    in_range None is = absurd (cc)
    in_range (Some range) is = at range copier.step is

    by : (b : Bool) → finishes.copies (cond b None (copiers.call_in journal copier copier.range)) ≡ Some (entry.actor, entry.asked) → IsAwayTurn plan journal entry
    by true is = absurd (cc)
    by false is = in_range copier.range is

  -- the applier's statements are of the new table
  statement_table : (applier : Applier) (doing : Doing) → table_of (appliers.statement_of applier doing) ≡ applier.new_schema.name
  statement_table applier (Putting row) = refl
  statement_table applier (Removing row) = refl
  statement_table applier (Changing before after) = refl

  applier_away : (applier : Applier) → IsApplierOf plan applier → finishes.calls Apply (appliers.next journal applier) ≡ Some (entry.actor, entry.asked) → now.waiting ≡ [] → IsAwayTurn plan journal entry
  unfolding appliers.next
  applier_away applier of_plan is idle = of_call Apply (appliers.call_at journal applier applier.step) refl is idle (at applier.step) where
    name_is : (doing : Doing) → table_of (appliers.statement_of applier doing) ≡ ghost_name plan.table
    name_is doing = statement_table applier doing ∙ ap (λ (s : Schema). s.name) of_plan.schema

    statement : (doing : Option Doing) → Keeping (appliers.statement_result applier doing)
    statement None = record { asks = tt; rests = tt; renames = tt }
    statement (Some doing) = record { asks = tool_not_mine plan (table_of (appliers.statement_of applier doing)) serial (ap (is_tool_name plan.table) (name_is doing) ∙ ghost_is_tool plan.table); rests = tt; renames = tt }

    at : (step : ApplyStep) → Keeping (appliers.call_at journal applier step)
    at batches.Reading = record { asks = tt; rests = tt; renames = tt }
    at (batches.Beginning batch) = record { asks = tt; rests = tt; renames = tt }
    at (batches.Applying batch done part) = statement (appliers.doing_at journal applier (batches.Applying batch done part))
    at (batches.Committing batch) = record { asks = tt; rests = tt; renames = tt }

  back_away : (row : UnfitRow) → finishes.calls (rolls_back row) requests.Rollback ≡ Some (entry.actor, entry.asked) → now.waiting ≡ [] → IsAwayTurn plan journal entry
  back_away (Copied copier refusal) is idle = of_call Copy requests.Rollback refl is idle (record { asks = tt; rests = tt; renames = tt })
  back_away (Applied applier refusal) is idle = of_call Apply requests.Rollback refl is idle (record { asks = tt; rests = tt; renames = tt })

-- A SESSION IS LOST

module _ (plan : PlanData) (runs : IsRunnable plan) (serial : IsSerialPlan plan) (journal : List Entry) (entry : Entry) (run : IsRun plan journal entry) (cut : is_cut entry.asked ≡ true) (known : IsKnownAsked plan journal) where
  nothing_done : (asked : Asked) → is_cut asked ≡ true → answer_in asked entry.side entry.answer entry.missed ≡ Some ok → ⊥
  nothing_done Cut cut done = cc
  nothing_done (Call request) cut done = true≢false (sym cut)
  nothing_done Poll cut done = true≢false (sym cut)
  nothing_done (Command word) cut done = true≢false (sym cut)

  cut_next : (asked : Asked) → is_cut asked ≡ true → TakesNext plan journal entry.actor asked
  cut_next Cut cut = tt
  cut_next (Call request) cut = absurd (true≢false (sym cut))
  cut_next Poll cut = absurd (true≢false (sym cut))
  cut_next (Command word) cut = absurd (true≢false (sym cut))

  cut_away : IsAwayTurn plan journal entry
  cut_away = record {
    away = keeps_away_so plan serial journal entry runs.fitting known run (λ tool done. absurd (nothing_done entry.asked cut done));
    next = cut_next entry.asked cut;
  }

cut_given : (plan : PlanData) (journal : List Entry) (entry : Entry) (asked : Asked) → is_cut asked ≡ true → IsGiven plan journal entry asked
cut_given plan journal entry Cut cut = tt
cut_given plan journal entry (Call request) cut = absurd (true≢false (sym cut))
cut_given plan journal entry Poll cut = absurd (true≢false (sym cut))
cut_given plan journal entry (Command word) cut = absurd (true≢false (sym cut))

-- EACH STAGE

abbrev pub Knows : PlanData → List Entry → Stage → Type 0
Knows plan journal stage = KnowsAt (IsKnownAsked plan journal) plan stage

-- *The new tool keeps away* so far
pub record GoesAway (plan : PlanData) (run turns : List Entry) : Type 0 where
  pub alone : GoesAlone plan run turns
  pub knows : Knows plan (run ++ turns) (stage_behind plan run turns)

pub record OneMore (plan : PlanData) (run turns : List Entry) (entry : Entry) : Type 0 where
  pub turn : IsAwayTurn plan (run ++ turns) entry
  pub goes : GoesAway plan run (turns ++ entry ∷ [])

module _ (plan : PlanData) (runs : IsRunnable plan) (serial : IsSerialPlan plan) (run turns : List Entry) (entry : Entry) (turn : IsFinishTurn plan run (run ++ turns) entry) (answered : IsAnswered (state_at plan (run ++ turns)) entry) (so : stage_behind plan run turns ≡ Exchanging → RenamesSo (scene_of plan []) (state_at plan (run ++ turns)).tables (Some (exchange plan.table))) (goes : GoesAway plan run turns) where
  abbrev journal : List Entry
  journal = run ++ turns

  abbrev more : List Entry
  more = journal ++ entry ∷ []

  abbrev stage : Stage
  stage = stage_behind plan run turns

  abbrev state : State
  state = state_at plan journal

  given : next plan journal stage ≡ Some (entry.actor, entry.asked)
  given = ap (λ (some : List Entry). next plan journal (stage_behind plan run some)) (sym (drop-append_seam run turns)) ∙ turn.given

  cut_run : is_cut entry.asked ≡ true → IsRun plan journal entry
  cut_run cut = record { answered = answered; followed = record { given = cut_given plan journal entry entry.asked cut; session = turn.session } }

  record Comes (before : Stage) : Type 0 where
    keeps : IsAwayTurn plan journal entry
    knows : Knows plan more (took plan more (state_at plan more) entry.answer before)

  goes_on : (before : Stage) → is_losing before ≡ false → IsAwayTurn plan journal entry → Knows plan journal before → Comes before
  goes_on before going away knows = record { keeps = away; knows = took_knows (IsKnownAsked plan journal) (IsKnownAsked plan more) plan more (state_at plan more) entry.answer before going knows }

  lost : (live : Option Actor) → finishes.cuts live ≡ Some (entry.actor, entry.asked) → IsKnownAsked plan journal → IsAwayTurn plan journal entry × IsKnownAsked plan more
  lost live is known =
      let cut : is_cut entry.asked ≡ true = lost_cut entry live is in
      (cut_away plan runs serial journal entry (cut_run cut) cut known, asked_more plan journal entry (cut_run cut) known)

  comes : (before : Stage) → stage ≡ before → next plan journal before ≡ Some (entry.actor, entry.asked) → StandsAlone journal state before → Knows plan journal before → Comes before
  unfolding next took
  comes Losing at is held knows =
      let both = lost (first_live plan journal) is knows in
      record { keeps = both.0; knows = losing_knows (IsKnownAsked plan journal) (IsKnownAsked plan more) plan more (state_at plan more) entry.answer (is_some (first_live plan more)) both.1 }
  comes Listing at is held knows = goes_on Listing refl (of_call plan serial journal entry Insp _ refl is held.waits (record { asks = tt; rests = tt; renames = tt })) knows
  comes (Reading seen) at is held knows =
      goes_on (Reading seen) refl (of_call plan serial journal entry Insp _ refl is held.waits (record { asks = tool_not_mine plan (log_name plan.table) serial (log_is_tool plan.table); rests = tt; renames = tt })) knows
  comes (Clearing found) at is held knows = goes_on (Clearing found) refl (of_call plan serial journal entry Insp _ refl is held.waits (drops plan serial journal entry (old_name plan.table) (old_is_tool plan.table) held)) knows
  comes (ReadingCounter found) at is held knows = goes_on (ReadingCounter found) refl (of_call plan serial journal entry Insp _ refl is held.waits (record { asks = tt; rests = tt; renames = tt })) knows
  comes (SettingCounter found number) at is held knows = goes_on (SettingCounter found number) refl (of_call plan serial journal entry Insp _ refl is held.waits (record { asks = tt; rests = tt; renames = tt })) knows
  comes (Ranging found) at is held knows = goes_on (Ranging found) refl (of_call plan serial journal entry Insp _ refl is held.waits (record { asks = tt; rests = tt; renames = tt })) knows
  comes (Copying copier applier) at is held knows = goes_on (Copying copier applier) refl (copier_away plan serial journal entry copier knows.0 is held.waits) knows
  comes (Applying applier) at is held knows = goes_on (Applying applier) refl (applier_away plan serial journal entry applier knows is held.waits) knows
  comes Exchanging at is held knows = goes_on Exchanging refl (of_call plan serial journal entry Ren _ refl is held.waits (exchanges plan serial journal entry (so at) held)) knows
  comes (DroppingLog old) at is held knows = goes_on (DroppingLog old) refl (of_call plan serial journal entry Insp _ refl is held.waits (drops plan serial journal entry (log_name plan.table) (log_is_tool plan.table) held)) knows
  comes DroppingOld at is held knows = goes_on DroppingOld refl (of_call plan serial journal entry Insp _ refl is held.waits (drops plan serial journal entry (old_name plan.table) (old_is_tool plan.table) held)) knows
  comes (RollingBack row) at is held knows = goes_on (RollingBack row) refl (back_away plan serial journal entry row is held.waits) knows
  comes Done at is held knows = absurd (cc)
  comes (Reverted row) at is held knows = absurd (cc)

  pub away_more : OneMore plan run turns entry
  away_more =
      let one = comes stage refl given goes.alone.stands goes.knows in
      record {
        turn = one.keeps;
        goes = record {
          alone = (alone_more plan run turns entry turn answered goes.alone).goes;
          knows = subst (λ (j : List Entry). Knows plan j (stage_behind plan run (turns ++ entry ∷ []))) (append_assoc run turns (entry ∷ [])) (subst (Knows plan more) (sym (stage_more plan run turns entry)) one.knows);
        };
      }

-- ALONG THE TURNS

abbrev Turn : PlanData → List Entry → List Entry → Entry → Type 0
Turn plan run before entry = (IsFinishTurn plan run before entry × IsAnswered (state_at plan before) entry) × (stage_behind plan run (drop (length run) before) ≡ Exchanging → RenamesSo (scene_of plan []) (state_at plan before).tables (Some (exchange plan.table)))

all_away : (plan : PlanData) → IsRunnable plan → IsSerialPlan plan → (run turns rest : List Entry) → Along (Turn plan run) (run ++ turns) rest → GoesAway plan run turns → Along (IsAwayTurn plan) (run ++ turns) rest
all_away plan runs serial run turns [] kept goes = tt
all_away plan runs serial run turns (entry ∷ rest) kept goes =
    let so = λ (at : stage_behind plan run turns ≡ Exchanging). kept.0.1 (ap (stage_behind plan run) (drop-append_seam run turns) ∙ at) in
    let one = away_more plan runs serial run turns entry kept.0.0.0 kept.0.0.1 so goes in (
      one.turn,
      subst (λ (all : List Entry). Along (IsAwayTurn plan) all rest) (sym (append_assoc run turns (entry ∷ [])))
          (all_away plan runs serial run (turns ++ entry ∷ []) rest (subst (λ (all : List Entry). Along (Turn plan run) all rest) (append_assoc run turns (entry ∷ [])) kept.1) one.goes),
    )

pub away_begins : (plan : PlanData) (run : List Entry) → IsRunnable plan → IsKept plan run → GoesAway plan run []
unfolding stage_behind
away_begins plan run runs kept = record {
  alone = alone_begins plan run kept;
  knows = subst (λ (j : List Entry). Knows plan j (losing plan run)) (sym (append-nil run)) (by (is_some (first_live plan run)));
} where
  by : (b : Bool) → Knows plan run (cond b Losing Listing)
  by true = all_asked plan run runs kept.faithful kept.follows
  by false = tt

each_away : (plan : PlanData) (before turns : List Entry) → Along (IsAwayTurn plan) before turns → Along (λ some entry. KeepsAway plan some entry entry.actor) before turns
each_away plan before [] all = tt
each_away plan before (entry ∷ turns) all = (all.0.away, each_away plan (before ++ entry ∷ []) turns all.1)

each_next : (plan : PlanData) (before turns : List Entry) → Along (IsAwayTurn plan) before turns → Along (λ some entry. TakesNext plan some entry.actor entry.asked) before turns
each_next plan before [] all = tt
each_next plan before (entry ∷ turns) all = (all.0.next, each_next plan (before ++ entry ∷ []) turns all.1)

-- *Finished runs are runs of their plan*
pub finishes_are_runs : FinishesAreRuns
unfolding TakesLines
finishes_are_runs plan run turns runs is kept finish faithful so =
    let each : Along (Turn plan run) run turns = Along-both _ _ run turns (finish_turns plan run turns finish faithful) so in
    let away : Along (IsAwayTurn plan) run turns =
    subst (λ (all : List Entry). Along (IsAwayTurn plan) all turns) (append-nil run)
    (all_away plan runs is.serial run [] turns (subst (λ (all : List Entry). Along (Turn plan run) all turns) (sym (append-nil run)) each) (away_begins plan run runs kept)) in
    record {
      serial = is.serial;
      faithful = faithful;
      lines = Along-append (λ some entry. TakesNext plan some entry.actor entry.asked) [] run turns is.lines (each_next plan run turns away);
      seated = finishes_keep_sessions plan run turns kept.sessions finish;
      away = Along-append (λ some entry. KeepsAway plan some entry entry.actor) [] run turns is.away (each_away plan run turns away);
    }

-- ... and serial
pub finishes_are_serial : FinishesAreSerial
finishes_are_serial plan run turns runs is kept finish faithful so =
    journals_are_serial plan (run ++ turns) (finishes_are_runs plan run turns runs is kept finish faithful so) (finishes_alter_once plan run turns runs is.serial kept finish faithful)
