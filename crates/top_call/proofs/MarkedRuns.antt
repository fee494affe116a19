-- What the rebuild of a run in which the RENAME was done prints.
use Rattle.std.proofs.Common.{◌≡◌, ℕ, ◌+◌, Bool, true, false, ◌||◌, cond, List, [], ◌∷◌, ◌++◌, length, take, count_by, unwrap_or, Option, Some, None, IfSome, Result, Ok, Err, IfOk, option_map, refl, sym, ap, ◌∙◌, subst, append_assoc, append-nil, take_all, arith}
use Rattle.std.specs.List.{list_any}
use Rattle.std.specs.Result.{result_ok}
use Rattle.std.specs.Str.{bytes_eq}
use Rattle.std.proofs.lemmas.List.Elements.{filter-append}
use Rattle.std.proofs.lemmas.List.Recursion.{is_count_by}
use Rattle.std.proofs.Math.Seq.{take-append_seam}
use Rattle.base_values.specs.declared.event.RowEvent.{RowEvent}
use Rattle.base_values.specs.declared.row_conversion.map.MapColumn.{MapColumn}
use Rattle.base_values.specs.declared.value.Value.{Value}
use Rattle.base_values.proofs.SchemaRules.Steps.{some_is}
use Rattle.table_store.specs.Databases.{Database, TableRows, find_table}
use Rattle.server_model.specs.declared.entry.Entry.{Entry}
use Rattle.server_model.specs.States.{State, is_of, unread}
use Rattle.plan_data.specs.PlanData.{Altered, PlanData, altered_by, altered_in, new_map, no_schema, plan_altered}
use Rattle.plan_data.specs.declared.plan.AlteredSchema.{AlteredSchema}
use Rattle.tool_program.specs.EventApplier.Appliers.{events_of}
use Rattle.tool_program.specs.JournalWords.Histories.{history, is_alter}
use Rattle.tool_program.specs.JournalWords.Journals.{state_at}
use Rattle.proof_journals.specs.Run.Kept.{IsKept}
use Rattle.proof_migration.specs.CutOver.{IsRename}
use Rattle.proof_migration.proofs.Program.Turns.Follows.{kept_front}
use Rattle.proof_rebuild.specs.Shards.{UnfitRow, first_unfit, rows_seen}
use Rattle.run_rebuild.specs.Rebuilds.{changes_of}
use Rattle.run_replay.specs.WholeReplay.Marks.{at_mark, logged_at_mark, turns_to_mark}
use Rattle.law_rebuild.specs.Laws.{AcceptedMarksAreRebuilt, IsRebuiltOf}
use Rattle.law_rebuild.specs.Marks.{changes_logged}
use Rattle.law_rebuild.proofs.Growing as growing
use Rattle.top_endings.specs.declared.printed.Printed.{Printed}
use Rattle.top_endings.specs.declared.status.Status.TheVariants as statuses
use Rattle.proof_plans.specs.ReadPlans.Laws.{WasRead}
use Rattle.top_call.specs.Rebuilds.{FinishedMarksAreRebuilt, IsAfterMark, count_read, opening_rows, row_or_table, text_at_mark}
use Rattle.top_call.specs.ResumedRuns.{Resumes, finish_in, run_in}
use Rattle.top_call.specs.WholeReplays.SoundRuns.{IsSoundRun}
use Rattle.top_call.proofs.ResumedRuns.{all_of}
use Rattle.top_call.proofs.Splits.{Splits, splits_at}

-- THE EVENTS

count_named : (name : List ℕ) (log : List RowEvent) → count_by (is_of (name ∷ [])) log ≡ length (events_of name log)
count_named name log = sym (is_count_by (λ (all : List RowEvent). length (events_of name all)) (is_of (name ∷ [])) refl step log) where
  step : (event : RowEvent) (rest : List RowEvent) → length (events_of name (event ∷ rest)) ≡ cond (bytes_eq event.table name || false) (1 + length (events_of name rest)) (length (events_of name rest))
  step event rest = by (bytes_eq event.table name) where
    by : (b : Bool) → length (cond b (event ∷ events_of name rest) (events_of name rest)) ≡ cond (b || false) (1 + length (events_of name rest)) (length (events_of name rest))
    by true = omega arith
    by false = refl

counted_at : (name : List ℕ) (state : State) → unread state 0 (name ∷ []) ≡ length (events_of name state.log)
unfolding unread
counted_at name state = count_named name state.log

-- so many events of a log that has grown are those that it had
first_of_grown : (name : List ℕ) (log rest : List RowEvent) (count : ℕ) → count ≡ length (events_of name log) → take count (events_of name (log ++ rest)) ≡ events_of name log
first_of_grown name log rest count is =
    ap (λ (n : ℕ). take n (events_of name (log ++ rest))) is ∙ ap (take (length (events_of name log))) (filter-append (λ event. bytes_eq event.table name) log rest) ∙ take-append_seam (events_of name log) (events_of name rest)

map_found : (plan : PlanData) (table : TableRows) (new : Altered) → find_table plan.table plan.tables ≡ Some table → plan_altered plan ≡ Some new → new_map plan ≡ new.1
unfolding plan_altered new_map
map_found plan table new found is =
    let own : altered_by plan table.schema ≡ Some new = ap (altered_in plan) (sym found) ∙ is in
    ap (λ (t : Option TableRows). (unwrap_or (altered_by plan (unwrap_or (option_map (λ one. one.schema) t) no_schema)) (no_schema, [])).1) found ∙ ap (λ (o : Option Altered). (unwrap_or o (no_schema, [])).1) own

-- THE TEXT

-- what is at the mark, and the events that were read
record IsReadAtMark (plan : PlanData) (journal : List Entry) (opening : TableRows) (altered : AlteredSchema) (events : List RowEvent) : Type 0 where
  events_are : events ≡ events_of plan.table (at_mark plan journal).log
  rebuilt : IsRebuiltOf opening altered (changes_logged plan.table (at_mark plan journal).log) (find_table plan.table (at_mark plan journal).tables)

-- where a turn of the run did the RENAME
module _ (law : AcceptedMarksAreRebuilt) (plan : PlanData) (run more journal : List Entry) (whole : run ++ more ≡ journal) (kept : IsKept plan run) (was : WasRead plan) (some : list_any is_alter (history plan run) ≡ true) (count : ℕ) (counted : Some count ≡ logged_at_mark plan (plan.table ∷ []) run) (opening : TableRows) (found : find_table plan.table plan.tables ≡ Some opening) (altered : AlteredSchema)
    (alters : plan_altered plan ≡ Some (altered.schema, altered.map)) where
  parts : Splits plan [] run
  parts = splits_at plan run some

  abbrev to_mark : List Entry
  to_mark = parts.front ++ parts.entry ∷ []

  run_is : run ≡ to_mark ++ parts.following
  run_is = parts.whole ∙ sym (append_assoc parts.front (parts.entry ∷ []) parts.following)

  journal_is : journal ≡ to_mark ++ (parts.following ++ more)
  journal_is = sym whole ∙ ap (λ (all : List Entry). all ++ more) run_is ∙ append_assoc to_mark parts.following more

  -- the server at the mark
  run_mark : at_mark plan run ≡ state_at plan to_mark
  run_mark = ap (λ (all : List Entry). state_at plan (turns_to_mark plan [] all)) (sym (append-nil run)) ∙ ap (state_at plan) (parts.mark [])

  then_is : at_mark plan journal ≡ state_at plan to_mark
  then_is = ap (λ (all : List Entry). state_at plan (turns_to_mark plan [] all)) (sym whole) ∙ ap (state_at plan) (parts.mark more)

  rename : IsRename plan parts.front parts.entry
  rename = record {
    kept = kept_front plan to_mark parts.following (subst (IsKept plan) run_is kept);
    unaltered = parts.unaltered;
    alters = parts.alters;
  }

  count_is : count ≡ length (events_of plan.table (state_at plan to_mark).log)
  unfolding logged_at_mark
  count_is =
      some_is count (unread (at_mark plan run) 0 (plan.table ∷ [])) (counted ∙ ap (λ (b : Bool). cond b (Some (unread (at_mark plan run) 0 (plan.table ∷ []))) None) some)
      ∙ ap (λ (s : State). unread s 0 (plan.table ∷ [])) run_mark ∙ counted_at plan.table (state_at plan to_mark)

  grown : (rest : List RowEvent) × ((state_at plan journal).log ≡ (state_at plan to_mark).log ++ rest)
  grown = let later = growing.logs_grow plan to_mark (parts.following ++ more) in (later.0, ap (λ (j : List Entry). (state_at plan j).log) journal_is ∙ later.1)

  run_marked : (events : List RowEvent) → events ≡ take count (events_of plan.table (state_at plan journal).log) → IsReadAtMark plan journal opening altered events
  run_marked events read = record {
    events_are =
        read ∙ ap (λ (log : List RowEvent). take count (events_of plan.table log)) grown.1 ∙ first_of_grown plan.table (state_at plan to_mark).log grown.0 count count_is
        ∙ ap (λ (s : State). events_of plan.table s.log) (sym then_is);
    rebuilt = subst (λ (s : State). IsRebuiltOf opening altered (changes_logged plan.table s.log) (find_table plan.table s.tables)) (sym then_is) (law plan opening altered parts.front parts.entry was found alters rename);
  }

-- where a turn of the new tool's did
finish_marked : FinishedMarksAreRebuilt → (plan : PlanData) (journal : List Entry) (opening : TableRows) (altered : AlteredSchema) (count : ℕ) (events : List RowEvent) → WasRead plan → find_table plan.table plan.tables ≡ Some opening → plan_altered plan ≡ Some (altered.schema, altered.map) → IsSoundRun plan (run_in plan journal) → Resumes plan journal
    → list_any is_alter (history plan (run_in plan journal)) ≡ false → list_any is_alter (history plan journal) ≡ true → count ≡ unread (state_at plan journal) 0 (plan.table ∷ []) → events ≡ take count (events_of plan.table (state_at plan journal).log) → IsReadAtMark plan journal opening altered events
finish_marked law plan journal opening altered count events was found alters sound resumes none some counted read =
    let is = law plan opening altered journal was found alters sound resumes none some in
    let all : count ≡ length (events_of plan.table (state_at plan journal).log) = counted ∙ counted_at plan.table (state_at plan journal) in
    record {
      events_are = read ∙ ap (λ (n : ℕ). take n (events_of plan.table (state_at plan journal).log)) all ∙ take_all (length (events_of plan.table (state_at plan journal).log)) (events_of plan.table (state_at plan journal).log) (omega arith) ∙ is.last;
      rebuilt = is.rebuilt;
    }

unaltered_none : (plan : PlanData) (tables : List (List ℕ)) (run : List Entry) → None ≡ logged_at_mark plan tables run → list_any is_alter (history plan run) ≡ false
unfolding logged_at_mark
unaltered_none plan tables run none = by (list_any is_alter (history plan run)) none where
  by : (b : Bool) → None ≡ cond b (Some (unread (at_mark plan run) 0 tables)) None → b ≡ false
  by true none = absurd cc
  by false none = refl

altered_some : (plan : PlanData) (tables : List (List ℕ)) (run : List Entry) (logged : ℕ) → Some logged ≡ logged_at_mark plan tables run → list_any is_alter (history plan run) ≡ true
unfolding logged_at_mark
altered_some plan tables run logged some = by (list_any is_alter (history plan run)) some where
  by : (b : Bool) → Some logged ≡ cond b (Some (unread (at_mark plan run) 0 tables)) None → b ≡ true
  by true some = refl
  by false some = absurd cc

module _ (law : AcceptedMarksAreRebuilt) (finished : FinishedMarksAreRebuilt) (plan : PlanData) (journal : List Entry) (server : State) (opening : TableRows) (found : find_table plan.table plan.tables ≡ Some opening) (altered : AlteredSchema) (alters : plan_altered plan ≡ Some (altered.schema, altered.map)) (count : ℕ) (events : List RowEvent)
    (read : events ≡ take count (events_of plan.table server.log)) where
  read_at : (logged : Option ℕ) → IsAfterMark plan journal logged server → count_read plan.table logged server ≡ count → IsReadAtMark plan journal opening altered events
  read_at (Some logged) is same =
      run_marked law plan (run_in plan journal) (finish_in plan journal) journal (all_of plan journal) is.sound.kept is.was_read (altered_some plan (plan.table ∷ []) (run_in plan journal) logged is.counted) count (ap (λ (n : ℕ). Some n) (sym same) ∙ is.counted) opening found altered alters events
      (read ∙ ap (λ (s : State). take count (events_of plan.table s.log)) is.server_is)
  read_at None is same =
      finish_marked finished plan journal opening altered count events is.was_read found alters is.sound is.resumes (unaltered_none plan (plan.table ∷ []) (run_in plan journal) is.counted) is.altered (sym same ∙ ap (λ (s : State). unread s 0 (plan.table ∷ [])) is.server_is)
      (read ∙ ap (λ (s : State). take count (events_of plan.table s.log)) is.server_is)

  abbrev unfit_in : List MapColumn → List (List Value) → List RowEvent → Option UnfitRow
  unfit_in columns rows all = first_unfit columns 0 (rows_seen rows (changes_of all))

  text_is : events ≡ events_of plan.table (at_mark plan journal).log → row_or_table (unfit_in altered.map opening.rows events) (find_table plan.table (at_mark plan journal).tables) ≡ text_at_mark plan journal
  text_is events_are =
      ap (λ (all : List RowEvent). row_or_table (unfit_in altered.map opening.rows all) (find_table plan.table (at_mark plan journal).tables)) events_are
      ∙ ap (λ (rows : List (List Value)). row_or_table (unfit_in altered.map rows (events_of plan.table (at_mark plan journal).log)) (find_table plan.table (at_mark plan journal).tables))
      (sym (ap (λ (t : Option TableRows). unwrap_or (option_map (λ one. one.rows) t) []) found))
      ∙ ap (λ (columns : List MapColumn). row_or_table (unfit_in columns (opening_rows plan) (events_of plan.table (at_mark plan journal).log)) (find_table plan.table (at_mark plan journal).tables))
      (sym (map_found plan opening (altered.schema, altered.map) found alters))

  -- *The text at the mark is printed*
  marked_text : (printed : Option Printed) → ((then : Option TableRows) → IsRebuiltOf opening altered (changes_of events) then → IfSome printed (λ one. one ≡ record { status = statuses.Done; text = row_or_table (unfit_in altered.map opening.rows events) then })) → IsReadAtMark plan journal opening altered events
      → IfSome printed (λ one. one ≡ record { status = statuses.Done; text = text_at_mark plan journal })
  marked_text printed by is =
      subst (λ (text : List ℕ). IfSome printed (λ one. one ≡ record { status = statuses.Done; text = text })) (text_is is.events_are)
      (by (find_table plan.table (at_mark plan journal).tables) (subst (λ (all : List RowEvent). IsRebuiltOf opening altered (changes_of all) (find_table plan.table (at_mark plan journal).tables)) (sym is.events_are) is.rebuilt))

-- ... whichever journal it is
pub marked_texts : AcceptedMarksAreRebuilt → FinishedMarksAreRebuilt → (plan : PlanData) (logged : Option ℕ) (count : ℕ) (server : State) (opening : TableRows) (altered : AlteredSchema) (events : List RowEvent) (printed : Option Printed) → find_table plan.table plan.tables ≡ Some opening → plan_altered plan ≡ Some (altered.schema, altered.map) → count_read plan.table logged server ≡ count
    → events ≡ take count (events_of plan.table server.log)
    → ((then : Option TableRows) → IsRebuiltOf opening altered (changes_of events) then → IfSome printed (λ one. one ≡ record { status = statuses.Done; text = row_or_table (first_unfit altered.map 0 (rows_seen opening.rows (changes_of events))) then }))
    → (journal : List Entry) → IsAfterMark plan journal logged server → IfSome printed (λ one. one ≡ record { status = statuses.Done; text = text_at_mark plan journal })
marked_texts law finished plan logged count server opening altered events printed found alters counted read by journal is =
    marked_text law finished plan journal server opening found altered alters count events read printed by (read_at law finished plan journal server opening found altered alters count events read logged is counted)

-- the table that is looked up by the plan's own name
pub found_by : {T : Type 0} (seen : T → TableRows) (found : Option T) (one : T) (name own : List ℕ) (given tables : Database) → option_map seen found ≡ find_table name given → found ≡ Some one → name ≡ own → given ≡ tables → find_table own tables ≡ Some (seen one)
found_by seen found one name own given tables is was named same = ap (find_table own) (sym same) ∙ ap (λ (n : List ℕ). find_table n given) (sym named) ∙ sym is ∙ ap (option_map seen) was

-- what holds of a result that is fine holds of its value
pub ok_holds : {T E : Type 0} (result : Result T E) (P : T → Type 0) (value : T) → Some value ≡ result_ok result → IfOk result P → P value
ok_holds (Ok found) P value same is = subst P (sym (some_is value found same)) is
ok_holds (Err fault) P value same is = absurd cc
