-- The RENAME that is done: the table takes over the new one's counter, which is no less than its own was, and the new one's rows, whose
-- values of the column are those of the old rows.
use Rattle.std.proofs.Common.{◌≡◌, ◌≢◌, ℕ, ◌+◌, ◌==◌, ◌≤◌, ◌<◌, eqb-true, Bool, true, false, not, ◌||◌, List, [], ◌∷◌, ◌++◌, append-nil, cond, length, Option, Some, None, Result, Ok, Err, refl, sym, ap, ◌∙◌, subst, arith}
use Rattle.std.specs.Prelude.{option_to_list, unwrap_or}
use Rattle.std.specs.List.{AllByRecursion, list_all, list_any, slice_get}
use Rattle.std.specs.Option.{option_map}
use Rattle.std.specs.Result.{result_ok}
use Rattle.std.specs.Str.{bytes_eq}
use Rattle.std.proofs.lemmas.Bool.{true≢false, false≢true, and_parts, eq-eqb}
use Rattle.base_values.specs.declared.event.RowEvent.{RowEvent}
use Rattle.base_values.specs.declared.gho_schema.schema.Schema.{Schema}
use Rattle.base_values.specs.declared.row_conversion.map.MapColumn.{MapColumn}
use Rattle.base_values.specs.declared.row_conversion.conversion_fault.UnfitAt.{UnfitAt}
use Rattle.base_values.specs.declared.value.Value.{Value}
use Rattle.base_values.specs.GhoSchema.AutoIncrement.{auto_place, is_only}
use Rattle.base_values.specs.GhoSchema.Options.{◌>>=◌}
use Rattle.base_values.specs.GhoSchema.Rows.{key_of, key_places}
use Rattle.base_values.specs.GhoSchema.Tables.{IsRow}
use Rattle.base_values.specs.RowConversion.ConvertedRows.{converted_row, converted_rows}
use Rattle.base_values.specs.ToolNames.{ghost_name}
use Rattle.base_script.specs.declared.actor.Actor.{Actor}
use Rattle.base_script.specs.declared.actor.Side.{Side}
use Rattle.base_script.specs.declared.actor.Side.TheVariants.{Before, After}
use Rattle.table_store.specs.Databases.{Database, TableRows, find_table, name_table}
use Rattle.server_model.specs.declared.answer.Answer.{Answer}
use Rattle.server_model.specs.declared.answer.Answer.TheVariants as answers
use Rattle.server_model.specs.declared.entry.Asked.{Asked}
use Rattle.server_model.specs.declared.entry.Asked.TheVariants.{Call, Poll}
use Rattle.server_model.specs.declared.entry.Entry.{Entry}
use Rattle.server_model.specs.declared.request.Request.{Request}
use Rattle.server_model.specs.declared.session.Session.{Session}
use Rattle.server_locks.specs.declared.row_locks.lock.Lock.{Lock}
use Rattle.server_model.specs.Counting.{counted}
use Rattle.server_model.specs.Entries.{is_client, is_command}
use Rattle.server_model.specs.LockedRows.Counters.{IsBelow}
use Rattle.server_model.specs.LockedRows.Coverage.{IsWellFormedTable}
use Rattle.server_model.specs.LockedRows.Databases.{EventsCovered, WhereFound}
use Rattle.server_model.specs.PlainServer.{counters_left, serves}
use Rattle.server_model.specs.States.{State, after_value, connected, is_live, names_held, new_session, next_of, session_of}
use Rattle.server_model.proofs.LockedRows.Tests.{are_same, same_bytes}
use Rattle.plan_data.specs.KeptRows.{KeepsRows}
use Rattle.plan_data.specs.PlanData.{PlanData, has_counter, new_altered, new_schema, old_schema}
use Rattle.tool_program.specs.CutoverCore.Attempts.{exchange}
use Rattle.tool_program.specs.JournalWords.Draws.{asked_in, drawn_from}
use Rattle.tool_program.specs.JournalWords.Histories.{answer_in}
use Rattle.tool_program.specs.JournalWords.Journals.{opening, opens, opens_if, state_at}
use Rattle.tool_program.specs.Tools.{is_reverting, moment}
use Rattle.proof_journals.specs.Ghost.Copies.{IsAltered}
use Rattle.proof_journals.specs.Holdings.{Face, face_in, face_of}
use Rattle.proof_journals.specs.Machine.Machines as machines
use Rattle.proof_journals.specs.Machine.Machines.{ToolPhaseStands, WorkStands}
use Rattle.proof_journals.specs.Machine.Runnable.{IsRunnable}
use Rattle.proof_journals.specs.Machine.Standings.{IsAbout, Standing, is_called, is_polled, standing_of}
use Rattle.proof_journals.specs.Plans.{IsSerialPlan, limits_of, scene_of}
use Rattle.proof_journals.specs.Run.Kept.{IsKept}
use Rattle.proof_journals.specs.Scenes.{SessionHold}
use Rattle.proof_journals.specs.Turns.{IsSceneRun, inner, missed_at}
use Rattle.proof_journals.proofs.Faces.{faces_opened}
use Rattle.proof_journals.proofs.Joined.{reported_missed}
use Rattle.proof_journals.proofs.Journals.{JournalHolds, journal_holds, state_more}
use Rattle.proof_journals.proofs.Machine.Journals.{IsRun, IsTogether}
use Rattle.proof_journals.proofs.Machine.Seated.{IsOpen, IsServed, is_open, own_given}
use Rattle.proof_journals.proofs.Names.{Holding, holding_of}
use Rattle.proof_journals.proofs.PlanJournals.{plan_runs_are_scene_runs}
use Rattle.proof_journals.proofs.Rising.{opened_counters}
use Rattle.proof_journals.proofs.Run.Living.{all_living}
use Rattle.proof_journals.proofs.Sentry.Serving.{exchanged}
use Rattle.proof_journals.proofs.ServerTurns.Others.{holds_from}
use Rattle.proof_migration.specs.CutOver.{IsRename}
use Rattle.proof_migration.specs.Migration.Planning.{migration_of}
use Rattle.proof_migration.proofs.Once.Past.{exchange_gives}
use Rattle.proof_migration.proofs.Program.Turns.Follows.{kept_front, kept_run}
use Rattle.proof_migration.proofs.ToolPhase.Unaltered.Away.{IsKnownAsked, all_asked}
use Rattle.proof_migration.proofs.ToolPhase.Unaltered.Runs.{unaltered_runs}
use Rattle.proof_plans.proofs.Complete.Unblocked.{each_session}
use Rattle.proof_plans.proofs.Tables.Old.{RenameLaws, finds, is_about, tables_renamed, renamer, renaming_here}
use Rattle.law_draws.specs.ColumnValues.{EventsBelow, RowsBelow}
use Rattle.law_draws.specs.SmallNumbers.{CountsIn, IsAtMost}
use Rattle.law_draws.proofs.Carried.{IsNoLess, NoMore}
use Rattle.law_draws.proofs.Migrated.{about_asks}
use Rattle.law_draws.proofs.NewTable.{IsSmall}
use Rattle.law_draws.proofs.Numbers.{one_more}
use Rattle.law_draws.proofs.OtherTables.{Keeps, under_more}
use Rattle.law_draws.proofs.Renames.{exchange_counts, rename_rests}

-- WHAT IS ASKED OF A PLAN

-- the migrated table has an AUTO_INCREMENT column, alone in the clustered key, and so has what its ALTER leaves; and the ALTER keeps the
-- keys of rows
pub record CountingPlan (plan : PlanData) : Type 0 where
  pub old_place : ℕ
  pub old_auto : auto_place (old_schema plan) ≡ Some old_place
  pub old_counts : CountsIn (old_schema plan) old_place
  pub old_only : is_only old_place (key_places (old_schema plan)) ≡ true
  pub named : (old_schema plan).name ≡ plan.table
  pub new_place : ℕ
  pub new_auto : auto_place (new_schema plan) ≡ Some new_place
  pub new_counts : CountsIn (new_schema plan) new_place
  pub new_only : is_only new_place (key_places (new_schema plan)) ≡ true
  pub new_start : unwrap_or (new_schema plan).start 1 ≤ 9223372036854775808
  pub keeps : KeepsRows (old_schema plan) (new_altered plan)

-- VALUES OF A KEY OF ONE COLUMN

key_none : (place : ℕ) (places : List ℕ) (row : List Value) → list_all (λ other. other == place) places ≡ true → slice_get row place ≡ None → key_of places row ≡ []
unfolding key_of
key_none place [] row all none = refl
key_none place (own ∷ places) row all none =
    let parts = and_parts (own == place) (list_all (λ other. other == place) places) all in
    let same : own ≡ place = eqb-true own place parts.0 in
    ap (λ (o : Option Value). option_to_list o ++ key_of places row) (ap (slice_get row) same ∙ none) ∙ key_none place places row parts.1 none

key_some : (place : ℕ) (places : List ℕ) (row : List Value) (value : Value) → is_only place places ≡ true → slice_get row place ≡ Some value → (rest : List Value) × (key_of places row ≡ value ∷ rest)
unfolding key_of
key_some place [] row value only is = absurd (false≢true only)
key_some place (own ∷ places) row value only is =
    let parts = and_parts (own == place) (list_all (λ other. other == place) places) only in
    let same : own ≡ place = eqb-true own place parts.0 in
    (key_of places row, ap (λ (o : Option Value). option_to_list o ++ key_of places row) (ap (slice_get row) same ∙ is))

only_all : (place : ℕ) (places : List ℕ) → is_only place places ≡ true → list_all (λ other. other == place) places ≡ true
only_all place [] only = refl
only_all place (own ∷ places) only = only

-- rows of the same key have the same value
key_below : (place other next : ℕ) (places others : List ℕ) (row made : List Value) → is_only place places ≡ true → is_only other others ≡ true → key_of others made ≡ key_of places row → IsBelow place next row → IsBelow other next made
key_below place other next places others row made one two same below = by (slice_get row place) (slice_get made other) refl refl below where
  head : (a b : Value) (more rest : List Value) → a ∷ more ≡ b ∷ rest → a ≡ b
  head a b more rest both = cc

  by : (old new : Option Value) → slice_get row place ≡ old → slice_get made other ≡ new → after_value (slice_get row place) ≤ next → after_value (slice_get made other) ≤ next
  by old None was none less = subst (λ (o : Option Value). after_value o ≤ next) (sym none) (omega arith)
  by None (Some new) none is less = absurd (
      let first = key_some other others made new two is in
      let no : [] ≡ new ∷ first.0 = sym (key_none place places row (only_all place places one) none) ∙ sym same ∙ first.1 in
      cc
      )
  by (Some old) (Some new) was is less =
      let first = key_some other others made new two is in
      let second = key_some place places row old one was in
      let value : new ≡ old = head new old first.0 second.0 (sym first.1 ∙ same ∙ second.1) in
      subst (λ (o : Option Value). after_value o ≤ next) (was ∙ ap Some (sym value) ∙ sym is) less

converted_below : (schema new : Schema) (map : List MapColumn) (place other next : ℕ) → ((row made : List Value) → IsRow schema.columns row → converted_row map row ≡ Ok made → key_of (key_places new) made ≡ key_of (key_places schema) row) → is_only place (key_places schema) ≡ true → is_only other (key_places new) ≡ true
    → (rows made : List (List Value)) → AllByRecursion (IsRow schema.columns) rows → converted_rows map rows ≡ Some made → AllByRecursion (IsBelow place next) rows → AllByRecursion (IsBelow other next) made
unfolding converted_rows
converted_below schema new map place other next key one two [] made fit is below = let none : [] ≡ made = cc in subst (AllByRecursion (IsBelow other next)) none tt
converted_below schema new map place other next key one two (row ∷ rows) made fit is below = by (converted_row map row) (converted_rows map rows) refl is (λ more rest. converted_below schema new map place other next key one two rows more fit.1 rest below.1) where
  by : (first : Result (List Value) UnfitAt) (rest : Option (List (List Value))) → converted_row map row ≡ first → (result_ok first >>= λ f. rest >>= λ o. Some (f ∷ o)) ≡ Some made → ((more : List (List Value)) → rest ≡ Some more → AllByRecursion (IsBelow other next) more) → AllByRecursion (IsBelow other next) made
  by (Ok first) (Some more) was all rest =
      let both : first ∷ more ≡ made = cc in
      subst (AllByRecursion (IsBelow other next)) both (key_below place other next (key_places schema) (key_places new) row first one two (key row first fit.0 was) below.0, rest more refl)
  by (Ok first) None was all rest = absurd cc
  by (Err unfit) rest_rows was all rest = absurd cc

-- NOBODY HAS WRITTEN A ROW OF THE TABLE

none_below : (name : List ℕ) (place next : ℕ) (names : List (List ℕ)) (locks : List Lock) (tables : Database) (events : List RowEvent) → (list_any (bytes_eq name) names ≡ true → ⊥) → EventsCovered names locks tables events → EventsBelow name place next events
none_below name place next names locks tables [] none covered = tt
none_below name place next names locks tables (event ∷ events) none covered =
    (λ here. absurd (none (subst (λ (n : List ℕ). list_any (bytes_eq n) names ≡ true) (are_same event.table name here) covered.0.named)), none_below name place next names locks tables events none covered.1)

module _ (laws : RenameLaws) (plan : PlanData) (runs : IsRunnable plan) (serial : IsSerialPlan plan) (journal : List Entry) (entry : Entry) (rename : IsRename plan journal entry) where
  abbrev now : State
  now = state_at plan journal

  abbrev then : State
  then = state_at plan (journal ++ entry ∷ [])

  abbrev open_now : State
  open_now = opens entry now

  abbrev t : List ℕ
  t = plan.table

  before : IsKept plan journal
  before = kept_front plan journal (entry ∷ []) rename.kept

  known : IsKnownAsked plan journal
  known = all_asked plan journal runs before.faithful before.follows

  run : IsRun plan journal entry
  run = kept_run plan journal entry rename.kept

  together : IsTogether plan journal
  together = known.marking.tabled.all.tool

  served : IsServed plan journal entry
  served = record { answered = run.answered; seated = record { session = run.followed.session } }

  asks : asked_in now entry ≡ Some (exchange t)
  asks = about_asks plan journal entry known run (exchange t) (is_about laws plan runs serial journal entry rename)

  called : is_command entry.asked ≡ false
  called = by (is_about laws plan runs serial journal entry rename) where
    by : IsAbout (exchange t) (standing_of plan journal entry.actor) entry.asked → is_command entry.asked ≡ false
    by (is_called same none) = ap is_command same
    by (is_polled same some) = ap is_command same

  -- COUNTERS

  counts : next_of t then.counters ≡ next_of (ghost_name t) now.counters
  unfolding counted
  counts = ap (λ (s : State). next_of t s.counters) (state_more (opening plan) journal entry) ∙ by entry.side refl (tells (is_about laws plan runs serial journal entry rename)) where
    answer : Answer
    answer = (serves open_now entry.session entry.asked).answer

    tells : IsAbout (exchange t) (standing_of plan journal entry.actor) entry.asked → answer_in Poll entry.side entry.answer entry.missed ≡ Some (answers.Ok (renaming_here laws plan runs serial journal entry rename).count)
    tells (is_called same none) = sym (call_as entry.side) ∙ ap (λ (a : Asked). answer_in a entry.side entry.answer entry.missed) (sym same) ∙ (renaming_here laws plan runs serial journal entry rename).is_reported where
      call_as : (side : Option Side) → answer_in (Call (exchange t)) side entry.answer entry.missed ≡ answer_in Poll side entry.answer entry.missed
      call_as None = refl
      call_as (Some Before) = refl
      call_as (Some After) = refl
    tells (is_polled same some) = ap (λ (a : Asked). answer_in a entry.side entry.answer entry.missed) (sym same) ∙ (renaming_here laws plan runs serial journal entry rename).is_reported

    moved : answer ≡ answers.Ok (renaming_here laws plan runs serial journal entry rename).count → next_of t (counted open_now entry.session (asked_in now entry) answer) ≡ next_of (ghost_name t) now.counters
    moved is =
        ap (λ (o : Option Request). next_of t (counted open_now entry.session o answer)) asks ∙ ap (λ (a : Answer). next_of t (counted open_now entry.session (Some (exchange t)) a)) is
        ∙ exchange_counts t open_now.counters ∙ ap (next_of (ghost_name t)) (opened_counters (is_command entry.asked) (not (is_client entry.actor)) entry.session now)

    one : (a b : Answer) → Some a ≡ Some b → a ≡ b
    one a b same = cc

    by : (side : Option Side) → entry.side ≡ side → answer_in Poll entry.side entry.answer entry.missed ≡ Some (answers.Ok (renaming_here laws plan runs serial journal entry rename).count) → next_of t (counters_left entry.side open_now entry.session entry.asked) ≡ next_of (ghost_name t) now.counters
    by None at reported =
        ap (λ (s : Option Side). next_of t (counters_left s open_now entry.session entry.asked)) at
        ∙ moved (own_given plan journal entry together.known served at ∙ one entry.answer (answers.Ok (renaming_here laws plan runs serial journal entry rename).count) (ap (λ (s : Option Side). answer_in Poll s entry.answer entry.missed) (sym at) ∙ reported))
    by (Some Before) at reported = absurd (let no : None ≡ Some (answers.Ok (renaming_here laws plan runs serial journal entry rename).count) = ap (λ (s : Option Side). answer_in Poll s entry.answer entry.missed) (sym at) ∙ reported in cc)
    by (Some After) at reported =
        ap (λ (s : Option Side). next_of t (counters_left s open_now entry.session entry.asked)) at
        ∙ moved (one answer (answers.Ok (renaming_here laws plan runs serial journal entry rename).count) (sym (reported_missed now entry run.answered ∙ ap (λ (s : Option Side). missed_at s (inner now entry)) at) ∙ ap (λ (s : Option Side). answer_in Poll s entry.answer entry.missed) (sym at) ∙ reported))

  -- WRITES

  scene_run : IsSceneRun (limits_of plan) (scene_of plan journal) journal
  scene_run = plan_runs_are_scene_runs plan journal (unaltered_runs plan journal runs serial before rename.unaltered)

  holds_here : JournalHolds (limits_of plan) (scene_of plan journal) journal
  holds_here = journal_holds (limits_of plan) (scene_of plan journal) journal scene_run

  idle : (face_of open_now.sessions entry.session).busy ≡ false
  idle =
      let own : IsOpen plan journal entry together.known served = is_open plan journal entry together.known served called in
      ap (λ (o : Option Session). (face_in o).busy) own.is ∙ ap (λ (s : Standing). s.busy) (sym own.stands) ∙ ap (λ (a : Actor). (standing_of plan journal a).busy) (renamer laws plan runs serial journal entry rename) ∙ ap (λ (s : Standing). s.busy) stands.renamer ∙ by (finds laws plan runs serial journal entry rename).work.cutover.renamer_waits where
        stands : WorkStands journal (is_reverting (moment plan journal).tool.reason) (standing_of plan journal) (finds laws plan runs serial journal entry rename).work
        stands = subst (ToolPhaseStands journal (standing_of plan journal) (is_reverting (moment plan journal).tool.reason)) (finds laws plan runs serial journal entry rename).tool_phase together.stands

        by : (b : Bool) → (machines.renaming (finds laws plan runs serial journal entry rename).work.cutover.table b).busy ≡ false
        by true = refl
        by false = refl

  none_written : (place next : ℕ) → AllByRecursion (λ session. EventsBelow t place next session.writes) now.sessions
  none_written place next = each_session (λ session. EventsBelow t place next session.writes) now.sessions (all_living plan journal before.faithful before.sessions).apart each where
    each : (m : ℕ) (s : Session) → session_of m now.sessions ≡ Some s → s.number ≡ m → EventsBelow t place next s.writes
    each m s found number = by (m == entry.session) refl where
      face_is : face_of now.sessions m ≡ face_in (Some s)
      face_is = ap face_in found

      own : m ≡ entry.session → EventsBelow t place next s.writes
      own same =
          let rests = ((holds_here.holds.fits m).rests (sym (ap (λ (f : Face). f.busy) (faces_opened (is_command entry.asked) (not (is_client entry.actor)) entry.session m now)) ∙ ap (λ (n : ℕ). (face_of open_now.sessions n).busy) same ∙ idle)).0 in
          subst (EventsBelow t place next) (ap (λ (h : SessionHold). h.writes) (sym rests) ∙ ap (λ (f : Face). f.hold.writes) face_is) tt

      apart : m ≢ entry.session → list_any (bytes_eq t) (face_of now.sessions m).hold.names ≡ true → ⊥
      apart differ named =
          let has : Holding now.sessions m t = holding_of now.sessions m t named in
          true≢false (sym (
          holds_from (names_held now.sessions) m t has.one has.is (ap (λ (n : ℕ). n == m) has.own ∙ eq-eqb m m refl) (ap (λ (n : List ℕ). bytes_eq n t) (sym (are_same t has.one.name has.same)) ∙ same_bytes t)
          ) ∙ (finds laws plan runs serial journal entry rename).renamed.alone m differ)

      other : m ≢ entry.session → EventsBelow t place next s.writes
      other differ =
          subst (EventsBelow t place next) (ap (λ (f : Face). f.hold.writes) face_is)
          (none_below t place next (face_of now.sessions m).hold.names (face_of now.sessions m).hold.locks now.tables (face_of now.sessions m).hold.writes (apart differ) (holds_here.holds.kept.fine m).covered)

      by : (b : Bool) → (m == entry.session) ≡ b → EventsBelow t place next s.writes
      by true same = own (eqb-true m entry.session same)
      by false differ = other (λ same. false≢true (sym differ ∙ eq-eqb m entry.session same))

  then_written : (place next : ℕ) → AllByRecursion (λ session. EventsBelow t place next session.writes) then.sessions
  unfolding opens_if
  then_written place next =
      subst (λ (s : State). AllByRecursion (λ session. EventsBelow t place next session.writes) s.sessions) (sym (state_more (opening plan) journal entry))
      ((rename_rests t place next entry.session (exchanged t) entry.side open_now entry.asked asks).writes opened_all) where
        opened_all : AllByRecursion (λ session. EventsBelow t place next session.writes) open_now.sessions
        opened_all = by (is_command entry.asked || is_live now entry.session) where
          by : (b : Bool) → AllByRecursion (λ session. EventsBelow t place next session.writes) (cond b now (connected entry.session (not (is_client entry.actor)) now)).sessions
          by true = none_written place next
          by false = one_more (λ session. EventsBelow t place next session.writes) now.sessions (new_session entry.session (not (is_client entry.actor))) (none_written place next) tt

  -- *The table after the RENAME*
  module _ (counting : CountingPlan plan) (altered : IsAltered (migration_of (old_schema plan) (new_altered plan)) now.tables) (carries : has_counter plan ≡ true) (less : IsNoLess plan now) (small : IsSmall (ghost_name t) (length journal) now) (earlier : List ℕ) (keeps : Keeps t (old_schema plan) counting.old_place (length journal) now earlier) where
    abbrev table_schema : Schema
    table_schema = record (new_schema plan) { name = t }

    found_new : find_table t then.tables ≡ Some (record { schema = table_schema; rows = altered.made })
    unfolding new_schema
    found_new =
        exchange_gives t now.tables then.tables (tables_renamed laws plan runs serial journal entry rename)
        ∙ ap (option_map (name_table t)) (ap (λ (n : List ℕ). find_table (ghost_name n) now.tables) (sym counting.named) ∙ altered.new)

    found_old : find_table t now.tables ≡ Some (record { schema = old_schema plan; rows = altered.rows })
    found_old = ap (λ (n : List ℕ). find_table n now.tables) (sym counting.named) ∙ altered.old

    rows_fit : AllByRecursion (IsRow (old_schema plan).columns) altered.rows
    rows_fit = (subst (WhereFound IsWellFormedTable) found_old (holds_here.holds.kept.well_formed.each t)).is_table.rows_fit

    made_below : AllByRecursion (IsBelow counting.new_place keeps.next) altered.made
    unfolding new_schema
    made_below =
        converted_below (old_schema plan) (new_schema plan) (new_altered plan).1 counting.old_place counting.new_place keeps.next counting.keeps.key counting.old_only counting.new_only altered.rows altered.made rows_fit altered.altered
        (subst (RowsBelow counting.old_place keeps.next) found_old keeps.below.rows)

    pub exchange_keeps : Keeps t table_schema counting.new_place (length journal + 1) then (earlier ++ drawn_from entry.draw t (asked_in now entry))
    exchange_keeps = by (next_of (ghost_name t) now.counters) refl where
      no_more : NoMore (Some keeps.next) (next_of (ghost_name t) now.counters)
      no_more = subst (λ (o : Option ℕ). NoMore o (next_of (ghost_name t) now.counters)) keeps.counter (less carries)

      drawn : (draw : Option ℕ) → drawn_from draw t (asked_in now entry) ≡ []
      drawn None = refl
      drawn (Some n) = ap (drawn_from (Some n) t) asks

      more_rows : (m : ℕ) → keeps.next ≤ m → (rows : List (List Value)) → AllByRecursion (IsBelow counting.new_place keeps.next) rows → AllByRecursion (IsBelow counting.new_place m) rows
      more_rows m up [] all = tt
      more_rows m up (row ∷ rows) all = let here = all.0 in (omega (arith, up, here), more_rows m up rows all.1)

      by : (new : Option ℕ) → next_of (ghost_name t) now.counters ≡ new → Keeps t table_schema counting.new_place (length journal + 1) then (earlier ++ drawn_from entry.draw t (asked_in now entry))
      by None none = absurd (subst (NoMore (Some keeps.next)) none no_more)
      by (Some m) some =
          let up : keeps.next ≤ m = subst (NoMore (Some keeps.next)) some no_more in
          let most : m ≤ 9223372036854775808 + length journal = subst (IsAtMost (9223372036854775808 + length journal)) some small.small in
          record {
            has = ap (option_map (λ (one : TableRows). one.schema)) found_new;
            next = m;
            counter = counts ∙ some;
            small = omega (arith, most);
            below = record { rows = subst (RowsBelow counting.new_place m) (sym found_new) (more_rows m up altered.made made_below); writes = then_written counting.new_place m };
            under = subst (AllByRecursion (λ number. number < m)) (sym (ap (λ (list : List ℕ). earlier ++ list) (drawn entry.draw) ∙ append-nil earlier)) (under_more keeps.next m earlier up keeps.under);
          }
