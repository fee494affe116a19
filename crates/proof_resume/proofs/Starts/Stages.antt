-- Each stage before the copy finds what it needs, from the first turn of the new tool on.
use Rattle.std.proofs.Common.{◌≡◌, ℕ, ◌==◌, Bool, true, false, cond, ◌&&◌, ◌||◌, List, [], ◌∷◌, ◌++◌, length, drop, append_assoc, append-nil, Option, Some, None, refl, sym, ap, ◌∙◌, subst}
use Rattle.std.specs.Prelude.{unwrap_or}
use Rattle.std.specs.Str.{bytes_eq}
use Rattle.std.proofs.Math.Seq.{drop-append_seam}
use Rattle.base_script.specs.declared.actor.Actor.{Actor}
use Rattle.base_script.specs.declared.actor.Actor.TheVariants.{Op, Insp}
use Rattle.base_values.specs.ToolNames.{ghost_name, log_name, old_name}
use Rattle.base_values.specs.declared.gho_schema.schema.Schema.{Schema}
use Rattle.base_values.specs.declared.mysql_errors.TheConstants.{ER_BAD_TABLE_ERROR}
use Rattle.base_values.specs.GhoSchema.Rows.{key_places}
use Rattle.table_store.specs.Databases.{Database, TableRows, find_table, has_table, without_table}
use Rattle.server_model.specs.Along.{Along-both, Along-keeps, Along-more, Along-rest}
use Rattle.server_model.specs.Answers.{ok, refuses}
use Rattle.server_model.specs.Chunks.{ends_of, keys_of}
use Rattle.server_model.specs.declared.answer.Answer.{Answer}
use Rattle.server_model.specs.declared.answer.Answer.TheVariants as answers
use Rattle.server_model.specs.declared.counter.Counter.{Counter}
use Rattle.server_model.specs.declared.entry.Asked.{Asked}
use Rattle.server_model.specs.declared.entry.Asked.TheVariants.{Call, Cut}
use Rattle.server_model.specs.declared.entry.Entry.{Entry}
use Rattle.server_model.specs.declared.outcome.Progress.{Progress}
use Rattle.server_model.specs.declared.outcome.Progress.TheVariants.{Unfit}
use Rattle.server_model.specs.declared.request.Request.TheVariants as requests
use Rattle.server_model.specs.declared.work.StatementResult.{StatementResult}
use Rattle.server_model.specs.Drawing.{filled, offered_in}
use Rattle.server_model.specs.Effects.{Rests, Writes, defined, dropped, of_table}
use Rattle.server_model.specs.Listings.{tables_shown}
use Rattle.server_model.specs.States.{State, next_of, unread}
use Rattle.server_model.proofs.LockedRows.Tests.{nor_right, same_number}
use Rattle.plan_data.specs.PlanData.{PlanData, has_counter}
use Rattle.tool_notes.specs.declared.checkpoint.Checkpoint.{Checkpoint}
use Rattle.tool_notes.specs.Readings.{checkpoint_of}
use Rattle.tool_changelog.specs.ToolTables.{log_schema}
use Rattle.tool_program.specs.JournalWords.Journals.{IsAnswered, IsFaithful, state_at}
use Rattle.tool_program.specs.JournalWords.Sessions.{IsInSession, live_session}
use Rattle.tool_program.specs.Programs.{Follows, IsFollowed, IsGiven}
use Rattle.tool_program.specs.Tools.{Migrating, Work, moment}
use Rattle.tool_program.specs.declared.chunk_copier.copier.Copier.{Copier}
use Rattle.tool_program.specs.declared.event_applier.applier.Applier.{Applier}
use Rattle.tool_program.specs.ChunkCopier.Copiers as copiers
use Rattle.tool_program.specs.EventApplier.Appliers as appliers
use Rattle.tool_finish.specs.declared.stage.Listed.{Listed}
use Rattle.tool_finish.specs.declared.stage.Listed.TheVariants.{NotRenamed, Renamed}
use Rattle.tool_finish.specs.declared.stage.Stage.{Stage}
use Rattle.tool_finish.specs.declared.stage.Stage.TheVariants.{Losing, Listing, Reading, Clearing, ReadingCounter, SettingCounter, Ranging, Copying, Applying, Exchanging, DroppingLog, DroppingOld, RollingBack, Done, Reverted}
use Rattle.tool_finish.specs.Finishes.{Asking, IsFinish, IsFinishTurn, applied, applier_from, applying, calls, checkpoint_in, clearing, copied, copier_from, copying, counter_read, counting, cuts, dropped_log, first_live, has_read, listed, losing, next, ranged, reads_checkpoint, stage_behind, took}
use Rattle.tool_finish.proofs.Walking.{stage_more}
use Rattle.proof_journals.specs.Holdings.{stored}
use Rattle.proof_journals.specs.Scenes.{Stored}
use Rattle.proof_journals.specs.Run.Kept.{IsKept}
use Rattle.proof_journals.specs.Ghost.Rows.Moments.{Row}
use Rattle.proof_journals.specs.Ghost.Rows.Timelines.{Migration}
use Rattle.proof_journals.specs.Machine.Standings.{standing_of}
use Rattle.proof_journals.proofs.Machine.Marks.{ghost_not_old}
use Rattle.proof_journals.proofs.Naming.{migrated_no_tool}
use Rattle.proof_journals.proofs.Ghost.Turns.{along_next}
use Rattle.proof_journals.proofs.ServerTurns.Agreements.{along_front}
use Rattle.proof_journals.proofs.Moves.{drop_moves}
use Rattle.proof_migration.specs.ToolPhase.Unaltered.{IsUnaltered}
use Rattle.proof_migration.specs.Program.Turns.Laws.{IsMigrationOf}
use Rattle.proof_migration.proofs.Program.InspectorTurns.Keeping.{LogStands, ToolPhaseFits, all_fit}
use Rattle.proof_bounds.proofs.AttemptTurns.LogWrites.{found_some}
use Rattle.proof_resume.specs.Reached.Checkpoints.{checkpoint_stored}
use Rattle.proof_resume.specs.Settled.ResumeLaws.{KeepTables}
use Rattle.proof_resume.specs.Starts.Beginnings.{IsCleared, IsStored, IsUnchanged, KeepsAll, StageFinds}
use Rattle.proof_resume.specs.Starts.Laws.{ReadsAnswerCheckpoint, StagesFind}
use Rattle.proof_resume.proofs.Starts.Calls.{IsLeft, moves_so, resting, rests_so, writes_none}
use Rattle.proof_resume.proofs.Starts.Checkpoints.{first_of, rows_found, select_says, stored_first}
use Rattle.proof_resume.proofs.Starts.Losses.{cut_keeps, losing_finds}

-- SMALL FACTS

-- a table that is gone leaves the others
gone_other : (name other : List ℕ) (tables : Database) → bytes_eq other name ≡ false → find_table other (without_table name tables) ≡ find_table other tables
gone_other name other tables off = (drop_moves name tables).others other (ap (λ (b : Bool). b || false) off)

-- who asks, and what
abbrev asking : Actor → Asked → Option Asking
asking actor asked = Some (actor, asked)

pub who_asks : (actor other : Actor) (one asked : Asked) → asking actor one ≡ asking other asked → (other ≡ actor) × (asked ≡ one)
who_asks actor other one asked same = (sym (ap (λ (o : Option Asking). (unwrap_or o (Op, Cut)).0) same), sym (ap (λ (o : Option Asking). (unwrap_or o (Op, Cut)).1) same))

-- a loss between calls follows the program
follows_more : (plan : PlanData) (journal : List Entry) (entry : Entry) → Follows plan journal → entry.asked ≡ Cut → IsInSession journal entry entry.asked (live_session journal entry.actor) → Follows plan (journal ++ entry ∷ [])
unfolding Follows
follows_more plan journal entry follows cut session = Along-more (IsFollowed plan) [] journal entry follows (record { given = subst (IsGiven plan journal entry) (sym cut) tt; session = session })

-- ONE TURN

module _ (plan : PlanData) (m : Migration) (rows : List Row) (of : IsMigrationOf plan m rows) (run : List Entry) (work : Work) (kept : IsKept plan run) (off : IsUnaltered plan run) (phase : (moment plan run).tool.tool_phase ≡ Migrating work) where
  abbrev t : List ℕ
  t = plan.table

  -- the changelog exists
  log_found : (table : TableRows) × (find_table (log_name t) (state_at plan run).tables ≡ Some table) × (table.schema ≡ log_schema t)
  log_found = found_some (find_table (log_name t) (state_at plan run).tables) (log_schema t) stands where
    stands : LogStands plan (state_at plan run).tables
    stands = (subst (ToolPhaseFits plan (state_at plan run).tables (standing_of plan run Insp).waits) phase (all_fit plan run of.runs of.serial kept off)).log

  abbrev log_rows : List Row
  log_rows = log_found.0.rows

  keeps_both : (journal : List Entry) → KeepsAll plan run journal → KeepTables plan m run journal
  keeps_both journal keeps = record { log = keeps.log; old = ap (find_table m.name) keeps.tables; new = ap (find_table m.new.name) keeps.tables }

  own_not_old : bytes_eq m.name (old_name t) ≡ false
  own_not_old = subst (λ (n : List ℕ). bytes_eq n (old_name t) ≡ false) (sym of.of.name) (nor_right (bytes_eq t (ghost_name t) || bytes_eq t (log_name t)) (bytes_eq t (old_name t)) (migrated_no_tool t))

  new_not_old : bytes_eq m.new.name (old_name t) ≡ false
  new_not_old = subst (λ (s : Schema). bytes_eq s.name (old_name t) ≡ false) (sym of.of.new) (ghost_not_old t)

  module _ (journal : List Entry) (entry : Entry) (answered : IsAnswered (state_at plan journal) entry) (session : IsInSession journal entry entry.asked (live_session journal entry.actor)) (unlost : entry.side ≡ None) where
    abbrev now : State
    now = state_at plan journal

    abbrev more : List Entry
    more = journal ++ entry ∷ []

    -- nothing has changed
    unchanged_more : (answer : Answer) → IsUnchanged plan run journal → IsLeft plan journal entry answer now.tables → IsUnchanged plan run more
    unchanged_more answer is left = record { keeps = record { tables = left.tables ∙ is.keeps.tables; log = left.log ∙ is.keeps.log }; rest = left.rest }

    pub cleared_more : (answer : Answer) (found : Checkpoint) → IsCleared plan m run journal found → IsLeft plan journal entry answer now.tables → IsCleared plan m run more found
    cleared_more answer found is left =
        record { keeps = record { log = left.log ∙ is.keeps.log; old = ap (find_table m.name) left.tables ∙ is.keeps.old; new = ap (find_table m.new.name) left.tables ∙ is.keeps.new }; rest = left.rest; stored = is.stored }

    cleared_of : (journal : List Entry) (found : Checkpoint) → IsUnchanged plan run journal → IsStored plan run found → IsCleared plan m run journal found
    cleared_of journal found is stored = record { keeps = keeps_both journal is.keeps; rest = is.rest; stored = stored }

    -- WHAT THE STAGES BEHIND FIND

    applying_finds : (state : State) (applier : Applier) → StageFinds plan m run more (applying plan state applier)
    applying_finds state applier = by (appliers.starts applier && (unread state applier.position (plan.table ∷ log_name plan.table ∷ []) == 0)) where
      by : (b : Bool) → StageFinds plan m run more (cond b Exchanging (Applying applier))
      by true = tt
      by false = tt

    copying_finds : (state : State) (copier : Copier) (applier : Applier) → StageFinds plan m run more (copying plan state copier applier)
    copying_finds state copier applier = by copier.is_copied where
      by : (b : Bool) → StageFinds plan m run more (cond b (applying plan state applier) (Copying copier applier))
      by true = applying_finds state applier
      by false = tt

    copied_finds : (state : State) (turn : ℕ) (applier : Applier) (before after : Copier) (progress : Progress) → StageFinds plan m run more (copied plan state turn applier before after progress)
    copied_finds state turn applier before after (Unfit column number) = tt
    copied_finds state turn applier before after progress = copying_finds state after applier

    applied_finds : (state : State) (turn : ℕ) (before after : Applier) (progress : Progress) → StageFinds plan m run more (applied plan state turn before after progress)
    applied_finds state turn before after (Unfit column number) = tt
    applied_finds state turn before after progress = applying_finds state after

    ranged_finds : (state : State) (found : Checkpoint) (answer : Answer) → IsCleared plan m run more found → StageFinds plan m run more (ranged plan state found answer)
    ranged_finds state found (answers.Ends range) is = copying_finds state (copier_from plan found.reach range) (applier_from plan found.position)
    ranged_finds state found answer is = is

    counter_finds : (found : Checkpoint) (answer : Answer) → IsCleared plan m run more found → StageFinds plan m run more (counter_read found answer)
    counter_finds found (answers.At number) is = is
    counter_finds found answer is = is

    counting_finds : (found : Checkpoint) → IsCleared plan m run more found → StageFinds plan m run more (counting plan found)
    counting_finds found is = by (has_counter plan) where
      by : (b : Bool) → StageFinds plan m run more (cond b (ReadingCounter found) (Ranging found))
      by true = is
      by false = is

    clearing_finds : (listed : Listed) (found : Checkpoint) → IsUnchanged plan run more → IsStored plan run found → StageFinds plan m run more (clearing plan listed found)
    clearing_finds (NotRenamed true) found is stored = (is, stored)
    clearing_finds (NotRenamed false) found is stored = counting_finds found (cleared_of more found is stored)
    clearing_finds (Renamed old) found is stored = tt

    dropped_finds : (old : Bool) → StageFinds plan m run more (dropped_log old)
    dropped_finds true = tt
    dropped_finds false = tt

    -- WHAT THE CALLS LEAVE

    module _ (who : entry.actor ≡ Insp) where
      listed_left : IsUnchanged plan run journal → entry.asked ≡ Call requests.ShowTables → IsLeft plan journal entry (answers.Tables (tables_shown now.tables)) now.tables
      listed_left is asks =
          rests_so plan journal entry is.rest answered who requests.ShowTables asks unlost session (λ base. refl) (answers.Tables (tables_shown now.tables)) (λ same. cc) (λ base same counters. ap (λ (d : Database). Rests (answers.Tables (tables_shown d))) same)

      full_select : (base : State) → filled (resting entry.session base) entry.session (reads_checkpoint plan) ≡ reads_checkpoint plan
      unfolding offered_in
      full_select base = rw (same_number entry.session) refl

      read_left : IsUnchanged plan run journal → entry.asked ≡ Call (reads_checkpoint plan) → IsLeft plan journal entry (answers.Rows (rows_found t log_rows)) now.tables
      read_left is asks =
          writes_none plan journal entry is.rest answered who (reads_checkpoint plan) asks unlost session full_select (answers.Rows (rows_found t log_rows)) (λ same. cc)
          (λ base same. ap (λ (r : StatementResult). Writes r.answer r.events) (select_says t base.tables log_found.0 (ap (find_table (log_name t)) (same ∙ is.keeps.tables) ∙ log_found.1) log_found.2))

      cleared_left : (found : Checkpoint) → IsUnchanged plan run journal → IsStored plan run found → entry.asked ≡ Call (requests.Drop (old_name t)) → IsCleared plan m run more found
      cleared_left found is stored asks = by (has_table (old_name t) now.tables) refl where
        by : (b : Bool) → has_table (old_name t) now.tables ≡ b → IsCleared plan m run more found
        by true has =
            let left : IsLeft plan journal entry ok (without_table (old_name t) now.tables) =
            moves_so plan journal entry is.rest answered who (requests.Drop (old_name t)) asks unlost session (λ base. refl) ok (without_table (old_name t) now.tables) (λ same. cc)
            (λ base same. ap (λ (d : Database). defined (dropped (has_table (old_name t) d) (old_name t) d)) same ∙ ap (λ (b : Bool). defined (dropped b (old_name t) now.tables)) has) in
            record {
              keeps = record {
                log = left.log ∙ is.keeps.log;
                old = ap (find_table m.name) left.tables ∙ gone_other (old_name t) m.name now.tables own_not_old ∙ ap (find_table m.name) is.keeps.tables;
                new = ap (find_table m.new.name) left.tables ∙ gone_other (old_name t) m.new.name now.tables new_not_old ∙ ap (find_table m.new.name) is.keeps.tables;
              };
              rest = left.rest;
              stored = stored;
            }
        by false none =
            let left : IsLeft plan journal entry (refuses ER_BAD_TABLE_ERROR) now.tables =
            rests_so plan journal entry is.rest answered who (requests.Drop (old_name t)) asks unlost session (λ base. refl) (refuses ER_BAD_TABLE_ERROR) (λ same. cc)
            (λ base same counters. ap (λ (d : Database). defined (dropped (has_table (old_name t) d) (old_name t) d)) same ∙ ap (λ (b : Bool). defined (dropped b (old_name t) now.tables)) none) in
            cleared_more (refuses ER_BAD_TABLE_ERROR) found (cleared_of journal found is stored) left

      heard_of : (found : Option TableRows) (given : TableRows → Answer) → ((table : TableRows) → given table ≡ answers.Lost → ⊥) → of_table found given ≡ answers.Lost → ⊥
      heard_of None given heard = λ same. cc
      heard_of (Some table) given heard = heard table

      counter_left : (found : Checkpoint) → IsCleared plan m run journal found → entry.asked ≡ Call (requests.ShowCounter t) → IsCleared plan m run more found
      counter_left found is asks =
          cleared_more _ found is
          (rests_so plan journal entry is.rest answered who (requests.ShowCounter t) asks unlost session (λ base. refl) (of_table (find_table t now.tables) (λ one. answers.At (unwrap_or (next_of t now.counters) 0))) (heard_of (find_table t now.tables) (λ one. answers.At (unwrap_or (next_of t now.counters) 0)) (λ one same. cc))
          (λ base same counters. ap (λ (d : Database). Rests (of_table (find_table t d) (λ one. answers.At (unwrap_or (next_of t base.counters) 0)))) same
          ∙ ap (λ (c : List Counter). Rests (of_table (find_table t now.tables) (λ one. answers.At (unwrap_or (next_of t c) 0)))) counters))

      set_left : (found : Checkpoint) (number : ℕ) → IsCleared plan m run journal found → entry.asked ≡ Call (requests.SetCounter (ghost_name t) number) → IsCleared plan m run more found
      set_left found number is asks =
          cleared_more _ found is
          (rests_so plan journal entry is.rest answered who (requests.SetCounter (ghost_name t) number) asks unlost session (λ base. refl) (of_table (find_table (ghost_name t) now.tables) (λ one. ok)) (heard_of (find_table (ghost_name t) now.tables) (λ one. ok) (λ one same. cc))
          (λ base same counters. ap (λ (d : Database). Rests (of_table (find_table (ghost_name t) d) (λ one. ok))) same))

      abbrev pub range_answer : Option TableRows → Answer
      range_answer found = of_table found (λ one. ends_of (keys_of (key_places one.schema) one.rows))

      ends_heard : (keys : List Row) → ends_of keys ≡ answers.Lost → ⊥
      ends_heard [] = λ same. cc
      ends_heard (key ∷ keys) = λ same. cc

      pub ranged_left : (found : Checkpoint) → IsCleared plan m run journal found → entry.asked ≡ Call (requests.Ends t) → IsLeft plan journal entry (range_answer (find_table t now.tables)) now.tables
      ranged_left found is asks =
          rests_so plan journal entry is.rest answered who (requests.Ends t) asks unlost session (λ base. refl) (range_answer (find_table t now.tables)) (heard_of (find_table t now.tables) (λ one. ends_of (keys_of (key_places one.schema) one.rows)) (λ one. ends_heard (keys_of (key_places one.schema) one.rows)))
          (λ base same counters. ap (λ (d : Database). Rests (range_answer (find_table t d))) same)

    -- WHAT THE TURN LEAVES

    listing_goes : IsUnchanged plan run journal → calls Insp requests.ShowTables ≡ Some (entry.actor, entry.asked) → StageFinds plan m run more (listed plan entry.answer)
    listing_goes is given =
        let who = who_asks Insp entry.actor (Call requests.ShowTables) entry.asked given in
        let left : IsLeft plan journal entry (answers.Tables (tables_shown now.tables)) now.tables = listed_left who.0 is who.1 in
        subst (λ (a : Answer). StageFinds plan m run more (listed plan a)) (sym left.answered) (unchanged_more (answers.Tables (tables_shown now.tables)) is left)

    reading_goes : (listed : Listed) → IsUnchanged plan run journal → calls Insp (reads_checkpoint plan) ≡ Some (entry.actor, entry.asked) → StageFinds plan m run more (has_read plan listed (checkpoint_in entry.answer))
    reading_goes listed is given =
        let who = who_asks Insp entry.actor (Call (reads_checkpoint plan)) entry.asked given in
        let left : IsLeft plan journal entry (answers.Rows (rows_found t log_rows)) now.tables = read_left who.0 is who.1 in
        subst (λ (a : Answer). StageFinds plan m run more (has_read plan listed (checkpoint_in a))) (sym left.answered) (by (unchanged_more (answers.Rows (rows_found t log_rows)) is left) (rows_found t log_rows) refl) where
          read : (row : Row) → IsUnchanged plan run more → checkpoint_stored t (state_at plan run).tables ≡ Some row → (found : Option Checkpoint) → checkpoint_of row ≡ found → StageFinds plan m run more (has_read plan listed found)
          read row next stored None none = next
          read row next stored (Some found) reads = clearing_finds listed found next (record { row = row; stored = stored; read = reads })

          by : IsUnchanged plan run more → (rows : List Row) → rows_found t log_rows ≡ rows → StageFinds plan m run more (has_read plan listed (checkpoint_in (answers.Rows rows)))
          by next [] none = next
          by next (row ∷ others) some = read row next (stored_first t (state_at plan run).tables log_found.0 log_found.1 log_found.2 ∙ ap first_of some) (checkpoint_of row) refl

    goes_on : IsFaithful plan more → (stage : Stage) → next plan journal stage ≡ Some (entry.actor, entry.asked) → StageFinds plan m run journal stage → StageFinds plan m run more (took plan more (state_at plan more) entry.answer stage)
    unfolding next took
    goes_on faithful Losing given is = by (first_live plan journal) given where
      by : (first : Option Actor) → cuts first ≡ Some (entry.actor, entry.asked) → StageFinds plan m run more (losing plan more)
      by None given = absurd (let no : None ≡ Some (entry.actor, entry.asked) = given in cc)
      by (Some actor) given =
          let who = who_asks actor entry.actor Cut entry.asked given in
          let same : stored (state_at plan more) ≡ stored now = cut_keeps plan journal entry unlost who.1 in
          losing_finds plan m run more (record { tables = ap (λ (s : Stored). s.tables) same ∙ is.0.tables; log = ap (λ (s : Stored). s.log) same ∙ is.0.log }) faithful (follows_more plan journal entry is.1 who.1 session)
    goes_on faithful Listing given is = listing_goes is given
    goes_on faithful (Reading listed) given is = reading_goes listed is given
    goes_on faithful (Clearing found) given is = let who = who_asks Insp entry.actor (Call (requests.Drop (old_name t))) entry.asked given in counting_finds found (cleared_left who.0 found is.0 is.1 who.1)
    goes_on faithful (ReadingCounter found) given is = let who = who_asks Insp entry.actor (Call (requests.ShowCounter t)) entry.asked given in counter_finds found entry.answer (counter_left who.0 found is who.1)
    goes_on faithful (SettingCounter found number) given is = let who = who_asks Insp entry.actor (Call (requests.SetCounter (ghost_name t) number)) entry.asked given in set_left who.0 found number is who.1
    goes_on faithful (Ranging found) given is =
        let who = who_asks Insp entry.actor (Call (requests.Ends t)) entry.asked given in
        ranged_finds (state_at plan more) found entry.answer (cleared_more _ found is (ranged_left who.0 found is who.1))
    goes_on faithful (Copying copier applier) given is = copied_finds (state_at plan more) (length more) applier copier (copiers.took (length more) copier entry.answer) (copiers.progress copier entry.answer)
    goes_on faithful (Applying applier) given is = applied_finds (state_at plan more) (length more) applier (appliers.took (length more) applier entry.answer) (appliers.progress applier entry.answer)
    goes_on faithful Exchanging given is = tt
    goes_on faithful (DroppingLog old) given is = dropped_finds old
    goes_on faithful DroppingOld given is = tt
    goes_on faithful (RollingBack row) given is = tt
    goes_on faithful Done given is = tt
    goes_on faithful (Reverted row) given is = tt

-- THE TURNS

module _ (plan : PlanData) (m : Migration) (rows : List Row) (of : IsMigrationOf plan m rows) (run : List Entry) (work : Work) (kept : IsKept plan run) (off : IsUnaltered plan run) (phase : (moment plan run).tool.tool_phase ≡ Migrating work) where
  -- after some turns of the new tool
  record Stands (journal : List Entry) : Type 0 where
    turns : List Entry
    is : journal ≡ run ++ turns
    faithful : IsFaithful plan journal
    finds : StageFinds plan m run journal (stage_behind plan run turns)

  abbrev Answered : List Entry → Entry → Type 0
  Answered before entry = IsAnswered (state_at plan before) entry

  abbrev Keeps : List Entry → Entry → Type 0
  Keeps before entry = IsFinishTurn plan run before entry × IsAnswered (state_at plan before) entry

  stands_more : (journal : List Entry) (entry : Entry) → Keeps journal entry → Stands journal → Stands (journal ++ entry ∷ [])
  stands_more journal entry keeps stands =
      let stage : drop (length run) journal ≡ stands.turns = ap (drop (length run)) stands.is ∙ drop-append_seam run stands.turns in
      let given : next plan journal (stage_behind plan run stands.turns) ≡ Some (entry.actor, entry.asked) = subst (λ (l : List Entry). next plan journal (stage_behind plan run l) ≡ Some (entry.actor, entry.asked)) stage keeps.0.given in
      let faithful : IsFaithful plan (journal ++ entry ∷ []) = Along-more Answered [] journal entry stands.faithful keeps.1 in
      record {
        turns = stands.turns ++ entry ∷ [];
        is = ap (λ (l : List Entry). l ++ entry ∷ []) stands.is ∙ append_assoc run stands.turns (entry ∷ []);
        faithful = faithful;
        finds =
            subst (λ (s : Stage). StageFinds plan m run (journal ++ entry ∷ []) s)
            (ap (λ (l : List Entry). took plan (l ++ entry ∷ []) (state_at plan (l ++ entry ∷ [])) entry.answer (stage_behind plan run stands.turns)) stands.is ∙ sym (stage_more plan run stands.turns entry))
            (goes_on plan m rows of run work kept off phase journal entry keeps.1 keeps.0.session keeps.0.side faithful (stage_behind plan run stands.turns) given stands.finds);
      }

  stands_begins : IsFaithful plan run → Stands run
  unfolding stage_behind
  stands_begins faithful = record { turns = []; is = sym (append-nil run); faithful = faithful; finds = losing_finds plan m run run (record { tables = refl; log = refl }) faithful kept.follows }

  stands_all : (turns : List Entry) → IsFaithful plan (run ++ turns) → IsFinish plan run turns → Stands (run ++ turns)
  unfolding IsFinish
  stands_all turns faithful finish =
      Along-keeps Keeps Stands stands_more run turns (Along-both (IsFinishTurn plan run) Answered run turns finish (Along-rest Answered [] run turns faithful)) (stands_begins (along_front Answered [] run turns faithful))

  same_turns : (turns other : List Entry) → run ++ turns ≡ run ++ other → other ≡ turns
  same_turns turns other same = sym (sym (drop-append_seam run turns) ∙ ap (drop (length run)) same ∙ drop-append_seam run other)

  pub stages_found : (turns : List Entry) → IsFaithful plan (run ++ turns) → IsFinish plan run turns → StageFinds plan m run (run ++ turns) (stage_behind plan run turns)
  stages_found turns faithful finish =
      let stands : Stands (run ++ turns) = stands_all turns faithful finish in
      subst (λ (l : List Entry). StageFinds plan m run (run ++ turns) (stage_behind plan run l)) (same_turns turns stands.turns stands.is) stands.finds

  -- the last turn
  pub record IsLast (turns : List Entry) (entry : Entry) : Type 0 where
    pub finds : StageFinds plan m run (run ++ turns) (stage_behind plan run turns)
    pub given : next plan (run ++ turns) (stage_behind plan run turns) ≡ Some (entry.actor, entry.asked)
    pub answered : IsAnswered (state_at plan (run ++ turns)) entry
    pub session : IsInSession (run ++ turns) entry entry.asked (live_session (run ++ turns) entry.actor)
    pub side : entry.side ≡ None

  pub last_turn : (turns : List Entry) (entry : Entry) → IsFaithful plan (run ++ (turns ++ entry ∷ [])) → IsFinish plan run (turns ++ entry ∷ []) → IsLast turns entry
  unfolding IsFinish
  last_turn turns entry faithful finish =
      let all : IsFaithful plan ((run ++ turns) ++ entry ∷ []) = subst (IsFaithful plan) (sym (append_assoc run turns (entry ∷ []))) faithful in
      let turn : IsFinishTurn plan run (run ++ turns) entry = along_next (IsFinishTurn plan run) run turns entry [] finish in
      record {
        finds = stages_found turns (along_front Answered [] (run ++ turns) (entry ∷ []) all) (along_front (IsFinishTurn plan run) run turns (entry ∷ []) finish);
        given = subst (λ (l : List Entry). next plan (run ++ turns) (stage_behind plan run l) ≡ Some (entry.actor, entry.asked)) (drop-append_seam run turns) turn.given;
        answered = along_next Answered [] (run ++ turns) entry [] all;
        session = turn.session;
        side = turn.side;
      }

  read_answers : (turns : List Entry) (entry : Entry) (listed : Listed) → stage_behind plan run turns ≡ Reading listed → IsLast turns entry → (row : Row) → checkpoint_stored plan.table (state_at plan run).tables ≡ Some row → (others : List Row) × (entry.answer ≡ answers.Rows (row ∷ others))
  unfolding next
  read_answers turns entry listed stage last row stored = by (rows_found plan.table rows_there) refl where
    log : (table : TableRows) × (find_table (log_name plan.table) (state_at plan run).tables ≡ Some table) × (table.schema ≡ log_schema plan.table)
    log = log_found plan m rows of run work kept off phase

    rows_there : List Row
    rows_there = log.0.rows

    is : IsUnchanged plan run (run ++ turns)
    is = subst (StageFinds plan m run (run ++ turns)) stage last.finds

    who : (entry.actor ≡ Insp) × (entry.asked ≡ Call (reads_checkpoint plan))
    who = who_asks Insp entry.actor (Call (reads_checkpoint plan)) entry.asked (subst (λ (s : Stage). next plan (run ++ turns) s ≡ Some (entry.actor, entry.asked)) stage last.given)

    left : IsLeft plan (run ++ turns) entry (answers.Rows (rows_found plan.table rows_there)) (state_at plan (run ++ turns)).tables
    left = read_left plan m rows of run work kept off phase (run ++ turns) entry last.answered last.session last.side who.0 is who.1

    first : first_of (rows_found plan.table rows_there) ≡ Some row
    first = sym (stored_first plan.table (state_at plan run).tables log.0 log.1 log.2) ∙ stored

    by : (rows : List Row) → rows_found plan.table rows_there ≡ rows → (others : List Row) × (entry.answer ≡ answers.Rows (row ∷ others))
    by [] none = absurd (let no : None ≡ Some row = sym (ap first_of none) ∙ first in cc)
    by (one ∷ others) some =
        let same : Some one ≡ Some row = sym (ap first_of some) ∙ first in
        let one_row : one ≡ row = cc in
        (others, left.answered ∙ ap answers.Rows some ∙ ap (λ (r : Row). answers.Rows (r ∷ others)) one_row)

-- *Stages find.*
pub stages_find : StagesFind
stages_find plan m rows of run work kept off phase turns faithful finish = stages_found plan m rows of run work kept off phase turns faithful finish

-- *Reads answer the checkpoint.*
pub reads_answer : ReadsAnswerCheckpoint
reads_answer plan m rows of run work kept off phase turns entry listed stage faithful finish row stored =
    read_answers plan m rows of run work kept off phase turns entry listed stage (last_turn plan m rows of run work kept off phase turns entry faithful finish) row stored
