-- What a turn leaves of what is stored and held, where it writes no row of the new table.
use Rattle.server_model.specs.Drawing.{filled}
use Rattle.server_model.proofs.Filling.{filled_case, filled_taking, filled_exclusive, numbered_table}
use Rattle.server_model.specs.States.{is_of_tool, is_exclusive, session_of}
use Rattle.std.proofs.Common.{◌≡◌, ℕ, Bool, true, false, cond, List, [], ◌∷◌, ◌++◌, Option, Some, None, Result, Ok, Err, refl, sym, ap, ◌∙◌, subst}
use Rattle.std.specs.Prelude.{◌==◌}
use Rattle.std.specs.List.{list_any}
use Rattle.std.specs.Str.{bytes_eq}
use Rattle.std.proofs.lemmas.List.{append-nil}
use Rattle.base_values.specs.declared.event.RowEvent.{RowEvent}
use Rattle.base_values.specs.declared.mysql_errors.TheConstants.{ER_TABLE_NOT_LOCKED}
use Rattle.server_locks.specs.declared.row_locks.lock.Lock.{Lock}
use Rattle.table_store.specs.Databases.{Database, TableRows, find_table, has_table, rename_tables}
use Rattle.base_script.specs.declared.actor.Side.{Side}
use Rattle.server_model.specs.declared.answer.Answer.{Answer}
use Rattle.server_model.specs.declared.answer.Answer.TheVariants as answers
use Rattle.server_model.specs.declared.entry.Asked.{Asked}
use Rattle.server_model.specs.declared.entry.Asked.TheVariants.{Cut}
use Rattle.server_model.specs.declared.entry.Entry.{Entry}
use Rattle.server_model.specs.declared.need.Need.{Need}
use Rattle.server_model.specs.declared.request.Request.{Request}
use Rattle.server_model.specs.declared.request.Request.TheVariants as requests
use Rattle.server_model.specs.declared.session.Limits.{Limits}
use Rattle.server_model.specs.Answers.{ok, refuses}
use Rattle.server_model.specs.Effects.{Effect, all_exist, begins, created, effect, effect_within, defined, dropped, locks_if, nothing_needed, renamed_or}
use Rattle.server_model.specs.Effects.Effect.{Rests, Grows, Writes, Forgets, Moves, Locks, Unlocks}
use Rattle.server_model.specs.Entries.{is_cut}
use Rattle.server_model.specs.Operations.{Operation, after_events, copy_operation, operation_needs, operation_of, operation_result, result_in, table_of}
use Rattle.server_model.specs.Blockers.{need_within}
use Rattle.server_model.specs.StatementResults.{tells}
use Rattle.server_model.specs.States.{State}
use Rattle.tool_program.specs.JournalWords.Journals.{may_lose, opens}
use Rattle.server_model.specs.LockedRows.Agreement.{Within}
use Rattle.server_model.specs.LockedRows.Coverage.{Apart}
use Rattle.server_model.specs.LockedRows.Databases.{IsWellFormedDatabase, TaskSound}
use Rattle.server_model.proofs.LockedRows.Points.{within-itself, within-left, within-right}
use Rattle.server_model.proofs.LockedRows.Stables.{statement_sound}
use Rattle.server_model.proofs.LockedRows.Tests.{same_number}
use Rattle.proof_journals.specs.Scenes.{Besides, Scene, SessionHold, no_hold}
use Rattle.proof_journals.specs.Holdings.{face_of, stored}
use Rattle.proof_journals.specs.Turns.{IsSceneRun, IsReported, about, scene_state, reported_at}
use Rattle.proof_journals.proofs.Answering.{apart_both}
use Rattle.proof_journals.proofs.Kept.{apart-turn}
use Rattle.proof_journals.proofs.Tooling.{copies_sound, names_two}
use Rattle.proof_journals.proofs.Words.{names_last, names_left}
use Rattle.proof_journals.specs.Ghost.Rows.Timelines.{Migration}
use Rattle.proof_journals.specs.Ghost.Given.{IsGiven}
use Rattle.proof_journals.specs.Ghost.Invariant.{IsServed, NotOf}
use Rattle.proof_journals.specs.Ghost.EffectStates.{EffectLeaves, effect_answer, is_lost, reported_done, undone_hold, unless_lost, was_done, where_done, with_grant}
use Rattle.proof_journals.proofs.Ghost.Fitting.{well_formed_events}
use Rattle.proof_journals.proofs.Ghost.Granting.{operation_served}
use Rattle.proof_journals.proofs.Ghost.Leaving.{effects_are_done, holds_of}
use Rattle.proof_journals.proofs.Ghost.Turns.{along_next, run_front, writes_fit}
use Rattle.proof_journals.proofs.Ghost.Undone.{cuts_are_left, effects_answer, undone_is_left}
use Rattle.proof_migration.proofs.Migration.Copier.Rows.{not_of}
use Rattle.proof_migration.proofs.Migration.Copier.Served.{Deeded, deeded, seen_of}
use Rattle.proof_migration.proofs.Migration.Copier.Served.Deeded.{outside_so, within_so}
use Rattle.proof_migration.proofs.Migration.Granted.{needs_apart, nothing_asked}

-- WHAT IS WRITTEN

pub not_both : (name : List ℕ) (a b : List RowEvent) → NotOf name a → NotOf name b → NotOf name (a ++ b)
not_both name [] b one two = two
not_both name (event ∷ a) b one two = (one.0, not_both name a b one.1 two)

says_away : (name : List ℕ) (seen : Database) (operation : Operation) → bytes_eq operation.table name ≡ false → NotOf name (operation_result seen operation).events
unfolding operation_result
says_away name seen operation differ = at (find_table operation.table seen)
  where
    at : (found : Option TableRows) → NotOf name (result_in operation found).events
    at None = tt
    at (Some table) = not_of name operation.table (tells table.schema table.rows (operation.work table.schema)).changes differ

-- what is written is of no row of the new table
abbrev pub WritesAway : Migration → Request → Type 0
WritesAway m (requests.Do statement) = bytes_eq (table_of statement) m.new.name ≡ false
WritesAway m (requests.CopyRow from into map key) = bytes_eq into m.new.name ≡ false
WritesAway m request = Unit {0}

-- these tables are made of the others by what is asked; a RENAME was told to be done
abbrev pub IsMoved : Option Answer → Database → Request → Database → Type 0
IsMoved reported tables (requests.Create schema) made = created (has_table schema.name tables) schema tables ≡ Ok made
IsMoved reported tables (requests.Drop name) made = dropped (has_table name tables) name tables ≡ Ok made
IsMoved reported tables (requests.Rename pairs) made = (reported ≡ Some ok) × (renamed_or (rename_tables pairs tables) ≡ Ok made)
IsMoved reported tables request made = ⊥

module _ (m : Migration) (limits : Limits) (scene : Scene) (journal : List Entry) (entry : Entry) (more : IsSceneRun limits scene (journal ++ entry ∷ [])) where
  abbrev before : State
  before = scene_state limits scene journal

  abbrev after : State
  after = scene_state limits scene (journal ++ entry ∷ [])

  abbrev number : ℕ
  number = entry.session

  abbrev own : SessionHold
  own = holds_of before number

  abbrev reported_now : Option Answer
  reported_now = reported_at entry.side entry.answer entry.missed

  -- what is to be shown of it: it stores nothing, commits what a session wrote, or makes, drops or renames tables
  pub record Cases (Goal : Type 0) : Type 0 where
    pub holds : (held : SessionHold) → NotOf m.new.name held.writes → stored after ≡ stored before → Besides number (holds_of before) (holds_of after) held → Goal
    pub commits : (middle : ℕ → SessionHold) (held : SessionHold) → Besides number (holds_of before) middle held → IsServed (stored before) middle → NotOf m.new.name (middle number).writes → (stored after).tables ≡ after_events before.tables (middle number).writes → (stored after).log ≡ before.log ++ (middle number).writes
        → Besides number middle (holds_of after) no_hold → Goal
    pub moves : (request : Request) (tables : Database) (held : SessionHold) → about (opens entry before) number entry.asked ≡ Some request → IsMoved reported_now before.tables request tables → (stored after).tables ≡ tables → (stored after).log ≡ before.log → NotOf m.new.name held.writes → Besides number (holds_of before) (holds_of after) held → Goal

  module _ (sides : may_lose entry.asked ≡ false → entry.side ≡ None) (own_away : NotOf m.new.name own.writes) (writes_away : (request : Request) → about (opens entry before) number entry.asked ≡ Some request → WritesAway m request) (Goal : Type 0) (cases : Cases Goal) where
    run : IsSceneRun limits scene journal
    run = run_front limits scene journal (entry ∷ []) more

    entry_reported : IsReported limits scene journal entry
    entry_reported = along_next (IsReported limits scene) [] journal entry [] more.reported

    served : IsServed (stored before) (holds_of before)
    served = writes_fit limits scene journal run

    lost_away : (b : Bool) (held : SessionHold) → NotOf m.new.name held.writes → NotOf m.new.name (unless_lost b held).writes
    lost_away true held none = tt
    lost_away false held none = none

    -- a session that is lost between calls, and an entry about nothing
    cut_goal : is_cut entry.asked ≡ true → may_lose entry.asked ≡ false → Goal
    cut_goal is no_side = let left = cuts_are_left limits scene journal entry is (sides no_side) in cases.holds no_hold tt left.0 left.1

    nothing_goal : about (opens entry before) number entry.asked ≡ None → is_cut entry.asked ≡ false → Goal
    nothing_goal none uncut = let left = nothing_asked limits scene journal entry none uncut in cases.holds (unless_lost (is_lost entry.side) own) (lost_away (is_lost entry.side) own own_away) left.stays left.besides

    module _ (request : Request) (asked : about (opens entry before) number entry.asked ≡ Some request) (uncut : is_cut entry.asked ≡ false) where
      -- what was not done
      undone : reported_done (reported_at entry.side entry.answer entry.missed) ≡ false → Goal
      undone none =
          let left = undone_is_left limits scene journal entry request run entry_reported uncut asked none in
          cases.holds (undone_hold entry.side entry.answer own) (held entry.side entry.answer) left.0 left.1
        where
          held : (side : Option Side) (answer : Answer) → NotOf m.new.name (undone_hold side answer own).writes
          held None (answers.Waits by) = own_away
          held None answer = tt
          held (Some side) answer = tt

      -- the request, filled
      abbrev full : Request
      full = filled (opens entry before) number request

      abbrev effect_now : Effect
      effect_now = effect (where_done entry.asked number (opens entry before)) number full

      abbrev lost : Bool
      lost = is_lost entry.side

      abbrev seen : Database
      seen = seen_of before number

      abbrev the_need : Need
      the_need = need_within seen full

      module _ (given : Answer) (reported : reported_at entry.side entry.answer entry.missed ≡ Some given) (done : was_done given ≡ true) where
        left : EffectLeaves effect_now lost number (stored before) (stored after) (holds_of before) (holds_of after)
        left = effects_are_done limits scene journal entry request given run entry_reported asked reported done

        says_so : given ≡ effect_answer effect_now
        says_so = effects_answer limits scene journal entry request given run entry_reported asked reported done

        left_as : (one : Effect) → effect_now ≡ one → EffectLeaves one lost number (stored before) (stored after) (holds_of before) (holds_of after)
        left_as one is = subst (λ (d : Effect). EffectLeaves d lost number (stored before) (stored after) (holds_of before) (holds_of after)) is left

        by_rests : (answer : Answer) → effect_now ≡ Rests answer → Goal
        by_rests answer is = let all = left_as (Rests answer) is in cases.holds (unless_lost lost own) (lost_away lost own own_away) all.0 all.1

        by_forgets : (answer : Answer) → effect_now ≡ Forgets answer → Goal
        by_forgets answer is = let all = left_as (Forgets answer) is in cases.holds no_hold tt all.0 all.1

        by_locks : (answer : Answer) (names : List (List ℕ)) → effect_now ≡ Locks answer names → Goal
        by_locks answer names is = let all = left_as (Locks answer names) is in cases.holds (unless_lost lost own) (lost_away lost own own_away) all.0 all.1

        by_unlocks : (answer : Answer) → effect_now ≡ Unlocks answer → Goal
        by_unlocks answer is = let all = left_as (Unlocks answer) is in cases.holds (unless_lost lost own) (lost_away lost own own_away) all.0 all.1

        by_grows : (answer : Answer) (need : Need) (events : List RowEvent) → NotOf m.new.name events → effect_now ≡ Grows answer need events → Goal
        by_grows answer need events none is =
            let all = left_as (Grows answer need events) is in
            cases.holds (unless_lost lost (with_grant own need events)) (lost_away lost (with_grant own need events) (not_both m.new.name own.writes events own_away none)) all.0 all.1

        -- what was written is committed
        by_commit : (answer : Answer) → effect_now ≡ Writes answer [] → Goal
        by_commit answer is =
            let all = left_as (Writes answer []) is in
            let tables : (stored after).tables ≡ after_events before.tables own.writes = all.0 ∙ ap (λ (w : List RowEvent). after_events before.tables w) (append-nil own.writes) in
            let log : (stored after).log ≡ before.log ++ own.writes = all.1 ∙ ap (λ (w : List RowEvent). before.log ++ w) (append-nil own.writes) in
            cases.commits (holds_of before) own (record { there = λ n differ. refl; here = refl }) served own_away tables log all.2

        -- a job that is granted outside a transaction is committed at once
        module _ (answer : Answer) (operation : Operation) (sound : TaskSound operation seen) (named : list_any (bytes_eq operation.table) (own.names ++ the_need.names) ≡ true) (needs_it : operation_needs seen operation ≡ the_need.locks) (other : bytes_eq operation.table m.new.name ≡ false) (is : effect_now ≡ Writes answer (operation_result seen operation).events) where
          abbrev single : SessionHold
          single = with_grant own the_need (operation_result seen operation).events

          abbrev middle : ℕ → SessionHold
          middle n = cond (n == number) single (holds_of before n)

          middle_there : (n : ℕ) → (n == number) ≡ false → middle n ≡ holds_of before n
          middle_there n differ = rw differ refl

          middle_here : middle number ≡ single
          middle_here = rw (same_number number) refl

          apart : (n : ℕ) → (n == number) ≡ false → Apart single.locks (holds_of before n).locks
          apart n differ = apart_both own.locks the_need.locks (holds_of before n).locks (apart-turn (holds_of before n).locks own.locks (served.apart n number differ)) (needs_apart limits scene journal entry request given run entry_reported asked reported done n differ)

          gives : IsGiven (stored before) (holds_of before) number operation single
          gives =
              record {
                kept = within-left own.locks own.locks the_need.locks (within-itself own.locks);
                needed = subst (λ (l : List Lock). Within l (own.locks ++ the_need.locks)) (sym needs_it) (within-right the_need.locks own.locks the_need.locks (within-itself the_need.locks));
                apart = apart;
                wrote = refl;
              }

          single_away : NotOf m.new.name single.writes
          single_away = not_both m.new.name own.writes (operation_result seen operation).events own_away (says_away m.new.name seen operation other)

          single_besides : Besides number (holds_of before) middle single
          single_besides = record { there = middle_there; here = middle_here }

          by_single : Goal
          by_single =
              let all = left_as (Writes answer (operation_result seen operation).events) is in
              cases.commits middle single single_besides (operation_served (stored before) (holds_of before) middle number operation single served sound gives (names_left own.names the_need.names) named single_besides)
              (subst (λ (h : SessionHold). NotOf m.new.name h.writes) (sym middle_here) single_away) (all.0 ∙ ap (λ (h : SessionHold). after_events before.tables h.writes) (sym middle_here))
              (all.1 ∙ ap (λ (h : SessionHold). before.log ++ h.writes) (sym middle_here)) (record { there = λ n differ. (all.2).there n differ ∙ sym (middle_there n differ); here = (all.2).here })

        -- tables are made, dropped or renamed
        by_moves : (answer : Answer) (tables : Database) → IsMoved reported_now before.tables request tables → effect_now ≡ Moves answer tables → Goal
        by_moves answer tables moved is = let all = left_as (Moves answer tables) is in cases.moves request tables (unless_lost lost own) asked moved all.0 all.1 (lost_away lost own own_away) all.2

        by_defined : (tables : Result Database ℕ) → ((all : Database) → tables ≡ Ok all → IsMoved reported_now before.tables request all) → effect_now ≡ defined tables → Goal
        by_defined (Ok tables) moved is = by_moves ok tables (moved tables refl) is
        by_defined (Err reason) moved is = by_rests (refuses reason) is

        as_asked : (asks : Request) → asks ≡ full → is_exclusive asks ≡ true → (tables : Database) → IsMoved reported_now before.tables asks tables → IsMoved reported_now before.tables request tables
        as_asked asks same takes tables moved = subst (λ (r : Request). IsMoved reported_now before.tables r tables) (same ∙ is_full) moved where
          now : State
          now = opens entry before

          is_full : full ≡ request
          is_full =
              filled_taking (is_of_tool (session_of number now.sessions)) now.tables now.counters request
              (sym (filled_exclusive (is_of_tool (session_of number now.sessions)) now.tables now.counters request) ∙ ap is_exclusive (sym same) ∙ takes)

        view_sound : (P : Database → Type 0) → ((d : Database) → IsWellFormedDatabase d → P d) → P seen
        view_sound P each = each seen (well_formed_events before.tables own.writes served.well_formed (served.fits number))

        -- by what is asked
        by_request : (asks : Request) → asks ≡ full → WritesAway m asks → (busy : Bool) (there : State) → there.tables ≡ before.tables → effect_now ≡ effect_within busy seen there asks → Goal
        by_request requests.Begin asks away busy there same is = by_grows ok nothing_needed [] tt is
        by_request requests.Commit asks away busy there same is = by_commit ok is
        by_request requests.Rollback asks away busy there same is = by_forgets ok is
        by_request (requests.Do statement) asks away true there same is = by_grows _ (need_within seen (requests.Do statement)) _ (says_away m.new.name seen (operation_of statement) away) is
        by_request (requests.Do statement) asks away false there same is =
            by_single (operation_result seen (operation_of statement)).answer (operation_of statement) (view_sound (λ d. TaskSound (operation_of statement) d) (λ d well_formed. statement_sound d statement well_formed))
            (subst (λ (r : Request). list_any (bytes_eq (table_of statement)) (own.names ++ (need_within seen r).names) ≡ true) asks (names_last own.names (table_of statement))) (ap (λ (r : Request). (need_within seen r).locks) asks) away is
        by_request (requests.Ends table) asks away busy there same is = by_rests _ is
        by_request (requests.ChunkEnd table low top size) asks away busy there same is = by_rests _ is
        by_request (requests.BeginSpan table span size) asks away busy there same is = by_found (find_table table there.tables) is
          where
            by_found : (found : Option TableRows) → effect_now ≡ begins found span size (need_within seen (requests.BeginSpan table span size)) → Goal
            by_found None so = by_rests _ so
            by_found (Some t) so = by_grows _ (need_within seen (requests.BeginSpan table span size)) [] tt so
        by_request (requests.CopyRow from into columns key) asks away true there same is = by_grows _ (need_within seen (requests.CopyRow from into columns key)) _ (says_away m.new.name seen (copy_operation seen from into columns key) away) is
        by_request (requests.CopyRow from into columns key) asks away false there same is =
            by_single (operation_result seen (copy_operation seen from into columns key)).answer (copy_operation seen from into columns key) (view_sound (λ d. TaskSound (copy_operation d from into columns key) d) (λ d well_formed. copies_sound d from into columns key well_formed))
            (subst (λ (r : Request). list_any (bytes_eq into) (own.names ++ (need_within seen r).names) ≡ true) asks (names_two own.names from into)) (ap (λ (r : Request). (need_within seen r).locks) asks) away is
        by_request (requests.LockTables names) asks away busy there same is = by_all (all_exist names there.tables) is
          where
            by_all : (b : Bool) → effect_now ≡ locks_if b names → Goal
            by_all true so = by_locks ok names so
            by_all false so = by_rests _ so
        by_request requests.Unlock asks away busy there same is = by_unlocks ok is
        by_request (requests.Create schema) asks away busy there same is =
            by_defined (created (has_table schema.name there.tables) schema there.tables) (λ all so. as_asked (requests.Create schema) asks refl all (subst (λ (d : Database). created (has_table schema.name d) schema d ≡ Ok all) same so)) is
        by_request (requests.Drop name) asks away busy there same is =
            by_defined (dropped (has_table name there.tables) name there.tables) (λ all so. as_asked (requests.Drop name) asks refl all (subst (λ (d : Database). dropped (has_table name d) name d ≡ Ok all) same so)) is
        by_request (requests.Rename pairs) asks away busy there same is = by_result (renamed_or (rename_tables pairs there.tables)) refl is
          where
            by_result : (result : Result Database ℕ) → renamed_or (rename_tables pairs there.tables) ≡ result → effect_now ≡ defined result → Goal
            by_result (Ok made) made_so so =
                by_moves ok made (as_asked (requests.Rename pairs) asks refl made (reported ∙ ap (λ (a : Answer). Some a) (says_so ∙ ap effect_answer so), subst (λ (d : Database). renamed_or (rename_tables pairs d) ≡ Ok made) same made_so)) so
            by_result (Err reason) made_so so = by_rests (refuses reason) so
        by_request requests.LogEnd asks away busy there same is = by_rests _ is
        by_request (requests.ReadLog from limit tables) asks away busy there same is = by_rests _ is
        by_request requests.ShowTables asks away busy there same is = by_rests _ is
        by_request requests.ShowWaiting asks away busy there same is = by_rests _ is
        by_request (requests.ShowCounter table) asks away busy there same is = by_rests _ is
        by_request (requests.SetCounter table least) asks away busy there same is = by_rests _ is

        done_goal : Goal
        done_goal = by (deeded entry before full)
          where
            full_away : WritesAway m full
            full_away =
                filled_case (λ asks filled_one. WritesAway m asks → WritesAway m filled_one) (λ r off. off) (λ statement n off. subst (λ (t : List ℕ). bytes_eq t m.new.name ≡ false) (sym (numbered_table n statement)) off)
                (is_of_tool (session_of number (opens entry before).sessions)) (opens entry before).tables (opens entry before).counters request (writes_away request asked)

            by : Deeded before number full effect_now → Goal
            by (outside_so is) = by_rests (refuses ER_TABLE_NOT_LOCKED) is
            by (within_so there same log is) = by_request full refl full_away (face_of before.sessions number).busy there same is

      reported_goal : (given : Option Answer) → reported_at entry.side entry.answer entry.missed ≡ given → (b : Bool) → reported_done given ≡ b → Goal
      reported_goal given reported false none = undone (ap reported_done reported ∙ none)
      reported_goal None reported true done = absurd (let no : false ≡ true = done in cc)
      reported_goal (Some given) reported true done = done_goal given reported done

      asked_goal : Goal
      asked_goal = reported_goal (reported_at entry.side entry.answer entry.missed) refl (reported_done (reported_at entry.side entry.answer entry.missed)) refl

    uncut_goal : is_cut entry.asked ≡ false → (asks : Option Request) → about (opens entry before) number entry.asked ≡ asks → Goal
    uncut_goal uncut None asked = nothing_goal asked uncut
    uncut_goal uncut (Some request) asked = asked_goal request asked uncut

    -- *One of these is what the turn leaves*
    pub turn_leaves : Goal
    turn_leaves = by entry.asked refl
      where
        by : (asks : Asked) → entry.asked ≡ asks → Goal
        by Cut is = cut_goal (ap is_cut is) (ap may_lose is)
        by asks is = uncut_goal (ap is_cut is) (about (opens entry before) number entry.asked) refl
