-- What is judged, one at a time.
use Rattle.std.proofs.Common.{◌≡◌, ℕ, Bool, true, false, List, [], ◌∷◌, ◌++◌, cond, Option, Some, None, refl, sym, ap, ◌∙◌, append-nil, append_assoc}
use Rattle.std.specs.Prelude.{option_to_list}
use Rattle.table_store.specs.Databases.{Database, database}
use Rattle.plan_data.specs.PlanData.{PlanData}
use Rattle.server_model.specs.declared.transaction.Reply.{Reply}
use Rattle.server_model.specs.declared.transaction.TxnLine.{TxnLine}
use Rattle.server_model.specs.Alone.{Ran, alone, lines_run, nothing_ran, outcome_if, stays}
use Rattle.tool_program.specs.JournalWords.Histories.{Past}
use Rattle.tool_program.specs.JournalWords.Serials.{altered_database}
use Rattle.proof_journals.specs.Machine.MigrationTables.{schema_of}
use Rattle.proof_journals.proofs.Machine.Schemas.{schema_events}
use Rattle.run_audit.specs.Audits.{Judged, Ended, Altered, after_alter, least, least_with, mismatches, opening_tables, or_these, tables_reached, wrong_turns}
use Rattle.run_auditor.specs.declared.judge.Judge.{Judge}
use Rattle.run_judge.specs.declared.trace_client.RepliedTxn.{RepliedTxn}
use Rattle.run_auditor.specs.Judging.{IsJudging, IsPlanned, or_stops, stops}
use Rattle.run_judge.specs.Replies.{replies_of, turns_of}
use Rattle.run_judge.specs.TraceClients.{AreJudged}
use Rattle.run_judge.proofs.LeastTurns.{least-nil, least_more, least_turned}

-- ---- one after the other

wrong_group : (turns rest : List ℕ) (b : Bool) (more : List ℕ) → turns ++ (rest ++ cond b [] more) ≡ (turns ++ rest) ++ cond b [] more
wrong_group turns rest b more = sym (append_assoc turns rest (cond b [] more))

wrong_altered : (plan : PlanData) (turn : ℕ) (items more : List Judged) (found : Option Database)
    → ((tables : Database) → wrong_turns plan tables (items ++ more) ≡ wrong_turns plan tables items ++ cond (stops plan tables items) [] (wrong_turns plan (tables_reached plan tables items) more)) → (tables : Database)
    → after_alter turn (λ after. wrong_turns plan after (items ++ more)) found
    ≡ after_alter turn (λ after. wrong_turns plan after items) found ++ cond (or_stops (λ after. stops plan after items) found) [] (wrong_turns plan (or_these (λ after. tables_reached plan after items) tables found) more)
wrong_altered plan turn items more None rest tables = refl
wrong_altered plan turn items more (Some after) rest tables = rest after

pub wrong_turns-append : (plan : PlanData) (tables : Database) (items more : List Judged) → wrong_turns plan tables (items ++ more) ≡ wrong_turns plan tables items ++ cond (stops plan tables items) [] (wrong_turns plan (tables_reached plan tables items) more)
unfolding wrong_turns tables_reached stops
wrong_turns-append plan tables [] more = refl
wrong_turns-append plan tables (Ended past turns ∷ items) more =
    ap (λ (rest : List ℕ). mismatches turns past.replies (alone tables past.txn.lines).replies ++ rest) (wrong_turns-append plan (alone tables past.txn.lines).tables items more)
    ∙ wrong_group (mismatches turns past.replies (alone tables past.txn.lines).replies) (wrong_turns plan (alone tables past.txn.lines).tables items) (stops plan (alone tables past.txn.lines).tables items)
    (wrong_turns plan (tables_reached plan (alone tables past.txn.lines).tables items) more)
wrong_turns-append plan tables (Altered turn ∷ items) more = wrong_altered plan turn items more (altered_database plan tables) (λ some. wrong_turns-append plan some items more) tables

reached_altered : (plan : PlanData) (items more : List Judged) (found : Option Database) → ((tables : Database) → tables_reached plan tables (items ++ more) ≡ cond (stops plan tables items) (tables_reached plan tables items) (tables_reached plan (tables_reached plan tables items) more))
    → (tables : Database) → or_these (λ after. tables_reached plan after (items ++ more)) tables found
    ≡ cond (or_stops (λ after. stops plan after items) found) (or_these (λ after. tables_reached plan after items) tables found) (tables_reached plan (or_these (λ after. tables_reached plan after items) tables found) more)
reached_altered plan items more None rest tables = refl
reached_altered plan items more (Some after) rest tables = rest after

pub tables_reached-append : (plan : PlanData) (tables : Database) (items more : List Judged) → tables_reached plan tables (items ++ more) ≡ cond (stops plan tables items) (tables_reached plan tables items) (tables_reached plan (tables_reached plan tables items) more)
unfolding tables_reached stops
tables_reached-append plan tables [] more = refl
tables_reached-append plan tables (Ended past turns ∷ items) more = tables_reached-append plan (alone tables past.txn.lines).tables items more
tables_reached-append plan tables (Altered turn ∷ items) more = reached_altered plan items more (altered_database plan tables) (λ some. tables_reached-append plan some items more) tables

stops_altered : (plan : PlanData) (items more : List Judged) (found : Option Database) → ((tables : Database) → stops plan tables (items ++ more) ≡ cond (stops plan tables items) true (stops plan (tables_reached plan tables items) more)) → (tables : Database)
    → or_stops (λ after. stops plan after (items ++ more)) found ≡ cond (or_stops (λ after. stops plan after items) found) true (stops plan (or_these (λ after. tables_reached plan after items) tables found) more)
stops_altered plan items more None rest tables = refl
stops_altered plan items more (Some after) rest tables = rest after

pub stops-append : (plan : PlanData) (tables : Database) (items more : List Judged) → stops plan tables (items ++ more) ≡ cond (stops plan tables items) true (stops plan (tables_reached plan tables items) more)
unfolding tables_reached stops
stops-append plan tables [] more = refl
stops-append plan tables (Ended past turns ∷ items) more = stops-append plan (alone tables past.txn.lines).tables items more
stops-append plan tables (Altered turn ∷ items) more = stops_altered plan items more (altered_database plan tables) (λ some. stops-append plan some items more) tables

-- ---- nothing yet

pub none_judged : (plan : PlanData) (judge : Judge) → judge.worst ≡ None → database judge.storage.tables ≡ opening_tables plan → judge.is_over ≡ false → IsJudging plan [] judge
unfolding wrong_turns tables_reached stops
none_judged plan judge worst tables over = record { worst = worst ∙ sym least-nil; tables = tables; over = over }

-- ---- where the ALTER couldn't be done

pub over_judging : (plan : PlanData) (items more : List Judged) (judge : Judge) → IsJudging plan items judge → judge.is_over ≡ true → IsJudging plan (items ++ more) judge
over_judging plan items more judge is over =
    let stopped : stops plan (opening_tables plan) items ≡ true = sym is.over ∙ over in
    record {
      worst = is.worst
          ∙ ap least (sym (wrong_turns-append plan (opening_tables plan) items more ∙ ap (λ (b : Bool). wrong_turns plan (opening_tables plan) items ++ cond b [] (wrong_turns plan (tables_reached plan (opening_tables plan) items) more)) stopped ∙ append-nil (wrong_turns plan (opening_tables plan) items)));
      tables = is.tables
          ∙ sym (tables_reached-append plan (opening_tables plan) items more ∙ ap (λ (b : Bool). cond b (tables_reached plan (opening_tables plan) items) (tables_reached plan (tables_reached plan (opening_tables plan) items) more)) stopped);
      over = over ∙ sym (stops-append plan (opening_tables plan) items more ∙ ap (λ (b : Bool). cond b true (stops plan (tables_reached plan (opening_tables plan) items) more)) stopped);
    }

-- ---- where it goes on

abbrev more_wrong : PlanData → List Judged → Database → List Judged → List ℕ
more_wrong plan items reached more = wrong_turns plan (opening_tables plan) items ++ wrong_turns plan reached more

going_judging : (plan : PlanData) (items more : List Judged) (old now : Judge) → IsJudging plan items old → old.is_over ≡ false → now.worst ≡ least (more_wrong plan items (database old.storage.tables) more) → database now.storage.tables ≡ tables_reached plan (database old.storage.tables) more
    → now.is_over ≡ stops plan (database old.storage.tables) more → IsJudging plan (items ++ more) now
going_judging plan items more old now is over worst tables stopped =
    let goes : stops plan (opening_tables plan) items ≡ false = sym is.over ∙ over in
    record {
      worst = worst ∙ ap (λ (reached : Database). least (more_wrong plan items reached more)) is.tables
          ∙ ap least (sym (wrong_turns-append plan (opening_tables plan) items more ∙ ap (λ (b : Bool). wrong_turns plan (opening_tables plan) items ++ cond b [] (wrong_turns plan (tables_reached plan (opening_tables plan) items) more)) goes));
      tables = tables ∙ ap (λ (reached : Database). tables_reached plan reached more) is.tables
          ∙ sym (tables_reached-append plan (opening_tables plan) items more ∙ ap (λ (b : Bool). cond b (tables_reached plan (opening_tables plan) items) (tables_reached plan (tables_reached plan (opening_tables plan) items) more)) goes);
      over = stopped ∙ ap (λ (reached : Database). stops plan reached more) is.tables
          ∙ sym (stops-append plan (opening_tables plan) items more ∙ ap (λ (b : Bool). cond b true (stops plan (tables_reached plan (opening_tables plan) items) more)) goes);
    }

-- a transaction

one_wrong : (plan : PlanData) (reached : Database) (past : Past) (turns : List ℕ) → wrong_turns plan reached (Ended past turns ∷ []) ≡ mismatches turns past.replies (alone reached past.txn.lines).replies ++ []
unfolding wrong_turns
one_wrong plan reached past turns = refl

one_reached : (plan : PlanData) (reached : Database) (past : Past) (turns : List ℕ) → tables_reached plan reached (Ended past turns ∷ []) ≡ (alone reached past.txn.lines).tables
unfolding tables_reached
one_reached plan reached past turns = refl

one_stops : (plan : PlanData) (reached : Database) (past : Past) (turns : List ℕ) → stops plan reached (Ended past turns ∷ []) ≡ false
unfolding stops
one_stops plan reached past turns = refl

abbrev wrong_of : List ℕ → List ℕ → List Reply → List Reply → Option ℕ
wrong_of all turns given alone = least (mismatches turns given alone ++ option_to_list (least all))

pub ended_judging : (plan : PlanData) (items more : List Judged) (old now : Judge) (txn : RepliedTxn) (replies : List Reply) → IsJudging plan items old → old.is_over ≡ false → AreJudged more (Some txn) → replies ≡ (alone (database old.storage.tables) txn.lines).replies
    → database now.storage.tables ≡ (alone (database old.storage.tables) txn.lines).tables → now.worst ≡ least (mismatches (turns_of txn.replies) (replies_of txn.replies) replies ++ option_to_list old.worst) → now.is_over ≡ false → IsJudging plan (items ++ more) now
ended_judging plan items [] old now txn replies is over judged said tables worst goes = absurd judged
ended_judging plan items (Altered turn ∷ more) old now txn replies is over judged said tables worst goes = absurd judged
ended_judging plan items (Ended past turns ∷ (other ∷ more)) old now txn replies is over judged said tables worst goes = absurd judged
ended_judging plan items (Ended past turns ∷ []) old now txn replies is over judged said tables worst goes =
    let reached : Database = database old.storage.tables in
    let alone_replies : replies ≡ (alone reached past.txn.lines).replies = said ∙ ap (λ (lines : List TxnLine). (alone reached lines).replies) (sym judged.0) in
    going_judging plan items (Ended past turns ∷ []) old now is over
    (worst ∙ ap (λ (w : Option ℕ). least (mismatches (turns_of txn.replies) (replies_of txn.replies) replies ++ option_to_list w)) is.worst
    ∙ ap (λ (all : List Reply). wrong_of (wrong_turns plan (opening_tables plan) items) (turns_of txn.replies) (replies_of txn.replies) all) alone_replies
    ∙ ap (λ (all : List Reply). wrong_of (wrong_turns plan (opening_tables plan) items) (turns_of txn.replies) all (alone reached past.txn.lines).replies) (sym judged.1)
    ∙ ap (λ (all : List ℕ). wrong_of (wrong_turns plan (opening_tables plan) items) all past.replies (alone reached past.txn.lines).replies) (sym judged.2)
    ∙ sym (least_turned (wrong_turns plan (opening_tables plan) items) (mismatches turns past.replies (alone reached past.txn.lines).replies))
    ∙ ap (λ (all : List ℕ). least (wrong_turns plan (opening_tables plan) items ++ all)) (sym (one_wrong plan reached past turns)))
    (tables ∙ ap (λ (lines : List TxnLine). (alone reached lines).tables) (sym judged.0) ∙ sym (one_reached plan reached past turns)) (goes ∙ sym (one_stops plan reached past turns))

-- the ALTER

altered_wrong : (plan : PlanData) (reached : Database) (turn : ℕ) (found : Option Database) → altered_database plan reached ≡ found → wrong_turns plan reached (Altered turn ∷ []) ≡ after_alter turn (λ after. []) found
unfolding wrong_turns
altered_wrong plan reached turn None is = ap (after_alter turn (λ after. [])) is
altered_wrong plan reached turn (Some after) is = ap (after_alter turn (λ after. [])) is

altered_reached : (plan : PlanData) (reached : Database) (turn : ℕ) (found : Option Database) → altered_database plan reached ≡ found → tables_reached plan reached (Altered turn ∷ []) ≡ or_these (λ after. after) reached found
unfolding tables_reached
altered_reached plan reached turn found is = ap (or_these (λ after. after) reached) is

altered_stops : (plan : PlanData) (reached : Database) (turn : ℕ) (found : Option Database) → altered_database plan reached ≡ found → stops plan reached (Altered turn ∷ []) ≡ or_stops (λ after. false) found
unfolding stops
altered_stops plan reached turn found is = ap (or_stops (λ after. false)) is

pub altered_judging : (plan : PlanData) (items : List Judged) (turn : ℕ) (old now : Judge) (after : Database) → IsJudging plan items old → old.is_over ≡ false → altered_database plan (database old.storage.tables) ≡ Some after → database now.storage.tables ≡ after → now.worst ≡ old.worst → now.is_over ≡ false
    → IsJudging plan (items ++ Altered turn ∷ []) now
altered_judging plan items turn old now after is over altered tables worst goes =
    let reached : Database = database old.storage.tables in
    going_judging plan items (Altered turn ∷ []) old now is over
    (worst ∙ is.worst ∙ ap least (sym (ap (λ (all : List ℕ). wrong_turns plan (opening_tables plan) items ++ all) (altered_wrong plan reached turn (Some after) altered) ∙ append-nil (wrong_turns plan (opening_tables plan) items))))
    (tables ∙ sym (altered_reached plan reached turn (Some after) altered)) (goes ∙ sym (altered_stops plan reached turn (Some after) altered))

pub unaltered_judging : (plan : PlanData) (items : List Judged) (turn : ℕ) (old now : Judge) → IsJudging plan items old → old.is_over ≡ false → altered_database plan (database old.storage.tables) ≡ None → database now.storage.tables ≡ database old.storage.tables → now.worst ≡ least_with turn old.worst
    → now.is_over ≡ true → IsJudging plan (items ++ Altered turn ∷ []) now
unaltered_judging plan items turn old now is over altered tables worst stopped =
    let reached : Database = database old.storage.tables in
    going_judging plan items (Altered turn ∷ []) old now is over
    (worst ∙ ap (least_with turn) is.worst ∙ sym (least_more (wrong_turns plan (opening_tables plan) items) turn) ∙ ap (λ (all : List ℕ). least (wrong_turns plan (opening_tables plan) items ++ all)) (sym (altered_wrong plan reached turn None altered)))
    (tables ∙ sym (altered_reached plan reached turn None altered)) (stopped ∙ sym (altered_stops plan reached turn None altered))

-- ---- a transaction alone keeps schemas

either_schema : (b : Bool) (name : List ℕ) (tables : Database) (ran : Ran) → schema_of name (outcome_if b tables ran).tables ≡ schema_of name tables
either_schema true name tables ran = schema_events name tables ran.writes
either_schema false name tables ran = refl

alone_schema : (name : List ℕ) (tables : Database) (lines : List TxnLine) → schema_of name (alone tables lines).tables ≡ schema_of name tables
unfolding alone
alone_schema name tables lines = either_schema (stays lines) name tables (lines_run tables nothing_ran lines)

pub alone_planned : (plan : PlanData) (tables now : Database) (lines : List TxnLine) → now ≡ (alone tables lines).tables → IsPlanned plan tables → IsPlanned plan now
alone_planned plan tables now lines is planned = λ schema found. planned schema (sym (ap (schema_of plan.table) is ∙ alone_schema plan.table tables lines) ∙ found)
