-- A whole exchange on a small table: LOCK TABLES behind an open transaction, a client behind both, the RENAME behind the lock.
use Rattle.std.proofs.Common.{◌≡◌, ℕ, pos, Bool, true, false, List, [], ◌∷◌, Option, Some, None, refl, cond, ◌||◌, inr, arith}
use Rattle.std.specs.Prelude.{codes, map, ◌++◌, nat_lt}
use Rattle.base_values.specs.declared.value.Value.{Value}
use Rattle.base_values.specs.declared.value.Value.TheVariants.{Num}
use Rattle.base_values.specs.declared.kind.Kind.TheVariants.{Int}
use Rattle.base_values.specs.Spans.{point}
use Rattle.base_values.specs.declared.gho_schema.schema.Schema.{Schema}
use Rattle.base_values.specs.GhoSchema.Names as X
use Rattle.base_values.specs.GhoSchema.ClusteredKey as X1
use Rattle.base_values.specs.StoredValues as X2
use Rattle.base_values.specs.GhoSchema.Rows as X3
use Rattle.base_values.specs.Spans as X4
use Rattle.base_values.specs.KeyOrder as X5
use Rattle.base_values.specs.declared.gho_schema.schema.Column.{Column}
use Rattle.base_values.specs.declared.event.Change.TheVariants as changes
use Rattle.base_script.specs.declared.statement.Statement.{Statement}
use Rattle.base_script.specs.declared.statement.Statement.TheVariants as statements
use Rattle.server_model.specs.declared.answer.Answer.TheVariants as answers
use Rattle.server_model.specs.Rows.{lies_under, change_rows}
use Rattle.server_model.specs.Checks.{work_of, places_named, are_distinct, beside, row_from, new_row, wanted_each, reach_equal, reach_range, reach_of, sets_from}
use Rattle.server_model.specs.StatementResults.{with_sets, updates, tells}
use Rattle.server_model.specs.Needs.{points_from, needs}
use Rattle.table_store.specs.Databases.{TableRows, Database}
use Rattle.base_script.specs.declared.actor.Side.TheVariants.{Before, After}
use Rattle.server_model.specs.declared.transaction.Reply.{Reply}
use Rattle.server_model.specs.declared.transaction.Reply.TheVariants as replies
use Rattle.server_model.specs.Drawing as X6
use Rattle.server_model.specs.Checks as X7
use Rattle.server_model.specs.States as Y
use Rattle.server_model.specs.Listings as Y9
use Rattle.server_locks.specs.RowLocks.Grants as Y1
use Rattle.server_locks.specs.MetadataLocks.Grants as Y2
use Rattle.server_model.specs.Operations.{operation_result, operation_needs, after_events}
use Rattle.base_script.specs.declared.actor.Side.{Side}
use Rattle.table_store.specs.declared.renames.Pair.{Pair}
use Rattle.table_store.specs.Databases as D
use Rattle.server_model.specs.declared.session.Limits.{Limits}
use Rattle.proof_journals.specs.Scenes.{Scene, PlainItem, Txn, Alter, is_mine}
use Rattle.server_model.specs.declared.answer.Answer.{Answer}
use Rattle.base_script.specs.declared.actor.Actor.{Actor}
use Rattle.base_script.specs.declared.actor.Actor.TheVariants.{Insp, Client}
use Rattle.std.proofs.lemmas.Bool.{false≢true, true≢false}
use Rattle.std.specs.Str.{bytes_eq}
use Rattle.server_model.specs.Along.{Along}
use Rattle.server_model.specs.LockedRows.Coverage.{IsWellFormedTable}
use Rattle.proof_journals.specs.Turns.{IsExchange, RenamesSo, IsAllowed, Turn, journal_of, kept_from, scene_state, goings_from, history}
use Rattle.proof_journals.proofs.Exchanging.{exchange_alters}
use Rattle.server_model.specs.declared.entry.Asked.{Asked}
use Rattle.server_model.specs.declared.entry.Asked.TheVariants.{Call, Poll, Cut}
use Rattle.server_model.specs.declared.entry.Entry.{Entry}
use Rattle.server_model.specs.declared.request.Request.TheVariants.{BeginSpan, CopyRow, Create, Drop, Ends, LockTables, LogEnd, ReadLog, Rename, ShowTables, ShowWaiting, Unlock}
use Rattle.server_model.specs.declared.request.Request.{Request}
use Rattle.server_model.specs.declared.request.Request.TheVariants as requests
use Rattle.server_model.specs.PlainServer.{calls, did, loses, polls}
use Rattle.server_model.specs.Listings.{events_read, read_from, tables_shown, waits_shown}
use Rattle.tool_program.specs.JournalWords.Journals.{opens_if, state_after}

col : List ℕ → ℕ → Column
col name bytes = record { name = name; kind = Int bytes false; nullable = false; default = None; auto = false }

keyed : List ℕ → List Column → Schema
keyed name columns = record { name = name; columns = columns; uniques = record { name = None; places = 0 ∷ [] } ∷ []; indexes = []; comment = []; start = None }

n : ℕ → Value
n k = Num (pos k)

-- t (id INT PRIMARY KEY), and its ghost (id INT PRIMARY KEY, b TINYINT NOT NULL)
tables : Database
tables = record { schema = keyed (codes "t") (col (codes "id") 4 ∷ []); rows = (n 1 ∷ []) ∷ [] } ∷ record { schema = keyed (codes "g") (col (codes "id") 4 ∷ col (codes "b") 1 ∷ []); rows = (n 1 ∷ n 7 ∷ []) ∷ [] } ∷ []

altered : TableRows → Option TableRows
altered table = Some (record { schema = keyed (codes "t") (col (codes "id") 4 ∷ col (codes "b") 1 ∷ []); rows = map (λ row. row ++ n 7 ∷ []) table.rows })

limits : Limits
limits = record { client_wait = 9; tool_wait = 9 }

-- sessions below 10 are clients'
scene : Scene
scene = record { mine = codes "t" ∷ []; client = λ s. nat_lt s 10; opening = tables; migrated = codes "t"; altered = altered; exchanges = true }

actor_of : ℕ → Actor
actor_of session = cond (nat_lt session 10) (Client session) Insp

by : ℕ → Request → Turn
by session request = record { actor = actor_of session; session = session; asked = Call request; side = None }

poll : ℕ → Turn
poll session = record { actor = actor_of session; session = session; asked = Poll; side = None }

statement_result : Statement → Request
statement_result statement = requests.Do statement

put : ℕ → Statement
put k = statements.Insert (codes "t") None (n k ∷ []) None

exchange : List Pair
exchange = record { old = codes "t"; new = codes "d" } ∷ record { old = codes "g"; new = codes "t" } ∷ []

-- the sentry d is made; LOCK TABLES waits for client 1, client 2 for LOCK TABLES; then the exchange
turns : List Turn
turns =
    by 1 requests.Begin ∷ by 1 (statement_result (put 2)) ∷ by 11 (Create (keyed (codes "d") (col (codes "id") 4 ∷ []))) ∷ by 11 (LockTables (codes "t" ∷ codes "d" ∷ [])) ∷ by 2 (statement_result (put 3))
    ∷ by 1 requests.Commit ∷ poll 11 ∷ by 11 (Ends (codes "g")) ∷ by 13 (statement_result (statements.Replace (codes "g") None (n 2 ∷ n 7 ∷ []) None)) ∷ by 12 (Rename exchange) ∷ by 13 ShowWaiting
    ∷ by 11 (Drop (codes "d")) ∷ poll 2 ∷ by 11 Unlock ∷ poll 2 ∷ by 13 (ReadLog 0 5 (codes "t" ∷ [])) ∷ poll 12 ∷ poll 2 ∷ by 13 ShowTables ∷ by 13 LogEnd ∷ []

reported : List PlainItem → List (List Reply)
reported [] = []
reported (Txn past ∷ more) = past.replies ∷ reported more
reported (Alter ∷ more) = [] ∷ reported more

ok : Answer
ok = (answers.Ok 0)

answers_are : map (λ (e : Entry). e.answer) (journal_of limits scene turns)
    ≡ ok ∷ (answers.Ok 1) ∷ ok ∷ answers.Waits 1 ∷ answers.Waits 11 ∷ ok ∷ ok ∷ (answers.Refused 1100 None) ∷ (answers.Ok 1) ∷ answers.Waits 11
    ∷ (answers.Waiting (record { session = 12; names = codes "t" ∷ codes "d" ∷ codes "g" ∷ []; by = 11 } ∷ [])) ∷ ok ∷ answers.Waits 11 ∷ ok ∷ answers.Waits 12
    ∷ (answers.Events (record { table = codes "t"; change = changes.Write (n 2 ∷ []) } ∷ []) 2) ∷ ok ∷ (answers.Refused 1136 None)
    ∷ (answers.Tables (record { name = codes "d"; comment = [] } ∷ record { name = codes "t"; comment = [] } ∷ [])) ∷ (answers.At 2) ∷ []
unfolding col keyed n tables altered limits scene actor_of by poll statement_result put exchange turns reported ok kept_from state_after opens_if calls polls loses did Y9.distinct read_from events_read tables_shown waits_shown D.rename_tables operation_result operation_needs after_events work_of tells updates with_sets reach_of reach_range reach_equal new_row row_from places_named wanted_each are_distinct sets_from beside lies_under change_rows needs points_from X.same_name X1.clustered_among X2.seeks X2.stores X2.text_number X2.in_range X2.half X3.key_of X4.has X4.meets X5.compare_values X3.with_row Y.with_session Y1.conflict Y1.refusal Y1.blocker_of_lock Y1.blocker_of_set Y2.holds Y2.least_holder Y2.least_waiter Y2.place_of Y2.blocker_of_name Y2.blocker_of_names X6.offered_in X7.draws
answers_are = refl

-- client 1 commits, the table is altered, and client 2 is refused by the new table
history_is : reported (history limits scene (journal_of limits scene turns)) ≡ (replies.Ok 0 ∷ replies.Ok 1 ∷ replies.Ok 0 ∷ []) ∷ [] ∷ (replies.Error 1136 ∷ []) ∷ []
unfolding col keyed n tables altered limits scene actor_of by poll statement_result put exchange turns reported ok kept_from state_after opens_if calls polls loses did Y9.distinct read_from events_read tables_shown waits_shown D.rename_tables operation_result operation_needs after_events work_of tells updates with_sets reach_of reach_range reach_equal new_row row_from places_named wanted_each are_distinct sets_from beside lies_under change_rows needs points_from X.same_name X1.clustered_among X2.seeks X2.stores X2.text_number X2.in_range X2.half X3.key_of X4.has X4.meets X5.compare_values X3.with_row Y.with_session Y1.conflict Y1.refusal Y1.blocker_of_lock Y1.blocker_of_set Y2.holds Y2.least_holder Y2.least_waiter Y2.place_of Y2.blocker_of_name Y2.blocker_of_names history goings_from X6.offered_in X7.draws
history_is = refl

-- *the journal is allowed*, and so the law speaks of it
new_keyed : IsWellFormedTable (record { schema = keyed (codes "d") (col (codes "id") 4 ∷ []); rows = [] })
unfolding keyed col X1.clustered_among
new_keyed = record { keyed = record { some = grind (arith); not_null = (refl, tt) }; defaults = (tt, tt); is_table = record { rows_fit = tt; ascends = tt; apart = tt } }

only_t : (name : List ℕ) → is_mine scene name ≡ true → bytes_eq name (codes "t") ≡ false → ⊥
unfolding scene
only_t name is off = at (bytes_eq name (codes "t")) off is where
  at : (b : Bool) → b ≡ false → (b || false) ≡ true → ⊥
  at true off is = true≢false off
  at false off is = false≢true is

-- the tables at the RENAME
exchanged : Database
exchanged = record { schema = keyed (codes "t") (col (codes "id") 4 ∷ []); rows = (n 1 ∷ []) ∷ (n 2 ∷ []) ∷ [] } ∷ record { schema = keyed (codes "g") (col (codes "id") 4 ∷ col (codes "b") 1 ∷ []); rows = (n 1 ∷ n 7 ∷ []) ∷ (n 2 ∷ n 7 ∷ []) ∷ [] } ∷ []

is_exchange : IsExchange scene exchanged exchange
unfolding scene exchanged exchange altered keyed col n
is_exchange = record { ghost = codes "g"; kept = codes "d"; pairs_are = refl; ghost_other = refl; kept_other = refl; old = _; new = _; was = refl; stands = refl; made = refl }

one_mine : is_mine scene scene.migrated ≡ true
unfolding scene
one_mine = refl

renames : RenamesSo scene exchanged (Some (Rename exchange))
renames = exchange_alters scene exchanged exchange one_mine is_exchange

journal_is_allowed : Along (IsAllowed limits scene) [] (journal_of limits scene turns)
unfolding col keyed n tables altered limits scene actor_of by poll statement_result put exchange turns reported ok kept_from state_after opens_if calls polls loses did Y9.distinct read_from events_read tables_shown waits_shown D.rename_tables operation_result operation_needs after_events work_of tells updates with_sets reach_of reach_range reach_equal new_row row_from places_named wanted_each are_distinct sets_from beside lies_under change_rows needs points_from X.same_name X1.clustered_among X2.seeks X2.stores X2.text_number X2.in_range X2.half X3.key_of X4.has X4.meets X5.compare_values X3.with_row Y.with_session Y1.conflict Y1.refusal Y1.blocker_of_lock Y1.blocker_of_set Y2.holds Y2.least_holder Y2.least_waiter Y2.place_of Y2.blocker_of_name Y2.blocker_of_names exchanged X6.offered_in X7.draws
journal_is_allowed =
    (record { may = tt; commands = λ is. refl; rests = tt; renames = λ reported. tt }, (record { may = refl; commands = λ is. refl; rests = tt; renames = λ reported. tt }, (record { may = (refl, new_keyed); commands = λ is. refl; rests = refl; renames = λ reported. tt }, (record { may = tt; commands = λ is. refl; rests = tt; renames = λ reported. tt }, (record { may = refl; commands = λ is. refl; rests = tt; renames = λ reported. tt }, (record { may = tt; commands = λ is. refl; rests = tt; renames = λ reported. tt }, (record { may = tt; commands = λ is. refl; rests = tt; renames = λ reported. tt }, (record { may = tt; commands = λ is. refl; rests = tt; renames = λ reported. tt }, (record { may = refl; commands = λ is. refl; rests = tt; renames = λ reported. tt }, (record { may = inr (refl, refl); commands = λ is. refl; rests = refl; renames = λ may takes after is. absurd (cc) }, (record { may = tt; commands = λ is. refl; rests = tt; renames = λ reported. tt }, (record { may = refl; commands = λ is. refl; rests = refl; renames = λ reported. tt }, (record { may = tt; commands = λ is. refl; rests = tt; renames = λ reported. tt }, (record { may = tt; commands = λ is. refl; rests = tt; renames = λ reported. tt }, (record { may = tt; commands = λ is. refl; rests = tt; renames = λ reported. tt }, (record { may = tt; commands = λ is. refl; rests = tt; renames = λ reported. tt }, (record { may = tt; commands = λ is. refl; rests = refl; renames = λ reported. renames }, (record { may = tt; commands = λ is. refl; rests = tt; renames = λ reported. tt }, (record { may = tt; commands = λ is. refl; rests = tt; renames = λ reported. tt }, (record { may = tt; commands = λ is. refl; rests = tt; renames = λ reported. tt }, tt))))))))))))))))))))

-- LOSSES: the RENAME's answer is lost, and so is a commit's; a statement that waits is lost before it is done
lost : ℕ → Asked → Side → Turn
lost session asked side = record { actor = actor_of session; session = session; asked = asked; side = Some side }

losses : List Turn
losses =
    by 1 requests.Begin ∷ by 1 (statement_result (put 2)) ∷ by 3 (statement_result (put 2)) ∷ record { actor = actor_of 3; session = 3; asked = Cut; side = None } ∷ lost 1 (Call requests.Commit) After
    ∷ by 13 (statement_result (statements.Replace (codes "g") None (n 2 ∷ n 7 ∷ []) None)) ∷ lost 12 (Call (Rename exchange)) After ∷ lost 4 (Call (statement_result (put 5))) Before ∷ by 5 (statement_result (put 6)) ∷ []

-- 1 was done though its COMMIT was lost, 3 and 4 did nothing, the ALTER stands where its answer was missed, 5 meets the new table
losses_are : reported (history limits scene (journal_of limits scene losses)) ≡ [] ∷ (replies.Ok 0 ∷ replies.Ok 1 ∷ []) ∷ [] ∷ [] ∷ (replies.Error 1136 ∷ []) ∷ []
unfolding col keyed n tables altered limits scene actor_of by poll statement_result put exchange turns reported ok kept_from state_after opens_if calls polls loses did Y9.distinct read_from events_read tables_shown waits_shown D.rename_tables operation_result operation_needs after_events work_of tells updates with_sets reach_of reach_range reach_equal new_row row_from places_named wanted_each are_distinct sets_from beside lies_under change_rows needs points_from X.same_name X1.clustered_among X2.seeks X2.stores X2.text_number X2.in_range X2.half X3.key_of X4.has X4.meets X5.compare_values X3.with_row Y.with_session Y1.conflict Y1.refusal Y1.blocker_of_lock Y1.blocker_of_set Y2.holds Y2.least_holder Y2.least_waiter Y2.place_of Y2.blocker_of_name Y2.blocker_of_names lost losses history goings_from X6.offered_in X7.draws
losses_are = refl

tables_are : (scene_state limits scene (journal_of limits scene losses)).tables ≡ record { schema = keyed (codes "d") (col (codes "id") 4 ∷ []); rows = (n 1 ∷ []) ∷ (n 2 ∷ []) ∷ [] } ∷ record { schema = keyed (codes "t") (col (codes "id") 4 ∷ col (codes "b") 1 ∷ []); rows = (n 1 ∷ n 7 ∷ []) ∷ (n 2 ∷ n 7 ∷ []) ∷ [] } ∷ []
unfolding col keyed n tables altered limits scene actor_of by poll statement_result put exchange turns reported ok kept_from state_after opens_if calls polls loses did Y9.distinct read_from events_read tables_shown waits_shown D.rename_tables operation_result operation_needs after_events work_of tells updates with_sets reach_of reach_range reach_equal new_row row_from places_named wanted_each are_distinct sets_from beside lies_under change_rows needs points_from X.same_name X1.clustered_among X2.seeks X2.stores X2.text_number X2.in_range X2.half X3.key_of X4.has X4.meets X5.compare_values X3.with_row Y.with_session Y1.conflict Y1.refusal Y1.blocker_of_lock Y1.blocker_of_set Y2.holds Y2.least_holder Y2.least_waiter Y2.place_of Y2.blocker_of_name Y2.blocker_of_names lost losses X6.offered_in X7.draws
tables_are = refl
