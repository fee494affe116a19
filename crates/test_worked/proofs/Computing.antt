-- What is computed of a plan and of the journal of one of its runs, and what it must be.
use Rattle.std.specs.Prelude.{◌≡◌, ◌==◌, nat_lt, ℕ, ◌+◌, Bool, true, false, ◌&&◌, List, [], ◌∷◌, ◌++◌, map, is_none, Option, Some, None}
use Rattle.std.specs.List.{slice_get}
use Rattle.std.specs.Fmt as xf
use Rattle.table_store.specs.Databases.{Database}
use Rattle.base_script.specs.declared.actor.Actor.{Actor}
use Rattle.base_script.specs.declared.actor.Actor.TheVariants.{Op, Client}
use Rattle.base_script.specs.declared.actor.Side.{Side}
use Rattle.base_script.specs.declared.script.ScriptLine.{ScriptLine}
use Rattle.server_model.specs.declared.transaction.Reply.{Reply}
use Rattle.server_model.specs.declared.request.Request.{Request}
use Rattle.server_model.specs.declared.answer.Answer.{Answer}
use Rattle.server_model.specs.declared.entry.Entry.{Entry}
use Rattle.server_model.specs.declared.entry.Asked.{Asked}
use Rattle.server_model.specs.declared.entry.Asked.TheVariants.{Command, Cut}
use Rattle.server_model.specs.declared.outcome.Verdict.{Verdict}
use Rattle.server_model.specs.declared.session.Limits.{Limits}
use Rattle.server_model.specs.Entries.{request_in}
use Rattle.server_model.specs.States.{State, opened}
use Rattle.server_model.specs.PlainServer.{serves, given_at}
use Rattle.server_model.specs.Alone.{alone}
use Rattle.plan_data.specs.PlanData.{PlanData}
use Rattle.tool_program.specs.JournalWords.Journals.{opening, opens, after_entry, heard, missed, may_lose, state_at}
use Rattle.tool_program.specs.JournalWords.Sessions.{live_session, sessions_named}
use Rattle.tool_program.specs.JournalWords.Clients.{client_asks}
use Rattle.tool_program.specs.JournalWords.KeptPlans.{side_due, cut_due, words_of}
use Rattle.tool_program.specs.JournalWords.Histories.{HistoryItem, Txn, Alter, NumberedReply, history, replies_of}
use Rattle.tool_program.specs.JournalWords.Serials.{tables_left, altered_database}
use Rattle.tool_program.specs.JournalWords.Bounds.{bound}
use Rattle.tool_program.specs.Tools.{Moment, new_tool, after_turn}
use Rattle.tool_program.specs.Programs.{tool_asks, commands}
use Rattle.tool_program.specs.Verdicts.{verdict_of, is_over}
use Rattle.tool_program.specs.Online.{writes_own, names_own, is_small, excludes_well, guards_well, holds_back}
use Rattle.tool_program.specs.Orders.{Queue, chosen, queue_after, actor_of, words_in, WorkerTurn, Paired, worker_actor}
use Rattle.base_values.specs.KeyOrder as x0
use Rattle.base_values.specs.Spans as x1
use Rattle.base_values.specs.StoredValues as x2
use Rattle.base_values.specs.GhoSchema.ClusteredKey as x3
use Rattle.base_values.specs.GhoSchema.Names as x4
use Rattle.base_values.specs.GhoSchema.Rows as x5
use Rattle.base_values.specs.RowConversion.ConvertedRows as x6
use Rattle.sql_change.specs.AlteredSchema as x7
use Rattle.sql_change.specs.ClauseResults as x8
use Rattle.sql_change.specs.Columns as x9
use Rattle.sql_change.specs.IndexClauses as x10
use Rattle.sql_change.specs.Places as x11
use Rattle.sql_change.specs.AlteredSoFar as x12
use Rattle.server_locks.specs.RowLocks.Grants as x13
use Rattle.server_locks.specs.MetadataLocks.Grants as x14
use Rattle.table_store.specs.Databases as x15
use Rattle.sql_create.specs.DeclaredSchema as x16
use Rattle.base_values.specs.SchemaRules.Defaults as x17
use Rattle.sql_create.specs.Keys as x18
use Rattle.base_values.specs.SchemaRules.Names as xn
use Rattle.base_values.specs.SchemaRules.Limits as x19
use Rattle.sql_create.specs.Written as x20
use Rattle.server_model.specs.Alone as x21
use Rattle.server_model.specs.Checks as x22
use Rattle.server_model.specs.Chunks as x23
use Rattle.server_model.specs.Entries as x24
use Rattle.server_model.specs.Operations as x25
use Rattle.server_model.specs.Needs as x26
use Rattle.server_model.specs.Rows as x27
use Rattle.server_model.specs.StatementResults as x28
use Rattle.server_model.specs.PlainServer as x29
use Rattle.server_model.specs.Listings as x30
use Rattle.server_model.specs.States as x31
use Rattle.tool_changelog.specs.Hints as x32
use Rattle.base_values.specs.ToolNames as x33
use Rattle.tool_changelog.specs.ToolTables as x34
use Rattle.tool_program.specs.ChunkCopier.Copiers as x35
use Rattle.tool_program.specs.EventApplier.Appliers as x36
use Rattle.tool_program.specs.CutoverCore.Attempts as x37
use Rattle.tool_program.specs.CutoverCore.CutOvers as x38
use Rattle.tool_program.specs.JournalWords.AlteredTables as x39
use Rattle.tool_program.specs.JournalWords.Bounds as x40
use Rattle.tool_program.specs.JournalWords.Clients as x41
use Rattle.tool_program.specs.JournalWords.Histories as x42
use Rattle.tool_program.specs.JournalWords.Journals as x43
use Rattle.tool_program.specs.JournalWords.KeptPlans as x44
use Rattle.plan_data.specs.PlanData as x45
use Rattle.tool_program.specs.JournalWords.Serials as x46
use Rattle.tool_program.specs.JournalWords.Sessions as x47
use Rattle.tool_program.specs.Failures as x48
use Rattle.tool_program.specs.Online as x49
use Rattle.tool_program.specs.Orders as x50
use Rattle.tool_program.specs.Programs as x51
use Rattle.tool_program.specs.Tools as x52
use Rattle.tool_program.specs.Verdicts as x53
use Rattle.server_model.specs.Counting as x54
use Rattle.server_model.specs.Drawing as x55
use Rattle.tool_changelog.specs.Heartbeats as x56
use Rattle.tool_changelog.specs.Checkpoints as x57
use Rattle.tool_program.specs.NoteWriter.Notes as x58
use Rattle.base_values.specs.Literals as x59
use Rattle.tool_program.specs.Feeds as x60

-- WHAT IS ASKED

abbrev pub start : PlanData → Moment
start plan = record { server = opening plan; tool = new_tool plan }

abbrev pub asks_now : PlanData → Moment → List Entry → Actor → Option Asked
asks_now plan now before (Client client) = client_asks plan before client
asks_now plan now before Op = commands (slice_get (words_of plan) now.tool.operator.taken)
asks_now plan now before actor = tool_asks plan before now actor

-- a loss between calls is asked by nobody
abbrev pub asked_or_cut : Asked → Option Asked → Option Asked
asked_or_cut Cut asked = Some Cut
asked_or_cut other asked = asked

-- what is given to each turn's actor
abbrev pub asked_in : PlanData → Moment → List Entry → List Entry → List (Option Asked)
asked_in plan now before [] = []
asked_in plan now before (entry ∷ entries) = asked_or_cut entry.asked (asks_now plan now before entry.actor) ∷ asked_in plan (after_turn plan now entry) (before ++ entry ∷ []) entries

abbrev pub asked_there : List Entry → List (Option Asked)
asked_there entries = map (λ entry. Some entry.asked) entries

-- each turn is in its actor's live session, or in a new one with a greater number than all before it
abbrev pub session_now : List Entry → Entry → Asked → Option ℕ → Bool
session_now before entry (Command word) live = entry.session == 0
session_now before entry asked (Some session) = entry.session == session
session_now before entry Cut None = false
session_now before entry asked None = nat_lt (sessions_named before) entry.session

abbrev pub sessions_in : List Entry → List Entry → Bool
sessions_in before [] = true
sessions_in before (entry ∷ entries) = session_now before entry entry.asked (live_session before entry.actor) && sessions_in (before ++ entry ∷ []) entries

-- WHAT IS ANSWERED

abbrev pub inner_in : State → Entry → Option Answer
inner_in state entry = given_at entry.side entry.asked (serves (opens entry state) entry.session entry.asked).answer

abbrev pub answered_in : State → List Entry → List (Answer × Option Answer)
answered_in state [] = []
answered_in state (entry ∷ entries) = (heard entry.side (inner_in state entry), missed entry.side (inner_in state entry)) ∷ answered_in (after_entry state entry) entries

abbrev pub answered_there : List Entry → List (Answer × Option Answer)
answered_there entries = map (λ entry. (entry.answer, entry.missed)) entries

-- only a call and a poll have a side
abbrev pub side_now : Bool → Option Side → Bool
side_now true side = true
side_now false side = is_none side

abbrev pub sides_in : List Entry → Bool
sides_in [] = true
sides_in (entry ∷ entries) = side_now (may_lose entry.asked) entry.side && sides_in entries

-- WHICH LOSSES STRIKE

abbrev pub struck_now : PlanData → List Entry → Actor → Option Actor → Option Actor × Option Side
struck_now plan before actor None = (None, side_due plan before actor)
struck_now plan before actor (Some lost) = (Some lost, None)

abbrev pub struck_in : PlanData → List Entry → List Entry → List (Option Actor × Option Side)
struck_in plan before [] = []
struck_in plan before (entry ∷ entries) = struck_now plan before entry.actor (cut_due plan before) ∷ struck_in plan (before ++ entry ∷ []) entries

abbrev pub side_of : Entry → Asked → Option Actor × Option Side
side_of entry Cut = (Some entry.actor, None)
side_of entry asked = (None, entry.side)

abbrev pub struck_there : List Entry → List (Option Actor × Option Side)
struck_there entries = map (λ entry. side_of entry entry.asked) entries

-- WHOSE TURN IT IS

abbrev pub chosen_now : PlanData → List Entry → Queue → Entry → Asked → Option Actor
chosen_now plan before queue entry Cut = Some entry.actor
chosen_now plan before queue entry asked = actor_of (chosen plan before queue)

abbrev pub order_in : PlanData → Queue → List Entry → List Entry → List (Option Actor)
order_in plan queue before [] = []
order_in plan queue before (entry ∷ entries) =
    chosen_now plan before queue entry entry.asked ∷ order_in plan (queue_after plan (record { before = before; queue = queue }) entry) (before ++ entry ∷ []) entries

abbrev pub actors_there : List Entry → List (Option Actor)
actors_there entries = map (λ entry. Some entry.actor) entries

abbrev pub picked_now : PlanData → ℕ → List Paired → WorkerTurn → Entry → Asked → Option Actor
picked_now plan count before turn entry Cut = Some entry.actor
picked_now plan count before turn entry asked = worker_actor plan count before turn.worker

abbrev pub workers_in : PlanData → ℕ → List Paired → List WorkerTurn → List Entry → List (Option Actor)
workers_in plan count before [] entries = []
workers_in plan count before (turn ∷ turns) [] = []
workers_in plan count before (turn ∷ turns) (entry ∷ entries) =
    picked_now plan count before turn entry entry.asked ∷ workers_in plan count (before ++ (turn, entry) ∷ []) turns entries

-- WHAT IS LEFT

-- the client and the number of a transaction; none for the ALTER
abbrev pub named : HistoryItem → Option (ℕ × ℕ)
named (Txn past) = Some (past.client, past.number)
named Alter = None

abbrev pub reply_parts : NumberedReply → ℕ × ℕ × Option Reply
reply_parts reply = (reply.transaction, reply.line, reply.reply)

-- the replies of all clients, from this one on
abbrev pub replies_from : PlanData → List Entry → ℕ → List (List ScriptLine) → List (List (ℕ × ℕ × Option Reply))
replies_from plan journal client [] = []
replies_from plan journal client (script ∷ scripts) = map reply_parts (replies_of plan journal client) ∷ replies_from plan journal (client + 1) scripts

-- what ended, one at a time, on the tables so far
abbrev pub leads : PlanData → Option Database → HistoryItem → Option Database
leads plan None item = None
leads plan (Some tables) (Txn past) = Some (alone tables past.txn.lines).tables
leads plan (Some tables) Alter = altered_database plan tables

abbrev pub serial_in : PlanData → Option Database → List HistoryItem → Option Database
serial_in plan tables [] = tables
serial_in plan tables (item ∷ items) = serial_in plan (leads plan tables item) items

abbrev pub replied_alone : Option Database → HistoryItem → List Reply
replied_alone None item = []
replied_alone (Some tables) Alter = []
replied_alone (Some tables) (Txn past) = (alone tables past.txn.lines).replies

abbrev pub replies_in : PlanData → Option Database → List HistoryItem → List (List Reply)
replies_in plan tables [] = []
replies_in plan tables (item ∷ items) = replied_alone tables item ∷ replies_in plan (leads plan tables item) items

-- HOW IT ENDS

abbrev pub over_in : PlanData → Moment → List Entry → List Bool
over_in plan now [] = []
over_in plan now (entry ∷ entries) = is_over (after_turn plan now entry) ∷ over_in plan (after_turn plan now entry) entries

abbrev pub online_now : PlanData → Moment → List Entry → Actor → Option Request → Bool
online_now plan now before (Client client) request = true
online_now plan now before actor None = true
online_now plan now before actor (Some request) =
    writes_own plan request && names_own plan request && is_small plan before request && excludes_well plan now actor request && guards_well plan now actor request && holds_back plan now actor request

abbrev pub online_in : PlanData → Moment → List Entry → List Entry → Bool
online_in plan now before [] = true
online_in plan now before (entry ∷ entries) = online_now plan now before entry.actor (request_in entry.asked) && online_in plan (after_turn plan now entry) (before ++ entry ∷ []) entries

-- WHAT THEY MUST BE

-- of a run that was replayed: the verdict; whose transactions ended, and the ALTER; the tables left; the replies that the
-- transactions have alone; behind which turns the tool was over; the bound on turns; each client's replies
pub record WorkedFacts : Type 0 where
  pub verdict : Verdict
  pub ended : List (Option (ℕ × ℕ))
  pub left : Database
  pub alone : List (List Reply)
  pub over : List Bool
  pub bound : ℕ
  pub replies : List (List (ℕ × ℕ × Option Reply))

pub record IsWorked (plan : PlanData) (journal : List Entry) (reported : WorkedFacts) : Type 0 where
  pub asks : asked_in plan (start plan) [] journal ≡ asked_there journal
  pub sessions : sessions_in [] journal ≡ true
  pub answers : answered_in (opening plan) journal ≡ answered_there journal
  pub sides : sides_in journal ≡ true
  pub struck : struck_in plan [] journal ≡ struck_there journal
  pub verdict : verdict_of plan journal ≡ reported.verdict
  pub ended : map named (history plan journal) ≡ reported.ended
  pub order : order_in plan (record { words = words_in plan; round = [] }) [] journal ≡ actors_there journal
  pub left : tables_left plan (state_at plan journal).tables ≡ reported.left
  pub serial : serial_in plan (Some (tables_left plan plan.tables)) (history plan journal) ≡ Some reported.left
  pub alone : replies_in plan (Some (tables_left plan plan.tables)) (history plan journal) ≡ reported.alone
  pub over : over_in plan (start plan) journal ≡ reported.over
  pub online : online_in plan (start plan) [] journal ≡ true
  pub bounded : bound plan ≡ reported.bound
  pub replies : replies_from plan journal 1 plan.clients ≡ reported.replies

-- of a run by workers
pub record WorkersReported : Type 0 where
  pub verdict : Verdict
  pub ended : List (Option (ℕ × ℕ))
  pub left : Database
  pub replies : List (List (ℕ × ℕ × Option Reply))

pub record IsWorkedBy (count : ℕ) (turns : List WorkerTurn) (plan : PlanData) (journal : List Entry) (reported : WorkersReported) : Type 0 where
  pub asks : asked_in plan (start plan) [] journal ≡ asked_there journal
  pub sessions : sessions_in [] journal ≡ true
  pub answers : answered_in (opening plan) journal ≡ answered_there journal
  pub sides : sides_in journal ≡ true
  pub struck : struck_in plan [] journal ≡ struck_there journal
  pub verdict : verdict_of plan journal ≡ reported.verdict
  pub ended : map named (history plan journal) ≡ reported.ended
  pub order : workers_in plan count [] turns journal ≡ actors_there journal
  pub left : tables_left plan (state_at plan journal).tables ≡ reported.left
  pub replies : replies_from plan journal 1 plan.clients ≡ reported.replies

-- of requests to a server with these limits and tables
pub record IsServed (limits : Limits) (tables : Database) (entries : List Entry) : Type 0 where
  pub answers : answered_in (opened limits tables) entries ≡ answered_there entries
  pub sides : sides_in entries ≡ true

-- *Computing*: what a proof by computing opens, which is every definition.
unfoldable pub computing : Bool
unfolding xf.digits x0.compare_values x1.has x1.meets x2.half x2.text_number x2.character_count x2.in_range x2.text_within x2.bytes_within x2.stores x2.seeks x2.fits x3.clustered_among x4.same_name x5.key_of x5.has_key x5.with_row x6.converted_row_from x6.converted_rows x7.step x7.steps x7.same_columns x7.map_of x7.altered x8.added x8.dropped x8.renamed_in x8.renamed x8.changed x9.column_place x9.column_named x9.is_in_keys x9.is_in_primary x9.column_position_place x9.column_of x10.key_names x10.first_column x10.indexed x10.index_place x10.unindexed x11.place_after x11.index_after x12.places_from x12.with_columns x12.put_in x12.taken_out x12.moved_to x13.conflict x13.refusal x13.blocker_of_lock x13.blocker_of_set x14.holds x14.least_holder x14.least_waiter x14.place_of x14.blocker_of_name x14.blocker_of_names x14.holder_of x15.rename_tables x16.declared_column x16.declared_columns x16.schema_of x16.declared x17.defaults_fit xn.is_among xn.differ_from xn.place_of xn.places_of xn.spelled xn.numbered xn.first_free xn.first_column x18.named_keys x19.is_name_length x20.primary_item_at x20.after_key_word x20.item_at x20.items_at x20.table_at x20.written x21.lines_run x21.alone x22.places_named x22.are_distinct x22.beside x22.row_from x22.new_row x22.wanted_each x22.reach_equal x22.reach_range x22.reach_of x22.sets_from x22.work_of x23.chunk_end x23.span_keys x24.answer_at x25.operation_result x25.operation_needs x25.after_events x26.points_from x26.needs x27.lies_under x27.stands x27.change_rows x27.change_all x28.with_sets x28.updates x28.tells x29.did x29.calls x29.polls x29.loses x30.read_from x30.events_read x30.tables_shown x30.distinct x30.waits_shown x31.with_session x31.unread x32.hint_row x33.ghost_name x33.log_name x33.old_name x34.sentry_comment x34.sentry_schema x34.log_schema x35.next x35.took x35.progress x36.planned x36.next x36.took x36.progress x37.next x38.took x38.applier_turn x38.reverted x38.progress x39.altered_table x40.measures x40.bound_of x41.client_at x41.client_asks x41.all_over x42.request_waiting x42.history x42.replies_of x43.opens_if x43.state_after x43.inner_answer x44.words_of x44.cut_among x44.struck_among x45.new_schema x45.new_map x46.altered_database x46.tables_left x47.live_session x47.sessions_named x48.waited_for x49.copied_at x50.clients_from x50.actors x50.words_in x50.first_ready x50.chosen x50.queue_at x50.next_actor x50.owned_from x50.following x50.last_taken x50.worker_actor x51.given x52.took x52.moment x53.has_ended x22.value_set x22.value_given x22.draws x31.counters_renamed x54.counted x55.offered_in x53.verdict_of x56.heartbeat_row x57.checkpoint_row x58.next x58.noted x58.notes_of x59.printed x59.listed x59.printed_row x60.events_between x60.is_held_back x50.held_behind x50.replica_length
computing = true
