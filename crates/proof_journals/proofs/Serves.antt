-- What a request leaves of all that is kept: a client's, and the tool's.
use Rattle.std.proofs.Common.{◌≡◌, ◌⊎◌, ℕ, Bool, true, false, ◌||◌, List, [], ◌∷◌, ◌++◌, map, cond, Option, Some, None, Result, Ok, Err, refl, sym, ap, ◌∙◌, subst, inl, inr}
use Rattle.std.specs.Prelude.{◌==◌}
use Rattle.std.proofs.lemmas.Bool.{false≢true, true≢false}
use Rattle.std.proofs.lemmas.List.{append-nil}
use Rattle.std.specs.List.{list_any, flat_map}
use Rattle.std.specs.Str.{bytes_eq}
use Rattle.base_values.specs.declared.gho_schema.schema.Schema.{Schema}
use Rattle.base_values.specs.declared.mysql_errors.TheConstants.{ER_TABLE_EXISTS_ERROR, ER_BAD_TABLE_ERROR, ER_NO_SUCH_TABLE, ER_TABLE_NOT_LOCKED}
use Rattle.server_locks.specs.RowLocks.Grants.{blocker_of_set}
use Rattle.server_locks.specs.MetadataLocks.Grants.{blocker_of_names}
use Rattle.table_store.specs.Databases.{TableRows, Database, find_table, has_table, rename_tables}
use Rattle.table_store.specs.declared.renames.Pair.{Pair}
use Rattle.table_store.specs.declared.renames.NotRenamed.{NotRenamed}
use Rattle.base_script.specs.declared.script.ScriptWord.{ScriptWord}
use Rattle.base_script.specs.declared.script.ScriptWord.TheVariants as words
use Rattle.server_model.specs.declared.answer.Answer.{Answer}
use Rattle.server_model.specs.declared.session.Session.{Session}
use Rattle.server_model.specs.LockedRows.Coverage.{Apart}
use Rattle.server_model.specs.Operations.{statement_result, operation_result, after_events, copy_operation}
use Rattle.proof_journals.specs.Scenes.{PlainItem, Alter, Scene, seen, is_mine, AltersTo, NamesTable, Going, not_going, IsFine}
use Rattle.proof_journals.specs.Turns.{LineOutcome, Still, Alters, drawn_request, ClientAsks, ToolAsks, AllOther, RenamesSo, DefinesSo, line_outcome_renamed, word_given, mark_lost, was_given, happens, is_busy}
use Rattle.tool_program.specs.JournalWords.Histories.{takes_away, renames_away}
use Rattle.proof_journals.specs.Turns as fates
use Rattle.server_model.specs.declared.transaction.TxnEnd.TheVariants as ends
use Rattle.server_model.specs.declared.work.StatementResult.{StatementResult}
use Rattle.proof_journals.specs.Holdings.{face_of, stored}
use Rattle.server_model.specs.Alone.{line_says}
use Rattle.proof_journals.proofs.Replies.{IsReply, given_so, done_so, line_replies_so}
use Rattle.proof_journals.proofs.Kept.{serial-more, serial-alike}
use Rattle.server_locks.proofs.LeastSession.Sessions.{none_of}
use Rattle.proof_journals.proofs.Faces.{granted_apart}
use Rattle.proof_journals.proofs.Held.{hold_in}
use Rattle.proof_journals.proofs.Names.{Free, OneIn, as_needed, granted_free, names_granted, one_goes, one_rests, one_locks, one_unlocks}
use Rattle.proof_journals.proofs.Moves.{Moved, create_moves, drop_moves, rename_moves}
use Rattle.proof_journals.proofs.Turning.{Turned}
use Rattle.proof_journals.proofs.Answering.{AtWork, own_fits, word_answered, word_lost}
use Rattle.proof_journals.proofs.Tooling.{ToolWork, own_fine, AreApart, final, quiet_fine, tool_goes_on, tool_commits, tool_stays, tool_locks_names, tool_unlocks_names, tool_redefines, tool_word, tool_do, tool_copies}
use Rattle.server_model.specs.declared.request.Request.TheVariants.{BeginSpan, ChunkEnd, CopyRow, Create, Drop, Ends, LockTables, LogEnd, ReadLog, Rename, SetCounter, ShowCounter, ShowTables, ShowWaiting, Unlock}
use Rattle.server_model.specs.declared.request.Request.{Request}
use Rattle.server_model.specs.Answers.{refuses, ok}
use Rattle.server_model.specs.declared.request.Request.TheVariants as requests
use Rattle.server_model.specs.Drawing.{filled, numbered, offered}
use Rattle.server_model.specs.Counting.{is_answered, drawn_by}
use Rattle.server_model.proofs.Filling.{numbered_table, filled_case}
use Rattle.server_model.specs.declared.answer.Answer.TheVariants as answers
use Rattle.server_model.specs.PlainServer.{Served, commits, does, done, did, exclusive, goes_on, loses}
use Rattle.server_model.specs.Effects.{all_exist, begins, created, effect_unless, effect_within, defined, dropped, is_beyond, is_outside, locks_if, nothing_needed, renamed_or, result_effect}
use Rattle.server_model.specs.declared.need.Need.{Need}
use Rattle.server_model.specs.Blockers.{need, need_within, blocker}
use Rattle.server_model.specs.States.{State, is_of_tool, is_in_transaction, locks_held, names_held, pair_names, session_of, tables_named, view, waits_for, writes_of}
use Rattle.proof_journals.specs.LineRequests.{does_word, need_of_word}
use Rattle.tool_program.specs.JournalWords.Clients.{word_asks, word_numbered}
use Rattle.server_model.proofs.LockedRows.Tests.{are_same}

-- WHAT A GRANT TELLS

-- all locks of the need are free
pub record IsFree (state : State) (number : ℕ) (need : Need) : Type 0 where
  pub apart : AreApart state number need.locks
  pub names : Free (names_held state.sessions) number (as_needed need.exclusive need.names)

pub granted : (state : State) (number : ℕ) (need : Need) → OneIn state.sessions → blocker state number need ≡ None → IsFree state number need
granted state number need one is =
    let both = none_of (blocker_of_names (names_held state.sessions) (flat_map waits_for state.waiting) number need.exclusive need.names) (blocker_of_set (locks_held state.sessions) number need.locks) is in
    record { apart = granted_apart state.sessions number need.locks both.1; names = granted_free (names_held state.sessions) (flat_map waits_for state.waiting) number need.exclusive need.names one both.0 }

-- EXCLUSIVE NAMES AFTER A DEED

defined_one : (tables : Result Database ℕ) (state : State) (number : ℕ) → OneIn state.sessions → OneIn (does (defined tables) state number).after.sessions
defined_one (Ok tables) state number one = one
defined_one (Err refusal) state number one = one

effect_one : (outside busy : Bool) (seen : Database) (state : State) (number : ℕ) (request : Request) → OneIn state.sessions → Free (names_held state.sessions) number (as_needed (need_within seen request).exclusive (need_within seen request).names)
    → OneIn (does (effect_unless outside busy seen state request) state number).after.sessions
effect_one true busy seen state number request one free = one
effect_one false busy seen state number requests.Begin one free = one_goes number nothing_needed [] state.sessions one free
effect_one false busy seen state number requests.Commit one free = one_rests number state.sessions one
effect_one false busy seen state number requests.Rollback one free = one_rests number state.sessions one
effect_one false busy seen state number (requests.Do statement) one free = at busy where
  at : (b : Bool) → OneIn (does (result_effect b (need_within seen (requests.Do statement)) (statement_result seen statement)) state number).after.sessions
  at true = one_goes number (need_within seen (requests.Do statement)) (statement_result seen statement).events state.sessions one free
  at false = one_rests number state.sessions one
effect_one false busy seen state number (LockTables names) one free = at (all_exist names state.tables) where
  at : (b : Bool) → OneIn (does (locks_if b names) state number).after.sessions
  at true = one_locks number names state.sessions one free
  at false = one
effect_one false busy seen state number Unlock one free = one_unlocks number state.sessions one
effect_one false busy seen state number (Create schema) one free = defined_one (created (has_table schema.name state.tables) schema state.tables) state number one
effect_one false busy seen state number (Drop name) one free = defined_one (dropped (has_table name state.tables) name state.tables) state number one
effect_one false busy seen state number (Rename pairs) one free = defined_one (renamed_or (rename_tables pairs state.tables)) state number one
effect_one false busy seen state number ShowTables one free = one
effect_one false busy seen state number ShowWaiting one free = one
effect_one false busy seen state number (ShowCounter table) one free = one
effect_one false busy seen state number (SetCounter table least) one free = one
effect_one false busy seen state number LogEnd one free = one
effect_one false busy seen state number (ReadLog position limit names) one free = one
effect_one false busy seen state number (Ends table) one free = one
effect_one false busy seen state number (ChunkEnd table low top size) one free = one
effect_one false busy seen state number (BeginSpan table span size) one free = at (find_table table state.tables) where
  at : (found : Option TableRows) → OneIn (does (begins found span size (need_within seen (BeginSpan table span size))) state number).after.sessions
  at None = one
  at (Some t) = one_goes number (need_within seen (BeginSpan table span size)) [] state.sessions one free
effect_one false busy seen state number (CopyRow from into columns key) one free = at busy where
  at : (b : Bool) → OneIn (does (result_effect b (need_within seen (CopyRow from into columns key)) (operation_result seen (copy_operation seen from into columns key))) state number).after.sessions
  at true = one_goes number (need_within seen (CopyRow from into columns key)) (operation_result seen (copy_operation seen from into columns key)).events state.sessions one free
  at false = one_rests number state.sessions one

pub did_one : (state : State) (number : ℕ) (request : Request) → OneIn state.sessions → IsFree state number (need_within (view number state) request) → OneIn (did state number request).after.sessions
unfolding did
did_one state number request one free = effect_one (is_outside (session_of number state.sessions) request) (is_in_transaction (session_of number state.sessions)) (view number state) state number request one free.names

pub done_one : (state : State) (number : ℕ) (request : Request) → OneIn state.sessions → IsFree state number (need state number request) → OneIn (done state number request).after.sessions
unfolding did
done_one state number request one free = effect_one (is_outside (session_of number state.sessions) (filled state number request)) (is_in_transaction (session_of number state.sessions)) (view number state) state number (filled state number request) one free.names

-- A CLIENT'S LINE

word_need : (seen : Database) (word : ScriptWord) → need_within seen (word_asks word) ≡ need_of_word seen word
word_need seen words.Begin = refl
word_need seen words.Commit = refl
word_need seen words.Rollback = refl
word_need seen (words.Do statement) = refl

word_effect : (state : State) (number : ℕ) (word : ScriptWord)
    → does (effect_within (is_in_transaction (session_of number state.sessions)) (view number state) state (word_asks word)) state number ≡ record { answer = (line_says (view number state) word).answer; after = does_word (view number state) state number word }
word_effect state number words.Begin = refl
word_effect state number words.Commit = refl
word_effect state number words.Rollback = refl
word_effect state number (words.Do statement) = at (is_in_transaction (session_of number state.sessions)) where
  at : (b : Bool) → does (result_effect b (need_within (view number state) (requests.Do statement)) (statement_result (view number state) statement)) state number
      ≡ record { answer = (statement_result (view number state) statement).answer; after = cond b (goes_on number (need_of_word (view number state) (words.Do statement)) (statement_result (view number state) statement).events state) (commits number (statement_result (view number state) statement).events state) }
  at true = refl
  at false = refl

word_apart : (state : State) (number : ℕ) (word : ScriptWord) → IsFree state number (need_within (view number state) (word_asks word)) → (n : ℕ) → (n == number) ≡ false → Apart (need_of_word (view number state) word).locks (face_of state.sessions n).hold.locks
word_apart state number word free = subst (λ (need : Need). AreApart state number need.locks) (word_need (view number state) word) free.apart

inside : (scene : Scene) (state : State) (number : ℕ) (going : ℕ → Going) (past : List PlainItem) (work : AtWork scene state number going past) (request : Request) → is_outside (session_of number state.sessions) request ≡ false
inside scene state number going past work request =
    ap (λ (o : Option Session). is_outside o request) work.is ∙ ap (λ (locked : List (List ℕ)). is_beyond locked (tables_named request)) ((own_fits scene state number going past work).unlocked refl)

client_did : (scene : Scene) (state : State) (number : ℕ) (going : ℕ → Going) (past : List PlainItem) (work : AtWork scene state number going past) (word : ScriptWord) → NamesTable scene.mine word → IsFree state number (need_within (view number state) (word_asks word))
    → Turned scene (stored (did state number (word_asks word)).after) (face_of (did state number (word_asks word)).after.sessions) number (word_given (is_busy number state) word (did state number (word_asks word)).answer) going past
unfolding did
client_did scene state number going past work word named free = at (is_outside (session_of number state.sessions) (word_asks word)) (inside scene state number going past work (word_asks word)) free where
  at : (b : Bool) → b ≡ false → IsFree state number (need_within (view number state) (word_asks word))
      → Turned scene (stored (does (effect_unless b (is_in_transaction (session_of number state.sessions)) (view number state) state (word_asks word)) state number).after)
      (face_of (does (effect_unless b (is_in_transaction (session_of number state.sessions)) (view number state) state (word_asks word)) state number).after.sessions) number
      (word_given (is_busy number state) word (does (effect_unless b (is_in_transaction (session_of number state.sessions)) (view number state) state (word_asks word)) state number).answer) going past
  at true off free = absurd (true≢false off)
  at false off free = rw (word_effect state number word, given_so (is_busy number state) word (line_says (view number state) word).answer (line_replies_so (view number state) word)) (word_answered scene state number going past work word (record { apart = word_apart state number word free; named = named }))

-- the line with the number that is drawn for it now
abbrev pub filled_word : State → ℕ → ScriptWord → ScriptWord
filled_word state number (words.Do statement) = words.Do (numbered (offered state number statement) statement)
filled_word state number word = word

pub filled_asks : (state : State) (number : ℕ) (word : ScriptWord) → filled state number (word_asks word) ≡ word_asks (filled_word state number word)
filled_asks state number words.Begin = refl
filled_asks state number words.Commit = refl
filled_asks state number words.Rollback = refl
filled_asks state number (words.Do statement) = refl

pub filled_named : (mine : List (List ℕ)) (state : State) (number : ℕ) (word : ScriptWord) → NamesTable mine word → NamesTable mine (filled_word state number word)
filled_named mine state number words.Begin named = named
filled_named mine state number words.Commit named = named
filled_named mine state number words.Rollback named = named
filled_named mine state number (words.Do statement) named = subst (λ (name : List ℕ). list_any (bytes_eq name) mine ≡ true) (sym (numbered_table (offered state number statement) statement)) named

pub asks_numbered : (draw : Option ℕ) (word : ScriptWord) → drawn_request draw (Some (word_asks word)) ≡ Some (word_asks (word_numbered draw word))
asks_numbered None words.Begin = refl
asks_numbered None words.Commit = refl
asks_numbered None words.Rollback = refl
asks_numbered None (words.Do statement) = refl
asks_numbered (Some n) words.Begin = refl
asks_numbered (Some n) words.Commit = refl
asks_numbered (Some n) words.Rollback = refl
asks_numbered (Some n) (words.Do statement) = refl

reply_answered : (answer : Answer) → IsReply answer → is_answered answer ≡ true
reply_answered (answers.Ok count) is = refl
reply_answered (answers.Rows rows) is = refl
reply_answered (answers.Refused number column) is = refl
reply_answered (answers.Keys keys end) is = absurd is
reply_answered (answers.Ends range) is = absurd is
reply_answered (answers.End key) is = absurd is
reply_answered (answers.At count) is = absurd is
reply_answered (answers.Events events next) is = absurd is
reply_answered (answers.Tables tables) is = absurd is
reply_answered (answers.Waiting waiters) is = absurd is
reply_answered (answers.Waits by) is = absurd is
reply_answered (answers.TimedOut waited) is = absurd is
reply_answered answers.Lost is = absurd is

did_answered : (state : State) (number : ℕ) (word : ScriptWord) → is_answered (did state number (word_asks word)).answer ≡ true
unfolding did
did_answered state number word = at (is_outside (session_of number state.sessions) (word_asks word)) where
  at : (b : Bool) → is_answered (does (effect_unless b (is_in_transaction (session_of number state.sessions)) (view number state) state (word_asks word)) state number).answer ≡ true
  at true = refl
  at false = rw (word_effect state number word) (reply_answered (line_says (view number state) word).answer (line_replies_so (view number state) word))

-- a client's line that is done has drawn the number that it was offered
pub drawn_word : (scene : Scene) (state : State) (number : ℕ) (going : ℕ → Going) (past : List PlainItem) (work : AtWork scene state number going past) (word : ScriptWord) → word_numbered (drawn_by state number (Some (word_asks word)) (done state number (word_asks word)).answer) word ≡ filled_word state number word
drawn_word scene state number going past work words.Begin = refl
drawn_word scene state number going past work words.Commit = refl
drawn_word scene state number going past work words.Rollback = refl
drawn_word scene state number going past work (words.Do statement) =
    rw (did_answered state number (words.Do (numbered (offered state number statement) statement)), inside scene state number going past work (requests.Do statement)) refl

-- a line that waits, or has waited too long, has drawn nothing
pub undrawn_waits : (state : State) (number by : ℕ) (word : ScriptWord) → word_numbered (drawn_by state number (Some (word_asks word)) (answers.Waits by)) word ≡ word
undrawn_waits state number by words.Begin = refl
undrawn_waits state number by words.Commit = refl
undrawn_waits state number by words.Rollback = refl
undrawn_waits state number by (words.Do statement) = refl

pub undrawn_over : (state : State) (number waited : ℕ) (word : ScriptWord) → word_numbered (drawn_by state number (Some (word_asks word)) (answers.TimedOut waited)) word ≡ word
undrawn_over state number waited words.Begin = refl
undrawn_over state number waited words.Commit = refl
undrawn_over state number waited words.Rollback = refl
undrawn_over state number waited (words.Do statement) = refl

pub client_done : (scene : Scene) (state : State) (number : ℕ) (going : ℕ → Going) (past : List PlainItem) (work : AtWork scene state number going past) (word : ScriptWord) → NamesTable scene.mine word → IsFree state number (need state number (word_asks word))
    → Turned scene (stored (done state number (word_asks word)).after) (face_of (done state number (word_asks word)).after.sessions) number (word_given (is_busy number state) (filled_word state number word) (done state number (word_asks word)).answer) going past
client_done scene state number going past work word named =
    subst (λ (r : Request). IsFree state number (need_within (view number state) r) → Turned scene (stored (did state number r).after) (face_of (did state number r).after.sessions) number (word_given (is_busy number state) (filled_word state number word) (did state number r).answer) going past)
    (sym (filled_asks state number word)) (client_did scene state number going past work (filled_word state number word) (filled_named scene.mine state number word named))

-- the fate of a line whose session is lost
abbrev pub lost_line_outcome : ScriptWord → Answer → LineOutcome
lost_line_outcome word given = fates.Ends word (mark_lost (was_given (Some given))) [] ends.Lost

client_did_lost : (scene : Scene) (state : State) (number : ℕ) (going : ℕ → Going) (past : List PlainItem) (work : AtWork scene state number going past) (word : ScriptWord) → NamesTable scene.mine word → IsFree state number (need_within (view number state) (word_asks word))
    → Turned scene (stored (loses number (did state number (word_asks word)).after)) (face_of (loses number (did state number (word_asks word)).after).sessions) number
    (lost_line_outcome word (did state number (word_asks word)).answer) going past
unfolding did
client_did_lost scene state number going past work word named free = at (is_outside (session_of number state.sessions) (word_asks word)) (inside scene state number going past work (word_asks word)) free where
  at : (b : Bool) → b ≡ false → IsFree state number (need_within (view number state) (word_asks word))
      → Turned scene (stored (loses number (does (effect_unless b (is_in_transaction (session_of number state.sessions)) (view number state) state (word_asks word)) state number).after))
      (face_of (loses number (does (effect_unless b (is_in_transaction (session_of number state.sessions)) (view number state) state (word_asks word)) state number).after).sessions) number
      (lost_line_outcome word (does (effect_unless b (is_in_transaction (session_of number state.sessions)) (view number state) state (word_asks word)) state number).answer) going past
  at true off free = absurd (true≢false off)
  at false off free = rw (word_effect state number word, done_so (line_says (view number state) word).answer (line_replies_so (view number state) word)) (word_lost scene state number going past work word (record { apart = word_apart state number word free; named = named }))

pub client_lost : (scene : Scene) (state : State) (number : ℕ) (going : ℕ → Going) (past : List PlainItem) (work : AtWork scene state number going past) (word : ScriptWord) → NamesTable scene.mine word → IsFree state number (need state number (word_asks word))
    → Turned scene (stored (loses number (done state number (word_asks word)).after)) (face_of (loses number (done state number (word_asks word)).after).sessions) number
    (lost_line_outcome (filled_word state number word) (done state number (word_asks word)).answer) going past
client_lost scene state number going past work word named =
    subst (λ (r : Request). IsFree state number (need_within (view number state) r) → Turned scene (stored (loses number (did state number r).after)) (face_of (loses number (did state number r).after).sessions) number (lost_line_outcome (filled_word state number word) (did state number r).answer) going past)
    (sym (filled_asks state number word)) (client_did_lost scene state number going past work (filled_word state number word) (filled_named scene.mine state number word named))

-- A REQUEST OF THE TOOL

-- what a turn of the tool leaves, where its session may be lost at the end
abbrev pub Left : Scene → State → ℕ → (ℕ → Going) → List PlainItem → Bool → Bool → Served → Type 0
Left scene state number going past lost away served =
    Turned scene (stored (final lost number served.after)) (face_of (final lost number served.after).sessions) number (line_outcome_renamed away (Some served.answer)) going past

refused_left : (scene : Scene) (state : State) (number : ℕ) (going : ℕ → Going) (past : List PlainItem) (work : ToolWork scene state number going past) (lost away : Bool) (refusal : ℕ) → Left scene state number going past lost away (record { answer = refuses refusal; after = state })
refused_left scene state number going past work lost true refusal = tool_stays scene state number going past work lost
refused_left scene state number going past work lost false refusal = tool_stays scene state number going past work lost

not_among : (scene : Scene) (names : List (List ℕ)) (name : List ℕ) → AllOther scene names → is_mine scene name ≡ true → list_any (bytes_eq name) names ≡ false
not_among scene [] name others mine = refl
not_among scene (first ∷ names) name others mine = at (bytes_eq name first) refl (not_among scene names name others.1 mine) where
  at : (b : Bool) → bytes_eq name first ≡ b → list_any (bytes_eq name) names ≡ false → (b || list_any (bytes_eq name) names) ≡ false
  at true same rest = absurd (false≢true (sym others.0 ∙ ap (is_mine scene) (sym (are_same name first same)) ∙ mine))
  at false same rest = rest

others_found : (scene : Scene) (state : State) (number : ℕ) (names : List (List ℕ)) (tables : Database) → Free (names_held state.sessions) number (map exclusive names) → Moved names state.tables tables
    → (n : ℕ) → (n == number) ≡ false → (name : List ℕ) → list_any (bytes_eq name) (face_of state.sessions n).hold.names ≡ true → find_table name tables ≡ find_table name state.tables
others_found scene state number names tables free moved n differ name held = moved.others name (names_granted state.sessions number n names name free differ held)

-- tables of other names change
moved_left : (scene : Scene) (state : State) (number : ℕ) (going : ℕ → Going) (past : List PlainItem) (work : ToolWork scene state number going past) (lost : Bool) (names : List (List ℕ)) (tables : Database) → is_in_transaction (session_of number state.sessions) ≡ false → AllOther scene names
    → Free (names_held state.sessions) number (map exclusive names) → Moved names state.tables tables → Left scene state number going past lost false (record { answer = ok; after = record state { tables = tables } })
moved_left scene state number going past work lost names tables rests others free moved =
    tool_redefines scene state number going past work tables false lost rests
    (rw (append-nil past) (serial-alike scene (record { tables = scene.opening; log = [] }) (seen scene (stored state)) (seen scene (record { tables = tables; log = state.log })) past work.holds.kept.serial
    (record { tables = record { each = λ name mine. sym (moved.others name (not_among scene names name others mine)) }; log = refl })))
    (moved.well_formed work.holds.kept.well_formed) (others_found scene state number names tables free moved)

-- the migrated table is altered
altered_left : (scene : Scene) (state : State) (number : ℕ) (going : ℕ → Going) (past : List PlainItem) (work : ToolWork scene state number going past) (lost : Bool) (names : List (List ℕ)) (tables : Database) → is_in_transaction (session_of number state.sessions) ≡ false → scene.exchanges ≡ true → AltersTo scene state.tables tables
    → Free (names_held state.sessions) number (map exclusive names) → Moved names state.tables tables → Left scene state number going past lost true (record { answer = ok; after = record state { tables = tables } })
altered_left scene state number going past work lost names tables rests may alters free moved =
    tool_redefines scene state number going past work tables true lost rests
    (serial-more scene (record { tables = scene.opening; log = [] }) (seen scene (stored state)) (seen scene (record { tables = tables; log = state.log })) past Alter work.holds.kept.serial (may, alters, refl))
    (moved.well_formed work.holds.kept.well_formed) (others_found scene state number names tables free moved)

create_left : (scene : Scene) (state : State) (number : ℕ) (going : ℕ → Going) (past : List PlainItem) (work : ToolWork scene state number going past) (lost : Bool) (schema : Schema) → ToolAsks scene (Create schema) → Free (names_held state.sessions) number (map exclusive (schema.name ∷ [])) → (stands : Bool) → is_in_transaction (session_of number state.sessions) ≡ false
    → Left scene state number going past lost false (does (defined (created stands schema state.tables)) state number)
create_left scene state number going past work lost schema asks free true is = refused_left scene state number going past work lost false ER_TABLE_EXISTS_ERROR
create_left scene state number going past work lost schema asks free false is =
    moved_left scene state number going past work lost (schema.name ∷ []) (state.tables ++ record { schema = schema; rows = [] } ∷ []) is (asks.0, tt) free (create_moves schema state.tables asks.1)

drop_left : (scene : Scene) (state : State) (number : ℕ) (going : ℕ → Going) (past : List PlainItem) (work : ToolWork scene state number going past) (lost : Bool) (name : List ℕ) → is_mine scene name ≡ false → Free (names_held state.sessions) number (map exclusive (name ∷ [])) → (stands : Bool) → is_in_transaction (session_of number state.sessions) ≡ false
    → Left scene state number going past lost false (does (defined (dropped stands name state.tables)) state number)
drop_left scene state number going past work lost name off free false is = refused_left scene state number going past work lost false ER_BAD_TABLE_ERROR
drop_left scene state number going past work lost name off free true is = moved_left scene state number going past work lost (name ∷ []) _ is (off, tt) free (drop_moves name state.tables)

rename_left : (scene : Scene) (state : State) (number : ℕ) (going : ℕ → Going) (past : List PlainItem) (work : ToolWork scene state number going past) (lost : Bool) (pairs : List Pair) → is_mine scene scene.migrated ≡ true → ToolAsks scene (Rename pairs) → Free (names_held state.sessions) number (map exclusive (pair_names pairs))
    → (away : Bool) → is_in_transaction (session_of number state.sessions) ≡ false → takes_away scene.migrated pairs ≡ away → (renamed : Result Database NotRenamed) → rename_tables pairs state.tables ≡ renamed
    → (Some (does (defined (renamed_or renamed)) state number).answer ≡ Some ok → RenamesSo scene state.tables (Some (Rename pairs))) → Left scene state number going past lost away (does (defined (renamed_or renamed)) state number)
rename_left scene state number going past work lost pairs mine asks free away is takes (Err reason) result so = refused_left scene state number going past work lost away _
rename_left scene state number going past work lost pairs mine asks free true is takes (Ok tables) result so = at asks where
  moved : Moved (pair_names pairs) state.tables tables
  moved = rename_moves pairs state.tables tables result

  never : (ps : List Pair) → takes_away scene.migrated ps ≡ true → AllOther scene (pair_names ps) → is_mine scene scene.migrated ≡ false
  never [] takes others = absurd (false≢true takes)
  never (pair ∷ ps) takes others = here (bytes_eq pair.old scene.migrated) refl takes (λ rest. never ps rest others.1.1) where
    here : (b : Bool) → bytes_eq pair.old scene.migrated ≡ b → (b || takes_away scene.migrated ps) ≡ true → (takes_away scene.migrated ps ≡ true → is_mine scene scene.migrated ≡ false) → is_mine scene scene.migrated ≡ false
    here true is takes more = ap (is_mine scene) (sym (are_same pair.old scene.migrated is)) ∙ others.0
    here false is takes more = more takes

  at : AllOther scene (pair_names pairs) ⊎ ((scene.exchanges ≡ true) × (takes_away scene.migrated pairs ≡ true)) → Left scene state number going past lost true (does (defined (renamed_or (Ok tables))) state number)
  at (inr both) = altered_left scene state number going past work lost (pair_names pairs) tables is both.0 (so refl both.0 takes tables result) free moved
  at (inl others) = absurd (false≢true (sym (never pairs takes others) ∙ mine))
rename_left scene state number going past work lost pairs mine asks free false is takes (Ok tables) result so = moved_left scene state number going past work lost (pair_names pairs) tables is (at asks) free (rename_moves pairs state.tables tables result) where
  at : AllOther scene (pair_names pairs) ⊎ ((scene.exchanges ≡ true) × (takes_away scene.migrated pairs ≡ true)) → AllOther scene (pair_names pairs)
  at (inl others) = others
  at (inr more) = absurd (true≢false (sym more.1 ∙ takes))

seen_is : (scene : Scene) (state : State) (number : ℕ) (going : ℕ → Going) (past : List PlainItem) (work : ToolWork scene state number going past) → view number state ≡ after_events state.tables work.found.writes
seen_is scene state number going past work = ap (λ (o : Option Session). after_events state.tables (writes_of o)) work.is

within_left : (scene : Scene) (state : State) (number : ℕ) (going : ℕ → Going) (past : List PlainItem) (work : ToolWork scene state number going past) (lost : Bool) (request : Request) → is_mine scene scene.migrated ≡ true → ToolAsks scene request → DefinesSo scene (is_in_transaction (session_of number state.sessions)) state.tables (Some request) (Some (does (effect_within (is_in_transaction (session_of number state.sessions)) (view number state) state request) state number).answer) → IsFree state number (need_within (view number state) request)
    → Left scene state number going past lost (renames_away scene.migrated (Some request)) (does (effect_within (is_in_transaction (session_of number state.sessions)) (view number state) state request) state number)
within_left scene state number going past work lost requests.Begin mine asks so free = tool_word scene state number going past work words.Begin tt free.apart lost
within_left scene state number going past work lost requests.Commit mine asks so free = tool_word scene state number going past work words.Commit tt free.apart lost
within_left scene state number going past work lost requests.Rollback mine asks so free = tool_word scene state number going past work words.Rollback tt free.apart lost
within_left scene state number going past work lost (requests.Do statement) mine asks so free = at (is_in_transaction (session_of number state.sessions)) where
  at : (b : Bool) → Left scene state number going past lost false (does (result_effect b (need_within (view number state) (requests.Do statement)) (statement_result (view number state) statement)) state number)
  at true = tool_do scene state number going past work statement (view number state) (seen_is scene state number going past work) asks free.apart true lost
  at false = tool_do scene state number going past work statement (view number state) (seen_is scene state number going past work) asks free.apart false lost
within_left scene state number going past work lost (LockTables names) mine asks so free = at (all_exist names state.tables) where
  at : (b : Bool) → Left scene state number going past lost false (does (locks_if b names) state number)
  at true = tool_locks_names scene state number going past work names lost
  at false = refused_left scene state number going past work lost false ER_NO_SUCH_TABLE
within_left scene state number going past work lost Unlock mine asks so free = tool_unlocks_names scene state number going past work lost
within_left scene state number going past work lost (Create schema) mine asks so free = create_left scene state number going past work lost schema asks free.names (has_table schema.name state.tables) so.0
within_left scene state number going past work lost (Drop name) mine asks so free = drop_left scene state number going past work lost name asks free.names (has_table name state.tables) so.0
within_left scene state number going past work lost (Rename pairs) mine asks so free = rename_left scene state number going past work lost pairs mine asks free.names (takes_away scene.migrated pairs) so.0 refl (rename_tables pairs state.tables) refl so.1
within_left scene state number going past work lost ShowTables mine asks so free = tool_stays scene state number going past work lost
within_left scene state number going past work lost ShowWaiting mine asks so free = tool_stays scene state number going past work lost
within_left scene state number going past work lost (ShowCounter table) mine asks so free = tool_stays scene state number going past work lost
within_left scene state number going past work lost (SetCounter table least) mine asks so free = tool_stays scene state number going past work lost
within_left scene state number going past work lost LogEnd mine asks so free = tool_stays scene state number going past work lost
within_left scene state number going past work lost (ReadLog position limit names) mine asks so free = tool_stays scene state number going past work lost
within_left scene state number going past work lost (Ends table) mine asks so free = tool_stays scene state number going past work lost
within_left scene state number going past work lost (ChunkEnd table low top size) mine asks so free = tool_stays scene state number going past work lost
within_left scene state number going past work lost (BeginSpan table span size) mine asks so free = at (find_table table state.tables) where
  need' : Need
  need' = need_within (view number state) (BeginSpan table span size)

  at : (found : Option TableRows) → Left scene state number going past lost false (does (begins found span size need') state number)
  at None = refused_left scene state number going past work lost false ER_NO_SUCH_TABLE
  at (Some t) = tool_goes_on scene state number going past work need' [] lost free.apart (quiet_fine scene state.tables (hold_in work.found) need' (own_fine scene state number going past work))
within_left scene state number going past work lost (CopyRow from into columns key) mine asks so free = at (is_in_transaction (session_of number state.sessions)) where
  need' : Need
  need' = need_within (view number state) (CopyRow from into columns key)

  said' : StatementResult
  said' = operation_result (view number state) (copy_operation (view number state) from into columns key)

  fine : IsFine scene false state.tables (record { names = (hold_in work.found).names ++ need'.names; locks = (hold_in work.found).locks ++ need'.locks; writes = (hold_in work.found).writes ++ said'.events }) not_going
  fine = tool_copies scene state number going past work need' from into columns key (view number state) (seen_is scene state number going past work) asks refl refl free.apart

  at : (b : Bool) → Left scene state number going past lost false (does (result_effect b need' said') state number)
  at true = tool_goes_on scene state number going past work need' said'.events lost free.apart fine
  at false = tool_commits scene state number going past work need' said'.events lost free.apart fine

tool_did : (scene : Scene) (state : State) (number : ℕ) (going : ℕ → Going) (past : List PlainItem) (work : ToolWork scene state number going past) (lost : Bool) (request : Request) → is_mine scene scene.migrated ≡ true → ToolAsks scene request → DefinesSo scene (is_in_transaction (session_of number state.sessions)) state.tables (Some request) (Some (did state number request).answer) → IsFree state number (need_within (view number state) request)
    → Left scene state number going past lost (renames_away scene.migrated (Some request)) (did state number request)
unfolding did
tool_did scene state number going past work lost request mine asks so free = at (is_outside (session_of number state.sessions) request) so free where
  at : (b : Bool) → DefinesSo scene (is_in_transaction (session_of number state.sessions)) state.tables (Some request) (Some (does (effect_unless b (is_in_transaction (session_of number state.sessions)) (view number state) state request) state number).answer) → IsFree state number (need_within (view number state) request) → Left scene state number going past lost (renames_away scene.migrated (Some request)) (does (effect_unless b (is_in_transaction (session_of number state.sessions)) (view number state) state request) state number)
  at true so free = refused_left scene state number going past work lost (renames_away scene.migrated (Some request)) ER_TABLE_NOT_LOCKED
  at false so free = within_left scene state number going past work lost request mine asks so free

pub tool_done : (scene : Scene) (state : State) (number : ℕ) (going : ℕ → Going) (past : List PlainItem) (work : ToolWork scene state number going past) (lost : Bool) (request : Request) → is_mine scene scene.migrated ≡ true → ToolAsks scene request → DefinesSo scene (is_in_transaction (session_of number state.sessions)) state.tables (Some request) (Some (done state number request).answer) → IsFree state number (need state number request)
    → Left scene state number going past lost (renames_away scene.migrated (Some request)) (done state number request)
tool_done scene state number going past work lost request mine =
    filled_case
    (λ asked full. ToolAsks scene asked → DefinesSo scene (is_in_transaction (session_of number state.sessions)) state.tables (Some asked) (Some (did state number full).answer) → IsFree state number (need_within (view number state) full) → Left scene state number going past lost (renames_away scene.migrated (Some asked)) (did state number full))
    (λ r asks so free. tool_did scene state number going past work lost r mine asks so free)
    (λ statement n asks so free. tool_did scene state number going past work lost (requests.Do (numbered n statement)) mine (subst (λ (name : List ℕ). is_mine scene name ≡ false) (sym (numbered_table n statement)) asks) so free)
    (is_of_tool (session_of number state.sessions)) state.tables state.counters request
