-- Each turn keeps all that is kept; and so every journal.
use Rattle.std.proofs.Common.{◌≡◌, ℕ, ◌+◌, Bool, true, false, not, ◌||◌, List, [], ◌∷◌, ◌++◌, filter, cond, Option, Some, None, refl, sym, ap, ◌∙◌, subst}
use Rattle.std.specs.Prelude.{◌==◌}
use Rattle.std.proofs.lemmas.Bool.{false≢true}
use Rattle.table_store.specs.Databases.{Database}
use Rattle.base_script.specs.declared.actor.Side.{Side}
use Rattle.base_script.specs.declared.actor.Side.TheVariants.{Before, After}
use Rattle.base_script.specs.declared.script.ScriptWord.{ScriptWord}
use Rattle.base_script.specs.declared.script.ScriptWord.TheVariants as words
use Rattle.server_model.specs.declared.session.Limits.{Limits}
use Rattle.server_model.specs.declared.session.Session.{Session}
use Rattle.server_model.specs.Along.{Along, Along-both, Along-keeps, gathered-more}
use Rattle.server_model.specs.LockedRows.Databases.{IsWellFormedDatabase}
use Rattle.server_model.specs.Alone.{Ran, lines_run, nothing_ran}
use Rattle.server_model.specs.LockedRows.Stability.{RunSo}
use Rattle.proof_journals.specs.Scenes.{PlainItem, Stored, Scene, is_mine, tables_left, left, seen, NamesTable, SessionHold, Going, no_hold, not_going, IsFine, Besides}
use Rattle.server_model.specs.declared.answer.Answer.{Answer}
use Rattle.server_model.specs.declared.answer.Answer.TheVariants as answers
use Rattle.server_model.specs.Answers.{ok}
use Rattle.proof_journals.specs.Turns.{scene_state, inner, answer_at, missed_at, drawn_side, drawn_at, drawn_request, reported_at, IsReported, LineOutcome, Still, word_given, was_given, broken, word_lost, word_asked, line_outcome_renamed, request_of, about, is_busy, line_outcome_if, line_outcome, happens, goings_after, goings_from, goings_at, entry_adds, history, MayAskIf, MayAsk, ClientAsks, ToolAsks, RenamesSo, DefinesSo, AtRest, IsAllowed, IsSceneRun}
use Rattle.tool_program.specs.JournalWords.Histories.{renames_away}
use Rattle.server_model.specs.declared.entry.Asked.{Asked}
use Rattle.server_model.specs.declared.entry.Asked.TheVariants.{Call, Poll, Cut, Command}
use Rattle.server_model.specs.declared.entry.Entry.{Entry}
use Rattle.server_model.specs.Entries.{is_command, is_client}
use Rattle.proof_journals.specs.Holdings.{Face, no_face, face_in, face_of, stored, Holds, ProperWaits}
use Rattle.proof_journals.specs.Laws.{SceneSerial, ScenesAreSerial, IsPlain, PlainScenesAreSerial}
use Rattle.server_model.proofs.LockedRows.Stables.{stable_end}
use Rattle.proof_journals.proofs.Left.{serial_left, left_found, none_alters}
use Rattle.proof_journals.proofs.Bridges.{lines_alike}
use Rattle.proof_journals.proofs.Kept.{kept_same, fine_rest}
use Rattle.proof_journals.proofs.Faces.{faces_with, faces_without, faces_opened, opened_live}
use Rattle.proof_journals.proofs.Names.{OneIn, one_rests, one_counts, one_less, opened_one}
use Rattle.proof_journals.proofs.Turning.{Turned, turned_still, tool_rests}
use Rattle.proof_journals.proofs.Answering.{AtWork, own_fits, rests_with, lost_faces, word_timed_out, word_undone, session_lost}
use Rattle.proof_journals.proofs.Tooling.{ToolWork, final, tool_stays, tool_forgets, tool_counts}
use Rattle.proof_journals.proofs.Serves.{IsFree, granted, done_one, asks_numbered, drawn_word, undrawn_waits, undrawn_over, client_done, client_lost, lost_line_outcome, tool_done}
use Rattle.server_model.specs.declared.request.Request.TheVariants.{BeginSpan, ChunkEnd, CopyRow, Create, Drop, Ends, LockTables, LogEnd, ReadLog, Rename, SetCounter, ShowCounter, ShowTables, ShowWaiting, Unlock}
use Rattle.server_model.specs.declared.request.Request.{Request}
use Rattle.std.specs.Prelude.{is_some}
use Rattle.server_model.specs.States.{connected, State, is_in_transaction, opened, polls_of, session_of, waiting_of, with_session}
use Rattle.server_model.specs.declared.request.Request.TheVariants as requests
use Rattle.server_model.specs.Effects.{Effect, Forgets, Grows, Locks, Moves, Rests, Unlocks, Writes, effect}
use Rattle.server_model.specs.Drawing.{filled}
use Rattle.server_model.specs.Counting.{drawn_by}
use Rattle.server_model.specs.PlainServer.{at_rest, called_unless, calls, counting, does, done, did, is_over, leaves, loses, polled_of, polled_over, polled_unless, polls, serves, without_waiting}
use Rattle.server_model.specs.declared.session.Waiting.{Waiting}
use Rattle.proof_journals.specs.LineRequests.{word_in}
use Rattle.tool_program.specs.JournalWords.Clients.{word_numbered, word_asks}
use Rattle.server_model.specs.Blockers.{need, blocker}
use Rattle.tool_program.specs.JournalWords.Journals.{after_entry, opens, opens_if, state_after}
use Rattle.server_model.proofs.LockedRows.Tests.{are_one}

-- A CLIENT'S TURN

counted : (scene : Scene) (state : State) (number count : ℕ) (going : ℕ → Going) (past : List PlainItem) (work : AtWork scene state number going past) → Besides number (face_of state.sessions) (face_of (with_session number (counting count) state.sessions)) (face_in (Some work.found))
counted scene state number count going past work = faces_with number (counting count) state.sessions work.found (λ s. refl) work.is

same_faces : (scene : Scene) (state : State) (number : ℕ) (going : ℕ → Going) (past : List PlainItem) (work : AtWork scene state number going past) (new : ℕ → Face) → Besides number (face_of state.sessions) new (face_in (Some work.found)) → (n : ℕ) → new n ≡ face_of state.sessions n
same_faces scene state number going past work new besides n = at (n == number) refl where
  at : (b : Bool) → (n == number) ≡ b → new n ≡ face_of state.sessions n
  at true is = let same : n ≡ number = are_one n number is in subst (λ (m : ℕ). new m ≡ face_of state.sessions m) (sym same) (besides.here ∙ sym (ap face_in work.is))
  at false is = besides.there n is

-- a client's session outside a transaction holds nothing that could be taken away
rest_same : (scene : Scene) (state : State) (number : ℕ) (going : ℕ → Going) (past : List PlainItem) (work : AtWork scene state number going past) (new : ℕ → Face) → is_busy number state ≡ false → Besides number (face_of state.sessions) new no_face → (n : ℕ) → new n ≡ face_of state.sessions n
rest_same scene state number going past work new rests besides =
    same_faces scene state number going past work new (record { there = besides.there; here = besides.here ∙ sym none }) where
      busy : work.found.in_transaction ≡ false
      busy = sym (ap is_in_transaction work.is) ∙ rests

      none : face_in (Some work.found) ≡ no_face
      none = ap (λ (hold : SessionHold). let f : Face = record { hold = hold; locked = (face_in (Some work.found)).locked; busy = work.found.in_transaction } in f) ((own_fits scene state number going past work).rests busy).0
          ∙ ap (λ (l : List (List ℕ)). let f : Face = record { hold = no_hold; locked = l; busy = work.found.in_transaction } in f) ((own_fits scene state number going past work).unlocked refl)
          ∙ ap (λ (b : Bool). let f : Face = record { hold = no_hold; locked = []; busy = b } in f) busy

-- what the client asks is a line
abbrev pub AsksIf : Bool → Scene → Option Request → Type 0
AsksIf own scene None = Unit {0}
AsksIf own scene (Some request) = MayAskIf own scene request

abbrev pub AsksWord : Scene → Option Request → Type 0
AsksWord scene asks = AsksIf true scene asks

-- nothing of the turn was done, whatever else it changed of the session
lost_before : (scene : Scene) (state : State) (sessions : List Session) (own : Face) (number : ℕ) (going : ℕ → Going) (past : List PlainItem) (work : AtWork scene state number going past) (asks : Option Request) (missed : Option Answer) → was_given missed ≡ false → AsksWord scene asks → (busy : Bool) → is_busy number state ≡ busy
    → Besides number (face_of state.sessions) (face_of sessions) own → Turned scene (stored state) (face_of (filter (λ session. not (session.number == number)) sessions)) number (word_lost busy asks missed) going past
lost_before scene state sessions own number going past work (Some requests.Begin) missed none named busy is besides = rw none (word_undone scene state sessions own number going past work words.Begin named besides)
lost_before scene state sessions own number going past work (Some requests.Commit) missed none named busy is besides = rw none (word_undone scene state sessions own number going past work words.Commit named besides)
lost_before scene state sessions own number going past work (Some requests.Rollback) missed none named busy is besides = rw none (word_undone scene state sessions own number going past work words.Rollback named besides)
lost_before scene state sessions own number going past work (Some (requests.Do statement)) missed none named busy is besides = rw none (word_undone scene state sessions own number going past work (words.Do statement) named besides)
lost_before scene state sessions own number going past work None missed none named true is besides = session_lost scene state sessions own number going past work besides
lost_before scene state sessions own number going past work None missed none named false is besides =
    turned_still scene (stored state) (face_of state.sessions) (face_of (filter (λ session. not (session.number == number)) sessions)) number going past
    (rest_same scene state number going past work (face_of (filter (λ session. not (session.number == number)) sessions)) is (lost_faces number state.sessions sessions own besides)) work.holds
lost_before scene state sessions own number going past work (Some (LockTables names)) missed none named busy is besides = absurd named
lost_before scene state sessions own number going past work (Some Unlock) missed none named busy is besides = absurd named
lost_before scene state sessions own number going past work (Some (Create schema)) missed none named busy is besides = absurd named
lost_before scene state sessions own number going past work (Some (Drop name)) missed none named busy is besides = absurd named
lost_before scene state sessions own number going past work (Some (Rename pairs)) missed none named busy is besides = absurd named
lost_before scene state sessions own number going past work (Some ShowTables) missed none named busy is besides = absurd named
lost_before scene state sessions own number going past work (Some ShowWaiting) missed none named busy is besides = absurd named
lost_before scene state sessions own number going past work (Some (ShowCounter table)) missed none named busy is besides = absurd named
lost_before scene state sessions own number going past work (Some (SetCounter table least)) missed none named busy is besides = absurd named
lost_before scene state sessions own number going past work (Some LogEnd) missed none named busy is besides = absurd named
lost_before scene state sessions own number going past work (Some (ReadLog position limit names)) missed none named busy is besides = absurd named
lost_before scene state sessions own number going past work (Some (Ends table)) missed none named busy is besides = absurd named
lost_before scene state sessions own number going past work (Some (ChunkEnd table low top size)) missed none named busy is besides = absurd named
lost_before scene state sessions own number going past work (Some (BeginSpan table span size)) missed none named busy is besides = absurd named
lost_before scene state sessions own number going past work (Some (CopyRow from into columns key)) missed none named busy is besides = absurd named

itself : (scene : Scene) (state : State) (number : ℕ) (going : ℕ → Going) (past : List PlainItem) (work : AtWork scene state number going past) → Besides number (face_of state.sessions) (face_of state.sessions) (face_in (Some work.found))
itself scene state number going past work = record { there = λ n differ. refl; here = ap face_in work.is }

waited_still : (scene : Scene) (state : State) (number count : ℕ) (going : ℕ → Going) (past : List PlainItem) (work : AtWork scene state number going past) → Turned scene (stored state) (face_of (with_session number (counting count) state.sessions)) number Still going past
waited_still scene state number count going past work =
    turned_still scene (stored state) (face_of state.sessions) (face_of (with_session number (counting count) state.sessions)) number going past
    (same_faces scene state number going past work (face_of (with_session number (counting count) state.sessions)) (counted scene state number count going past work)) work.holds

pub word_back : (word : ScriptWord) → word_in (word_asks word) ≡ Some word
word_back words.Begin = refl
word_back words.Commit = refl
word_back words.Rollback = refl
word_back (words.Do statement) = refl

-- a call
call_kept : (scene : Scene) (state : State) (number : ℕ) (going : ℕ → Going) (past : List PlainItem) (work : AtWork scene state number going past) → OneIn state.sessions → (word : ScriptWord) → NamesTable scene.mine word → (by : Option ℕ) → blocker state number (need state number (word_asks word)) ≡ by
    → Turned scene (stored (called_unless by state number (word_asks word)).after) (face_of (called_unless by state number (word_asks word)).after.sessions) number (word_given (is_busy number state) (word_numbered (drawn_by state number (Some (word_asks word)) (called_unless by state number (word_asks word)).answer) word) (called_unless by state number (word_asks word)).answer) going past
call_kept scene state number going past work one word named None is =
    subst (λ (w : ScriptWord). Turned scene (stored (done state number (word_asks word)).after) (face_of (done state number (word_asks word)).after.sessions) number (word_given (is_busy number state) w (done state number (word_asks word)).answer) going past)
    (sym (drawn_word scene state number going past work word)) (client_done scene state number going past work word named (granted state number (need state number (word_asks word)) one is))
call_kept scene state number going past work one word named (Some by) is = waited_still scene state number 0 going past work

call_lost : (scene : Scene) (state : State) (number : ℕ) (going : ℕ → Going) (past : List PlainItem) (work : AtWork scene state number going past) → OneIn state.sessions → (word : ScriptWord) → NamesTable scene.mine word → (by : Option ℕ) → blocker state number (need state number (word_asks word)) ≡ by
    → Turned scene (stored (loses number (called_unless by state number (word_asks word)).after)) (face_of (loses number (called_unless by state number (word_asks word)).after).sessions) number (lost_line_outcome (word_numbered (drawn_by state number (Some (word_asks word)) (called_unless by state number (word_asks word)).answer) word) (called_unless by state number (word_asks word)).answer) going past
unfolding loses
call_lost scene state number going past work one word named None is =
    subst (λ (w : ScriptWord). Turned scene (stored (loses number (done state number (word_asks word)).after)) (face_of (loses number (done state number (word_asks word)).after).sessions) number (lost_line_outcome w (done state number (word_asks word)).answer) going past)
    (sym (drawn_word scene state number going past work word)) (client_lost scene state number going past work word named (granted state number (need state number (word_asks word)) one is))
call_lost scene state number going past work one word named (Some by) is =
    subst (λ (w : ScriptWord). Turned scene (stored state) (face_of (filter (λ session. not (session.number == number)) (with_session number (counting 0) state.sessions))) number (lost_line_outcome w (answers.Waits by)) going past)
    (sym (undrawn_waits state number by word)) (word_undone scene state (with_session number (counting 0) state.sessions) (face_in (Some work.found)) number going past work word named (counted scene state number 0 going past work))

-- a poll
without_work : (scene : Scene) (state : State) (number : ℕ) (going : ℕ → Going) (past : List PlainItem) (work : AtWork scene state number going past) → AtWork scene (without_waiting number state) number going past
without_work scene state number going past work = record { holds = work.holds; found = work.found; is = work.is; client = work.client }

free_without : (state : State) (number : ℕ) (request : Request) → IsFree state number (need state number request) → IsFree (without_waiting number state) number (need (without_waiting number state) number request)
free_without state number request free = record { apart = free.apart; names = free.names }

poll_kept : (scene : Scene) (state : State) (number : ℕ) (going : ℕ → Going) (past : List PlainItem) (work : AtWork scene state number going past) → OneIn state.sessions → (word : ScriptWord) → NamesTable scene.mine word → (by : Option ℕ) → blocker state number (need state number (word_asks word)) ≡ by
    → Turned scene (stored (polled_unless by state number (word_asks word)).after) (face_of (polled_unless by state number (word_asks word)).after.sessions) number (word_given (is_busy number state) (word_numbered (drawn_by state number (Some (word_asks word)) (polled_unless by state number (word_asks word)).answer) word) (polled_unless by state number (word_asks word)).answer) going past
poll_kept scene state number going past work one word named None is =
    subst (λ (w : ScriptWord). Turned scene (stored (done (without_waiting number state) number (word_asks word)).after) (face_of (done (without_waiting number state) number (word_asks word)).after.sessions) number (word_given (is_busy number state) w (done (without_waiting number state) number (word_asks word)).answer) going past)
    (sym (drawn_word scene (without_waiting number state) number going past (without_work scene state number going past work) word))
    (client_done scene (without_waiting number state) number going past (without_work scene state number going past work) word named (free_without state number (word_asks word) (granted state number (need state number (word_asks word)) one is)))
poll_kept scene state number going past work one word named (Some by) is = at (is_over state number) where
  at : (b : Bool) → Turned scene (stored (polled_over b by state number).after) (face_of (polled_over b by state number).after.sessions) number (word_given (is_busy number state) (word_numbered (drawn_by state number (Some (word_asks word)) (polled_over b by state number).answer) word) (polled_over b by state number).answer) going past
  at true =
      subst (λ (w : ScriptWord). Turned scene (stored (polled_over true by state number).after) (face_of (polled_over true by state number).after.sessions) number (word_given (is_busy number state) w (polled_over true by state number).answer) going past)
      (sym (undrawn_over state number (polls_of (session_of number state.sessions) + 1) word)) (word_timed_out scene state number going past work word named)
  at false = waited_still scene state number (polls_of (session_of number state.sessions) + 1) going past work

poll_lost : (scene : Scene) (state : State) (number : ℕ) (going : ℕ → Going) (past : List PlainItem) (work : AtWork scene state number going past) → OneIn state.sessions → (word : ScriptWord) → NamesTable scene.mine word → (by : Option ℕ) → blocker state number (need state number (word_asks word)) ≡ by
    → Turned scene (stored (loses number (polled_unless by state number (word_asks word)).after)) (face_of (loses number (polled_unless by state number (word_asks word)).after).sessions) number (lost_line_outcome (word_numbered (drawn_by state number (Some (word_asks word)) (polled_unless by state number (word_asks word)).answer) word) (polled_unless by state number (word_asks word)).answer) going past
unfolding loses
poll_lost scene state number going past work one word named None is =
    subst (λ (w : ScriptWord). Turned scene (stored (loses number (done (without_waiting number state) number (word_asks word)).after)) (face_of (loses number (done (without_waiting number state) number (word_asks word)).after).sessions) number (lost_line_outcome w (done (without_waiting number state) number (word_asks word)).answer) going past)
    (sym (drawn_word scene (without_waiting number state) number going past (without_work scene state number going past work) word))
    (client_lost scene (without_waiting number state) number going past (without_work scene state number going past work) word named (free_without state number (word_asks word) (granted state number (need state number (word_asks word)) one is)))
poll_lost scene state number going past work one word named (Some by) is = at (is_over state number) where
  at : (b : Bool) → Turned scene (stored (loses number (polled_over b by state number).after)) (face_of (loses number (polled_over b by state number).after).sessions) number (lost_line_outcome (word_numbered (drawn_by state number (Some (word_asks word)) (polled_over b by state number).answer) word) (polled_over b by state number).answer) going past
  at true =
      subst (λ (w : ScriptWord). Turned scene (stored (loses number (polled_over true by state number).after)) (face_of (loses number (polled_over true by state number).after).sessions) number (lost_line_outcome w (polled_over true by state number).answer) going past)
      (sym (undrawn_over state number (polls_of (session_of number state.sessions) + 1) word)) (word_undone scene state (with_session number at_rest state.sessions) no_face number going past work word named (rests_with scene state number going past work))
  at false =
      subst (λ (w : ScriptWord). Turned scene (stored (loses number (polled_over false by state number).after)) (face_of (loses number (polled_over false by state number).after).sessions) number (lost_line_outcome w (polled_over false by state number).answer) going past)
      (sym (undrawn_waits state number by word)) (word_undone scene state (with_session number (counting (polls_of (session_of number state.sessions) + 1)) state.sessions) (face_in (Some work.found)) number going past work word named (counted scene state number (polls_of (session_of number state.sessions) + 1) going past work))

-- a line of a request that a client may ask
word_of : (scene : Scene) (request : Request) (P : Request → Type 0) → ClientAsks scene request → ((word : ScriptWord) → NamesTable scene.mine word → P (word_asks word)) → P request
word_of scene requests.Begin P asks f = f words.Begin asks
word_of scene requests.Commit P asks f = f words.Commit asks
word_of scene requests.Rollback P asks f = f words.Rollback asks
word_of scene (requests.Do statement) P asks f = f (words.Do statement) asks
word_of scene (LockTables names) P asks f = absurd asks
word_of scene Unlock P asks f = absurd asks
word_of scene (Create schema) P asks f = absurd asks
word_of scene (Drop name) P asks f = absurd asks
word_of scene (Rename pairs) P asks f = absurd asks
word_of scene ShowTables P asks f = absurd asks
word_of scene ShowWaiting P asks f = absurd asks
word_of scene (ShowCounter table) P asks f = absurd asks
word_of scene (SetCounter table least) P asks f = absurd asks
word_of scene LogEnd P asks f = absurd asks
word_of scene (ReadLog position limit names) P asks f = absurd asks
word_of scene (Ends table) P asks f = absurd asks
word_of scene (ChunkEnd table low top size) P asks f = absurd asks
word_of scene (BeginSpan table span size) P asks f = absurd asks
word_of scene (CopyRow from into columns key) P asks f = absurd asks

-- the fate of a turn that was answered as the server answers
abbrev pub line_outcome_by : Bool → Scene → Option Side → State → ℕ → Asked → LineOutcome
line_outcome_by own scene side state number asked = line_outcome_if own scene state number asked side (answer_at side (serves state number asked).answer) (missed_at side (serves state number asked).answer) (drawn_side side state number asked)

abbrev pub TurnsSo : Bool → Scene → Option Side → State → ℕ → Asked → (ℕ → Going) → List PlainItem → Type 0
TurnsSo own scene side state number asked going past = Turned scene (stored (leaves side state number asked)) (face_of (leaves side state number asked).sessions) number (line_outcome_by own scene side state number asked) going past

client_polled : (scene : Scene) (state : State) (number : ℕ) (going : ℕ → Going) (past : List PlainItem) (work : AtWork scene state number going past) → OneIn state.sessions → (waiting : Option Waiting) → AsksWord scene (request_of waiting)
    → Turned scene (stored (polled_of waiting state number).after) (face_of (polled_of waiting state number).after.sessions) number (word_asked (is_busy number state) (drawn_request (drawn_by state number (request_of waiting) (polled_of waiting state number).answer) (request_of waiting)) (polled_of waiting state number).answer) going past
client_polled scene state number going past work one None asks = turned_still scene (stored state) (face_of state.sessions) (face_of state.sessions) number going past (λ n. refl) work.holds
client_polled scene state number going past work one (Some waiting) asks =
    word_of scene waiting.request (λ request. Turned scene (stored (polled_of (Some (record { session = waiting.session; request = request })) state number).after) (face_of (polled_of (Some (record { session = waiting.session; request = request })) state number).after.sessions) number (word_asked (is_busy number state) (drawn_request (drawn_by state number (Some request) (polled_of (Some (record { session = waiting.session; request = request })) state number).answer) (Some request)) (polled_of (Some (record { session = waiting.session; request = request })) state number).answer) going past) asks
    (λ word named. rw (asks_numbered (drawn_by state number (Some (word_asks word)) (polled_unless (blocker state number (need state number (word_asks word))) state number (word_asks word)).answer) word, word_back (word_numbered (drawn_by state number (Some (word_asks word)) (polled_unless (blocker state number (need state number (word_asks word))) state number (word_asks word)).answer) word)) (poll_kept scene state number going past work one word named (blocker state number (need state number (word_asks word))) refl))

client_poll_lost : (scene : Scene) (state : State) (number : ℕ) (going : ℕ → Going) (past : List PlainItem) (work : AtWork scene state number going past) → OneIn state.sessions → (waiting : Option Waiting) → AsksWord scene (request_of waiting)
    → Turned scene (stored (loses number (polled_of waiting state number).after)) (face_of (loses number (polled_of waiting state number).after).sessions) number (word_lost (is_busy number state) (drawn_request (drawn_by state number (request_of waiting) (polled_of waiting state number).answer) (request_of waiting)) (Some (polled_of waiting state number).answer)) going past
unfolding loses
client_poll_lost scene state number going past work one None asks = quiet (is_busy number state) refl where
  quiet : (busy : Bool) → is_busy number state ≡ busy → Turned scene (stored state) (face_of (filter (λ session. not (session.number == number)) state.sessions)) number (broken busy) going past
  quiet busy is = lost_before scene state state.sessions (face_in (Some work.found)) number going past work None None refl tt busy is (itself scene state number going past work)
client_poll_lost scene state number going past work one (Some waiting) asks =
    word_of scene waiting.request (λ request. Turned scene (stored (loses number (polled_of (Some (record { session = waiting.session; request = request })) state number).after)) (face_of (loses number (polled_of (Some (record { session = waiting.session; request = request })) state number).after).sessions) number (word_lost (is_busy number state) (drawn_request (drawn_by state number (Some request) (polled_of (Some (record { session = waiting.session; request = request })) state number).answer) (Some request)) (Some (polled_of (Some (record { session = waiting.session; request = request })) state number).answer)) going past) asks
    (λ word named. rw (asks_numbered (drawn_by state number (Some (word_asks word)) (polled_unless (blocker state number (need state number (word_asks word))) state number (word_asks word)).answer) word, word_back (word_numbered (drawn_by state number (Some (word_asks word)) (polled_unless (blocker state number (need state number (word_asks word))) state number (word_asks word)).answer) word)) (poll_lost scene state number going past work one word named (blocker state number (need state number (word_asks word))) refl))

client_turn : (scene : Scene) (side : Option Side) (state : State) (number : ℕ) (asked : Asked) (going : ℕ → Going) (past : List PlainItem) (work : AtWork scene state number going past) → OneIn state.sessions → AsksWord scene (about state number asked) → AsksWord scene (request_of (waiting_of number state.waiting)) → TurnsSo true scene side state number asked going past
unfolding calls polls loses
client_turn scene None state number (Call request) going past work one asks waits =
    word_of scene request (λ r. TurnsSo true scene None state number (Call r) going past) asks (λ word named. rw (asks_numbered (drawn_by state number (Some (word_asks word)) (called_unless (blocker state number (need state number (word_asks word))) state number (word_asks word)).answer) word, word_back (word_numbered (drawn_by state number (Some (word_asks word)) (called_unless (blocker state number (need state number (word_asks word))) state number (word_asks word)).answer) word)) (call_kept scene state number going past work one word named (blocker state number (need state number (word_asks word))) refl))
client_turn scene None state number Poll going past work one asks waits = client_polled scene state number going past work one (waiting_of number state.waiting) waits
client_turn scene None state number Cut going past work one asks waits =
    lost_before scene state state.sessions (face_in (Some work.found)) number going past work (about state number Cut) None refl waits (is_busy number state) refl (itself scene state number going past work)
client_turn scene (Some Before) state number asked going past work one asks waits =
    lost_before scene state state.sessions (face_in (Some work.found)) number going past work (about state number asked) None refl asks (is_busy number state) refl (itself scene state number going past work)
client_turn scene (Some After) state number (Call request) going past work one asks waits =
    word_of scene request (λ r. TurnsSo true scene (Some After) state number (Call r) going past) asks (λ word named. rw (asks_numbered (drawn_by state number (Some (word_asks word)) (called_unless (blocker state number (need state number (word_asks word))) state number (word_asks word)).answer) word, word_back (word_numbered (drawn_by state number (Some (word_asks word)) (called_unless (blocker state number (need state number (word_asks word))) state number (word_asks word)).answer) word)) (call_lost scene state number going past work one word named (blocker state number (need state number (word_asks word))) refl))
client_turn scene (Some After) state number Poll going past work one asks waits = client_poll_lost scene state number going past work one (waiting_of number state.waiting) waits
client_turn scene None state number (Command word) going past work one asks waits = turned_still scene (stored state) (face_of state.sessions) (face_of state.sessions) number going past (λ n. refl) work.holds
client_turn scene (Some After) state number (Command word) going past work one asks waits =
    lost_before scene state state.sessions (face_in (Some work.found)) number going past work None None refl tt (is_busy number state) refl (itself scene state number going past work)
client_turn scene (Some After) state number Cut going past work one asks waits =
    lost_before scene state (filter (λ session. not (session.number == number)) state.sessions) no_face number going past work (about state number Cut) (Some answers.Lost) refl waits (is_busy number state) refl (faces_without number state.sessions)

-- A TURN OF THE TOOL

waits_still : (scene : Scene) (state : State) (number count : ℕ) (going : ℕ → Going) (past : List PlainItem) (work : ToolWork scene state number going past) (lost away : Bool) (by : ℕ) (state' : State) → state'.tables ≡ state.tables → state'.log ≡ state.log → state'.sessions ≡ with_session number (counting count) state.sessions
    → Turned scene (stored (final lost number state')) (face_of (final lost number state').sessions) number (line_outcome_renamed away (Some (answers.Waits by))) going past
waits_still scene state number count going past work lost true by state' tables log sessions = tool_counts scene state number count going past work lost state' tables log sessions
waits_still scene state number count going past work lost false by state' tables log sessions = tool_counts scene state number count going past work lost state' tables log sessions

tool_call : (scene : Scene) (state : State) (number : ℕ) (going : ℕ → Going) (past : List PlainItem) (work : ToolWork scene state number going past) → is_mine scene scene.migrated ≡ true → OneIn state.sessions → (lost : Bool) (request : Request) → ToolAsks scene request → (by : Option ℕ) → DefinesSo scene (is_in_transaction (session_of number state.sessions)) state.tables (Some request) (Some (called_unless by state number request).answer) → blocker state number (need state number request) ≡ by
    → Turned scene (stored (final lost number (called_unless by state number request).after)) (face_of (final lost number (called_unless by state number request).after).sessions) number (line_outcome_renamed (renames_away scene.migrated (Some request)) (Some (called_unless by state number request).answer)) going past
tool_call scene state number going past work mine one lost request asks None so is = tool_done scene state number going past work lost request mine asks so (granted state number (need state number request) one is)
tool_call scene state number going past work mine one lost request asks (Some by) so is = waits_still scene state number 0 going past work lost (renames_away scene.migrated (Some request)) by (called_unless (Some by) state number request).after refl refl refl

tool_without : (scene : Scene) (state : State) (number : ℕ) (going : ℕ → Going) (past : List PlainItem) (work : ToolWork scene state number going past) → ToolWork scene (without_waiting number state) number going past
tool_without scene state number going past work = record { holds = work.holds; found = work.found; is = work.is; tool = work.tool }

tool_poll : (scene : Scene) (state : State) (number : ℕ) (going : ℕ → Going) (past : List PlainItem) (work : ToolWork scene state number going past) → is_mine scene scene.migrated ≡ true → OneIn state.sessions → (lost : Bool) (request : Request) → ToolAsks scene request → (by : Option ℕ) → DefinesSo scene (is_in_transaction (session_of number state.sessions)) state.tables (Some request) (Some (polled_unless by state number request).answer) → blocker state number (need state number request) ≡ by
    → Turned scene (stored (final lost number (polled_unless by state number request).after)) (face_of (final lost number (polled_unless by state number request).after).sessions) number (line_outcome_renamed (renames_away scene.migrated (Some request)) (Some (polled_unless by state number request).answer)) going past
tool_poll scene state number going past work mine one lost request asks None so is =
    tool_done scene (without_waiting number state) number going past (tool_without scene state number going past work) lost request mine asks so (free_without state number request (granted state number (need state number request) one is))
tool_poll scene state number going past work mine one lost request asks (Some by) so is = at (is_over state number) (renames_away scene.migrated (Some request)) where
  at : (b away : Bool) → Turned scene (stored (final lost number (polled_over b by state number).after)) (face_of (final lost number (polled_over b by state number).after).sessions) number (line_outcome_renamed away (Some (polled_over b by state number).answer)) going past
  at true true = tool_forgets scene (without_waiting number state) number going past (tool_without scene state number going past work) lost
  at true false = tool_forgets scene (without_waiting number state) number going past (tool_without scene state number going past work) lost
  at false away = waits_still scene state number (polls_of (session_of number state.sessions) + 1) going past work lost away by (polled_over false by state number).after refl refl refl

tool_polled : (scene : Scene) (state : State) (number : ℕ) (going : ℕ → Going) (past : List PlainItem) (work : ToolWork scene state number going past) → is_mine scene scene.migrated ≡ true → OneIn state.sessions → (lost : Bool) (waiting : Option Waiting) → AsksIf false scene (request_of waiting) → DefinesSo scene (is_in_transaction (session_of number state.sessions)) state.tables (request_of waiting) (Some (polled_of waiting state number).answer)
    → Turned scene (stored (final lost number (polled_of waiting state number).after)) (face_of (final lost number (polled_of waiting state number).after).sessions) number (line_outcome_renamed (renames_away scene.migrated (request_of waiting)) (Some (polled_of waiting state number).answer)) going past
tool_polled scene state number going past work mine one lost None asks so = tool_stays scene state number going past work lost
tool_polled scene state number going past work mine one lost (Some waiting) asks so = tool_poll scene state number going past work mine one lost waiting.request asks (blocker state number (need state number waiting.request)) so refl

lost_still : (scene : Scene) (state : State) (number : ℕ) (going : ℕ → Going) (past : List PlainItem) (work : ToolWork scene state number going past) (away : Bool) (reported : Option Answer) → ((b : Bool) → line_outcome_renamed b reported ≡ Still)
    → Turned scene (stored (loses number state)) (face_of (loses number state).sessions) number (line_outcome_renamed away reported) going past
unfolding loses
lost_still scene state number going past work away reported still = rw (still away) (tool_stays scene state number going past work true)

lost_given : (b : Bool) → line_outcome_renamed b (Some answers.Lost) ≡ Still
lost_given true = refl
lost_given false = refl

none_given : (b : Bool) → line_outcome_renamed b None ≡ Still
none_given true = refl
none_given false = refl

gone_twice : (scene : Scene) (state : State) (number : ℕ) (going : ℕ → Going) (past : List PlainItem) (work : ToolWork scene state number going past) → Turned scene (stored (loses number (loses number state))) (face_of (loses number (loses number state)).sessions) number Still going past
unfolding loses
gone_twice scene state number going past work =
    tool_rests scene (stored state) (face_of state.sessions) (face_of (filter (λ session. not (session.number == number)) (filter (λ session. not (session.number == number)) state.sessions))) number going past [] work.tool work.holds
    (lost_faces number state.sessions (filter (λ session. not (session.number == number)) state.sessions) no_face (faces_without number state.sessions))

tool_turn : (scene : Scene) (side : Option Side) (state : State) (number : ℕ) (asked : Asked) (going : ℕ → Going) (past : List PlainItem) (work : ToolWork scene state number going past) → is_mine scene scene.migrated ≡ true → OneIn state.sessions → AsksIf false scene (about state number asked) → DefinesSo scene (is_in_transaction (session_of number state.sessions)) state.tables (about state number asked) (reported_at side (answer_at side (serves state number asked).answer) (missed_at side (serves state number asked).answer)) → TurnsSo false scene side state number asked going past
unfolding calls polls
tool_turn scene None state number (Call request) going past work mine one asks so = tool_call scene state number going past work mine one false request asks (blocker state number (need state number request)) so refl
tool_turn scene None state number Poll going past work mine one asks so = tool_polled scene state number going past work mine one false (waiting_of number state.waiting) asks so
tool_turn scene None state number Cut going past work mine one asks so = lost_still scene state number going past work (renames_away scene.migrated (about state number Cut)) (Some answers.Lost) lost_given
tool_turn scene (Some Before) state number asked going past work mine one asks so = lost_still scene state number going past work (renames_away scene.migrated (about state number asked)) None none_given
tool_turn scene (Some After) state number (Call request) going past work mine one asks so = tool_call scene state number going past work mine one true request asks (blocker state number (need state number request)) so refl
tool_turn scene (Some After) state number Poll going past work mine one asks so = tool_polled scene state number going past work mine one true (waiting_of number state.waiting) asks so
tool_turn scene None state number (Command word) going past work mine one asks so = tool_stays scene state number going past work false
tool_turn scene (Some After) state number (Command word) going past work mine one asks so = tool_stays scene state number going past work true
tool_turn scene (Some After) state number Cut going past work mine one asks so = rw (lost_given (renames_away scene.migrated (about state number Cut))) (gone_twice scene state number going past work)

-- REQUESTS THAT WAIT

does_waits : (one : Effect) (state : State) (number : ℕ) → (does one state number).after.waiting ≡ state.waiting
does_waits (Forgets given) state number = refl
does_waits (Rests given) state number = refl
does_waits (Grows given need events) state number = refl
does_waits (Writes given events) state number = refl
does_waits (Moves given tables) state number = refl
does_waits (Locks given names) state number = refl
does_waits (Unlocks given) state number = refl

pub done_waits : (state : State) (number : ℕ) (request : Request) → (done state number request).after.waiting ≡ state.waiting
unfolding did
done_waits state number request = does_waits (effect state number (filled state number request)) state number

waits_found : (scene : Scene) (number : ℕ) (waiting : List Waiting) → ProperWaits scene waiting → AsksIf (scene.client number) scene (request_of (waiting_of number waiting))
waits_found scene number [] proper = tt
waits_found scene number (one ∷ waiting) proper = at (one.session == number) refl (waits_found scene number waiting proper.1) where
  at : (b : Bool) → (one.session == number) ≡ b → AsksIf (scene.client number) scene (request_of (waiting_of number waiting)) → AsksIf (scene.client number) scene (request_of (cond b (Some one) (waiting_of number waiting)))
  at true is rest = subst (λ (n : ℕ). MayAskIf (scene.client n) scene one.request) (are_one one.session number is) proper.0
  at false is rest = rest

waits_less : (scene : Scene) (test : Waiting → Bool) (waiting : List Waiting) → ProperWaits scene waiting → ProperWaits scene (filter test waiting)
waits_less scene test [] proper = tt
waits_less scene test (one ∷ waiting) proper = at (test one) (waits_less scene test waiting proper.1) where
  at : (b : Bool) → ProperWaits scene (filter test waiting) → ProperWaits scene (cond b (one ∷ filter test waiting) (filter test waiting))
  at true rest = (proper.0, rest)
  at false rest = rest

waits_more : (scene : Scene) (waiting : List Waiting) (one : Waiting) → ProperWaits scene waiting → MayAskIf (scene.client one.session) scene one.request → ProperWaits scene (waiting ++ one ∷ [])
waits_more scene [] one proper is = (is, tt)
waits_more scene (first ∷ waiting) one proper is = (proper.0, waits_more scene waiting one proper.1 is)

served_waits : (scene : Scene) (state : State) (number : ℕ) (asked : Asked) → MayAsk scene number asked → ProperWaits scene state.waiting → ProperWaits scene (serves state number asked).after.waiting
unfolding calls polls loses
served_waits scene state number (Call request) is proper = at (blocker state number (need state number request)) where
  at : (by : Option ℕ) → ProperWaits scene (called_unless by state number request).after.waiting
  at None = rw (done_waits state number request) proper
  at (Some by) = waits_more scene state.waiting (record { session = number; request = request }) proper is
served_waits scene state number Poll is proper = at (waiting_of number state.waiting) where
  less : ProperWaits scene (filter (λ one. not (one.session == number)) state.waiting)
  less = waits_less scene (λ one. not (one.session == number)) state.waiting proper

  over : (b : Bool) (by : ℕ) → ProperWaits scene (polled_over b by state number).after.waiting
  over true by = less
  over false by = proper

  one : (waiting : Waiting) (by : Option ℕ) → ProperWaits scene (polled_unless by state number waiting.request).after.waiting
  one waiting None = rw (done_waits (without_waiting number state) number waiting.request) less
  one waiting (Some by) = over (is_over state number) by

  at : (waiting : Option Waiting) → ProperWaits scene (polled_of waiting state number).after.waiting
  at None = proper
  at (Some waiting) = one waiting (blocker state number (need state number waiting.request))
served_waits scene state number (Command word) is proper = proper
served_waits scene state number Cut is proper = waits_less scene (λ one. not (one.session == number)) state.waiting proper

turn_waits : (scene : Scene) (side : Option Side) (state : State) (number : ℕ) (asked : Asked) → MayAsk scene number asked → ProperWaits scene state.waiting → ProperWaits scene (leaves side state number asked).waiting
unfolding loses
turn_waits scene None state number asked is proper = served_waits scene state number asked is proper
turn_waits scene (Some Before) state number asked is proper = waits_less scene (λ one. not (one.session == number)) state.waiting proper
turn_waits scene (Some After) state number asked is proper = waits_less scene (λ one. not (one.session == number)) (serves state number asked).after.waiting (served_waits scene state number asked is proper)

pub opened_waits : (nothing tool : Bool) (number : ℕ) (state : State) → (opens_if nothing tool number state).waiting ≡ state.waiting
unfolding opens_if
opened_waits nothing tool number state = at (nothing || is_some (session_of number state.sessions)) where
  at : (b : Bool) → (cond b state (connected number tool state)).waiting ≡ state.waiting
  at true = refl
  at false = refl

-- NAMES HELD

served_one : (state : State) (number : ℕ) (asked : Asked) → OneIn state.sessions → OneIn (serves state number asked).after.sessions
unfolding calls polls loses
served_one state number (Call request) one = at (blocker state number (need state number request)) refl where
  at : (by : Option ℕ) → blocker state number (need state number request) ≡ by → OneIn (called_unless by state number request).after.sessions
  at None is = done_one state number request one (granted state number (need state number request) one is)
  at (Some by) is = one_counts number 0 state.sessions one
served_one state number Poll one = at (waiting_of number state.waiting) where
  over : (b : Bool) (by : ℕ) → OneIn (polled_over b by state number).after.sessions
  over true by = one_rests number state.sessions one
  over false by = one_counts number (polls_of (session_of number state.sessions) + 1) state.sessions one

  each : (waiting : Waiting) (by : Option ℕ) → blocker state number (need state number waiting.request) ≡ by → OneIn (polled_unless by state number waiting.request).after.sessions
  each waiting None is = done_one (without_waiting number state) number waiting.request one (free_without state number waiting.request (granted state number (need state number waiting.request) one is))
  each waiting (Some by) is = over (is_over state number) by

  at : (waiting : Option Waiting) → OneIn (polled_of waiting state number).after.sessions
  at None = one
  at (Some waiting) = each waiting (blocker state number (need state number waiting.request)) refl
served_one state number (Command word) one = one
served_one state number Cut one = one_less (λ session. not (session.number == number)) state.sessions one

turn_one : (side : Option Side) (state : State) (number : ℕ) (asked : Asked) → OneIn state.sessions → OneIn (leaves side state number asked).sessions
unfolding loses
turn_one None state number asked one = served_one state number asked one
turn_one (Some Before) state number asked one = one_less (λ session. not (session.number == number)) state.sessions one
turn_one (Some After) state number asked one = one_less (λ session. not (session.number == number)) (serves state number asked).after.sessions (served_one state number asked one)

-- EACH ENTRY

-- all that holds after a journal
pub record BookHolds (scene : Scene) (state : State) (going : ℕ → Going) (past : List PlainItem) : Type 0 where
  pub holds : Holds scene (stored state) (face_of state.sessions) going past
  pub waits : ProperWaits scene state.waiting
  pub one : OneIn state.sessions

holds_faces : (scene : Scene) (now : Stored) (old new : ℕ → Face) (going : ℕ → Going) (past : List PlainItem) → ((n : ℕ) → new n ≡ old n) → Holds scene now old going past → Holds scene now new going past
holds_faces scene now old new going past same holds = record {
  kept = kept_same scene now (λ n. (old n).hold) (λ n. (new n).hold) going going past (λ n. ap (λ (f : Face). f.hold) (same n)) (λ n. refl) holds.kept;
  fits = λ n. rw (same n) (holds.fits n);
}

pub stored_opened : (nothing tool : Bool) (number : ℕ) (state : State) → stored (opens_if nothing tool number state) ≡ stored state
unfolding opens_if
stored_opened nothing tool number state = at (nothing || is_some (session_of number state.sessions)) where
  at : (b : Bool) → stored (cond b state (connected number tool state)) ≡ stored state
  at true = refl
  at false = refl

pub opened_tables : (nothing tool : Bool) (number : ℕ) (state : State) → (opens_if nothing tool number state).tables ≡ state.tables
opened_tables nothing tool number state = ap (λ (s : Stored). s.tables) (stored_opened nothing tool number state)

pub found_live : (o : Option Session) (P : Type 0) → is_some o ≡ true → ((s : Session) → o ≡ Some s → P) → P
found_live None P live f = absurd (false≢true live)
found_live (Some s) P live f = f s refl

asks_about : (scene : Scene) (state : State) (number : ℕ) (asked : Asked) → MayAsk scene number asked → AsksIf (scene.client number) scene (request_of (waiting_of number state.waiting)) → AsksIf (scene.client number) scene (about state number asked)
asks_about scene state number (Call request) may waits = may
asks_about scene state number Poll may waits = waits
asks_about scene state number Cut may waits = waits
asks_about scene state number (Command word) may waits = tt_if (scene.client number) where
  tt_if : (own : Bool) → AsksIf own scene None
  tt_if own = tt

any_turn : (scene : Scene) (side : Option Side) (state : State) (number : ℕ) (asked : Asked) (going : ℕ → Going) (past : List PlainItem) → is_mine scene scene.migrated ≡ true → Holds scene (stored state) (face_of state.sessions) going past → OneIn state.sessions → (found : Session) → session_of number state.sessions ≡ Some found
    → DefinesSo scene (is_in_transaction (session_of number state.sessions)) state.tables (about state number asked) (reported_at side (answer_at side (serves state number asked).answer) (missed_at side (serves state number asked).answer)) → (own : Bool) → scene.client number ≡ own → AsksIf own scene (about state number asked) → AsksIf own scene (request_of (waiting_of number state.waiting)) → TurnsSo own scene side state number asked going past
any_turn scene side state number asked going past mine holds one found is so true own asks waits = client_turn scene side state number asked going past (record { holds = holds; found = found; is = is; client = own }) one asks waits
any_turn scene side state number asked going past mine holds one found is so false own asks waits = tool_turn scene side state number asked going past (record { holds = holds; found = found; is = is; tool = own }) mine one asks so

command_still : (scene : Scene) (own : Bool) (state : State) (number : ℕ) (word : _) (going : ℕ → Going) (past : List PlainItem) → Holds scene (stored state) (face_of state.sessions) going past → TurnsSo own scene None state number (Command word) going past
command_still scene true state number word going past holds = turned_still scene (stored state) (face_of state.sessions) (face_of state.sessions) number going past (λ n. refl) holds
command_still scene false state number word going past holds = turned_still scene (stored state) (face_of state.sessions) (face_of state.sessions) number going past (λ n. refl) holds

-- a turn whose session is live, unless it is a command
live_turn : (scene : Scene) (side : Option Side) (state : State) (number : ℕ) (asked : Asked) (going : ℕ → Going) (past : List PlainItem) → is_mine scene scene.migrated ≡ true → Holds scene (stored state) (face_of state.sessions) going past → OneIn state.sessions
    → (is_command asked ≡ false → is_some (session_of number state.sessions) ≡ true) → (is_command asked ≡ true → side ≡ None) → DefinesSo scene (is_in_transaction (session_of number state.sessions)) state.tables (about state number asked) (reported_at side (answer_at side (serves state number asked).answer) (missed_at side (serves state number asked).answer)) → AsksIf (scene.client number) scene (about state number asked)
    → AsksIf (scene.client number) scene (request_of (waiting_of number state.waiting)) → TurnsSo (scene.client number) scene side state number asked going past
live_turn scene side state number (Command word) going past mine holds one live commands so asks waits =
    subst (λ (s : Option Side). TurnsSo (scene.client number) scene s state number (Command word) going past) (sym (commands refl)) (command_still scene (scene.client number) state number word going past holds)
live_turn scene side state number (Call request) going past mine holds one live commands so asks waits =
    found_live (session_of number state.sessions) (TurnsSo (scene.client number) scene side state number (Call request) going past) (live refl) (λ found here. any_turn scene side state number (Call request) going past mine holds one found here so (scene.client number) refl asks waits)
live_turn scene side state number Poll going past mine holds one live commands so asks waits =
    found_live (session_of number state.sessions) (TurnsSo (scene.client number) scene side state number Poll going past) (live refl) (λ found here. any_turn scene side state number Poll going past mine holds one found here so (scene.client number) refl asks waits)
live_turn scene side state number Cut going past mine holds one live commands so asks waits =
    found_live (session_of number state.sessions) (TurnsSo (scene.client number) scene side state number Cut going past) (live refl) (λ found here. any_turn scene side state number Cut going past mine holds one found here so (scene.client number) refl asks waits)

line_outcome_is : (scene : Scene) (state : State) (entry : Entry) → entry.answer ≡ answer_at entry.side (inner state entry) → entry.missed ≡ missed_at entry.side (inner state entry) → entry.draw ≡ drawn_at entry.side state entry → line_outcome scene state entry ≡ line_outcome_by (scene.client entry.session) scene entry.side (opens entry state) entry.session entry.asked
line_outcome_is scene state entry answer missed draw =
    ap (λ (g : Answer). line_outcome_if (scene.client entry.session) scene (opens entry state) entry.session entry.asked entry.side g entry.missed entry.draw) answer
    ∙ ap (λ (m : Option Answer). line_outcome_if (scene.client entry.session) scene (opens entry state) entry.session entry.asked entry.side (answer_at entry.side (inner state entry)) m entry.draw) missed
    ∙ ap (λ (d : Option ℕ). line_outcome_if (scene.client entry.session) scene (opens entry state) entry.session entry.asked entry.side (answer_at entry.side (inner state entry)) (missed_at entry.side (inner state entry)) d) draw

entry_kept : (scene : Scene) (state : State) (going : ℕ → Going) (past : List PlainItem) (entry : Entry) → is_mine scene scene.migrated ≡ true → entry.answer ≡ answer_at entry.side (inner state entry) → entry.missed ≡ missed_at entry.side (inner state entry) → entry.draw ≡ drawn_at entry.side state entry → MayAsk scene entry.session entry.asked → (is_command entry.asked ≡ true → entry.side ≡ None)
    → AtRest (is_busy entry.session (opens entry state)) (about (opens entry state) entry.session entry.asked) → (reported_at entry.side entry.answer entry.missed ≡ Some ok → RenamesSo scene state.tables (about (opens entry state) entry.session entry.asked)) → BookHolds scene state going past → BookHolds scene (after_entry state entry) (goings_after entry.session (line_outcome scene state entry) going) (past ++ happens (line_outcome scene state entry) (going entry.session))
entry_kept scene state going past entry mine answer missed draw may commands rest so is =
    let nothing : Bool = is_command entry.asked in
    let tool : Bool = not (is_client entry.actor) in
    let number : ℕ = entry.session in
    let now : State = opens entry state in
    let waits : ProperWaits scene now.waiting = rw (opened_waits nothing tool number state) is.waits in
    let one : OneIn now.sessions = opened_one nothing tool number state is.one in
    let holds : Holds scene (stored now) (face_of now.sessions) going past = rw (stored_opened nothing tool number state) (holds_faces scene (stored state) (face_of state.sessions) (face_of now.sessions) going past (λ n. faces_opened nothing tool number n state) is.holds) in
    let asks = waits_found scene number now.waiting waits in
    let tables : now.tables ≡ state.tables = ap (λ (s : Stored). s.tables) (stored_opened nothing tool number state) in
    let reported : reported_at entry.side entry.answer entry.missed ≡ reported_at entry.side (answer_at entry.side (inner state entry)) (missed_at entry.side (inner state entry)) =
    ap (λ (g : Answer). reported_at entry.side g entry.missed) answer ∙ ap (λ (m : Option Answer). reported_at entry.side (answer_at entry.side (inner state entry)) m) missed in
    let renames : reported_at entry.side (answer_at entry.side (inner state entry)) (missed_at entry.side (inner state entry)) ≡ Some ok → RenamesSo scene now.tables (about now number entry.asked) =
    λ done. subst (λ (d : Database). RenamesSo scene d (about now number entry.asked)) (sym tables) (so (reported ∙ done)) in
    let turned : TurnsSo (scene.client number) scene entry.side now number entry.asked going past =
    live_turn scene entry.side now number entry.asked going past mine holds one (opened_live nothing tool number state) commands (rest, renames) (asks_about scene now number entry.asked may asks) asks in
    record {
      holds = subst (λ (f : LineOutcome). Turned scene (stored (after_entry state entry)) (face_of (after_entry state entry).sessions) number f going past) (sym (line_outcome_is scene state entry answer missed draw)) turned;
      waits = turn_waits scene entry.side now number entry.asked may waits;
      one = turn_one entry.side now number entry.asked one;
    }

pub no_command : (state : State) (number : ℕ) (asked : Asked) (request : Request) → about state number asked ≡ Some request → is_command asked ≡ false
no_command state number (Call asked) request is = refl
no_command state number Poll request is = refl
no_command state number Cut request is = refl
no_command state number (Command word) request is = absurd (cc)

-- EACH JOURNAL

pub state_more : (state : State) (journal : List Entry) (entry : Entry) → state_after state (journal ++ entry ∷ []) ≡ after_entry (state_after state journal) entry
unfolding state_after
state_more state [] entry = refl
state_more state (first ∷ journal) entry = state_more (after_entry state first) journal entry

pub goings_more : (scene : Scene) (state : State) (going : ℕ → Going) (journal : List Entry) (entry : Entry) → goings_from scene state going (journal ++ entry ∷ []) ≡ goings_after entry.session (line_outcome scene (state_after state journal) entry) (goings_from scene state going journal)
unfolding goings_from state_after
goings_more scene state going [] entry = refl
goings_more scene state going (first ∷ journal) entry = goings_more scene (after_entry state first) (goings_after first.session (line_outcome scene state first) going) journal entry

abbrev pub JournalHolds : Limits → Scene → List Entry → Type 0
JournalHolds limits scene journal = BookHolds scene (scene_state limits scene journal) (goings_at limits scene journal) (history limits scene journal)

abbrev pub IsGood : Limits → Scene → List Entry → Entry → Type 0
IsGood limits scene before entry = IsReported limits scene before entry × IsAllowed limits scene before entry

pub step : (limits : Limits) (scene : Scene) → is_mine scene scene.migrated ≡ true → (journal : List Entry) (entry : Entry) → IsGood limits scene journal entry → JournalHolds limits scene journal → JournalHolds limits scene (journal ++ entry ∷ [])
unfolding history
step limits scene mine journal entry good is =
    rw (state_more (opened limits scene.opening) journal entry, goings_more scene (opened limits scene.opening) (λ n. not_going) journal entry, gathered-more (entry_adds limits scene) [] journal entry)
    (entry_kept scene (scene_state limits scene journal) (goings_at limits scene journal) (history limits scene journal) entry mine good.0.answer good.0.missed good.0.draw good.1.may good.1.commands good.1.rests good.1.renames is)

pub begins : (limits : Limits) (scene : Scene) → IsWellFormedDatabase scene.opening → JournalHolds limits scene []
unfolding state_after goings_from history
begins limits scene is = record {
  holds = record {
    kept = record { well_formed = is; serial = record { tables = record { each = λ name own. refl }; log = refl }; fine = λ n. fine_rest scene (scene.client n) scene.opening is; apart = λ m n differ lock other one two. absurd one };
    fits = λ n. record { rests = λ b. (refl, refl); goes = λ own b. absurd (false≢true b); answered = tt; unended = refl; tools = λ b. refl; unlocked = λ b. refl };
  };
  waits = tt;
  one = λ one other p q exclusive differ. absurd p;
}

pub journal_holds : (limits : Limits) (scene : Scene) (journal : List Entry) → IsSceneRun limits scene journal → JournalHolds limits scene journal
journal_holds limits scene journal run =
    Along-keeps (IsGood limits scene) (JournalHolds limits scene) (step limits scene run.migrated) [] journal (Along-both (IsReported limits scene) (IsAllowed limits scene) [] journal run.reported run.allowed) (begins limits scene run.well_formed)

pub going_replies : (scene : Scene) (own : Bool) (tables : Database) (hold : SessionHold) (going : Going) → IsWellFormedDatabase tables → IsFine scene own tables hold going → (own ≡ false → going ≡ not_going) → (lines_run (tables_left scene.mine tables) nothing_ran going.lines).replies ≡ going.replies
unfolding lines_run
going_replies scene true tables hold going is fine none =
    let run : RunSo going.lines (record { replies = going.replies; writes = hold.writes }) tables = stable_end hold.names hold.locks going.lines (record { replies = going.replies; writes = hold.writes }) tables is fine.lasting in
    ap (λ (r : Ran). r.replies) (sym (lines_alike scene.mine tables (tables_left scene.mine tables) nothing_ran going.lines fine.lines (left_found scene tables)) ∙ run.runs)
going_replies scene false tables hold going is fine none = rw (none refl) refl

-- of each journal behind which all holds
pub scene_serial : (limits : Limits) (scene : Scene) (journal : List Entry) → is_mine scene scene.migrated ≡ true → JournalHolds limits scene journal → SceneSerial limits scene journal
scene_serial limits scene journal mine end = record {
  ended = serial_left scene (record { tables = scene.opening; log = [] }) (seen scene (stored (scene_state limits scene journal))) (history limits scene journal) mine end.holds.kept.serial;
  going = λ n. going_replies scene (scene.client n) (scene_state limits scene journal).tables (face_of (scene_state limits scene journal).sessions n).hold (goings_at limits scene journal n) end.holds.kept.well_formed (end.holds.kept.fine n) (end.holds.fits n).tools;
}

-- *Runs of scenes are serial*
pub scenes_are_serial : ScenesAreSerial
scenes_are_serial limits scene journal run = scene_serial limits scene journal run.migrated (journal_holds limits scene journal run)

-- plain journals
plain_allowed : (limits : Limits) (scene : Scene) (before journal : List Entry) → scene.exchanges ≡ false → Along (IsPlain limits scene) before journal → Along (IsAllowed limits scene) before journal
plain_allowed limits scene before [] never plain = tt
plain_allowed limits scene before (entry ∷ journal) never plain =
    (record { may = plain.0.may; commands = plain.0.commands; rests = plain.0.rests; renames = λ reported. so (about (opens entry (scene_state limits scene before)) entry.session entry.asked) }, plain_allowed limits scene (before ++ entry ∷ []) journal never plain.1) where
      so : (asks : Option Request) → RenamesSo scene (scene_state limits scene before).tables asks
      so None = tt
      so (Some (Rename pairs)) = λ may takes after is. absurd (false≢true (sym never ∙ may))
      so (Some requests.Begin) = tt
      so (Some requests.Commit) = tt
      so (Some requests.Rollback) = tt
      so (Some (requests.Do statement)) = tt
      so (Some (LockTables names)) = tt
      so (Some Unlock) = tt
      so (Some (Create schema)) = tt
      so (Some (Drop name)) = tt
      so (Some ShowTables) = tt
      so (Some ShowWaiting) = tt
      so (Some (ShowCounter table)) = tt
      so (Some (SetCounter table least)) = tt
      so (Some LogEnd) = tt
      so (Some (ReadLog position limit names)) = tt
      so (Some (Ends table)) = tt
      so (Some (ChunkEnd table low top size)) = tt
      so (Some (BeginSpan table span size)) = tt
      so (Some (CopyRow from into columns key)) = tt

-- *Plain runs are serial*
pub plain_scenes_are_serial : PlainScenesAreSerial
plain_scenes_are_serial limits scene journal is mine never faithful plain =
    let serial : SceneSerial limits scene journal = scenes_are_serial limits scene journal (record { well_formed = is; migrated = mine; reported = faithful; allowed = plain_allowed limits scene [] journal never plain }) in
    record { serial = serial; plain = none_alters scene (left scene (record { tables = scene.opening; log = [] })) (left scene (stored (scene_state limits scene journal))) (history limits scene journal) never serial.ended }
