-- A client's line on the server: what it leaves, answered, timed out or lost.
use Rattle.std.proofs.Common.{◌≡◌, ℕ, Bool, true, false, not, ◌&&◌, ◌||◌, List, [], ◌∷◌, ◌++◌, filter, cond, Option, Some, refl, sym, ap, ◌∙◌, subst, inl, inr}
use Rattle.std.specs.Prelude.{◌==◌, ◌≢◌}
use Rattle.std.proofs.lemmas.List.{append-nil}
use Rattle.std.proofs.Math.Bool.{and-false}
use Rattle.std.specs.List.{AllByRecursion}
use Rattle.base_values.specs.declared.event.RowEvent.{RowEvent}
use Rattle.base_values.specs.declared.mysql_errors.TheConstants.{ER_LOCK_WAIT_TIMEOUT}
use Rattle.server_locks.specs.declared.row_locks.lock.Lock.{Lock}
use Rattle.table_store.specs.Databases.{Database}
use Rattle.base_script.specs.declared.actor.Side.TheVariants.{Before, After}
use Rattle.base_script.specs.declared.script.ScriptWord.{ScriptWord}
use Rattle.base_script.specs.declared.script.ScriptWord.TheVariants as words
use Rattle.base_script.specs.declared.statement.Statement.{Statement}
use Rattle.server_model.specs.declared.transaction.Mark.{Mark}
use Rattle.server_model.specs.declared.transaction.Mark.TheVariants as marks
use Rattle.server_model.specs.declared.transaction.TxnEnd.{TxnEnd}
use Rattle.server_model.specs.declared.transaction.TxnEnd.TheVariants as ends
use Rattle.server_model.specs.declared.transaction.TxnLine.{TxnLine}
use Rattle.server_model.specs.declared.transaction.Reply.{Reply}
use Rattle.server_model.specs.declared.transaction.Reply.TheVariants as replies
use Rattle.server_model.specs.declared.session.Session.{Session}
use Rattle.std.specs.Prelude.{option_to_list}
use Rattle.server_model.specs.Alone.{reply_of}
use Rattle.proof_journals.specs.Scenes.{PlainItem, Stored, Scene, NamesTable, EventsMine, SessionHold, Going, no_hold, not_going, IsSteady, IsFine, Besides}
use Rattle.server_model.specs.Alone.{stays, commit_was_done, is_commit, is_done, is_statement, line_says, line_events, line_replies}
use Rattle.server_model.specs.LockedRows.Coverage.{Apart}
use Rattle.proof_journals.proofs.Held.{hold_in, holding_face, rests_face, said_mine, mine_both}
use Rattle.server_model.specs.Operations.{operation_of, statement_result, after_events}
use Rattle.proof_journals.specs.Turns.{Adds, Ends, Breaks, line_outcome_answered}
use Rattle.proof_journals.specs.Holdings.{Face, no_face, face_in, face_of, stored, Fits, Holds, held_after, lines_after}
use Rattle.proof_journals.proofs.Faces.{faces_with, faces_without}
use Rattle.proof_journals.proofs.Words.{line_fine, line_undone}
use Rattle.proof_journals.proofs.Turning.{Turned, besides_then, turned_adds, turned_ends, turned_breaks}
use Rattle.server_model.specs.declared.need.Need.{Need}
use Rattle.server_model.specs.States.{State, is_in_transaction, locked_names, session_of, view, with_session, writes_of}
use Rattle.server_model.specs.PlainServer.{at_rest, commits, goes_on, holding, loses}
use Rattle.proof_journals.specs.LineRequests.{does_word, need_of_word}
use Rattle.server_model.proofs.LockedRows.Tests.{turned}

-- the last line of a lost transaction decides whether it was done
commit_last : (first : TxnLine) (lines : List TxnLine) (line : TxnLine) → commit_was_done first (lines ++ line ∷ []) ≡ (is_commit line.word && is_done line.mark)
commit_last first [] line = refl
commit_last first (next ∷ lines) line = commit_last next lines line

last_done : (lines : List TxnLine) (line : TxnLine) → lines ≢ [] → stays (lines ++ line ∷ []) ≡ (is_commit line.word && is_done line.mark)
last_done [] line some = absurd (some refl)
last_done (first ∷ []) line some = refl
last_done (first ∷ (next ∷ lines)) line some = commit_last next lines line

never_done : (lines : List TxnLine) (line : TxnLine) → (is_commit line.word && is_done line.mark) ≡ false → ((is_statement line.word || is_commit line.word) && is_done line.mark) ≡ false → stays (lines ++ line ∷ []) ≡ false
never_done [] line commit statement = statement
never_done (first ∷ []) line commit statement = commit
never_done (first ∷ (next ∷ lines)) line commit statement = commit_last next lines line ∙ commit

commit_stays : (lines : List TxnLine) → stays (lines ++ record { word = words.Commit; mark = marks.Answered } ∷ []) ≡ true
commit_stays [] = refl
commit_stays (first ∷ []) = refl
commit_stays (first ∷ (next ∷ lines)) = commit_last next lines (record { word = words.Commit; mark = marks.Answered })

pub apart_both : (a b c : List Lock) → Apart a c → Apart b c → Apart (a ++ b) c
apart_both [] b c one two lock other p q = two lock other p q
apart_both (x ∷ a) b c one two lock other (inl same) is = one lock other (inl same) is
apart_both (x ∷ a) b c one two lock other (inr more) is = apart_both a b c (λ l o p q. one l o (inr p) q) two lock other more is

-- a session at work on the server: all that holds, and the session found
pub record AtWork (scene : Scene) (state : State) (number : ℕ) (going : ℕ → Going) (past : List PlainItem) : Type 0 where
  pub holds : Holds scene (stored state) (face_of state.sessions) going past
  pub found : Session
  pub is : session_of number state.sessions ≡ Some found
  pub client : scene.client number ≡ true

own_whole : (scene : Scene) (state : State) (number : ℕ) (going : ℕ → Going) (past : List PlainItem) (work : AtWork scene state number going past) → IsFine scene true state.tables (hold_in work.found) (going number)
own_whole scene state number going past work = subst (λ (b : Bool). IsFine scene b state.tables (hold_in work.found) (going number)) work.client (subst (λ (f : Face). IsFine scene (scene.client number) state.tables f.hold (going number)) (ap face_in work.is) (work.holds.kept.fine number))

own_fine : (scene : Scene) (state : State) (number : ℕ) (going : ℕ → Going) (past : List PlainItem) (work : AtWork scene state number going past) → IsSteady state.tables (hold_in work.found) (going number)
own_fine scene state number going past work = let fine = own_whole scene state number going past work in record { stable = fine.lasting; covered = fine.covered }

pub own_fits : (scene : Scene) (state : State) (number : ℕ) (going : ℕ → Going) (past : List PlainItem) (work : AtWork scene state number going past) → Fits true (face_in (Some work.found)) (going number)
own_fits scene state number going past work = subst (λ (b : Bool). Fits b (face_in (Some work.found)) (going number)) work.client (subst (λ (f : Face). Fits (scene.client number) f (going number)) (ap face_in work.is) (work.holds.fits number))

own_apart : (scene : Scene) (state : State) (number : ℕ) (going : ℕ → Going) (past : List PlainItem) (work : AtWork scene state number going past) (n : ℕ) → (n == number) ≡ false → Apart (hold_in work.found).locks (face_of state.sessions n).hold.locks
own_apart scene state number going past work n differ = subst (λ (f : Face). Apart f.hold.locks (face_of state.sessions n).hold.locks) (ap face_in work.is) (work.holds.kept.apart number n (turned n number differ))

-- the locks that the line needs are apart from what others hold, and it names a client table
pub record IsGranted (scene : Scene) (state : State) (number : ℕ) (word : ScriptWord) : Type 0 where
  pub apart : (n : ℕ) → (n == number) ≡ false → Apart (need_of_word (view number state) word).locks (face_of state.sessions n).hold.locks
  pub named : NamesTable scene.mine word

-- what is on the server once a line is done: it goes on, or it is at rest
abbrev pub after_hold : State → Session → ScriptWord → Mark → SessionHold
after_hold state found word mark = held_after state.tables (hold_in found) word mark

own_locked : (scene : Scene) (state : State) (number : ℕ) (going : ℕ → Going) (past : List PlainItem) (work : AtWork scene state number going past) → locked_names work.found.names ≡ []
own_locked scene state number going past work = (own_fits scene state number going past work).unlocked refl

more_lines : (scene : Scene) (lines : List TxnLine) (line : TxnLine) → AllByRecursion (λ l. NamesTable scene.mine l.word) lines → NamesTable scene.mine line.word → AllByRecursion (λ l. NamesTable scene.mine l.word) (lines ++ line ∷ [])
more_lines scene [] line all is = (is, tt)
more_lines scene (first ∷ lines) line all is = (all.0, more_lines scene lines line all.1 is)

line_mine : (scene : Scene) (tables : Database) (word : ScriptWord) (mark : Mark) → NamesTable scene.mine word → EventsMine scene true (line_events tables word mark)
line_mine scene tables (words.Do statement) marks.Answered is = said_mine scene true tables (operation_of statement) is
line_mine scene tables (words.Do statement) (marks.Lost After) is = said_mine scene true tables (operation_of statement) is
line_mine scene tables (words.Do statement) marks.TimedOut is = tt
line_mine scene tables (words.Do statement) (marks.Lost Before) is = tt
line_mine scene tables words.Begin marks.Answered is = tt
line_mine scene tables words.Begin marks.TimedOut is = tt
line_mine scene tables words.Begin (marks.Lost Before) is = tt
line_mine scene tables words.Begin (marks.Lost After) is = tt
line_mine scene tables words.Commit marks.Answered is = tt
line_mine scene tables words.Commit marks.TimedOut is = tt
line_mine scene tables words.Commit (marks.Lost Before) is = tt
line_mine scene tables words.Commit (marks.Lost After) is = tt
line_mine scene tables words.Rollback marks.Answered is = tt
line_mine scene tables words.Rollback marks.TimedOut is = tt
line_mine scene tables words.Rollback (marks.Lost Before) is = tt
line_mine scene tables words.Rollback (marks.Lost After) is = tt

more_fine : (scene : Scene) (state : State) (number : ℕ) (going : ℕ → Going) (past : List PlainItem) (work : AtWork scene state number going past) (word : ScriptWord) (mark : Mark) → NamesTable scene.mine word
    → IsFine scene true state.tables (after_hold state work.found word mark) (lines_after (going number) word mark (line_replies (after_events state.tables work.found.writes) word mark))
more_fine scene state number going past work word mark named =
    let whole = own_whole scene state number going past work in
    let fine = line_fine state.tables (hold_in work.found) (going number) word mark work.holds.kept.well_formed (own_fine scene state number going past work) in
    record { lasting = fine.stable; covered = fine.covered; named = mine_both scene true work.found.writes (line_events (after_events state.tables work.found.writes) word mark) whole.named (line_mine scene (after_events state.tables work.found.writes) word mark named); lines = more_lines scene (going number).lines (record { word = word; mark = mark }) whole.lines named }

more_apart : (scene : Scene) (state : State) (number : ℕ) (going : ℕ → Going) (past : List PlainItem) (work : AtWork scene state number going past) (word : ScriptWord) (mark : Mark) → IsGranted scene state number word → (n : ℕ) → (n == number) ≡ false
    → Apart (after_hold state work.found word mark).locks (face_of state.sessions n).hold.locks
more_apart scene state number going past work word mark granted n differ =
    apart_both (hold_in work.found).locks (need_of_word (after_events state.tables work.found.writes) word).locks (face_of state.sessions n).hold.locks (own_apart scene state number going past work n differ)
    (subst (λ (o : Option Session). Apart (need_of_word (after_events state.tables (writes_of o)) word).locks (face_of state.sessions n).hold.locks) work.is (granted.apart n differ))

-- it goes on
adds_line : (scene : Scene) (state : State) (number : ℕ) (going : ℕ → Going) (past : List PlainItem) (work : AtWork scene state number going past) (word : ScriptWord) → IsGranted scene state number word → stays ((going number).lines ++ record { word = word; mark = marks.Answered } ∷ []) ≡ false
    → Turned scene (stored state) (face_of (with_session number (holding (need_of_word (after_events state.tables work.found.writes) word) (line_events (after_events state.tables work.found.writes) word marks.Answered)) state.sessions)) number
    (Adds word marks.Answered (line_replies (after_events state.tables work.found.writes) word marks.Answered)) going past
adds_line scene state number going past work word granted never =
    let need : Need = need_of_word (after_events state.tables work.found.writes) word in
    let events : List RowEvent = line_events (after_events state.tables work.found.writes) word marks.Answered in
    turned_adds scene (stored state) (face_of state.sessions) (face_of (with_session number (holding need events) state.sessions)) number going past (after_hold state work.found word marks.Answered) word
    (line_replies (after_events state.tables work.found.writes) word marks.Answered) work.client work.holds
    (subst (λ (f : Face). Besides number (face_of state.sessions) (face_of (with_session number (holding need events) state.sessions)) f) (holding_face need events work.found ∙ ap (λ (l : List (List ℕ)). let f : Face = record { hold = after_hold state work.found word marks.Answered; locked = l; busy = true } in f) (own_locked scene state number going past work)) (faces_with number (holding need events) state.sessions work.found (λ s. refl) work.is))
    (more_fine scene state number going past work word marks.Answered granted.named) (more_apart scene state number going past work word marks.Answered granted) never

-- it ends, and what was written is committed or forgotten
ends_line : (scene : Scene) (after : Stored) (state : State) (faces : ℕ → Face) (number : ℕ) (going : ℕ → Going) (past : List PlainItem) (work : AtWork scene state number going past) (word : ScriptWord) (mark : Mark) (ended : TxnEnd) (kept : Bool) → IsGranted scene state number word
    → Besides number (face_of state.sessions) faces no_face → stays ((going number).lines ++ record { word = word; mark = mark } ∷ []) ≡ kept
    → after.tables ≡ cond kept (after_events state.tables (after_hold state work.found word mark).writes) state.tables → after.log ≡ state.log ++ cond kept (after_hold state work.found word mark).writes []
    → Turned scene after faces number (Ends word mark (line_replies (after_events state.tables work.found.writes) word mark) ended) going past
ends_line scene after state faces number going past work word mark ended kept granted rest stays_is tables log =
    turned_ends scene (stored state) after (face_of state.sessions) faces number going past (after_hold state work.found word mark) word mark (line_replies (after_events state.tables work.found.writes) word mark) ended work.client work.holds rest
    (more_fine scene state number going past work word mark granted.named) (more_apart scene state number going past work word mark granted) (rw stays_is tables) (rw stays_is log)

-- a line that was not granted ends it
undone_line : (scene : Scene) (state : State) (faces : ℕ → Face) (number : ℕ) (going : ℕ → Going) (past : List PlainItem) (work : AtWork scene state number going past) (word : ScriptWord) (mark : Mark) (got : List Reply) (ended : TxnEnd)
    → ((some : Database) → line_replies some word mark ≡ got) → ((some : Database) → line_events some word mark ≡ [])
    → NamesTable scene.mine word → Besides number (face_of state.sessions) faces no_face → stays ((going number).lines ++ record { word = word; mark = mark } ∷ []) ≡ false → Turned scene (stored state) faces number (Ends word mark got ended) going past
undone_line scene state faces number going past work word mark got ended replies_are events_are named rest never =
    turned_ends scene (stored state) (stored state) (face_of state.sessions) faces number going past (hold_in work.found) word mark got ended work.client work.holds rest
    (let whole = own_whole scene state number going past work in
    let fine = line_undone state.tables (hold_in work.found) (going number) word mark got replies_are events_are (own_fine scene state number going past work) in
    record { lasting = fine.stable; covered = fine.covered; named = whole.named; lines = more_lines scene (going number).lines (record { word = word; mark = mark }) whole.lines named })
    (own_apart scene state number going past work)
    (rw never refl) (rw never (sym (append-nil state.log)))

pub rests_with : (scene : Scene) (state : State) (number : ℕ) (going : ℕ → Going) (past : List PlainItem) (work : AtWork scene state number going past) → Besides number (face_of state.sessions) (face_of (with_session number at_rest state.sessions)) no_face
rests_with scene state number going past work =
    subst (λ (f : Face). Besides number (face_of state.sessions) (face_of (with_session number at_rest state.sessions)) f) (rests_face work.found ∙ ap (λ (l : List (List ℕ)). let f : Face = record { hold = no_hold; locked = l; busy = false } in f) (own_locked scene state number going past work)) (faces_with number at_rest state.sessions work.found (λ s. refl) work.is)

-- a statement, in a transaction and outside
do_answered : (scene : Scene) (state : State) (number : ℕ) (going : ℕ → Going) (past : List PlainItem) (work : AtWork scene state number going past) (statement : Statement) (seen : Database) → seen ≡ after_events state.tables work.found.writes
    → IsGranted scene state number (words.Do statement) → (busy : Bool) → work.found.in_transaction ≡ busy
    → Turned scene (stored (cond busy (goes_on number (need_of_word seen (words.Do statement)) (statement_result seen statement).events state) (commits number (statement_result seen statement).events state)))
    (face_of (cond busy (goes_on number (need_of_word seen (words.Do statement)) (statement_result seen statement).events state) (commits number (statement_result seen statement).events state)).sessions) number
    (line_outcome_answered busy (words.Do statement) marks.Answered (option_to_list (reply_of (statement_result seen statement).answer))) going past
do_answered scene state number going past work statement seen same granted true busy =
    rw same (adds_line scene state number going past work (words.Do statement) granted (last_done (going number).lines (record { word = words.Do statement; mark = marks.Answered }) ((own_fits scene state number going past work).goes refl busy)))
do_answered scene state number going past work statement seen same granted false busy =
    let none : going number ≡ not_going = ((own_fits scene state number going past work).rests busy).1 in
    rw same (ends_line scene (stored (commits number (statement_result (after_events state.tables work.found.writes) statement).events state)) state (face_of (with_session number at_rest state.sessions)) number going past work (words.Do statement) marks.Answered ends.Single true granted
    (rests_with scene state number going past work) (ap (λ (g : Going). stays (g.lines ++ record { word = words.Do statement; mark = marks.Answered } ∷ [])) none) (rw work.is refl) (rw work.is refl))

seen_is : (scene : Scene) (state : State) (number : ℕ) (going : ℕ → Going) (past : List PlainItem) (work : AtWork scene state number going past) → view number state ≡ after_events state.tables work.found.writes
seen_is scene state number going past work = ap (λ (o : Option Session). after_events state.tables (writes_of o)) work.is

-- *a line that is answered*
pub word_answered : (scene : Scene) (state : State) (number : ℕ) (going : ℕ → Going) (past : List PlainItem) (work : AtWork scene state number going past) (word : ScriptWord) → IsGranted scene state number word
    → Turned scene (stored (does_word (view number state) state number word)) (face_of (does_word (view number state) state number word).sessions) number
    (line_outcome_answered (is_in_transaction (session_of number state.sessions)) word marks.Answered (option_to_list (reply_of (line_says (view number state) word).answer))) going past
word_answered scene state number going past work words.Begin granted = adds_line scene state number going past work words.Begin granted (never_done (going number).lines (record { word = words.Begin; mark = marks.Answered }) refl refl)
word_answered scene state number going past work words.Commit granted =
    ends_line scene (stored (commits number [] state)) state (face_of (with_session number at_rest state.sessions)) number going past work words.Commit marks.Answered ends.Committed true granted (rests_with scene state number going past work) (commit_stays (going number).lines) (rw work.is refl)
    (rw work.is refl)
word_answered scene state number going past work words.Rollback granted =
    ends_line scene (stored state) state (face_of (with_session number at_rest state.sessions)) number going past work words.Rollback marks.Answered ends.RolledBack false granted (rests_with scene state number going past work) (never_done (going number).lines (record { word = words.Rollback; mark = marks.Answered }) refl refl) refl (sym (append-nil state.log))
word_answered scene state number going past work (words.Do statement) granted =
    let is : is_in_transaction (session_of number state.sessions) ≡ work.found.in_transaction = ap is_in_transaction work.is in
    rw is (do_answered scene state number going past work statement (view number state) (seen_is scene state number going past work) granted work.found.in_transaction refl)

-- a session that is lost
pub lost_faces : (number : ℕ) (one two : List Session) (own : Face) → Besides number (face_of one) (face_of two) own → Besides number (face_of one) (face_of (filter (λ session. not (session.number == number)) two)) no_face
lost_faces number one two own besides = besides_then number (face_of one) (face_of two) (face_of (filter (λ session. not (session.number == number)) two)) own no_face besides (faces_without number two)

-- a line that goes on, and then its session is lost: it is forgotten
goes_lost : (scene : Scene) (state : State) (number : ℕ) (going : ℕ → Going) (past : List PlainItem) (work : AtWork scene state number going past) (word : ScriptWord) (need : Need) (events : List RowEvent) → IsGranted scene state number word
    → stays ((going number).lines ++ record { word = word; mark = marks.Lost After } ∷ []) ≡ false
    → Turned scene (stored (loses number (goes_on number need events state))) (face_of (loses number (goes_on number need events state)).sessions) number (Ends word (marks.Lost After) [] ends.Lost) going past
unfolding loses
goes_lost scene state number going past work word need events granted never =
    ends_line scene (stored state) state (face_of (filter (λ session. not (session.number == number)) (with_session number (holding need events) state.sessions))) number going past work word (marks.Lost After) ends.Lost false granted
    (lost_faces number state.sessions (with_session number (holding need events) state.sessions) (face_in (Some (holding need events work.found))) (faces_with number (holding need events) state.sessions work.found (λ s. refl) work.is)) never refl (sym (append-nil state.log))

-- a line that commits, and then its session is lost
commits_lost : (scene : Scene) (state : State) (number : ℕ) (going : ℕ → Going) (past : List PlainItem) (work : AtWork scene state number going past) (word : ScriptWord) (events : List RowEvent) (kept : Bool) → IsGranted scene state number word
    → stays ((going number).lines ++ record { word = word; mark = marks.Lost After } ∷ []) ≡ kept
    → (commits number events state).tables ≡ cond kept (after_events state.tables (after_hold state work.found word (marks.Lost After)).writes) state.tables
    → (commits number events state).log ≡ state.log ++ cond kept (after_hold state work.found word (marks.Lost After)).writes []
    → Turned scene (stored (loses number (commits number events state))) (face_of (loses number (commits number events state)).sessions) number (Ends word (marks.Lost After) [] ends.Lost) going past
unfolding loses
commits_lost scene state number going past work word events kept granted done_is tables log =
    ends_line scene (stored (commits number events state)) state (face_of (filter (λ session. not (session.number == number)) (with_session number at_rest state.sessions))) number going past work word (marks.Lost After) ends.Lost kept granted
    (lost_faces number state.sessions (with_session number at_rest state.sessions) no_face (rests_with scene state number going past work)) done_is tables log

-- a statement that is done, and then its session is lost
do_lost : (scene : Scene) (state : State) (number : ℕ) (going : ℕ → Going) (past : List PlainItem) (work : AtWork scene state number going past) (statement : Statement) (seen : Database) → seen ≡ after_events state.tables work.found.writes
    → IsGranted scene state number (words.Do statement) → (busy : Bool) → work.found.in_transaction ≡ busy
    → Turned scene (stored (loses number (cond busy (goes_on number (need_of_word seen (words.Do statement)) (statement_result seen statement).events state) (commits number (statement_result seen statement).events state))))
    (face_of (loses number (cond busy (goes_on number (need_of_word seen (words.Do statement)) (statement_result seen statement).events state) (commits number (statement_result seen statement).events state))).sessions) number
    (Ends (words.Do statement) (marks.Lost After) [] ends.Lost) going past
do_lost scene state number going past work statement seen same granted true busy =
    goes_lost scene state number going past work (words.Do statement) (need_of_word seen (words.Do statement)) (statement_result seen statement).events granted
    (last_done (going number).lines (record { word = words.Do statement; mark = marks.Lost After }) ((own_fits scene state number going past work).goes refl busy))
do_lost scene state number going past work statement seen same granted false busy =
    let none : going number ≡ not_going = ((own_fits scene state number going past work).rests busy).1 in
    rw same (commits_lost scene state number going past work (words.Do statement) (statement_result (after_events state.tables work.found.writes) statement).events true granted
    (ap (λ (g : Going). stays (g.lines ++ record { word = words.Do statement; mark = marks.Lost After } ∷ [])) none) (rw work.is refl) (rw work.is refl))

-- a COMMIT that is done, and then its session is lost
commit_lost : (scene : Scene) (state : State) (number : ℕ) (going : ℕ → Going) (past : List PlainItem) (work : AtWork scene state number going past) → IsGranted scene state number words.Commit → (busy : Bool) → work.found.in_transaction ≡ busy
    → Turned scene (stored (loses number (commits number [] state))) (face_of (loses number (commits number [] state)).sessions) number (Ends words.Commit (marks.Lost After) [] ends.Lost) going past
unfolding after_events
commit_lost scene state number going past work granted true busy =
    commits_lost scene state number going past work words.Commit [] true granted (last_done (going number).lines (record { word = words.Commit; mark = marks.Lost After }) ((own_fits scene state number going past work).goes refl busy)) (rw work.is refl) (rw work.is refl)
commit_lost scene state number going past work granted false busy =
    let both = (own_fits scene state number going past work).rests busy in
    let nothing : work.found.writes ≡ [] = ap (λ (s : SessionHold). s.writes) both.0 in
    commits_lost scene state number going past work words.Commit [] true granted (ap (λ (g : Going). stays (g.lines ++ record { word = words.Commit; mark = marks.Lost After } ∷ [])) both.1) (rw (work.is, nothing) refl) (rw (work.is, nothing) refl)

-- *a line that is done, and then its session is lost*
pub word_lost : (scene : Scene) (state : State) (number : ℕ) (going : ℕ → Going) (past : List PlainItem) (work : AtWork scene state number going past) (word : ScriptWord) → IsGranted scene state number word
    → Turned scene (stored (loses number (does_word (view number state) state number word))) (face_of (loses number (does_word (view number state) state number word)).sessions) number (Ends word (marks.Lost After) [] ends.Lost) going past
unfolding loses
word_lost scene state number going past work words.Begin granted =
    goes_lost scene state number going past work words.Begin (need_of_word (view number state) words.Begin) [] granted (never_done (going number).lines (record { word = words.Begin; mark = marks.Lost After }) refl refl)
word_lost scene state number going past work words.Commit granted = commit_lost scene state number going past work granted work.found.in_transaction refl
word_lost scene state number going past work words.Rollback granted =
    ends_line scene (stored state) state (face_of (filter (λ session. not (session.number == number)) (with_session number at_rest state.sessions))) number going past work words.Rollback (marks.Lost After) ends.Lost false granted
    (lost_faces number state.sessions (with_session number at_rest state.sessions) no_face (rests_with scene state number going past work)) (never_done (going number).lines (record { word = words.Rollback; mark = marks.Lost After }) refl refl) refl (sym (append-nil state.log))
word_lost scene state number going past work (words.Do statement) granted =
    let is : is_in_transaction (session_of number state.sessions) ≡ work.found.in_transaction = ap is_in_transaction work.is in
    rw is (do_lost scene state number going past work statement (view number state) (seen_is scene state number going past work) granted work.found.in_transaction refl)

-- *a line whose wait is over*
pub word_timed_out : (scene : Scene) (state : State) (number : ℕ) (going : ℕ → Going) (past : List PlainItem) (work : AtWork scene state number going past) (word : ScriptWord) → NamesTable scene.mine word
    → Turned scene (stored state) (face_of (with_session number at_rest state.sessions)) number (Ends word marks.TimedOut (replies.Error ER_LOCK_WAIT_TIMEOUT ∷ []) ends.TimedOut) going past
word_timed_out scene state number going past work word named =
    undone_line scene state (face_of (with_session number at_rest state.sessions)) number going past work word marks.TimedOut (replies.Error ER_LOCK_WAIT_TIMEOUT ∷ []) ends.TimedOut (λ some. refl) (λ some. refl) named (rests_with scene state number going past work)
    (never_done (going number).lines (record { word = word; mark = marks.TimedOut }) (and-false (is_commit word)) (and-false (is_statement word || is_commit word)))

-- *a line at which its session is lost before it is done*, whatever else the turn changed of the session
pub word_undone : (scene : Scene) (state : State) (sessions : List Session) (own : Face) (number : ℕ) (going : ℕ → Going) (past : List PlainItem) (work : AtWork scene state number going past) (word : ScriptWord) → NamesTable scene.mine word → Besides number (face_of state.sessions) (face_of sessions) own
    → Turned scene (stored state) (face_of (filter (λ session. not (session.number == number)) sessions)) number (Ends word (marks.Lost Before) [] ends.Lost) going past
word_undone scene state sessions own number going past work word named besides =
    undone_line scene state (face_of (filter (λ session. not (session.number == number)) sessions)) number going past work word (marks.Lost Before) [] ends.Lost (λ some. refl) (λ some. refl) named
    (lost_faces number state.sessions sessions own besides)
    (never_done (going number).lines (record { word = word; mark = marks.Lost Before }) (and-false (is_commit word)) (and-false (is_statement word || is_commit word)))

-- *a session that is lost between its calls*
pub session_lost : (scene : Scene) (state : State) (sessions : List Session) (own : Face) (number : ℕ) (going : ℕ → Going) (past : List PlainItem) (work : AtWork scene state number going past) → Besides number (face_of state.sessions) (face_of sessions) own
    → Turned scene (stored state) (face_of (filter (λ session. not (session.number == number)) sessions)) number (Breaks ends.Lost) going past
session_lost scene state sessions own number going past work besides =
    turned_breaks scene (stored state) (face_of state.sessions) (face_of (filter (λ session. not (session.number == number)) sessions)) number going past ends.Lost work.client work.holds (lost_faces number state.sessions sessions own besides)
    (own_fits scene state number going past work).unended
