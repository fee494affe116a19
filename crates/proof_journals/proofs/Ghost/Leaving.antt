-- What a deed leaves, in every entry whose request was done.
use Rattle.server_model.specs.Drawing.{filled}
use Rattle.std.proofs.Common.{◌≡◌, ℕ, Bool, true, false, not, List, [], ◌++◌, Option, Some, None, Result, Ok, Err, refl, sym, ap, ◌∙◌, subst}
use Rattle.std.specs.Prelude.{◌==◌}
use Rattle.base_values.specs.declared.event.RowEvent.{RowEvent}
use Rattle.table_store.specs.Databases.{TableRows, Database, find_table, has_table, rename_tables}
use Rattle.base_script.specs.declared.actor.Side.{Side}
use Rattle.base_script.specs.declared.actor.Side.TheVariants.{Before, After}
use Rattle.server_model.specs.declared.answer.Answer.{Answer}
use Rattle.server_model.specs.declared.session.Session.{Session}
use Rattle.server_model.specs.declared.session.Waiting.{Waiting}
use Rattle.server_model.specs.declared.entry.Asked.{Asked}
use Rattle.server_model.specs.declared.entry.Asked.TheVariants.{Call, Poll, Cut, Command}
use Rattle.server_model.specs.declared.request.Request.{Request}
use Rattle.server_model.specs.declared.request.Request.TheVariants as requests
use Rattle.server_model.specs.Effects.{Effect, all_exist, begins, created, effect, effect_unless, defined, dropped, is_outside, locks_if, renamed_or, result_effect}
use Rattle.server_model.specs.Effects.Effect.{Rests, Grows, Writes, Forgets, Moves, Locks, Unlocks}
use Rattle.server_model.specs.Entries.{is_command, is_client}
use Rattle.server_model.specs.Operations.{statement_result, operation_result, copy_operation}
use Rattle.server_model.specs.Blockers.{need, need_within, blocker}
use Rattle.server_model.specs.PlainServer.{at_rest, called_unless, calls, does, done, did, forgets, goes_on, holding, is_over, leaves, locking, loses, polled_of, polled_over, polled_unless, polls, serves, unlocking, without_waiting}
use Rattle.server_model.specs.States.{State, is_in_transaction, opened, session_of, view, waiting_of, with_session, writes_of}
use Rattle.tool_program.specs.JournalWords.Journals.{after_entry, opens}
use Rattle.proof_journals.specs.Scenes.{Besides, SessionHold, Stored, no_hold}
use Rattle.proof_journals.specs.Holdings.{Face, face_in, face_of, no_face, stored}
use Rattle.proof_journals.specs.Turns.{about, answer_at, inner, missed_at, scene_state, reported_at}
use Rattle.proof_journals.proofs.Answering.{lost_faces}
use Rattle.proof_journals.proofs.Faces.{faces_opened, faces_with, opened_live}
use Rattle.proof_journals.proofs.Held.{hold_in, holding_face, rests_face, locking_face, unlocking_face}
use Rattle.proof_journals.proofs.Journals.{state_more, journal_holds, found_live, no_command, stored_opened}
use Rattle.proof_journals.proofs.Names.{OneIn, opened_one}
use Rattle.proof_journals.proofs.Serves.{granted}
use Rattle.proof_journals.proofs.Turning.{holds_besides}
use Rattle.proof_journals.proofs.Tooling.{AreApart, final}
use Rattle.proof_journals.proofs.ServerTurns.Others.{at_wait}
use Rattle.proof_journals.specs.Ghost.Laws.{EffectsAreDone}
use Rattle.proof_journals.specs.Ghost.EffectStates.{EffectLeaves, is_lost, unless_lost, was_done, where_done, with_grant}

abbrev pub holds_of : State → ℕ → SessionHold
holds_of state n = (face_of state.sessions n).hold

-- a session that is there
pub record There (now : State) (number : ℕ) : Type 0 where
  pub found : Session
  pub is : session_of number now.sessions ≡ Some found

pub hold_found : (now : State) (number : ℕ) (there : There now number) → hold_in there.found ≡ holds_of now number
hold_found now number there = sym (ap (λ (o : Option Session). (face_in o).hold) there.is)

-- its session changes, and is lost behind it or not
pub changed_so : (now : State) (number : ℕ) (there : There now number) (change : Session → Session) (face : Face) (lost : Bool) → ((s : Session) → (change s).number ≡ s.number) → face_in (Some (change there.found)) ≡ face → (tables : Database) (log : List RowEvent) (waiting : List Waiting)
    → Besides number (holds_of now) (holds_of (final lost number (record now { tables = tables; log = log; waiting = waiting; sessions = with_session number change now.sessions }))) (unless_lost lost face.hold)
unfolding loses
changed_so now number there change face false keeps same tables log waiting =
    subst (Besides number (holds_of now) (λ n. (face_of (with_session number change now.sessions) n).hold)) (ap (λ (f : Face). f.hold) same)
    (holds_besides number (face_of now.sessions) (face_of (with_session number change now.sessions)) (face_in (Some (change there.found))) (faces_with number change now.sessions there.found keeps there.is))
changed_so now number there change face true keeps same tables log waiting =
    holds_besides number (face_of now.sessions) (face_of (Rattle.std.specs.Prelude.filter (λ session. not (session.number == number)) (with_session number change now.sessions))) no_face
    (lost_faces number now.sessions (with_session number change now.sessions) (face_in (Some (change there.found))) (faces_with number change now.sessions there.found keeps there.is))

-- its session stays, or is lost
pub same_so : (now : State) (number : ℕ) (lost : Bool) (tables : Database) (log : List RowEvent) (waiting : List Waiting) → Besides number (holds_of now) (holds_of (final lost number (record now { tables = tables; log = log; waiting = waiting }))) (unless_lost lost (holds_of now number))
unfolding loses
same_so now number false tables log waiting = record { there = λ n differ. refl; here = refl }
same_so now number true tables log waiting =
    holds_besides number (face_of now.sessions) (face_of (Rattle.std.specs.Prelude.filter (λ session. not (session.number == number)) now.sessions)) no_face
    (lost_faces number now.sessions now.sessions (face_of now.sessions number) (record { there = λ n differ. refl; here = refl }))

pub stored_final : (lost : Bool) (number : ℕ) (state : State) → stored (final lost number state) ≡ stored state
unfolding loses
stored_final true number state = refl
stored_final false number state = refl

-- the need of a deed is free
abbrev NeedsApart : State → ℕ → Effect → Type 0
NeedsApart now number (Rests answer) = Unit {0}
NeedsApart now number (Grows answer need events) = AreApart now number need.locks
NeedsApart now number (Writes answer events) = Unit {0}
NeedsApart now number (Forgets answer) = Unit {0}
NeedsApart now number (Moves answer tables) = Unit {0}
NeedsApart now number (Locks answer names) = Unit {0}
NeedsApart now number (Unlocks answer) = Unit {0}

pub resting_hold : (lost : Bool) → unless_lost lost no_hold ≡ no_hold
resting_hold true = refl
resting_hold false = refl

pub rests_so : (now : State) (number : ℕ) (there : There now number) (lost : Bool) (tables : Database) (log : List RowEvent) (waiting : List Waiting)
    → Besides number (holds_of now) (holds_of (final lost number (record now { tables = tables; log = log; waiting = waiting; sessions = with_session number at_rest now.sessions }))) no_hold
rests_so now number there lost tables log waiting =
    subst (Besides number (holds_of now) (holds_of (final lost number (record now { tables = tables; log = log; waiting = waiting; sessions = with_session number at_rest now.sessions })))) (resting_hold lost)
    (changed_so now number there at_rest _ lost (λ s. refl) (rests_face there.found) tables log waiting)

effect_left : (now : State) (w : List Waiting) (number : ℕ) (there : There now number) (lost : Bool) (one : Effect) → NeedsApart now number one → EffectLeaves one lost number (stored now) (stored (final lost number (does one (at_wait now w) number).after)) (holds_of now) (holds_of (final lost number (does one (at_wait now w) number).after))
effect_left now w number there lost (Rests answer) free = (stored_final lost number (at_wait now w), same_so now number lost now.tables now.log w)
effect_left now w number there lost (Grows answer need events) free = (
  stored_final lost number (goes_on number need events (at_wait now w)),
  subst (λ (h : SessionHold). Besides number (holds_of now) (holds_of (final lost number (goes_on number need events (at_wait now w)))) (unless_lost lost (with_grant h need events))) (hold_found now number there)
      (changed_so now number there (holding need events) _ lost (λ s. refl) (holding_face need events there.found) now.tables now.log w),
  free,
)
effect_left now w number there lost (Writes answer events) free =
    let wrote : writes_of (session_of number now.sessions) ≡ (holds_of now number).writes = ap writes_of there.is ∙ ap (λ (h : SessionHold). h.writes) (hold_found now number there) in (
      ap (λ (s : Stored). s.tables) (stored_final lost number (does (Writes answer events) (at_wait now w) number).after) ∙ ap (λ (own : List RowEvent). Rattle.server_model.specs.Operations.after_events now.tables (own ++ events)) wrote,
      ap (λ (s : Stored). s.log) (stored_final lost number (does (Writes answer events) (at_wait now w) number).after) ∙ ap (λ (own : List RowEvent). now.log ++ (own ++ events)) wrote,
      rests_so now number there lost _ _ w,
    )
effect_left now w number there lost (Forgets answer) free = (stored_final lost number (forgets number (at_wait now w)), rests_so now number there lost now.tables now.log w)
effect_left now w number there lost (Moves answer tables) free = (
  ap (λ (s : Stored). s.tables) (stored_final lost number (does (Moves answer tables) (at_wait now w) number).after),
  ap (λ (s : Stored). s.log) (stored_final lost number (does (Moves answer tables) (at_wait now w) number).after),
  same_so now number lost tables now.log w,
)
effect_left now w number there lost (Locks answer names) free = (
  stored_final lost number (does (Locks answer names) (at_wait now w) number).after,
  subst (λ (h : SessionHold). Besides number (holds_of now) (holds_of (final lost number (does (Locks answer names) (at_wait now w) number).after)) (unless_lost lost h)) (hold_found now number there)
      (changed_so now number there (locking names) _ lost (λ s. refl) (locking_face names there.found) now.tables now.log w),
)
effect_left now w number there lost (Unlocks answer) free = (
  stored_final lost number (does (Unlocks answer) (at_wait now w) number).after,
  subst (λ (h : SessionHold). Besides number (holds_of now) (holds_of (final lost number (does (Unlocks answer) (at_wait now w) number).after)) (unless_lost lost h)) (hold_found now number there)
      (changed_so now number there unlocking _ lost (λ s. refl) (unlocking_face there.found) now.tables now.log w),
)

none_needed : (now : State) (number : ℕ) → AreApart now number []
none_needed now number n differ lock other one two = absurd one

defined_apart : (now : State) (number : ℕ) (tables : Result Database ℕ) → NeedsApart now number (defined tables)
defined_apart now number (Ok tables) = tt
defined_apart now number (Err refusal) = tt

effect_apart : (now : State) (w : List Waiting) (number : ℕ) (outside busy : Bool) (seen : Database) (request : Request) → AreApart now number (need_within seen request).locks → NeedsApart now number (effect_unless outside busy seen (at_wait now w) request)
effect_apart now w number true busy seen request free = tt
effect_apart now w number false busy seen requests.Begin free = none_needed now number
effect_apart now w number false busy seen requests.Commit free = tt
effect_apart now w number false busy seen requests.Rollback free = tt
effect_apart now w number false busy seen (requests.Do statement) free = at busy where
  at : (b : Bool) → NeedsApart now number (result_effect b (need_within seen (requests.Do statement)) (statement_result seen statement))
  at true = free
  at false = tt
effect_apart now w number false busy seen (requests.Ends table) free = tt
effect_apart now w number false busy seen (requests.ChunkEnd table low top size) free = tt
effect_apart now w number false busy seen (requests.BeginSpan table span size) free = at (find_table table now.tables) where
  at : (found : Option TableRows) → NeedsApart now number (begins found span size (need_within seen (requests.BeginSpan table span size)))
  at None = tt
  at (Some t) = free
effect_apart now w number false busy seen (requests.CopyRow from into map key) free = at busy where
  at : (b : Bool) → NeedsApart now number (result_effect b (need_within seen (requests.CopyRow from into map key)) (operation_result seen (copy_operation seen from into map key)))
  at true = free
  at false = tt
effect_apart now w number false busy seen (requests.LockTables names) free = at (all_exist names now.tables) where
  at : (b : Bool) → NeedsApart now number (locks_if b names)
  at true = tt
  at false = tt
effect_apart now w number false busy seen requests.Unlock free = tt
effect_apart now w number false busy seen (requests.Create schema) free = defined_apart now number (created (has_table schema.name now.tables) schema now.tables)
effect_apart now w number false busy seen (requests.Drop name) free = defined_apart now number (dropped (has_table name now.tables) name now.tables)
effect_apart now w number false busy seen (requests.Rename pairs) free = defined_apart now number (renamed_or (rename_tables pairs now.tables))
effect_apart now w number false busy seen requests.LogEnd free = tt
effect_apart now w number false busy seen (requests.ReadLog position limit tables) free = tt
effect_apart now w number false busy seen requests.ShowTables free = tt
effect_apart now w number false busy seen requests.ShowWaiting free = tt
effect_apart now w number false busy seen (requests.ShowCounter table) free = tt
effect_apart now w number false busy seen (requests.SetCounter table least) free = tt

-- the state, with its waits
with_waits : (now : State) (w : List Waiting) (number : ℕ) (there : There now number) (lost : Bool) (request : Request) → AreApart now number (need now number request).locks
    → EffectLeaves (effect (at_wait now w) number (filled now number request)) lost number (stored now) (stored (final lost number (done (at_wait now w) number request).after)) (holds_of now) (holds_of (final lost number (done (at_wait now w) number request).after))
unfolding did
with_waits now w number there lost request free =
    effect_left now w number there lost (effect (at_wait now w) number (filled now number request))
    (effect_apart now w number (is_outside (session_of number now.sessions) (filled now number request)) (is_in_transaction (session_of number now.sessions)) (view number now) (filled now number request) free)

-- EACH TURN

-- a turn whose request was done
served_left : (now : State) (number : ℕ) (asked : Asked) (request : Request) (lost : Bool) → There now number → OneIn now.sessions → about now number asked ≡ Some request → was_done (serves now number asked).answer ≡ true
    → EffectLeaves (effect (where_done asked number now) number (filled now number request)) lost number (stored now) (stored (final lost number (serves now number asked).after)) (holds_of now) (holds_of (final lost number (serves now number asked).after))
unfolding calls polls
served_left now number (Call asks) request lost there one is answered =
    subst (λ (r : Request). EffectLeaves (effect now number (filled now number r)) lost number (stored now) (stored (final lost number (calls now number asks).after)) (holds_of now) (holds_of (final lost number (calls now number asks).after))) (let same : asks ≡ request = cc in same)
    (at (blocker now number (need now number asks)) refl answered)
  where
    at : (by : Option ℕ) → blocker now number (need now number asks) ≡ by → was_done (called_unless by now number asks).answer ≡ true
        → EffectLeaves (effect now number (filled now number asks)) lost number (stored now) (stored (final lost number (called_unless by now number asks).after)) (holds_of now) (holds_of (final lost number (called_unless by now number asks).after))
    at None free answer = with_waits now now.waiting number there lost asks (granted now number (need now number asks) one free).apart
    at (Some by) free answer = absurd (let no : false ≡ true = answer in cc)
served_left now number Poll request lost there one is answered = at (waiting_of number now.waiting) is answered
  where
    over : (b : Bool) (by : ℕ) (asks : Request) → was_done (polled_over b by now number).answer ≡ true
        → EffectLeaves (effect (without_waiting number now) number (filled now number asks)) lost number (stored now) (stored (final lost number (polled_over b by now number).after)) (holds_of now) (holds_of (final lost number (polled_over b by now number).after))
    over true by asks answer = absurd (let no : false ≡ true = answer in cc)
    over false by asks answer = absurd (let no : false ≡ true = answer in cc)

    each : (asks : Request) (by : Option ℕ) → blocker now number (need now number asks) ≡ by → was_done (polled_unless by now number asks).answer ≡ true
        → EffectLeaves (effect (without_waiting number now) number (filled now number asks)) lost number (stored now) (stored (final lost number (polled_unless by now number asks).after)) (holds_of now) (holds_of (final lost number (polled_unless by now number asks).after))
    each asks None free answer = with_waits now (without_waiting number now).waiting number there lost asks (granted now number (need now number asks) one free).apart
    each asks (Some by) free answer = over (is_over now number) by asks answer

    at : (waiting : Option Waiting) → Rattle.proof_journals.specs.Turns.request_of waiting ≡ Some request → was_done (polled_of waiting now number).answer ≡ true
        → EffectLeaves (effect (without_waiting number now) number (filled now number request)) lost number (stored now) (stored (final lost number (polled_of waiting now number).after)) (holds_of now) (holds_of (final lost number (polled_of waiting now number).after))
    at None asks answer = absurd cc
    at (Some waiting) asks answer =
        subst (λ (r : Request). EffectLeaves (effect (without_waiting number now) number (filled now number r)) lost number (stored now) (stored (final lost number (polled_of (Some waiting) now number).after)) (holds_of now) (holds_of (final lost number (polled_of (Some waiting) now number).after))) (let same : waiting.request ≡ request = cc in same)
        (each waiting.request (blocker now number (need now number waiting.request)) refl answer)
served_left now number (Command word) request lost there one is answered = absurd cc
served_left now number Cut request lost there one is answered = absurd (let no : false ≡ true = answered in cc)

-- ... and heard, or missed in its turn
turn_left : (now : State) (number : ℕ) (asked : Asked) (side : Option Side) (request : Request) (given : Answer) → There now number → OneIn now.sessions → about now number asked ≡ Some request → reported_at side (answer_at side (serves now number asked).answer) (missed_at side (serves now number asked).answer) ≡ Some given
    → was_done given ≡ true → EffectLeaves (effect (where_done asked number now) number (filled now number request)) (is_lost side) number (stored now) (stored (leaves side now number asked)) (holds_of now) (holds_of (leaves side now number asked))
turn_left now number asked None request given there one is reported answered =
    served_left now number asked request false there one is (let same : (serves now number asked).answer ≡ given = cc in ap was_done same ∙ answered)
turn_left now number asked (Some Before) request given there one is reported answered = absurd cc
turn_left now number asked (Some After) request given there one is reported answered =
    served_left now number asked request true there one is (let same : (serves now number asked).answer ≡ given = cc in ap was_done same ∙ answered)

-- *Deeds are done*
pub effects_are_done : EffectsAreDone
effects_are_done limits scene journal entry request given run reported is heard answered =
    let before : State = scene_state limits scene journal in
    let number : ℕ = entry.session in
    let nothing : Bool = is_command entry.asked in
    let tool : Bool = not (is_client entry.actor) in
    let now : State = opens entry before in
    let held = journal_holds limits scene journal run in
    let same : stored now ≡ stored before = stored_opened nothing tool number before in
    let faces : (n : ℕ) → face_of now.sessions n ≡ face_of before.sessions n = λ n. faces_opened nothing tool number n before in
    let live : nothing ≡ false = no_command now number entry.asked request is in
    let was : reported_at entry.side (answer_at entry.side (inner before entry)) (missed_at entry.side (inner before entry)) ≡ Some given =
    sym (ap (λ (g : Answer). reported_at entry.side g entry.missed) reported.answer ∙ ap (λ (m : Option Answer). reported_at entry.side (answer_at entry.side (inner before entry)) m) reported.missed) ∙ heard in
    let left : EffectLeaves (effect (where_done entry.asked number now) number (filled now number request)) (is_lost entry.side) number (stored now) (stored (after_entry before entry)) (holds_of now) (holds_of (after_entry before entry)) =
    found_live (session_of number now.sessions) (EffectLeaves (effect (where_done entry.asked number now) number (filled now number request)) (is_lost entry.side) number (stored now) (stored (after_entry before entry)) (holds_of now) (holds_of (after_entry before entry)))
    (opened_live nothing tool number before live) (λ found there. turn_left now number entry.asked entry.side request given (record { found = found; is = there }) (opened_one nothing tool number before held.one) is was answered) in
    let holds : holds_of now ≡ holds_of before = λ i n. (faces n i).hold in
    rw (state_more (opened limits scene.opening) journal entry)
    (subst (λ (h : ℕ → SessionHold). EffectLeaves (effect (where_done entry.asked number now) number (filled now number request)) (is_lost entry.side) number (stored before) (stored (after_entry before entry)) h (holds_of (after_entry before entry))) holds
    (subst (λ (s : Stored). EffectLeaves (effect (where_done entry.asked number now) number (filled now number request)) (is_lost entry.side) number s (stored (after_entry before entry)) (holds_of now) (holds_of (after_entry before entry))) same left))
