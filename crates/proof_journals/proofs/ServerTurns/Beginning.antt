-- BeginSpan that is answered keys holds the span.
use Rattle.server_model.specs.declared.counter.Counter.{Counter}
use Rattle.server_model.specs.PlainServer.{recounted}
use Rattle.std.proofs.Common.{◌≡◌, ℕ, Bool, true, false, not, List, [], ◌∷◌, ◌++◌, Option, Some, None, refl, sym, ap, ◌∙◌, subst, inl}
use Rattle.std.specs.List.{list_any}
use Rattle.std.specs.Str.{bytes_eq}
use Rattle.std.proofs.lemmas.Option.{same_Some}
use Rattle.base_values.specs.declared.value.Value.{Value}
use Rattle.base_values.specs.declared.span.Span.{Span}
use Rattle.base_values.specs.declared.gho_schema.schema.Schema.{Schema}
use Rattle.base_values.specs.GhoSchema.ClusteredKey.{clustered_place}
use Rattle.base_values.specs.declared.event.RowEvent.{RowEvent}
use Rattle.base_values.specs.declared.event.Change.{Change}
use Rattle.base_values.specs.declared.mysql_errors.TheConstants.{ER_TABLE_NOT_LOCKED, ER_NO_SUCH_TABLE}
use Rattle.server_locks.specs.declared.row_locks.lock.Lock.{Lock}
use Rattle.table_store.specs.Databases.{TableRows, Database, find_table, with_change}
use Rattle.base_script.specs.declared.actor.Side.{Side}
use Rattle.server_model.specs.declared.answer.Answer.TheVariants as answers
use Rattle.server_model.specs.declared.session.Session.{Session}
use Rattle.server_model.specs.Needs.{lock_on}
use Rattle.server_model.specs.LockedRows.Agreement.{Among}
use Rattle.server_model.specs.Operations.{after_events, change_table}
use Rattle.proof_journals.specs.Scenes.{Stored}
use Rattle.server_model.specs.declared.answer.Answer.{Answer}
use Rattle.proof_journals.specs.Turns.{scene_state, inner, answer_at, request_of, about}
use Rattle.server_model.specs.declared.entry.Asked.{Asked}
use Rattle.server_model.specs.declared.entry.Asked.TheVariants.{Call, Poll, Cut, Command}
use Rattle.server_model.specs.Entries.{is_command, is_client}
use Rattle.proof_journals.specs.Holdings.{Face, face_of}
use Rattle.proof_journals.specs.ServerTurns.Others.{SpanHeld, SpansAreHeld}
use Rattle.server_model.proofs.LockedRows.Finding.{found_after, change_if}
use Rattle.proof_journals.proofs.Words.{names_last}
use Rattle.proof_journals.proofs.Held.{hold_in, holding_face}
use Rattle.proof_journals.proofs.Faces.{faces_with, opened_live}
use Rattle.proof_journals.proofs.Journals.{no_command, state_more, found_live, stored_opened}
use Rattle.server_model.specs.declared.request.Request.TheVariants.{BeginSpan}
use Rattle.server_model.specs.declared.request.Request.{Request}
use Rattle.server_model.specs.Answers.{refuses, ok}
use Rattle.server_model.specs.declared.need.Need.{Need}
use Rattle.server_model.specs.Blockers.{need, need_within, blocker, span_lock, span_needs}
use Rattle.server_model.specs.States.{State, is_in_transaction, locked_names, opened, session_of, view, waiting_of, with_session, writes_of}
use Rattle.server_model.specs.declared.session.Waiting.{Waiting}
use Rattle.server_model.specs.Effects.{begins, effect_unless, is_outside}
use Rattle.server_model.specs.PlainServer.{called_unless, calls, does, done, did, holding, is_over, leaves, polled_of, polled_over, polled_unless, polls, serves, without_waiting}
use Rattle.tool_program.specs.JournalWords.Journals.{opens}
use Rattle.server_model.proofs.LockedRows.Points.{among-right}

-- events leave a table's schema
schema_if : (b : Bool) (change : Change) (found : Option TableRows) (table : TableRows) → found ≡ Some table → (later : TableRows) × (change_if b change found ≡ Some later) × (later.schema ≡ table.schema)
schema_if true change None table is = absurd (cc)
schema_if true change (Some t) table is = (change_table change t, refl, ap (λ (s : TableRows). s.schema) (same_Some t table is))
schema_if false change found table is = (table, none change found ∙ is, refl) where
  none : (change : Change) (found : Option TableRows) → change_if false change found ≡ found
  none change None = refl
  none change (Some t) = refl

schema_after : (name : List ℕ) (events : List RowEvent) (tables : Database) (table : TableRows) → find_table name tables ≡ Some table → (later : TableRows) × (find_table name (after_events tables events) ≡ Some later) × (later.schema ≡ table.schema)
unfolding after_events
schema_after name [] tables table is = (table, is, refl)
schema_after name (event ∷ events) tables table is =
    let one = schema_if (bytes_eq event.table name) event.change (find_table name tables) table is in
    let rest = schema_after name events (with_change event.table (change_table event.change) tables) one.0 (found_after event.table name event.change tables ∙ one.1) in
    (rest.0, rest.1, rest.2 ∙ one.2)

abbrev pub clustered_lock : Schema → Span → ℕ → Lock
clustered_lock schema span place = lock_on schema false (record { key = place; span = span })

of_place : (schema : Schema) (span : Span) (found : Option ℕ) (place : ℕ) → found ≡ Some place → Among (clustered_lock schema span place) (span_lock schema span found)
of_place schema span None place is = absurd (cc)
of_place schema span (Some other) place is = inl (ap (λ (p : ℕ). clustered_lock schema span p) (cc))

span_locked : (seen : Database) (table : List ℕ) (span : Span) (later found : TableRows) → find_table table seen ≡ Some later → later.schema ≡ found.schema → (place : ℕ) → clustered_place found.schema ≡ Some place → Among (clustered_lock found.schema span place) (span_needs span (find_table table seen))
span_locked seen table span later found is same place at =
    subst (λ (o : Option TableRows). Among (clustered_lock found.schema span place) (span_needs span o)) (sym is)
    (subst (λ (s : Schema). Among (clustered_lock found.schema span place) (span_lock s span (clustered_place s))) (sym same) (of_place found.schema span (clustered_place found.schema) place at))

-- of a request that is done
done_held : (base : State) (number : ℕ) (table : List ℕ) (span : Span) (size : ℕ) (keys : List (List Value)) (end : List Value) (session : Session) → session_of number base.sessions ≡ Some session → (outside busy : Bool)
    → (does (effect_unless outside busy (view number base) base (BeginSpan table span size)) base number).answer ≡ (answers.Keys keys end)
    → SpanHeld table span size number (does (effect_unless outside busy (view number base) base (BeginSpan table span size)) base number).answer base (does (effect_unless outside busy (view number base) base (BeginSpan table span size)) base number).after
done_held base number table span size keys end session is true busy given = absurd (refusal given) where
  refusal : refuses ER_TABLE_NOT_LOCKED ≡ (answers.Keys keys end) → ⊥
  refusal same = cc
done_held base number table span size keys end session is false busy given = at (find_table table base.tables) refl given where
  need' : Need
  need' = need_within (view number base) (BeginSpan table span size)

  refusal : refuses ER_NO_SUCH_TABLE ≡ (answers.Keys keys end) → ⊥
  refusal same = cc

  at : (found : Option TableRows) → find_table table base.tables ≡ found → (does (begins found span size need') base number).answer ≡ (answers.Keys keys end) → SpanHeld table span size number (does (begins found span size need') base number).answer base (does (begins found span size need') base number).after
  at None here given = absurd (refusal given)
  at (Some found) here given =
      let later = schema_after table (writes_of (session_of number base.sessions)) base.tables found here in
      let face : face_of (with_session number (holding need' []) base.sessions) number ≡ record { hold = record { names = (hold_in session).names ++ need'.names; locks = (hold_in session).locks ++ need'.locks; writes = (hold_in session).writes ++ [] }; locked = locked_names session.names; busy = true } =
      (faces_with number (holding need' []) base.sessions session (λ s. refl) is).here ∙ holding_face need' [] session in
      record {
        found = found;
        is = here;
        tables = refl;
        keys = refl;
        named = subst (λ (f : Face). list_any (bytes_eq table) f.hold.names ≡ true) (sym face) (names_last (hold_in session).names table);
        locked = λ place at. subst (λ (f : Face). Among (clustered_lock found.schema span place) f.hold.locks) (sym face) (among-right (clustered_lock found.schema span place) (hold_in session).locks need'.locks (span_locked (view number base) table span later.0 found later.1 later.2 place at));
      }

called_held : (state : State) (number : ℕ) (table : List ℕ) (span : Span) (size : ℕ) (keys : List (List Value)) (end : List Value) (session : Session) → session_of number state.sessions ≡ Some session → (by : Option ℕ) → (called_unless by state number (BeginSpan table span size)).answer ≡ (answers.Keys keys end)
    → SpanHeld table span size number (called_unless by state number (BeginSpan table span size)).answer state (called_unless by state number (BeginSpan table span size)).after
unfolding did
called_held state number table span size keys end session is None given = done_held state number table span size keys end session is (is_outside (session_of number state.sessions) (BeginSpan table span size)) (is_in_transaction (session_of number state.sessions)) given
called_held state number table span size keys end session is (Some by) given = absurd (waits given) where
  waits : answers.Waits by ≡ (answers.Keys keys end) → ⊥
  waits same = cc

from_without : (state after : State) (number : ℕ) (table : List ℕ) (span : Span) (size : ℕ) (answer : Answer) → SpanHeld table span size number answer (without_waiting number state) after → SpanHeld table span size number answer state after
from_without state after number table span size answer held = record { found = held.found; is = held.is; tables = held.tables; keys = held.keys; named = held.named; locked = held.locked }

poll_held : (state : State) (number : ℕ) (table : List ℕ) (span : Span) (size : ℕ) (keys : List (List Value)) (end : List Value) (session : Session) → session_of number state.sessions ≡ Some session → (by : Option ℕ) → (polled_unless by state number (BeginSpan table span size)).answer ≡ (answers.Keys keys end)
    → SpanHeld table span size number (polled_unless by state number (BeginSpan table span size)).answer state (polled_unless by state number (BeginSpan table span size)).after
unfolding did
poll_held state number table span size keys end session is None given =
    from_without state (done (without_waiting number state) number (BeginSpan table span size)).after number table span size (done (without_waiting number state) number (BeginSpan table span size)).answer
    (done_held (without_waiting number state) number table span size keys end session is (is_outside (session_of number state.sessions) (BeginSpan table span size)) (is_in_transaction (session_of number state.sessions)) given)
poll_held state number table span size keys end session is (Some by) given = at (is_over state number) given where
  over : {polls : ℕ} → answers.TimedOut polls ≡ (answers.Keys keys end) → ⊥
  over same = cc

  waits : answers.Waits by ≡ (answers.Keys keys end) → ⊥
  waits same = cc

  at : (b : Bool) → (polled_over b by state number).answer ≡ (answers.Keys keys end) → SpanHeld table span size number (polled_over b by state number).answer state (polled_over b by state number).after
  at true same = absurd (over same)
  at false same = absurd (waits same)

served_held : (state : State) (number : ℕ) (asked : Asked) (table : List ℕ) (span : Span) (size : ℕ) (keys : List (List Value)) (end : List Value) (session : Session) → session_of number state.sessions ≡ Some session → about state number asked ≡ Some (BeginSpan table span size) → (serves state number asked).answer ≡ (answers.Keys keys end)
    → SpanHeld table span size number (serves state number asked).answer state (serves state number asked).after
unfolding calls polls
served_held state number (Call request) table span size keys end session is asks given =
    let same : request ≡ BeginSpan table span size = cc in
    subst (λ (r : Request). (called_unless (blocker state number (need state number r)) state number r).answer ≡ (answers.Keys keys end) → SpanHeld table span size number (called_unless (blocker state number (need state number r)) state number r).answer state (called_unless (blocker state number (need state number r)) state number r).after) (sym same)
    (called_held state number table span size keys end session is (blocker state number (need state number (BeginSpan table span size)))) given
served_held state number Poll table span size keys end session is asks given = at (waiting_of number state.waiting) asks given where
  none : ok ≡ (answers.Keys keys end) → ⊥
  none same = cc

  at : (waiting : Option Waiting) → request_of waiting ≡ Some (BeginSpan table span size) → (polled_of waiting state number).answer ≡ (answers.Keys keys end) → SpanHeld table span size number (polled_of waiting state number).answer state (polled_of waiting state number).after
  at None asks given = absurd (none given)
  at (Some waiting) asks given =
      let same : waiting.request ≡ BeginSpan table span size = cc in
      subst (λ (r : Request). (polled_unless (blocker state number (need state number r)) state number r).answer ≡ (answers.Keys keys end) → SpanHeld table span size number (polled_unless (blocker state number (need state number r)) state number r).answer state (polled_unless (blocker state number (need state number r)) state number r).after) (sym same)
      (poll_held state number table span size keys end session is (blocker state number (need state number (BeginSpan table span size)))) given
served_held state number (Command word) table span size keys end session is asks given = absurd (cc)
served_held state number Cut table span size keys end session is asks given = absurd (lost given) where
  lost : answers.Lost ≡ (answers.Keys keys end) → ⊥
  lost same = cc

-- counters are no part of it
span_recounted : (table : List ℕ) (span : Span) (size session : ℕ) (answer : Answer) (before after : State) (counters : List Counter) → SpanHeld table span size session answer before after → SpanHeld table span size session answer before (recounted counters after)
span_recounted table span size session answer before after counters held = record { found = held.found; is = held.is; tables = held.tables; keys = held.keys; named = held.named; locked = held.locked }

-- *BeginSpan that is answered keys holds the span*
pub spans_are_held : SpansAreHeld
spans_are_held limits scene journal entry table span size keys end answered asks side answer =
    let state : State = scene_state limits scene journal in
    let nothing : Bool = is_command entry.asked in
    let tool : Bool = not (is_client entry.actor) in
    let now : State = opens entry state in
    let reported : inner state entry ≡ entry.answer = ap (λ (s : Option Side). answer_at s (inner state entry)) (sym side) ∙ sym answered.answer in
    let after : leaves entry.side now entry.session entry.asked ≡ (serves now entry.session entry.asked).after = ap (λ (s : Option Side). leaves s now entry.session entry.asked) side in
    let tables : now.tables ≡ state.tables = ap (λ (s : Stored). s.tables) (stored_opened nothing tool entry.session state) in
    let held : SpanHeld table span size entry.session (inner state entry) now (serves now entry.session entry.asked).after =
    found_live (session_of entry.session now.sessions) (SpanHeld table span size entry.session (inner state entry) now (serves now entry.session entry.asked).after) (opened_live nothing tool entry.session state (no_command now entry.session entry.asked (BeginSpan table span size) asks))
    (λ session is. served_held now entry.session entry.asked table span size keys end session is asks (reported ∙ answer)) in
    rw (state_more (opened limits scene.opening) journal entry)
    (span_recounted table span size entry.session entry.answer state (leaves entry.side now entry.session entry.asked) _
    (subst (λ (s : State). SpanHeld table span size entry.session entry.answer state s) (sym after)
    (record { found = held.found; is = ap (find_table table) (sym tables) ∙ held.is; tables = held.tables ∙ tables; keys = sym reported ∙ held.keys; named = held.named; locked = held.locked })))
