-- LOCK TABLES that is done leaves its names with the session.
use Rattle.std.proofs.Common.{◌≡◌, ℕ, Bool, true, false, not, ◌&&◌, ◌||◌, List, [], ◌∷◌, ◌++◌, map, cond, Option, Some, None, refl, sym, ap, ◌∙◌, subst}
use Rattle.std.specs.Prelude.{◌==◌}
use Rattle.std.proofs.Math.Bool.{or-true}
use Rattle.std.proofs.lemmas.Bool.{false≢true}
use Rattle.std.specs.List.{list_any}
use Rattle.std.specs.Str.{bytes_eq}
use Rattle.base_values.specs.declared.mysql_errors.TheConstants.{ER_TABLE_NOT_LOCKED, ER_NO_SUCH_TABLE}
use Rattle.server_locks.specs.MetadataLocks.Grants.{holds}
use Rattle.base_script.specs.declared.actor.Side.{Side}
use Rattle.server_model.specs.declared.session.Session.{Session}
use Rattle.server_model.specs.declared.session.HeldName.{HeldName}
use Rattle.server_model.specs.declared.answer.Answer.TheVariants as answers
use Rattle.proof_journals.specs.Turns.{scene_state, inner, answer_at, request_of, about}
use Rattle.server_model.specs.declared.entry.Asked.{Asked}
use Rattle.server_model.specs.declared.entry.Asked.TheVariants.{Call, Poll, Cut, Command}
use Rattle.server_model.specs.Entries.{is_command, is_client}
use Rattle.proof_journals.specs.ServerTurns.Others.{held_at, LocksAreTaken}
use Rattle.proof_journals.proofs.Faces.{opened_live}
use Rattle.proof_journals.proofs.Names.{as_held}
use Rattle.proof_journals.proofs.ServerTurns.Others.{holds_parts}
use Rattle.proof_journals.proofs.Journals.{no_command, state_more, found_live}
use Rattle.server_model.specs.declared.request.Request.TheVariants.{LockTables}
use Rattle.server_model.specs.declared.request.Request.{Request}
use Rattle.server_model.specs.Answers.{refuses, ok}
use Rattle.server_model.specs.States.{State, is_in_transaction, names_held, opened, session_of, view, waiting_of, with_session}
use Rattle.server_model.specs.declared.session.Waiting.{Waiting}
use Rattle.server_model.specs.Effects.{all_exist, effect_unless, is_outside, locks_if}
use Rattle.server_model.specs.PlainServer.{called_unless, calls, does, did, exclusive, is_over, leaves, locking, polled_of, polled_over, polled_unless, polls, serves, without_waiting}
use Rattle.server_model.specs.Blockers.{need, blocker}
use Rattle.tool_program.specs.JournalWords.Journals.{opens}
use Rattle.server_model.proofs.LockedRows.Tests.{same_bytes, are_same}

own_taken : (holder number : ℕ) (held : List HeldName) (names : List (List ℕ)) (name : List ℕ) → (holder == number) ≡ true → list_any (bytes_eq name) names ≡ true → holds (as_held holder (held ++ map exclusive names)) number name true ≡ true
unfolding holds
own_taken holder number [] [] name own is = absurd (false≢true is)
own_taken holder number [] (first ∷ names) name own is = at (bytes_eq name first) refl is (own_taken holder number [] names name own) where
  at : (b : Bool) → bytes_eq name first ≡ b → (b || list_any (bytes_eq name) names) ≡ true → (list_any (bytes_eq name) names ≡ true → holds (as_held holder (map exclusive names)) number name true ≡ true) → (((holder == number) && (bytes_eq first name && (true || false))) || holds (as_held holder (map exclusive names)) number name true) ≡ true
  at true same is rest = rw (own, ap (λ (n : List ℕ). bytes_eq first n) (are_same name first same) ∙ same_bytes first) refl
  at false off is rest = rw (rest is) (or-true ((holder == number) && (bytes_eq first name && (true || false))))
own_taken holder number (h ∷ held) names name own is = rw (own_taken holder number held names name own is) (or-true ((holder == number) && (bytes_eq h.name name && (h.exclusive || false))))

taken : (number : ℕ) (names : List (List ℕ)) (sessions : List Session) (found : Session) (name : List ℕ) → session_of number sessions ≡ Some found → list_any (bytes_eq name) names ≡ true → holds (names_held (with_session number (locking names) sessions)) number name true ≡ true
unfolding with_session
taken number names [] found name is among = absurd (cc)
taken number names (first ∷ sessions) found name is among = at (first.number == number) refl is (λ there. taken number names sessions found name there among) where
  at : (b : Bool) → (first.number == number) ≡ b → cond b (Some first) (session_of number sessions) ≡ Some found → (session_of number sessions ≡ Some found → holds (names_held (with_session number (locking names) sessions)) number name true ≡ true)
      → holds (names_held (cond b (locking names first ∷ sessions) (first ∷ with_session number (locking names) sessions))) number name true ≡ true
  at true here is rest = holds_parts (as_held first.number (first.names ++ map exclusive names)) (names_held sessions) number name true ∙ rw (own_taken first.number number first.names names name here among) refl
  at false here is rest = holds_parts (as_held first.number first.names) (names_held (with_session number (locking names) sessions)) number name true ∙ rw (rest is) (or-true (holds (as_held first.number first.names) number name true))

abbrev pub Taken : State → ℕ → List (List ℕ) → Type 0
Taken after number names = (name : List ℕ) → list_any (bytes_eq name) names ≡ true → holds (held_at after) number name true ≡ true

done_taken : (base : State) (number : ℕ) (names : List (List ℕ)) (found : Session) → session_of number base.sessions ≡ Some found → (outside busy : Bool) → (does (effect_unless outside busy (view number base) base (LockTables names)) base number).answer ≡ ok → Taken (does (effect_unless outside busy (view number base) base (LockTables names)) base number).after number names
done_taken base number names found is true busy given name among = absurd (refusal given) where
  refusal : refuses ER_TABLE_NOT_LOCKED ≡ ok → ⊥
  refusal same = cc
done_taken base number names found is false busy given name among = at (all_exist names base.tables) given where
  refusal : refuses ER_NO_SUCH_TABLE ≡ ok → ⊥
  refusal same = cc

  at : (b : Bool) → (does (locks_if b names) base number).answer ≡ ok → holds (held_at (does (locks_if b names) base number).after) number name true ≡ true
  at true given = taken number names base.sessions found name is among
  at false given = absurd (refusal given)

call_taken : (state : State) (number : ℕ) (names : List (List ℕ)) (found : Session) → session_of number state.sessions ≡ Some found → (by : Option ℕ) → (called_unless by state number (LockTables names)).answer ≡ ok → Taken (called_unless by state number (LockTables names)).after number names
unfolding did
call_taken state number names found is None given = done_taken state number names found is (is_outside (session_of number state.sessions) (LockTables names)) (is_in_transaction (session_of number state.sessions)) given
call_taken state number names found is (Some by) given = absurd (waits given) where
  waits : answers.Waits by ≡ ok → ⊥
  waits same = cc

poll_taken : (state : State) (number : ℕ) (names : List (List ℕ)) (found : Session) → session_of number state.sessions ≡ Some found → (by : Option ℕ) → (polled_unless by state number (LockTables names)).answer ≡ ok → Taken (polled_unless by state number (LockTables names)).after number names
unfolding did
poll_taken state number names found is None given = done_taken (without_waiting number state) number names found is (is_outside (session_of number state.sessions) (LockTables names)) (is_in_transaction (session_of number state.sessions)) given
poll_taken state number names found is (Some by) given = at (is_over state number) given where
  over : {polls : ℕ} → answers.TimedOut polls ≡ ok → ⊥
  over same = cc

  waits : answers.Waits by ≡ ok → ⊥
  waits same = cc

  at : (b : Bool) → (polled_over b by state number).answer ≡ ok → Taken (polled_over b by state number).after number names
  at true same = absurd (over same)
  at false same = absurd (waits same)

polled_taken : (state : State) (number : ℕ) (names : List (List ℕ)) (found : Session) → session_of number state.sessions ≡ Some found → (waiting : Option Waiting) → request_of waiting ≡ Some (LockTables names) → (polled_of waiting state number).answer ≡ ok → Taken (polled_of waiting state number).after number names
polled_taken state number names found is None asks given = absurd (cc)
polled_taken state number names found is (Some waiting) asks given =
    let same : waiting.request ≡ LockTables names = cc in
    subst (λ (r : Request). (polled_unless (blocker state number (need state number r)) state number r).answer ≡ ok → Taken (polled_unless (blocker state number (need state number r)) state number r).after number names) (sym same)
    (poll_taken state number names found is (blocker state number (need state number (LockTables names)))) given

served_taken : (state : State) (number : ℕ) (asked : Asked) (names : List (List ℕ)) (found : Session) → session_of number state.sessions ≡ Some found → about state number asked ≡ Some (LockTables names) → (serves state number asked).answer ≡ ok → Taken (serves state number asked).after number names
unfolding calls polls
served_taken state number (Call request) names found is asks given =
    let same : request ≡ LockTables names = cc in
    subst (λ (r : Request). (called_unless (blocker state number (need state number r)) state number r).answer ≡ ok → Taken (called_unless (blocker state number (need state number r)) state number r).after number names) (sym same)
    (call_taken state number names found is (blocker state number (need state number (LockTables names)))) given
served_taken state number Poll names found is asks given = polled_taken state number names found is (waiting_of number state.waiting) asks given
served_taken state number (Command word) names found is asks given = absurd (cc)
served_taken state number Cut names found is asks given = absurd (lost given) where
  lost : answers.Lost ≡ ok → ⊥
  lost same = cc

-- *LOCK TABLES that is done leaves its names with the session*
pub locks_are_taken : LocksAreTaken
locks_are_taken limits scene journal entry names answered asks side answer =
    let state : State = scene_state limits scene journal in
    let nothing : Bool = is_command entry.asked in
    let tool : Bool = not (is_client entry.actor) in
    let now : State = opens entry state in
    let given : inner state entry ≡ ok = ap (λ (s : Option Side). answer_at s (inner state entry)) (sym side) ∙ sym answered.answer ∙ answer in
    let after : leaves entry.side now entry.session entry.asked ≡ (serves now entry.session entry.asked).after = ap (λ (s : Option Side). leaves s now entry.session entry.asked) side in
    rw (state_more (opened limits scene.opening) journal entry)
    (subst (λ (s : State). Taken s entry.session names) (sym after)
    (found_live (session_of entry.session now.sessions) (Taken (serves now entry.session entry.asked).after entry.session names) (opened_live nothing tool entry.session state (no_command now entry.session entry.asked (LockTables names) asks))
    (λ found is. served_taken now entry.session entry.asked names found is asks given)))
