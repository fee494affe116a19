-- Whether a session is in a transaction, behind its own turns.
use Rattle.server_model.specs.PlainServer.{recounted, counters_left}
use Rattle.server_model.specs.Drawing.{filled}
use Rattle.std.proofs.Common.{◌≡◌, ℕ, ◌+◌, Bool, true, false, not, List, [], ◌∷◌, ◌++◌, Option, Some, None, refl, sym, ap, ◌∙◌, subst}
use Rattle.base_script.specs.declared.actor.Side.{Side}
use Rattle.server_model.specs.declared.answer.Answer.{Answer}
use Rattle.server_model.specs.declared.answer.Answer.TheVariants as answers
use Rattle.server_model.specs.declared.entry.Asked.{Asked}
use Rattle.server_model.specs.declared.entry.Asked.TheVariants.{Call, Poll, Cut, Command}
use Rattle.server_model.specs.declared.entry.Entry.{Entry}
use Rattle.server_model.specs.declared.request.Request.{Request}
use Rattle.server_model.specs.declared.session.Limits.{Limits}
use Rattle.server_model.specs.declared.session.Session.{Session}
use Rattle.server_model.specs.declared.session.Waiting.{Waiting}
use Rattle.server_model.specs.Effects.{Effect, effect}
use Rattle.server_model.specs.Effects.Effect.{Rests, Grows, Writes, Forgets, Moves, Locks, Unlocks}
use Rattle.server_model.specs.Entries.{is_client, is_command}
use Rattle.server_model.specs.Blockers.{blocker, need}
use Rattle.server_model.specs.PlainServer.{at_rest, called_unless, calls, counting, does, done, did, holding, is_over, leaves, locking, polled_of, polled_over, polled_unless, polls, serves, unlocking, without_waiting}
use Rattle.server_model.specs.States.{State, opened, polls_of, session_of, waiting_of, with_session}
use Rattle.tool_program.specs.JournalWords.Journals.{opens}
use Rattle.proof_journals.specs.Scenes.{Scene}
use Rattle.proof_journals.specs.Holdings.{Face, face_in, face_of}
use Rattle.proof_journals.specs.Turns.{IsReported, about, answer_at, inner, request_of, scene_state}
use Rattle.proof_journals.proofs.Faces.{changed_here, faces_opened, opened_live}
use Rattle.proof_journals.proofs.Journals.{found_live, no_command, state_more}
use Rattle.proof_journals.proofs.Waiting.{IsDone, done_answers}
use Rattle.proof_journals.proofs.ServerTurns.Others.{at_wait}
use Rattle.proof_journals.specs.Ghost.EffectStates.{was_done, where_done}
use Rattle.proof_journals.proofs.Ghost.Leaving.{There}
use Rattle.proof_migration.proofs.Migration.Copier.Knowing.{IsWait}

abbrev pub busy_of : State → ℕ → Bool
busy_of state number = (face_of state.sessions number).busy

-- whether its session is in a transaction behind a deed, by whether it was before
abbrev pub busy_after : Effect → Bool → Bool
busy_after (Rests answer) busy = busy
busy_after (Grows answer need events) busy = true
busy_after (Writes answer events) busy = false
busy_after (Forgets answer) busy = false
busy_after (Moves answer tables) busy = busy
busy_after (Locks answer names) busy = busy
busy_after (Unlocks answer) busy = busy

-- a change of the session
changed_busy : (now : State) (number : ℕ) (there : There now number) (change : Session → Session) → ((s : Session) → (change s).number ≡ s.number) → (face_of (with_session number change now.sessions) number).busy ≡ (change there.found).in_transaction
changed_busy now number there change keeps = ap (λ (o : Option Session). (face_in o).busy) (changed_here number change now.sessions there.found keeps there.is)

found_busy : (now : State) (number : ℕ) (there : There now number) → (there.found).in_transaction ≡ busy_of now number
found_busy now number there = sym (ap (λ (o : Option Session). (face_in o).busy) there.is)

does_busy : (one : Effect) (now : State) (w : List Waiting) (number : ℕ) (there : There now number) → busy_of (does one (at_wait now w) number).after number ≡ busy_after one (busy_of now number)
does_busy (Rests answer) now w number there = refl
does_busy (Grows answer need events) now w number there = changed_busy now number there (holding need events) (λ s. refl)
does_busy (Writes answer events) now w number there = changed_busy now number there at_rest (λ s. refl)
does_busy (Forgets answer) now w number there = changed_busy now number there at_rest (λ s. refl)
does_busy (Moves answer tables) now w number there = refl
does_busy (Locks answer names) now w number there = changed_busy now number there (locking names) (λ s. refl) ∙ found_busy now number there
does_busy (Unlocks answer) now w number there = changed_busy now number there unlocking (λ s. refl) ∙ found_busy now number there

done_busy : (now : State) (w : List Waiting) (number : ℕ) (request : Request) (there : There now number) → busy_of (done (at_wait now w) number request).after number ≡ busy_after (effect (at_wait now w) number (filled now number request)) (busy_of now number)
unfolding did
done_busy now w number request there = does_busy (effect (at_wait now w) number (filled now number request)) now w number there

-- a turn whose request was done
served_busy : (now : State) (number : ℕ) (asked : Asked) (request : Request) → There now number → about now number asked ≡ Some request → was_done (serves now number asked).answer ≡ true → busy_of (serves now number asked).after number ≡ busy_after (effect (where_done asked number now) number (filled now number request)) (busy_of now number)
unfolding calls polls
served_busy now number (Call asks) request there is answered =
    subst (λ (r : Request). busy_of (calls now number asks).after number ≡ busy_after (effect now number (filled now number r)) (busy_of now number)) (let same : asks ≡ request = cc in same) (at (blocker now number (need now number asks)) answered)
  where
    at : (by : Option ℕ) → was_done (called_unless by now number asks).answer ≡ true → busy_of (called_unless by now number asks).after number ≡ busy_after (effect now number (filled now number asks)) (busy_of now number)
    at None answer = done_busy now now.waiting number asks there
    at (Some by) answer = absurd (let no : false ≡ true = answer in cc)
served_busy now number Poll request there is answered = at (waiting_of number now.waiting) is answered
  where
    over : (b : Bool) (by : ℕ) (asks : Request) → was_done (polled_over b by now number).answer ≡ true → busy_of (polled_over b by now number).after number ≡ busy_after (effect (without_waiting number now) number (filled now number asks)) (busy_of now number)
    over true by asks answer = absurd (let no : false ≡ true = answer in cc)
    over false by asks answer = absurd (let no : false ≡ true = answer in cc)

    each : (asks : Request) (by : Option ℕ) → was_done (polled_unless by now number asks).answer ≡ true → busy_of (polled_unless by now number asks).after number ≡ busy_after (effect (without_waiting number now) number (filled now number asks)) (busy_of now number)
    each asks None answer = done_busy now (without_waiting number now).waiting number asks there
    each asks (Some by) answer = over (is_over now number) by asks answer

    at : (waiting : Option Waiting) → request_of waiting ≡ Some request → was_done (polled_of waiting now number).answer ≡ true → busy_of (polled_of waiting now number).after number ≡ busy_after (effect (without_waiting number now) number (filled now number request)) (busy_of now number)
    at None asks answer = absurd cc
    at (Some waiting) asks answer =
        subst (λ (r : Request). busy_of (polled_of (Some waiting) now number).after number ≡ busy_after (effect (without_waiting number now) number (filled now number r)) (busy_of now number)) (let same : waiting.request ≡ request = cc in same)
        (each waiting.request (blocker now number (need now number waiting.request)) answer)
served_busy now number (Command word) request there is answered = absurd cc
served_busy now number Cut request there is answered = absurd (let no : false ≡ true = answered in cc)

-- a turn that waits
not_waiting : (answer : Answer) → IsDone answer → IsWait answer → ⊥
not_waiting (answers.Waits by) is waits = is
not_waiting other is waits = waits

waits_busy : (now : State) (number : ℕ) (asked : Asked) → There now number → IsWait (serves now number asked).answer → busy_of (serves now number asked).after number ≡ busy_of now number
unfolding calls polls
waits_busy now number (Call asks) there waits = at (blocker now number (need now number asks)) waits
  where
    at : (by : Option ℕ) → IsWait (called_unless by now number asks).answer → busy_of (called_unless by now number asks).after number ≡ busy_of now number
    at None answer = absurd (not_waiting (done now number asks).answer (done_answers now number asks) answer)
    at (Some by) answer = changed_busy now number there (counting 0) (λ s. refl) ∙ found_busy now number there
waits_busy now number Poll there waits = at (waiting_of number now.waiting) waits
  where
    over : (b : Bool) (by : ℕ) → IsWait (polled_over b by now number).answer → busy_of (polled_over b by now number).after number ≡ busy_of now number
    over true by answer = absurd answer
    over false by answer = changed_busy now number there (counting (polls_of (session_of number now.sessions) + 1)) (λ s. refl) ∙ found_busy now number there

    each : (asks : Request) (by : Option ℕ) → IsWait (polled_unless by now number asks).answer → busy_of (polled_unless by now number asks).after number ≡ busy_of now number
    each asks None answer = absurd (not_waiting (done (without_waiting number now) number asks).answer (done_answers (without_waiting number now) number asks) answer)
    each asks (Some by) answer = over (is_over now number) by answer

    at : (waiting : Option Waiting) → IsWait (polled_of waiting now number).answer → busy_of (polled_of waiting now number).after number ≡ busy_of now number
    at None answer = absurd answer
    at (Some waiting) answer = each waiting.request (blocker now number (need now number waiting.request)) answer
waits_busy now number (Command word) there waits = absurd waits
waits_busy now number Cut there waits = absurd waits

-- IN A JOURNAL

module _ (limits : Limits) (scene : Scene) (journal : List Entry) (entry : Entry) (request : Request) (reported : IsReported limits scene journal entry) (heard : entry.side ≡ None) (asked : about (opens entry (scene_state limits scene journal)) entry.session entry.asked ≡ Some request) where
  abbrev before : State
  before = scene_state limits scene journal

  abbrev now : State
  now = opens entry before

  same_busy : busy_of now entry.session ≡ busy_of before entry.session
  same_busy = ap (λ (f : Face). f.busy) (faces_opened (is_command entry.asked) (not (is_client entry.actor)) entry.session entry.session before)

  live : (P : Type 0) → (There now entry.session → P) → P
  live P each =
      found_live (session_of entry.session now.sessions) P (opened_live (is_command entry.asked) (not (is_client entry.actor)) entry.session before (no_command now entry.session entry.asked request asked))
      (λ found there. each (record { found = found; is = there }))

  answered : entry.answer ≡ (serves now entry.session entry.asked).answer
  answered = reported.answer ∙ ap (λ (s : Option Side). answer_at s (inner before entry)) heard

  left : scene_state limits scene (journal ++ entry ∷ []) ≡ recounted (counters_left None now entry.session entry.asked) (serves now entry.session entry.asked).after
  left = state_more (opened limits scene.opening) journal entry ∙ ap (λ (s : Option Side). recounted (counters_left s now entry.session entry.asked) (leaves s now entry.session entry.asked)) heard

  -- *Behind a deed that was done and heard*
  pub busy_done : was_done entry.answer ≡ true → busy_of (scene_state limits scene (journal ++ entry ∷ [])) entry.session ≡ busy_after (effect (where_done entry.asked entry.session now) entry.session (filled now entry.session request)) (busy_of before entry.session)
  busy_done done_so =
      ap (λ (s : State). busy_of s entry.session) left
      ∙ live (busy_of (serves now entry.session entry.asked).after entry.session ≡ busy_after (effect (where_done entry.asked entry.session now) entry.session (filled now entry.session request)) (busy_of now entry.session))
      (λ there. served_busy now entry.session entry.asked request there asked (ap was_done (sym answered) ∙ done_so))
      ∙ ap (busy_after (effect (where_done entry.asked entry.session now) entry.session (filled now entry.session request))) same_busy

  -- *Where its request waits* its session is as before
  pub busy_waits : IsWait entry.answer → busy_of (scene_state limits scene (journal ++ entry ∷ [])) entry.session ≡ busy_of before entry.session
  busy_waits waits =
      ap (λ (s : State). busy_of s entry.session) left
      ∙ live (busy_of (serves now entry.session entry.asked).after entry.session ≡ busy_of now entry.session) (λ there. waits_busy now entry.session entry.asked there (subst IsWait answered waits)) ∙ same_busy
