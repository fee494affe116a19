-- What an entry leaves whose request was not done, and what is answered where it was.
use Rattle.server_model.specs.declared.counter.Counter.{Counter}
use Rattle.server_model.specs.PlainServer.{recounted}
use Rattle.server_model.specs.Drawing.{filled}
use Rattle.std.proofs.Common.{◌≡◌, ℕ, ◌+◌, Bool, true, false, not, List, [], ◌∷◌, ◌++◌, Option, Some, None, refl, sym, ap, ◌∙◌, subst}
use Rattle.base_script.specs.declared.actor.Side.{Side}
use Rattle.base_script.specs.declared.actor.Side.TheVariants.{Before, After}
use Rattle.server_model.specs.declared.answer.Answer.{Answer}
use Rattle.server_model.specs.declared.answer.Answer.TheVariants as answers
use Rattle.server_model.specs.declared.session.Limits.{Limits}
use Rattle.server_model.specs.declared.entry.Entry.{Entry}
use Rattle.server_model.specs.declared.session.Waiting.{Waiting}
use Rattle.server_model.specs.declared.entry.Asked.{Asked}
use Rattle.server_model.specs.declared.entry.Asked.TheVariants.{Call, Poll, Cut, Command}
use Rattle.server_model.specs.declared.request.Request.{Request}
use Rattle.server_model.specs.Effects.{Effect, effect}
use Rattle.server_model.specs.Effects.Effect.{Rests, Grows, Writes, Forgets, Moves, Locks, Unlocks}
use Rattle.server_model.specs.Entries.{is_command, is_client, is_cut}
use Rattle.server_model.specs.Blockers.{need, blocker}
use Rattle.server_model.specs.Drawing.{filled}
use Rattle.server_model.specs.PlainServer.{called_unless, calls, counting, does, done, did, forgets, is_over, leaves, polled_of, polled_over, polled_unless, polls, serves, without_waiting}
use Rattle.server_model.specs.States.{State, opened, polls_of, session_of, waiting_of, with_session}
use Rattle.tool_program.specs.JournalWords.Journals.{after_entry, opens, opens_if}
use Rattle.proof_journals.specs.Scenes.{Scene, Besides, SessionHold, no_hold}
use Rattle.proof_journals.specs.Holdings.{face_in, stored}
use Rattle.proof_journals.specs.Turns.{about, answer_at, inner, missed_at, request_of, scene_state, reported_at}
use Rattle.proof_journals.proofs.Faces.{faces_opened, opened_live}
use Rattle.proof_journals.proofs.Journals.{state_more, found_live, no_command, stored_opened}
use Rattle.proof_journals.proofs.Tooling.{final}
use Rattle.proof_journals.proofs.Waiting.{IsDone, done_answers}
use Rattle.proof_journals.specs.Ghost.Laws.{CutsAreLeft, EffectsAnswer, UndoneIsLeft}
use Rattle.proof_journals.specs.Ghost.EffectStates.{effect_answer, reported_done, undone_hold, unless_lost, was_done, where_done}
use Rattle.proof_journals.proofs.Ghost.Leaving.{There, changed_so, hold_found, holds_of, resting_hold, rests_so, same_so, stored_final}

-- WHAT IS ANSWERED

does_answer : (one : Effect) (state : State) (number : ℕ) → (does one state number).answer ≡ effect_answer one
does_answer (Rests answer) state number = refl
does_answer (Grows answer need events) state number = refl
does_answer (Writes answer events) state number = refl
does_answer (Forgets answer) state number = refl
does_answer (Moves answer tables) state number = refl
does_answer (Locks answer names) state number = refl
does_answer (Unlocks answer) state number = refl

done_answer : (state : State) (number : ℕ) (request : Request) → (done state number request).answer ≡ effect_answer (effect state number (filled state number request))
unfolding did
done_answer state number request = does_answer (effect state number (filled state number request)) state number

served_answer : (now : State) (number : ℕ) (asked : Asked) (request : Request) → about now number asked ≡ Some request → was_done (serves now number asked).answer ≡ true → (serves now number asked).answer ≡ effect_answer (effect (where_done asked number now) number (filled now number request))
unfolding calls polls
served_answer now number (Call asks) request is answered =
    subst (λ (r : Request). (calls now number asks).answer ≡ effect_answer (effect now number (filled now number r))) (let same : asks ≡ request = cc in same) (at (blocker now number (need now number asks)) answered)
  where
    at : (by : Option ℕ) → was_done (called_unless by now number asks).answer ≡ true → (called_unless by now number asks).answer ≡ effect_answer (effect now number (filled now number asks))
    at None answer = done_answer now number asks
    at (Some by) answer = absurd (let no : false ≡ true = answer in cc)
served_answer now number Poll request is answered = at (waiting_of number now.waiting) is answered
  where
    over : (b : Bool) (by : ℕ) (asks : Request) → was_done (polled_over b by now number).answer ≡ true → (polled_over b by now number).answer ≡ effect_answer (effect (without_waiting number now) number (filled now number asks))
    over true by asks answer = absurd (let no : false ≡ true = answer in cc)
    over false by asks answer = absurd (let no : false ≡ true = answer in cc)

    each : (asks : Request) (by : Option ℕ) → was_done (polled_unless by now number asks).answer ≡ true → (polled_unless by now number asks).answer ≡ effect_answer (effect (without_waiting number now) number (filled now number asks))
    each asks None answer = done_answer (without_waiting number now) number asks
    each asks (Some by) answer = over (is_over now number) by asks answer

    at : (waiting : Option Waiting) → request_of waiting ≡ Some request → was_done (polled_of waiting now number).answer ≡ true → (polled_of waiting now number).answer ≡ effect_answer (effect (without_waiting number now) number (filled now number request))
    at None asks answer = absurd cc
    at (Some waiting) asks answer =
        subst (λ (r : Request). (polled_of (Some waiting) now number).answer ≡ effect_answer (effect (without_waiting number now) number (filled now number r))) (let same : waiting.request ≡ request = cc in same)
        (each waiting.request (blocker now number (need now number waiting.request)) answer)
served_answer now number (Command word) request is answered = absurd cc
served_answer now number Cut request is answered = absurd (let no : false ≡ true = answered in cc)

turn_answer : (now : State) (number : ℕ) (asked : Asked) (side : Option Side) (request : Request) (given : Answer) → about now number asked ≡ Some request → reported_at side (answer_at side (serves now number asked).answer) (missed_at side (serves now number asked).answer) ≡ Some given
    → was_done given ≡ true → given ≡ effect_answer (effect (where_done asked number now) number (filled now number request))
turn_answer now number asked None request given is reported answered =
    let same : (serves now number asked).answer ≡ given = cc in sym same ∙ served_answer now number asked request is (ap was_done same ∙ answered)
turn_answer now number asked (Some Before) request given is reported answered = absurd cc
turn_answer now number asked (Some After) request given is reported answered =
    let same : (serves now number asked).answer ≡ given = cc in sym same ∙ served_answer now number asked request is (ap was_done same ∙ answered)

pub effects_answer : EffectsAnswer
effects_answer limits scene journal entry request given run reported is heard answered =
    let before : State = scene_state limits scene journal in
    let was : reported_at entry.side (answer_at entry.side (inner before entry)) (missed_at entry.side (inner before entry)) ≡ Some given =
    sym (ap (λ (g : Answer). reported_at entry.side g entry.missed) reported.answer ∙ ap (λ (m : Option Answer). reported_at entry.side (answer_at entry.side (inner before entry)) m) reported.missed) ∙ heard in
    turn_answer (opens entry before) entry.session entry.asked entry.side request given is was answered

-- WHAT WAS NOT DONE

-- all stays but what the session holds
pub record Left (now : State) (number : ℕ) (own : SessionHold) (after : State) : Type 0 where
  pub stays : stored after ≡ stored now
  pub besides : Besides number (holds_of now) (holds_of after) own

left_recounted : (now : State) (number : ℕ) (own : SessionHold) (after : State) (counters : List Counter) → Left now number own after → Left now number own (recounted counters after)
left_recounted now number own after counters left = record { stays = left.stays; besides = left.besides }

counts_left : (now : State) (number : ℕ) (lost : Bool) (count : ℕ) (waiting : List Waiting) → There now number
    → Left now number (unless_lost lost (holds_of now number)) (final lost number (record now { waiting = waiting; sessions = with_session number (counting count) now.sessions }))
counts_left now number lost count waiting there =
    record {
      stays = stored_final lost number _;
      besides =
          subst (λ (h : SessionHold). Besides number (holds_of now) (holds_of (final lost number (record now { waiting = waiting; sessions = with_session number (counting count) now.sessions }))) (unless_lost lost h)) (hold_found now number there)
          (changed_so now number there (counting count) (face_in (Some there.found)) lost (λ s. refl) refl now.tables now.log waiting);
    }

-- done is no wait and no time-out
was_not : (answer : Answer) → IsDone answer → was_done answer ≡ false → ⊥
was_not (answers.Waits by) is none = is
was_not (answers.TimedOut waited) is none = is
was_not answers.Lost is none = is
was_not other is none = absurd (let no : true ≡ false = none in cc)

undone_served : (now : State) (number : ℕ) (asked : Asked) (request : Request) (lost : Bool) → There now number → is_cut asked ≡ false → about now number asked ≡ Some request → was_done (serves now number asked).answer ≡ false
    → Left now number (unless_lost lost (undone_hold None (serves now number asked).answer (holds_of now number))) (final lost number (serves now number asked).after)
unfolding calls polls
undone_served now number (Call asks) request lost there cut is none = at (blocker now number (need now number asks)) none
  where
    at : (by : Option ℕ) → was_done (called_unless by now number asks).answer ≡ false → Left now number (unless_lost lost (undone_hold None (called_unless by now number asks).answer (holds_of now number))) (final lost number (called_unless by now number asks).after)
    at None none = absurd (was_not (done now number asks).answer (done_answers now number asks) none)
    at (Some by) none = counts_left now number lost 0 (now.waiting ++ record { session = number; request = asks } ∷ []) there
undone_served now number Poll request lost there cut is none = at (waiting_of number now.waiting) is none
  where
    over : (b : Bool) (by : ℕ) → Left now number (unless_lost lost (undone_hold None (polled_over b by now number).answer (holds_of now number))) (final lost number (polled_over b by now number).after)
    over true by =
        record {
          stays = stored_final lost number (forgets number (without_waiting number now));
          besides = subst (Besides number (holds_of now) (holds_of (final lost number (forgets number (without_waiting number now))))) (sym (resting_hold lost)) (rests_so now number there lost now.tables now.log (without_waiting number now).waiting);
        }
    over false by = counts_left now number lost (polls_of (session_of number now.sessions) + 1) now.waiting there

    each : (asks : Request) (by : Option ℕ) → was_done (polled_unless by now number asks).answer ≡ false → Left now number (unless_lost lost (undone_hold None (polled_unless by now number asks).answer (holds_of now number))) (final lost number (polled_unless by now number asks).after)
    each asks None none = absurd (was_not (done (without_waiting number now) number asks).answer (done_answers (without_waiting number now) number asks) none)
    each asks (Some by) none = over (is_over now number) by

    at : (waiting : Option Waiting) → request_of waiting ≡ Some request → was_done (polled_of waiting now number).answer ≡ false
        → Left now number (unless_lost lost (undone_hold None (polled_of waiting now number).answer (holds_of now number))) (final lost number (polled_of waiting now number).after)
    at None asks none = absurd cc
    at (Some waiting) asks none = each waiting.request (blocker now number (need now number waiting.request)) none
undone_served now number (Command word) request lost there cut is none = absurd cc
undone_served now number Cut request lost there cut is none = absurd cc

lost_left : (now : State) (number : ℕ) → Left now number no_hold (final true number now)
lost_left now number = record { stays = stored_final true number now; besides = same_so now number true now.tables now.log now.waiting }

undone_turn : (now : State) (number : ℕ) (asked : Asked) (side : Option Side) (request : Request) → There now number → is_cut asked ≡ false → about now number asked ≡ Some request
    → reported_done (reported_at side (answer_at side (serves now number asked).answer) (missed_at side (serves now number asked).answer)) ≡ false → Left now number (undone_hold side (answer_at side (serves now number asked).answer) (holds_of now number)) (leaves side now number asked)
undone_turn now number asked None request there cut is none = undone_served now number asked request false there cut is none
undone_turn now number asked (Some Before) request there cut is none = lost_left now number
undone_turn now number asked (Some After) request there cut is none = undone_served now number asked request true there cut is none

-- from the server once the session is live to the one before
opened_left : (nothing tool : Bool) (number : ℕ) (before : State) (own : SessionHold) (after : State) → Left (opens_if nothing tool number before) number own after → Left before number own after
opened_left nothing tool number before own after left =
    let holds : holds_of (opens_if nothing tool number before) ≡ holds_of before = λ i n. (faces_opened nothing tool number n before i).hold in
    record { stays = left.stays ∙ stored_opened nothing tool number before; besides = subst (λ (h : ℕ → SessionHold). Besides number h (holds_of after) own) holds left.besides }

following : (limits : Limits) (scene : Scene) (journal : List Entry) (entry : Entry) (own : SessionHold) → Left (scene_state limits scene journal) entry.session own (after_entry (scene_state limits scene journal) entry)
    → (stored (scene_state limits scene (journal ++ entry ∷ [])) ≡ stored (scene_state limits scene journal)) × Besides entry.session (holds_of (scene_state limits scene journal)) (holds_of (scene_state limits scene (journal ++ entry ∷ []))) own
following limits scene journal entry own left = rw (state_more (opened limits scene.opening) journal entry) (left.stays, left.besides)

pub undone_is_left : UndoneIsLeft
undone_is_left limits scene journal entry request run reported cut is none =
    let before : State = scene_state limits scene journal in
    let number : ℕ = entry.session in
    let nothing : Bool = is_command entry.asked in
    let tool : Bool = not (is_client entry.actor) in
    let now : State = opens entry before in
    let live : nothing ≡ false = no_command now number entry.asked request is in
    let was : reported_at entry.side entry.answer entry.missed ≡ reported_at entry.side (answer_at entry.side (inner before entry)) (missed_at entry.side (inner before entry)) =
    ap (λ (g : Answer). reported_at entry.side g entry.missed) reported.answer ∙ ap (λ (m : Option Answer). reported_at entry.side (answer_at entry.side (inner before entry)) m) reported.missed in
    let left : Left now number (undone_hold entry.side (answer_at entry.side (inner before entry)) (holds_of now number)) (after_entry before entry) =
    found_live (session_of number now.sessions) (Left now number (undone_hold entry.side (answer_at entry.side (inner before entry)) (holds_of now number)) (after_entry before entry)) (opened_live nothing tool number before live)
    (λ found there. left_recounted now number _ (leaves entry.side now number entry.asked) _ (undone_turn now number entry.asked entry.side request (record { found = found; is = there }) cut is (sym (ap reported_done was) ∙ none))) in
    let own : holds_of now number ≡ holds_of before number = λ i. (faces_opened nothing tool number number before i).hold in
    following limits scene journal entry (undone_hold entry.side entry.answer (holds_of before number))
    (subst (λ (a : Answer). Left before number (undone_hold entry.side a (holds_of before number)) (after_entry before entry)) (sym reported.answer)
    (subst (λ (h : SessionHold). Left before number (undone_hold entry.side (answer_at entry.side (inner before entry)) h) (after_entry before entry)) own
    (opened_left nothing tool number before (undone_hold entry.side (answer_at entry.side (inner before entry)) (holds_of now number)) (after_entry before entry) left)))

cut_turn : (now : State) (number : ℕ) (asked : Asked) (side : Option Side) → is_cut asked ≡ true → side ≡ None → Left now number no_hold (leaves side now number asked)
cut_turn now number Cut None is none = lost_left now number
cut_turn now number Cut (Some side) is none = absurd cc
cut_turn now number (Call request) side is none = absurd cc
cut_turn now number Poll side is none = absurd cc
cut_turn now number (Command word) side is none = absurd cc

pub cuts_are_left : CutsAreLeft
cuts_are_left limits scene journal entry is none =
    let before : State = scene_state limits scene journal in
    following limits scene journal entry no_hold
    (opened_left (is_command entry.asked) (not (is_client entry.actor)) entry.session before no_hold (after_entry before entry) (left_recounted (opens entry before) entry.session no_hold (leaves entry.side (opens entry before) entry.session entry.asked) _ (cut_turn (opens entry before) entry.session entry.asked entry.side is none)))
