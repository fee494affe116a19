-- A request that was done needed locks that are apart from those of other sessions; and entries about no request.
use Rattle.server_model.specs.Drawing.{filled}
use Rattle.std.proofs.Common.{◌≡◌, ℕ, Bool, true, false, not, List, [], ◌∷◌, ◌++◌, Option, Some, None, refl, sym, ap, ◌∙◌, subst}
use Rattle.std.specs.Prelude.{◌==◌}
use Rattle.base_values.specs.declared.event.RowEvent.{RowEvent}
use Rattle.table_store.specs.Databases.{Database}
use Rattle.base_script.specs.declared.actor.Side.{Side}
use Rattle.base_script.specs.declared.actor.Side.TheVariants.{Before, After}
use Rattle.server_model.specs.declared.answer.Answer.{Answer}
use Rattle.server_model.specs.declared.entry.Asked.{Asked}
use Rattle.server_model.specs.declared.entry.Asked.TheVariants.{Call, Poll, Cut, Command}
use Rattle.server_model.specs.declared.entry.Entry.{Entry}
use Rattle.server_model.specs.declared.request.Request.{Request}
use Rattle.server_model.specs.declared.session.Limits.{Limits}
use Rattle.server_model.specs.declared.session.Waiting.{Waiting}
use Rattle.server_model.specs.Entries.{is_client, is_command, is_cut}
use Rattle.server_model.specs.Operations.{after_events}
use Rattle.server_model.specs.Blockers.{blocker, need, need_within}
use Rattle.server_model.specs.PlainServer.{called_unless, calls, is_over, leaves, polled_of, polled_over, polled_unless, polls, serves}
use Rattle.server_model.specs.States.{State, opened, session_of, view, waiting_of}
use Rattle.tool_program.specs.JournalWords.Journals.{after_entry, opens}
use Rattle.proof_journals.specs.Scenes.{Besides, Scene, SessionHold, Stored}
use Rattle.proof_journals.specs.Holdings.{Face, face_of, stored}
use Rattle.proof_journals.specs.Turns.{IsSceneRun, IsReported, about, answer_at, inner, missed_at, request_of, scene_state, reported_at}
use Rattle.proof_journals.proofs.Faces.{faces_opened, writes_face}
use Rattle.proof_journals.proofs.Journals.{journal_holds, state_more, stored_opened}
use Rattle.proof_journals.proofs.Names.{OneIn, opened_one}
use Rattle.proof_journals.proofs.Serves.{granted}
use Rattle.proof_journals.proofs.Tooling.{AreApart}
use Rattle.server_model.specs.LockedRows.Coverage.{Apart}
use Rattle.proof_journals.specs.Ghost.EffectStates.{is_lost, unless_lost, was_done}
use Rattle.proof_journals.proofs.Ghost.Leaving.{holds_of, same_so, stored_final}
use Rattle.proof_migration.proofs.Migration.Copier.Served.{seen_of}

-- WHAT A REQUEST NEEDED

served_apart : (now : State) (number : ℕ) (asked : Asked) (request : Request) → OneIn now.sessions → about now number asked ≡ Some request → was_done (serves now number asked).answer ≡ true → AreApart now number (need now number request).locks
unfolding calls polls
served_apart now number (Call asks) request one is answered =
    subst (λ (r : Request). AreApart now number (need now number r).locks) (let same : asks ≡ request = cc in same) (at (blocker now number (need now number asks)) refl answered)
  where
    at : (by : Option ℕ) → blocker now number (need now number asks) ≡ by → was_done (called_unless by now number asks).answer ≡ true → AreApart now number (need now number asks).locks
    at None free answer = (granted now number (need now number asks) one free).apart
    at (Some by) free answer = absurd (let no : false ≡ true = answer in cc)
served_apart now number Poll request one is answered = at (waiting_of number now.waiting) is answered
  where
    over : (P : Type 0) (b : Bool) (by : ℕ) → was_done (polled_over b by now number).answer ≡ true → P
    over P true by answer = absurd (let no : false ≡ true = answer in cc)
    over P false by answer = absurd (let no : false ≡ true = answer in cc)

    each : (asks : Request) (by : Option ℕ) → blocker now number (need now number asks) ≡ by → was_done (polled_unless by now number asks).answer ≡ true → AreApart now number (need now number asks).locks
    each asks None free answer = (granted now number (need now number asks) one free).apart
    each asks (Some by) free answer = over (AreApart now number (need now number asks).locks) (is_over now number) by answer

    at : (waiting : Option Waiting) → request_of waiting ≡ Some request → was_done (polled_of waiting now number).answer ≡ true → AreApart now number (need now number request).locks
    at None asks answer = absurd cc
    at (Some waiting) asks answer =
        subst (λ (r : Request). AreApart now number (need now number r).locks) (let same : waiting.request ≡ request = cc in same) (each waiting.request (blocker now number (need now number waiting.request)) refl answer)
served_apart now number (Command word) request one is answered = absurd cc
served_apart now number Cut request one is answered = absurd (let no : false ≡ true = answered in cc)

turn_apart : (now : State) (number : ℕ) (asked : Asked) (side : Option Side) (request : Request) (given : Answer) → OneIn now.sessions → about now number asked ≡ Some request → reported_at side (answer_at side (serves now number asked).answer) (missed_at side (serves now number asked).answer) ≡ Some given
    → was_done given ≡ true → AreApart now number (need now number request).locks
turn_apart now number asked None request given one is reported answered = served_apart now number asked request one is (let same : (serves now number asked).answer ≡ given = cc in ap was_done same ∙ answered)
turn_apart now number asked (Some Before) request given one is reported answered = absurd cc
turn_apart now number asked (Some After) request given one is reported answered = served_apart now number asked request one is (let same : (serves now number asked).answer ≡ given = cc in ap was_done same ∙ answered)

-- the tables as the session sees them, once it is live
view_opened : (entry : Entry) (state : State) → view entry.session (opens entry state) ≡ seen_of state entry.session
view_opened entry state =
    ap (λ (w : List RowEvent). after_events (opens entry state).tables w) (writes_face (session_of entry.session (opens entry state).sessions) ∙ ap (λ (f : Face). f.hold.writes) (faces_opened (is_command entry.asked) (not (is_client entry.actor)) entry.session entry.session state))
    ∙ ap (λ (s : Stored). after_events s.tables (holds_of state entry.session).writes) (stored_opened (is_command entry.asked) (not (is_client entry.actor)) entry.session state)

-- *Where a request was done*, no other session's lock conflicts with one that it needed.
pub needs_apart : (limits : Limits) (scene : Scene) (journal : List Entry) (entry : Entry) (request : Request) (given : Answer) → IsSceneRun limits scene journal → IsReported limits scene journal entry → about (opens entry (scene_state limits scene journal)) entry.session entry.asked ≡ Some request
    → reported_at entry.side entry.answer entry.missed ≡ Some given → was_done given ≡ true → (n : ℕ) → (n == entry.session) ≡ false → Apart (need_within (seen_of (scene_state limits scene journal) entry.session) (filled (opens entry (scene_state limits scene journal)) entry.session request)).locks (holds_of (scene_state limits scene journal) n).locks
needs_apart limits scene journal entry request given run reported is heard answered n differ =
    let before : State = scene_state limits scene journal in
    let now : State = opens entry before in
    let held = journal_holds limits scene journal run in
    let was : reported_at entry.side (answer_at entry.side (inner before entry)) (missed_at entry.side (inner before entry)) ≡ Some given =
    sym (ap (λ (g : Answer). reported_at entry.side g entry.missed) reported.answer ∙ ap (λ (m : Option Answer). reported_at entry.side (answer_at entry.side (inner before entry)) m) reported.missed) ∙ heard in
    let apart : AreApart now entry.session (need now entry.session request).locks = turn_apart now entry.session entry.asked entry.side request given (opened_one (is_command entry.asked) (not (is_client entry.actor)) entry.session before held.one) is was answered in
    subst (λ (f : Face). Apart (need_within (seen_of before entry.session) (filled now entry.session request)).locks f.hold.locks) (faces_opened (is_command entry.asked) (not (is_client entry.actor)) entry.session n before)
    (subst (λ (d : Database). Apart (need_within d (filled now entry.session request)).locks (face_of now.sessions n).hold.locks) (view_opened entry before) (apart n differ))

-- ENTRIES ABOUT NOTHING

-- all stays but what the session holds, where it is lost
pub record StaysBut (before after : State) (number : ℕ) (lost : Bool) : Type 0 where
  pub stays : stored after ≡ stored before
  pub besides : Besides number (holds_of before) (holds_of after) (unless_lost lost (holds_of before number))

nothing_now : (now : State) (number : ℕ) (asked : Asked) → about now number asked ≡ None → is_cut asked ≡ false → (serves now number asked).after ≡ now
unfolding polls
nothing_now now number (Call request) none cut = absurd cc
nothing_now now number Poll none cut = at (waiting_of number now.waiting) none
  where
    at : (waiting : Option Waiting) → request_of waiting ≡ None → (polled_of waiting now number).after ≡ now
    at None is = refl
    at (Some waiting) is = absurd cc
nothing_now now number (Command word) none cut = refl
nothing_now now number Cut none cut = absurd cc

nothing_turn : (now : State) (number : ℕ) (asked : Asked) (side : Option Side) → about now number asked ≡ None → is_cut asked ≡ false → StaysBut now (leaves side now number asked) number (is_lost side)
nothing_turn now number asked None none cut = rw (nothing_now now number asked none cut) (record { stays = refl; besides = record { there = λ n differ. refl; here = refl } })
nothing_turn now number asked (Some Before) none cut = record { stays = stored_final true number now; besides = same_so now number true now.tables now.log now.waiting }
nothing_turn now number asked (Some After) none cut = rw (nothing_now now number asked none cut) (record { stays = stored_final true number now; besides = same_so now number true now.tables now.log now.waiting })

-- *An entry about no request* changes nothing but that its session may be lost.
pub nothing_asked : (limits : Limits) (scene : Scene) (journal : List Entry) (entry : Entry) → about (opens entry (scene_state limits scene journal)) entry.session entry.asked ≡ None → is_cut entry.asked ≡ false → StaysBut (scene_state limits scene journal) (scene_state limits scene (journal ++ entry ∷ [])) entry.session (is_lost entry.side)
nothing_asked limits scene journal entry none cut =
    let before : State = scene_state limits scene journal in
    let number : ℕ = entry.session in
    let now : State = opens entry before in
    let left : StaysBut now (after_entry before entry) number (is_lost entry.side) = (let one = nothing_turn now number entry.asked entry.side none cut in record { stays = one.stays; besides = one.besides }) in
    let holds : holds_of now ≡ holds_of before = λ i n. (faces_opened (is_command entry.asked) (not (is_client entry.actor)) number n before i).hold in
    rw (state_more (opened limits scene.opening) journal entry)
    (record {
      stays = left.stays ∙ stored_opened (is_command entry.asked) (not (is_client entry.actor)) number before;
      besides = subst (λ (h : ℕ → SessionHold). Besides number h (holds_of (after_entry before entry)) (unless_lost (is_lost entry.side) (h number))) holds left.besides;
    })
