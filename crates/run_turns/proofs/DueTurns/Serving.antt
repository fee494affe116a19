-- What the server answers, and leaves, behind turns, though it may have made sessions in vain.
use Rattle.std.proofs.Common.{◌≡◌, ℕ, ◌≤◌, Bool, true, false, not, ◌||◌, max, List, Option, Some, None, cond, refl, sym, ap, ◌∙◌, subst, arith}
use Rattle.std.specs.Prelude.{if◌then◌else◌, is_some}
use Rattle.server_model.specs.declared.entry.Asked.{Asked}
use Rattle.server_model.specs.declared.entry.Asked.TheVariants.{Call, Poll, Command, Cut}
use Rattle.server_model.specs.declared.entry.Entry.{Entry}
use Rattle.server_model.specs.Entries.{is_client, is_command}
use Rattle.server_model.specs.States.{State, Counter, session_of, connected}
use Rattle.server_model.specs.PlainServer.{Served, serves, leaves, asks_for, counters_left, recounted, state_left, drawn_in}
use Rattle.server_model.specs.Counting.{counted}
use Rattle.server_model.specs.declared.answer.Answer.{Answer}
use Rattle.server_model.specs.declared.request.Request.{Request}
use Rattle.server_model.specs.declared.request.Request.TheVariants as requests
use Rattle.base_script.specs.declared.actor.Side.{Side}
use Rattle.base_script.specs.declared.actor.Side.TheVariants.{Before, After}
use Rattle.tool_program.specs.JournalWords.Journals.{opens_if, opens, after_entry}
use Rattle.proof_journals.specs.Run.Counts.{numbered, IsAfter}
use Rattle.proof_journals.proofs.Run.Numbering.{serves_numbered, leaves_numbered}
use Rattle.proof_journals.proofs.Run.Turns.{turn_leaves, opened}

-- COUNTERS DON'T DEPEND ON HOW MANY SESSIONS WERE MADE

counted_numbered : (made : ℕ) (state : State) (number : ℕ) (asks : Option Request) (answer : Answer) → counted (numbered made state) number asks answer ≡ counted state number asks answer
unfolding counted
counted_numbered made state number None answer = refl
counted_numbered made state number (Some requests.Begin) answer = refl
counted_numbered made state number (Some requests.Commit) answer = refl
counted_numbered made state number (Some requests.Rollback) answer = refl
counted_numbered made state number (Some (requests.Do statement)) answer = refl
counted_numbered made state number (Some (requests.Ends table)) answer = refl
counted_numbered made state number (Some (requests.ChunkEnd table low top size)) answer = refl
counted_numbered made state number (Some (requests.BeginSpan table span size)) answer = refl
counted_numbered made state number (Some (requests.CopyRow from into map key)) answer = refl
counted_numbered made state number (Some (requests.LockTables names)) answer = refl
counted_numbered made state number (Some requests.Unlock) answer = refl
counted_numbered made state number (Some (requests.Create schema)) answer = refl
counted_numbered made state number (Some (requests.Drop name)) answer = refl
counted_numbered made state number (Some (requests.Rename pairs)) answer = refl
counted_numbered made state number (Some requests.LogEnd) answer = refl
counted_numbered made state number (Some (requests.ReadLog position limit tables)) answer = refl
counted_numbered made state number (Some requests.ShowTables) answer = refl
counted_numbered made state number (Some requests.ShowWaiting) answer = refl
counted_numbered made state number (Some (requests.ShowCounter table)) answer = refl
counted_numbered made state number (Some (requests.SetCounter table least)) answer = refl

counters_numbered : (side : Option Side) (made : ℕ) (state : State) (number : ℕ) (asked : Asked) → counters_left side (numbered made state) number asked ≡ counters_left side state number asked
counters_numbered (Some Before) made state number asked = refl
counters_numbered None made state number asked =
    counted_numbered made state number (asks_for state number asked) (serves (numbered made state) number asked).answer
    ∙ ap (λ (served : Served). counted state number (asks_for state number asked) served.answer) (serves_numbered made state number asked)
counters_numbered (Some After) made state number asked =
    counted_numbered made state number (asks_for state number asked) (serves (numbered made state) number asked).answer
    ∙ ap (λ (served : Served). counted state number (asks_for state number asked) served.answer) (serves_numbered made state number asked)

left_numbered : (side : Option Side) (made : ℕ) (state : State) (number : ℕ) (asked : Asked) → state_left side (numbered made state) number asked ≡ numbered made (state_left side state number asked)
left_numbered side made state number asked =
    ap (λ (s : State). recounted (counters_left side (numbered made state) number asked) s) (leaves_numbered side made state number asked)
    ∙ ap (λ (c : List Counter). recounted c (numbered made (leaves side state number asked))) (counters_numbered side made state number asked)

-- the greatest number behind the opening of a session
abbrev pub made_after : Bool → ℕ → ℕ → ℕ
made_after there made number = if there then made else max made number

pub opened_numbered : (nothing tool : Bool) (number made : ℕ) (state : State)
    → opens_if nothing tool number (numbered made state) ≡ numbered (made_after (nothing || is_some (session_of number state.sessions)) made number) (opens_if nothing tool number state)
unfolding opens_if
opened_numbered nothing tool number made state = by (nothing || is_some (session_of number state.sessions))
  where
    by : (there : Bool) → cond there (numbered made state) (connected number tool (numbered made state)) ≡ numbered (made_after there made number) (cond there state (connected number tool state))
    by true = refl
    by false = refl

-- *The answer is the same*
pub answers_same : (reported server : State) (nothing tool : Bool) (number : ℕ) (asked : Asked) → IsAfter reported server
    → (serves (opens_if nothing tool number server) number asked).answer ≡ (serves (opens_if nothing tool number reported) number asked).answer
answers_same reported server nothing tool number asked following =
    ap (λ (s : State). (serves (opens_if nothing tool number s) number asked).answer) following.same
    ∙ ap (λ (s : State). (serves s number asked).answer) (opened_numbered nothing tool number server.made reported)
    ∙ ap (λ (served : Served). served.answer) (serves_numbered (made_after (nothing || is_some (session_of number reported.sessions)) server.made number) (opens_if nothing tool number reported) number asked)

drawn_numbered : (made : ℕ) (state : State) (number : ℕ) (asked : Asked) (inner : Option Answer) → drawn_in (numbered made state) number asked inner ≡ drawn_in state number asked inner
drawn_numbered made state number asked None = refl
drawn_numbered made state number (Call request) (Some answer) = refl
drawn_numbered made state number Poll (Some answer) = refl
drawn_numbered made state number (Command word) (Some answer) = refl
drawn_numbered made state number Cut (Some answer) = refl

-- *The number that is drawn is the same*
pub draws_same : (reported server : State) (nothing tool : Bool) (number : ℕ) (asked : Asked) (inner : Option Answer) → IsAfter reported server
    → drawn_in (opens_if nothing tool number server) number asked inner ≡ drawn_in (opens_if nothing tool number reported) number asked inner
draws_same reported server nothing tool number asked inner following =
    ap (λ (s : State). drawn_in (opens_if nothing tool number s) number asked inner) following.same
    ∙ ap (λ (s : State). drawn_in s number asked inner) (opened_numbered nothing tool number server.made reported)
    ∙ drawn_numbered (made_after (nothing || is_some (session_of number reported.sessions)) server.made number) (opens_if nothing tool number reported) number asked inner

-- *It stays behind*
pub after_more : (reported server : State) (entry : Entry) → IsAfter reported server → IsAfter (after_entry reported entry) (after_entry server entry)
after_more reported server entry following = record { made = subst (λ (n : ℕ). (after_entry reported entry).made ≤ n) (sym made_is) below; same = same ∙ ap (λ (n : ℕ). numbered n (after_entry reported entry)) (sym made_is) }
  where
    there : Bool
    there = is_command entry.asked || is_some (session_of entry.session reported.sessions)

    more : ℕ
    more = made_after there server.made entry.session

    same : after_entry server entry ≡ numbered more (after_entry reported entry)
    same =
        ap (λ (s : State). after_entry s entry) following.same
        ∙ ap (λ (s : State). state_left entry.side s entry.session entry.asked) (opened_numbered (is_command entry.asked) (not (is_client entry.actor)) entry.session server.made reported)
        ∙ left_numbered entry.side more (opens entry reported) entry.session entry.asked

    made_is : (after_entry server entry).made ≡ more
    made_is = ap (λ (s : State). s.made) same

    reported_is : (after_entry reported entry).made ≡ made_after there reported.made entry.session
    reported_is = (turn_leaves entry.side (opens entry reported) entry.session entry.asked).made ∙ (opened (is_command entry.asked) (not (is_client entry.actor)) entry.session reported).made

    grows : (b : Bool) → made_after b reported.made entry.session ≤ made_after b server.made entry.session
    grows true = following.made
    grows false = omega (arith, following.made)

    below : (after_entry reported entry).made ≤ more
    below = subst (λ (n : ℕ). n ≤ more) (sym reported_is) (grows there)
