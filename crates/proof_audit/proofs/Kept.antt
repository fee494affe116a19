-- Of a whole journal each client's turn is one of a client that lives, and what it hears is a client's.
use Rattle.std.proofs.Common.{◌≡◌, ◌≢◌, ℕ, Bool, true, false, cond, List, [], ◌∷◌, ◌++◌, Option, Some, None, refl, sym, ap, ◌∙◌, subst}
use Rattle.base_script.specs.declared.actor.Actor.{Actor}
use Rattle.base_script.specs.declared.actor.Actor.TheVariants.{Op, Insp, Copy, Apply, Lock, Ren, Client}
use Rattle.base_script.specs.declared.actor.Side.{Side}
use Rattle.base_script.specs.declared.actor.Side.TheVariants.{Before}
use Rattle.base_script.specs.declared.script.ScriptLine.{ScriptLine}
use Rattle.base_script.specs.declared.script.ScriptWord.{ScriptWord}
use Rattle.base_script.specs.declared.script.ScriptWord.TheVariants as words
use Rattle.server_model.specs.declared.request.Request.{Request}
use Rattle.server_model.specs.declared.answer.Answer.{Answer}
use Rattle.server_model.specs.declared.answer.Answer.TheVariants as answers
use Rattle.server_model.specs.declared.entry.Asked.{Asked}
use Rattle.server_model.specs.declared.entry.Asked.TheVariants.{Call, Poll, Command, Cut}
use Rattle.server_model.specs.declared.entry.Entry.{Entry}
use Rattle.server_model.specs.Along.{Along}
use Rattle.server_model.specs.Counting.{drawn_if, is_answered}
use Rattle.server_model.specs.Entries.{is_client, same_actor}
use Rattle.server_model.specs.PlainServer.{drawn_in, given_at, serves}
use Rattle.server_model.specs.States.{State}
use Rattle.plan_data.specs.PlanData.{PlanData}
use Rattle.tool_program.specs.JournalWords.Clients.{Reached, became, client_after, client_asks, client_at, with_draw, word_asks}
use Rattle.tool_program.specs.JournalWords.Journals.{IsAnswered, heard, inner_answer, may_lose, opens, state_at}
use Rattle.tool_program.specs.JournalWords.KeptPlans.{TakesNext}
use Rattle.tool_program.specs.JournalWords.Sessions.{live_session}
use Rattle.tool_program.specs.Programs.{IsGiven, given}
use Rattle.proof_journals.specs.Machine.Scripts.{ScriptsFit}
use Rattle.proof_journals.specs.Machine.Standings.{IsAbout, is_called, is_polled, serves_to, standing_of}
use Rattle.proof_journals.proofs.Ghost.Turns.{along_next}
use Rattle.proof_journals.proofs.Machine.ClientJournals.{ClientsTogether, clients_begin, clients_more}
use Rattle.proof_journals.proofs.Machine.Clients.{ClientStands, Next, calls_line, polls_line, client_next}
use Rattle.proof_journals.proofs.Linking.{client_more}
use Rattle.proof_journals.proofs.Machine.Seated.{IsServed, known_more, others_stand, own_heard}
use Rattle.proof_audit.proofs.Clients.{AreClientTurns, IsClientTurn, IsClients, IsTimeout, NoBegin, lines_tell_clients}
use Rattle.proof_audit.proofs.Lost.{IsLosing, LostHaveNone, lost_before, lost_have_none, lost_step}
use Rattle.proof_audit.proofs.Sessions.{IsLostRightly, lines_tell_sessions}
use Rattle.proof_audit.proofs.Wholes.{IsTurn, kept_turns, whole_before, whole_turns}
use Rattle.proof_audit.specs.Laws.{LinesTellClients, LinesTellSessions, WholeLinesTellClients, WholeLinesTellSessions}
use Rattle.proof_audit.specs.Wholes.{IsWhole}

-- where a session is lost the answer is lost
cut_lost : (state : State) (entry : Entry) → IsAnswered state entry → entry.asked ≡ Cut → entry.answer ≡ answers.Lost
unfolding inner_answer
cut_lost state entry is cut =
    is.answer
    ∙ ap (λ (asked : Asked). heard entry.side (given_at entry.side asked (serves (opens entry state) entry.session entry.asked).answer)) cut
    ∙ ap (λ (side : Option Side). heard side None) (is.sides (ap may_lose cut))

pub lost_rightly : (state : State) (entry : Entry) → IsAnswered state entry → IsLostRightly entry
lost_rightly state entry is = record {
  sided = λ side at. is.answer ∙ ap (λ (s : Option Side). heard s (inner_answer state entry)) at;
  cut = cut_lost state entry is;
}

-- a loss between calls draws nothing
cut_undrawn : (state : State) (entry : Entry) → IsAnswered state entry → entry.asked ≡ Cut → entry.draw ≡ None
cut_undrawn state entry is cut = is.draw ∙ ap (λ (asked : Asked). drawn_in (opens entry state) entry.session asked (inner_answer state entry)) cut ∙ by (inner_answer state entry) where
  none : (b : Bool) → drawn_if b None ≡ None
  none true = refl
  none false = refl

  by : (inner : Option Answer) → drawn_in (opens entry state) entry.session Cut inner ≡ None
  by None = refl
  by (Some answer) = none (is_answered answer)

-- what the server answers to a line is a client's
served_client : (word : ScriptWord) (answer : Answer) → serves_to (word_asks word) answer ≡ true → IsClients answer
served_client word (answers.Ok count) fits = tt
served_client word (answers.Rows rows) fits = tt
served_client word (answers.Refused number column) fits = tt
served_client word (answers.Waits by) fits = tt
served_client word (answers.TimedOut waited) fits = tt
served_client words.Begin answer fits = absurd cc
served_client words.Commit answer fits = absurd cc
served_client words.Rollback answer fits = absurd cc
served_client (words.Do statement) answer fits = absurd cc

-- a BEGIN doesn't time out
served_begin : (word : ScriptWord) (answer : Answer) → serves_to (word_asks word) answer ≡ true → IsTimeout answer → word ≢ words.Begin
served_begin words.Begin (answers.TimedOut waited) fits is same = absurd cc
served_begin words.Begin answer fits is same = is
served_begin words.Commit answer fits is same = cc
served_begin words.Rollback answer fits is same = cc
served_begin (words.Do statement) answer fits is same = cc

-- it hears what the server may answer to its line
heard_line : (plan : PlanData) (before : List Entry) (entry : Entry) (c : ℕ) → ClientsTogether plan before → IsTurn plan before entry → entry.actor ≡ Client c → client_asks plan before c ≡ Some entry.asked → entry.side ≡ None
    → (line : ScriptLine) × (lines : List ScriptLine) × ((client_at plan before c).left ≡ line ∷ lines) × (serves_to (word_asks line.word) entry.answer ≡ true)
heard_line plan before entry c is run same asks none = by (client_next plan before c entry.asked asks) where
  served : IsServed plan before entry
  served = record { answered = run.answered; seated = run.seated }

  fits : (request : Request) → IsAbout request (standing_of plan before (Client c)) entry.asked → serves_to request entry.answer ≡ true
  fits request about = own_heard plan before entry is.known served request (subst (λ (a : Actor). IsAbout request (standing_of plan before a) entry.asked) (sym same) about) none

  stands : ClientStands (client_at plan before c) (standing_of plan before (Client c))
  stands = is.each c

  by : Next (client_at plan before c) entry.asked → (line : ScriptLine) × (lines : List ScriptLine) × ((client_at plan before c).left ≡ line ∷ lines) × (serves_to (word_asks line.word) entry.answer ≡ true)
  by (calls_line line lines going off left called) = (line, lines, left, fits (word_asks line.word) (is_called called (stands.free off)))
  by (polls_line going on polled) = let held = stands.held on in (held.0, held.1, held.2, fits (word_asks held.0.word) (is_polled polled held.3))

heard_clients : (plan : PlanData) (before : List Entry) (entry : Entry) (c : ℕ) → ClientsTogether plan before → IsTurn plan before entry → entry.actor ≡ Client c → client_asks plan before c ≡ Some entry.asked → entry.side ≡ None → IsClients entry.answer
heard_clients plan before entry c is run same asks none = let line = heard_line plan before entry c is run same asks none in served_client line.0.word entry.answer line.3

first_line : (one other : ScriptLine) (lines more : List ScriptLine) → one ∷ lines ≡ other ∷ more → one ≡ other
first_line one other lines more is = cc

heard_no_begin : (plan : PlanData) (before : List Entry) (entry : Entry) (c : ℕ) → ClientsTogether plan before → IsTurn plan before entry → entry.actor ≡ Client c → client_asks plan before c ≡ Some entry.asked → entry.side ≡ None → NoBegin (client_at plan before c).left entry.answer
heard_no_begin plan before entry c is run same asks none one more left over =
    let line = heard_line plan before entry c is run same asks none in
    subst (λ (l : ScriptLine). l.word ≢ words.Begin) (first_line line.0 one line.1 more (sym line.2 ∙ left)) (served_begin line.0.word entry.answer line.3 over)

pub takes_asks : (plan : PlanData) (before : List Entry) (c : ℕ) (asked : Asked) → asked ≢ Cut → TakesNext plan before (Client c) asked → client_asks plan before c ≡ Some asked
takes_asks plan before c Cut other takes = absurd (other refl)
takes_asks plan before c (Call request) other takes = takes
takes_asks plan before c Poll other takes = takes
takes_asks plan before c (Command word) other takes = takes

losing : (plan : PlanData) (before : List Entry) (entry : Entry) → IsTurn plan before entry → IsLosing plan before entry
losing plan before entry turn = record { rightly = lost_rightly (state_at plan before) entry turn.answered; takes = turn.takes; seated = turn.seated }

pub client_lives : (plan : PlanData) (before : List Entry) (entry : Entry) (c : ℕ) → LostHaveNone plan before → IsTurn plan before entry → entry.actor ≡ Client c → (client_at plan before c).is_lost ≡ false
client_lives plan before entry c none turn same = by (client_at plan before c).is_lost refl where
  by : (b : Bool) → (client_at plan before c).is_lost ≡ b → b ≡ false
  by false lives = refl
  by true lost = absurd (lost_before plan before entry c (losing plan before entry turn) none same lost)

client_turn : (plan : PlanData) (before : List Entry) (entry : Entry) (c : ℕ) → ClientsTogether plan before → LostHaveNone plan before → IsTurn plan before entry → entry.actor ≡ Client c → IsClientTurn plan before entry c
client_turn plan before entry c is none turn same = record {
  lives = client_lives plan before entry c none turn same;
  heard = λ other side. heard_clients plan before entry c is turn same (asks other) side;
  timed = λ other side. heard_no_begin plan before entry c is turn same (asks other) side;
  lost = λ at. (lost_rightly (state_at plan before) entry turn.answered).sided Before at;
  uncut = cut_undrawn (state_at plan before) entry turn.answered;
} where
  asks : entry.asked ≢ Cut → client_asks plan before c ≡ Some entry.asked
  asks other = takes_asks plan before c entry.asked other (subst (λ (a : Actor). TakesNext plan before a entry.asked) same turn.takes)

-- ---- clients go together with their sessions

other_client : (actor : Actor) (c : ℕ) → is_client actor ≡ false → same_actor actor (Client c) ≡ false
other_client Op c is = refl
other_client Insp c is = refl
other_client Copy c is = refl
other_client Apply c is = refl
other_client Lock c is = refl
other_client Ren c is = refl
other_client (Client number) c is = absurd cc

module _ (plan : PlanData) (before : List Entry) (entry : Entry) (is : ClientsTogether plan before) (turn : IsTurn plan before entry) where
  abbrev more : List Entry
  more = before ++ entry ∷ []

  served : IsServed plan before entry
  served = record { answered = turn.answered; seated = turn.seated }

  -- what the plan has a client ask is given to it
  gives : (c : ℕ) → entry.actor ≡ Client c → (asked : Asked) → TakesNext plan before (Client c) asked → IsGiven plan before entry asked
  unfolding given
  gives c same Cut takes = tt
  gives c same (Call request) takes = subst (λ (a : Actor). given plan before a ≡ Some (Call request)) (sym same) takes
  gives c same Poll takes = subst (λ (a : Actor). given plan before a ≡ Some Poll) (sym same) takes
  gives c same (Command word) takes = subst (λ (a : Actor). given plan before a ≡ Some (Command word)) (sym same) takes

  of_client : (c : ℕ) → entry.actor ≡ Client c → ClientsTogether plan more
  of_client c same =
      clients_more plan before entry is
      (record { answered = turn.answered; followed = record { given = gives c same entry.asked (subst (λ (a : Actor). TakesNext plan before a entry.asked) same turn.takes); session = turn.seated.session } })

  of_other : is_client entry.actor ≡ false → ClientsTogether plan more
  of_other other = record { known = known_more plan before entry is.known served; each = each } where
    each : (c : ℕ) → ClientStands (client_at plan more c) (standing_of plan more (Client c))
    each c =
        let differ = other_client entry.actor c other in
        subst (λ (r : Reached). ClientStands r (standing_of plan more (Client c)))
        (sym (client_more plan before entry c ∙ ap (λ (b : Bool). cond b (client_after (became (client_at plan before c) entry) (with_draw entry.draw (client_at plan before c))) (client_at plan before c)) differ))
        (subst (ClientStands (client_at plan before c)) (sym (others_stand plan before entry is.known served (Client c) differ)) (is.each c))

  together_more : ClientsTogether plan more
  together_more = by entry.actor refl where
    by : (actor : Actor) → entry.actor ≡ actor → ClientsTogether plan more
    by (Client c) same = of_client c same
    by Op same = of_other (ap is_client same)
    by Insp same = of_other (ap is_client same)
    by Copy same = of_other (ap is_client same)
    by Apply same = of_other (ap is_client same)
    by Lock same = of_other (ap is_client same)
    by Ren same = of_other (ap is_client same)

-- ---- all turns

client_turns : (plan : PlanData) (before journal : List Entry) → ClientsTogether plan before → LostHaveNone plan before → Along (IsTurn plan) before journal → Along (λ some entry. (c : ℕ) → entry.actor ≡ Client c → IsClientTurn plan some entry c) before journal
client_turns plan before [] is none turns = tt
client_turns plan before (entry ∷ journal) is none turns = (
  λ c same. client_turn plan before entry c is none turns.0 same,
  client_turns plan (before ++ entry ∷ []) journal (together_more plan before entry is turns.0) (lost_step plan before entry (losing plan before entry turns.0) none) turns.1,
)

lost_turns : (plan : PlanData) (before journal : List Entry) → Along (IsTurn plan) before journal → Along (λ some entry. IsLostRightly entry) before journal
lost_turns plan before [] turns = tt
lost_turns plan before (entry ∷ journal) turns = (lost_rightly (state_at plan before) entry turns.0.answered, lost_turns plan (before ++ entry ∷ []) journal turns.1)

pub whole_lost : (plan : PlanData) (journal : List Entry) → IsWhole plan journal → Along (λ some entry. IsLostRightly entry) [] journal
whole_lost plan journal whole = lost_turns plan [] journal (whole_turns plan journal whole)

none_lost : (plan : PlanData) → LostHaveNone plan []
unfolding live_session
none_lost plan c lost = refl

all_clients : (plan : PlanData) (journal : List Entry) → ScriptsFit plan → Along (IsTurn plan) [] journal → AreClientTurns plan journal
all_clients plan journal fit turns = client_turns plan [] journal (clients_begin plan fit) (none_lost plan) turns

whole_clients : (plan : PlanData) (journal : List Entry) → ScriptsFit plan → IsWhole plan journal → AreClientTurns plan journal
whole_clients plan journal fit whole = all_clients plan journal fit (whole_turns plan journal whole)

-- *The lines tell how far clients are*
pub kept_tell_clients : LinesTellClients
kept_tell_clients plan journal c fit kept = lines_tell_clients plan journal c (all_clients plan journal fit (kept_turns plan journal kept))

pub tell_clients : WholeLinesTellClients
tell_clients plan journal c fit whole = lines_tell_clients plan journal c (whole_clients plan journal fit whole)

-- *The lines tell who has a session*
pub kept_tell_sessions : LinesTellSessions
kept_tell_sessions plan journal actor kept = lines_tell_sessions journal actor (lost_turns plan [] journal (kept_turns plan journal kept))

pub tell_sessions : WholeLinesTellSessions
tell_sessions plan journal actor whole = lines_tell_sessions journal actor (whole_lost plan journal whole)

-- *A client's turn* of a whole journal
pub client_turn_next : (plan : PlanData) (before : List Entry) (entry : Entry) (c : ℕ) → ScriptsFit plan → IsWhole plan (before ++ entry ∷ []) → entry.actor ≡ Client c → IsClientTurn plan before entry c
client_turn_next plan before entry c fit whole same = along_next (λ some one. (c : ℕ) → one.actor ≡ Client c → IsClientTurn plan some one c) [] before entry [] (whole_clients plan (before ++ entry ∷ []) fit whole) c same

-- no client that was lost has a session
pub none_have : (plan : PlanData) (before later : List Entry) → IsWhole plan (before ++ later) → LostHaveNone plan before
none_have plan before later whole = lost_have_none plan before (all_losing plan [] before (whole_turns plan before (whole_before plan before later whole))) where
  all_losing : (plan : PlanData) (some journal : List Entry) → Along (IsTurn plan) some journal → Along (IsLosing plan) some journal
  all_losing plan some [] turns = tt
  all_losing plan some (entry ∷ journal) turns = (losing plan some entry turns.0, all_losing plan (some ++ entry ∷ []) journal turns.1)
