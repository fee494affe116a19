-- The range of keys that a turn is told is that of the migrated table before it.
use Rattle.std.proofs.Common.{◌≡◌, ℕ, Bool, true, false, not, List, [], ◌∷◌, ◌++◌, Option, Some, None, refl, sym, ap, ◌∙◌, subst}
use Rattle.base_values.specs.declared.value.Value.{Value}
use Rattle.base_values.specs.GhoSchema.Rows.{key_places}
use Rattle.table_store.specs.Databases.{TableRows, Database, find_table}
use Rattle.base_script.specs.declared.actor.Actor.{Actor}
use Rattle.base_script.specs.declared.actor.Actor.TheVariants.{Op, Insp, Copy, Apply, Lock, Ren, Client}
use Rattle.base_script.specs.declared.actor.Side.{Side}
use Rattle.server_model.specs.Along.{Along-keeps}
use Rattle.server_model.specs.declared.answer.Answer.{Answer}
use Rattle.server_model.specs.declared.answer.Answer.TheVariants as answers
use Rattle.server_model.specs.declared.entry.Asked.{Asked}
use Rattle.server_model.specs.declared.entry.Asked.TheVariants.{Call, Poll, Command, Cut}
use Rattle.server_model.specs.declared.entry.Entry.{Entry}
use Rattle.server_model.specs.declared.request.Request.{Request}
use Rattle.server_model.specs.declared.request.Request.TheVariants as requests
use Rattle.server_model.specs.declared.session.Waiting.{Waiting}
use Rattle.server_model.specs.Chunks.{keys_of, ends_of}
use Rattle.server_model.specs.Entries.{is_client, is_command}
use Rattle.server_model.specs.States.{is_of_tool, State, session_of, is_in_transaction, view, waiting_of}
use Rattle.server_model.proofs.Filling.{filled_case}
use Rattle.server_model.specs.Blockers.{need, blocker}
use Rattle.server_model.specs.Effects.{of_table, effect_within, effect_unless, is_outside}
use Rattle.server_model.specs.PlainServer.{does, done, did, called_unless, calls, is_over, polled_over, polled_unless, polled_of, polls, serves, without_waiting}
use Rattle.plan_data.specs.PlanData.{PlanData}
use Rattle.tool_program.specs.JournalWords.Journals.{opens, state_at, inner_answer, heard, IsFaithful}
use Rattle.tool_program.specs.Programs.{IsGiven, Follows}
use Rattle.proof_journals.specs.Scenes.{Stored}
use Rattle.proof_journals.specs.Turns.{request_of}
use Rattle.proof_journals.proofs.Journals.{stored_opened, opened_waits}
use Rattle.proof_journals.specs.Machine.FormedPlans.{IsFitting}
use Rattle.proof_journals.specs.Machine.Standings.{standing_of, serves_to, IsAbout, is_called, is_polled}
use Rattle.proof_journals.proofs.Machine.Asking.{WaitsWith}
use Rattle.proof_journals.proofs.Machine.Journals.{IsRun, all_runs}
use Rattle.proof_journals.proofs.Machine.Polling.{AllTogether, AllWaits, waits_more, waits_begin, together_more_all, together_begins_all, given_idle, given_waits}
use Rattle.proof_journals.proofs.Machine.Seated.{IsServed, own_heard, own_given, own_missed, own_waiting}
use Rattle.run_turns.specs.DueTurns.DueCalls.Ranges.{range_of, keys_in, range_of_table, range_in, ahead_of, IsReported}
use Rattle.run_turns.specs.DueTurns.DueCalls.Laws.{RangesAreAhead}
use Rattle.run_turns.proofs.DueTurns.DueCalls.Ends.{EndsBy, AsksEnds, given_ends}

-- WHAT THE SERVER TELLS

-- the range that is told is that of the table that is asked for
abbrev TellsEnds : Database → Request → Answer → Type 0
TellsEnds tables (requests.Ends table) (answers.Ends range) = range ≡ range_in table tables
TellsEnds tables request answer = Unit {0}

-- an answer without a range
abbrev IsNoEnds : Answer → Type 0
IsNoEnds (answers.Ends range) = ⊥
IsNoEnds answer = Unit {0}

quiet_tells : (tables : Database) (request : Request) (answer : Answer) → IsNoEnds answer → TellsEnds tables request answer
quiet_tells tables (requests.Ends table) (answers.Ends range) none = absurd none
quiet_tells tables (requests.Ends table) answer none = tt
quiet_tells tables request answer none = tt

ends_are : (keys : List (List Value)) → ends_of keys ≡ answers.Ends (range_of keys)
ends_are [] = refl
ends_are (least ∷ keys) = refl

module _ (state : State) (number : ℕ) where
  ends_at : (table : List ℕ) → TellsEnds state.tables (requests.Ends table) (of_table (find_table table state.tables) (λ t. ends_of (keys_of (key_places t.schema) t.rows)))
  ends_at table = by (find_table table state.tables) refl
    where
      by : (found : Option TableRows) → find_table table state.tables ≡ found → TellsEnds state.tables (requests.Ends table) (of_table found (λ t. ends_of (keys_of (key_places t.schema) t.rows)))
      by None is = tt
      by (Some one) is = subst (TellsEnds state.tables (requests.Ends table)) (sym (ends_are (keys_in one))) (sym (ap range_of_table is))

  within_tells : (request : Request) → TellsEnds state.tables request (does (effect_within (is_in_transaction (session_of number state.sessions)) (view number state) state request) state number).answer
  within_tells (requests.Ends table) = ends_at table
  within_tells request = tt

  did_tells : (request : Request) → TellsEnds state.tables request (did state number request).answer
  unfolding did
  did_tells request = at (is_outside (session_of number state.sessions) request)
    where
      at : (b : Bool) → TellsEnds state.tables request (does (effect_unless b (is_in_transaction (session_of number state.sessions)) (view number state) state request) state number).answer
      at true = quiet_tells state.tables request _ tt
      at false = within_tells request

  done_tells : (request : Request) → TellsEnds state.tables request (done state number request).answer
  done_tells request =
      filled_case (λ asks full. TellsEnds state.tables asks (did state number full).answer) did_tells (λ statement n. tt)
      (is_of_tool (session_of number state.sessions)) state.tables state.counters request

called_tells : (state : State) (number : ℕ) (request : Request) → TellsEnds state.tables request (calls state number request).answer
unfolding calls
called_tells state number request = at (blocker state number (need state number request))
  where
    at : (by : Option ℕ) → TellsEnds state.tables request (called_unless by state number request).answer
    at None = done_tells state number request
    at (Some by) = quiet_tells state.tables request _ tt

polled_tells : (state : State) (number : ℕ) (request : Request) → request_of (waiting_of number state.waiting) ≡ Some request → TellsEnds state.tables request (polls state number).answer
unfolding polls
polled_tells state number request waits = at (waiting_of number state.waiting) waits
  where
    over : (b : Bool) (by : ℕ) → TellsEnds state.tables request (polled_over b by state number).answer
    over true by = quiet_tells state.tables request _ tt
    over false by = quiet_tells state.tables request _ tt

    unless : (by : Option ℕ) → TellsEnds state.tables request (polled_unless by state number request).answer
    unless None = done_tells (without_waiting number state) number request
    unless (Some by) = over (is_over state number) by

    at : (waiting : Option Waiting) → request_of waiting ≡ Some request → TellsEnds state.tables request (polled_of waiting state number).answer
    at None none = absurd cc
    at (Some waiting) same =
        let one : waiting.request ≡ request = cc in
        subst (λ (r : Request). TellsEnds state.tables request (polled_unless (blocker state number (need state number r)) state number r).answer) (sym one) (unless (blocker state number (need state number request)))

-- WHAT A TURN IS TOLD

module _ (plan : PlanData) (actor : Actor) (tables : Database) where
  asked_reported : (one : Actor) (table : List ℕ) (range : _) → EndsBy plan one table → range ≡ range_in table tables → range ≡ ahead_of plan tables one
  asked_reported Insp table range by tells = tells ∙ ap (λ (t : List ℕ). range_in t tables) by
  asked_reported Op table range by tells = absurd by
  asked_reported Copy table range by tells = absurd by
  asked_reported Apply table range by tells = absurd by
  asked_reported Lock table range by tells = absurd by
  asked_reported Ren table range by tells = absurd by
  asked_reported (Client c) table range by tells = absurd by

  reported_by : (request : Request) (answer : Answer) → AsksEnds plan actor request → TellsEnds tables request answer → serves_to request answer ≡ true → IsReported (ahead_of plan tables actor) answer
  reported_by (requests.Ends table) (answers.Ends range) asks tells fits = asked_reported actor table range asks tells
  reported_by requests.Begin (answers.Ends range) asks tells fits = absurd cc
  reported_by requests.Commit (answers.Ends range) asks tells fits = absurd cc
  reported_by requests.Rollback (answers.Ends range) asks tells fits = absurd cc
  reported_by (requests.Do statement) (answers.Ends range) asks tells fits = absurd cc
  reported_by (requests.ChunkEnd table low top size) (answers.Ends range) asks tells fits = absurd cc
  reported_by (requests.BeginSpan table span size) (answers.Ends range) asks tells fits = absurd cc
  reported_by (requests.CopyRow from into map key) (answers.Ends range) asks tells fits = absurd cc
  reported_by (requests.LockTables names) (answers.Ends range) asks tells fits = absurd cc
  reported_by requests.Unlock (answers.Ends range) asks tells fits = absurd cc
  reported_by (requests.Create schema) (answers.Ends range) asks tells fits = absurd cc
  reported_by (requests.Drop name) (answers.Ends range) asks tells fits = absurd cc
  reported_by (requests.Rename pairs) (answers.Ends range) asks tells fits = absurd cc
  reported_by requests.LogEnd (answers.Ends range) asks tells fits = absurd cc
  reported_by (requests.ReadLog position limit tables) (answers.Ends range) asks tells fits = absurd cc
  reported_by requests.ShowTables (answers.Ends range) asks tells fits = absurd cc
  reported_by requests.ShowWaiting (answers.Ends range) asks tells fits = absurd cc
  reported_by (requests.ShowCounter table) (answers.Ends range) asks tells fits = absurd cc
  reported_by (requests.SetCounter table least) (answers.Ends range) asks tells fits = absurd cc
  reported_by request answer asks tells fits = tt

module _ (plan : PlanData) (journal : List Entry) (entry : Entry) (is : AllTogether plan journal) (waits : AllWaits (AsksEnds plan) plan journal) (run : IsRun plan journal entry) where
  abbrev now : State
  now = state_at plan journal

  served : IsServed plan journal entry
  served = record { answered = run.answered; seated = record { session = run.followed.session } }

  abbrev TurnFacts : Answer → Type 0
  TurnFacts answer = IsReported (ahead_of plan now.tables entry.actor) answer

  abbrev open_now : State
  open_now = opens entry now

  tables : open_now.tables ≡ now.tables
  tables = ap (λ (s : Stored). s.tables) (stored_opened (is_command entry.asked) (not (is_client entry.actor)) entry.session now)

  tells : (request : Request) → IsAbout request (standing_of plan journal entry.actor) entry.asked → TellsEnds now.tables request (serves open_now entry.session entry.asked).answer
  tells request (is_called same none) =
      subst (λ (d : Database). TellsEnds d request (serves open_now entry.session entry.asked).answer) tables
      (subst (λ (a : Asked). TellsEnds open_now.tables request (serves open_now entry.session a).answer) (sym same) (called_tells open_now entry.session request))
  tells request (is_polled same some) =
      let waiting : request_of (waiting_of entry.session open_now.waiting) ≡ Some request =
      ap (λ (w : List Waiting). request_of (waiting_of entry.session w)) (opened_waits (is_command entry.asked) (not (is_client entry.actor)) entry.session now) ∙ own_waiting plan journal entry is.tool.known served (ap is_command same) ∙ some in
      subst (λ (d : Database). TellsEnds d request (serves open_now entry.session entry.asked).answer) tables
      (subst (λ (a : Asked). TellsEnds open_now.tables request (serves open_now entry.session a).answer) (sym same) (polled_tells open_now entry.session request waiting))

  about_reported : (request : Request) → IsAbout request (standing_of plan journal entry.actor) entry.asked → AsksEnds plan entry.actor request → TurnFacts entry.answer
  about_reported request about asks = by entry.side refl
    where
      by : (side : Option Side) → entry.side ≡ side → TurnFacts entry.answer
      by (Some side) at_side = subst TurnFacts (sym (own_missed plan journal entry is.tool.known served side at_side)) tt
      by None no_side =
          reported_by plan entry.actor now.tables request entry.answer asks
          (subst (TellsEnds now.tables request) (own_given plan journal entry is.tool.known served no_side) (tells request about))
          (own_heard plan journal entry is.tool.known served request about no_side)

  heard_cut : (side : Option Side) → TurnFacts (heard side None)
  heard_cut None = tt
  heard_cut (Some side) = tt

  command_reported : (word : _) → entry.asked ≡ Command word → TurnFacts entry.answer
  unfolding inner_answer
  command_reported word asks = by entry.side refl
    where
      by : (side : Option Side) → entry.side ≡ side → TurnFacts entry.answer
      by (Some side) at_side = subst TurnFacts (sym (run.answered.answer ∙ ap (λ (s : Option Side). heard s (inner_answer now entry)) at_side)) tt
      by None no_side =
          subst TurnFacts
          (sym (run.answered.answer ∙ ap (λ (s : Option Side). heard s (Rattle.server_model.specs.PlainServer.given_at s entry.asked (serves open_now entry.session entry.asked).answer)) no_side
          ∙ ap (λ (a : Asked). heard None (Rattle.server_model.specs.PlainServer.given_at None a (serves open_now entry.session a).answer)) asks)) tt

  cut_reported : entry.asked ≡ Cut → TurnFacts entry.answer
  unfolding inner_answer
  cut_reported asks = subst TurnFacts (sym (run.answered.answer ∙ ap (λ (a : Asked). heard entry.side (Rattle.server_model.specs.PlainServer.given_at entry.side a (serves open_now entry.session a).answer)) asks)) (heard_cut entry.side)

  pub reported : TurnFacts entry.answer
  reported = by entry.asked refl run.followed.given
    where
      by : (asked : Asked) → entry.asked ≡ asked → IsGiven plan journal entry asked → TurnFacts entry.answer
      by (Command word) asks gives = command_reported word asks
      by Cut asks gives = cut_reported asks
      by (Call request) asks gives = about_reported request (is_called asks (given_idle plan journal entry.actor request is gives)) (given_ends plan journal entry.actor request is gives)
      by Poll asks gives =
          let with : WaitsWith (standing_of plan journal entry.actor).waits = given_waits plan journal entry.actor is gives in
          about_reported with.request (is_polled asks with.is) (waits entry.actor with.request with.is)

-- WHOLE JOURNALS

record IsAsked (plan : PlanData) (journal : List Entry) : Type 0 where
  all : AllTogether plan journal
  waits : AllWaits (AsksEnds plan) plan journal

asked_more : (plan : PlanData) (journal : List Entry) (entry : Entry) → IsRun plan journal entry → IsAsked plan journal → IsAsked plan (journal ++ entry ∷ [])
asked_more plan journal entry run is = record {
  all = together_more_all plan journal entry is.all run;
  waits = waits_more (AsksEnds plan) plan journal entry is.all is.waits run (λ request asks gives. given_ends plan journal entry.actor request is.all gives);
}

all_asked : (plan : PlanData) (journal : List Entry) → IsFitting plan → IsFaithful plan journal → Follows plan journal → IsAsked plan journal
unfolding Follows
all_asked plan journal fit faithful follows =
    Along-keeps (IsRun plan) (IsAsked plan) (asked_more plan) [] journal (all_runs plan [] journal faithful follows) (record { all = together_begins_all plan fit; waits = waits_begin (AsksEnds plan) plan })

-- *Ranges are known ahead*
pub ranges_ahead : RangesAreAhead
ranges_ahead plan journal entry fit faithful follows answered followed =
    let is : IsAsked plan journal = all_asked plan journal fit faithful follows in
    reported plan journal entry is.all is.waits (record { answered = answered; followed = followed })
