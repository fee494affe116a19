-- A session of its own reads a table's events in the log of a server.
use Rattle.std.proofs.Common.{◌≡◌, ℕ, ◌+◌, ◌≤◌, Bool, true, false, ◌||◌, cond, List, [], ◌∷◌, map, take, Option, Some, is_some, refl, sym, ap, ◌∙◌, subst}
use Rattle.std.proofs.lemmas.List.{take-map}
use Rattle.std.specs.Str.{bytes_eq}
use Rattle.base_values.specs.declared.event.RowEvent.{RowEvent}
use Rattle.server_model.specs.declared.answer.Answer.{Answer}
use Rattle.server_model.specs.declared.answer.Answer.TheVariants as answers
use Rattle.server_model.specs.declared.request.Request.{Request}
use Rattle.server_model.specs.declared.request.Request.TheVariants as requests
use Rattle.server_model.specs.declared.session.Session.{Session}
use Rattle.server_model.specs.Conditions.{MayCall}
use Rattle.server_model.specs.Effects.{effect_unless, is_outside}
use Rattle.server_model.specs.Listings.{ReadEvent, events_read, read_from}
use Rattle.server_model.specs.PlainServer.{called_unless, calls, did, does}
use Rattle.server_model.specs.States.{State, connected, is_in_transaction, new_session, session_of, view}
use Rattle.proof_journals.proofs.Ghost.Reading.{read_is}
use Rattle.proof_journals.proofs.Machine.Seated.{opened_new}
use Rattle.proof_journals.proofs.ServerFacts.Waits.{nothing_blocks}
use Rattle.tool_program.specs.EventApplier.Appliers.{events_of}
use Rattle.tool_program.specs.JournalWords.Journals.{opens_if}
use Rattle.top_call.specs.RestedServers.{IsRested}

-- WHAT IS READ

named_events : (name : List ℕ) (place : ℕ) (log : List RowEvent) → map (λ read. read.event) (read_from (name ∷ []) place log) ≡ events_of name log
unfolding read_from
named_events name place [] = refl
named_events name place (event ∷ log) = by (bytes_eq event.table name) (named_events name (place + 1) log) where
  by : (b : Bool) → map (λ read. read.event) (read_from (name ∷ []) (place + 1) log) ≡ events_of name log
      → map (λ read. read.event) (cond (b || false) (record { event = event; following = place + 1 } ∷ read_from (name ∷ []) (place + 1) log) (read_from (name ∷ []) (place + 1) log)) ≡ cond b (event ∷ events_of name log) (events_of name log)
  by true same = ap (λ (all : List RowEvent). event ∷ all) same
  by false same = same

-- THE CALL

module _ (state : State) (name : List ℕ) (limit : ℕ) (rested : IsRested state) where
  abbrev number : ℕ
  number = state.made + 1

  abbrev open_now : State
  open_now = connected number true state

  abbrev request : Request
  request = requests.ReadLog 0 limit (name ∷ [])

  own : session_of number open_now.sessions ≡ Some (new_session number true)
  unfolding opens_if
  own = ap (λ (b : Bool). session_of number (cond b state open_now).sessions) (sym (ap is_some rested.none)) ∙ opened_new true number state rested.none

  pub may_read : 1 ≤ limit → MayCall open_now number request
  may_read some = record {
    live = ap is_some own;
    idle = rested.idle;
    comes = tt;
    formed = some;
  }

  answered : (calls open_now number request).answer ≡ events_read 0 limit (name ∷ []) state.log
  unfolding calls did
  answered =
      ap (λ (blocked : Option ℕ). (called_unless blocked open_now number request).answer) (nothing_blocks open_now number false)
      ∙ ap (λ (found : Option Session). (does (effect_unless (is_outside found request) (is_in_transaction (session_of number open_now.sessions)) (view number open_now) open_now request) open_now number).answer) own

  -- the events that the answer has
  pub read_events : (events : List RowEvent) (next : ℕ) → answers.Events events next ≡ (calls open_now number request).answer → events ≡ take limit (events_of name state.log)
  read_events events next is = same ∙ sym (take-map (λ (read : ReadEvent). read.event) limit (read_from (name ∷ []) 0 state.log)) ∙ ap (take limit) (named_events name 0 state.log) where
    whole : answers.Events events next ≡ events_read 0 limit (name ∷ []) state.log
    whole = is ∙ answered

    same : events ≡ map (λ read. read.event) (take limit (read_from (name ∷ []) 0 state.log))
    same = let given = whole ∙ read_is 0 limit (name ∷ []) state.log in cc

  -- it has events
  pub gives_events : (answer : Answer) → answer ≡ (calls open_now number request).answer → ((events : List RowEvent) (next : ℕ) → answer ≡ answers.Events events next → ⊥) → ⊥
  gives_events answer is none = none (map (λ read. read.event) (take limit (read_from (name ∷ []) 0 state.log))) _ (is ∙ answered ∙ read_is 0 limit (name ∷ []) state.log)

-- THE SAME, of a session that was connected so, and of a request that is this one

pub may_read_now : (before after : State) (session : ℕ) (asked : Request) (name : List ℕ) (limit : ℕ) → IsRested before → 1 ≤ limit → session ≡ before.made + 1 → after ≡ connected (before.made + 1) true before → asked ≡ requests.ReadLog 0 limit (name ∷ []) → MayCall after session asked
may_read_now before after session asked name limit rested some session_is after_is asked_is =
    subst (λ (s : State). MayCall s session asked) (sym after_is) (subst (λ (n : ℕ). MayCall (connected (before.made + 1) true before) n asked) (sym session_is)
    (subst (MayCall (connected (before.made + 1) true before) (before.made + 1)) (sym asked_is) (may_read before name limit rested some)))

answer_now : (before after : State) (session : ℕ) (asked : Request) (name : List ℕ) (limit : ℕ) (answer : Answer) → session ≡ before.made + 1 → after ≡ connected (before.made + 1) true before → asked ≡ requests.ReadLog 0 limit (name ∷ []) → answer ≡ (calls after session asked).answer
    → answer ≡ (calls (connected (before.made + 1) true before) (before.made + 1) (requests.ReadLog 0 limit (name ∷ []))).answer
answer_now before after session asked name limit answer session_is after_is asked_is is =
    is ∙ ap (λ (s : State). (calls s session asked).answer) after_is ∙ ap (λ (n : ℕ). (calls (connected (before.made + 1) true before) n asked).answer) session_is
    ∙ ap (λ (r : Request). (calls (connected (before.made + 1) true before) (before.made + 1) r).answer) asked_is

pub read_now : (before after : State) (session : ℕ) (asked : Request) (name : List ℕ) (limit : ℕ) (events : List RowEvent) (next : ℕ) → IsRested before → session ≡ before.made + 1 → after ≡ connected (before.made + 1) true before → asked ≡ requests.ReadLog 0 limit (name ∷ []) → answers.Events events next ≡ (calls after session asked).answer
    → events ≡ take limit (events_of name before.log)
read_now before after session asked name limit events next rested session_is after_is asked_is is =
    read_events before name limit rested events next (answer_now before after session asked name limit (answers.Events events next) session_is after_is asked_is is)

pub gives_now : (before after : State) (session : ℕ) (asked : Request) (name : List ℕ) (limit : ℕ) (answer : Answer) → IsRested before → session ≡ before.made + 1 → after ≡ connected (before.made + 1) true before → asked ≡ requests.ReadLog 0 limit (name ∷ []) → answer ≡ (calls after session asked).answer
    → ((events : List RowEvent) (next : ℕ) → answer ≡ answers.Events events next → ⊥) → ⊥
gives_now before after session asked name limit answer rested session_is after_is asked_is is none =
    gives_events before name limit rested answer (answer_now before after session asked name limit answer session_is after_is asked_is is) none
