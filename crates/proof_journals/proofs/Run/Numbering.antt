-- The plain server answers the same whatever number its last session was given.
use Rattle.std.proofs.Common.{◌≡◌, ℕ, Bool, true, false, Option, Some, None, refl, ap, ◌∙◌}
use Rattle.table_store.specs.Databases.{Database}
use Rattle.base_script.specs.declared.actor.Side.{Side}
use Rattle.base_script.specs.declared.actor.Side.TheVariants.{Before, After}
use Rattle.server_model.specs.declared.session.Waiting.{Waiting}
use Rattle.server_model.specs.declared.request.Request.{Request}
use Rattle.server_model.specs.declared.request.Request.TheVariants as requests
use Rattle.server_model.specs.declared.entry.Asked.{Asked}
use Rattle.server_model.specs.declared.entry.Asked.TheVariants.{Call, Poll, Command, Cut}
use Rattle.server_model.specs.Listings.{waits_shown}
use Rattle.server_model.specs.States.{State, session_of, is_in_transaction, waiting_of, view}
use Rattle.server_model.specs.Blockers.{need, blocker}
use Rattle.server_model.specs.Effects.{Effect, Rests, Grows, Writes, Forgets, Moves, Locks, Unlocks, effect_unless, effect, is_outside}
use Rattle.server_model.specs.Drawing.{filled}
use Rattle.server_model.specs.PlainServer.{Served, does, done, did, called_unless, calls, is_over, polled_over, polled_unless, polled_of, polls, loses, serves, leaves}
use Rattle.proof_journals.specs.Run.Counts.{numbered}

-- what is served, with another number
abbrev pub renumbered : ℕ → Served → Served
renumbered made served = record { answer = served.answer; after = numbered made served.after }

does_numbered : (effect : Effect) (made : ℕ) (state : State) (number : ℕ) → does effect (numbered made state) number ≡ renumbered made (does effect state number)
does_numbered (Rests answer) made state number = refl
does_numbered (Grows answer need events) made state number = refl
does_numbered (Writes answer events) made state number = refl
does_numbered (Forgets answer) made state number = refl
does_numbered (Moves answer tables) made state number = refl
does_numbered (Locks answer names) made state number = refl
does_numbered (Unlocks answer) made state number = refl

effect_numbered : (outside busy : Bool) (seen : Database) (made : ℕ) (state : State) (request : Request) → effect_unless outside busy seen (numbered made state) request ≡ effect_unless outside busy seen state request
unfolding waits_shown
effect_numbered true busy seen made state request = refl
effect_numbered false busy seen made state requests.Begin = refl
effect_numbered false busy seen made state requests.Commit = refl
effect_numbered false busy seen made state requests.Rollback = refl
effect_numbered false busy seen made state (requests.Do statement) = refl
effect_numbered false busy seen made state (requests.Ends table) = refl
effect_numbered false busy seen made state (requests.ChunkEnd table low top size) = refl
effect_numbered false busy seen made state (requests.BeginSpan table span size) = refl
effect_numbered false busy seen made state (requests.CopyRow from into map key) = refl
effect_numbered false busy seen made state (requests.LockTables names) = refl
effect_numbered false busy seen made state requests.Unlock = refl
effect_numbered false busy seen made state (requests.Create schema) = refl
effect_numbered false busy seen made state (requests.Drop name) = refl
effect_numbered false busy seen made state (requests.Rename pairs) = refl
effect_numbered false busy seen made state requests.LogEnd = refl
effect_numbered false busy seen made state (requests.ReadLog position limit tables) = refl
effect_numbered false busy seen made state requests.ShowTables = refl
effect_numbered false busy seen made state requests.ShowWaiting = refl
effect_numbered false busy seen made state (requests.ShowCounter table) = refl
effect_numbered false busy seen made state (requests.SetCounter table least) = refl

done_numbered : (made : ℕ) (state : State) (number : ℕ) (request : Request) → done (numbered made state) number request ≡ renumbered made (done state number request)
unfolding did
done_numbered made state number request =
    ap (λ (what : Effect). does what (numbered made state) number) (effect_numbered (is_outside (session_of number state.sessions) (filled state number request)) (is_in_transaction (session_of number state.sessions)) (view number state) made state (filled state number request))
    ∙ does_numbered (effect state number (filled state number request)) made state number

called_numbered : (by : Option ℕ) (made : ℕ) (state : State) (number : ℕ) (request : Request) → called_unless by (numbered made state) number request ≡ renumbered made (called_unless by state number request)
called_numbered None made state number request = done_numbered made state number request
called_numbered (Some by) made state number request = refl

pub calls_numbered : (made : ℕ) (state : State) (number : ℕ) (request : Request) → calls (numbered made state) number request ≡ renumbered made (calls state number request)
unfolding calls
calls_numbered made state number request = called_numbered (blocker state number (need state number request)) made state number request

over_numbered : (over : Bool) (by made : ℕ) (state : State) (number : ℕ) → polled_over over by (numbered made state) number ≡ renumbered made (polled_over over by state number)
over_numbered true by made state number = refl
over_numbered false by made state number = refl

unless_numbered : (by : Option ℕ) (made : ℕ) (state : State) (number : ℕ) (request : Request) → polled_unless by (numbered made state) number request ≡ renumbered made (polled_unless by state number request)
unless_numbered None made state number request = done_numbered made (Rattle.server_model.specs.PlainServer.without_waiting number state) number request
unless_numbered (Some by) made state number request = over_numbered (is_over state number) by made state number

polled_numbered : (waiting : Option Waiting) (made : ℕ) (state : State) (number : ℕ) → polled_of waiting (numbered made state) number ≡ renumbered made (polled_of waiting state number)
polled_numbered None made state number = refl
polled_numbered (Some waiting) made state number = unless_numbered (blocker state number (need state number waiting.request)) made state number waiting.request

pub polls_numbered : (made : ℕ) (state : State) (number : ℕ) → polls (numbered made state) number ≡ renumbered made (polls state number)
unfolding polls
polls_numbered made state number = polled_numbered (waiting_of number state.waiting) made state number

pub loses_numbered : (made : ℕ) (state : State) (number : ℕ) → loses number (numbered made state) ≡ numbered made (loses number state)
unfolding loses
loses_numbered made state number = refl

-- what a session asks
pub serves_numbered : (made : ℕ) (state : State) (number : ℕ) (asked : Asked) → serves (numbered made state) number asked ≡ renumbered made (serves state number asked)
serves_numbered made state number (Call request) = calls_numbered made state number request
serves_numbered made state number Poll = polls_numbered made state number
serves_numbered made state number (Command word) = refl
serves_numbered made state number Cut = ap (λ (after : State). Rattle.server_model.specs.PlainServer.serving Rattle.server_model.specs.declared.answer.Answer.TheVariants.Lost after) (loses_numbered made state number)

-- what it leaves
pub leaves_numbered : (side : Option Side) (made : ℕ) (state : State) (number : ℕ) (asked : Asked) → leaves side (numbered made state) number asked ≡ numbered made (leaves side state number asked)
leaves_numbered None made state number asked = ap (λ (served : Served). served.after) (serves_numbered made state number asked)
leaves_numbered (Some Before) made state number asked = loses_numbered made state number
leaves_numbered (Some After) made state number asked =
    ap (λ (served : Served). loses number served.after) (serves_numbered made state number asked) ∙ loses_numbered made (serves state number asked).after number
