-- *Alone*: nobody but this session holds anything, and nobody waits, so that each of its calls is done at once.
use Rattle.std.specs.Prelude.{◌≡◌, ℕ, ◌==◌, true, []}
use Rattle.std.specs.List.{AllByRecursion}
use Rattle.server_model.specs.declared.request.Request.{Request}
use Rattle.server_model.specs.PlainServer.{calls, done}
use Rattle.server_model.specs.States.{State, locks_held, names_held}

pub record HoldsAlone (state : State) (number : ℕ) : Type 0 where
  pub waits : state.waiting ≡ []
  pub names : AllByRecursion (λ held. (held.session == number) ≡ true) (names_held state.sessions)
  pub locks : AllByRecursion (λ held. (held.session == number) ≡ true) (locks_held state.sessions)

-- *Calls are done alone*: who is alone is not kept waiting.
abbrev pub CallsAreDoneAlone : Type 0
CallsAreDoneAlone = (state : State) (number : ℕ) (request : Request) → HoldsAlone state number → calls state number request ≡ done state number request
