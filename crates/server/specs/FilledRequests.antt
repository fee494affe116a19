-- Requests with the number that their statement would draw now.
use Rattle.std.specs.Prelude.{◌≡◌, ℕ, unwrap_or, Option, None}
use Rattle.server_model.specs.declared.request.Request.{Request}
use Rattle.server_model.specs.declared.request.Request.TheVariants as requests
use Rattle.server_model.specs.Drawing.{filled, offered}
use Rattle.server_model.specs.States.{State}
use Rattle.server.specs.declared.filled_requests.Filling.{Filling}

-- the number that the session's request would draw now
abbrev pub offer_of : State → ℕ → Request → Option ℕ
offer_of state number (requests.Do statement) = offered state number statement
offer_of state number request = None

-- this is what the request is filled with
pub record IsFilled (state : State) (number : ℕ) (request : Request) (filling : Filling) : Type 0 where
  pub offer : filling.offer ≡ offer_of state number request
  pub filled : unwrap_or filling.numbered request ≡ filled state number request
