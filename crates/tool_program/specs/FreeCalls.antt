-- *Free calls*: what an actor asks without memory for it. (This project's rule.)
use Rattle.std.specs.Prelude.{Bool, true, Option, Some, None}
use Rattle.server_model.specs.declared.entry.Asked.{Asked}
use Rattle.server_model.specs.declared.entry.Asked.TheVariants.{Call}
use Rattle.server_model.specs.declared.request.Request.{Request}
use Rattle.server_model.specs.Conditions.{is_free}

-- no call, or one of COMMIT, ROLLBACK and UNLOCK TABLES
abbrev pub is_free_call : Option Request → Bool
is_free_call None = true
is_free_call (Some request) = is_free request

-- all that is asked but calls, and such a call
abbrev pub is_freely_asked : Option Asked → Bool
is_freely_asked (Some (Call request)) = is_free request
is_freely_asked asked = true
