-- *Lost calls*: what a journal keeps in memory of a call that was lost before it was done. What such a call asked is what the plan and
-- the turns before it give; of it is kept what a reader of the journal must know of it. (This project's rule.)
use Rattle.std.specs.Prelude.{◌==◌, pos, Bool, true, false, List, [], ◌∷◌, Option, Some, None}
use Rattle.base_values.specs.declared.value.Value.{Value}
use Rattle.base_values.specs.declared.value.Value.TheVariants.{Num}
use Rattle.base_script.specs.declared.statement.Statement.TheVariants as statements
use Rattle.server_model.specs.declared.entry.Asked.{Asked}
use Rattle.server_model.specs.declared.entry.Asked.TheVariants.{Call}
use Rattle.server_model.specs.declared.request.Request.{Request}
use Rattle.server_model.specs.declared.request.Request.TheVariants as requests
use Rattle.server_model.specs.declared.lost_calls.LostCall.{LostCall}
use Rattle.server_model.specs.declared.lost_calls.LostCall.TheVariants.{Replace, Other}

abbrev pub is_zero : Value → Bool
is_zero (Num (pos number)) = number == 0
is_zero value = false

-- the row begins with the number 0
abbrev pub begins_with_zero : List Value → Bool
begins_with_zero (value ∷ row) = is_zero value
begins_with_zero [] = false

-- what is kept of a call; of one that takes no memory, and of a RENAME, all
abbrev pub lost_of : Request → Option LostCall
lost_of requests.Commit = None
lost_of requests.Rollback = None
lost_of requests.Unlock = None
lost_of (requests.Rename pairs) = None
lost_of (requests.Do (statements.Replace table columns row drawn)) = Some (Replace (begins_with_zero row))
lost_of request = Some Other

-- what is kept of what is asked, where it is such a call
abbrev pub lost_in : Asked → Option LostCall
lost_in (Call request) = lost_of request
lost_in asked = None

-- the call; of what is none COMMIT
abbrev pub called : Asked → Request
called (Call request) = request
called asked = requests.Commit
