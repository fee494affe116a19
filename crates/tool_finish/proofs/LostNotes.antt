-- Of a row that was lost before it was written the journal keeps whether it was a checkpoint's.
use Rattle.std.proofs.Common.{◌≡◌, Bool, false, ◌∷◌, Some, refl, sym}
use Rattle.std.specs.Prelude.{◌==◌, pos}
use Rattle.base_values.specs.declared.value.Value.TheVariants.{Num}
use Rattle.base_script.specs.declared.actor.Actor.TheVariants.{Insp}
use Rattle.base_script.specs.declared.statement.Statement.TheVariants as statements
use Rattle.server_model.specs.declared.entry.Asked.TheVariants.{Call}
use Rattle.server_model.specs.declared.lost_calls.LostCall.TheVariants.{Replace, Other}
use Rattle.server_model.specs.declared.request.Request.{Request}
use Rattle.server_model.specs.declared.request.Request.TheVariants as requests
use Rattle.server_model.specs.LostCalls.{lost_of}
use Rattle.tool_finish.specs.Checkpoints.{asks_checkpoint}

-- a checkpoint's row is the one that begins with 0
pub lost_note : (request : Request) (checks : Bool) → lost_of request ≡ Some (Replace checks) → checks ≡ asks_checkpoint Insp (Call request)
lost_note (requests.Do (statements.Replace table columns (Num (pos number) ∷ row) drawn)) checks is = let same : (number == 0) ≡ checks = cc in sym same
lost_note (requests.Do (statements.Replace table columns row drawn)) checks is = let same : false ≡ checks = cc in sym same
lost_note request checks is = absurd (cc)

pub lost_other : (request : Request) → lost_of request ≡ Some Other → false ≡ asks_checkpoint Insp (Call request)
lost_other (requests.Do (statements.Replace table columns row drawn)) is = absurd (cc)
lost_other request is = refl
