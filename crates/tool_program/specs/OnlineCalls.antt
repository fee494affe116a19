-- What holds of the tool's program.
use Rattle.std.specs.Prelude.{◌≡◌, Bool, false, true, not, List, [], Option, Some, None}
use Rattle.base_script.specs.declared.actor.Actor.{Actor}
use Rattle.base_script.specs.declared.actor.Actor.TheVariants.{Copy, Client}
use Rattle.server_model.specs.Along.{Along}
use Rattle.server_model.specs.declared.entry.Entry.{Entry}
use Rattle.server_model.specs.declared.entry.Asked.TheVariants.{Call}
use Rattle.server_model.specs.declared.request.Request.{Request}
use Rattle.server_model.specs.declared.request.Request.TheVariants as requests
use Rattle.server_model.specs.Entries.{is_client, request_in}
use Rattle.plan_data.specs.PlanData.{PlanData}
use Rattle.tool_program.specs.Tools.{Moment, moment}
use Rattle.tool_program.specs.Programs.{given, Follows}
use Rattle.tool_program.specs.Online.{writes_own, names_own, excludes_well, guards_well, holds_back}

-- a call of the copier's alone: where a chunk ends, and the copy of a row
abbrev pub copies_rows : Request → Bool
copies_rows (requests.ChunkEnd table low top size) = true
copies_rows (requests.CopyRow from into map key) = true
copies_rows request = false

abbrev pub copies_well : Actor → Request → Bool
copies_well Copy request = true
copies_well actor request = not (copies_rows request)

-- A call is online but for the size of its chunk: it writes rows of the new table and of the changelog alone, names no
-- table of clients but the migrated one, asks for that exclusively in an attempt alone, begins an attempt only when the
-- copy is done and few events are unread, and holds back where the tool is throttled. The copier alone copies rows.
pub record AsksWell (plan : PlanData) (now : Moment) (actor : Actor) (request : Request) : Type 0 where
  pub writes : writes_own plan request ≡ true
  pub names : names_own plan request ≡ true
  pub excludes : excludes_well plan now actor request ≡ true
  pub guards : guards_well plan now actor request ≡ true
  pub held : holds_back plan now actor request ≡ true
  pub copies : copies_well actor request ≡ true

-- *Given calls are online*: so is each call that is given to an actor of the tool, after any turns whatever.
abbrev pub GivenCallsAreOnline : Type 0
GivenCallsAreOnline = (plan : PlanData) (journal : List Entry) (actor : Actor) (request : Request) → is_client actor ≡ false → given plan journal actor ≡ Some (Call request) → AsksWell plan (moment plan journal) actor request

-- what is called in a turn of the tool's is online
abbrev pub IsAskedWell : PlanData → List Entry → Actor → Option Request → Type 0
IsAskedWell plan before (Client client) request = Unit {0}
IsAskedWell plan before actor None = Unit {0}
IsAskedWell plan before actor (Some request) = AsksWell plan (moment plan before) actor request

-- *Followed calls are online*: in a journal that follows the program each call of the tool's is.
abbrev pub FollowedCallsAreOnline : Type 0
FollowedCallsAreOnline = (plan : PlanData) (journal : List Entry) → Follows plan journal → Along (λ before entry. IsAskedWell plan before entry.actor (request_in entry.asked)) [] journal
