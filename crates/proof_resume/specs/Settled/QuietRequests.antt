-- Requests that store nothing.
use Rattle.std.specs.Prelude.{◌≡◌, Bool, true}
use Rattle.server_model.specs.declared.request.Request.{Request}
use Rattle.server_model.specs.declared.request.Request.TheVariants as requests

-- *Stores nothing*: neither the tables nor the log are others where it is done, by whether its session is in a transaction
abbrev pub StoresNothing : Bool → Request → Type 0
StoresNothing busy requests.Begin = Unit {0}
StoresNothing busy requests.Rollback = Unit {0}
StoresNothing busy (requests.Do statement) = busy ≡ true
StoresNothing busy (requests.Ends table) = Unit {0}
StoresNothing busy (requests.ChunkEnd table low top size) = Unit {0}
StoresNothing busy (requests.BeginSpan table span size) = Unit {0}
StoresNothing busy (requests.CopyRow from into map key) = busy ≡ true
StoresNothing busy (requests.LockTables names) = Unit {0}
StoresNothing busy requests.Unlock = Unit {0}
StoresNothing busy requests.LogEnd = Unit {0}
StoresNothing busy (requests.ReadLog position limit tables) = Unit {0}
StoresNothing busy requests.ShowTables = Unit {0}
StoresNothing busy requests.ShowWaiting = Unit {0}
StoresNothing busy (requests.ShowCounter table) = Unit {0}
StoresNothing busy (requests.SetCounter table number) = Unit {0}
StoresNothing busy request = ⊥
