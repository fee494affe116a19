-- What was asked in a turn, by what is kept of it. (This project's rule.)
use Rattle.std.specs.Prelude.{◌≡◌, Some}
use Rattle.server_model.specs.declared.entry.Asked.{Asked}
use Rattle.server_model.specs.declared.entry.Asked.TheVariants.{Call}
use Rattle.server_model.specs.declared.turn_asked.Kept.{Kept}
use Rattle.server_model.specs.declared.turn_asked.Kept.TheVariants as kept
use Rattle.server_model.specs.declared.turn_asked.AskedView.{AskedView}
use Rattle.server_model.specs.declared.turn_asked.AskedView.TheVariants.{All, Lost}
use Rattle.server_model.specs.LostCalls.{lost_of}

abbrev pub asked_of : Kept → Asked
asked_of (kept.All asked) = asked
asked_of (kept.Lost lost request) = Call request.value

-- what is kept of a lost call is what there is to keep of it
abbrev pub IsKept : Kept → Type 0
IsKept (kept.All asked) = Unit {0}
IsKept (kept.Lost lost request) = lost_of request.value ≡ Some lost

abbrev pub asked_seen : AskedView → Asked
asked_seen (All asked) = asked.now
asked_seen (Lost lost request) = Call request.value

abbrev pub IsLostAs : AskedView → Type 0
IsLostAs (All asked) = Unit {0}
IsLostAs (Lost lost request) = lost_of request.value ≡ Some lost
