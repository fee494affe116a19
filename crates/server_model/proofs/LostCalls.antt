-- The call that was lost.
use Rattle.std.proofs.Common.{◌≡◌, Some, refl}
use Rattle.server_model.specs.declared.entry.Asked.{Asked}
use Rattle.server_model.specs.declared.entry.Asked.TheVariants.{Call}
use Rattle.server_model.specs.declared.lost_calls.LostCall.{LostCall}
use Rattle.server_model.specs.LostCalls.{called, lost_in, lost_of}

pub lost_called : (asked : Asked) (lost : LostCall) → lost_in asked ≡ Some lost → lost_of (called asked) ≡ Some lost
lost_called (Call request) lost is = is
lost_called asked lost is = absurd (cc)

pub called_is : (asked : Asked) (lost : LostCall) → lost_in asked ≡ Some lost → Call (called asked) ≡ asked
called_is (Call request) lost is = refl
called_is asked lost is = absurd (cc)
