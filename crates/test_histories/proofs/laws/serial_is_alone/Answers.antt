use Rattle.test_histories.proofs.Serial.{serial_is_alone}
use Rattle.test_histories.proofs.laws.serial_is_alone.Goals as goal

pub returns : goal.returns
returns c = serial_is_alone
