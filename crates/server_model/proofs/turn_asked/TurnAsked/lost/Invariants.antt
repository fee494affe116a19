use Rattle.server_model.specs.LostCalls.{called}
use Rattle.server_model.proofs.turn_asked.TurnAsked.lost.Given as goal

abbrev pub ghost-lost_request : goal.ghost-lost_request
ghost-lost_request g a = called g.asked
