use Rattle.std.proofs.Common.{refl}
use Rattle.run_judge.proofs.SeenTurns.{seen_more}
use Rattle.run_judge.proofs.turns_seen.TurnsSeen.take.Goals as goal

pub returns : goal.returns
returns c = λ before is. seen_more before c.args.line.now c.args.self.now _ is c.requires refl c.in_ok-take_line.ensures c.commands_after-self.ensures (c.altered_after-self.ensures before is)
