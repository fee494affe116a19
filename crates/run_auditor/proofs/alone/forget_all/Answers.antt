use Rattle.std.proofs.Common.{◌∙◌}
use Rattle.server_storage.specs.Storage.{written}
use Rattle.run_auditor.proofs.AloneSessions.{all_fresh}
use Rattle.run_auditor.proofs.alone.forget_all.Goals as goal

pub returns-clause-fresh : goal.returns-clause-fresh
returns-clause-fresh c = all_fresh (written c.roll_back.new.self) c.roll_back.ensures.own (λ other differ. c.roll_back.ensures.others other differ ∙ c.requires.others other differ)
