use Rattle.proof_migration.proofs.Program.Holds.Live.{lockers_go_on, renamers_go_on}
use Rattle.law_journals.proofs.sessions.sessions_go_on.Goals as goal

pub returns-clause-locker : goal.returns-clause-locker
returns-clause-locker c = lockers_go_on

pub returns-clause-renamer : goal.returns-clause-renamer
returns-clause-renamer c = renamers_go_on
