use Rattle.proof_journals.proofs.Run.Taking.{server_is, turns_are, taken_are}
use Rattle.proof_journals.proofs.Run.Keeping.{next_of, kept_more}
use Rattle.law_journals.proofs.turns.journals_grow.Goals as goal

pub returns-clause-moments : goal.returns-clause-moments
returns-clause-moments c = λ plan journal. record { server = server_is plan journal; turns = turns_are plan journal; taken = taken_are plan journal }

pub returns-clause-given : goal.returns-clause-given
returns-clause-given c = next_of

pub returns-clause-grow : goal.returns-clause-grow
returns-clause-grow c = kept_more
