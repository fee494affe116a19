use Rattle.proof_migration.proofs.CutOver.Renames.{renames_marked}
use Rattle.law_journals.proofs.cut_over.renames_come_at_the_mark.Goals as goal

pub returns : goal.returns
returns c = renames_marked c.exclusive_is_alone.ensures c.definitions_are_done.ensures c.waits_are_reported.ensures.reported c.journals_are_turned.ensures
