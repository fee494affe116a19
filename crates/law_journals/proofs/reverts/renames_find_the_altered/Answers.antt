use Rattle.proof_migration.proofs.Reverted.{renames_altered}
use Rattle.law_journals.proofs.reverts.renames_find_the_altered.Goals as goal

pub returns : goal.returns
returns c =
    renames_altered c.stored_values_store_again.ensures c.alterable_plans_are_runnable.ensures c.followers_alter.ensures c.journals_are_turned.ensures c.exclusive_is_alone.ensures c.definitions_are_done.ensures c.waits_are_reported.ensures.reported
