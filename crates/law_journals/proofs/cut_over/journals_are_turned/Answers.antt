use Rattle.proof_migration.proofs.CutOver.Renames.{journals_turned}
use Rattle.law_journals.proofs.cut_over.journals_are_turned.Goals as goal

pub returns : goal.returns
returns c =
    journals_turned (record {
      clients = c.clients_are_turned.ensures;
      operators = c.operators_are_turned.ensures;
      lockers = c.lockers_are_turned.ensures;
      renamers = c.renamers_are_turned.ensures;
      inspectors = c.inspectors_are_turned.ensures;
      copiers = c.copiers_are_turned.ensures;
      appliers = c.appliers_are_turned.ensures;
    })
