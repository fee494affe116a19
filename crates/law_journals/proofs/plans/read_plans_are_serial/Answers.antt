use Rattle.proof_plans.proofs.ReadPlans.Plans.{plans_alterable, plans_serial, tables_exist}
use Rattle.law_journals.proofs.plans.read_plans_are_serial.Goals as goal

pub returns : goal.returns
returns c = record {
  serial = plans_serial c.read_plans_are_accepted.ensures;
  stands = tables_exist c.read_plans_are_accepted.ensures;
  alterable = plans_alterable c.read_plans_are_accepted.ensures;
}
