use Rattle.proof_schemas.proofs.Stored.{schemas_valid}
use Rattle.proof_plans.proofs.reader.read_accepted_plan.Goals as goal

pub read_plan-requires : goal.read_plan-requires
read_plan-requires c = schemas_valid
