-- What every plan that is read has, with nothing asked.
use Rattle.std.proofs.Common.{refl}
use Rattle.base_values.specs.Laws.{StoresNullWhereNullable}
use Rattle.base_values.specs.declared.value.Value.TheVariants.{Null}
use Rattle.base_values.proofs.StoredValues.{keeps}
use Rattle.table_store.specs.Laws.{PutKeepsTables}
use Rattle.table_store.proofs.TableLaws.{put_keeps}
use Rattle.proof_schemas.proofs.Alters.Clauses.{read-clauses}
use Rattle.proof_schemas.proofs.Alters.ConvertedRowTables.{clustered_keys_kept}
use Rattle.proof_schemas.proofs.Alters.KeepingKeys.{stay_apart}
use Rattle.proof_schemas.proofs.Alters.TableNames.{keep_names}
use Rattle.proof_schemas.proofs.ReadAgain.ReadDeclared.{read-declared}
use Rattle.proof_schemas.proofs.Stored.{schemas_valid, stores_again}
use Rattle.proof_plans.specs.ReadPlans.Laws.{ReadPlansAreWorded}
use Rattle.proof_plans.specs.ReadPlans.Schemas.{ReadPlansAreAccepted}
use Rattle.proof_plans.proofs.ReadPlans.Schemas.Accepted.{plans_are}
use Rattle.proof_plans.proofs.ReadPlans.Plans.{plans_worded}
use Rattle.proof_plans.proofs.ReadPlans.Tables.{Laws}

where_nullable : StoresNullWhereNullable
where_nullable = λ value kind nullable e. (keeps value kind nullable Null e).null refl

put_keeps_tables : PutKeepsTables
put_keeps_tables = put_keeps where_nullable

pub plans_accepted : ReadPlansAreAccepted
plans_accepted = plans_are (record {
  valid = schemas_valid;
  keys = clustered_keys_kept;
  apart = stay_apart;
  names = keep_names;
  again = stores_again;
  put = put_keeps_tables;
})

-- what the crates below say of tables
pub read_laws : Laws
read_laws = record { valid = schemas_valid; declared = read-declared; again = stores_again; put = put_keeps_tables }

pub read_worded : ReadPlansAreWorded
read_worded = plans_worded read_laws read-clauses
