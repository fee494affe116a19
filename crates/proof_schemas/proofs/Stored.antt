-- What is lawful since values that are stored are stored again as themselves.
use Rattle.base_values.specs.Laws.{StoresAgain}
use Rattle.base_values.proofs.StoredValues.{keeps}
use Rattle.sql_create.specs.Laws.{ReadSchemasAreValid}
use Rattle.proof_schemas.specs.Alters.Laws.{AlteredSchemasAreValid}
use Rattle.proof_schemas.proofs.Valid.{read-valid}
use Rattle.proof_schemas.proofs.Alters.KeepingLaws.{altered-valid}

pub stores_again : StoresAgain
stores_again = λ value kind nullable stored e. (keeps value kind nullable stored e).again

pub schemas_valid : ReadSchemasAreValid
schemas_valid = read-valid stores_again

pub alters_valid : AlteredSchemasAreValid
alters_valid = altered-valid stores_again
