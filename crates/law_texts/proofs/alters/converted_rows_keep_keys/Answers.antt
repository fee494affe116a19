use Rattle.proof_schemas.proofs.Alters.ConvertedRowTables.{clustered_keys_kept}
use Rattle.proof_schemas.proofs.Alters.KeepingKeys.{keeps_keys, stay_apart, clustered_stay}
use Rattle.law_texts.proofs.alters.converted_rows_keep_keys.Goals as goal

pub returns-clause-keys : goal.returns-clause-keys
returns-clause-keys c = keeps_keys

pub returns-clause-apart : goal.returns-clause-apart
returns-clause-apart c = stay_apart

pub returns-clause-clustered : goal.returns-clause-clustered
returns-clause-clustered c = clustered_stay

pub returns-clause-clustered_keys : goal.returns-clause-clustered_keys
returns-clause-clustered_keys c = clustered_keys_kept
