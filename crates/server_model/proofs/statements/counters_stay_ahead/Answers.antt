use Rattle.server_model.proofs.LockedRows.Counters.{new_rows_below, counters_never_fall, numbers_are_counters}
use Rattle.server_model.proofs.statements.counters_stay_ahead.Goals as goal

pub returns-clause-below : goal.returns-clause-below
returns-clause-below c = new_rows_below

pub returns-clause-rise : goal.returns-clause-rise
returns-clause-rise c = counters_never_fall

pub returns-clause-drawn : goal.returns-clause-drawn
returns-clause-drawn c = numbers_are_counters
