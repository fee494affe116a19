-- *Bound*: a number of turns for each plan. A run that hasn't ended has fewer (`law_journals::bounds`). (This project's rule; no
-- fairness is asked of the order of turns.)
use Rattle.std.specs.Prelude.{ℕ, ◌+◌, ◌*◌, ◌==◌, length, map, sum, unwrap_or, if◌then◌else◌}
use Rattle.std.specs.Option.{option_map}
use Rattle.table_store.specs.Databases.{find_table}
use Rattle.plan_data.specs.PlanData.{PlanData, has_counter}
use Rattle.tool_program.specs.JournalWords.KeptPlans.{words_of}

-- what the bound is made of
pub record Measures : Type 0 where
  -- the opening rows of the migrated table, the lines of all scripts, the losses, the operator's turns
  pub rows : ℕ
  pub lines : ℕ
  pub losses : ℕ
  pub commands : ℕ
  -- the tries of a task, the polls of a wait of the tool's and of a client's, the events of a batch
  pub tries : ℕ
  pub tool_wait : ℕ
  pub client_wait : ℕ
  pub batch : ℕ
  -- 1 where the migrated table has an AUTO_INCREMENT column, else 0
  pub counters : ℕ
  -- how many notes may be begun: those that the plan asks for, and one for each loss
  pub notes : ℕ

unfoldable pub measures : PlanData → Measures
measures plan =
    record {
      rows = unwrap_or (option_map (λ table. length table.rows) (find_table plan.table plan.tables)) 0;
      lines = sum (map (λ script. length script) plan.clients);
      losses = length plan.faults;
      commands = length (words_of plan);
      tries = plan.options.default_retries;
      tool_wait = plan.options.tool_wait;
      client_wait = plan.options.client_wait;
      batch = plan.options.dml_batch_size;
      counters = if has_counter plan then 1 else 0;
      notes = if plan.options.notes == 0 then 0 else plan.options.notes + length plan.faults;
    }

-- at most this many rows are ever there, and this many events and chunks
abbrev pub keys : Measures → ℕ
keys m = m.rows + m.lines

abbrev pub events : Measures → ℕ
events m = m.lines * (keys m + 9)

abbrev pub chunks : Measures → ℕ
chunks m = m.rows + events m + 1

-- the turns of clients, setup, chunks, batches, attempts (each of which shows the counter and sets it, where there is one), and of
-- losses with what is cleared up
abbrev pub client_turns : Measures → ℕ
client_turns m = m.lines * (1 + m.client_wait)

abbrev pub setup_turns : Measures → ℕ
setup_turns m = 8 * (m.losses + 1)

abbrev pub chunk_turns : Measures → ℕ
chunk_turns m = chunks m * m.tries * ((keys m + 1) * (1 + m.tool_wait) + 2)

abbrev pub batch_turns : Measures → ℕ
batch_turns m = (events m + 4 * m.notes + m.tries) * m.tries * (3 * m.batch * (1 + m.tool_wait) + 3)

abbrev pub attempt_turns : Measures → ℕ
attempt_turns m = m.tries * ((2 + m.counters) * m.tool_wait + 10 + 2 * m.counters)

abbrev pub clearing_turns : Measures → ℕ
clearing_turns m = 6 * m.losses + 2 * m.notes + 5

-- *Bound*
unfoldable pub bound_of : Measures → ℕ
bound_of m = m.commands + client_turns m + setup_turns m + chunk_turns m + batch_turns m + attempt_turns m + clearing_turns m

abbrev pub bound : PlanData → ℕ
bound plan = bound_of (measures plan)
