-- The options of a plan: their types, ranges and defaults. The ranges are this project's rule.
use Rattle.std.specs.Prelude.{codes, ℕ, pos, ℤ, ◌||◌, int_lt, nat_abs, if◌then◌else◌, List, Option, Result, Ok, Err}
use Rattle.std.specs.Option.{option_and_then}
use Rattle.toml.specs.Data.{Data, Members, get_member}
use Rattle.base_values.specs.SchemaRules.Results.{◌>>=◌}
use Rattle.plan_data.specs.declared.options.Options.{Options}
use Rattle.plan_data.specs.PlanOptions.{default_options}
use Rattle.plan_keys.specs.declared.fault.KeyRefusal.{KeyRefusal}
use Rattle.plan_keys.specs.declared.fault.KeyRefusal.TheVariants.{OutOfRange}
use Rattle.plan_keys.specs.declared.options.NumberKeys.{NumberKeys}
use Rattle.plan_keys.specs.declared.options.TruthKeys.{TruthKeys}
use Rattle.plan_keys.specs.declared.options.VersionTwoKeys.{VersionTwoKeys}
use Rattle.plan_keys.specs.declared.options.VersionTwoNumbers.{VersionTwoNumbers}
use Rattle.plan_keys.specs.Documents.{number_or, truth_or}

-- what is at a key of the options, where there are some
abbrev pub option_at : List ℕ → Option Members → Option Data
option_at key options = option_and_then (get_member key) options

-- the numbers of the options that version 2 has besides
unfoldable pub version_two_in : Option Members → Result VersionTwoKeys KeyRefusal
version_two_in options = do
  notes ← number_or default_options.notes (option_at (codes "notes") options)
  note_every ← number_or default_options.note_every (option_at (codes "note_every") options)
  replica_step ← number_or default_options.replica_step (option_at (codes "replica_step") options)
  replica_pause ← number_or default_options.replica_pause (option_at (codes "replica_pause") options)
  max_lag ← number_or default_options.max_lag (option_at (codes "max_lag") options)
  Ok (record {
    notes = notes;
    note_every = note_every;
    replica_step = replica_step;
    replica_pause = replica_pause;
    max_lag = max_lag;
  })

-- the numbers of the options
unfoldable pub numbers_in : Option Members → Result NumberKeys KeyRefusal
numbers_in options = do
  chunk_size ← number_or default_options.chunk_size (option_at (codes "chunk_size") options)
  dml_batch_size ← number_or default_options.dml_batch_size (option_at (codes "dml_batch_size") options)
  default_retries ← number_or default_options.default_retries (option_at (codes "default_retries") options)
  max_backlog ← number_or default_options.max_backlog (option_at (codes "max_backlog") options)
  drain_limit ← number_or default_options.drain_limit (option_at (codes "drain_limit") options)
  client_wait ← number_or default_options.client_wait (option_at (codes "client_wait") options)
  tool_wait ← number_or default_options.tool_wait (option_at (codes "tool_wait") options)
  max_load ← number_or default_options.max_load (option_at (codes "max_load") options)
  turn_limit ← number_or default_options.turn_limit (option_at (codes "turn_limit") options)
  version_two ← version_two_in options
  Ok (record {
    chunk_size = chunk_size;
    dml_batch_size = dml_batch_size;
    default_retries = default_retries;
    max_backlog = max_backlog;
    drain_limit = drain_limit;
    client_wait = client_wait;
    tool_wait = tool_wait;
    max_load = max_load;
    turn_limit = turn_limit;
    version_two = version_two;
  })

-- the options that are true or false
unfoldable pub truths_in : Option Members → Result TruthKeys KeyRefusal
truths_in options = do
  approve_renamed_columns ← truth_or default_options.approve_renamed_columns (option_at (codes "approve_renamed_columns") options)
  initially_drop_ghost_table ← truth_or default_options.initially_drop_ghost_table (option_at (codes "initially_drop_ghost_table") options)
  initially_drop_old_table ← truth_or default_options.initially_drop_old_table (option_at (codes "initially_drop_old_table") options)
  ok_to_drop_table ← truth_or default_options.ok_to_drop_table (option_at (codes "ok_to_drop_table") options)
  postpone ← truth_or default_options.postpone (option_at (codes "postpone") options)
  show_history ← truth_or default_options.show_history (option_at (codes "show_history") options)
  show_turns ← truth_or default_options.show_turns (option_at (codes "show_turns") options)
  show_tables ← truth_or default_options.show_tables (option_at (codes "show_tables") options)
  show_replies ← truth_or default_options.show_replies (option_at (codes "show_replies") options)
  resume ← truth_or default_options.resume (option_at (codes "resume") options)
  Ok (record {
    approve_renamed_columns = approve_renamed_columns;
    initially_drop_ghost_table = initially_drop_ghost_table;
    initially_drop_old_table = initially_drop_old_table;
    ok_to_drop_table = ok_to_drop_table;
    postpone = postpone;
    show_history = show_history;
    show_turns = show_turns;
    show_tables = show_tables;
    show_replies = show_replies;
    resume = resume;
  })

-- a number from low to high
unfoldable pub within : ℕ → ℕ → ℤ → Result ℕ KeyRefusal
within low high number = if int_lt number (pos low) || int_lt (pos high) number then Err OutOfRange else Ok (nat_abs number)

-- the numbers that version 2 has besides, where each is in its range
unfoldable pub version_two_within : VersionTwoKeys → Result VersionTwoNumbers KeyRefusal
version_two_within numbers = do
  notes ← within 0 1000 numbers.notes
  note_every ← within 1 100000 numbers.note_every
  replica_step ← within 0 1000 numbers.replica_step
  replica_pause ← within 1 1000 numbers.replica_pause
  max_lag ← within 1 1000 numbers.max_lag
  Ok (record {
    notes = notes;
    note_every = note_every;
    replica_step = replica_step;
    replica_pause = replica_pause;
    max_lag = max_lag;
  })

-- the options, where each number is in its range
unfoldable pub options_within : NumberKeys → TruthKeys → Result Options KeyRefusal
options_within numbers truths = do
  chunk_size ← within 1 100000 numbers.chunk_size
  dml_batch_size ← within 1 1000 numbers.dml_batch_size
  default_retries ← within 1 1000 numbers.default_retries
  max_backlog ← within 0 100000 numbers.max_backlog
  drain_limit ← within 1 100000 numbers.drain_limit
  client_wait ← within 1 100000 numbers.client_wait
  tool_wait ← within 1 100000 numbers.tool_wait
  max_load ← within 0 64 numbers.max_load
  turn_limit ← within 1 1000000 numbers.turn_limit
  version_two ← version_two_within numbers.version_two
  Ok (record {
    chunk_size = chunk_size;
    dml_batch_size = dml_batch_size;
    default_retries = default_retries;
    max_backlog = max_backlog;
    drain_limit = drain_limit;
    client_wait = client_wait;
    tool_wait = tool_wait;
    max_load = max_load;
    turn_limit = turn_limit;
    notes = version_two.notes;
    note_every = version_two.note_every;
    replica_step = version_two.replica_step;
    replica_pause = version_two.replica_pause;
    max_lag = version_two.max_lag;
    resume = truths.resume;
    approve_renamed_columns = truths.approve_renamed_columns;
    initially_drop_ghost_table = truths.initially_drop_ghost_table;
    initially_drop_old_table = truths.initially_drop_old_table;
    ok_to_drop_table = truths.ok_to_drop_table;
    postpone = truths.postpone;
    show_history = truths.show_history;
    show_turns = truths.show_turns;
    show_tables = truths.show_tables;
    show_replies = truths.show_replies;
  })
