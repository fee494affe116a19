-- The options of a plan that says nothing of them. This project's rule; gh-ost's defaults where it has the option.
use Rattle.std.specs.Prelude.{true, false}
use Rattle.plan_data.specs.declared.options.Options.{Options}

abbrev pub default_options : Options
default_options = record {
  chunk_size = 1000;
  dml_batch_size = 10;
  default_retries = 60;
  max_backlog = 100;
  drain_limit = 2000;
  client_wait = 20000;
  tool_wait = 2000;
  max_load = 64;
  turn_limit = 200000;
  notes = 0;
  note_every = 100;
  replica_step = 0;
  replica_pause = 1;
  max_lag = 10;
  resume = false;
  approve_renamed_columns = false;
  initially_drop_ghost_table = false;
  initially_drop_old_table = false;
  ok_to_drop_table = false;
  postpone = false;
  show_history = false;
  show_turns = false;
  show_tables = true;
  show_replies = true;
}
