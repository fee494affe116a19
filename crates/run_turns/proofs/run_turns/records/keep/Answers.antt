use Rattle.run_turns.proofs.RunTurns.Ranging.{read_ahead}
use Rattle.run_turns.proofs.run_turns.records.keep.Goals as goal

pub take-requires-clause-range : goal.take-requires-clause-range
take-requires-clause-range c = read_ahead c.args.run_state.now.tool.setup c.args.ahead c.range_reported.result c.args.taken.entry.answer c.range_reported.ensures c.requires.reported
