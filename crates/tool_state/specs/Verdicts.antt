-- What a verdict means that is seen where its parts are. (This project's rule.)
use Rattle.std.specs.Prelude.{List}
use Rattle.base_values.specs.declared.value.Value.{Value}
use Rattle.base_values.specs.GhoSchema.Rows.{key_of}
use Rattle.server_model.specs.declared.outcome.Cause.{Cause}
use Rattle.server_model.specs.declared.outcome.Cause.TheVariants as causes
use Rattle.server_model.specs.declared.outcome.Verdict.{Verdict}
use Rattle.server_model.specs.declared.outcome.Verdict.TheVariants as verdicts
use Rattle.tool_state.specs.declared.verdict_view.KeyView.{KeyView}
use Rattle.tool_state.specs.declared.verdict_view.KeyView.TheVariants.{Values, Of}
use Rattle.tool_state.specs.declared.verdict_view.CauseView.{CauseView}
use Rattle.tool_state.specs.declared.verdict_view.CauseView.TheVariants.{Unfit, Spent, Panic}
use Rattle.tool_state.specs.declared.verdict_view.VerdictView.{VerdictView}
use Rattle.tool_state.specs.declared.verdict_view.VerdictView.TheVariants.{Done, Reverted, Unfinished}

abbrev pub key_meant : KeyView → List Value
key_meant (Values values) = values.now
key_meant (Of row places) = key_of places.now row.now

abbrev pub cause_meant : CauseView → Cause
cause_meant (Unfit turn key column number) = causes.Unfit turn (key_meant key) column.now number
cause_meant (Spent task turns) = causes.Spent task turns.now
cause_meant (Panic turn) = causes.Panic turn

-- *The verdict that is meant*
abbrev pub verdict_meant : VerdictView → Verdict
verdict_meant Done = verdicts.Done
verdict_meant (Reverted cause) = verdicts.Reverted (cause_meant cause)
verdict_meant Unfinished = verdicts.Unfinished
