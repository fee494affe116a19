-- What a call of the cut-over asks. (This project's rule.)
use Rattle.std.specs.Prelude.{[], ◌∷◌}
use Rattle.base_values.specs.ToolNames.{ghost_name, old_name}
use Rattle.server_model.specs.declared.request.Request.{Request}
use Rattle.server_model.specs.declared.request.Request.TheVariants as requests
use Rattle.tool_changelog.specs.ToolTables.{sentry_schema}
use Rattle.tool_program.specs.declared.cutover_core.calls.CutOverCall.{CutOverCall}
use Rattle.tool_program.specs.declared.cutover_core.calls.CutOverCall.TheVariants.{MakeSentry, Lock, WriteHint, ShowCounter, SetCounter, Exchange, ShowWaiting, DropSentry, Unlock, ShowTables, DropFirst}
use Rattle.tool_program.specs.declared.cutover_core.cutover.CutOver.{CutOver}
use Rattle.tool_program.specs.CutoverCore.Attempts.{exchange, writes_hint, first_name}

abbrev pub asked_in : CutOver → CutOverCall → Request
asked_in cutover MakeSentry = requests.Create (sentry_schema cutover.table)
asked_in cutover Lock = requests.LockTables (cutover.table ∷ old_name cutover.table ∷ [])
asked_in cutover WriteHint = writes_hint cutover.table cutover.attempts
asked_in cutover ShowCounter = requests.ShowCounter cutover.table
asked_in cutover (SetCounter number) = requests.SetCounter (ghost_name cutover.table) number
asked_in cutover Exchange = exchange cutover.table
asked_in cutover ShowWaiting = requests.ShowWaiting
asked_in cutover DropSentry = requests.Drop (old_name cutover.table)
asked_in cutover Unlock = requests.Unlock
asked_in cutover ShowTables = requests.ShowTables
asked_in cutover (DropFirst left) = requests.Drop (first_name cutover.table left)
