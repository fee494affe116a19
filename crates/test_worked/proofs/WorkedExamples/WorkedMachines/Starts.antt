-- The machines at their starts, on a table `t`.
use Rattle.std.proofs.Common.{◌≡◌, List, false, [], ◌∷◌, Some, refl, codes}
use Rattle.std.specs.Prelude.{pos}
use Rattle.std.specs.Fmt.{digits}
use Rattle.base_values.specs.declared.value.Value.{Value}
use Rattle.base_values.specs.declared.value.Value.TheVariants.{Num, Text}
use Rattle.base_values.specs.declared.span.Bound.TheVariants.{Closed}
use Rattle.base_values.specs.declared.gho_schema.schema.Schema.{Schema}
use Rattle.server_model.specs.declared.request.Request.TheVariants as requests
use Rattle.tool_changelog.specs.Hints.{hint_row, hint_of}
use Rattle.base_values.specs.ToolNames.{log_name}
use Rattle.tool_changelog.specs.ToolTables.{sentry_schema}
use Rattle.tool_program.specs.ChunkCopier.Copiers as copier
use Rattle.tool_program.specs.EventApplier.Appliers as applier
use Rattle.tool_program.specs.CutoverCore.Attempts as cutover
use Rattle.tool_program.specs.declared.cutover_core.cutover.Role.TheVariants.{Locker}

-- the hint row of the second attempt, and its reading
second_hint : hint_row 2 ≡ Num (pos 2) ∷ Text (codes "cut-over") ∷ Text (codes "2") ∷ []
unfolding hint_row digits
second_hint = refl

second_hint_read : hint_of (hint_row 2) ≡ Some 2
unfolding hint_row digits
second_hint_read = refl

-- a copier of the rows from 1 to 5, in chunks of 2: it asks where the first chunk ends
one : List Value
one = Num (pos 1) ∷ []

five : List Value
five = Num (pos 5) ∷ []

first_chunk : copier.next [] (copier.new_copier (codes "t") [] (Some (record { low = Closed one; top = five })) 2) ≡ Some (requests.ChunkEnd (codes "t") (Closed one) five 2)
unfolding copier.next
first_chunk = refl

-- an applier in batches of 10: it reads the log from its start
first_read : (schema : Schema) → applier.next [] (applier.new_applier (codes "t") schema [] 0 10) ≡ requests.ReadLog 0 10 (codes "t" ∷ codes "_t_ghc" ∷ [])
unfolding applier.next log_name
first_read schema = refl

-- a cut-over: the locker makes the sentry
first_lock : cutover.next Locker (cutover.new_cutover (codes "t") 10 false false) ≡ Some (requests.Create (sentry_schema (codes "t")))
unfolding cutover.next
first_lock = refl
