-- What was answered in an earlier turn, read back in the journal: the tool keeps the numbers of such turns and no lists.
-- (This project's rule.)
use Rattle.std.specs.Prelude.{List, [], Option, Some}
use Rattle.base_values.specs.declared.value.Value.{Value}
use Rattle.base_values.specs.declared.event.RowEvent.{RowEvent}
use Rattle.server_model.specs.declared.answer.Answer.{Answer}
use Rattle.server_model.specs.declared.answer.Answer.TheVariants as answers

-- the keys of a chunk, and where the chunk ends, as the copier got them
abbrev pub keys_in : Option Answer → List (List Value)
keys_in (Some (answers.Keys keys end)) = keys
keys_in answer = []

abbrev pub end_in : Option Answer → List Value
end_in (Some (answers.Keys keys end)) = end
end_in (Some (answers.End end)) = end
end_in answer = []

-- the events of a batch, as the applier got them
abbrev pub events_in : Option Answer → List RowEvent
events_in (Some (answers.Events events next)) = events
events_in answer = []
