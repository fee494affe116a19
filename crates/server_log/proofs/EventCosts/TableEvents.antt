-- An event of a table is encoded: its values are few and short, since its texts are UTF-8.
use Rattle.std.proofs.Common.{◌≡◌, ◌+◌, ◌*◌, ◌≤◌, List, [], ◌∷◌, length, ap, ◌∙◌, arith, length-append}
use Rattle.std.specs.List.{AllByRecursion}
use Rattle.base_values.specs.declared.value.Value.{Value}
use Rattle.base_values.specs.declared.value.Value.TheVariants.{Null, Num, Text, Blob}
use Rattle.base_values.specs.declared.event.RowEvent.{RowEvent}
use Rattle.base_values.specs.declared.event.Change.{Change}
use Rattle.base_values.specs.declared.event.Change.TheVariants.{Write, Update, Delete}
use Rattle.base_values.proofs.Characters.{bytes_few}
use Rattle.server_log.specs.Encodings.{columns_of, value_bytes, values_bytes, values_of, IsEncodable, IsEncodableValue, RowsAlike}
use Rattle.server_log.specs.EventCosts.TableEvents.{IsStoredValue, IsTableEvent}
use Rattle.server_log.specs.Laws.{IsHeld}
use Rattle.server_log.proofs.Sizes.{length-null, length-number, length-text, length-blob, length-none, length-body, values_bytes-cons}

value_few : (value : Value) → IsStoredValue value → IsHeld value → length (value_bytes value) ≤ 4005
value_few Null stored held = omega (arith, length-null)
value_few (Num n) stored held = omega (arith, length-number n)
value_few (Text text) stored held = omega (arith, length-text text, bytes_few text held, stored)
value_few (Blob blob) stored held = omega (arith, length-blob blob, stored)

values_few : (values : List Value) → AllByRecursion IsStoredValue values → AllByRecursion IsHeld values → length (values_bytes values) ≤ 4005 * length values
values_few [] stored held = omega (arith, length-none)
values_few (value ∷ values) stored held =
    let here = value_few value stored.0 held.0 in
    let others = values_few values stored.1 held.1 in
    let parts : length (values_bytes (value ∷ values)) ≡ length (value_bytes value) + length (values_bytes values) = ap length (values_bytes-cons value values) ∙ length-append (value_bytes value) (values_bytes values) in
    omega (arith, here, others, parts)

columns_few : (change : Change) → RowsAlike change → columns_of change ≤ 64 → length (values_of change) ≤ 128
columns_few (Write row) alike few = omega (arith, few)
columns_few (Update before after) alike few = omega (arith, few, alike, length-append before after)
columns_few (Delete row) alike few = omega (arith, few)

value_encodes : (value : Value) → IsStoredValue value → IsEncodableValue value
value_encodes Null stored = tt
value_encodes (Num n) stored = stored
value_encodes (Text text) stored = tt
value_encodes (Blob blob) stored = tt

values_encode : (values : List Value) → AllByRecursion IsStoredValue values → AllByRecursion IsEncodableValue values
values_encode [] stored = tt
values_encode (value ∷ values) stored = (value_encodes value stored.0, values_encode values stored.1)

-- *An event of a table is encoded*
pub table_event_encodes : (event : RowEvent) → IsTableEvent event → AllByRecursion IsHeld (values_of event.change) → IsEncodable event
table_event_encodes event is held =
    let values = values_few (values_of event.change) is.values held in
    let columns = columns_few event.change is.alike is.columns in
    let body = length-body event in
    let name = is.name in
    record {
      named = is.named;
      name = name;
      characters = is.characters;
      some = is.some;
      columns = is.columns;
      alike = is.alike;
      numbers = values_encode (values_of event.change) is.values;
      size = omega (arith, values, columns, body, name);
    }

pub ruleset table_events_encode = (table_event_encodes)
