-- What is at a key of a document (the TOML specification, as the library `toml` states it).
use Rattle.std.specs.Prelude.{ℕ, pos, ℤ, Bool, List, [], Option, Some, None, Result, Ok, Err}
use Rattle.std.specs.Option.{option_map}
use Rattle.toml.specs.Data.{Data, Items, Members, as_str, as_integer, as_bool, as_array, as_table}
use Rattle.plan_keys.specs.declared.fault.KeyRefusal.{KeyRefusal}
use Rattle.plan_keys.specs.declared.fault.KeyRefusal.TheVariants.{MissingKey, WrongType}
use Rattle.plan_keys.specs.Refusals.{typed}
use Rattle.plan_keys.specs.Walks.{each_item}

-- the text that a value is
abbrev pub text_in : Data → Result (List ℕ) KeyRefusal
text_in value = typed (as_str value)

-- the text at a key that a plan has to have
abbrev pub needed_text : Option Data → Result (List ℕ) KeyRefusal
needed_text None = Err MissingKey
needed_text (Some value) = text_in value

-- the text at another key; the empty one where it isn't there
abbrev pub text_or_empty : Option Data → Result (List ℕ) KeyRefusal
text_or_empty None = Ok []
text_or_empty (Some value) = text_in value

-- the texts that a value is an array of
abbrev pub texts_in : Option Items → Result (List (List ℕ)) KeyRefusal
texts_in None = Err WrongType
texts_in (Some items) = each_item text_in items

-- the texts at a key; none where it isn't there
abbrev pub texts_or_none : Option Data → Result (List (List ℕ)) KeyRefusal
texts_or_none None = Ok []
texts_or_none (Some value) = texts_in (as_array value)

-- the table at a key, where it is there
abbrev pub table_or_none : Option Data → Result (Option Members) KeyRefusal
table_or_none None = Ok None
table_or_none (Some value) = typed (option_map Some (as_table value))

-- the number at a key that a plan has to have
abbrev pub needed_number : Option Data → Result ℤ KeyRefusal
needed_number None = Err MissingKey
needed_number (Some value) = typed (as_integer value)

-- the number and the truth value at other keys; the default where it isn't there
abbrev pub number_or : ℕ → Option Data → Result ℤ KeyRefusal
number_or default None = Ok (pos default)
number_or default (Some value) = typed (as_integer value)

abbrev pub truth_or : Bool → Option Data → Result Bool KeyRefusal
truth_or default None = Ok default
truth_or default (Some value) = typed (as_bool value)
