-- The parts of a table whose items are this program's, and the names that its keys get.
use Rattle.std.proofs.Common.{◌≡◌, ℕ, Bool, true, false, cond, List, [], ◌∷◌, None, refl, arith}
use Rattle.std.specs.Prelude.{is_none}
use Rattle.std.specs.List.{AllByRecursion}
use Rattle.sql_create.specs.declared.keys.NamedKeys.{NamedKeys}
use Rattle.sql_create.specs.declared.parts.Parts.{Parts}
use Rattle.sql_create.specs.declared.written.Item.{Item}
use Rattle.sql_create.specs.declared.written.Item.TheVariants.{Column, Primary, Key}
use Rattle.sql_create.specs.declared.written.WrittenColumn.{WrittenColumn}
use Rattle.sql_create.specs.declared.written.WrittenKey.{WrittenKey}
use Rattle.sql_create.specs.Keys.{no_keys, with_key, named_keys}
use Rattle.base_values.specs.SchemaRules.Valid.{is_kind}
use Rattle.sql_create.specs.Parts.{no_parts, own_primary, own_key, with_item, parts_of}
use Rattle.proof_schemas.proofs.Grammar.{HasColumns, IsItem}
use Rattle.base_values.proofs.SchemaRules.Lists.{All-append, fold-keeps}

abbrev pub IsWritten : WrittenColumn → Type 0
IsWritten column = is_kind column.kind ≡ true

abbrev pub KeyHas : WrittenKey → Type 0
KeyHas key = HasColumns key.text.columns

-- kinds of this program's columns, and keys with columns
pub record AreParts (parts : Parts) : Type 0 where
  pub columns : AllByRecursion IsWritten parts.columns
  pub primaries : AllByRecursion HasColumns parts.primaries
  pub keys : AllByRecursion KeyHas parts.keys

own_primary-has : (name : List ℕ) (b : Bool) → AllByRecursion HasColumns (cond b ((name ∷ []) ∷ []) [])
own_primary-has name true = (omega arith, tt)
own_primary-has name false = tt

own_key-has : (key : WrittenKey) (b : Bool) → KeyHas key → AllByRecursion KeyHas (cond b (key ∷ []) [])
own_key-has key true has = (has, tt)
own_key-has key false has = tt

with_item-are : (parts : Parts) (item : Item) → AreParts parts → IsItem item → AreParts (with_item parts item)
with_item-are parts (Column column) are is = record {
  columns = All-append IsWritten parts.columns (column ∷ []) are.columns (is, tt);
  primaries = All-append HasColumns parts.primaries (own_primary column) are.primaries (own_primary-has column.name column.attributes.is_primary);
  keys = All-append KeyHas parts.keys (own_key column) are.keys (own_key-has (record { is_unique = true; text = record { name = None; columns = column.name ∷ [] } }) column.attributes.is_unique (omega arith));
}
with_item-are parts (Primary names) are is = record { columns = are.columns; primaries = All-append HasColumns parts.primaries (names ∷ []) are.primaries (is, tt); keys = are.keys }
with_item-are parts (Key key) are is = record { columns = are.columns; primaries = are.primaries; keys = All-append KeyHas parts.keys (key ∷ []) are.keys (is, tt) }

pub parts_of-are : (items : List Item) → AllByRecursion IsItem items → AreParts (parts_of items)
unfolding parts_of
parts_of-are items all = fold-keeps AreParts IsItem with_item with_item-are no_parts items (record { columns = tt; primaries = tt; keys = tt }) all

-- ---- names of keys

-- a key with columns and a name
abbrev pub IsNamed : WrittenKey → Type 0
IsNamed key = KeyHas key × (is_none key.text.name ≡ false)

with_key-are : (names : List (List ℕ)) (named : NamedKeys) (key : WrittenKey) → AllByRecursion IsNamed named.keys → KeyHas key → AllByRecursion IsNamed (with_key names named key).keys
with_key-are names named key all has = All-append IsNamed named.keys _ all ((has, refl), tt)

pub named_keys-are : (names : List (List ℕ)) (keys : List WrittenKey) → AllByRecursion KeyHas keys → AllByRecursion IsNamed (named_keys names keys).keys
unfolding named_keys
named_keys-are names keys all = fold-keeps (λ (named : NamedKeys). AllByRecursion IsNamed named.keys) KeyHas (with_key names) (with_key-are names) no_keys keys tt all
