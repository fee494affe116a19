-- The texts of a plan's keys have bytes, where those of its document have.
use Rattle.std.proofs.Common.{ℕ, not, List, Option, Some, None, Result, Ok, Err, codes}
use Rattle.std.specs.declared.cmp.Ordering.{Ordering}
use Rattle.std.specs.declared.cmp.Ordering.TheVariants.{Less, Equal, Greater}
use Rattle.std.specs.Cmp.Lexicographic.{slice_cmp}
use Rattle.std.specs.List.{AllByRecursion}
use Rattle.std.specs.Option.{IfSome}
use Rattle.std.specs.Ordering.{match_ordering, nat_cmp}
use Rattle.std.specs.Result.{IfOk}
use Rattle.toml.specs.Data.{Data, string, integer, float, boolean, datetime, array, table, Items, no_items, item, Members, no_members, member, as_table, get_member}
use Rattle.base_values.specs.SchemaRules.Results.{◌>>=◌}
use Rattle.plan_keys.specs.declared.fault.KeyRefusal.TheVariants.{MissingKey, TooMany, UnknownKey}
use Rattle.plan_keys.specs.Documents.{needed_number, needed_text, table_or_none, text_in, text_or_empty, texts_or_none}
use Rattle.plan_keys.specs.Known.{has_needed_keys, knows_keys}
use Rattle.plan_keys.specs.Limits.{TableData, TextData, has_too_many}
use Rattle.plan_keys.specs.Options.{numbers_in, options_within, truths_in, within}
use Rattle.plan_keys.specs.PlanKeys.{KeyData, TypedData, few, in_range, keys_of, needed_tables, table_in, table_of, texts_of, typed_of}
use Rattle.plan_keys.specs.Walks.{each_item}
use Rattle.proof_plain.specs.Plain.{AreBytes}
use Rattle.proof_literals.proofs.ReadBytes.Documents.{BytesData, BytesItems, BytesMembers}
use Rattle.proof_literals.proofs.ReadBytes.Steps.{ok_if, ok_then, then_ok}

-- ---- what is at a key

found_bytes : (name : List ℕ) (members : Members) → BytesMembers members → IfSome (get_member name members) BytesData
found_bytes name no_members are = tt
found_bytes name (member own one others) are = by (slice_cmp nat_cmp name own) (found_bytes name others are.1) where
  by : (o : Ordering) → IfSome (get_member name others) BytesData → IfSome (match_ordering o (get_member name others) (Some one) (get_member name others)) BytesData
  by Less rest = rest
  by Equal rest = are.0
  by Greater rest = rest

text_bytes : (one : Data) → BytesData one → IfOk (text_in one) AreBytes
text_bytes (string text) is = is
text_bytes (integer number) is = tt
text_bytes (float number) is = tt
text_bytes (boolean truth) is = tt
text_bytes (datetime moment) is = tt
text_bytes (array own) is = tt
text_bytes (table own) is = tt

needed_bytes : (found : Option Data) → IfSome found BytesData → IfOk (needed_text found) AreBytes
needed_bytes None is = tt
needed_bytes (Some one) is = text_bytes one is

each_bytes : {A C : Type 0} (P : A → Type 0) (read : Data → Result A C) → ((one : Data) → BytesData one → IfOk (read one) P) → (all : Items) → BytesItems all → IfOk (each_item read all) (AllByRecursion P)
unfolding each_item
each_bytes P read each no_items are = tt
each_bytes P read each (item one others) are =
    ok_then P (AllByRecursion P) (read one) _ (each one are.0) (λ first is. ok_then (AllByRecursion P) (AllByRecursion P) (each_item read others) _ (each_bytes P read each others are.1) (λ more all. (is, all)))

texts_bytes : (found : Option Data) → IfSome found BytesData → IfOk (texts_or_none found) (AllByRecursion AreBytes)
texts_bytes None is = tt
texts_bytes (Some (string text)) is = tt
texts_bytes (Some (integer number)) is = tt
texts_bytes (Some (float number)) is = tt
texts_bytes (Some (boolean truth)) is = tt
texts_bytes (Some (datetime moment)) is = tt
texts_bytes (Some (array own)) is = each_bytes AreBytes text_in text_bytes own is
texts_bytes (Some (table own)) is = tt

-- ---- the texts of a plan

abbrev pub BytesTable : TableData → Type 0
BytesTable one = AreBytes one.create × AllByRecursion AreBytes one.rows

-- what is read of them: the ALTER, the tables and the scripts
pub record BytesTexts (texts : TextData) : Type 0 where
  pub alter : AreBytes texts.alter
  pub tables : AllByRecursion BytesTable texts.tables
  pub clients : AllByRecursion AreBytes texts.clients

table_bytes : (members : Members) → BytesMembers members → IfOk (table_of members) BytesTable
unfolding table_of
table_bytes members are =
    ok_then AreBytes BytesTable (needed_text (get_member (codes "create") members)) _ (needed_bytes _ (found_bytes (codes "create") members are))
    (λ create is. ok_then (AllByRecursion AreBytes) BytesTable (texts_or_none (get_member (codes "rows") members)) _ (texts_bytes _ (found_bytes (codes "rows") members are)) (λ rows all. (is, all)))

one_bytes : (one : Data) → BytesData one → IfOk (table_in (as_table one)) BytesTable
one_bytes (string text) is = tt
one_bytes (integer number) is = tt
one_bytes (float number) is = tt
one_bytes (boolean truth) is = tt
one_bytes (datetime moment) is = tt
one_bytes (array own) is = tt
one_bytes (table own) is = table_bytes own is

tables_bytes : (found : Option Data) → IfSome found BytesData → IfOk (needed_tables found) (AllByRecursion BytesTable)
tables_bytes None is = tt
tables_bytes (Some (string text)) is = tt
tables_bytes (Some (integer number)) is = tt
tables_bytes (Some (float number)) is = tt
tables_bytes (Some (boolean truth)) is = tt
tables_bytes (Some (datetime moment)) is = tt
tables_bytes (Some (array own)) is = each_bytes BytesTable (λ one. table_in (as_table one)) one_bytes own is
tables_bytes (Some (table own)) is = tt

all_bytes : (members : Members) → BytesMembers members → IfOk (texts_of members) BytesTexts
unfolding texts_of
all_bytes members are =
    then_ok BytesTexts (needed_text (get_member (codes "table") members)) _
    (λ name. ok_then AreBytes BytesTexts (needed_text (get_member (codes "alter") members)) _ (needed_bytes _ (found_bytes (codes "alter") members are))
    (λ alter is. ok_then (AllByRecursion BytesTable) BytesTexts (needed_tables (get_member (codes "tables") members)) _ (tables_bytes _ (found_bytes (codes "tables") members are))
    (λ tables all. ok_then (AllByRecursion AreBytes) BytesTexts (texts_or_none (get_member (codes "clients") members)) _ (texts_bytes _ (found_bytes (codes "clients") members are))
    (λ clients each. then_ok BytesTexts (text_or_empty (get_member (codes "operator") members)) _
    (λ operator. then_ok BytesTexts (texts_or_none (get_member (codes "faults") members)) _
    (λ faults. then_ok BytesTexts (text_or_empty (get_member (codes "turns") members)) _ (λ turns. record { alter = is; tables = all; clients = each })))))))

abbrev BytesTyped : TypedData → Type 0
BytesTyped typed = BytesTexts typed.texts

typed_bytes : (members : Members) → BytesMembers members → IfOk (typed_of members) BytesTyped
unfolding typed_of
typed_bytes members are =
    then_ok BytesTyped (needed_number (get_member (codes "version") members)) _
    (λ version. ok_then BytesTexts BytesTyped (texts_of members) _ (all_bytes members are)
    (λ texts own. then_ok BytesTyped (table_or_none (get_member (codes "options") members)) _
    (λ options. then_ok BytesTyped (numbers_in options) _ (λ numbers. then_ok BytesTyped (truths_in options) _ (λ truths. own)))))

abbrev BytesKeys : KeyData → Type 0
BytesKeys keys = BytesTexts keys.texts

range_bytes : (typed : TypedData) → BytesTyped typed → IfOk (in_range typed) BytesKeys
unfolding in_range
range_bytes typed are = then_ok BytesKeys (within 1 2 typed.version) _ (λ version. then_ok BytesKeys (options_within typed.numbers typed.truths) _ (λ options. are))

-- *Keys have texts of bytes*
pub keys_bytes : (members : Members) → BytesMembers members → IfOk (keys_of members) (λ keys. BytesTexts keys.texts)
unfolding keys_of
keys_bytes members are =
    ok_if BytesKeys (not (knows_keys members)) (Err UnknownKey) _ tt (ok_if BytesKeys (not (has_needed_keys members)) (Err MissingKey) _ tt
    (ok_then BytesKeys BytesKeys (typed_of members >>= in_range) few (ok_then BytesTyped BytesKeys (typed_of members) in_range (typed_bytes members are) range_bytes)
    (λ keys own. ok_if BytesKeys (has_too_many keys.texts) (Err TooMany) (Ok keys) tt own)))
