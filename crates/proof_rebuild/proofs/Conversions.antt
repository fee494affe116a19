-- Converted rows of rows that are put, removed and looked for: each is done to the converted rows alike.
use Rattle.std.proofs.Common.{◌≡◌, ℕ, Bool, false, not, List, [], ◌∷◌, find, Some, None, Ok, Ordering, Less, Equal, Greater, refl, sym, ap, ◌∙◌}
use Rattle.std.specs.Ordering.{is_eq, match_ordering}
use Rattle.std.specs.List.{AllByRecursion}
use Rattle.base_values.specs.declared.row_conversion.map.MapColumn.{MapColumn}
use Rattle.base_values.specs.RowConversion.ConvertedRows.{converted_row, converted_rows}
use Rattle.base_values.specs.KeyOrder.{compare_keys}
use Rattle.base_values.specs.GhoSchema.Rows.{key_of, with_row}
use Rattle.base_values.proofs.GhoSchema.Orders.{all-with_row}
use Rattle.base_values.proofs.SchemaRules.Steps.{some_is}
use Rattle.table_store.specs.RowLists.{is_at, without_key}
use Rattle.table_store.proofs.Orders.{Row}
use Rattle.table_store.proofs.Ascending.{none_parts}
use Rattle.proof_rebuild.specs.Shards.{KeepsKey, with_rows}
use Rattle.proof_rebuild.proofs.Converting.{Agrees, IsConverted, converted_parts, converted_some}

-- converted rows are in the order of their rows
same_order : (old new : List ℕ) (map : List MapColumn) (a b one other : Row) → KeepsKey old new map a → KeepsKey old new map b → converted_row map a ≡ Ok one → converted_row map b ≡ Ok other
    → compare_keys (key_of old a) (key_of old b) ≡ compare_keys (key_of new one) (key_of new other)
same_order old new map a b one other keeps too is then =
    ap (λ (key : Row). compare_keys key (key_of old b)) (sym (keeps one is)) ∙ ap (compare_keys (key_of new one)) (sym (too other then))

put_here : (map : List MapColumn) (row first one other : Row) (rows made placed put : List Row) (o : Ordering) → converted_row map row ≡ Ok one → converted_row map first ≡ Ok other → converted_rows map rows ≡ Some made → converted_rows map placed ≡ Some put
    → converted_rows map (match_ordering o (row ∷ first ∷ rows) (row ∷ first ∷ rows) (first ∷ placed)) ≡ Some (match_ordering o (one ∷ other ∷ made) (one ∷ other ∷ made) (other ∷ put))
unfolding converted_rows
put_here map row first one other rows made placed put Less is then rest others = rw (is, then, rest) refl
put_here map row first one other rows made placed put Equal is then rest others = rw (is, then, rest) refl
put_here map row first one other rows made placed put Greater is then rest others = rw (then, others) refl

-- a row is put
pub converted-with_row : (old new : List ℕ) (map : List MapColumn) (row one : Row) (rows made : List Row) → AllByRecursion (KeepsKey old new map) rows → KeepsKey old new map row → converted_row map row ≡ Ok one → converted_rows map rows ≡ Some made
    → converted_rows map (with_row old row rows) ≡ Some (with_row new one made)
unfolding converted_rows with_row
converted-with_row old new map row one [] made all keeps is rest = rw is (ap (λ (rows : List Row). Some (with_row new one rows)) (some_is [] made rest))
converted-with_row old new map row one (first ∷ rows) made all keeps is rest =
    let parts : IsConverted (converted_row map first) (converted_rows map rows) made = converted_parts (converted_row map first) (converted_rows map rows) made rest in
    put_here map row first one parts.first rows parts.others (with_row old row rows) (with_row new one parts.others) (compare_keys (key_of old row) (key_of old first)) is parts.one_is parts.rest_is
    (converted-with_row old new map row one rows parts.others all.1 keeps is parts.rest_is)
    ∙ ap (λ (o : Ordering). Some (match_ordering o (one ∷ parts.first ∷ parts.others) (one ∷ parts.first ∷ parts.others) (parts.first ∷ with_row new one parts.others))) (same_order old new map row first one parts.first keeps all.0 is parts.one_is)
    ∙ ap (λ (rows : List Row). Some (with_row new one rows)) (sym parts.made_is)

-- rows are put, one by one
pub converted-with_rows : (old new : List ℕ) (map : List MapColumn) (rows into made put : List Row) → AllByRecursion (KeepsKey old new map) rows → AllByRecursion (KeepsKey old new map) into → converted_rows map rows ≡ Some made → converted_rows map into ≡ Some put
    → converted_rows map (with_rows old rows into) ≡ Some (with_rows new made put)
unfolding converted_rows with_rows
converted-with_rows old new map [] into made put all too is then = then ∙ ap (λ (rows : List Row). Some (with_rows new rows put)) (some_is [] made is)
converted-with_rows old new map (row ∷ rows) into made put all too is then =
    let parts : IsConverted (converted_row map row) (converted_rows map rows) made = converted_parts (converted_row map row) (converted_rows map rows) made is in
    converted-with_rows old new map rows (with_row old row into) parts.others (with_row new parts.first put) all.1 (all-with_row (KeepsKey old new map) old row into all.0 too) parts.rest_is
    (converted-with_row old new map row parts.first into put too all.0 parts.one_is then)
    ∙ ap (λ (rows : List Row). Some (with_rows new rows put)) (sym parts.made_is)

not_here : (test : Row → Bool) (row : Row) (rows : List Row) → test row ≡ false → find test rows ≡ None → find test (row ∷ rows) ≡ None
not_here test row rows fails none = rw fails none

-- a key that no row has, no converted row has
pub converted-find : (old new : List ℕ) (map : List MapColumn) (key : Row) (rows made : List Row) → AllByRecursion (KeepsKey old new map) rows → converted_rows map rows ≡ Some made → find (is_at old key) rows ≡ None → find (is_at new key) made ≡ None
unfolding converted_rows
converted-find old new map key [] made all is none = ap (find (is_at new key)) (sym (some_is [] made is))
converted-find old new map key (row ∷ rows) made all is none =
    let parts : IsConverted (converted_row map row) (converted_rows map rows) made = converted_parts (converted_row map row) (converted_rows map rows) made is in
    let here = none_parts (is_at old key row) row (find (is_at old key) rows) none in
    let fails : is_at new key parts.first ≡ false = ap (λ (other : Row). is_eq (compare_keys key other)) (all.0 parts.first parts.one_is) ∙ here.0 in
    ap (find (is_at new key)) parts.made_is ∙ not_here (is_at new key) parts.first parts.others fails (converted-find old new map key rows parts.others all.1 parts.rest_is here.1)

agree_apart : (old new : List ℕ) (map : List MapColumn) (key : Row) (rows : List Row) → AllByRecursion (KeepsKey old new map) rows → AllByRecursion (Agrees (λ row. not (is_at old key row)) (λ row. not (is_at new key row)) map) rows
agree_apart old new map key [] all = tt
agree_apart old new map key (row ∷ rows) all = (λ one is. ap (λ (other : Row). not (is_eq (compare_keys key other))) (sym (all.0 one is)), agree_apart old new map key rows all.1)

-- the row of a key is removed
pub converted-without_key : (old new : List ℕ) (map : List MapColumn) (key : Row) (rows made : List Row) → AllByRecursion (KeepsKey old new map) rows → converted_rows map rows ≡ Some made → converted_rows map (without_key old key rows) ≡ Some (without_key new key made)
converted-without_key old new map key rows made all is = converted_some (λ row. not (is_at old key row)) (λ row. not (is_at new key row)) map rows made (agree_apart old new map key rows all) is
