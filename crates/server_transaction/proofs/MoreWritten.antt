-- A transaction that writes more to one table.
use Rattle.std.proofs.Common.{◌≡◌, ℕ, Bool, true, false, List, [], ◌∷◌, ◌++◌, map, filter, cond, Option, Some, None, refl, sym, ap, ◌∙◌, subst, append-nil}
use Rattle.std.proofs.lemmas.List.{map-append}
use Rattle.std.proofs.lemmas.List.Elements.{filter-append}
use Rattle.std.specs.List.{AllZip}
use Rattle.std.specs.Str.{bytes_eq}
use Rattle.base_values.specs.declared.gho_schema.schema.Schema.{Schema}
use Rattle.base_values.specs.GhoSchema.Rows.{key_places}
use Rattle.base_values.specs.declared.event.Change.{Change}
use Rattle.base_values.specs.declared.event.RowEvent.{RowEvent}
use Rattle.table_store.proofs.Orders.{Row}
use Rattle.server_model.specs.Operations.{events_of}
use Rattle.server_model.proofs.LockedRows.Tests.{are_same}
use Rattle.server_seen.specs.Stored.{StoredWrites}
use Rattle.server_transaction.specs.Events.{changes_in, gone_key}
use Rattle.server_transaction.specs.Shown.{find_writes, Shows, Represents}
use Rattle.server_transaction.specs.Stored.{IsGone, IsTxn, IsMore}

-- changes of one table among those of a table
own_changes : (own name : List ℕ) (changes : List Change) (b : Bool) → bytes_eq own name ≡ b → changes_in name (events_of own changes) ≡ cond b changes []
own_changes own name [] true is = refl
own_changes own name [] false is = refl
own_changes own name (change ∷ changes) true is = rw is (ap (λ (cs : List Change). change ∷ cs) (own_changes own name changes true is))
own_changes own name (change ∷ changes) false is = rw is (own_changes own name changes false is)

changes_more : (own name : List ℕ) (events more : List RowEvent) (changes : List Change) (b : Bool) → bytes_eq own name ≡ b → more ≡ events_of own changes → changes_in name (events ++ more) ≡ changes_in name events ++ cond b changes []
changes_more own name events more changes b is are =
    ap (map (λ (e : RowEvent). e.change)) (filter-append (λ (e : RowEvent). bytes_eq e.table name) events more)
    ∙ map-append (λ (e : RowEvent). e.change) (filter (λ (e : RowEvent). bytes_eq e.table name) events) (filter (λ (e : RowEvent). bytes_eq e.table name) more)
    ∙ ap (λ (es : List RowEvent). changes_in name events ++ changes_in name es) are ∙ ap (λ (cs : List Change). changes_in name events ++ cs) (own_changes own name changes b is)

-- each table shows its changes
shown_by : (own name : List ℕ) (tables now : List StoredWrites) (writes : StoredWrites) (events more : List RowEvent) (changes : List Change) (b : Bool) → bytes_eq own name ≡ b → IsMore own tables now writes → more ≡ events_of own changes
    → Represents (key_places writes.schema) (changes_in own events ++ changes) writes.written → Shows (changes_in name events) (find_writes name tables) → Shows (changes_in name (events ++ more)) (find_writes name now)
shown_by own name tables now writes events more changes true is are made represents was =
    let same : own ≡ name = are_same own name is in
    subst (λ (cs : List Change). Shows cs (find_writes name now)) (sym (changes_more own name events more changes true is made))
    (subst (λ (n : List ℕ). Shows (changes_in n events ++ changes) (find_writes n now)) same (subst (Shows (changes_in own events ++ changes)) (sym are.there) represents))
shown_by own name tables now writes events more changes false is are made represents was =
    subst (λ (cs : List Change). Shows cs (find_writes name now)) (sym (changes_more own name events more changes false is made ∙ append-nil (changes_in name events)))
    (subst (Shows (changes_in name events)) (sym (are.others name is)) was)

-- each event has the key of the row that it takes out
gone_found : (event : RowEvent) (key : Option Row) (was writes : StoredWrites) (found : Option StoredWrites) → found ≡ Some was → was.schema ≡ writes.schema → IsGone event key found → IsGone event key (Some writes)
gone_found event key was writes found is same gone_is =
    let here : IsGone event key (Some was) = subst (IsGone event key) is gone_is in
    subst (λ (s : Schema). key ≡ gone_key (key_places s) event.change) same here

gone_some : (event : RowEvent) (key : Option Row) (writes : StoredWrites) (found : Option StoredWrites) → ((was : StoredWrites) → found ≡ Some was → was.schema ≡ writes.schema) → IsGone event key found → IsGone event key (Some writes)
gone_some event key writes None same gone_is = absurd gone_is
gone_some event key writes (Some was) same gone_is = gone_found event key was writes (Some was) refl (same was refl) gone_is

gone_still : (own : List ℕ) (tables now : List StoredWrites) (writes : StoredWrites) (event : RowEvent) (key : Option Row) (b : Bool) → bytes_eq own event.table ≡ b → IsMore own tables now writes → IsGone event key (find_writes event.table tables) → IsGone event key (find_writes event.table now)
gone_still own tables now writes event key true is are gone_is =
    let same : own ≡ event.table = are_same own event.table is in
    subst (λ (n : List ℕ). IsGone event key (find_writes n now)) same
    (subst (IsGone event key) (sym are.there) (gone_some event key writes (find_writes own tables) are.schema (subst (λ (n : List ℕ). IsGone event key (find_writes n tables)) (sym same) gone_is)))
gone_still own tables now writes event key false is are gone_is = subst (IsGone event key) (sym (are.others event.table is)) gone_is

all_gone : (own : List ℕ) (tables now : List StoredWrites) (writes : StoredWrites) (events more : List RowEvent) (gone keys : List (Option Row)) → IsMore own tables now writes → AllZip (λ event key. IsGone event key (find_writes event.table tables)) events gone
    → AllZip (λ event key. IsGone event key (find_writes event.table now)) more keys → AllZip (λ event key. IsGone event key (find_writes event.table now)) (events ++ more) (gone ++ keys)
all_gone own tables now writes [] more [] keys are were following = following
all_gone own tables now writes [] more (key ∷ gone) keys are were following = absurd were
all_gone own tables now writes (event ∷ events) more [] keys are were following = absurd were
all_gone own tables now writes (event ∷ events) more (key ∷ gone) keys are were following =
    (gone_still own tables now writes event key (bytes_eq own event.table) refl are were.0, all_gone own tables now writes events more gone keys are were.1 following)

new_gone : (own : List ℕ) (tables now : List StoredWrites) (writes : StoredWrites) (changes : List Change) → IsMore own tables now writes → AllZip (λ event key. IsGone event key (find_writes event.table now)) (events_of own changes) (map (gone_key (key_places writes.schema)) changes)
new_gone own tables now writes [] are = tt
new_gone own tables now writes (change ∷ changes) are =
    let event : RowEvent = record { table = own; change = change } in
    (subst (IsGone event (gone_key (key_places writes.schema) change)) (sym are.there) refl, new_gone own tables now writes changes are)

pub more_written : (own : List ℕ) (tables now : List StoredWrites) (writes : StoredWrites) (events more : List RowEvent) (gone keys : List (Option Row)) (changes : List Change) → IsTxn tables events gone → IsMore own tables now writes → more ≡ events_of own changes
    → keys ≡ map (gone_key (key_places writes.schema)) changes → Represents (key_places writes.schema) (changes_in own events ++ changes) writes.written → IsTxn now (events ++ more) (gone ++ keys)
more_written own tables now writes events more gone keys changes txn are made keys_are represents = record {
  shown = λ name. shown_by own name tables now writes events more changes (bytes_eq own name) refl are made represents (txn.shown name);
  keys =
      all_gone own tables now writes events more gone keys are txn.keys
      (subst (λ (es : List RowEvent). AllZip (λ event key. IsGone event key (find_writes event.table now)) es keys) (sym made)
      (subst (AllZip (λ event key. IsGone event key (find_writes event.table now)) (events_of own changes)) (sym keys_are) (new_gone own tables now writes changes are)));
}
