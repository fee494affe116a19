-- A transaction whose tables are laid over with what a statement wrote, or get more room.
use Rattle.std.proofs.Common.{◌≡◌, ℕ, Bool, true, false, List, [], ◌∷◌, ◌++◌, map, cond, length, Option, Some, None, refl, sym, ap, ◌∙◌, subst}
use Rattle.std.specs.Prelude.{IfSome}
use Rattle.std.proofs.lemmas.List.{length-map}
use Rattle.std.specs.Option.{option_map}
use Rattle.std.specs.List.{AllZip, find}
use Rattle.std.specs.Str.{bytes_eq}
use Rattle.base_values.specs.declared.gho_schema.schema.Schema.{Schema}
use Rattle.base_values.specs.GhoSchema.Rows.{key_places}
use Rattle.base_values.specs.declared.event.Change.{Change}
use Rattle.base_values.specs.declared.event.RowEvent.{RowEvent}
use Rattle.table_store.proofs.Orders.{Row}
use Rattle.server_model.specs.Operations.{events_of}
use Rattle.server_seen.specs.Written.{nothing, wrote_all}
use Rattle.server_seen.specs.Stored.{StoredWrites, written_in}
use Rattle.server_transaction.specs.declared.ready_changes.ReadyChange.{ReadyChange}
use Rattle.server_transaction.specs.Ready.{ready_change, wrote_each}
use Rattle.server_transaction.specs.Events.{changes_in, gone_key}
use Rattle.server_transaction.specs.Shown.{find_writes, Shows, Represents}
use Rattle.server_transaction.specs.Stored.{IsGone, IsTxn, PlainWrites, plain, IsWrittenTo, schemas}
use Rattle.server_transaction.proofs.Represented.{represents_all, represents_more}
use Rattle.server_transaction.proofs.ReadyChanges.{all_gone, each_wrote}
use Rattle.server_transaction.proofs.MoreWritten.{more_written}

-- what is written to what was written before represents all changes
on_before : (schema : Schema) (before changes : List Change) (found : Option StoredWrites) → Shows before found → IfSome found (λ table. table.schema ≡ schema) → Represents (key_places schema) (before ++ changes) (wrote_all (key_places schema) changes (written_in found))
on_before schema before changes None none same = subst (λ (cs : List Change). Represents (key_places schema) (cs ++ changes) (wrote_all (key_places schema) changes nothing)) (sym none) (represents_all (key_places schema) changes)
on_before schema before changes (Some table) shows same = represents_more (key_places schema) before changes table.written (subst (λ (s : Schema). Represents (key_places s) before table.written) same shows)

pub written_txn : (schema : Schema) (ready : List ReadyChange) (tables now : List StoredWrites) (events more all : List RowEvent) (gone every : List (Option Row)) (changes : List Change) → IsTxn tables events gone → IsWrittenTo schema ready tables now → more ≡ events_of schema.name changes
    → ready ≡ map (ready_change (key_places schema)) changes → all ≡ events ++ more → every ≡ gone ++ map (λ one. one.gone) ready → IfSome (find_writes schema.name tables) (λ table. table.schema ≡ schema) → IsTxn now all every
written_txn schema ready tables now events more all gone every changes txn to made ready_are all_is every_is same =
    let own : List ℕ = schema.name in
    let before : List Change = changes_in own events in
    let represents : Represents (key_places schema) (before ++ changes) (wrote_all (key_places schema) changes (written_in (find_writes own tables))) = on_before schema before changes (find_writes own tables) (txn.shown own) same in
    let written : wrote_all (key_places schema) changes (written_in (find_writes own tables)) ≡ to.writes.written =
    sym (to.written_is ∙ ap (λ (rs : List ReadyChange). wrote_each (key_places schema) rs (written_in (find_writes own tables))) ready_are ∙ each_wrote (key_places schema) changes (written_in (find_writes own tables))) in
    let here : Represents (key_places to.writes.schema) (before ++ changes) to.writes.written =
    subst (λ (s : Schema). Represents (key_places s) (before ++ changes) to.writes.written) (sym to.same) (subst (Represents (key_places schema) (before ++ changes)) written represents) in
    let keys : map (λ (one : ReadyChange). one.gone) ready ≡ map (gone_key (key_places to.writes.schema)) changes = all_gone (key_places schema) changes ready ready_are ∙ ap (λ (s : Schema). map (gone_key (key_places s)) changes) (sym to.same) in
    subst (λ (es : List RowEvent). IsTxn now es every) (sym all_is)
    (subst (IsTxn now (events ++ more)) (sym every_is) (more_written own tables now to.writes events more gone (map (λ (one : ReadyChange). one.gone) ready) changes txn to.more made keys here))

-- equal but for their room, tables show the same
plain_first : (name : List ℕ) (first : StoredWrites) (b : Bool) (found : Option StoredWrites) → option_map plain (cond b (Some first) found) ≡ cond b (Some (plain first)) (option_map plain found)
plain_first name first true found = refl
plain_first name first false found = refl

plain_found : (name : List ℕ) (tables : List StoredWrites) → option_map plain (find_writes name tables) ≡ find (λ (p : PlainWrites). bytes_eq p.schema.name name) (map plain tables)
plain_found name [] = refl
plain_found name (first ∷ tables) = plain_first name first (bytes_eq first.schema.name name) (find_writes name tables) ∙ ap (cond (bytes_eq first.schema.name name) (Some (plain first))) (plain_found name tables)

alike_found : (name : List ℕ) (tables now : List StoredWrites) → map plain now ≡ map plain tables → option_map plain (find_writes name now) ≡ option_map plain (find_writes name tables)
alike_found name tables now same = plain_found name now ∙ ap (find (λ (p : PlainWrites). bytes_eq p.schema.name name)) same ∙ sym (plain_found name tables)

still_shows : (changes : List Change) (was now : Option StoredWrites) → option_map plain now ≡ option_map plain was → Shows changes was → Shows changes now
still_shows changes None None same shows = shows
still_shows changes None (Some n) same shows = absurd (cc)
still_shows changes (Some w) None same shows = absurd (cc)
still_shows changes (Some w) (Some n) same shows = let one : plain w ≡ plain n = cc in subst (λ (p : PlainWrites). Represents (key_places p.schema) changes p.written) one shows

still_gone_by : (event : RowEvent) (key : Option Row) (was now : Option StoredWrites) → option_map plain now ≡ option_map plain was → IsGone event key was → IsGone event key now
still_gone_by event key None now same is = absurd is
still_gone_by event key (Some w) None same is = absurd (cc)
still_gone_by event key (Some w) (Some n) same is = let both : plain w ≡ plain n = cc in subst (λ (p : PlainWrites). key ≡ gone_key (key_places p.schema) event.change) both is

all_gone_by : (tables now : List StoredWrites) (events : List RowEvent) (gone : List (Option Row)) → map plain now ≡ map plain tables → AllZip (λ event key. IsGone event key (find_writes event.table tables)) events gone → AllZip (λ event key. IsGone event key (find_writes event.table now)) events gone
all_gone_by tables now [] [] same all = tt
all_gone_by tables now [] (key ∷ gone) same all = absurd all
all_gone_by tables now (event ∷ events) [] same all = absurd all
all_gone_by tables now (event ∷ events) (key ∷ gone) same all =
    (still_gone_by event key (find_writes event.table tables) (find_writes event.table now) (alike_found event.table tables now same) all.0, all_gone_by tables now events gone same all.1)

pub alike_txn : (tables now : List StoredWrites) (events events' : List RowEvent) (gone gone' : List (Option Row)) → map plain now ≡ map plain tables → events' ≡ events → gone' ≡ gone → IsTxn tables events gone → IsTxn now events' gone'
alike_txn tables now events events' gone gone' same same_events same_keys txn = subst (λ (es : List RowEvent). IsTxn now es gone') (sym same_events) (subst (IsTxn now events) (sym same_keys) (record {
  shown = λ name. still_shows (changes_in name events) (find_writes name tables) (find_writes name now) (alike_found name tables now same) (txn.shown name);
  keys = all_gone_by tables now events gone same txn.keys;
}))

schemas_of_plain : (tables : List StoredWrites) → schemas tables ≡ map (λ (p : PlainWrites). p.schema) (map plain tables)
schemas_of_plain [] = refl
schemas_of_plain (first ∷ tables) = ap (λ (ss : List Schema). first.schema ∷ ss) (schemas_of_plain tables)

pub alike_schemas : (tables now : List StoredWrites) → map plain now ≡ map plain tables → schemas now ≡ schemas tables
alike_schemas tables now same = schemas_of_plain now ∙ ap (map (λ (p : PlainWrites). p.schema)) same ∙ sym (schemas_of_plain tables)

-- there are as many as changes
pub as_many : (schema : Schema) (changes : List Change) (ready : List ReadyChange) → ready ≡ map (ready_change (key_places schema)) changes → length ready ≡ length changes
as_many schema changes ready are = ap length are ∙ length-map changes (ready_change (key_places schema))
