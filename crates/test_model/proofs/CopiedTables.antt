-- Tables copied one by one.
use Rattle.std.proofs.Common.{◌≡◌, ℕ, ◌+◌, ◌<◌, List, [], ◌∷◌, ◌++◌, length, take, get_or, Some, sym, ap, ◌∙◌}
use Rattle.std.proofs.lemmas.List.{map_push, take_more}
use Rattle.std.proofs.lemmas.Option.{slice_get_within, get_or_from_slice_get}
use Rattle.std.specs.List.{slice_get}
use Rattle.table_store.specs.Databases.{TableRows, Database, StoredTable, database}

-- one table more is copied
pub copied_more : (plain : Database) (tables : List StoredTable) (n : ℕ) (stored : StoredTable) (new : TableRows) → slice_get tables n ≡ Some stored → new ≡ stored.table → plain ≡ database (take n tables) → plain ++ new ∷ [] ≡ database (take (n + 1) tables)
copied_more plain tables n stored new at same so_far =
    let within : n < length tables = slice_get_within tables n stored at in
    let there : get_or tables n stored ≡ stored = get_or_from_slice_get tables n stored stored at in
    ap (λ (ts : Database). ts ++ new ∷ []) so_far
    ∙ ap (λ (t : TableRows). database (take n tables) ++ t ∷ []) (same ∙ ap (λ (s : StoredTable). s.table) (sym there))
    ∙ sym (map_push (λ (s : StoredTable). s.table) (take n tables) (get_or tables n stored))
    ∙ ap database (sym (take_more tables n stored within))
