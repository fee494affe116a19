-- The exchange of the migrated table with its ghost alters it.
use Rattle.std.proofs.Common.{◌≡◌, ℕ, Bool, true, false, List, [], ◌∷◌, cond, Some, Ok, Err, refl, sym, ap, ◌∙◌}
use Rattle.std.proofs.lemmas.Bool.{false≢true}
use Rattle.std.specs.Option.{option_map, is_some}
use Rattle.std.specs.Str.{bytes_eq}
use Rattle.table_store.specs.Databases.{TableRows, Database, find_table, has_table, with_name, name_table, rename_tables}
use Rattle.table_store.specs.declared.renames.Pair.{Pair}
use Rattle.table_store.specs.declared.renames.NotRenamed.TheVariants as reasons
use Rattle.table_store.proofs.ChangedTables.{found_where}
use Rattle.proof_journals.specs.Scenes.{Scene, is_mine, AltersTo}
use Rattle.proof_journals.specs.Turns.{IsExchange}
use Rattle.proof_journals.specs.Laws.{ExchangeAlters}
use Rattle.proof_journals.proofs.Kept.{unfound}
use Rattle.proof_journals.proofs.Moves.{renamed_other, renamed_new}
use Rattle.server_model.proofs.LockedRows.Tests.{are_same, turned_bytes}

-- what each of two pairs that are renamed found
pub record Both (old kept ghost : List ℕ) (tables after : Database) : Type 0 where
  pub first : has_table kept tables ≡ false
  pub second : has_table old (with_name old kept tables) ≡ false
  pub is : with_name ghost old (with_name old kept tables) ≡ after

both_renamed : (old kept ghost : List ℕ) (tables after : Database) → rename_tables (record { old = old; new = kept } ∷ record { old = ghost; new = old } ∷ []) tables ≡ Ok after → Both old kept ghost tables after
unfolding rename_tables
both_renamed old kept ghost tables after is = at (has_table kept tables) (has_table old tables) (has_table old (with_name old kept tables)) (has_table ghost (with_name old kept tables)) refl refl is where
  at : (a b c d : Bool) → has_table kept tables ≡ a → has_table old (with_name old kept tables) ≡ c → cond a (Err reasons.Exists) (cond b (cond c (Err reasons.Exists) (cond d (Ok (with_name ghost old (with_name old kept tables))) (Err reasons.Missing))) (Err reasons.Missing)) ≡ Ok after → Both old kept ghost tables after
  at false true false true one two is = record { first = one; second = two; is = cc }
  at true b c d one two is = absurd (cc)
  at false false c d one two is = absurd (cc)
  at false true true d one two is = absurd (cc)
  at false true false false one two is = absurd (cc)

found_has : (name : List ℕ) (tables : Database) (table : TableRows) → find_table name tables ≡ Some table → has_table name tables ≡ true
found_has name tables table is = sym (found_where name tables) ∙ ap is_some is

exchanged : (scene : Scene) (tables after : Database) (pairs : List Pair) → is_mine scene scene.migrated ≡ true → (is : IsExchange scene tables pairs) → Both scene.migrated is.kept is.ghost tables after → AltersTo scene tables after
exchanged scene tables after pairs mine is both =
    let t = scene.migrated in
    let ghost_t : bytes_eq is.ghost t ≡ false = unfound scene is.ghost t is.ghost_other mine in
    let ghost_kept : bytes_eq is.ghost is.kept ≡ false = differ (bytes_eq is.ghost is.kept) refl in
    let still : find_table is.ghost (with_name t is.kept tables) ≡ find_table is.ghost tables = renamed_other t is.kept is.ghost tables ghost_t ghost_kept in
    record {
      old = is.old;
      new = name_table t is.new;
      was = is.was;
      made = is.made;
      is = ap (find_table t) (sym both.is) ∙ renamed_new is.ghost t (with_name t is.kept tables) both.second ∙ ap (option_map (name_table t)) (still ∙ is.stands);
      others = λ name own off.
          ap (find_table name) (sym both.is)
          ∙ renamed_other is.ghost t name (with_name t is.kept tables) (turned_bytes is.ghost name (unfound scene is.ghost name is.ghost_other own)) off
          ∙ renamed_other t is.kept name tables off (turned_bytes is.kept name (unfound scene is.kept name is.kept_other own));
    } where
      differ : (b : Bool) → bytes_eq is.ghost is.kept ≡ b → b ≡ false
      differ true same = absurd (false≢true (sym both.first ∙ ap (λ (n : List ℕ). has_table n tables) (sym (are_same is.ghost is.kept same)) ∙ found_has is.ghost tables is.new is.stands))
      differ false same = refl

-- *The exchange alters the table*
pub exchange_alters : ExchangeAlters
exchange_alters scene tables pairs mine is may takes after renamed =
    exchanged scene tables after pairs mine is (both_renamed scene.migrated is.kept is.ghost tables after (ap (λ (ps : List Pair). rename_tables ps tables) (sym is.pairs_are) ∙ renamed))
