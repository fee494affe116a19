-- Prepared work gives and needs what its operation does.
use Rattle.std.proofs.Common.{◌≡◌, ℕ, List, [], Option, Some, None, Result, Ok, Err, refl, sym, ap, ◌∙◌, subst}
use Rattle.std.specs.Prelude.{IfOk, IfSome}
use Rattle.base_values.specs.declared.event.RowEvent.{RowEvent}
use Rattle.base_values.specs.declared.mysql_errors.TheConstants.{ER_NO_SUCH_TABLE}
use Rattle.table_store.specs.Databases.{TableRows, Database, find_table}
use Rattle.server_model.specs.declared.work.StatementResult.{StatementResult}
use Rattle.server_model.specs.declared.work.Work.{Work}
use Rattle.server_model.specs.Answers.{refuses}
use Rattle.server_model.specs.Needs.{needs}
use Rattle.server_model.specs.StatementResults.{tells}
use Rattle.server_model.specs.Operations.{Operation, after_events, needs_in, operation_needs, operation_result, result_in, result_of}
use Rattle.server_model.specs.LockedRows.Coverage.{IsSound}
use Rattle.server_model.specs.LockedRows.Databases.{TaskSound, WhereFound}
use Rattle.server_execute.specs.FoundWork.{found_in, made_by, met_by}
use Rattle.server_execute.specs.declared.found_work.FoundWork.{FoundWork}
use Rattle.server_transaction.specs.Stored.{TableChanges}
use Rattle.server_transaction.specs.Premises.{HasSchema}
use Rattle.server_transaction.specs.Prepared.{IsPrepared, IsSoundWork, IsWorkOf, known, work_in, work_result}
use Rattle.server_transaction.specs.declared.prepared.Prepared.{Prepared}
use Rattle.server_transaction.proofs.SeenTables.{seen_stands}
use Rattle.server_transaction.proofs.SeenViews.{own_name}

-- WHAT IS TO BE DONE

pub is_missing : (seen : Database) (operation : Operation) (name : List ℕ) → TaskSound operation seen → name ≡ operation.table → None ≡ find_table name seen → IsWorkOf seen operation None
is_missing seen operation name sound own none = record {
  work_is = ap (work_in operation) none ∙ ap (λ (n : List ℕ). work_in operation (find_table n seen)) own;
  sound = sound;
}

pub is_found : (seen : Database) (operation : Operation) (name : List ℕ) (table : TableRows) (work : Work) (found : Option FoundWork) → TaskSound operation seen → name ≡ operation.table → Some table ≡ find_table name seen
    → work ≡ operation.work table.schema → found ≡ Some (found_in table work) → IsWorkOf seen operation found
is_found seen operation name table work found sound own there work_is is = record {
  work_is = is ∙ ap (λ (w : Work). Some (found_in table w)) work_is ∙ ap (work_in operation) there ∙ ap (λ (n : List ℕ). work_in operation (find_table n seen)) own;
  sound = sound;
}

-- ... with the row locks that it needs
pub prepares_nothing : (seen : Database) (operation : Operation) (name : List ℕ) (prepared : Prepared) → TaskSound operation seen → name ≡ operation.table → None ≡ find_table name seen → prepared.work ≡ None → prepared.locks ≡ [] → IsPrepared seen operation prepared
unfolding operation_needs
prepares_nothing seen operation name prepared sound own none work locks = record {
  work = subst (IsWorkOf seen operation) (sym work) (is_missing seen operation name sound own none);
  locks = locks ∙ ap (needs_in operation) none ∙ ap (λ (n : List ℕ). needs_in operation (find_table n seen)) own;
}

pub prepares : {E : Type 0} (seen : Database) (operation : Operation) (name : List ℕ) (table : TableRows) (work : Work) (result : Result Prepared E) → TaskSound operation seen → name ≡ operation.table → Some table ≡ find_table name seen → work ≡ operation.work table.schema
    → IfOk result (λ prepared. prepared.work ≡ Some (found_in table work)) → IfOk result (λ prepared. prepared.locks ≡ needs table.schema table.rows work) → IfOk result (λ prepared. IsPrepared seen operation prepared)
unfolding operation_needs
prepares seen operation name table work (Err error) sound own there work_is found needed = tt
prepares seen operation name table work (Ok prepared) sound own there work_is found needed = record {
  work = is_found seen operation name table work prepared.work sound own there work_is found;
  locks = needed ∙ ap (needs table.schema table.rows) work_is ∙ ap (needs_in operation) there ∙ ap (λ (n : List ℕ). needs_in operation (find_table n seen)) own;
}

-- WHAT IT GIVES

pub gives_missing : (seen : Database) (name : List ℕ) (found : FoundWork) → None ≡ find_table name seen → let result : StatementResult = record { answer = refuses ER_NO_SUCH_TABLE; events = [] } in result ≡ work_result seen name (Some found)
unfolding operation_result
gives_missing seen name found none = ap (result_in (known name found.work)) none

pub gives_there : (seen : Database) (name : List ℕ) (found : FoundWork) (table : TableRows) → Some table ≡ find_table name seen → result_of table.schema.name (tells table.schema table.rows found.work) ≡ work_result seen name (Some found)
unfolding operation_result
gives_there seen name found table there = ap (λ (n : List ℕ). result_of n (tells table.schema table.rows found.work)) (own_name name table seen (sym there)) ∙ ap (result_in (known name found.work)) there

pub sound_there : (seen : Database) (name : List ℕ) (found : FoundWork) (table : TableRows) → Some table ≡ find_table name seen → IsSoundWork seen name (Some found) → IsSound table.schema.columns found.work
sound_there seen name found table there sound = subst (WhereFound (λ (t : TableRows). IsSound t.schema.columns found.work)) (sym there) sound.sound

found_there : (seen : Database) (name : List ℕ) (found : FoundWork) (table : TableRows) → Some table ≡ find_table name seen → IsSoundWork seen name (Some found) → found ≡ found_in table found.work
found_there seen name found table there sound =
    let both : Some found ≡ Some (found_in table found.work) = sound.work_is ∙ ap (work_in (known name found.work)) (sym there) in
    cc

pub met_there : (seen : Database) (name : List ℕ) (found : FoundWork) (table : TableRows) → Some table ≡ find_table name seen → IsSoundWork seen name (Some found) → found.met ≡ met_by table.schema table.rows found.work
met_there seen name found table there sound = ap (λ (f : FoundWork). f.met) (found_there seen name found table there sound)

pub made_there : (seen : Database) (name : List ℕ) (found : FoundWork) (table : TableRows) → Some table ≡ find_table name seen → IsSoundWork seen name (Some found) → found.made ≡ made_by found.work found.met
made_there seen name found table there sound =
    ap (λ (f : FoundWork). f.made) (found_there seen name found table there sound) ∙ sym (ap (made_by found.work) (met_there seen name found table there sound))

-- what is written has the schema of a table that stands
pub writes_stand : (tables : Database) (events : List RowEvent) (name : List ℕ) (table : TableRows) → Some table ≡ find_table name (after_events tables events) → (writes : Option TableChanges) → IfSome writes (λ one. one.schema ≡ table.schema) → IfSome writes (λ one. HasSchema tables one.schema)
writes_stand tables events name table found None same = tt
writes_stand tables events name table found (Some one) same = subst (HasSchema tables) (sym same) (seen_stands tables events name table found)

-- THE WORK OF AN OPERATION

pub work_gives : (seen : Database) (operation : Operation) (work : Option FoundWork) → IsWorkOf seen operation work → work_result seen operation.table work ≡ operation_result seen operation
unfolding operation_result
work_gives seen operation work is = ap (work_result seen operation.table) is.work_is ∙ by (find_table operation.table seen) refl where
  by : (found : Option TableRows) → find_table operation.table seen ≡ found → work_result seen operation.table (work_in operation found) ≡ operation_result seen operation
  by None here = sym (ap (result_in operation) here)
  by (Some table) here = ap (result_in (known operation.table (operation.work table.schema))) here ∙ sym (ap (result_in operation) here)

pub work_sound : (seen : Database) (operation : Operation) (work : Option FoundWork) → IsWorkOf seen operation work → IsSoundWork seen operation.table work
work_sound seen operation work is = subst (IsSoundWork seen operation.table) (sym is.work_is) (by (find_table operation.table seen) refl) where
  by : (found : Option TableRows) → find_table operation.table seen ≡ found → IsSoundWork seen operation.table (work_in operation found)
  by None here = tt
  by (Some table) here =
      let work : Work = operation.work table.schema in
      let sound : IsSound table.schema.columns (operation.work table.schema) = subst (WhereFound (λ (t : TableRows). IsSound t.schema.columns (operation.work t.schema))) here is.sound in
      record {
        work_is = sym (ap (work_in (known operation.table work)) here);
        sound = subst (WhereFound (λ (t : TableRows). IsSound t.schema.columns work)) (sym here) sound;
      }
