-- A transaction of which no replies are promised: a tool's, whose lines are tasks. What it wrote stays right.
use Rattle.std.proofs.Common.{◌≡◌, ℕ, true, List, [], ◌++◌, Option, Some, None, subst}
use Rattle.std.specs.List.{list_any}
use Rattle.std.specs.Str.{bytes_eq}
use Rattle.base_values.specs.declared.event.RowEvent.{RowEvent}
use Rattle.server_locks.specs.declared.row_locks.lock.Lock.{Lock}
use Rattle.table_store.specs.Databases.{TableRows, Database, find_table}
use Rattle.server_model.specs.LockedRows.Agreement.{TablesAgree, Agree, Within}
use Rattle.server_model.specs.LockedRows.Coverage.{IsSound}
use Rattle.server_model.specs.LockedRows.Databases.{TaskSound, IsWellFormedDatabase, WhereFound}
use Rattle.server_model.specs.Operations.{Operation, operation_result, operation_needs, after_events}
use Rattle.proof_journals.specs.Scenes.{IsSafe}
use Rattle.server_model.proofs.LockedRows.Finding.{NamesWithin, agree_events, agree_itself, agree_then, agree_within, says_alike, says_well_formed}
use Rattle.server_model.specs.LockedRows.Laws.{SaysAlike}
use Rattle.server_model.proofs.LockedRows.Stables.{after_events-append}

pub safe_begin : (tables : Database) → IsSafe [] [] [] tables
unfolding after_events
safe_begin tables = record { each = λ other is agree. is }

pub safe_others : (names : List (List ℕ)) (locks : List Lock) (writes : List RowEvent) (before after : Database) → Agree names locks before after → IsSafe names locks writes before → IsSafe names locks writes after
safe_others names locks writes before after kept safe = record { each = λ other is agree. safe.each other is (agree_then names locks before after other kept agree) }

-- work on tables of one schema is sound on both
pub sound_alike : (task : Operation) (locks : List Lock) (one two : Option TableRows) → TablesAgree locks one two → WhereFound (λ table. IsSound table.schema.columns (task.work table.schema)) one → WhereFound (λ table. IsSound table.schema.columns (task.work table.schema)) two
sound_alike task locks None None agree sound = tt
sound_alike task locks None (Some y) agree sound = absurd agree
sound_alike task locks (Some x) None agree sound = absurd agree
sound_alike task locks (Some x) (Some y) agree sound = subst (λ (s : _). IsSound s.columns (task.work s)) agree.0 sound

pub safe_task : (names more : List (List ℕ)) (locks all : List Lock) (writes : List RowEvent) (tables : Database) (task : Operation) → IsSafe names locks writes tables → IsWellFormedDatabase tables → TaskSound task (after_events tables writes) → NamesWithin names more → Within locks all
    → list_any (bytes_eq task.table) more ≡ true → Within (operation_needs (after_events tables writes) task) all → IsSafe more all (writes ++ (operation_result (after_events tables writes) task).events) tables
safe_task names more locks all writes tables task safe well_formed sound named within mine needed = record {
  each = λ other is agree.
      let here : IsWellFormedDatabase (after_events tables writes) = safe.each tables well_formed (agree_itself names locks tables) in
      let there : IsWellFormedDatabase (after_events other writes) = safe.each other is (agree_within names more locks all tables other named within agree) in
      let both = agree_events more all tables other writes agree in
      let alike : SaysAlike task (after_events tables writes) (after_events other writes) = says_alike more all (after_events tables writes) (after_events other writes) task both mine needed here there in
      let sound_there : TaskSound task (after_events other writes) = sound_alike task all (find_table task.table (after_events tables writes)) (find_table task.table (after_events other writes)) (both.tables task.table mine) sound in
      rw (alike.said, after_events-append other writes (operation_result (after_events other writes) task).events) (says_well_formed (after_events other writes) task sound_there there);
}
