-- What ties these meanings to rows kept by their keys, and to databases with further tables.
use Rattle.std.proofs.Common.{◌≡◌, ℕ, List, [], ◌∷◌, refl, ap, ◌∙◌}
use Rattle.std.specs.List.{AllByRecursion}
use Rattle.base_values.specs.declared.event.RowEvent.{RowEvent}
use Rattle.table_store.specs.Databases.{Database, with_change}
use Rattle.base_script.specs.declared.script.ScriptWord.{ScriptWord}
use Rattle.base_script.specs.declared.script.ScriptWord.TheVariants as words
use Rattle.server_model.specs.declared.transaction.TxnLine.{TxnLine}
use Rattle.server_model.specs.Operations.{table_of, operation_result, after_events, change_table}
use Rattle.proof_journals.specs.Scenes.{FoundAlike, NamesTable}
use Rattle.server_model.specs.Alone.{line_says, Ran, lines_run}
use Rattle.server_model.proofs.LockedRows.Finding.{found_after}
use Rattle.server_model.proofs.LockedRows.Stables.{one_more, more_alike}

pub alike_events : (names : List (List ℕ)) (a b : Database) (events : List RowEvent) → FoundAlike names a b → FoundAlike names (after_events a events) (after_events b events)
unfolding after_events
alike_events names a b [] alike = alike
alike_events names a b (event ∷ events) alike =
    alike_events names (with_change event.table (change_table event.change) a) (with_change event.table (change_table event.change) b) events
    (record { each = λ name is. rw (found_after event.table name event.change a, found_after event.table name event.change b, alike.each name is) refl })

said_alike : (names : List (List ℕ)) (a b : Database) (word : ScriptWord) → NamesTable names word → FoundAlike names a b → line_says a word ≡ line_says b word
unfolding operation_result
said_alike names a b (words.Do statement) named alike = rw (alike.each (table_of statement) named) refl
said_alike names a b words.Begin named alike = refl
said_alike names a b words.Commit named alike = refl
said_alike names a b words.Rollback named alike = refl

-- *lines run alike on databases that have the same tables of the names that they name*
pub lines_alike : (names : List (List ℕ)) (a b : Database) (ran : Ran) (lines : List TxnLine) → AllByRecursion (λ line. NamesTable names line.word) lines → FoundAlike names a b → lines_run a ran lines ≡ lines_run b ran lines
unfolding lines_run
lines_alike names a b ran [] named alike = refl
lines_alike names a b ran (line ∷ lines) named alike =
    let said : line_says (after_events a ran.writes) line.word ≡ line_says (after_events b ran.writes) line.word = said_alike names (after_events a ran.writes) (after_events b ran.writes) line.word named.0 (alike_events names a b ran.writes alike) in
    let same : one_more a ran line ≡ one_more b ran line = more_alike a b line.word line.mark ran said in
    ap (λ (r : Ran). lines_run a r lines) same ∙ lines_alike names a b (one_more b ran line) lines named.1 alike
