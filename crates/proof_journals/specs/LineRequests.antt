-- Requests that are lines of a transaction: what they need and do, by the line.
use Rattle.std.specs.Prelude.{ℕ, false, if◌then◌else◌, [], ◌∷◌, Option, Some, None}
use Rattle.table_store.specs.Databases.{Database}
use Rattle.base_script.specs.declared.script.ScriptWord.{ScriptWord}
use Rattle.base_script.specs.declared.script.ScriptWord.TheVariants as words
use Rattle.server_model.specs.declared.request.Request.{Request}
use Rattle.server_model.specs.declared.request.Request.TheVariants as requests
use Rattle.server_model.specs.Operations.{table_of, statement_result, row_needs}
use Rattle.server_model.specs.States.{State, session_of, is_in_transaction}
use Rattle.server_model.specs.declared.need.Need.{Need}
use Rattle.server_model.specs.PlainServer.{goes_on, commits, forgets}

-- the line that a request is
abbrev pub word_in : Request → Option ScriptWord
word_in requests.Begin = Some words.Begin
word_in requests.Commit = Some words.Commit
word_in requests.Rollback = Some words.Rollback
word_in (requests.Do statement) = Some (words.Do statement)
word_in request = None

-- what a line needs, and what it leaves
abbrev pub need_of_word : Database → ScriptWord → Need
need_of_word seen (words.Do statement) = record { exclusive = false; names = table_of statement ∷ []; locks = row_needs seen statement }
need_of_word seen word = record { exclusive = false; names = []; locks = [] }

abbrev pub does_word : Database → State → ℕ → ScriptWord → State
does_word seen state number words.Begin = goes_on number (need_of_word seen words.Begin) [] state
does_word seen state number words.Commit = commits number [] state
does_word seen state number words.Rollback = forgets number state
does_word seen state number (words.Do statement) =
    if is_in_transaction (session_of number state.sessions) then goes_on number (need_of_word seen (words.Do statement)) (statement_result seen statement).events state else commits number (statement_result seen statement).events state
