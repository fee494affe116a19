-- One worked run that stalls: a client's script ends with BEGIN, and no transaction of clients may be open. The tool is throttled for
-- good, no attempt begins, and nobody is ready, though the run hasn't ended and no attempt is stuck.
use Rattle.std.proofs.Common.{pos, true, false, ◌≡◌, List, [], ◌∷◌, None, Some, refl, arith}
use Rattle.std.specs.Prelude.{codes}
use Rattle.std.specs.List.{list_any}
use Rattle.base_values.specs.declared.kind.Kind.TheVariants.{Int, VarChar}
use Rattle.base_values.specs.declared.value.Value.TheVariants.{Num}
use Rattle.base_values.specs.declared.row_conversion.clause.Clause.TheVariants as clauses
use Rattle.base_values.specs.declared.row_conversion.clause.ColumnPosition.TheVariants.{Unsaid}
use Rattle.base_script.specs.declared.actor.Actor.TheVariants.{Insp, Client}
use Rattle.base_script.specs.declared.script.ScriptWord.TheVariants as words
use Rattle.server_model.specs.declared.answer.Answer.TheVariants as answers
use Rattle.server_model.specs.declared.entry.Asked.TheVariants.{Call}
use Rattle.server_model.specs.declared.entry.Entry.{Entry}
use Rattle.server_model.specs.declared.request.Request.TheVariants as requests
use Rattle.plan_data.specs.PlanData.{PlanData}
use Rattle.tool_program.specs.JournalWords.Journals.{IsFaithful}
use Rattle.tool_program.specs.Orders.{actors, is_ready}
use Rattle.tool_program.specs.Programs.{Follows}
use Rattle.tool_program.specs.Tools.{moment}
use Rattle.tool_program.specs.Verdicts.{has_ended}
use Rattle.proof_migration.specs.ToolPhase.Ready.{IsStuck}
use Rattle.test_worked.proofs.Computing.{computing}

abbrev plan_open_script : PlanData
plan_open_script = record { table = codes "t"; alter = (clauses.Add (record { name = codes "b"; kind = Int 4 false; nullable = (Some false); default = (Some (Num (pos 7))); auto = false }) Unsaid ∷ []); tables = (record { schema = record { name = codes "t"; columns = (record { name = codes "id"; kind = Int 4 false; nullable = false; default = None; auto = false } ∷ []); uniques = (record { name = None; places = (0 ∷ []) } ∷ []); indexes = []; comment = []; start = None }; rows = [] } ∷ []); clients = ((record { line = 1; word = words.Begin } ∷ []) ∷ []); operator = []; faults = []; turns = []; options = record { chunk_size = 1000; dml_batch_size = 10; default_retries = 60; max_backlog = 100; drain_limit = 2000; client_wait = 20000; tool_wait = 2000; max_load = 0; turn_limit = 200000; notes = 0; note_every = 100; replica_step = 0; replica_pause = 1; max_lag = 10; resume = false; approve_renamed_columns = false; initially_drop_ghost_table = false; initially_drop_old_table = false; ok_to_drop_table = false; postpone = false; show_history = true; show_turns = true; show_tables = true; show_replies = true } }

-- all its turns, in the order of a replay
abbrev journal_open_script : List Entry
journal_open_script =
    record { actor = Insp; session = 1; asked = Call requests.ShowTables; side = None; answer = answers.Tables (record { name = codes "t"; comment = [] } ∷ []); missed = None; draw = None }
    ∷ record { actor = Client 1; session = 2; asked = Call requests.Begin; side = None; answer = answers.Ok 0; missed = None; draw = None }
    ∷ record { actor = Insp; session = 1; asked = Call (requests.Create (record { name = codes "_t_ghc"; columns = (record { name = codes "id"; kind = Int 8 false; nullable = false; default = None; auto = false } ∷ record { name = codes "hint"; kind = VarChar 64; nullable = false; default = None; auto = false } ∷ record { name = codes "value"; kind = VarChar 255; nullable = false; default = None; auto = false } ∷ []); uniques = (record { name = None; places = (0 ∷ []) } ∷ []); indexes = []; comment = []; start = None })); side = None; answer = answers.Ok 0; missed = None; draw = None }
    ∷ record { actor = Insp; session = 1; asked = Call (requests.Create (record { name = codes "_t_gho"; columns = (record { name = codes "id"; kind = Int 4 false; nullable = false; default = None; auto = false } ∷ record { name = codes "b"; kind = Int 4 false; nullable = false; default = (Some (Num (pos 7))); auto = false } ∷ []); uniques = (record { name = None; places = (0 ∷ []) } ∷ []); indexes = []; comment = []; start = None })); side = None; answer = answers.Ok 0; missed = None; draw = None }
    ∷ record { actor = Insp; session = 1; asked = Call requests.LogEnd; side = None; answer = answers.At 0; missed = None; draw = None }
    ∷ record { actor = Insp; session = 1; asked = Call (requests.Ends (codes "t")); side = None; answer = answers.Ends None; missed = None; draw = None }
    ∷ []

infixr 5 ◌▸◌
-- one turn, and those behind it
abbrev ◌▸◌ : {A B : Type 0} → A → B → A × B
first ▸ others = (first, others)

faithful : IsFaithful plan_open_script journal_open_script
unfolding computing
faithful =
    record { sides = λ is. refl; answer = refl; missed = refl; draw = refl }
    ▸ record { sides = λ is. refl; answer = refl; missed = refl; draw = refl }
    ▸ record { sides = λ is. refl; answer = refl; missed = refl; draw = refl }
    ▸ record { sides = λ is. refl; answer = refl; missed = refl; draw = refl }
    ▸ record { sides = λ is. refl; answer = refl; missed = refl; draw = refl }
    ▸ record { sides = λ is. refl; answer = refl; missed = refl; draw = refl }
    ▸ tt

follows : Follows plan_open_script journal_open_script
unfolding computing Follows
follows =
    record { given = refl; session = grind (arith) }
    ▸ record { given = refl; session = grind (arith) }
    ▸ record { given = refl; session = refl }
    ▸ record { given = refl; session = refl }
    ▸ record { given = refl; session = refl }
    ▸ record { given = refl; session = refl }
    ▸ tt

-- *Nobody is ready*, the run hasn't ended, and no attempt is stuck
nobody_is_ready : list_any (is_ready plan_open_script journal_open_script) (actors plan_open_script) ≡ false
unfolding computing
nobody_is_ready = refl

goes_on : has_ended plan_open_script journal_open_script ≡ false
unfolding computing
goes_on = refl

not_stuck : IsStuck plan_open_script (moment plan_open_script journal_open_script) (moment plan_open_script journal_open_script).tool.tool_phase → ⊥
unfolding computing
not_stuck stuck = stuck
