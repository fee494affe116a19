use Rattle.std.proofs.Common.{◌++◌, ◌∙◌, ℕ, List, ap}
use Rattle.std.proofs.lemmas.Result.{on_ok_weaker}
use Rattle.table_store.specs.Databases.{database}
use Rattle.tool_program.specs.JournalWords.Serials.{tables_left}
use Rattle.top_trace.proofs.Lines.{tables_printed}
use Rattle.top_trace.proofs.whole.push_tables.Goals as goal

pub returns : goal.returns
returns c =
    on_ok_weaker c.push_tables_left.result
    (λ grown. grown ∙ ap (λ (text : List ℕ). c.args.into.now ++ text) (tables_printed (tables_left c.args.plan.now (database c.args.tables.now))))
    c.push_tables_left.ensures
