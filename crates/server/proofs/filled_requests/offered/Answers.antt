use Rattle.std.proofs.Common.{◌≡◌, Some, sym, ap, ◌∙◌}
use Rattle.table_store.specs.Databases.{find_table}
use Rattle.base_values.specs.declared.gho_schema.schema.Schema.{Schema}
use Rattle.server_model.specs.Operations.{table_of}
use Rattle.server_model.specs.States.{is_of_tool, next_of, session_of}
use Rattle.server_storage.specs.Storage.{committed}
use Rattle.server.proofs.Offers.{offers_missing, offers_next, offers_none, offers_tool}
use Rattle.server.proofs.filled_requests.offered.Goals as goal

pub returns-then-is_of_tool : goal.returns-then-is_of_tool
returns-then-is_of_tool c =
    offers_tool (is_of_tool (session_of c.args.session c.args.all_sessions.now.sessions)) (committed c.args.storage.now) c.args.all_sessions.now.counters c.args.statement.now (sym c.is_of_tool.ensures ∙ c.if-is_of_tool.true)

pub returns-in_default : goal.returns-in_default
returns-in_default c =
    offers_missing (is_of_tool (session_of c.args.session c.args.all_sessions.now.sessions)) (committed c.args.storage.now) c.args.all_sessions.now.counters c.args.statement.now (sym (rw (c.table_of.ensures, c.tables.ensures) at c.in_default.ensures.table))

pub returns-then-would_draw : goal.returns-then-would_draw
returns-then-would_draw c =
    let found : find_table (table_of c.args.statement.now) (committed c.args.storage.now) ≡ Some c.in-Some.table.now.table = sym (rw (c.table_of.ensures, c.tables.ensures) at c.in-Some.ensures.table) in
    let client = sym c.is_of_tool.ensures ∙ c.if-is_of_tool.false in
    let next : c.next_number.result ≡ next_of c.in-Some.table.now.table.schema.name c.args.all_sessions.now.counters = c.next_number.ensures ∙ ap (λ (schema : Schema). next_of schema.name c.args.all_sessions.now.counters) c.schema-schema.ensures.schema in
    next ∙ offers_next (is_of_tool (session_of c.args.session c.args.all_sessions.now.sessions)) (committed c.args.storage.now) c.args.all_sessions.now.counters c.args.statement.now c.in-Some.table.now.table client found
    (sym (rw c.schema-schema.ensures.schema at c.in_ok-would_draw.ensures) ∙ c.if-would_draw.true)

pub returns-else-would_draw : goal.returns-else-would_draw
returns-else-would_draw c =
    let found : find_table (table_of c.args.statement.now) (committed c.args.storage.now) ≡ Some c.in-Some.table.now.table = sym (rw (c.table_of.ensures, c.tables.ensures) at c.in-Some.ensures.table) in
    let client = sym c.is_of_tool.ensures ∙ c.if-is_of_tool.false in
    offers_none (is_of_tool (session_of c.args.session c.args.all_sessions.now.sessions)) (committed c.args.storage.now) c.args.all_sessions.now.counters c.args.statement.now c.in-Some.table.now.table client found
    (sym (rw c.schema-schema.ensures.schema at c.in_ok-would_draw.ensures) ∙ c.if-would_draw.false)
