-- What clients got, as it is printed. This project's rule.
use Rattle.std.specs.Prelude.{codes, ℕ, ◌+◌, List, [], ◌∷◌, ◌++◌, length, Option, Some, None}
use Rattle.std.specs.Fmt.{decimal}
use Rattle.std.specs.List.{flat_map}
use Rattle.base_script.specs.declared.script.ScriptLine.{ScriptLine}
use Rattle.server_model.specs.declared.transaction.Reply.{Reply}
use Rattle.server_model.specs.declared.transaction.Reply.TheVariants.{Ok, Error, Rows}
use Rattle.server_model.specs.declared.entry.Entry.{Entry}
use Rattle.plan_data.specs.PlanData.{PlanData}
use Rattle.tool_program.specs.JournalWords.Histories.{NumberedReply, replies_of}
use Rattle.table_print.specs.Tables.{row_lines}

-- the number that the line drew for an AUTO_INCREMENT column: ` id 5`
abbrev pub draw_text : Option ℕ → List ℕ
draw_text None = []
draw_text (Some number) = codes " id " ++ decimal number

-- a reply: `ok 1`, `ok 1 id 5`, `error 1062`, `rows 2` and then the rows; or `lost`, where the session was lost at the line
unfoldable pub reply_text : Option Reply → Option ℕ → List ℕ
reply_text (Some (Ok count)) draw = codes "ok " ++ decimal count ++ draw_text draw ++ codes "\n"
reply_text (Some (Error number)) draw = codes "error " ++ decimal number ++ codes "\n"
reply_text (Some (Rows rows)) draw = codes "rows " ++ decimal (length rows) ++ codes "\n" ++ row_lines rows
reply_text None draw = codes "lost\n"

-- a reply after the numbers of its transaction in the script and of its line in the transaction: `1.1 ok 1`
unfoldable pub numbered_text : NumberedReply → List ℕ
numbered_text numbered = decimal numbered.transaction ++ codes "." ++ decimal numbered.line ++ codes " " ++ reply_text numbered.reply numbered.draw

-- a client's line: `client c1`
abbrev pub client_line : ℕ → List ℕ
client_line client = codes "client c" ++ decimal client ++ codes "\n"

-- a client and its replies in order, each on a line of its own
unfoldable pub client_text : PlanData → List Entry → ℕ → List ℕ
client_text plan journal client = client_line client ++ flat_map numbered_text (replies_of plan journal client)

-- the clients from this number on, one for each script
unfoldable pub clients_from : PlanData → List Entry → ℕ → List (List ScriptLine) → List ℕ
clients_from plan journal client [] = []
clients_from plan journal client (script ∷ scripts) = client_text plan journal client ++ clients_from plan journal (client + 1) scripts

-- all clients; they are numbered from 1
abbrev pub clients_text : PlanData → List Entry → List ℕ
clients_text plan journal = clients_from plan journal 1 plan.clients
