-- A client whose next line drew a number goes on as it does without.
use Rattle.std.proofs.Common.{◌≡◌, ℕ, Bool, true, false, ◌||◌, List, [], ◌∷◌, drop, Option, Some, None, refl, sym, ap, ◌∙◌, subst}
use Rattle.std.specs.Option.{option_or}
use Rattle.base_script.specs.declared.script.ScriptLine.{ScriptLine}
use Rattle.base_script.specs.declared.script.ScriptWord.{ScriptWord}
use Rattle.base_script.specs.declared.script.ScriptWord.TheVariants as words
use Rattle.base_script.specs.declared.statement.Statement.{Statement}
use Rattle.base_script.specs.declared.statement.Statement.TheVariants as statements
use Rattle.table_store.specs.Databases.{Database, TableRows, find_table}
use Rattle.server_model.specs.declared.transaction.Mark.{Mark}
use Rattle.server_model.specs.declared.transaction.Mark.TheVariants as marks
use Rattle.server_model.specs.declared.transaction.Reply.{Reply}
use Rattle.server_model.specs.Checks.{draws}
use Rattle.server_model.specs.Drawing.{numbered}
use Rattle.server_model.specs.Operations.{table_of}
use Rattle.run_actors.specs.declared.client_turns.actor_state.ClientState.{ClientState}
use Rattle.run_actors.specs.ClientTurns.ActorStates.{IsReached, line_outcome_as}
use Rattle.run_actors.specs.ClientTurns.DrawnLines.{left_drawn}
use Rattle.tool_program.specs.JournalWords.Clients.{Became, Nothing, Waits, Marked, Broken, Reached, client_over, is_empty, is_inside, left_after, lines_drawn, with_draw, word_numbered}
use Rattle.tool_program.proofs.JournalWords.DrawnLines.{line_numbered, numbered_inside, numbered_left}
use Rattle.run_actors.proofs.ClientTurns.DrawnLines.{drawn_again}
use Rattle.run_audit.specs.declared.line.LineAsked.{LineAsked}
use Rattle.run_audit.specs.declared.line.LineAsked.TheVariants.{Call, Rename, Poll, Cut, Word}
use Rattle.run_audit.specs.Audits.{draws_in, first_draws, word_draws}
use Rattle.run_audit.specs.Rules.{asks_next, client_after_line, left_by, left_outside}
use Rattle.run_judge.specs.TraceClients.{IsReachedWith, drawn_after}

-- the client without the number that its next line drew
abbrev pub undrawn : List ScriptLine → ClientState → Reached → Reached
undrawn script state client = record client { left = drop state.place script }

pub is_reached : (script : List ScriptLine) (drawn : Option ℕ) (state : ClientState) (client : Reached) → IsReachedWith script drawn state client → IsReached script state (undrawn script state client)
is_reached script drawn state client reached = record { left = refl; inside = reached.inside; waits = reached.waits; lost = reached.lost }

-- ---- what it asks next

asks_alike : (waits : Bool) (line other : ScriptLine) (lines : List ScriptLine) (asked : LineAsked) → asks_next waits (line ∷ lines) asked ≡ asks_next waits (other ∷ lines) asked
asks_alike true line other lines Call = refl
asks_alike true line other lines Rename = refl
asks_alike true line other lines Poll = refl
asks_alike true line other lines Cut = refl
asks_alike true line other lines Word = refl
asks_alike false line other lines Call = refl
asks_alike false line other lines Rename = refl
asks_alike false line other lines Poll = refl
asks_alike false line other lines Cut = refl
asks_alike false line other lines Word = refl

pub asks_drawn : (draw : Option ℕ) (waits : Bool) (left : List ScriptLine) (asked : LineAsked) → asks_next waits (left_drawn draw left) asked ≡ asks_next waits left asked
asks_drawn None waits left asked = refl
asks_drawn (Some number) waits [] asked = refl
asks_drawn (Some number) waits (line ∷ lines) asked = asks_alike waits (line_numbered number line) line lines asked

pub asks_undrawn : (script : List ScriptLine) (drawn : Option ℕ) (state : ClientState) (client : Reached) (asked : LineAsked) → IsReachedWith script drawn state client → asks_next client.waits (drop state.place script) asked ≡ asks_next client.waits client.left asked
asks_undrawn script drawn state client asked reached =
    sym (asks_drawn drawn client.waits (drop state.place script) asked) ∙ ap (λ (left : List ScriptLine). asks_next client.waits left asked) (sym reached.left)

-- ---- whether it is over, and whether its next line draws

empty_drawn : (draw : Option ℕ) (left : List ScriptLine) → is_empty (left_drawn draw left) ≡ is_empty left
empty_drawn None left = refl
empty_drawn (Some number) [] = refl
empty_drawn (Some number) (line ∷ lines) = refl

pub over_undrawn : (script : List ScriptLine) (drawn : Option ℕ) (state : ClientState) (client : Reached) → IsReachedWith script drawn state client → client_over (undrawn script state client) ≡ client_over client
over_undrawn script drawn state client reached = ap (λ (empty : Bool). client.is_lost || empty) (sym (ap is_empty reached.left ∙ empty_drawn drawn (drop state.place script)))

statement_draws : (number : ℕ) (found : Option TableRows) (statement : Statement) → draws_in found (numbered (Some number) statement) ≡ draws_in found statement
unfolding draws
statement_draws number None statement = refl
statement_draws number (Some table) (statements.Insert name columns values drawn) = refl
statement_draws number (Some table) (statements.Replace name columns values drawn) = refl
statement_draws number (Some table) (statements.Delete name condition) = refl
statement_draws number (Some table) (statements.Update name sets condition) = refl
statement_draws number (Some table) (statements.Select name shown condition) = refl

same_table : (number : ℕ) (statement : Statement) → table_of (numbered (Some number) statement) ≡ table_of statement
same_table number (statements.Insert name columns values drawn) = refl
same_table number (statements.Replace name columns values drawn) = refl
same_table number (statements.Delete name condition) = refl
same_table number (statements.Update name sets condition) = refl
same_table number (statements.Select name shown condition) = refl

word_draws_alike : (number : ℕ) (tables : Database) (word : ScriptWord) → word_draws tables (word_numbered (Some number) word) ≡ word_draws tables word
word_draws_alike number tables words.Begin = refl
word_draws_alike number tables words.Commit = refl
word_draws_alike number tables words.Rollback = refl
word_draws_alike number tables (words.Do statement) =
    statement_draws number (find_table (table_of (numbered (Some number) statement)) tables) statement ∙ ap (λ (name : List ℕ). draws_in (find_table name tables) statement) (same_table number statement)

draws_drawn : (draw : Option ℕ) (tables : Database) (left : List ScriptLine) → first_draws tables (left_drawn draw left) ≡ first_draws tables left
draws_drawn None tables left = refl
draws_drawn (Some number) tables [] = refl
draws_drawn (Some number) tables (line ∷ lines) = word_draws_alike number tables line.word

pub draws_undrawn : (script : List ScriptLine) (drawn : Option ℕ) (state : ClientState) (client : Reached) (tables : Database) → IsReachedWith script drawn state client → first_draws tables (drop state.place script) ≡ first_draws tables client.left
draws_undrawn script drawn state client tables reached = sym (draws_drawn drawn tables (drop state.place script)) ∙ ap (first_draws tables) (sym reached.left)

-- ---- with one number more

pub reached_drawn : (script : List ScriptLine) (draw kept : Option ℕ) (state : ClientState) (client : Reached) → IsReachedWith script kept state client → IsReachedWith script (option_or draw kept) state (with_draw draw client)
reached_drawn script None kept state client reached = reached
reached_drawn script (Some number) kept state client reached = record {
  left = ap (lines_drawn number) reached.left ∙ drawn_again kept number (drop state.place script);
  inside = reached.inside;
  waits = reached.waits;
  lost = reached.lost;
}

-- ---- after its turn

outside_alike : (number : ℕ) (word : ScriptWord) (lines : List ScriptLine) → left_outside (word_numbered (Some number) word) lines ≡ left_outside word lines
outside_alike number words.Begin lines = refl
outside_alike number words.Commit lines = refl
outside_alike number words.Rollback lines = refl
outside_alike number (words.Do statement) lines = refl

left_alike : (inside : Bool) (number : ℕ) (mark : Mark) (reply : Option Reply) (line : ScriptLine) (lines : List ScriptLine) → left_by (Marked mark reply) inside (line_numbered number line ∷ lines) (left_after inside mark (line_numbered number line) lines) ≡ left_by (Marked mark reply) inside (line ∷ lines) (left_after inside mark line lines)
left_alike true number marks.Answered reply line lines = numbered_left true number marks.Answered line lines
left_alike false number marks.Answered reply line lines = numbered_left false number marks.Answered line lines
left_alike true number marks.TimedOut reply line lines = numbered_left true number marks.TimedOut line lines
left_alike false number marks.TimedOut reply line lines = outside_alike number line.word lines
left_alike true number (marks.Lost side) reply line lines = numbered_left true number (marks.Lost side) line lines
left_alike false number (marks.Lost side) reply line lines = numbered_left false number (marks.Lost side) line lines

marked_numbered : (script : List ScriptLine) (state : ClientState) (client : Reached) (number : ℕ) (mark : Mark) (reply : Option Reply) (left : List ScriptLine) → IsReached script state (client_after_line (Marked mark reply) (record client { left = left }))
    → IsReached script state (client_after_line (Marked mark reply) (record client { left = lines_drawn number left }))
marked_numbered script state client number mark reply [] reached = reached
marked_numbered script state client number mark reply (line ∷ lines) reached = record {
  left = left_alike (is_inside client.lines) number mark reply line lines ∙ reached.left;
  inside = sym (numbered_inside client number line.word mark) ∙ reached.inside;
  waits = reached.waits;
  lost = reached.lost;
}

marked_drawn : (script : List ScriptLine) (state : ClientState) (client : Reached) (draw : Option ℕ) (mark : Mark) (reply : Option Reply) (left : List ScriptLine) → IsReached script state (client_after_line (Marked mark reply) (record client { left = left }))
    → IsReached script state (client_after_line (Marked mark reply) (record client { left = left_drawn draw left }))
marked_drawn script state client None mark reply left reached = reached
marked_drawn script state client (Some number) mark reply left reached = marked_numbered script state client number mark reply left reached

without_draw : (script : List ScriptLine) (state : ClientState) (client : Reached) → IsReached script state client → IsReachedWith script None state client
without_draw script state client reached = record { left = reached.left; inside = reached.inside; waits = reached.waits; lost = reached.lost }

-- by how far it is without the number
pub reached_after : (script : List ScriptLine) (drawn : Option ℕ) (old new : ClientState) (client : Reached) (became : Became) → IsReachedWith script drawn old client → IsReached script new (client_after_line became (undrawn script old client))
    → IsReachedWith script (drawn_after (line_outcome_as became) drawn) new (client_after_line became client)
reached_after script drawn old new client Nothing before after = record { left = before.left ∙ ap (left_drawn drawn) after.left; inside = after.inside; waits = after.waits; lost = after.lost }
reached_after script drawn old new client Waits before after = record { left = before.left ∙ ap (left_drawn drawn) after.left; inside = after.inside; waits = after.waits; lost = after.lost }
reached_after script drawn old new client Broken before after = record { left = before.left ∙ ap (left_drawn drawn) after.left; inside = after.inside; waits = after.waits; lost = after.lost }
reached_after script drawn old new client (Marked mark reply) before after =
    without_draw script new (client_after_line (Marked mark reply) client)
    (subst (λ (left : List ScriptLine). IsReached script new (client_after_line (Marked mark reply) (record client { left = left }))) (sym before.left) (marked_drawn script new client drawn mark reply (drop old.place script) after))
