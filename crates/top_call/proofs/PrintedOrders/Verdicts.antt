-- The history, the verdict and the report of a journal are the same whatever order of turns its plan asks for.
use Rattle.std.proofs.Common.{◌≡◌, ℕ, nat_le, ◌+◌, Bool, false, not, ◌&&◌, ◌||◌, if◌then◌else◌, List, [], ◌∷◌, ◌++◌, length, Option, Some, None, refl, ap, ap₂, ◌∙◌}
use Rattle.std.specs.Prelude.{codes}
use Rattle.std.specs.List.{flat_map, list_any}
use Rattle.base_values.specs.declared.value.Value.{Value}
use Rattle.base_values.specs.ToolNames.{log_name}
use Rattle.base_script.specs.declared.actor.Actor.{Actor}
use Rattle.base_script.specs.declared.actor.Actor.TheVariants.{Op, Insp, Copy, Apply, Lock, Ren, Client}
use Rattle.base_script.specs.declared.script.ScriptLine.{ScriptLine}
use Rattle.table_store.specs.Databases.{Database, has_table}
use Rattle.server_model.specs.Along.{gathered}
use Rattle.server_model.specs.declared.request.Request.{Request}
use Rattle.server_model.specs.declared.answer.Answer.{Answer}
use Rattle.server_model.specs.declared.answer.Answer.TheVariants as answers
use Rattle.server_model.specs.declared.entry.Entry.{Entry}
use Rattle.server_model.specs.declared.outcome.Cause.TheVariants as causes
use Rattle.server_model.specs.declared.outcome.Verdict.{Verdict}
use Rattle.server_model.specs.declared.outcome.Verdict.TheVariants as verdicts
use Rattle.plan_data.specs.PlanData.{PlanData, new_schema}
use Rattle.plan_data.specs.declared.runs.ActorRun.{ActorRun}
use Rattle.tool_program.specs.JournalWords.Clients.{all_over, client_at, client_over}
use Rattle.tool_program.specs.JournalWords.Histories.{HistoryItem, about, adds, alters, answer_in, entry_adds, history, is_alter, replies_of}
use Rattle.tool_finish.specs.Checkpoints.{has_checkpoint, is_migrating, writes_checkpoint}
use Rattle.tool_program.specs.JournalWords.Journals.{state_at}
use Rattle.tool_program.specs.JournalWords.Serials.{tables_left}
use Rattle.tool_program.specs.Tools.{ToolPhase, SettingUp, Migrating, Reason, CopyUnfit, ApplyUnfit, Spent, Panicked, Tool, Moment, moment}
use Rattle.tool_program.specs.Verdicts.{apply_key, cause_of, ended_so, has_ended, new_column_name, reverted_by, verdict_of}
use Rattle.tool_program.specs.Verdicts as tool_verdicts
use Rattle.table_print.specs.Names.{names_line}
use Rattle.run_turns.specs.Runs.{is_over, Stops}
use Rattle.top_report.specs.Verdicts.{verdict_line}
use Rattle.top_report.specs.ClientLines.Replies.{client_text, clients_from}
use Rattle.top_report.specs.ClientLines.Pasts.{history_line, item_text}
use Rattle.top_report.specs.Reports.{report, where_shown}
use Rattle.top_report.specs.Tables.{tables_text}
use Rattle.top_report.specs.Turns.{turns_text}
use Rattle.top_call.specs.PrintedOrders.{ordered}
use Rattle.top_call.specs.ResumedRuns.{is_resumed}
use Rattle.top_call.proofs.PrintedOrders.Programs.{along_same, moment_same}

gathered_same : {E A : Type 0} (one two : List E → E → List A) → ((before : List E) (entry : E) → one before entry ≡ two before entry) → (before entries : List E) → gathered one before entries ≡ gathered two before entries
gathered_same one two same before [] = refl
gathered_same one two same before (entry ∷ entries) = ap₂ (λ first others. first ++ others) (same before entry) (gathered_same one two same (before ++ entry ∷ []) entries)

module _ (plan : PlanData) (runs : List ActorRun) where
  -- THE HISTORY

  alters_same : (request : Option Request) (answer : Option Answer) → alters (ordered plan runs) request answer ≡ alters plan request answer
  alters_same request None = refl
  alters_same request (Some (answers.Ok count)) = refl
  alters_same request (Some (answers.Rows rows)) = refl
  alters_same request (Some (answers.Keys keys end)) = refl
  alters_same request (Some (answers.Ends range)) = refl
  alters_same request (Some (answers.End key)) = refl
  alters_same request (Some (answers.At position)) = refl
  alters_same request (Some (answers.Events events next)) = refl
  alters_same request (Some (answers.Tables tables)) = refl
  alters_same request (Some (answers.Waiting waiters)) = refl
  alters_same request (Some (answers.Refused number column)) = refl
  alters_same request (Some (answers.Waits by)) = refl
  alters_same request (Some (answers.TimedOut waited)) = refl
  alters_same request (Some answers.Lost) = refl

  adds_same : (before : List Entry) (entry : Entry) (actor : Actor) → adds (ordered plan runs) before entry actor ≡ adds plan before entry actor
  unfolding client_at
  adds_same before entry Op = alters_same (about before entry) (answer_in entry.asked entry.side entry.answer entry.missed)
  adds_same before entry Insp = alters_same (about before entry) (answer_in entry.asked entry.side entry.answer entry.missed)
  adds_same before entry Copy = alters_same (about before entry) (answer_in entry.asked entry.side entry.answer entry.missed)
  adds_same before entry Apply = alters_same (about before entry) (answer_in entry.asked entry.side entry.answer entry.missed)
  adds_same before entry Lock = alters_same (about before entry) (answer_in entry.asked entry.side entry.answer entry.missed)
  adds_same before entry Ren = alters_same (about before entry) (answer_in entry.asked entry.side entry.answer entry.missed)
  adds_same before entry (Client client) = refl

  history_same : (journal : List Entry) → history (ordered plan runs) journal ≡ history plan journal
  unfolding history
  history_same journal = gathered_same (entry_adds (ordered plan runs)) (entry_adds plan) (λ before entry. adds_same before entry entry.actor) [] journal

  -- THE VERDICT

  all_over_same : (journal : List Entry) (client : ℕ) (scripts : List (List ScriptLine)) → all_over (ordered plan runs) journal client scripts ≡ all_over plan journal client scripts
  unfolding all_over client_at
  all_over_same journal client [] = refl
  all_over_same journal client (script ∷ scripts) = ap (λ (b : Bool). if client_over (client_at plan journal client) then b else false) (all_over_same journal (client + 1) scripts)

  has_ended_same : (journal : List Entry) → has_ended (ordered plan runs) journal ≡ has_ended plan journal
  unfolding has_ended
  has_ended_same journal = ap₂ (λ (m : Moment) (b : Bool). tool_verdicts.is_over m && b) (moment_same plan runs journal) (all_over_same journal 1 plan.clients)

  apply_key_same : (journal : List Entry) (phase : ToolPhase) → apply_key (ordered plan runs) journal phase ≡ apply_key plan journal phase
  apply_key_same journal (SettingUp setup tries) = refl
  apply_key_same journal (Migrating work) = refl

  cause_of_same : (journal : List Entry) (tool : Tool) (reason : Reason) → cause_of (ordered plan runs) journal tool reason ≡ cause_of plan journal tool reason
  unfolding new_schema
  cause_of_same journal tool (CopyUnfit turn place number) = refl
  cause_of_same journal tool (ApplyUnfit turn place number) = ap (λ (key : List Value). causes.Unfit turn key (new_column_name plan place) number) (apply_key_same journal tool.tool_phase)
  cause_of_same journal tool (Spent task turns) = refl
  cause_of_same journal tool (Panicked turn) = refl

  reverted_by_same : (journal : List Entry) (tool : Tool) (reason : Option Reason) → reverted_by (ordered plan runs) journal tool reason ≡ reverted_by plan journal tool reason
  reverted_by_same journal tool None = refl
  reverted_by_same journal tool (Some reason) = ap verdicts.Reverted (cause_of_same journal tool reason)

  ended_so_same : (journal : List Entry) (tool : Tool) → ended_so (ordered plan runs) journal tool ≡ ended_so plan journal tool
  ended_so_same journal tool = ap₂ (λ (items : List HistoryItem) (verdict : Verdict). if list_any is_alter items then verdicts.Done else verdict) (history_same journal) (reverted_by_same journal tool tool.reason)

  pub verdict_same : (journal : List Entry) → verdict_of (ordered plan runs) journal ≡ verdict_of plan journal
  unfolding verdict_of
  verdict_same journal =
      ap₂ (λ (ended : Bool) (m : Moment). if ended then ended_so (ordered plan runs) journal m.tool else verdicts.Unfinished) (has_ended_same journal) (moment_same plan runs journal)
      ∙ ap (λ (verdict : Verdict). if has_ended plan journal then verdict else verdicts.Unfinished) (ended_so_same journal (moment plan journal).tool)

  -- *The run is over when it was*
  pub over_same : (journal : List Entry) → is_over (ordered plan runs) journal ≡ is_over plan journal
  unfolding is_over
  over_same journal = ap (λ (ended : Bool). ended || nat_le plan.options.turn_limit (length journal)) (has_ended_same journal)

  pub stops_same : (journal : List Entry) → Stops plan journal → Stops (ordered plan runs) journal
  unfolding Stops
  stops_same journal stops = along_same (λ before entry. is_over plan before ≡ false) (λ before entry. is_over (ordered plan runs) before ≡ false) (λ before entry is. over_same before ∙ is) [] journal stops

  -- WHETHER IT IS RESUMED

  checkpoint_same : (journal : List Entry) → has_checkpoint (ordered plan runs) journal ≡ has_checkpoint plan journal
  unfolding has_checkpoint
  checkpoint_same journal = ap (λ (m : Moment). is_migrating m.tool.tool_phase && list_any writes_checkpoint journal && has_table (log_name plan.table) (state_at plan journal).tables) (moment_same plan runs journal)

  -- *A new tool goes on behind it if one did*
  pub resumed_same : (journal : List Entry) → is_resumed (ordered plan runs) journal ≡ is_resumed plan journal
  unfolding is_resumed
  resumed_same journal =
      ap₂ (λ (over ended : Bool). plan.options.resume && over && not ended && has_checkpoint (ordered plan runs) journal) (over_same journal) (has_ended_same journal)
      ∙ ap (λ (found : Bool). plan.options.resume && is_over plan journal && not (has_ended plan journal) && found) (checkpoint_same journal)

  -- THE REPORT

  client_text_same : (journal : List Entry) (client : ℕ) → client_text (ordered plan runs) journal client ≡ client_text plan journal client
  unfolding client_text replies_of client_at
  client_text_same journal client = refl

  clients_same : (journal : List Entry) (client : ℕ) (scripts : List (List ScriptLine)) → clients_from (ordered plan runs) journal client scripts ≡ clients_from plan journal client scripts
  unfolding clients_from
  clients_same journal client [] = refl
  clients_same journal client (script ∷ scripts) = ap₂ (λ (first others : List ℕ). first ++ others) (client_text_same journal client) (clients_same journal (client + 1) scripts)

  history_line_same : (journal : List Entry) → history_line (ordered plan runs) journal ≡ history_line plan journal
  unfolding history_line
  history_line_same journal = ap (λ (items : List HistoryItem). codes "history" ++ flat_map item_text items ++ codes "\n") (history_same journal)

  -- *The same is printed*
  pub report_same : (journal : List Entry) (verdict : Verdict) (tables : Database) → report (ordered plan runs) journal verdict tables ≡ report plan journal verdict tables
  unfolding report tables_left
  report_same journal verdict tables =
      ap₂
      (λ (clients past : List ℕ).
      verdict_line verdict
      ++ where_shown plan.options.show_replies clients
      ++ tables_text plan.options.show_tables (tables_left plan tables)
      ++ names_line tables
      ++ where_shown plan.options.show_history past
      ++ where_shown plan.options.show_turns (turns_text journal))
      (clients_same journal 1 plan.clients)
      (history_line_same journal)
