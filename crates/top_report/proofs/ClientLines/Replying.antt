-- Replies, as they are printed.
use Rattle.std.proofs.Common.{◌≡◌, ◌∙◌, ℕ, List, [], ◌∷◌, ◌++◌, Some, sym, ap, append-nil, append_assoc}
use Rattle.std.specs.List.{flat_map}
use Rattle.base_script.specs.declared.script.ScriptLine.{ScriptLine}
use Rattle.server_model.specs.declared.entry.Entry.{Entry}
use Rattle.plan_data.specs.PlanData.{PlanData}
use Rattle.tool_program.specs.JournalWords.Clients.{script_of}
use Rattle.tool_program.specs.JournalWords.Histories.{NumberedReply}
use Rattle.top_report.specs.ClientLines.Replies.{client_line, client_text, numbered_text}
use Rattle.top_report.specs.ClientLines.Walks.{new_walk, replies_from}
use Rattle.top_report.proofs.ClientLines.FoundReplies.{replies_found}

pub lone_reply : (reply : NumberedReply) → flat_map numbered_text (reply ∷ []) ≡ numbered_text reply
lone_reply reply = append-nil (numbered_text reply)

-- a client's text, by its walk
pub text_by_walk : (plan : PlanData) (journal : List Entry) (client : ℕ) (script : List ScriptLine) (into line after : List ℕ) → script_of client plan ≡ Some script
    → line ≡ into ++ client_line client → after ≡ line ++ flat_map numbered_text (replies_from client (new_walk script) journal) → after ≡ into ++ client_text plan journal client
unfolding client_text
text_by_walk plan journal client script into line after is first then =
    then ∙ ap (λ xs. xs ++ flat_map numbered_text (replies_from client (new_walk script) journal)) first
    ∙ append_assoc into (client_line client) (flat_map numbered_text (replies_from client (new_walk script) journal))
    ∙ ap (λ (replies : List NumberedReply). into ++ (client_line client ++ flat_map numbered_text replies)) (sym (replies_found plan journal client script is))
