use Rattle.std.proofs.Common.{◌≡◌, ◌++◌, drop}
use Rattle.std.specs.List.{flat_map}
use Rattle.top_report.specs.ClientLines.Replies.{numbered_text}
use Rattle.top_report.specs.ClientLines.Walks.{new_walk, replies_from}
use Rattle.top_report.proofs.client_lines.replies.push_replies.Given as goal

-- what stands with the replies that are left is all
abbrev pub invariant-loop-entry : goal.invariant-loop-entry
invariant-loop-entry l =
    l.into ++ flat_map numbered_text (replies_from l.client l.walk (drop l.entry-index l.journal)) ≡ l.fn.into ++ flat_map numbered_text (replies_from l.client (new_walk l.script) l.journal)
