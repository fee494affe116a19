-- Replies as a trace has them. (This project's rule.)
use Rattle.std.specs.Prelude.{ℕ, Bool, false, List, map, Option, Some, None}
use Rattle.server_model.specs.declared.transaction.Reply.{Reply}
use Rattle.server_model.specs.declared.transaction.Reply.TheVariants as replies
use Rattle.tool_program.specs.JournalWords.Clients.{Became, Marked}
use Rattle.run_audit.specs.declared.line.LineAnswer.{LineAnswer}
use Rattle.run_audit.specs.declared.line.LineAsked.TheVariants.{Call}
use Rattle.run_audit.specs.Audits.{same_reply}
use Rattle.run_audit.specs.Rules.{became_of_line}
use Rattle.run_judge.specs.declared.replies.TraceReply.{TraceReply}
use Rattle.run_judge.specs.declared.replies.TraceReply.TheVariants as given
use Rattle.run_judge.specs.declared.replies.TurnReply.{TurnReply}

-- the reply itself
abbrev pub reply_as : TraceReply → Reply
reply_as (given.Ok count) = replies.Ok count
reply_as (given.Error number) = replies.Error number
reply_as (given.Rows rows) = replies.Rows rows

-- the reply to a line, where there is one
abbrev pub reply_in : Became → Option Reply
reply_in (Marked mark reply) = reply
reply_in other = None

-- ... by its answer
abbrev pub called_reply : LineAnswer → Option Reply
called_reply answer = reply_in (became_of_line false Call answer)

-- replies, and their turns
abbrev pub turns_of : List TurnReply → List ℕ
turns_of given = map (λ one. one.turn) given

abbrev pub replies_of : List TurnReply → List Reply
replies_of given = map (λ one. reply_as one.reply) given

-- the reply alone is this one, where there is one
abbrev pub is_reply : Option Reply → TraceReply → Bool
is_reply None reply = false
is_reply (Some other) reply = same_reply (reply_as reply) other
