-- *Answers come at once*: where a new tool is alone on the server, none of its calls waits, times out or is lost.
use Rattle.std.specs.Prelude.{◌≡◌, Bool, true, false, List, ◌++◌}
use Rattle.std.specs.List.{AllByRecursion}
use Rattle.server_model.specs.declared.answer.Answer.{Answer}
use Rattle.server_model.specs.declared.answer.Answer.TheVariants as answers
use Rattle.server_model.specs.declared.entry.Entry.{Entry}
use Rattle.server_model.specs.Entries.{is_cut}
use Rattle.plan_data.specs.PlanData.{PlanData}
use Rattle.tool_program.specs.JournalWords.Journals.{IsFaithful}
use Rattle.tool_program.specs.JournalWords.Sessions.{KeepsSessions}
use Rattle.tool_finish.specs.Finishes.{IsFinish}
use Rattle.proof_journals.specs.Run.Kept.{IsKept}

abbrev pub came_at_once : Answer → Bool
came_at_once (answers.Waits by) = false
came_at_once (answers.TimedOut waited) = false
came_at_once answers.Lost = false
came_at_once answer = true

-- *Answers come at once*: each turn of the new tool but the losses of the sessions that it found is answered at once.
abbrev pub AnswersComeAtOnce : Type 0
AnswersComeAtOnce = (plan : PlanData) (run turns : List Entry) → IsKept plan run → IsFinish plan run turns → IsFaithful plan (run ++ turns) → AllByRecursion (λ entry. is_cut entry.asked ≡ false → came_at_once entry.answer ≡ true) turns

-- *The new tool keeps to sessions*: each of its turns is in its actor's session.
abbrev pub FinishesKeepSessions : Type 0
FinishesKeepSessions = (plan : PlanData) (run turns : List Entry) → KeepsSessions run → IsFinish plan run turns → KeepsSessions (run ++ turns)
