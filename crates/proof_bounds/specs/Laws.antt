-- How many turns a run takes.
use Rattle.std.specs.Prelude.{◌≡◌, ◌≤◌, ◌+◌, ℕ, Bool, ◌||◌, ◌&&◌, List, length, count_by, is_some}
use Rattle.server_model.specs.declared.entry.Entry.{Entry}
use Rattle.base_script.specs.declared.actor.Actor.{Actor}
use Rattle.base_script.specs.declared.actor.Actor.TheVariants.{Copy, Apply}
use Rattle.server_model.specs.Entries.{is_cut, same_actor}
use Rattle.plan_data.specs.PlanData.{PlanData}
use Rattle.tool_program.specs.JournalWords.Journals.{IsFaithful}
use Rattle.tool_program.specs.JournalWords.KeptPlans.{KeepsPlan}
use Rattle.tool_program.specs.Programs.{Follows}
use Rattle.proof_journals.specs.Machine.Scripts.{ScriptsFit}
use Rattle.proof_bounds.specs.Parts.{rolls_back, OfOperator, OfClients, OfSetup, OfChunks, OfBatches, OfAttempts, OfClearing, turns_of_part}
use Rattle.tool_program.specs.JournalWords.Bounds.{measures}
use Rattle.proof_bounds.specs.Terms.{term_of}

-- *Parts make a journal*: each turn is of one part
abbrev pub PartsMakeJournals : Type 0
PartsMakeJournals =
    (plan : PlanData) (journal : List Entry)
    → length journal ≡ turns_of_part OfOperator plan journal + turns_of_part OfClients plan journal + turns_of_part OfSetup plan journal + turns_of_part OfChunks plan journal + turns_of_part OfBatches plan journal + turns_of_part OfAttempts plan journal + turns_of_part OfClearing plan journal

-- a session is lost in the turn: in a call, a poll, or between calls
abbrev pub is_struck : Entry → Bool
is_struck entry = is_cut entry.asked || is_some entry.side

abbrev pub struck_turns : List Entry → ℕ
struck_turns journal = count_by is_struck journal

-- *Losses strike once*: a journal that keeps the plan has at most as many turns in which a session is lost as the plan has losses
abbrev pub LossesStrikeOnce : Type 0
LossesStrikeOnce = (plan : PlanData) (journal : List Entry) → KeepsPlan plan journal → struck_turns journal ≤ length plan.faults

-- *The operator's turns are few*: a journal that keeps the plan has at most as many as the plan has commands, each unit of a wait
-- counted as one
abbrev pub OperatorTurnsAreFew : Type 0
OperatorTurnsAreFew = (plan : PlanData) (journal : List Entry) → KeepsPlan plan journal → turns_of_part OfOperator plan journal ≤ term_of OfOperator (measures plan)

-- each wait of a client's, and of the tool's, is polled once at least
pub record MayWait (plan : PlanData) : Type 0 where
  pub client : 1 ≤ plan.options.client_wait
  pub tool : 1 ≤ plan.options.tool_wait

-- *The clients' turns are few*: each line takes one turn, and as many more as a wait of a client's is polled
abbrev pub ClientTurnsAreFew : Type 0
ClientTurnsAreFew = (plan : PlanData) (journal : List Entry) → MayWait plan → ScriptsFit plan → IsFaithful plan journal → Follows plan journal → turns_of_part OfClients plan journal ≤ term_of OfClients (measures plan)

-- how often this actor calls for its transaction to be rolled back
abbrev pub back_turns : Actor → List Entry → ℕ
back_turns actor journal = count_by (λ entry. same_actor entry.actor actor && rolls_back entry.asked) journal

-- *Rollbacks are few*: the copier and the applier each roll back once at most
abbrev pub RollbacksAreFew : Type 0
RollbacksAreFew = (plan : PlanData) (journal : List Entry) → IsFaithful plan journal → Follows plan journal → (back_turns Copy journal ≤ 1) × (back_turns Apply journal ≤ 1)
