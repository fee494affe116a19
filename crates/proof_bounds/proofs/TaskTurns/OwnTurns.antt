-- What is known of a turn of the copier's, or of the applier's: which part it is of, what it asks, and how long it waited.
use Rattle.std.proofs.Common.{◌≡◌, ◌≤◌, ℕ, ◌+◌, Bool, true, false, cond, ◌||◌, List, [], ◌∷◌, ◌++◌, Option, Some, None, refl, sym, ap, ◌∙◌, subst, arith}
use Rattle.std.specs.Prelude.{is_some}
use Rattle.std.proofs.lemmas.Bool.{true≢false, false≢true, or_parts}
use Rattle.base_script.specs.declared.actor.Actor.{Actor}
use Rattle.base_script.specs.declared.actor.Actor.TheVariants.{Op, Insp, Copy, Apply, Lock, Ren, Client}
use Rattle.base_script.specs.declared.actor.Side.{Side}
use Rattle.server_model.specs.declared.entry.Asked.{Asked}
use Rattle.server_model.specs.declared.entry.Asked.TheVariants.{Call, Poll, Command, Cut}
use Rattle.server_model.specs.declared.entry.Entry.{Entry}
use Rattle.server_model.specs.declared.request.Request.{Request}
use Rattle.server_model.specs.declared.session.Waiting.{Waiting}
use Rattle.server_model.specs.Entries.{same_actor, is_command, is_cut}
use Rattle.server_model.specs.States.{State, session_of, polls_of, waiting_of, is_in_transaction, holds_tables, is_waiting, has_work}
use Rattle.plan_data.specs.PlanData.{PlanData}
use Rattle.tool_program.specs.JournalWords.Journals.{state_at}
use Rattle.tool_program.specs.JournalWords.Sessions.{live_session}
use Rattle.tool_program.specs.declared.cutover_core.cutover.Phase.{Phase}
use Rattle.tool_program.specs.declared.cutover_core.cutover.Phase.TheVariants.{Resting, Attempting, Ending, Finishing, Finished}
use Rattle.tool_program.specs.Programs.{tool_asks, given, IsGiven}
use Rattle.tool_program.specs.Tools.{ToolPhase, SettingUp, Migrating, moment}
use Rattle.proof_journals.specs.Turns.{request_of}
use Rattle.proof_journals.specs.Machine.Standings.{standing_in}
use Rattle.proof_journals.proofs.Actors.{same_actor_is}
use Rattle.proof_journals.proofs.Machine.Asking.{idle_waits}
use Rattle.proof_journals.proofs.Machine.Journals.{IsRun, IsTogether, Asking, asking, never_commands}
use Rattle.proof_journals.proofs.Machine.Seated.{own_session}
use Rattle.proof_migration.proofs.ToolPhase.ToolPhaseTurns.{gives_asked}
use Rattle.proof_bounds.specs.Parts.{Part, OfSetup, OfChunks, OfBatches, OfAttempts, OfClearing, rolls_back, work_part, is_again, ending_part, phase_part, inspector_part, part_by, part_of, same_part, turns_of_part}
use Rattle.proof_bounds.proofs.Counting.{count_more, count_no}
use Rattle.proof_bounds.proofs.Waits.{waited_in, waited_by, idle_waited}

-- WHOSE PART IT IS

-- the inspector's turns are of other parts
module _ (mine : Part) (not_setup : same_part mine OfSetup ≡ false) (not_attempts : same_part mine OfAttempts ≡ false) (not_clearing : same_part mine OfClearing ≡ false) where
  again_not : (b : Bool) → same_part mine (cond b OfClearing OfAttempts) ≡ false
  again_not true = not_clearing
  again_not false = not_attempts

  ending_not : (live : Option ℕ) (side : Option Side) (asked : Asked) → same_part mine (ending_part live side asked) ≡ false
  ending_not live side Poll = not_attempts
  ending_not live side (Call request) = again_not (is_again live side)
  ending_not live side (Command word) = again_not (is_again live side)
  ending_not live side Cut = again_not (is_again live side)

  phase_not : (live : Option ℕ) (side : Option Side) (asked : Asked) (phase : Phase) → same_part mine (phase_part live side asked phase) ≡ false
  phase_not live side asked Resting = not_clearing
  phase_not live side asked (Attempting stage) = not_attempts
  phase_not live side asked (Ending clearing) = ending_not live side asked
  phase_not live side asked (Finishing clearing) = not_clearing
  phase_not live side asked Finished = not_clearing

  inspector_not : (live : Option ℕ) (side : Option Side) (asked : Asked) (tool_phase : ToolPhase) → same_part mine (inspector_part live side asked tool_phase) ≡ false
  inspector_not live side asked (SettingUp setup tries) = not_setup
  inspector_not live side asked (Migrating work) = phase_not live side asked work.cutover.phase

  work_not : (part : Part) → same_part mine part ≡ false → (asked : Asked) → same_part mine (work_part part asked) ≡ false
  work_not part other asked = by (rolls_back asked) where
    by : (b : Bool) → same_part mine (cond b OfClearing part) ≡ false
    by true = not_clearing
    by false = other

  work_own : (asked : Asked) → same_part mine (work_part mine asked) ≡ true → rolls_back asked ≡ false
  work_own asked = by (rolls_back asked) where
    by : (b : Bool) → same_part mine (cond b OfClearing mine) ≡ true → b ≡ false
    by true own = absurd (false≢true (sym not_clearing ∙ own))
    by false own = refl

-- a turn of this actor's that asks for something else than a rollback
pub record TaskTurn (mine actor : Actor) (asked : Asked) : Type 0 where
  pub who : actor ≡ mine
  pub forward : rolls_back asked ≡ false
  pub called : is_command asked ≡ false
  pub uncut : is_cut asked ≡ false

pub chunk_turn : (tool_phase : ToolPhase) (live : Option ℕ) (side : Option Side) (actor : Actor) (asked : Asked) → same_part OfChunks (part_by tool_phase live side actor asked) ≡ true → TaskTurn Copy actor asked
chunk_turn tool_phase live side actor (Command word) is = absurd (false≢true is)
chunk_turn tool_phase live side actor Cut is = absurd (false≢true is)
chunk_turn tool_phase live side Op (Call request) is = absurd (false≢true is)
chunk_turn tool_phase live side Insp (Call request) is = absurd (false≢true (sym (inspector_not OfChunks refl refl refl live side (Call request) tool_phase) ∙ is))
chunk_turn tool_phase live side Copy (Call request) is = record { who = refl; forward = work_own OfChunks refl refl refl (Call request) is; called = refl; uncut = refl }
chunk_turn tool_phase live side Apply (Call request) is = absurd (false≢true (sym (work_not OfChunks refl refl refl OfBatches refl (Call request)) ∙ is))
chunk_turn tool_phase live side Lock (Call request) is = absurd (false≢true is)
chunk_turn tool_phase live side Ren (Call request) is = absurd (false≢true is)
chunk_turn tool_phase live side (Client c) (Call request) is = absurd (false≢true is)
chunk_turn tool_phase live side Op Poll is = absurd (false≢true is)
chunk_turn tool_phase live side Insp Poll is = absurd (false≢true (sym (inspector_not OfChunks refl refl refl live side Poll tool_phase) ∙ is))
chunk_turn tool_phase live side Copy Poll is = record { who = refl; forward = refl; called = refl; uncut = refl }
chunk_turn tool_phase live side Apply Poll is = absurd (false≢true is)
chunk_turn tool_phase live side Lock Poll is = absurd (false≢true is)
chunk_turn tool_phase live side Ren Poll is = absurd (false≢true is)
chunk_turn tool_phase live side (Client c) Poll is = absurd (false≢true is)

pub batch_turn : (tool_phase : ToolPhase) (live : Option ℕ) (side : Option Side) (actor : Actor) (asked : Asked) → same_part OfBatches (part_by tool_phase live side actor asked) ≡ true → TaskTurn Apply actor asked
batch_turn tool_phase live side actor (Command word) is = absurd (false≢true is)
batch_turn tool_phase live side actor Cut is = absurd (false≢true is)
batch_turn tool_phase live side Op (Call request) is = absurd (false≢true is)
batch_turn tool_phase live side Insp (Call request) is = absurd (false≢true (sym (inspector_not OfBatches refl refl refl live side (Call request) tool_phase) ∙ is))
batch_turn tool_phase live side Copy (Call request) is = absurd (false≢true (sym (work_not OfBatches refl refl refl OfChunks refl (Call request)) ∙ is))
batch_turn tool_phase live side Apply (Call request) is = record { who = refl; forward = work_own OfBatches refl refl refl (Call request) is; called = refl; uncut = refl }
batch_turn tool_phase live side Lock (Call request) is = absurd (false≢true is)
batch_turn tool_phase live side Ren (Call request) is = absurd (false≢true is)
batch_turn tool_phase live side (Client c) (Call request) is = absurd (false≢true is)
batch_turn tool_phase live side Op Poll is = absurd (false≢true is)
batch_turn tool_phase live side Insp Poll is = absurd (false≢true (sym (inspector_not OfBatches refl refl refl live side Poll tool_phase) ∙ is))
batch_turn tool_phase live side Copy Poll is = absurd (false≢true is)
batch_turn tool_phase live side Apply Poll is = record { who = refl; forward = refl; called = refl; uncut = refl }
batch_turn tool_phase live side Lock Poll is = absurd (false≢true is)
batch_turn tool_phase live side Ren Poll is = absurd (false≢true is)
batch_turn tool_phase live side (Client c) Poll is = absurd (false≢true is)

-- HOW MANY TURNS

-- one more at most
pub one_turn : (part : Part) (plan : PlanData) (journal : List Entry) (entry : Entry) → turns_of_part part plan (journal ++ entry ∷ []) ≤ turns_of_part part plan journal + 1
one_turn part plan journal entry = let count = count_more part plan journal entry in let most = at_most (same_part part (part_of plan journal entry)) in omega (arith, count, most) where
  at_most : (b : Bool) → cond b 1 0 ≤ 1
  at_most true = omega arith
  at_most false = omega arith

-- none more, where the turn isn't one of the task's
pub no_turn : (part : Part) (plan : PlanData) (journal : List Entry) (entry : Entry) → (same_part part (part_of plan journal entry) ≡ true → ⊥) → turns_of_part part plan (journal ++ entry ∷ []) ≡ turns_of_part part plan journal
no_turn part plan journal entry other = by (same_part part (part_of plan journal entry)) refl where
  by : (b : Bool) → same_part part (part_of plan journal entry) ≡ b → turns_of_part part plan (journal ++ entry ∷ []) ≡ turns_of_part part plan journal
  by true own = absurd (other own)
  by false differ = count_no part plan journal entry differ

-- HOW LONG IT WAITED

-- what waits was had in one turn at least
pub busy_waited : (state : State) (live : Option ℕ) (request : Request) → (standing_in state live).waits ≡ Some request → 1 ≤ waited_in state live
busy_waited state None request some = absurd cc
busy_waited state (Some n) request some = subst (λ (b : Bool). 1 ≤ cond b (1 + polls_of (session_of n state.sessions)) 0) (sym (is_there (waiting_of n state.waiting) some)) (omega arith) where
  is_there : (waiting : Option Waiting) → request_of waiting ≡ Some request → is_some waiting ≡ true
  is_there None none = absurd cc
  is_there (Some waiting) some = refl

-- and who had no such turn waits with nothing
pub unwaited : (state : State) (live : Option ℕ) → waited_in state live ≡ 0 → (standing_in state live).waits ≡ None
unwaited state live none = by (standing_in state live).waits refl where
  no : (n : ℕ) → n ≡ 0 → 1 ≤ n → ⊥
  no n none some = omega (arith, none, some)

  by : (waits : Option Request) → (standing_in state live).waits ≡ waits → waits ≡ None
  by None at = refl
  by (Some request) at = absurd (no (waited_in state live) none (busy_waited state live request at))

module _ (plan : PlanData) (journal : List Entry) (entry : Entry) (together : IsTogether plan journal) (run : IsRun plan journal entry) where
  -- a loss between calls of a session without work
  pub idle_cut : entry.asked ≡ Cut → has_work (moment plan journal).server entry.session ≡ false → waited_by plan journal entry.actor ≡ 0
  idle_cut cut idle = idle_waited (state_at plan journal) (live_session journal entry.actor) (ap (λ (live : Option ℕ). (standing_in (state_at plan journal) live).waits) live ∙ idle_waits (state_at plan journal) (Some entry.session) none) where
    live : live_session journal entry.actor ≡ Some entry.session
    live = own_session plan journal entry together.known (record { answered = run.answered; seated = record { session = run.followed.session } }) (ap is_cut cut)

    none : is_waiting (state_at plan journal) entry.session ≡ false
    none =
        (or_parts (is_in_transaction (session_of entry.session (state_at plan journal).sessions) || holds_tables (session_of entry.session (state_at plan journal).sessions)) (is_waiting (state_at plan journal) entry.session)
        (ap (λ (s : State). has_work s entry.session) (sym together.server) ∙ idle)).1

  -- WHAT IT ASKS

  module _ (actor : Actor) (given_is : given plan journal actor ≡ tool_asks plan journal (moment plan journal) actor) where
    -- a command isn't one of its turns
    pub command_other : is_command entry.asked ≡ true → same_actor entry.actor actor ≡ false
    command_other command = by (same_actor entry.actor actor) refl where
      own : entry.actor ≡ actor → (asked : Asked) → entry.asked ≡ asked → is_command asked ≡ true → IsGiven plan journal entry asked → ⊥
      own who (Command word) asks command gives = never_commands plan journal actor word (sym given_is ∙ subst (λ (a : Actor). given plan journal a ≡ Some (Command word)) who gives)
      own who (Call request) asks command gives = false≢true command
      own who Poll asks command gives = false≢true command
      own who Cut asks command gives = false≢true command

      by : (b : Bool) → same_actor entry.actor actor ≡ b → b ≡ false
      by true same = absurd (own (same_actor_is entry.actor actor same) entry.asked refl command run.followed.given)
      by false differ = refl

    pub own_asking : entry.actor ≡ actor → is_cut entry.asked ≡ false → Asking plan journal actor entry.asked
    own_asking who uncut =
        asking plan journal actor entry.asked together.server
        (sym given_is ∙ subst (λ (a : Actor). given plan journal a ≡ Some entry.asked) who (gives_asked plan journal entry entry.asked run.followed.given refl (λ cut. true≢false (sym (ap is_cut cut) ∙ uncut))))
