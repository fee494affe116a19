-- The operator takes each of its commands once at most.
use Rattle.std.proofs.Common.{◌≡◌, ◌≤◌, ◌<◌, ℕ, ◌+◌, Bool, true, false, cond, List, [], ◌∷◌, ◌++◌, length, Option, None, refl, sym, ap, ◌∙◌, subst, arith}
use Rattle.std.proofs.lemmas.Bool.{true≢false}
use Rattle.std.proofs.lemmas.List.Sums.{sum_by_push}
use Rattle.std.proofs.lemmas.Option.{slice_get_within}
use Rattle.base_script.specs.declared.actor.Actor.{Actor}
use Rattle.base_script.specs.declared.actor.Actor.TheVariants.{Op, Insp, Copy, Apply, Lock, Ren, Client}
use Rattle.base_script.specs.declared.actor.Side.{Side}
use Rattle.base_script.specs.declared.operator.OperatorWord.{OperatorWord}
use Rattle.server_model.specs.Along.{Along-keeps}
use Rattle.server_model.specs.declared.entry.Asked.{Asked}
use Rattle.server_model.specs.declared.entry.Asked.TheVariants.{Call, Poll, Command, Cut}
use Rattle.server_model.specs.declared.entry.Entry.{Entry}
use Rattle.server_model.specs.declared.request.Request.{Request}
use Rattle.server_model.specs.Entries.{is_command}
use Rattle.plan_data.specs.PlanData.{PlanData}
use Rattle.tool_program.specs.JournalWords.KeptPlans.{words_of, commands_taken, TakesNext, IsPlanned, KeepsPlan}
use Rattle.tool_program.specs.JournalWords.Sessions.{live_session}
use Rattle.tool_program.specs.declared.cutover_core.cutover.Phase.{Phase}
use Rattle.tool_program.specs.declared.cutover_core.cutover.Phase.TheVariants.{Resting, Attempting, Ending, Finishing, Finished}
use Rattle.tool_program.specs.Tools.{ToolPhase, SettingUp, Migrating, moment}
use Rattle.proof_journals.proofs.Machine.Journals.{client_commands}
use Rattle.proof_bounds.specs.Parts.{OfOperator, OfChunks, OfBatches, OfClearing, OfAttempts, rolls_back, is_again, ending_part, phase_part, inspector_part, part_by, part_of, same_part, turns_of_part}
use Rattle.tool_program.specs.JournalWords.Bounds.{measures}
use Rattle.proof_bounds.specs.Terms.{term_of}
use Rattle.proof_bounds.specs.Laws.{OperatorTurnsAreFew}
use Rattle.proof_bounds.proofs.Counting.{count_more, count_none}

-- WHOSE TURN IT IS

-- a tool's turn is none of the operator's
again_not : (b : Bool) → same_part OfOperator (cond b OfClearing OfAttempts) ≡ false
again_not true = refl
again_not false = refl

ending_not : (live : Option ℕ) (side : Option Side) (asked : Asked) → same_part OfOperator (ending_part live side asked) ≡ false
ending_not live side Poll = refl
ending_not live side (Call request) = again_not (is_again live side)
ending_not live side (Command word) = again_not (is_again live side)
ending_not live side Cut = again_not (is_again live side)

phase_not : (live : Option ℕ) (side : Option Side) (asked : Asked) (phase : Phase) → same_part OfOperator (phase_part live side asked phase) ≡ false
phase_not live side asked Resting = refl
phase_not live side asked (Attempting stage) = refl
phase_not live side asked (Ending clearing) = ending_not live side asked
phase_not live side asked (Finishing clearing) = refl
phase_not live side asked Finished = refl

inspector_not : (live : Option ℕ) (side : Option Side) (asked : Asked) (tool_phase : ToolPhase) → same_part OfOperator (inspector_part live side asked tool_phase) ≡ false
inspector_not live side asked (SettingUp setup tries) = refl
inspector_not live side asked (Migrating work) = phase_not live side asked work.cutover.phase

chunks_not : (b : Bool) → same_part OfOperator (cond b OfClearing OfChunks) ≡ false
chunks_not true = refl
chunks_not false = refl

batches_not : (b : Bool) → same_part OfOperator (cond b OfClearing OfBatches) ≡ false
batches_not true = refl
batches_not false = refl

module _ (plan : PlanData) (before : List Entry) (tool_phase : ToolPhase) (live : Option ℕ) (side : Option Side) where
  -- what is called, by whoever may
  called_is : (actor : Actor) (request : Request) → TakesNext plan before actor (Call request) → same_part OfOperator (part_by tool_phase live side actor (Call request)) ≡ false
  called_is Op request next = absurd (no next.0 next.2) where
    no : (word : OperatorWord) → Call request ≡ Command word → ⊥
    no word same = cc
  called_is Insp request next = inspector_not live side (Call request) tool_phase
  called_is Copy request next = chunks_not (rolls_back (Call request))
  called_is Apply request next = batches_not (rolls_back (Call request))
  called_is Lock request next = refl
  called_is Ren request next = refl
  called_is (Client c) request next = refl

  polled_is : (actor : Actor) → TakesNext plan before actor Poll → same_part OfOperator (part_by tool_phase live side actor Poll) ≡ false
  polled_is Op next = absurd (no next.0 next.2) where
    no : (word : OperatorWord) → Poll ≡ Command word → ⊥
    no word same = cc
  polled_is Insp next = inspector_not live side Poll tool_phase
  polled_is Copy next = refl
  polled_is Apply next = refl
  polled_is Lock next = refl
  polled_is Ren next = refl
  polled_is (Client c) next = refl

  -- a turn is the operator's exactly where it is a command
  pub operator_is : (actor : Actor) (asked : Asked) → TakesNext plan before actor asked → same_part OfOperator (part_by tool_phase live side actor asked) ≡ is_command asked
  operator_is actor (Command word) next = refl
  operator_is actor Cut next = refl
  operator_is actor (Call request) next = called_is actor request next
  operator_is actor Poll next = polled_is actor next

  -- a command is one that is left
  pub command_left : (actor : Actor) (word : OperatorWord) → TakesNext plan before actor (Command word) → commands_taken before < length (words_of plan)
  command_left Op word next = slice_get_within (words_of plan) (commands_taken before) next.0 next.1
  command_left Insp word next = absurd (true≢false next)
  command_left Copy word next = absurd (true≢false next)
  command_left Apply word next = absurd (true≢false next)
  command_left Lock word next = absurd (true≢false next)
  command_left Ren word next = absurd (true≢false next)
  command_left (Client c) word next = absurd (client_commands plan before c word next)

-- THE JOURNAL

record IsSaid (plan : PlanData) (journal : List Entry) : Type 0 where
  turns : turns_of_part OfOperator plan journal ≡ commands_taken journal
  most : commands_taken journal ≤ length (words_of plan)

taken_more : (journal : List Entry) (entry : Entry) → commands_taken (journal ++ entry ∷ []) ≡ commands_taken journal + cond (is_command entry.asked) 1 0
taken_more journal entry = sum_by_push (λ (one : Entry). cond (is_command one.asked) 1 0) journal entry

module _ (plan : PlanData) (before : List Entry) (entry : Entry) (planned : IsPlanned plan before entry) (said : IsSaid plan before) where
  part_is : same_part OfOperator (part_of plan before entry) ≡ is_command entry.asked
  unfolding part_of
  part_is = operator_is plan before (moment plan before).tool.tool_phase (live_session before entry.actor) entry.side entry.actor entry.asked planned.next

  left : (asked : Asked) → entry.asked ≡ asked → commands_taken before + cond (is_command asked) 1 0 ≤ length (words_of plan)
  left (Command word) is = let least = command_left plan before (moment plan before).tool.tool_phase None None entry.actor word (subst (TakesNext plan before entry.actor) is planned.next) in omega (arith, least)
  left (Call request) is = let least = said.most in omega (arith, least)
  left Poll is = let least = said.most in omega (arith, least)
  left Cut is = let least = said.most in omega (arith, least)

  said_more : IsSaid plan (before ++ entry ∷ [])
  said_more = record {
    turns = count_more OfOperator plan before entry ∙ ap (λ (b : Bool). turns_of_part OfOperator plan before + cond b 1 0) part_is ∙ ap (λ (n : ℕ). n + cond (is_command entry.asked) 1 0) said.turns ∙ sym (taken_more before entry);
    most = subst (λ (n : ℕ). n ≤ length (words_of plan)) (sym (taken_more before entry)) (left entry.asked refl);
  }

none_said : (plan : PlanData) → IsSaid plan []
none_said plan = record { turns = count_none OfOperator plan; most = omega arith }

all_said : (plan : PlanData) (journal : List Entry) → KeepsPlan plan journal → IsSaid plan journal
unfolding KeepsPlan
all_said plan journal planned = Along-keeps (IsPlanned plan) (IsSaid plan) (λ before entry one said. said_more plan before entry one said) [] journal planned (none_said plan)

-- *The operator's turns are few*
pub operator_few : OperatorTurnsAreFew
unfolding term_of measures
operator_few plan journal planned = let said = all_said plan journal planned in subst (λ (n : ℕ). n ≤ length (words_of plan)) (sym said.turns) said.most
