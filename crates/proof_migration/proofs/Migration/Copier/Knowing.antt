-- What an answer makes of the copier's record, and what it then knows of the journal.
use Rattle.std.proofs.Common.{◌≡◌, ◌<◌, ℕ, Bool, true, false, cond, List, ◌++◌, Option, Some, None, refl, sym, ap, ◌∙◌, subst}
use Rattle.base_values.specs.declared.span.Bound.TheVariants.{Open}
use Rattle.base_script.specs.declared.actor.Side.{Side}
use Rattle.server_model.specs.declared.answer.Answer.{Answer}
use Rattle.server_model.specs.declared.answer.Answer.TheVariants as answers
use Rattle.server_model.specs.declared.entry.Entry.{Entry}
use Rattle.server_model.specs.declared.request.Request.{Request}
use Rattle.server_model.specs.Entries.{answer_at}
use Rattle.server_model.specs.EarlierAnswers.{end_in}
use Rattle.tool_program.specs.declared.chunk_copier.copier.Chunk.{Chunk}
use Rattle.tool_program.specs.declared.chunk_copier.copier.Copier.{Copier}
use Rattle.tool_program.specs.declared.chunk_copier.copier.CopyRange.{CopyRange}
use Rattle.tool_program.specs.declared.chunk_copier.copier.CopyStep.{CopyStep}
use Rattle.tool_program.specs.declared.chunk_copier.copier.CopyStep.TheVariants.{Choosing, Spanning, Copying, Committing}
use Rattle.tool_program.specs.ChunkCopier.Copiers.{after_answer, call_at, call_in, low_end, next, took}
use Rattle.proof_journals.specs.Scenes.{SessionHold, no_hold}
use Rattle.proof_journals.specs.Turns.{reported_at}
use Rattle.proof_journals.specs.Turns as turns
use Rattle.proof_journals.specs.Ghost.EffectStates.{is_lost, reported_done, undone_hold}
use Rattle.proof_journals.specs.Ghost.Tool.CopyState.{Waiting}
use Rattle.tool_program.proofs.JournalWords.Answers.{answer_more}
use Rattle.proof_migration.specs.Migration.Copier.CopierPlace.{AfterReported, IsAnsweredAt, IsChunkReported, StepKnows, copy_state, left_of}

-- WHAT STAYS KNOWN

pub answered_more : (journal more : List Entry) (turn : ℕ) → IsAnsweredAt journal turn → IsAnsweredAt (journal ++ more) turn
answered_more journal more turn was = record { answer = was.answer; is = answer_more journal more turn was.answer was.is }

pub after_more : (journal more : List Entry) (following : Option ℕ) → AfterReported journal following → AfterReported (journal ++ more) following
after_more journal more None was = tt
after_more journal more (Some reported) was = answered_more journal more reported was

pub low_more : (journal more : List Entry) (range : CopyRange) (following : Option ℕ) → AfterReported journal following → low_end (journal ++ more) range following ≡ low_end journal range following
low_more journal more range None was = refl
low_more journal more range (Some reported) was = ap (λ (o : Option Answer). Open (end_in o)) (answer_more journal more reported was.answer was.is ∙ sym was.is)

pub chunk_more : (journal more : List Entry) (range : Option CopyRange) (chunk : Chunk) → IsChunkReported journal range chunk → IsChunkReported (journal ++ more) range chunk
chunk_more journal more range chunk was = record { keys = was.keys; end = was.end; reported = answer_more journal more chunk.reported _ was.reported; counted = was.counted; last = was.last }

pub step_more : (journal more : List Entry) (range : Option CopyRange) (step : CopyStep) → StepKnows journal range step → StepKnows (journal ++ more) range step
step_more journal more range Choosing was = tt
step_more journal more range (Spanning reported size) was = (answered_more journal more reported was.0, was.1)
step_more journal more range (Copying chunk copied) was = (chunk_more journal more range chunk was.0, was.1)
step_more journal more range (Committing chunk) was = chunk_more journal more range chunk was

-- WHERE THE COPIER ASKS

-- it has a range that isn't copied yet
pub record Asks (journal : List Entry) (copier : Copier) (request : Request) : Type 0 where
  pub range : CopyRange
  pub is : copier.range ≡ Some range
  pub going : copier.is_copied ≡ false
  pub call : call_at journal copier range copier.step ≡ Some request

pub asks_at : (journal : List Entry) (copier : Copier) (request : Request) → next journal copier ≡ Some request → Asks journal copier request
unfolding next
asks_at journal copier request e = by copier.is_copied refl e
  where
    inside : (range : Option CopyRange) → copier.range ≡ range → copier.is_copied ≡ false → call_in journal copier range ≡ Some request → Asks journal copier request
    inside None is going called = absurd cc
    inside (Some range) is going called = record { range = range; is = is; going = going; call = called }

    by : (b : Bool) → copier.is_copied ≡ b → cond b None (call_in journal copier copier.range) ≡ Some request → Asks journal copier request
    by true going called = absurd cc
    by false going called = inside copier.range refl going called

-- BETWEEN CHUNKS

abbrev pub IsWaiting : CopyStep → Type 0
IsWaiting Choosing = Unit {0}
IsWaiting (Spanning reported size) = Unit {0}
IsWaiting (Copying chunk copied) = ⊥
IsWaiting (Committing chunk) = ⊥

pub waiting_state : (journal : List Entry) (copier : Copier) (range : CopyRange) (step : CopyStep) → copier.range ≡ Some range → copier.is_copied ≡ false → copier.step ≡ step → IsWaiting step → copy_state journal copier ≡ Waiting (Some (left_of journal copier range))
waiting_state journal copier range Choosing is going here waits = rw (going, is, here) refl
waiting_state journal copier range (Spanning reported size) is going here waits = rw (going, is, here) refl
waiting_state journal copier range (Copying chunk copied) is going here waits = absurd waits
waiting_state journal copier range (Committing chunk) is going here waits = absurd waits

-- the record with this step
pub same_step : (copier : Copier) (step : CopyStep) → copier.step ≡ step → copier ≡ record copier { step = step }
same_step copier step here = ap (λ (s : CopyStep). record copier { step = s }) here

-- the record behind an answer has this step, between chunks, and all else as before
pub record RestsAfter (journal : List Entry) (copier after : Copier) : Type 0 where
  pub step : CopyStep
  pub is : after ≡ record copier { step = step }
  pub waits : IsWaiting step
  pub knows : StepKnows journal copier.range step

-- the answer isn't that of BeginSpan
abbrev pub IsNoKeys : Answer → Type 0
IsNoKeys (answers.Keys keys end) = ⊥
IsNoKeys answer = Unit {0}

pub rests_after : (journal : List Entry) (turn : ℕ) (copier : Copier) (step : CopyStep) (answer : Answer) → copier.step ≡ step → IsWaiting step → StepKnows journal copier.range step → 0 < copier.size → answer_at journal turn ≡ Some answer → IsNoKeys answer → RestsAfter journal copier (took turn copier answer)
unfolding took
rests_after journal turn copier step answers.Lost here waits knows sized reported none = record { step = Choosing; is = refl; waits = tt; knows = tt }
rests_after journal turn copier step (answers.TimedOut waited) here waits knows sized reported none = record { step = Choosing; is = refl; waits = tt; knows = tt }
rests_after journal turn copier step (answers.Keys keys end) here waits knows sized reported none = absurd none
rests_after journal turn copier Choosing (answers.End end) here waits knows sized reported none =
    record { step = Spanning turn copier.size; is = ap (λ (s : CopyStep). after_answer turn copier s (answers.End end)) here; waits = tt; knows = (record { answer = answers.End end; is = reported }, sized) }
rests_after journal turn copier Choosing answer here waits knows sized reported none =
    record { step = Choosing; is = ap (λ (s : CopyStep). after_answer turn copier s answer) here ∙ same_step copier Choosing here; waits = tt; knows = tt }
rests_after journal turn copier (Spanning from size) answer here waits knows sized reported none =
    record { step = Spanning from size; is = ap (λ (s : CopyStep). after_answer turn copier s answer) here ∙ same_step copier (Spanning from size) here; waits = tt; knows = knows }
rests_after journal turn copier (Copying chunk copied) answer here waits knows sized reported none = absurd waits
rests_after journal turn copier (Committing chunk) answer here waits knows sized reported none = absurd waits

-- WHERE THE SESSION ENDS, AND WHERE IT WAITS

-- the session was lost, or its wait timed out
abbrev pub IsBad : Answer → Type 0
IsBad answers.Lost = Unit {0}
IsBad (answers.TimedOut waited) = Unit {0}
IsBad answer = ⊥

pub bad_took : (turn : ℕ) (copier : Copier) (answer : Answer) → IsBad answer → took turn copier answer ≡ record copier { step = Choosing }
unfolding took
bad_took turn copier answers.Lost bad = refl
bad_took turn copier (answers.TimedOut waited) bad = refl
bad_took turn copier answer bad = absurd bad

-- ... any other answer is taken by the step
abbrev pub IsGood : Answer → Type 0
IsGood answers.Lost = ⊥
IsGood (answers.TimedOut waited) = ⊥
IsGood answer = Unit {0}

pub took_at : (turn : ℕ) (copier : Copier) (step : CopyStep) (answer : Answer) → copier.step ≡ step → IsGood answer → took turn copier answer ≡ after_answer turn copier step answer
unfolding took
took_at turn copier step answers.Lost here good = absurd good
took_at turn copier step (answers.TimedOut waited) here good = absurd good
took_at turn copier step answer here good = ap (λ (s : CopyStep). after_answer turn copier s answer) here

-- a wait, and a refusal without a place, leave the record as it is
abbrev pub IsQuiet : Answer → Type 0
IsQuiet (answers.Waits by) = Unit {0}
IsQuiet (answers.Refused number None) = Unit {0}
IsQuiet answer = ⊥

pub quiet_took : (turn : ℕ) (copier : Copier) (answer : Answer) → IsQuiet answer → took turn copier answer ≡ copier
unfolding took
quiet_took turn copier (answers.Waits by) quiet = at copier.step
  where
    at : (step : CopyStep) → after_answer turn copier step (answers.Waits by) ≡ copier
    at Choosing = refl
    at (Spanning reported size) = refl
    at (Copying chunk copied) = refl
    at (Committing chunk) = refl
quiet_took turn copier (answers.Refused number None) quiet = at copier.step
  where
    at : (step : CopyStep) → after_answer turn copier step (answers.Refused number None) ≡ copier
    at Choosing = refl
    at (Spanning reported size) = refl
    at (Copying chunk copied) = refl
    at (Committing chunk) = refl
quiet_took turn copier answer quiet = absurd quiet

-- WHAT IS HEARD

-- it waits
abbrev pub IsWait : Answer → Type 0
IsWait (answers.Waits by) = Unit {0}
IsWait answer = ⊥

-- an entry whose request was not done: its session waits, or holds nothing more
pub data Undone (side : Option Side) (answer : Answer) : Type 0 where
  waits_so : ((own : SessionHold) → undone_hold side answer own ≡ own) → IsQuiet answer → side ≡ None → IsWait answer → Undone side answer
  ends_so : ((own : SessionHold) → undone_hold side answer own ≡ no_hold) → IsBad answer → Undone side answer

pub undone_as : (side : Option Side) (answer inner : Answer) (missed : Option Answer) → answer ≡ turns.answer_at side inner → reported_done (reported_at side answer missed) ≡ false → Undone side answer
undone_as None (answers.Waits by) inner missed is none = waits_so (λ own. refl) tt refl tt
undone_as None (answers.TimedOut waited) inner missed is none = ends_so (λ own. refl) tt
undone_as None answers.Lost inner missed is none = ends_so (λ own. refl) tt
undone_as None answer inner missed is none = absurd (let no : true ≡ false = none in cc)
undone_as (Some side) answer inner missed is none = subst (Undone (Some side)) (sym is) (ends_so (λ own. refl) tt)

-- an entry whose request was done: the answer is heard, or the session is lost behind it
pub data Heard (side : Option Side) (answer given : Answer) : Type 0 where
  heard_so : side ≡ None → is_lost side ≡ false → given ≡ answer → Heard side answer given
  lost_so : is_lost side ≡ true → answer ≡ answers.Lost → Heard side answer given

pub heard_as : (side : Option Side) (answer inner given : Answer) (missed : Option Answer) → answer ≡ turns.answer_at side inner → reported_at side answer missed ≡ Some given → Heard side answer given
heard_as None answer inner given missed is reported = heard_so refl refl (let same : answer ≡ given = cc in sym same)
heard_as (Some side) answer inner given missed is reported = lost_so refl is
