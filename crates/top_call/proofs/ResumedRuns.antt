-- A run to its end: the journal's two parts, and how it ended.
use Rattle.std.proofs.Common.{◌≡◌, ℕ, ◌+◌, ◌≤◌, nat_le, Bool, true, false, not, ◌&&◌, ◌||◌, if◌then◌else◌, is_some, List, [], ◌∷◌, ◌++◌, length, take, drop, Option, Some, None, IfSome, Result, Ok, Err, OnOk, is_err, refl, sym, ap, ◌∙◌, subst, take_all, append-nil, append_assoc, length-append, take-append-drop, arith}
use Rattle.std.specs.List.{list_any}
use Rattle.std.proofs.Math.Seq.{take-append_seam, drop-append_seam}
use Rattle.std.proofs.lemmas.Bool.{true≢false}
use Rattle.std.proofs.lemmas.Bool.Decides.{nat_tests}
use Rattle.std.proofs.lemmas.List.{drop_all}
use Rattle.server_model.specs.declared.entry.Entry.{Entry}
use Rattle.server_model.specs.declared.outcome.Cause.{Cause}
use Rattle.server_model.specs.declared.outcome.Verdict.{Verdict}
use Rattle.server_model.specs.declared.outcome.Verdict.TheVariants as verdicts
use Rattle.server_model.specs.States.{State}
use Rattle.plan_data.specs.PlanData.{PlanData}
use Rattle.tool_program.specs.JournalWords.Histories.{history, is_alter}
use Rattle.tool_program.specs.JournalWords.Journals.{IsFaithful, after_entry, opening, state_at}
use Rattle.tool_program.specs.JournalWords.Sessions.{KeepsSessions}
use Rattle.tool_program.specs.Tools.{moment}
use Rattle.tool_program.specs.Verdicts.{ended_so, has_ended, verdict_of}
use Rattle.tool_finish.specs.declared.stage.Stage.{Stage}
use Rattle.tool_finish.specs.declared.stage.Stage.TheVariants.{Losing, Listing}
use Rattle.tool_finish.specs.Checkpoints.{has_checkpoint}
use Rattle.tool_finish.specs.Finishes.{IsFinish, finish_verdict, first_live, stage_behind, verdict_in}
use Rattle.tool_finish.specs.Finishes as finishes
use Rattle.proof_journals.specs.Machine.Laws.{TellsAlter}
use Rattle.proof_audit.proofs.Wholes.{none_unfinished, run_whole}
use Rattle.proof_plans.specs.ReadPlans.Laws.{WasRead}
use Rattle.proof_journals.proofs.Journals.{state_more}
use Rattle.run_finish.specs.FinishRuns.{FinishRun, TakesNext}
use Rattle.run_turns.specs.Runs.{is_over}
use Rattle.top_call.specs.ResumedRuns.{EndsBehind, FinishesAreSound, FinishesRun, FinishesTellTheAlter, GoesOn, IsEnd, IsEndOf, IsSoundFinish, IsWholeRun, Resumes, StandsAt, StandsBehind, StandsIn, TellsAlterAt, finish_in, has_ended_at, has_finished, is_over_at, is_resumed, run_in, verdict_at}
use Rattle.top_call.specs.WholeReplays.SoundRuns.{IsSoundRun}

-- WHETHER A RUN IS RESUMED

pub at_limit : (limit count : ℕ) → nat_le limit count ≡ true → count ≤ limit → count ≡ limit
at_limit limit count full bound = grind (arith, nat_tests, full, bound)

unended : (plan : PlanData) (journal : List Entry) → has_ended plan journal ≡ false → verdict_of plan journal ≡ verdicts.Unfinished
unfolding verdict_of
unended plan journal is = ap (λ (b : Bool). if b then ended_so plan journal (moment plan journal).tool else verdicts.Unfinished) is

-- a run that is over and hasn't ended has as many turns as the plan allows
pub spent : (plan : PlanData) (journal : List Entry) → has_ended plan journal ≡ false → is_over plan journal ≡ true → nat_le plan.options.turn_limit (length journal) ≡ true
unfolding is_over
spent plan journal is over = by (has_ended plan journal) is over where
  by : (b : Bool) → b ≡ false → (b || nat_le plan.options.turn_limit (length journal)) ≡ true → nat_le plan.options.turn_limit (length journal) ≡ true
  by true is over = absurd (true≢false is)
  by false is over = over

over_unended : (a b c d : Bool) → (a && b && not c && d) ≡ true → (b ≡ true) × (c ≡ false)
over_unended true true false d is = (refl, refl)
over_unended true true true d is = absurd cc
over_unended true false c d is = absurd cc
over_unended false b c d is = absurd cc

resumed_over : (plan : PlanData) (run : List Entry) → is_resumed plan run ≡ true → (is_over plan run ≡ true) × (has_ended plan run ≡ false)
unfolding is_resumed
resumed_over plan run is = over_unended plan.options.resume (is_over plan run) (has_ended plan run) (has_checkpoint plan run) is

pub resumed_full : (plan : PlanData) (run : List Entry) → is_resumed plan run ≡ true → length run ≤ plan.options.turn_limit → length run ≡ plan.options.turn_limit
resumed_full plan run is few = let so = resumed_over plan run is in at_limit plan.options.turn_limit (length run) (spent plan run so.1 so.0) few

-- a run that has ended isn't resumed
pub ended_alone : (plan : PlanData) (run : List Entry) → has_ended plan run ≡ true → is_resumed plan run ≡ false
unfolding is_resumed
ended_alone plan run ended = by plan.options.resume (is_over plan run) (has_ended plan run) (has_checkpoint plan run) ended where
  by : (a b c d : Bool) → c ≡ true → (a && b && not c && d) ≡ false
  by true true true d is = refl
  by true true false d is = absurd cc
  by true false c d is = refl
  by false b c d is = refl

-- nor is one without a checkpoint
pub unchecked_alone : (plan : PlanData) (run : List Entry) → has_checkpoint plan run ≡ false → is_resumed plan run ≡ false
unfolding is_resumed
unchecked_alone plan run none = by plan.options.resume (is_over plan run) (has_ended plan run) (has_checkpoint plan run) none where
  by : (a b c d : Bool) → d ≡ false → (a && b && not c && d) ≡ false
  by true true true d is = refl
  by true true false d is = is
  by true false c d is = refl
  by false b c d is = refl

-- nor is any that has ended, or of a plan without `resume`
pub never_resumed : (plan : PlanData) (run : List Entry) → (plan.options.resume && not (has_ended plan run)) ≡ false → is_resumed plan run ≡ false
unfolding is_resumed
never_resumed plan run none = by plan.options.resume (is_over plan run) (has_ended plan run) (has_checkpoint plan run) none where
  by : (a b c d : Bool) → (a && not c) ≡ false → (a && b && not c && d) ≡ false
  by true true true d is = refl
  by true true false d is = absurd cc
  by true false c d is = refl
  by false b c d is = refl

-- any other that is over and has a checkpoint is
pub resumed_at : (plan : PlanData) (run : List Entry) → (plan.options.resume && not (has_ended plan run)) ≡ true → is_over plan run ≡ true → has_checkpoint plan run ≡ true → is_resumed plan run ≡ true
unfolding is_resumed
resumed_at plan run may over checked = by plan.options.resume (is_over plan run) (has_ended plan run) (has_checkpoint plan run) may over checked where
  by : (a b c d : Bool) → (a && not c) ≡ true → b ≡ true → d ≡ true → (a && b && not c && d) ≡ true
  by true true false true one two three = refl
  by false b c d one two three = absurd cc
  by true b true d one two three = absurd cc
  by true false false d one two three = absurd cc
  by true true false false one two three = absurd cc

-- THE TWO PARTS OF A JOURNAL

-- a journal of no more turns than the plan allows is the run's
pub all_run : (plan : PlanData) (journal : List Entry) → length journal ≤ plan.options.turn_limit → run_in plan journal ≡ journal
all_run plan journal few = take_all plan.options.turn_limit journal few

-- the journal's first turns are the run's, and those behind them the new tool's
pub record Parts (plan : PlanData) (run turns journal : List Entry) : Type 0 where
  pub run_is : run_in plan journal ≡ run
  pub turns_are : finish_in plan journal ≡ turns

pub parts_of : (plan : PlanData) (run turns journal : List Entry) → length run ≤ plan.options.turn_limit → journal ≡ run ++ turns → GoesOn (is_resumed plan run) plan run turns → Parts plan run turns journal
parts_of plan run turns journal few is goes = by (is_resumed plan run) refl goes where
  by : (b : Bool) → is_resumed plan run ≡ b → GoesOn b plan run turns → Parts plan run turns journal
  by false unresumed none =
      let same : journal ≡ run = is ∙ ap (λ (all : List Entry). run ++ all) none ∙ append-nil run in
      record {
        run_is = ap (take plan.options.turn_limit) same ∙ take_all plan.options.turn_limit run few;
        turns_are = ap (drop plan.options.turn_limit) same ∙ drop_all plan.options.turn_limit run few ∙ sym none;
      }
  by true resumed sound =
      let full : length run ≡ plan.options.turn_limit = resumed_full plan run resumed few in
      record {
        run_is = ap (take plan.options.turn_limit) is ∙ ap (λ (n : ℕ). take n (run ++ turns)) (sym full) ∙ take-append_seam run turns;
        turns_are = ap (drop plan.options.turn_limit) is ∙ ap (λ (n : ℕ). drop n (run ++ turns)) (sym full) ∙ drop-append_seam run turns;
      }

-- what is so of the two parts is so of the journal's
pub at_parts : (P : List Entry → List Entry → Type 0) (plan : PlanData) (run turns journal : List Entry) → Parts plan run turns journal → P run turns → P (run_in plan journal) (finish_in plan journal)
at_parts P plan run turns journal parts is = subst (λ (all : List Entry). P all (finish_in plan journal)) (sym parts.run_is) (subst (P run) (sym parts.turns_are) is)

pub resumes_at : (plan : PlanData) (run turns journal : List Entry) → Parts plan run turns journal → GoesOn (is_resumed plan run) plan run turns → Resumes plan journal
resumes_at plan run turns journal parts goes = at_parts (λ all behind. GoesOn (is_resumed plan all) plan all behind) plan run turns journal parts goes

-- behind a run that isn't resumed there is nothing
pub alone : (plan : PlanData) (journal : List Entry) → Resumes plan journal → is_resumed plan (run_in plan journal) ≡ false → finish_in plan journal ≡ []
alone plan journal resumes unresumed = subst (λ (b : Bool). GoesOn b plan (run_in plan journal) (finish_in plan journal)) unresumed resumes

pub sound_behind : (plan : PlanData) (journal : List Entry) → Resumes plan journal → is_resumed plan (run_in plan journal) ≡ true → IsSoundFinish plan (run_in plan journal) (finish_in plan journal)
sound_behind plan journal resumes resumed = subst (λ (b : Bool). GoesOn b plan (run_in plan journal) (finish_in plan journal)) resumed resumes

pub all_of : (plan : PlanData) (journal : List Entry) → run_in plan journal ++ finish_in plan journal ≡ journal
all_of plan journal = take-append-drop plan.options.turn_limit journal

-- THE WHOLE JOURNAL

-- it is faithful, and keeps to its sessions
pub faithful_at : (plan : PlanData) (journal : List Entry) → IsSoundRun plan (run_in plan journal) → Resumes plan journal → IsFaithful plan journal × KeepsSessions journal
faithful_at plan journal sound resumes = by (is_resumed plan (run_in plan journal)) refl where
  by : (b : Bool) → is_resumed plan (run_in plan journal) ≡ b → IsFaithful plan journal × KeepsSessions journal
  by true resumed =
      let finish = sound_behind plan journal resumes resumed in
      (subst (IsFaithful plan) (all_of plan journal) finish.faithful, subst KeepsSessions (all_of plan journal) finish.sessions)
  by false unresumed =
      let same = run_whole plan journal (alone plan journal resumes unresumed) in
      (subst (IsFaithful plan) same sound.kept.faithful, subst KeepsSessions same sound.kept.sessions)

-- HOW IT ENDED

-- the new tool is at its start, where it took no turn
none_started : (plan : PlanData) (run : List Entry) (P : Stage → Type 0) → P Losing → P Listing → P (stage_behind plan run [])
unfolding stage_behind
none_started plan run P losing_so listing_so = by (is_some (first_live plan run)) where
  by : (b : Bool) → P (if b then Losing else Listing)
  by true = losing_so
  by false = listing_so

none_finished : (plan : PlanData) (run : List Entry) → finishes.is_over (stage_behind plan run []) ≡ false
none_finished plan run = none_started plan run (λ stage. finishes.is_over stage ≡ false) refl refl

-- the verdict of the two parts
abbrev pub verdict_after : PlanData → List Entry → List Entry → Verdict
verdict_after plan run turns = if has_ended plan run then verdict_of plan run else finish_verdict plan run turns

pub ended_verdict : (plan : PlanData) (run turns : List Entry) → has_ended plan run ≡ true → verdict_after plan run turns ≡ verdict_of plan run
ended_verdict plan run turns is = ap (λ (b : Bool). if b then verdict_of plan run else finish_verdict plan run turns) is

pub gone_on_verdict : (plan : PlanData) (run turns : List Entry) → has_ended plan run ≡ false → verdict_after plan run turns ≡ finish_verdict plan run turns
gone_on_verdict plan run turns is = ap (λ (b : Bool). if b then verdict_of plan run else finish_verdict plan run turns) is

alone_verdict : (plan : PlanData) (run : List Entry) → verdict_of plan run ≡ verdict_after plan run []
alone_verdict plan run = by (has_ended plan run) refl where
  by : (b : Bool) → has_ended plan run ≡ b → verdict_of plan run ≡ verdict_after plan run []
  by true is = sym (ended_verdict plan run [] is)
  by false is = unended plan run is ∙ sym (none_unfinished plan run) ∙ sym (gone_on_verdict plan run [] is)

-- the run is over, and so is the new tool where it is resumed
abbrev pub over_after : PlanData → List Entry → List Entry → Bool
over_after plan run turns = is_over plan run && (not (is_resumed plan run) || finishes.is_over (stage_behind plan run turns))

alone_over : (a b c : Bool) → a ≡ true → b ≡ false → (a && (not b || c)) ≡ true
alone_over true false c over unresumed = refl
alone_over true true c over unresumed = absurd cc
alone_over false b c over unresumed = absurd cc

gone_on_over : (a b c : Bool) → a ≡ true → c ≡ true → (a && (not b || c)) ≡ true
gone_on_over true true true over finished = refl
gone_on_over true false true over finished = refl
gone_on_over true b false over finished = absurd cc
gone_on_over false b c over finished = absurd cc

-- the end of the two parts is the journal's
end_at : (plan : PlanData) (run turns journal : List Entry) (verdict : Verdict) (server : State) (sessions : ℕ) → Parts plan run turns journal → over_after plan run turns ≡ true → IsEndOf (verdict_after plan run turns) (state_at plan journal) verdict server sessions → IsEnd plan journal verdict server sessions
end_at plan run turns journal verdict server sessions parts over end =
    let so = at_parts (λ all behind. (over_after plan all behind ≡ true) × IsEndOf (verdict_after plan all behind) (state_at plan journal) verdict server sessions) plan run turns journal parts (over, end) in
    record { over = so.0; end = so.1 }

-- of a run behind which no new tool comes
pub alone_end : (plan : PlanData) (run journal : List Entry) (verdict : Verdict) (server : State) (sessions : ℕ) → length run ≤ plan.options.turn_limit → journal ≡ run → is_over plan run ≡ true → is_resumed plan run ≡ false → IsEndOf (verdict_of plan run) (state_at plan run) verdict server sessions → IsEnd plan journal verdict server sessions
alone_end plan run journal verdict server sessions few is over unresumed end =
    let whole : journal ≡ run ++ [] = is ∙ sym (append-nil run) in
    let goes : GoesOn (is_resumed plan run) plan run [] = subst (λ (b : Bool). GoesOn b plan run []) (sym unresumed) refl in
    let here : IsEndOf (verdict_of plan run) (state_at plan journal) verdict server sessions = subst (λ (all : List Entry). IsEndOf (verdict_of plan run) (state_at plan all) verdict server sessions) (sym is) end in
    end_at plan run [] journal verdict server sessions (parts_of plan run [] journal few whole goes) (alone_over (is_over plan run) (is_resumed plan run) (finishes.is_over (stage_behind plan run [])) over unresumed)
    (subst (λ (last : Verdict). IsEndOf last (state_at plan journal) verdict server sessions) (alone_verdict plan run) here)

-- of one that a new tool went on with until it was over
pub finished_end : (plan : PlanData) (run turns journal : List Entry) (verdict : Verdict) (server : State) (sessions : ℕ) → Parts plan run turns journal → is_resumed plan run ≡ true → finishes.is_over (stage_behind plan run turns) ≡ true → IsEndOf (finish_verdict plan run turns) (state_at plan journal) verdict server sessions → IsEnd plan journal verdict server sessions
finished_end plan run turns journal verdict server sessions parts resumed over end =
    let so = resumed_over plan run resumed in
    end_at plan run turns journal verdict server sessions parts (gone_on_over (is_over plan run) (is_resumed plan run) (finishes.is_over (stage_behind plan run turns)) so.0 over)
    (subst (λ (last : Verdict). IsEndOf last (state_at plan journal) verdict server sessions) (sym (gone_on_verdict plan run turns so.1)) end)

-- the same of each end that there is
pub each_end : {E : Type 0} (P Q : E → Type 0) (end : Option E) → ((one : E) → P one → Q one) → IfSome end P → IfSome end Q
each_end P Q None grows is = tt
each_end P Q (Some one) grows is = grows one is

-- a verdict that was told, with this server
pub end_told : {E : Type 0} (result : Option E) (verdict_in : E → Verdict) (state_in : E → State) (sessions_in : E → ℕ) (chosen : Option Verdict) (last : Verdict) (server here left : State) (sessions : ℕ) → IfSome chosen (λ verdict. verdict ≡ last) → server ≡ here → here ≡ left → here.made ≤ sessions
    → IfSome result (λ end. (chosen ≡ Some (verdict_in end)) × (state_in end ≡ server) × (sessions_in end ≡ sessions)) → IfSome result (λ end. IsEndOf last left (verdict_in end) (state_in end) (sessions_in end))
end_told None verdict_in state_in sessions_in chosen last server here left sessions told stopped at few ends = tt
end_told (Some end) verdict_in state_in sessions_in chosen last server here left sessions told stopped at few ends = record {
  verdict_is = subst (λ (one : Option Verdict). IfSome one (λ verdict. verdict ≡ last)) ends.0 told;
  server_is = ends.1 ∙ stopped ∙ at;
  made = subst (λ (n : ℕ). (state_in end).made ≤ n) (sym ends.2) (subst (λ (s : State). s.made ≤ sessions) (sym (ends.1 ∙ stopped)) few);
}

-- SOUND FINISHES

-- what the new tool left is sound behind the run
pub finish_sound : FinishesAreSound → (plan : PlanData) (run journal : List Entry) → WasRead plan → IsSoundRun plan run → is_resumed plan run ≡ true → (left : FinishesRun plan run journal) → IsSoundFinish plan run left.turns
unfolding FinishesAreSound
finish_sound sound plan run journal was is resumed left = sound plan run left.turns was is resumed left.finish (subst (IsFaithful plan) left.journal_is left.faithful) (subst KeepsSessions left.journal_is left.sessions)

pub whole_of : (plan : PlanData) (run turns journal : List Entry) → journal ≡ run ++ turns → GoesOn (is_resumed plan run) plan run turns → IsWholeRun plan run journal
whole_of plan run turns journal is goes = record { turns = turns; journal_is = is; goes_on = goes }

-- so is it where it took no turn
nothing_sound : FinishesAreSound → (plan : PlanData) (run : List Entry) → WasRead plan → IsSoundRun plan run → is_resumed plan run ≡ true → IsSoundFinish plan run []
unfolding FinishesAreSound IsFinish
nothing_sound sound plan run was is resumed = sound plan run [] was is resumed tt (subst (IsFaithful plan) (sym (append-nil run)) is.kept.faithful) (subst KeepsSessions (sym (append-nil run)) is.kept.sessions)

-- *A run alone*: whether or not it is resumed, a new tool that took no turn goes on behind it.
pub run_only : FinishesAreSound → (plan : PlanData) (run journal : List Entry) → WasRead plan → IsSoundRun plan run → journal ≡ run → IsWholeRun plan run journal
run_only sound plan run journal was is same = record { turns = []; journal_is = same ∙ sym (append-nil run); goes_on = by (is_resumed plan run) refl } where
  by : (b : Bool) → is_resumed plan run ≡ b → GoesOn (is_resumed plan run) plan run []
  by true resumed = subst (λ (b : Bool). GoesOn b plan run []) (sym resumed) (nothing_sound sound plan run was is resumed)
  by false unresumed = subst (λ (b : Bool). GoesOn b plan run []) (sym unresumed) refl

-- what a new tool left is sound behind the run, of a run that is resumed
pub run_finished : FinishesAreSound → (plan : PlanData) (run journal : List Entry) → WasRead plan → IsSoundRun plan run → is_resumed plan run ≡ true → FinishesRun plan run journal → IsWholeRun plan run journal
run_finished sound plan run journal was is resumed left =
    whole_of plan run left.turns journal left.journal_is (subst (λ (b : Bool). GoesOn b plan run left.turns) (sym resumed) (finish_sound sound plan run journal was is resumed left))

-- THE PARTS OF A WHOLE RUN

pub whole_parts : (plan : PlanData) (run journal : List Entry) → length run ≤ plan.options.turn_limit → (whole : IsWholeRun plan run journal) → Parts plan run whole.turns journal
whole_parts plan run journal few whole = parts_of plan run whole.turns journal few whole.journal_is whole.goes_on

pub whole_resumes : (plan : PlanData) (run journal : List Entry) → length run ≤ plan.options.turn_limit → IsWholeRun plan run journal → Resumes plan journal
whole_resumes plan run journal few whole = resumes_at plan run whole.turns journal (whole_parts plan run journal few whole) whole.goes_on

-- what is so of the run is so of the journal's first turns
pub of_whole : (P : List Entry → Type 0) (plan : PlanData) (run journal : List Entry) → length run ≤ plan.options.turn_limit → IsWholeRun plan run journal → P run → P (run_in plan journal)
of_whole P plan run journal few whole is = subst P (sym (whole_parts plan run journal few whole).run_is) is

-- WHAT THE VERDICT TELLS

finished_only : (plan : PlanData) (journal : List Entry) → Resumes plan journal → has_finished plan journal ≡ true → is_resumed plan (run_in plan journal) ≡ true
finished_only plan journal resumes finished = by (is_resumed plan (run_in plan journal)) refl where
  by : (b : Bool) → is_resumed plan (run_in plan journal) ≡ b → is_resumed plan (run_in plan journal) ≡ true
  by true resumed = resumed
  by false unresumed = absurd (true≢false (sym finished ∙ ap (λ (turns : List Entry). finishes.is_over (stage_behind plan (run_in plan journal) turns)) (alone plan journal resumes unresumed) ∙ none_finished plan (run_in plan journal)))

module _ (tell : FinishesTellTheAlter) (plan : PlanData) (journal : List Entry) (was : WasRead plan) (sound : IsSoundRun plan (run_in plan journal)) (resumes : Resumes plan journal) where
  -- the new tool is over
  behind : has_finished plan journal ≡ true → EndsBehind plan (run_in plan journal) (finish_in plan journal)
  behind finished =
      let resumed = finished_only plan journal resumes finished in
      tell plan (run_in plan journal) (finish_in plan journal) was sound resumed (sound_behind plan journal resumes resumed) finished

  run_tells : has_ended plan (run_in plan journal) ≡ true → TellsAlter plan (run_in plan journal) → TellsAlterAt plan journal
  run_tells ended tells =
      let whole : run_in plan journal ≡ journal = run_whole plan journal (alone plan journal resumes (ended_alone plan (run_in plan journal) ended)) in
      let same : verdict_at plan journal ≡ verdict_of plan (run_in plan journal) = ended_verdict plan (run_in plan journal) (finish_in plan journal) ended in
      let known : list_any is_alter (history plan (run_in plan journal)) ≡ list_any is_alter (history plan journal) = ap (λ (all : List Entry). list_any is_alter (history plan all)) whole in
      record {
        done = λ alters. same ∙ tells.done (known ∙ alters);
        reverted = λ none. let so = tells.reverted (known ∙ none) in (so.0, same ∙ so.1);
      }

  finish_tells : has_ended plan (run_in plan journal) ≡ false → has_finished plan journal ≡ true → TellsAlterAt plan journal
  finish_tells going finished =
      let ends = behind finished in
      let same : verdict_at plan journal ≡ finish_verdict plan (run_in plan journal) (finish_in plan journal) = gone_on_verdict plan (run_in plan journal) (finish_in plan journal) going in
      let known : list_any is_alter (history plan (run_in plan journal ++ finish_in plan journal)) ≡ list_any is_alter (history plan journal) = ap (λ (all : List Entry). list_any is_alter (history plan all)) (all_of plan journal) in
      record {
        done = λ alters. same ∙ ends.done (known ∙ alters);
        reverted = λ none. let so = ends.reverted (known ∙ none) in (so.0, same ∙ so.1);
      }

  -- *The verdict tells the ALTER* where it has ended.
  pub tells_at : (has_ended plan (run_in plan journal) ≡ true → TellsAlter plan (run_in plan journal)) → has_ended_at plan journal ≡ true → TellsAlterAt plan journal
  tells_at tells ended = by (has_ended plan (run_in plan journal)) refl ended where
    by : (b : Bool) → has_ended plan (run_in plan journal) ≡ b → (b || has_finished plan journal) ≡ true → TellsAlterAt plan journal
    by true is so = run_tells is (tells is)
    by false is so = finish_tells is so

  -- *The cause stands*
  pub stands_at : (cause : Cause) → is_over_at plan journal ≡ true → verdict_at plan journal ≡ verdicts.Reverted cause → StandsAt plan journal cause
  stands_at cause over is = by (has_ended plan (run_in plan journal)) refl where
    not_unfinished : verdicts.Unfinished ≡ verdicts.Reverted cause → ⊥
    not_unfinished same = cc

    second : (a c : Bool) → (a && (false || c)) ≡ true → c ≡ true
    second true c so = so
    second false c so = absurd cc

    gone_on : (b : Bool) → is_resumed plan (run_in plan journal) ≡ b → finish_verdict plan (run_in plan journal) (finish_in plan journal) ≡ verdicts.Reverted cause → (is_over plan (run_in plan journal) && (not b || has_finished plan journal)) ≡ true → StandsBehind plan (run_in plan journal) (finish_in plan journal) cause
    gone_on true resumed reverts so = (behind (second (is_over plan (run_in plan journal)) (has_finished plan journal) so)).stands cause reverts
    gone_on false unresumed reverts so =
        absurd (not_unfinished (sym (none_unfinished plan (run_in plan journal)) ∙ ap (finish_verdict plan (run_in plan journal)) (sym (alone plan journal resumes unresumed)) ∙ reverts))

    by : (b : Bool) → has_ended plan (run_in plan journal) ≡ b → StandsIn (has_ended plan (run_in plan journal)) plan (run_in plan journal) (finish_in plan journal) cause
    by true ended =
        subst (λ (b : Bool). StandsIn b plan (run_in plan journal) (finish_in plan journal) cause) (sym ended) (sound.causes cause (sym (ended_verdict plan (run_in plan journal) (finish_in plan journal) ended) ∙ is))
    by false going =
        subst (λ (b : Bool). StandsIn b plan (run_in plan journal) (finish_in plan journal) cause) (sym going)
        (gone_on (is_resumed plan (run_in plan journal)) refl (sym (gone_on_verdict plan (run_in plan journal) (finish_in plan journal) going) ∙ is) over)

-- THE NEW TOOL'S TURNS

-- so many were taken, with the server behind them, and there is room for them
pub record Finishing (start now : FinishRun) (room : ℕ) : Type 0 where
  pub plan : now.plan ≡ start.plan
  pub run : now.run ≡ start.run
  pub server : now.server ≡ state_at now.plan (now.run ++ now.turns)
  pub space : length (now.run ++ now.turns) ≤ room

pub server_more : (before after : FinishRun) → TakesNext before after → before.server ≡ state_at before.plan (before.run ++ before.turns) → after.server ≡ state_at after.plan (after.run ++ after.turns)
server_more before after takes is =
    let journal : List Entry = before.run ++ before.turns in
    let added : before.run ++ (before.turns ++ takes.entry ∷ []) ≡ journal ++ takes.entry ∷ [] = sym (append_assoc before.run before.turns (takes.entry ∷ [])) in
    ap (λ (f : FinishRun). f.server) takes.taken ∙ ap (λ (s : State). after_entry s takes.entry) is ∙ sym (state_more (opening before.plan) journal takes.entry) ∙ ap (state_at before.plan) (sym added)
    ∙ ap (λ (f : FinishRun). state_at f.plan (f.run ++ f.turns)) (sym takes.taken)

pub finishing_more : (start before after : FinishRun) (room room_then : ℕ) → Finishing start before room → TakesNext before after → length (after.run ++ after.turns) ≤ room_then → Finishing start after room_then
finishing_more start before after room room_then was takes space = record {
  plan = ap (λ (f : FinishRun). f.plan) takes.taken ∙ was.plan;
  run = ap (λ (f : FinishRun). f.run) takes.taken ∙ was.run;
  server = server_more before after takes was.server;
  space = space;
}

-- a journal to its end is no shorter than its run's
pub whole_longer : (plan : PlanData) (run journal : List Entry) (count : ℕ) → IsWholeRun plan run journal → count ≤ length run → count ≤ length journal
whole_longer plan run journal count whole few = let longer : length journal ≡ length run + length whole.turns = ap length whole.journal_is ∙ length-append run whole.turns in omega (arith, longer, few)

-- WHAT THE NEW TOOL LEAVES

-- of a run that a new tool went on with, and of the journal with its turns
module _ (plan : PlanData) (run journal : List Entry) (now : FinishRun) (plan_is : now.plan ≡ plan) (run_is : now.run ≡ run) (journal_is : journal ≡ now.run ++ now.turns) where
  own : (P : PlanData → List Entry → Type 0) → P now.plan now.run → P plan run
  own P is = subst (λ (p : PlanData). P p run) plan_is (subst (P now.plan) run_is is)

  -- its turns are those behind the run's
  turns_are : drop (length run) journal ≡ now.turns
  turns_are = ap (drop (length run)) (journal_is ∙ ap (λ (all : List Entry). all ++ now.turns) run_is) ∙ drop-append_seam run now.turns

  pub of_left : (P : PlanData → List Entry → List Entry → Type 0) → P now.plan now.run now.turns → P plan run (drop (length run) journal)
  of_left P is = subst (P plan run) (sym turns_are) (own (λ (p : PlanData) (all : List Entry). P p all now.turns) is)

  pub finishes_run : IsFinish now.plan now.run now.turns → IsFaithful now.plan (now.run ++ now.turns) → KeepsSessions (now.run ++ now.turns) → FinishesRun plan run journal
  finishes_run finish faithful sessions =
      own (λ (p : PlanData) (all : List Entry). FinishesRun p all journal) (record {
        turns = now.turns;
        journal_is = journal_is;
        finish = finish;
        faithful = subst (IsFaithful now.plan) (sym journal_is) faithful;
        sessions = subst KeepsSessions (sym journal_is) sessions;
      })

  pub server_left : now.server ≡ state_at now.plan (now.run ++ now.turns) → now.server ≡ state_at plan journal
  server_left is = is ∙ ap (state_at now.plan) (sym journal_is) ∙ ap (λ (p : PlanData). state_at p journal) plan_is

-- what holds of a new tool that is over holds of its end, where it told a verdict
pub over_told : {E : Type 0} (result : Option E) (verdict_in : E → Verdict) (state_in : E → State) (sessions_in : E → ℕ) (chosen : Option Verdict) (server : State) (sessions : ℕ) (over : Bool) (P : Type 0) → IfSome chosen (λ verdict. over ≡ true) → (over ≡ true → P)
    → IfSome result (λ end. (chosen ≡ Some (verdict_in end)) × (state_in end ≡ server) × (sessions_in end ≡ sessions)) → IfSome result (λ end. P)
over_told None verdict_in state_in sessions_in chosen server sessions over P told holds ends = tt
over_told (Some end) verdict_in state_in sessions_in chosen server sessions over P told holds ends = holds (subst (λ (one : Option Verdict). IfSome one (λ verdict. over ≡ true)) ends.0 told)

-- so its end is that of the verdict, where it told one
pub finish_told : {E : Type 0} (result : Option E) (verdict_in : E → Verdict) (state_in : E → State) (sessions_in : E → ℕ) (chosen : Option Verdict) (last : Verdict) (server here left : State) (sessions : ℕ) (over : Bool) → IfSome chosen (λ verdict. verdict ≡ last) → IfSome chosen (λ verdict. over ≡ true) → server ≡ here → (over ≡ true → here ≡ left) → here.made ≤ sessions
    → IfSome result (λ end. (chosen ≡ Some (verdict_in end)) × (state_in end ≡ server) × (sessions_in end ≡ sessions)) → IfSome result (λ end. IsEndOf last left (verdict_in end) (state_in end) (sessions_in end))
finish_told None verdict_in state_in sessions_in chosen last server here left sessions over told is_over stopped at few ends = tt
finish_told (Some end) verdict_in state_in sessions_in chosen last server here left sessions over told is_over stopped at few ends =
    end_told (Some end) verdict_in state_in sessions_in chosen last server here left sessions told stopped (at (subst (λ (one : Option Verdict). IfSome one (λ verdict. over ≡ true)) ends.0 is_over)) few ends

-- THE ENDS

-- where a run is resumed, the turns behind it are those behind as many as the plan allows
parts_behind : (plan : PlanData) (run journal : List Entry) → length run ≤ plan.options.turn_limit → is_resumed plan run ≡ true → IsWholeRun plan run journal → Parts plan run (drop (length run) journal) journal
parts_behind plan run journal few resumed whole = record { run_is = (whole_parts plan run journal few whole).run_is; turns_are = ap (λ (n : ℕ). drop n journal) (sym (resumed_full plan run resumed few)) }

pub finished_ends : {E : Type 0} (verdict_in : E → Verdict) (state_in : E → State) (sessions_in : E → ℕ) (plan : PlanData) (run journal : List Entry) (end : Option E) → length run ≤ plan.options.turn_limit → is_resumed plan run ≡ true → IsWholeRun plan run journal
    → IfSome end (λ one. finishes.is_over (stage_behind plan run (drop (length run) journal)) ≡ true) → IfSome end (λ one. IsEndOf (finish_verdict plan run (drop (length run) journal)) (state_at plan journal) (verdict_in one) (state_in one) (sessions_in one)) → IfSome end (λ one. IsEnd plan journal (verdict_in one) (state_in one) (sessions_in one))
finished_ends verdict_in state_in sessions_in plan run journal None few resumed whole over ends = tt
finished_ends verdict_in state_in sessions_in plan run journal (Some one) few resumed whole over ends =
    finished_end plan run (drop (length run) journal) journal (verdict_in one) (state_in one) (sessions_in one) (parts_behind plan run journal few resumed whole) resumed over ends

pub alone_ends : {E : Type 0} (verdict_in : E → Verdict) (state_in : E → State) (sessions_in : E → ℕ) (plan : PlanData) (run journal : List Entry) (end : Option E) → length run ≤ plan.options.turn_limit → journal ≡ run → is_over plan run ≡ true → is_resumed plan run ≡ false
    → IfSome end (λ one. IsEndOf (verdict_of plan run) (state_at plan run) (verdict_in one) (state_in one) (sessions_in one)) → IfSome end (λ one. IsEnd plan journal (verdict_in one) (state_in one) (sessions_in one))
alone_ends verdict_in state_in sessions_in plan run journal end few same over unresumed =
    each_end (λ one. IsEndOf (verdict_of plan run) (state_at plan run) (verdict_in one) (state_in one) (sessions_in one)) (λ one. IsEnd plan journal (verdict_in one) (state_in one) (sessions_in one)) end
    (λ one is. alone_end plan run journal (verdict_in one) (state_in one) (sessions_in one) few same over unresumed is)

-- where it took no turn, the journal is the run's
pub none_taken : (run turns : List Entry) → turns ≡ [] → run ++ turns ≡ run
none_taken run turns none = ap (λ (all : List Entry). run ++ all) none ∙ append-nil run

-- a turn that wasn't refused was taken
pub took : {X E : Type 0} {P : Type 0} (result : Result X E) → is_err result ≡ false → OnOk result P → P
took (Ok x) ok is = is
took (Err e) ok is = absurd (true≢false ok)
