-- What each turn of a whole journal is, and that each journal which it begins with is whole.
use Rattle.std.proofs.Common.{◌≡◌, ◌≤◌, ◌<◌, ℕ, zero, suc, ◌+◌, ◌-◌, nat_le, nat_lt, Bool, true, false, cond, is_some, List, [], ◌∷◌, ◌++◌, length, take, drop, Option, Some, None, refl, sym, ap, ◌∙◌, subst, append_assoc, append-nil, arith}
use Rattle.std.proofs.Math.Seq.{take-append-add}
use Rattle.std.proofs.lemmas.Bool.{true≢false}
use Rattle.std.proofs.lemmas.Bool.Decides.{nat_tests}
use Rattle.std.proofs.lemmas.List.{drop-append-le, drop_all, length-append, take-append-drop, take-append-le, take_all}
use Rattle.std.proofs.lemmas.Option.{same_Some}
use Rattle.base_script.specs.declared.actor.Actor.{Actor}
use Rattle.base_script.specs.declared.actor.Actor.TheVariants.{Insp, Copy, Apply, Ren}
use Rattle.server_model.specs.Along.{Along, Along-append, Along-rest}
use Rattle.server_model.specs.declared.entry.Asked.{Asked}
use Rattle.server_model.specs.declared.entry.Asked.TheVariants.{Call, Cut}
use Rattle.server_model.specs.declared.entry.Entry.{Entry}
use Rattle.server_model.specs.declared.outcome.Verdict.TheVariants as verdicts
use Rattle.server_model.specs.declared.request.Request.{Request}
use Rattle.plan_data.specs.PlanData.{PlanData}
use Rattle.tool_program.specs.ChunkCopier.Copiers as copiers
use Rattle.tool_program.specs.JournalWords.Journals.{IsAnswered, IsFaithful, state_at}
use Rattle.tool_program.specs.JournalWords.KeptPlans.{IsPlanned, IsStruck, KeepsPlan, TakesNext, cut_due}
use Rattle.tool_program.specs.JournalWords.Sessions.{IsSeated, KeepsSessions}
use Rattle.tool_program.specs.Programs.{Follows, IsFollowed}
use Rattle.tool_program.specs.Tools.{moment}
use Rattle.tool_program.specs.Verdicts.{ended_so, has_ended, verdict_of}
use Rattle.tool_finish.specs.declared.stage.Stage.{Stage}
use Rattle.tool_finish.specs.declared.stage.Stage.TheVariants.{Losing, Listing, Reading, Clearing, ReadingCounter, SettingCounter, Ranging, Copying, Applying, Exchanging, DroppingLog, DroppingOld, RollingBack, Done, Reverted}
use Rattle.tool_finish.specs.declared.stage.UnfitRow.{UnfitRow}
use Rattle.tool_finish.specs.declared.stage.UnfitRow.TheVariants.{Copied, Applied}
use Rattle.tool_finish.specs.Finishes.{Asking, IsFinish, IsFinishTurn, calls, copies, cuts, finish_verdict, first_live, next, rolls_back, stage_behind, verdict_in}
use Rattle.tool_finish.specs.WholeJournals.{finish_in, run_in, verdict_at}
use Rattle.proof_journals.specs.Run.Kept.{IsKept}
use Rattle.proof_journals.proofs.Ghost.Turns.{along_next}
use Rattle.proof_journals.proofs.Machine.Journals.{IsRun, all_runs}
use Rattle.proof_journals.proofs.ServerTurns.Agreements.{along_front}
use Rattle.proof_audit.specs.Wholes.{AreNewTools, HasItsCause, IsWhole, MayGoOn}

-- *Turn of a whole journal*: it has the server's answer, asks what the plan has its actor ask, in its actor's session, and in the turns
-- that the plan allows sessions are lost where the plan names a loss
pub record IsTurn (plan : PlanData) (before : List Entry) (entry : Entry) : Type 0 where
  pub answered : IsAnswered (state_at plan before) entry
  pub takes : TakesNext plan before entry.actor entry.asked
  pub seated : IsSeated before entry
  pub struck : length before < plan.options.turn_limit → IsStruck plan before entry (cut_due plan before)

-- ---- a run's turns

run_turns : (plan : PlanData) (before journal : List Entry) → Along (λ some entry. IsAnswered (state_at plan some) entry) before journal → Along (IsPlanned plan) before journal → Along IsSeated before journal → Along (IsTurn plan) before journal
run_turns plan before [] answered planned seated = tt
run_turns plan before (entry ∷ journal) answered planned seated =
    (record { answered = answered.0; takes = planned.0.next; seated = seated.0; struck = λ within. planned.0.struck }, run_turns plan (before ++ entry ∷ []) journal answered.1 planned.1 seated.1)

pub kept_turns : (plan : PlanData) (run : List Entry) → IsKept plan run → Along (IsTurn plan) [] run
unfolding KeepsPlan KeepsSessions
kept_turns plan run kept = run_turns plan [] run kept.faithful kept.planned kept.sessions

pub kept_next : (plan : PlanData) (before : List Entry) (entry : Entry) (later : List Entry) → IsKept plan (before ++ entry ∷ later) → IsTurn plan before entry
kept_next plan before entry later kept = along_next (IsTurn plan) [] before entry later (kept_turns plan (before ++ entry ∷ later) kept)

-- ---- a new tool's

module _ (plan : PlanData) (before : List Entry) (one : Actor) (asked : Asked) where
  abbrev Takes : Actor → Asked → Type 0
  Takes actor what = TakesNext plan before actor what

  -- who calls, and what
  takes_call : (actor : Actor) (request : Request) → Takes actor (Call request) → calls actor request ≡ Some (one, asked) → Takes one asked
  takes_call actor request takes is = subst (λ (p : Asking). Takes p.0 p.1) (same_Some (actor, Call request) (one, asked) is) takes

  takes_cut : (live : Option Actor) → cuts live ≡ Some (one, asked) → Takes one asked
  takes_cut None is = absurd cc
  takes_cut (Some actor) is = subst (λ (p : Asking). Takes p.0 p.1) (same_Some (actor, Cut) (one, asked) is) tt

  takes_copy : (request : Option Request) → copies request ≡ Some (one, asked) → Takes one asked
  takes_copy None is = absurd cc
  takes_copy (Some request) is = takes_call Copy request refl is

  takes_back : (row : UnfitRow) (request : Request) → calls (rolls_back row) request ≡ Some (one, asked) → Takes one asked
  takes_back (Copied copier refusal) request is = takes_call Copy request refl is
  takes_back (Applied applier refusal) request is = takes_call Apply request refl is

  -- what comes next is what the plan has its actor ask
  next_takes : (stage : Stage) → next plan before stage ≡ Some (one, asked) → Takes one asked
  unfolding next
  next_takes Losing is = takes_cut (first_live plan before) is
  next_takes Listing is = takes_call Insp _ refl is
  next_takes (Reading listed) is = takes_call Insp _ refl is
  next_takes (Clearing found) is = takes_call Insp _ refl is
  next_takes (ReadingCounter found) is = takes_call Insp _ refl is
  next_takes (SettingCounter found number) is = takes_call Insp _ refl is
  next_takes (Ranging found) is = takes_call Insp _ refl is
  next_takes (Copying copier applier) is = takes_copy (copiers.next before copier) is
  next_takes (Applying applier) is = takes_call Apply _ refl is
  next_takes Exchanging is = takes_call Ren _ refl is
  next_takes (DroppingLog old) is = takes_call Insp _ refl is
  next_takes DroppingOld is = takes_call Insp _ refl is
  next_takes (RollingBack row) is = takes_back row _ is
  next_takes Done is = absurd cc
  next_takes (Reverted row) is = absurd cc

past_limit : (limit count : ℕ) → limit ≤ count → count < limit → ⊥
past_limit limit count full less = omega (arith, full, less)

tool_turns : (plan : PlanData) (run before turns : List Entry) → plan.options.turn_limit ≤ length before → Along (IsFinishTurn plan run) before turns → Along (λ some entry. IsAnswered (state_at plan some) entry) before turns → Along (IsTurn plan) before turns
tool_turns plan run before [] full finish answered = tt
tool_turns plan run before (entry ∷ turns) full finish answered =
    let more : length (before ++ entry ∷ []) ≡ length before + 1 = length-append before (entry ∷ []) in (
      record {
        answered = answered.0;
        takes = next_takes plan before entry.actor entry.asked _ finish.0.given;
        seated = record { session = finish.0.session };
        struck = λ within. absurd (past_limit plan.options.turn_limit (length before) full within);
      },
      tool_turns plan run (before ++ entry ∷ []) turns (omega (arith, full, more)) finish.1 answered.1,
    )

-- ---- all turns

-- where turns are behind so many, there are so many
pub all_taken : (count : ℕ) (journal : List Entry) (entry : Entry) (turns : List Entry) → drop count journal ≡ entry ∷ turns → length (take count journal) ≡ count
all_taken zero journal entry turns is = refl
all_taken (suc count) [] entry turns is = absurd cc
all_taken (suc count) (first ∷ journal) entry turns is = ap suc (all_taken count journal entry turns is)

gone_turns : (plan : PlanData) (run turns : List Entry) → plan.options.turn_limit ≤ length run → AreNewTools plan run turns → Along (IsTurn plan) run turns
unfolding IsFinish
gone_turns plan run turns full are = tool_turns plan run run turns full are.finish (Along-rest (λ some entry. IsAnswered (state_at plan some) entry) [] run turns are.faithful)

tail_turns : (plan : PlanData) (journal turns : List Entry) → finish_in plan journal ≡ turns → MayGoOn plan (run_in plan journal) turns → Along (IsTurn plan) (run_in plan journal) turns
tail_turns plan journal [] is goes_on = tt
tail_turns plan journal (entry ∷ turns) is goes_on =
    let full : length (run_in plan journal) ≡ plan.options.turn_limit = all_taken plan.options.turn_limit journal entry turns is in gone_turns plan (run_in plan journal) (entry ∷ turns) (omega (arith, full)) goes_on

-- *Each turn of a whole journal* is such a one
pub whole_turns : (plan : PlanData) (journal : List Entry) → IsWhole plan journal → Along (IsTurn plan) [] journal
whole_turns plan journal whole =
    subst (Along (IsTurn plan) []) (take-append-drop plan.options.turn_limit journal)
    (Along-append (IsTurn plan) [] (run_in plan journal) (finish_in plan journal) (kept_turns plan (run_in plan journal) whole.kept) (tail_turns plan journal (finish_in plan journal) refl whole.goes_on))

pub turn_next : (plan : PlanData) (before : List Entry) (entry : Entry) (later : List Entry) → IsWhole plan (before ++ entry ∷ later) → IsTurn plan before entry
turn_next plan before entry later whole = along_next (IsTurn plan) [] before entry later (whole_turns plan (before ++ entry ∷ later) whole)

-- ---- each answer, session and line

along_each : {E : Type 0} (keeps holds : List E → E → Type 0) → ((before : List E) (entry : E) → keeps before entry → holds before entry) → (before all : List E) → Along keeps before all → Along holds before all
along_each keeps holds each before [] kept = tt
along_each keeps holds each before (entry ∷ all) kept = (each before entry kept.0, along_each keeps holds each (before ++ entry ∷ []) all kept.1)

pub whole_faithful : (plan : PlanData) (journal : List Entry) → IsWhole plan journal → IsFaithful plan journal
whole_faithful plan journal whole = along_each (IsTurn plan) (λ some entry. IsAnswered (state_at plan some) entry) (λ before entry turn. turn.answered) [] journal (whole_turns plan journal whole)

pub whole_sessions : (plan : PlanData) (journal : List Entry) → IsWhole plan journal → KeepsSessions journal
unfolding KeepsSessions
whole_sessions plan journal whole = along_each (IsTurn plan) IsSeated (λ before entry turn. turn.seated) [] journal (whole_turns plan journal whole)

-- ---- a turn of a kept journal

pub planned_next : (plan : PlanData) (before : List Entry) (entry : Entry) (later : List Entry) → IsKept plan (before ++ entry ∷ later) → IsPlanned plan before entry
unfolding KeepsPlan
planned_next plan before entry later kept = along_next (IsPlanned plan) [] before entry later kept.planned

pub run_next : (plan : PlanData) (before : List Entry) (entry : Entry) (later : List Entry) → IsKept plan (before ++ entry ∷ later) → IsRun plan before entry
unfolding Follows
run_next plan before entry later kept = along_next (IsRun plan) [] before entry later (all_runs plan [] (before ++ entry ∷ later) kept.faithful kept.follows)

-- ---- what it begins with

pub kept_before : (plan : PlanData) (before later : List Entry) → IsKept plan (before ++ later) → IsKept plan before
unfolding KeepsPlan Follows KeepsSessions
kept_before plan before later kept = record {
  faithful = along_front (λ some entry. IsAnswered (state_at plan some) entry) [] before later kept.faithful;
  planned = along_front (IsPlanned plan) [] before later kept.planned;
  follows = along_front (IsFollowed plan) [] before later kept.follows;
  sessions = along_front IsSeated [] before later kept.sessions;
}

goes_before : (plan : PlanData) (run turns later : List Entry) → MayGoOn plan run (turns ++ later) → MayGoOn plan run turns
unfolding IsFinish
goes_before plan run [] later goes_on = tt
goes_before plan run (entry ∷ turns) later goes_on = record {
  unended = goes_on.unended;
  checkpoint = goes_on.checkpoint;
  numbered = goes_on.numbered;
  finish = along_front (IsFinishTurn plan run) run (entry ∷ turns) later goes_on.finish;
  faithful = along_front (λ some one. IsAnswered (state_at plan some) one) [] (run ++ entry ∷ turns) later (subst (IsFaithful plan) (sym (append_assoc run (entry ∷ turns) later)) goes_on.faithful);
}

within_limit : (limit count : ℕ) → nat_le count limit ≡ true → count ≤ limit
within_limit limit count is = grind (arith, nat_tests)

over_limit : (limit count : ℕ) → nat_le count limit ≡ false → limit ≤ count
over_limit limit count is = grind (arith, nat_tests)

-- *A kept journal* of no more turns than the plan allows is whole
pub kept_whole : (plan : PlanData) (journal : List Entry) → length journal ≤ plan.options.turn_limit → IsKept plan journal → IsWhole plan journal
kept_whole plan journal few kept = record {
  kept = subst (IsKept plan) (sym (take_all plan.options.turn_limit journal few)) kept;
  goes_on = subst (MayGoOn plan (run_in plan journal)) (sym (drop_all plan.options.turn_limit journal few)) tt;
}

-- *What a whole journal begins with* is whole
pub whole_before : (plan : PlanData) (before later : List Entry) → IsWhole plan (before ++ later) → IsWhole plan before
whole_before plan before later whole = by (nat_le (length before) plan.options.turn_limit) refl where
  limit : ℕ
  limit = plan.options.turn_limit

  front : length before ≤ limit → IsKept plan before
  front few =
      let so : limit ≡ length before + (limit - length before) = omega (arith, few) in
      let first : run_in plan (before ++ later) ≡ before ++ take (limit - length before) later = ap (λ (n : ℕ). take n (before ++ later)) so ∙ take-append-add before later (limit - length before) in
      kept_before plan before (take (limit - length before) later) (subst (IsKept plan) first whole.kept)

  by : (b : Bool) → nat_le (length before) limit ≡ b → IsWhole plan before
  by true is = let few : length before ≤ limit = within_limit limit (length before) is in kept_whole plan before few (front few)
  by false is =
      let full : limit ≤ length before = over_limit limit (length before) is in
      let same : run_in plan (before ++ later) ≡ run_in plan before = take-append-le limit before later full in
      record {
        kept = subst (IsKept plan) same whole.kept;
        goes_on = goes_before plan (run_in plan before) (finish_in plan before) later
            (subst (λ (run : List Entry). MayGoOn plan run (finish_in plan before ++ later)) same (subst (MayGoOn plan (run_in plan (before ++ later))) (drop-append-le limit before later full) whole.goes_on));
      }

-- ---- whose the last turn is

-- it is the run's, or the new tool's behind these turns
pub data LastTurn (plan : PlanData) (before : List Entry) (entry : Entry) : Type 0 where
  OfRun : IsKept plan (before ++ entry ∷ []) → LastTurn plan before entry
  OfTool : (run turns : List Entry) → before ≡ run ++ turns → IsKept plan run → AreNewTools plan run (turns ++ entry ∷ []) → LastTurn plan before entry

new_tools : (plan : PlanData) (run turns : List Entry) (entry : Entry) → MayGoOn plan run (turns ++ entry ∷ []) → AreNewTools plan run (turns ++ entry ∷ [])
new_tools plan run [] entry goes_on = goes_on
new_tools plan run (first ∷ turns) entry goes_on = goes_on

less_limit : (limit count : ℕ) → nat_lt count limit ≡ true → count + 1 ≤ limit
less_limit limit count is = grind (arith, nat_tests)

full_limit : (limit count : ℕ) → nat_lt count limit ≡ false → limit ≤ count
full_limit limit count is = grind (arith, nat_tests)

pub last_turn : (plan : PlanData) (before : List Entry) (entry : Entry) → IsWhole plan (before ++ entry ∷ []) → LastTurn plan before entry
last_turn plan before entry whole = by (nat_lt (length before) limit) refl where
  limit : ℕ
  limit = plan.options.turn_limit

  by : (b : Bool) → nat_lt (length before) limit ≡ b → LastTurn plan before entry
  by true is =
      let more : length (before ++ entry ∷ []) ≡ length before + 1 = length-append before (entry ∷ []) in
      let some : length before + 1 ≤ limit = less_limit limit (length before) is in
      OfRun (subst (IsKept plan) (take_all limit (before ++ entry ∷ []) (omega (arith, more, some))) whole.kept)
  by false is =
      let full : limit ≤ length before = full_limit limit (length before) is in
      let same : run_in plan (before ++ entry ∷ []) ≡ run_in plan before = take-append-le limit before (entry ∷ []) full in
      OfTool (run_in plan before) (finish_in plan before) (sym (take-append-drop limit before)) (subst (IsKept plan) same whole.kept)
      (new_tools plan (run_in plan before) (finish_in plan before) entry
      (subst (λ (run : List Entry). MayGoOn plan run (finish_in plan before ++ entry ∷ [])) same (subst (MayGoOn plan (run_in plan (before ++ entry ∷ []))) (drop-append-le limit before (entry ∷ []) full) whole.goes_on)))

-- ---- the verdict of a run alone

pub run_whole : (plan : PlanData) (journal : List Entry) → finish_in plan journal ≡ [] → run_in plan journal ≡ journal
run_whole plan journal none =
    sym (append-nil (run_in plan journal)) ∙ ap (λ (turns : List Entry). run_in plan journal ++ turns) (sym none) ∙ take-append-drop plan.options.turn_limit journal

-- of a run that has ended there is no turn behind
pub ended_alone : (plan : PlanData) (journal : List Entry) → IsWhole plan journal → has_ended plan (run_in plan journal) ≡ true → finish_in plan journal ≡ []
ended_alone plan journal whole ended = by (finish_in plan journal) whole.goes_on where
  by : (turns : List Entry) → MayGoOn plan (run_in plan journal) turns → turns ≡ []
  by [] goes_on = refl
  by (entry ∷ turns) goes_on = absurd (true≢false (sym ended ∙ goes_on.unended))

-- a new tool that took no turn hasn't ended
pub none_unfinished : (plan : PlanData) (run : List Entry) → finish_verdict plan run [] ≡ verdicts.Unfinished
unfolding finish_verdict stage_behind
none_unfinished plan run = by (is_some (first_live plan run)) where
  by : (b : Bool) → verdict_in plan (run ++ []) (cond b Losing Listing) ≡ verdicts.Unfinished
  by true = refl
  by false = refl

pub ended_verdict : (plan : PlanData) (journal : List Entry) → has_ended plan (run_in plan journal) ≡ true → verdict_at plan journal ≡ verdict_of plan (run_in plan journal)
ended_verdict plan journal is = ap (λ (b : Bool). cond b (verdict_of plan (run_in plan journal)) (finish_verdict plan (run_in plan journal) (finish_in plan journal))) is

pub gone_on_verdict : (plan : PlanData) (journal : List Entry) → has_ended plan (run_in plan journal) ≡ false → verdict_at plan journal ≡ finish_verdict plan (run_in plan journal) (finish_in plan journal)
gone_on_verdict plan journal is = ap (λ (b : Bool). cond b (verdict_of plan (run_in plan journal)) (finish_verdict plan (run_in plan journal) (finish_in plan journal))) is

unended_verdict : (plan : PlanData) (run : List Entry) → has_ended plan run ≡ false → verdict_of plan run ≡ verdicts.Unfinished
unfolding verdict_of
unended_verdict plan run is = ap (λ (b : Bool). cond b (ended_so plan run (moment plan run).tool) verdicts.Unfinished) is

-- where no new tool took a turn, the verdict is the run's
pub verdict_alone : (plan : PlanData) (journal : List Entry) → finish_in plan journal ≡ [] → verdict_at plan journal ≡ verdict_of plan (run_in plan journal)
verdict_alone plan journal none = by (has_ended plan (run_in plan journal)) refl where
  by : (b : Bool) → has_ended plan (run_in plan journal) ≡ b → verdict_at plan journal ≡ verdict_of plan (run_in plan journal)
  by true is = ended_verdict plan journal is
  by false is = gone_on_verdict plan journal is ∙ ap (finish_verdict plan (run_in plan journal)) none ∙ none_unfinished plan (run_in plan journal) ∙ sym (unended_verdict plan (run_in plan journal) is)

-- so is that of a journal of no more turns than the plan allows, behind which no cause is asked for
pub kept_verdict : (plan : PlanData) (journal : List Entry) → length journal ≤ plan.options.turn_limit → verdict_at plan journal ≡ verdict_of plan journal
kept_verdict plan journal few = let none : finish_in plan journal ≡ [] = drop_all plan.options.turn_limit journal few in verdict_alone plan journal none ∙ ap (verdict_of plan) (run_whole plan journal none)

pub kept_cause : (plan : PlanData) (journal : List Entry) → length journal ≤ plan.options.turn_limit → HasItsCause plan journal
kept_cause plan journal few cause is = absurd (no (sym (none_unfinished plan (run_in plan journal)) ∙ ap (finish_verdict plan (run_in plan journal)) (sym (drop_all plan.options.turn_limit journal few)) ∙ is)) where
  no : verdicts.Unfinished ≡ verdicts.Reverted cause → ⊥
  no same = cc
