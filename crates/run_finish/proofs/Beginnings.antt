-- The beginning of a run that is finished.
use Rattle.std.proofs.Common.{◌≡◌, ℕ, false, not, List, [], ◌∷◌, length, take, drop, cond, Option, Some, None, refl, sym, ap, ◌∙◌, subst, arith}
use Rattle.std.specs.Prelude.{is_some}
use Rattle.base_script.specs.declared.actor.Actor.{Actor}
use Rattle.table_store.specs.Databases.{Database, has_table}
use Rattle.server_model.specs.declared.entry.Entry.{Entry}
use Rattle.server_model.specs.States.{State}
use Rattle.plan_data.specs.PlanData.{PlanData}
use Rattle.tool_finish.specs.Callable.{IsFinishable}
use Rattle.tool_finish.specs.Checkpoints.{is_migrating}
use Rattle.tool_finish.specs.declared.stage.Stage.TheVariants.{Losing, Listing}
use Rattle.tool_finish.specs.Finishes.{losing, stage_behind, IsFinish}
use Rattle.tool_program.specs.JournalWords.Journals.{state_at}
use Rattle.tool_program.specs.Tools as program
use Rattle.tool_program.specs.Tools.{moment}
use Rattle.tool_program.specs.declared.tool_setup.setup.Setup.{Setup}
use Rattle.tool_state.specs.ToolState.Meanings.{tool_phase_in}
use Rattle.proof_journals.specs.Run.Counts.{IsAfter}
use Rattle.run_state.specs.declared.run_state.RunState.{RunState}
use Rattle.run_state.specs.Books.{IsRunState}
use Rattle.run_turns.specs.RunTurns.Invariants.{IsRun}
use Rattle.run_turns.proofs.RunTurns.Served.{run_state_counts, tables_after}
use Rattle.run_finish.specs.declared.sessions.LiveSession.{LiveSession}
use Rattle.run_finish.specs.Sessions.{sessions_at, first_stage}
use Rattle.run_finish.specs.Invariants.{IsGoing}
use Rattle.run_finish.proofs.LiveOnes.{first_is}

-- WHETHER THERE IS A CHECKPOINT

phase_migrates : (setup : Option Setup) (tries : List ℕ) (work : program.Work) → is_migrating (tool_phase_in setup tries work) ≡ not (is_some setup)
phase_migrates None tries work = refl
phase_migrates (Some setup) tries work = refl

pub migrating_is : (plan : PlanData) (journal : List Entry) (run_state : RunState) → IsRunState plan journal run_state → is_migrating (moment plan journal).tool.tool_phase ≡ not (is_some run_state.tool.setup)
migrating_is plan journal run_state kept = ap (λ (t : program.Tool). is_migrating t.tool_phase) (sym kept.tool) ∙ phase_migrates run_state.tool.setup _ _

pub exists_is : (plan : PlanData) (journal : List Entry) (server : State) (tables : Database) (name : List ℕ) → IsAfter (state_at plan journal) server → tables ≡ server.tables → has_table name tables ≡ has_table name (state_at plan journal).tables
exists_is plan journal server tables name following is = ap (has_table name) (is ∙ tables_after (state_at plan journal) server following)

-- WHAT HOLDS AT FIRST

take_all : {E : Type 0} (all : List E) → take (length all) all ≡ all
take_all [] = refl
take_all (first ∷ all) = ap (λ more. first ∷ more) (take_all all)

drop_all : {E : Type 0} (all : List E) → drop (length all) all ≡ []
drop_all [] = refl
drop_all (first ∷ all) = drop_all all

stage_first : (plan : PlanData) (journal : List Entry) (live : List LiveSession) → live ≡ sessions_at plan journal → first_stage live ≡ losing plan journal
stage_first plan journal live is = ap first_stage is ∙ ap (λ (first : Option Actor). cond (is_some first) Losing Listing) (first_is plan journal)

stage_begins : (plan : PlanData) (journal : List Entry) → losing plan journal ≡ stage_behind plan journal []
unfolding stage_behind
stage_begins plan journal = refl

finish_begins : (plan : PlanData) (journal : List Entry) → IsFinish plan journal []
unfolding IsFinish
finish_begins plan journal = tt

pub begins : (plan : PlanData) (journal : List Entry) (run_state : RunState) (made : ℕ) (server : State) (live : List LiveSession) → IsRun plan journal run_state made server → IsFinishable plan journal → live ≡ sessions_at plan journal
    → IsGoing plan (length journal) journal run_state.names live (record { load = run_state.load; busy = run_state.busy }) made (first_stage live) false server
begins plan journal run_state made server live run finishable is = record {
  finishable = subst (IsFinishable plan) (sym (take_all journal)) finishable;
  bound = omega arith;
  finish = subst (λ (ran : List Entry). IsFinish plan ran (drop (length journal) journal)) (sym (take_all journal)) (subst (IsFinish plan journal) (sym (drop_all journal)) (finish_begins plan journal));
  faithful = run.kept.faithful;
  kept = run.kept.sessions;
  following = run.server;
  names = run.run_state.names;
  sessions = is;
  counts = run_state_counts plan journal run_state made server (record { load = run_state.load; busy = run_state.busy }) run refl refl;
  made = run.made;
  stage = stage_first plan journal live is ∙ stage_begins plan journal ∙ ap (stage_behind plan journal) (sym (drop_all journal)) ∙ ap (λ (ran : List Entry). stage_behind plan ran (drop (length journal) journal)) (sym (take_all journal));
}
