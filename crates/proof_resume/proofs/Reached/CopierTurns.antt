-- What each turn of the copier keeps, a rule for every fact of it: where it stays, begins its chunk again, gets another size of chunks, or
-- takes its turn.
use Rattle.std.proofs.Common.{◌≡◌, ℕ, ◌+◌, ◌<◌, Bool, true, false, List, [], ◌∷◌, ◌++◌, length, refl, sym, ap, ◌∙◌, subst}
use Rattle.base_values.specs.ToolNames.{ghost_name}
use Rattle.base_script.specs.declared.actor.Actor.{Actor}
use Rattle.base_script.specs.declared.actor.Actor.TheVariants.{Op, Insp, Copy, Apply, Lock, Ren, Client}
use Rattle.server_model.specs.declared.answer.Answer.{Answer}
use Rattle.server_model.specs.declared.answer.Answer.TheVariants as answers
use Rattle.server_model.specs.declared.entry.Asked.{Asked}
use Rattle.server_model.specs.declared.entry.Asked.TheVariants.{Call, Poll, Command, Cut}
use Rattle.server_model.specs.declared.entry.Entry.{Entry}
use Rattle.server_model.specs.declared.outcome.Progress.TheVariants.{Unfit}
use Rattle.server_model.specs.declared.request.Request.{Request}
use Rattle.server_model.specs.Entries.{is_cut}
use Rattle.plan_data.specs.PlanData.{PlanData}
use Rattle.tool_program.specs.declared.chunk_copier.copier.Copier.{Copier}
use Rattle.tool_program.specs.declared.chunk_copier.copier.CopyStep.TheVariants.{Choosing, Spanning}
use Rattle.tool_program.specs.ChunkCopier.Copiers as copiers
use Rattle.tool_program.specs.ChunkCopier.Copiers.{resized}
use Rattle.tool_program.specs.Programs.{given}
use Rattle.tool_program.specs.Tools.{ToolPhase, SettingUp, Migrating, Tool, Work, is_reverting, moment, stopped}
use Rattle.proof_journals.specs.Plans.{limits_of, scene_of}
use Rattle.proof_journals.specs.Turns.{IsReported, IsSceneRun}
use Rattle.proof_journals.specs.Run.Kept.{IsKept}
use Rattle.proof_journals.specs.Ghost.HeldKeys.{Clustered}
use Rattle.proof_journals.specs.Ghost.Rows.Moments.{Row}
use Rattle.proof_journals.specs.Ghost.Rows.Timelines.{Migration}
use Rattle.proof_journals.proofs.Machine.Journals.{IsRun, IsTogether}
use Rattle.proof_journals.proofs.Ghost.Turns.{along_next, run_front}
use Rattle.proof_migration.specs.ToolPhase.Unaltered.{IsUnaltered}
use Rattle.proof_migration.specs.Migration.Copier.Laws.{IsCopierTurn}
use Rattle.proof_migration.specs.Migration.Machines.{IsCopierTurn as MachineTurn}
use Rattle.proof_migration.specs.Program.Turns.Goes.{Goes}
use Rattle.proof_migration.specs.Program.Turns.Laws.{GoesSomehow, IsMigrationOf}
use Rattle.proof_migration.proofs.ToolPhase.ToolPhaseTurns.{AnswerKeeps, CopyKeeps, DrainKeeps, Kept, ResizeKeeps, TurnKeeps, UnfitKeeps, turn_kept}
use Rattle.proof_migration.proofs.ToolPhase.Unaltered.Away.{IsKnownAsked, all_asked}
use Rattle.proof_migration.proofs.Program.Turns.NextCalls.{CopyAsks, chunks_sized}
use Rattle.proof_migration.proofs.Program.Turns.Takes.{copier_turn, copy_asks}
use Rattle.proof_migration.proofs.Program.Turns.Follows.{kept_front, kept_run, kept_scene}
use Rattle.proof_migration.proofs.Program.Turns.Others.{ghost_named}
use Rattle.proof_migration.proofs.Program.Turns.Sizes.{Sized, same_so, sized_took, spans_so}

-- A RULE OF THE COPIER

module _ (plan : PlanData) (m : Migration) (at : Clustered m.schema) (rows : List Row) (of : IsMigrationOf plan m rows) (journal : List Entry) (entry : Entry) (work : Work) (kept : IsKept plan (journal ++ entry ∷ [])) (off : IsUnaltered plan (journal ++ entry ∷ [])) (tool_phase : (moment plan journal).tool.tool_phase ≡ Migrating work)
    (goes : is_reverting (moment plan journal).tool.reason ≡ false → GoesSomehow plan m at rows journal) (P : Copier → Type 0) (still : P work.copier) (again : P (record work.copier { step = Choosing })) (size_set : (one : Copier) (size : ℕ) → P one → P (resized size one))
    (spans : (one : Copier) (reported old size : ℕ) → 0 < size → one.step ≡ Spanning reported old → P one → P (record one { step = Spanning reported size }))
    (turns : (size : ℕ) (request : Request) → IsCopierTurn m (limits_of plan) (scene_of plan (journal ++ entry ∷ [])) journal entry (resized size work.copier) request → 0 < size → P (copiers.took (length journal + 1) (resized size work.copier) entry.answer)) where
  abbrev more : List Entry
  more = journal ++ entry ∷ []

  abbrev Holds : Kept
  Holds b (SettingUp setup tries) = Unit {0}
  Holds b (Migrating later_work) = P later_work.copier

  before : IsKept plan journal
  before = kept_front plan journal (entry ∷ []) kept

  known : IsKnownAsked plan journal
  known = all_asked plan journal of.runs before.faithful before.follows

  together : IsTogether plan journal
  together = known.marking.tabled.all.tool

  run : IsRun plan journal entry
  run = kept_run plan journal entry kept

  here : (b : Bool) → Holds b (moment plan journal).tool.tool_phase
  here b = subst (Holds b) (sym tool_phase) still

  holds_back : (b : Bool) (one : ToolPhase) → Holds b one → Holds true (stopped one)
  holds_back b (SettingUp setup tries) holds = tt
  holds_back b (Migrating one) holds = holds

  unfit_so : UnfitKeeps Holds work
  unfit_so = record { renamed = λ is. still; reverts = still }

  scene_run : IsSceneRun (limits_of plan) (scene_of plan more) more
  scene_run = kept_scene plan m rows of more kept off

  -- where nothing is reverted the migration goes with this work
  goes_so : is_reverting (moment plan journal).tool.reason ≡ false → Goes plan m at rows journal work
  goes_so going = subst (Goes plan m at rows journal) (let both : Migrating (goes going).work ≡ Migrating work = sym (goes going).tool_phase ∙ tool_phase in cc) (goes going).goes

  sized_from : (one other : Copier) → 0 < one.size → Sized one other → P one → P other
  sized_from one other some (same_so same) is = subst P same is
  sized_from one other some (spans_so reported old here same) is = subst P (sym same) (spans one reported old one.size some here is)

  copy_turns : entry.actor ≡ Copy → is_cut entry.asked ≡ false → is_reverting (moment plan journal).tool.reason ≡ false → ((place number : ℕ) → copiers.progress work.copier entry.answer ≡ Unfit place number → ⊥) → P (copiers.took (length journal + 1) work.copier entry.answer)
  copy_turns same uncut going fits =
      sized_from (resized work.copier.size (copiers.took (length journal + 1) one entry.answer)) (copiers.took (length journal + 1) work.copier entry.answer) (chunks_sized plan m at rows journal entry.asked together work tool_phase going (goes_so going)) (sized_took (length journal + 1) (asks.waits).size work.copier entry.answer)
      (size_set (copiers.took (length journal + 1) one entry.answer) work.copier.size (turns (asks.waits).size is.request turn (asks.waits).some)) where
        asks : CopyAsks plan journal entry.asked work.copier
        asks = copy_asks plan m at rows of journal entry kept off work tool_phase going (goes_so going) same uncut

        one : Copier
        one = resized (asks.waits).size work.copier

        is : MachineTurn m (limits_of plan) (scene_of plan more) journal entry one entry.session
        is = copier_turn plan m at rows of journal entry kept off work tool_phase going (goes_so going) same uncut fits

        turn : IsCopierTurn m (limits_of plan) (scene_of plan more) journal entry one is.request
        turn = record {
          run = run_front (limits_of plan) (scene_of plan more) journal (entry ∷ []) scene_run;
          more = scene_run;
          reported = along_next (IsReported (limits_of plan) (scene_of plan more)) [] journal entry [] scene_run.reported;
          table = is.table;
          new_name = ghost_named plan m of.of ∙ ap ghost_name (sym of.of.name);
          map = is.map;
          asked = is.asked;
          tool = is.tool;
          given = is.given;
          uncut = is.uncut;
          fits = is.fits;
        }

  abbrev counted : Tool
  counted = record (moment plan journal).tool { turns = (moment plan journal).tool.turns + 1 }

  turns_are : counted.turns ≡ length journal + 1
  turns_are = ap (λ (n : ℕ). n + 1) together.turns

  lost_took : (n : ℕ) → P (copiers.took n work.copier answers.Lost)
  unfolding copiers.took
  lost_took n = again

  by_actor : (answer : Answer) (actor : Actor) → (actor ≡ Copy → CopyKeeps Holds answer counted work) → AnswerKeeps plan Holds answer counted actor (Migrating work)
  by_actor answer Insp copies = λ tries. still
  by_actor answer Copy copies = copies refl
  by_actor answer Apply copies = record { reverting = λ is. still; unfit = λ going place number is. unfit_so; took = λ going fits tries. still }
  by_actor answer Lock copies = λ tries. still
  by_actor answer Ren copies = λ tries. still
  by_actor answer Op copies = still
  by_actor answer (Client client) copies = still

  no_cut : (asked : Asked) → (asked ≡ Cut → ⊥) → is_cut asked ≡ false
  no_cut Cut uncut = absurd (uncut refl)
  no_cut (Call request) uncut = refl
  no_cut Poll uncut = refl
  no_cut (Command word) uncut = refl

  turned : TurnKeeps plan Holds (moment plan journal).server entry counted
  turned =
      record {
        commanded = λ word asks unsized. here (is_reverting (moment plan journal).tool.reason);
        resized = λ size asks. subst (ResizeKeeps Holds counted size) (sym tool_phase) (size_set work.copier size still);
        idle = λ asks rests. here (is_reverting (moment plan journal).tool.reason);
        lost = λ asks worked. subst (AnswerKeeps plan Holds answers.Lost counted entry.actor) (sym tool_phase)
            (by_actor answers.Lost entry.actor (λ same. record { reverting = λ is. still; unfit = λ going place number is. unfit_so; took = λ going fits tries. lost_took counted.turns }));
        heard = λ uncut uncommanded. subst (AnswerKeeps plan Holds entry.answer counted entry.actor) (sym tool_phase)
            (by_actor entry.answer entry.actor (λ same. record {
              reverting = λ is. still;
              unfit = λ going place number is. unfit_so;
              took = λ going fits tries. subst (λ (n : ℕ). P (copiers.took n work.copier entry.answer)) (sym turns_are) (copy_turns same (no_cut entry.asked uncut) going fits);
            }));
      }

  drained : DrainKeeps Holds
  drained b one tries holds = holds

  -- *What each turn of the copier keeps*
  pub copier_keeps : (then_work : Work) → (moment plan (journal ++ entry ∷ [])).tool.tool_phase ≡ Migrating then_work → P then_work.copier
  copier_keeps then_work then_tool_phase = subst (Holds (is_reverting (moment plan (journal ++ entry ∷ [])).tool.reason)) then_tool_phase (turn_kept plan Holds holds_back journal entry drained turned)
