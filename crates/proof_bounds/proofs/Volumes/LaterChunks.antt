-- After the RENAME, which is done where all rows are copied, no chunk is begun.
use Rattle.std.proofs.Common.{◌≡◌, ◌≤◌, ℕ, ◌+◌, Bool, true, false, cond, ◌||◌, List, [], ◌∷◌, ◌++◌, Some, None, refl, sym, ap, ◌∙◌, subst}
use Rattle.std.specs.List.{list_any}
use Rattle.std.proofs.lemmas.Bool.{false≢true, true≢false}
use Rattle.base_script.specs.declared.actor.Actor.{Actor}
use Rattle.base_script.specs.declared.actor.Actor.TheVariants.{Op, Insp, Copy, Apply, Lock, Ren, Client}
use Rattle.server_model.specs.declared.answer.Answer.{Answer}
use Rattle.server_model.specs.declared.answer.Answer.TheVariants as answers
use Rattle.server_model.specs.declared.entry.Asked.TheVariants.{Cut}
use Rattle.server_model.specs.declared.entry.Entry.{Entry}
use Rattle.plan_data.specs.PlanData.{PlanData}
use Rattle.tool_program.specs.declared.cutover_core.cutover.Role.{Role}
use Rattle.tool_program.specs.declared.cutover_core.cutover.Role.TheVariants.{Inspector, Locker, Renamer}
use Rattle.tool_program.specs.ChunkCopier.Copiers as copiers
use Rattle.tool_program.specs.JournalWords.Bounds.{events, measures}
use Rattle.tool_program.specs.JournalWords.Histories.{entry_adds, history, is_alter}
use Rattle.tool_program.specs.JournalWords.Journals.{state_at}
use Rattle.tool_program.specs.Programs.{given}
use Rattle.tool_program.specs.Tools.{Tool, ToolPhase, Migrating, SettingUp, Work, is_reverting, moment, stopped}
use Rattle.proof_journals.specs.Machine.MigrationTables.{ToolPhaseTables, WorkTables}
use Rattle.proof_journals.specs.Machine.Runnable.{IsRunnable}
use Rattle.proof_journals.specs.Machine.Standings.{standing_of}
use Rattle.proof_journals.specs.Plans.{IsSerialPlan}
use Rattle.proof_journals.specs.Run.Kept.{IsKept}
use Rattle.proof_journals.specs.ServerTurns.Others.{DefinitionsAreDone, ExclusiveIsAlone}
use Rattle.proof_journals.proofs.Machine.Journals.{Asking, asking, calls_so, polls_so}
use Rattle.proof_journals.proofs.Machine.Marks.{history_more, is_marked}
use Rattle.proof_migration.specs.CutOver.{JournalsAreTurned}
use Rattle.proof_migration.specs.ToolPhase.Waits.{WaitsAreReported}
use Rattle.proof_migration.proofs.CutOver.Renames.{Found, renames_found}
use Rattle.proof_migration.proofs.Migration.Copier.Knowing.{asks_at}
use Rattle.proof_migration.proofs.ToolPhase.ToolPhaseTurns.{AnswerKeeps, ApplyKeeps, CopyKeeps, CutKeeps, DrainKeeps, Kept, ResizeKeeps, gives_asked, turn_kept}
use Rattle.proof_migration.proofs.Program.Turns.NextCalls.{copy_next}
use Rattle.proof_migration.proofs.Unfit.Grounds.{lost_copies}
use Rattle.proof_migration.proofs.Unfit.Known.{IsKnownTurn, known_turn}
use Rattle.proof_migration.proofs.KeptJournals.{each_kept}
use Rattle.proof_bounds.specs.Volumes.Laws.{ChunksStayFew}
use Rattle.proof_bounds.proofs.Volumes.ChunkCounts.{chunks_few}

-- at most this many chunks are numbered
abbrev most_of : PlanData → ℕ
most_of plan = (measures plan).rows + events (measures plan)

abbrev FewIn : PlanData → ToolPhase → Type 0
FewIn plan (SettingUp setup tries) = Unit {0}
FewIn plan (Migrating work) = work.copier.number ≤ most_of plan + cond work.copier.is_copied 1 0

-- all is copied
abbrev CopiedIn : ToolPhase → Type 0
CopiedIn (SettingUp setup tries) = ⊥
CopiedIn (Migrating work) = work.copier.is_copied ≡ true

record StaysFew (plan : PlanData) (journal : List Entry) : Type 0 where
  few : FewIn plan (moment plan journal).tool.tool_phase
  copied : is_marked plan journal ≡ true → CopiedIn (moment plan journal).tool.tool_phase

-- ONE TURN WHERE ALL IS COPIED

module _ (plan : PlanData) (runs : IsRunnable plan) (journal : List Entry) (entry : Entry) (kept : IsKept plan (journal ++ entry ∷ [])) (was : CopiedIn (moment plan journal).tool.tool_phase × FewIn plan (moment plan journal).tool.tool_phase) where
  abbrev tool : Tool
  tool = record (moment plan journal).tool { turns = (moment plan journal).tool.turns + 1 }

  abbrev New : Kept
  New reverting tool_phase = CopiedIn tool_phase × FewIn plan tool_phase

  turn : IsKnownTurn plan journal entry
  turn = known_turn plan runs journal entry kept

  back : (reverting : Bool) (tool_phase : ToolPhase) → New reverting tool_phase → New true (stopped tool_phase)
  back reverting (SettingUp setup tries) is = is
  back reverting (Migrating work) is = is

  drained_so : DrainKeeps New
  drained_so reverting work tries is = is

  at_work : (work : Work) → (moment plan journal).tool.tool_phase ≡ Migrating work → (reverting : Bool) → New reverting (Migrating work)
  at_work work eq reverting = subst (λ (c : ToolPhase). CopiedIn c × FewIn plan c) eq was

  at_phase : (tool_phase : ToolPhase) → (moment plan journal).tool.tool_phase ≡ tool_phase → (reverting : Bool) → New reverting tool_phase
  at_phase tool_phase eq reverting = subst (λ (c : ToolPhase). CopiedIn c × FewIn plan c) eq was

  -- the copier has no turn, unless all is reverted
  never_asks : (work : Work) → (moment plan journal).tool.tool_phase ≡ Migrating work → entry.actor ≡ Copy → (entry.asked ≡ Cut → ⊥) → is_reverting tool.reason ≡ false → ⊥
  unfolding given
  never_asks work eq same uncut going = by (asking plan journal Copy entry.asked turn.together.server (subst (λ (a : Actor). given plan journal a ≡ Some entry.asked) same (gives_asked plan journal entry entry.asked turn.run.followed.given refl uncut))) where
    copied : work.copier.is_copied ≡ true
    copied = (at_work work eq true).0

    tables : WorkTables plan (state_at plan journal).tables (standing_of plan journal) work
    tables = subst (ToolPhaseTables plan (state_at plan journal).tables (standing_of plan journal)) eq turn.known.marking.tabled.tables

    by : Asking plan journal Copy entry.asked → ⊥
    by (calls_so request asks idle call) =
        true≢false (sym copied ∙ (asks_at journal work.copier request (copy_next plan journal work eq going request call)).going)
    by (polls_so request asks some) = no (sym (tables.copied copied) ∙ some) where
      no : None ≡ Some request → ⊥
      no both = cc

  copy_heard : (work : Work) → (moment plan journal).tool.tool_phase ≡ Migrating work → entry.actor ≡ Copy → (entry.asked ≡ Cut → ⊥) → CopyKeeps New entry.answer tool work
  copy_heard work eq same uncut = record { reverting = λ is. at_work work eq true; unfit = λ going place number is. absurd (never_asks work eq same uncut going); took = λ going fits tries. absurd (never_asks work eq same uncut going) }

  copy_lost : (work : Work) → (moment plan journal).tool.tool_phase ≡ Migrating work → CopyKeeps New answers.Lost tool work
  unfolding copiers.took copiers.progress
  copy_lost work eq = record { reverting = λ is. at_work work eq true; unfit = λ going place number is. absurd (lost_copies work.copier.step place number is); took = λ going fits tries. at_work work eq false }

  apply_so : (answer : Answer) (work : Work) → (moment plan journal).tool.tool_phase ≡ Migrating work → ApplyKeeps New answer tool work
  apply_so answer work eq = record { reverting = λ is. at_work work eq true; unfit = λ going place number is. record { renamed = λ done. at_work work eq false; reverts = at_work work eq true }; took = λ going fits tries. at_work work eq false }

  cut_so : (answer : Answer) (role : Role) (work : Work) → (moment plan journal).tool.tool_phase ≡ Migrating work → CutKeeps New answer tool role work
  cut_so answer role work eq tries = at_work work eq (is_reverting tool.reason)

  never_setup : (setup : _) (tries : List ℕ) → (moment plan journal).tool.tool_phase ≡ SettingUp setup tries → ⊥
  never_setup setup tries eq = subst CopiedIn eq was.0

  answer_so : (answer : Answer) (actor : Actor) → entry.actor ≡ actor → (tool_phase : ToolPhase) → (moment plan journal).tool.tool_phase ≡ tool_phase → ((work : Work) → (moment plan journal).tool.tool_phase ≡ Migrating work → entry.actor ≡ Copy → CopyKeeps New answer tool work) → AnswerKeeps plan New answer tool actor tool_phase
  answer_so answer Insp same (SettingUp setup tries) eq copy = absurd (never_setup setup tries eq)
  answer_so answer Insp same (Migrating work) eq copy = cut_so answer Inspector work eq
  answer_so answer Lock same (Migrating work) eq copy = cut_so answer Locker work eq
  answer_so answer Ren same (Migrating work) eq copy = cut_so answer Renamer work eq
  answer_so answer Copy same (Migrating work) eq copy = copy work eq same
  answer_so answer Apply same (Migrating work) eq copy = apply_so answer work eq
  answer_so answer Lock same (SettingUp setup tries) eq copy = absurd (never_setup setup tries eq)
  answer_so answer Ren same (SettingUp setup tries) eq copy = absurd (never_setup setup tries eq)
  answer_so answer Copy same (SettingUp setup tries) eq copy = absurd (never_setup setup tries eq)
  answer_so answer Apply same (SettingUp setup tries) eq copy = absurd (never_setup setup tries eq)
  answer_so answer Op same tool_phase eq copy = at_phase tool_phase eq (is_reverting tool.reason)
  answer_so answer (Client c) same tool_phase eq copy = at_phase tool_phase eq (is_reverting tool.reason)

  resize_so : (size : ℕ) (tool_phase : ToolPhase) → New (is_reverting tool.reason) tool_phase → ResizeKeeps New tool size tool_phase
  resize_so size (SettingUp setup tries) is = is
  resize_so size (Migrating work) is = is

  copied_more : New (is_reverting (moment plan (journal ++ entry ∷ [])).tool.reason) (moment plan (journal ++ entry ∷ [])).tool.tool_phase
  copied_more = turn_kept plan New back journal entry drained_so (record {
    commanded = λ word asks unsized. was;
    resized = λ size asks. resize_so size (moment plan journal).tool.tool_phase was;
    idle = λ cut none. was;
    lost = λ cut worked. answer_so answers.Lost entry.actor refl (moment plan journal).tool.tool_phase refl (λ work eq same. copy_lost work eq);
    heard = λ uncut uncommanded. answer_so entry.answer entry.actor refl (moment plan journal).tool.tool_phase refl (λ work eq same. copy_heard work eq same uncut);
  })

-- EVERY JOURNAL

module _ (alone : ExclusiveIsAlone) (done : DefinitionsAreDone) (reported : WaitsAreReported) (turned : JournalsAreTurned) (plan : PlanData) (runs : IsRunnable plan) (serial : IsSerialPlan plan) where
  -- until the RENAME is done
  unaltered_few : (journal : List Entry) → IsKept plan journal → is_marked plan journal ≡ false → StaysFew plan journal
  unaltered_few journal kept off = record { few = by (moment plan journal).tool.tool_phase refl; copied = λ marked. absurd (false≢true (sym off ∙ marked)) } where
    by : (tool_phase : ToolPhase) → (moment plan journal).tool.tool_phase ≡ tool_phase → FewIn plan tool_phase
    by (SettingUp setup tries) eq = tt
    by (Migrating work) eq = chunks_few plan journal work runs serial kept off eq

  -- the RENAME finds all copied
  found_copied : (journal : List Entry) (entry : Entry) → IsKept plan (journal ++ entry ∷ []) → is_marked plan (journal ++ entry ∷ []) ≡ true → StaysFew plan journal → CopiedIn (moment plan journal).tool.tool_phase
  found_copied journal entry kept marked was = by (is_marked plan journal) refl where
    by : (b : Bool) → is_marked plan journal ≡ b → CopiedIn (moment plan journal).tool.tool_phase
    by true is = was.copied is
    by false off =
        let alters : list_any is_alter (entry_adds plan journal entry) ≡ true = sym (ap (λ (b : Bool). b || list_any is_alter (entry_adds plan journal entry)) off) ∙ sym (history_more plan journal entry) ∙ marked in
        let found : Found plan journal entry = renames_found alone done reported turned plan journal entry runs serial (record { kept = kept; unaltered = off; alters = alters }) in
        subst CopiedIn (sym found.tool_phase) found.whole.copied

  stays_more : (journal : List Entry) (entry : Entry) → IsKept plan (journal ++ entry ∷ []) → StaysFew plan journal → StaysFew plan (journal ++ entry ∷ [])
  stays_more journal entry kept was = by (is_marked plan (journal ++ entry ∷ [])) refl where
    by : (b : Bool) → is_marked plan (journal ++ entry ∷ []) ≡ b → StaysFew plan (journal ++ entry ∷ [])
    by false off = unaltered_few (journal ++ entry ∷ []) kept off
    by true marked =
        let next = copied_more plan runs journal entry kept (found_copied journal entry kept marked was, was.few) in
        record { few = next.1; copied = λ is. next.0 }

  all_few : (journal : List Entry) → IsKept plan journal → StaysFew plan journal
  unfolding history moment
  all_few journal kept = each_kept plan (StaysFew plan) stays_more journal kept (record { few = tt; copied = λ marked. absurd (false≢true marked) })

-- *Chunks stay few*
pub stay_few : ExclusiveIsAlone → DefinitionsAreDone → WaitsAreReported → JournalsAreTurned → ChunksStayFew
stay_few alone done reported turned plan journal work runs serial kept eq = subst (FewIn plan) eq (all_few alone done reported turned plan runs serial journal kept).few
