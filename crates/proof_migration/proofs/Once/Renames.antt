-- The RENAME is done once at most, in every journal that is kept.
use Rattle.std.proofs.Common.{◌≡◌, ℕ, Bool, true, false, ◌||◌, List, [], ◌∷◌, ◌++◌, Option, Some, None, refl, sym, ap, ◌∙◌, subst, append_assoc}
use Rattle.std.specs.List.{list_any}
use Rattle.std.proofs.lemmas.Bool.{true≢false}
use Rattle.std.proofs.lemmas.Option.{none-some}
use Rattle.table_store.specs.declared.renames.Pair.{Pair}
use Rattle.base_script.specs.declared.actor.Actor.{Actor}
use Rattle.base_script.specs.declared.actor.Actor.TheVariants.{Apply, Client, Copy, Insp, Lock, Op, Ren}
use Rattle.server_model.specs.Along.{Along}
use Rattle.server_model.specs.Entries.{is_client, same_actor}
use Rattle.server_model.specs.declared.answer.Answer.{Answer}
use Rattle.server_model.specs.declared.answer.Answer.TheVariants as answers
use Rattle.server_model.specs.declared.entry.Asked.{Asked}
use Rattle.server_model.specs.declared.entry.Asked.TheVariants.{Call, Poll, Command, Cut}
use Rattle.server_model.specs.declared.entry.Entry.{Entry}
use Rattle.server_model.specs.declared.request.Request.{Request}
use Rattle.server_model.specs.declared.request.Request.TheVariants as requests
use Rattle.plan_data.specs.PlanData.{PlanData}
use Rattle.tool_program.specs.CutoverCore.Attempts.{exchange}
use Rattle.tool_program.specs.CutoverCore.CutOvers.{is_done}
use Rattle.tool_program.specs.declared.cutover_core.cutover.Clearing.TheVariants.{Drops, Looking}
use Rattle.tool_program.specs.declared.cutover_core.cutover.Phase.{Phase}
use Rattle.tool_program.specs.declared.cutover_core.cutover.Phase.TheVariants.{Attempting, Ending, Finished, Finishing, Resting}
use Rattle.tool_program.specs.declared.cutover_core.cutover.Stage.TheVariants.{Hinting, SettingCounter}
use Rattle.tool_program.specs.JournalWords.Histories as histories
use Rattle.tool_program.specs.JournalWords.Histories.{alters, entry_adds, is_alter, answer_in}
use Rattle.tool_program.specs.JournalWords.Journals.{state_at}
use Rattle.tool_program.specs.Programs.{IsGiven, given, tool_call}
use Rattle.tool_program.specs.Tools.{ToolPhase, Migrating, SettingUp, is_reverting, moment}
use Rattle.proof_journals.specs.Plans.{IsSerialPlan}
use Rattle.proof_journals.specs.ServerTurns.Others.{DefinitionsAreDone, takes_names}
use Rattle.proof_journals.specs.Run.Kept.{IsKept}
use Rattle.run_actors.proofs.AlterTurns.{of_client}
use Rattle.proof_journals.specs.Machine.Machines.{ToolPhaseStands, SetupStands}
use Rattle.proof_journals.specs.Machine.Runnable.{IsRunnable}
use Rattle.proof_journals.specs.Machine.Standings.{Standing, standing_of}
use Rattle.proof_journals.proofs.Machine.Journals.{Asking, IsRun, asking, calls_so, never_commands, polls_so}
use Rattle.proof_journals.proofs.Machine.Marks.{history_more}
use Rattle.proof_journals.proofs.Machine.Seated.{others_stand}
use Rattle.proof_migration.specs.ToolPhase.Unaltered.{IsUnaltered}
use Rattle.proof_migration.proofs.ToolPhase.Unaltered.Away.{IsKnownAsked, about_asked, all_asked, tool_adds}
use Rattle.proof_migration.proofs.Program.Turns.Follows.{kept_front, kept_run, unmarked_now}
use Rattle.proof_migration.proofs.Program.InspectorTurns.Fitting.{WaitsAt}
use Rattle.proof_migration.proofs.Program.InspectorTurns.Keeping.{ToolPhaseFits, all_fit}
use Rattle.proof_migration.proofs.Once.Past.{GoesPast, IsPast, NoMake, goes_past, makes, past_with, rename_frees}

-- BEHIND THE FIRST

-- until the RENAME is done the inspector waits to make no table
waits_none : (waits : Option Request) (table : List ℕ) (attempt : ℕ) (phase : Phase) → is_done phase ≡ false → WaitsAt waits table attempt phase → NoMake waits
waits_none None table attempt phase undone at = tt
waits_none (Some request) table attempt (Attempting Hinting) undone at = ap makes at
waits_none (Some request) table attempt (Attempting (SettingCounter number drain)) undone at = ap makes at
waits_none (Some request) table attempt (Attempting stage) undone at = absurd at
waits_none (Some request) table attempt Resting undone at = absurd at
waits_none (Some request) table attempt (Ending Looking) undone at = by request at where
  by : (request : Request) → takes_names request ≡ false → makes request ≡ false
  by (requests.Create schema) off = absurd (true≢false off)
  by request off = refl
waits_none (Some request) table attempt (Ending (Drops left)) undone at = ap makes at
waits_none (Some request) table attempt (Finishing clearing) undone at = absurd (true≢false undone)
waits_none (Some request) table attempt Finished undone at = absurd (true≢false undone)

module _ (definitions_are_done : DefinitionsAreDone) (plan : PlanData) (journal : List Entry) (entry : Entry) (runs : IsRunnable plan) (serial : IsSerialPlan plan) (kept : IsKept plan (journal ++ entry ∷ [])) (off : IsUnaltered plan journal) (alters_now : list_any is_alter (entry_adds plan journal entry) ≡ true) where
  abbrev has : Actor → Standing
  has = standing_of plan journal

  before : IsKept plan journal
  before = kept_front plan journal (entry ∷ []) kept

  known : IsKnownAsked plan journal
  known = all_asked plan journal runs before.faithful before.follows

  run : IsRun plan journal entry
  run = kept_run plan journal entry kept

  tool : is_client entry.actor ≡ false
  tool = by entry.actor alters_now where
    by : (actor : Actor) → list_any is_alter (histories.adds plan journal entry actor) ≡ true → is_client actor ≡ false
    by (Client number) is = absurd (true≢false (sym is ∙ of_client plan journal entry number))
    by Op is = refl
    by Insp is = refl
    by Copy is = refl
    by Apply is = refl
    by Lock is = refl
    by Ren is = refl

  pub record Renaming : Type 0 where
    pub pairs : List Pair
    pub is_about : histories.about journal entry ≡ Some (requests.Rename pairs)
    pub count : ℕ
    pub is_reported : answer_in entry.asked entry.side entry.answer entry.missed ≡ Some (answers.Ok count)

  pub renaming : Renaming
  renaming = by (histories.about journal entry) (answer_in entry.asked entry.side entry.answer entry.missed) refl refl (ap (list_any is_alter) (sym (tool_adds plan serial journal entry runs.fitting known run tool entry.actor tool)) ∙ alters_now) where
    by : (request : Option Request) (reported : Option Answer) → histories.about journal entry ≡ request → answer_in entry.asked entry.side entry.answer entry.missed ≡ reported → list_any is_alter (alters plan request reported) ≡ true → Renaming
    by (Some (requests.Rename pairs)) (Some (answers.Ok count)) is reported alter = record { pairs = pairs; is_about = is; count = count; is_reported = reported }
    by request (Some (answers.Ok count)) is reported alter = absurd cc
    by request reported is statement_result alter = absurd cc

  pub exchanges : (entry.actor ≡ Ren) × (requests.Rename renaming.pairs ≡ exchange plan.table)
  exchanges = about_asked plan serial journal entry runs.fitting known run tool (requests.Rename renaming.pairs) renaming.is_about

  asks_now : Asking plan journal Ren entry.asked
  unfolding given
  asks_now = asking plan journal Ren entry.asked known.marking.tabled.all.tool.server (by entry.asked refl run.followed.given) where
    by : (asked : Asked) → entry.asked ≡ asked → IsGiven plan journal entry asked → given plan journal Ren ≡ Some entry.asked
    by (Call request) asks gives = subst (λ (a : Actor). given plan journal a ≡ Some entry.asked) exchanges.0 (gives ∙ ap Some (sym asks))
    by Poll asks gives = subst (λ (a : Actor). given plan journal a ≡ Some entry.asked) exchanges.0 (gives ∙ ap Some (sym asks))
    by (Command word) asks gives = absurd (never_commands plan journal Ren word (subst (λ (a : Actor). given plan journal a ≡ Some (Command word)) exchanges.0 gives))
    by Cut asks gives = absurd (no (sym (ap (λ (a : Asked). answer_in a entry.side entry.answer entry.missed) asks) ∙ renaming.is_reported)) where
      no : None ≡ Some (answers.Ok renaming.count) → ⊥
      no same = cc

  past_now : (tool_phase : ToolPhase) → (moment plan journal).tool.tool_phase ≡ tool_phase → IsPast plan (journal ++ entry ∷ [])
  past_now (Migrating work) tool_phase =
      past_with plan journal entry work tool_phase (
        rename_frees definitions_are_done plan journal entry serial runs known run work tool_phase asks_now exchanges.0 renaming.count renaming.is_reported,
        subst (λ (s : Standing). NoMake s.waits) (sym (others_stand plan journal entry known.marking.tabled.all.tool.known (record { answered = run.answered; seated = record { session = run.followed.session } }) Insp (ap (λ (a : Actor). same_actor a Insp) exchanges.0)))
            (waits_none (has Insp).waits work.cutover.table work.cutover.attempts work.cutover.phase (unmarked_now plan journal work known off tool_phase).undone.undone
            (subst (ToolPhaseFits plan (state_at plan journal).tables (has Insp).waits) tool_phase (all_fit plan journal runs serial before off)).waits),
      )
  past_now (SettingUp setup tries) tool_phase = absurd (setting asks_now) where
    stands : SetupStands has
    stands = subst (ToolPhaseStands journal has (is_reverting (moment plan journal).tool.reason)) tool_phase known.marking.tabled.all.tool.stands

    setting : Asking plan journal Ren entry.asked → ⊥
    setting (calls_so request asks idle call) = none-some request (ap (λ (c : ToolPhase). tool_call plan (moment plan journal).server journal (moment plan journal).tool c Ren) (sym tool_phase) ∙ call)
    setting (polls_so request asks some) = none-some request (sym (ap (λ (s : Standing). s.waits) stands.renamer) ∙ some)

-- *Behind the RENAME*
pub renamed_past : DefinitionsAreDone → (plan : PlanData) (journal : List Entry) (entry : Entry) → IsRunnable plan → IsSerialPlan plan → IsKept plan (journal ++ entry ∷ []) → IsUnaltered plan journal → list_any is_alter (entry_adds plan journal entry) ≡ true → IsPast plan (journal ++ entry ∷ [])
renamed_past done plan journal entry runs serial kept off alters_now = past_now done plan journal entry runs serial kept off alters_now (moment plan journal).tool.tool_phase refl

-- WHOLE JOURNALS

-- an unaltered journal with one entry more
pub unaltered_more : (plan : PlanData) (journal : List Entry) (entry : Entry) → IsUnaltered plan journal → list_any is_alter (entry_adds plan journal entry) ≡ false → IsUnaltered plan (journal ++ entry ∷ [])
unaltered_more plan journal entry off none = history_more plan journal entry ∙ ap (λ (b : Bool). b || list_any is_alter (entry_adds plan journal entry)) off ∙ none

-- turn by turn: the ALTER is where it wasn't before
abbrev pub IsFirst : PlanData → List Entry → Entry → Type 0
IsFirst plan before one = list_any is_alter (entry_adds plan before one) ≡ true → IsUnaltered plan before

module _ (definitions_are_done : DefinitionsAreDone) (plan : PlanData) (runs : IsRunnable plan) (serial : IsSerialPlan plan) where
  -- behind the RENAME
  pub past_along : (Each : List Entry → Entry → Type 0) → ((before : List Entry) (one : Entry) → (list_any is_alter (entry_adds plan before one) ≡ true → ⊥) → Each before one) → (some journal : List Entry) → IsKept plan (some ++ journal) → IsPast plan some → Along Each some journal
  past_along Each vacuous some [] kept past = tt
  past_along Each vacuous some (entry ∷ journal) kept past =
      let later : IsKept plan ((some ++ entry ∷ []) ++ journal) = subst (IsKept plan) (sym (append_assoc some (entry ∷ []) journal)) kept in
      let front : IsKept plan (some ++ entry ∷ []) = kept_front plan (some ++ entry ∷ []) journal later in
      let before : IsKept plan some = kept_front plan some (entry ∷ []) front in
      let goes : GoesPast plan some entry = goes_past definitions_are_done plan some entry serial runs (all_asked plan some runs before.faithful before.follows) (kept_run plan some entry front) past in
      (vacuous some entry goes.unaltered, past_along Each vacuous (some ++ entry ∷ []) journal later goes.past)
