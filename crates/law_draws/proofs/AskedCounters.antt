-- What is asked of the new table's counter: it is set to a number that is small, and the table is made with a counter that is small.
use Rattle.std.proofs.Common.{◌≡◌, ℕ, ◌≤◌, Bool, true, false, ◌&&◌, cond, not, List, Option, Some, None, refl, sym, ap, ◌∙◌, subst}
use Rattle.std.specs.List.{slice_get}
use Rattle.std.specs.Str.{bytes_eq}
use Rattle.std.proofs.lemmas.Bool.{true≢false}
use Rattle.base_values.specs.declared.gho_schema.schema.Schema.{Schema}
use Rattle.base_values.specs.ToolNames.{ghost_name, log_name, old_name}
use Rattle.base_script.specs.declared.actor.Actor.{Actor}
use Rattle.base_script.specs.declared.actor.Actor.TheVariants.{Op, Insp, Copy, Apply, Lock, Ren, Client}
use Rattle.base_script.specs.declared.script.ScriptWord.{ScriptWord}
use Rattle.base_script.specs.declared.script.ScriptWord.TheVariants as words
use Rattle.server_model.specs.declared.entry.Asked.TheVariants.{Call, Poll}
use Rattle.server_model.specs.declared.entry.Entry.{Entry}
use Rattle.server_model.specs.declared.request.Request.{Request}
use Rattle.server_model.specs.declared.request.Request.TheVariants as requests
use Rattle.server_model.proofs.LockedRows.Tests.{turned_bytes}
use Rattle.plan_data.specs.PlanData.{PlanData, new_schema}
use Rattle.tool_changelog.specs.ToolTables.{log_schema, sentry_schema}
use Rattle.tool_program.specs.CutoverCore.Attempts as attempts
use Rattle.tool_program.specs.CutoverCore.CutOvers.{is_resting}
use Rattle.tool_program.specs.ChunkCopier.Copiers as copiers
use Rattle.tool_program.specs.declared.chunk_copier.copier.CopyStep.{CopyStep}
use Rattle.tool_program.specs.declared.chunk_copier.copier.CopyStep.TheVariants as copying
use Rattle.tool_program.specs.declared.cutover_core.cutover.Clearing.{Clearing}
use Rattle.tool_program.specs.declared.cutover_core.cutover.Clearing.TheVariants.{Looking, Drops}
use Rattle.tool_program.specs.declared.cutover_core.cutover.CutOver.{CutOver}
use Rattle.tool_program.specs.declared.cutover_core.cutover.Drain.{Drain}
use Rattle.tool_program.specs.declared.cutover_core.cutover.Hold.{Hold}
use Rattle.tool_program.specs.declared.cutover_core.cutover.Hold.TheVariants.{Locks}
use Rattle.tool_program.specs.declared.cutover_core.cutover.Phase.{Phase}
use Rattle.tool_program.specs.declared.cutover_core.cutover.Phase.TheVariants.{Resting, Attempting, Ending, Finishing, Finished}
use Rattle.tool_program.specs.declared.cutover_core.cutover.Role.TheVariants.{Locker}
use Rattle.tool_program.specs.declared.cutover_core.cutover.Stage.TheVariants.{Locking, Hinting, ReadingCounter, SettingCounter, Showing, Dropping, Unlocking}
use Rattle.tool_program.specs.declared.event_applier.applier.ApplyStep.{ApplyStep}
use Rattle.tool_program.specs.declared.event_applier.applier.ApplyStep.TheVariants as applying
use Rattle.tool_program.specs.EventApplier.Appliers as appliers
use Rattle.tool_program.specs.EventApplier.Appliers.{Doing}
use Rattle.tool_program.specs.declared.event_applier.applier.Applier.{Applier}
use Rattle.tool_program.specs.JournalWords.Clients.{client_asks, client_at, word_asks}
use Rattle.tool_program.specs.JournalWords.KeptPlans.{words_of}
use Rattle.tool_program.specs.JournalWords.Sessions.{live_session}
use Rattle.tool_program.specs.Programs as programs
use Rattle.tool_program.specs.Programs.{apply_call, copy_call, given, in_transaction, may_begin, rolls_back, tool_asks, tool_call}
use Rattle.tool_program.specs.Operators.{is_throttled}
use Rattle.tool_program.specs.Setups.{Setup, Listing, MakingLog, MakingGhost, Marking, Reaching, Ready, setup_call}
use Rattle.tool_program.specs.Setups.{Clearing as Clears}
use Rattle.tool_program.specs.Tools.{Work, ToolPhase, SettingUp, Migrating, is_reverting, moment}
use Rattle.tool_program.proofs.OnlineCalls.Machines.{ToolPhaseIsNamed, named}
use Rattle.proof_journals.proofs.Machine.Asking.{copier_next, renamer_next, some_request, unless_called}
use Rattle.proof_journals.proofs.Machine.Clients.{Next, calls_line, polls_line, client_next}
use Rattle.proof_journals.proofs.Machine.Inspecting.{inspects_or}
use Rattle.proof_journals.proofs.Machine.Journals.{apply_called}
use Rattle.proof_journals.proofs.Machine.Marks.{ghost_not_log, ghost_not_old}
use Rattle.proof_journals.proofs.Machine.Polling.{no_word}
use Rattle.proof_journals.specs.Machine.Machines.{copier_asks}
use Rattle.law_draws.proofs.NewTable.{MayMake, SmallAsks, counts_named}

module _ (plan : PlanData) (most : ℕ) (may : MayMake (new_schema plan)) where
  abbrev Fits : Request → Type 0
  Fits request = SmallAsks (ghost_name plan.table) most (Some request)

  -- the tool's other tables have other names
  makes_other : (schema : Schema) (name : List ℕ) → schema.name ≡ name → bytes_eq (ghost_name plan.table) name ≡ false → Fits (requests.Create schema)
  makes_other schema name is off here = absurd (true≢false (sym here ∙ ap (λ (n : List ℕ). bytes_eq n (ghost_name plan.table)) is ∙ turned_bytes (ghost_name plan.table) name off))

  makes_log : Fits (requests.Create (log_schema plan.table))
  unfolding log_schema
  makes_log = makes_other (log_schema plan.table) (log_name plan.table) refl (ghost_not_log plan.table)

  makes_sentry : (table : List ℕ) → table ≡ plan.table → Fits (requests.Create (sentry_schema table))
  unfolding sentry_schema
  makes_sentry table own = makes_other (sentry_schema table) (old_name plan.table) (ap old_name own) (ghost_not_old plan.table)

  setup_fits : (setup : Setup) (request : Request) → setup_call plan setup ≡ Some request → Fits request
  setup_fits Listing request is = some_request Fits _ request is tt
  setup_fits (Clears left) request is = some_request Fits _ request is tt
  setup_fits MakingLog request is = some_request Fits _ request is makes_log
  setup_fits MakingGhost request is = some_request Fits _ request is (λ here. record { counts = λ place auto. counts_named (new_schema plan) (ghost_name plan.table) place (may.counts place auto); start = may.start })
  setup_fits Marking request is = some_request Fits _ request is tt
  setup_fits (Reaching position) request is = some_request Fits _ request is tt
  setup_fits (Ready position range) request is = absurd cc

  clears_fits : (table : List ℕ) (clearing : Clearing) (request : Request) → attempts.clears table clearing ≡ Some request → Fits request
  clears_fits table Looking request is = some_request Fits _ request is tt
  clears_fits table (Drops left) request is = some_request Fits _ request is tt

  inspector_fits : (cutover : CutOver) (phase : Phase) (request : Request) → ((number : ℕ) (drain : Drain) → phase ≡ Attempting (SettingCounter number drain) → number ≤ most) → attempts.inspector_call cutover phase ≡ Some request → Fits request
  inspector_fits cutover (Attempting Hinting) request small is = some_request Fits _ request is tt
  inspector_fits cutover (Attempting (ReadingCounter drain)) request small is = some_request Fits _ request is tt
  inspector_fits cutover (Attempting (SettingCounter number drain)) request small is = some_request Fits _ request is (small number drain refl)
  inspector_fits cutover (Attempting Showing) request small is = some_request Fits _ request is tt
  inspector_fits cutover (Attempting stage) request small is = absurd cc
  inspector_fits cutover (Ending clearing) request small is = by (attempts.is_free cutover.hold cutover.renamer_waits) is where
    by : (b : Bool) → cond b (attempts.clears cutover.table clearing) None ≡ Some request → Fits request
    by true is = clears_fits cutover.table clearing request is
    by false is = absurd cc
  inspector_fits cutover (Finishing clearing) request small is = clears_fits cutover.table clearing request is
  inspector_fits cutover Resting request small is = absurd cc
  inspector_fits cutover Finished request small is = absurd cc

  locker_fits : (cutover : CutOver) (request : Request) → cutover.table ≡ plan.table → attempts.next Locker cutover ≡ Some request → Fits request
  unfolding attempts.next
  locker_fits cutover request own is = by cutover.phase is where
    frees : (hold : Hold) → attempts.unlocks hold ≡ Some request → Fits request
    frees Locks is = some_request Fits _ request is tt
    frees hold is = absurd cc

    by : (phase : Phase) → attempts.locker_call cutover phase ≡ Some request → Fits request
    by Resting is = some_request Fits _ request (unless_called cutover.is_stopped _ request is) (makes_sentry cutover.table own)
    by (Attempting Locking) is = some_request Fits _ request is tt
    by (Attempting Dropping) is = some_request Fits _ request is tt
    by (Attempting Unlocking) is = some_request Fits _ request is tt
    by (Attempting stage) is = absurd cc
    by (Ending clearing) is = frees cutover.hold is
    by (Finishing clearing) is = absurd cc
    by Finished is = absurd cc

  copier_fits : (step : CopyStep) (request : Request) → copier_asks step request ≡ true → Fits request
  copier_fits copying.Choosing (requests.ChunkEnd table low top size) kind = tt
  copier_fits (copying.Spanning reported size) (requests.BeginSpan table span most_size) kind = tt
  copier_fits (copying.Copying chunk copied) (requests.CopyRow from into map key) kind = tt
  copier_fits (copying.Committing chunk) requests.Commit kind = tt
  copier_fits step request kind = absurd cc

  applier_fits : (journal : List Entry) (applier : Applier) → Fits (appliers.next journal applier)
  unfolding appliers.next
  applier_fits journal applier = by applier.step where
    of_doing : (doing : Option Doing) → Fits (appliers.statement_result applier doing)
    of_doing None = tt
    of_doing (Some doing) = tt

    by : (step : ApplyStep) → Fits (appliers.call_at journal applier step)
    by applying.Reading = tt
    by (applying.Beginning batch) = tt
    by (applying.Applying batch done part) = of_doing (appliers.doing_at journal applier (applying.Applying batch done part))
    by (applying.Committing batch) = tt

  rolled : (busy : Bool) (request : Request) → cond busy (Some requests.Rollback) None ≡ Some request → Fits request
  rolled true request is = some_request Fits requests.Rollback request is tt
  rolled false request is = absurd cc

  back_or : (b : Bool) (back call : Option Request) (request : Request) → cond b back call ≡ Some request → (back ≡ Some request → Fits request) → (call ≡ Some request → Fits request) → Fits request
  back_or true back call request is one other = one is
  back_or false back call request is one other = other is

  word_fits : (word : ScriptWord) → Fits (word_asks word)
  word_fits words.Begin = tt
  word_fits words.Commit = tt
  word_fits words.Rollback = tt
  word_fits (words.Do statement) = tt

  -- the number that is set next is small
  abbrev SetsSmall : List Entry → Type 0
  SetsSmall journal = (work : Work) → (moment plan journal).tool.tool_phase ≡ Migrating work → (number : ℕ) (drain : Drain) → work.cutover.phase ≡ Attempting (SettingCounter number drain) → number ≤ most

  module _ (journal : List Entry) (small : SetsSmall journal) where
    tool_fits : (tool_phase : ToolPhase) (actor : Actor) (request : Request) → (moment plan journal).tool.tool_phase ≡ tool_phase → tool_call plan (moment plan journal).server journal (moment plan journal).tool tool_phase actor ≡ Some request → Fits request
    unfolding attempts.next
    tool_fits (SettingUp setup tries) Insp request at is = setup_fits setup request (unless_called (is_reverting (moment plan journal).tool.reason) (setup_call plan setup) request is)
    tool_fits (Migrating work) Insp request at is = inspects_or plan journal (moment plan journal).tool work request (Fits request) is (λ note resting. subst Fits (sym note.is) tt) (λ next. inspector_fits work.cutover work.cutover.phase request (small work at) next)
    tool_fits (Migrating work) Copy request at is =
        back_or (is_reverting (moment plan journal).tool.reason) (rolls_back (moment plan journal).server (live_session journal Copy)) (copy_call plan (moment plan journal).server journal (moment plan journal).tool work) request is
        (λ back. rolled (in_transaction (moment plan journal).server (live_session journal Copy)) request back)
        (λ call. copier_fits work.copier.step request (copier_next journal work.copier request (unless_called (copiers.starts work.copier && is_throttled plan (moment plan journal).server (moment plan journal).tool.operator) (copiers.next journal work.copier) request call)))
    tool_fits (Migrating work) Apply request at is =
        back_or (is_reverting (moment plan journal).tool.reason) (rolls_back (moment plan journal).server (live_session journal Apply)) (apply_call plan (moment plan journal).server journal (moment plan journal).tool work) request is
        (λ back. rolled (in_transaction (moment plan journal).server (live_session journal Apply)) request back)
        (λ call. subst Fits (sym (apply_called plan journal work request call)) (applier_fits journal work.applier))
    tool_fits (Migrating work) Lock request at is =
        locker_fits work.cutover request (subst (ToolPhaseIsNamed plan) at (named plan journal)).cutover
        (unless_called (is_resting work.cutover.phase && not (may_begin plan (moment plan journal).server (moment plan journal).tool work)) (attempts.next Locker work.cutover) request is)
    tool_fits (Migrating work) Ren request at is = subst Fits (sym (renamer_next work.cutover request is)) tt
    tool_fits tool_phase actor request at is = absurd cc

    tool_given : (actor : Actor) (request : Request) → tool_asks plan journal (moment plan journal) actor ≡ Some (Call request) → Fits request
    tool_given actor request gives =
        tool_fits (moment plan journal).tool.tool_phase actor request refl (was_called (programs.waits (moment plan journal).server (live_session journal actor)) (tool_call plan (moment plan journal).server journal (moment plan journal).tool (moment plan journal).tool.tool_phase actor) gives) where
          was_called : (wait : Bool) (call : Option Request) → cond wait (Some Poll) (programs.calls call) ≡ Some (Call request) → call ≡ Some request
          was_called true call is = absurd cc
          was_called false None is = absurd cc
          was_called false (Some one) is = cc

    client_given : (c : ℕ) (request : Request) → client_asks plan journal c ≡ Some (Call request) → Fits request
    client_given c request gives = by (client_next plan journal c (Call request) gives) where
      by : Next (client_at plan journal c) (Call request) → Fits request
      by (calls_line line lines going off left same) = let one : word_asks line.word ≡ request = cc in subst Fits one (word_fits line.word)
      by (polls_line going on same) = absurd (no same) where
        no : Call request ≡ Poll → ⊥
        no both = cc

    -- *What is given fits*
    pub given_fits : (actor : Actor) (request : Request) → given plan journal actor ≡ Some (Call request) → Fits request
    unfolding given
    given_fits (Client c) request gives = client_given c request gives
    given_fits Op request gives = absurd (no_word (slice_get (words_of plan) (moment plan journal).tool.operator.taken) (Call request) refl gives)
    given_fits Insp request gives = tool_given Insp request gives
    given_fits Copy request gives = tool_given Copy request gives
    given_fits Apply request gives = tool_given Apply request gives
    given_fits Lock request gives = tool_given Lock request gives
    given_fits Ren request gives = tool_given Ren request gives
