-- While a run hasn't ended some actor is ready, or the attempt is stuck.
use Rattle.std.proofs.Common.{◌≡◌, ◌⊎◌, ℕ, ◌+◌, ◌<◌, Bool, true, false, cond, not, ◌&&◌, ◌||◌, List, [], ◌∷◌, ◌++◌, length, Option, Some, None, refl, sym, ap, ◌∙◌, subst, inl, inr, arith}
use Rattle.std.specs.Prelude.{is_some, nat_le, nat_lt}
use Rattle.std.specs.List.{list_any, slice_get}
use Rattle.std.proofs.lemmas.Bool.{true≢false, false≢true, ltb-true, and_right, or_left, or_right}
use Rattle.std.proofs.lemmas.Bool.Decides.{nat_tests}
use Rattle.std.proofs.lemmas.Option.{slice_get-get_or}
use Rattle.base_values.specs.declared.value.Value.{Value}
use Rattle.base_script.specs.declared.actor.Actor.{Actor}
use Rattle.base_script.specs.declared.actor.Actor.TheVariants.{Op, Insp, Copy, Apply, Lock, Ren, Client}
use Rattle.base_script.specs.declared.operator.OperatorWord.{OperatorWord}
use Rattle.base_script.specs.declared.operator.OperatorWord.TheVariants.{Wait}
use Rattle.base_script.specs.declared.script.ScriptLine.{ScriptLine}
use Rattle.server_model.specs.Along.{Along}
use Rattle.server_model.specs.declared.answer.Answer.{Answer}
use Rattle.server_model.specs.declared.entry.Asked.TheVariants.{Poll}
use Rattle.server_model.specs.declared.entry.Entry.{Entry}
use Rattle.server_model.specs.declared.request.Request.{Request}
use Rattle.server_model.specs.declared.request.Request.TheVariants as requests
use Rattle.server_model.specs.Entries.{is_client, answer_at}
use Rattle.server_model.specs.EarlierAnswers.{keys_in}
use Rattle.server_model.specs.States.{State, session_of, load, is_tool_busy}
use Rattle.plan_data.specs.PlanData.{PlanData}
use Rattle.tool_changelog.specs.ToolTables.{sentry_schema}
use Rattle.tool_program.specs.JournalWords.Clients.{Reached, client_at, client_asks, line_asks, client_over, is_empty, all_over, clients_over}
use Rattle.tool_program.specs.JournalWords.Journals.{state_at}
use Rattle.tool_program.specs.JournalWords.KeptPlans.{words_of}
use Rattle.tool_program.specs.JournalWords.Sessions.{live_session, IsSeated, KeepsSessions}
use Rattle.tool_program.specs.ChunkCopier.Copiers as copiers
use Rattle.tool_program.specs.declared.chunk_copier.copier.Copier.{Copier}
use Rattle.tool_program.specs.declared.chunk_copier.copier.CopyRange.{CopyRange}
use Rattle.tool_program.specs.declared.chunk_copier.copier.CopyStep.{CopyStep}
use Rattle.tool_program.specs.declared.chunk_copier.copier.CopyStep.TheVariants as copying
use Rattle.tool_program.specs.EventApplier.Appliers as appliers
use Rattle.tool_program.specs.declared.cutover_core.cutover.Hold.{Hold}
use Rattle.tool_program.specs.declared.cutover_core.cutover.Hold.TheVariants.{Nothing, WaitsToGuard, WaitsToLock, Locks}
use Rattle.tool_program.specs.declared.cutover_core.cutover.Phase.{Phase}
use Rattle.tool_program.specs.declared.cutover_core.cutover.Phase.TheVariants.{Resting, Attempting, Ending, Finishing, Finished}
use Rattle.tool_program.specs.declared.cutover_core.cutover.Clearing.{Clearing as Cleared}
use Rattle.tool_program.specs.declared.cutover_core.cutover.Clearing.TheVariants.{Looking, Drops}
use Rattle.tool_program.specs.declared.cutover_core.cutover.Stage.TheVariants.{Guarding, Locking, Hinting, Draining, Drained, Showing, Dropping, Unlocking, Exchanging, ReadingCounter, SettingCounter}
use Rattle.tool_program.specs.CutoverCore.Attempts as attempts
use Rattle.tool_program.specs.CutoverCore.CutOvers as cutovers
use Rattle.tool_program.specs.Operators.{is_left, is_throttled, is_postponed}
use Rattle.tool_program.specs.Orders.{actors, clients_from, is_ready}
use Rattle.tool_program.specs.Programs.{waits, rolls_back, copy_call, apply_call, may_read, may_begin, unread_in, note_call, tool_call, tool_asks, calls, commands, given, IsFollowed, Follows}
use Rattle.tool_program.specs.Setups.{Setup, setup_call}
use Rattle.tool_program.specs.Tools.{Work, ToolPhase, SettingUp, Migrating, Moment, is_reverting, moment}
use Rattle.tool_program.specs.Verdicts.{is_calm, is_over, has_ended}
use Rattle.proof_journals.specs.Machine.Machines.{SetupStands, ToolPhaseStands, WorkStands, PhaseHolds, held, renaming}
use Rattle.proof_journals.specs.Machine.Standings.{Standing, free, standing_in, standing_of}
use Rattle.proof_journals.proofs.Machine.Asking.{WaitsWith, idle_waits}
use Rattle.proof_journals.proofs.Run.Living.{all_living}
use Rattle.proof_migration.proofs.ToolPhase.Owners.{AllOwned, IsOwnedTogether, together_owned}
use Rattle.proof_journals.proofs.Faces.{busy_face}
use Rattle.proof_journals.proofs.Ghost.Rows.Chunking.{not_and}
use Rattle.proof_migration.specs.ToolPhase.Ready.{IsStuckAt, IsStuck, SomeoneIsReady}
use Rattle.proof_migration.proofs.ToolPhase.Ready.Going.{IsEnded, StepGoes, CopierGoes, ToolPhaseGoes, WorkGoes, IsGoing, all_going}
use Rattle.proof_migration.proofs.ToolPhase.Ready.Idle.{IsBusy, who_is_busy, load_none}

-- each turn of a journal that follows the program is in its actor's session
seated : (plan : PlanData) (before journal : List Entry) → Along (IsFollowed plan) before journal → Along IsSeated before journal
seated plan before [] all = tt
seated plan before (entry ∷ journal) all = (record { session = all.0.session }, seated plan (before ++ entry ∷ []) journal all.1)

pub keeps_sessions : (plan : PlanData) (journal : List Entry) → Follows plan journal → KeepsSessions journal
unfolding Follows KeepsSessions
keeps_sessions plan journal follows = seated plan [] journal follows

-- CLIENTS

-- something is given to a client that isn't over
client_is_ready : (client : Reached) → client_over client ≡ false → is_some (cond client.is_lost None (line_asks client.waits client.left)) ≡ true
client_is_ready client over = by client.is_lost client.waits client.left over where
  by : (lost waits : Bool) (left : List ScriptLine) → (lost || is_empty left) ≡ false → is_some (cond lost None (line_asks waits left)) ≡ true
  by true waits left over = absurd (true≢false over)
  by false waits [] over = absurd (true≢false over)
  by false true (line ∷ lines) over = refl
  by false false (line ∷ lines) over = refl

clients_are_ready : (plan : PlanData) (journal : List Entry) (number : ℕ) (scripts : List (List ScriptLine)) → all_over plan journal number scripts ≡ false → list_any (is_ready plan journal) (clients_from number scripts) ≡ true
unfolding all_over clients_from given client_asks
clients_are_ready plan journal number [] over = absurd (true≢false over)
clients_are_ready plan journal number (script ∷ scripts) over = by (client_over (client_at plan journal number)) refl over (clients_are_ready plan journal (number + 1) scripts) where
  by : (b : Bool) → client_over (client_at plan journal number) ≡ b → cond b (all_over plan journal (number + 1) scripts) false ≡ false → (all_over plan journal (number + 1) scripts ≡ false → list_any (is_ready plan journal) (clients_from (number + 1) scripts) ≡ true)
      → list_any (is_ready plan journal) (clients_from number (script ∷ scripts)) ≡ true
  by true is over rest = or_right (is_ready plan journal (Client number)) (list_any (is_ready plan journal) (clients_from (number + 1) scripts)) (rest over)
  by false is over rest = or_left (is_ready plan journal (Client number)) (list_any (is_ready plan journal) (clients_from (number + 1) scripts)) (client_is_ready (client_at plan journal number) is)

-- THE COPIER

-- the copier has a call until all rows are copied
copier_calls : (journal : List Entry) (copier : Copier) → CopierGoes journal copier → copier.is_copied ≡ false → is_some (copiers.next journal copier) ≡ true
unfolding copiers.next
copier_calls journal copier goes off = ap (λ (b : Bool). is_some (cond b None (copiers.call_in journal copier copier.range))) off ∙ ranged copier.range (goes.range off) where
  keyed : (keys : Option (List Value)) → is_some keys ≡ true → is_some (copiers.copies copier keys) ≡ true
  keyed None none = absurd (false≢true none)
  keyed (Some key) some = refl

  stepped : (range : CopyRange) (step : CopyStep) → StepGoes journal step → is_some (copiers.call_at journal copier range step) ≡ true
  stepped range copying.Choosing goes = refl
  stepped range (copying.Spanning reported size) goes = refl
  stepped range (copying.Copying chunk done) goes =
      keyed (slice_get (keys_in (answer_at journal chunk.reported)) done)
      (ap (λ (a : Option Answer). is_some (slice_get (keys_in a) done)) goes.reported ∙ ap is_some (slice_get-get_or goes.keys done [] (subst (λ (n : ℕ). done < n) goes.counted goes.below)))
  stepped range (copying.Committing chunk) goes = refl

  ranged : (range : Option CopyRange) → is_some range ≡ true → is_some (copiers.call_in journal copier range) ≡ true
  ranged None none = absurd (false≢true none)
  ranged (Some range) some = stepped range copier.step goes.step

-- BEHIND A JOURNAL

not_over : (a b c : Bool) → (a && b && not c) ≡ false → a ≡ true → b ≡ true → c ≡ true
not_over true true c is on calm = grind (arith)
not_over true false c is on calm = absurd (false≢true calm)
not_over false b c is on calm = absurd (false≢true on)

module _ (plan : PlanData) (journal : List Entry) (going : IsGoing plan journal) where
  abbrev now : Moment
  now = moment plan journal

  abbrev has : Actor → Standing
  has = standing_of plan journal

  abbrev AnyReady : Type 0
  AnyReady = list_any (is_ready plan journal) (actors plan) ≡ true

  server : now.server ≡ state_at plan journal
  server = going.tabled.all.tool.server

  -- WHO IS READY

  -- an actor of the tool's that waits polls
  polled : (actor : Actor) → WaitsWith (has actor).waits → is_some (tool_asks plan journal now actor) ≡ true
  polled actor some = by (waits (state_at plan journal) (live_session journal actor)) refl where
    no : None ≡ Some some.request → ⊥
    no same = cc

    by : (b : Bool) → waits (state_at plan journal) (live_session journal actor) ≡ b → is_some (tool_asks plan journal now actor) ≡ true
    by true on = ap (λ (b : Bool). is_some (cond b (Some Poll) (calls (tool_call plan now.server journal now.tool now.tool.tool_phase actor)))) (ap (λ (s : State). waits s (live_session journal actor)) server ∙ on)
    by false off = absurd (no (sym (idle_waits (state_at plan journal) (live_session journal actor) off) ∙ some.is))

  called : (tool_phase : ToolPhase) → now.tool.tool_phase ≡ tool_phase → (actor : Actor) → is_some (tool_call plan now.server journal now.tool tool_phase actor) ≡ true → is_some (tool_asks plan journal now actor) ≡ true
  called tool_phase eq actor call = by (waits now.server (live_session journal actor)) where
    both : (request : Option Request) → is_some request ≡ true → is_some (calls request) ≡ true
    both None none = absurd (false≢true none)
    both (Some request) some = refl

    by : (b : Bool) → is_some (cond b (Some Poll) (calls (tool_call plan now.server journal now.tool now.tool.tool_phase actor))) ≡ true
    by true = refl
    by false = both (tool_call plan now.server journal now.tool now.tool.tool_phase actor) (ap (λ (c : ToolPhase). is_some (tool_call plan now.server journal now.tool c actor)) eq ∙ call)

  op_goes : is_ready plan journal Op ≡ true → AnyReady
  unfolding actors
  op_goes is = or_left (is_ready plan journal Op) _ is

  insp_goes : is_some (tool_asks plan journal now Insp) ≡ true → AnyReady
  unfolding actors given
  insp_goes is = or_right (is_ready plan journal Op) _ (or_left (is_ready plan journal Insp) _ is)

  copy_goes : is_some (tool_asks plan journal now Copy) ≡ true → AnyReady
  unfolding actors given
  copy_goes is = or_right (is_ready plan journal Op) _ (or_right (is_ready plan journal Insp) _ (or_left (is_ready plan journal Copy) _ is))

  apply_goes : is_some (tool_asks plan journal now Apply) ≡ true → AnyReady
  unfolding actors given
  apply_goes is = or_right (is_ready plan journal Op) _ (or_right (is_ready plan journal Insp) _ (or_right (is_ready plan journal Copy) _ (or_left (is_ready plan journal Apply) _ is)))

  lock_goes : is_some (tool_asks plan journal now Lock) ≡ true → AnyReady
  unfolding actors given
  lock_goes is = or_right (is_ready plan journal Op) _ (or_right (is_ready plan journal Insp) _ (or_right (is_ready plan journal Copy) _ (or_right (is_ready plan journal Apply) _ (or_left (is_ready plan journal Lock) _ is))))

  ren_goes : is_some (tool_asks plan journal now Ren) ≡ true → AnyReady
  unfolding actors given
  ren_goes is =
      or_right (is_ready plan journal Op) _ (or_right (is_ready plan journal Insp) _ (or_right (is_ready plan journal Copy) _ (or_right (is_ready plan journal Apply) _ (or_right (is_ready plan journal Lock) _ (or_left (is_ready plan journal Ren) _ is)))))

  clients_go : clients_over plan journal ≡ false → AnyReady
  unfolding actors
  clients_go over =
      or_right (is_ready plan journal Op) _
      (or_right (is_ready plan journal Insp) _
      (or_right (is_ready plan journal Copy) _ (or_right (is_ready plan journal Apply) _ (or_right (is_ready plan journal Lock) _ (or_right (is_ready plan journal Ren) _ (clients_are_ready plan journal 1 plan.clients over))))))

  -- a command is left
  left_goes : is_left plan now.tool.operator ≡ true → AnyReady
  unfolding given
  left_goes left = op_goes (ap (λ (w : Option OperatorWord). is_some (commands w)) (slice_get-get_or (words_of plan) now.tool.operator.taken Wait (ltb-true now.tool.operator.taken (length (words_of plan)) left)))

  -- WHILE NO COMMAND IS LEFT AND ALL CLIENTS ARE OVER

  module _ (owned : AllOwned plan journal) (busy : is_tool_busy (state_at plan journal) ≡ true → IsBusy plan journal) (none_left : is_left plan now.tool.operator ≡ false) (unloaded : load (state_at plan journal) ≡ 0) (open_now : is_over now ≡ false) where
    unthrottled : is_throttled plan now.server now.tool.operator ≡ false
    unthrottled = by now.tool.operator.throttles (is_left plan now.tool.operator) (nat_lt plan.options.max_load (load now.server)) none_left (ap (λ (s : State). nat_lt plan.options.max_load (load s)) server ∙ ap (nat_lt plan.options.max_load) unloaded ∙ none_above plan.options.max_load) where
      none_above : (n : ℕ) → nat_lt n 0 ≡ false
      none_above n = grind (arith, nat_tests)

      by : (a b c : Bool) → b ≡ false → c ≡ false → ((a && b) || c) ≡ false
      by true false false none less = refl
      by false false false none less = refl
      by a true c none less = absurd (true≢false none)
      by a false true none less = absurd (true≢false less)

    unpostponed : is_postponed plan now.tool.operator ≡ false
    unpostponed = and_right now.tool.operator.postpones (is_left plan now.tool.operator) none_left

    free_idle : (actor : Actor) → has actor ≡ free → ((has actor).busy ≡ true) ⊎ WaitsWith (has actor).waits → ⊥
    free_idle actor is (inl busy) = true≢false (sym busy ∙ ap (λ (s : Standing). s.busy) is)
    free_idle actor is (inr some) = no (sym (ap (λ (s : Standing). s.waits) is) ∙ some.is) where
      no : None ≡ Some some.request → ⊥
      no same = cc

    operator_free : has Op ≡ free
    operator_free = ap (standing_in (state_at plan journal)) owned.operator

    inspector_polls : (has Insp).busy ≡ false → ((has Insp).busy ≡ true) ⊎ WaitsWith (has Insp).waits → AnyReady
    inspector_polls off (inl busy) = absurd (true≢false (sym busy ∙ off))
    inspector_polls off (inr some) = insp_goes (polled Insp some)

    -- THE SETUP

    setup_busy : SetupStands has → (one : IsBusy plan journal) → AnyReady
    setup_busy stands one = by one.actor one.tool one.busy where
      by : (actor : Actor) → is_client actor ≡ false → ((has actor).busy ≡ true) ⊎ WaitsWith (has actor).waits → AnyReady
      by Op tool is = absurd (free_idle Op operator_free is)
      by Insp tool is = inspector_polls stands.inspector.busy is
      by Copy tool is = absurd (free_idle Copy stands.copier is)
      by Apply tool is = absurd (free_idle Apply stands.applier is)
      by Lock tool is = absurd (free_idle Lock stands.locker is)
      by Ren tool is = absurd (free_idle Ren stands.renamer is)
      by (Client c) tool is = absurd (true≢false tool)

    stands_at : (tool_phase : ToolPhase) → now.tool.tool_phase ≡ tool_phase → ToolPhaseStands journal has (is_reverting now.tool.reason) tool_phase
    stands_at tool_phase eq = subst (ToolPhaseStands journal has (is_reverting now.tool.reason)) eq going.tabled.all.tool.stands

    goes_at : (tool_phase : ToolPhase) → now.tool.tool_phase ≡ tool_phase → ToolPhaseGoes plan journal (is_reverting now.tool.reason) tool_phase
    goes_at tool_phase eq = subst (ToolPhaseGoes plan journal (is_reverting now.tool.reason)) eq going.tool_phase

    open_at : (tool_phase : ToolPhase) → now.tool.tool_phase ≡ tool_phase → is_over (record now { tool = record now.tool { tool_phase = tool_phase } }) ≡ false
    open_at tool_phase eq = subst (λ (c : ToolPhase). is_over (record now { tool = record now.tool { tool_phase = c } }) ≡ false) eq open_now

    busy_server : is_tool_busy now.server ≡ true → IsBusy plan journal
    busy_server is = busy (ap is_tool_busy (sym server) ∙ is)

    setting_up : (setup : Setup) (tries : List ℕ) → now.tool.tool_phase ≡ SettingUp setup tries → AnyReady
    setting_up setup tries eq = by (is_reverting now.tool.reason) refl where
      by : (b : Bool) → is_reverting now.tool.reason ≡ b → AnyReady
      by true on = setup_busy (stands_at (SettingUp setup tries) eq) (busy_server (not_over (is_reverting now.tool.reason) true (is_tool_busy now.server) (open_at (SettingUp setup tries) eq) on refl))
      by false off =
          insp_goes (called (SettingUp setup tries) eq Insp (ap (λ (b : Bool). is_some (cond b None (setup_call plan setup))) off ∙ goes_at (SettingUp setup tries) eq))

    -- BEHIND THE SETUP

    module _ (work : Work) (eq : now.tool.tool_phase ≡ Migrating work) where
      stands : WorkStands journal (is_reverting now.tool.reason) has work
      stands = stands_at (Migrating work) eq

      goes : WorkGoes journal (is_reverting now.tool.reason) work
      goes = goes_at (Migrating work) eq

      -- the renamer waits, or has nothing
      renamer_polls : work.cutover.renamer_waits ≡ true → AnyReady
      renamer_polls on = ren_goes (polled Ren (record { request = attempts.exchange work.cutover.table; is = ap (λ (s : Standing). s.waits) (stands.renamer ∙ ap (renaming work.cutover.table) on) }))

      locker_polls : (hold : Hold) (request : Request) → work.cutover.hold ≡ hold → (held work.cutover.table hold).waits ≡ Some request → AnyReady
      locker_polls hold request is some = lock_goes (polled Lock (record { request = request; is = ap (λ (s : Standing). s.waits) (stands.locker ∙ ap (held work.cutover.table) is) ∙ some }))

      in_phase : (phase : Phase) → work.cutover.phase ≡ phase → PhaseHolds phase work.cutover.hold
      in_phase phase at = subst (λ (p : Phase). PhaseHolds p work.cutover.hold) at stands.phase

      -- behind the beginning the locker's next call is the cut-over's
      locker_calls : (phase : Phase) → work.cutover.phase ≡ phase → cutovers.is_resting phase ≡ false → is_some (attempts.locker_call work.cutover phase) ≡ true → AnyReady
      unfolding attempts.next
      locker_calls phase at begun some =
          lock_goes (called (Migrating work) eq Lock
          (ap (λ (p : Phase). is_some (cond (cutovers.is_resting p && not (may_begin plan now.server now.tool work)) None (attempts.locker_call work.cutover p))) at
          ∙ ap (λ (b : Bool). is_some (cond (b && not (may_begin plan now.server now.tool work)) None (attempts.locker_call work.cutover phase))) begun ∙ some))

      inspector_calls : (phase : Phase) → work.cutover.phase ≡ phase → cutovers.is_resting phase ≡ false → is_some (attempts.inspector_call work.cutover phase) ≡ true → AnyReady
      unfolding attempts.next
      inspector_calls phase at off some =
          insp_goes (called (Migrating work) eq Insp (ap (λ (p : Phase). is_some (cond (cutovers.is_resting p) (note_call plan journal now.tool work) (attempts.inspector_call work.cutover p))) at
          ∙ ap (λ (b : Bool). is_some (cond b (note_call plan journal now.tool work) (attempts.inspector_call work.cutover phase))) off ∙ some))

      renamer_calls : (phase : Phase) → work.cutover.phase ≡ phase → is_some (attempts.renamer_call work.cutover phase) ≡ true → AnyReady
      unfolding attempts.next
      renamer_calls phase at some = ren_goes (called (Migrating work) eq Ren (ap (λ (p : Phase). is_some (attempts.renamer_call work.cutover p)) at ∙ some))

      -- the applier reads, where it may, or goes on
      applier_calls : is_reverting now.tool.reason ≡ false → (phase : Phase) → work.cutover.phase ≡ phase → cutovers.is_done phase ≡ false → (appliers.starts work.applier && not (may_read plan now.server now.tool work)) ≡ false → AnyReady
      applier_calls off phase at undone goes_on =
          apply_goes (called (Migrating work) eq Apply
          (ap (λ (b : Bool). is_some (cond b (rolls_back now.server (live_session journal Apply)) (apply_call plan now.server journal now.tool work))) off
          ∙ ap (λ (b : Bool). is_some (cond b None (cond (appliers.starts work.applier && not (may_read plan now.server now.tool work)) None (Some (appliers.next journal work.applier))))) (ap cutovers.is_done at ∙ undone)
          ∙ ap (λ (b : Bool). is_some (cond b None (Some (appliers.next journal work.applier)))) goes_on))

      -- AT REST

      -- in a revert some session is busy
      revert_busy : is_reverting now.tool.reason ≡ true → work.cutover.phase ≡ Resting → (one : IsBusy plan journal) → AnyReady
      revert_busy on at one = by one.actor one.tool one.busy where
        rolled : (actor : Actor) → (has actor).busy ≡ true → is_some (rolls_back now.server (live_session journal actor)) ≡ true
        rolled actor is =
            ap (λ (s : State). is_some (rolls_back s (live_session journal actor))) server
            ∙ by_live (live_session journal actor) is where
              by_live : (live : Option ℕ) → (standing_in (state_at plan journal) live).busy ≡ true → is_some (rolls_back (state_at plan journal) live) ≡ true
              by_live None is = absurd (false≢true is)
              by_live (Some n) is = ap (λ (b : Bool). is_some (cond b (Some requests.Rollback) None)) (busy_face (session_of n (state_at plan journal).sessions) ∙ is)

        held_idle : (hold : Hold) → (held work.cutover.table hold).busy ≡ false
        held_idle Nothing = refl
        held_idle WaitsToGuard = refl
        held_idle WaitsToLock = refl
        held_idle Locks = refl

        renaming_idle : (b : Bool) → (renaming work.cutover.table b).busy ≡ false
        renaming_idle true = refl
        renaming_idle false = refl

        by : (actor : Actor) → is_client actor ≡ false → ((has actor).busy ≡ true) ⊎ WaitsWith (has actor).waits → AnyReady
        by Op tool is = absurd (free_idle Op operator_free is)
        by Insp tool is = inspector_polls stands.inspector.busy is
        by Copy tool (inl busy) = copy_goes (called (Migrating work) eq Copy (ap (λ (b : Bool). is_some (cond b (rolls_back now.server (live_session journal Copy)) (copy_call plan now.server journal now.tool work))) on ∙ rolled Copy busy))
        by Copy tool (inr some) = copy_goes (polled Copy some)
        by Apply tool (inl busy) = apply_goes (called (Migrating work) eq Apply (ap (λ (b : Bool). is_some (cond b (rolls_back now.server (live_session journal Apply)) (apply_call plan now.server journal now.tool work))) on ∙ rolled Apply busy))
        by Apply tool (inr some) = apply_goes (polled Apply some)
        by Lock tool (inl busy) = absurd (true≢false (sym busy ∙ ap (λ (s : Standing). s.busy) stands.locker ∙ held_idle work.cutover.hold))
        by Lock tool (inr some) = lock_goes (polled Lock some)
        by Ren tool (inl busy) = absurd (true≢false (sym busy ∙ ap (λ (s : Standing). s.busy) stands.renamer ∙ renaming_idle work.cutover.renamer_waits))
        by Ren tool (inr some) = ren_goes (polled Ren some)
        by (Client c) tool is = absurd (true≢false tool)

      -- else the copier copies, the applier catches up, or an attempt begins
      rest_goes : is_reverting now.tool.reason ≡ false → work.cutover.phase ≡ Resting → AnyReady
      unfolding attempts.next
      rest_goes off at = by work.copier.is_copied refl where
        unread_some : (n most : ℕ) → nat_le n most ≡ false → nat_lt 0 n ≡ true
        unread_some n most over = grind (arith, nat_tests)

        reads : nat_le (unread_in now.server work) plan.options.max_backlog ≡ false → may_read plan now.server now.tool work ≡ true
        reads over =
            ap (λ (b : Bool). b && not (cond (cutovers.stands work.cutover.phase) work.cutover.is_asked (is_throttled plan now.server now.tool.operator))) (unread_some (unread_in now.server work) plan.options.max_backlog over)
            ∙ ap (λ (p : Phase). not (cond (cutovers.stands p) work.cutover.is_asked (is_throttled plan now.server now.tool.operator))) at ∙ ap not unthrottled

        begins : work.copier.is_copied ≡ true → nat_le (unread_in now.server work) plan.options.max_backlog ≡ true → may_begin plan now.server now.tool work ≡ true
        begins copied few = each work.copier.is_copied (nat_le (unread_in now.server work) plan.options.max_backlog) (is_throttled plan now.server now.tool.operator) (is_postponed plan now.tool.operator) copied few unthrottled unpostponed where
          each : (a b c d : Bool) → a ≡ true → b ≡ true → c ≡ false → d ≡ false → (a && b && not c && not d) ≡ true
          each true true false false copied few light begun = refl
          each false b c d copied few light begun = absurd (false≢true copied)
          each true false c d copied few light begun = absurd (false≢true few)
          each true true true d copied few light begun = absurd (true≢false light)
          each true true false true copied few light begun = absurd (true≢false begun)

        attempts_it : may_begin plan now.server now.tool work ≡ true → AnyReady
        attempts_it may =
            lock_goes (called (Migrating work) eq Lock
            (ap (λ (p : Phase). is_some (cond (cutovers.is_resting p && not (may_begin plan now.server now.tool work)) None (attempts.locker_call work.cutover p))) at
            ∙ ap (λ (b : Bool). is_some (cond (not b) None (attempts.locker_call work.cutover Resting))) may
            ∙ ap (λ (b : Bool). is_some (cond b None (Some (requests.Create (sentry_schema work.cutover.table))))) (goes.stopped ∙ off)))

        copied_goes : work.copier.is_copied ≡ true → (b : Bool) → nat_le (unread_in now.server work) plan.options.max_backlog ≡ b → AnyReady
        copied_goes copied true few = attempts_it (begins copied few)
        copied_goes copied false over = applier_calls off Resting at refl (and_right (appliers.starts work.applier) (not (may_read plan now.server now.tool work)) (ap not (reads over)))

        by : (b : Bool) → work.copier.is_copied ≡ b → AnyReady
        by true copied = copied_goes copied (nat_le (unread_in now.server work) plan.options.max_backlog) refl
        by false uncopied =
            copy_goes (called (Migrating work) eq Copy
            (ap (λ (b : Bool). is_some (cond b (rolls_back now.server (live_session journal Copy)) (copy_call plan now.server journal now.tool work))) off
            ∙ ap (λ (b : Bool). is_some (cond b None (copiers.next journal work.copier))) (and_right (copiers.starts work.copier) (is_throttled plan now.server now.tool.operator) unthrottled)
            ∙ copier_calls journal work.copier goes.copier uncopied))

      resting : work.cutover.phase ≡ Resting → AnyReady
      resting at = by (is_reverting now.tool.reason) refl where
        calm : is_calm (Migrating work) ≡ true
        calm = ap (λ (p : Phase). not (cutovers.stands p)) at

        undone : is_over (record now { tool = record now.tool { tool_phase = Migrating work } }) ≡ (is_reverting now.tool.reason && is_calm (Migrating work) && not (is_tool_busy now.server))
        undone = ap (λ (p : Phase). cond (cutovers.is_done p) (cutovers.is_finished p) (is_reverting now.tool.reason && is_calm (Migrating work) && not (is_tool_busy now.server))) at

        by : (b : Bool) → is_reverting now.tool.reason ≡ b → AnyReady
        by true on = revert_busy on at (busy_server (not_over (is_reverting now.tool.reason) (is_calm (Migrating work)) (is_tool_busy now.server) (sym undone ∙ open_at (Migrating work) eq) on calm))
        by false off = rest_goes off at

      -- IN AN ATTEMPT

      draining : (turns : ℕ) → work.cutover.phase ≡ Attempting (Draining turns) → AnyReady ⊎ ((appliers.starts work.applier ≡ true) × (may_read plan now.server now.tool work ≡ false))
      draining turns at = by (is_reverting now.tool.reason) refl where
        fails : (b : Bool) → is_reverting now.tool.reason ≡ b → b ≡ true → ⊥
        fails b same on = no (subst IsEnded at (goes.ended (same ∙ on))) where
          no : Ending Looking ≡ Attempting (Draining turns) → ⊥
          no same = cc

        held_back : (a b : Bool) → appliers.starts work.applier ≡ a → may_read plan now.server now.tool work ≡ b → is_reverting now.tool.reason ≡ false → AnyReady ⊎ ((appliers.starts work.applier ≡ true) × (may_read plan now.server now.tool work ≡ false))
        held_back true false starts may off = inr (starts, may)
        held_back true true starts may off = inl (applier_calls off (Attempting (Draining turns)) at refl (both (appliers.starts work.applier) may)) where
          both : (a : Bool) → may_read plan now.server now.tool work ≡ true → (a && not (may_read plan now.server now.tool work)) ≡ false
          both true is = ap not is
          both false is = refl
        held_back false b starts may off = inl (applier_calls off (Attempting (Draining turns)) at refl (ap (λ (a : Bool). a && not (may_read plan now.server now.tool work)) starts))

        by : (b : Bool) → is_reverting now.tool.reason ≡ b → AnyReady ⊎ ((appliers.starts work.applier ≡ true) × (may_read plan now.server now.tool work ≡ false))
        by true on = absurd (fails true on refl)
        by false off = held_back (appliers.starts work.applier) (may_read plan now.server now.tool work) refl refl off

      guarding : (hold : Hold) → work.cutover.hold ≡ hold → (hold ≡ Nothing) ⊎ (hold ≡ WaitsToGuard) → AnyReady ⊎ (work.cutover.hold ≡ Nothing)
      guarding hold is (inl none) = inr (is ∙ none)
      guarding hold is (inr waits_so) = inl (locker_polls WaitsToGuard _ (is ∙ waits_so) refl)

      exchanging : (b : Bool) → work.cutover.renamer_waits ≡ b → AnyReady ⊎ (work.cutover.renamer_waits ≡ false)
      exchanging true on = inl (renamer_polls on)
      exchanging false off = inr off

      -- the attempt ends: the locker and the renamer come to rest, and the inspector clears up
      ending : (clearing : Cleared) → work.cutover.phase ≡ Ending clearing → (hold : Hold) → work.cutover.hold ≡ hold → (b : Bool) → work.cutover.renamer_waits ≡ b → AnyReady
      ending clearing at Locks is b waits_so = locker_calls (Ending clearing) at refl (ap (λ (h : Hold). is_some (attempts.unlocks h)) is)
      ending clearing at WaitsToGuard is b waits_so = locker_polls WaitsToGuard _ is refl
      ending clearing at WaitsToLock is b waits_so = locker_polls WaitsToLock _ is refl
      ending clearing at Nothing is true waits_so = renamer_polls waits_so
      ending clearing at Nothing is false waits_so =
          inspector_calls (Ending clearing) at refl (ap (λ (h : Hold). is_some (cond (attempts.is_free h work.cutover.renamer_waits) (attempts.clears work.cutover.table clearing) None)) is ∙ ap (λ (b : Bool). is_some (cond (not b) (attempts.clears work.cutover.table clearing) None)) waits_so ∙ cleared clearing) where
            cleared : (clearing : Cleared) → is_some (attempts.clears work.cutover.table clearing) ≡ true
            cleared Looking = refl
            cleared (Drops left) = refl

      finishing : (clearing : Cleared) → work.cutover.phase ≡ Finishing clearing → AnyReady
      finishing clearing at = inspector_calls (Finishing clearing) at refl (cleared clearing) where
        cleared : (clearing : Cleared) → is_some (attempts.clears work.cutover.table clearing) ≡ true
        cleared Looking = refl
        cleared (Drops left) = refl

      finished : work.cutover.phase ≡ Finished → ⊥
      finished at = true≢false (sym over ∙ open_at (Migrating work) eq) where
        over : is_over (record now { tool = record now.tool { tool_phase = Migrating work } }) ≡ true
        over = ap (λ (p : Phase). cond (cutovers.is_done p) (cutovers.is_finished p) (is_reverting now.tool.reason && is_calm (Migrating work) && not (is_tool_busy now.server))) at

      migrating : (phase : Phase) → work.cutover.phase ≡ phase → AnyReady ⊎ IsStuckAt plan now work phase
      migrating Resting at = inl (resting at)
      migrating (Attempting Guarding) at = guarding work.cutover.hold refl (in_phase (Attempting Guarding) at)
      migrating (Attempting Locking) at = inl (locker_calls (Attempting Locking) at refl refl)
      migrating (Attempting Hinting) at = inl (inspector_calls (Attempting Hinting) at refl refl)
      migrating (Attempting (ReadingCounter drain)) at = inl (inspector_calls (Attempting (ReadingCounter drain)) at refl refl)
      migrating (Attempting (SettingCounter number drain)) at = inl (inspector_calls (Attempting (SettingCounter number drain)) at refl refl)
      migrating (Attempting (Draining turns)) at = draining turns at
      migrating (Attempting Drained) at = inl (renamer_calls (Attempting Drained) at refl)
      migrating (Attempting Showing) at = inl (inspector_calls (Attempting Showing) at refl refl)
      migrating (Attempting Dropping) at = inl (locker_calls (Attempting Dropping) at refl refl)
      migrating (Attempting Unlocking) at = inl (locker_calls (Attempting Unlocking) at refl refl)
      migrating (Attempting Exchanging) at = exchanging work.cutover.renamer_waits refl
      migrating (Ending clearing) at = inl (ending clearing at work.cutover.hold refl work.cutover.renamer_waits refl)
      migrating (Finishing clearing) at = inl (finishing clearing at)
      migrating Finished at = absurd (finished at)

    tool_phase_goes : (tool_phase : ToolPhase) → now.tool.tool_phase ≡ tool_phase → AnyReady ⊎ IsStuck plan now tool_phase
    tool_phase_goes (SettingUp setup tries) eq = inl (setting_up setup tries eq)
    tool_phase_goes (Migrating work) eq = migrating work eq work.cutover.phase refl

-- *Someone is ready*
pub someone_ready : SomeoneIsReady
unfolding has_ended
someone_ready plan journal fit stands ends faithful follows ended = by (clients_over plan journal) refl (is_left plan (moment plan journal).tool.operator) refl where
  going : IsGoing plan journal
  going = all_going plan journal fit stands faithful follows

  together : IsOwnedTogether plan journal
  together = together_owned plan journal faithful follows

  goes : clients_over plan journal ≡ true → is_left plan (moment plan journal).tool.operator ≡ false → (list_any (is_ready plan journal) (actors plan) ≡ true) ⊎ IsStuck plan (moment plan journal) (moment plan journal).tool.tool_phase
  goes over none =
      let living = all_living plan journal faithful (keeps_sessions plan journal follows) in
      tool_phase_goes plan journal going together.owned
      (who_is_busy plan journal living together.owned.owner)
      none
      (load_none plan journal living together.owned.owner ends over going.tabled.all.clients.each)
      (not_and (is_over (moment plan journal)) (clients_over plan journal) ended over)
      (moment plan journal).tool.tool_phase refl

  by : (a : Bool) → clients_over plan journal ≡ a → (b : Bool) → is_left plan (moment plan journal).tool.operator ≡ b → (list_any (is_ready plan journal) (actors plan) ≡ true) ⊎ IsStuck plan (moment plan journal) (moment plan journal).tool.tool_phase
  by false over b left = inl (clients_go plan journal going over)
  by true over true left = inl (left_goes plan journal going left)
  by true over false left = goes over left
