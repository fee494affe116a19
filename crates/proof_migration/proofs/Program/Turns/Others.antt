-- Until the RENAME is done all other actors' turns keep away from the new table.
use Rattle.std.proofs.Common.{◌≡◌, ◌⊎◌, ℕ, true, false, List, [], ◌∷◌, ◌++◌, Option, Some, refl, sym, ap, ◌∙◌, subst, inl, inr}
use Rattle.std.specs.List.{list_any}
use Rattle.std.specs.Str.{bytes_eq}
use Rattle.std.proofs.lemmas.Bool.{true≢false, false≢true, false_from_ne_true, not-true, or_left}
use Rattle.base_values.specs.declared.gho_schema.schema.Schema.{Schema}
use Rattle.table_store.specs.declared.renames.Pair.{Pair}
use Rattle.base_script.specs.declared.actor.Actor.{Actor}
use Rattle.base_script.specs.declared.actor.Actor.TheVariants.{Op, Insp, Copy, Apply, Lock, Ren, Client}
use Rattle.server_model.specs.declared.answer.Answer.{Answer}
use Rattle.server_model.specs.declared.entry.Asked.{Asked}
use Rattle.server_model.specs.declared.entry.Asked.TheVariants.{Call, Poll, Command, Cut}
use Rattle.server_model.specs.declared.entry.Entry.{Entry}
use Rattle.server_model.specs.declared.request.Request.{Request}
use Rattle.server_model.specs.declared.request.Request.TheVariants as requests
use Rattle.server_model.specs.Entries.{same_actor, is_client, is_command}
use Rattle.server_model.specs.Operations.{table_of}
use Rattle.server_model.specs.States.{State}
use Rattle.plan_data.specs.PlanData.{PlanData}
use Rattle.base_values.specs.ToolNames.{ghost_name, log_name, old_name, is_tool_name}
use Rattle.tool_program.specs.JournalWords.Journals.{opens, state_at}
use Rattle.tool_program.specs.CutoverCore.Attempts as cutovers
use Rattle.tool_program.specs.Programs.{given, IsGiven, tool_call}
use Rattle.tool_program.specs.Tools.{Work, ToolPhase, Migrating, is_reverting, moment}
use Rattle.tool_program.proofs.OnlineCalls.Machines.{ToolPhaseIsNamed, named}
use Rattle.proof_journals.specs.Plans.{IsSerialPlan, client_names, scene_of}
use Rattle.proof_journals.specs.Turns.{ClientAsks, about, reported_at}
use Rattle.proof_journals.proofs.Machine.Inspecting.{inspects_or}
use Rattle.proof_journals.proofs.Naming.{migrated_no_tool}
use Rattle.proof_journals.specs.Ghost.Rows.Timelines.{Migration}
use Rattle.server_model.proofs.LockedRows.Tests.{are_same, same_bytes, turned_bytes}
use Rattle.proof_journals.specs.Machine.FormedPlans.{IsFitting}
use Rattle.proof_journals.specs.Machine.Machines.{ToolPhaseStands, WorkStands}
use Rattle.proof_journals.specs.Machine.Standings.{IsAbout, is_called, is_polled, Standing, standing_of}
use Rattle.proof_journals.proofs.Machine.Asking.{locker_waits, renamer_next, renamer_waits}
use Rattle.proof_journals.proofs.Machine.Journals.{IsRun, IsTogether, Asking, calls_so, polls_so, asking, lock_about}
use Rattle.proof_journals.proofs.Machine.Marks.{KeepsGhost, Unmarked, ghost_not_log, inspector_keeps, locker_keeps}
use Rattle.proof_migration.specs.Migration.Away.{IsOther, KeepsAway}
use Rattle.proof_migration.specs.ToolPhase.Unaltered.{IsUnaltered}
use Rattle.proof_migration.specs.Program.Turns.Goes.{IsOf}
use Rattle.proof_migration.proofs.Program.Turns.Asked.{asked_as, never_reported, waits_with}
use Rattle.proof_migration.proofs.ToolPhase.Unaltered.Asking.{AskedAs, ToolCall}
use Rattle.proof_migration.proofs.ToolPhase.Unaltered.Away.{IsKnownAsked, ghost_is_tool, tool_not_mine}

pub ghost_named : (plan : PlanData) (m : Migration) → IsOf plan m → m.new.name ≡ ghost_name plan.table
ghost_named plan m of = ap (λ (s : Schema). s.name) of.new

-- the two renamings of the exchange
abbrev pairs_of : List ℕ → List Pair
pairs_of table = record { old = table; new = old_name table } ∷ record { old = ghost_name table; new = table } ∷ []

-- neither the copier nor the applier
abbrev pub IsThird : Actor → Type 0
IsThird actor = (same_actor actor Copy ≡ false) × (same_actor actor Apply ≡ false)

-- NAMES

module _ (plan : PlanData) (serial : IsSerialPlan plan) (m : Migration) (of : IsOf plan m) where
  -- a table of the tool's that isn't the new one is neither
  other_name : (name : List ℕ) → is_tool_name plan.table name ≡ true → bytes_eq (ghost_name plan.table) name ≡ false → IsOther m name
  other_name name tool not_ghost = (
    ap (λ (n : List ℕ). bytes_eq n name) of.name ∙ false_from_ne_true (bytes_eq plan.table name) (λ same. true≢false (sym tool ∙ ap (is_tool_name plan.table) (sym (are_same plan.table name same)) ∙ migrated_no_tool plan.table)),
    ap (λ (n : List ℕ). bytes_eq n name) (ghost_named plan m of) ∙ not_ghost,
  )

  -- a client's table isn't the new one
  pub client_name : (name : List ℕ) → list_any (bytes_eq name) (client_names plan) ≡ true → bytes_eq name m.new.name ≡ false
  client_name name mine =
      false_from_ne_true (bytes_eq name m.new.name)
      (λ same. true≢false (sym mine ∙ tool_not_mine plan name serial (ap (is_tool_name plan.table) (are_same name m.new.name same ∙ ghost_named plan m of) ∙ ghost_is_tool plan.table)))

  log_name_other : bytes_eq (log_name plan.table) m.new.name ≡ false
  log_name_other = ap (bytes_eq (log_name plan.table)) (ghost_named plan m of) ∙ turned_bytes (ghost_name plan.table) (log_name plan.table) (ghost_not_log plan.table)

  -- WHAT IS ASKED

  client_away : (reported : Option Answer) (request : Request) → ClientAsks (scene_of plan []) request → KeepsAway m reported request
  client_away reported (requests.Do statement) asks = client_name (table_of statement) asks
  client_away reported (requests.CopyRow from into map key) asks = absurd asks
  client_away reported (requests.Create schema) asks = absurd asks
  client_away reported (requests.Drop name) asks = absurd asks
  client_away reported (requests.Rename pairs) asks = absurd asks
  client_away reported request asks = tt

  tool_away : (reported : Option Answer) (request : Request) (actor : Actor) → ToolCall plan request actor → IsThird actor → KeepsGhost plan.table request → KeepsAway m reported request
  tool_away reported (requests.Do statement) Insp asks third keeps = ap (λ (n : List ℕ). bytes_eq n m.new.name) asks ∙ log_name_other
  tool_away reported (requests.Do statement) Apply asks third keeps = absurd (true≢false third.1)
  tool_away reported (requests.Do statement) Op asks third keeps = absurd asks
  tool_away reported (requests.Do statement) Copy asks third keeps = absurd asks
  tool_away reported (requests.Do statement) Lock asks third keeps = absurd asks
  tool_away reported (requests.Do statement) Ren asks third keeps = absurd asks
  tool_away reported (requests.Do statement) (Client c) asks third keeps = absurd asks
  tool_away reported (requests.CopyRow from into map key) Copy asks third keeps = absurd (true≢false third.0)
  tool_away reported (requests.CopyRow from into map key) Op asks third keeps = absurd asks
  tool_away reported (requests.CopyRow from into map key) Insp asks third keeps = absurd asks
  tool_away reported (requests.CopyRow from into map key) Apply asks third keeps = absurd asks
  tool_away reported (requests.CopyRow from into map key) Lock asks third keeps = absurd asks
  tool_away reported (requests.CopyRow from into map key) Ren asks third keeps = absurd asks
  tool_away reported (requests.CopyRow from into map key) (Client c) asks third keeps = absurd asks
  tool_away reported (requests.Create schema) actor asks third keeps = other_name schema.name asks (turned_bytes schema.name (ghost_name plan.table) (not-true (bytes_eq schema.name (ghost_name plan.table)) keeps))
  tool_away reported (requests.Drop name) actor asks third keeps = other_name name asks (not-true (bytes_eq (ghost_name plan.table) name) keeps)
  tool_away reported (requests.Rename pairs) actor asks third keeps = absurd (false≢true keeps)
  tool_away reported request actor asks third keeps = tt

-- ONE TURN

module _ (plan : PlanData) (serial : IsSerialPlan plan) (m : Migration) (of : IsOf plan m) (fit : IsFitting plan) (journal : List Entry) (entry : Entry) (known : IsKnownAsked plan journal) (run : IsRun plan journal entry) (off : IsUnaltered plan (journal ++ entry ∷ [])) (work : Work) (tool_phase : (moment plan journal).tool.tool_phase ≡ Migrating work)
    (unmarked : Unmarked plan journal work) where
  abbrev now : State
  now = state_at plan journal

  abbrev has : Actor → Standing
  has = standing_of plan journal

  abbrev reported : Option Answer
  reported = reported_at entry.side entry.answer entry.missed

  together : IsTogether plan journal
  together = known.marking.tabled.all.tool

  table_own : work.cutover.table ≡ plan.table
  table_own = (subst (ToolPhaseIsNamed plan) tool_phase (named plan journal)).cutover

  work_stands : WorkStands journal (is_reverting (moment plan journal).tool.reason) has work
  work_stands = subst (ToolPhaseStands journal has (is_reverting (moment plan journal).tool.reason)) tool_phase together.stands

  -- the new table is kept by what the inspector and the locker ask
  own_table : (request : Request) → KeepsGhost work.cutover.table request → KeepsGhost plan.table request
  own_table request keeps = subst (λ (t : List ℕ). KeepsGhost t request) table_own keeps

  insp_keeps : (request : Request) → entry.actor ≡ Insp → (asked : Asked) → entry.asked ≡ asked → given plan journal Insp ≡ Some asked ⊎ (asked ≡ Cut) → about (opens entry now) entry.session asked ≡ Some request → KeepsGhost plan.table request
  unfolding given
  insp_keeps request same (Call called) asks (inl gives) is = by (asking plan journal Insp (Call called) together.server gives) where
    by : Asking plan journal Insp (Call called) → KeepsGhost plan.table request
    by (calls_so other one idle call) =
        let both : other ≡ request = cc in
        inspects_or plan journal (moment plan journal).tool work request (KeepsGhost plan.table request) (ap (λ (c : ToolPhase). tool_call plan (moment plan journal).server journal (moment plan journal).tool c Insp) (sym tool_phase) ∙ call ∙ ap Some both)
        (λ note resting. subst (KeepsGhost plan.table) (sym note.is) refl) (λ next. own_table request (inspector_keeps work.cutover request next unmarked.undone))
    by (polls_so other one some) = absurd (no one) where
      no : Call called ≡ Poll → ⊥
      no two = cc
  insp_keeps request same Poll asks gives is = unmarked.waits request (ap (λ (a : Actor). (has a).waits) (sym same) ∙ waits_with plan serial fit journal entry known run off (ap is_command asks) request is)
  insp_keeps request same Cut asks gives is = unmarked.waits request (ap (λ (a : Actor). (has a).waits) (sym same) ∙ waits_with plan serial fit journal entry known run off (ap is_command asks) request is)
  insp_keeps request same (Call called) asks (inr cut) is = absurd cc
  insp_keeps request same (Command word) asks gives is = absurd cc

  lock_waits : (request : Request) → entry.actor ≡ Lock → (has entry.actor).waits ≡ Some request → KeepsGhost plan.table request
  lock_waits request same some =
      own_table request
      (locker_keeps work.cutover.table work.cutover.hold work.cutover.phase request
      (locker_waits work.cutover.table work.cutover.hold work.cutover.phase request (ap (λ (s : Standing). s.waits) (sym work_stands.locker) ∙ ap (λ (a : Actor). (has a).waits) (sym same) ∙ some)))

  lock_keeps : (request : Request) → entry.actor ≡ Lock → (asked : Asked) → entry.asked ≡ asked → given plan journal Lock ≡ Some asked ⊎ (asked ≡ Cut) → about (opens entry now) entry.session asked ≡ Some request → KeepsGhost plan.table request
  unfolding given
  lock_keeps request same (Call called) asks (inl gives) is =
      lock_about plan journal entry together run work tool_phase work_stands (subst (Asking plan journal Lock) (sym asks) (asking plan journal Lock (Call called) together.server gives)) (KeepsGhost plan.table request)
      (λ found is_about kind. own_table request (subst (KeepsGhost work.cutover.table) (found_is found is_about) (locker_keeps work.cutover.table work.cutover.hold work.cutover.phase found kind))) where
        found_is : (found : Request) → IsAbout found (has Lock) entry.asked → found ≡ request
        found_is found (is_called asked_so none) = let two : Call found ≡ Call called = sym asked_so ∙ asks in let one : called ≡ request = cc in cc
        found_is found (is_polled asked_so some) = absurd (no (sym asks ∙ asked_so)) where
          no : Call called ≡ Poll → ⊥
          no two = cc
  lock_keeps request same Poll asks gives is = lock_waits request same (waits_with plan serial fit journal entry known run off (ap is_command asks) request is)
  lock_keeps request same Cut asks gives is = lock_waits request same (waits_with plan serial fit journal entry known run off (ap is_command asks) request is)
  lock_keeps request same (Call called) asks (inr cut) is = absurd cc
  lock_keeps request same (Command word) asks gives is = absurd cc

  given_or_cut : (asked : Asked) (actor : Actor) → entry.actor ≡ actor → IsGiven plan journal entry asked → given plan journal actor ≡ Some asked ⊎ (asked ≡ Cut)
  given_or_cut Cut actor same gives = inr refl
  given_or_cut (Call request) actor same gives = inl (subst (λ (a : Actor). given plan journal a ≡ Some (Call request)) same gives)
  given_or_cut Poll actor same gives = inl (subst (λ (a : Actor). given plan journal a ≡ Some Poll) same gives)
  given_or_cut (Command word) actor same gives = inl (subst (λ (a : Actor). given plan journal a ≡ Some (Command word)) same gives)

  ren_waits : (request : Request) → entry.actor ≡ Ren → (has entry.actor).waits ≡ Some request → request ≡ cutovers.exchange work.cutover.table
  ren_waits request same some = renamer_waits work.cutover.table work.cutover.renamer_waits request (ap (λ (s : Standing). s.waits) (sym work_stands.renamer) ∙ ap (λ (a : Actor). (has a).waits) (sym same) ∙ some)

  -- the renamer asks for the exchange alone
  ren_asks : (request : Request) → entry.actor ≡ Ren → (asked : Asked) → entry.asked ≡ asked → given plan journal Ren ≡ Some asked ⊎ (asked ≡ Cut) → about (opens entry now) entry.session asked ≡ Some request → request ≡ cutovers.exchange work.cutover.table
  unfolding given
  ren_asks request same (Call called) asks (inl gives) is = by (asking plan journal Ren (Call called) together.server gives) where
    by : Asking plan journal Ren (Call called) → request ≡ cutovers.exchange work.cutover.table
    by (calls_so other one idle call) =
        let both : other ≡ request = cc in
        sym both ∙ renamer_next work.cutover other (ap (λ (c : ToolPhase). tool_call plan (moment plan journal).server journal (moment plan journal).tool c Ren) (sym tool_phase) ∙ call)
    by (polls_so other one some) = absurd (no one) where
      no : Call called ≡ Poll → ⊥
      no two = cc
  ren_asks request same Poll asks gives is = ren_waits request same (waits_with plan serial fit journal entry known run off (ap is_command asks) request is)
  ren_asks request same Cut asks gives is = ren_waits request same (waits_with plan serial fit journal entry known run off (ap is_command asks) request is)
  ren_asks request same (Call called) asks (inr cut) is = absurd cc
  ren_asks request same (Command word) asks gives is = absurd cc

  -- *It keeps away from the new table*
  pub others_away : is_command entry.asked ≡ false → IsThird entry.actor → (request : Request) → about (opens entry now) entry.session entry.asked ≡ Some request → KeepsAway m reported request
  others_away called third request is = by entry.actor refl (asked_as plan serial fit journal entry known run off request is) where
    from : (actor : Actor) → entry.actor ≡ actor → given plan journal actor ≡ Some entry.asked ⊎ (entry.asked ≡ Cut)
    from actor same = given_or_cut entry.asked actor same run.followed.given

    third_of : (actor : Actor) → entry.actor ≡ actor → IsThird actor
    third_of actor same = subst (IsThird) same third

    exchanged : entry.actor ≡ Ren → request ≡ cutovers.exchange work.cutover.table → KeepsAway m reported request
    exchanged same one =
        subst (KeepsAway m reported) (sym one)
        (λ done. absurd (never_reported plan serial fit journal entry known run off (ap is_client same) called (pairs_of work.cutover.table) (is ∙ ap Some one) (or_left (bytes_eq work.cutover.table plan.table) _ (ap (bytes_eq work.cutover.table) (sym table_own) ∙ same_bytes work.cutover.table)) done))

    by : (actor : Actor) → entry.actor ≡ actor → AskedAs plan actor request → KeepsAway m reported request
    by (Client c) same asks = client_away plan serial m of reported request asks
    by Op same asks = absurd asks
    by Copy same asks = absurd (true≢false (third_of Copy same).0)
    by Apply same asks = absurd (true≢false (third_of Apply same).1)
    by Insp same asks = tool_away plan serial m of reported request Insp asks (third_of Insp same) (insp_keeps request same entry.asked refl (from Insp same) is)
    by Lock same asks = tool_away plan serial m of reported request Lock asks (third_of Lock same) (lock_keeps request same entry.asked refl (from Lock same) is)
    by Ren same asks = exchanged same (ren_asks request same entry.asked refl (from Ren same) is)
