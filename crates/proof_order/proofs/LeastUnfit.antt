-- No row that doesn't fit comes before the turn in which the cause of a verdict stands.
use Rattle.server_model.proofs.Filling.{filled_case}
use Rattle.server_model.specs.Drawing.{numbered}
use Rattle.std.proofs.Common.{◌≡◌, ◌⊎◌, ℕ, ◌+◌, ◌-◌, Bool, true, false, cond, List, [], ◌∷◌, ◌++◌, Option, Some, None, refl, sym, ap, ◌∙◌, subst, inl, inr}
use Rattle.std.specs.Prelude.{Result, Ok, Err, take, unwrap_or}
use Rattle.std.proofs.lemmas.Bool.{true≢false, false≢true}
use Rattle.base_values.specs.declared.value.Value.{Value}
use Rattle.base_script.specs.declared.actor.Actor.{Actor}
use Rattle.base_script.specs.declared.actor.Actor.TheVariants.{Op, Insp, Copy, Apply, Lock, Ren, Client}
use Rattle.base_script.specs.declared.actor.Side.{Side}
use Rattle.server_model.specs.declared.answer.Answer.{Answer}
use Rattle.server_model.specs.declared.answer.Answer.TheVariants as answers
use Rattle.server_model.specs.Answers.{ok}
use Rattle.server_model.specs.declared.entry.Asked.{Asked}
use Rattle.server_model.specs.declared.entry.Asked.TheVariants.{Call, Poll, Command, Cut}
use Rattle.server_model.specs.declared.entry.Entry.{Entry}
use Rattle.server_model.specs.declared.outcome.Progress.{Progress}
use Rattle.server_model.specs.declared.outcome.Progress.TheVariants.{Unfit}
use Rattle.server_model.specs.declared.request.Request.{Request}
use Rattle.server_model.specs.declared.request.Request.TheVariants as requests
use Rattle.server_model.specs.Chunks.{keys_of, ends_of, chunk_end, span_keys}
use Rattle.server_model.specs.Blockers.{need_within}
use Rattle.base_values.specs.GhoSchema.Rows.{key_places}
use Rattle.base_values.specs.declared.span.Span.{Span}
use Rattle.server_model.specs.Effects.{is_outside, effect_unless, effect_within, of_table, begins, defined, locks_if, all_exist, created, dropped, renamed_or}
use Rattle.server_model.specs.Listings.{events_read}
use Rattle.server_model.specs.PlainServer.{does, done, did, serves}
use Rattle.server_model.specs.States.{State, session_of, is_in_transaction, is_of_tool, next_of, view}
use Rattle.table_store.specs.Databases.{Database, TableRows, find_table, has_table, rename_tables}
use Rattle.plan_data.specs.PlanData.{PlanData}
use Rattle.tool_program.specs.JournalWords.Journals.{opens, state_at}
use Rattle.tool_program.specs.declared.chunk_copier.copier.CopyStep.{CopyStep}
use Rattle.tool_program.specs.declared.chunk_copier.copier.CopyStep.TheVariants as copying
use Rattle.tool_program.specs.ChunkCopier.Copiers as copiers
use Rattle.tool_program.specs.declared.event_applier.applier.Applier.{Applier}
use Rattle.tool_program.specs.declared.event_applier.applier.ApplyStep.{ApplyStep}
use Rattle.tool_program.specs.declared.event_applier.applier.ApplyStep.TheVariants as applying
use Rattle.tool_program.specs.EventApplier.Appliers as appliers
use Rattle.tool_program.specs.Failures.{concerned}
use Rattle.tool_program.specs.Programs.{given, IsGiven, tool_call}
use Rattle.tool_program.specs.Tools.{Work, ToolPhase, SettingUp, Migrating, Reason, CopyUnfit, ApplyUnfit, Tool, Moment, is_renamed, is_reverting, copy_after, apply_after, actor_took, turn_counts, asked_took, took, moment}
use Rattle.proof_journals.specs.Machine.Machines.{ToolPhaseStands, WorkStands, SetupStands, copier_asks, applier_asks}
use Rattle.proof_journals.specs.Machine.Standings.{Standing, free, standing_of, IsAbout}
use Rattle.proof_journals.specs.Run.Kept.{IsKept}
use Rattle.proof_journals.proofs.Machine.Journals.{IsRun, IsTogether, Asking, calls_so, polls_so, asking, all_together, copy_about, apply_about}
use Rattle.proof_journals.proofs.Machine.Seated.{IsKnown, IsServed, own_given, own_missed}
use Rattle.proof_journals.proofs.Sentry.Inductions.{moment_more}
use Rattle.proof_migration.proofs.Program.Turns.Follows.{kept_front, kept_run}
use Rattle.proof_migration.proofs.ToolPhase.Hearing.{HoldsUndone, own_answer}
use Rattle.proof_migration.proofs.ToolPhase.Owners.{commands_operator}
use Rattle.proof_migration.proofs.ToolPhase.ToolPhaseTurns.{gives_asked}
use Rattle.proof_migration.proofs.Program.Turns.Effects.{reverts_on}
use Rattle.proof_order.specs.Laws.{UnfitRowsAreLate}
use Rattle.proof_order.proofs.Grounds.{Follows, counts_holds}
use Rattle.proof_order.proofs.Least.{stays, late_at, unrenamed_at}

-- WHO REFUSES A VALUE

-- what stores values
abbrev takes_values : Request → Bool
takes_values (requests.Do statement) = true
takes_values (requests.CopyRow from into map key) = true
takes_values request = false

-- only such a request is refused with a column
abbrev PlaceFits : Request → Answer → Type 0
PlaceFits request (answers.Refused number (Some place)) = takes_values request ≡ true
PlaceFits request answer = Unit {0}

any_fits : (request : Request) → takes_values request ≡ true → (answer : Answer) → PlaceFits request answer
any_fits request is (answers.Refused number (Some place)) = is
any_fits request is (answers.Refused number None) = tt
any_fits request is answer = tt

undone : (request : Request) → HoldsUndone (PlaceFits request)
undone request = record { waits = λ by. tt; timed = λ waited. tt; lost = tt }

ends_fit : (table : List ℕ) (keys : List (List Value)) → PlaceFits (requests.Ends table) (ends_of keys)
ends_fit table [] = tt
ends_fit table (key ∷ keys) = tt

module _ (found : State) (number : ℕ) where
  defined_fits : (request : Request) (result : Result Database ℕ) → PlaceFits request (does (defined result) found number).answer
  defined_fits request (Ok tables) = tt
  defined_fits request (Err code) = tt

  span_fits : (table : List ℕ) (span : Span) (size : ℕ) (one : TableRows) → PlaceFits (requests.BeginSpan table span size) (span_keys span size one)
  unfolding span_keys
  span_fits table span size one = tt

  within_fits : (busy : Bool) (seen : Database) (request : Request) → PlaceFits request (does (effect_within busy seen found request) found number).answer
  unfolding events_read
  within_fits busy seen requests.Begin = tt
  within_fits busy seen requests.Commit = tt
  within_fits busy seen requests.Rollback = tt
  within_fits busy seen (requests.Do statement) = any_fits (requests.Do statement) refl _
  within_fits busy seen (requests.Ends table) = by (find_table table found.tables) where
    by : (one : Option TableRows) → PlaceFits (requests.Ends table) (of_table one (λ t. ends_of (keys_of (key_places t.schema) t.rows)))
    by None = tt
    by (Some one) = ends_fit table (keys_of (key_places one.schema) one.rows)
  within_fits busy seen (requests.ChunkEnd table low top size) = by (find_table table found.tables) where
    by : (one : Option TableRows) → PlaceFits (requests.ChunkEnd table low top size) (of_table one (λ t. answers.End (chunk_end low top size t)))
    by None = tt
    by (Some one) = tt
  within_fits busy seen (requests.BeginSpan table span size) = by (find_table table found.tables) where
    by : (one : Option TableRows) → PlaceFits (requests.BeginSpan table span size) (does (begins one span size (need_within seen (requests.BeginSpan table span size))) found number).answer
    by None = tt
    by (Some one) = span_fits table span size one
  within_fits busy seen (requests.CopyRow from into map key) = any_fits (requests.CopyRow from into map key) refl _
  within_fits busy seen (requests.LockTables names) = by (all_exist names found.tables) where
    by : (b : Bool) → PlaceFits (requests.LockTables names) (does (locks_if b names) found number).answer
    by true = tt
    by false = tt
  within_fits busy seen requests.Unlock = tt
  within_fits busy seen (requests.Create schema) = defined_fits (requests.Create schema) (created (has_table schema.name found.tables) schema found.tables)
  within_fits busy seen (requests.Drop name) = defined_fits (requests.Drop name) (dropped (has_table name found.tables) name found.tables)
  within_fits busy seen (requests.Rename pairs) = defined_fits (requests.Rename pairs) (renamed_or (rename_tables pairs found.tables))
  within_fits busy seen requests.LogEnd = tt
  within_fits busy seen (requests.ReadLog position limit tables) = tt
  within_fits busy seen requests.ShowTables = tt
  within_fits busy seen requests.ShowWaiting = tt
  within_fits busy seen (requests.ShowCounter table) = by (find_table table found.tables) where
    by : (one : Option TableRows) → PlaceFits (requests.ShowCounter table) (of_table one (λ t. answers.At (unwrap_or (next_of table found.counters) 0)))
    by None = tt
    by (Some one) = tt
  within_fits busy seen (requests.SetCounter table least) = by (find_table table found.tables) where
    by : (one : Option TableRows) → PlaceFits (requests.SetCounter table least) (of_table one (λ t. ok))
    by None = tt
    by (Some one) = tt

  did_fits : (request : Request) → PlaceFits request (did found number request).answer
  unfolding did
  did_fits request = by (is_outside (session_of number found.sessions) request) where
    by : (b : Bool) → PlaceFits request (does (effect_unless b (is_in_transaction (session_of number found.sessions)) (view number found) found request) found number).answer
    by true = tt
    by false = within_fits (is_in_transaction (session_of number found.sessions)) (view number found) request

  done_fits : (request : Request) → PlaceFits request (done found number request).answer
  done_fits request =
      filled_case (λ asked full. PlaceFits asked (did found number full).answer) did_fits (λ statement n. any_fits (requests.Do statement) refl (did found number (requests.Do (numbered n statement))).answer)
      (is_of_tool (session_of number found.sessions)) found.tables found.counters request

-- WHAT IT MEANS FOR THE TOOL

copies_unfit : (step : CopyStep) (request : Request) (place number : ℕ) → copier_asks step request ≡ true → takes_values request ≡ true → copiers.progress_at step (answers.Refused number (Some place)) ≡ Unfit place number
copies_unfit (copying.Copying chunk copied) (requests.CopyRow from into map key) place number kind takes = refl
copies_unfit copying.Choosing (requests.ChunkEnd table low top size) place number kind takes = absurd (false≢true takes)
copies_unfit (copying.Spanning reported most) (requests.BeginSpan table span size) place number kind takes = absurd (false≢true takes)
copies_unfit (copying.Committing chunk) requests.Commit place number kind takes = absurd (false≢true takes)
copies_unfit step request place number kind takes = absurd (false≢true kind)

applies_unfit : (applier : Applier) (step : ApplyStep) (request : Request) (place number : ℕ) → applier_asks step request ≡ true → takes_values request ≡ true → appliers.progress_at applier step (answers.Refused number (Some place)) ≡ Unfit place number
applies_unfit applier (applying.Applying batch done part) (requests.Do statement) place number kind takes = refl
applies_unfit applier applying.Reading (requests.ReadLog position limit tables) place number kind takes = absurd (false≢true takes)
applies_unfit applier (applying.Beginning batch) requests.Begin place number kind takes = absurd (false≢true takes)
applies_unfit applier (applying.Committing batch) requests.Commit place number kind takes = absurd (false≢true takes)
applies_unfit applier step request place number kind takes = absurd (false≢true kind)

copier_reverts : (plan : PlanData) (answer : Answer) (work : Work) (tool : Tool) (place number : ℕ) → is_reverting tool.reason ≡ false → is_renamed tool.tool_phase ≡ false → copiers.progress work.copier answer ≡ Unfit place number → is_reverting (actor_took plan Copy answer (Migrating work) tool).reason ≡ true
copier_reverts plan answer work tool place number going off unfit = by (is_reverting tool.reason) going where
  by : (b : Bool) → b ≡ false → is_reverting (cond b tool (copy_after plan work (copiers.progress work.copier answer) (copiers.took tool.turns work.copier answer) tool)).reason ≡ true
  by true going = absurd (true≢false going)
  by false going = subst (λ (p : Progress). is_reverting (copy_after plan work p (copiers.took tool.turns work.copier answer) tool).reason ≡ true) (sym unfit) (reverts_on (CopyUnfit tool.turns place number) tool off)

applier_reverts : (plan : PlanData) (answer : Answer) (work : Work) (tool : Tool) (place number : ℕ) → is_reverting tool.reason ≡ false → is_renamed tool.tool_phase ≡ false → appliers.progress work.applier answer ≡ Unfit place number → is_reverting (actor_took plan Apply answer (Migrating work) tool).reason ≡ true
applier_reverts plan answer work tool place number going off unfit = by (is_reverting tool.reason) going where
  by : (b : Bool) → b ≡ false → is_reverting (cond b tool (apply_after plan work (appliers.progress work.applier answer) (appliers.took tool.turns work.applier answer) tool)).reason ≡ true
  by true going = absurd (true≢false going)
  by false going = subst (λ (p : Progress). is_reverting (apply_after plan work p (appliers.took tool.turns work.applier answer) tool).reason ≡ true) (sym unfit) (reverts_on (ApplyUnfit tool.turns place number) tool off)

-- a drain behind it takes no ground back
drain_keeps : (plan : PlanData) (tool : Tool) → is_reverting tool.reason ≡ true → is_reverting (turn_counts plan Apply tool).reason ≡ true
drain_keeps plan tool on = by (counts_holds plan tool.reason Apply tool (inl refl)) where
  by : Follows tool.turns tool.reason (turn_counts plan Apply tool).reason → is_reverting (turn_counts plan Apply tool).reason ≡ true
  by (inl same) = ap is_reverting same ∙ on
  by (inr none) = absurd (false≢true (sym (ap is_reverting none.0) ∙ on))

-- ONE TURN

module _ (plan : PlanData) (front : List Entry) (entry : Entry) (kept : IsKept plan (front ++ entry ∷ [])) (place number : ℕ) (refused : entry.answer ≡ answers.Refused number (Some place)) (going : is_reverting (moment plan front).tool.reason ≡ false) (off : is_renamed (moment plan front).tool.tool_phase ≡ false) where
  abbrev now : Moment
  now = moment plan front

  abbrev tool : Tool
  tool = record now.tool { turns = now.tool.turns + 1 }

  abbrev has : Actor → Standing
  has = standing_of plan front

  run : IsRun plan front entry
  run = kept_run plan front entry kept

  front_kept : IsKept plan front
  front_kept = kept_front plan front (entry ∷ []) kept

  together : IsTogether plan front
  together = all_together plan front front_kept.faithful front_kept.follows

  known : IsKnown plan front
  known = together.known

  served : IsServed plan front entry
  served = record { answered = run.answered; seated = record { session = run.followed.session } }

  pub no_cut : entry.asked ≡ Cut → ⊥
  no_cut cut = no (sym (by entry.side refl) ∙ refused) where
    no : answers.Lost ≡ answers.Refused number (Some place) → ⊥
    no both = cc

    by : (side : Option Side) → entry.side ≡ side → entry.answer ≡ answers.Lost
    by (Some side) some = own_missed plan front entry known served side some
    by None none = sym (own_given plan front entry known served none) ∙ ap (λ (a : Asked). (serves (opens entry (state_at plan front)) entry.session a).answer) cut

  takes : (request : Request) → IsAbout request (has entry.actor) entry.asked → takes_values request ≡ true
  takes request about = subst (PlaceFits request) refused (own_answer (PlaceFits request) (undone request) plan front entry known served request about (λ found is. done_fits found entry.session request))

  -- the tool hears it
  heard : (actor : Actor) → entry.actor ≡ actor → (actor ≡ Op → ⊥) → is_reverting (turn_counts plan actor (actor_took plan actor entry.answer now.tool.tool_phase tool)).reason ≡ true → is_reverting (moment plan (front ++ entry ∷ [])).tool.reason ≡ true
  unfolding took
  heard actor who other on = subst (λ (m : Moment). is_reverting m.tool.reason ≡ true) (sym (moment_more plan front entry)) (by entry.asked refl run.followed.given) where
    called : is_reverting (turn_counts plan entry.actor (actor_took plan entry.actor entry.answer now.tool.tool_phase tool)).reason ≡ true
    called = subst (λ (a : Actor). is_reverting (turn_counts plan a (actor_took plan a entry.answer now.tool.tool_phase tool)).reason ≡ true) (sym who) on

    by : (asked : Asked) → entry.asked ≡ asked → IsGiven plan front entry asked → is_reverting (asked_took plan now.server entry asked tool).reason ≡ true
    by Cut asks gives = absurd (no_cut asks)
    by (Command word) asks gives = absurd (other (sym who ∙ commands_operator plan front entry.actor word gives))
    by (Call request) asks gives = called
    by Poll asks gives = called

  gives : (actor : Actor) → entry.actor ≡ actor → given plan front actor ≡ Some entry.asked
  gives actor who = ap (given plan front) (sym who) ∙ gives_asked plan front entry entry.asked run.followed.given refl no_cut

  about_own : (actor : Actor) (request : Request) → entry.actor ≡ actor → IsAbout request (has actor) entry.asked → IsAbout request (has entry.actor) entry.asked
  about_own actor request who about = subst (λ (a : Actor). IsAbout request (has a) entry.asked) (sym who) about

  setup_has : (setup : _) (tries : List ℕ) → now.tool.tool_phase ≡ SettingUp setup tries → SetupStands has
  setup_has setup tries eq = subst (ToolPhaseStands front has (is_reverting now.tool.reason)) eq together.stands

  work_has : (work : Work) → now.tool.tool_phase ≡ Migrating work → WorkStands front (is_reverting now.tool.reason) has work
  work_has work eq = subst (ToolPhaseStands front has (is_reverting now.tool.reason)) eq together.stands

  setup_none : (actor : Actor) → has actor ≡ free → tool_call plan now.server front now.tool now.tool.tool_phase actor ≡ None → Asking plan front actor entry.asked → ⊥
  setup_none actor rests none (calls_so request asks idle call) = no (sym none ∙ call) where
    no : None ≡ Some request → ⊥
    no both = cc
  setup_none actor rests none (polls_so request asks some) = no (sym (ap (λ (s : Standing). s.waits) rests) ∙ some) where
    no : None ≡ Some request → ⊥
    no both = cc

  copier_here : entry.actor ≡ Copy → Asking plan front Copy entry.asked → (tool_phase : ToolPhase) → now.tool.tool_phase ≡ tool_phase → is_reverting (actor_took plan Copy entry.answer now.tool.tool_phase tool).reason ≡ true
  unfolding copiers.progress
  copier_here who asks (SettingUp setup tries) eq = absurd (setup_none Copy (setup_has setup tries eq).copier (ap (λ (c : ToolPhase). tool_call plan now.server front now.tool c Copy) eq) asks)
  copier_here who asks (Migrating work) eq =
      copy_about plan front entry together run work eq (work_has work eq) going asks (is_reverting (actor_took plan Copy entry.answer now.tool.tool_phase tool).reason ≡ true)
      (λ request about kind. subst (λ (c : ToolPhase). is_reverting (actor_took plan Copy entry.answer c tool).reason ≡ true) (sym eq)
      (copier_reverts plan entry.answer work tool place number going off (ap (copiers.progress work.copier) refused ∙ copies_unfit work.copier.step request place number kind (takes request (about_own Copy request who about)))))

  applier_here : entry.actor ≡ Apply → Asking plan front Apply entry.asked → (tool_phase : ToolPhase) → now.tool.tool_phase ≡ tool_phase → is_reverting (actor_took plan Apply entry.answer now.tool.tool_phase tool).reason ≡ true
  unfolding appliers.progress
  applier_here who asks (SettingUp setup tries) eq = absurd (setup_none Apply (setup_has setup tries eq).applier (ap (λ (c : ToolPhase). tool_call plan now.server front now.tool c Apply) eq) asks)
  applier_here who asks (Migrating work) eq =
      apply_about plan front entry together run work eq (work_has work eq) going asks (is_reverting (actor_took plan Apply entry.answer now.tool.tool_phase tool).reason ≡ true)
      (λ request about kind. subst (λ (c : ToolPhase). is_reverting (actor_took plan Apply entry.answer c tool).reason ≡ true) (sym eq)
      (applier_reverts plan entry.answer work tool place number going off (ap (appliers.progress work.applier) refused ∙ applies_unfit work.applier work.applier.step request place number kind (takes request (about_own Apply request who about)))))

  -- *A row that doesn't fit reverts all*
  pub copier_reverted : entry.actor ≡ Copy → is_reverting (actor_took plan Copy entry.answer now.tool.tool_phase tool).reason ≡ true
  unfolding given
  copier_reverted who = copier_here who (asking plan front Copy entry.asked together.server (gives Copy who)) now.tool.tool_phase refl

  pub applier_reverted : entry.actor ≡ Apply → is_reverting (actor_took plan Apply entry.answer now.tool.tool_phase tool).reason ≡ true
  unfolding given
  applier_reverted who = applier_here who (asking plan front Apply entry.asked together.server (gives Apply who)) now.tool.tool_phase refl

  pub unfit_reverts : (entry.actor ≡ Copy) ⊎ (entry.actor ≡ Apply) → is_reverting (moment plan (front ++ entry ∷ [])).tool.reason ≡ true
  unfit_reverts (inl who) = heard Copy who (λ same. cc) (copier_reverted who)
  unfit_reverts (inr who) = heard Apply who (λ same. cc) (drain_keeps plan (actor_took plan Apply entry.answer now.tool.tool_phase tool) (applier_reverted who))

-- the row concerned is the copier's or the applier's
pub concerned_by : (plan : PlanData) (earlier : List Entry) (before : Moment) (actor : Actor) (key row : List Value) → concerned plan earlier before actor key ≡ Some row → (actor ≡ Copy) ⊎ (actor ≡ Apply)
concerned_by plan earlier before Copy key row is = inl refl
concerned_by plan earlier before Apply key row is = inr refl
concerned_by plan earlier before Op key row is = absurd cc
concerned_by plan earlier before Insp key row is = absurd cc
concerned_by plan earlier before Lock key row is = absurd cc
concerned_by plan earlier before Ren key row is = absurd cc
concerned_by plan earlier before (Client c) key row is = absurd cc

-- *Rows that don't fit are late*
pub unfit_late : UnfitRowsAreLate
unfit_late plan journal turn key column number cause fit stands kept unfit verdict = late_at plan journal turn unfit.entry cause kept unfit.is.from_one unfit.is.stands verdict (λ rest whole more_kept. by rest whole more_kept (is_reverting (moment plan (take (turn - 1) journal)).tool.reason) refl) where
  by : (rest : List Entry) → journal ≡ take (turn - 1) journal ++ unfit.entry ∷ rest → IsKept plan (take (turn - 1) journal ++ unfit.entry ∷ []) → (b : Bool) → is_reverting (moment plan (take (turn - 1) journal)).tool.reason ≡ b → is_reverting (moment plan (take (turn - 1) journal ++ unfit.entry ∷ [])).tool.reason ≡ true
  by rest whole more_kept true on = still (moment plan (take (turn - 1) journal)).tool.reason refl on where
    still : (reason : Option Reason) → (moment plan (take (turn - 1) journal)).tool.reason ≡ reason → is_reverting (moment plan (take (turn - 1) journal)).tool.reason ≡ true → is_reverting (moment plan (take (turn - 1) journal ++ unfit.entry ∷ [])).tool.reason ≡ true
    still None same on = absurd (false≢true (sym (ap is_reverting same) ∙ on))
    still (Some reason) same on = ap is_reverting (stays plan (take (turn - 1) journal) (unfit.entry ∷ []) reason same)
  by rest whole more_kept false going =
      unfit_reverts plan (take (turn - 1) journal) unfit.entry more_kept unfit.place number unfit.refused going (unrenamed_at plan journal (turn - 1) unfit.entry rest cause fit stands whole more_kept verdict)
      (concerned_by plan (take (turn - 1) journal) unfit.before unfit.entry.actor key unfit.row unfit.concerned)
