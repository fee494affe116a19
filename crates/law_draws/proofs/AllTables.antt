-- Numbers that are drawn, from every table, in every journal that is kept.
use Rattle.std.proofs.Common.{◌≡◌, ◌⊎◌, ℕ, ◌+◌, ◌≤◌, ◌<◌, Bool, true, false, List, [], ◌∷◌, ◌++◌, append_assoc, append-nil, length, Option, Some, None, refl, sym, ap, ◌∙◌, subst, inl, inr, arith}
use Rattle.std.specs.Prelude.{is_some}
use Rattle.std.specs.List.{AllByRecursion, list_any}
use Rattle.std.specs.Option.{option_map}
use Rattle.std.specs.Str.{bytes_eq}
use Rattle.std.proofs.lemmas.Bool.{true≢false, false≢true}
use Rattle.std.proofs.lemmas.List.{length-append}
use Rattle.std.proofs.lemmas.Option.{none-some}
use Rattle.base_values.specs.declared.gho_schema.schema.Schema.{Schema}
use Rattle.base_values.specs.GhoSchema.AutoIncrement.{auto_place}
use Rattle.base_values.specs.ToolNames.{ghost_name, is_tool_name}
use Rattle.base_script.specs.declared.actor.Actor.{Actor}
use Rattle.base_script.specs.declared.actor.Actor.TheVariants.{Op, Insp, Copy, Apply, Lock, Ren, Client}
use Rattle.base_script.specs.declared.statement.Statement.{Statement}
use Rattle.table_store.specs.Databases.{TableRows, find_table, name_table}
use Rattle.server_model.specs.Along.{Along}
use Rattle.server_model.specs.declared.entry.Asked.TheVariants.{Call}
use Rattle.server_model.specs.declared.entry.Entry.{Entry}
use Rattle.server_model.specs.declared.request.Request.{Request}
use Rattle.server_model.specs.declared.request.Request.TheVariants as requests
use Rattle.server_model.specs.Entries.{is_client}
use Rattle.server_model.specs.Operations.{table_of}
use Rattle.server_model.specs.States.{State, next_of}
use Rattle.server_model.proofs.LockedRows.Tests.{are_same}
use Rattle.plan_data.specs.PlanData.{PlanData, has_counter, new_altered, new_schema, old_schema}
use Rattle.tool_program.specs.declared.cutover_core.cutover.Drain.{Drain}
use Rattle.tool_program.specs.declared.cutover_core.cutover.Hold.{Hold}
use Rattle.tool_program.specs.declared.cutover_core.cutover.Phase.{Phase}
use Rattle.tool_program.specs.declared.cutover_core.cutover.Phase.TheVariants.{Resting, Attempting, Ending, Finishing, Finished}
use Rattle.tool_program.specs.declared.cutover_core.cutover.Role.TheVariants.{Renamer}
use Rattle.tool_program.specs.declared.cutover_core.cutover.Stage.TheVariants.{Guarding, Locking, Hinting, ReadingCounter, SettingCounter, Draining, Drained, Showing, Dropping, Unlocking, Exchanging}
use Rattle.tool_program.specs.CutoverCore.Attempts as attempts
use Rattle.tool_program.specs.JournalWords.Draws.{IsDrawn, asked_in, draws_on, drawn_from}
use Rattle.tool_program.specs.JournalWords.Histories.{entry_adds, history, is_alter}
use Rattle.tool_program.specs.JournalWords.Journals.{opening, state_after, state_at}
use Rattle.tool_program.specs.Programs.{IsGiven, given, tool_call}
use Rattle.tool_program.specs.Tools.{Work, ToolPhase, Migrating, is_reverting, moment}
use Rattle.proof_journals.specs.Ghost.Copies.{IsAltered}
use Rattle.proof_journals.specs.Machine.Machines as machines
use Rattle.proof_journals.specs.Machine.Machines.{ToolPhaseStands, WorkStands}
use Rattle.proof_journals.specs.Machine.MigrationTables.{ghost_schema, schema_of}
use Rattle.proof_journals.specs.Machine.Runnable.{IsRunnable}
use Rattle.proof_journals.specs.Machine.Standings.{Standing, IsAbout, is_called, is_polled, standing_of}
use Rattle.proof_journals.specs.Plans.{IsSerialPlan}
use Rattle.proof_journals.specs.Run.Kept.{IsKept}
use Rattle.proof_journals.specs.Sentry.Sentries.{Fits, HasSentry, scene}
use Rattle.proof_journals.specs.Sentry.TurnResults.{Holds, IsGuarded, IsTurned, ToolPhaseHolds, last_session}
use Rattle.proof_journals.proofs.Journals.{state_more}
use Rattle.proof_journals.proofs.Machine.Journals.{Asking, IsRun, IsTogether, calls_so, polls_so}
use Rattle.proof_journals.proofs.Machine.Polling.{AllWaits, waits_begin, waits_more}
use Rattle.proof_journals.proofs.Sentry.Inductions.{all_guarded}
use Rattle.proof_migration.specs.CutOver.{IsRename}
use Rattle.proof_migration.specs.Migration.Planning.{migration_of}
use Rattle.proof_migration.specs.ToolPhase.Unaltered.{IsUnaltered}
use Rattle.proof_migration.proofs.CutOver.Renames.{Found, renames_found}
use Rattle.proof_migration.proofs.Once.Past.{GoesPast, IsPast, goes_past, exchange_gives}
use Rattle.proof_migration.proofs.Once.Renames.{renamed_past, unaltered_more}
use Rattle.proof_migration.proofs.Program.Turns.Follows.{kept_front, kept_run, unmarked_now}
use Rattle.proof_migration.proofs.ToolPhase.Unaltered.Asking.{AskedAs}
use Rattle.proof_migration.proofs.ToolPhase.Unaltered.Away.{IsKnownAsked, all_asked, tool_not_mine}
use Rattle.proof_plans.proofs.Tables.Old.{RenameLaws, tables_renamed, finds}
use Rattle.proof_plans.proofs.Tables.Turns.{TurnAbout, asks_so, rests_so, turn_about}
use Rattle.law_draws.specs.OtherTables.{MayCount}
use Rattle.law_draws.specs.SmallNumbers.{CountsIn}
use Rattle.law_draws.proofs.AskedCounters.{given_fits}
use Rattle.law_draws.proofs.Carried.{CarriedAt, IsNoLess, ToolPhaseCarried}
use Rattle.law_draws.proofs.CarriedTurns.{HasBoth, IsCarried, carried_begins, carried_more}
use Rattle.law_draws.proofs.Exchange.{CountingPlan, exchange_keeps}
use Rattle.law_draws.proofs.Migrated.{about_asks, kept_more, keeps_on, none_asks, schema_on, undone}
use Rattle.law_draws.proofs.NewTable.{IsSmall, MayMake, SmallAsks, counts_named, small_more}
use Rattle.law_draws.proofs.OtherTables.{Keeps, drawn_asks, drawn_client, drawn_place, drawn_schema, keeps_begins, keeps_drawn, other_tables_draw, table_well}
use Rattle.law_draws.proofs.Starting.{small_begins}

-- WHAT THE RENAME FINDS

-- where it waits, or is asked for, and the sentry is gone, the new table's counter is no less
less_at : (plan : PlanData) (state : State) (hold : Hold) (waits : Bool) (phase : Phase) → Fits phase hold waits → (waits ≡ true) ⊎ (phase ≡ Attempting Drained) → (HasSentry plan.table (scene state) → ⊥) → CarriedAt plan state waits phase → IsNoLess plan state
less_at plan state hold waits phase fits asked gone carried = by phase fits asked carried where
  no_drained : (other : Phase) → waits ≡ false → (waits ≡ true) ⊎ (other ≡ Attempting Drained) → (other ≡ Attempting Drained → ⊥) → IsNoLess plan state
  no_drained other off (inl on) differ = absurd (true≢false (sym on ∙ off))
  no_drained other off (inr at) differ = absurd (differ at)

  by : (phase : Phase) → Fits phase hold waits → (waits ≡ true) ⊎ (phase ≡ Attempting Drained) → CarriedAt plan state waits phase → IsNoLess plan state
  by Resting fits asked carried = no_drained Resting fits.1 asked (λ same. cc)
  by (Attempting Guarding) fits asked carried = no_drained (Attempting Guarding) carried asked (λ same. cc)
  by (Attempting Locking) fits asked carried = no_drained (Attempting Locking) carried asked (λ same. cc)
  by (Attempting Hinting) fits asked carried = no_drained (Attempting Hinting) carried asked (λ same. cc)
  by (Attempting (ReadingCounter drain)) fits asked carried = no_drained (Attempting (ReadingCounter drain)) carried asked (λ same. cc)
  by (Attempting (SettingCounter number drain)) fits asked carried = no_drained (Attempting (SettingCounter number drain)) carried.0 asked (λ same. cc)
  by (Attempting (Draining turns)) fits asked carried = carried
  by (Attempting Drained) fits asked carried = carried
  by (Attempting Showing) fits asked carried = carried
  by (Attempting Dropping) fits asked carried = carried
  by (Attempting Unlocking) fits asked carried = carried
  by (Attempting Exchanging) fits asked carried = carried
  by (Ending clearing) fits (inl on) carried = each (carried on) where
    each : HasSentry plan.table (scene state) ⊎ IsNoLess plan state → IsNoLess plan state
    each (inl there) = absurd (gone there)
    each (inr less) = less
  by (Ending clearing) fits (inr at) carried = absurd (let no : Ending clearing ≡ Attempting Drained = at in cc)
  by (Finishing clearing) fits asked carried = no_drained (Finishing clearing) fits asked (λ same. cc)
  by Finished fits asked carried = no_drained Finished fits asked (λ same. cc)

-- UNTIL THE RENAME

module _ (laws : RenameLaws) (plan : PlanData) (runs : IsRunnable plan) (serial : IsSerialPlan plan) (counting : CountingPlan plan) where
  abbrev t : List ℕ
  t = plan.table

  abbrev gho : List ℕ
  gho = ghost_name plan.table

  carries : has_counter plan ≡ true
  carries = ap is_some counting.old_auto

  may : MayMake (new_schema plan)
  may = record { counts = counts; start = counting.new_start } where
    counts : (place : ℕ) → auto_place (new_schema plan) ≡ Some place → CountsIn (new_schema plan) place
    counts place auto = let both : Some counting.new_place ≡ Some place = sym counting.new_auto ∙ auto in let same : counting.new_place ≡ place = cc in subst (CountsIn (new_schema plan)) same counting.new_counts

  abbrev most : ℕ → ℕ
  most count = 9223372036854775808 + count

  abbrev Waits : ℕ → Actor → Request → Type 0
  Waits count actor request = SmallAsks gho (most count) (Some request)

  -- what is so of a journal before the RENAME
  pub record BeforeIt (journal : List Entry) : Type 0 where
    off : IsUnaltered plan journal
    keeps : Keeps t (old_schema plan) counting.old_place (length journal) (state_at plan journal) (draws_on plan journal t)
    small : IsSmall gho (length journal) (state_at plan journal)
    waits : AllWaits (Waits (length journal)) plan journal
    carried : IsCarried plan journal

  small_weaker : (a b : ℕ) → a ≤ b → (asks : Option Request) → SmallAsks gho a asks → SmallAsks gho b asks
  small_weaker a b less (Some (requests.Create schema)) fits = fits
  small_weaker a b less (Some (requests.SetCounter table number)) fits = omega (arith, less, fits)
  small_weaker a b less (Some request) fits = tt
  small_weaker a b less None fits = tt

  -- ONE TURN

  module _ (journal : List Entry) (entry : Entry) (kept : IsKept plan (journal ++ entry ∷ [])) (few : length journal < 9223372036854775807) (is : BeforeIt journal) where
    abbrev more : List Entry
    more = journal ++ entry ∷ []

    abbrev state : State
    state = state_at plan journal

    before : IsKept plan journal
    before = kept_front plan journal (entry ∷ []) kept

    run : IsRun plan journal entry
    run = kept_run plan journal entry kept

    known : IsKnownAsked plan journal
    known = all_asked plan journal runs before.faithful before.follows

    -- the number that is set next is the old table's counter
    sets_small : (work : Work) → (moment plan journal).tool.tool_phase ≡ Migrating work → (number : ℕ) (drain : Drain) → work.cutover.phase ≡ Attempting (SettingCounter number drain) → number ≤ most (length journal)
    sets_small work eq number drain at =
        let shown : next_of t state.counters ≡ Some number = (subst (CarriedAt plan state work.cutover.renamer_waits) at (subst (ToolPhaseCarried plan state) eq is.carried)).1 in
        let both : Some is.keeps.next ≡ Some number = sym is.keeps.counter ∙ shown in
        let same : is.keeps.next ≡ number = cc in
        subst (λ (n : ℕ). n ≤ most (length journal)) same is.keeps.small

    called_fits : (request : Request) → given plan journal entry.actor ≡ Some (Call request) → SmallAsks gho (most (length journal)) (Some request)
    called_fits request gives = given_fits plan (most (length journal)) may journal sets_small entry.actor request gives

    asked_fits : SmallAsks gho (most (length journal)) (asked_in state entry)
    asked_fits = by (turn_about plan journal entry known run) where
      of_request : (request : Request) → IsAbout request (standing_of plan journal entry.actor) entry.asked → SmallAsks gho (most (length journal)) (Some request)
      of_request request (is_called same none) = called_fits request (subst (IsGiven plan journal entry) same run.followed.given)
      of_request request (is_polled same some) = is.waits entry.actor request some

      by : TurnAbout plan journal entry → SmallAsks gho (most (length journal)) (asked_in state entry)
      by (asks_so request about requested asked quiet) = subst (SmallAsks gho (most (length journal))) (sym (about_asks plan journal entry known run request about)) (of_request request about)
      by (rests_so rests) = subst (SmallAsks gho (most (length journal))) (sym (none_asks plan journal entry rests)) tt

    waits_on : AllWaits (Waits (length more)) plan more
    waits_on = waits_more (Waits (length more)) plan journal entry known.marking.tabled.all (λ a request some. up (Some request) (is.waits a request some)) run (λ request asks gives. up (Some request) (called_fits request gives)) where
      up : (asks : Option Request) → SmallAsks gho (most (length journal)) asks → SmallAsks gho (most (length more)) asks
      up asks fits = let longer = length-append journal (entry ∷ []) in small_weaker (most (length journal)) (most (length more)) (omega (arith, longer)) asks fits

    -- the turns so far are turns of the cut-over
    module _ (off : IsUnaltered plan more) where
      turned : Along (IsTurned plan) [] more
      turned = laws.turned plan more runs serial kept off

      guarded : IsGuarded plan journal
      guarded = all_guarded plan journal (laws.turned plan journal runs serial before is.off)

      has_both : (work : Work) → (moment plan journal).tool.tool_phase ≡ Migrating work → HasBoth plan state
      has_both work eq = record {
        old = (is.keeps.next, is.keeps.counter);
        new = is.small.has (ghost_schema plan) (unmarked_now plan journal work known is.off eq).ghost counting.new_place counting.new_auto;
      }

    -- *Before it still*
    none_altered : list_any is_alter (entry_adds plan journal entry) ≡ false → BeforeIt more
    none_altered none =
        let off : IsUnaltered plan more = unaltered_more plan journal entry is.off none in
        record {
          off = off;
          keeps = keeps_on plan serial runs (old_schema plan) counting.old_place counting.old_auto counting.old_counts journal entry kept none few is.keeps;
          small = subst (λ (n : ℕ). IsSmall gho n (state_at plan more)) (sym (length-append journal (entry ∷ [])))
              (subst (IsSmall gho (length journal + 1)) (sym (state_more (opening plan) journal entry)) (small_more gho (length journal) state entry is.small (undone plan serial runs journal entry known run none) asked_fits));
          waits = waits_on;
          carried = carried_more plan serial runs journal entry kept off (guarded off) (along_last (IsTurned plan) [] journal entry (turned off)) carries is.carried (has_both off);
        } where
          along_last : (P : List Entry → Entry → Type 0) (some rest : List Entry) (one : Entry) → Along P some (rest ++ one ∷ []) → P (some ++ rest) one
          along_last P some [] one along = subst (λ (l : List Entry). P l one) (sym (append-nil some)) along.0
          along_last P some (first ∷ rest) one along = subst (λ (l : List Entry). P l one) (append_assoc some (first ∷ []) rest) (along_last P (some ++ first ∷ []) rest one along.1)

    -- *The RENAME*
    renames_less : (rename : IsRename plan journal entry) → IsNoLess plan state
    unfolding attempts.next
    renames_less rename =
        less_at plan state finds.work.cutover.hold finds.work.cutover.renamer_waits finds.work.cutover.phase holds.fits asked (λ there. true≢false (sym there ∙ finds.renamed.free)) (subst (ToolPhaseCarried plan state) finds.tool_phase is.carried) where
          finds : Found plan journal entry
          finds = renames_found laws.alone laws.done laws.reported laws.turned plan journal entry runs serial rename

          together : IsTogether plan journal
          together = known.marking.tabled.all.tool

          holds : Holds plan (moment plan journal).server (last_session journal Lock) (last_session journal Ren) finds.work
          holds = subst (ToolPhaseHolds plan (moment plan journal).server (last_session journal Lock) (last_session journal Ren)) finds.tool_phase (all_guarded plan journal (laws.turned plan journal runs serial before rename.unaltered)).tool_phase

          stands : WorkStands journal (is_reverting (moment plan journal).tool.reason) (standing_of plan journal) finds.work
          stands = subst (ToolPhaseStands journal (standing_of plan journal) (is_reverting (moment plan journal).tool.reason)) finds.tool_phase together.stands

          drained : (request : Request) → attempts.next Renamer finds.work.cutover ≡ Some request → finds.work.cutover.phase ≡ Attempting Drained
          drained request call = by finds.work.cutover.phase call where
            by : (phase : Phase) → attempts.renamer_call finds.work.cutover phase ≡ Some request → phase ≡ Attempting Drained
            by (Attempting Drained) call = refl
            by (Attempting stage) call = absurd cc
            by Resting call = absurd cc
            by (Ending clearing) call = absurd cc
            by (Finishing clearing) call = absurd cc
            by Finished call = absurd cc

          waits_true : (b : Bool) (request : Request) → (machines.renaming finds.work.cutover.table b).waits ≡ Some request → b ≡ true
          waits_true true request some = refl
          waits_true false request some = absurd cc

          asked : (finds.work.cutover.renamer_waits ≡ true) ⊎ (finds.work.cutover.phase ≡ Attempting Drained)
          asked = by finds.asks where
            by : Asking plan journal Ren entry.asked → (finds.work.cutover.renamer_waits ≡ true) ⊎ (finds.work.cutover.phase ≡ Attempting Drained)
            by (calls_so request asks idle call) = inr (drained request (ap (λ (c : ToolPhase). tool_call plan (moment plan journal).server journal (moment plan journal).tool c Ren) (sym finds.tool_phase) ∙ call))
            by (polls_so request asks some) = inl (waits_true finds.work.cutover.renamer_waits request (ap (λ (s : Standing). s.waits) (sym stands.renamer) ∙ some))

  -- AFTER IT

  abbrev after_schema : Schema
  after_schema = record (new_schema plan) { name = t }

  pub data Table (journal : List Entry) : Type 0 where
    before_so : BeforeIt journal → Table journal
    after_so : IsPast plan journal → Keeps t after_schema counting.new_place (length journal) (state_at plan journal) (draws_on plan journal t) → Table journal

  module _ (altered : (journal : List Entry) (entry : Entry) → IsRename plan journal entry → IsAltered (migration_of (old_schema plan) (new_altered plan)) (state_at plan journal).tables) where
    table_more : (journal : List Entry) (entry : Entry) → IsKept plan (journal ++ entry ∷ []) → length journal < 9223372036854775807 → Table journal → Table (journal ++ entry ∷ [])
    table_more journal entry kept few (before_so is) = by (list_any is_alter (entry_adds plan journal entry)) refl where
      renamed : IsRename plan journal entry → Table (journal ++ entry ∷ [])
      renamed rename =
          after_so (renamed_past laws.done plan journal entry runs serial kept is.off rename.alters)
          (kept_more plan serial runs (old_schema plan) counting.old_place counting.old_auto counting.old_counts journal entry after_schema counting.new_place
          (subst (λ (s : State). Keeps t after_schema counting.new_place (length journal + 1) s (draws_on plan journal t ++ drawn_from entry.draw t (asked_in (state_at plan journal) entry))) (state_more (opening plan) journal entry)
          (exchange_keeps laws plan runs serial journal entry rename counting (altered journal entry rename) carries (renames_less journal entry kept few is rename) is.small (draws_on plan journal t) is.keeps)))

      by : (b : Bool) → list_any is_alter (entry_adds plan journal entry) ≡ b → Table (journal ++ entry ∷ [])
      by false none = before_so (none_altered journal entry kept few is none)
      by true alters = renamed (record { kept = kept; unaltered = is.off; alters = alters })
    table_more journal entry kept few (after_so past keeps) =
        let before : IsKept plan journal = kept_front plan journal (entry ∷ []) kept in
        let goes : GoesPast plan journal entry = goes_past laws.done plan journal entry serial runs (all_asked plan journal runs before.faithful before.follows) (kept_run plan journal entry kept) past in
        after_so goes.past (keeps_on plan serial runs after_schema counting.new_place counting.new_auto (counts_named (new_schema plan) t counting.new_place counting.new_counts) journal entry kept (none (list_any is_alter (entry_adds plan journal entry)) goes.unaltered) few keeps) where
          none : (b : Bool) → (b ≡ true → ⊥) → b ≡ false
          none true never = absurd (never refl)
          none false never = refl

    all_tables : (some journal : List Entry) → IsKept plan (some ++ journal) → length (some ++ journal) < 9223372036854775807 → Table some → Table (some ++ journal)
    all_tables some [] kept few is = subst Table (sym (append-nil some)) is
    all_tables some (entry ∷ journal) kept few is =
        let same : (some ++ entry ∷ []) ++ journal ≡ some ++ entry ∷ journal = append_assoc some (entry ∷ []) journal in
        let later : IsKept plan ((some ++ entry ∷ []) ++ journal) = subst (IsKept plan) (sym same) kept in
        let longer = length-append some (entry ∷ journal) in
        subst Table same
        (all_tables (some ++ entry ∷ []) journal later (subst (λ (l : List Entry). length l < 9223372036854775807) (sym same) few)
        (table_more some entry (kept_front plan (some ++ entry ∷ []) journal later) (omega (arith, longer, few)) is))

    -- *What is drawn from the migrated table*, whichever table has its name
    pub migrated_draws : Table [] → (journal : List Entry) (entry : Entry) (number : ℕ) (statement : Statement) → IsKept plan (journal ++ entry ∷ []) → length journal < 9223372036854775807 → entry.draw ≡ Some number → asked_in (state_at plan journal) entry ≡ Some (requests.Do statement) → table_of statement ≡ t → IsDrawn plan journal entry number
    migrated_draws begins journal entry number statement kept few drew asks own = by (all_tables [] journal before few begins) where
      before : IsKept plan journal
      before = kept_front plan journal (entry ∷ []) kept

      run : IsRun plan journal entry
      run = kept_run plan journal entry kept

      kept_so : (schema : Schema) (place : ℕ) → auto_place schema ≡ Some place → Keeps t schema place (length journal) (state_at plan journal) (draws_on plan journal t) → IsDrawn plan journal entry number
      kept_so schema place auto keeps =
          keeps_drawn plan journal entry number statement before run.answered run.followed drew asks few schema place auto
          (subst (λ (n : List ℕ). Keeps n schema place (length journal) (state_at plan journal) (draws_on plan journal n)) (sym own) keeps)

      by : Table journal → IsDrawn plan journal entry number
      by (before_so is) = kept_so (old_schema plan) counting.old_place counting.old_auto is.keeps
      by (after_so past keeps) = kept_so after_schema counting.new_place counting.new_auto keeps

  -- AT THE OPENING

  pub table_begins : AllByRecursion MayCount plan.tables → (table : TableRows) → find_table t plan.tables ≡ Some table → table.schema ≡ old_schema plan → Table []
  unfolding state_after history
  table_begins counts table found same = before_so (record {
    off = refl;
    keeps = keeps_begins t (old_schema plan) counting.old_place counting.old_auto plan table found same (table_well t plan.tables table counts found counting.old_place (ap auto_place same ∙ counting.old_auto));
    small = small_begins gho plan counts;
    waits = waits_begin (Waits 0) plan;
    carried = carried_begins plan;
  })

-- A NEW TABLE WITHOUT A COUNTER

-- where the ALTER leaves no AUTO_INCREMENT column, no number is drawn from the table after the RENAME
module _ (laws : RenameLaws) (plan : PlanData) (runs : IsRunnable plan) (serial : IsSerialPlan plan) (new_none : auto_place (new_schema plan) ≡ None) (old_counts : (place : ℕ) → auto_place (old_schema plan) ≡ Some place → CountsIn (old_schema plan) place) where
  -- so far it is as it was
  record AsItWas (journal : List Entry) : Type 0 where
    off : IsUnaltered plan journal
    schema : schema_of plan.table (state_at plan journal).tables ≡ Some (old_schema plan)
    keeps : (place : ℕ) → auto_place (old_schema plan) ≡ Some place → Keeps plan.table (old_schema plan) place (length journal) (state_at plan journal) (draws_on plan journal plan.table)

  abbrev IsPlain : List Entry → Type 0
  IsPlain journal = (schema : Schema) → schema_of plan.table (state_at plan journal).tables ≡ Some schema → auto_place schema ≡ None

  data Plain (journal : List Entry) : Type 0 where
    plain_before : AsItWas journal → Plain journal
    plain_after : IsPast plan journal → IsPlain journal → Plain journal

  plain_renamed : (journal : List Entry) (entry : Entry) → IsRename plan journal entry → IsPlain (journal ++ entry ∷ [])
  plain_renamed journal entry rename schema found =
      by (find_table (ghost_name plan.table) (state_at plan journal).tables) refl (sym (ap (option_map (λ (one : TableRows). one.schema)) (exchange_gives plan.table (state_at plan journal).tables (state_at plan (journal ++ entry ∷ [])).tables (tables_renamed laws plan runs serial journal entry rename))) ∙ found) where
        before : IsKept plan journal
        before = kept_front plan journal (entry ∷ []) rename.kept

        ghost : schema_of (ghost_name plan.table) (state_at plan journal).tables ≡ Some (ghost_schema plan)
        ghost = (unmarked_now plan journal (finds laws plan runs serial journal entry rename).work (all_asked plan journal runs before.faithful before.follows) rename.unaltered (finds laws plan runs serial journal entry rename).tool_phase).ghost

        by : (one : Option TableRows) → find_table (ghost_name plan.table) (state_at plan journal).tables ≡ one → option_map (λ (one : TableRows). one.schema) (option_map (name_table plan.table) one) ≡ Some schema → auto_place schema ≡ None
        by None none is = absurd cc
        by (Some table) some is =
            let made : record (table.schema) { name = plan.table } ≡ schema = cc in
            let both : Some table.schema ≡ Some (ghost_schema plan) = sym (ap (option_map (λ (one : TableRows). one.schema)) some) ∙ ghost in
            let same : table.schema ≡ ghost_schema plan = cc in
            ap auto_place (sym made) ∙ ap auto_place same ∙ new_none

  plain_more : (journal : List Entry) (entry : Entry) → IsKept plan (journal ++ entry ∷ []) → length journal < 9223372036854775807 → Plain journal → Plain (journal ++ entry ∷ [])
  plain_more journal entry kept few (plain_before is) = by (list_any is_alter (entry_adds plan journal entry)) refl where
    by : (b : Bool) → list_any is_alter (entry_adds plan journal entry) ≡ b → Plain (journal ++ entry ∷ [])
    by false none = plain_before (record {
      off = unaltered_more plan journal entry is.off none;
      schema = schema_on plan serial runs journal entry kept none ∙ is.schema;
      keeps = λ place auto. keeps_on plan serial runs (old_schema plan) place auto (old_counts place auto) journal entry kept none few (is.keeps place auto);
    })
    by true alters = plain_after (renamed_past laws.done plan journal entry runs serial kept is.off alters) (plain_renamed journal entry (record { kept = kept; unaltered = is.off; alters = alters }))
  plain_more journal entry kept few (plain_after past is) =
      let before : IsKept plan journal = kept_front plan journal (entry ∷ []) kept in
      let goes : GoesPast plan journal entry = goes_past laws.done plan journal entry serial runs (all_asked plan journal runs before.faithful before.follows) (kept_run plan journal entry kept) past in
      plain_after goes.past (on (none (list_any is_alter (entry_adds plan journal entry)) goes.unaltered)) where
        none : (b : Bool) → (b ≡ true → ⊥) → b ≡ false
        none true never = absurd (never refl)
        none false never = refl

        on : list_any is_alter (entry_adds plan journal entry) ≡ false → IsPlain (journal ++ entry ∷ [])
        on off schema found = is schema (sym (schema_on plan serial runs journal entry kept off) ∙ found)

  all_plain : (some journal : List Entry) → IsKept plan (some ++ journal) → length (some ++ journal) < 9223372036854775807 → Plain some → Plain (some ++ journal)
  all_plain some [] kept few is = subst Plain (sym (append-nil some)) is
  all_plain some (entry ∷ journal) kept few is =
      let same : (some ++ entry ∷ []) ++ journal ≡ some ++ entry ∷ journal = append_assoc some (entry ∷ []) journal in
      let later : IsKept plan ((some ++ entry ∷ []) ++ journal) = subst (IsKept plan) (sym same) kept in
      let longer = length-append some (entry ∷ journal) in
      subst Plain same
      (all_plain (some ++ entry ∷ []) journal later (subst (λ (l : List Entry). length l < 9223372036854775807) (sym same) few)
      (plain_more some entry (kept_front plan (some ++ entry ∷ []) journal later) (omega (arith, longer, few)) is))

  plain_begins : AllByRecursion MayCount plan.tables → (table : TableRows) → find_table plan.table plan.tables ≡ Some table → table.schema ≡ old_schema plan → Plain []
  unfolding state_after history
  plain_begins counts table found same = plain_before (record {
    off = refl;
    schema = ap (option_map (λ (one : TableRows). one.schema)) found ∙ ap Some same;
    keeps = λ place auto. keeps_begins plan.table (old_schema plan) place auto plan table found same (table_well plan.table plan.tables table counts found place (ap auto_place same ∙ auto));
  })

  -- *What is drawn from it* is drawn before the RENAME
  pub plain_draws : AllByRecursion MayCount plan.tables → (table : TableRows) → find_table plan.table plan.tables ≡ Some table → table.schema ≡ old_schema plan → (journal : List Entry) (entry : Entry) (number : ℕ) (statement : Statement) → IsKept plan (journal ++ entry ∷ []) → length journal < 9223372036854775807 → entry.draw ≡ Some number
      → asked_in (state_at plan journal) entry ≡ Some (requests.Do statement) → table_of statement ≡ plan.table → IsDrawn plan journal entry number
  plain_draws counts table found same journal entry number statement kept few drew asks own = by (all_plain [] journal before few (plain_begins counts table found same)) where
    before : IsKept plan journal
    before = kept_front plan journal (entry ∷ []) kept

    run : IsRun plan journal entry
    run = kept_run plan journal entry kept

    -- it has an AUTO_INCREMENT column then
    place_of : (schema : Schema) → schema_of plan.table (state_at plan journal).tables ≡ Some schema → (place : ℕ) × (auto_place schema ≡ Some place)
    place_of schema has = drawn_place plan journal entry number statement before run.answered run.followed drew asks schema (ap (λ (n : List ℕ). schema_of n (state_at plan journal).tables) own ∙ has)

    by : Plain journal → IsDrawn plan journal entry number
    by (plain_before is) =
        let place = place_of (old_schema plan) is.schema in
        keeps_drawn plan journal entry number statement before run.answered run.followed drew asks few (old_schema plan) place.0 place.1
        (subst (λ (n : List ℕ). Keeps n (old_schema plan) place.0 (length journal) (state_at plan journal) (draws_on plan journal n)) (sym own) (is.keeps place.0 place.1))
    by (plain_after past is) =
        let has = drawn_schema plan journal entry number statement before run.answered run.followed drew asks in
        let here = ap (λ (n : List ℕ). schema_of n (state_at plan journal).tables) (sym own) ∙ has in
        let place = place_of _ here in
        let no : Some place.0 ≡ None = sym place.1 ∙ is _ here in
        absurd cc

-- EVERY TABLE

-- what a plan has, where its ALTER leaves an AUTO_INCREMENT column, and where it leaves none
pub data Counts (plan : PlanData) : Type 0 where
  counts_so : CountingPlan plan → Counts plan
  plain_so : auto_place (new_schema plan) ≡ None → ((place : ℕ) → auto_place (old_schema plan) ≡ Some place → CountsIn (old_schema plan) place) → Counts plan

-- the laws that this stands on, of one plan
pub record PlanLaws (plan : PlanData) : Type 0 where
  pub rename : RenameLaws
  pub runs : IsRunnable plan
  pub serial : IsSerialPlan plan
  pub may : AllByRecursion MayCount plan.tables
  pub counts : Counts plan
  pub table : TableRows
  pub found : find_table plan.table plan.tables ≡ Some table
  pub same : table.schema ≡ old_schema plan
  pub altered : (journal : List Entry) (entry : Entry) → IsRename plan journal entry → IsAltered (migration_of (old_schema plan) (new_altered plan)) (state_at plan journal).tables

module _ (plan : PlanData) (laws : PlanLaws plan) where
  -- a client's statement is of no table of the tool's
  client_table : (journal : List Entry) (entry : Entry) (statement : Statement) → IsKept plan (journal ++ entry ∷ []) → is_client entry.actor ≡ true → asked_in (state_at plan journal) entry ≡ Some (requests.Do statement) → is_tool_name plan.table (table_of statement) ≡ false
  client_table journal entry statement kept client asks = by (turn_about plan journal entry known run) where
    before : IsKept plan journal
    before = kept_front plan journal (entry ∷ []) kept

    run : IsRun plan journal entry
    run = kept_run plan journal entry kept

    known : IsKnownAsked plan journal
    known = all_asked plan journal laws.runs before.faithful before.follows

    named : (actor : Actor) → is_client actor ≡ true → AskedAs plan actor (requests.Do statement) → is_tool_name plan.table (table_of statement) ≡ false
    named (Client c) is mine = at (is_tool_name plan.table (table_of statement)) refl where
      at : (b : Bool) → is_tool_name plan.table (table_of statement) ≡ b → b ≡ false
      at false off = refl
      at true tool = absurd (true≢false (sym mine ∙ tool_not_mine plan (table_of statement) laws.serial tool))
    named Op is mine = absurd (false≢true is)
    named Insp is mine = absurd (false≢true is)
    named Copy is mine = absurd (false≢true is)
    named Apply is mine = absurd (false≢true is)
    named Lock is mine = absurd (false≢true is)
    named Ren is mine = absurd (false≢true is)

    by : TurnAbout plan journal entry → is_tool_name plan.table (table_of statement) ≡ false
    by (asks_so request about requested asked quiet) =
        let both : Some request ≡ Some (requests.Do statement) = sym (about_asks plan journal entry known run request about) ∙ asks in
        let one : request ≡ requests.Do statement = cc in
        named entry.actor client (subst (AskedAs plan entry.actor) one asked)
    by (rests_so rests) = absurd (none-some (requests.Do statement) (sym (none_asks plan journal entry rests) ∙ asks))

  -- *One turn*
  one_drawn : (journal : List Entry) (entry : Entry) → IsKept plan (journal ++ entry ∷ []) → length journal < 9223372036854775807 → (number : ℕ) → entry.draw ≡ Some number → IsDrawn plan journal entry number
  one_drawn journal entry kept few number drew = by (bytes_eq statement_name plan.table) refl where
    before : IsKept plan journal
    before = kept_front plan journal (entry ∷ []) kept

    run : IsRun plan journal entry
    run = kept_run plan journal entry kept

    drawn : (statement : Statement) × (asked_in (state_at plan journal) entry ≡ Some (requests.Do statement))
    drawn = drawn_asks (state_at plan journal) entry number run.answered drew

    statement_name : List ℕ
    statement_name = table_of drawn.0

    migrated : Counts plan → statement_name ≡ plan.table → IsDrawn plan journal entry number
    migrated (counts_so counting) own =
        migrated_draws laws.rename plan laws.runs laws.serial counting laws.altered (table_begins laws.rename plan laws.runs laws.serial counting laws.may laws.table laws.found laws.same) journal entry number drawn.0 kept few drew drawn.1 own
    migrated (plain_so none counts) own = plain_draws laws.rename plan laws.runs laws.serial none counts laws.may laws.table laws.found laws.same journal entry number drawn.0 kept few drew drawn.1 own

    by : (b : Bool) → bytes_eq statement_name plan.table ≡ b → IsDrawn plan journal entry number
    by true own = migrated laws.counts (are_same statement_name plan.table own)
    by false off =
        other_tables_draw plan journal entry number drawn.0 laws.may few before run.answered run.followed drew drawn.1
        (rw (off, client_table journal entry drawn.0 kept (drawn_client plan journal entry number drawn.0 before run.answered run.followed drew drawn.1) drawn.1) refl)

  -- *Whole journals*
  pub all_drawn : (some journal : List Entry) → IsKept plan (some ++ journal) → length (some ++ journal) ≤ 9223372036854775807 → Along (λ before entry. (number : ℕ) → entry.draw ≡ Some number → IsDrawn plan before entry number) some journal
  all_drawn some [] kept few = tt
  all_drawn some (entry ∷ journal) kept few =
      let same : (some ++ entry ∷ []) ++ journal ≡ some ++ entry ∷ journal = append_assoc some (entry ∷ []) journal in
      let later : IsKept plan ((some ++ entry ∷ []) ++ journal) = subst (IsKept plan) (sym same) kept in
      let longer = length-append some (entry ∷ journal) in
      (one_drawn some entry (kept_front plan (some ++ entry ∷ []) journal later) (omega (arith, longer, few)), all_drawn (some ++ entry ∷ []) journal later (subst (λ (l : List Entry). length l ≤ 9223372036854775807) (sym same) few))
