-- The chunks' turns stay within their term also once the RENAME is done, since the copier then has none; and so do the batches'.
use Rattle.std.proofs.Common.{◌≡◌, ◌≤◌, ℕ, ◌+◌, ◌*◌, Bool, true, false, cond, List, [], ◌∷◌, ◌++◌, refl, sym, ap, ◌∙◌, subst, arith, mul-le-mul_right}
use Rattle.std.specs.List.{list_any}
use Rattle.std.proofs.lemmas.Bool.{true≢false}
use Rattle.std.proofs.lemmas.Option.{none-some}
use Rattle.base_script.specs.declared.actor.Actor.{Actor}
use Rattle.base_script.specs.declared.actor.Actor.TheVariants.{Copy, Insp}
use Rattle.base_values.specs.Laws.{StoresAgain}
use Rattle.server_model.specs.Entries.{same_actor}
use Rattle.server_model.specs.declared.entry.Asked.TheVariants.{Call}
use Rattle.server_model.specs.declared.entry.Entry.{Entry}
use Rattle.server_model.specs.declared.request.Request.TheVariants as requests
use Rattle.plan_data.specs.PlanData.{PlanData}
use Rattle.tool_program.specs.JournalWords.Bounds.{events, keys, measures}
use Rattle.tool_program.specs.JournalWords.Histories.{history, is_alter}
use Rattle.tool_program.specs.JournalWords.Journals.{state_at}
use Rattle.tool_program.specs.JournalWords.Sessions.{live_session}
use Rattle.tool_program.specs.Programs.{given, tool_asks}
use Rattle.tool_program.specs.Tools.{Migrating, SettingUp, ToolPhase, moment}
use Rattle.proof_journals.specs.Machine.MigrationTables.{ToolPhaseTables, WorkTables}
use Rattle.proof_journals.specs.Machine.Runnable.{IsRunnable}
use Rattle.proof_journals.specs.Machine.Standings.{IsAbout, is_called, is_polled, standing_of}
use Rattle.proof_journals.specs.Plans.{IsSerialPlan}
use Rattle.proof_journals.specs.Run.Kept.{IsKept}
use Rattle.proof_journals.specs.ServerTurns.Others.{DefinitionsAreDone}
use Rattle.proof_journals.proofs.Machine.Journals.{Asking, IsRun}
use Rattle.proof_journals.proofs.Machine.Tabling.{IsTabled, all_tabled, copied_idle}
use Rattle.proof_migration.specs.ToolPhase.Unaltered.{IsUnaltered}
use Rattle.proof_migration.proofs.Once.Past.{IsPast, ToolPhasePast}
use Rattle.proof_migration.proofs.Program.Turns.Follows.{kept_front, kept_run}
use Rattle.proof_migration.proofs.KeptJournals.{each_kept}
use Rattle.proof_bounds.specs.Laws.{MayWait}
use Rattle.proof_bounds.specs.Parts.{OfBatches, OfChunks, part_of, rolls_back as is_rollback, same_part, turns_of_part}
use Rattle.proof_bounds.specs.Terms.{term_of}
use Rattle.proof_bounds.proofs.Counting.{count_none}
use Rattle.proof_bounds.specs.TaskTurns.Chunks.{ChunksGoOn, RowsStayFew}
use Rattle.proof_bounds.specs.TaskTurns.Totals.{BatchesStayWithin, ChunksStayWithin, NumbersStayFew}
use Rattle.proof_bounds.proofs.TaskTurns.Batches.{batch_few}
use Rattle.proof_bounds.proofs.TaskTurns.BatchesGo.{ServerLaws, batches_go}
use Rattle.proof_bounds.proofs.TaskTurns.Chunks.{chunk_few, chunk_none}
use Rattle.proof_bounds.proofs.TaskTurns.ChunksGo.{chunks_go}
use Rattle.proof_bounds.proofs.TaskTurns.Growing.{unaltered_so}
use Rattle.proof_bounds.proofs.TaskTurns.OwnTurns.{TaskTurn, chunk_turn, no_turn, own_asking}
use Rattle.proof_bounds.proofs.TaskTurns.Past.{past_at}

-- THE TERMS

regroup : (rows tries each : ℕ) → (rows + 1) * tries * each ≡ rows * (tries * each) + tries * each
regroup rows tries each = grind arith

-- so many chunks with the turns of all their tries
chunks_term : (turns number rows tries each : ℕ) (copied : Bool) → turns + cond copied (tries * each) 0 ≤ number * (tries * each) → number ≤ rows + cond copied 1 0 → turns ≤ (rows + 1) * tries * each
chunks_term turns number rows tries each copied paid few = subst (λ (n : ℕ). turns ≤ n) (sym (regroup rows tries each)) (by copied (tries * each) paid few) where
  one_more : (rows all : ℕ) → (rows + 1) * all ≡ rows * all + all
  one_more rows all = grind arith

  no_more : (rows all : ℕ) → (rows + 0) * all ≡ rows * all
  no_more rows all = grind arith

  by : (copied : Bool) (all : ℕ) → turns + cond copied all 0 ≤ number * all → number ≤ rows + cond copied 1 0 → turns ≤ rows * all + all
  by true all paid few = let times : number * all ≤ (rows + 1) * all = mul-le-mul_right all few in let last = one_more rows all in omega (arith, paid, times, last)
  by false all paid few = let times : number * all ≤ (rows + 0) * all = mul-le-mul_right all few in let same = no_more rows all in omega (arith, paid, times, same)

-- THE COPIER, ONCE THE RENAME IS DONE

module _ (defined : DefinitionsAreDone) (plan : PlanData) (runs : IsRunnable plan) (serial : IsSerialPlan plan) (journal : List Entry) (entry : Entry) (kept_more : IsKept plan (journal ++ entry ∷ [])) (done : list_any is_alter (history plan journal) ≡ true) where
  kept : IsKept plan journal
  kept = kept_front plan journal (entry ∷ []) kept_more

  run : IsRun plan journal entry
  run = kept_run plan journal entry kept_more

  tabled : IsTabled plan journal
  tabled = all_tabled plan journal runs.fitting runs.stands kept.faithful kept.follows

  past : IsPast plan journal
  past = past_at defined plan runs serial journal kept done

  copy_given : given plan journal Copy ≡ tool_asks plan journal (moment plan journal) Copy
  unfolding given
  copy_given = refl

  -- it only rolls back
  none_in : (tool_phase : ToolPhase) → (moment plan journal).tool.tool_phase ≡ tool_phase → TaskTurn Copy entry.actor entry.asked → ⊥
  none_in (SettingUp setup tries) eq turn = subst (ToolPhasePast plan (state_at plan journal).tables (standing_of plan journal Insp).waits) eq past
  none_in (Migrating work) eq turn = true≢false (sym (ap is_rollback rolled) ∙ turn.forward) where
    tables : WorkTables plan (state_at plan journal).tables (standing_of plan journal) work
    tables = subst (ToolPhaseTables plan (state_at plan journal).tables (standing_of plan journal)) eq tabled.tables

    copied_so : (b : Bool) → work.copier.is_copied ≡ b → b ≡ true
    copied_so true same = refl
    copied_so false off = absurd (none-some _ (sym (subst (ToolPhasePast plan (state_at plan journal).tables (standing_of plan journal Insp).waits) eq past).0 ∙ (tables.going off).tables.ghost))

    copied : work.copier.is_copied ≡ true
    copied = by (work.copier.is_copied) refl where
      by : (b : Bool) → work.copier.is_copied ≡ b → work.copier.is_copied ≡ true
      by b same = same ∙ copied_so b same

    asks : Asking plan journal Copy entry.asked
    asks = own_asking plan journal entry tabled.all.tool run Copy copy_given turn.who turn.uncut

    rolled : entry.asked ≡ Call requests.Rollback
    rolled = by (copied_idle plan journal entry tabled.all tabled.quiet run work eq copied (tables.copied copied) asks).1 where
      by : IsAbout requests.Rollback (standing_of plan journal Copy) entry.asked → entry.asked ≡ Call requests.Rollback
      by (is_called called_so idle) = called_so
      by (is_polled polled waits) = absurd (none-some requests.Rollback (sym (tables.copied copied) ∙ waits))

  no_chunk : TaskTurn Copy entry.actor entry.asked → ⊥
  no_chunk turn = none_in (moment plan journal).tool.tool_phase refl turn

-- *Chunks stay within their term*
module _ (again : StoresAgain) (defined : DefinitionsAreDone) (plan : PlanData) (runs : IsRunnable plan) (serial : IsSerialPlan plan) (may : MayWait plan) (some : 1 ≤ plan.options.default_retries) (rows_few : RowsStayFew plan) (numbers_few : NumbersStayFew plan) where
  abbrev Within : List Entry → Type 0
  Within journal = turns_of_part OfChunks plan journal ≤ term_of OfChunks (measures plan)

  go : ChunksGoOn plan
  go = chunks_go again defined plan runs serial rows_few

  -- until the RENAME is done
  before_within : (journal : List Entry) → IsKept plan journal → IsUnaltered plan journal → Within journal
  unfolding term_of
  before_within journal kept off = by (moment plan journal).tool.tool_phase refl where
    none : (n m : ℕ) → n ≡ 0 → n ≤ m
    none n m zero_so = omega (arith, zero_so)

    by : (tool_phase : ToolPhase) → (moment plan journal).tool.tool_phase ≡ tool_phase → turns_of_part OfChunks plan journal ≤ term_of OfChunks (measures plan)
    by (SettingUp setup tries) eq = none (turns_of_part OfChunks plan journal) (term_of OfChunks (measures plan)) (chunk_none plan journal runs may some go kept setup tries eq)
    by (Migrating work) eq =
        chunks_term (turns_of_part OfChunks plan journal) work.copier.number ((measures plan).rows + events (measures plan)) (measures plan).tries ((keys (measures plan) + 1) * (1 + (measures plan).tool_wait) + 2) work.copier.is_copied (chunk_few plan journal runs may some go kept work eq)
        (numbers_few journal kept off work eq)

  -- a turn of the copy, and so none once the RENAME is done
  own_turn : (journal : List Entry) (entry : Entry) → same_part OfChunks (part_of plan journal entry) ≡ true → TaskTurn Copy entry.actor entry.asked
  unfolding part_of
  own_turn journal entry own = chunk_turn (moment plan journal).tool.tool_phase (live_session journal entry.actor) entry.side entry.actor entry.asked own

  within_more : (journal : List Entry) (entry : Entry) → IsKept plan (journal ++ entry ∷ []) → Within journal → Within (journal ++ entry ∷ [])
  within_more journal entry kept_more within = by (list_any is_alter (history plan (journal ++ entry ∷ []))) refl where
    no_chunk_now : list_any is_alter (history plan (journal ++ entry ∷ [])) ≡ true → same_part OfChunks (part_of plan journal entry) ≡ true → ⊥
    no_chunk_now done own = by_before (list_any is_alter (history plan journal)) refl where
      by_before : (b : Bool) → list_any is_alter (history plan journal) ≡ b → ⊥
      by_before true before = no_chunk defined plan runs serial journal entry kept_more before (own_turn journal entry own)
      by_before false off =
          true≢false (sym done ∙ unaltered_so defined plan journal entry runs serial kept_more off (λ ren. true≢false (sym (ap (λ (a : Actor). same_actor a Copy) (own_turn journal entry own).who) ∙ ap (λ (a : Actor). same_actor a Copy) ren)))

    by : (b : Bool) → list_any is_alter (history plan (journal ++ entry ∷ [])) ≡ b → Within (journal ++ entry ∷ [])
    by false off = before_within (journal ++ entry ∷ []) kept_more off
    by true done = subst (λ (n : ℕ). n ≤ term_of OfChunks (measures plan)) (sym (no_turn OfChunks plan journal entry (no_chunk_now done))) within

  within_begins : Within []
  within_begins = let none = count_none OfChunks plan in omega (arith, none)

  chunks_within : (journal : List Entry) → IsKept plan journal → turns_of_part OfChunks plan journal ≤ term_of OfChunks (measures plan)
  chunks_within journal kept = each_kept plan Within within_more journal kept within_begins

pub chunks_stay : StoresAgain → DefinitionsAreDone → ChunksStayWithin
chunks_stay again defined plan runs serial may some rows_few numbers_few journal kept = chunks_within again defined plan runs serial may some rows_few numbers_few journal kept

-- *Batches stay within their term*
batches_term : (events tries each : ℕ) → (events + tries) * (tries * each) ≡ (events + tries) * tries * each
batches_term events tries each = grind arith

pub batches_stay : ServerLaws → BatchesStayWithin
unfolding term_of
batches_stay laws plan alterable runs serial may some logs journal kept =
    subst (λ (n : ℕ). turns_of_part OfBatches plan journal ≤ n) (batches_term (events (measures plan) + 4 * (measures plan).notes) (measures plan).tries (3 * (measures plan).batch * (1 + (measures plan).tool_wait) + 3))
    (batch_few laws.defined plan journal runs serial may some (batches_go laws plan alterable runs serial) logs kept)
