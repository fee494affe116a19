-- The copy of a chunk takes as many turns a try as its keys and their waits come to, and the next chunk begins after its commit.
use Rattle.std.proofs.Common.{◌≡◌, ◌≤◌, ◌<◌, ℕ, ◌+◌, ◌*◌, Bool, true, false, cond, List, [], ◌∷◌, ◌++◌, length, None, refl, sym, ap, ◌∙◌, subst, arith}
use Rattle.std.proofs.lemmas.Bool.{true≢false, false≢true}
use Rattle.std.proofs.lemmas.List.{length_push}
use Rattle.std.proofs.lemmas.Option.{none-some}
use Rattle.base_script.specs.declared.actor.Actor.{Actor}
use Rattle.base_script.specs.declared.actor.Actor.TheVariants.{Op, Insp, Copy, Apply, Lock, Ren, Client}
use Rattle.server_model.specs.declared.answer.Answer.{Answer}
use Rattle.server_model.specs.declared.answer.Answer.TheVariants as answers
use Rattle.server_model.specs.declared.entry.Asked.TheVariants.{Call, Cut}
use Rattle.server_model.specs.declared.entry.Entry.{Entry}
use Rattle.server_model.specs.declared.outcome.Progress.{Progress}
use Rattle.server_model.specs.declared.outcome.Progress.TheVariants.{Going, TaskDone, TaskFailed, Unfit}
use Rattle.server_model.specs.declared.request.Request.TheVariants as requests
use Rattle.server_model.specs.Entries.{same_actor, is_command, is_cut}
use Rattle.server_model.specs.States.{has_work}
use Rattle.plan_data.specs.PlanData.{PlanData}
use Rattle.tool_program.specs.JournalWords.Bounds.{keys, measures}
use Rattle.tool_program.specs.JournalWords.Journals.{state_at}
use Rattle.tool_program.specs.JournalWords.Sessions.{live_session}
use Rattle.tool_program.specs.declared.chunk_copier.copier.CopyStep.{CopyStep}
use Rattle.tool_program.specs.declared.chunk_copier.copier.CopyStep.TheVariants.{Choosing, Spanning, Copying, Committing}
use Rattle.tool_program.specs.ChunkCopier.Copiers.{is_empty_range, took, progress, progress_at}
use Rattle.tool_program.specs.EventApplier.Appliers as appliers
use Rattle.tool_program.specs.CutoverCore.CutOvers.{is_done}
use Rattle.tool_program.specs.Programs.{in_transaction, rolls_back, copy_call, tool_call, given}
use Rattle.tool_program.specs.Setups.{Setup, Listing, Clearing, MakingLog, MakingGhost, Marking, Reaching, Ready, setup_after}
use Rattle.tool_program.specs.Tools.{ToolPhase, SettingUp, Migrating, Tool, Work, copy_range, is_reverting, stopped, tool_phase_of, moment}
use Rattle.proof_journals.specs.Machine.Machines.{SetupStands, ToolPhaseStands}
use Rattle.proof_journals.specs.Machine.MigrationTables.{WorkTables, ToolPhaseTables}
use Rattle.proof_journals.specs.Machine.Runnable.{IsRunnable}
use Rattle.proof_journals.specs.Machine.Standings.{Standing, free, answers_to, IsAbout, is_called, is_polled, standing_of}
use Rattle.proof_journals.specs.Run.Kept.{IsKept}
use Rattle.proof_journals.proofs.Actors.{same_actor_is}
use Rattle.proof_journals.proofs.Machine.Calling.{reverting_or}
use Rattle.proof_journals.proofs.Machine.Journals.{IsRun, IsTogether, Asking, calls_so, polls_so}
use Rattle.proof_journals.proofs.Machine.Seated.{IsServed, own_fits}
use Rattle.proof_journals.proofs.Machine.Tabling.{IsTabled, all_tabled, back_quiet, copied_idle}
use Rattle.proof_migration.proofs.Program.Turns.Follows.{kept_front, kept_run}
use Rattle.proof_migration.proofs.ToolPhase.ToolPhaseTurns.{Kept}
use Rattle.proof_migration.proofs.KeptJournals.{each_kept}
use Rattle.proof_bounds.specs.Laws.{MayWait}
use Rattle.proof_bounds.specs.Parts.{OfChunks, rolls_back as is_rollback, part_of, same_part, turns_of_part}
use Rattle.proof_bounds.specs.Tries.{ToolPhaseRoom}
use Rattle.proof_bounds.proofs.Counting.{count_none}
use Rattle.proof_bounds.proofs.Tries.{tries_few}
use Rattle.proof_bounds.proofs.Waits.{waited_by, IsCounted, counted_more, counted_begins, idle_waited, others_wait, waits_cut, waits_end, waits_on, waits_short}
use Rattle.proof_bounds.specs.TaskTurns.Chunks.{ChunksGoOn, ChunkTurnsAreFew, NoChunksYet, tries_turns}
use Rattle.proof_bounds.proofs.TaskTurns.ChunkSteps.{IsOpen, Leaves, RestsAt, Stands, heard_leaves, open_closes, open_fails, stands_back, task, try}
use Rattle.proof_bounds.proofs.TaskTurns.OwnTurns.{TaskTurn, busy_waited, chunk_turn, command_other, idle_cut, no_turn, one_turn, own_asking, unwaited}
use Rattle.proof_bounds.proofs.TaskTurns.Paying.{IsClosed, IsPaid, closed_ends, closed_stays, closed_waits}
use Rattle.proof_bounds.proofs.TaskTurns.TurnRule.{AnswerLeaves, Applied, Copied, CopyLeaves, TurnLeaves, turn_left}

-- THE JOURNAL

module _ (plan : PlanData) (runs : IsRunnable plan) (may : MayWait plan) (some : 1 ≤ plan.options.default_retries) (go : ChunksGoOn plan) where
  abbrev most : ℕ
  most = keys (measures plan)

  abbrev each : ℕ
  each = 1 + (measures plan).tool_wait

  abbrev bound : ℕ
  bound = (measures plan).tries

  -- before the copy there are none of its turns
  abbrev Holding : ℕ → ℕ → Kept
  Holding turns waited reverting (SettingUp setup tries) = turns ≤ 0
  Holding turns waited reverting (Migrating work) = Stands most each bound work.copier.is_copied reverting turns waited work.copier.number (length work.chunk_tries) work.copier.step

  record IsHeld (journal : List Entry) : Type 0 where
    counted : IsCounted plan journal
    stands : Holding (turns_of_part OfChunks plan journal) (waited_by plan journal Copy) (is_reverting (moment plan journal).tool.reason) (moment plan journal).tool.tool_phase

  short_is : (journal : List Entry) → IsCounted plan journal → waited_by plan journal Copy + 1 ≤ each
  unfolding measures
  short_is journal counted = let short = waits_short plan journal counted.few Copy in omega (arith, short)

  bound_is : bound ≡ plan.options.default_retries
  unfolding measures
  bound_is = refl

  module _ (journal : List Entry) (entry : Entry) (kept_more : IsKept plan (journal ++ entry ∷ [])) (is : IsHeld journal) where
    abbrev more : List Entry
    more = journal ++ entry ∷ []

    abbrev tool : Tool
    tool = record (moment plan journal).tool { turns = (moment plan journal).tool.turns + 1 }

    abbrev on_now : Bool
    on_now = is_reverting (moment plan journal).tool.reason

    abbrev has : Actor → Standing
    has = standing_of plan journal

    abbrev turns : ℕ
    turns = turns_of_part OfChunks plan journal

    abbrev turns_now : ℕ
    turns_now = turns_of_part OfChunks plan more

    abbrev waited : ℕ
    waited = waited_by plan journal Copy

    abbrev waited_now : ℕ
    waited_now = waited_by plan more Copy

    abbrev New : Kept
    New = Holding turns_now waited_now

    kept : IsKept plan journal
    kept = kept_front plan journal (entry ∷ []) kept_more

    run : IsRun plan journal entry
    run = kept_run plan journal entry kept_more

    counted_now : IsCounted plan more
    counted_now = counted_more plan may journal entry run is.counted

    tabled : IsTabled plan journal
    tabled = all_tabled plan journal runs.fitting runs.stands kept.faithful kept.follows

    together : IsTogether plan journal
    together = is.counted.together

    served : IsServed plan journal entry
    served = record { answered = run.answered; seated = record { session = run.followed.session } }

    short : waited + 1 ≤ each
    short = short_is journal is.counted

    short_now : waited_now + 1 ≤ each
    short_now = short_is more counted_now

    one : turns_now ≤ turns + 1
    one = one_turn OfChunks plan journal entry

    copy_given : given plan journal Copy ≡ Rattle.tool_program.specs.Programs.tool_asks plan journal (moment plan journal) Copy
    unfolding given
    copy_given = refl

    own_turn : same_part OfChunks (part_of plan journal entry) ≡ true → TaskTurn Copy entry.actor entry.asked
    unfolding part_of
    own_turn own = chunk_turn (moment plan journal).tool.tool_phase (live_session journal entry.actor) entry.side entry.actor entry.asked own

    -- HOW THE TURNS AND THE WAIT COUNT

    same_turns : (same_part OfChunks (part_of plan journal entry) ≡ true → ⊥) → turns_now ≡ turns
    same_turns other = no_turn OfChunks plan journal entry other

    others_turns : same_actor entry.actor Copy ≡ false → turns_now ≡ turns
    others_turns differ = same_turns (λ own. true≢false (sym (ap (λ (a : Actor). same_actor a Copy) (own_turn own).who) ∙ differ))

    others_waited : same_actor entry.actor Copy ≡ false → waited_now ≡ waited
    others_waited differ = others_wait plan may journal entry together is.counted.clients is.counted.both.living run is.counted.few Copy differ

    cut_turns : entry.asked ≡ Cut → turns_now ≡ turns
    cut_turns cut = same_turns (λ own. true≢false (sym (ap is_cut cut) ∙ (own_turn own).uncut))

    back_turns : entry.asked ≡ Call requests.Rollback → turns_now ≡ turns
    back_turns back = same_turns (λ own. true≢false (sym (ap is_rollback back) ∙ (own_turn own).forward))

    own_waits : entry.actor ≡ Copy → is_command entry.asked ≡ false → is_cut entry.asked ≡ false → (by : ℕ) → entry.answer ≡ answers.Waits by → waited_now ≡ waited + 1
    own_waits who called uncut by waits =
        subst (λ (a : Actor). waited_by plan more a ≡ waited_by plan journal a + 1) who (waits_on plan may journal entry together is.counted.clients is.counted.both.living run is.counted.few by called uncut waits).counts

    own_ends : entry.actor ≡ Copy → is_command entry.asked ≡ false → is_cut entry.asked ≡ false → ((by : ℕ) → entry.answer ≡ answers.Waits by → ⊥) → waited_now ≡ 0
    own_ends who called uncut heard = subst (λ (a : Actor). waited_by plan more a ≡ 0) who (waits_end plan may journal entry together is.counted.clients is.counted.both.living run is.counted.few called uncut heard)

    own_cut : entry.actor ≡ Copy → entry.asked ≡ Cut → waited_now ≡ 0
    own_cut who cut = subst (λ (a : Actor). waited_by plan more a ≡ 0) who (waits_cut plan may journal entry together is.counted.clients is.counted.both.living run is.counted.few cut)

    -- WHAT STANDS

    -- with the counts before the turn
    same_counts : turns_now ≡ turns → waited_now ≡ waited → New on_now (moment plan journal).tool.tool_phase
    same_counts count wait = subst (λ (n : ℕ). Holding n waited_now on_now (moment plan journal).tool.tool_phase) (sym count) (subst (λ (w : ℕ). Holding turns w on_now (moment plan journal).tool.tool_phase) (sym wait) is.stands)

    back : (b : Bool) (tool_phase : ToolPhase) → New b tool_phase → New true (stopped tool_phase)
    back b (SettingUp setup tries) now = now
    back b (Migrating work) now = stands_back most each bound work.copier.is_copied b turns_now waited_now work.copier.number (length work.chunk_tries) work.copier.step short_now now

    setup_free : (setup : Setup) (tries : List ℕ) → (moment plan journal).tool.tool_phase ≡ SettingUp setup tries → has Copy ≡ free
    setup_free setup tries eq = at.copier where
      at : SetupStands has
      at = subst (ToolPhaseStands journal has on_now) eq together.stands

    -- OTHERS' TURNS

    -- the copy begins
    begins : (setup : Setup) (tries : List ℕ) → turns_now ≤ 0 → waited_now ≡ 0 → New false (tool_phase_of plan tool.operator.size setup tries)
    begins Listing tries none wait = none
    begins (Clearing left) tries none wait = none
    begins MakingLog tries none wait = none
    begins MakingGhost tries none wait = none
    begins Marking tries none wait = none
    begins (Reaching position) tries none wait = none
    begins (Ready position range) tries none wait = by (is_empty_range (copy_range range)) where
      first : (n t : ℕ) → n ≤ 0 → n + t ≤ 1 * t
      first n t none = grind (arith, none)

      first_paid : (n t m : ℕ) → n ≤ 0 → n + t ≤ 1 * t + 0 * m + 0 + 0
      first_paid n t m none = grind (arith, none)

      by : (b : Bool) → Stands most each bound b false turns_now waited_now 1 0 Rattle.tool_program.specs.declared.chunk_copier.copier.CopyStep.TheVariants.Choosing
      by true = first turns_now (task most each bound) none
      by false = record {
        begins = omega arith;
        fits = tt;
        rests = wait;
        paid = subst (IsPaid turns_now (task most each bound) (1 * task most each bound) 0 (try most each bound) 0) (sym wait) (first_paid turns_now (task most each bound) (try most each bound) none);
      }

    held_at : (b : Bool) (tool_phase : ToolPhase) → on_now ≡ b → (moment plan journal).tool.tool_phase ≡ tool_phase → New on_now (moment plan journal).tool.tool_phase → New b tool_phase
    held_at b tool_phase on eq now = subst (λ (r : Bool). New r tool_phase) on (subst (New on_now) eq now)

    others_leave : (answer : Answer) → same_actor entry.actor Copy ≡ false → (actor : Actor) → same_actor actor Copy ≡ false → (tool_phase : ToolPhase) → (moment plan journal).tool.tool_phase ≡ tool_phase → AnswerLeaves plan New answer tool actor tool_phase
    others_leave answer differ actor other tool_phase eq = by actor other tool_phase eq where
      now : New on_now (moment plan journal).tool.tool_phase
      now = same_counts (others_turns differ) (others_waited differ)

      at : (tool_phase : ToolPhase) → (moment plan journal).tool.tool_phase ≡ tool_phase → New on_now tool_phase
      at tool_phase eq = held_at on_now tool_phase refl eq now

      none_waited : (setup : Setup) (tries : List ℕ) → (moment plan journal).tool.tool_phase ≡ SettingUp setup tries → waited_now ≡ 0
      none_waited setup tries eq = others_waited differ ∙ idle_waited (state_at plan journal) (live_session journal Copy) (ap (λ (s : Standing). s.waits) (setup_free setup tries eq))

      applied : (work : Work) → New false (Migrating work) → (progress : Progress) → Applied New answer tool work progress
      applied work stands Going = stands
      applied work stands TaskDone = stands
      applied work stands TaskFailed = stands
      applied work stands (Unfit place number) = record { renamed = λ renamed. stands; reverts = back false (Migrating work) stands }

      by : (actor : Actor) → same_actor actor Copy ≡ false → (tool_phase : ToolPhase) → (moment plan journal).tool.tool_phase ≡ tool_phase → AnswerLeaves plan New answer tool actor tool_phase
      by Copy other tool_phase eq = absurd (true≢false other)
      by Insp other (SettingUp setup tries) eq = record {
        reverting = λ on. at (SettingUp setup tries) eq;
        again = λ off bad more_tries. at (SettingUp setup tries) eq;
        goes = λ off good. begins (setup_after plan.table setup answer) tries (at (SettingUp setup tries) eq) (none_waited setup tries eq);
      }
      by Insp other (Migrating work) eq = λ tries. at (Migrating work) eq
      by Lock other (Migrating work) eq = λ tries. at (Migrating work) eq
      by Ren other (Migrating work) eq = λ tries. at (Migrating work) eq
      by Apply other (Migrating work) eq = record { reverting = λ on. held_at true (Migrating work) on eq now; going = λ off. applied work (held_at false (Migrating work) off eq now) (appliers.progress work.applier answer) }
      by Op other (Migrating work) eq = at (Migrating work) eq
      by (Client c) other (Migrating work) eq = at (Migrating work) eq
      by Op other (SettingUp setup tries) eq = at (SettingUp setup tries) eq
      by (Client c) other (SettingUp setup tries) eq = at (SettingUp setup tries) eq
      by Apply other (SettingUp setup tries) eq = at (SettingUp setup tries) eq
      by Lock other (SettingUp setup tries) eq = at (SettingUp setup tries) eq
      by Ren other (SettingUp setup tries) eq = at (SettingUp setup tries) eq

    -- THE COPIER'S TURNS

    module _ (who : entry.actor ≡ Copy) where
      -- it takes none in the setup
      setup_none : (setup : Setup) (tries : List ℕ) → (moment plan journal).tool.tool_phase ≡ SettingUp setup tries → Asking plan journal Copy entry.asked → ⊥
      setup_none setup tries eq (calls_so request asks idle call) = none-some request (ap (λ (c : ToolPhase). tool_call plan (moment plan journal).server journal (moment plan journal).tool c Copy) (sym eq) ∙ call)
      setup_none setup tries eq (polls_so request asks waits) = none-some request (sym (ap (λ (s : Standing). s.waits) (setup_free setup tries eq)) ∙ waits)

      module _ (work : Work) (eq : (moment plan journal).tool.tool_phase ≡ Migrating work) where
        abbrev tries : ℕ
        tries = length work.chunk_tries

        tables : WorkTables plan (state_at plan journal).tables has work
        tables = subst (ToolPhaseTables plan (state_at plan journal).tables has) eq tabled.tables

        stands : Stands most each bound work.copier.is_copied on_now turns waited work.copier.number tries work.copier.step
        stands = subst (Holding turns waited on_now) eq is.stands

        not_done : work.copier.is_copied ≡ false → is_done work.cutover.phase ≡ false
        not_done off = ap is_done (tables.going off).phase

        few : work.copier.is_copied ≡ false → on_now ≡ false → tries < bound
        few off going =
            let room = (subst (ToolPhaseRoom plan on_now) eq (tries_few plan journal some)) (not_done off) in
            subst (λ (n : ℕ). tries < n) (sym bound_is) (room.chunk.left going)

        open_now : work.copier.is_copied ≡ false → on_now ≡ false → IsOpen most each bound turns waited work.copier.number tries work.copier.step
        open_now off going =
            subst (λ (b : Bool). Stands most each bound false b turns waited work.copier.number tries work.copier.step) going
            (subst (λ (b : Bool). Stands most each bound b on_now turns waited work.copier.number tries work.copier.step) off stands)

        at_choosing : (step : CopyStep) → step ≡ Choosing → RestsAt waited step → waited ≡ 0
        at_choosing step choosing rests = subst (RestsAt waited) choosing rests

        closed_now : work.copier.is_copied ≡ false → on_now ≡ true → IsClosed turns (work.copier.number * task most each bound) waited each
        closed_now off on =
            subst (λ (b : Bool). Stands most each bound false b turns waited work.copier.number tries work.copier.step) on
            (subst (λ (b : Bool). Stands most each bound b on_now turns waited work.copier.number tries work.copier.step) off stands)

        copied_now : work.copier.is_copied ≡ true → turns + task most each bound ≤ work.copier.number * task most each bound
        copied_now on = by on_now (subst (λ (b : Bool). Stands most each bound b on_now turns waited work.copier.number tries work.copier.step) on stands) where
          by : (b : Bool) → Stands most each bound true b turns waited work.copier.number tries work.copier.step → turns + task most each bound ≤ work.copier.number * task most each bound
          by b less = less

        -- what the turn makes of the copier
        copied : (answer : Answer) (code : Progress) → work.copier.is_copied ≡ false → Leaves most each bound turns_now waited_now work.copier.number tries (took tool.turns work.copier answer) code → Copied New answer tool work code
        copied answer Going off leaves = leaves
        copied answer TaskDone off leaves = leaves
        copied answer TaskFailed off leaves =
            subst (λ (n : ℕ). Stands most each bound (took tool.turns work.copier answer).is_copied false turns_now waited_now (took tool.turns work.copier answer).number n (took tool.turns work.copier answer).step) (sym (length_push work.chunk_tries tool.turns)) leaves
        copied answer (Unfit place number) off leaves = record {
          renamed = λ renamed. absurd (true≢false (sym renamed ∙ not_done off));
          reverts = subst (λ (b : Bool). Stands most each bound b true turns_now waited_now work.copier.number tries work.copier.step) (sym off) leaves;
        }

        -- a turn that isn't a loss between calls
        module _ (called : is_command entry.asked ≡ false) (uncut : is_cut entry.asked ≡ false) where
          asks : Asking plan journal Copy entry.asked
          asks = own_asking plan journal entry together run Copy copy_given who uncut

          open_leaves : work.copier.is_copied ≡ false → on_now ≡ false → Copied New entry.answer tool work (progress work.copier entry.answer)
          open_leaves off going =
              copied entry.answer (progress work.copier entry.answer) off
              (heard_leaves most each bound tool.turns work.copier off turns turns_now waited waited_now tries one short short_now (few off going) work.copier.step entry.answer (open_now off going) (go journal entry kept_more work eq going off (λ choosing. unwaited (state_at plan journal) (live_session journal Copy) (at_choosing work.copier.step choosing (open_now off going).rests)) who called uncut) (λ by waits. own_waits who called uncut by waits)
              (λ heard. own_ends who called uncut heard))

          rolls : work.copier.is_copied ≡ true → (on_now ≡ true) × IsAbout requests.Rollback (has Copy) entry.asked
          rolls on = copied_idle plan journal entry tabled.all tabled.quiet run work eq on (tables.copied on) asks

          back_call : work.copier.is_copied ≡ true → IsAbout requests.Rollback (has Copy) entry.asked → entry.asked ≡ Call requests.Rollback
          back_call on (is_called called_so idle) = called_so
          back_call on (is_polled polled waits) = absurd (none-some requests.Rollback (sym (tables.copied on) ∙ waits))

          -- in a revert it rolls back, or polls
          closed_leaves : work.copier.is_copied ≡ false → on_now ≡ true → IsClosed turns_now (work.copier.number * task most each bound) waited_now each
          closed_leaves off on = by asks where
            before : IsClosed turns (work.copier.number * task most each bound) waited each
            before = closed_now off on

            waits : (answer : Answer) → entry.answer ≡ answer → 1 ≤ waited → IsClosed turns_now (work.copier.number * task most each bound) waited_now each
            waits (answers.Waits by) same some_wait =
                subst (λ (w : ℕ). IsClosed turns_now (work.copier.number * task most each bound) w each) (sym (own_waits who called uncut by same))
                (closed_waits turns turns_now (work.copier.number * task most each bound) waited each one some_wait short before)
            waits answer same some_wait =
                subst (λ (w : ℕ). IsClosed turns_now (work.copier.number * task most each bound) w each) (sym (own_ends who called uncut (λ by waits_so. let both : answer ≡ answers.Waits by = sym same ∙ waits_so in cc)))
                (closed_ends turns turns_now (work.copier.number * task most each bound) waited each one some_wait short before)

            rolled : entry.asked ≡ Call requests.Rollback → (has Copy).waits ≡ None → IsClosed turns_now (work.copier.number * task most each bound) waited_now each
            rolled back_so idle =
                subst (λ (w : ℕ). IsClosed turns_now (work.copier.number * task most each bound) w each) (sym (own_ends who called uncut (unwaited entry.answer refl)))
                (closed_stays turns turns_now (work.copier.number * task most each bound) waited each (let same = back_turns back_so in omega (arith, same)) before) where
                  fits : answers_to requests.Rollback entry.answer ≡ true
                  fits = own_fits plan journal entry together.known served requests.Rollback (subst (λ (a : Actor). IsAbout requests.Rollback (has a) entry.asked) (sym who) (is_called back_so idle))

                  unwaited : (answer : Answer) → entry.answer ≡ answer → (by : ℕ) → entry.answer ≡ answers.Waits by → ⊥
                  unwaited answer same by waits_so = false≢true (sym (ap (answers_to requests.Rollback) waits_so) ∙ fits)

            by : Asking plan journal Copy entry.asked → IsClosed turns_now (work.copier.number * task most each bound) waited_now each
            by (calls_so request asks_so idle call) =
                reverting_or (IsClosed turns_now (work.copier.number * task most each bound) waited_now each) on_now (rolls_back (moment plan journal).server (live_session journal Copy)) (copy_call plan (moment plan journal).server journal (moment plan journal).tool work) request
                (ap (λ (c : ToolPhase). tool_call plan (moment plan journal).server journal (moment plan journal).tool c Copy) (sym eq) ∙ call)
                (λ reverting back_so. rolled (asks_so ∙ ap Call (back_quiet (in_transaction (moment plan journal).server (live_session journal Copy)) request back_so)) idle) (λ going asks_next. absurd (true≢false (sym on ∙ going)))
            by (polls_so request asks_so waits_so) = waits entry.answer refl (busy_waited (state_at plan journal) (live_session journal Copy) request waits_so)

          heard : CopyLeaves New entry.answer tool work
          heard = record { reverting = λ on. reverting_by work.copier.is_copied refl on; going = λ going. going_by work.copier.is_copied refl going } where
            reverting_by : (b : Bool) → work.copier.is_copied ≡ b → on_now ≡ true → New true (Migrating work)
            reverting_by true copied_so on =
                subst (λ (b : Bool). Stands most each bound b true turns_now waited_now work.copier.number tries work.copier.step) (sym copied_so)
                (let same = back_turns (back_call copied_so (rolls copied_so).1) in let less = copied_now copied_so in omega (arith, same, less))
            reverting_by false off on = subst (λ (b : Bool). Stands most each bound b true turns_now waited_now work.copier.number tries work.copier.step) (sym off) (closed_leaves off on)

            going_by : (b : Bool) → work.copier.is_copied ≡ b → on_now ≡ false → Copied New entry.answer tool work (progress work.copier entry.answer)
            going_by true copied_so going = absurd (true≢false (sym (rolls copied_so).0 ∙ going))
            going_by false off going = open_leaves off going

        -- a loss between calls
        module _ (cut : entry.asked ≡ Cut) where
          lost_fails : (step : CopyStep) → progress_at step answers.Lost ≡ TaskFailed
          lost_fails Choosing = refl
          lost_fails (Spanning reported size) = refl
          lost_fails (Copying chunk count) = refl
          lost_fails (Committing chunk) = refl

          none_now : waited_now ≡ 0
          none_now = own_cut who cut

          fewer : turns_now ≤ turns + 1
          fewer = one

          lost_failed : on_now ≡ false → Copied New answers.Lost tool work TaskFailed
          unfolding took
          lost_failed going = by work.copier.is_copied refl where
            by : (b : Bool) → work.copier.is_copied ≡ b → Copied New answers.Lost tool work TaskFailed
            by true copied_so =
                subst (λ (b : Bool). Stands most each bound b false turns_now waited_now work.copier.number (length (work.chunk_tries ++ tool.turns ∷ [])) Choosing) (sym copied_so)
                (let same = cut_turns cut in let less = copied_now copied_so in omega (arith, same, less))
            by false off =
                subst (λ (b : Bool). Stands most each bound b false turns_now waited_now work.copier.number (length (work.chunk_tries ++ tool.turns ∷ [])) Choosing) (sym off)
                (subst (λ (n : ℕ). IsOpen most each bound turns_now waited_now work.copier.number n Choosing) (sym (length_push work.chunk_tries tool.turns))
                (subst (λ (w : ℕ). IsOpen most each bound turns_now w work.copier.number (tries + 1) Choosing) (sym none_now)
                (open_fails most each bound turns turns_now waited work.copier.number tries work.copier.step one short (few off going) (open_now off going))))

          lost : CopyLeaves New answers.Lost tool work
          unfolding progress
          lost = record { reverting = λ on. reverting_by work.copier.is_copied refl on; going = λ going. subst (Copied New answers.Lost tool work) (sym (lost_fails work.copier.step)) (lost_failed going) } where
            reverting_by : (b : Bool) → work.copier.is_copied ≡ b → on_now ≡ true → New true (Migrating work)
            reverting_by true copied_so on =
                subst (λ (b : Bool). Stands most each bound b true turns_now waited_now work.copier.number tries work.copier.step) (sym copied_so)
                (let same = cut_turns cut in let less = copied_now copied_so in omega (arith, same, less))
            reverting_by false off on =
                subst (λ (b : Bool). Stands most each bound b true turns_now waited_now work.copier.number tries work.copier.step) (sym off)
                (subst (λ (w : ℕ). IsClosed turns_now (work.copier.number * task most each bound) w each) (sym none_now)
                (closed_stays turns turns_now (work.copier.number * task most each bound) waited each (let same = cut_turns cut in omega (arith, same)) (closed_now off on)))

      setup_still : (setup : Setup) (tries : List ℕ) → (moment plan journal).tool.tool_phase ≡ SettingUp setup tries → turns_now ≡ turns → New on_now (SettingUp setup tries)
      setup_still setup tries eq same = let none : turns ≤ 0 = subst (Holding turns waited on_now) eq is.stands in omega (arith, same, none)

      heard_leave : is_command entry.asked ≡ false → is_cut entry.asked ≡ false → (tool_phase : ToolPhase) → (moment plan journal).tool.tool_phase ≡ tool_phase → AnswerLeaves plan New entry.answer tool Copy tool_phase
      heard_leave called uncut (SettingUp setup tries) eq = absurd (setup_none setup tries eq (own_asking plan journal entry together run Copy copy_given who uncut))
      heard_leave called uncut (Migrating work) eq = heard work eq called uncut

      lost_leave : entry.asked ≡ Cut → (tool_phase : ToolPhase) → (moment plan journal).tool.tool_phase ≡ tool_phase → AnswerLeaves plan New answers.Lost tool Copy tool_phase
      lost_leave cut (SettingUp setup tries) eq = setup_still setup tries eq (cut_turns cut)
      lost_leave cut (Migrating work) eq = lost work eq cut

    -- ONE TURN MORE

    turn_leaves : TurnLeaves plan New (moment plan journal).server entry tool
    turn_leaves = record {
      commanded = λ command. let differ = command_other plan journal entry together run Copy copy_given command in same_counts (others_turns differ) (others_waited differ);
      idle = λ cut idle. idle_by (same_actor entry.actor Copy) refl cut idle;
      lost = λ cut worked. lost_by (same_actor entry.actor Copy) refl cut;
      heard = λ called uncut. heard_by (same_actor entry.actor Copy) refl called uncut;
    } where
      idle_by : (b : Bool) → same_actor entry.actor Copy ≡ b → entry.asked ≡ Cut → has_work (moment plan journal).server entry.session ≡ false → New on_now (moment plan journal).tool.tool_phase
      idle_by false differ cut idle = same_counts (others_turns differ) (others_waited differ)
      idle_by true own cut idle =
          let who = same_actor_is entry.actor Copy own in
          same_counts (cut_turns cut) (own_cut who cut ∙ sym (subst (λ (a : Actor). waited_by plan journal a ≡ 0) who (idle_cut plan journal entry together run cut idle)))

      lost_by : (b : Bool) → same_actor entry.actor Copy ≡ b → entry.asked ≡ Cut → AnswerLeaves plan New answers.Lost tool entry.actor (moment plan journal).tool.tool_phase
      lost_by false differ cut = others_leave answers.Lost differ entry.actor differ (moment plan journal).tool.tool_phase refl
      lost_by true own cut =
          let who = same_actor_is entry.actor Copy own in
          subst (λ (a : Actor). AnswerLeaves plan New answers.Lost tool a (moment plan journal).tool.tool_phase) (sym who) (lost_leave who cut (moment plan journal).tool.tool_phase refl)

      heard_by : (b : Bool) → same_actor entry.actor Copy ≡ b → is_command entry.asked ≡ false → is_cut entry.asked ≡ false → AnswerLeaves plan New entry.answer tool entry.actor (moment plan journal).tool.tool_phase
      heard_by false differ called uncut = others_leave entry.answer differ entry.actor differ (moment plan journal).tool.tool_phase refl
      heard_by true own called uncut =
          let who = same_actor_is entry.actor Copy own in
          subst (λ (a : Actor). AnswerLeaves plan New entry.answer tool a (moment plan journal).tool.tool_phase) (sym who) (heard_leave who called uncut (moment plan journal).tool.tool_phase refl)

    held_more : IsHeld more
    held_more = record { counted = counted_now; stands = turn_left plan New back journal entry (λ b work tries now. now) (λ b work size now. now) turn_leaves }

  held_begins : IsHeld []
  unfolding moment
  held_begins = record { counted = counted_begins plan runs.fitting.scripts; stands = let none = count_none OfChunks plan in omega (arith, none) }

  all_held : (journal : List Entry) → IsKept plan journal → IsHeld journal
  all_held journal kept = each_kept plan IsHeld (λ before entry one is. held_more before entry one is) journal kept held_begins

  -- what they come to
  module _ (journal : List Entry) (kept : IsKept plan journal) where
    abbrev had : ℕ
    had = turns_of_part OfChunks plan journal

    abbrev had_waited : ℕ
    had_waited = waited_by plan journal Copy

    abbrev all_tries : ℕ
    all_tries = tries_turns (measures plan)

    held : IsHeld journal
    held = all_held journal kept

    none_more : (a b : ℕ) → a ≤ b → a + 0 ≤ b
    none_more a b less = omega (arith, less)

    few_by : (all_copied reverting : Bool) (number count : ℕ) (step : CopyStep) → Stands most each bound all_copied reverting had had_waited number count step → had + cond all_copied all_tries 0 ≤ number * all_tries
    few_by true reverting number count step is = is
    few_by false true number count step is = none_more had (number * all_tries) is.within
    few_by false false number count step is = none_more had (number * all_tries) (open_closes most each bound had had_waited number count step (short_is journal held.counted) is).within

    few_turns : (work : Work) → (moment plan journal).tool.tool_phase ≡ Migrating work → had + cond work.copier.is_copied all_tries 0 ≤ work.copier.number * all_tries
    few_turns work eq =
        few_by work.copier.is_copied (is_reverting (moment plan journal).tool.reason) work.copier.number (length work.chunk_tries) work.copier.step
        (subst (Holding had had_waited (is_reverting (moment plan journal).tool.reason)) eq held.stands)

    no_turns : (setup : Setup) (tries : List ℕ) → (moment plan journal).tool.tool_phase ≡ SettingUp setup tries → had ≡ 0
    no_turns setup tries eq = let none : had ≤ 0 = subst (Holding had had_waited (is_reverting (moment plan journal).tool.reason)) eq held.stands in omega (arith, none)

-- *The chunks' turns are few*
pub chunk_few : ChunkTurnsAreFew
chunk_few plan journal runs may some go kept work eq = few_turns plan runs may some go journal kept work eq

-- *None before the copy*
pub chunk_none : NoChunksYet
chunk_none plan journal runs may some go kept setup tries eq = no_turns plan runs may some go journal kept setup tries eq
