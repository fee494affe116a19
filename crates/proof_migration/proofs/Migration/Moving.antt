-- Where the copier and the applier are, behind more turns and in other sessions.
use Rattle.std.proofs.Common.{◌≡◌, ℕ, Bool, true, false, List, [], ◌∷◌, ◌++◌, Option, Some, None, refl, sym, ap, ◌∙◌, subst}
use Rattle.std.specs.Prelude.{◌==◌}
use Rattle.base_values.specs.GhoSchema.ClusteredKey.{clustered_place}
use Rattle.base_values.specs.declared.span.Span.{Span}
use Rattle.server_model.specs.declared.entry.Entry.{Entry}
use Rattle.server_model.specs.Entries.{answer_at}
use Rattle.server_model.specs.EarlierAnswers.{end_in, keys_in}
use Rattle.server_model.specs.States.{State}
use Rattle.tool_program.specs.declared.chunk_copier.copier.Chunk.{Chunk}
use Rattle.tool_program.specs.declared.chunk_copier.copier.Copier.{Copier}
use Rattle.tool_program.specs.declared.chunk_copier.copier.CopyRange.{CopyRange}
use Rattle.tool_program.specs.declared.chunk_copier.copier.CopyStep.{CopyStep}
use Rattle.tool_program.specs.declared.chunk_copier.copier.CopyStep.TheVariants.{Choosing, Spanning, Copying, Committing}
use Rattle.tool_program.specs.ChunkCopier.Copiers.{low_end}
use Rattle.proof_journals.specs.Scenes.{Besides, SessionHold, no_hold}
use Rattle.proof_journals.specs.Holdings.{stored}
use Rattle.proof_journals.specs.Ghost.Rows.Moments.{Row}
use Rattle.proof_journals.specs.Ghost.Rows.Timelines.{IsPlanned, Migration}
use Rattle.proof_journals.specs.Ghost.HeldKeys.{Clustered}
use Rattle.proof_journals.specs.Ghost.Invariant.{IsServed}
use Rattle.proof_journals.specs.Ghost.Joined.{IsJoined}
use Rattle.proof_journals.specs.Ghost.ToolTurns.{ApplyPlan, KeptAt, ToolMoment, ToolStands}
use Rattle.proof_journals.specs.Ghost.ToolTurns.ToolStands.{at_rest, at_work, halfway, returns}
use Rattle.proof_journals.specs.Ghost.ToolTurns.ToolTurn.{chunk_is_lost}
use Rattle.proof_journals.specs.Ghost.Tool.{ApplyStands, ApplyState, CopyStands, CopyState, done_in, half_in, taken_in}
use Rattle.proof_journals.specs.Ghost.Tool.ApplyState.{Idle, Whole, Half}
use Rattle.proof_journals.specs.Ghost.Tool.CopyState.{Waiting}
use Rattle.proof_journals.proofs.Ghost.Leaving.{holds_of}
use Rattle.proof_journals.proofs.Ghost.Running.{any_kept, turn_keeps}
use Rattle.proof_migration.specs.Migration.Copier.CopierPlace.{CopierKnows, copy_state, left_of, moment_of, taking_of}
use Rattle.proof_migration.proofs.Migration.Copier.Chunks.{left_more, state_more, taking_state}
use Rattle.proof_migration.proofs.Migration.Copier.Knowing.{IsWaiting, after_more, step_more, waiting_state}
use Rattle.proof_migration.proofs.Migration.Copier.Served.{stands_same}
use Rattle.proof_migration.specs.Migration.Machines.{IsBetween}

-- THE COPIER BEHIND MORE TURNS

pub copied_state : (journal : List Entry) (copier : Copier) → copier.is_copied ≡ true → copy_state journal copier ≡ Waiting None
copied_state journal copier is = rw is refl

empty_state : (journal : List Entry) (copier : Copier) → copier.is_copied ≡ false → copier.range ≡ None → copy_state journal copier ≡ Waiting None
empty_state journal copier is none = rw (is, none) refl

pub copy_more : (journal more : List Entry) (copier : Copier) → CopierKnows journal copier → copy_state (journal ++ more) copier ≡ copy_state journal copier
copy_more journal more copier knows = by copier.is_copied refl copier.range refl
  where
    by : (b : Bool) → copier.is_copied ≡ b → (range : Option CopyRange) → copier.range ≡ range → copy_state (journal ++ more) copier ≡ copy_state journal copier
    by true copied range is = copied_state (journal ++ more) copier copied ∙ sym (copied_state journal copier copied)
    by false going None is = empty_state (journal ++ more) copier going is ∙ sym (empty_state journal copier going is)
    by false going (Some range) is = state_more journal more copier range copier.step is going refl knows

pub copier_knows_more : (journal more : List Entry) (copier : Copier) → CopierKnows journal copier → CopierKnows (journal ++ more) copier
copier_knows_more journal more copier knows = record { following = after_more journal more copier.following knows.following; step = step_more journal more copier.range copier.step knows.step; sized = knows.sized }

-- how many keys are asked for in a chunk whose end was told says nothing of what is copied
pub span_state : (journal : List Entry) (copier : Copier) (reported old size : ℕ) → copier.step ≡ Spanning reported old → copy_state journal copier ≡ copy_state journal (record copier { step = Spanning reported size })
span_state journal copier reported old size here = by copier.is_copied refl copier.range refl
  where
    by : (b : Bool) → copier.is_copied ≡ b → (range : Option CopyRange) → copier.range ≡ range → copy_state journal copier ≡ copy_state journal (record copier { step = Spanning reported size })
    by true copied range is = copied_state journal copier copied ∙ sym (copied_state journal (record copier { step = Spanning reported size }) copied)
    by false going None is = empty_state journal copier going is ∙ sym (empty_state journal (record copier { step = Spanning reported size }) going is)
    by false going (Some range) is = waiting_state journal copier range (Spanning reported old) is going here tt ∙ sym (waiting_state journal (record copier { step = Spanning reported size }) range (Spanning reported size) is going refl tt)

-- what is left between chunks
pub record WaitsFor (journal : List Entry) (copier : Copier) : Type 0 where
  pub left : Option Span
  pub is : copy_state journal copier ≡ Waiting left

between_waits : (step : CopyStep) → IsBetween step → IsWaiting step
between_waits Choosing is = tt
between_waits (Spanning reported size) is = tt
between_waits (Copying chunk copied) is = absurd is
between_waits (Committing chunk) is = absurd is

pub waits_for : (journal : List Entry) (copier : Copier) → IsBetween copier.step → WaitsFor journal copier
waits_for journal copier between = by copier.is_copied refl copier.range refl
  where
    by : (b : Bool) → copier.is_copied ≡ b → (range : Option CopyRange) → copier.range ≡ range → WaitsFor journal copier
    by true copied range is = record { left = None; is = copied_state journal copier copied }
    by false going None is = record { left = None; is = empty_state journal copier going is }
    by false going (Some range) is = record { left = Some (left_of journal copier range); is = waiting_state journal copier range copier.step is going refl (between_waits copier.step between) }

-- between chunks its session holds nothing
pub waiting_own : (m : Migration) (at : Clustered m.schema) (rows : List Row) (copier applier : ℕ) (now : ToolMoment) (left : Option Span) → now.copy ≡ Waiting left → ToolStands m at rows copier applier now → now.hold copier ≡ no_hold
waiting_own m at rows copier applier now left is stands =
    any_kept (now.hold copier ≡ no_hold) m at rows copier applier now (λ apply kept. subst (λ (c : CopyState). CopyStands m at rows now.stored (now.hold copier) c) is kept.tool.copying) stands

-- A LOSS BETWEEN CALLS

module _ (m : Migration) (at : Clustered m.schema) (rows : List Row) (place : ℕ) (planned : IsPlanned m rows) (is_place : clustered_place m.new ≡ Some place) (journal : List Entry) (entry : Entry) (before after : State) (copier : Copier) (session applier : ℕ) (plan : ApplyPlan) (position : ℕ) (knows : CopierKnows journal copier)
    (served : IsServed (stored before) (holds_of before)) (stands : ToolStands m at rows session applier (moment_of before (copy_state journal copier) plan position)) (same : stored after ≡ stored before) (besides : Besides session (holds_of before) (holds_of after) no_hold) where
  abbrev longer : List Entry
  longer = journal ++ entry ∷ []

  abbrev again : Copier
  again = record copier { step = Choosing }

  -- where nothing was held
  stays : (left : Option Span) → copy_state journal copier ≡ Waiting left → (copy : CopyState) → copy ≡ Waiting left → ToolStands m at rows session applier (moment_of after copy plan position)
  stays left is copy also =
      stands_same m at rows session applier before after (copy_state journal copier) copy plan position session no_hold same besides (sym (waiting_own m at rows session applier (moment_of before (copy_state journal copier) plan position) left is stands)) (also ∙ sym is) stands

  lost : (range : CopyRange) (chunk : Chunk) (n : ℕ) → copier.range ≡ Some range → copier.is_copied ≡ false → copy_state journal copier ≡ taking_of journal copier range chunk n → ToolStands m at rows session applier (moment_of after (copy_state longer again) plan position)
  lost range chunk n is going taking =
      turn_keeps m at rows place session applier planned is_place (moment_of before (copy_state journal copier) plan position) (moment_of after (copy_state longer again) plan position) served stands
      (chunk_is_lost (low_end journal range copier.following) (end_in (answer_at journal chunk.reported)) range.top (keys_in (answer_at journal chunk.reported)) n taking besides same
      (waiting_state longer again range Choosing is going refl tt ∙ ap (λ (s : Span). Waiting (Some s)) (left_more journal (entry ∷ []) copier range knows)) (refl, refl))

  by_step : (range : CopyRange) → copier.range ≡ Some range → copier.is_copied ≡ false → (step : CopyStep) → copier.step ≡ step → ToolStands m at rows session applier (moment_of after (copy_state longer again) plan position)
  by_step range is going Choosing here =
      stays (Some (left_of journal copier range)) (waiting_state journal copier range Choosing is going here tt) (copy_state longer again) (waiting_state longer again range Choosing is going refl tt ∙ ap (λ (s : Span). Waiting (Some s)) (left_more journal (entry ∷ []) copier range knows))
  by_step range is going (Spanning reported size) here =
      stays (Some (left_of journal copier range)) (waiting_state journal copier range (Spanning reported size) is going here tt) (copy_state longer again)
      (waiting_state longer again range Choosing is going refl tt ∙ ap (λ (s : Span). Waiting (Some s)) (left_more journal (entry ∷ []) copier range knows))
  by_step range is going (Copying chunk copied) here = lost range chunk copied is going (taking_state journal copier range (Copying chunk copied) is going here)
  by_step range is going (Committing chunk) here = lost range chunk _ is going (taking_state journal copier range (Committing chunk) is going here)

  -- the chunk begins again
  pub copier_cut : ToolStands m at rows session applier (moment_of after (copy_state longer again) plan position)
  copier_cut = by copier.is_copied refl copier.range refl
    where
      by : (b : Bool) → copier.is_copied ≡ b → (range : Option CopyRange) → copier.range ≡ range → ToolStands m at rows session applier (moment_of after (copy_state longer again) plan position)
      by true copied range is = stays None (copied_state journal copier copied) (copy_state longer again) (copied_state longer again copied)
      by false going None is = stays None (empty_state journal copier going is) (copy_state longer again) (empty_state longer again going is)
      by false going (Some range) is = by_step range is going copier.step refl

-- OTHER SESSIONS

stands_by : (m : Migration) (at : Clustered m.schema) (rows : List Row) (copier applier copier' applier' : ℕ) (now : ToolMoment) → ((apply : ApplyState) → KeptAt m at rows copier applier now apply → KeptAt m at rows copier' applier' now apply) → ToolStands m at rows copier applier now → ToolStands m at rows copier' applier' now
stands_by m at rows copier applier copier' applier' now keeps (at_rest is kept) = at_rest is (keeps Idle kept)
stands_by m at rows copier applier copier' applier' now keeps (at_work next todo is kept) = at_work next todo is (keeps (Whole next todo) kept)
stands_by m at rows copier applier copier' applier' now keeps (halfway next old row rest is kept) = halfway next old row rest is (keeps (Half next old row rest) kept)
stands_by m at rows copier applier copier' applier' now keeps (returns next old row rest is kept) = returns next old row rest is (keeps (Half next old row rest) kept)

-- the copier in another session that holds what it held
pub copier_in : (m : Migration) (at : Clustered m.schema) (rows : List Row) (copier next applier : ℕ) (now : ToolMoment) → now.hold next ≡ now.hold copier → (next == applier) ≡ false → (applier == next) ≡ false → ToolStands m at rows copier applier now → ToolStands m at rows next applier now
copier_in m at rows copier next applier now same two other stands =
    stands_by m at rows copier applier next applier now
    (λ apply kept. record {
      progress = kept.progress;
      ghost = kept.ghost;
      here = kept.here;
      tool = record {
        kept = record {
          joined = subst (λ (h : SessionHold). IsJoined m rows now.stored.log (done_in now.copy) (half_in m apply) (now.hold applier).locks h.locks (taken_in now.copy) kept.progress kept.ghost) (sym same) kept.tool.kept.joined;
          old = kept.tool.kept.old;
          new = kept.tool.kept.new;
          batch = kept.tool.kept.batch;
          chunk = ap (λ (h : SessionHold). h.writes) same ∙ kept.tool.kept.chunk;
          differ = kept.tool.kept.differ;
        };
        copying = subst (λ (h : SessionHold). CopyStands m at rows now.stored h now.copy) (sym same) kept.tool.copying;
        applying = kept.tool.applying;
        two = two;
        other = other;
      };
    }) stands

-- the applier in another session that holds what it held
pub applier_in : (m : Migration) (at : Clustered m.schema) (rows : List Row) (copier applier next : ℕ) (now : ToolMoment) → now.hold next ≡ now.hold applier → (copier == next) ≡ false → (next == copier) ≡ false → ToolStands m at rows copier applier now → ToolStands m at rows copier next now
applier_in m at rows copier applier next now same two other stands =
    stands_by m at rows copier applier copier next now
    (λ apply kept. record {
      progress = kept.progress;
      ghost = kept.ghost;
      here = kept.here;
      tool = record {
        kept = record {
          joined = subst (λ (h : SessionHold). IsJoined m rows now.stored.log (done_in now.copy) (half_in m apply) h.locks (now.hold copier).locks (taken_in now.copy) kept.progress kept.ghost) (sym same) kept.tool.kept.joined;
          old = kept.tool.kept.old;
          new = kept.tool.kept.new;
          batch = ap (λ (h : SessionHold). h.writes) same ∙ kept.tool.kept.batch;
          chunk = kept.tool.kept.chunk;
          differ = kept.tool.kept.differ;
        };
        copying = kept.tool.copying;
        applying = subst (λ (h : SessionHold). ApplyStands m now.stored kept.progress kept.ghost h apply) (sym same) kept.tool.applying;
        two = two;
        other = other;
      };
    }) stands
