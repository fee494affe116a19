-- The copier's step and its session go together: a transaction is open exactly from the chunk's keys to its commit.
use Rattle.std.proofs.Common.{◌≡◌, ℕ, ◌+◌, ◌==◌, Bool, true, false, cond, List, [], Some, refl, sym, ◌∙◌}
use Rattle.server_model.specs.declared.answer.Answer.{Answer}
use Rattle.server_model.specs.declared.answer.Answer.TheVariants as answers
use Rattle.server_model.specs.declared.outcome.Progress.TheVariants.{Unfit}
use Rattle.server_model.specs.declared.request.Request.{Request}
use Rattle.server_model.specs.declared.request.Request.TheVariants as requests
use Rattle.tool_program.specs.declared.chunk_copier.copier.Chunk.{Chunk}
use Rattle.tool_program.specs.declared.chunk_copier.copier.Copier.{Copier}
use Rattle.tool_program.specs.declared.chunk_copier.copier.CopyStep.{CopyStep}
use Rattle.tool_program.specs.declared.chunk_copier.copier.CopyStep.TheVariants.{Choosing, Spanning, Copying, Committing}
use Rattle.tool_program.specs.ChunkCopier.Copiers.{begun, after_copies, took, progress, progress_at}
use Rattle.proof_journals.specs.Machine.Standings.{Standing, answered}
use Rattle.proof_journals.specs.Machine.Machines.{Stands, copier_asks, copier_busy}

-- the copier at this step
abbrev CopierStands : CopyStep → Standing → Type 0
CopierStands step standing = Stands (copier_asks step) (copier_busy step) [] standing

begun_busy : (chunk : Chunk) → copier_busy (begun chunk) ≡ true
begun_busy chunk = at (chunk.keys == 0) where
  at : (b : Bool) → copier_busy (cond b (Committing chunk) (Copying chunk 0)) ≡ true
  at true = refl
  at false = refl

copies_busy : (chunk : Chunk) (copied : ℕ) → copier_busy (after_copies chunk copied) ≡ true
copies_busy chunk copied = at (copied == chunk.keys) where
  at : (b : Bool) → copier_busy (cond b (Committing chunk) (Copying chunk copied)) ≡ true
  at true = refl
  at false = refl

-- an answer, at each step
at_choosing : (turn : ℕ) (copier : Copier) (table : List ℕ) (low : _) (top : _) (size : ℕ) (answer : Answer) (old : Standing) → CopierStands Choosing old
    → CopierStands (took turn (record copier { step = Choosing }) answer).step (answered (requests.ChunkEnd table low top size) answer old)
unfolding took
at_choosing turn copier table low top size answers.Lost old is = record { busy = refl; locked = refl; waits = refl }
at_choosing turn copier table low top size (answers.TimedOut waited) old is = record { busy = refl; locked = is.locked; waits = refl }
at_choosing turn copier table low top size (answers.Waits by) old is = record { busy = is.busy; locked = is.locked; waits = refl }
at_choosing turn copier table low top size (answers.End end) old is = record { busy = is.busy; locked = is.locked; waits = refl }
at_choosing turn copier table low top size answer old is = record { busy = is.busy; locked = is.locked; waits = refl }

at_spanning : (turn : ℕ) (copier : Copier) (reported most : ℕ) (table : List ℕ) (span : _) (size : ℕ) (answer : Answer) (old : Standing) → CopierStands (Spanning reported most) old
    → CopierStands (took turn (record copier { step = Spanning reported most }) answer).step (answered (requests.BeginSpan table span size) answer old)
unfolding took
at_spanning turn copier reported most table span size answers.Lost old is = record { busy = refl; locked = refl; waits = refl }
at_spanning turn copier reported most table span size (answers.TimedOut waited) old is = record { busy = refl; locked = is.locked; waits = refl }
at_spanning turn copier reported most table span size (answers.Waits by) old is = record { busy = is.busy; locked = is.locked; waits = refl }
at_spanning turn copier reported most table span size (answers.Keys keys end) old is = record { busy = sym (begun_busy _); locked = is.locked; waits = refl }
at_spanning turn copier reported most table span size answer old is = record { busy = is.busy; locked = is.locked; waits = refl }

at_copying : (turn : ℕ) (copier : Copier) (chunk : Chunk) (copied : ℕ) (from into : List ℕ) (map : _) (key : _) (answer : Answer) (old : Standing) → CopierStands (Copying chunk copied) old
    → CopierStands (took turn (record copier { step = Copying chunk copied }) answer).step (answered (requests.CopyRow from into map key) answer old)
unfolding took
at_copying turn copier chunk copied from into map key answers.Lost old is = record { busy = refl; locked = refl; waits = refl }
at_copying turn copier chunk copied from into map key (answers.TimedOut waited) old is = record { busy = refl; locked = is.locked; waits = refl }
at_copying turn copier chunk copied from into map key (answers.Waits by) old is = record { busy = is.busy; locked = is.locked; waits = refl }
at_copying turn copier chunk copied from into map key (answers.Ok count) old is = record { busy = is.busy ∙ sym (copies_busy chunk (copied + 1)); locked = is.locked; waits = refl }
at_copying turn copier chunk copied from into map key answer old is = record { busy = is.busy; locked = is.locked; waits = refl }

at_committing : (turn : ℕ) (copier : Copier) (chunk : Chunk) (answer : Answer) (old : Standing) → CopierStands (Committing chunk) old → CopierStands (took turn (record copier { step = Committing chunk }) answer).step (answered requests.Commit answer old)
unfolding took
at_committing turn copier chunk answers.Lost old is = record { busy = refl; locked = refl; waits = refl }
at_committing turn copier chunk (answers.TimedOut waited) old is = record { busy = refl; locked = is.locked; waits = refl }
at_committing turn copier chunk (answers.Waits by) old is = record { busy = is.busy; locked = is.locked; waits = refl }
at_committing turn copier chunk (answers.Ok count) old is = record { busy = refl; locked = is.locked; waits = refl }
at_committing turn copier chunk answer old is = record { busy = is.busy; locked = is.locked; waits = refl }

by_step : (turn : ℕ) (copier : Copier) (step : CopyStep) (request : Request) (answer : Answer) (old : Standing) → CopierStands step old → copier_asks step request ≡ true → CopierStands (took turn (record copier { step = step }) answer).step (answered request answer old)
by_step turn copier Choosing (requests.ChunkEnd table low top size) answer old is asks = at_choosing turn copier table low top size answer old is
by_step turn copier (Spanning reported most) (requests.BeginSpan table span size) answer old is asks = at_spanning turn copier reported most table span size answer old is
by_step turn copier (Copying chunk copied) (requests.CopyRow from into map key) answer old is asks = at_copying turn copier chunk copied from into map key answer old is
by_step turn copier (Committing chunk) requests.Commit answer old is asks = at_committing turn copier chunk answer old is
by_step turn copier step request answer old is asks = absurd cc

-- *Behind each answer the copier's step and its session go together*
pub copier_stands : (turn : ℕ) (copier : Copier) (request : Request) (answer : Answer) (old : Standing) → CopierStands copier.step old → copier_asks copier.step request ≡ true → CopierStands (took turn copier answer).step (answered request answer old)
copier_stands turn copier request answer old is asks = by_step turn copier copier.step request answer old is asks

-- a row that doesn't fit leaves both as they are
pub copier_unfit : (copier : Copier) (request : Request) (answer : Answer) (old : Standing) (place number : ℕ) → CopierStands copier.step old → copier_asks copier.step request ≡ true → progress copier answer ≡ Unfit place number → CopierStands copier.step (answered request answer old)
unfolding progress
copier_unfit copier request answer old place number is asks unfit = by copier.step answer unfit is request asks where
  by : (step : CopyStep) (answer : Answer) → progress_at step answer ≡ Unfit place number → CopierStands step old → (request : Request) → copier_asks step request ≡ true → CopierStands step (answered request answer old)
  by (Copying chunk copied) (answers.Refused error (Some one)) unfit is request asks = refused request asks where
    refused : (request : Request) → copier_asks (Copying chunk copied) request ≡ true → CopierStands (Copying chunk copied) (answered request (answers.Refused error (Some one)) old)
    refused (requests.CopyRow from into map key) asks = record { busy = is.busy; locked = is.locked; waits = refl }
    refused request asks = absurd cc
  by step answers.Lost unfit is request asks = absurd cc
  by step (answers.TimedOut waited) unfit is request asks = absurd cc
  by step answer unfit is request asks = absurd cc
