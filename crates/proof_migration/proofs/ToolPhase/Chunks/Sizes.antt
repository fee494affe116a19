-- Each chunk is as small as the size that stood when its end was asked for: what the copier's step says of the rows that it
-- called, behind every journal.
use Rattle.std.proofs.Common.{◌≡◌, ℕ, zero, suc, ◌+◌, ◌≤◌, ◌<◌, ◌==◌, Bool, true, false, List, [], ◌∷◌, ◌++◌, length, take, cond, Option, Some, None, refl, sym, ◌∙◌, arith}
use Rattle.std.proofs.lemmas.Bool.{true≢false}
use Rattle.std.proofs.lemmas.Bool.Decides.{nat_tests}
use Rattle.std.proofs.lemmas.List.Sums.{fold-append}
use Rattle.base_values.specs.declared.span.Span.{Span}
use Rattle.base_values.specs.declared.value.Value.{Value}
use Rattle.table_store.specs.Databases.{TableRows, find_table}
use Rattle.base_script.specs.declared.operator.OperatorWord.{OperatorWord}
use Rattle.base_script.specs.declared.operator.OperatorWord.TheVariants.{Throttle, NoThrottle, ChunkSize, Unpostpone, Panic, Wait}
use Rattle.server_model.specs.Chunks as chunks
use Rattle.server_model.specs.Chunks.{span_keys}
use Rattle.server_model.specs.Effects.{begins, effect_unless, is_outside}
use Rattle.server_model.specs.declared.answer.Answer.{Answer}
use Rattle.server_model.specs.declared.answer.Answer.TheVariants as answers
use Rattle.server_model.specs.declared.entry.Asked.{Asked}
use Rattle.server_model.specs.declared.entry.Asked.TheVariants.{Call, Poll, Command, Cut}
use Rattle.server_model.specs.declared.entry.Entry.{Entry}
use Rattle.server_model.specs.declared.outcome.Progress.TheVariants.{Unfit}
use Rattle.server_model.specs.declared.request.Request.{Request}
use Rattle.server_model.specs.declared.request.Request.TheVariants as requests
use Rattle.server_model.specs.Blockers.{need_within}
use Rattle.server_model.specs.PlainServer.{does, done, did}
use Rattle.server_model.specs.States.{State, session_of, is_in_transaction, view}
use Rattle.plan_data.specs.PlanData.{PlanData}
use Rattle.tool_program.specs.ChunkCopier.Copiers as copiers
use Rattle.tool_program.specs.ChunkCopier.Copiers.{begun, after_copies, after_answer, progress_at, call_at}
use Rattle.tool_program.specs.declared.chunk_copier.copier.Chunk.{Chunk}
use Rattle.tool_program.specs.declared.chunk_copier.copier.Copier.{Copier}
use Rattle.tool_program.specs.declared.chunk_copier.copier.CopyStep.{CopyStep}
use Rattle.tool_program.specs.declared.chunk_copier.copier.CopyStep.TheVariants.{Choosing, Spanning, Copying, Committing}
use Rattle.tool_program.specs.CutoverCore.CutOvers.{is_wait}
use Rattle.tool_program.specs.Online.{Copied, copied_after, copied_at}
use Rattle.proof_journals.specs.Machine.Standings.{Standing, answered}
use Rattle.proof_migration.proofs.ToolPhase.CopyAnswers.{CopyFits}

-- HOW MANY ROWS WERE CALLED

-- a copy that waits was called
abbrev pub weight : Option Request → ℕ
weight None = 0
weight (Some request) = 1

-- what waits asks for at most so many keys
abbrev pub SpanWaits : ℕ → Option Request → Type 0
SpanWaits size None = Unit {0}
SpanWaits size (Some (requests.BeginSpan table span most)) = most ≤ size
SpanWaits size (Some request) = Unit {0}

-- what the copier's step says of the rows called since the last chunk's end was asked for
abbrev pub SmallStep : Copied → Option Request → CopyStep → Type 0
SmallStep copied waits Choosing = waits ≡ None
SmallStep copied waits (Spanning reported size) = (size ≤ copied.size) × (copied.rows ≡ 0) × SpanWaits size waits
SmallStep copied waits (Copying chunk done) = (chunk.keys ≤ copied.size) × (copied.rows ≡ done + weight waits) × (done < chunk.keys)
SmallStep copied waits (Committing chunk) = Unit {0}

pub record IsSmall (copied : Copied) (waits : Option Request) (copier : Copier) : Type 0 where
  pub size : copier.size ≡ copied.standing
  pub step : SmallStep copied waits copier.step

-- WHAT IS ANSWERED

-- the keys of a span are at most as many as were asked for
abbrev pub FewKeys : ℕ → Answer → Type 0
FewKeys size (answers.Keys keys end) = length keys ≤ size
FewKeys size answer = Unit {0}

pub take_few : {A : Type 0} (n : ℕ) (xs : List A) → length (take n xs) ≤ n
take_few zero xs = omega arith
take_few (suc n) [] = omega arith
take_few (suc n) (x ∷ xs) = let rest = take_few n xs in omega (arith, rest)

pub keys_few : (found : State) (number : ℕ) (table : List ℕ) (span : Span) (size : ℕ) → FewKeys size (done found number (requests.BeginSpan table span size)).answer
unfolding did span_keys
keys_few found number table span size = at (is_outside (session_of number found.sessions) (requests.BeginSpan table span size)) where
  begun_few : (one : Option TableRows) → FewKeys size (does (begins one span size (need_within (view number found) (requests.BeginSpan table span size))) found number).answer
  begun_few None = tt
  begun_few (Some t) = take_few size (chunks.keys_in span t)

  at : (b : Bool) → FewKeys size (does (effect_unless b (is_in_transaction (session_of number found.sessions)) (view number found) found (requests.BeginSpan table span size)) found number).answer
  at true = tt
  at false = begun_few (find_table table found.tables)

-- AN ANSWER, AT EACH STEP

pub took_size : (turn : ℕ) (copier : Copier) (answer : Answer) → (copiers.took turn copier answer).size ≡ copier.size
unfolding copiers.took
took_size turn copier answers.Lost = refl
took_size turn copier (answers.TimedOut waited) = refl
took_size turn copier answer = at copier.step answer where
  at : (step : CopyStep) (answer : Answer) → (after_answer turn copier step answer).size ≡ copier.size
  at Choosing (answers.End end) = refl
  at Choosing answer = refl
  at (Spanning reported size) (answers.Keys keys end) = refl
  at (Spanning reported size) answer = refl
  at (Copying chunk copied) (answers.Ok count) = refl
  at (Copying chunk copied) answer = refl
  at (Committing chunk) (answers.Ok count) = refl
  at (Committing chunk) answer = refl

-- the step behind an answer, where it was this one
abbrev pub step_after : ℕ → Copier → CopyStep → Answer → CopyStep
step_after turn copier step answer = (copiers.took turn (record copier { step = step }) answer).step

module _ (turn : ℕ) (copier : Copier) (old : Standing) where
  pub small_choosing : (copied : Copied) (table : List ℕ) (low : _) (top : List Value) (size : ℕ) (answer : Answer) → copier.size ≤ copied.size → copied.rows ≡ 0 → is_wait answer ≡ false
      → SmallStep copied (answered (requests.ChunkEnd table low top size) answer old).waits (step_after turn copier Choosing answer)
  unfolding copiers.took
  small_choosing copied table low top size answers.Lost within none at_once = refl
  small_choosing copied table low top size (answers.TimedOut waited) within none at_once = refl
  small_choosing copied table low top size (answers.Waits by) within none at_once = absurd (true≢false at_once)
  small_choosing copied table low top size (answers.End end) within none at_once = (within, none, tt)
  small_choosing copied table low top size answer within none at_once = refl

  begun_small : (copied : Copied) (chunk : Chunk) → chunk.keys ≤ copied.size → copied.rows ≡ 0 → SmallStep copied None (begun chunk)
  begun_small copied chunk few none = by (chunk.keys == 0) refl where
    some : (n : ℕ) → (n == 0) ≡ false → 0 < n
    some n off = grind (arith, nat_tests)

    by : (b : Bool) → (chunk.keys == 0) ≡ b → SmallStep copied None (cond b (Committing chunk) (Copying chunk 0))
    by true is = tt
    by false is = (few, none, some chunk.keys is)

  pub small_spanning : (copied : Copied) (reported most : ℕ) (table : List ℕ) (span : Span) (size : ℕ) (answer : Answer) → size ≤ most → most ≤ copied.size → copied.rows ≡ 0 → FewKeys size answer
      → SmallStep copied (answered (requests.BeginSpan table span size) answer old).waits (step_after turn copier (Spanning reported most) answer)
  unfolding copiers.took
  small_spanning copied reported most table span size answers.Lost few within none keys = refl
  small_spanning copied reported most table span size (answers.TimedOut waited) few within none keys = refl
  small_spanning copied reported most table span size (answers.Waits by) few within none keys = (within, none, few)
  small_spanning copied reported most table span size (answers.Keys keys end) few within none all = begun_small copied _ (omega (arith, all, few, within)) none
  small_spanning copied reported most table span size answer few within none keys = (within, none, tt)

  copied_small : (copied : Copied) (chunk : Chunk) (many : ℕ) → chunk.keys ≤ copied.size → copied.rows ≡ many → many ≤ chunk.keys → SmallStep copied None (after_copies chunk many)
  copied_small copied chunk many few rows within = by (many == chunk.keys) refl where
    below : (n most : ℕ) → n ≤ most → (n == most) ≡ false → n < most
    below n most less off = grind (arith, nat_tests)

    by : (b : Bool) → (many == chunk.keys) ≡ b → SmallStep copied None (cond b (Committing chunk) (Copying chunk many))
    by true is = tt
    by false is = (few, let same : many + 0 ≡ many = omega arith in rows ∙ sym same, below many chunk.keys within is)

  pub small_copying : (copied : Copied) (chunk : Chunk) (many : ℕ) (from into : List ℕ) (map : _) (key : List Value) (answer : Answer) (seen : _) → chunk.keys ≤ copied.size → copied.rows ≡ many + 1 → many < chunk.keys → CopyFits seen from map key answer → ((place number : ℕ) → progress_at (Copying chunk many) answer ≡ Unfit place number → ⊥)
      → SmallStep copied (answered (requests.CopyRow from into map key) answer old).waits (step_after turn copier (Copying chunk many) answer)
  unfolding copiers.took
  small_copying copied chunk many from into map key answers.Lost seen few rows below fits none = refl
  small_copying copied chunk many from into map key (answers.TimedOut waited) seen few rows below fits none = refl
  small_copying copied chunk many from into map key (answers.Waits by) seen few rows below fits none = (few, rows, below)
  small_copying copied chunk many from into map key (answers.Ok count) seen few rows below fits none = copied_small copied chunk (many + 1) few rows (omega (arith, below))
  small_copying copied chunk many from into map key (answers.Refused number None) seen few rows below fits none = absurd fits
  small_copying copied chunk many from into map key (answers.Refused number (Some place)) seen few rows below fits none = absurd (none place number refl)
  small_copying copied chunk many from into map key answer seen few rows below fits none = absurd fits

  pub small_committing : (copied : Copied) (chunk : Chunk) (answer : Answer) → SmallStep copied (answered requests.Commit answer old).waits (step_after turn copier (Committing chunk) answer)
  unfolding copiers.took
  small_committing copied chunk answers.Lost = refl
  small_committing copied chunk (answers.TimedOut waited) = refl
  small_committing copied chunk (answers.Ok count) = refl
  small_committing copied chunk answer = tt

-- WHAT THE JOURNAL SAYS

pub copied_more : (plan : PlanData) (journal : List Entry) (entry : Entry) → copied_at plan (journal ++ entry ∷ []) ≡ copied_after entry.asked (copied_at plan journal)
unfolding copied_at
copied_more plan journal entry = fold-append (λ copied one. copied_after one.asked copied) (record { standing = plan.options.chunk_size; size = 0; rows = 0 }) journal (entry ∷ [])

-- a call that asks for no chunk's end and copies no row changes nothing
abbrev pub is_counted : Asked → Bool
is_counted (Command word) = true
is_counted (Call (requests.ChunkEnd table low top size)) = true
is_counted (Call (requests.CopyRow from into map key)) = true
is_counted asked = false

pub uncounted : (asked : Asked) (copied : Copied) → is_counted asked ≡ false → copied_after asked copied ≡ copied
uncounted (Command word) copied none = absurd (true≢false none)
uncounted (Call (requests.ChunkEnd table low top size)) copied none = absurd (true≢false none)
uncounted (Call (requests.CopyRow from into map key)) copied none = absurd (true≢false none)
uncounted (Call request) copied none = refl
uncounted Poll copied none = refl
uncounted Cut copied none = refl

-- ... nor does another command than for the chunks' size
pub unsized : (word : OperatorWord) (copied : Copied) → ((size : ℕ) → word ≡ ChunkSize size → ⊥) → copied_after (Command word) copied ≡ copied
unsized (ChunkSize size) copied none = absurd (none size refl)
unsized Throttle copied none = refl
unsized NoThrottle copied none = refl
unsized Unpostpone copied none = refl
unsized Panic copied none = refl
unsized Wait copied none = refl
