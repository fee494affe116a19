-- The copier's step is what the journal tells of the chunk at hand.
use Rattle.std.proofs.Common.{◌≡◌, ◌⊎◌, ℕ, ◌+◌, ◌==◌, Bool, true, false, cond, List, [], ◌∷◌, ◌++◌, length, Option, Some, None, refl, sym, ap, ◌∙◌, subst, inl, inr}
use Rattle.std.specs.List.{slice_get}
use Rattle.std.proofs.lemmas.Bool.{false≢true}
use Rattle.base_values.specs.declared.span.Bound.{Bound}
use Rattle.base_values.specs.declared.span.Bound.TheVariants.{Open, Closed}
use Rattle.base_values.specs.declared.value.Value.{Value}
use Rattle.base_values.specs.ToolNames.{ghost_name}
use Rattle.base_script.specs.declared.actor.Actor.TheVariants.{Copy}
use Rattle.server_model.specs.declared.answer.Answer.{Answer}
use Rattle.server_model.specs.declared.answer.Answer.TheVariants as answers
use Rattle.server_model.specs.declared.entry.Asked.{Asked}
use Rattle.server_model.specs.declared.entry.Asked.TheVariants.{Call, Poll}
use Rattle.server_model.specs.declared.entry.Entry.{Entry}
use Rattle.server_model.specs.declared.request.Request.{Request}
use Rattle.server_model.specs.declared.request.Request.TheVariants as requests
use Rattle.server_model.specs.EarlierAnswers.{keys_in, end_in}
use Rattle.server_model.specs.Entries.{answer_at}
use Rattle.plan_data.specs.PlanData.{PlanData}
use Rattle.tool_program.proofs.JournalWords.Answers.{answer_more}
use Rattle.tool_program.specs.declared.chunk_copier.copier.Chunk.{Chunk}
use Rattle.tool_program.specs.declared.chunk_copier.copier.Copier.{Copier}
use Rattle.tool_program.specs.declared.chunk_copier.copier.CopyRange.{CopyRange}
use Rattle.tool_program.specs.declared.chunk_copier.copier.CopyStep.{CopyStep}
use Rattle.tool_program.specs.declared.chunk_copier.copier.CopyStep.TheVariants.{Choosing, Spanning, Copying, Committing}
use Rattle.tool_program.specs.ChunkCopier.Copiers.{low_end, key_at, copies, call_at, call_in, next, begun, after_copies, is_top, took, progress, progress_at}
use Rattle.proof_journals.specs.Machine.Machines.{copier_asks}
use Rattle.proof_journals.proofs.Machine.Asking.{some_request}
use Rattle.base_values.specs.declared.row_conversion.map.MapColumn.{MapColumn}
use Rattle.base_values.specs.declared.span.Span.{Span}
use Rattle.proof_journals.specs.Machine.Standings.{answers_to}
use Rattle.server_model.specs.declared.outcome.Progress.TheVariants.{Unfit}
use Rattle.tool_program.specs.CutoverCore.CutOvers.{is_wait}
use Rattle.proof_order.specs.ChunkLocks.{CopiedChunk, answered_after, chunk_after, chunk_at, IsLockedCall}

-- WHAT IS SO

-- the turn is in the journal
pub record IsTaken (journal : List Entry) (turn : ℕ) : Type 0 where
  pub answer : Answer
  pub is : answer_at journal turn ≡ Some answer

abbrev pub FollowsAt : List Entry → Option ℕ → Type 0
FollowsAt journal None = Unit {0}
FollowsAt journal (Some turn) = IsTaken journal turn

-- where the next chunk begins
abbrev pub low_of : List Entry → Option CopyRange → Option ℕ → Bound
low_of journal None following = Closed []
low_of journal (Some range) following = low_end journal range following

abbrev pub StepAt : List Entry → CopiedChunk → Option Request → Bound → CopyStep → Type 0
StepAt journal chunk waits low Choosing = (request : Request) → waits ≡ Some request → chunk.low ≡ low
StepAt journal chunk waits low (Spanning reported size) = IsTaken journal reported × (chunk.high ≡ Some (end_in (answer_at journal reported))) × (chunk.low ≡ low)
StepAt journal chunk waits low (Copying at copied) = IsTaken journal at.reported × (chunk.keys ≡ Some (keys_in (answer_at journal at.reported))) × (chunk.low ≡ low)
StepAt journal chunk waits low (Committing at) = IsTaken journal at.reported × (chunk.low ≡ low)

pub record CopierAt (journal : List Entry) (chunk : CopiedChunk) (waits : Option Request) (copier : Copier) : Type 0 where
  pub follows : FollowsAt journal copier.following
  pub step : StepAt journal chunk waits (low_of journal copier.range copier.following) copier.step

-- the copier calls this, where its end is asked for from where the next chunk begins; or it polls what waits
pub data AsksChunk (low : Bound) (waits : Option Request) (request : Request) (asked : Asked) : Type 0 where
  calls_it : asked ≡ Call request → ((table : List ℕ) (from : Bound) (top : List Value) (size : ℕ) → request ≡ requests.ChunkEnd table from top size → from ≡ low) → AsksChunk low waits request asked
  polls_it : asked ≡ Poll → waits ≡ Some request → AsksChunk low waits request asked

-- JOURNALS THAT GROW

taken_more : (journal more : List Entry) (turn : ℕ) → IsTaken journal turn → IsTaken (journal ++ more) turn
taken_more journal more turn is = record { answer = is.answer; is = answer_more journal more turn is.answer is.is }

answer_same : (journal more : List Entry) (turn : ℕ) → IsTaken journal turn → answer_at (journal ++ more) turn ≡ answer_at journal turn
answer_same journal more turn is = answer_more journal more turn is.answer is.is ∙ sym is.is

follows_more : (journal more : List Entry) (following : Option ℕ) → FollowsAt journal following → FollowsAt (journal ++ more) following
follows_more journal more None is = tt
follows_more journal more (Some turn) is = taken_more journal more turn is

low_more : (journal more : List Entry) (range : Option CopyRange) (following : Option ℕ) → FollowsAt journal following → low_of (journal ++ more) range following ≡ low_of journal range following
low_more journal more None following is = refl
low_more journal more (Some range) None is = refl
low_more journal more (Some range) (Some turn) is = ap (λ (a : Option Answer). Open (end_in a)) (answer_same journal more turn is)

step_more : (journal more : List Entry) (chunk : CopiedChunk) (waits now_waits : Option Request) (low now_low : Bound) (step : CopyStep) → now_low ≡ low → ((request : Request) → now_waits ≡ Some request → waits ≡ Some request)
    → StepAt journal chunk waits low step → StepAt (journal ++ more) chunk now_waits now_low step
step_more journal more chunk waits now_waits low now_low Choosing same fewer is = λ request some. is request (fewer request some) ∙ sym same
step_more journal more chunk waits now_waits low now_low (Spanning reported size) same fewer is =
    (taken_more journal more reported is.0, is.1 ∙ ap (λ (a : Option Answer). Some (end_in a)) (sym (answer_same journal more reported is.0)), is.2 ∙ sym same)
step_more journal more chunk waits now_waits low now_low (Copying at copied) same fewer is =
    (taken_more journal more at.reported is.0, is.1 ∙ ap (λ (a : Option Answer). Some (keys_in a)) (sym (answer_same journal more at.reported is.0)), is.2 ∙ sym same)
step_more journal more chunk waits now_waits low now_low (Committing at) same fewer is = (taken_more journal more at.reported is.0, is.1 ∙ sym same)

-- *In others' turns*
pub copier_more : (journal more : List Entry) (chunk : CopiedChunk) (waits now_waits : Option Request) (copier : Copier) → ((request : Request) → now_waits ≡ Some request → waits ≡ Some request) → CopierAt journal chunk waits copier → CopierAt (journal ++ more) chunk now_waits copier
copier_more journal more chunk waits now_waits copier fewer is = record {
  follows = follows_more journal more copier.following is.follows;
  step =
      step_more journal more chunk waits now_waits (low_of journal copier.range copier.following) (low_of (journal ++ more) copier.range copier.following) copier.step (low_more journal more copier.range copier.following is.follows) fewer is.step;
}

-- AN ANSWER

module _ (journal : List Entry) (entry : Entry) (turn : ℕ) (copier : Copier) (chunk : CopiedChunk) (waits now_waits : Option Request) (answer : Answer) (here : answer_at (journal ++ entry ∷ []) turn ≡ Some answer) where
  abbrev more : List Entry
  more = journal ++ entry ∷ []

  abbrev low : Bound
  low = low_of journal copier.range copier.following

  abbrev Old : CopyStep → Type 0
  Old step = CopierAt journal chunk waits (record copier { step = step })

  abbrev New : Asked → CopyStep → Type 0
  New asked step = CopierAt more (chunk_after Copy asked answer chunk) now_waits (took turn (record copier { step = step }) answer)

  taken : IsTaken more turn
  taken = record { answer = answer; is = here }

  -- what this chunk is, at a step that its range and what it follows don't change
  goes : (next_chunk : CopiedChunk) (step : CopyStep) → FollowsAt journal copier.following → (low_of more copier.range copier.following ≡ low → StepAt more next_chunk now_waits (low_of more copier.range copier.following) step) → CopierAt more next_chunk now_waits (record copier { step = step })
  goes next_chunk step follows is = record { follows = follows_more journal (entry ∷ []) copier.following follows; step = is (low_more journal (entry ∷ []) copier.range copier.following follows) }

  -- it begins again
  chooses : (next_chunk : CopiedChunk) → FollowsAt journal copier.following → next_chunk.low ≡ low → CopierAt more next_chunk now_waits (record copier { step = Choosing })
  chooses next_chunk follows is = goes next_chunk Choosing follows (λ same request some. is ∙ sym same)

  -- it stays at its step
  stays : (step : CopyStep) → FollowsAt journal copier.following → StepAt journal chunk now_waits low step → CopierAt more chunk now_waits (record copier { step = step })
  stays step follows is = goes chunk step follows (λ same. step_more journal (entry ∷ []) chunk now_waits now_waits low (low_of more copier.range copier.following) step same (λ request some. some) is)

  end_here : (end : List Value) → answer ≡ answers.End end → Some end ≡ Some (end_in (answer_at more turn))
  end_here end is = ap (λ (a : Option Answer). Some (end_in a)) (sym (here ∙ ap Some is))

  keys_here : (keys : List (List Value)) (end : List Value) → answer ≡ answers.Keys keys end → Some keys ≡ Some (keys_in (answer_at more turn))
  keys_here keys end is = ap (λ (a : Option Answer). Some (keys_in a)) (sym (here ∙ ap Some is))

  -- THE END IS ASKED FOR

  choosing : (asked_chunk : CopiedChunk) → asked_chunk.low ≡ low → FollowsAt journal copier.following → (one : Answer) → answer ≡ one → CopierAt more (answered_after one asked_chunk) now_waits (took turn (record copier { step = Choosing }) one)
  unfolding took
  choosing asked_chunk is follows (answers.End end) same = goes (record asked_chunk { high = Some end }) (Spanning turn copier.size) follows (λ low_is. (taken, end_here end same, is ∙ sym low_is))
  choosing asked_chunk is follows answers.Lost same = chooses (record asked_chunk { keys = None }) follows is
  choosing asked_chunk is follows (answers.TimedOut waited) same = chooses (record asked_chunk { keys = None }) follows is
  choosing asked_chunk is follows (answers.Keys keys end) same = chooses (record asked_chunk { keys = Some keys }) follows is
  choosing asked_chunk is follows one same = chooses asked_chunk follows is

  at_choosing : (table : List ℕ) (from : Bound) (top : List Value) (size : ℕ) (asked : Asked) → AsksChunk low waits (requests.ChunkEnd table from top size) asked → Old Choosing → New asked Choosing
  at_choosing table from top size asked (calls_it asks begins) old =
      subst (λ (a : Asked). New a Choosing) (sym asks) (choosing (record { low = from; high = None; keys = None }) (begins table from top size refl) old.follows answer refl)
  at_choosing table from top size asked (polls_it asks some) old = subst (λ (a : Asked). New a Choosing) (sym asks) (choosing chunk (old.step (requests.ChunkEnd table from top size) some) old.follows answer refl)

  -- THE SPAN IS LOCKED

  begins : (keys : List (List Value)) (end : List Value) → answer ≡ answers.Keys keys end → FollowsAt journal copier.following → chunk.low ≡ low
      → CopierAt more (record chunk { keys = Some keys }) now_waits (record copier { step = begun (record { reported = turn; keys = length keys; is_last = is_top copier.range end }) })
  begins keys end same follows is = by (length keys == 0) where
    at : Chunk
    at = record { reported = turn; keys = length keys; is_last = is_top copier.range end }

    by : (b : Bool) → CopierAt more (record chunk { keys = Some keys }) now_waits (record copier { step = cond b (Committing at) (Copying at 0) })
    by true = goes (record chunk { keys = Some keys }) (Committing at) follows (λ low_is. (taken, is ∙ sym low_is))
    by false = goes (record chunk { keys = Some keys }) (Copying at 0) follows (λ low_is. (taken, keys_here keys end same, is ∙ sym low_is))

  spanning : (reported size most : ℕ) (table : List ℕ) (span : Span) → Old (Spanning reported size) → (one : Answer) → answer ≡ one → answers_to (requests.BeginSpan table span most) one ≡ true → CopierAt more (answered_after one chunk) now_waits (took turn (record copier { step = Spanning reported size }) one)
  unfolding took
  spanning reported size most table span old (answers.Keys keys end) same fits = begins keys end same old.follows old.step.2
  spanning reported size most table span old answers.Lost same fits = chooses (record chunk { keys = None }) old.follows old.step.2
  spanning reported size most table span old (answers.TimedOut waited) same fits = chooses (record chunk { keys = None }) old.follows old.step.2
  spanning reported size most table span old (answers.End end) same fits = absurd (false≢true fits)
  spanning reported size most table span old one same fits = stays (Spanning reported size) old.follows old.step

  -- ITS ROWS ARE COPIED

  copies_on : (at : Chunk) (copied : ℕ) → Old (Copying at copied) → CopierAt more chunk now_waits (record copier { step = after_copies at (copied + 1) })
  copies_on at copied old = by ((copied + 1) == at.keys) where
    by : (b : Bool) → CopierAt more chunk now_waits (record copier { step = cond b (Committing at) (Copying at (copied + 1)) })
    by true = stays (Committing at) old.follows (old.step.0, old.step.2)
    by false = stays (Copying at (copied + 1)) old.follows old.step

  copying : (at : Chunk) (copied : ℕ) (from into : List ℕ) (map : List MapColumn) (key : List Value) → Old (Copying at copied) → (one : Answer) → answers_to (requests.CopyRow from into map key) one ≡ true → CopierAt more (answered_after one chunk) now_waits (took turn (record copier { step = Copying at copied }) one)
  unfolding took
  copying at copied from into map key old (answers.Ok count) fits = copies_on at copied old
  copying at copied from into map key old answers.Lost fits = chooses (record chunk { keys = None }) old.follows old.step.2
  copying at copied from into map key old (answers.TimedOut waited) fits = chooses (record chunk { keys = None }) old.follows old.step.2
  copying at copied from into map key old (answers.End end) fits = absurd (false≢true fits)
  copying at copied from into map key old (answers.Keys keys end) fits = absurd (false≢true fits)
  copying at copied from into map key old one fits = stays (Copying at copied) old.follows old.step

  -- IT IS COMMITTED

  committing : (at : Chunk) (asked_chunk : CopiedChunk) → asked_chunk.low ≡ low → Old (Committing at) → (one : Answer) → (is_wait one ≡ false → now_waits ≡ None) → answers_to requests.Commit one ≡ true
      → CopierAt more (answered_after one asked_chunk) now_waits (took turn (record copier { step = Committing at }) one)
  unfolding took
  committing at asked_chunk is old (answers.Ok count) quiet fits =
      record { follows = taken_more journal (entry ∷ []) at.reported old.step.0; step = λ request some. absurd (no (sym (quiet refl) ∙ some)) } where
        no : {request : Request} → None ≡ Some request → ⊥
        no same = cc
  committing at asked_chunk is old answers.Lost quiet fits = chooses (record asked_chunk { keys = None }) old.follows is
  committing at asked_chunk is old (answers.TimedOut waited) quiet fits = chooses (record asked_chunk { keys = None }) old.follows is
  committing at asked_chunk is old (answers.End end) quiet fits = absurd (false≢true fits)
  committing at asked_chunk is old (answers.Keys keys end) quiet fits = absurd (false≢true fits)
  committing at asked_chunk is old one quiet fits = goes asked_chunk (Committing at) old.follows (λ low_is. (taken_more journal (entry ∷ []) at.reported old.step.0, is ∙ sym low_is))

  by_step : (step : CopyStep) (request : Request) (asked : Asked) → AsksChunk low waits request asked → copier_asks step request ≡ true → (is_wait answer ≡ false → now_waits ≡ None) → answers_to request answer ≡ true → Old step → New asked step
  by_step Choosing (requests.ChunkEnd table from top size) asked asks kind quiet fits old = at_choosing table from top size asked asks old
  by_step (Spanning reported size) (requests.BeginSpan table span most) asked (calls_it called begins_so) kind quiet fits old =
      subst (λ (a : Asked). New a (Spanning reported size)) (sym called) (spanning reported size most table span old answer refl fits)
  by_step (Spanning reported size) (requests.BeginSpan table span most) asked (polls_it polled some) kind quiet fits old =
      subst (λ (a : Asked). New a (Spanning reported size)) (sym polled) (spanning reported size most table span old answer refl fits)
  by_step (Copying at copied) (requests.CopyRow from into map key) asked (calls_it called begins_so) kind quiet fits old = subst (λ (a : Asked). New a (Copying at copied)) (sym called) (copying at copied from into map key old answer fits)
  by_step (Copying at copied) (requests.CopyRow from into map key) asked (polls_it polled some) kind quiet fits old = subst (λ (a : Asked). New a (Copying at copied)) (sym polled) (copying at copied from into map key old answer fits)
  by_step (Committing at) requests.Commit asked (calls_it called begins_so) kind quiet fits old =
      subst (λ (a : Asked). New a (Committing at)) (sym called) (committing at (record chunk { keys = None }) old.step.1 old answer quiet fits)
  by_step (Committing at) requests.Commit asked (polls_it polled some) kind quiet fits old = subst (λ (a : Asked). New a (Committing at)) (sym polled) (committing at chunk old.step.1 old answer quiet fits)
  by_step step request asked asks kind quiet fits old = absurd (false≢true kind)

  -- *What the copier took*
  pub took_chunk : (request : Request) (asked : Asked) → AsksChunk low waits request asked → copier_asks copier.step request ≡ true → (is_wait answer ≡ false → now_waits ≡ None) → answers_to request answer ≡ true → CopierAt journal chunk waits copier
      → CopierAt more (chunk_after Copy asked answer chunk) now_waits (took turn copier answer)
  took_chunk request asked asks kind quiet fits old = by_step copier.step request asked asks kind quiet fits old

-- A ROW THAT DOESN'T FIT TELLS NOTHING

refused_same : (asked : Asked) (number : ℕ) (column : Option ℕ) (request : Request) (at : Chunk) (copied : ℕ) (chunk : CopiedChunk) → copier_asks (Copying at copied) request ≡ true → (asked ≡ Call request) ⊎ (asked ≡ Poll) → chunk_after Copy asked (answers.Refused number column) chunk ≡ chunk
refused_same asked number column (requests.CopyRow from into map key) at copied chunk kind (inl called) = ap (λ (a : Asked). chunk_after Copy a (answers.Refused number column) chunk) called
refused_same asked number column request at copied chunk kind (inr polled) = ap (λ (a : Asked). chunk_after Copy a (answers.Refused number column) chunk) polled
refused_same asked number column request at copied chunk kind (inl called) = absurd (false≢true kind)

pub unfit_chunk : (copier : Copier) (asked : Asked) (answer : Answer) (request : Request) (chunk : CopiedChunk) (place number : ℕ) → copier_asks copier.step request ≡ true → (asked ≡ Call request) ⊎ (asked ≡ Poll) → progress copier answer ≡ Unfit place number → chunk_after Copy asked answer chunk ≡ chunk
unfolding progress
unfit_chunk copier asked answer request chunk place number kind asks unfit = by copier.step answer kind unfit where
  by : (step : CopyStep) (answer : Answer) → copier_asks step request ≡ true → progress_at step answer ≡ Unfit place number → chunk_after Copy asked answer chunk ≡ chunk
  by (Copying at copied) (answers.Refused error (Some one)) kind unfit = refused_same asked error (Some one) request at copied chunk kind asks
  by step answers.Lost kind unfit = absurd cc
  by step (answers.TimedOut waited) kind unfit = absurd cc
  by step answer kind unfit = absurd cc

-- WHAT IT CALLS

module _ (plan : PlanData) (journal : List Entry) (copier : Copier) (own : copier.table ≡ plan.table) where
  -- where a chunk's end is asked for from
  pub ends_low : (table : List ℕ) (from : Bound) (top : List Value) (size : ℕ) → next journal copier ≡ Some (requests.ChunkEnd table from top size) → from ≡ low_of journal copier.range copier.following
  unfolding next
  ends_low table from top size call = by copier.is_copied copier.range call where
    at : (range : CopyRange) (step : CopyStep) → call_at journal copier range step ≡ Some (requests.ChunkEnd table from top size) → from ≡ low_end journal range copier.following
    at range Choosing call = let one : low_end journal range copier.following ≡ from = cc in sym one
    at range (Spanning reported most) call = absurd cc
    at range (Committing chunk) call = absurd cc
    at range (Copying chunk copied) call = key (key_at journal (Copying chunk copied)) call where
      key : (found : Option (List Value)) → copies copier found ≡ Some (requests.ChunkEnd table from top size) → from ≡ low_end journal range copier.following
      key None call = absurd cc
      key (Some found) call = absurd cc

    by : (copied : Bool) (range : Option CopyRange) → cond copied None (call_in journal copier range) ≡ Some (requests.ChunkEnd table from top size) → from ≡ low_of journal range copier.following
    by true range call = absurd cc
    by false None call = absurd cc
    by false (Some range) call = at range copier.step call

  -- *Its calls come under locks*
  pub copier_locked : (waits : Option Request) (request : Request) → CopierAt journal (chunk_at journal) waits copier → next journal copier ≡ Some request → IsLockedCall plan journal Copy request
  unfolding next
  copier_locked waits request is call = by copier.is_copied copier.range refl call where
    at : (range : CopyRange) → copier.range ≡ Some range → (step : CopyStep) → StepAt journal (chunk_at journal) waits (low_of journal copier.range copier.following) step → call_at journal copier range step ≡ Some request → IsLockedCall plan journal Copy request
    at range same Choosing is call = some_request (IsLockedCall plan journal Copy) (requests.ChunkEnd copier.table (low_end journal range copier.following) range.top copier.size) request call tt
    at range same (Spanning reported size) is call =
        some_request (IsLockedCall plan journal Copy) (requests.BeginSpan copier.table (record { low = low_end journal range copier.following; high = Closed (end_in (answer_at journal reported)) }) size) request call
        (record {
          own = own;
          end = end_in (answer_at journal reported);
          reported = is.1;
          whole = ap (λ (l : Bound). record { low = l; high = Closed (end_in (answer_at journal reported)) }) (ap (λ (r : Option CopyRange). low_of journal r copier.following) (sym same) ∙ sym is.2);
        })
    at range same (Committing chunk) is call = some_request (IsLockedCall plan journal Copy) requests.Commit request call tt
    at range same (Copying chunk copied) is call = key (key_at journal (Copying chunk copied)) refl call where
      key : (found : Option (List Value)) → slice_get (keys_in (answer_at journal chunk.reported)) copied ≡ found → copies copier found ≡ Some request → IsLockedCall plan journal Copy request
      key None given call = absurd cc
      key (Some found) given call =
          some_request (IsLockedCall plan journal Copy) (requests.CopyRow copier.table (ghost_name copier.table) copier.map found) request call
          (record { own = own; new = ap ghost_name own; keys = keys_in (answer_at journal chunk.reported); locked = is.1; place = copied; given = given })

    by : (copied : Bool) (range : Option CopyRange) → copier.range ≡ range → cond copied None (call_in journal copier range) ≡ Some request → IsLockedCall plan journal Copy request
    by true range same call = absurd cc
    by false None same call = absurd cc
    by false (Some range) same call = at range same copier.step is.step call
