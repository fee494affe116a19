-- Each chunk that is committed ends at another key that the migrated table ever had, above the ends of those before it: so there are
-- few.
use Rattle.std.proofs.Common.{◌≡◌, ◌≤◌, inl, inr, ℕ, ◌+◌, ◌==◌, Bool, true, false, cond, List, [], ◌∷◌, ◌++◌, length, Option, Some, None, Ordering, Less, Equal, Greater, refl, sym, ap, ◌∙◌, subst, arith}
use Rattle.std.specs.Ordering.{is_eq, is_le, is_lt}
use Rattle.std.proofs.lemmas.Bool.{and_parts, false≢true, true≢false}
use Rattle.base_values.specs.declared.span.Bound.{Bound}
use Rattle.base_values.specs.declared.span.Bound.TheVariants.{Open, Closed}
use Rattle.base_values.specs.declared.span.Span.{Span}
use Rattle.base_values.specs.KeyOrder.{compare_keys}
use Rattle.base_values.specs.Spans.{above, has}
use Rattle.base_values.proofs.Orders.{tied_keys}
use Rattle.server_model.specs.declared.answer.Answer.{Answer}
use Rattle.server_model.specs.declared.answer.Answer.TheVariants as answers
use Rattle.server_model.specs.declared.entry.Entry.{Entry}
use Rattle.server_model.specs.declared.request.Request.{Request}
use Rattle.server_model.specs.declared.request.Request.TheVariants as requests
use Rattle.server_model.specs.declared.outcome.Progress.TheVariants.{Unfit}
use Rattle.server_model.specs.EarlierAnswers.{end_in}
use Rattle.server_model.specs.Entries.{answer_at}
use Rattle.tool_program.specs.declared.chunk_copier.copier.Chunk.{Chunk}
use Rattle.tool_program.specs.declared.chunk_copier.copier.Copier.{Copier}
use Rattle.tool_program.specs.declared.chunk_copier.copier.CopyRange.{CopyRange}
use Rattle.tool_program.specs.declared.chunk_copier.copier.CopyStep.{CopyStep}
use Rattle.tool_program.specs.declared.chunk_copier.copier.CopyStep.TheVariants.{Choosing, Spanning, Copying, Committing}
use Rattle.tool_program.specs.ChunkCopier.Copiers as copiers
use Rattle.tool_program.specs.ChunkCopier.Copiers.{after_answer, after_copies, begun, call_at, copies, is_top, key_at, low_end, took}
use Rattle.tool_program.proofs.JournalWords.Answers.{answer_more}
use Rattle.proof_journals.specs.Ghost.Rows.Moments.{Row}
use Rattle.proof_journals.proofs.Ghost.Ranges.{less_then, tied}
use Rattle.proof_journals.proofs.Machine.Asking.{some_request}
use Rattle.proof_migration.specs.Migration.Copier.CopierPlace.{AfterReported}
use Rattle.proof_migration.proofs.Migration.Copier.Knowing.{after_more, low_more}
use Rattle.proof_bounds.proofs.Volumes.ChunkAnswers.{EndSays, SpanSays}
use Rattle.proof_bounds.proofs.Volumes.Keys.{EndsIn, count_under, in_left, is_in, under_all, under_more, under_most, under_rises}

-- WHAT IS KEPT OF THE COPIER

-- an end that was read in this turn: a key of these, above the low end and not above the top
pub record IsEnd (journal : List Entry) (keys : List Row) (low : Bound) (top : Row) (reported : ℕ) : Type 0 where
  pub answer : Answer
  pub is : answer_at journal reported ≡ Some answer
  pub among : is_in keys (end_in (Some answer)) ≡ true
  pub past : above low (end_in (Some answer)) ≡ true
  pub within : is_le (compare_keys (end_in (Some answer)) top) ≡ true

-- the chunk's end, and whether it is the top
pub record IsChunk (journal : List Entry) (keys : List Row) (low : Bound) (range : CopyRange) (chunk : Chunk) : Type 0 where
  pub end : IsEnd journal keys low range.top chunk.reported
  pub last : chunk.is_last ≡ is_top (Some range) (end_in (Some end.answer))

abbrev pub StepCounted : List Entry → List Row → Bound → CopyRange → CopyStep → Type 0
StepCounted journal keys low range Choosing = Unit {0}
StepCounted journal keys low range (Spanning reported size) = IsEnd journal keys low range.top reported × (1 ≤ size)
StepCounted journal keys low range (Copying chunk copied) = IsChunk journal keys low range chunk
StepCounted journal keys low range (Committing chunk) = IsChunk journal keys low range chunk

-- the chunks that are committed end at so many keys up to the low end; while rows are left the top lies above it
pub record RangeCounted (journal : List Entry) (keys : List Row) (copier : Copier) (range : CopyRange) : Type 0 where
  pub top : is_in keys range.top ≡ true
  pub following : AfterReported journal copier.following
  pub number : copier.number ≤ 1 + count_under (low_end journal range copier.following) keys
  pub left : copier.is_copied ≡ false → above (low_end journal range copier.following) range.top ≡ true
  pub step : StepCounted journal keys (low_end journal range copier.following) range copier.step

abbrev pub CopierCounted : List Entry → List Row → Copier → Option CopyRange → Type 0
CopierCounted journal keys copier None = (copier.is_copied ≡ true) × (copier.number ≡ 1)
CopierCounted journal keys copier (Some range) = RangeCounted journal keys copier range

-- what is asked at this step
abbrev pub AsksSo : List Entry → List ℕ → Bound → CopyRange → CopyStep → Request → Type 0
AsksSo journal name low range Choosing (requests.ChunkEnd table from top size) = (table ≡ name) × (from ≡ low) × (top ≡ range.top)
AsksSo journal name low range (Spanning reported most) (requests.BeginSpan table span size) = (table ≡ name) × (span ≡ record { low = low; high = Closed (end_in (answer_at journal reported)) }) × (size ≡ most)
AsksSo journal name low range step request = Unit {0}

-- what the answer is to say at this step
abbrev pub SaysAt : List Entry → List Row → Bound → CopyRange → Answer → CopyStep → Type 0
SaysAt journal keys low range answer Choosing = EndSays keys low range.top answer
SaysAt journal keys low range answer (Spanning reported size) = SpanSays keys low (end_in (answer_at journal reported)) answer
SaysAt journal keys low range answer step = Unit {0}

-- FEW

-- *Few chunks*
pub few_chunks : (journal : List Entry) (keys : List Row) (copier : Copier) (range : Option CopyRange) → CopierCounted journal keys copier range → copier.number ≤ length keys + cond copier.is_copied 1 0
few_chunks journal keys copier None counted = let copied : cond {A = ℕ} copier.is_copied 1 0 ≡ 1 = ap (λ (b : Bool). cond {A = ℕ} b 1 0) counted.0 in let one = counted.1 in omega (arith, copied, one)
few_chunks journal keys copier (Some range) counted = by copier.is_copied refl where
  low : Bound
  low = low_end journal range copier.following

  by : (b : Bool) → copier.is_copied ≡ b → copier.number ≤ length keys + cond b 1 0
  by true copied = let a = counted.number in let b = under_all low keys in omega (arith, a, b)
  by false off = let a = counted.number in let b = under_most low range.top keys (counted.left off) counted.top in omega (arith, a, b)

-- ONE TURN MORE

module _ (journal : List Entry) (entry : Entry) (keys more : List Row) where
  abbrev later : List Entry
  later = journal ++ entry ∷ []

  abbrev all : List Row
  all = keys ++ more

  end_later : (low : Bound) (top : Row) (reported : ℕ) → IsEnd journal keys low top reported → IsEnd later all low top reported
  end_later low top reported is = record { answer = is.answer; is = answer_more journal (entry ∷ []) reported is.answer is.is; among = in_left keys more (end_in (Some is.answer)) is.among; past = is.past; within = is.within }

  chunk_later : (low : Bound) (range : CopyRange) (chunk : Chunk) → IsChunk journal keys low range chunk → IsChunk later all low range chunk
  unfolding end_later
  chunk_later low range chunk is = record { end = end_later low range.top chunk.reported is.end; last = is.last }

  step_later : (low : Bound) (range : CopyRange) (step : CopyStep) → StepCounted journal keys low range step → StepCounted later all low range step
  step_later low range Choosing is = tt
  step_later low range (Spanning reported size) is = (end_later low range.top reported is.0, is.1)
  step_later low range (Copying chunk copied) is = chunk_later low range chunk is
  step_later low range (Committing chunk) is = chunk_later low range chunk is

  low_same : (range : CopyRange) (following : Option ℕ) → AfterReported journal following → low_end later range following ≡ low_end journal range following
  low_same range following known = low_more journal (entry ∷ []) range following known

  -- with another step
  stepped : (copier : Copier) (range : CopyRange) (step : CopyStep) → RangeCounted journal keys copier range → StepCounted later all (low_end journal range copier.following) range step → RangeCounted later all (record copier { step = step }) range
  stepped copier range step is at =
      let same = low_same range copier.following is.following in
      record {
        top = in_left keys more range.top is.top;
        following = after_more journal (entry ∷ []) copier.following is.following;
        number = subst (λ (low : Bound). copier.number ≤ 1 + count_under low all) (sym same) (let a = is.number in let b = under_more (low_end journal range copier.following) keys more in omega (arith, a, b));
        left = λ off. subst (λ (low : Bound). above low range.top ≡ true) (sym same) (is.left off);
        step = subst (λ (low : Bound). StepCounted later all low range step) (sym same) at;
      }

  -- *Nothing is new*
  pub range_later : (copier : Copier) (range : CopyRange) → RangeCounted journal keys copier range → RangeCounted later all copier range
  range_later copier range is = stepped copier range copier.step is (step_later (low_end journal range copier.following) range copier.step is.step)

  pub copier_later : (copier : Copier) (range : Option CopyRange) → CopierCounted journal keys copier range → CopierCounted later all copier range
  copier_later copier None is = is
  copier_later copier (Some range) is = range_later copier range is

  -- *The chunk begins again*
  pub again : (copier : Copier) (range : Option CopyRange) → CopierCounted journal keys copier range → CopierCounted later all (record copier { step = Choosing }) range
  again copier None is = is
  again copier (Some range) is = stepped copier range Choosing is tt

  -- ends that are told
  end_now : (low : Bound) (top high : Row) (turn : ℕ) (answer : Answer) → answer_at later turn ≡ Some answer → is_in keys high ≡ true → above low high ≡ true → is_le (compare_keys high top) ≡ true → EndsIn keys low high (end_in (Some answer)) → IsEnd later all low top turn
  unfolding has
  end_now low top high turn answer here among past within (inl same) = record {
    answer = answer;
    is = here;
    among = in_left keys more (end_in (Some answer)) (ap (is_in keys) same ∙ among);
    past = ap (above low) same ∙ past;
    within = ap (λ (k : Row). is_le (compare_keys k top)) same ∙ within;
  }
  end_now low top high turn answer here among past within (inr found) =
      let parts = and_parts (above low (end_in (Some answer))) (is_le (compare_keys (end_in (Some answer)) high)) found.1 in
      record { answer = answer; is = here; among = in_left keys more (end_in (Some answer)) found.0; past = parts.0; within = not_greater (compare_keys (end_in (Some answer)) high) refl parts.1 } where
        end : Row
        end = end_in (Some answer)

        not_greater : (o : Ordering) → compare_keys end high ≡ o → is_le o ≡ true → is_le (compare_keys end top) ≡ true
        not_greater Less is le = less_then end high top (compare_keys high top) refl is within
        not_greater Equal is le = subst (λ (k : Row). is_le (compare_keys k top) ≡ true) (sym (tied_keys end high is)) within
        not_greater Greater is le = absurd (false≢true le)

  same_top : (key : Row) → is_le (compare_keys key key) ≡ true
  same_top key = tied key

  -- WHAT THE ANSWER LEAVES

  module _ (copier : Copier) (range : CopyRange) (turn : ℕ) (answer : Answer) (here : answer_at later turn ≡ Some answer) (sized : 1 ≤ copier.size) (going : copier.is_copied ≡ false) (is : RangeCounted journal keys copier range) where
    abbrev low : Bound
    low = low_end journal range copier.following

    abbrev Next : Copier → Type 0
    Next next = RangeCounted later all next range

    still : Next copier
    still = range_later copier range is

    -- where the next chunk ends
    spans : (end : Row) → answer ≡ answers.End end → EndsIn keys low range.top end → Next (record copier { step = Spanning turn copier.size })
    spans end same ends =
        stepped copier range (Spanning turn copier.size) is
        (end_now low range.top range.top turn answer here is.top (is.left going) (same_top range.top) (subst (λ (a : Answer). EndsIn keys low range.top (end_in (Some a))) (sym same) ends), sized)

    -- the keys of the chunk, and its end
    begins : (reported size : ℕ) (some : List Row) (end : Row) → answer ≡ answers.Keys some end → IsEnd journal keys low range.top reported → (high : Row) → high ≡ end_in (answer_at journal reported) → EndsIn keys low high end
        → Next (record copier { step = begun (record { reported = turn; keys = length some; is_last = is_top (Some range) end }) })
    begins reported size some end same was high named ends = stepped copier range (begun chunk) is (by (chunk.keys == 0)) where
      chunk : Chunk
      chunk = record { reported = turn; keys = length some; is_last = is_top (Some range) end }

      old : high ≡ end_in (Some was.answer)
      old = named ∙ ap end_in was.is

      now_end : IsEnd later all low range.top turn
      now_end =
          end_now low range.top high turn answer here (ap (is_in keys) old ∙ was.among) (ap (above low) old ∙ was.past) (ap (λ (k : Row). is_le (compare_keys k range.top)) old ∙ was.within)
          (subst (λ (a : Answer). EndsIn keys low high (end_in (Some a))) (sym same) ends)

      found : answer_at later turn ≡ Some (answers.Keys some end)
      found = here ∙ ap Some same

      is_chunk : IsChunk later all low range chunk
      is_chunk = record { end = now_end; last = ap (λ (a : Option Answer). is_top (Some range) (end_in a)) (sym found ∙ now_end.is) }

      by : (b : Bool) → StepCounted later all low range (cond b (Committing chunk) (Copying chunk 0))
      by true = is_chunk
      by false = is_chunk

    -- one row more is copied
    copies_on : (chunk : Chunk) (copied : ℕ) → IsChunk journal keys low range chunk → Next (record copier { step = after_copies chunk copied })
    copies_on chunk copied was = stepped copier range (after_copies chunk copied) is (by (copied == chunk.keys)) where
      by : (b : Bool) → StepCounted later all low range (cond b (Committing chunk) (Copying chunk copied))
      by true = chunk_later low range chunk was
      by false = chunk_later low range chunk was

    -- the chunk is committed
    commits : (chunk : Chunk) → IsChunk journal keys low range chunk → Next (copiers.committed copier chunk)
    unfolding end_later
    commits chunk was = record {
      top = in_left keys more range.top is.top;
      following = record { answer = end.answer; is = end.is };
      number =
          subst (λ (o : Option Answer). copier.number + 1 ≤ 1 + count_under (Open (end_in o)) all) (sym end.is)
          (let a = is.number in let b = under_more low keys more in let c = under_rises low (end_in (Some end.answer)) all end.past end.among in omega (arith, a, b, c));
      left = λ off. subst (λ (o : Option Answer). is_lt (compare_keys (end_in o) range.top) ≡ true) (sym end.is) (below (compare_keys (end_in (Some end.answer)) range.top) refl (sym was.last ∙ off) end.within);
      step = tt;
    } where
      end : IsEnd later all low range.top chunk.reported
      end = end_later low range.top chunk.reported was.end

      below : (o : Ordering) → compare_keys (end_in (Some end.answer)) range.top ≡ o → is_eq o ≡ false → is_le o ≡ true → is_lt o ≡ true
      below Less same off le = refl
      below Equal same off le = absurd (true≢false off)
      below Greater same off le = absurd (false≢true le)

    -- *What an answer leaves*
    pub answered_so : copier.range ≡ Some range → SaysAt journal keys low range answer copier.step → Next (took turn copier answer)
    unfolding took
    answered_so ranged says = by answer refl where
      at : (step : CopyStep) → copier.step ≡ step → (a : Answer) → answer ≡ a → Next (after_answer turn copier step a)
      at Choosing step_is (answers.End end) same = spans end same (subst (EndSays keys low range.top) same (subst (SaysAt journal keys low range answer) step_is says))
      at (Spanning reported size) step_is (answers.Keys some end) same =
          subst (λ (r : Option CopyRange). Next (record copier { step = begun (record { reported = turn; keys = length some; is_last = is_top r end }) })) (sym ranged)
          (begins reported size some end same (subst (StepCounted journal keys low range) step_is is.step).0 (end_in (answer_at journal reported)) refl (subst (SpanSays keys low (end_in (answer_at journal reported))) same (subst (SaysAt journal keys low range answer) step_is says)))
      at (Copying chunk copied) step_is (answers.Ok count) same = copies_on chunk (copied + 1) (subst (StepCounted journal keys low range) step_is is.step)
      at (Committing chunk) step_is (answers.Ok count) same = commits chunk (subst (StepCounted journal keys low range) step_is is.step)
      at step step_is a same = still

      by : (a : Answer) → answer ≡ a → Next (took turn copier a)
      by answers.Lost same = stepped copier range Choosing is tt
      by (answers.TimedOut waited) same = stepped copier range Choosing is tt
      by a same = at copier.step refl a same

  -- *What is asked stays so*
  pub asks_later : (name : List ℕ) (copier : Copier) (range : CopyRange) (request : Request) → RangeCounted journal keys copier range → AsksSo journal name (low_end journal range copier.following) range copier.step request → AsksSo later name (low_end later range copier.following) range copier.step request
  asks_later name copier range request is asks = subst (λ (low : Bound). AsksSo later name low range copier.step request) (sym (low_same range copier.following is.following)) (by copier.step is.step request asks) where
    low : Bound
    low = low_end journal range copier.following

    by : (step : CopyStep) → StepCounted journal keys low range step → (request : Request) → AsksSo journal name low range step request → AsksSo later name low range step request
    by Choosing known (requests.ChunkEnd table from top size) asks = asks
    by (Spanning reported most) known (requests.BeginSpan table span size) asks =
        (asks.0, asks.1 ∙ ap (λ (o : Option Answer). let s : Span = record { low = low; high = Closed (end_in o) } in s) (known.0.is ∙ sym (answer_more journal (entry ∷ []) reported known.0.answer known.0.is)), asks.2)
    by Choosing known request asks = tt
    by (Spanning reported most) known request asks = tt
    by (Copying chunk copied) known request asks = tt
    by (Committing chunk) known request asks = tt

-- an answer leaves the range
pub took_range : (turn : ℕ) (copier : Copier) (answer : Answer) → (took turn copier answer).range ≡ copier.range
unfolding took
took_range turn copier answers.Lost = refl
took_range turn copier (answers.TimedOut waited) = refl
took_range turn copier answer = by copier.step answer where
  by : (step : CopyStep) (a : Answer) → (after_answer turn copier step a).range ≡ copier.range
  by Choosing (answers.End end) = refl
  by (Spanning reported size) (answers.Keys keys end) = refl
  by (Copying chunk copied) (answers.Ok count) = refl
  by (Committing chunk) (answers.Ok count) = refl
  by step a = refl

-- another size leaves all but that
pub resized_counted : (journal : List Entry) (keys : List Row) (size : ℕ) (copier : Copier) (range : Option CopyRange) → CopierCounted journal keys copier range → CopierCounted journal keys (copiers.resized size copier) range
resized_counted journal keys size copier None is = is
resized_counted journal keys size copier (Some range) is = record { top = is.top; following = is.following; number = is.number; left = is.left; step = is.step }

-- a wait leaves the copier
pub waits_took : (turn : ℕ) (copier : Copier) (other : ℕ) → took turn copier (answers.Waits other) ≡ copier
unfolding took
waits_took turn copier other = by copier.step where
  by : (step : CopyStep) → after_answer turn copier step (answers.Waits other) ≡ copier
  by Choosing = refl
  by (Spanning reported size) = refl
  by (Copying chunk copied) = refl
  by (Committing chunk) = refl

pub waits_going : (copier : Copier) (other place number : ℕ) → copiers.progress copier (answers.Waits other) ≡ Unfit place number → ⊥
unfolding copiers.progress
waits_going copier other place number is = by copier.step is where
  by : (step : CopyStep) → copiers.progress_at step (answers.Waits other) ≡ Unfit place number → ⊥
  by Choosing is = cc
  by (Spanning reported size) is = cc
  by (Copying chunk copied) is = cc
  by (Committing chunk) is = cc

-- *What the copier's next call asks*
pub next_asks : (journal : List Entry) (copier : Copier) (range : CopyRange) (request : Request) → call_at journal copier range copier.step ≡ Some request → AsksSo journal copier.table (low_end journal range copier.following) range copier.step request
next_asks journal copier range request call = by copier.step call where
  low : Bound
  low = low_end journal range copier.following

  by : (step : CopyStep) → call_at journal copier range step ≡ Some request → AsksSo journal copier.table low range step request
  by Choosing call = some_request (AsksSo journal copier.table low range Choosing) _ request call (refl, refl, refl)
  by (Spanning reported size) call = some_request (AsksSo journal copier.table low range (Spanning reported size)) _ request call (refl, refl, refl)
  by (Copying chunk copied) call = tt
  by (Committing chunk) call = tt
