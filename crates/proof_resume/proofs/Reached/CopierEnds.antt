-- What holds wherever the server ends chunks, holds of the end of the copier's chunk after each turn.
use Rattle.std.proofs.Common.{◌≡◌, ℕ, ◌+◌, ◌<◌, Bool, true, false, cond, List, [], ◌∷◌, ◌++◌, length, Option, Some, None, refl, sym, ap, ◌∙◌, subst}
use Rattle.std.specs.Prelude.{◌==◌}
use Rattle.base_values.specs.declared.span.Bound.{Bound}
use Rattle.base_values.specs.declared.span.Bound.TheVariants.{Closed}
use Rattle.base_values.specs.declared.mysql_errors.TheConstants.{ER_NO_SUCH_TABLE, ER_TABLE_NOT_LOCKED}
use Rattle.base_script.specs.declared.actor.Side.{Side}
use Rattle.table_store.specs.Databases.{TableRows, find_table}
use Rattle.server_model.specs.declared.answer.Answer.{Answer}
use Rattle.server_model.specs.declared.answer.Answer.TheVariants as answers
use Rattle.server_model.specs.declared.entry.Entry.{Entry}
use Rattle.server_model.specs.declared.request.Request.{Request}
use Rattle.server_model.specs.declared.request.Request.TheVariants as requests
use Rattle.server_model.specs.declared.session.Limits.{Limits}
use Rattle.server_model.specs.Answers.{refuses}
use Rattle.server_model.specs.Blockers.{need_within}
use Rattle.server_model.specs.Chunks.{chunk_end, span_keys}
use Rattle.server_model.specs.EarlierAnswers.{end_in}
use Rattle.server_model.specs.Effects.{Effect, begins, effect, effect_within, of_table}
use Rattle.server_model.specs.Entries.{answer_at}
use Rattle.server_model.specs.States.{State}
use Rattle.tool_program.specs.JournalWords.Journals.{opens}
use Rattle.tool_program.proofs.JournalWords.Answers.{answer_here, answer_more}
use Rattle.tool_program.specs.declared.chunk_copier.copier.Chunk.{Chunk}
use Rattle.tool_program.specs.declared.chunk_copier.copier.Copier.{Copier}
use Rattle.tool_program.specs.declared.chunk_copier.copier.CopyRange.{CopyRange}
use Rattle.tool_program.specs.declared.chunk_copier.copier.CopyStep.{CopyStep}
use Rattle.tool_program.specs.declared.chunk_copier.copier.CopyStep.TheVariants.{Choosing, Spanning, Copying, Committing}
use Rattle.tool_program.specs.ChunkCopier.Copiers as copiers
use Rattle.tool_program.specs.ChunkCopier.Copiers.{call_at, low_end, resized}
use Rattle.proof_journals.specs.Holdings.{face_of}
use Rattle.proof_journals.specs.Scenes.{Scene}
use Rattle.proof_journals.specs.Turns as turns
use Rattle.proof_journals.specs.Turns.{inner, scene_state, reported_at}
use Rattle.proof_journals.specs.Ghost.EffectStates.{effect_answer, was_done, where_done}
use Rattle.proof_journals.specs.Ghost.Rows.Moments.{Row}
use Rattle.proof_journals.specs.Ghost.Rows.Timelines.{Migration}
use Rattle.proof_journals.proofs.Ghost.Undone.{effects_answer}
use Rattle.proof_migration.specs.Migration.Copier.CopierPlace.{AfterReported, CopierKnows, StepKnows}
use Rattle.proof_migration.specs.Migration.Copier.Laws.{IsCopierTurn}
use Rattle.proof_migration.proofs.Migration.Copier.Chunks.{same_answer}
use Rattle.proof_migration.proofs.Migration.Copier.Knowing.{Asks, asks_at, low_more}
use Rattle.proof_migration.proofs.Migration.Copier.Served.{Deeded, deeded, seen_of}
use Rattle.proof_migration.proofs.Migration.Copier.Served.Deeded.{outside_so, within_so}
use Rattle.proof_migration.proofs.ToolServes.{filled_so}
use Rattle.proof_resume.specs.Reached.ChunkEnds.{StepHolds}

-- the end of a chunk that is known, with one turn more
pub chunk_same : (journal : List Entry) (entry : Entry) (copier : Copier) (chunk : Chunk) → StepKnows journal copier.range (Committing chunk) → end_in (answer_at (journal ++ entry ∷ []) chunk.reported) ≡ end_in (answer_at journal chunk.reported)
chunk_same journal entry copier chunk known = ap end_in (same_answer journal (entry ∷ []) copier.range chunk known)

module _ (Holds : Bound → Row → Row → Type 0) (journal : List Entry) (entry : Entry) (copier : Copier) (range : CopyRange) (following : AfterReported journal copier.following) where
  abbrev more : List Entry
  more = journal ++ entry ∷ []

  pub later : (end then : Row) → then ≡ end → Holds (low_end journal range copier.following) end range.top → Holds (low_end more range copier.following) then range.top
  later end then same holds =
      subst (λ (b : Bound). Holds b then range.top) (sym (low_more journal (entry ∷ []) range copier.following following)) (subst (λ (k : Row). Holds (low_end journal range copier.following) k range.top) (sym same) holds)

  -- at the same step
  pub ends_stay : (step : CopyStep) → StepKnows journal copier.range step → StepHolds Holds journal copier range step → StepHolds Holds more copier range step
  ends_stay Choosing known holds = tt
  ends_stay (Spanning reported size) known holds = later (end_in (answer_at journal reported)) (end_in (answer_at more reported)) (ap end_in (answer_more journal (entry ∷ []) reported known.0.answer known.0.is ∙ sym known.0.is)) holds
  ends_stay (Copying chunk copied) known holds = later (end_in (answer_at journal chunk.reported)) (end_in (answer_at more chunk.reported)) (chunk_same journal entry copier chunk known.0) holds
  ends_stay (Committing chunk) known holds = later (end_in (answer_at journal chunk.reported)) (end_in (answer_at more chunk.reported)) (chunk_same journal entry copier chunk known) holds

-- at another size of chunks
pub step_sized : (Holds : Bound → Row → Row → Type 0) (journal : List Entry) (copier : Copier) (size : ℕ) (range : CopyRange) (step : CopyStep) → StepHolds Holds journal copier range step → StepHolds Holds journal (resized size copier) range step
step_sized Holds journal copier size range Choosing holds = tt
step_sized Holds journal copier size range (Spanning reported old) holds = holds
step_sized Holds journal copier size range (Copying chunk copied) holds = holds
step_sized Holds journal copier size range (Committing chunk) holds = holds

-- A TURN OF THE COPIER: it holds where the server ends a chunk of a table that it finds
module _ (Holds : Bound → Row → Row → Type 0) (m : Migration) (limits : Limits) (scene : Scene) (journal : List Entry) (entry : Entry) (copier : Copier) (range : CopyRange) (request : Request) (turn : IsCopierTurn m limits scene journal entry copier request) (is_range : copier.range ≡ Some range)
    (knows : CopierKnows journal copier) (was : StepHolds Holds journal copier range copier.step)
    (chosen_so : (table : TableRows) → find_table copier.table (scene_state limits scene journal).tables ≡ Some table → (low : Bound) (top : Row) (size : ℕ) → Holds low (chunk_end low top size table) top)
    (spanned_so : (table : TableRows) → find_table copier.table (scene_state limits scene journal).tables ≡ Some table → (low : Bound) (first : Row) (size : ℕ) (keys : List Row) (end : Row) → 0 < size → span_keys (record { low = low; high = Closed first }) size table ≡ answers.Keys keys end → Holds low first range.top → Holds low end range.top) where
  abbrev before : State
  before = scene_state limits scene journal

  abbrev longer : List Entry
  longer = journal ++ entry ∷ []

  abbrev Now : Copier → Type 0
  Now one = StepHolds Holds longer one range one.step

  abbrev effect_now : Effect
  effect_now = effect (where_done entry.asked entry.session (opens entry before)) entry.session request

  asks : Asks journal copier request
  asks = asks_at journal copier request turn.given

  same_range : asks.range ≡ range
  same_range = let both : Some asks.range ≡ Some range = sym asks.is ∙ is_range in cc

  -- what is asked at this step
  asked_at : (step : CopyStep) → copier.step ≡ step → call_at journal copier range step ≡ Some request
  asked_at step here = ap (λ (r : CopyRange). call_at journal copier r step) (sym same_range) ∙ ap (call_at journal copier asks.range) (sym here) ∙ asks.call

  -- an answer that isn't a loss was heard
  no_side : (answer : Answer) → entry.answer ≡ answer → (answer ≡ answers.Lost → ⊥) → reported_at entry.side entry.answer entry.missed ≡ Some answer
  no_side answer is unlost = by entry.side refl where
    by : (side : Option Side) → entry.side ≡ side → reported_at side entry.answer entry.missed ≡ Some answer
    by None at = ap Some is
    by (Some side) at = absurd (unlost (sym is ∙ turn.reported.answer ∙ ap (λ (s : Option Side). turns.answer_at s (inner before entry)) at))

  says : (answer : Answer) → entry.answer ≡ answer → (answer ≡ answers.Lost → ⊥) → was_done answer ≡ true → answer ≡ effect_answer effect_now
  says answer is unlost done =
      effects_answer limits scene journal entry request answer turn.run turn.reported turn.asked (no_side answer is unlost) done
      ∙ ap (λ (r : Request). effect_answer (effect (where_done entry.asked entry.session (opens entry before)) entry.session r)) (filled_so (opens entry before) entry.session request turn.tool)

  -- the end that ChunkEnd answers
  chosen : (end : Row) → entry.answer ≡ answers.End end → copier.step ≡ Choosing → Holds (low_end journal range copier.following) end range.top
  chosen end is here = by (deeded entry before request) where
    asked : request ≡ requests.ChunkEnd copier.table (low_end journal range copier.following) range.top copier.size
    asked = let e : Some (requests.ChunkEnd copier.table (low_end journal range copier.following) range.top copier.size) ≡ Some request = asked_at Choosing here in let same : requests.ChunkEnd copier.table (low_end journal range copier.following) range.top copier.size ≡ request = cc in sym same

    reported : answers.End end ≡ effect_answer effect_now
    reported = says (answers.End end) is (λ no. cc) refl

    found : (table : Option TableRows) → find_table copier.table before.tables ≡ table → answers.End end ≡ of_table table (λ t. answers.End (chunk_end (low_end journal range copier.following) range.top copier.size t)) → Holds (low_end journal range copier.following) end range.top
    found None there same = absurd (let no : answers.End end ≡ refuses ER_NO_SUCH_TABLE = same in cc)
    found (Some table) there same =
        let one : chunk_end (low_end journal range copier.following) range.top copier.size table ≡ end = cc in
        subst (λ (k : Row). Holds (low_end journal range copier.following) k range.top) one (chosen_so table there (low_end journal range copier.following) range.top copier.size)

    by : Deeded before entry.session request effect_now → Holds (low_end journal range copier.following) end range.top
    by (outside_so out) = absurd (let no : answers.End end ≡ refuses ER_TABLE_NOT_LOCKED = reported ∙ ap effect_answer out in cc)
    by (within_so there tables log inside) =
        found (find_table copier.table there.tables) (ap (find_table copier.table) (sym tables)) (reported ∙ ap effect_answer (inside ∙ ap (effect_within (face_of before.sessions entry.session).busy (seen_of before entry.session) there) asked))

  -- the end that BeginSpan answers
  spanned : (keys : List Row) (end : Row) (reported size : ℕ) → entry.answer ≡ answers.Keys keys end → copier.step ≡ Spanning reported size → 0 < size → Holds (low_end journal range copier.following) (end_in (answer_at journal reported)) range.top → Holds (low_end journal range copier.following) end range.top
  spanned keys end reported size is here some first_so = by (deeded entry before request) where
    low : Bound
    low = low_end journal range copier.following

    first : Row
    first = end_in (answer_at journal reported)

    asked : request ≡ requests.BeginSpan copier.table (record { low = low; high = Closed first }) size
    asked = let e : Some (requests.BeginSpan copier.table (record { low = low; high = Closed first }) size) ≡ Some request = asked_at (Spanning reported size) here in let same : requests.BeginSpan copier.table (record { low = low; high = Closed first }) size ≡ request = cc in sym same

    answered : answers.Keys keys end ≡ effect_answer effect_now
    answered = says (answers.Keys keys end) is (λ no. cc) refl

    found : (table : Option TableRows) → find_table copier.table before.tables ≡ table → answers.Keys keys end ≡ effect_answer (begins table (record { low = low; high = Closed first }) size (need_within (seen_of before entry.session) (requests.BeginSpan copier.table (record { low = low; high = Closed first }) size))) → Holds low end range.top
    found None there same = absurd (let no : answers.Keys keys end ≡ refuses ER_NO_SUCH_TABLE = same in cc)
    found (Some table) there same = spanned_so table there low first size keys end some (sym same) first_so

    by : Deeded before entry.session request effect_now → Holds low end range.top
    by (outside_so out) = absurd (let no : answers.Keys keys end ≡ refuses ER_TABLE_NOT_LOCKED = answered ∙ ap effect_answer out in cc)
    by (within_so there tables log inside) =
        found (find_table copier.table there.tables) (ap (find_table copier.table) (sym tables)) (answered ∙ ap effect_answer (inside ∙ ap (effect_within (face_of before.sessions entry.session).busy (seen_of before entry.session) there) asked))

  -- after the turn
  then_so : (end then : Row) → then ≡ end → Holds (low_end journal range copier.following) end range.top → Holds (low_end longer range copier.following) then range.top
  then_so = later Holds journal entry copier range knows.following

  reported_now : end_in (answer_at longer (length journal + 1)) ≡ end_in (Some entry.answer)
  reported_now = ap end_in (answer_here journal entry)

  still : Now copier
  still = ends_stay Holds journal entry copier range knows.following copier.step knows.step was

  after : (step : CopyStep) → copier.step ≡ step → (answer : Answer) → entry.answer ≡ answer → Now (copiers.after_answer (length journal + 1) copier step answer)
  after Choosing here (answers.End end) is = then_so end (end_in (answer_at longer (length journal + 1))) (reported_now ∙ ap (λ (a : Answer). end_in (Some a)) is) (chosen end is here)
  after Choosing here answer is = still
  after (Spanning reported size) here (answers.Keys keys end) is =
      by (length keys == 0)
      (then_so end (end_in (answer_at longer (length journal + 1))) (reported_now ∙ ap (λ (a : Answer). end_in (Some a)) is)
      (let known = subst (StepKnows journal copier.range) here knows.step in spanned keys end reported size is here known.1 (subst (StepHolds Holds journal copier range) here was)))
    where
      by : (b : Bool) → Holds (low_end longer range copier.following) (end_in (answer_at longer (length journal + 1))) range.top
          → StepHolds Holds longer copier range (cond b (Committing (record { reported = length journal + 1; keys = length keys; is_last = copiers.is_top copier.range end })) (Copying (record { reported = length journal + 1; keys = length keys; is_last = copiers.is_top copier.range end }) 0))
      by true now = now
      by false now = now
  after (Spanning reported size) here answer is = still
  after (Copying chunk copied) here (answers.Ok count) is = by ((copied + 1) == chunk.keys) where
    now : Holds (low_end longer range copier.following) (end_in (answer_at longer chunk.reported)) range.top
    now = let known = subst (StepKnows journal copier.range) here knows.step in then_so (end_in (answer_at journal chunk.reported)) (end_in (answer_at longer chunk.reported)) (chunk_same journal entry copier chunk known.0) (subst (StepHolds Holds journal copier range) here was)

    by : (b : Bool) → StepHolds Holds longer copier range (cond b (Committing chunk) (Copying chunk (copied + 1)))
    by true = now
    by false = now
  after (Copying chunk copied) here answer is = still
  after (Committing chunk) here (answers.Ok count) is = tt
  after (Committing chunk) here answer is = still

  pub ends_hold : Now (copiers.took (length journal + 1) copier entry.answer)
  unfolding copiers.took
  ends_hold = by entry.answer refl where
    by : (answer : Answer) → entry.answer ≡ answer → Now (copiers.took (length journal + 1) copier answer)
    by answers.Lost is = tt
    by (answers.TimedOut waited) is = tt
    by answer is = after copier.step refl answer is
