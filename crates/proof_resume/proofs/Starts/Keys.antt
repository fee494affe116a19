-- The keys at which chunks end are keys of rows, or the greatest of the range: so that after which the copy goes on has values that are
-- read back.
use Rattle.std.proofs.Common.{◌≡◌, ℕ, ◌+◌, ◌-◌, Bool, true, false, cond, List, [], ◌∷◌, ◌++◌, length, Option, Some, refl, sym, ap, ◌∙◌, subst, ◌⊎◌, inl, inr}
use Rattle.base_values.specs.declared.span.Bound.{Bound}
use Rattle.base_values.specs.declared.span.Span.{Span}
use Rattle.server_model.specs.declared.answer.Answer.{Answer}
use Rattle.server_model.specs.declared.answer.Answer.TheVariants as answers
use Rattle.server_model.specs.declared.entry.Entry.{Entry}
use Rattle.server_model.specs.declared.request.Request.{Request}
use Rattle.server_model.specs.declared.session.Limits.{Limits}
use Rattle.server_model.specs.Chunks.{chunk_end}
use Rattle.server_model.specs.EarlierAnswers.{end_in}
use Rattle.server_model.specs.Entries.{answer_at}
use Rattle.tool_program.proofs.JournalWords.Answers.{answer_more}
use Rattle.tool_program.specs.declared.chunk_copier.copier.Chunk.{Chunk}
use Rattle.tool_program.specs.declared.chunk_copier.copier.Copier.{Copier}
use Rattle.tool_program.specs.declared.chunk_copier.copier.CopyRange.{CopyRange}
use Rattle.tool_program.specs.declared.chunk_copier.copier.CopyStep.{CopyStep}
use Rattle.tool_program.specs.declared.chunk_copier.copier.CopyStep.TheVariants.{Choosing, Spanning, Copying, Committing}
use Rattle.tool_program.specs.ChunkCopier.Copiers as copiers
use Rattle.proof_journals.specs.Scenes.{Scene}
use Rattle.proof_journals.specs.Turns.{scene_state}
use Rattle.proof_journals.specs.Ghost.Rows.Moments.{Row}
use Rattle.proof_journals.specs.Ghost.Rows.Timelines.{Migration}
use Rattle.proof_migration.specs.Migration.Copier.Laws.{IsCopierTurn}
use Rattle.std.specs.Prelude.{nat_lt, unwrap_or, take, option_to_list}
use Rattle.std.specs.List.{AllByRecursion, slice_get}
use Rattle.std.specs.Ordering.{is_eq}
use Rattle.std.proofs.lemmas.Bool.{true≢false}
use Rattle.std.proofs.Common.{Ordering, Equal, zero, suc}
use Rattle.std.proofs.lemmas.Cmp.{tied_itself}
use Rattle.base_values.specs.declared.span.Bound.TheVariants.{Closed}
use Rattle.base_values.specs.GhoSchema.Rows.{key_of, key_places}
use Rattle.base_values.specs.KeyOrder.{compare_keys}
use Rattle.base_values.specs.Spans.{has}
use Rattle.base_values.proofs.Orders.{keys_total}
use Rattle.base_values.proofs.SchemaRules.Lists.{All-append}
use Rattle.table_store.specs.Databases.{TableRows, find_table, rows_in}
use Rattle.table_store.proofs.Ascending.{all-filter}
use Rattle.server_model.specs.Chunks.{keys_in, keys_of, last_of, span_keys}
use Rattle.server_model.specs.LockedRows.Databases.{WhereFound}
use Rattle.proof_migration.specs.Migration.Copier.CopierPlace.{AfterReported, CopierKnows, IsAnsweredAt, IsChunkReported, StepKnows}
use Rattle.proof_resume.specs.Reached.ChunkEnds.{StepHolds}
use Rattle.proof_resume.proofs.Reached.CopierEnds.{chunk_same, ends_hold}
use Rattle.proof_plain.specs.Plain.{IsPlain, PlainDatabase, PlainRow, PlainRows, PlainTable}
use Rattle.proof_plain.proofs.Statements.{found_plain}

-- WHERE CHUNKS END

-- the end is the greatest key of the range, or plain
abbrev pub EndIsPlain : Row → Row → Type 0
EndIsPlain end top = (end ≡ top) ⊎ PlainRow end

abbrev pub StepPlain : List Entry → Copier → CopyRange → CopyStep → Type 0
StepPlain journal copier range step = StepHolds (λ low. EndIsPlain) journal copier range step

-- KEYS OF ROWS

key_plain : (places : List ℕ) (row : Row) → PlainRow row → PlainRow (key_of places row)
unfolding key_of
key_plain [] row plain = tt
key_plain (place ∷ places) row plain = All-append IsPlain (option_to_list (slice_get row place)) (key_of places row) (by place row plain) (key_plain places row plain) where
  by : (place : ℕ) (row : Row) → PlainRow row → PlainRow (option_to_list (slice_get row place))
  by place [] plain = tt
  by zero (value ∷ row) plain = (plain.0, tt)
  by (suc place) (value ∷ row) plain = by place row plain.1

keys_plain : (places : List ℕ) (rows : List Row) → PlainRows rows → AllByRecursion PlainRow (keys_of places rows)
keys_plain places [] plain = tt
keys_plain places (row ∷ rows) plain = (key_plain places row plain.0, keys_plain places rows plain.1)

span_plain : (span : Span) (table : TableRows) → PlainRows table.rows → AllByRecursion PlainRow (keys_in span table)
span_plain span table plain = keys_plain (key_places table.schema) (rows_in table span) (all-filter PlainRow (λ row. has span (key_of (key_places table.schema) row)) table.rows plain)

taken_plain : (keys : List Row) (place : ℕ) (top : Row) → AllByRecursion PlainRow keys → EndIsPlain (unwrap_or (slice_get keys place) top) top
taken_plain [] place top all = inl refl
taken_plain (key ∷ keys) zero top all = inr all.0
taken_plain (key ∷ keys) (suc place) top all = taken_plain keys place top all.1

-- where a chunk ends
end_plain : (low : Bound) (top : Row) (size : ℕ) (table : TableRows) → PlainRows table.rows → EndIsPlain (chunk_end low top size table) top
unfolding chunk_end
end_plain low top size table plain = taken_plain (keys_in (record { low = low; high = Closed top }) table) (size - 1) top (span_plain (record { low = low; high = Closed top }) table plain)

last_plain : (key : Row) (keys : List Row) → PlainRow key → AllByRecursion PlainRow keys → PlainRow (last_of key keys)
last_plain key [] one all = one
last_plain key (next ∷ keys) one all = last_plain next keys all.0 all.1

some_plain : (size : ℕ) (keys : List Row) → AllByRecursion PlainRow keys → AllByRecursion PlainRow (take size keys)
some_plain zero keys all = tt
some_plain (suc size) [] all = tt
some_plain (suc size) (key ∷ keys) all = (all.0, some_plain size keys all.1)

-- where its keys end
spans_plain : (low : Bound) (first : Row) (size : ℕ) (table : TableRows) (keys : List Row) (end : Row) → PlainRows table.rows → span_keys (record { low = low; high = Closed first }) size table ≡ answers.Keys keys end → EndIsPlain end first
unfolding span_keys
spans_plain low first size table keys end plain is =
    let all : List Row = keys_in (record { low = low; high = Closed first }) table in
    let same : cond (nat_lt size (length all)) (last_of [] (take size all)) first ≡ end = cc in
    subst (λ (k : Row). EndIsPlain k first) same (by all (nat_lt size (length all)) (span_plain (record { low = low; high = Closed first }) table plain)) where
      by : (all : List Row) (b : Bool) → AllByRecursion PlainRow all → EndIsPlain (cond b (last_of [] (take size all)) first) first
      by all true plain = inr (last_plain [] (take size all) tt (some_plain size all plain))
      by all false plain = inl refl

plain_joined : (first top end : Row) → EndIsPlain end first → EndIsPlain first top → EndIsPlain end top
plain_joined first top end (inl same) first_so = subst (λ (k : Row). EndIsPlain k top) (sym same) first_so
plain_joined first top end (inr plain) first_so = inr plain

-- A TURN OF THE COPIER

module _ (m : Migration) (limits : Limits) (scene : Scene) (journal : List Entry) (entry : Entry) (copier : Copier) (range : CopyRange) (request : Request) (turn : IsCopierTurn m limits scene journal entry copier request) (is_range : copier.range ≡ Some range) (knows : CopierKnows journal copier)
    (was : StepPlain journal copier range copier.step) (plain : PlainDatabase (scene_state limits scene journal).tables) where
  abbrev longer : List Entry
  longer = journal ++ entry ∷ []

  -- the rows of a table that is found are plain
  rows_there : (table : TableRows) → find_table copier.table (scene_state limits scene journal).tables ≡ Some table → PlainRows table.rows
  rows_there table there = (subst (WhereFound PlainTable) there (found_plain copier.table (scene_state limits scene journal).tables plain)).rows

  pub stays_plain : StepPlain longer (copiers.took (length journal + 1) copier entry.answer) range (copiers.took (length journal + 1) copier entry.answer).step
  stays_plain =
      ends_hold (λ low. EndIsPlain) m limits scene journal entry copier range request turn is_range knows was (λ table there low top size. end_plain low top size table (rows_there table there))
      (λ table there low first size keys end some is first_so. plain_joined first range.top end (spans_plain low first size table keys end (rows_there table there) is) first_so)

  -- the key after which the copy goes on: where it is the greatest, all is copied
  abbrev PlainAfter : Copier → Type 0
  PlainAfter one = (reported : ℕ) → one.is_copied ≡ false → one.following ≡ Some reported → PlainRow (end_in (answer_at longer reported))

  module _ (followed : (reported : ℕ) → copier.is_copied ≡ false → copier.following ≡ Some reported → PlainRow (end_in (answer_at journal reported))) where
    follows_still : PlainAfter copier
    follows_still reported going is =
        let known : IsAnsweredAt journal reported = subst (AfterReported journal) is knows.following in
        subst PlainRow (ap end_in (known.is ∙ sym (answer_more journal (entry ∷ []) reported known.answer known.is))) (followed reported going is)

    top_is : (o : Ordering) → o ≡ Equal → is_eq o ≡ false → ⊥
    top_is o is off = true≢false (sym (ap is_eq is) ∙ off)

    commits : (chunk : Chunk) → copier.step ≡ Committing chunk → PlainAfter (copiers.committed copier chunk)
    commits chunk here reported last is = by (subst (StepPlain journal copier range) here was) where
      known : IsChunkReported journal copier.range chunk
      known = subst (StepKnows journal copier.range) here knows.step

      same : end_in (answer_at longer reported) ≡ end_in (answer_at journal chunk.reported)
      same = let one : chunk.reported ≡ reported = cc in ap (λ (n : ℕ). end_in (answer_at longer n)) (sym one) ∙ chunk_same journal entry copier chunk known

      end_is : end_in (answer_at journal chunk.reported) ≡ known.end
      end_is = ap end_in known.reported

      not_top : is_eq (compare_keys known.end range.top) ≡ false
      not_top = sym (known.last ∙ ap (λ (r : Option CopyRange). copiers.is_top r known.end) is_range) ∙ last

      by : EndIsPlain (end_in (answer_at journal chunk.reported)) range.top → PlainRow (end_in (answer_at longer reported))
      by (inl top) = absurd (top_is (compare_keys known.end range.top) (ap (compare_keys known.end) (sym (sym end_is ∙ top)) ∙ tied_itself keys_total known.end) not_top)
      by (inr plain_so) = subst PlainRow (sym same) plain_so

    follows_after : (step : CopyStep) → copier.step ≡ step → (answer : Answer) → PlainAfter (copiers.after_answer (length journal + 1) copier step answer)
    follows_after Choosing here (answers.End end) = follows_still
    follows_after Choosing here answer = follows_still
    follows_after (Spanning reported size) here (answers.Keys keys end) = follows_still
    follows_after (Spanning reported size) here answer = follows_still
    follows_after (Copying chunk copied) here (answers.Ok count) = follows_still
    follows_after (Copying chunk copied) here answer = follows_still
    follows_after (Committing chunk) here (answers.Ok count) = commits chunk here
    follows_after (Committing chunk) here answer = follows_still

    pub follows_plain : PlainAfter (copiers.took (length journal + 1) copier entry.answer)
    unfolding copiers.took
    follows_plain = by entry.answer where
      by : (answer : Answer) → PlainAfter (copiers.took (length journal + 1) copier answer)
      by answers.Lost = follows_still
      by (answers.TimedOut waited) = follows_still
      by answer = follows_after copier.step refl answer
