-- What the copier is told of where a chunk ends, and the inspector of the range: keys that the migrated table ever had.
use Rattle.std.proofs.Common.{◌≡◌, ◌≤◌, ℕ, Bool, true, false, List, [], ◌∷◌, Option, Some, None, refl, sym, ap, ◌∙◌, subst}
use Rattle.std.specs.List.{AllByRecursion}
use Rattle.std.specs.Ordering.{is_le}
use Rattle.std.proofs.lemmas.Bool.{and_parts}
use Rattle.base_values.specs.declared.span.Bound.{Bound}
use Rattle.base_values.specs.declared.span.Bound.TheVariants.{Closed}
use Rattle.base_values.specs.declared.span.Span.{Span}
use Rattle.base_values.specs.GhoSchema.Rows.{key_of, key_places}
use Rattle.base_values.specs.GhoSchema.Tables.{Ascends}
use Rattle.base_values.specs.KeyOrder.{compare_keys}
use Rattle.base_values.specs.Spans.{has}
use Rattle.table_store.specs.Databases.{TableRows, find_table}
use Rattle.server_model.specs.declared.answer.Answer.{Answer}
use Rattle.server_model.specs.declared.answer.Answer.TheVariants as answers
use Rattle.server_model.specs.declared.answer.KeyRange.{KeyRange}
use Rattle.server_model.specs.declared.entry.Entry.{Entry}
use Rattle.server_model.specs.declared.need.Need.{Need}
use Rattle.server_model.specs.declared.request.Request.{Request}
use Rattle.server_model.specs.declared.request.Request.TheVariants as requests
use Rattle.server_model.specs.Blockers.{need_within}
use Rattle.server_model.specs.Chunks.{chunk_end, ends_of, keys_of, last_of, span_keys}
use Rattle.server_model.specs.Effects.{begins, effect_unless, is_outside, of_table}
use Rattle.server_model.specs.LockedRows.Databases.{IsWellFormedDatabase, WhereFound}
use Rattle.server_model.specs.LockedRows.Coverage.{IsWellFormedTable}
use Rattle.server_model.specs.PlainServer.{does, done, did}
use Rattle.server_model.specs.States.{State, is_in_transaction, session_of, view}
use Rattle.plan_data.specs.PlanData.{PlanData}
use Rattle.tool_program.specs.JournalWords.Journals.{opens, state_at}
use Rattle.proof_journals.specs.Ghost.Rows.Moments.{Row}
use Rattle.proof_journals.specs.Machine.Standings.{IsAbout, standing_of}
use Rattle.proof_journals.proofs.Ghost.Ranges.{in_range}
use Rattle.proof_journals.proofs.Machine.Seated.{IsKnown, IsServed}
use Rattle.proof_migration.proofs.ToolPhase.Hearing.{IsFoundBy, opened_tables, own_answer}
use Rattle.proof_journals.specs.Ghost.Rows.Counts.{all_keys}
use Rattle.proof_bounds.proofs.Volumes.Keys.{EndsIn, chunk_ends, is_in, last_all, span_ends}

-- what is told of a chunk's end, of its keys, and of the range
abbrev pub EndSays : List Row → Bound → Row → Answer → Type 0
EndSays keys low top (answers.End end) = EndsIn keys low top end
EndSays keys low top answer = Unit {0}

abbrev pub SpanSays : List Row → Bound → Row → Answer → Type 0
SpanSays keys low high (answers.Keys some end) = EndsIn keys low high end
SpanSays keys low high answer = Unit {0}

pub record RangeIn (keys : List Row) (range : KeyRange) : Type 0 where
  pub top : is_in keys range.greatest ≡ true
  pub less : is_le (compare_keys range.least range.greatest) ≡ true

abbrev pub RangeSays : List Row → Answer → Type 0
RangeSays keys (answers.Ends (Some range)) = RangeIn keys range
RangeSays keys answer = Unit {0}

rows_all : (keys : List Row) (places : List ℕ) (rows : List Row) → all_keys (is_in keys) places rows ≡ true → AllByRecursion (λ key. is_in keys key ≡ true) (keys_of places rows)
rows_all keys places [] all = tt
rows_all keys places (row ∷ rows) all = let parts = and_parts (is_in keys (key_of places row)) (all_keys (is_in keys) places rows) all in (parts.0, rows_all keys places rows parts.1)

least_greatest : (places : List ℕ) (row : Row) (rows : List Row) → Ascends places (row ∷ rows) → is_le (compare_keys (key_of places row) (last_of (key_of places row) (keys_of places rows))) ≡ true
unfolding has
least_greatest places row rows ascends =
    (and_parts (is_le (compare_keys (key_of places row) (key_of places row))) (is_le (compare_keys (key_of places row) (last_of (key_of places row) (keys_of places rows)))) (in_range places row rows ascends).0).1

range_in : (keys : List Row) (places : List ℕ) (rows : List Row) → all_keys (is_in keys) places rows ≡ true → Ascends places rows → RangeSays keys (ends_of (keys_of places rows))
range_in keys places [] all ascends = tt
range_in keys places (row ∷ rows) all ascends =
    let parts = rows_all keys places (row ∷ rows) all in
    record { top = last_all (λ key. is_in keys key ≡ true) (key_of places row) (keys_of places rows) parts.0 parts.1; less = least_greatest places row rows ascends }

-- BeginSpan's keys and end
span_says : (keys : List Row) (low : Bound) (high : Row) (size : ℕ) (table : TableRows) → 1 ≤ size → all_keys (is_in keys) (key_places table.schema) table.rows ≡ true → SpanSays keys low high (span_keys (record { low = low; high = Closed high }) size table)
unfolding span_keys
span_says keys low high size table sized all = span_ends keys low high size table _ _ sized all refl

module _ (plan : PlanData) (journal : List Entry) (entry : Entry) (known : IsKnown plan journal) (served : IsServed plan journal entry) (keys : List Row) (all : (table : TableRows) → find_table plan.table (state_at plan journal).tables ≡ Some table → all_keys (is_in keys) (key_places table.schema) table.rows ≡ true) where
  abbrev open_now : State
  open_now = opens entry (state_at plan journal)

  found_there : (found : State) → IsFoundBy found open_now → find_table plan.table found.tables ≡ find_table plan.table (state_at plan journal).tables
  found_there found is = ap (find_table plan.table) (is.tables ∙ opened_tables plan journal entry)

  -- *Where a chunk ends*
  pub end_said : (low : Bound) (top : Row) (size : ℕ) → IsAbout (requests.ChunkEnd plan.table low top size) (standing_of plan journal entry.actor) entry.asked → EndSays keys low top entry.answer
  unfolding did
  end_said low top size is_about = own_answer (EndSays keys low top) (record { waits = λ by. tt; timed = λ waited. tt; lost = tt }) plan journal entry known served request is_about each where
    request : Request
    request = requests.ChunkEnd plan.table low top size

    each : (found : State) → IsFoundBy found open_now → EndSays keys low top (done found entry.session request).answer
    each found is = by (is_outside (session_of entry.session found.sessions) request) where
      table_says : (o : Option TableRows) → find_table plan.table found.tables ≡ o → EndSays keys low top (of_table o (λ t. answers.End (chunk_end low top size t)))
      table_says None none = tt
      table_says (Some table) some = chunk_ends keys low top size table (all table (sym (found_there found is) ∙ some))

      by : (outside : Bool) → EndSays keys low top (does (effect_unless outside (is_in_transaction (session_of entry.session found.sessions)) (view entry.session found) found request) found entry.session).answer
      by true = tt
      by false = table_says (find_table plan.table found.tables) refl

  -- *The keys of a chunk, and where it ends*
  pub span_said : (low : Bound) (high : Row) (size : ℕ) → 1 ≤ size → IsAbout (requests.BeginSpan plan.table (record { low = low; high = Closed high }) size) (standing_of plan journal entry.actor) entry.asked → SpanSays keys low high entry.answer
  unfolding did
  span_said low high size sized is_about = own_answer (SpanSays keys low high) (record { waits = λ by. tt; timed = λ waited. tt; lost = tt }) plan journal entry known served request is_about each where
    span : Span
    span = record { low = low; high = Closed high }

    request : Request
    request = requests.BeginSpan plan.table span size

    each : (found : State) → IsFoundBy found open_now → SpanSays keys low high (done found entry.session request).answer
    each found is = by (is_outside (session_of entry.session found.sessions) request) where
      table_says : (need : Need) (o : Option TableRows) → find_table plan.table found.tables ≡ o → SpanSays keys low high (does (begins o span size need) found entry.session).answer
      table_says need None none = tt
      table_says need (Some table) some = span_says keys low high size table sized (all table (sym (found_there found is) ∙ some))

      by : (outside : Bool) → SpanSays keys low high (does (effect_unless outside (is_in_transaction (session_of entry.session found.sessions)) (view entry.session found) found request) found entry.session).answer
      by true = tt
      by false = table_says (need_within (view entry.session found) request) (find_table plan.table found.tables) refl

  -- *The range*
  pub range_said : IsWellFormedDatabase (state_at plan journal).tables → IsAbout (requests.Ends plan.table) (standing_of plan journal entry.actor) entry.asked → RangeSays keys entry.answer
  unfolding did
  range_said well is_about = own_answer (RangeSays keys) (record { waits = λ by. tt; timed = λ waited. tt; lost = tt }) plan journal entry known served request is_about each where
    request : Request
    request = requests.Ends plan.table

    each : (found : State) → IsFoundBy found open_now → RangeSays keys (done found entry.session request).answer
    each found is = by (is_outside (session_of entry.session found.sessions) request) where
      table_says : (o : Option TableRows) → find_table plan.table found.tables ≡ o → RangeSays keys (of_table o (λ t. ends_of (keys_of (key_places t.schema) t.rows)))
      table_says None none = tt
      table_says (Some table) some =
          let there : find_table plan.table (state_at plan journal).tables ≡ Some table = sym (found_there found is) ∙ some in
          let one : IsWellFormedTable table = subst (WhereFound IsWellFormedTable) there (well.each plan.table) in
          range_in keys (key_places table.schema) table.rows (all table there) one.is_table.ascends

      by : (outside : Bool) → RangeSays keys (does (effect_unless outside (is_in_transaction (session_of entry.session found.sessions)) (view entry.session found) found request) found entry.session).answer
      by true = tt
      by false = table_says (find_table plan.table found.tables) refl
