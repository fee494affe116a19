-- An UPDATE row by row: the changes so far, what they wrote, and the rows that are left.
use Rattle.std.proofs.Common.{◌≡◌, ℕ, suc, ◌+◌, ◌<◌, length, map, drop, get_or, add-one, drop-cons, Bool, true, false, List, [], ◌∷◌, ◌++◌, cond, Option, Result, Ok, Err, refl, sym, ap, ◌∙◌, subst, append_assoc, append-nil}
use Rattle.std.proofs.lemmas.List.{get_or-map}
use Rattle.base_values.specs.declared.value.Value.{Value}
use Rattle.base_values.specs.declared.gho_schema.schema.Schema.{Schema}
use Rattle.base_values.specs.GhoSchema.Rows.{key_places}
use Rattle.base_values.specs.GhoSchema.Tables.{Ascends, IsTable}
use Rattle.base_values.specs.declared.event.Change.{Change}
use Rattle.base_values.specs.declared.event.Change.TheVariants as changes
use Rattle.base_values.specs.declared.mysql_errors.TheConstants.{ER_DUP_ENTRY}
use Rattle.table_store.specs.ClusteredKeys.{HasClusteredKey}
use Rattle.table_store.proofs.Orders.{Row}
use Rattle.server_model.specs.declared.answer.Answer.{Answer}
use Rattle.server_model.specs.Answers.{refuses}
use Rattle.server_model.specs.Rows.{same_row, change_rows}
use Rattle.server_model.specs.StatementResults.{with_sets, clashes_besides, change_first, updates}
use Rattle.server_model.specs.LockedRows.Coverage.{SetsFit}
use Rattle.server_seen.specs.Written.{Written, nothing, seen, wrote}
use Rattle.server_seen.specs.FittingChanges.{IsWritten}
use Rattle.server_seen.proofs.SeenRows.{seen-nothing}
use Rattle.server_seen.proofs.SeenChanges.{seen_change}
use Rattle.server_execute.specs.declared.updates.RowUpdate.TheVariants.{Same, Clashes, Becomes}
use Rattle.server_execute.specs.RowUpdates.{row_update, AreMet}
use Rattle.server_execute.proofs.ChangedRows.{IsChanged, changed_one}

-- changes in front of those that are left
abbrev pub following : List Change → Result (List Change) Answer → Result (List Change) Answer
following done (Ok more) = Ok (done ++ more)
following done (Err refusal) = Err refusal

-- what is changed so far, and what is left, are all
pub record IsGoing (schema : Schema) (sets : List (Option Value)) (met rows : List Row) (written : Written) (done : List Change) (left : List Row) : Type 0 where
  pub is_table : IsTable schema (seen (key_places schema) written rows)
  pub left_met : AreMet (key_places schema) left (seen (key_places schema) written rows)
  pub same : following done (updates schema sets left (seen (key_places schema) written rows)) ≡ updates schema sets met rows

none_done : (result : Result (List Change) Answer) → following [] result ≡ result
none_done (Ok all) = refl
none_done (Err refusal) = refl

none_left : (done : List Change) → following done (Ok []) ≡ Ok done
none_left done = ap {B = Result (List Change) Answer} Ok (append-nil done)

pub begins : (schema : Schema) (sets : List (Option Value)) (met rows : List Row) (written : Written) → written ≡ nothing → IsTable schema rows → AreMet (key_places schema) met rows → IsGoing schema sets met rows written [] met
begins schema sets met rows written is table are =
    let same : rows ≡ seen (key_places schema) written rows = sym (ap (λ (w : Written). seen (key_places schema) w rows) is ∙ seen-nothing (key_places schema) rows) in
    record {
      is_table = subst (IsTable schema) same table;
      left_met = subst (AreMet (key_places schema) met) same are;
      same = none_done (updates schema sets met (seen (key_places schema) written rows)) ∙ ap (updates schema sets met) (sym same);
    }

pub ends : (schema : Schema) (sets : List (Option Value)) (met rows : List Row) (written : Written) (done : List Change) → IsGoing schema sets met rows written done [] → Ok done ≡ updates schema sets met rows
unfolding updates
ends schema sets met rows written done going = sym (none_left done) ∙ going.same

-- which of the three an update of one row is
is_same : (b c : Bool) → cond b Same (cond c Clashes Becomes) ≡ Same → b ≡ true
is_same true c is = refl
is_same false true is = absurd (cc)
is_same false false is = absurd (cc)

is_clash : (b c : Bool) → cond b Same (cond c Clashes Becomes) ≡ Clashes → (b ≡ false) × (c ≡ true)
is_clash true c is = absurd (cc)
is_clash false true is = (refl, refl)
is_clash false false is = absurd (cc)

is_change : (b c : Bool) → cond b Same (cond c Clashes Becomes) ≡ Becomes → (b ≡ false) × (c ≡ false)
is_change true c is = absurd (cc)
is_change false true is = absurd (cc)
is_change false false is = (refl, refl)

pub clashes : (schema : Schema) (sets : List (Option Value)) (met rows : List Row) (written : Written) (done : List Change) (old : Row) (left : List Row) → IsGoing schema sets met rows written done (old ∷ left)
    → Clashes ≡ row_update schema old (with_sets sets old) (seen (key_places schema) written rows) → Err (refuses ER_DUP_ENTRY) ≡ updates schema sets met rows
unfolding updates
clashes schema sets met rows written done old left going is =
    let now : List Row = seen (key_places schema) written rows in
    let tests = is_clash (same_row old (with_sets sets old)) (clashes_besides schema (with_sets sets old) old now) (sym is) in
    let here : updates schema sets (old ∷ left) (seen (key_places schema) written rows) ≡ Err (refuses ER_DUP_ENTRY) = rw (tests.0, tests.1) refl in
    sym (ap (following done) here) ∙ going.same

pub stays : (schema : Schema) (sets : List (Option Value)) (met rows : List Row) (written : Written) (done : List Change) (old : Row) (left : List Row) → IsGoing schema sets met rows written done (old ∷ left)
    → Same ≡ row_update schema old (with_sets sets old) (seen (key_places schema) written rows) → IsGoing schema sets met rows written done left
unfolding updates
stays schema sets met rows written done old left going is =
    let now : List Row = seen (key_places schema) written rows in
    let test = is_same (same_row old (with_sets sets old)) (clashes_besides schema (with_sets sets old) old now) (sym is) in
    let here : updates schema sets (old ∷ left) (seen (key_places schema) written rows) ≡ updates schema sets left (seen (key_places schema) written rows) = rw test refl in
    record {
      is_table = going.is_table;
      left_met = record { ascends = going.left_met.ascends.1; stand = going.left_met.stand.1 };
      same = ap (following done) (sym here) ∙ going.same;
    }

neither : (b c : Bool) (still changed : Result (List Change) Answer) → b ≡ false → c ≡ false → cond b still (cond c (Err (refuses ER_DUP_ENTRY)) changed) ≡ changed
neither b c still changed one two = ap (λ (x : Bool). cond x still (cond c (Err (refuses ER_DUP_ENTRY)) changed)) one ∙ ap (λ (x : Bool). cond x (Err (refuses ER_DUP_ENTRY)) changed) two

one_after : (done : List Change) (change : Change) (result : Result (List Change) Answer) → following (done ++ change ∷ []) result ≡ following done (change_first change result)
one_after done change (Ok more) = ap {B = Result (List Change) Answer} Ok (append_assoc done (change ∷ []) more)
one_after done change (Err refusal) = refl

pub becomes : (schema : Schema) → HasClusteredKey schema → (sets : List (Option Value)) → SetsFit schema.columns sets → (met rows : List Row) (written written' : Written) (done done' : List Change) (old new : Row) (left : List Row) → IsGoing schema sets met rows written done (old ∷ left)
    → IsWritten (key_places schema) written → Ascends (key_places schema) rows → new ≡ with_sets sets old → Becomes ≡ row_update schema old (with_sets sets old) (seen (key_places schema) written rows)
    → written' ≡ wrote (key_places schema) (changes.Update old new) written → done' ≡ done ++ changes.Update old new ∷ [] → IsGoing schema sets met rows written' done' left
unfolding updates
becomes schema key sets sound met rows written written' done done' old new left going is_written ascends made is wrote_is done_is =
    let places : List ℕ = key_places schema in
    let now : List Row = seen (key_places schema) written rows in
    let change : Change = changes.Update old (with_sets sets old) in
    let tests = is_change (same_row old (with_sets sets old)) (clashes_besides schema (with_sets sets old) old now) (sym is) in
    let here : updates schema sets (old ∷ left) (seen (key_places schema) written rows) ≡ change_first (changes.Update old (with_sets sets old)) (updates schema sets left (change_rows (key_places schema) (changes.Update old (with_sets sets old)) (seen (key_places schema) written rows))) =
    neither (same_row old (with_sets sets old)) (clashes_besides schema (with_sets sets old) old now) (updates schema sets left now) (change_first change (updates schema sets left (change_rows places change now))) tests.0 tests.1 in
    let one : IsChanged schema old (with_sets sets old) left (seen (key_places schema) written rows) = changed_one schema key sets sound old left now going.left_met going.is_table tests.1 in
    let own : changes.Update old new ≡ changes.Update old (with_sets sets old) = ap (changes.Update old) made in
    let then : seen (key_places schema) written' rows ≡ change_rows (key_places schema) (changes.Update old (with_sets sets old)) (seen (key_places schema) written rows) =
    ap (λ (w : Written). seen places w rows) (wrote_is ∙ ap (λ (c : Change). wrote places c written) own) ∙ (seen_change places change written rows is_written ascends one.fits).1 in
    record {
      is_table = subst (IsTable schema) (sym then) one.is_table;
      left_met = subst (AreMet places left) (sym then) one.after_met;
      same =
          ap (following done') (ap (updates schema sets left) then) ∙ ap (λ (cs : List Change). following cs (updates schema sets left (change_rows places change now))) (done_is ∙ ap (λ (c : Change). done ++ c ∷ []) own)
          ∙ one_after done change (updates schema sets left (change_rows places change now)) ∙ ap (following done) (sym here) ∙ going.same;
    }

-- what is written and changed so far, by equal names
pub going_as : (schema : Schema) (sets : List (Option Value)) (met rows : List Row) (written written' : Written) (done done' : List Change) (left left' : List Row) → written' ≡ written → done' ≡ done → left ≡ left' → IsGoing schema sets met rows written done left → IsGoing schema sets met rows written' done' left'
going_as schema sets met rows written written' done done' left left' same too also going =
    subst (λ (w : Written). IsGoing schema sets met rows w done' left') (sym same) (subst (λ (cs : List Change). IsGoing schema sets met rows written cs left') (sym too) (subst (IsGoing schema sets met rows written done) also going))

-- the next of the rows that are met, and those behind it
pub next_met : (met : List Row) (place : ℕ) (old : Row) → place < length met → old ≡ get_or met place old → drop place met ≡ old ∷ drop (place + 1) met
next_met met place old within at = drop-cons met place old within ∙ ap (λ (row : Row). row ∷ drop (suc place) met) (sym at) ∙ ap (λ (n : ℕ). old ∷ drop n met) (sym (add-one place))

-- the new row of the one that is met at a place
pub made_at : (sets : List (Option Value)) (met made : List Row) (place : ℕ) (old new : Row) → made ≡ map (with_sets sets) met → place < length met → old ≡ get_or met place old → new ≡ get_or made place new → new ≡ with_sets sets old
made_at sets met made place old new is within at there =
    there ∙ ap (λ (rows : List Row). get_or rows place new) is ∙ get_or-map (with_sets sets) met place old new within ∙ ap (with_sets sets) (sym at)
