-- What is seen after changes.
use Rattle.std.proofs.Common.{◌≡◌, ℕ, Bool, true, false, not, ◌&&◌, ◌||◌, List, [], ◌∷◌, refl, sym, ap, ◌∙◌, subst}
use Rattle.std.proofs.lemmas.Bool.{or_left, or_right}
use Rattle.std.specs.List.{AllByRecursion}
use Rattle.std.proofs.Math.Bool.{or_assoc}
use Rattle.base_values.specs.GhoSchema.Rows.{key_of, with_row}
use Rattle.base_values.specs.GhoSchema.Tables.{Ascends}
use Rattle.base_values.specs.declared.event.Change.{Change}
use Rattle.base_values.specs.declared.event.Change.TheVariants.{Write, Update, Delete}
use Rattle.table_store.specs.RowLists.{is_at, without_key}
use Rattle.table_store.proofs.Orders.{Row}
use Rattle.base_values.proofs.GhoSchema.Orders.{all-with_row}
use Rattle.table_store.proofs.Ascending.{all-filter, ascends-with_row, ascends-filter}
use Rattle.table_store.proofs.FoundRows.{none_to_remove}
use Rattle.table_store.proofs.RowLaws.{gone}
use Rattle.server_model.specs.Rows.{same_row, stands, without_row, change_rows, change_all}
use Rattle.server_model.proofs.LockedRows.Standing.{stands-put, stands-filter, one_list}
use Rattle.server_seen.specs.Written.{Written, nothing, with_key, is_touched, seen, removed, stored, wrote, wrote_all}
use Rattle.server_seen.specs.FittingChanges.{IsNewAmong, FitsRows, AllFit, IsWritten}
use Rattle.server_seen.specs.Laws.{SeenRowsChange, ChangesAreSeen}
use Rattle.server_seen.proofs.TouchedKeys.{touched-with_key, ascend-with_key}
use Rattle.server_seen.proofs.SeenRows.{stands-seen, ascends-seen, seen-nothing}
use Rattle.server_model.proofs.LockedRows.OneRow.{own_key, same_removal}

-- what was touched stays so
pub more_touched : (places : List ℕ) (key : Row) (keys rows : List Row) → AllByRecursion (λ row. is_touched places keys row ≡ true) rows → AllByRecursion (λ row. is_touched places (with_key key keys) row ≡ true) rows
more_touched places key keys [] all = tt
more_touched places key keys (row ∷ rows) all =
    (touched-with_key places key keys row ∙ or_right (is_at places key row) (is_touched places keys row) all.0, more_touched places key keys rows all.1)

pub is_removed : (places : List ℕ) (key : Row) (written : Written) → IsWritten places written → IsWritten places (removed places key written)
is_removed places key written is = record {
  rows_ascend = ascends-filter places (λ (r : Row). not (is_at places key r)) written.rows is.rows_ascend;
  keys_ascend = ascend-with_key key written.keys is.keys_ascend;
  touched = more_touched places key written.keys (without_key places key written.rows) (all-filter (λ row. is_touched places written.keys row ≡ true) (λ (r : Row). not (is_at places key r)) written.rows is.touched);
}

pub is_stored : (places : List ℕ) (row : Row) (written : Written) → IsWritten places written → IsWritten places (stored places row written)
is_stored places row written is =
    let less = is_removed places (key_of places row) written is in
    record {
      rows_ascend = ascends-with_row places row (without_key places (key_of places row) written.rows) (gone places (key_of places row) written.rows) less.rows_ascend;
      keys_ascend = less.keys_ascend;
      touched = all-with_row (λ other. is_touched places (with_key (key_of places row) written.keys) other ≡ true) places row (without_key places (key_of places row) written.rows)
          (touched-with_key places (key_of places row) written.keys row ∙ or_left (is_at places (key_of places row) row) (is_touched places written.keys row) (own_key places row)) less.touched;
    }

-- what is seen without the row of a key
less_seen : (m r k a : Bool) → ((m || (r && not k)) && not a) ≡ ((m && not a) || (r && not (a || k)))
less_seen true true k true = refl
less_seen true true true false = refl
less_seen true true false false = refl
less_seen true false k true = refl
less_seen true false k false = refl
less_seen false true true true = refl
less_seen false true true false = refl
less_seen false true false true = refl
less_seen false true false false = refl
less_seen false false k a = refl

pub seen-removed : (places : List ℕ) (key : Row) (written : Written) (rows : List Row) → IsWritten places written → Ascends places rows → seen places (removed places key written) rows ≡ without_key places key (seen places written rows)
seen-removed places key written rows is ascends =
    one_list places (seen places (removed places key written) rows) (without_key places key (seen places written rows)) (ascends-seen places (removed places key written) rows (is_removed places key written is) ascends)
    (ascends-filter places (λ (r : Row). not (is_at places key r)) (seen places written rows) (ascends-seen places written rows is ascends)) (λ row.
    stands-seen places row (removed places key written) rows
    ∙ ap (λ (b : Bool). b || (stands row rows && not (is_touched places (with_key key written.keys) row))) (stands-filter (λ (r : Row). not (is_at places key r)) row written.rows)
    ∙ ap (λ (b : Bool). (stands row written.rows && not (is_at places key row)) || (stands row rows && not b)) (touched-with_key places key written.keys row)
    ∙ sym (less_seen (stands row written.rows) (stands row rows) (is_touched places written.keys row) (is_at places key row))
    ∙ ap (λ (b : Bool). b && not (is_at places key row)) (sym (stands-seen places row written rows)) ∙ sym (stands-filter (λ (r : Row). not (is_at places key r)) row (seen places written rows)))

-- what is seen with a row in place of that of its key
pub seen-stored : (places : List ℕ) (row : Row) (written : Written) (rows : List Row) → IsWritten places written → Ascends places rows
    → seen places (stored places row written) rows ≡ with_row places row (without_key places (key_of places row) (seen places written rows))
seen-stored places row written rows is ascends =
    let key : Row = key_of places row in
    let less : Written = removed places (key_of places row) written in
    let rest : List Row = without_key places (key_of places row) (seen places written rows) in
    one_list places (seen places (stored places row written) rows) (with_row places row rest) (ascends-seen places (stored places row written) rows (is_stored places row written is) ascends)
    (ascends-with_row places row rest (gone places key (seen places written rows)) (ascends-filter places (λ (r : Row). not (is_at places key r)) (seen places written rows) (ascends-seen places written rows is ascends))) (λ other.
    stands-seen places other (stored places row written) rows ∙ ap (λ (b : Bool). b || (stands other rows && not (is_touched places (with_key key written.keys) other))) (stands-put places other row (without_key places key written.rows))
    ∙ or_assoc (same_row other row) (stands other (without_key places key written.rows)) (stands other rows && not (is_touched places (with_key key written.keys) other))
    ∙ ap (λ (b : Bool). same_row other row || b) (sym (stands-seen places other less rows)) ∙ ap (λ (rs : List Row). same_row other row || stands other rs) (seen-removed places key written rows is ascends)
    ∙ sym (stands-put places other row rest))

-- a new row
put_new : (places : List ℕ) (row : Row) (written : Written) (rows : List Row) → IsWritten places written → Ascends places rows → IsNewAmong places (seen places written rows) row
    → seen places (stored places row written) rows ≡ with_row places row (seen places written rows)
put_new places row written rows is ascends new =
    seen-stored places row written rows is ascends ∙ ap (λ (rs : List Row). with_row places row rs) (none_to_remove places (key_of places row) (seen places written rows) new)

-- a row that stands is taken out
taken : (places : List ℕ) (row : Row) (written : Written) (rows : List Row) → IsWritten places written → Ascends places rows → stands row (seen places written rows) ≡ true
    → seen places (removed places (key_of places row) written) rows ≡ without_row row (seen places written rows)
taken places row written rows is ascends stood =
    seen-removed places (key_of places row) written rows is ascends ∙ same_removal places row (seen places written rows) (ascends-seen places written rows is ascends) stood

pub seen_change : SeenRowsChange
unfolding wrote change_rows
seen_change places (Write row) written rows is ascends fits = (is_stored places row written is, put_new places row written rows is ascends fits, ascends-seen places written rows is ascends)
seen_change places (Update before after) written rows is ascends fits =
    let key : Row = key_of places before in
    let less = is_removed places (key_of places before) written is in
    let gone_is : seen places (removed places (key_of places before) written) rows ≡ without_row before (seen places written rows) = taken places before written rows is ascends fits.0 in
    let new : IsNewAmong places (seen places (removed places (key_of places before) written) rows) after = subst (λ (rs : List Row). IsNewAmong places rs after) (sym gone_is) fits.1 in
    (is_stored places after (removed places key written) less, put_new places after (removed places key written) rows less ascends new ∙ ap (λ (rs : List Row). with_row places after rs) gone_is, ascends-seen places written rows is ascends)
seen_change places (Delete row) written rows is ascends fits =
    (is_removed places (key_of places row) written is, taken places row written rows is ascends fits, ascends-seen places written rows is ascends)

-- what changes write stays in order, whether or not they fit
pub is_nothing : (places : List ℕ) → IsWritten places nothing
is_nothing places = record { rows_ascend = tt; keys_ascend = tt; touched = tt }

is_wrote : (places : List ℕ) (change : Change) (written : Written) → IsWritten places written → IsWritten places (wrote places change written)
unfolding wrote
is_wrote places (Write row) written is = is_stored places row written is
is_wrote places (Update before after) written is = is_stored places after (removed places (key_of places before) written) (is_removed places (key_of places before) written is)
is_wrote places (Delete row) written is = is_removed places (key_of places row) written is

pub is_wrote_all : (places : List ℕ) (changes : List Change) (written : Written) → IsWritten places written → IsWritten places (wrote_all places changes written)
unfolding wrote_all
is_wrote_all places [] written is = is
is_wrote_all places (change ∷ changes) written is = is_wrote_all places changes (wrote places change written) (is_wrote places change written is)

-- changes one by one
pub record AreSeen (places : List ℕ) (written : Written) (rows after : List Row) : Type 0 where
  pub is_written : IsWritten places written
  pub seen_is : seen places written rows ≡ after
  pub ascends : Ascends places after

pub all_seen : (places : List ℕ) (changes : List Change) (written : Written) (rows now : List Row) → Ascends places rows → AreSeen places written rows now → AllFit places changes now → AreSeen places (wrote_all places changes written) rows (change_all places changes now)
unfolding wrote_all change_all AllFit
all_seen places [] written rows now ascends is fit = is
all_seen places (change ∷ changes) written rows now ascends is fit =
    let here = seen_change places change written rows is.is_written ascends (subst (λ (rs : List Row). FitsRows places rs change) (sym is.seen_is) fit.0) in
    let then : seen places (wrote places change written) rows ≡ change_rows places change now = here.1 ∙ ap (change_rows places change) is.seen_is in
    let step : AreSeen places (wrote places change written) rows (change_rows places change now) = record { is_written = here.0; seen_is = then; ascends = subst (Ascends places) then (ascends-seen places (wrote places change written) rows here.0 ascends) } in
    all_seen places changes (wrote places change written) rows (change_rows places change now) ascends step fit.1

pub nothing_seen : (places : List ℕ) (rows : List Row) → Ascends places rows → AreSeen places nothing rows rows
nothing_seen places rows ascends = record { is_written = is_nothing places; seen_is = seen-nothing places rows; ascends = ascends }

pub changes_seen : ChangesAreSeen
changes_seen places changes rows ascends fit =
    let all = all_seen places changes nothing rows rows ascends (nothing_seen places rows ascends) fit in
    (all.is_written, all.seen_is, all.ascends)
