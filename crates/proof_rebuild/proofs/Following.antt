-- A shard follows its part of the changes.
use Rattle.std.proofs.Common.{◌≡◌, ℕ, Bool, true, false, not, List, [], ◌∷◌, ◌++◌, filter, cond, refl, ap, ◌∙◌}
use Rattle.base_values.specs.KeyOrder.{compare_keys}
use Rattle.base_values.proofs.Orders.{tied_keys}
use Rattle.base_values.specs.GhoSchema.Rows.{with_row}
use Rattle.base_values.specs.GhoSchema.Tables.{Ascends}
use Rattle.table_store.proofs.Orders.{Row, is_Equal}
use Rattle.table_store.proofs.Ascending.{ascends-filter}
use Rattle.table_store.proofs.RowLaws.{filter_in, filter_out, filters_commute}
use Rattle.base_values.specs.declared.event.Change.{Change}
use Rattle.base_values.specs.declared.event.Change.TheVariants.{Write, Update, Delete}
use Rattle.server_model.specs.Rows.{same_row, without_row, change_rows, change_all}
use Rattle.proof_rebuild.specs.Shards.{moved, parts_of, StaysInOrder}
use Rattle.proof_rebuild.specs.Laws.{ShardsFollow}

-- a row that isn't of the shard isn't among its rows
apart_here : (within : Row → Bool) (row first : Row) (rest : List Row) (b c : Bool) → within first ≡ b → same_row row first ≡ c → within row ≡ false → without_row row rest ≡ rest
    → without_row row (cond b (first ∷ rest) rest) ≡ cond b (first ∷ rest) rest
apart_here within row first rest false c in_first same out others = others
apart_here within row first rest true false in_first same out others = rw same (ap (λ (rows : List Row). first ∷ rows) others)
apart_here within row first rest true true in_first same out others =
    let one : row ≡ first = tied_keys row first (is_Equal (compare_keys row first) same) in
    let said : within row ≡ true = ap within one ∙ in_first in
    absurd (cc (out, said))

apart : (within : Row → Bool) (row : Row) (rows : List Row) → within row ≡ false → without_row row (filter within rows) ≡ filter within rows
apart within row [] out = refl
apart within row (first ∷ rows) out = apart_here within row first (filter within rows) (within first) (same_row row first) refl refl out (apart within row rows out)

-- what is left of a shard where a row is removed from the table
removed : (within : Row → Bool) (row : Row) (rows : List Row) → filter within (without_row row rows) ≡ without_row row (filter within rows)
removed within row rows = filters_commute within (λ other. not (same_row row other)) rows

pub removed_elsewhere : (within : Row → Bool) (row : Row) (rows : List Row) → within row ≡ false → filter within (without_row row rows) ≡ filter within rows
removed_elsewhere within row rows out = removed within row rows ∙ apart within row rows out

write_here : (within : Row → Bool) (places : List ℕ) (row : Row) (changes parts : List Change) (rows : List Row) (b : Bool) → within row ≡ b → Ascends places rows
    → filter within (change_all places changes (with_row places row rows)) ≡ change_all places parts (filter within (with_row places row rows))
    → filter within (change_all places changes (with_row places row rows)) ≡ change_all places (cond b (Write row ∷ []) [] ++ parts) (filter within rows)
unfolding change_all change_rows
write_here within places row changes parts rows true is ascends others = others ∙ ap (change_all places parts) (filter_in within places row rows ascends is)
write_here within places row changes parts rows false is ascends others = others ∙ ap (change_all places parts) (filter_out within places row rows is)

delete_here : (within : Row → Bool) (places : List ℕ) (row : Row) (changes parts : List Change) (rows : List Row) (b : Bool) → within row ≡ b
    → filter within (change_all places changes (without_row row rows)) ≡ change_all places parts (filter within (without_row row rows))
    → filter within (change_all places changes (without_row row rows)) ≡ change_all places (cond b (Delete row ∷ []) [] ++ parts) (filter within rows)
unfolding change_all change_rows
delete_here within places row changes parts rows true is others = others ∙ ap (change_all places parts) (removed within row rows)
delete_here within places row changes parts rows false is others = others ∙ ap (change_all places parts) (removed_elsewhere within row rows is)

update_here : (within : Row → Bool) (places : List ℕ) (before after : Row) (changes parts : List Change) (rows : List Row) (b c : Bool) → within before ≡ b → within after ≡ c → Ascends places rows
    → filter within (change_all places changes (with_row places after (without_row before rows))) ≡ change_all places parts (filter within (with_row places after (without_row before rows)))
    → filter within (change_all places changes (with_row places after (without_row before rows))) ≡ change_all places (moved b c before after ++ parts) (filter within rows)
unfolding change_all change_rows
update_here within places before after changes parts rows true true is then ascends others =
    others ∙ ap (change_all places parts) (filter_in within places after (without_row before rows) (ascends-filter places (λ other. not (same_row before other)) rows ascends) then
    ∙ ap (with_row places after) (removed within before rows))
update_here within places before after changes parts rows true false is then ascends others =
    others ∙ ap (change_all places parts) (filter_out within places after (without_row before rows) then ∙ removed within before rows)
update_here within places before after changes parts rows false true is then ascends others =
    others ∙ ap (change_all places parts) (filter_in within places after (without_row before rows) (ascends-filter places (λ other. not (same_row before other)) rows ascends) then
    ∙ ap (with_row places after) (removed_elsewhere within before rows is))
update_here within places before after changes parts rows false false is then ascends others =
    others ∙ ap (change_all places parts) (filter_out within places after (without_row before rows) then ∙ removed_elsewhere within before rows is)

-- *Shards follow alone*
pub shards_follow : ShardsFollow
unfolding change_all change_rows parts_of StaysInOrder
shards_follow within places [] rows ordered = refl
shards_follow within places (Write row ∷ changes) rows ordered =
    write_here within places row changes (parts_of within changes) rows (within row) refl ordered.0 (shards_follow within places changes (with_row places row rows) ordered.1)
shards_follow within places (Update before after ∷ changes) rows ordered =
    update_here within places before after changes (parts_of within changes) rows (within before) (within after) refl refl ordered.0
    (shards_follow within places changes (with_row places after (without_row before rows)) ordered.1)
shards_follow within places (Delete row ∷ changes) rows ordered =
    delete_here within places row changes (parts_of within changes) rows (within row) refl (shards_follow within places changes (without_row row rows) ordered.1)
