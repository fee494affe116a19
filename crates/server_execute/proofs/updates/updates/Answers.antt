use Rattle.std.proofs.Common.{◌≡◌, ◌+◌, ◌∷◌, [], List, drop, Result, Err, refl, sym, ap, ◌∙◌, subst}
use Rattle.std.proofs.lemmas.List.{at_drop_all}
use Rattle.base_values.specs.declared.gho_schema.schema.Schema.{Schema}
use Rattle.base_values.specs.GhoSchema.Rows.{key_places}
use Rattle.base_values.specs.declared.event.Change.{Change}
use Rattle.base_values.specs.declared.event.Change.TheVariants as changes
use Rattle.table_store.proofs.Orders.{Row}
use Rattle.server_model.specs.declared.answer.Answer.{Answer}
use Rattle.server_model.specs.StatementResults.{with_sets}
use Rattle.server_seen.specs.Written.{seen, wrote}
use Rattle.server_seen.specs.Stored.{StoredWrites}
use Rattle.server_seen.specs.FittingChanges.{IsWritten}
use Rattle.server_execute.specs.RowUpdates.{row_update}
use Rattle.server_execute.proofs.UpdatedRows.{IsGoing, begins, ends, clashes, stays, becomes, going_as, next_met, made_at}
use Rattle.server_execute.proofs.updates.updates.Goals as goal
use Rattle.server_execute.proofs.updates.updates.Goals.{in-Same, in-Becomes+in_ok-push_change-in-Becomes}

pub loop-place-init : goal.loop-place-init
loop-place-init c =
    let table = c.args.seen.now in
    let written = c.in_ok-written.written.written in
    record {
      schema = c.in_ok-written.ensures.schema ∙ c.schema.ensures.schema;
      going = going_as table.schema c.args.sets.now c.args.met.now table.rows written written [] c.new-all.result c.args.met.now c.args.met.now refl c.new-all.ensures refl
          (begins table.schema c.args.sets.now c.args.met.now table.rows written c.in_ok-written.ensures.written c.requires.well_formed.is_table c.requires.met);
    }

pub returns-in-Clashes : goal.returns-in-Clashes
returns-in-Clashes c =
    let table = c.args.seen.now in
    let old = c.index-met-place.result in
    let now : List Row = seen (key_places table.schema) c.loop-place.written.written table.rows in
    let new : c.index-made-place.result ≡ with_sets c.args.sets.now c.index-met-place.result =
    made_at c.args.sets.now c.args.met.now c.args.made.now c.loop-place.place c.index-met-place.result c.index-made-place.result c.requires.made c.loop-place-test.true c.index-met-place.is c.index-made-place.is in
    let left = drop (c.loop-place.place + 1) c.args.met.now in
    let step : drop c.loop-place.place c.args.met.now ≡ c.index-met-place.result ∷ drop (c.loop-place.place + 1) c.args.met.now = next_met c.args.met.now c.loop-place.place c.index-met-place.result c.loop-place-test.true c.index-met-place.is in
    let going : IsGoing c.args.seen.now.schema c.args.sets.now c.args.met.now c.args.seen.now.rows c.loop-place.written.written c.loop-place.all (c.index-met-place.result ∷ drop (c.loop-place.place + 1) c.args.met.now) =
    subst (IsGoing table.schema c.args.sets.now c.args.met.now table.rows c.loop-place.written.written c.loop-place.all) step c.loop-place.invariant.going in
    ap {B = Result (List Change) Answer} Err c.refuses.ensures
    ∙ clashes table.schema c.args.sets.now c.args.met.now table.rows c.loop-place.written.written c.loop-place.all old left going (sym c.in-Clashes.is ∙ c.in_ok-row_update.ensures ∙ ap (λ (n : Row). row_update table.schema old n now) new)

pub loop-place-preserved : goal.loop-place-preserved
loop-place-preserved c =
    let table = c.args.seen.now in
    let old = c.index-met-place.result in
    let now : List Row = seen (key_places table.schema) c.loop-place.written.written table.rows in
    let new : c.index-made-place.result ≡ with_sets c.args.sets.now c.index-met-place.result =
    made_at c.args.sets.now c.args.met.now c.args.made.now c.loop-place.place c.index-met-place.result c.index-made-place.result c.requires.made c.loop-place-test.true c.index-met-place.is c.index-made-place.is in
    let left = drop (c.loop-place.place + 1) c.args.met.now in
    let step : drop c.loop-place.place c.args.met.now ≡ c.index-met-place.result ∷ drop (c.loop-place.place + 1) c.args.met.now = next_met c.args.met.now c.loop-place.place c.index-met-place.result c.loop-place-test.true c.index-met-place.is in
    let going : IsGoing c.args.seen.now.schema c.args.sets.now c.args.met.now c.args.seen.now.rows c.loop-place.written.written c.loop-place.all (c.index-met-place.result ∷ drop (c.loop-place.place + 1) c.args.met.now) =
    subst (IsGoing table.schema c.args.sets.now c.args.met.now table.rows c.loop-place.written.written c.loop-place.all) step c.loop-place.invariant.going in
    let was : IsWritten (key_places c.loop-place.written.schema) c.loop-place.written.written = rw (← c.written.view_is) c.written.invariant.is_written in
    let is_written : IsWritten (key_places c.args.seen.now.schema) c.loop-place.written.written = subst (λ (s : Schema). IsWritten (key_places s) c.loop-place.written.written) c.loop-place.invariant.schema was in
    elim c.match-branch-3.branch [
      | in-Same w ↦ record {
        schema = ap (λ (x : StoredWrites). x.schema) w.written-is ∙ c.loop-place.invariant.schema;
        going = going_as table.schema c.args.sets.now c.args.met.now table.rows c.loop-place.written.written c.match-branch-3.written.written c.loop-place.all c.match-branch-3.all left left (ap (λ (x : StoredWrites). x.written) w.written-is) w.all-is refl
            (stays table.schema c.args.sets.now c.args.met.now table.rows c.loop-place.written.written c.loop-place.all old left going (sym w.in-Same.is ∙ c.in_ok-row_update.ensures ∙ ap (λ (n : Row). row_update table.schema old n now) new));
      }
      | in-Becomes+in_ok-push_change-in-Becomes w ↦ record {
        schema = ap (λ (x : StoredWrites). x.schema) w.written-is ∙ w.push_change.ensures.schema ∙ c.loop-place.invariant.schema;
        going = becomes table.schema c.requires.well_formed.keyed c.args.sets.now c.requires.sets c.args.met.now table.rows c.loop-place.written.written c.match-branch-3.written.written c.loop-place.all c.match-branch-3.all old c.index-made-place.result left going is_written
            c.schema.ensures.ascends new (sym w.in-Becomes.is ∙ c.in_ok-row_update.ensures ∙ ap (λ (n : Row). row_update table.schema old n now) new)
            (ap (λ (x : StoredWrites). x.written) w.written-is ∙ w.in_ok-push_change-in-Becomes.ensures.written ∙ ap (λ (s : Schema). wrote (key_places s) (changes.Update old c.index-made-place.result) c.loop-place.written.written) c.loop-place.invariant.schema)
            (w.all-is ∙ w.in_ok-push_change-in-Becomes.ensures.all);
      }
    ]

pub returns : goal.returns
returns c =
    let table = c.args.seen.now in
    let end : drop c.loop-place.place c.args.met.now ≡ [] = at_drop_all (λ (rows : List Row). rows) c.args.met.now c.loop-place.place c.loop-place-test.false in
    ends table.schema c.args.sets.now c.args.met.now table.rows c.loop-place.written.written c.loop-place.all
    (subst (IsGoing table.schema c.args.sets.now c.args.met.now table.rows c.loop-place.written.written c.loop-place.all) end c.loop-place.invariant.going)
