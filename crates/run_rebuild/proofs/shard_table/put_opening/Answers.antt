use Rattle.std.proofs.Common.{◌+◌, map, drop, Some, refl, sym, ap, ◌∙◌, subst}
use Rattle.std.proofs.lemmas.List.{drop_all}
use Rattle.std.proofs.lemmas.Result.{err_from_is_err_and}
use Rattle.base_values.specs.declared.event.Change.TheVariants.{Write}
use Rattle.base_values.proofs.GhoSchema.Loops.{from_here}
use Rattle.base_values.specs.GhoSchema.Rows.{key_places}
use Rattle.table_store.proofs.Orders.{Row}
use Rattle.proof_rebuild.specs.Shards.{first_unfit, shard_sees}
use Rattle.run_rebuild.specs.Rebuilds.{own}
use Rattle.run_rebuild.proofs.Following.{Follows, at_start, moved_on, none_follow, written_as}
use Rattle.run_rebuild.proofs.SeenRows.{is_found, none_left_unfit, row_left, still_left}
use Rattle.run_rebuild.proofs.shard_table.put_opening.Goals as goal

pub loop-place-init : goal.loop-place-init
loop-place-init c = record {
  schema = refl;
  follows = λ sound empty. subst (λ rows. Follows (own c.args.inputs.now c.args.number) c.args.inputs.now.places.now (key_places c.args.inputs.now.altered.now.schema) c.args.inputs.now.altered.now.map rows (map Write c.args.inputs.now.opening.now) c.args.inputs.now.opening.now)
      (sym (ap (λ table. table.rows) empty)) (at_start (own c.args.inputs.now c.args.number) c.args.inputs.now.places.now (key_places c.args.inputs.now.altered.now.schema) c.args.inputs.now.altered.now.map c.args.inputs.now.opening.now sound.ascends sound.opening_keys);
  finds = refl;
}

pub returns-in_err-write-clause-finds : goal.returns-in_err-write-clause-finds
returns-in_err-write-clause-finds c =
    let within = own c.args.inputs.now c.args.number in
    let columns = c.args.inputs.now.altered.now.map in
    let rest = map (λ (row : Row). Some row) (drop (c.loop-place.place + 1) c.args.inputs.now.opening.now) in
    let left = row_left within columns c.loop-place.place c.args.inputs.now.opening.now c.row-item.result c.loop-place-test.true c.row-item.is in
    let p = err_from_is_err_and c.from_residual.result c.from_residual.ensures.1 in
    rw (p.1, p.2) (is_found within columns c.loop-place.place (Some c.row-item.result) rest _ c.in_err-write.field-0.0 c.in_err-write.ensures.finds (ap (first_unfit columns c.loop-place.place) (sym left) ∙ c.loop-place.invariant.finds))

pub loop-place-preserved : goal.loop-place-preserved
loop-place-preserved c =
    let inputs = c.args.inputs.now in
    let within = own c.args.inputs.now c.args.number in
    let columns = c.args.inputs.now.altered.now.map in
    let row = c.row-item.result in
    let rest = drop (c.loop-place.place + 1) c.args.inputs.now.opening.now in
    let left = row_left within columns c.loop-place.place c.args.inputs.now.opening.now c.row-item.result c.loop-place-test.true c.row-item.is in
    let here = from_here c.args.inputs.now.opening.now c.loop-place.place c.row-item.result c.loop-place-test.true c.row-item.is in
    record {
      schema = c.in_ok-write.ensures.schema ∙ c.loop-place.invariant.schema;
      follows = λ sound empty. moved_on within inputs.places.now (key_places inputs.altered.now.schema) columns c.loop-place.place c.loop-place.table.table.rows c.write.new.table.table.rows (Write row) (map Write rest) inputs.opening.now
          (subst (λ rows. Follows within inputs.places.now (key_places inputs.altered.now.schema) columns c.loop-place.table.table.rows (map Write rows) inputs.opening.now) here (c.loop-place.invariant.follows sound empty))
          c.in_ok-write.ensures.finds
          (written_as within inputs.places.now columns row c.loop-place.table.table.schema inputs.altered.now.schema c.loop-place.table.table.rows c.write.new.table.table.rows (c.loop-place.invariant.schema ∙ ap (λ table. table.schema) empty) c.in_ok-write.ensures.rows);
      finds = still_left within columns c.loop-place.place (Some row) (map (λ (row : Row). Some row) rest) _ c.in_ok-write.ensures.finds (ap (first_unfit columns c.loop-place.place) (sym left) ∙ c.loop-place.invariant.finds);
    }

pub returns-clause-rows : goal.returns-clause-rows
returns-clause-rows c = λ sound empty.
    none_follow (own c.args.inputs.now c.args.number) c.args.inputs.now.places.now (key_places c.args.inputs.now.altered.now.schema) c.args.inputs.now.altered.now.map c.loop-place.table.table.rows _ c.args.inputs.now.opening.now
    (ap (map Write) (drop_all c.loop-place.place c.args.inputs.now.opening.now c.loop-place-test.false)) (c.loop-place.invariant.follows sound empty)

pub returns-clause-finds : goal.returns-clause-finds
returns-clause-finds c =
    sym c.loop-place.invariant.finds
    ∙ ap (λ rows. first_unfit c.args.inputs.now.altered.now.map c.loop-place.place (shard_sees (own c.args.inputs.now c.args.number) (map (λ (row : Row). Some row) rows))) (drop_all c.loop-place.place c.args.inputs.now.opening.now c.loop-place-test.false)
    ∙ none_left_unfit c.args.inputs.now.altered.now.map c.loop-place.place
