use Rattle.std.proofs.Common.{◌+◌, ℕ, length, map, drop, refl, sym, ap, ◌∙◌, subst, arith}
use Rattle.std.proofs.lemmas.List.{drop_all}
use Rattle.std.proofs.lemmas.Result.{err_from_is_err_and}
use Rattle.base_values.proofs.GhoSchema.Loops.{from_here}
use Rattle.base_values.specs.GhoSchema.Rows.{key_places}
use Rattle.proof_rebuild.specs.Shards.{first_unfit, row_after, shard_sees}
use Rattle.run_rebuild.specs.Rebuilds.{changes_of, own, rows_then}
use Rattle.run_rebuild.proofs.Following.{Follows, followed_as, moved_on, none_follow}
use Rattle.run_rebuild.proofs.SeenRows.{event_left, is_found, none_left_unfit, still_left}
use Rattle.run_rebuild.proofs.shard_table.follow_events.Goals as goal

pub loop-n-init : goal.loop-n-init
loop-n-init c = record {
  schema = refl;
  follows = λ sound same holds. record { rows = c.args.inputs.now.opening.now; ascends = sound.ascends; fit = sound.fit; row_keys = sound.opening_keys; keys = sound.keys; has = holds; last_is = refl };
  finds = ap (λ (n : ℕ). first_unfit c.args.inputs.now.altered.now.map n (shard_sees (own c.args.inputs.now c.args.number) (map row_after (changes_of c.args.inputs.now.events.now)))) (omega arith);
}

pub returns-in_err-follow-clause-finds : goal.returns-in_err-follow-clause-finds
returns-in_err-follow-clause-finds c =
    let within = own c.args.inputs.now c.args.number in
    let columns = c.args.inputs.now.altered.now.map in
    let place = length c.args.inputs.now.opening.now + c.loop-n.n in
    let rest = map row_after (changes_of (drop (c.loop-n.n + 1) c.args.inputs.now.events.now)) in
    let left = event_left within c.loop-n.n c.args.inputs.now.events.now c.event-item.result c.loop-n-test.true c.event-item.is in
    let p = err_from_is_err_and c.from_residual.result c.from_residual.ensures.1 in
    rw (p.1, p.2) (is_found within columns place (row_after c.event-item.result.change) rest _ c.in_err-follow.field-0.0 c.in_err-follow.ensures.finds (ap (first_unfit columns place) (sym left) ∙ c.loop-n.invariant.finds))

pub loop-n-preserved : goal.loop-n-preserved
loop-n-preserved c =
    let inputs = c.args.inputs.now in
    let within = own c.args.inputs.now c.args.number in
    let columns = c.args.inputs.now.altered.now.map in
    let place = length c.args.inputs.now.opening.now + c.loop-n.n in
    let change = c.event-item.result.change in
    let rest = changes_of (drop (c.loop-n.n + 1) c.args.inputs.now.events.now) in
    let left = event_left within c.loop-n.n c.args.inputs.now.events.now c.event-item.result c.loop-n-test.true c.event-item.is in
    let here = from_here c.args.inputs.now.events.now c.loop-n.n c.event-item.result c.loop-n-test.true c.event-item.is in
    record {
      schema = c.in_ok-follow.ensures.schema ∙ c.loop-n.invariant.schema;
      follows = λ sound same holds. moved_on within inputs.places.now (key_places inputs.altered.now.schema) columns place c.loop-n.table.table.rows c.follow.new.table.table.rows change rest (rows_then inputs)
          (subst (λ events. Follows within inputs.places.now (key_places inputs.altered.now.schema) columns c.loop-n.table.table.rows (changes_of events) (rows_then inputs)) here (c.loop-n.invariant.follows sound same holds))
          c.in_ok-follow.ensures.finds
          (followed_as within inputs.places.now columns change c.loop-n.table.table.schema inputs.altered.now.schema c.loop-n.table.table.rows c.follow.new.table.table.rows (c.loop-n.invariant.schema ∙ same) c.in_ok-follow.ensures.rows);
      finds = ap (λ (n : ℕ). first_unfit columns n (shard_sees within (map row_after rest))) (omega arith)
          ∙ still_left within columns place (row_after change) (map row_after rest) _ c.in_ok-follow.ensures.finds (ap (first_unfit columns place) (sym left) ∙ c.loop-n.invariant.finds);
    }

pub returns-clause-rows : goal.returns-clause-rows
returns-clause-rows c = λ sound same holds.
    none_follow (own c.args.inputs.now c.args.number) c.args.inputs.now.places.now (key_places c.args.inputs.now.altered.now.schema) c.args.inputs.now.altered.now.map c.loop-n.table.table.rows _ (rows_then c.args.inputs.now)
    (ap changes_of (drop_all c.loop-n.n c.args.inputs.now.events.now c.loop-n-test.false)) (c.loop-n.invariant.follows sound same holds)

pub returns-clause-finds : goal.returns-clause-finds
returns-clause-finds c =
    sym c.loop-n.invariant.finds
    ∙ ap (λ events. first_unfit c.args.inputs.now.altered.now.map (length c.args.inputs.now.opening.now + c.loop-n.n) (shard_sees (own c.args.inputs.now c.args.number) (map row_after (changes_of events)))) (drop_all c.loop-n.n c.args.inputs.now.events.now c.loop-n-test.false)
    ∙ none_left_unfit c.args.inputs.now.altered.now.map (length c.args.inputs.now.opening.now + c.loop-n.n)
