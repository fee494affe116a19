use Rattle.std.proofs.Common.{◌≡◌, ◌<◌, ◌≤◌, true, false, length, sym, ◌∙◌, arith}
use Rattle.server_model.specs.States.{is_of}
use Rattle.server_log.proofs.KeptEvents.{item_at}
use Rattle.server_log.proofs.ReadEvents.{counts_skip, counts_take, counts_end}
use Rattle.server_log.proofs.log.reading.count_from.Goals as goal

pub loop-place-preserved-then-not-is_of : goal.loop-place-preserved-then-not-is_of
loop-place-preserved-then-not-is_of c =
    let within : c.loop-place.place < length c.args.log.now.events = omega (arith, c.loop-place-test.true, c.len-place-end.ensures) in
    let here = item_at c.args.log.now.events c.loop-place.place within in
    let fails : is_of c.args.tables.now here.0 ≡ false = sym (c.is_of.ensures here.0 here.1) ∙ c.if-not-is_of.true in
    let skip = counts_skip c.args.tables.now c.args.log.now.events c.loop-place.place here.0 within here.1 fails in
    record { counted = omega (arith, skip, c.loop-place.invariant.counted); few = omega (arith, c.loop-place.invariant.few) }

pub loop-place-preserved : goal.loop-place-preserved
loop-place-preserved c =
    let within : c.loop-place.place < length c.args.log.now.events = omega (arith, c.loop-place-test.true, c.len-place-end.ensures) in
    let here = item_at c.args.log.now.events c.loop-place.place within in
    let passes : is_of c.args.tables.now here.0 ≡ true = sym (c.is_of.ensures here.0 here.1) ∙ c.if-not-is_of.false in
    let taken = counts_take c.args.tables.now c.args.log.now.events c.loop-place.place here.0 within here.1 passes in
    record { counted = omega (arith, taken, c.loop-place.invariant.counted); few = omega (arith, c.loop-place.invariant.few) }

pub returns : goal.returns
returns c =
    let past : length c.args.log.now.events ≤ c.loop-place.place = omega (arith, c.loop-place-test.false, c.len-place-end.ensures) in
    omega (arith, counts_end c.args.tables.now c.args.log.now.events c.loop-place.place past, c.loop-place.invariant.counted)
