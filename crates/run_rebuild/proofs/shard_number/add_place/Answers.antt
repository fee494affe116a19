use Rattle.std.proofs.Common.{◌≤◌, length, refl, arith}
use Rattle.std.specs.Prelude.{slice_get}
use Rattle.std.proofs.lemmas.Bool.Decides.{nat_tests}
use Rattle.std.proofs.lemmas.Option.{slice_get_past, slice_get_read}
use Rattle.run_rebuild.proofs.Numbers.{none_added, one_added}
use Rattle.run_rebuild.proofs.shard_number.add_place.Goals as goal

pub returns-in-None-clause-sum : goal.returns-in-None-clause-sum
returns-in-None-clause-sum c =
    let past : length c.args.row.now ≤ c.args.place = grind (arith, nat_tests, c.in-None.ensures.lookup) in
    rw (slice_get_past c.args.row.now c.args.place past) (none_added c.args.total c.args.workers c.requires.workers.0)

pub returns-in-Some-clause-sum : goal.returns-in-Some-clause-sum
returns-in-Some-clause-sum c = one_added c.args.total c.add_value.result c.args.workers c.in-Some.value.now (slice_get c.args.row.now c.args.place) (slice_get_read c.args.row.now (length c.args.row.now) c.args.place c.in-Some.value.now refl (grind (arith, nat_tests, c.in-Some.ensures.lookup.0)) c.in-Some.ensures.lookup.1) c.add_value.ensures.sum
