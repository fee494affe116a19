use Rattle.std.proofs.Common.{◌≤◌, length, sym, arith}
use Rattle.std.proofs.lemmas.List.{append-nil}
use Rattle.std.proofs.lemmas.Bool.Decides.{nat_tests}
use Rattle.std.proofs.lemmas.Option.{slice_get_past}
use Rattle.base_values.proofs.gho_schema.keyed.push_at.Goals as goal

pub returns-in-None : goal.returns-in-None
returns-in-None c =
    let past : length c.args.row.now ≤ c.args.place = grind (arith, nat_tests, c.in-None.ensures.lookup) in
    rw (slice_get_past c.args.row.now c.args.place past) (sym (append-nil c.args.key.now))
