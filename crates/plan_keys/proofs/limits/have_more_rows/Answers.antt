use Rattle.std.proofs.Common.{sym, ap, ◌∙◌, nat_lt}
use Rattle.plan_keys.proofs.Counts.{rows_counted}
use Rattle.plan_keys.proofs.limits.have_more_rows.Goals as goal

pub returns : goal.returns
returns c = c.have_more.ensures ∙ ap (nat_lt c.args.limit) (sym (rows_counted c.args.tables.now))
