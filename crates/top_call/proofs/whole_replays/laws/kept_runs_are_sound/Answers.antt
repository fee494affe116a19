use Rattle.top_call.proofs.WholeReplays.SoundRuns.{sound}
use Rattle.top_call.proofs.whole_replays.laws.kept_runs_are_sound.Goals as goal

pub returns : goal.returns
returns c =
    sound c.accepted_runs_are_serial.ensures.serial c.accepted_runs_are_serial.ensures.altered c.accepted_runs_keep_tables.ensures.found c.accepted_runs_keep_tables.ensures.old c.accepted_runs_go_on.ensures.online
    c.accepted_runs_keep_order.ensures.order c.accepted_runs_keep_order.ensures.locks c.accepted_runs_keep_order.ensures.inserts c.accepted_runs_draw.ensures c.accepted_runs_go_on.ensures.causes c.accepted_causes_are_least.ensures c.runs_are_bounded.ensures c.accepted_runs_go_on.ensures.going
