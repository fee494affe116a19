use Rattle.base_values.specs.GhoSchema.Rows.{key_of}
use Rattle.server_api.proofs.PagedAnswers.Cuts.{starts, goes_on, runs_out, is_done}
use Rattle.server_api.proofs.paged_answers.chunk.next_keys.Goals as goal

pub loop-init : goal.loop-init
loop-init c = rw c.new-keys.ensures (starts (key_of c.args.places.now) c.args.size c.args.rows.now)

pub returns-in_default-clause-keys : goal.returns-in_default-clause-keys
returns-in_default-clause-keys c = (runs_out (key_of c.args.places.now) c.loop.counter c.args.size c.loop.keys c.loop.rows c.args.rows.now c.in_default.ensures.steps.0 c.loop.invariant).0

pub loop-preserved : goal.loop-preserved
loop-preserved c = rw (c.in_ok-push.ensures.ok, c.in_ok-key_of.ensures, c.as_slice.ensures) (goes_on (key_of c.args.places.now) c.loop.counter c.args.size c.loop.keys c.in-Some.row.now c.loop.rows c.next.new.self c.args.rows.now c.loop-test.true c.in-Some.ensures.steps c.loop.invariant)

pub returns-clause-keys : goal.returns-clause-keys
returns-clause-keys c = (is_done (key_of c.args.places.now) c.loop.counter c.args.size c.loop.keys c.loop.rows c.args.rows.now c.loop-test.false c.loop.invariant).0

pub returns-clause-left : goal.returns-clause-left
returns-clause-left c = (is_done (key_of c.args.places.now) c.loop.counter c.args.size c.loop.keys c.loop.rows c.args.rows.now c.loop-test.false c.loop.invariant).1
