use Rattle.std.proofs.Common.{◌≤◌, sym, ap, subst, ◌∙◌}
use Rattle.run_turns.specs.Runs.{RunView}
use Rattle.top_call.proofs.WholeReplays.SoundReplays.{logged_so, over_so, own_plan, server_so, sound_so}
use Rattle.top_call.proofs.whole_replays.replays.replayed_run.Goals as goal

pub open-requires-clause-runs : goal.open-requires-clause-runs
open-requires-clause-runs g c = c.read_plans_are_runnable.ensures c.args.plan.now c.requires.read

pub open-requires-2-clause-pause : goal.open-requires-2-clause-pause
open-requires-2-clause-pause g c =
    subst (λ (run : RunView). 1 ≤ run.plan.options.replica_pause) (sym c.in_ok-opened.ensures) (c.read_options_allow.ensures c.requires.read.bytes c.args.plan.now c.requires.read.is).pause

pub returns-clause-plan : goal.returns-clause-plan
returns-clause-plan g c = own_plan c.args.plan.now c.replay-outcome.new.feed.run c.stop-run.result c.stop-run.ensures (c.replay-outcome.ensures.plan ∙ ap (λ (run : RunView). run.plan) (c.in_ok-feed.ensures.run ∙ c.in_ok-opened.ensures))

pub returns-clause-replay : goal.returns-clause-replay
returns-clause-replay g c =
    sound_so c.args.plan.now c.replay-outcome.new.feed.run c.stop-run.result c.stop-run.ensures (c.replay-outcome.ensures.plan ∙ ap (λ (run : RunView). run.plan) (c.in_ok-feed.ensures.run ∙ c.in_ok-opened.ensures)) c.kept_runs_are_sound.ensures c.replays_agree.ensures.one c.requires.read
    c.replay-outcome.ensures.replay c.journal-in_sessions.ensures.sessions c.journal-in_sessions.ensures.bound c.replay-outcome.ensures.stops

pub returns-clause-logged : goal.returns-clause-logged
returns-clause-logged g c =
    logged_so c.args.plan.now c.replay-outcome.new.feed.run c.stop-run.result c.stop-run.ensures (c.replay-outcome.ensures.plan ∙ ap (λ (run : RunView). run.plan) (c.in_ok-feed.ensures.run ∙ c.in_ok-opened.ensures)) c.in_ok-migrated.migrated c.replay-outcome.result.logged c.in_ok-migrated.ensures c.replay-outcome.ensures.logged

pub returns-clause-over : goal.returns-clause-over
returns-clause-over g c = λ memory.
    over_so c.args.plan.now c.replay-outcome.new.feed.run c.stop-run.result c.stop-run.ensures (c.replay-outcome.ensures.plan ∙ ap (λ (run : RunView). run.plan) (c.in_ok-feed.ensures.run ∙ c.in_ok-opened.ensures)) c.accepted_runs_go_on.ensures.going c.replay-outcome.result.stepped c.requires.read
    c.replay-outcome.ensures.replay c.journal-in_sessions.ensures.sessions c.replay-outcome.ensures.stopped c.replay-outcome.ensures.over c.replay-outcome.ensures.stalled memory

pub returns-clause-server : goal.returns-clause-server
returns-clause-server g c = λ memory.
    server_so c.args.plan.now c.replay-outcome.new.feed.run c.stop-run.result c.stop-run.ensures (c.replay-outcome.ensures.plan ∙ ap (λ (run : RunView). run.plan) (c.in_ok-feed.ensures.run ∙ c.in_ok-opened.ensures)) (c.replay-outcome.ensures.server memory)
