-- When the tool holds back, as gh-ost does ("Throttle": the status variable above `max-load`, or a user's command).
use Rattle.std.specs.Prelude.{ℕ, Bool, true, false, if◌then◌else◌, nat_lt}
use Rattle.tool_throttle.specs.declared.throttle.Go.{Go}
use Rattle.tool_throttle.specs.declared.throttle.Go.TheVariants as answers

-- The answer where work bears at most so much load: it holds exactly where the operator commanded it or the load is above that, and tells the latter.
abbrev pub answer_at : ℕ → ℕ → Bool → Go
answer_at most load true = answers.Hold (nat_lt most load)
answer_at most load false = if nat_lt most load then answers.Hold true else answers.Go
