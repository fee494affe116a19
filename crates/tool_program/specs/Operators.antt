-- *The operator*: what its commands have done so far, and when the tool holds back. (gh-ost, "Interactive commands",
-- "Throttle"; that all is lifted with the last command is this project's rule.)
use Rattle.std.specs.Prelude.{ℕ, ◌+◌, nat_lt, Bool, true, false, ◌&&◌, ◌||◌, length}
use Rattle.base_script.specs.declared.operator.OperatorWord.{OperatorWord}
use Rattle.base_script.specs.declared.operator.OperatorWord.TheVariants.{Throttle, NoThrottle, ChunkSize, Unpostpone, Panic, Wait}
use Rattle.server_model.specs.States.{State, load}
use Rattle.plan_data.specs.PlanData.{PlanData}
use Rattle.plan_data.specs.declared.options.Options.{Options}
use Rattle.tool_program.specs.JournalWords.KeptPlans.{words_of}

pub record Operator : Type 0 where
  -- how many of its commands were taken, each unit of a wait as one
  pub taken : ℕ
  -- `throttle` was the last of `throttle` and `no-throttle`
  pub throttles : Bool
  -- the first attempt is put off
  pub postpones : Bool
  -- how many rows a chunk holds at most
  pub size : ℕ

abbrev pub new_operator : Options → Operator
new_operator options = record { taken = 0; throttles = false; postpones = options.postpone; size = options.chunk_size }

-- a command is left
abbrev pub is_left : PlanData → Operator → Bool
is_left plan operator = nat_lt operator.taken (length (words_of plan))

abbrev pub commanded : OperatorWord → Operator → Operator
commanded Throttle operator = record operator { taken = operator.taken + 1; throttles = true }
commanded NoThrottle operator = record operator { taken = operator.taken + 1; throttles = false }
commanded (ChunkSize size) operator = record operator { taken = operator.taken + 1; size = size }
commanded Unpostpone operator = record operator { taken = operator.taken + 1; postpones = false }
commanded Panic operator = record operator { taken = operator.taken + 1 }
commanded Wait operator = record operator { taken = operator.taken + 1 }

-- *Throttled*: by command while one is left, or by more open transactions of clients than `max_load`
abbrev pub is_throttled : PlanData → State → Operator → Bool
is_throttled plan state operator = (operator.throttles && is_left plan operator) || nat_lt plan.options.max_load (load state)

-- *Postponed*: while a command is left
abbrev pub is_postponed : PlanData → Operator → Bool
is_postponed plan operator = operator.postpones && is_left plan operator
