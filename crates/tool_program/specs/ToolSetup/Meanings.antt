-- What the code's records of setup and operator mean in the words of the program. (This project's rule.)
use Rattle.std.specs.Prelude.{ℕ, Bool, ◌&&◌, ◌||◌, nat_lt, List, [], ◌∷◌, unwrap_or, Option, None}
use Rattle.std.specs.List.{flat_map, repeat}
use Rattle.base_script.specs.declared.operator.Command.{Command}
use Rattle.base_script.specs.declared.operator.OperatorWord.{OperatorWord}
use Rattle.server_model.specs.declared.answer.Answer.{Answer}
use Rattle.server_model.specs.declared.answer.Answer.TheVariants as answers
use Rattle.server_model.specs.declared.answer.KeyRange.{KeyRange}
use Rattle.server_model.specs.declared.request.Request.{Request}
use Rattle.server_model.specs.declared.request.Request.TheVariants as requests
use Rattle.plan_data.specs.PlanData.{PlanData}
use Rattle.tool_program.specs.Operators as program
use Rattle.tool_program.specs.Setups as steps
use Rattle.tool_program.specs.declared.tool_setup.operator.Operator.{Operator}
use Rattle.tool_program.specs.declared.tool_setup.setup.Setup.{Setup}
use Rattle.tool_program.specs.declared.tool_setup.setup.Setup.TheVariants.{Listing, Clearing, MakingLog, MakingGhost, Marking, Reaching}
use Rattle.tool_program.specs.declared.tool_setup.setup.SetupTook.{SetupTook}
use Rattle.tool_program.specs.declared.tool_setup.setup.SetupTook.TheVariants.{Goes, Over}

abbrev pub operator_of : Operator → program.Operator
operator_of operator = record { taken = operator.taken; throttles = operator.throttles; postpones = operator.postpones; size = operator.size }

-- the words of commands in order, each as often as it has units
abbrev pub words_in : List Command → List OperatorWord
words_in commands = flat_map (λ command. repeat command.units (command.word ∷ [])) commands

-- the tool is throttled where this many transactions of clients are open
abbrev pub is_throttled_under : PlanData → ℕ → program.Operator → Bool
is_throttled_under plan load operator = (operator.throttles && program.is_left plan operator) || nat_lt plan.options.max_load load

abbrev pub setup_of : Setup → steps.Setup
setup_of Listing = steps.Listing
setup_of (Clearing left) = steps.Clearing left
setup_of MakingLog = steps.MakingLog
setup_of MakingGhost = steps.MakingGhost
setup_of Marking = steps.Marking
setup_of (Reaching position) = steps.Reaching position

-- what is asked; until it is over the setup has a call
abbrev pub asked_in : PlanData → Setup → Request
asked_in plan setup = unwrap_or (steps.setup_call plan (setup_of setup)) requests.ShowTables

-- with the range that was read, where it is over
abbrev pub took_of : SetupTook → Option KeyRange → steps.Setup
took_of (Goes setup) range = setup_of setup
took_of (Over position) range = steps.Ready position range

-- the range that an answer tells
abbrev pub range_reported : Answer → Option KeyRange
range_reported (answers.Ends range) = range
range_reported answer = None
