-- How the server refuses (MySQL's manual, "Server Error Message Reference").
use Rattle.std.specs.Prelude.{ℕ, Some, None}
use Rattle.base_values.specs.StoredValues.{error_number}
use Rattle.base_values.specs.declared.row_conversion.conversion_fault.UnfitAt.{UnfitAt}
use Rattle.server_model.specs.declared.answer.Answer.{Answer}
use Rattle.server_model.specs.declared.answer.Answer.TheVariants as answers

-- done, and no row was written, changed or removed
abbrev pub ok : Answer
ok = answers.Ok 0

-- refused with this number
abbrev pub refuses : ℕ → Answer
refuses number = answers.Refused number None

-- refused for a value that a column doesn't store
abbrev pub refuses_value : UnfitAt → Answer
refuses_value at = answers.Refused (error_number at.unfit) (Some at.column)
