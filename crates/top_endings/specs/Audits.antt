-- *Answer* of an audit, as it is printed. This project's rule.
use Rattle.std.specs.Prelude.{◌≡◌, codes, ℕ, List, ◌++◌}
use Rattle.std.specs.Fmt.{decimal}
use Rattle.run_audit.specs.declared.trace.Audit.{Audit}
use Rattle.run_audit.specs.declared.trace.Audit.TheVariants.{Yes, Line, Table, Verdict}
use Rattle.top_endings.specs.declared.printed.Printed.{Printed}
use Rattle.top_endings.specs.declared.status.Status.{Status}
use Rattle.top_endings.specs.declared.status.Status.TheVariants.{Done, No}

-- `yes`; or `no`, and the turn, the table or the verdict that breaks the first rule that is broken
unfoldable pub answer_text : Audit → List ℕ
answer_text Yes = codes "yes\n"
answer_text (Line turn) = codes "no line " ++ decimal turn ++ codes "\n"
answer_text (Table name) = codes "no table " ++ name ++ codes "\n"
answer_text Verdict = codes "no verdict\n"

abbrev pub answer_status : Audit → Status
answer_status Yes = Done
answer_status answer = No

-- the answer, printed
pub record IsAnswer (answer : Audit) (printed : Printed) : Type 0 where
  pub status_is : printed.status ≡ answer_status answer
  pub text_is : printed.text ≡ answer_text answer
