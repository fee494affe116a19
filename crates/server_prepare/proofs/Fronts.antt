-- Checking items one by one, as a loop does.
use Rattle.std.proofs.Common.{List, ◌++◌, Result, Ok, Err}

-- the items so far, and those that are still checked
abbrev pub with_front : {A E : Type 0} → List A → Result (List A) E → Result (List A) E
with_front front (Ok more) = Ok (front ++ more)
with_front front (Err refusal) = Err refusal
