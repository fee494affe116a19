-- What the text of the workload of every number is. The functions of `law_texts::workload` prove each.
use Rattle.std.specs.Prelude.{◌≡◌, ℕ, ◌≤◌, true, length, Some, Ok}
use Rattle.std.specs.Str.{is_utf8}
use Rattle.toml.specs.Parse.{parse_document}
use Rattle.plan_keys.specs.PlanKeys.{keys_of}
use Rattle.top_workload.specs.Workloads.{workload}
use Rattle.law_texts.specs.Workloads.Document.Plans.{document, keys}

-- The text of a workload is a TOML document, which is this one.
abbrev pub WorkloadsAreDocuments : Type 0
WorkloadsAreDocuments = (number : ℕ) → parse_document (workload number) ≡ Some (document number)

-- The text is UTF-8.
abbrev pub WorkloadsAreUtf8 : Type 0
WorkloadsAreUtf8 = (number : ℕ) → is_utf8 (workload number) ≡ true

-- It has at most 2,000,000 bytes, far fewer than a plan may have.
abbrev pub WorkloadsAreShort : Type 0
WorkloadsAreShort = (number : ℕ) → length (workload number) ≤ 2000000

-- Its keys are known, each has its type, its numbers are in range, and nothing is too many.
abbrev pub KeysAreInRange : Type 0
KeysAreInRange = (number : ℕ) → keys_of (document number) ≡ Ok (keys number)
