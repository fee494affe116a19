-- *Clients and their sessions*: what how far a client is says of what its session has on the server.
use Rattle.std.specs.Prelude.{◌≡◌, Bool, true, false, List, [], ◌∷◌}
use Rattle.std.specs.List.{AllByRecursion}
use Rattle.base_script.specs.declared.script.ScriptLine.{ScriptLine}
use Rattle.base_script.specs.declared.script.ScriptWord.{ScriptWord}
use Rattle.base_script.specs.declared.script.ScriptWord.TheVariants as words
use Rattle.plan_data.specs.PlanData.{PlanData}

-- BEGIN is outside a transaction, COMMIT and ROLLBACK inside
abbrev pub WordFits : Bool → ScriptWord → Type 0
WordFits inside words.Begin = inside ≡ false
WordFits inside words.Commit = inside ≡ true
WordFits inside words.Rollback = inside ≡ true
WordFits inside (words.Do statement) = Unit {0}

abbrev pub inside_after : Bool → ScriptWord → Bool
inside_after inside words.Begin = true
inside_after inside words.Commit = false
inside_after inside words.Rollback = false
inside_after inside (words.Do statement) = inside

abbrev pub LinesFit : Bool → List ScriptLine → Type 0
LinesFit inside [] = Unit {0}
LinesFit inside (line ∷ lines) = WordFits inside line.word × LinesFit (inside_after inside line.word) lines

-- *Scripts fit*: so do the lines of each script. (What a plan's reader asks of a script.)
abbrev pub ScriptsFit : PlanData → Type 0
ScriptsFit plan = AllByRecursion (LinesFit false) plan.clients
