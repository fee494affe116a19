-- What holds of every journal.
use Rattle.std.specs.Prelude.{◌≡◌, ◌≤◌, ℕ, count_by, true, false, List, [], Some, None}
use Rattle.server_model.specs.declared.session.Limits.{Limits}
use Rattle.std.specs.List.{AllByRecursion}
use Rattle.server_model.specs.Along.{Along}
use Rattle.table_store.specs.declared.renames.Pair.{Pair}
use Rattle.table_store.specs.Databases.{Database}
use Rattle.server_model.specs.LockedRows.Databases.{IsWellFormedDatabase}
use Rattle.server_model.specs.Alone.{lines_run, nothing_ran}
use Rattle.proof_journals.specs.Scenes.{Scene, PlainItem, Txn, Alter, is_mine, SerialHistory, left}
use Rattle.proof_journals.specs.Turns.{Turn, journal_of, AllReported, IsSceneRun, MayAsk, AtRest, is_busy, about, IsExchange, RenamesSo, scene_state, goings_at, history}
use Rattle.server_model.specs.declared.entry.Entry.{Entry}
use Rattle.server_model.specs.Entries.{is_command}
use Rattle.proof_journals.specs.Holdings.{stored}
use Rattle.server_model.specs.declared.request.Request.TheVariants.{Rename}
use Rattle.plan_data.specs.PlanData.{PlanData}
use Rattle.tool_program.specs.JournalWords.Journals.{opens}
use Rattle.tool_program.specs.JournalWords.Histories as histories
use Rattle.tool_program.specs.JournalWords.Histories.{is_alter}
use Rattle.tool_program.specs.JournalWords.Serials.{IsSerial}
use Rattle.proof_journals.specs.Plans.{limits_of, scene_of, IsPlanRun}

-- the history is serial over the client tables and their log, which are what is left of the tables and the log; and each
-- client's open transaction has at its lines the
-- replies that these lines have when they run alone on the client tables as they are
pub record SceneSerial (limits : Limits) (scene : Scene) (journal : List Entry) : Type 0 where
  pub ended : SerialHistory scene (left scene (record { tables = scene.opening; log = [] })) (history limits scene journal) (left scene (stored (scene_state limits scene journal)))
  pub going : (n : ℕ) → (lines_run (left scene (stored (scene_state limits scene journal))).tables nothing_ran (goings_at limits scene journal n).lines).replies ≡ (goings_at limits scene journal n).replies

-- *Runs of scenes are serial*
abbrev pub ScenesAreSerial : Type 0
ScenesAreSerial = (limits : Limits) (scene : Scene) (journal : List Entry) → IsSceneRun limits scene journal → SceneSerial limits scene journal

-- *A plan's run is a scene's*, so that all laws of scenes are laws of plans
abbrev pub PlanRunsAreSceneRuns : Type 0
PlanRunsAreSceneRuns = (plan : PlanData) (journal : List Entry) → IsPlanRun plan journal → IsSceneRun (limits_of plan) (scene_of plan journal) journal

-- *Journals are serial*, in their own words: each run of a plan in which the tool alters the migrated table once at most
abbrev pub JournalsAreSerial : Type 0
JournalsAreSerial = (plan : PlanData) (journal : List Entry) → IsPlanRun plan journal → count_by is_alter (histories.history plan journal) ≤ 1 → IsSerial plan journal

-- *Every list of turns has a faithful journal*
abbrev pub TurnsHaveJournals : Type 0
TurnsHaveJournals = (limits : Limits) (scene : Scene) (turns : List Turn) → AllReported limits scene (journal_of limits scene turns)

-- *The exchange alters the table*
abbrev pub ExchangeAlters : Type 0
ExchangeAlters = (scene : Scene) (tables : Database) (pairs : List Pair) → is_mine scene scene.migrated ≡ true → IsExchange scene tables pairs → RenamesSo scene tables (Some (Rename pairs))

-- a transaction, and no ALTER
abbrev pub IsTxn : PlainItem → Type 0
IsTxn (Txn past) = Unit {0}
IsTxn Alter = ⊥

-- what an entry may ask where the table is not exchanged
pub record IsPlain (limits : Limits) (scene : Scene) (before : List Entry) (entry : Entry) : Type 0 where
  pub may : MayAsk scene entry.session entry.asked
  pub commands : is_command entry.asked ≡ true → entry.side ≡ None
  pub rests : AtRest (is_busy entry.session (opens entry (scene_state limits scene before))) (about (opens entry (scene_state limits scene before)) entry.session entry.asked)

-- *Plain runs are serial*: clients' transactions alone, one after the other
pub record PlainSceneSerial (limits : Limits) (scene : Scene) (journal : List Entry) : Type 0 where
  pub serial : SceneSerial limits scene journal
  pub plain : AllByRecursion IsTxn (history limits scene journal)

abbrev pub PlainScenesAreSerial : Type 0
PlainScenesAreSerial = (limits : Limits) (scene : Scene) (journal : List Entry) → IsWellFormedDatabase scene.opening → is_mine scene scene.migrated ≡ true → scene.exchanges ≡ false → AllReported limits scene journal → Along (IsPlain limits scene) [] journal → PlainSceneSerial limits scene journal
