-- A quiet turn stores nothing.
use Rattle.server_model.specs.Drawing.{filled}
use Rattle.server_model.proofs.Filling.{filled_case}
use Rattle.std.proofs.Common.{◌≡◌, ℕ, Bool, true, false, List, [], ◌∷◌, ◌++◌, Option, Some, None, refl, sym, ap, ◌∙◌, subst}
use Rattle.base_values.specs.declared.span.Span.{Span}
use Rattle.server_model.specs.declared.need.Need.{Need}
use Rattle.table_store.specs.Databases.{Database, TableRows, find_table}
use Rattle.server_model.specs.declared.answer.Answer.{Answer}
use Rattle.server_model.specs.declared.entry.Asked.{Asked}
use Rattle.server_model.specs.declared.entry.Asked.TheVariants.{Call, Poll, Command, Cut}
use Rattle.server_model.specs.declared.request.Request.{Request}
use Rattle.server_model.specs.declared.request.Request.TheVariants as requests
use Rattle.server_model.specs.Effects.{Effect, all_exist, begins, effect, effect_within, locks_if}
use Rattle.server_model.specs.Effects.Effect.{Rests, Grows, Writes, Forgets, Moves, Locks, Unlocks}
use Rattle.server_model.specs.Entries.{is_cut}
use Rattle.server_model.specs.States.{State, is_of_tool, session_of}
use Rattle.tool_program.specs.JournalWords.Journals.{may_lose, opens}
use Rattle.proof_journals.specs.Holdings.{face_of, stored}
use Rattle.proof_journals.specs.Scenes.{SessionHold, Stored}
use Rattle.proof_journals.specs.Turns.{IsSceneRun, IsReported, about, scene_state, reported_at}
use Rattle.proof_journals.specs.Ghost.EffectStates.{EffectLeaves, is_lost, reported_done, was_done, where_done}
use Rattle.proof_journals.proofs.Ghost.Leaving.{effects_are_done}
use Rattle.proof_journals.proofs.Ghost.Turns.{along_next, run_front}
use Rattle.proof_journals.proofs.Ghost.Undone.{cuts_are_left, undone_is_left}
use Rattle.proof_migration.specs.Migration.Machines.{hold_at}
use Rattle.proof_migration.proofs.Migration.Copier.Served.{Deeded, deeded, seen_of}
use Rattle.proof_migration.proofs.Migration.Copier.Served.Deeded.{outside_so, within_so}
use Rattle.proof_migration.proofs.Migration.Granted.{nothing_asked}
use Rattle.proof_resume.specs.Settled.Laws.{QuietTurnsStoreNothing}
use Rattle.proof_resume.specs.Settled.QuietRequests.{StoresNothing}

-- an effect that stores nothing
abbrev StoresNone : Effect → Type 0
StoresNone (Rests answer) = Unit {0}
StoresNone (Grows answer need events) = Unit {0}
StoresNone (Forgets answer) = Unit {0}
StoresNone (Locks answer names) = Unit {0}
StoresNone (Unlocks answer) = Unit {0}
StoresNone effect = ⊥

begins_none : (found : Option TableRows) (span : Span) (size : ℕ) (need : Need) → StoresNone (begins found span size need)
begins_none None span size need = tt
begins_none (Some table) span size need = tt

locks_none : (all : Bool) (names : List (List ℕ)) → StoresNone (locks_if all names)
locks_none true names = tt
locks_none false names = tt

within_none : (busy : Bool) (seen : Database) (state : State) (request : Request) → StoresNothing busy request → StoresNone (effect_within busy seen state request)
within_none busy seen state requests.Begin quiet = tt
within_none busy seen state requests.Rollback quiet = tt
within_none true seen state (requests.Do statement) quiet = tt
within_none false seen state (requests.Do statement) quiet = absurd (let no : false ≡ true = quiet in cc)
within_none busy seen state (requests.Ends table) quiet = tt
within_none busy seen state (requests.ChunkEnd table low top size) quiet = tt
within_none busy seen state (requests.BeginSpan table span size) quiet = begins_none (find_table table state.tables) span size _
within_none true seen state (requests.CopyRow from into map key) quiet = tt
within_none false seen state (requests.CopyRow from into map key) quiet = absurd (let no : false ≡ true = quiet in cc)
within_none busy seen state (requests.LockTables names) quiet = locks_none (all_exist names state.tables) names
within_none busy seen state requests.Unlock quiet = tt
within_none busy seen state requests.LogEnd quiet = tt
within_none busy seen state (requests.ReadLog position limit tables) quiet = tt
within_none busy seen state requests.ShowTables quiet = tt
within_none busy seen state requests.ShowWaiting quiet = tt
within_none busy seen state (requests.ShowCounter table) quiet = tt
within_none busy seen state (requests.SetCounter table number) quiet = tt
within_none busy seen state request quiet = absurd quiet

-- a statement with its number stores nothing where it stores nothing without
full_stores : (busy : Bool) (state : State) (number : ℕ) (request : Request) → StoresNothing busy request → StoresNothing busy (filled state number request)
full_stores busy state number request = filled_case (λ asked full. StoresNothing busy asked → StoresNothing busy full) (λ r quiet. quiet) (λ statement n quiet. quiet) (is_of_tool (session_of number state.sessions)) state.tables state.counters request

leaves_stored : (one : Effect) (lost : Bool) (number : ℕ) (now after : Stored) (hold holds : ℕ → SessionHold) → StoresNone one → EffectLeaves one lost number now after hold holds → after ≡ now
leaves_stored (Rests answer) lost number now after hold holds none left = left.0
leaves_stored (Grows answer need events) lost number now after hold holds none left = left.0
leaves_stored (Forgets answer) lost number now after hold holds none left = left.0
leaves_stored (Writes answer events) lost number now after hold holds none left = absurd none
leaves_stored (Moves answer tables) lost number now after hold holds none left = absurd none
leaves_stored (Locks answer names) lost number now after hold holds none left = left.0
leaves_stored (Unlocks answer) lost number now after hold holds none left = left.0

-- *Quiet turns store nothing.*
pub quiet_turns : QuietTurnsStoreNothing
quiet_turns limits scene journal entry more sides quiet = by (is_cut entry.asked) refl where
  before : State
  before = scene_state limits scene journal

  run : IsSceneRun limits scene journal
  run = run_front limits scene journal (entry ∷ []) more

  entry_reported : IsReported limits scene journal entry
  entry_reported = along_next (IsReported limits scene) [] journal entry [] more.reported

  Goal : Type 0
  Goal = stored (scene_state limits scene (journal ++ entry ∷ [])) ≡ stored before

  done_so : (request : Request) → about (opens entry before) entry.session entry.asked ≡ Some request → (given : Answer) → reported_at entry.side entry.answer entry.missed ≡ Some given → was_done given ≡ true → Goal
  done_so request asked given reported done =
      leaves_stored (effect (where_done entry.asked entry.session (opens entry before)) entry.session full) (is_lost entry.side) entry.session (stored before) (stored (scene_state limits scene (journal ++ entry ∷ []))) (hold_at before) (hold_at (scene_state limits scene (journal ++ entry ∷ [])))
      (none (deeded entry before full)) (effects_are_done limits scene journal entry request given run entry_reported asked reported done)
    where
      full : Request
      full = filled (opens entry before) entry.session request

      none : Deeded before entry.session full (effect (where_done entry.asked entry.session (opens entry before)) entry.session full) → StoresNone (effect (where_done entry.asked entry.session (opens entry before)) entry.session full)
      none (outside_so is) = subst StoresNone (sym is) tt
      none (within_so there tables log is) =
          subst StoresNone (sym is) (within_none (face_of before.sessions entry.session).busy (seen_of before entry.session) there full (full_stores (face_of before.sessions entry.session).busy (opens entry before) entry.session request (quiet request asked)))

  asked_so : is_cut entry.asked ≡ false → (request : Request) → about (opens entry before) entry.session entry.asked ≡ Some request → Goal
  asked_so uncut request asked = reported_by (reported_at entry.side entry.answer entry.missed) refl where
    undone : reported_done (reported_at entry.side entry.answer entry.missed) ≡ false → Goal
    undone none = (undone_is_left limits scene journal entry request run entry_reported uncut asked none).0

    reported_by : (reported : Option Answer) → reported_at entry.side entry.answer entry.missed ≡ reported → Goal
    reported_by None is = undone (ap reported_done is)
    reported_by (Some given) is = given_by (was_done given) refl where
      given_by : (b : Bool) → was_done given ≡ b → Goal
      given_by true done = done_so request asked given is done
      given_by false left = undone (ap reported_done is ∙ left)

  uncut_so : is_cut entry.asked ≡ false → Goal
  uncut_so uncut = about_by (about (opens entry before) entry.session entry.asked) refl where
    about_by : (request : Option Request) → about (opens entry before) entry.session entry.asked ≡ request → Goal
    about_by None none = (nothing_asked limits scene journal entry none uncut).stays
    about_by (Some request) asked = asked_so uncut request asked

  by : (b : Bool) → is_cut entry.asked ≡ b → Goal
  by true cut = (cuts_are_left limits scene journal entry cut (sides (cut_side entry.asked cut))).0 where
    cut_side : (asked : Asked) → is_cut asked ≡ true → may_lose asked ≡ false
    cut_side Cut is = refl
    cut_side Poll is = absurd (let no : false ≡ true = is in cc)
    cut_side (Call request) is = absurd (let no : false ≡ true = is in cc)
    cut_side (Command word) is = absurd (let no : false ≡ true = is in cc)
  by false uncut = uncut_so uncut
