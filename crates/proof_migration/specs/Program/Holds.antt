-- What the locker and the renamer have, and the sessions that they have it in.
use Rattle.std.specs.Prelude.{◌≡◌, ◌⊎◌, false, List, [], ◌∷◌, ◌++◌, None}
use Rattle.base_script.specs.declared.actor.Actor.TheVariants.{Lock, Ren}
use Rattle.server_model.specs.declared.entry.Entry.{Entry}
use Rattle.server_model.specs.Entries.{is_command}
use Rattle.plan_data.specs.PlanData.{PlanData}
use Rattle.tool_program.specs.declared.cutover_core.cutover.Hold.TheVariants.{Nothing}
use Rattle.tool_program.specs.JournalWords.Journals.{IsFaithful}
use Rattle.tool_program.specs.JournalWords.Sessions.{live_session}
use Rattle.tool_program.specs.Programs.{Follows}
use Rattle.tool_program.specs.Tools.{Work, Migrating, moment}
use Rattle.proof_journals.specs.Run.Kept.{IsKept}
use Rattle.proof_journals.specs.Sentry.TurnResults.{IsLockerFree, IsRenamerFree, last_session}

-- a locker without a live session has nothing, and a renamer without one has no RENAME that waits
pub record IsHeldLive (journal : List Entry) (work : Work) : Type 0 where
  pub locker : live_session journal Lock ≡ None → work.cutover.hold ≡ Nothing
  pub renamer : live_session journal Ren ≡ None → work.cutover.renamer_waits ≡ false

-- *Holds are live*: so it is after each faithful journal that follows the program.
abbrev pub HoldsAreLive : Type 0
HoldsAreLive = (plan : PlanData) (journal : List Entry) (work : Work) → IsFaithful plan journal → Follows plan journal → (moment plan journal).tool.tool_phase ≡ Migrating work → IsHeldLive journal work

-- *Lockers go on*: a turn of the locker's is in its last session, or the relation names none of its sessions.
abbrev pub LockersGoOn : Type 0
LockersGoOn = (plan : PlanData) (journal : List Entry) (entry : Entry) (work : Work) → IsKept plan (journal ++ entry ∷ []) → (moment plan journal).tool.tool_phase ≡ Migrating work → entry.actor ≡ Lock → is_command entry.asked ≡ false → (entry.session ≡ last_session journal Lock) ⊎ IsLockerFree work.cutover.phase

-- *Renamers go on*: likewise.
abbrev pub RenamersGoOn : Type 0
RenamersGoOn = (plan : PlanData) (journal : List Entry) (entry : Entry) (work : Work) → IsKept plan (journal ++ entry ∷ []) → (moment plan journal).tool.tool_phase ≡ Migrating work → entry.actor ≡ Ren → is_command entry.asked ≡ false → (entry.session ≡ last_session journal Ren) ⊎ IsRenamerFree work.cutover.phase
