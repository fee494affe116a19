-- The migration goes on over a whole journal, to the mark.
use Rattle.std.proofs.Common.{◌≡◌, ℕ, false, List, [], ◌∷◌, ◌++◌, drop, sym, ap, ◌∙◌, subst, append_assoc, append-nil}
use Rattle.server_model.specs.declared.entry.Entry.{Entry}
use Rattle.plan_data.specs.PlanData.{PlanData}
use Rattle.tool_program.specs.JournalWords.Journals.{state_at}
use Rattle.tool_program.specs.EventApplier.Appliers.{events_of}
use Rattle.tool_program.specs.Tools.{Work, Migrating, is_reverting, moment}
use Rattle.proof_journals.specs.Plans.{limits_of, scene_of}
use Rattle.proof_journals.specs.Ghost.HeldKeys.{Clustered}
use Rattle.proof_journals.specs.Ghost.Rows.Moments.{Row}
use Rattle.proof_journals.specs.Ghost.Rows.Timelines.{Migration}
use Rattle.proof_journals.specs.Run.Kept.{IsKept}
use Rattle.proof_journals.proofs.Machine.Marks.{Unmarked}
use Rattle.proof_migration.specs.Migration.Machines.{Machines}
use Rattle.proof_migration.specs.Program.Turns.Goes.{machines_in}
use Rattle.proof_migration.specs.Program.Turns.Laws.{FollowersGoOn, GoesSomehow, IsMigrationOf, MarksAreAltered}
use Rattle.proof_migration.specs.ToolPhase.Unaltered.{IsUnaltered}
use Rattle.proof_migration.proofs.Migration.Migrating.{ends}
use Rattle.proof_migration.proofs.Program.Turns.ActorStates.{SomeActorStates, some_actor_states}
use Rattle.proof_migration.proofs.Program.Turns.Effects.{TurnIs, turn_effect}
use Rattle.proof_migration.proofs.Program.Turns.Follows.{kept_front, kept_scene, unmarked_now}
use Rattle.proof_migration.proofs.Program.Turns.Goes.{goes_on}
use Rattle.proof_migration.proofs.Program.Turns.Reverting.{going_front}
use Rattle.proof_migration.proofs.Program.Turns.Takes.{in_scene}
use Rattle.proof_migration.proofs.ToolPhase.Unaltered.Away.{IsKnownAsked, all_asked, unaltered_front}
use Rattle.proof_migration.proofs.Unfit.Known.{IsKnownTurn, known_turn}

-- one turn
goes_more : (plan : PlanData) (m : Migration) (at : Clustered m.schema) (rows : List Row) → IsMigrationOf plan m rows → (journal : List Entry) (entry : Entry) → IsKept plan (journal ++ entry ∷ []) → IsUnaltered plan (journal ++ entry ∷ []) → is_reverting (moment plan (journal ++ entry ∷ [])).tool.reason ≡ false
    → GoesSomehow plan m at rows journal → GoesSomehow plan m at rows (journal ++ entry ∷ [])
goes_more plan m at rows of journal entry kept off going was =
    let turn : IsKnownTurn plan journal entry = known_turn plan of.runs journal entry kept in
    let unmarked : Unmarked plan journal was.work = unmarked_now plan journal was.work turn.known (unaltered_front plan journal (entry ∷ []) off) was.tool_phase in
    let is : TurnIs plan journal entry was.work = turn_effect plan journal entry turn.run was.work was.tool_phase (unmarked.undone).undone turn.together.turns going in
    record { work = is.after; tool_phase = is.tool_phase; goes = goes_on plan m at rows of journal entry kept off was.work is.after was.tool_phase unmarked is.going is.tool_phase going is.effect was.goes }

-- *Followers go on*
pub followers_go_on : FollowersGoOn
followers_go_on plan m at rows of journal [] kept off going was = subst (GoesSomehow plan m at rows) (sym (append-nil journal)) was
followers_go_on plan m at rows of journal (entry ∷ rest) kept off going was =
    let same : (journal ++ entry ∷ []) ++ rest ≡ journal ++ entry ∷ rest = append_assoc journal (entry ∷ []) rest in
    let kept_all : IsKept plan ((journal ++ entry ∷ []) ++ rest) = subst (IsKept plan) (sym same) kept in
    let off_all : IsUnaltered plan ((journal ++ entry ∷ []) ++ rest) = subst (IsUnaltered plan) (sym same) off in
    let going_all : is_reverting (moment plan ((journal ++ entry ∷ []) ++ rest)).tool.reason ≡ false = subst (λ (j : List Entry). is_reverting (moment plan j).tool.reason ≡ false) (sym same) going in
    subst (GoesSomehow plan m at rows) same
    (followers_go_on plan m at rows of (journal ++ entry ∷ []) rest kept_all off_all going_all
    (goes_more plan m at rows of journal entry (kept_front plan (journal ++ entry ∷ []) rest kept_all) (unaltered_front plan (journal ++ entry ∷ []) rest off_all) (going_front plan (journal ++ entry ∷ []) rest going_all) was))

-- *Marks are altered*
pub marks_are_altered : MarksAreAltered
marks_are_altered plan m at rows of journal kept mark was =
    let known : IsKnownAsked plan journal = all_asked plan journal of.runs kept.faithful kept.follows in
    let some : SomeActorStates journal = some_actor_states journal known.marking.tabled.all.tool.known.sessions in
    let same : was.work ≡ mark.work = same_work was.work mark.work (sym was.tool_phase ∙ mark.tool_phase) in
    let machines : Machines = machines_in was.work some.copier some.applier in
    ends m at rows of.place of.planned of.is_place (limits_of plan) (scene_of plan journal) journal machines (kept_scene plan m rows of journal kept mark.unaltered)
    (record {
      copied = ap (λ (w : Work). w.copier.is_copied) same ∙ mark.copied;
      idle = ap (λ (w : Work). w.applier.step) same ∙ mark.idle;
      applied = ap (λ (w : Work). events_of m.name (drop w.applier.position (state_at plan journal).log)) same ∙ ap (λ (n : List ℕ). events_of n (drop mark.work.applier.position (state_at plan journal).log)) of.of.name ∙ mark.applied;
    }) (in_scene plan m at rows [] journal journal machines (was.goes.stands some.copier some.applier some.actor_states)) where
      same_work : (one other : Work) → Migrating one ≡ Migrating other → one ≡ other
      same_work one other same = cc
