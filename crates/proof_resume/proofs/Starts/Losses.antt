-- The losses: each leaves the tables and the log, and where all are done nobody is left.
use Rattle.std.proofs.Common.{◌≡◌, cond, not, List, [], ◌∷◌, ◌++◌, Option, Some, None, refl, sym, ap, ◌∙◌}
use Rattle.std.specs.Prelude.{is_some}
use Rattle.base_script.specs.declared.actor.Actor.{Actor}
use Rattle.base_script.specs.declared.actor.Actor.TheVariants.{Insp}
use Rattle.base_script.specs.declared.actor.Side.{Side}
use Rattle.server_model.specs.declared.entry.Asked.{Asked}
use Rattle.server_model.specs.declared.entry.Asked.TheVariants.{Cut}
use Rattle.server_model.specs.declared.entry.Entry.{Entry}
use Rattle.server_model.specs.Entries.{is_client, is_command}
use Rattle.server_model.specs.PlainServer.{leaves, loses}
use Rattle.server_model.specs.States.{State}
use Rattle.plan_data.specs.PlanData.{PlanData}
use Rattle.tool_program.specs.JournalWords.Journals.{IsFaithful, opens, state_at}
use Rattle.tool_program.specs.Programs.{Follows}
use Rattle.tool_finish.specs.Finishes.{first_live, losing}
use Rattle.tool_finish.specs.declared.stage.Stage.TheVariants.{Listing, Losing}
use Rattle.proof_journals.specs.Holdings.{stored}
use Rattle.proof_journals.specs.Ghost.Rows.Timelines.{Migration}
use Rattle.proof_journals.proofs.Journals.{stored_opened}
use Rattle.proof_journals.proofs.Machine.Seated.{state_more}
use Rattle.proof_journals.proofs.Run.Waits.{all_waits}
use Rattle.proof_migration.proofs.ToolPhase.Ready.Actors.{keeps_sessions}
use Rattle.proof_resume.specs.Starts.Beginnings.{IsUnchanged, KeepsAll, StageFinds, sessions_with}
use Rattle.proof_resume.proofs.Finish.Owners.{IsOwned, nobody_left, nobody_lives, owners_of}

-- *A loss between calls* leaves the tables and the log
pub cut_keeps : (plan : PlanData) (journal : List Entry) (entry : Entry) → entry.side ≡ None → entry.asked ≡ Cut → stored (state_at plan (journal ++ entry ∷ [])) ≡ stored (state_at plan journal)
unfolding loses
cut_keeps plan journal entry unlost cut =
    ap stored (state_more plan journal entry) ∙ ap (λ (s : Option Side). stored (leaves s (opens entry now) entry.session entry.asked)) unlost
    ∙ ap (λ (a : Asked). stored (leaves None (opens entry now) entry.session a)) cut ∙ stored_opened (is_command entry.asked) (not (is_client entry.actor)) entry.session now where
      now : State
      now = state_at plan journal

module _ (plan : PlanData) (m : Migration) (run journal : List Entry) (keeps : KeepsAll plan run journal) (faithful : IsFaithful plan journal) (follows : Follows plan journal) where
  abbrev state : State
  state = state_at plan journal

  owned : IsOwned plan journal state
  owned = (owners_of plan journal faithful (keeps_sessions plan journal follows) follows).owned

  left_unchanged : first_live plan journal ≡ None → IsUnchanged plan run journal
  left_unchanged none =
      let left = nobody_left plan journal state owned (all_waits plan journal faithful (keeps_sessions plan journal follows)) none in
      record { keeps = keeps; rest = record { waiting = left.1; sessions = left.0 ∙ ap sessions_with (sym (nobody_lives plan journal none state owned Insp)) } }

  -- *Losses leave nobody*
  pub losing_finds : StageFinds plan m run journal (losing plan journal)
  losing_finds = by (first_live plan journal) refl where
    by : (first : Option Actor) → first_live plan journal ≡ first → StageFinds plan m run journal (cond (is_some first) Losing Listing)
    by None none = left_unchanged none
    by (Some actor) is = (keeps, follows)
