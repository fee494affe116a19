-- Nobody but the inspector holds the changelog or waits for it: what the inspector asks of it comes at once.
use Rattle.std.proofs.Common.{◌≡◌, ◌||◌, true, false, List, [], ◌∷◌, None, sym, ap, subst}
use Rattle.std.specs.List.{AllByRecursion}
use Rattle.std.specs.Str.{bytes_eq}
use Rattle.std.proofs.lemmas.Bool.{true≢false, or_left}
use Rattle.base_values.specs.ToolNames.{log_name, old_name}
use Rattle.base_script.specs.declared.actor.Actor.{Actor}
use Rattle.base_script.specs.declared.actor.Actor.TheVariants.{Op, Insp, Copy, Apply, Lock, Ren, Client}
use Rattle.server_model.specs.declared.entry.Entry.{Entry}
use Rattle.server_model.specs.declared.entry.Asked.TheVariants.{Call}
use Rattle.server_model.specs.declared.request.Request.{Request}
use Rattle.server_model.specs.Entries.{same_actor, is_command}
use Rattle.server_model.specs.States.{names_in}
use Rattle.plan_data.specs.PlanData.{PlanData}
use Rattle.tool_program.specs.JournalWords.Journals.{opens, state_at}
use Rattle.proof_journals.specs.Machine.Runnable.{IsRunnable}
use Rattle.proof_journals.specs.Machine.Standings.{free, standing_in, standing_of}
use Rattle.proof_journals.specs.Run.Kept.{IsKept}
use Rattle.server_model.proofs.LockedRows.Tests.{same_bytes}
use Rattle.proof_journals.proofs.Waiting.{IsDone}
use Rattle.proof_journals.proofs.Machine.Journals.{IsRun}
use Rattle.proof_migration.proofs.HeldNames.FreeNames.{IsAway, at_once, away_forbidden, away_free, free_name}
use Rattle.proof_migration.proofs.HeldNames.Holders.{IsHeldWell}
use Rattle.proof_migration.proofs.HeldNames.Unblocked.{IsFreeName}
use Rattle.proof_migration.proofs.ToolPhase.Owners.{together_owned}
use Rattle.proof_migration.proofs.ToolPhase.Unaltered.Away.{log_is_tool}

-- the changelog's name is free for the inspector
module _ (plan : PlanData) (runs : IsRunnable plan) (journal : List Entry) (entry : Entry) (kept : IsKept plan journal) (run : IsRun plan journal entry) (is : IsHeldWell plan journal) where
  operator_free : standing_of plan journal Op ≡ free
  operator_free = ap (standing_in (state_at plan journal)) (together_owned plan journal kept.faithful kept.follows).owned.operator

  forbidden : (bytes_eq (log_name plan.table) (log_name plan.table) || bytes_eq (log_name plan.table) (old_name plan.table)) ≡ true
  forbidden = or_left (bytes_eq (log_name plan.table) (log_name plan.table)) (bytes_eq (log_name plan.table) (old_name plan.table)) (same_bytes (log_name plan.table))

  pub log_away : (a : Actor) → same_actor a Insp ≡ false → IsAway plan journal is a (log_name plan.table)
  log_away (Client c) differ = away_forbidden plan journal is (Client c) (log_name plan.table) (log_is_tool plan.table)
  log_away Op differ = away_free plan journal is Op (log_name plan.table) operator_free
  log_away Insp differ = absurd (true≢false differ)
  log_away Copy differ = away_forbidden plan journal is Copy (log_name plan.table) forbidden
  log_away Apply differ = away_forbidden plan journal is Apply (log_name plan.table) forbidden
  log_away Lock differ = away_forbidden plan journal is Lock (log_name plan.table) (same_bytes (log_name plan.table))
  log_away Ren differ = away_forbidden plan journal is Ren (log_name plan.table) (same_bytes (log_name plan.table))

  -- *What the inspector asks of the changelog is answered at once*
  pub log_at_once : entry.actor ≡ Insp → (request : Request) → names_in request ≡ log_name plan.table ∷ [] → entry.asked ≡ Call request → entry.side ≡ None → IsDone entry.answer
  log_at_once same request names asks no_side =
      at_once plan runs journal entry kept run is Insp same (ap is_command asks) request asks no_side
      (subst (AllByRecursion (IsFreeName (opens entry (state_at plan journal)) entry.session)) (sym names) (free_name plan runs journal entry kept run is Insp same (ap is_command asks) (log_name plan.table) log_away, tt))
