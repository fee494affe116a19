-- *A worker's choice*: whose turn a worker takes, as the code looks for it, place by place of the actors' fixed order. (This
-- project's rule.)
use Rattle.std.specs.Prelude.{◌≡◌, ℕ, ◌+◌, ◌==◌, ◌%◌, Bool, true, false, ◌&&◌, not, if◌then◌else◌, List, drop, slice_set, Option}
use Rattle.std.specs.List.{list_any}
use Rattle.base_script.specs.declared.actor.Actor.{Actor}
use Rattle.server_model.specs.declared.entry.Entry.{Entry}
use Rattle.plan_data.specs.PlanData.{PlanData}
use Rattle.proof_journals.specs.Run.Kept.{IsKept}
use Rattle.proof_journals.specs.Machine.Runnable.{IsRunnable}
use Rattle.tool_program.specs.Verdicts.{has_ended}
use Rattle.tool_program.specs.Orders.{actors, is_ready, is_ready_waiting, may_go, may_go_idle, owned_from, owned, is_among, after_last}
use Rattle.run_workers.specs.declared.worker_run.members.Member.{Member}
use Rattle.run_workers.specs.declared.worker_run.choice.Wanted.{Wanted}
use Rattle.run_workers.specs.declared.worker_run.choice.Wanted.TheVariants.{Own, Idle, Waiting}

-- *Going plan*: a runnable one, of which someone is ready until a run of it has ended.
pub record IsGoing (plan : PlanData) : Type 0 where
  pub runs : IsRunnable plan
  pub goes : (journal : List Entry) → IsKept plan journal → has_ended plan journal ≡ false → list_any (is_ready plan journal) (actors plan) ≡ true

-- *Wanted*: an actor of the worker's own that may go; one of others that may and doesn't wait; one of others that waits, which no
-- replica holds back
abbrev pub is_wanted : Wanted → PlanData → List Entry → List Actor → Actor → Bool
is_wanted Own plan journal own actor = is_among actor own && may_go plan journal actor
is_wanted Idle plan journal own actor = not (is_among actor own) && may_go_idle plan journal actor
is_wanted Waiting plan journal own actor = not (is_among actor own) && is_ready_waiting plan journal actor

-- *Goes on from*: after the own actor that the worker took last, its own ones are those from this place of the fixed order on
abbrev pub GoesOnFrom : PlanData → ℕ → ℕ → ℕ → Option Actor → Type 0
GoesOnFrom plan count worker place last = after_last last (owned plan count worker) ≡ owned_from count worker place (drop place (actors plan))

-- the workers' places after a turn at this place: where it was the worker's own, and no loss between calls, its rotation goes
-- on from the next
abbrev pub places_after : List ℕ → Member → ℕ → Bool → List ℕ
places_after places member place cut = if not cut && place % member.workers == member.worker then slice_set places member.worker (place + 1) else places
