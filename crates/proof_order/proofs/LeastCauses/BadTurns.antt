-- What the tool makes of a turn in which a call or a session was lost, or a wait timed out.
use Rattle.std.proofs.Common.{◌≡◌, ◌⊎◌, ℕ, ◌+◌, Bool, true, cond, List, [], ◌∷◌, ◌++◌, length, Some, refl, sym, ap, ◌∙◌, subst, inl, inr}
use Rattle.base_script.specs.declared.actor.Actor.{Actor}
use Rattle.base_script.specs.declared.actor.Actor.TheVariants.{Op, Apply}
use Rattle.base_script.specs.declared.operator.OperatorWord.{OperatorWord}
use Rattle.server_model.specs.declared.answer.Answer.{Answer}
use Rattle.server_model.specs.declared.answer.Answer.TheVariants as answers
use Rattle.server_model.specs.declared.entry.Asked.{Asked}
use Rattle.server_model.specs.declared.entry.Asked.TheVariants.{Call, Poll, Command, Cut}
use Rattle.server_model.specs.declared.entry.Entry.{Entry}
use Rattle.server_model.specs.declared.outcome.Task.{Task}
use Rattle.server_model.specs.declared.outcome.Task.TheVariants as tasks
use Rattle.server_model.specs.declared.request.Request.{Request}
use Rattle.server_model.specs.PlainServer.{serves}
use Rattle.server_model.specs.States.{has_work}
use Rattle.plan_data.specs.PlanData.{PlanData}
use Rattle.tool_program.specs.JournalWords.Journals.{state_at, opens, may_lose}
use Rattle.tool_program.specs.CutoverCore.CutOvers.{is_bad}
use Rattle.tool_program.specs.Failures.{is_actor_of, is_at, IsTurn, IsBad, IsUndrained, IsFailedTry}
use Rattle.tool_program.specs.Programs.{IsGiven}
use Rattle.tool_program.specs.Tools.{Work, ToolPhase, Migrating, Tool, Moment, actor_took, turn_counts, drains, asked_took, took, moment}
use Rattle.proof_journals.proofs.Machine.Journals.{IsRun, IsTogether}
use Rattle.proof_journals.proofs.Machine.Seated.{IsServed, own_given}
use Rattle.proof_journals.proofs.Sentry.Inductions.{moment_more}
use Rattle.proof_migration.proofs.Attempt.Verdicts.Tries.{is_turn}
use Rattle.proof_migration.proofs.ToolPhase.Owners.{commands_operator}

-- the answer is a loss or a time-out, and a session that was lost between calls had work
pub record IsBadTurn (plan : PlanData) (journal : List Entry) (entry : Entry) : Type 0 where
  pub bad : is_bad entry.answer ≡ true
  pub work : entry.asked ≡ Cut → has_work (moment plan journal).server entry.session ≡ true

pub call_uncut : (request : Request) → Call request ≡ Cut → ⊥
call_uncut request same = cc

pub poll_uncut : Poll ≡ Cut → ⊥
poll_uncut same = cc

module _ (plan : PlanData) (journal : List Entry) (entry : Entry) (together : IsTogether plan journal) (run : IsRun plan journal entry) where
  abbrev more : List Entry
  more = journal ++ entry ∷ []

  abbrev now : Moment
  now = moment plan journal

  abbrev tool : Tool
  tool = record now.tool { turns = now.tool.turns + 1 }

  served : IsServed plan journal entry
  served = record { answered = run.answered; seated = record { session = run.followed.session } }

  pub final : (moment plan more).tool ≡ asked_took plan now.server entry entry.asked tool
  unfolding took
  final = ap (λ (m : Moment). m.tool) (moment_more plan journal entry)

  pub lost_at : entry.asked ≡ Cut → entry.answer ≡ answers.Lost
  lost_at cut =
      sym (own_given plan journal entry together.known served (run.answered.sides (ap may_lose cut))) ∙ ap (λ (a : Asked). (serves (opens entry (state_at plan journal)) entry.session a).answer) cut

  pub bad_turn : (turn : ℕ) → IsBad plan more turn entry now → IsBadTurn plan journal entry
  bad_turn turn (inl lost) = record { bad = ap is_bad lost.lost; work = lost.work }
  bad_turn turn (inr waited) = record { bad = ap is_bad waited.over; work = λ cut. absurd (no (sym (lost_at cut) ∙ waited.over)) } where
    no : answers.Lost ≡ answers.TimedOut plan.options.tool_wait → ⊥
    no same = cc

  pub not_command : (actor : Actor) → entry.actor ≡ actor → (actor ≡ Op → ⊥) → (word : OperatorWord) → entry.asked ≡ Command word → ⊥
  not_command actor who other word asks = other (sym who ∙ commands_operator plan journal entry.actor word (subst (IsGiven plan journal entry) asks run.followed.given))

  -- the tool after such a turn
  abbrev pub taken : Tool
  taken = actor_took plan entry.actor entry.answer now.tool.tool_phase tool

  pub lost_taken : IsBadTurn plan journal entry → entry.asked ≡ Cut → (moment plan more).tool ≡ taken
  lost_taken turn cut =
      final ∙ ap (λ (a : Asked). asked_took plan now.server entry a tool) cut ∙ ap (λ (b : Bool). cond b (actor_took plan entry.actor answers.Lost now.tool.tool_phase tool) tool) (turn.work cut)
      ∙ ap (λ (a : Answer). actor_took plan entry.actor a now.tool.tool_phase tool) (sym (lost_at cut))

  pub heard_taken : (entry.asked ≡ Cut → ⊥) → ((word : OperatorWord) → entry.asked ≡ Command word → ⊥) → (moment plan more).tool ≡ turn_counts plan entry.actor taken
  heard_taken uncut called = by entry.asked refl where
    by : (asked : Asked) → entry.asked ≡ asked → (moment plan more).tool ≡ turn_counts plan entry.actor taken
    by Cut asks = absurd (uncut asks)
    by (Command word) asks = absurd (called word asks)
    by (Call request) asks = final ∙ ap (λ (a : Asked). asked_took plan now.server entry a tool) asks
    by Poll asks = final ∙ ap (λ (a : Asked). asked_took plan now.server entry a tool) asks

  -- of an actor whose turns don't count for the drain
  took_plain : IsBadTurn plan journal entry → ((word : OperatorWord) → entry.asked ≡ Command word → ⊥) → ((t : Tool) → turn_counts plan entry.actor t ≡ t) → (moment plan more).tool ≡ taken
  took_plain turn called plain = by entry.asked refl where
    by : (asked : Asked) → entry.asked ≡ asked → (moment plan more).tool ≡ taken
    by Cut asks = lost_taken turn asks
    by (Command word) asks = absurd (called word asks)
    by (Call request) asks = heard_taken (λ cut. call_uncut request (sym asks ∙ cut)) called ∙ plain taken
    by Poll asks = heard_taken (λ cut. poll_uncut (sym asks ∙ cut)) called ∙ plain taken

  -- ... which is this one, in this phase
  pub took_by : (actor : Actor) → entry.actor ≡ actor → (actor ≡ Op → ⊥) → ((t : Tool) → turn_counts plan actor t ≡ t) → (tool_phase : ToolPhase) → now.tool.tool_phase ≡ tool_phase → IsBadTurn plan journal entry → (moment plan more).tool ≡ actor_took plan actor entry.answer tool_phase tool
  took_by actor who other plain tool_phase at turn =
      took_plain turn (not_command actor who other) (λ t. ap (λ (a : Actor). turn_counts plan a t) who ∙ plain t)
      ∙ ap (λ (a : Actor). actor_took plan a entry.answer now.tool.tool_phase tool) who ∙ ap (λ (p : ToolPhase). actor_took plan actor entry.answer p tool) at

  -- after the applier's turn the drain may count it too
  pub drained_so : (work : Work) → entry.actor ≡ Apply → now.tool.tool_phase ≡ Migrating work → (entry.asked ≡ Cut → ⊥)
      → (moment plan more).tool ≡ drains plan (actor_took plan Apply entry.answer (Migrating work) tool).tool_phase (actor_took plan Apply entry.answer (Migrating work) tool)
  drained_so work who at uncut =
      heard_taken uncut (not_command Apply who (λ same. cc)) ∙ ap (λ (a : Actor). turn_counts plan a (actor_took plan a entry.answer now.tool.tool_phase tool)) who
      ∙ ap (λ (p : ToolPhase). turn_counts plan Apply (actor_took plan Apply entry.answer p tool)) at

  -- A FAILED TRY

  -- why the task failed in this turn
  abbrev pub Why : ℕ → Task → Entry → Moment → Type 0
  Why turn task other moment = ((is_actor_of task other.actor ≡ true) × IsBad plan more turn other moment) ⊎ ((task ≡ tasks.CutOver) × IsUndrained plan more turn other moment)

  pub record IsLastTry (task : Task) : Type 0 where
    pub hand : is_at task entry.actor now.tool.tool_phase ≡ true
    pub why : Why tool.turns task entry now

  -- one of the last turn
  pub last_try : (task : Task) (turn : ℕ) → turn ≡ length journal + 1 → IsFailedTry plan more task turn → IsLastTry task
  last_try task turn same is = record {
    hand = subst (λ (e : Entry). is_at task e.actor now.tool.tool_phase ≡ true) entries (ap (λ (m : Moment). is_at task is.entry.actor m.tool.tool_phase) (sym moments) ∙ is.at);
    why = subst (λ (n : ℕ). Why n task entry now) (same ∙ sym turns) (subst (λ (m : Moment). Why turn task entry m) moments (subst (λ (e : Entry). Why turn task e is.before) entries is.why));
  } where
    turns : tool.turns ≡ length journal + 1
    turns = ap (λ (n : ℕ). n + 1) together.turns

    mine : IsTurn plan more turn entry now
    mine = is_turn plan journal entry turn same

    entries : is.entry ≡ entry
    entries = let both : Some is.entry ≡ Some entry = sym is.is.stands ∙ mine.stands in cc

    moments : is.before ≡ now
    moments = is.is.moment ∙ sym mine.moment
