-- Along the turns of the new tool each call may be made.
use Rattle.std.proofs.Common.{◌≡◌, Bool, true, false, List, [], ◌∷◌, ◌++◌, cond, Some, sym, ap, ◌∙◌, subst, append_assoc, append-nil}
use Rattle.std.specs.Prelude.{is_some}
use Rattle.std.proofs.Math.Seq.{drop-append_seam}
use Rattle.server_model.specs.Along.{Along, Along-more}
use Rattle.server_model.specs.declared.entry.Asked.TheVariants.{Call, Cut}
use Rattle.server_model.specs.declared.entry.Entry.{Entry}
use Rattle.server_model.specs.declared.request.Request.{Request}
use Rattle.server_model.specs.Conditions.{MayCall}
use Rattle.plan_data.specs.PlanData.{PlanData}
use Rattle.tool_program.specs.JournalWords.Journals.{opens, state_at, IsAnswered, IsFaithful}
use Rattle.tool_program.specs.JournalWords.Sessions.{IsSeated, KeepsSessions}
use Rattle.tool_finish.specs.declared.stage.Stage.TheVariants.{Losing, Listing}
use Rattle.tool_finish.specs.Finishes.{first_live, losing, next, stage_behind, IsFinish, IsFinishTurn}
use Rattle.tool_finish.proofs.Walking.{stage_more}
use Rattle.proof_journals.specs.Machine.Runnable.{IsRunnable}
use Rattle.proof_journals.specs.Plans.{IsSerialPlan}
use Rattle.proof_journals.specs.Run.Kept.{IsKept}
use Rattle.proof_journals.specs.ServerFacts.Invariants.{IsServing}
use Rattle.proof_journals.proofs.Ghost.Turns.{along_next}
use Rattle.proof_journals.proofs.Machine.Calling.{served_along}
use Rattle.proof_journals.proofs.Machine.Seated.{all_known, IsKnown}
use Rattle.proof_journals.proofs.ServerTurns.Agreements.{along_front}
use Rattle.proof_migration.proofs.HeldNames.Holders.{all_held_well}
use Rattle.proof_resume.specs.Finish.Callable.{FindsKeys, FinishesMayCall, LeavesTables}
use Rattle.proof_resume.proofs.Finish.Asks.{Asks}
use Rattle.proof_resume.proofs.Finish.Asks.Asks.{asks_call, asks_cut}
use Rattle.proof_resume.proofs.Finish.Calls.{serving_more, stage_at, stage_may, CallsAt}
use Rattle.proof_resume.proofs.Finish.Prompt.{alone_begins, alone_more, finish_turns, finishes_keep_sessions, GoesAlone}

module _ (plan : PlanData) (runs : IsRunnable plan) (run : List Entry) (kept : IsKept plan run) (keys : FindsKeys plan run) where
  -- *Each call may be made* behind these turns of the new tool
  pub record GoesCalled (turns : List Entry) : Type 0 where
    pub alone : GoesAlone plan run turns
    pub faithful : IsFaithful plan (run ++ turns)
    pub finish : IsFinish plan run turns
    pub serving : IsServing (state_at plan (run ++ turns))
    pub at : CallsAt plan runs run (run ++ turns) (stage_behind plan run turns)

  known_so : (turns : List Entry) → GoesCalled turns → IsKnown plan (run ++ turns)
  unfolding KeepsSessions
  known_so turns goes = all_known plan (run ++ turns) (served_along plan [] (run ++ turns) goes.faithful (finishes_keep_sessions plan run turns kept.sessions goes.finish))

  module _ (turns : List Entry) (entry : Entry) (turn : IsFinishTurn plan run (run ++ turns) entry) (goes : GoesCalled turns) where
    abbrev journal : List Entry
    journal = run ++ turns

    in_own : IsSeated journal entry
    in_own = record { session = turn.session }

    given : next plan journal (stage_behind plan run turns) ≡ Some (entry.actor, entry.asked)
    given = ap (λ (some : List Entry). next plan journal (stage_behind plan run some)) (sym (drop-append_seam run turns)) ∙ turn.given

    asks_now : Asks plan journal entry (known_so turns goes) in_own
    asks_now = stage_may plan runs run journal entry (known_so turns goes) in_own (stage_behind plan run turns) given goes.alone.stands goes.at

    may_now : (request : Request) → entry.asked ≡ Call request → MayCall (opens entry (state_at plan journal)) entry.session request
    may_now request called = by asks_now where
      by : Asks plan journal entry (known_so turns goes) in_own → MayCall (opens entry (state_at plan journal)) entry.session request
      by (asks_cut cut) = absurd (no (sym cut ∙ called)) where
        no : Cut ≡ Call request → ⊥
        no same = cc
      by (asks_call other is may) = let both : Call other ≡ Call request = sym is ∙ called in let same : other ≡ request = cc in subst (MayCall (opens entry (state_at plan journal)) entry.session) same may

    called_more : IsAnswered (state_at plan journal) entry → GoesCalled (turns ++ entry ∷ [])
    unfolding IsFinish
    called_more answered =
        let all : run ++ (turns ++ entry ∷ []) ≡ journal ++ entry ∷ [] = sym (append_assoc run turns (entry ∷ [])) in
        record {
          alone = (alone_more plan run turns entry turn answered goes.alone).goes;
          faithful = subst (IsFaithful plan) (sym all) (Along-more (λ before one. IsAnswered (state_at plan before) one) [] journal entry goes.faithful answered);
          finish = Along-more (IsFinishTurn plan run) run turns entry goes.finish turn;
          serving = subst (λ (j : List Entry). IsServing (state_at plan j)) (sym all) (serving_more plan runs run journal entry (known_so turns goes) in_own answered turn.side goes.serving asks_now);
          at =
              subst (λ (j : List Entry). CallsAt plan runs run j (stage_behind plan run (turns ++ entry ∷ []))) (sym all)
              (subst (CallsAt plan runs run (journal ++ entry ∷ [])) (sym (stage_more plan run turns entry))
              (stage_at plan runs run journal entry (known_so turns goes) in_own answered turn.side goes.serving (stage_behind plan run turns) given goes.alone.stands (λ found same off. keys turns found off goes.faithful goes.finish same) goes.at));
        }

  -- ALONG THE TURNS

  abbrev Turn : List Entry → Entry → Type 0
  Turn before entry = IsFinishTurn plan run before entry × IsAnswered (state_at plan before) entry

  all_called : (turns rest : List Entry) → Along Turn (run ++ turns) rest → GoesCalled turns → GoesCalled (turns ++ rest)
  all_called turns [] kept_turns goes = subst GoesCalled (sym (append-nil turns)) goes
  all_called turns (entry ∷ rest) kept_turns goes =
      subst GoesCalled (append_assoc turns (entry ∷ []) rest)
      (all_called (turns ++ entry ∷ []) rest (subst (λ (all : List Entry). Along Turn all rest) (append_assoc run turns (entry ∷ [])) kept_turns.1) (called_more turns entry kept_turns.0.0 goes kept_turns.0.1))

  called_begins : IsSerialPlan plan → LeavesTables plan run → GoesCalled []
  unfolding stage_behind IsFinish
  called_begins serial tables = record {
    alone = alone_begins plan run kept;
    faithful = subst (IsFaithful plan) (sym (append-nil run)) kept.faithful;
    finish = tt;
    serving = subst (λ (j : List Entry). IsServing (state_at plan j)) (sym (append-nil run)) (all_held_well plan run runs serial kept).serving;
    at = subst (λ (j : List Entry). CallsAt plan runs run j (losing plan run)) (sym (append-nil run)) (by (is_some (first_live plan run)));
  } where
    by : (live : Bool) → CallsAt plan runs run run (cond live Losing Listing)
    by true = tables
    by false = tables

  pub finish_called : IsSerialPlan plan → LeavesTables plan run → (turns : List Entry) → IsFinish plan run turns → IsFaithful plan (run ++ turns) → GoesCalled turns
  finish_called serial tables turns finish faithful = all_called [] turns (subst (λ (all : List Entry). Along Turn all turns) (sym (append-nil run)) (finish_turns plan run turns finish faithful)) (called_begins serial tables)

-- *Finishes may call*
pub finishes_may_call : FinishesMayCall
unfolding IsFinish
finishes_may_call plan run runs serial kept tables keys turns entry request faithful sessions finish called =
    let some : IsFinish plan run turns = along_front (IsFinishTurn plan run) run turns (entry ∷ []) finish in
    let goes : GoesCalled plan runs run kept keys turns = finish_called plan runs run kept keys serial tables turns some faithful in
    may_now plan runs run kept keys turns entry (along_next (IsFinishTurn plan run) run turns entry [] finish) goes request called
