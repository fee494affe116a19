-- What a run by workers leaves.
use Rattle.std.proofs.Common.{◌≡◌, ◌≤◌, ℕ, Bool, true, false, List, [], ◌++◌, length, take, drop, refl, sym, ap, ◌∙◌, subst, take_all, length-drop, arith}
use Rattle.std.proofs.Math.Seq.{take-append_seam, drop-append_seam}
use Rattle.std.proofs.lemmas.List.{drop_all, length-map}
use Rattle.server_model.specs.declared.entry.Entry.{Entry}
use Rattle.plan_data.specs.PlanData.{PlanData}
use Rattle.tool_program.specs.Orders.{WorkerTurn}
use Rattle.top_call.specs.PlanWorks.Works.{IsSoundRunByWorkers}
use Rattle.top_call.specs.Outcomes.{turns_of, IsRunTaken}
use Rattle.top_call.specs.ResumedRuns.{Resumes, finish_in, is_resumed, run_in}
use Rattle.proof_audit.proofs.Wholes.{run_whole}
use Rattle.top_call.proofs.ResumedRuns.{alone, resumed_full}

-- it has as many turns as its journal
pub same_turns : (plan : PlanData) (journal : List Entry) (turns : List WorkerTurn) (workers : ℕ) → IsSoundRunByWorkers plan journal turns workers → length turns ≤ length journal
same_turns plan journal turns workers run =
    let same : length turns ≡ length journal = sym (length-map turns (λ turn. turn.actor)) ∙ ap length run.order.actors ∙ length-map journal (λ entry. entry.actor) in
    subst (λ (count : ℕ). count ≤ length journal) (sym same) (omega arith)

-- where nothing is left behind so many, there are no more
drop_none : {X : Type 0} (n : ℕ) (xs : List X) → drop n xs ≡ [] → length xs ≤ n
drop_none n xs none = let all : length (drop n xs) ≡ 0 = ap length none in omega (arith, all, length-drop n xs)

-- *Whose turns they are*, where those of workers are told so, and a new tool's behind them
pub taken_by : (plan : PlanData) (turns all : List WorkerTurn) (journal : List Entry) (workers : ℕ) → turns ≡ all ++ turns_of (drop (length all) journal) → IsSoundRunByWorkers plan (run_in plan journal) all workers → Resumes plan journal → IsRunTaken workers plan turns journal
taken_by plan turns all journal workers turns_are run resumes = by (is_resumed plan (run_in plan journal)) refl
  where
    count_is : length all ≡ length (run_in plan journal)
    count_is = sym (length-map all (λ turn. turn.actor)) ∙ ap length run.order.actors ∙ length-map (run_in plan journal) (λ entry. entry.actor)

    is : take (length all) turns ≡ all
    is = ap (take (length all)) turns_are ∙ take-append_seam all (turns_of (drop (length all) journal))

    finish : drop (length all) turns ≡ turns_of (drop (length all) journal)
    finish = ap (drop (length all)) turns_are ∙ drop-append_seam all (turns_of (drop (length all) journal))

    at : take plan.options.turn_limit turns ≡ take (length all) turns → drop plan.options.turn_limit turns ≡ drop (length all) turns → finish_in plan journal ≡ drop (length all) journal → IsRunTaken workers plan turns journal
    at front back behind = record {
      run = subst (λ (each : List WorkerTurn). IsSoundRunByWorkers plan (run_in plan journal) each workers) (sym is ∙ sym front) run;
      resumes = resumes;
      turns_are = back ∙ finish ∙ ap turns_of (sym behind);
    }

    by : (b : Bool) → is_resumed plan (run_in plan journal) ≡ b → IsRunTaken workers plan turns journal
    by true resumed =
        let full : length all ≡ plan.options.turn_limit = count_is ∙ resumed_full plan (run_in plan journal) resumed run.sound.bound in
        at (ap (λ (n : ℕ). take n turns) (sym full)) (ap (λ (n : ℕ). drop n turns) (sym full)) (ap (λ (n : ℕ). drop n journal) (sym full))
    by false unresumed =
        let none : finish_in plan journal ≡ [] = alone plan journal resumes unresumed in
        let whole : run_in plan journal ≡ journal = run_whole plan journal none in
        let least : drop (length all) journal ≡ [] = drop_all (length all) journal (omega (arith, count_is, ap length whole)) in
        let ended : drop (length all) turns ≡ [] = finish ∙ ap turns_of least in
        let few : length turns ≤ length all = drop_none (length all) turns ended in
        let more : length turns ≤ plan.options.turn_limit = omega (arith, few, count_is, run.sound.bound) in
        at (take_all plan.options.turn_limit turns more ∙ sym (take_all (length all) turns few)) (drop_all plan.options.turn_limit turns more ∙ sym ended) (none ∙ sym least)
