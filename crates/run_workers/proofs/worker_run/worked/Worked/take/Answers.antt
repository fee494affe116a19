use Rattle.std.proofs.Common.{ℕ, Bool, true, false, List, Ok, Err, alloc_error, drop, length, refl, sym, ap, ◌∙◌, subst}
use Rattle.std.specs.Prelude.{vec_len, vec_capacity, slice_index}
use Rattle.std.proofs.lemmas.List.{take_at}
use Rattle.server_model.specs.Entries.{is_cut}
use Rattle.run_turns.specs.Runs.{RunView, is_over}
use Rattle.run_workers.specs.declared.worker_run.members.Member.{Member}
use Rattle.run_workers.specs.WorkerRun.Workers.{places_after}
use Rattle.run_workers.specs.WorkerRun.WorkedRuns.{listed, WorkedView, TakesOne, IsWorked}
use Rattle.run_workers.proofs.WorkerRun.Rotating.{length-places_after}
use Rattle.run_workers.proofs.WorkerRun.Working.{worked_more, takes_one, not_over, not_over_on, has_room, goes_from, finds_someone, takes_or_short}
use Rattle.run_workers.proofs.worker_run.worked.Worked.take.Goals as goal

pub returns-then-self-clause-over : goal.returns-then-self-clause-over
returns-then-self-clause-over g c =
    not_over_on c.self.inside.feed.run c.self.inside.workers c.self.inside.turns.items (vec_len c.self.inside.turns) (vec_capacity c.self.inside.turns) c.self.inside.places.items c.self.inside.is_short c.self.invariant c.args.self.now (Err alloc_error) c.self.view_is (not_over (Err alloc_error) refl) (ap (λ (r : RunView). is_over r.plan r.journal) (sym c.run.ensures) ∙ sym c.is_over.ensures.over ∙ c.if-is_over.false)

pub unreachable-requires : goal.unreachable-requires
unreachable-requires g c =
    let now : RunView = c.choose.new.self.run in
    let is = subst (λ (run : RunView). IsWorked run c.self.inside.workers c.self.inside.turns.items (vec_len c.self.inside.turns) (vec_capacity c.self.inside.turns) c.self.inside.places.items c.self.inside.is_short) (sym c.choose.ensures.run) c.self.invariant in
    finds_someone now c.self.inside.workers c.self.inside.turns.items (vec_len c.self.inside.turns) (vec_capacity c.self.inside.turns) c.self.inside.places.items c.self.inside.is_short is c.args.worker
    c.place_from-from.result (c.place_from-from.ensures ∙ ap (λ (all : List ℕ). slice_index all c.args.worker) c.as_slice.ensures.value) (ap (λ (r : RunView). is_over r.plan r.journal) (c.choose.ensures.run ∙ sym c.run.ensures) ∙ sym c.is_over.ensures.over ∙ c.if-is_over.false) c.pick.result c.in_default.is c.pick.ensures.picked

pub note-requires-clause-room : goal.note-requires-clause-room
note-requires-clause-room g c =
    has_room c.self.inside.feed.run c.self.inside.workers c.self.inside.turns.items (vec_len c.self.inside.turns) (vec_capacity c.self.inside.turns) c.self.inside.places.items c.self.inside.is_short c.self.invariant (ap (λ (r : RunView). is_over r.plan r.journal) (sym c.run.ensures) ∙ sym c.is_over.ensures.over ∙ c.if-is_over.false)

pub invariant_of-self : goal.invariant_of-self
invariant_of-self g c =
    let now : RunView = c.choose.new.self.run in
    let member : Member = record { workers = c.self.inside.workers; worker = c.args.worker } in
    let old = subst (λ (run : RunView). IsWorked run c.self.inside.workers c.self.inside.turns.items (vec_len c.self.inside.turns) (vec_capacity c.self.inside.turns) c.self.inside.places.items false) (sym c.choose.ensures.run) (subst (IsWorked c.self.inside.feed.run c.self.inside.workers c.self.inside.turns.items (vec_len c.self.inside.turns) (vec_capacity c.self.inside.turns) c.self.inside.places.items) c.if-self.false c.self.invariant) in
    let at = c.place_from-from.ensures ∙ ap (λ (all : List ℕ). slice_index all c.args.worker) c.as_slice.ensures.value in
    let goes = goes_from now c.self.inside.workers c.self.inside.turns.items (vec_len c.self.inside.turns) (vec_capacity c.self.inside.turns) c.self.inside.places.items false old c.args.worker c.place_from-from.result at in
    let whole = take_at c.note.new.places (drop (length c.note.new.places) c.self.inside.places.items) c.self.inside.places.len
    (ap length c.note.ensures.places ∙ length-places_after c.as_mut_slice.result.now member c.in-Some.candidate.place (is_cut c.last_entry-entry.result.now.asked) ∙ c.as_mut_slice.ensures.len) in
    let moves = whole ∙ c.note.ensures.places ∙ ap (λ (all : List ℕ). places_after all member c.in-Some.candidate.place (is_cut c.last_entry-entry.result.now.asked)) c.as_mut_slice.ensures.value in
    subst
    (IsWorked c.step.new.self.run c.self.inside.workers c.note.new.turns.items (vec_len c.note.new.turns) (vec_capacity c.note.new.turns) _) (sym c.if-self.false)
    (worked_more now c.self.inside.workers c.args.worker c.self.inside.turns.items (vec_len c.self.inside.turns) (vec_capacity c.self.inside.turns) c.self.inside.places.items old c.step.new.self.run c.in-Some.candidate.place c.in-Some.candidate.actor
    c.in-Some.ensures.candidate c.in-Took.ensures.run.0.1 (ap (λ (r : RunView). is_over r.plan r.journal) (c.choose.ensures.run ∙ sym c.run.ensures) ∙ sym c.is_over.ensures.over ∙ c.if-is_over.false) (c.in-Some.ensures.picked _ goes) c.last_entry-entry.result.now c.last_entry-entry.ensures c.note.new.turns.items (vec_len c.note.new.turns)
    (vec_capacity c.note.new.turns) _ c.note.ensures.turns c.note.ensures.count c.note.ensures.room moves)

pub unreachable-requires-in-Idle : goal.unreachable-requires-in-Idle
unreachable-requires-in-Idle g c = takes_or_short c.choose.new.self.run c.in-Some.candidate.actor c.step.result c.step.new.self.run c.step.ensures.run (ap (λ (r : RunView). is_over r.plan r.journal) (c.choose.ensures.run ∙ sym c.run.ensures) ∙ sym c.is_over.ensures.over ∙ c.if-is_over.false) c.in-Some.ensures.goes c.in-Idle.is

pub returns-in-Took-clause-over : goal.returns-in-Took-clause-over
returns-in-Took-clause-over g c =
    not_over_on c.self.inside.feed.run c.self.inside.workers c.self.inside.turns.items (vec_len c.self.inside.turns) (vec_capacity c.self.inside.turns) c.self.inside.places.items c.self.inside.is_short c.self.invariant c.args.self.now (Ok true) c.self.view_is (not_over (Ok true) refl) (ap (λ (r : RunView). is_over r.plan r.journal) (sym c.run.ensures) ∙ sym c.is_over.ensures.over ∙ c.if-is_over.false)

pub returns-in-Took-clause-works : goal.returns-in-Took-clause-works
returns-in-Took-clause-works g c =
    let now : RunView = c.choose.new.self.run in
    let old = subst (λ (run : RunView). IsWorked run c.self.inside.workers c.self.inside.turns.items (vec_len c.self.inside.turns) (vec_capacity c.self.inside.turns) c.self.inside.places.items false) (sym c.choose.ensures.run) (subst (IsWorked c.self.inside.feed.run c.self.inside.workers c.self.inside.turns.items (vec_len c.self.inside.turns) (vec_capacity c.self.inside.turns) c.self.inside.places.items) c.if-self.false c.self.invariant) in
    let at = c.place_from-from.ensures ∙ ap (λ (all : List ℕ). slice_index all c.args.worker) c.as_slice.ensures.value in
    let goes = goes_from now c.self.inside.workers c.self.inside.turns.items (vec_len c.self.inside.turns) (vec_capacity c.self.inside.turns) c.self.inside.places.items false old c.args.worker c.place_from-from.result at in
    let view = λ (run : RunView) (short : Bool). let one : WorkedView = record { plan = run.plan; workers = c.self.inside.workers; list = listed c.self.inside.turns.items run.journal; is_short = short } in one in
    let left = λ (short : Bool).
    let one : WorkedView = record { plan = c.step.new.self.run.plan; workers = c.self.inside.workers; list = listed c.note.new.turns.items c.step.new.self.run.journal; is_short = short } in
    one in
    subst (λ (short : Bool). TakesOne c.args.self.now c.args.worker (left short)) (sym c.if-self.false)
    (takes_one now c.self.inside.workers c.args.worker c.self.inside.turns.items (vec_len c.self.inside.turns) (vec_capacity c.self.inside.turns) c.self.inside.places.items old c.step.new.self.run c.in-Some.candidate.place c.in-Some.candidate.actor
    c.in-Some.ensures.candidate c.in-Took.ensures.run.0.1 (ap (λ (r : RunView). is_over r.plan r.journal) (c.choose.ensures.run ∙ sym c.run.ensures) ∙ sym c.is_over.ensures.over ∙ c.if-is_over.false) (c.in-Some.ensures.picked _ goes) c.last_entry-entry.result.now c.last_entry-entry.ensures c.note.new.turns.items c.note.ensures.turns
    c.args.self.now (ap (λ (run : RunView). view run false) c.choose.ensures.run ∙ ap (view c.self.inside.feed.run) (sym c.if-self.false) ∙ c.self.view_is))

pub returns-in-NoMemory-clause-over : goal.returns-in-NoMemory-clause-over
returns-in-NoMemory-clause-over g c =
    not_over_on c.self.inside.feed.run c.self.inside.workers c.self.inside.turns.items (vec_len c.self.inside.turns) (vec_capacity c.self.inside.turns) c.self.inside.places.items c.self.inside.is_short c.self.invariant c.args.self.now (Err alloc_error) c.self.view_is (not_over (Err alloc_error) refl) (ap (λ (r : RunView). is_over r.plan r.journal) (sym c.run.ensures) ∙ sym c.is_over.ensures.over ∙ c.if-is_over.false)
