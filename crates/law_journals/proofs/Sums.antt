-- The parts together, and what follows for a run's end.
use Rattle.std.proofs.Common.{◌≡◌, ◌≤◌, ◌<◌, ◌+◌, Bool, true, false, ◌||◌, List, [], ◌∷◌, ◌++◌, length, Option, Some, None, refl, subst, inl, inr, arith}
use Rattle.std.specs.Prelude.{is_some, unwrap_or}
use Rattle.std.specs.Option.{option_map}
use Rattle.std.specs.List.{list_any}
use Rattle.std.proofs.lemmas.Bool.{false≢true}
use Rattle.std.proofs.lemmas.List.{length_push}
use Rattle.base_script.specs.declared.actor.Actor.{Actor}
use Rattle.server_model.specs.declared.entry.Asked.{Asked}
use Rattle.server_model.specs.declared.entry.Entry.{Entry}
use Rattle.plan_data.specs.PlanData.{PlanData}
use Rattle.tool_program.specs.JournalWords.Journals.{state_at}
use Rattle.tool_program.specs.JournalWords.KeptPlans.{cut_due}
use Rattle.tool_program.specs.Orders.{actors, is_ready}
use Rattle.tool_program.specs.Programs.{given}
use Rattle.tool_program.specs.Verdicts.{has_ended}
use Rattle.proof_journals.specs.Run.Kept.{IsKept}
use Rattle.proof_plans.specs.ReadPlans.Laws.{WasRead, ReadPlansAreAlterable, ReadPlansAreRunnable, ReadPlansAreSerial}
use Rattle.proof_plans.specs.ReadPlans.Options.{ReadOptionsAllow}
use Rattle.proof_plans.specs.Complete.Laws.{SmoothRunsAreDone}
use Rattle.proof_plans.specs.Laws.{AcceptedRunsGoOn}
use Rattle.run_turns.specs.declared.due_turns.migration_run.turn.Turn.{Turn}
use Rattle.run_turns.specs.DueTurns.Due.{due, due_by, given_turn, own_turn, cut_turn, next_entry}
use Rattle.run_turns.specs.DueTurns.Laws.{DueTurnsAreKept}
use Rattle.proof_bounds.specs.Laws.{PartsMakeJournals, OperatorTurnsAreFew, ClientTurnsAreFew}
use Rattle.tool_program.specs.JournalWords.Bounds.{Measures, keys, measures, bound_of, bound}
use Rattle.proof_bounds.specs.Terms.{term_of}
use Rattle.proof_bounds.specs.Parts.{OfOperator, OfClients, OfSetup, OfChunks, OfBatches, OfAttempts, OfClearing}
use Rattle.proof_bounds.specs.Setups.{SetupTurnsAreFew}
use Rattle.proof_bounds.specs.Clearings.{ClearingTurnsAreFew}
use Rattle.proof_bounds.proofs.Going.{setups_go, clearings_go}
use Rattle.proof_bounds.proofs.AttemptTurns.NoteTurns.{notes_go_along}
use Rattle.proof_bounds.specs.AttemptTurns.Attempts.{AttemptTurnsAreFew}
use Rattle.proof_bounds.specs.Volumes.Laws.{ChunksAreFew, CommittedRowsAreFew, EventsAreFew, HintsAreFew}
use Rattle.proof_bounds.proofs.TaskTurns.BatchesGo.{ServerLaws}
use Rattle.proof_bounds.proofs.TaskTurns.Logs.{both_few}
use Rattle.proof_bounds.proofs.TaskTurns.Totals.{batches_stay, chunks_stay}
use Rattle.base_values.specs.Laws.{StoresAgain}
use Rattle.proof_journals.specs.ServerTurns.Others.{DefinitionsAreDone}
use Rattle.table_store.specs.Databases.{TableRows}
use Rattle.law_journals.specs.Bounds.{OperatorIsBounded, ClientsAreBounded, SetupIsBounded, AttemptsAreBounded, ClearingIsBounded, ChunksAreBounded, BatchesAreBounded, RunsAreBounded, AcceptedSmoothRunsAreDone, RoomyRunsEnd}

-- *The operator's part*
pub operator_bounded : OperatorTurnsAreFew → OperatorIsBounded
operator_bounded law plan journal was kept = law plan journal kept.planned

-- *The clients' part*
pub clients_bounded : ClientTurnsAreFew → ReadOptionsAllow → ReadPlansAreRunnable → ClientsAreBounded
clients_bounded law options runnable plan journal was kept =
    let allowed = options was.bytes plan was.is in
    law plan journal (record { client = allowed.client; tool = allowed.tool }) (runnable plan was).fitting.scripts kept.faithful kept.follows

-- *The setup's part, and what is cleared up*: both go on
pub setups_bounded : SetupTurnsAreFew → ReadPlansAreRunnable → ReadPlansAreSerial → SetupIsBounded
setups_bounded law runnable serial plan journal was kept = law plan journal kept.planned (setups_go plan journal (runnable plan was) (serial was.bytes plan was.is) kept)

pub clearings_bounded : ClearingTurnsAreFew → ReadOptionsAllow → ReadPlansAreRunnable → ReadPlansAreSerial → ClearingIsBounded
clearings_bounded law options runnable serial plan journal was kept =
    let allowed = options was.bytes plan was.is in
    law plan journal (record { client = allowed.client; tool = allowed.tool }) (runnable plan was).fitting.scripts kept.faithful kept.planned kept.follows (clearings_go plan journal (runnable plan was) (serial was.bytes plan was.is) kept)
    (notes_go_along plan journal allowed.notes (runnable plan was) (serial was.bytes plan was.is) kept)

-- *The attempts' part*
pub attempts_bounded : AttemptTurnsAreFew → ReadOptionsAllow → ReadPlansAreRunnable → ReadPlansAreSerial → AttemptsAreBounded
attempts_bounded law options runnable serial plan journal was kept =
    let allowed = options was.bytes plan was.is in
    law plan journal (record { client = allowed.client; tool = allowed.tool }) (record { some = allowed.tries; few = allowed.few; notes = allowed.notes }) (runnable plan was) (serial was.bytes plan was.is) kept

-- *The chunks' part*
pub chunks_bounded : StoresAgain → DefinitionsAreDone → CommittedRowsAreFew → ChunksAreFew → ReadOptionsAllow → ReadPlansAreRunnable → ReadPlansAreSerial → ChunksAreBounded
chunks_bounded again defined rows chunks options runnable serial plan journal was kept =
    let allowed = options was.bytes plan was.is in
    let runs = runnable plan was in
    let whole = serial was.bytes plan was.is in
    chunks_stay again defined plan runs whole (record { client = allowed.client; tool = allowed.tool }) allowed.tries
    (λ before one off table found. subst (λ (t : Option TableRows). length (unwrap_or (option_map (λ (other : TableRows). other.rows) t) []) ≤ keys (measures plan)) found (rows plan before runs whole one off))
    (λ before one off work eq. chunks plan before work runs whole one off eq) journal kept

-- *The batches' part*
pub batches_bounded : ServerLaws → EventsAreFew → HintsAreFew → ReadOptionsAllow → ReadPlansAreRunnable → ReadPlansAreSerial → ReadPlansAreAlterable → BatchesAreBounded
unfolding measures
batches_bounded laws events hints options runnable serial alterable plan journal was kept =
    let allowed = options was.bytes plan was.is in
    let runs = runnable plan was in
    let whole = serial was.bytes plan was.is in
    batches_stay laws plan (alterable was.bytes plan was.is) runs whole (record { client = allowed.client; tool = allowed.tool }) allowed.tries
    (λ before one off.
    let both = both_few plan.table (state_at plan before).log in
    let own = events plan before runs whole one off in
    let hinted = hints plan before allowed.tries allowed.notes runs whole one off in
    omega (arith, both, own, hinted)) journal kept

-- THE SUM

terms_sum : (m : Measures) → bound_of m ≡ term_of OfOperator m + term_of OfClients m + term_of OfSetup m + term_of OfChunks m + term_of OfBatches m + term_of OfAttempts m + term_of OfClearing m
unfolding bound_of term_of
terms_sum m = refl

-- the parts that are bounded, each by its law
pub record PartsAre : Type 0 where
  pub operator : OperatorIsBounded
  pub clients : ClientsAreBounded
  pub setup : SetupIsBounded
  pub attempts : AttemptsAreBounded
  pub clearing : ClearingIsBounded
  pub chunks : ChunksAreBounded
  pub batches : BatchesAreBounded

all_bounded : PartsMakeJournals → PartsAre → (plan : PlanData) (journal : List Entry) → WasRead plan → IsKept plan journal → length journal ≤ bound plan
all_bounded make parts plan journal was kept =
    let whole = terms_sum (measures plan) in
    let sum = make plan journal in
    let a = parts.operator plan journal was kept in
    let b = parts.clients plan journal was kept in
    let c = parts.setup plan journal was kept in
    let d = parts.chunks plan journal was kept in
    let e = parts.batches plan journal was kept in
    let f = parts.attempts plan journal was kept in
    let g = parts.clearing plan journal was kept in
    omega (arith, whole, sum, a, b, c, d, e, f, g)

-- ONE TURN MORE

some_of : {A : Type 0} (p : A → Bool) (xs : List A) → list_any p xs ≡ true → (x : A) × (p x ≡ true)
some_of p [] none = absurd (false≢true none)
some_of p (x ∷ xs) some = by (λ later. some_of p xs later) (p x) refl some where
  by : (list_any p xs ≡ true → (y : _) × (p y ≡ true)) → (b : Bool) → p x ≡ b → (b || list_any p xs) ≡ true → (y : _) × (p y ≡ true)
  by rest true is some = (x, is)
  by rest false is some = rest some

given_some : (plan : PlanData) (journal : List Entry) (actor : Actor) (asked : Option Asked) → is_some asked ≡ true → (turn : Turn) × (given_turn plan journal actor asked ≡ Some turn)
given_some plan journal actor None some = absurd (false≢true some)
given_some plan journal actor (Some asked) some = (own_turn plan journal actor asked, refl)

is_due : (plan : PlanData) (journal : List Entry) (actor : Actor) → is_ready plan journal actor ≡ true → (turn : Turn) × (due plan journal actor ≡ Some turn)
unfolding due
is_due plan journal actor ready = by (cut_due plan journal) where
  by : (cut : Option Actor) → (turn : Turn) × (due_by plan journal actor cut ≡ Some turn)
  by (Some other) = (cut_turn other, refl)
  by None = given_some plan journal actor (given plan journal actor) ready

-- *Runs are bounded*
pub runs_bounded : PartsMakeJournals → PartsAre → AcceptedRunsGoOn → DueTurnsAreKept → RunsAreBounded
runs_bounded make parts going kept_on plan journal was kept unended =
    let ready = some_of (is_ready plan journal) (actors plan) (going plan journal was kept unended) in
    let turn = is_due plan journal ready.0 ready.1 in
    let on = kept_on plan journal (state_at plan journal) ready.0 turn.0 kept (record { made = omega arith; same = refl }) turn.1 in
    let long = length_push journal (next_entry journal (state_at plan journal) turn.0) in
    let most = all_bounded make parts plan (journal ++ next_entry journal (state_at plan journal) turn.0 ∷ []) was on.kept in
    omega (arith, long, most)

-- THE END

pub smooth_done : SmoothRunsAreDone → ReadPlansAreRunnable → AcceptedSmoothRunsAreDone
smooth_done law runnable plan journal was kept smooth ended = let is = runnable plan was in law plan journal is.fitting is.stands kept.faithful kept.follows smooth ended

pub roomy_end : RunsAreBounded → RoomyRunsEnd
roomy_end bounded plan journal was kept room (inl ended) = ended
roomy_end bounded plan journal was kept room (inr full) = by (has_ended plan journal) refl where
  by : (b : Bool) → has_ended plan journal ≡ b → b ≡ true
  by true ended = refl
  by false unended = let less = bounded plan journal was kept unended in absurd (never less) where
    never : length journal < bound plan → ⊥
    never less = omega (arith, less, room, full)
