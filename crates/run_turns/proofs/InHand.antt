-- A loss at a call strikes one turn at most: so there is a RENAME in hand for each turn that is lost before its call.
use Rattle.std.proofs.Common.{◌≡◌, ◌≤◌, ◌<◌, ℕ, ◌+◌, Bool, true, false, cond, not, ◌&&◌, All, List, [], ◌∷◌, ◌++◌, length, map, drop, get_or, suc, Option, Some, None, refl, sym, ap, ◌∙◌, subst, append_assoc, arith}
use Rattle.std.specs.Prelude.{count_by, nat_lt, ◌==◌}
use Rattle.std.proofs.lemmas.Bool.{true≢false, false≢true, and_parts}
use Rattle.std.proofs.lemmas.Bool.Decides.{nat_tests}
use Rattle.std.proofs.Math.Seq.{drop-cons}
use Rattle.std.proofs.lemmas.List.{length-map, length_push}
use Rattle.std.proofs.lemmas.List.Elements.{All-map, All-pop}
use Rattle.std.proofs.lemmas.List.Sums.{sum_by-cons, sum_by_push, sum_by-le-sum_by, count_by-le-length}
use Rattle.base_script.specs.declared.actor.Actor.{Actor}
use Rattle.base_script.specs.declared.actor.Actor.TheVariants.{Op, Insp, Copy, Apply, Lock, Ren, Client}
use Rattle.base_script.specs.declared.actor.Side.{Side}
use Rattle.base_script.specs.declared.actor.Side.TheVariants.{Before}
use Rattle.base_script.specs.declared.loss.Loss.{Loss}
use Rattle.base_script.specs.declared.loss.Loss.TheVariants.{Nth, Turn as AtTurn}
use Rattle.base_script.specs.declared.statement.Statement.TheVariants as statements
use Rattle.server_model.specs.declared.answer.Answer.TheVariants as answers
use Rattle.server_model.specs.declared.entry.Asked.{Asked}
use Rattle.server_model.specs.declared.entry.Asked.TheVariants.{Call}
use Rattle.server_model.specs.declared.entry.Entry.{Entry}
use Rattle.server_model.specs.declared.request.Request.{Request}
use Rattle.server_model.specs.declared.request.Request.TheVariants as requests
use Rattle.server_model.specs.Entries.{same_actor, is_cut}
use Rattle.server_model.specs.LostCalls.{lost_in}
use Rattle.server_model.specs.States.{State}
use Rattle.plan_data.specs.PlanData.{PlanData}
use Rattle.tool_program.specs.ChunkCopier.CopyCalls.{asked_in as copier_asks}
use Rattle.tool_program.specs.CutoverCore.Attempts.{exchange}
use Rattle.tool_program.specs.EventApplier.Appliers as appliers
use Rattle.tool_program.specs.FreeCalls.{is_freely_asked}
use Rattle.tool_program.specs.JournalWords.Journals.{turns_of}
use Rattle.tool_program.specs.JournalWords.KeptPlans.{struck_by, struck_among, side_due, or_first}
use Rattle.tool_program.specs.JournalWords.Sessions.{live_session}
use Rattle.tool_program.specs.ToolSetup.Meanings.{asked_in as setup_asks}
use Rattle.tool_program.specs.Tools as program
use Rattle.tool_program.specs.Tools.{Migrating, moment}
use Rattle.tool_program.specs.declared.chunk_copier.calls.CopyCall.{CopyCall}
use Rattle.tool_program.specs.declared.chunk_copier.calls.CopyCall.TheVariants as copiers
use Rattle.tool_program.specs.declared.chunk_copier.copier.Copier.{Copier}
use Rattle.tool_program.specs.declared.cutover_core.calls.CutOverCall.TheVariants as cutovers
use Rattle.tool_program.specs.declared.event_applier.applier.Applier.{Applier}
use Rattle.tool_program.specs.declared.event_applier.applier.ApplyStep.{ApplyStep}
use Rattle.tool_program.specs.declared.event_applier.applier.ApplyStep.TheVariants as batches
use Rattle.tool_program.specs.declared.tool_setup.setup.Setup.{Setup}
use Rattle.tool_program.specs.declared.tool_setup.setup.Setup.TheVariants as setups
use Rattle.tool_program.proofs.OnlineCalls.Machines.{ToolPhaseIsNamed, named}
use Rattle.tool_state.specs.ToolState.Meanings.{work_of, tool_phase_in}
use Rattle.tool_state.specs.ToolState.Sound.{IsFresh}
use Rattle.tool_state.specs.declared.next_call.NextCall.TheVariants as calls
use Rattle.proof_journals.proofs.Actors.{same_actor_itself, same_actor_is}
use Rattle.run_actors.specs.declared.client_turns.requests.ClientCall.TheVariants as clients
use Rattle.base_script.specs.declared.script.ScriptWord.{ScriptWord}
use Rattle.base_script.specs.declared.script.ScriptWord.TheVariants as words
use Rattle.tool_program.specs.JournalWords.Clients.{word_asks}
use Rattle.run_state.specs.Books.{IsRunState}
use Rattle.run_state.specs.NextAsked.{asked_of}
use Rattle.run_state.specs.declared.next_asked.NextAsked.{NextAsked}
use Rattle.run_state.specs.declared.next_asked.NextAsked.TheVariants as nexts
use Rattle.run_state.specs.declared.run_state.RunState.{RunState}
use Rattle.run_turns.specs.declared.due_turns.migration_run.turn.Turn.{Turn}
use Rattle.run_turns.specs.DueTurns.Due.{own_turn, next_entry}
use Rattle.run_turns.specs.DueTurns.MigrationRun.FreeTurns.{is_free_turn}
use Rattle.run_turns.specs.DueTurns.MigrationRun.ServerTurns.{entry_on}
use Rattle.run_turns.specs.InHand.{is_exchange, is_rename, is_left, HasRenames, AreLeft}

-- COUNTING

module _ (p q : Loss → Bool) (grows : (loss : Loss) → p loss ≡ true → q loss ≡ true) where
  weight_grows : (loss : Loss) → cond (p loss) 1 0 ≤ cond (q loss) 1 0
  weight_grows loss = by (p loss) refl where
    by : (b : Bool) → p loss ≡ b → cond b 1 0 ≤ cond (q loss) 1 0
    by true is = subst (λ (c : Bool). 1 ≤ cond c 1 0) (sym (grows loss is)) (omega arith)
    by false is = omega arith

  all_grow : (xs : List Loss) → count_by p xs ≤ count_by q xs
  all_grow xs = sum_by-le-sum_by (λ (loss : Loss). cond (p loss) 1 0) (λ (loss : Loss). cond (q loss) 1 0) xs weight_grows

  one_more : (loss : Loss) (xs : List Loss) → p loss ≡ false → q loss ≡ true → count_by p (loss ∷ xs) + 1 ≤ count_by q (loss ∷ xs)
  one_more loss xs was is =
      let a : count_by p (loss ∷ xs) ≡ 0 + count_by p xs = sum_by-cons (λ (l : Loss). cond (p l) 1 0) loss xs ∙ ap (λ (b : Bool). cond b 1 0 + count_by p xs) was in
      let b : count_by q (loss ∷ xs) ≡ 1 + count_by q xs = sum_by-cons (λ (l : Loss). cond (q l) 1 0) loss xs ∙ ap (λ (c : Bool). cond c 1 0 + count_by q xs) is in
      let c = all_grow xs in
      omega (arith, a, b, c)

  later_more : (loss : Loss) (xs : List Loss) → count_by p xs + 1 ≤ count_by q xs → count_by p (loss ∷ xs) + 1 ≤ count_by q (loss ∷ xs)
  later_more loss xs more =
      let a = sum_by-cons (λ (l : Loss). cond (p l) 1 0) loss xs in
      let b = sum_by-cons (λ (l : Loss). cond (q l) 1 0) loss xs in
      let c = weight_grows loss in
      omega (arith, a, b, c, more)

-- ONE TURN

struck_is : (actor other : Actor) (n number : ℕ) (at_side first : Side) → struck_by actor number (Nth other n at_side) ≡ Some first → cond (same_actor other actor && (n == number)) (Some at_side) None ≡ Some first
struck_is Op other n number at_side first some = absurd cc
struck_is Insp other n number at_side first some = some
struck_is Copy other n number at_side first some = some
struck_is Apply other n number at_side first some = some
struck_is Lock other n number at_side first some = some
struck_is Ren other n number at_side first some = some
struck_is (Client c) other n number at_side first some = some

turn_never : (actor : Actor) (turn : ℕ) (other : Actor) (number : ℕ) (first : Side) → struck_by actor number (AtTurn turn other) ≡ Some first → ⊥
turn_never Op turn other number first some = cc
turn_never Insp turn other number first some = cc
turn_never Copy turn other number first some = cc
turn_never Apply turn other number first some = cc
turn_never Lock turn other number first some = cc
turn_never Ren turn other number first some = cc
turn_never (Client c) turn other number first some = cc

turns_more : (actor : Actor) (journal : List Entry) (entry : Entry) → turns_of actor (journal ++ entry ∷ []) ≡ turns_of actor journal + cond (same_actor entry.actor actor && not (is_cut entry.asked)) 1 0
turns_more actor journal entry = sum_by_push (λ (one : Entry). cond (same_actor one.actor actor && not (is_cut one.asked)) 1 0) journal entry

own_turns : (journal : List Entry) (entry : Entry) → is_cut entry.asked ≡ false → turns_of entry.actor (journal ++ entry ∷ []) ≡ turns_of entry.actor journal + 1
own_turns journal entry uncut =
    turns_more entry.actor journal entry ∙ ap (λ (b : Bool). turns_of entry.actor journal + cond (b && not (is_cut entry.asked)) 1 0) (same_actor_itself entry.actor) ∙ ap (λ (b : Bool). turns_of entry.actor journal + cond (not b) 1 0) uncut

lt_less : (n a b : ℕ) → a ≤ b → nat_lt b n ≡ true → nat_lt a n ≡ true
lt_less n a b less is = grind (arith, nat_tests, less, is)

comes_next : (n a : ℕ) → (n == a + 1) ≡ true → nat_lt a n ≡ true
comes_next n a is = grind (arith, nat_tests, is)

came_last : (n a b : ℕ) → (n == a + 1) ≡ true → b ≡ a + 1 → nat_lt b n ≡ false
came_last n a b is same = grind (arith, nat_tests, is, same)

module _ (before : List Entry) (entry : Entry) where
  abbrev more : List Entry
  more = before ++ entry ∷ []

  stays_left : (loss : Loss) → is_left more loss ≡ true → is_left before loss ≡ true
  stays_left (AtTurn number actor) is = absurd (false≢true is)
  stays_left (Nth actor n side) is = let t = turns_more actor before entry in lt_less n (turns_of actor before) (turns_of actor more) (omega (arith, t)) is

  pub left_falls : (losses : List Loss) → count_by (is_left more) losses ≤ count_by (is_left before) losses
  left_falls losses = all_grow (is_left more) (is_left before) stays_left losses

  abbrev next : ℕ
  next = turns_of entry.actor before + 1

  abbrev Struck : Loss → Type 0
  Struck loss = (is_left more loss ≡ false) × (is_left before loss ≡ true)

  nth_struck : is_cut entry.asked ≡ false → (other : Actor) (n : ℕ) (at_side first : Side) → cond (same_actor other entry.actor && (n == next)) (Some at_side) None ≡ Some first → Struck (Nth other n at_side)
  nth_struck uncut other n at_side first some = at (same_actor other entry.actor && (n == next)) refl some where
    at : (b : Bool) → (same_actor other entry.actor && (n == next)) ≡ b → cond b (Some at_side) None ≡ Some first → Struck (Nth other n at_side)
    at true is some =
        let who : other ≡ entry.actor = same_actor_is other entry.actor (and_parts (same_actor other entry.actor) (n == next) is).0 in
        let same : (n == next) ≡ true = (and_parts (same_actor other entry.actor) (n == next) is).1 in
        subst (λ (a : Actor). Struck (Nth a n at_side)) (sym who)
        (came_last n (turns_of entry.actor before) (turns_of entry.actor more) same (own_turns before entry uncut), comes_next n (turns_of entry.actor before) same)
    at false off some = absurd cc

  struck : is_cut entry.asked ≡ false → (loss : Loss) (first : Side) → struck_by entry.actor next loss ≡ Some first → Struck loss
  struck uncut (AtTurn turn other) first some = absurd (turn_never entry.actor turn other next first some)
  struck uncut (Nth other n at_side) first some = nth_struck uncut other n at_side first (struck_is entry.actor other n next at_side first some)

  -- a loss that strikes is left no more
  pub left_less : is_cut entry.asked ≡ false → (losses : List Loss) (side : Side) → struck_among entry.actor next losses ≡ Some side → count_by (is_left more) losses + 1 ≤ count_by (is_left before) losses
  unfolding struck_among
  left_less uncut [] side none = absurd cc
  left_less uncut (loss ∷ losses) side is = by (λ rest. left_less uncut losses side rest) (struck_by entry.actor next loss) refl is where
    by : (struck_among entry.actor next losses ≡ Some side → count_by (is_left more) losses + 1 ≤ count_by (is_left before) losses) → (first : Option Side) → struck_by entry.actor next loss ≡ first → or_first first (struck_among entry.actor next losses) ≡ Some side
        → count_by (is_left more) (loss ∷ losses) + 1 ≤ count_by (is_left before) (loss ∷ losses)
    by later None none rest = later_more (is_left more) (is_left before) stays_left loss losses (later rest)
    by later (Some first) some rest = let t = struck uncut loss first some in one_more (is_left more) (is_left before) stays_left loss losses t.0 t.1

-- THE RENAMES

pub has_first : (plan : PlanData) (renames : List Request) → renames ≡ map (λ (loss : Loss). exchange plan.table) plan.faults → HasRenames plan [] renames
has_first plan renames are = subst (HasRenames plan []) (sym are) (record {
  exchanges = All-map (λ (request : Request). request ≡ exchange plan.table) (λ (loss : Loss). exchange plan.table) plan.faults (λ k d less. refl);
  enough = let many : length (map (λ (loss : Loss). exchange plan.table) plan.faults) ≡ length plan.faults = length-map plan.faults (λ (loss : Loss). exchange plan.table) in let most = count_by-le-length (is_left []) plan.faults in omega (arith, many, most);
})

-- one that is made more
left_at : (losses : List Loss) (place : ℕ) → place < length losses → drop place losses ≡ get_or losses place (AtTurn 0 Op) ∷ drop (place + 1) losses
left_at losses place less = let next : suc place ≡ place + 1 = omega arith in drop-cons losses place (AtTurn 0 Op) less ∙ ap (λ (n : ℕ). get_or losses place (AtTurn 0 Op) ∷ drop n losses) next

pub made_more : (table : List ℕ) (losses : List Loss) (place : ℕ) (old new : List Request) (rename : Request) → place < length losses → rename ≡ exchange table → new ≡ old ++ rename ∷ [] → old ++ map (λ (loss : Loss). exchange table) (drop place losses) ≡ map (λ (loss : Loss). exchange table) losses
    → new ++ map (λ (loss : Loss). exchange table) (drop (place + 1) losses) ≡ map (λ (loss : Loss). exchange table) losses
made_more table losses place old new rename less is grown so_far =
    ap (λ (made : List Request). made ++ map (λ (loss : Loss). exchange table) (drop (place + 1) losses)) (grown ∙ ap (λ (one : Request). old ++ one ∷ []) is)
    ∙ append_assoc old (exchange table ∷ []) (map (λ (loss : Loss). exchange table) (drop (place + 1) losses))
    ∙ ap (λ (rest : List Loss). old ++ map (λ (loss : Loss). exchange table) rest) (sym (left_at losses place less))
    ∙ so_far

pub has_after : (plan : PlanData) (journal : List Entry) (entry : Entry) (renames : List Request) → HasRenames plan journal renames → HasRenames plan (journal ++ entry ∷ []) renames
has_after plan journal entry renames has = record { exchanges = has.exchanges; enough = let less = left_falls journal entry plan.faults in let enough = has.enough in omega (arith, less, enough) }

-- where none is taken out
pub all_left : (plan : PlanData) (journal : List Entry) (server : State) (turn : Turn) (renames : List Request) → HasRenames plan journal renames → AreLeft plan journal server turn renames
all_left plan journal server turn renames has = record { taken = λ entry own asks. has_after plan journal entry renames has; still = λ costs. has }

-- where one is
after_one : (plan : PlanData) (journal : List Entry) (entry : Entry) (old new : List Request) (one : Request) → HasRenames plan journal old → old ≡ new ++ one ∷ [] → side_due plan journal entry.actor ≡ Some Before → is_cut entry.asked ≡ false → HasRenames plan (journal ++ entry ∷ []) new
after_one plan journal entry old new one has popped struck uncut =
    let less : count_by (is_left (journal ++ entry ∷ [])) plan.faults + 1 ≤ count_by (is_left journal) plan.faults = left_less journal entry uncut plan.faults Before struck in
    let many : length old ≡ length new + 1 = ap (λ (all : List Request). length all) popped ∙ length_push new one in
    let enough = has.enough in
    record { exchanges = (All-pop (λ (request : Request). request ≡ exchange plan.table) old new (Some one) popped has.exchanges).0; enough = omega (arith, less, many, enough) }

pub one_left : (plan : PlanData) (journal : List Entry) (server : State) (turn : Turn) (old new : List Request) (one : Request) → HasRenames plan journal old → old ≡ new ++ one ∷ [] → side_due plan journal turn.actor ≡ Some Before → is_cut turn.asked ≡ false
    → is_free_turn server (live_session journal turn.actor) turn ≡ true → AreLeft plan journal server turn new
one_left plan journal server turn old new one has popped struck uncut free = record {
  taken = λ entry own asks. after_one plan journal entry old new one has popped (ap (side_due plan journal) own ∙ struck) (ap is_cut asks ∙ uncut);
  still = λ costs. absurd (false≢true (sym costs ∙ free));
}

-- the turn, by its parts
pub left_same : (plan : PlanData) (journal : List Entry) (server : State) (actor : Actor) (side : Option Side) (asked given : Asked) (renames : List Request) → side ≡ side_due plan journal actor → given ≡ asked → AreLeft plan journal server (own_turn plan journal actor asked) renames
    → AreLeft plan journal server (record { actor = actor; side = side; asked = given }) renames
left_same plan journal server actor side asked given renames struck same left =
    subst (λ (s : Option Side). AreLeft plan journal server (record { actor = actor; side = s; asked = given }) renames) (sym struck)
    (subst (λ (a : Asked). AreLeft plan journal server (record { actor = actor; side = side_due plan journal actor; asked = a }) renames) (sym same) left)

pub one_is : (plan : PlanData) (journal : List Entry) (old new : List Request) (one : Request) → HasRenames plan journal old → old ≡ new ++ one ∷ [] → one ≡ exchange plan.table
one_is plan journal old new one has popped = (All-pop (λ (request : Request). request ≡ exchange plan.table) old new (Some one) popped has.exchanges).1

-- there is one for a turn that is lost before its call
abbrev lost_entry : Actor → Asked → Entry
lost_entry actor asked = record { actor = actor; session = 0; asked = asked; side = Some Before; answer = answers.Lost; missed = None; draw = None }

pub some_left : (plan : PlanData) (journal : List Entry) (actor : Actor) (asked : Asked) (renames : List Request) → HasRenames plan journal renames → side_due plan journal actor ≡ Some Before → is_cut asked ≡ false → 0 < length renames
some_left plan journal actor asked renames has struck uncut =
    let less : count_by (is_left (journal ++ lost_entry actor asked ∷ [])) plan.faults + 1 ≤ count_by (is_left journal) plan.faults = left_less journal (lost_entry actor asked) uncut plan.faults Before struck in
    let enough = has.enough in
    omega (arith, less, enough)

-- once the turn is taken
pub left_after : (plan same : PlanData) (journal longer : List Entry) (server : State) (turn : Turn) (renames : List Request) → AreLeft plan journal server turn renames → same ≡ plan → longer ≡ journal ++ next_entry journal server turn ∷ [] → HasRenames same longer renames
unfolding entry_on
left_after plan same journal longer server turn renames left is more =
    subst (λ (p : PlanData). HasRenames p longer renames) (sym is) (subst (λ (j : List Entry). HasRenames plan j renames) (sym more) (left.taken (next_entry journal server turn) refl refl))

-- where it isn't
pub left_still : (plan same : PlanData) (journal still : List Entry) (server : State) (turn : Turn) (renames : List Request) → AreLeft plan journal server turn renames → same ≡ plan → still ≡ journal → is_free_turn server (live_session journal turn.actor) turn ≡ false → HasRenames same still renames
left_still plan same journal still server turn renames left is none costs =
    subst (λ (p : PlanData). HasRenames p still renames) (sym is) (subst (λ (j : List Entry). HasRenames plan j renames) (sym none) (left.still costs))

-- WHAT IS ASKED

-- the cut-over's table is the plan's
own_table : (plan : PlanData) (journal : List Entry) (one : RunState) → IsRunState plan journal one → (work_of one.tool.work).cutover.table ≡ plan.table
own_table plan journal one is = by one.tool.setup refl where
  by : (setup : Option Setup) → one.tool.setup ≡ setup → (work_of one.tool.work).cutover.table ≡ plan.table
  by None at =
      let phase : (moment plan journal).tool.tool_phase ≡ Migrating (work_of one.tool.work) = sym (ap (λ (t : program.Tool). t.tool_phase) is.tool) ∙ ap (λ (s : Option Setup). tool_phase_in s one.tool.setup_tries.turns (work_of one.tool.work)) at in
      (subst (ToolPhaseIsNamed plan) phase (named plan journal)).cutover
  by (Some setup) at = ap (λ (work : program.Work). work.cutover.table) (subst (λ (s : Option Setup). IsFresh plan s one.tool.work) at is.sound.fresh)

pub exchange_asks : (one : RunState) (next : NextAsked) → IsRunState one.plan.now one.journal.items one → is_exchange next ≡ true → asked_of one next ≡ Call (exchange one.plan.now.table)
exchange_asks one (nexts.Tool (calls.CutOver cutovers.Exchange)) is exchanges = ap (λ (table : List ℕ). Call (exchange table)) (own_table one.plan.now one.journal.items one is)
exchange_asks one _ is exchanges = absurd (false≢true exchanges)

setup_names : (plan : PlanData) (setup : Setup) → is_rename (Call (setup_asks plan setup)) ≡ false
setup_names plan setups.Listing = refl
setup_names plan setup = refl

copier_names : (journal : List Entry) (copier : Copier) (call : CopyCall) → is_rename (Call (copier_asks journal copier call)) ≡ false
copier_names journal copier copiers.Commit = refl
copier_names journal copier call = refl

applier_names : (journal : List Entry) (applier : Applier) → is_rename (Call (appliers.next journal applier)) ≡ false
unfolding appliers.next
applier_names journal applier = at applier.step where
  doing : (planned : Option appliers.Doing) → is_rename (Call (appliers.statement_result applier planned)) ≡ false
  doing None = refl
  doing (Some planned) = refl

  at : (step : ApplyStep) → is_rename (Call (appliers.call_at journal applier step)) ≡ false
  at batches.Reading = refl
  at (batches.Beginning batch) = refl
  at (batches.Applying batch done part) = doing (appliers.doing_at journal applier (batches.Applying batch done part))
  at (batches.Committing batch) = refl

word_names : (word : ScriptWord) → is_rename (Call (word_asks word)) ≡ false
word_names words.Begin = refl
word_names word = refl

others_rename : (one : RunState) (next : NextAsked) → is_exchange next ≡ false → is_rename (asked_of one next) ≡ false
others_rename one (nexts.Tool (calls.Setup setup)) is = setup_names one.plan.now setup
others_rename one (nexts.Tool (calls.Copy call)) is = copier_names one.journal.items (work_of one.tool.work).copier call
others_rename one (nexts.Tool calls.Apply) is = applier_names one.journal.items (work_of one.tool.work).applier
others_rename one (nexts.Tool (calls.CutOver cutovers.Exchange)) is = absurd (true≢false is)
others_rename one (nexts.Client (clients.Line word)) is = word_names word.now
others_rename one _ is = refl

-- what the journal keeps whole takes no memory where it is no RENAME
kept_whole : (asked : Asked) → is_rename asked ≡ false → lost_in asked ≡ None → is_freely_asked (Some asked) ≡ true
kept_whole (Call requests.Commit) none whole = refl
kept_whole (Call requests.Rollback) none whole = refl
kept_whole (Call requests.Unlock) none whole = refl
kept_whole (Call (requests.Rename pairs)) none whole = absurd (true≢false none)
kept_whole (Call (requests.Do (statements.Replace table columns row drawn))) none whole = absurd (cc)
kept_whole (Call request) none whole = absurd (cc)
kept_whole asked none whole = refl

-- what takes memory is a RENAME for which there is no session
pub unhanded : (one : RunState) (next : NextAsked) (numbered : Bool) → lost_in (asked_of one next) ≡ None → is_freely_asked (Some (asked_of one next)) ≡ false → (is_exchange next && numbered) ≡ false → numbered ≡ false
unhanded one next numbered whole costs off = by (is_exchange next) refl where
  by : (exchanges : Bool) → is_exchange next ≡ exchanges → numbered ≡ false
  by true is = sym (ap (λ (b : Bool). b && numbered) is) ∙ off
  by false is = absurd (true≢false (sym (kept_whole (asked_of one next) (others_rename one next is) whole) ∙ costs))
