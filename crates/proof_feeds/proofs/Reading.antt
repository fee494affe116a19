-- The log is read no further than the replica is, and chunks and attempts begin where the lag is small.
use Rattle.std.proofs.Common.{◌≡◌, ℕ, zero, suc, ◌+◌, ◌-◌, ◌<◌, ◌≤◌, Bool, true, false, cond, not, ◌&&◌, List, [], ◌∷◌, ◌++◌, length, map, take, drop, Option, Some, None, refl, sym, ap, ◌∙◌, subst, arith, append_assoc}
use Rattle.std.specs.Prelude.{◌==◌, ◌%◌, min, nat_lt, count_by, fold}
use Rattle.std.proofs.Math.Nat.{min-le_left}
use Rattle.std.proofs.lemmas.Bool.{true≢false, false≢true, and_parts, not-true}
use Rattle.std.proofs.lemmas.Bool.Decides.{nat_tests}
use Rattle.std.proofs.lemmas.List.{append-nil, length-drop}
use Rattle.std.proofs.lemmas.List.Sums.{fold-append, sum_by-cons}
use Rattle.base_values.specs.declared.event.RowEvent.{RowEvent}
use Rattle.base_script.specs.declared.actor.Actor.{Actor}
use Rattle.base_script.specs.declared.actor.Actor.TheVariants.{Copy, Apply, Lock}
use Rattle.server_model.specs.Along.{Along}
use Rattle.server_model.specs.declared.answer.Answer.{Answer}
use Rattle.server_model.specs.declared.answer.Answer.TheVariants as answers
use Rattle.server_model.specs.declared.request.Request.TheVariants as requests
use Rattle.server_model.specs.declared.entry.Asked.{Asked}
use Rattle.server_model.specs.declared.entry.Asked.TheVariants.{Call}
use Rattle.server_model.specs.declared.entry.Entry.{Entry}
use Rattle.server_model.specs.Listings.{ReadEvent, after_last, events_read, read_from}
use Rattle.server_model.specs.States.{State, is_of}
use Rattle.plan_data.specs.PlanData.{PlanData}
use Rattle.tool_program.specs.JournalWords.Journals.{state_at}
use Rattle.tool_program.specs.Orders.{Held, caught_up, held_after, held_behind, is_caught, is_ready, may_go, replica_length, risen}
use Rattle.tool_program.specs.Programs.{given}
use Rattle.tool_program.specs.Feeds.{events_between, holds_call, is_held_back, lag, read_tables}
use Rattle.proof_feeds.proofs.Asking.{reads_its_tables}
use Rattle.proof_feeds.specs.Laws.{FeedsAreBounded, LagIsSmall, ReadsStayBehind, ReadsWithin}

-- THE EVENTS READ

-- the events of these tables, by whether the first is one
abbrev reads_by : Bool → List (List ℕ) → ℕ → RowEvent → List RowEvent → List ReadEvent
reads_by b tables place event events = cond b (record { event = event; following = place + 1 } ∷ read_from tables (place + 1) events) (read_from tables (place + 1) events)

read_first : (tables : List (List ℕ)) (place : ℕ) (event : RowEvent) (events : List RowEvent) → read_from tables place (event ∷ events) ≡ reads_by (is_of tables event) tables place event events
unfolding read_from
read_first tables place event events = refl

read_none : (tables : List (List ℕ)) (place : ℕ) → read_from tables place [] ≡ []
unfolding read_from
read_none tables place = refl

-- all of them stand within the log's part
all_within : (tables : List (List ℕ)) (events : List RowEvent) (d place n : ℕ) → d ≤ place + length events → after_last d (take n (read_from tables place events)) ≤ place + length events
all_within tables events d place zero within = within
all_within tables [] d place (suc n) within = rw (read_none tables place) within
all_within tables (event ∷ events) d place (suc n) within =
    rw (read_first tables place event events) (by (is_of tables event)
    (let next : place + 1 ≤ (place + 1) + length events = omega arith in all_within tables events (place + 1) (place + 1) n next)
    (let next : d ≤ (place + 1) + length events = omega (arith, within) in all_within tables events d (place + 1) (suc n) next))
  where
    by : (b : Bool) → after_last (place + 1) (take n (read_from tables (place + 1) events)) ≤ (place + 1) + length events → after_last d (take (suc n) (read_from tables (place + 1) events)) ≤ (place + 1) + length events
        → after_last d (take (suc n) (reads_by b tables place event events)) ≤ place + length (event ∷ events)
    by true taken passed = omega (arith, taken)
    by false taken passed = omega (arith, passed)

-- so many of them stand in a first part of it that has as many
pub record Enough (tables : List (List ℕ)) (d place n k : ℕ) (events : List RowEvent) : Type 0 where
  pub many : length (take n (read_from tables place events)) ≡ n
  pub behind : after_last d (take n (read_from tables place events)) ≤ place + k

some_within : (tables : List (List ℕ)) (events : List RowEvent) (d place n k : ℕ) → d ≤ place + k → n ≤ count_by (is_of tables) (take k events) → Enough tables d place n k events
some_within tables events d place zero k within enough = record { many = refl; behind = within }
some_within tables [] d place (suc n) zero within enough = absurd (omega (arith, enough))
some_within tables [] d place (suc n) (suc k) within enough = absurd (omega (arith, enough))
some_within tables (event ∷ events) d place (suc n) zero within enough = absurd (omega (arith, enough))
some_within tables (event ∷ events) d place (suc n) (suc k) within enough =
    let counted = sum_by-cons (λ (x : RowEvent). cond (is_of tables x) 1 0) event (take k events) in
    by (is_of tables event) refl (subst (λ (c : ℕ). suc n ≤ c) counted enough)
    (λ some. some_within tables events (place + 1) (place + 1) n k (omega arith) some)
    (λ some. some_within tables events d (place + 1) (suc n) k (omega (arith, within)) some)
  where
    by : (b : Bool) → is_of tables event ≡ b → suc n ≤ cond b 1 0 + count_by (is_of tables) (take k events) → (n ≤ count_by (is_of tables) (take k events) → Enough tables (place + 1) (place + 1) n k events)
        → (suc n ≤ count_by (is_of tables) (take k events) → Enough tables d (place + 1) (suc n) k events) → Enough tables d place (suc n) (suc k) (event ∷ events)
    by true is some taken passed =
        let rest : Enough tables (place + 1) (place + 1) n k events = taken (omega (arith, some)) in
        let last = rest.behind in
        record {
          many = rw (read_first tables place event events, is) (ap suc rest.many);
          behind = rw (read_first tables place event events, is) (omega (arith, last));
        }
    by false is some taken passed =
        let rest : Enough tables d (place + 1) (suc n) k events = passed (omega (arith, some)) in
        let last = rest.behind in
        record {
          many = rw (read_first tables place event events, is) rest.many;
          behind = rw (read_first tables place event events, is) (omega (arith, last));
        }

-- A READ THAT ISN'T HELD BACK

-- what is not held back, where there is a replica
unheld : (plan : PlanData) (journal : List Entry) (actor : Actor) → 0 < plan.options.replica_step → may_go plan journal actor ≡ true → holds_call plan (state_at plan journal) (replica_length plan journal) actor (given plan journal actor) ≡ false
unfolding is_held_back
unheld plan journal actor some goes = by (plan.options.replica_step == 0) refl (not-true _ (and_parts (is_ready plan journal actor) (not (is_held_back plan journal (replica_length plan journal) actor)) goes).1) where
  by : (b : Bool) → (plan.options.replica_step == 0) ≡ b → cond b false (holds_call plan (state_at plan journal) (replica_length plan journal) actor (given plan journal actor)) ≡ false → holds_call plan (state_at plan journal) (replica_length plan journal) actor (given plan journal actor) ≡ false
  by false is free = free
  by true is free = absurd (grind (arith, nat_tests, is, some))

-- the end of what a read is answered, by whether as many events are given as were asked for
abbrev next_by : Bool → ℕ → List ReadEvent → ℕ
next_by b end given = cond b (after_last 0 given) end

read_ends : (position limit : ℕ) (tables : List (List ℕ)) (log : List RowEvent) → 0 < limit → next_by (length (take limit (read_from tables position (drop position log))) == limit) (length log) (take limit (read_from tables position (drop position log))) ≤ length log
read_ends position limit tables log some = by (length given == limit) refl where
  given : List ReadEvent
  given = take limit (read_from tables position (drop position log))

  long : (rest : List RowEvent) → drop position log ≡ rest → length given ≡ limit → after_last 0 given ≤ length log
  long [] is many = absurd (none (rw is (rw (read_none tables position) (short limit))) many) where
    short : (n : ℕ) → length (take n (let none : List ReadEvent = [] in none)) ≡ 0
    short zero = refl
    short (suc n) = refl

    none : length given ≡ 0 → length given ≡ limit → ⊥
    none gone all = omega (arith, gone, all, some)
  long (event ∷ rest) is many =
      let size = length-drop position log in
      let part : length (drop position log) ≡ suc (length rest) = ap length is in
      let start : 0 ≤ position + length (drop position log) = omega arith in
      let last = all_within tables (drop position log) 0 position limit start in
      omega (arith, size, part, last)

  by : (b : Bool) → (length given == limit) ≡ b → next_by b (length log) given ≤ length log
  by false is = omega arith
  by true is = long (drop position log) refl (grind (arith, nat_tests, is))

read_within : (position limit held : ℕ) (tables : List (List ℕ)) (log : List RowEvent) → 0 < limit → limit ≤ events_between tables position held log
    → next_by (length (take limit (read_from tables position (drop position log))) == limit) (length log) (take limit (read_from tables position (drop position log))) ≤ held
unfolding events_between
read_within position limit held tables log some enough = by (length given == limit) refl where
  given : List ReadEvent
  given = take limit (read_from tables position (drop position log))

  found : Enough tables 0 position limit (held - position) (drop position log)
  found = let start : 0 ≤ position + (held - position) = omega arith in some_within tables (drop position log) 0 position limit (held - position) start enough

  ahead : (k : ℕ) → held - position ≡ k → position ≤ held
  ahead zero is = absurd (omega (arith, some, (let none : limit ≤ 0 = subst (λ (j : ℕ). limit ≤ count_by (is_of tables) (take j (drop position log))) is enough in none)))
  ahead (suc k) is = omega (arith, is)

  by : (b : Bool) → (length given == limit) ≡ b → next_by b (length log) given ≤ held
  by true is = let last = found.behind in let from = ahead (held - position) refl in omega (arith, last, from)
  by false is = let many = found.many in absurd (grind (arith, nat_tests, is, many))

reads_some : (plan : PlanData) (journal : List Entry) (position limit : ℕ) → 0 < plan.options.replica_step → 0 < limit → given plan journal Apply ≡ Some (Call (requests.ReadLog position limit (read_tables plan))) → may_go plan journal Apply ≡ true → ReadsWithin plan journal position limit (read_tables plan)
unfolding events_read
reads_some plan journal position limit replica some is goes =
    record {
      events = map (λ read. read.event) (take limit (read_from (read_tables plan) position (drop position log)));
      next = next_by (length (take limit (read_from (read_tables plan) position (drop position log))) == limit) (length log) (take limit (read_from (read_tables plan) position (drop position log)));
      reported = refl;
      within = within (held == length log) (nat_lt (events_between (read_tables plan) position held log) limit) refl refl free;
    }
  where
    log : List RowEvent
    log = (state_at plan journal).log

    held : ℕ
    held = replica_length plan journal

    free : (not (held == length log) && nat_lt (events_between (read_tables plan) position held log) limit) ≡ false
    free = ap (holds_call plan (state_at plan journal) held Apply) (sym is) ∙ unheld plan journal Apply replica goes

    within : (b c : Bool) → (held == length log) ≡ b → nat_lt (events_between (read_tables plan) position held log) limit ≡ c → (not b && c) ≡ false
        → next_by (length (take limit (read_from (read_tables plan) position (drop position log))) == limit) (length log) (take limit (read_from (read_tables plan) position (drop position log))) ≤ held
    within true c at few none = let end : held ≡ length log = grind (arith, nat_tests, at) in subst (λ (n : ℕ). next_by (length (take limit (read_from (read_tables plan) position (drop position log))) == limit) (length log) (take limit (read_from (read_tables plan) position (drop position log))) ≤ n) (sym end) (read_ends position limit (read_tables plan) log some)
    within false true at few none = absurd (true≢false none)
    within false false at few none = let enough : limit ≤ events_between (read_tables plan) position held log = grind (arith, nat_tests, few) in read_within position limit held (read_tables plan) log some enough

-- a read of no events ends where the log begins
reads_behind : (plan : PlanData) (journal : List Entry) (position limit : ℕ) → 0 < plan.options.replica_step → given plan journal Apply ≡ Some (Call (requests.ReadLog position limit (read_tables plan))) → may_go plan journal Apply ≡ true → ReadsWithin plan journal position limit (read_tables plan)
unfolding events_read
reads_behind plan journal position zero replica is goes = record { events = []; next = next_by (0 == 0) (length (state_at plan journal).log) []; reported = refl; within = by (0 == 0) refl } where
  by : (b : Bool) → (0 == 0) ≡ b → next_by b (length (state_at plan journal).log) [] ≤ replica_length plan journal
  by true is = omega arith
  by false is = absurd (grind (arith, nat_tests, is))
reads_behind plan journal position (suc limit) replica is goes = reads_some plan journal position (suc limit) replica (omega arith) is goes

-- *Reads stay behind.*
pub reads_stay_behind : ReadsStayBehind
reads_stay_behind plan journal position limit tables replica is goes =
    let own : tables ≡ read_tables plan = reads_its_tables plan journal position limit tables is in
    subst (ReadsWithin plan journal position limit) (sym own) (reads_behind plan journal position limit replica (is ∙ ap (λ (names : List (List ℕ)). Some (Call (requests.ReadLog position limit names))) own) goes)

-- *The lag is small.*
pub lag_is_small : LagIsSmall
lag_is_small plan journal replica = (
  λ table low top size is goes. small (nat_lt plan.options.max_lag (lag plan (state_at plan journal) (replica_length plan journal))) refl (ap (holds_call plan (state_at plan journal) (replica_length plan journal) Copy) (sym is) ∙ unheld plan journal Copy replica goes),
  λ schema is goes. small (nat_lt plan.options.max_lag (lag plan (state_at plan journal) (replica_length plan journal))) refl (ap (holds_call plan (state_at plan journal) (replica_length plan journal) Lock) (sym is) ∙ unheld plan journal Lock replica goes),
)
  where
    small : (b : Bool) → nat_lt plan.options.max_lag (lag plan (state_at plan journal) (replica_length plan journal)) ≡ b → b ≡ false → lag plan (state_at plan journal) (replica_length plan journal) ≤ plan.options.max_lag
    small true is none = absurd (true≢false none)
    small false is none = grind (arith, nat_tests, is)

-- NEVER AHEAD

-- what is held after a journal's turns, one by one
abbrev IsBounded : PlanData → Held → Type 0
IsBounded plan now = now.held ≤ length (state_at plan now.before).log

caught_bounded : (plan : PlanData) (journal : List Entry) (held : ℕ) → held ≤ length (state_at plan journal).log → caught_up plan journal held ≤ length (state_at plan journal).log
caught_bounded plan journal held within = by (is_caught plan journal held) where
  by : (b : Bool) → cond b (length (state_at plan journal).log) held ≤ length (state_at plan journal).log
  by true = omega arith
  by false = within

risen_bounded : (plan : PlanData) (journal : List Entry) (held : ℕ) → held ≤ length (state_at plan journal).log → risen plan journal held ≤ length (state_at plan journal).log
risen_bounded plan journal held within = by (length journal % plan.options.replica_pause == 0) where
  by : (b : Bool) → cond b (min (length (state_at plan journal).log) (held + plan.options.replica_step)) held ≤ length (state_at plan journal).log
  by true = min-le_left (length (state_at plan journal).log) (held + plan.options.replica_step)
  by false = within

-- the turns of the fold are those so far
before_is : (plan : PlanData) (start : Held) (journal : List Entry) → (fold (held_after plan) start journal).before ≡ start.before ++ journal
before_is plan start [] = sym (append-nil start.before)
before_is plan start (entry ∷ journal) = before_is plan (held_after plan start entry) journal ∙ append_assoc start.before (entry ∷ []) journal

held_bounded : (plan : PlanData) (start : Held) (journal : List Entry) → IsBounded plan start → Along (λ before entry. length (state_at plan before).log ≤ length (state_at plan (before ++ entry ∷ [])).log) start.before journal → IsBounded plan (fold (held_after plan) start journal)
held_bounded plan start [] within along = within
held_bounded plan start (entry ∷ journal) within along =
    let caught = caught_bounded plan start.before start.held within in
    let grows = along.0 in
    held_bounded plan (held_after plan start entry) journal (risen_bounded plan (start.before ++ entry ∷ []) (caught_up plan start.before start.held) (omega (arith, caught, grows))) along.1

pub feeds_are_bounded : FeedsAreBounded
unfolding replica_length held_behind
feeds_are_bounded plan journal along =
    let now : Held = fold (held_after plan) (record { before = []; held = 0 }) journal in
    let within = held_bounded plan (record { before = []; held = 0 }) journal (omega arith) along in
    caught_bounded plan journal now.held (subst (λ (b : List Entry). now.held ≤ length (state_at plan b).log) (before_is plan (record { before = []; held = 0 }) journal) within)
