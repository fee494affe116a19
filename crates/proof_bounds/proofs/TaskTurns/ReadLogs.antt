-- What the applier's reading of the log gives: some event where one is unread, and no more than a batch; so a later position, and so
-- many statements at most.
use Rattle.std.proofs.Common.{◌≡◌, ◌≤◌, ℕ, zero, suc, ◌+◌, ◌*◌, Bool, true, false, cond, not, ◌&&◌, ◌||◌, List, [], ◌∷◌, ◌++◌, length, take, drop, map, Some, None, refl, sym, ap, ◌∙◌, subst, append_assoc, arith}
use Rattle.std.specs.Prelude.{count_by, filter, nat_lt}
use Rattle.std.specs.List.{flat_map}
use Rattle.std.specs.Str.{bytes_eq}
use Rattle.std.proofs.lemmas.Bool.{false≢true}
use Rattle.std.proofs.lemmas.Bool.Decides.{nat_tests}
use Rattle.std.proofs.lemmas.List.{append_cancel_left, take-append-drop, length-map}
use Rattle.std.proofs.lemmas.List.Sums.{length-filter, sum_by-append, sum_by-cons}
use Rattle.base_values.specs.ToolNames.{log_name}
use Rattle.base_values.specs.declared.event.Change.{Change}
use Rattle.base_values.specs.declared.event.Change.TheVariants as changes
use Rattle.base_values.specs.declared.event.RowEvent.{RowEvent}
use Rattle.server_model.specs.Listings.{ReadEvent, events_given, events_read, read_from}
use Rattle.server_model.specs.States.{State, is_of, unread}
use Rattle.server_model.specs.declared.answer.Answer.TheVariants as answers
use Rattle.server_model.specs.declared.entry.Entry.{Entry}
use Rattle.server_model.specs.declared.request.Request.{Request}
use Rattle.plan_data.specs.PlanData.{PlanData}
use Rattle.tool_program.specs.CutoverCore.CutOvers.{is_done}
use Rattle.tool_program.specs.EventApplier.Appliers.{Putting, Removing, Changing, changes_key, doings, events_of, given_values, planned, starts}
use Rattle.tool_program.specs.EventApplier.Appliers as appliers
use Rattle.tool_program.specs.JournalWords.Journals.{state_at}
use Rattle.tool_program.specs.Programs.{apply_call, is_held, may_read, unread_in}
use Rattle.tool_program.specs.Tools.{Migrating, Work, moment}
use Rattle.tool_program.specs.declared.event_applier.applier.Applier.{Applier}
use Rattle.tool_program.proofs.OnlineCalls.Machines.{ToolPhaseIsNamed, named}
use Rattle.proof_journals.proofs.Ghost.Reading.{read_is}
use Rattle.proof_journals.proofs.Machine.Journals.{IsTogether}
use Rattle.proof_journals.proofs.Sentry.Draining.{IsRead, on_both}
use Rattle.proof_bounds.specs.TaskTurns.Answers.{Passes, doing_turns, doings_turns, left_at}
use Rattle.proof_migration.proofs.ToolPhase.Chunks.Sizes.{take_few}

abbrev both : List ℕ → List (List ℕ)
both table = table ∷ log_name table ∷ []

-- IT IS CALLED WHERE SOMETHING IS UNREAD

pub called_reads : (plan : PlanData) (journal : List Entry) → IsTogether plan journal → (work : Work) → (moment plan journal).tool.tool_phase ≡ Migrating work → appliers.is_reading work.applier.step ≡ true → (request : Request)
    → apply_call plan (moment plan journal).server journal (moment plan journal).tool work ≡ Some request → 1 ≤ left_at plan.table (state_at plan journal).log work.applier.position
unfolding unread
called_reads plan journal together work eq reading request call =
    subst (λ (n : ℕ). 1 ≤ n) left_so
    (positive (unread_in (moment plan journal).server work)
    (both_left (nat_lt 0 (unread_in (moment plan journal).server work)) (not (is_held plan (moment plan journal).server (moment plan journal).tool work))
    (allowed (is_done work.cutover.phase) (starts work.applier) (may_read plan (moment plan journal).server (moment plan journal).tool work) (appliers.next journal work.applier) request reading call))) where
      own : work.applier.table ≡ plan.table
      own = (subst (ToolPhaseIsNamed plan) eq (named plan journal)).applier

      positive : (n : ℕ) → nat_lt 0 n ≡ true → 1 ≤ n
      positive n is_so = grind (arith, nat_tests, is_so)

      both_left : (a b : Bool) → (a && b) ≡ true → a ≡ true
      both_left true b is_so = refl
      both_left false b is_so = absurd (false≢true is_so)

      allowed : (a b c : Bool) (next : Request) (request : Request) → b ≡ true → cond a None (cond (b && not c) None (Some next)) ≡ Some request → c ≡ true
      allowed true b c next request reads_so call = absurd cc
      allowed false true true next request reads_so call = refl
      allowed false true false next request reads_so call = absurd cc
      allowed false false c next request reads_so call = absurd (false≢true reads_so)

      left_so : unread_in (moment plan journal).server work ≡ left_at plan.table (state_at plan journal).log work.applier.position
      left_so = ap (λ (s : State). unread_in s work) together.server ∙ ap (λ (t : List ℕ). unread (state_at plan journal) work.applier.position (t ∷ log_name t ∷ [])) own

-- WHAT IS READ

-- as many as there are
all_read : (tables : List (List ℕ)) (place : ℕ) (part : List RowEvent) → length (read_from tables place part) ≡ count_by (is_of tables) part
unfolding read_from
all_read tables place [] = refl
all_read tables place (event ∷ part) = by (is_of tables event) refl (all_read tables (place + 1) part) where
  by : (b : Bool) → is_of tables event ≡ b → length (read_from tables (place + 1) part) ≡ count_by (is_of tables) part
      → length (cond b (record { event = event; following = place + 1 } ∷ read_from tables (place + 1) part) (read_from tables (place + 1) part)) ≡ count_by (is_of tables) (event ∷ part)
  by true is rest = let whole = sum_by-cons (λ (e : RowEvent). cond (is_of tables e) 1 0) event part ∙ ap (λ (b : Bool). cond b 1 0 + count_by (is_of tables) part) is in omega (arith, rest, whole)
  by false is rest = let whole = sum_by-cons (λ (e : RowEvent). cond (is_of tables e) 1 0) event part ∙ ap (λ (b : Bool). cond b 1 0 + count_by (is_of tables) part) is in omega (arith, rest, whole)

taken_some : {A : Type 0} (n : ℕ) (xs : List A) → 1 ≤ n → 1 ≤ length xs → 1 ≤ length (take n xs)
taken_some zero xs some more = absurd (no some) where
  no : 1 ≤ 0 → ⊥
  no less = omega (arith, less)
taken_some (suc n) [] some more = omega (arith, more)
taken_some (suc n) (x ∷ xs) some more = omega arith

-- it gives some event where one is unread, and so many at most
pub record ReadsSome (limit : ℕ) (read : List RowEvent) : Type 0 where
  pub some : 1 ≤ length read
  pub most : length read ≤ limit

pub reads_some : (table : List ℕ) (log : List RowEvent) (position limit : ℕ) (read : List RowEvent) (following : ℕ) → 1 ≤ limit → 1 ≤ left_at table log position → answers.Events read following ≡ events_read position limit (both table) log → ReadsSome limit read
reads_some table log position limit read following fits left is = record {
  some =
      let more = taken_some limit (read_from (both table) position (drop position log)) fits (subst (λ (n : ℕ). 1 ≤ n) (sym (all_read (both table) position (drop position log))) left) in
      let same = length_so in
      omega (arith, more, same);
  most =
      let less = take_few limit (read_from (both table) position (drop position log)) in
      let same = length_so in
      omega (arith, less, same);
} where
  both_are : answers.Events read following ≡ events_given limit (length log) (take limit (read_from (both table) position (drop position log)))
  both_are = is ∙ read_is position limit (both table) log

  list : read ≡ map (λ (r : ReadEvent). r.event) (take limit (read_from (both table) position (drop position log)))
  list = let both = both_are in cc

  length_so : length read ≡ length (take limit (read_from (both table) position (drop position log)))
  length_so = ap (λ (l : List RowEvent). length l) list ∙ length-map (take limit (read_from (both table) position (drop position log))) (λ (r : ReadEvent). r.event)

-- A LATER POSITION

either_of : (table : List ℕ) (event : RowEvent) → is_of (both table) event ≡ on_both table event
either_of table event = by (bytes_eq event.table table) (bytes_eq event.table (log_name table)) where
  by : (a b : Bool) → (a || (b || false)) ≡ (a || b)
  by true b = refl
  by false true = refl
  by false false = refl

counted_alike : (table : List ℕ) (events : List RowEvent) → count_by (is_of (both table)) events ≡ length (filter (on_both table) events)
counted_alike table events = ap (λ (test : RowEvent → Bool). count_by test events) (λ i event. either_of table event i) ∙ sym (length-filter (on_both table) events)

pub read_passes : (table : List ℕ) (log : List RowEvent) (position following : ℕ) (read : List RowEvent) → 1 ≤ length read → IsRead table log position read following → Passes table log position following
read_passes table log position following read some is = record { within = is.within; fewer = let all = whole in let one = came in omega (arith, all, one, some) } where
  parts : drop position log ≡ is.part ++ drop following log
  parts =
      append_cancel_left (take position log) (drop position log) (is.part ++ drop following log)
      (take-append-drop position log ∙ sym (take-append-drop following log) ∙ ap (λ (l : List RowEvent). l ++ drop following log) is.joins ∙ append_assoc (take position log) is.part (drop following log))

  whole : left_at table log position ≡ count_by (is_of (both table)) is.part + left_at table log following
  whole = ap (count_by (is_of (both table))) parts ∙ sum_by-append (λ (e : RowEvent). cond (is_of (both table) e) 1 0) is.part (drop following log)

  came : count_by (is_of (both table)) is.part ≡ length read
  came = counted_alike table is.part ∙ ap (λ (l : List RowEvent). length l) (sym is.read)

-- SO MANY STATEMENTS

one_most : (applier : Applier) (change : Change) → doings_turns (doings applier.new_schema applier.map change) ≤ 3
one_most applier (changes.Write row) = omega arith
one_most applier (changes.Delete row) = omega arith
one_most applier (changes.Update before after) = by (changes_key applier.new_schema (given_values applier.map before) (given_values applier.map after)) where
  by : (b : Bool) → doings_turns (cond b (Removing before ∷ Putting after ∷ []) (Changing before after ∷ [])) ≤ 3
  by true = omega arith
  by false = omega arith

pub planned_most : (applier : Applier) (read : List RowEvent) → doings_turns (planned applier read) ≤ 3 * length read
unfolding planned
planned_most applier [] = omega arith
planned_most applier (event ∷ read) = by (bytes_eq event.table applier.table) (planned_most applier read) where
  by : (b : Bool) → doings_turns (flat_map (λ (e : RowEvent). doings applier.new_schema applier.map e.change) (events_of applier.table read)) ≤ 3 * length read
      → doings_turns (flat_map (λ (e : RowEvent). doings applier.new_schema applier.map e.change) (cond b (event ∷ events_of applier.table read) (events_of applier.table read))) ≤ 3 * length (event ∷ read)
  by true rest =
      let one = one_most applier event.change in
      let whole = sum_by-append doing_turns (doings applier.new_schema applier.map event.change) (flat_map (λ (e : RowEvent). doings applier.new_schema applier.map e.change) (events_of applier.table read)) in
      omega (arith, rest, one, whole)
  by false rest = omega (arith, rest)
