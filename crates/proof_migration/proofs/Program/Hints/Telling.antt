-- What ReadLog tells the applier: the events of its two tables up to the next position.
use Rattle.std.proofs.Common.{◌≡◌, ◌≤◌, ◌<◌, ◌+◌, ◌-◌, ℕ, zero, suc, Bool, true, false, cond, ◌||◌, List, [], ◌∷◌, ◌++◌, length, map, filter, take, drop, Some, refl, sym, ap, ◌∙◌, subst, arith}
use Rattle.std.specs.Prelude.{◌==◌}
use Rattle.std.specs.Str.{bytes_eq}
use Rattle.std.proofs.Math.Seq.{take-add, take-length}
use Rattle.std.proofs.lemmas.Bool.Decides.{nat_tests}
use Rattle.std.proofs.lemmas.List.{length-drop, take-append-drop, take-append-le}
use Rattle.base_values.specs.declared.event.RowEvent.{RowEvent}
use Rattle.server_model.specs.declared.answer.Answer.TheVariants as answers
use Rattle.server_model.specs.declared.entry.Entry.{Entry}
use Rattle.server_model.specs.declared.request.Request.{Request}
use Rattle.server_model.specs.declared.request.Request.TheVariants as requests
use Rattle.server_model.specs.declared.session.Limits.{Limits}
use Rattle.server_model.specs.Answers.{refuses}
use Rattle.server_model.specs.Effects.{Effect, effect}
use Rattle.server_model.specs.Listings.{ReadEvent, after_last, events_given, events_read, read_from}
use Rattle.server_model.specs.States.{State, is_of}
use Rattle.base_values.specs.ToolNames.{log_name}
use Rattle.base_values.specs.declared.mysql_errors.TheConstants.{ER_TABLE_NOT_LOCKED}
use Rattle.tool_program.specs.JournalWords.Journals.{opens}
use Rattle.proof_journals.specs.Scenes.{Scene}
use Rattle.proof_journals.specs.Turns.{IsSceneRun, IsReported, about, scene_state}
use Rattle.proof_journals.specs.Ghost.EffectStates.{effect_answer, was_done, where_done}
use Rattle.proof_journals.proofs.Ghost.Undone.{effects_answer}
use Rattle.proof_journals.proofs.Ghost.Reading.{read_is, taken_length}
use Rattle.proof_migration.proofs.Migration.Copier.Served.{Deeded, deeded}
use Rattle.proof_migration.proofs.Migration.Copier.Served.Deeded.{outside_so, within_so}
use Rattle.server_model.proofs.LockedRows.Tests.{are_one}
use Rattle.proof_journals.proofs.Sentry.Draining.{IsRead, on_both}

-- the two tables
abbrev pub both_tables : List ℕ → List (List ℕ)
both_tables t = t ∷ log_name t ∷ []

on_either : (t : List ℕ) (event : RowEvent) → is_of (both_tables t) event ≡ on_both t event
on_either t event = by (bytes_eq event.table t) (bytes_eq event.table (log_name t)) where
  by : (a b : Bool) → (a || (b || false)) ≡ (a || b)
  by true b = refl
  by false true = refl
  by false false = refl

of_either : (t : List ℕ) (events : List RowEvent) → filter (is_of (both_tables t)) events ≡ filter (on_both t) events
of_either t events = ap (λ (test : RowEvent → Bool). filter test events) (λ i event. on_either t event i)

abbrev events_in : List ReadEvent → List RowEvent
events_in given = map (λ (read : ReadEvent). read.event) given

-- AS MANY AS WERE ASKED FOR

-- what was given is the tables' part of so many events
record Takes (tables : List (List ℕ)) (part : List RowEvent) (place last : ℕ) (given : List ReadEvent) : Type 0 where
  steps : ℕ
  within : steps ≤ length part
  following : after_last last given ≡ place + steps
  are : events_in given ≡ filter (is_of tables) (take steps part)

full_by : (tables : List (List ℕ)) (n place last : ℕ) (event : RowEvent) (part : List RowEvent) (others : List ReadEvent) (b : Bool) → is_of tables event ≡ b → length (take (suc n) (cond b (record { event = event; following = place + 1 } ∷ others) others)) ≡ suc n
    → ((m d : ℕ) → length (take (suc m) others) ≡ suc m → Takes tables part (place + 1) d (take (suc m) others)) → Takes tables (event ∷ part) place last (take (suc n) (cond b (record { event = event; following = place + 1 } ∷ others) others))
full_by tables zero place last event part others true is full rest = record { steps = 1; within = omega arith; following = refl; are = rw is refl }
full_by tables (suc n) place last event part others true is full rest =
    let less : length (take (suc n) others) ≡ suc n = omega (arith, full) in
    let then : Takes tables part (place + 1) (place + 1) (take (suc n) others) = rest n (place + 1) less in
    let within = then.within in
    let sum : (place + 1) + then.steps ≡ place + suc then.steps = omega arith in
    record { steps = suc then.steps; within = omega (arith, within); following = then.following ∙ sum; are = rw is (ap (λ (e : List RowEvent). event ∷ e) then.are) }
full_by tables n place last event part others false is full rest =
    let then : Takes tables part (place + 1) last (take (suc n) others) = rest n last full in
    let within = then.within in
    let sum : (place + 1) + then.steps ≡ place + suc then.steps = omega arith in
    record { steps = suc then.steps; within = omega (arith, within); following = then.following ∙ sum; are = rw is then.are }

full : (tables : List (List ℕ)) (part : List RowEvent) (place n last : ℕ) → length (take (suc n) (read_from tables place part)) ≡ suc n → Takes tables part place last (take (suc n) (read_from tables place part))
unfolding read_from
full tables [] place n last is = absurd (let no : ⊥ = omega (arith, is) in no)
full tables (event ∷ part) place n last is = full_by tables n place last event part (read_from tables (place + 1) part) (is_of tables event) refl is (λ m d more. full tables part (place + 1) m d more)

-- FEWER

short_by : (tables : List (List ℕ)) (n place : ℕ) (event : RowEvent) (part : List RowEvent) (others : List ReadEvent) (b : Bool) → is_of tables event ≡ b → length (take (suc n) (cond b (record { event = event; following = place + 1 } ∷ others) others)) < suc n
    → ((m : ℕ) → length (take m others) < m → events_in (take m others) ≡ filter (is_of tables) part) → events_in (take (suc n) (cond b (record { event = event; following = place + 1 } ∷ others) others)) ≡ filter (is_of tables) (event ∷ part)
short_by tables n place event part others true is less rest = let fewer : length (take n others) < n = omega (arith, less) in rw is (ap (λ (e : List RowEvent). event ∷ e) (rest n fewer))
short_by tables n place event part others false is less rest = rw is (rest (suc n) less)

short : (tables : List (List ℕ)) (part : List RowEvent) (place n : ℕ) → length (take n (read_from tables place part)) < n → events_in (take n (read_from tables place part)) ≡ filter (is_of tables) part
unfolding read_from
short tables part place zero less = absurd (let no : ⊥ = omega (arith, less) in no)
short tables [] place (suc n) less = refl
short tables (event ∷ part) place (suc n) less = short_by tables n place event part (read_from tables (place + 1) part) (is_of tables event) refl less (λ m fewer. short tables part (place + 1) m fewer)

-- BOTH

reads : (t : List ℕ) (log : List RowEvent) (limit position : ℕ) → position ≤ length log
    → IsRead t log position (events_in (take (suc limit) (read_from (both_tables t) position (drop position log))))
    (cond (length (take (suc limit) (read_from (both_tables t) position (drop position log))) == suc limit) (after_last 0 (take (suc limit) (read_from (both_tables t) position (drop position log)))) (length log))
reads t log limit position within = at (length given == suc limit) refl where
  part : List RowEvent
  part = drop position log

  given : List ReadEvent
  given = take (suc limit) (read_from (both_tables t) position part)

  size : length part ≡ length log - position
  size = length-drop position log

  at : (b : Bool) → (length given == suc limit) ≡ b → IsRead t log position (events_in given) (cond b (after_last 0 given) (length log))
  at true is =
      let takes : Takes (both_tables t) part position 0 given = full (both_tables t) part position limit 0 (are_one (length given) (suc limit) is) in
      let steps = takes.within in
      let following = takes.following in
      record { forward = omega (arith, following); within = omega (arith, following, steps, size, within); part = take takes.steps part; joins = ap (λ (n : ℕ). take n log) following ∙ take-add position takes.steps log; read = takes.are ∙ of_either t (take takes.steps part) }
  at false is =
      let most : length given ≤ suc limit = taken_length (suc limit) (read_from (both_tables t) position part) in
      let fewer : length given < suc limit = grind (arith, nat_tests, most, is) in
      record { forward = within; within = omega arith; part = part; joins = take-length log ∙ sym (take-append-drop position log); read = short (both_tables t) part position (suc limit) fewer ∙ of_either t part }

-- one event at least is asked for
reported_reads : (t : List ℕ) (log : List RowEvent) (limit position : ℕ) (events : List RowEvent) (next : ℕ) → 1 ≤ limit → position ≤ length log → answers.Events events next ≡ events_read position limit (both_tables t) log → IsRead t log position events next
reported_reads t log zero position events next some within is = absurd (omega (arith, some))
reported_reads t log (suc limit) position events next some within is =
    let reported : answers.Events events next ≡ events_given (suc limit) (length log) (take (suc limit) (read_from (both_tables t) position (drop position log))) = is ∙ read_is position (suc limit) (both_tables t) log in
    let list : events ≡ events_in (take (suc limit) (read_from (both_tables t) position (drop position log))) = cc in
    let place : next ≡ cond (length (take (suc limit) (read_from (both_tables t) position (drop position log))) == suc limit) (after_last 0 (take (suc limit) (read_from (both_tables t) position (drop position log)))) (length log) = cc in
    subst (λ (e : List RowEvent). IsRead t log position e next) (sym list) (subst (λ (n : ℕ). IsRead t log position (events_in (take (suc limit) (read_from (both_tables t) position (drop position log)))) n) (sym place) (reads t log limit position within))

-- the log grows
pub read_later : (t : List ℕ) (log more : List RowEvent) (position next : ℕ) (events : List RowEvent) → IsRead t log position events next → IsRead t (log ++ more) position events next
read_later t log more position next events is =
    let forward = is.forward in
    let within = is.within in
    let size : length (log ++ more) ≡ length log + length more = Rattle.std.proofs.lemmas.List.length-append log more in
    record {
      forward = forward;
      within = omega (arith, within, size);
      part = is.part;
      joins = take-append-le next log more within ∙ is.joins ∙ ap (λ (l : List RowEvent). l ++ is.part) (sym (take-append-le position log more (omega (arith, forward, within))));
      read = is.read;
    }

-- *The applier's reading tells what the log has*
pub reading_said : (t : List ℕ) (limits : Limits) (scene : Scene) (journal : List Entry) (entry : Entry) (limit position : ℕ) (events : List RowEvent) (next : ℕ) → IsSceneRun limits scene journal → IsReported limits scene journal entry → entry.side ≡ Rattle.std.proofs.Common.None
    → about (opens entry (scene_state limits scene journal)) entry.session entry.asked ≡ Some (requests.ReadLog position limit (both_tables t)) → entry.answer ≡ answers.Events events next → 1 ≤ limit → position ≤ length (scene_state limits scene journal).log
    → IsRead t (scene_state limits scene journal).log position events next
reading_said t limits scene journal entry limit position events next run reported heard asked is some within = by (deeded entry before request) where
  before : State
  before = scene_state limits scene journal

  request : Request
  request = requests.ReadLog position limit (both_tables t)

  effect_now : Effect
  effect_now = effect (where_done entry.asked entry.session (opens entry before)) entry.session request

  statement_result : entry.answer ≡ effect_answer effect_now
  statement_result = effects_answer limits scene journal entry request entry.answer run reported asked (rw heard refl) (ap was_done is)

  by : Deeded before entry.session request effect_now → IsRead t before.log position events next
  by (outside_so out) = absurd (no (sym is ∙ statement_result ∙ ap effect_answer out)) where
    no : answers.Events events next ≡ refuses ER_TABLE_NOT_LOCKED → ⊥
    no same = cc
  by (within_so there same log within_it) = reported_reads t before.log limit position events next some within (sym is ∙ statement_result ∙ ap effect_answer within_it ∙ ap (events_read position limit (both_tables t)) log)
