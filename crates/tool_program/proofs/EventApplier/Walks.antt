-- A walk over events, statement by statement.
use Rattle.std.proofs.Common.{◌≡◌, refl, sym, ap, ◌∙◌, ℕ, zero, suc, ◌+◌, ◌-◌, ◌≤◌, ◌<◌, Bool, true, false, cond, List, [], ◌∷◌, ◌++◌, length, drop, get_or, None, arith, length-append}
use Rattle.std.specs.Prelude.{filter, if◌then◌else◌}
use Rattle.std.specs.List.{flat_map, slice_get}
use Rattle.std.specs.Str.{bytes_eq}
use Rattle.std.proofs.lemmas.List.{drop_more, drop_all}
use Rattle.base_values.specs.declared.event.RowEvent.{RowEvent}
use Rattle.base_values.specs.declared.value.Value.{Value}
use Rattle.base_values.specs.declared.gho_schema.schema.Schema.{Schema}
use Rattle.base_values.specs.declared.row_conversion.map.MapColumn.{MapColumn}
use Rattle.tool_program.specs.declared.event_applier.applier.Applier.{Applier}
use Rattle.base_values.specs.declared.event.Change.TheVariants.{Update}
use Rattle.tool_program.specs.EventApplier.Appliers.{Doing, Putting, Removing, Changing, changes_key, given_values, doings, planned}
use Rattle.tool_program.specs.EventApplier.BatchPlans.{event_doings}

conditional : {X A : Type 0} (f : X → List A) (test : Bool) (x : X) (rest : List X) → flat_map f (cond test (x ∷ rest) rest) ≡ (if test then f x else []) ++ flat_map f rest
conditional f true x rest = refl
conditional f false x rest = refl

-- the first event's statements come first
pub planned-cons : (applier : Applier) (event : RowEvent) (events : List RowEvent) → planned applier (event ∷ events) ≡ event_doings applier event ++ planned applier events
unfolding planned
planned-cons applier event events =
    conditional (λ one. doings applier.new_schema applier.map one.change) (bytes_eq event.table applier.table) event (filter (λ one. bytes_eq one.table applier.table) events)

pub planned_more : (applier : Applier) (events : List RowEvent) (i : ℕ) (event : RowEvent) → i < length events → event ≡ get_or events i event → planned applier (drop i events) ≡ event_doings applier event ++ planned applier (drop (i + 1) events)
planned_more applier events i event within is =
    ap (planned applier) (drop_more events i event within) ∙ planned-cons applier (get_or events i event) (drop (i + 1) events)
    ∙ ap (λ first. event_doings applier first ++ planned applier (drop (i + 1) events)) (sym is)

get_first : {A : Type 0} (xs ys : List A) (n : ℕ) → n < length xs → slice_get (xs ++ ys) n ≡ slice_get xs n
get_first [] ys n h = absurd (omega arith)
get_first (x ∷ xs) ys zero h = refl
get_first (x ∷ xs) ys (suc n) h = get_first xs ys n (omega arith)

get_second : {A : Type 0} (xs ys : List A) (n : ℕ) → length xs ≤ n → slice_get (xs ++ ys) n ≡ slice_get ys (n - length xs)
get_second [] ys n h = let same : n ≡ n - 0 = omega arith in ap (slice_get ys) same
get_second (x ∷ xs) ys zero h = absurd (omega arith)
get_second (x ∷ xs) ys (suc n) h = let same : n - length xs ≡ suc n - suc (length xs) = omega arith in get_second xs ys n (omega arith) ∙ ap (slice_get ys) same

-- the statement that is looked for is of this event
pub found : (applier : Applier) (events : List RowEvent) (i left number : ℕ) (event : RowEvent) → i < length events → event ≡ get_or events i event → slice_get (planned applier (drop i events)) left ≡ slice_get (planned applier events) number → left < length (event_doings applier event)
    → slice_get (event_doings applier event) left ≡ slice_get (planned applier events) number
found applier events i left number event within is kept here =
    sym (get_first (event_doings applier event) (planned applier (drop (i + 1) events)) left here)
    ∙ ap (λ all. slice_get all left) (sym (planned_more applier events i event within is)) ∙ kept

-- it is of a later one
pub passed : (applier : Applier) (events : List RowEvent) (i left number : ℕ) (event : RowEvent) → i < length events → event ≡ get_or events i event → slice_get (planned applier (drop i events)) left ≡ slice_get (planned applier events) number → length (event_doings applier event) ≤ left
    → slice_get (planned applier (drop (i + 1) events)) (left - length (event_doings applier event)) ≡ slice_get (planned applier events) number
passed applier events i left number event within is kept past =
    sym (get_second (event_doings applier event) (planned applier (drop (i + 1) events)) left past)
    ∙ ap (λ all. slice_get all left) (sym (planned_more applier events i event within is)) ∙ kept

-- nothing is planned behind the last event
nothing_left : (applier : Applier) (events : List RowEvent) (i : ℕ) → length events ≤ i → planned applier (drop i events) ≡ []
unfolding planned
nothing_left applier events i past = ap (planned applier) (drop_all i events past)

-- all are counted
pub all_counted : (applier : Applier) (events : List RowEvent) (i count : ℕ) → length events ≤ i → count + length (planned applier (drop i events)) ≡ length (planned applier events) → count ≡ length (planned applier events)
all_counted applier events i count past kept = omega (arith, kept, ap length (nothing_left applier events i past))

-- what is looked for isn't there
pub not_found : (applier : Applier) (events : List RowEvent) (i left number : ℕ) → length events ≤ i → slice_get (planned applier (drop i events)) left ≡ slice_get (planned applier events) number → None ≡ slice_get (planned applier events) number
not_found applier events i left number past kept = ap (λ (all : List Doing). slice_get all left) (sym (nothing_left applier events i past)) ∙ kept

-- an UPDATE that changes a key, and one that doesn't
pub apart : (schema : Schema) (map : List MapColumn) (before after : List Value) → changes_key schema (given_values map before) (given_values map after) ≡ true → doings schema map (Update before after) ≡ Removing before ∷ Putting after ∷ []
apart schema map before after changes = ap (λ (test : Bool). if test then Removing before ∷ Putting after ∷ [] else Changing before after ∷ []) changes

pub in_place : (schema : Schema) (map : List MapColumn) (before after : List Value) → changes_key schema (given_values map before) (given_values map after) ≡ false → doings schema map (Update before after) ≡ Changing before after ∷ []
in_place schema map before after keeps = ap (λ (test : Bool). if test then Removing before ∷ Putting after ∷ [] else Changing before after ∷ []) keeps

-- so many more
pub counted : (applier : Applier) (events : List RowEvent) (i count : ℕ) (event : RowEvent) → i < length events → event ≡ get_or events i event → count + length (planned applier (drop i events)) ≡ length (planned applier events)
    → count + length (event_doings applier event) + length (planned applier (drop (i + 1) events)) ≡ length (planned applier events)
counted applier events i count event within is kept =
    omega (arith, kept, ap length (planned_more applier events i event within is), length-append (event_doings applier event) (planned applier (drop (i + 1) events)))
