-- Serial histories are those that the model gives.
use Rattle.std.proofs.Common.{◌≡◌, List, [], ◌∷◌, ◌++◌, map, Option, Some, None, refl, sym, ap, ◌∙◌, subst}
use Rattle.std.specs.List.{flat_map}
use Rattle.std.specs.Option.{option_and_then}
use Rattle.table_store.specs.Databases.{Database}
use Rattle.base_values.proofs.SchemaRules.Steps.{some_is}
use Rattle.server_model.specs.Alone.{alone}
use Rattle.server_model.specs.declared.transaction.Reply.{Reply}
use Rattle.plan_data.specs.PlanData.{PlanData}
use Rattle.tool_program.specs.JournalWords.Histories.{HistoryItem, Past}
use Rattle.tool_program.specs.JournalWords.Histories as histories
use Rattle.tool_program.specs.JournalWords.Serials.{Serial, altered_database}
use Rattle.test_histories.specs.Histories.{serial_run, history_step_of, replies_given, with_replies}
use Rattle.test_histories.specs.Laws.{SerialIsAlone}
use Rattle.test_histories.specs.declared.histories.InOrder.{InOrder}

abbrev Gives : PlanData → Database → List HistoryItem → Database → Type 0
Gives plan before items after = serial_run plan before (map history_step_of items) ≡ Some (record { replies = flat_map replies_given items; tables = after })

serial_gives : (plan : PlanData) (before : Database) (items : List HistoryItem) (after : Database) → Serial plan before items after → Gives plan before items after
unfolding serial_run
serial_gives plan before [] after is = ap (λ (tables : Database). Some (record { replies = []; tables = tables })) (sym is)
serial_gives plan before (histories.Txn past ∷ items) after is =
    let later : Gives plan (alone before past.txn.lines).tables items after = subst (λ (tables : Database). Gives plan tables items after) is.1.1 (serial_gives plan is.0 items after is.2) in
    ap (with_replies ((alone before past.txn.lines).replies ∷ [])) later
    ∙ ap (λ (one : List Reply). Some (record { replies = one ∷ flat_map replies_given items; tables = after })) (sym is.1.0)
serial_gives plan before (histories.Alter ∷ items) after is = ap (option_and_then (λ tables. serial_run plan tables (map history_step_of items))) is.1 ∙ serial_gives plan is.0 items after is.2

-- what stands behind the first replies
record IsLater (one given : List Reply) (others : List (List Reply)) (after : Database) (found : Option InOrder) : Type 0 where
  pub same : given ≡ one
  pub later : found ≡ Some (record { replies = others; tables = after })

later_is : (one given : List Reply) (others : List (List Reply)) (after : Database) (found : Option InOrder) → with_replies (one ∷ []) found ≡ Some (record { replies = given ∷ others; tables = after }) → IsLater one given others after found
later_is one given others after None is = absurd cc
later_is one given others after (Some later) is =
    let both = some_is (record { replies = one ∷ later.replies; tables = later.tables }) (record { replies = given ∷ others; tables = after }) is in
    let replies : one ∷ later.replies ≡ given ∷ others = ap (λ (o : InOrder). o.replies) both in
    let tables : later.tables ≡ after = ap (λ (o : InOrder). o.tables) both in
    let first : one ≡ given = cc in
    let rest : later.replies ≡ others = cc in
    record { same = sym first; later = ap (λ (all : List (List Reply)). Some (record { replies = all; tables = later.tables })) rest ∙ ap (λ (left : Database). Some (record { replies = others; tables = left })) tables }

gives_serial : (plan : PlanData) (before : Database) (items : List HistoryItem) (after : Database) → Gives plan before items after → Serial plan before items after
unfolding serial_run
gives_serial plan before [] after is = sym (ap (λ (o : InOrder). o.tables) (some_is (record { replies = []; tables = before }) (record { replies = []; tables = after }) is))
gives_serial plan before (histories.Txn past ∷ items) after is =
    let later = later_is (alone before past.txn.lines).replies past.replies (flat_map replies_given items) after (serial_run plan (alone before past.txn.lines).tables (map history_step_of items)) is in
    ((alone before past.txn.lines).tables, (later.same, refl), gives_serial plan (alone before past.txn.lines).tables items after later.later)
gives_serial plan before (histories.Alter ∷ items) after is = by (altered_database plan before) refl is (λ between. gives_serial plan between items after) where
  by : (found : Option Database) → altered_database plan before ≡ found → option_and_then (λ tables. serial_run plan tables (map history_step_of items)) found ≡ Some (record { replies = flat_map replies_given items; tables = after })
      → ((between : Database) → Gives plan between items after → Serial plan between items after) → Serial plan before (histories.Alter ∷ items) after
  by None none is later = absurd cc
  by (Some between) some is later = (between, some, later between is)

-- *Serial is alone*
pub serial_is_alone : SerialIsAlone
serial_is_alone plan before items after = (serial_gives plan before items after, gives_serial plan before items after)
