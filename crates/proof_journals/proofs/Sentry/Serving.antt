-- *The premises of the sentry relation from what the server gives.*
use Rattle.std.proofs.Common.{◌≡◌, ◌≢◌, ℕ, nat_eq, Bool, true, false, not, cond, List, [], ◌∷◌, refl, sym, ap, ◌∙◌, inl, inr}
use Rattle.std.specs.Prelude.{◌⊎◌, Ok, Err}
use Rattle.std.proofs.lemmas.Bool.{false_from_ne_true, false≢true, ne_eqb, or_right}
use Rattle.std.proofs.lemmas.Slice.Eq.{bytes_eq-Decides}
use Rattle.std.specs.List.{AllByRecursion, list_any}
use Rattle.std.specs.Str.{bytes_eq}
use Rattle.base_values.specs.declared.event.RowEvent.{RowEvent}
use Rattle.server_locks.specs.MetadataLocks.Grants.{holds, blocker_of_name}
use Rattle.table_store.specs.Databases.{Database, has_table, without_table, rename_tables}
use Rattle.table_store.specs.declared.renames.Pair.{Pair}
use Rattle.table_store.specs.declared.renames.NotRenamed.TheVariants.{Exists}
use Rattle.proof_journals.specs.Sentry.Sentries.{scene, OthersHold, OthersTurn, RenameWaits, FreesLock, OnlyFreesLock, TakesLock, DropsSentry}
use Rattle.proof_journals.specs.Sentry.TurnResults.{IsRenamed}
use Rattle.proof_journals.specs.ServerTurns.Others.{TurnOf, IsGrantedName, MayWrite, IsAlone, held_at}
use Rattle.proof_journals.specs.Sentry.Turns.{LocksAreTaken, LogsNothing, Defines}
use Rattle.server_model.specs.States.{State, names_in, waiters}
use Rattle.plan_data.specs.PlanData.{PlanData}
use Rattle.base_values.specs.ToolNames.{old_name, ghost_name}
use Rattle.tool_program.specs.CutoverCore.Attempts.{exchange}
use Rattle.tool_program.specs.EventApplier.Appliers.{events_of}

-- what a session that holds no lock on the table, and is granted none, commits is of other tables
none_written : (t : List ℕ) (s : ℕ) (before : State) (events : List RowEvent) → holds (held_at before) s t false ≡ false → (IsGrantedName before s t false → ⊥) → AllByRecursion (λ event. MayWrite before s event.table) events → events_of t events ≡ []
none_written t s before [] lacks refused written = refl
none_written t s before (event ∷ events) lacks refused written = by (bytes_eq event.table t) refl (none_written t s before events lacks refused written.1)
  where
    never : bytes_eq event.table t ≡ true → MayWrite before s event.table → ⊥
    never is (inl has) = false≢true (sym lacks ∙ ap (λ name. holds (held_at before) s name false) (sym ((bytes_eq-Decides event.table t).0 is)) ∙ has)
    never is (inr granted) = refused (ap (λ name. blocker_of_name (held_at before) (waiters before.waiting) s name false) (sym ((bytes_eq-Decides event.table t).0 is)) ∙ granted)

    by : (b : Bool) → bytes_eq event.table t ≡ b → events_of t events ≡ [] → cond b (event ∷ events_of t events) (events_of t events) ≡ []
    by true is more = absurd (never is written.0)
    by false is more = more

others : (t : List ℕ) (s : ℕ) {takes : Bool} (before after : State) → TurnOf takes s before after → OthersHold t s (held_at before) (held_at after)
others t s before after turn other name x apart = turn.others other name x (ne_eqb other s apart)

pub waits_on : (t : List ℕ) (r s : ℕ) {takes : Bool} (before after : State) → TurnOf takes s before after → r ≢ s → RenameWaits t (scene before) r → RenameWaits t (scene after) r
waits_on t r s before after turn apart waits = turn.waits r t (ne_eqb r s apart) ∙ waits

-- *Another session's turn*: a client's, the copier's, the applier's, the inspector's
pub others_turn : (t : List ℕ) (r s : ℕ) (before after : State) → r ≢ s → TurnOf false s before after → OthersTurn t r s (scene before) (scene after)
others_turn t r s before after apart turn =
    record {
      old_stays = stands (turn.tables (old_name t));
      others = others t s before after turn;
      granted = λ lacks has. shared (turn.granted t lacks has);
      waits = waits_on t r s before after turn apart;
      events = turn.events;
      log = turn.log;
      written = λ lacks refused. none_written t s before turn.events lacks refused turn.written;
    }
  where
    stands : (has_table (old_name t) after.tables ≡ has_table (old_name t) before.tables) ⊎ ((false ≡ true) × IsGrantedName before s (old_name t) true) → has_table (old_name t) after.tables ≡ has_table (old_name t) before.tables
    stands (inl same) = same
    stands (inr never) = absurd (false≢true never.0)

    shared : (exclusive : Bool) × (exclusive ≡ true → false ≡ true) × IsGrantedName before s t exclusive → IsGrantedName before s t false
    shared (true, never, granted) = absurd (false≢true (never refl))
    shared (false, never, granted) = granted

-- *The locker's locks are freed*: UNLOCK, or the loss of its session
pub frees_lock : (t : List ℕ) (l r : ℕ) {takes : Bool} (before after : State) → r ≢ l → TurnOf takes l before after → LogsNothing before after → FreesLock t l r (scene before) (scene after)
frees_lock t l r before after apart turn none = record { others = others t l before after turn; log = none; waits = waits_on t r l before after turn apart }

pub only_frees : (t : List ℕ) (l r : ℕ) {takes : Bool} (before after : State) → r ≢ l → TurnOf takes l before after → LogsNothing before after → Defines before after → OnlyFreesLock t l r (scene before) (scene after)
only_frees t l r before after apart turn none stays = record { frees = frees_lock t l r before after apart turn none; tables = stays (old_name t) }

-- *LOCK TABLES, done*
name_in : (t : List ℕ) (names : List (List ℕ)) → list_any (bytes_eq t) (t ∷ names) ≡ true
name_in t names = rw ((bytes_eq-Decides t t).1 refl) refl

pub takes_lock : (t : List ℕ) (l : ℕ) (before after : State) → LocksAreTaken (t ∷ old_name t ∷ []) l after → ((other : ℕ) → (nat_eq other l) ≡ false → holds (held_at after) other t false ≡ false) → Defines before after → TakesLock t l (scene before) (scene after)
takes_lock t l before after taken alone stays =
    record {
      tables = stays (old_name t);
      locked = record { own = taken t (name_in t (old_name t ∷ [])); old = taken (old_name t) (or_right (bytes_eq (old_name t) t) _ (name_in (old_name t) [])); alone = λ other apart. alone other (ne_eqb other l apart) };
    }

-- *The sentry's DROP, done*: what DROP leaves has no table of the name
gone : (name : List ℕ) (tables : Database) → has_table name (without_table name tables) ≡ false
gone name [] = refl
gone name (table ∷ tables) = by (bytes_eq table.schema.name name) refl (gone name tables)
  where
    by : (b : Bool) → bytes_eq table.schema.name name ≡ b → has_table name (without_table name tables) ≡ false → has_table name (cond (not b) (table ∷ without_table name tables) (without_table name tables)) ≡ false
    by true is more = more
    by false is more = rw is more

pub drops_sentry : (t : List ℕ) (before after : State) → after.tables ≡ without_table (old_name t) before.tables → (held_at after) ≡ (held_at before) → LogsNothing before after → DropsSentry t (scene before) (scene after)
drops_sentry t before after tables names none = record { gone = ap (has_table (old_name t)) tables ∙ gone (old_name t) before.tables; held = names; log = none }

-- *The RENAME that is done* found the old table's name free
exchange_free : (t : List ℕ) (pairs : List Pair) (pair : Pair) (tables after : Database) → rename_tables (pair ∷ pairs) tables ≡ Ok after → has_table pair.new tables ≡ false
unfolding rename_tables
exchange_free t pairs pair tables after e = false_from_ne_true (has_table pair.new tables) (λ is. never is e)
  where
    never : has_table pair.new tables ≡ true → rename_tables (pair ∷ pairs) tables ≡ Ok after → ⊥
    never is e = by (rw is at e)
      where
        by : Err Exists ≡ Ok after → ⊥
        by e = cc

abbrev pub exchanged : List ℕ → List Pair
exchanged t = record { old = t; new = old_name t } ∷ record { old = ghost_name t; new = t } ∷ []

exchange_names : (t : List ℕ) → list_any (bytes_eq t) (names_in (exchange t)) ≡ true
exchange_names t = rw ((bytes_eq-Decides t t).1 refl) refl

pub is_renamed : (plan : PlanData) (r : ℕ) (before after : State) → rename_tables (exchanged plan.table) before.tables ≡ Ok after.tables → IsAlone (exchange plan.table) r before after → IsRenamed plan before r
is_renamed plan r before after renamed alone =
    record {
      free = exchange_free plan.table (record { old = ghost_name plan.table; new = plan.table } ∷ []) (record { old = plan.table; new = old_name plan.table }) before.tables after.tables renamed;
      alone = λ other apart. alone.alone other plan.table (ne_eqb other r apart) (exchange_names plan.table);
    }
