-- Faces of sessions after a grant, at rest and with tables locked; and events of one table.
use Rattle.std.proofs.Common.{◌≡◌, ℕ, Bool, true, false, not, List, [], ◌∷◌, ◌++◌, map, cond, Option, Some, None, refl, ap}
use Rattle.base_values.specs.declared.event.RowEvent.{RowEvent}
use Rattle.base_values.specs.declared.event.Change.{Change}
use Rattle.table_store.specs.Databases.{TableRows, Database, find_table}
use Rattle.server_model.specs.declared.session.Session.{Session}
use Rattle.server_model.specs.declared.session.HeldName.{HeldName}
use Rattle.server_model.specs.Operations.{Operation, result_in, operation_result, events_of}
use Rattle.server_model.specs.StatementResults.{tells}
use Rattle.proof_journals.specs.Scenes.{Scene, is_mine, EventsMine, SessionHold, no_hold}
use Rattle.proof_journals.specs.Holdings.{face_in, names_of}
use Rattle.server_model.specs.declared.need.Need.{Need}
use Rattle.server_model.specs.PlainServer.{at_rest, exclusive, holding, locking, shared, unlocking}
use Rattle.server_model.specs.States.{kept_names, locked_names, shared_names}

abbrev pub hold_in : Session → SessionHold
hold_in found = (face_in (Some found)).hold

-- by whether a name is exclusive
shared_more : (held : List HeldName) (names : List (List ℕ)) → names_of (shared_names (held ++ map shared names)) ≡ names_of (shared_names held) ++ names
shared_more [] [] = refl
shared_more [] (name ∷ names) = ap (λ (ns : List (List ℕ)). name ∷ ns) (shared_more [] names)
shared_more (h ∷ held) names = at (not h.exclusive) (shared_more held names) where
  at : (b : Bool) → names_of (shared_names (held ++ map shared names)) ≡ names_of (shared_names held) ++ names → names_of (cond b (h ∷ shared_names (held ++ map shared names)) (shared_names (held ++ map shared names))) ≡ names_of (cond b (h ∷ shared_names held) (shared_names held)) ++ names
  at true rest = ap (λ (ns : List (List ℕ)). h.name ∷ ns) rest
  at false rest = rest

locked_more : (held : List HeldName) (names : List (List ℕ)) → locked_names (held ++ map shared names) ≡ locked_names held
locked_more [] [] = refl
locked_more [] (name ∷ names) = locked_more [] names
locked_more (h ∷ held) names = at h.exclusive (locked_more held names) where
  at : (b : Bool) → locked_names (held ++ map shared names) ≡ locked_names held → names_of (cond b (h ∷ kept_names (held ++ map shared names)) (kept_names (held ++ map shared names))) ≡ names_of (cond b (h ∷ kept_names held) (kept_names held))
  at true rest = ap (λ (ns : List (List ℕ)). h.name ∷ ns) rest
  at false rest = rest

shared_kept : (held : List HeldName) → names_of (shared_names (kept_names held)) ≡ []
shared_kept [] = refl
shared_kept (h ∷ held) = at h.exclusive refl (shared_kept held) where
  at : (b : Bool) → h.exclusive ≡ b → names_of (shared_names (kept_names held)) ≡ [] → names_of (shared_names (cond b (h ∷ kept_names held) (kept_names held))) ≡ []
  at true is rest = rw is rest
  at false is rest = rest

kept_kept : (held : List HeldName) → locked_names (kept_names held) ≡ locked_names held
kept_kept [] = refl
kept_kept (h ∷ held) = at h.exclusive refl (kept_kept held) where
  at : (b : Bool) → h.exclusive ≡ b → locked_names (kept_names held) ≡ locked_names held → locked_names (cond b (h ∷ kept_names held) (kept_names held)) ≡ names_of (cond b (h ∷ kept_names held) (kept_names held))
  at true is rest = rw is (ap (λ (ns : List (List ℕ)). h.name ∷ ns) rest)
  at false is rest = rest

shared_locking : (held : List HeldName) (names : List (List ℕ)) → names_of (shared_names (held ++ map exclusive names)) ≡ names_of (shared_names held)
shared_locking [] [] = refl
shared_locking [] (name ∷ names) = shared_locking [] names
shared_locking (h ∷ held) names = at (not h.exclusive) (shared_locking held names) where
  at : (b : Bool) → names_of (shared_names (held ++ map exclusive names)) ≡ names_of (shared_names held)
      → names_of (cond b (h ∷ shared_names (held ++ map exclusive names)) (shared_names (held ++ map exclusive names))) ≡ names_of (cond b (h ∷ shared_names held) (shared_names held))
  at true rest = ap (λ (ns : List (List ℕ)). h.name ∷ ns) rest
  at false rest = rest

locked_locking : (held : List HeldName) (names : List (List ℕ)) → locked_names (held ++ map exclusive names) ≡ locked_names held ++ names
locked_locking [] [] = refl
locked_locking [] (name ∷ names) = ap (λ (ns : List (List ℕ)). name ∷ ns) (locked_locking [] names)
locked_locking (h ∷ held) names = at h.exclusive (locked_locking held names) where
  at : (b : Bool) → locked_names (held ++ map exclusive names) ≡ locked_names held ++ names
      → names_of (cond b (h ∷ kept_names (held ++ map exclusive names)) (kept_names (held ++ map exclusive names))) ≡ names_of (cond b (h ∷ kept_names held) (kept_names held)) ++ names
  at true rest = ap (λ (ns : List (List ℕ)). h.name ∷ ns) rest
  at false rest = rest

shared_unlocking : (held : List HeldName) → names_of (shared_names (shared_names held)) ≡ names_of (shared_names held)
shared_unlocking [] = refl
shared_unlocking (h ∷ held) = at (not h.exclusive) refl (shared_unlocking held) where
  at : (b : Bool) → not h.exclusive ≡ b → names_of (shared_names (shared_names held)) ≡ names_of (shared_names held) → names_of (shared_names (cond b (h ∷ shared_names held) (shared_names held))) ≡ names_of (cond b (h ∷ shared_names held) (shared_names held))
  at true is rest = rw is (ap (λ (ns : List (List ℕ)). h.name ∷ ns) rest)
  at false is rest = rest

locked_unlocking : (held : List HeldName) → locked_names (shared_names held) ≡ []
locked_unlocking [] = refl
locked_unlocking (h ∷ held) = at h.exclusive refl (locked_unlocking held) where
  at : (b : Bool) → h.exclusive ≡ b → locked_names (shared_names held) ≡ [] → locked_names (cond (not b) (h ∷ shared_names held) (shared_names held)) ≡ []
  at true is rest = rest
  at false is rest = rw is rest

pub holding_face : (need : Need) (events : List RowEvent) (found : Session)
    → face_in (Some (holding need events found)) ≡ record { hold = record { names = (hold_in found).names ++ need.names; locks = (hold_in found).locks ++ need.locks; writes = (hold_in found).writes ++ events }; locked = locked_names found.names; busy = true }
holding_face need events found = rw (shared_more found.names need.names, locked_more found.names need.names) refl

pub rests_face : (found : Session) → face_in (Some (at_rest found)) ≡ record { hold = no_hold; locked = locked_names found.names; busy = false }
rests_face found = rw (shared_kept found.names, kept_kept found.names) refl

pub locking_face : (names : List (List ℕ)) (found : Session) → face_in (Some (locking names found)) ≡ record { hold = hold_in found; locked = locked_names found.names ++ names; busy = found.in_transaction }
locking_face names found = rw (shared_locking found.names names, locked_locking found.names names) refl

pub unlocking_face : (found : Session) → face_in (Some (unlocking found)) ≡ record { hold = hold_in found; locked = []; busy = found.in_transaction }
unlocking_face found = rw (shared_unlocking found.names, locked_unlocking found.names) refl

-- events of one table
mine_each : (scene : Scene) (own : Bool) (table : List ℕ) (changes : List Change) → is_mine scene table ≡ own → EventsMine scene own (events_of table changes)
mine_each scene own table [] is = tt
mine_each scene own table (change ∷ changes) is = (is, mine_each scene own table changes is)

mine_in : (scene : Scene) (own : Bool) (task : Operation) (found : Option TableRows) → is_mine scene task.table ≡ own → EventsMine scene own (result_in task found).events
mine_in scene own task None is = tt
mine_in scene own task (Some table) is = mine_each scene own task.table (tells table.schema table.rows (task.work table.schema)).changes is

pub said_mine : (scene : Scene) (own : Bool) (tables : Database) (task : Operation) → is_mine scene task.table ≡ own → EventsMine scene own (operation_result tables task).events
unfolding operation_result
said_mine scene own tables task is = mine_in scene own task (find_table task.table tables) is

pub mine_both : (scene : Scene) (own : Bool) (a b : List RowEvent) → EventsMine scene own a → EventsMine scene own b → EventsMine scene own (a ++ b)
mine_both scene own [] b one two = two
mine_both scene own (event ∷ a) b one two = (one.0, mine_both scene own a b one.1 two)
