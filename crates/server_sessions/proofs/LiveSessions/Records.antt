-- The records of sessions, with what the tables of locks have of them, while sessions change.
use Rattle.std.proofs.Common.{◌≡◌, ◌⊎◌, inl, inr, ◌∙◌, ℕ, ◌+◌, Bool, true, false, not, cond, List, [], ◌∷◌, ◌++◌, map, filter, is_some, Option, Some, None, refl, sym, ap, subst}
use Rattle.std.specs.Prelude.{◌==◌}
use Rattle.std.specs.List.{AllByRecursion}
use Rattle.std.specs.Option.{option_map}
use Rattle.std.proofs.lemmas.Bool.{true≢false}
use Rattle.std.proofs.lemmas.List.{map-append}
use Rattle.base_values.specs.declared.event.RowEvent.{RowEvent}
use Rattle.server_locks.specs.declared.row_locks.lock.Lock.{Lock}
use Rattle.server_locks.specs.declared.row_locks.lock.HeldLock.{HeldLock}
use Rattle.server_locks.specs.RowLocks.LockTable.{LockTable, held_by, freed}
use Rattle.server_locks.specs.RowLocks.SameLocks.{HasLock, SameLocks}
use Rattle.server_locks.specs.MetadataLocks.Grants as grants
use Rattle.server_locks.specs.MetadataLocks.LockTable.{NameTable, granted, let_go, taken}
use Rattle.server_locks.proofs.LeastSession.Kept.{both}
use Rattle.server_model.specs.declared.need.Need.{Need}
use Rattle.server_model.specs.declared.session.HeldName.{HeldName}
use Rattle.server_model.specs.declared.session.Session.{Session}
use Rattle.server_model.specs.declared.session.Waiting.{Waiting}
use Rattle.server_model.specs.PlainServer.{at_rest, counting, holding, locking, unlocking}
use Rattle.server_model.specs.States.{kept_names, locks_held, new_session, session_of, with_session}
use Rattle.server_model.proofs.LockedRows.Tests.{are_one}
use Rattle.server_sessions.specs.declared.grant.Grant.{Grant}
use Rattle.server_sessions.specs.LiveSessions.KeptSessions.{ArePlaced, IsPlaced, KeptSession, grant_of, held_name, kept_at_rest, kept_counting, kept_holding, kept_locking, kept_of, kept_unlocking, name_of, new_kept, record_of, records_of, rows_of, with_kept}
use Rattle.server_sessions.specs.LiveSessions.SessionLists.{AreInTables, AreOwned, Differ, HaveNames, NumberedSessions}
use Rattle.server_sessions.proofs.LiveSessions.Grants.{after_grant, all_kept, granted_names, granted_places, left, left_names, left_places, name_elsewhere, name_stays, names_stay, place_elsewhere, place_stays}
use Rattle.server_sessions.proofs.LiveSessions.HeldNames.{names_granted, names_joined, names_less, names_let_go, names_same, stays}
use Rattle.server_sessions.proofs.LiveSessions.HeldLocks.{has_either, has_first, has_second, no_rows, others_freed, others_granted, row_here, row_there, rows_freed, rows_granted, without}
use Rattle.server_sessions.proofs.LiveSessions.SessionLists.{below, live_within, owned_grown, owned_joined, owned_less, owned_rested, owned_same}

-- THE RECORDS, WITH WHAT THE TABLES HAVE

-- each grant of the session has its place
abbrev Placed : List grants.HeldName → KeptSession → Type 0
Placed names session = AllByRecursion (IsPlaced names session.number) session.granted

-- what is kept of a session, with these row locks and names
abbrev with_locks : KeptSession → List Lock → List HeldName → Session
with_locks session rows names =
    record { number = session.number; is_tool = session.is_tool; in_transaction = session.in_transaction; writes = session.writes; row_locks = rows; names = names; polls = session.polls }

both_locks : (session : KeptSession) (rows after : List Lock) (names next : List HeldName) → after ≡ rows → next ≡ names → with_locks session after next ≡ with_locks session rows names
both_locks session rows after names next same alike = ap (λ (r : List Lock). with_locks session r next) same ∙ ap (with_locks session rows) alike

-- no session of these has the number
abbrev AreOther : ℕ → List Session → Type 0
AreOther number sessions = AllByRecursion (λ (other : Session). (other.number == number) ≡ false) sessions

-- sessions but one have what they had
same_records : (rows after : List HeldLock) (names next : List grants.HeldName) (number : ℕ) (sessions : List KeptSession) → ((s : KeptSession) → (s.number == number) ≡ false → Placed names s → record_of after next s ≡ record_of rows names s)
    → AreOther number (records_of rows names sessions) → ArePlaced names sessions → records_of after next sessions ≡ records_of rows names sessions
same_records rows after names next number [] others apart placed = refl
same_records rows after names next number (session ∷ sessions) others apart placed =
    ap (λ (s : Session). s ∷ records_of after next sessions) (others session apart.0 placed.0) ∙ ap (λ (rest : List Session). record_of rows names session ∷ rest) (same_records rows after names next number sessions others apart.1 placed.1)

-- a change of one session, with which its locks change
records_changed : (rows after : List HeldLock) (names next : List grants.HeldName) (number : ℕ) (inner : KeptSession → KeptSession) (outer : Session → Session) (sessions : List KeptSession)
    → ((s : KeptSession) → s.number ≡ number → Placed names s → record_of after next (inner s) ≡ outer (record_of rows names s)) → ((s : KeptSession) → (s.number == number) ≡ false → Placed names s → record_of after next s ≡ record_of rows names s)
    → Differ (records_of rows names sessions) → ArePlaced names sessions → records_of after next (with_kept number inner sessions) ≡ with_session number outer (records_of rows names sessions)
unfolding with_session with_kept
records_changed rows after names next number inner outer [] own others differ placed = refl
records_changed rows after names next number inner outer (session ∷ sessions) own others differ placed = at (session.number == number) refl (records_changed rows after names next number inner outer sessions own others differ.1 placed.1) where
  at : (b : Bool) → (session.number == number) ≡ b → records_of after next (with_kept number inner sessions) ≡ with_session number outer (records_of rows names sessions)
      → records_of after next (cond b (inner session ∷ sessions) (session ∷ with_kept number inner sessions)) ≡ cond b (outer (record_of rows names session) ∷ records_of rows names sessions) (record_of rows names session ∷ with_session number outer (records_of rows names sessions))
  at true is rest =
      let same = are_one session.number number is in
      ap (λ (s : Session). s ∷ records_of after next sessions) (own session same placed.0)
      ∙ ap (λ (more : List Session). outer (record_of rows names session) ∷ more) (same_records rows after names next number sessions others (subst (λ (n : ℕ). AreOther n (records_of rows names sessions)) same differ.0) placed.1)
  at false is rest =
      ap (λ (s : Session). s ∷ records_of after next (with_kept number inner sessions)) (others session is placed.0) ∙ ap (λ (more : List Session). record_of rows names session ∷ more) rest

other_places : (rows : List HeldLock) (names next : List grants.HeldName) (number : ℕ) (sessions : List KeptSession) → ((s : KeptSession) → (s.number == number) ≡ false → Placed names s → Placed next s) → AreOther number (records_of rows names sessions) → ArePlaced names sessions → ArePlaced next sessions
other_places rows names next number [] others apart placed = tt
other_places rows names next number (session ∷ sessions) others apart placed = (others session apart.0 placed.0, other_places rows names next number sessions others apart.1 placed.1)

-- the grants have their places then
places_changed : (rows : List HeldLock) (names next : List grants.HeldName) (number : ℕ) (inner : KeptSession → KeptSession) (sessions : List KeptSession) → ((s : KeptSession) → s.number ≡ number → Placed names s → Placed next (inner s))
    → ((s : KeptSession) → (s.number == number) ≡ false → Placed names s → Placed next s) → Differ (records_of rows names sessions) → ArePlaced names sessions → ArePlaced next (with_kept number inner sessions)
unfolding with_kept
places_changed rows names next number inner [] own others differ placed = tt
places_changed rows names next number inner (session ∷ sessions) own others differ placed = at (session.number == number) refl (places_changed rows names next number inner sessions own others differ.1 placed.1) where
  at : (b : Bool) → (session.number == number) ≡ b → ArePlaced next (with_kept number inner sessions) → ArePlaced next (cond b (inner session ∷ sessions) (session ∷ with_kept number inner sessions))
  at true is rest =
      let same = are_one session.number number is in
      (own session same placed.0, other_places rows names next number sessions others (subst (λ (n : ℕ). AreOther n (records_of rows names sessions)) same differ.0) placed.1)
  at false is rest = (others session is placed.0, rest)

-- ONE SESSION'S RECORD

pub record_found : (rows : List HeldLock) (names : List grants.HeldName) (number : ℕ) (sessions : List KeptSession) → session_of number (records_of rows names sessions) ≡ option_map (record_of rows names) (kept_of number sessions)
record_found rows names number [] = refl
record_found rows names number (session ∷ sessions) = at (session.number == number) (record_found rows names number sessions) where
  at : (b : Bool) → session_of number (records_of rows names sessions) ≡ option_map (record_of rows names) (kept_of number sessions)
      → cond b (Some (record_of rows names session)) (session_of number (records_of rows names sessions)) ≡ option_map (record_of rows names) (cond b (Some session) (kept_of number sessions))
  at true rest = refl
  at false rest = rest

-- what doesn't look at locks is told of what is kept
pub told_alike : {B : Type 0} (f : Option KeptSession → B) (g : Option Session → B) (list : NumberedSessions) (number : ℕ) (rows : List HeldLock) (names : List grants.HeldName) (sessions : List KeptSession) → f None ≡ g None
    → ((s : KeptSession) → f (Some s) ≡ g (Some (record_of rows names s))) → records_of rows names sessions ≡ list.sessions → f (kept_of number sessions) ≡ g (session_of number list.sessions)
told_alike f g list number rows names sessions none some seen = at (kept_of number sessions) ∙ ap g (sym (record_found rows names number sessions)) ∙ ap (λ (all : List Session). g (session_of number all)) seen where
  at : (one : Option KeptSession) → f one ≡ g (option_map (record_of rows names) one)
  at None = none
  at (Some s) = some s

live_record : (rows : List HeldLock) (names : List grants.HeldName) (number : ℕ) (sessions : List KeptSession) → is_some (kept_of number sessions) ≡ true → is_some (session_of number (records_of rows names sessions)) ≡ true
live_record rows names number sessions live = ap is_some (record_found rows names number sessions) ∙ some_is (kept_of number sessions) ∙ live where
  some_is : (one : Option KeptSession) → is_some (option_map (record_of rows names) one) ≡ is_some one
  some_is None = refl
  some_is (Some s) = refl

-- WHAT EACH CALL LEAVES

-- one session more
pub records_joined : (made : ℕ) (is_tool : Bool) (sessions : List KeptSession) (rows : List HeldLock) (names : List grants.HeldName) → AreOwned made (records_of rows names sessions) rows
    → records_of rows names (sessions ++ new_kept (made + 1) is_tool ∷ []) ≡ records_of rows names sessions ++ new_session (made + 1) is_tool ∷ []
records_joined made is_tool sessions rows names owned =
    map-append (record_of rows names) sessions (new_kept (made + 1) is_tool ∷ [])
    ∙ ap (λ (locks : List Lock). records_of rows names sessions ++ (record (new_session (made + 1) is_tool) { row_locks = locks }) ∷ [])
    (no_rows (made + 1) rows (λ one has. below made one.session (live_within made one.session (records_of rows names sessions) owned.within (owned.live one has))))

pub tables_joined : (made : ℕ) (is_tool : Bool) (sessions : List KeptSession) (waiting : List Waiting) (rows : List HeldLock) (table : NameTable) → AreInTables made sessions waiting rows table → AreInTables (made + 1) (sessions ++ new_kept (made + 1) is_tool ∷ []) waiting rows table
tables_joined made is_tool sessions waiting rows table are =
    let joined = sym (records_joined made is_tool sessions rows table.held are.rows) in
    record {
      rows = subst (λ (all : List Session). AreOwned (made + 1) all rows) joined (owned_joined made is_tool (records_of rows table.held sessions) rows are.rows);
      places = both (Placed table.held) sessions (new_kept (made + 1) is_tool ∷ []) are.places (tt, tt);
      names = subst (λ (all : List Session). HaveNames all table.held) joined (names_joined (made + 1) is_tool (records_of rows table.held sessions) table.held are.names);
      waits = are.waits;
    }

-- polls are counted
pub records_counted : (made number polls : ℕ) (sessions : List KeptSession) (waiting : List Waiting) (rows : List HeldLock) (table : NameTable) → AreInTables made sessions waiting rows table
    → records_of rows table.held (with_kept number (kept_counting polls) sessions) ≡ with_session number (counting polls) (records_of rows table.held sessions)
records_counted made number polls sessions waiting rows table are =
    records_changed rows rows table.held table.held number (kept_counting polls) (counting polls) sessions (λ s is placed. refl) (λ s other placed. refl) are.rows.differ are.places

pub tables_counted : (made number polls : ℕ) (sessions : List KeptSession) (waiting : List Waiting) (rows : List HeldLock) (table : NameTable) → AreInTables made sessions waiting rows table → AreInTables made (with_kept number (kept_counting polls) sessions) waiting rows table
tables_counted made number polls sessions waiting rows table are =
    let counted = sym (records_counted made number polls sessions waiting rows table are) in
    record {
      rows = subst (λ (all : List Session). AreOwned made all rows) counted (owned_same made number (counting polls) (records_of rows table.held sessions) rows (λ s. refl) are.rows);
      places = places_changed rows table.held table.held number (kept_counting polls) sessions (λ s is placed. placed) (λ s other placed. placed) are.rows.differ are.places;
      names = subst (λ (all : List Session). HaveNames all table.held) counted (names_same number (counting polls) (records_of rows table.held sessions) table.held (λ s. refl) (λ s. refl) are.names);
      waits = are.waits;
    }

-- the grants of names that the table has just given to the session
abbrev pub new_grants : List grants.HeldName → ℕ → Bool → List (List ℕ) → List Grant
new_grants held number exclusive names = map (grant_of (after_grant held number exclusive names) number exclusive) names

granted_before : (held : List grants.HeldName) (number : ℕ) (exclusive : Bool) (names : List (List ℕ)) (s : KeptSession) → Placed held s → map (name_of (after_grant held number exclusive names) s.number) s.granted ≡ map (name_of held s.number) s.granted
granted_before held number exclusive names s placed = names_stay held (after_grant held number exclusive names) s.number s.granted (name_stays held (taken held number exclusive names) s.number) placed

-- what the session names then
granted_too : (held : List grants.HeldName) (number : ℕ) (exclusive : Bool) (names : List (List ℕ)) (s : KeptSession) → s.number ≡ number → Placed held s
    → map (name_of (after_grant held number exclusive names) s.number) (s.granted ++ new_grants held number exclusive names) ≡ map (name_of held s.number) s.granted ++ map (held_name exclusive) names
granted_too held number exclusive names s is placed =
    map-append (name_of (after_grant held number exclusive names) s.number) s.granted (new_grants held number exclusive names)
    ∙ ap (λ (first : List HeldName). first ++ map (name_of (after_grant held number exclusive names) s.number) (new_grants held number exclusive names)) (granted_before held number exclusive names s placed)
    ∙ ap (λ (n : ℕ). map (name_of held s.number) s.granted ++ map (name_of (after_grant held number exclusive names) n) (new_grants held number exclusive names)) is
    ∙ ap (λ (more : List HeldName). map (name_of held s.number) s.granted ++ more) (granted_names held number exclusive names)

placed_before : (held : List grants.HeldName) (number : ℕ) (exclusive : Bool) (names : List (List ℕ)) (s : KeptSession) → Placed held s → Placed (after_grant held number exclusive names) s
placed_before held number exclusive names s placed = all_kept (IsPlaced held s.number) (IsPlaced (after_grant held number exclusive names) s.number) (place_stays held (taken held number exclusive names) s.number) s.granted placed

placed_too : (held : List grants.HeldName) (number : ℕ) (exclusive : Bool) (names : List (List ℕ)) (s : KeptSession) → s.number ≡ number → Placed held s → AllByRecursion (IsPlaced (after_grant held number exclusive names) s.number) (s.granted ++ new_grants held number exclusive names)
placed_too held number exclusive names s is placed =
    both (IsPlaced (after_grant held number exclusive names) s.number) s.granted (new_grants held number exclusive names) (placed_before held number exclusive names s placed)
    (subst (λ (n : ℕ). AllByRecursion (IsPlaced (after_grant held number exclusive names) n) (new_grants held number exclusive names)) (sym is) (granted_places held number exclusive names))

-- a session goes on with what it was granted
abbrev pub rows_after : List HeldLock → ℕ → Need → List HeldLock
rows_after rows number need = rows ++ map (held_by number) need.locks

pub records_grown : (made number : ℕ) (need : Need) (events : List RowEvent) (sessions : List KeptSession) (waiting : List Waiting) (rows : List HeldLock) (table : NameTable) → AreInTables made sessions waiting rows table
    → records_of (rows_after rows number need) (after_grant table.held number false need.names) (with_kept number (kept_holding (new_grants table.held number false need.names) events) sessions) ≡ with_session number (holding need events) (records_of rows table.held sessions)
records_grown made number need events sessions waiting rows table are =
    records_changed rows (rows_after rows number need) table.held (after_grant table.held number false need.names) number (kept_holding (new_grants table.held number false need.names) events) (holding need events) sessions own
    (λ s other placed. both_locks s (rows_of s.number rows) (rows_of s.number (rows_after rows number need)) (map (name_of table.held s.number) s.granted) (map (name_of (after_grant table.held number false need.names) s.number) s.granted)
    (others_granted number s.number need.locks rows other) (granted_before table.held number false need.names s placed))
    are.rows.differ are.places
  where
    own : (s : KeptSession) → s.number ≡ number → Placed table.held s → record_of (rows_after rows number need) (after_grant table.held number false need.names) (kept_holding (new_grants table.held number false need.names) events s) ≡ holding need events (record_of rows table.held s)
    own s is placed =
        both_locks (kept_holding (new_grants table.held number false need.names) events s) (rows_of s.number rows ++ need.locks) (rows_of s.number (rows_after rows number need))
        (map (name_of table.held s.number) s.granted ++ map (held_name false) need.names) (map (name_of (after_grant table.held number false need.names) s.number) (s.granted ++ new_grants table.held number false need.names))
        (ap (λ (n : ℕ). rows_of s.number (rows ++ map (held_by n) need.locks)) (sym is) ∙ rows_granted s.number need.locks rows)
        (granted_too table.held number false need.names s is placed)

pub tables_grown : (made number : ℕ) (need : Need) (events : List RowEvent) (sessions : List KeptSession) (waiting : List Waiting) (rows : List HeldLock) (table : NameTable) → is_some (kept_of number sessions) ≡ true → AreInTables made sessions waiting rows table
    → AreInTables made (with_kept number (kept_holding (new_grants table.held number false need.names) events) sessions) waiting (rows_after rows number need) (granted table number false need.names)
tables_grown made number need events sessions waiting rows table live are =
    let grown = sym (records_grown made number need events sessions waiting rows table are) in
    record {
      rows = subst (λ (all : List Session). AreOwned made all (rows_after rows number need)) grown (owned_grown made number need.locks (holding need events) (records_of rows table.held sessions) rows (λ s. refl) (live_record rows table.held number sessions live) are.rows);
      places = places_changed rows table.held (after_grant table.held number false need.names) number (kept_holding (new_grants table.held number false need.names) events) sessions (placed_too table.held number false need.names) (λ s other placed. placed_before table.held number false need.names s placed) are.rows.differ are.places;
      names = subst (λ (all : List Session). HaveNames all (after_grant table.held number false need.names)) grown (names_granted number false need.names (holding need events) (records_of rows table.held sessions) table.held (λ s. refl) (λ s. refl) (live_record rows table.held number sessions live) are.names);
      waits = are.waits;
    }

-- a session locks tables
pub records_locked : (made number : ℕ) (names : List (List ℕ)) (sessions : List KeptSession) (waiting : List Waiting) (rows : List HeldLock) (table : NameTable) → AreInTables made sessions waiting rows table
    → records_of rows (after_grant table.held number true names) (with_kept number (kept_locking (new_grants table.held number true names)) sessions) ≡ with_session number (locking names) (records_of rows table.held sessions)
records_locked made number names sessions waiting rows table are =
    records_changed rows rows table.held (after_grant table.held number true names) number (kept_locking (new_grants table.held number true names)) (locking names) sessions
    (λ s is placed. ap (with_locks s (rows_of s.number rows)) (granted_too table.held number true names s is placed))
    (λ s other placed. ap (with_locks s (rows_of s.number rows)) (granted_before table.held number true names s placed)) are.rows.differ are.places

pub tables_locked : (made number : ℕ) (names : List (List ℕ)) (sessions : List KeptSession) (waiting : List Waiting) (rows : List HeldLock) (table : NameTable) → is_some (kept_of number sessions) ≡ true → AreInTables made sessions waiting rows table
    → AreInTables made (with_kept number (kept_locking (new_grants table.held number true names)) sessions) waiting rows (granted table number true names)
tables_locked made number names sessions waiting rows table live are =
    let locked = sym (records_locked made number names sessions waiting rows table are) in
    record {
      rows = subst (λ (all : List Session). AreOwned made all rows) locked (owned_same made number (locking names) (records_of rows table.held sessions) rows (λ s. refl) are.rows);
      places = places_changed rows table.held (after_grant table.held number true names) number (kept_locking (new_grants table.held number true names)) sessions (placed_too table.held number true names) (λ s other placed. placed_before table.held number true names s placed) are.rows.differ are.places;
      names = subst (λ (all : List Session). HaveNames all (after_grant table.held number true names)) locked (names_granted number true names (locking names) (records_of rows table.held sessions) table.held (λ s. refl) (λ s. refl) (live_record rows table.held number sessions live) are.names);
      waits = are.waits;
    }

-- a session lets go of what it holds exclusively, or shared
left_too : (held : List grants.HeldName) (number : ℕ) (exclusive : Bool) (s : KeptSession) → s.number ≡ number
    → map (name_of (left number exclusive held) s.number) (filter (λ (g : Grant). stays exclusive g.exclusive) s.granted) ≡ filter (λ (o : HeldName). stays exclusive o.exclusive) (map (name_of held s.number) s.granted)
left_too held number exclusive s is =
    subst (λ (n : ℕ). map (name_of (left n exclusive held) s.number) (filter (λ (g : Grant). stays exclusive g.exclusive) s.granted) ≡ filter (λ (o : HeldName). stays exclusive o.exclusive) (map (name_of held s.number) s.granted)) is
    (left_names s.number exclusive held s.granted)

left_placed : (held : List grants.HeldName) (number : ℕ) (exclusive : Bool) (s : KeptSession) → s.number ≡ number → Placed held s → AllByRecursion (IsPlaced (left number exclusive held) s.number) (filter (λ (g : Grant). stays exclusive g.exclusive) s.granted)
left_placed held number exclusive s is placed =
    subst (λ (n : ℕ). AllByRecursion (IsPlaced (left n exclusive held) s.number) (filter (λ (g : Grant). stays exclusive g.exclusive) s.granted)) is (left_places s.number exclusive held s.granted placed)

map_same : {A B : Type 0} (f g : A → B) → ((x : A) → f x ≡ g x) → (xs : List A) → map f xs ≡ map g xs
map_same f g same [] = refl
map_same f g same (x ∷ xs) = ap (λ rest. f x ∷ rest) (map_same f g same xs) ∙ ap (λ first. first ∷ map g xs) (same x)

elsewhere_named : (held : List grants.HeldName) (number : ℕ) (exclusive : Bool) (s : KeptSession) → (s.number == number) ≡ false → map (name_of (left number exclusive held) s.number) s.granted ≡ map (name_of held s.number) s.granted
elsewhere_named held number exclusive s other = map_same (name_of (left number exclusive held) s.number) (name_of held s.number) (name_elsewhere number s.number exclusive held other) s.granted

elsewhere_placed : (held : List grants.HeldName) (number : ℕ) (exclusive : Bool) (s : KeptSession) → (s.number == number) ≡ false → Placed held s → Placed (left number exclusive held) s
elsewhere_placed held number exclusive s other placed = all_kept (IsPlaced held s.number) (IsPlaced (left number exclusive held) s.number) (place_elsewhere number s.number exclusive held other) s.granted placed

-- a transaction is over
pub records_rested : (made number : ℕ) (sessions : List KeptSession) (waiting : List Waiting) (t : LockTable) (table : NameTable) → AreInTables made sessions waiting t.held table
    → records_of (freed t number).held (left number false table.held) (with_kept number kept_at_rest sessions) ≡ with_session number at_rest (records_of t.held table.held sessions)
records_rested made number sessions waiting t table are =
    records_changed t.held (freed t number).held table.held (left number false table.held) number kept_at_rest at_rest sessions
    (λ s is placed. both_locks (kept_at_rest s) [] (rows_of s.number (freed t number).held) (kept_names (map (name_of table.held s.number) s.granted)) (map (name_of (left number false table.held) s.number) (filter (λ (g : Grant). g.exclusive) s.granted))
    (ap (λ (n : ℕ). rows_of n (freed t number).held) is ∙ rows_freed number t) (left_too table.held number false s is))
    (λ s other placed. both_locks s (rows_of s.number t.held) (rows_of s.number (freed t number).held) (map (name_of table.held s.number) s.granted) (map (name_of (left number false table.held) s.number) s.granted)
    (others_freed number s.number t other) (elsewhere_named table.held number false s other))
    are.rows.differ are.places

pub tables_rested : (made number : ℕ) (sessions : List KeptSession) (waiting : List Waiting) (t : LockTable) (table : NameTable) → AreInTables made sessions waiting t.held table
    → AreInTables made (with_kept number kept_at_rest sessions) waiting (freed t number).held (let_go table number false)
tables_rested made number sessions waiting t table are =
    let rested = sym (records_rested made number sessions waiting t table are) in
    record {
      rows = subst (λ (all : List Session). AreOwned made all (freed t number).held) rested (owned_rested made number (records_of t.held table.held sessions) t are.rows);
      places = places_changed t.held table.held (left number false table.held) number kept_at_rest sessions (left_placed table.held number false) (elsewhere_placed table.held number false) are.rows.differ are.places;
      names = subst (λ (all : List Session). HaveNames all (left number false table.held)) rested (names_let_go number false at_rest (records_of t.held table.held sessions) table.held (λ s. refl) (λ s. refl) are.names);
      waits = are.waits;
    }

-- a session unlocks its tables
pub records_unlocked : (made number : ℕ) (sessions : List KeptSession) (waiting : List Waiting) (rows : List HeldLock) (table : NameTable) → AreInTables made sessions waiting rows table
    → records_of rows (left number true table.held) (with_kept number kept_unlocking sessions) ≡ with_session number unlocking (records_of rows table.held sessions)
records_unlocked made number sessions waiting rows table are =
    records_changed rows rows table.held (left number true table.held) number kept_unlocking unlocking sessions
    (λ s is placed. ap (with_locks s (rows_of s.number rows)) (left_too table.held number true s is))
    (λ s other placed. ap (with_locks s (rows_of s.number rows)) (elsewhere_named table.held number true s other)) are.rows.differ are.places

pub tables_unlocked : (made number : ℕ) (sessions : List KeptSession) (waiting : List Waiting) (rows : List HeldLock) (table : NameTable) → AreInTables made sessions waiting rows table
    → AreInTables made (with_kept number kept_unlocking sessions) waiting rows (let_go table number true)
tables_unlocked made number sessions waiting rows table are =
    let unlocked = sym (records_unlocked made number sessions waiting rows table are) in
    record {
      rows = subst (λ (all : List Session). AreOwned made all rows) unlocked (owned_same made number unlocking (records_of rows table.held sessions) rows (λ s. refl) are.rows);
      places = places_changed rows table.held (left number true table.held) number kept_unlocking sessions (left_placed table.held number true) (elsewhere_placed table.held number true) are.rows.differ are.places;
      names = subst (λ (all : List Session). HaveNames all (left number true table.held)) unlocked (names_let_go number true unlocking (records_of rows table.held sessions) table.held (λ s. refl) (λ s. refl) are.names);
      waits = are.waits;
    }

-- a session is gone
abbrev kept_without : ℕ → List KeptSession → List KeptSession
kept_without number sessions = filter (λ (session : KeptSession). not (session.number == number)) sessions

-- the names that others hold
abbrev names_without : ℕ → List grants.HeldName → List grants.HeldName
names_without number held = left number false (left number true held)

pub records_less : (number : ℕ) (sessions : List KeptSession) (t : LockTable) (held : List grants.HeldName) → records_of (freed t number).held (names_without number held) (kept_without number sessions) ≡ without number (records_of t.held held sessions)
records_less number [] t held = refl
records_less number (session ∷ sessions) t held = at (session.number == number) refl (records_less number sessions t held) where
  after : List Session
  after = records_of (freed t number).held (names_without number held) (kept_without number sessions)

  at : (b : Bool) → (session.number == number) ≡ b → after ≡ without number (records_of t.held held sessions)
      → records_of (freed t number).held (names_without number held) (cond (not b) (session ∷ kept_without number sessions) (kept_without number sessions))
      ≡ cond (not b) (record_of t.held held session ∷ without number (records_of t.held held sessions)) (without number (records_of t.held held sessions))
  at true is rest = rest
  at false is rest =
      ap (λ (s : Session). s ∷ after)
      (both_locks session (rows_of session.number t.held) (rows_of session.number (freed t number).held) (map (name_of held session.number) session.granted) (map (name_of (names_without number held) session.number) session.granted)
      (others_freed number session.number t is) (elsewhere_named (left number true held) number false session is ∙ elsewhere_named held number true session is))
      ∙ ap (λ (more : List Session). record_of t.held held session ∷ more) rest

places_less : (number : ℕ) (sessions : List KeptSession) (held : List grants.HeldName) → ArePlaced held sessions → ArePlaced (names_without number held) (kept_without number sessions)
places_less number [] held placed = tt
places_less number (session ∷ sessions) held placed = at (session.number == number) refl (places_less number sessions held placed.1) where
  at : (b : Bool) → (session.number == number) ≡ b → ArePlaced (names_without number held) (kept_without number sessions) → ArePlaced (names_without number held) (cond (not b) (session ∷ kept_without number sessions) (kept_without number sessions))
  at true is rest = rest
  at false is rest = (elsewhere_placed (left number true held) number false session is (elsewhere_placed held number true session is placed.0), rest)

pub tables_less : (made number : ℕ) (sessions : List KeptSession) (waiting : List Waiting) (t : LockTable) (table : NameTable) → AreInTables made sessions waiting t.held table
    → AreInTables made (filter (λ (session : KeptSession). not (session.number == number)) sessions) waiting (freed t number).held (let_go (let_go table number true) number false)
tables_less made number sessions waiting t table are =
    let less = sym (records_less number sessions t table.held) in
    record {
      rows = subst (λ (all : List Session). AreOwned made all (freed t number).held) less (owned_less made number (records_of t.held table.held sessions) t are.rows);
      places = places_less number sessions table.held are.places;
      names = subst (λ (all : List Session). HaveNames all (names_without number table.held)) less (names_less number (records_of t.held table.held sessions) table.held are.names);
      waits = are.waits;
    }

-- THE TABLES OF ROW LOCKS AND OF NAMES

row_found : (rows : List HeldLock) (names : List grants.HeldName) (one : HeldLock) (sessions : List KeptSession) → HasLock rows one → is_some (session_of one.session (records_of rows names sessions)) ≡ true → HasLock (locks_held (records_of rows names sessions)) one
row_found rows names one [] has live = absurd (true≢false (sym live))
row_found rows names one (session ∷ sessions) has live = at (session.number == one.session) refl live (row_found rows names one sessions has) where
  at : (b : Bool) → (session.number == one.session) ≡ b → is_some (cond b (Some (record_of rows names session)) (session_of one.session (records_of rows names sessions))) ≡ true
      → (is_some (session_of one.session (records_of rows names sessions)) ≡ true → HasLock (locks_held (records_of rows names sessions)) one) → HasLock (locks_held (records_of rows names (session ∷ sessions))) one
  at true is live rest = has_first (map (held_by session.number) (rows_of session.number rows)) (locks_held (records_of rows names sessions)) one (row_there session.number rows one has (sym (are_one session.number one.session is)))
  at false is live rest = has_second (map (held_by session.number) (rows_of session.number rows)) (locks_held (records_of rows names sessions)) one (rest live)

row_owned : (rows : List HeldLock) (names : List grants.HeldName) (one : HeldLock) (sessions : List KeptSession) → HasLock (locks_held (records_of rows names sessions)) one → HasLock rows one
row_owned rows names one [] has = absurd has
row_owned rows names one (session ∷ sessions) has = at (has_either (map (held_by session.number) (rows_of session.number rows)) (locks_held (records_of rows names sessions)) one has) (row_owned rows names one sessions) where
  at : HasLock (map (held_by session.number) (rows_of session.number rows)) one ⊎ HasLock (locks_held (records_of rows names sessions)) one → (HasLock (locks_held (records_of rows names sessions)) one → HasLock rows one) → HasLock rows one
  at (inl own) rest = row_here session.number rows one own
  at (inr more) rest = rest more

-- the table of row locks has the same locks as all sessions
pub same_locks : (made : ℕ) (sessions : List KeptSession) (rows : List HeldLock) (names : List grants.HeldName) → AreOwned made (records_of rows names sessions) rows → SameLocks rows (locks_held (records_of rows names sessions))
same_locks made sessions rows names owned = record { there = λ one has. row_found rows names one sessions has (owned.live one has); here = λ one has. row_owned rows names one sessions has }
