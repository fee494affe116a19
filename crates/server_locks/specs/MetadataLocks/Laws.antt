-- What holds of the table of names whatever calls were made. The functions of the module `laws` prove each.
use Rattle.std.specs.Prelude.{◌≡◌, ◌≢◌, ℕ, Bool, true, false, ◌&&◌, ◌||◌, nat_eq, List, [], ◌∷◌, ◌++◌, fold, None, AllPairs, ◌⊎◌}
use Rattle.std.specs.Cmp.Lexicographic.{pointwise}
use Rattle.std.specs.List.{AllByRecursion}
use Rattle.server_locks.specs.declared.metadata_locks.request.Waiter.{Waiter}
use Rattle.server_locks.specs.declared.metadata_locks.request.LockAnswer.TheVariants as answers
use Rattle.server_locks.specs.MetadataLocks.Grants.{HeldName, has_name, holds, blocker_of_name, answer_by}
use Rattle.server_locks.specs.MetadataLocks.LockTable.{NameTable, blocker_of, asked, polled, freed, undone, ended}

-- A call that may change the table. An ask says whether it is for exclusive locks.
pub data Call : Type 0 where
  Ask : ℕ → Bool → List (List ℕ) → Call
  Poll : ℕ → Call
  Free : ℕ → Call
  Undo : Call
  End : ℕ → Call

-- After one call.
abbrev pub called : NameTable → Call → NameTable
called t (Ask session exclusive names) = asked t session exclusive names
called t (Poll session) = polled t session
called t (Free session) = freed t session
called t Undo = undone t
called t (End session) = ended t session

-- No name is held or waited for.
abbrev pub no_names : NameTable
no_names = record { held = []; waiting = []; last = None }

-- Two locks are on one name, and one of them is exclusive.
abbrev pub conflict : HeldName → HeldName → Bool
conflict a b = pointwise nat_eq a.name b.name && (a.exclusive || b.exclusive)

-- Two locks that are held are compatible: one session holds both, or they don't conflict.
abbrev pub Bear : HeldName → HeldName → Type 0
Bear a b = a.session ≢ b.session → conflict a b ≡ false

-- Locks on names that different sessions hold never conflict, whatever list of calls was made.
abbrev pub HeldNamesBear : Type 0
HeldNamesBear = (calls : List Call) → AllPairs Bear (fold called no_names calls).held

-- Where an ask is granted the session then holds each of the names, exclusively where that was asked; else nothing more is held.
abbrev pub GrantsWhole : Type 0
GrantsWhole =
    (t : NameTable) (session : ℕ) (exclusive : Bool) (names : List (List ℕ))
    → ((answer_by (blocker_of t session exclusive names) ≡ answers.Granted) × AllByRecursion (λ name. holds (asked t session exclusive names).held session name exclusive ≡ true) names)
    ⊎ ((answer_by (blocker_of t session exclusive names) ≢ answers.Granted) × ((asked t session exclusive names).held ≡ t.held))

-- Where a request waits for a name, no other session is granted a shared lock on it that holds no lock on it yet: whoever comes
-- later waits after the request.
abbrev pub WaitersGoFirst : Type 0
WaitersGoFirst =
    (held : List HeldName) (front following : List Waiter) (waiter : Waiter) (session : ℕ) (name : List ℕ)
    → has_name waiter.names name ≡ true → waiter.session ≢ session → holds held session name false ≡ false
    → blocker_of_name held (front ++ waiter ∷ following) session name false ≢ None
