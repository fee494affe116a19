-- What grants name, while the table of names changes.
use Rattle.std.proofs.Common.{◌≡◌, inl, inr, ◌∙◌, ℕ, suc, ◌+◌, ◌<◌, Bool, true, false, not, ◌&&◌, cond, nat_eq, List, [], ◌∷◌, ◌++◌, map, filter, length, get_or, refl, sym, ap, subst, arith}
use Rattle.std.specs.Prelude.{◌==◌}
use Rattle.std.specs.List.{AllByRecursion}
use Rattle.std.specs.Cmp.Lexicographic.{pointwise}
use Rattle.std.proofs.lemmas.Bool.{and_parts, true≢false}
use Rattle.std.proofs.lemmas.List.{get_or_append_left, length-append}
use Rattle.std.proofs.lemmas.List.Sums.{passes_at_first}
use Rattle.server_locks.specs.MetadataLocks.Grants as grants
use Rattle.server_locks.specs.MetadataLocks.LockTable.{held_by, is_own, own_names, place_among, taken}
use Rattle.server_locks.specs.MetadataLocks.SameNames.{HasName}
use Rattle.server_locks.proofs.MetadataLocks.OwnNames.{own_names-append}
use Rattle.server_model.specs.declared.session.HeldName.{HeldName}
use Rattle.server_model.proofs.LockedRows.Tests.{are_same, same_bytes, same_number, turned}
use Rattle.server_sessions.specs.declared.grant.Grant.{Grant}
use Rattle.server_sessions.specs.LiveSessions.KeptSessions.{IsPlaced, grant_of, held_name, name_of}
use Rattle.server_sessions.specs.LiveSessions.SessionLists.{HasOwn}
use Rattle.server_sessions.proofs.LiveSessions.HeldLocks.{apart_from}
use Rattle.server_sessions.proofs.LiveSessions.HeldNames.{granted_here, stays}

pub all_kept : {X : Type 0} (P Q : X → Type 0) → ((x : X) → P x → Q x) → (xs : List X) → AllByRecursion P xs → AllByRecursion Q xs
all_kept P Q gives [] all = tt
all_kept P Q gives (x ∷ xs) all = (gives x all.0, all_kept P Q gives xs all.1)

-- MORE IS GRANTED: what is there stays where it is

pub name_stays : (held more : List grants.HeldName) (number : ℕ) (grant : Grant) → IsPlaced held number grant → name_of (held ++ more) number grant ≡ name_of held number grant
name_stays held more number grant within =
    ap (λ (names : List (List ℕ)). held_name grant.exclusive (get_or names grant.place [])) (own_names-append number grant.exclusive held more)
    ∙ ap (held_name grant.exclusive) (get_or_append_left (own_names number grant.exclusive held) (own_names number grant.exclusive more) [] grant.place within)

pub place_stays : (held more : List grants.HeldName) (number : ℕ) (grant : Grant) → IsPlaced held number grant → IsPlaced (held ++ more) number grant
place_stays held more number grant within =
    let longer : length (own_names number grant.exclusive (held ++ more)) ≡ length (own_names number grant.exclusive held) + length (own_names number grant.exclusive more) =
    ap length (own_names-append number grant.exclusive held more) ∙ length-append (own_names number grant.exclusive held) (own_names number grant.exclusive more) in
    omega (arith, longer, within)

-- what each grant names is the same
pub names_stay : (held after : List grants.HeldName) (number : ℕ) (granted : List Grant) → ((grant : Grant) → IsPlaced held number grant → name_of after number grant ≡ name_of held number grant) → AllByRecursion (IsPlaced held number) granted
    → map (name_of after number) granted ≡ map (name_of held number) granted
names_stay held after number [] each placed = refl
names_stay held after number (grant ∷ granted) each placed =
    ap (λ (name : HeldName). name ∷ map (name_of after number) granted) (each grant placed.0) ∙ ap (λ (names : List HeldName). name_of held number grant ∷ names) (names_stay held after number granted each placed.1)

-- WHAT IS GRANTED NEWLY

abbrev names_in : List grants.HeldName → List (List ℕ)
names_in held = map (λ (one : grants.HeldName). one.name) held

-- the name is one of these
abbrev IsAmong : List ℕ → List (List ℕ) → Type 0
IsAmong name names = place_among names name < length names

first_among : (b : Bool) (name : List ℕ) (lock : grants.HeldName) (held : List grants.HeldName) → b ≡ true → pointwise nat_eq lock.name name ≡ true → IsAmong name (names_in (cond b (lock ∷ held) held))
first_among true name lock held own same = at (not (pointwise nat_eq lock.name name)) (ap not same) where
  at : (c : Bool) → c ≡ false → cond c (1 + place_among (names_in held) name) 0 < suc (length (names_in held))
  at true is = absurd (true≢false is)
  at false is = omega arith
first_among false name lock held own same = absurd (true≢false (sym own))

later_among : (b : Bool) (name : List ℕ) (lock : grants.HeldName) (held : List grants.HeldName) → IsAmong name (names_in held) → IsAmong name (names_in (cond b (lock ∷ held) held))
later_among true name lock held among = at (not (pointwise nat_eq lock.name name)) where
  at : (c : Bool) → cond c (1 + place_among (names_in held) name) 0 < suc (length (names_in held))
  at true = omega (arith, among)
  at false = omega arith
later_among false name lock held among = among

own_lock : (number : ℕ) (exclusive : Bool) (name : List ℕ) → is_own number exclusive (held_by number exclusive name) ≡ true
own_lock number exclusive name = ap (λ (b : Bool). b && cond exclusive exclusive (not exclusive)) (same_number number) ∙ way exclusive where
  way : (b : Bool) → cond b b (not b) ≡ true
  way true = refl
  way false = refl

-- a lock of the session is among those of its way
among : (number : ℕ) (exclusive : Bool) (name : List ℕ) (held : List grants.HeldName) → HasName held (held_by number exclusive name) → IsAmong name (own_names number exclusive held)
among number exclusive name [] has = absurd has
among number exclusive name (lock ∷ held) (inl is) =
    first_among (is_own number exclusive lock) name lock (filter (is_own number exclusive) held) (ap (is_own number exclusive) is ∙ own_lock number exclusive name) (ap (λ (l : grants.HeldName). pointwise nat_eq l.name name) is ∙ same_bytes name)
among number exclusive name (lock ∷ held) (inr has) = later_among (is_own number exclusive lock) name lock (filter (is_own number exclusive) held) (among number exclusive name held has)

each_own : (number : ℕ) (exclusive : Bool) (names : List (List ℕ)) → AllByRecursion (λ (name : List ℕ). HasOwn (map (held_name exclusive) names) (held_by number exclusive name)) names
each_own number exclusive [] = tt
each_own number exclusive (name ∷ names) =
    (inl (refl, refl), all_kept (λ (n : List ℕ). HasOwn (map (held_name exclusive) names) (held_by number exclusive n)) (λ (n : List ℕ). HasOwn (map (held_name exclusive) (name ∷ names)) (held_by number exclusive n)) (λ n has. inr has) names (each_own number exclusive names))

-- each name that is granted is there then
all_among : (table : List grants.HeldName) (number : ℕ) (exclusive : Bool) (names : List (List ℕ)) → AllByRecursion (λ (name : List ℕ). IsAmong name (own_names number exclusive (table ++ taken table number exclusive names))) names
all_among table number exclusive names =
    all_kept (λ (n : List ℕ). HasOwn (map (held_name exclusive) names) (held_by number exclusive n)) (λ (n : List ℕ). IsAmong n (own_names number exclusive (table ++ taken table number exclusive names)))
    (λ n has. among number exclusive n (table ++ taken table number exclusive names) (granted_here table number exclusive names (held_by number exclusive n) refl has)) names (each_own number exclusive names)

new_name : (held : List grants.HeldName) (number : ℕ) (exclusive : Bool) (name : List ℕ) → IsAmong name (own_names number exclusive held) → name_of held number (grant_of held number exclusive name) ≡ held_name exclusive name
new_name held number exclusive name is =
    ap (held_name exclusive) (are_same (get_or (own_names number exclusive held) (place_among (own_names number exclusive held) name) []) name (passes_at_first (λ (other : List ℕ). pointwise nat_eq other name) (own_names number exclusive held) [] is))

names_new : (held : List grants.HeldName) (number : ℕ) (exclusive : Bool) (names : List (List ℕ)) → AllByRecursion (λ (name : List ℕ). IsAmong name (own_names number exclusive held)) names
    → map (name_of held number) (map (grant_of held number exclusive) names) ≡ map (held_name exclusive) names
names_new held number exclusive [] all = refl
names_new held number exclusive (name ∷ names) all =
    ap (λ (one : HeldName). one ∷ map (name_of held number) (map (grant_of held number exclusive) names)) (new_name held number exclusive name all.0)
    ∙ ap (λ (more : List HeldName). held_name exclusive name ∷ more) (names_new held number exclusive names all.1)

places_new : (held : List grants.HeldName) (number : ℕ) (exclusive : Bool) (names : List (List ℕ)) → AllByRecursion (λ (name : List ℕ). IsAmong name (own_names number exclusive held)) names
    → AllByRecursion (IsPlaced held number) (map (grant_of held number exclusive) names)
places_new held number exclusive [] all = tt
places_new held number exclusive (name ∷ names) all = (all.0, places_new held number exclusive names all.1)

-- the table once names were granted, and their grants
abbrev pub after_grant : List grants.HeldName → ℕ → Bool → List (List ℕ) → List grants.HeldName
after_grant held number exclusive names = held ++ taken held number exclusive names

pub granted_names : (held : List grants.HeldName) (number : ℕ) (exclusive : Bool) (names : List (List ℕ)) → map (name_of (after_grant held number exclusive names) number) (map (grant_of (after_grant held number exclusive names) number exclusive) names) ≡ map (held_name exclusive) names
granted_names held number exclusive names = names_new (after_grant held number exclusive names) number exclusive names (all_among held number exclusive names)

pub granted_places : (held : List grants.HeldName) (number : ℕ) (exclusive : Bool) (names : List (List ℕ)) → AllByRecursion (IsPlaced (after_grant held number exclusive names) number) (map (grant_of (after_grant held number exclusive names) number exclusive) names)
granted_places held number exclusive names = places_new (after_grant held number exclusive names) number exclusive names (all_among held number exclusive names)

-- WHAT IS LET GO

-- the locks without those that the session holds exclusively, or shared
abbrev pub left : ℕ → Bool → List grants.HeldName → List grants.HeldName
left number exclusive held = filter (λ (lock : grants.HeldName). not (is_own number exclusive lock)) held

own_if : (b : Bool) (lock : grants.HeldName) (held : List grants.HeldName) → names_in (cond b (lock ∷ held) held) ≡ cond b (lock.name ∷ names_in held) (names_in held)
own_if true lock held = refl
own_if false lock held = refl

-- those of another session or way are as they were
own_left : (number other : ℕ) (exclusive way : Bool) (held : List grants.HeldName) → ((lock : grants.HeldName) → is_own other way lock ≡ true → is_own number exclusive lock ≡ false) → own_names other way (left number exclusive held) ≡ own_names other way held
own_left number other exclusive way [] apart = refl
own_left number other exclusive way (lock ∷ held) apart = at (is_own number exclusive lock) (is_own other way lock) (apart lock) refl (own_left number other exclusive way held apart) where
  at : (b own : Bool) → (own ≡ true → b ≡ false) → is_own other way lock ≡ own → own_names other way (left number exclusive held) ≡ own_names other way held
      → own_names other way (cond (not b) (lock ∷ left number exclusive held) (left number exclusive held)) ≡ own_names other way (lock ∷ held)
  at true true leaves is rest = absurd (true≢false (leaves refl))
  at true false leaves is rest = rest ∙ sym (ap (λ (c : Bool). names_in (cond c (lock ∷ filter (is_own other way) held) (filter (is_own other way) held))) is)
  at false own leaves is rest =
      own_if (is_own other way lock) lock (filter (is_own other way) (left number exclusive held)) ∙ ap (λ (names : List (List ℕ)). cond (is_own other way lock) (lock.name ∷ names) names) rest
      ∙ sym (own_if (is_own other way lock) lock (filter (is_own other way) held))

other_session : (number other : ℕ) (exclusive way : Bool) → (other == number) ≡ false → (lock : grants.HeldName) → is_own other way lock ≡ true → is_own number exclusive lock ≡ false
other_session number other exclusive way apart lock own =
    let parts = and_parts (lock.session == other) (cond way lock.exclusive (not lock.exclusive)) own in
    ap (λ (b : Bool). b && cond exclusive lock.exclusive (not lock.exclusive)) (apart_from lock.session other number parts.0 (turned other number apart))

other_way : (number : ℕ) (exclusive way : Bool) → stays exclusive way ≡ true → (lock : grants.HeldName) → is_own number way lock ≡ true → is_own number exclusive lock ≡ false
other_way number exclusive way stay lock own = at exclusive way (lock.session == number) lock.exclusive stay own where
  at : (e w same so : Bool) → stays e w ≡ true → (same && cond w so (not so)) ≡ true → (same && cond e so (not so)) ≡ false
  at true true same so stay own = absurd (true≢false (sym stay))
  at false false same so stay own = absurd (true≢false (sym stay))
  at true false false so stay own = refl
  at false true false so stay own = refl
  at true false true true stay own = absurd (true≢false (sym own))
  at true false true false stay own = refl
  at false true true true stay own = refl
  at false true true false stay own = absurd (true≢false (sym own))

-- a grant to another session, or in the other way, names what it named
abbrev name_as : Grant → List (List ℕ) → HeldName
name_as grant names = held_name grant.exclusive (get_or names grant.place [])

pub name_elsewhere : (number other : ℕ) (exclusive : Bool) (held : List grants.HeldName) → (other == number) ≡ false → (grant : Grant) → name_of (left number exclusive held) other grant ≡ name_of held other grant
name_elsewhere number other exclusive held apart grant = ap (name_as grant) (own_left number other exclusive grant.exclusive held (other_session number other exclusive grant.exclusive apart))

pub place_elsewhere : (number other : ℕ) (exclusive : Bool) (held : List grants.HeldName) → (other == number) ≡ false → (grant : Grant) → IsPlaced held other grant → IsPlaced (left number exclusive held) other grant
place_elsewhere number other exclusive held apart grant placed = subst (λ (names : List (List ℕ)). grant.place < length names) (sym (own_left number other exclusive grant.exclusive held (other_session number other exclusive grant.exclusive apart))) placed

way_left : (number : ℕ) (exclusive : Bool) (held : List grants.HeldName) (grant : Grant) → stays exclusive grant.exclusive ≡ true → own_names number grant.exclusive (left number exclusive held) ≡ own_names number grant.exclusive held
way_left number exclusive held grant stay = own_left number number exclusive grant.exclusive held (other_way number exclusive grant.exclusive stay)

pub left_names : (number : ℕ) (exclusive : Bool) (held : List grants.HeldName) (granted : List Grant) → map (name_of (left number exclusive held) number) (filter (λ (g : Grant). stays exclusive g.exclusive) granted) ≡ filter (λ (o : HeldName). stays exclusive o.exclusive) (map (name_of held number) granted)
left_names number exclusive held [] = refl
left_names number exclusive held (grant ∷ granted) = at (stays exclusive grant.exclusive) refl (left_names number exclusive held granted) where
  few : List Grant
  few = filter (λ (g : Grant). stays exclusive g.exclusive) granted

  names : List HeldName
  names = filter (λ (o : HeldName). stays exclusive o.exclusive) (map (name_of held number) granted)

  at : (b : Bool) → stays exclusive grant.exclusive ≡ b → map (name_of (left number exclusive held) number) few ≡ names → map (name_of (left number exclusive held) number) (cond b (grant ∷ few) few) ≡ cond b (name_of held number grant ∷ names) names
  at true is rest =
      ap (λ (one : HeldName). one ∷ map (name_of (left number exclusive held) number) few) (ap (name_as grant) (way_left number exclusive held grant is)) ∙ ap (λ (more : List HeldName). name_of held number grant ∷ more) rest
  at false is rest = rest

pub left_places : (number : ℕ) (exclusive : Bool) (held : List grants.HeldName) (granted : List Grant) → AllByRecursion (IsPlaced held number) granted → AllByRecursion (IsPlaced (left number exclusive held) number) (filter (λ (g : Grant). stays exclusive g.exclusive) granted)
left_places number exclusive held [] placed = tt
left_places number exclusive held (grant ∷ granted) placed = at (stays exclusive grant.exclusive) refl (left_places number exclusive held granted placed.1) where
  few : List Grant
  few = filter (λ (g : Grant). stays exclusive g.exclusive) granted

  at : (b : Bool) → stays exclusive grant.exclusive ≡ b → AllByRecursion (IsPlaced (left number exclusive held) number) few → AllByRecursion (IsPlaced (left number exclusive held) number) (cond b (grant ∷ few) few)
  at true is rest = (subst (λ (names : List (List ℕ)). grant.place < length names) (sym (way_left number exclusive held grant is)) placed.0, rest)
  at false is rest = rest
