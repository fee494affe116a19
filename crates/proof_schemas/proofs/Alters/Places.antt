-- The items of a list after one was put in, taken out or moved.
use Rattle.std.proofs.Common.{◌≡◌, ℕ, zero, suc, ◌+◌, ◌-◌, ◌<◌, ◌≤◌, Bool, true, false, cond, eqb, ltb, List, [], ◌∷◌, length, Some, refl, sym, ap, ◌∙◌, arith, ◌≢◌, false-eqb}
use Rattle.std.specs.List.{insert, remove, slice_get}
use Rattle.std.proofs.lemmas.Bool.{ltb-true, ltb-false}
use Rattle.std.proofs.lemmas.List.Edits.{length-remove}
use Rattle.sql_change.specs.Places.{opened, closed}

pub get-insert_at : {X : Type 0} (xs : List X) (i : ℕ) (y : X) → i ≤ length xs → slice_get (insert xs i y) i ≡ Some y
get-insert_at xs zero y le = refl
get-insert_at [] (suc i) y le = absurd (omega arith)
get-insert_at (x ∷ xs) (suc i) y le = get-insert_at xs i y (omega arith)

get-insert_below : {X : Type 0} (xs : List X) (i : ℕ) (y : X) (k : ℕ) → k < i → i ≤ length xs → slice_get (insert xs i y) k ≡ slice_get xs k
get-insert_below xs zero y k lt le = absurd (omega arith)
get-insert_below [] (suc i) y k lt le = absurd (omega arith)
get-insert_below (x ∷ xs) (suc i) y zero lt le = refl
get-insert_below (x ∷ xs) (suc i) y (suc k) lt le = get-insert_below xs i y k (omega arith) (omega arith)

get-insert_above : {X : Type 0} (xs : List X) (i : ℕ) (y : X) (k : ℕ) → i ≤ k → i ≤ length xs → slice_get (insert xs i y) (suc k) ≡ slice_get xs k
get-insert_above xs zero y k lt le = refl
get-insert_above [] (suc i) y k lt le = absurd (omega arith)
get-insert_above (x ∷ xs) (suc i) y zero lt le = absurd (omega arith)
get-insert_above (x ∷ xs) (suc i) y (suc k) lt le = get-insert_above xs i y k (omega arith) (omega arith)

get-remove_below : {X : Type 0} (xs : List X) (i : ℕ) (k : ℕ) → k < i → slice_get (remove xs i) k ≡ slice_get xs k
get-remove_below xs zero k lt = absurd (omega arith)
get-remove_below [] (suc i) k lt = refl
get-remove_below (x ∷ xs) (suc i) zero lt = refl
get-remove_below (x ∷ xs) (suc i) (suc k) lt = get-remove_below xs i k (omega arith)

get-remove_above : {X : Type 0} (xs : List X) (i : ℕ) (k : ℕ) → i ≤ k → slice_get (remove xs i) k ≡ slice_get xs (suc k)
get-remove_above [] zero k lt = refl
get-remove_above (x ∷ xs) zero k lt = refl
get-remove_above [] (suc i) k lt = refl
get-remove_above (x ∷ xs) (suc i) zero lt = absurd (omega arith)
get-remove_above (x ∷ xs) (suc i) (suc k) lt = get-remove_above xs i k (omega arith)

-- ---- by places

get-opened-by : {X : Type 0} (xs : List X) (at : ℕ) (y : X) (place : ℕ) (b : Bool) → ltb place at ≡ b → at ≤ length xs → slice_get (insert xs at y) (cond b place (place + 1)) ≡ slice_get xs place
get-opened-by xs at y place true e le = get-insert_below xs at y place (ltb-true place at e) le
get-opened-by xs at y place false e le =
    let one : place + 1 ≡ suc place = omega arith in
    ap (slice_get (insert xs at y)) one ∙ get-insert_above xs at y place (ltb-false place at e) le

pub get-opened : {X : Type 0} (xs : List X) (at : ℕ) (y : X) (place : ℕ) → at ≤ length xs → slice_get (insert xs at y) (opened at place) ≡ slice_get xs place
get-opened xs at y place le = get-opened-by xs at y place (ltb place at) refl le

get-closed-by : {X : Type 0} (xs : List X) (at place : ℕ) (b : Bool) → ltb at place ≡ b → eqb place at ≡ false → slice_get (remove xs at) (cond b (place - 1) place) ≡ slice_get xs place
get-closed-by xs at place true e other =
    let lt : at < place = ltb-true at place e in
    let one : suc (place - 1) ≡ place = omega arith in
    get-remove_above xs at (place - 1) (omega arith) ∙ ap (slice_get xs) one
get-closed-by xs at place false e other =
    let le : place ≤ at = ltb-false at place e in
    let ne : place ≢ at = false-eqb place at (sym other) in
    get-remove_below xs at place (omega arith)

pub get-closed : {X : Type 0} (xs : List X) (at place : ℕ) → eqb place at ≡ false → slice_get (remove xs at) (closed at place) ≡ slice_get xs place
get-closed xs at place other = get-closed-by xs at place (ltb at place) refl other

pub get-moved : {X : Type 0} (xs : List X) (from to : ℕ) (y : X) (place : ℕ) → from < length xs → to < length xs → eqb place from ≡ false → slice_get (insert (remove xs from) to y) (opened to (closed from place)) ≡ slice_get xs place
get-moved xs from to y place lt within other =
    let fewer : length (remove xs from) + 1 ≡ length xs = length-remove xs from lt in
    get-opened (remove xs from) to y (closed from place) (omega arith) ∙ get-closed xs from place other

pub get-moved_at : {X : Type 0} (xs : List X) (from to : ℕ) (y : X) → from < length xs → to < length xs → slice_get (insert (remove xs from) to y) to ≡ Some y
get-moved_at xs from to y lt within =
    let fewer : length (remove xs from) + 1 ≡ length xs = length-remove xs from lt in
    get-insert_at (remove xs from) to y (omega arith)
