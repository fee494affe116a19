-- What a hand knows goes on fitting while the list and the queue change.
use Rattle.std.proofs.Common.{◌≡◌, ◌≢◌, ◌⊎◌, ℕ, ◌+◌, ◌<◌, ◌≤◌, ◌==◌, cond, Bool, true, false, List, [], ◌∷◌, ◌++◌, refl, sym, ap, ◌∙◌, ⊎_elim, inl, inr, arith, append_assoc, append-nil, eq-eqb, ne_eqb}
use Rattle.std.proofs.lemmas.List.Elements.{filter-append}
use Rattle.run_desk.specs.declared.shared_state.Entry.{Entry}
use Rattle.run_desk.specs.declared.hand.Stage.{Stage}
use Rattle.run_desk.specs.declared.hand.Stage.TheVariants.{Rests, Waits, Holds}
use Rattle.run_desk.specs.declared.hand.Role.{Role}
use Rattle.run_desk.specs.declared.hand.Role.TheVariants.{Worker, Witness}
use Rattle.run_desk.specs.declared.hand.Hand.{Hand}
use Rattle.run_desk.specs.Turns.{StartsWith, entries_of}
use Rattle.run_desk.specs.Rule.{one_if, is_number, has_ticket, stage_has_ticket, stage_holds, holds_turn, queues, is_worker, FitsStage, FitsRole, Fits}

-- a test that counts as 0 fails
pub apart : (a b : ℕ) → one_if (a == b) ≡ 0 → a ≢ b
apart a b zero_is same = let hit : (a == b) ≡ true = eq-eqb a b same in let one : one_if (a == b) ≡ 1 = ap one_if hit in omega (arith, one, zero_is)

pub counts_one : (a b : ℕ) → a ≡ b → one_if (a == b) ≡ 1
counts_one a b same = ap one_if (eq-eqb a b same)

pub counts_zero : (a b : ℕ) → a ≢ b → one_if (a == b) ≡ 0
counts_zero a b other = ap one_if (ne_eqb a b other)

module _ {E : Type 0} where
  -- the entries of a worker, with one more entry of it, or of another
  pub entries_of-own : (n : ℕ) (es : List (Entry E)) (e : Entry E) → e.worker ≡ n → entries_of n (es ++ e ∷ []) ≡ entries_of n es ++ e ∷ []
  entries_of-own n es e same = filter-append (λ (x : Entry E). x.worker == n) es (e ∷ []) ∙ ap (λ (t : Bool). entries_of n es ++ cond t (e ∷ []) []) (eq-eqb e.worker n same)

  pub entries_of-other : (n : ℕ) (es : List (Entry E)) (e : Entry E) → e.worker ≢ n → entries_of n (es ++ e ∷ []) ≡ entries_of n es
  entries_of-other n es e other = filter-append (λ (x : Entry E). x.worker == n) es (e ∷ []) ∙ ap (λ (t : Bool). entries_of n es ++ cond t (e ∷ []) []) (ne_eqb e.worker n other) ∙ append-nil (entries_of n es)

  pub StartsWith-more : (xs ys front : List (Entry E)) → StartsWith xs front → StartsWith (xs ++ ys) front
  StartsWith-more xs ys front (rest, is) = (rest ++ ys, ap (λ (l : List (Entry E)). l ++ ys) is ∙ append_assoc front rest ys)

-- two beginnings of one list: one is a beginning of the other
module _ {X : Type 0} where
  pub beginnings : (list a b : List X) → StartsWith list a → StartsWith list b → StartsWith a b ⊎ StartsWith b a
  beginnings list [] b (r, is) (q, at) = inr (b, refl)
  beginnings list (x ∷ xs) [] (r, is) (q, at) = inl (x ∷ xs, refl)
  beginnings [] (x ∷ xs) (y ∷ ys) (r, is) (q, at) = absurd (cc)
  beginnings (z ∷ zs) (x ∷ xs) (y ∷ ys) (r, is) (q, at) =
      let one : zs ≡ xs ++ r = cc in
      let two : zs ≡ ys ++ q = cc in
      let head : x ≡ y = cc in
      ⊎_elim
      (λ (s : StartsWith xs ys). inl (s.0, λ i. head i ∷ s.1 i))
      (λ (s : StartsWith ys xs). inr (s.0, λ i. sym head i ∷ s.1 i))
      (beginnings zs xs ys (r, one) (q, two))

module _ {O E : Type 0} (opening : O) (workers : ℕ) where
  -- one more ticket was drawn
  pub later_stage : (drawn served : ℕ) (entries seen : List (Entry E)) (stage : Stage) → FitsStage workers drawn served entries seen stage → FitsStage workers (drawn + 1) served entries seen stage
  later_stage drawn served entries seen Rests fits = tt
  later_stage drawn served entries seen (Waits ticket) fits = let a = fits.0 in let b = fits.1 in (omega arith, omega arith)
  later_stage drawn served entries seen (Holds ticket) fits = let b = fits.1 in (fits.0, omega arith, fits.2)

  pub later : (drawn served : ℕ) (entries : List (Entry E)) (hand : Hand O E) → Fits opening workers drawn served entries hand → Fits opening workers (drawn + 1) served entries hand
  later drawn served entries hand fits = (fits.0, fits.1, go hand.role fits.2)
    where
      go : (role : Role E) → FitsRole workers drawn served entries hand.seen role → FitsRole workers (drawn + 1) served entries hand.seen role
      go (Worker number own stage) f = (f.0, f.1, later_stage drawn served entries hand.seen stage f.2)
      go Witness f = tt

  -- one more ticket was served, which the hand hasn't
  pub passed_stage : (drawn served : ℕ) (entries seen : List (Entry E)) (stage : Stage) → stage_has_ticket served stage ≡ 0 → FitsStage workers drawn served entries seen stage → FitsStage workers drawn (served + 1) entries seen stage
  passed_stage drawn served entries seen Rests none fits = tt
  passed_stage drawn served entries seen (Waits ticket) none fits = let other = apart ticket served none in let a = fits.0 in (omega arith, fits.1)
  passed_stage drawn served entries seen (Holds ticket) none fits = absurd (apart ticket served none fits.0)

  pub passed : (drawn served : ℕ) (entries : List (Entry E)) (hand : Hand O E) → has_ticket served hand.role ≡ 0 → Fits opening workers drawn served entries hand → Fits opening workers drawn (served + 1) entries hand
  passed drawn served entries hand none fits = (fits.0, fits.1, go hand.role none fits.2)
    where
      go : (role : Role E) → has_ticket served role ≡ 0 → FitsRole workers drawn served entries hand.seen role → FitsRole workers drawn (served + 1) entries hand.seen role
      go (Worker number own stage) n f = (f.0, f.1, passed_stage drawn served entries hand.seen stage n f.2)
      go Witness n f = tt

  -- one more entry, of another worker, while the hand doesn't hold the turn
  pub longer_stage : (drawn served : ℕ) (entries more seen : List (Entry E)) (stage : Stage) → stage_has_ticket served stage ≡ 0 → FitsStage workers drawn served entries seen stage → FitsStage workers drawn served more seen stage
  longer_stage drawn served entries more seen Rests none fits = tt
  longer_stage drawn served entries more seen (Waits ticket) none fits = fits
  longer_stage drawn served entries more seen (Holds ticket) none fits = absurd (apart ticket served none fits.0)

  pub lengthened : (drawn served : ℕ) (entries : List (Entry E)) (e : Entry E) (hand : Hand O E) → has_ticket served hand.role ≡ 0 → is_number e.worker hand.role ≡ 0 → Fits opening workers drawn served entries hand → Fits opening workers drawn served (entries ++ e ∷ []) hand
  lengthened drawn served entries e hand none other fits = (fits.0, StartsWith-more entries (e ∷ []) hand.seen fits.1, go hand.role none other fits.2)
    where
      go : (role : Role E) → has_ticket served role ≡ 0 → is_number e.worker role ≡ 0 → FitsRole workers drawn served entries hand.seen role → FitsRole workers drawn served (entries ++ e ∷ []) hand.seen role
      go (Worker number own stage) n m f =
          (f.0, f.1 ∙ sym (entries_of-other number entries e (λ same. apart number e.worker m (sym same))), longer_stage drawn served entries (entries ++ e ∷ []) hand.seen stage n f.2)
      go Witness n m f = tt

  -- a ticket that wasn't drawn is no hand's
  pub undrawn : (drawn served : ℕ) (entries : List (Entry E)) (hand : Hand O E) → Fits opening workers drawn served entries hand → has_ticket drawn hand.role ≡ 0
  undrawn drawn served entries hand fits = go hand.role fits.2
    where
      below : (ticket : ℕ) → ticket < drawn → one_if (ticket == drawn) ≡ 0
      below ticket lt = counts_zero ticket drawn (λ same. omega arith)

      at_stage : (stage : Stage) → FitsStage workers drawn served entries hand.seen stage → stage_has_ticket drawn stage ≡ 0
      at_stage Rests f = refl
      at_stage (Waits ticket) f = below ticket f.1
      at_stage (Holds ticket) f = below ticket f.1

      go : (role : Role E) → FitsRole workers drawn served entries hand.seen role → has_ticket drawn role ≡ 0
      go (Worker number own stage) f = at_stage stage f.2
      go Witness f = refl

  -- who hasn't the ticket that is served doesn't hold the turn
  pub idle_hand : (drawn served : ℕ) (entries : List (Entry E)) (hand : Hand O E) → has_ticket served hand.role ≡ 0 → Fits opening workers drawn served entries hand → holds_turn hand.role ≡ 0
  idle_hand drawn served entries hand zero_is fits = go hand.role zero_is fits.2
    where
      at_stage : (stage : Stage) → stage_has_ticket served stage ≡ 0 → FitsStage workers drawn served entries hand.seen stage → stage_holds stage ≡ 0
      at_stage Rests n f = refl
      at_stage (Waits ticket) n f = refl
      at_stage (Holds ticket) n f = absurd (apart ticket served n f.0)

      go : (role : Role E) → has_ticket served role ≡ 0 → FitsRole workers drawn served entries hand.seen role → holds_turn role ≡ 0
      go (Worker number own stage) n f = at_stage stage n f.2
      go Witness n f = refl

pub one_if_small : (b : Bool) → one_if b ≤ 1
one_if_small true = omega arith
one_if_small false = omega arith

-- who has a ticket is a worker
pub queues_less : {E : Type 0} (role : Role E) → queues role ≤ is_worker role
queues_less (Worker number own Rests) = omega arith
queues_less (Worker number own (Waits ticket)) = omega arith
queues_less (Worker number own (Holds ticket)) = omega arith
queues_less Witness = omega arith
