-- What a seat has while its worker takes a turn at the book.
use Rattle.std.proofs.Common.{◌≡◌, ◌≢◌, ℕ, List, [], ◌∷◌, ◌++◌, length, drop, refl, sym, ap, ◌∙◌, subst}
use Rattle.std.specs.Prelude.{Bool, true, false, Option, Some, None, Result, Ok, Err, OnErr}
use Rattle.std.proofs.lemmas.List.Prefix.{front_rest}
use Rattle.std.proofs.lemmas.List.Elements.{All-head}
use Rattle.std.proofs.lemmas.Option.{same_Some}
use Rattle.atomic_table.specs.Table.{Me, rest}
use Rattle.run_desk.specs.declared.shared_state.Entry.{Entry}
use Rattle.std.specs.declared.alloc.AllocError.{AllocError}
use Rattle.run_desk.specs.declared.hand.Stage.TheVariants.{Rests, Waits, Holds}
use Rattle.run_desk.specs.declared.hand.Hand.{Hand}
use Rattle.run_desk.specs.Boards.{HoldsSharedState, Ends}
use Rattle.run_desk.specs.Steps.{held_entries, Comes}
use Rattle.run_desk.specs.Turns.{StartsWith}
use Rattle.run_desk.specs.Views.{worker_view, recorded, staged, seen_of, own_of}

abbrev first : {B : Type 0} → List (ℕ × Option B) → Option B
first [] = None
first (slot ∷ slots) = slot.1

module _ {B O E : Type 0} (opening_of : B → O) (entries_in : B → List (Entry E)) (opening : O) (entries : List (Entry E)) (number : ℕ) (own : List (Entry E)) where
  abbrev Known : Type 0
  Known = Me (Option B) (List (Hand O E))

  module _ (me : Known) (held : HoldsSharedState opening_of entries_in opening entries number own entries me) where
    -- the slot that is out with the seat
    pub slot : (x : Option B) × (me.1 ≡ (0, x) ∷ rest me.1)
    slot = (Some held.1, ap (λ (m : Known). m.1) held.2 ∙ ap (λ (r : List (ℕ × Option B)). (0, Some held.1) ∷ r) (sym (ap (λ (m : Known). rest m.1) held.2)))

    -- the book that is read is the one that was held
    pub same_shared_state : (x : Option B) (shared_state : B) → me.1 ≡ (0, x) ∷ rest me.1 → x ≡ Some shared_state → held.1 ≡ shared_state
    same_shared_state x shared_state found is = same_Some held.1 shared_state (ap first (sym (ap (λ (m : Known). m.1) held.2) ∙ found) ∙ is)

    -- the seat after the book was taken out of the slot and another put into it
    pub exchanged : (out back : Known) (shared_state : B) → out ≡ (me.0, (0, None) ∷ rest me.1) → back ≡ (out.0, (0, Some shared_state) ∷ rest out.1) → back ≡ (worker_view opening entries number own (Holds held.0), (0, Some shared_state) ∷ [])
    exchanged out back shared_state went came =
        let r : rest out.1 ≡ [] = ap (λ (m : Known). rest m.1) went ∙ ap (λ (m : Known). rest m.1) held.2 in
        let v : out.0 ≡ worker_view opening entries number own (Holds held.0) = ap (λ (m : Known). m.0) went ∙ ap (λ (m : Known). m.0) held.2 in
        came ∙ (λ i. (v i, (0, Some shared_state) ∷ r i))

  -- the seat after it counted its entry
  pub counted : (before after : Known) (ticket : ℕ) (shared_state : B) (event : E) → before ≡ (worker_view opening entries number own (Holds ticket), (0, Some shared_state) ∷ []) → entries_in shared_state ≡ entries ++ record { worker = number; event = event } ∷ []
      → after.1 ≡ before.1 → after.0 ≡ recorded (held_entries entries_in before.1) before.0
      → after ≡ (worker_view opening (entries ++ record { worker = number; event = event } ∷ []) number (own ++ record { worker = number; event = event } ∷ []) (Holds ticket), (0, Some shared_state) ∷ [])
  counted before after ticket shared_state event was more slots views = λ i. (seen i, held i)
    where
      new : Entry E
      new = record { worker = number; event = event }

      held : after.1 ≡ (0, Some shared_state) ∷ []
      held = slots ∙ ap (λ (m : Known). m.1) was

      at_shared_state : after.0 ≡ worker_view opening (entries_in shared_state) number (own ++ drop (length entries) (entries_in shared_state)) (Holds ticket)
      at_shared_state = views ∙ ap (λ (m : Known). recorded (held_entries entries_in m.1) m.0) was

      seen : after.0 ≡ worker_view opening (entries ++ new ∷ []) number (own ++ new ∷ []) (Holds ticket)
      seen = at_shared_state ∙ (λ i. worker_view opening (more i) number (own ++ front_rest (entries_in shared_state) entries (new ∷ []) more i) (Holds ticket))

  -- the seat after the turn was given on
  pub rested : (before after : Known) (ticket : ℕ) (shared_state : B) → before ≡ (worker_view opening entries number own (Holds ticket), (0, Some shared_state) ∷ []) → after ≡ (staged Rests before.0, []) → after ≡ (worker_view opening entries number own Rests, [])
  rested before after ticket shared_state was went = went ∙ ap (λ (m : Known). (staged Rests m.0, [])) was

module _ {B O E : Type 0} (opening_of : B → O) (entries_in : B → List (Entry E)) where
  -- What a seat has after the book was taken out of its slot, another book b was put into it, and it is known of b what was asked of it
  pub record Lent (opening : O) (entries : List (Entry E)) (number : ℕ) (own : List (Entry E)) (ticket : ℕ) (out b : B) (back : Me (Option B) (List (Hand O E))) : Type 0 where
    pub me : back ≡ (worker_view opening entries number own (Holds ticket), (0, Some b) ∷ [])
    pub opened : opening_of out ≡ opening
    pub listed : entries_in out ≡ entries

  pub lent : (opening : O) (entries : List (Entry E)) (number : ℕ) (own : List (Entry E)) (me : Me (Option B) (List (Hand O E))) (held : HoldsSharedState opening_of entries_in opening entries number own entries me)
      (x : Option B) (out b : B) (went back : Me (Option B) (List (Hand O E)))
      → me.1 ≡ (0, x) ∷ rest me.1 → x ≡ Some out → went ≡ (me.0, (0, None) ∷ rest me.1) → back ≡ (went.0, (0, Some b) ∷ rest went.1)
      → Lent opening entries number own held.0 out b back
  lent opening entries number own me held x out b went back found is goes comes =
      let same = same_shared_state opening_of entries_in opening entries number own me held x out found is in record {
        me = exchanged opening_of entries_in opening entries number own me held went back b goes comes;
        opened = ap opening_of (sym same) ∙ held.3;
        listed = ap entries_in (sym same) ∙ held.4;
      }

module _ {B O E : Type 0} (opening_of : B → O) (entries_in : B → List (Entry E)) (opening : O) (seen : List (Entry E)) (number : ℕ) (own : List (Entry E)) where
  -- a worker's seat after it drew a ticket
  pub drawn : (me after : Me (Option B) (List (Hand O E))) (ticket : ℕ) → me ≡ (worker_view opening seen number own Rests, []) → after ≡ (staged (Waits ticket) me.0, []) → after ≡ (worker_view opening seen number own (Waits ticket), [])
  drawn me after ticket was went = went ∙ ap (λ (m : Me (Option B) (List (Hand O E))). (staged (Waits ticket) m.0, [])) was

  -- What a worker's seat has once its turn has come, and what it then has seen
  pub record Come (after : Me (Option B) (List (Hand O E))) : Type 0 where
    pub entries : List (Entry E)
    pub held : HoldsSharedState opening_of entries_in opening entries number own entries after
    pub begins : StartsWith entries seen

  pub come : (me after : Me (Option B) (List (Hand O E))) (ticket : ℕ) → me ≡ (worker_view opening seen number own (Waits ticket), []) → Comes opening_of entries_in me after → Come after
  come me after ticket was comes = go (subst (λ (m : Me (Option B) (List (Hand O E))). Comes opening_of entries_in m after) was comes)
    where
      go : Comes opening_of entries_in (worker_view opening seen number own (Waits ticket), []) after → Come after
      go (shared_state, slots, views, shows) =
          let fits = All-head (λ (hand : Hand O E). (opening_of shared_state ≡ hand.opening) × StartsWith (entries_in shared_state) hand.seen) _ [] shows in
          record { entries = entries_in shared_state; held = (ticket, shared_state, (λ i. (views i, slots i)), fits.0, refl); begins = fits.1 }

-- whether a turn was taken
abbrev pub is_taken : Result Bool AllocError → Bool
is_taken (Ok taken) = taken
is_taken (Err error) = false

-- a turn that wasn't taken ends so
pub ended : {S O E : Type 0} (is_over : O → List (Entry E) → Type 0) (opening : O) (entries : List (Entry E)) (number : ℕ) (own : List (Entry E)) (taken : Result Bool AllocError) (me : Me S (List (Hand O E))) → taken ≢ Ok true → (taken ≡ Ok false → is_over opening entries) → (is_over opening entries → taken ≡ Ok false)
    → me ≡ (worker_view opening entries number own Rests, []) → Ends is_over opening entries number own taken me
ended is_over opening entries number own (Ok true) me other over is_end is = absurd (other refl)
ended is_over opening entries number own (Ok false) me other over is_end is = (is, over refl)
ended is_over opening entries number own (Err error) me other over is_end is = (is, λ at_end. let no : Err error ≡ Ok false = is_end at_end in absurd cc)

-- what the end of a turn tells the pass
module _ {S O E : Type 0} (is_over : O → List (Entry E) → Type 0) (opening : O) (entries seen : List (Entry E)) (number : ℕ) (own : List (Entry E)) (begins : StartsWith entries seen) where
  at_rest : (me : Me S (List (Hand O E))) (now mine : List (Entry E)) → me ≡ (worker_view opening now number mine Rests, []) → me ≡ (worker_view opening (seen_of me.0) number (own_of me.0) Rests, [])
  at_rest me now mine is = subst (λ (m : Me S (List (Hand O E))). m ≡ (worker_view opening (seen_of m.0) number (own_of m.0) Rests, [])) (sym is) refl

  pub rests : (taken : Result Bool AllocError) (me : Me S (List (Hand O E))) → Ends is_over opening entries number own taken me → me ≡ (worker_view opening (seen_of me.0) number (own_of me.0) Rests, [])
  rests (Ok true) me (event, is, open_) = at_rest me _ _ is
  rests (Ok false) me (is, over) = at_rest me _ _ is
  rests (Err error) me (is, open_) = at_rest me _ _ is

  pub took : (me : Me S (List (Hand O E))) → Ends is_over opening entries number own (Ok true) me
      → (event : E) × (between : List (Entry E)) × (own_of me.0 ≡ own ++ record { worker = number; event = event } ∷ []) × (seen_of me.0 ≡ (seen ++ between) ++ record { worker = number; event = event } ∷ []) × ¬ is_over opening (seen ++ between)
  took me (event, is, open_) = (
    event,
    begins.0,
    ap (λ (m : Me S (List (Hand O E))). own_of m.0) is,
    ap (λ (m : Me S (List (Hand O E))). seen_of m.0) is ∙ ap (λ (l : List (Entry E)). l ++ record { worker = number; event = event } ∷ []) begins.1,
    λ over. open_ (subst (is_over opening) (sym begins.1) over),
  )

  saw : (me : Me S (List (Hand O E))) → me ≡ (worker_view opening entries number own Rests, []) → (own_of me.0 ≡ own) × StartsWith (seen_of me.0) seen
  saw me is = (ap (λ (m : Me S (List (Hand O E))). own_of m.0) is, (begins.0, ap (λ (m : Me S (List (Hand O E))). seen_of m.0) is ∙ begins.1))

  pub sees : (taken : Result Bool AllocError) (me : Me S (List (Hand O E))) → Ends is_over opening entries number own taken me → taken ≢ Ok true → (own_of me.0 ≡ own) × StartsWith (seen_of me.0) seen
  sees (Ok true) me ends other = absurd (other refl)
  sees (Ok false) me (is, over) other = saw me is
  sees (Err error) me (is, open_) other = saw me is

  pub over : (me : Me S (List (Hand O E))) → Ends is_over opening entries number own (Ok false) me → is_over opening (seen_of me.0)
  over me (is, at_end) = subst (is_over opening) (sym (ap (λ (m : Me S (List (Hand O E))). seen_of m.0) is)) at_end

  pub no_memory : (taken : Result Bool AllocError) (me : Me S (List (Hand O E))) → Ends is_over opening entries number own taken me → OnErr taken (¬ is_over opening (seen_of me.0))
  no_memory (Ok taken) me ends = tt
  no_memory (Err error) me (is, open_) = λ at_end. open_ (subst (is_over opening) (ap (λ (m : Me S (List (Hand O E))). seen_of m.0) is) at_end)
