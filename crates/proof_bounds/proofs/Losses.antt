-- Each loss of the plan strikes one turn at most: so there are no more turns in which a session is lost than losses in the plan.
use Rattle.std.proofs.Common.{◌≡◌, ◌≢◌, ◌≤◌, ℕ, ◌+◌, Bool, true, false, cond, not, ◌&&◌, ◌||◌, List, [], ◌∷◌, ◌++◌, length, Option, Some, None, refl, sym, ap, ◌∙◌, subst, arith}
use Rattle.std.specs.Prelude.{count_by, is_some, nat_le, ◌==◌}
use Rattle.std.proofs.lemmas.Bool.{and_parts}
use Rattle.std.proofs.lemmas.Bool.Decides.{nat_tests}
use Rattle.std.proofs.lemmas.List.{length_push}
use Rattle.std.proofs.lemmas.List.Sums.{sum_by-cons, sum_by_push, sum_by-le-sum_by, count_by-le-length}
use Rattle.base_script.specs.declared.actor.Actor.{Actor}
use Rattle.base_script.specs.declared.actor.Actor.TheVariants.{Op, Insp, Copy, Apply, Lock, Ren, Client}
use Rattle.base_script.specs.declared.actor.Side.{Side}
use Rattle.base_script.specs.declared.loss.Loss.{Loss}
use Rattle.base_script.specs.declared.loss.Loss.TheVariants.{Nth, Turn}
use Rattle.server_model.specs.Along.{Along-keeps}
use Rattle.server_model.specs.declared.entry.Asked.{Asked}
use Rattle.server_model.specs.declared.entry.Asked.TheVariants.{Call, Poll, Command, Cut}
use Rattle.server_model.specs.declared.entry.Entry.{Entry}
use Rattle.server_model.specs.Entries.{same_actor, is_cut}
use Rattle.plan_data.specs.PlanData.{PlanData}
use Rattle.tool_program.specs.JournalWords.Journals.{turns_of}
use Rattle.tool_program.specs.JournalWords.KeptPlans.{cut_by, cut_among, cut_due, struck_by, struck_among, side_due, or_first, IsStruck, IsPlanned, KeepsPlan}
use Rattle.tool_program.specs.JournalWords.Sessions.{live_session}
use Rattle.proof_journals.proofs.Actors.{same_actor_itself, same_actor_is}
use Rattle.proof_bounds.specs.Laws.{is_struck, struck_turns, LossesStrikeOnce}

-- COUNTING

module _ (p q : Loss → Bool) (grows : (loss : Loss) → p loss ≡ true → q loss ≡ true) where
  weight_grows : (loss : Loss) → cond (p loss) 1 0 ≤ cond (q loss) 1 0
  weight_grows loss = by (p loss) refl where
    by : (b : Bool) → p loss ≡ b → cond b 1 0 ≤ cond (q loss) 1 0
    by true is = subst (λ (c : Bool). 1 ≤ cond c 1 0) (sym (grows loss is)) (omega arith)
    by false is = omega arith

  all_grow : (xs : List Loss) → count_by p xs ≤ count_by q xs
  all_grow xs = sum_by-le-sum_by (λ (loss : Loss). cond (p loss) 1 0) (λ (loss : Loss). cond (q loss) 1 0) xs weight_grows

  pub one_more : (loss : Loss) (xs : List Loss) → p loss ≡ false → q loss ≡ true → count_by p (loss ∷ xs) + 1 ≤ count_by q (loss ∷ xs)
  one_more loss xs was is =
      let a : count_by p (loss ∷ xs) ≡ 0 + count_by p xs = sum_by-cons (λ (l : Loss). cond (p l) 1 0) loss xs ∙ ap (λ (b : Bool). cond b 1 0 + count_by p xs) was in
      let b : count_by q (loss ∷ xs) ≡ 1 + count_by q xs = sum_by-cons (λ (l : Loss). cond (q l) 1 0) loss xs ∙ ap (λ (c : Bool). cond c 1 0 + count_by q xs) is in
      let c = all_grow xs in
      omega (arith, a, b, c)

  pub later_more : (loss : Loss) (xs : List Loss) → count_by p xs + 1 ≤ count_by q xs → count_by p (loss ∷ xs) + 1 ≤ count_by q (loss ∷ xs)
  later_more loss xs more =
      let a = sum_by-cons (λ (l : Loss). cond (p l) 1 0) loss xs in
      let b = sum_by-cons (λ (l : Loss). cond (q l) 1 0) loss xs in
      let c = weight_grows loss in
      omega (arith, a, b, c, more)

-- ONE TURN

-- the turn that the loss strikes is past
abbrev is_spent : List Entry → Loss → Bool
is_spent journal (Turn number actor) = nat_le number (length journal)
is_spent journal (Nth actor n side) = nat_le n (turns_of actor journal)

turns_more : (actor : Actor) (journal : List Entry) (entry : Entry) → turns_of actor (journal ++ entry ∷ []) ≡ turns_of actor journal + cond (same_actor entry.actor actor && not (is_cut entry.asked)) 1 0
turns_more actor journal entry = sum_by_push (λ (one : Entry). cond (same_actor one.actor actor && not (is_cut one.asked)) 1 0) journal entry

own_turns : (journal : List Entry) (entry : Entry) → is_cut entry.asked ≡ false → turns_of entry.actor (journal ++ entry ∷ []) ≡ turns_of entry.actor journal + 1
own_turns journal entry uncut =
    turns_more entry.actor journal entry ∙ ap (λ (b : Bool). turns_of entry.actor journal + cond (b && not (is_cut entry.asked)) 1 0) (same_actor_itself entry.actor) ∙ ap (λ (b : Bool). turns_of entry.actor journal + cond (not b) 1 0) uncut

le_more : (n a b : ℕ) → a ≤ b → nat_le n a ≡ true → nat_le n b ≡ true
le_more n a b less is = grind (arith, nat_tests, less, is)

not_yet : (n a : ℕ) → (n == a + 1) ≡ true → nat_le n a ≡ false
not_yet n a is = grind (arith, nat_tests, is)

now_past : (n a b : ℕ) → (n == a + 1) ≡ true → b ≡ a + 1 → nat_le n b ≡ true
now_past n a b is same = grind (arith, nat_tests, is, same)

module _ (before : List Entry) (entry : Entry) where
  abbrev more : List Entry
  more = before ++ entry ∷ []

  long : length more ≡ length before + 1
  long = length_push before entry

  spent_stays : (loss : Loss) → is_spent before loss ≡ true → is_spent more loss ≡ true
  spent_stays (Turn number actor) is = let l = long in le_more number (length before) (length more) (omega (arith, l)) is
  spent_stays (Nth actor n side) is = let t = turns_more actor before entry in le_more n (turns_of actor before) (turns_of actor more) (omega (arith, t)) is

  -- a loss between calls
  cut_spends : (losses : List Loss) (actor : Actor) → cut_among before losses ≡ Some actor → count_by (is_spent before) losses + 1 ≤ count_by (is_spent more) losses
  unfolding cut_among
  cut_spends [] actor none = absurd cc
  cut_spends (loss ∷ losses) actor is = by (λ rest. cut_spends losses actor rest) (cut_by before (length before + 1) loss) refl is where
    taken : (one : Loss) (first : Actor) → cut_by before (length before + 1) one ≡ Some first → (is_spent before one ≡ false) × (is_spent more one ≡ true)
    taken (Nth other n side) first some = absurd cc
    taken (Turn number other) first some = at ((number == length before + 1) && is_some (live_session before other)) refl some where
      at : (b : Bool) → ((number == length before + 1) && is_some (live_session before other)) ≡ b → cond b (Some other) None ≡ Some first → (nat_le number (length before) ≡ false) × (nat_le number (length more) ≡ true)
      at true is some =
          let same : (number == length before + 1) ≡ true = (and_parts (number == length before + 1) (is_some (live_session before other)) is).0 in
          (not_yet number (length before) same, now_past number (length before) (length more) same long)
      at false off some = absurd cc

    by : (cut_among before losses ≡ Some actor → count_by (is_spent before) losses + 1 ≤ count_by (is_spent more) losses) → (first : Option Actor) → cut_by before (length before + 1) loss ≡ first → or_first first (cut_among before losses) ≡ Some actor
        → count_by (is_spent before) (loss ∷ losses) + 1 ≤ count_by (is_spent more) (loss ∷ losses)
    by later None none rest = later_more (is_spent before) (is_spent more) spent_stays loss losses (later rest)
    by later (Some first) some rest = let t = taken loss first some in one_more (is_spent before) (is_spent more) spent_stays loss losses t.0 t.1

  -- a loss in an actor's turn
  side_spends : is_cut entry.asked ≡ false → (losses : List Loss) (side : Side) → struck_among entry.actor (turns_of entry.actor before + 1) losses ≡ Some side → count_by (is_spent before) losses + 1 ≤ count_by (is_spent more) losses
  unfolding struck_among
  side_spends uncut [] side none = absurd cc
  side_spends uncut (loss ∷ losses) side is = by (λ rest. side_spends uncut losses side rest) (struck_by entry.actor (turns_of entry.actor before + 1) loss) refl is where
    next : ℕ
    next = turns_of entry.actor before + 1

    nth_taken : (other : Actor) (n : ℕ) (at_side first : Side) → cond (same_actor other entry.actor && (n == next)) (Some at_side) None ≡ Some first → (is_spent before (Nth other n at_side) ≡ false) × (is_spent more (Nth other n at_side) ≡ true)
    nth_taken other n at_side first some = at (same_actor other entry.actor && (n == next)) refl some where
      at : (b : Bool) → (same_actor other entry.actor && (n == next)) ≡ b → cond b (Some at_side) None ≡ Some first → (is_spent before (Nth other n at_side) ≡ false) × (is_spent more (Nth other n at_side) ≡ true)
      at true is some =
          let who : other ≡ entry.actor = same_actor_is other entry.actor (and_parts (same_actor other entry.actor) (n == next) is).0 in
          let same : (n == next) ≡ true = (and_parts (same_actor other entry.actor) (n == next) is).1 in
          subst (λ (a : Actor). (is_spent before (Nth a n at_side) ≡ false) × (is_spent more (Nth a n at_side) ≡ true)) (sym who)
          (not_yet n (turns_of entry.actor before) same, now_past n (turns_of entry.actor before) (turns_of entry.actor more) same (own_turns before entry uncut))
      at false off some = absurd cc

    struck_is : (actor : Actor) (other : Actor) (n number : ℕ) (at_side first : Side) → struck_by actor number (Nth other n at_side) ≡ Some first → cond (same_actor other actor && (n == number)) (Some at_side) None ≡ Some first
    struck_is Op other n number at_side first some = absurd cc
    struck_is Insp other n number at_side first some = some
    struck_is Copy other n number at_side first some = some
    struck_is Apply other n number at_side first some = some
    struck_is Lock other n number at_side first some = some
    struck_is Ren other n number at_side first some = some
    struck_is (Client c) other n number at_side first some = some

    turn_never : (actor : Actor) (turn : ℕ) (other : Actor) (number : ℕ) (first : Side) → struck_by actor number (Turn turn other) ≡ Some first → ⊥
    turn_never Op turn other number first some = cc
    turn_never Insp turn other number first some = cc
    turn_never Copy turn other number first some = cc
    turn_never Apply turn other number first some = cc
    turn_never Lock turn other number first some = cc
    turn_never Ren turn other number first some = cc
    turn_never (Client c) turn other number first some = cc

    taken : (one : Loss) (first : Side) → struck_by entry.actor next one ≡ Some first → (is_spent before one ≡ false) × (is_spent more one ≡ true)
    taken (Turn turn other) first some = absurd (turn_never entry.actor turn other next first some)
    taken (Nth other n at_side) first some = nth_taken other n at_side first (struck_is entry.actor other n next at_side first some)

    by : (struck_among entry.actor next losses ≡ Some side → count_by (is_spent before) losses + 1 ≤ count_by (is_spent more) losses) → (first : Option Side) → struck_by entry.actor next loss ≡ first → or_first first (struck_among entry.actor next losses) ≡ Some side
        → count_by (is_spent before) (loss ∷ losses) + 1 ≤ count_by (is_spent more) (loss ∷ losses)
    by later None none rest = later_more (is_spent before) (is_spent more) spent_stays loss losses (later rest)
    by later (Some first) some rest = let t = taken loss first some in one_more (is_spent before) (is_spent more) spent_stays loss losses t.0 t.1

-- THE JOURNAL

abbrev IsMet : PlanData → List Entry → Type 0
IsMet plan journal = struck_turns journal ≤ count_by (is_spent journal) plan.faults

-- one entry more
pub struck_more : (journal : List Entry) (entry : Entry) → struck_turns (journal ++ entry ∷ []) ≡ struck_turns journal + cond (is_struck entry) 1 0
struck_more journal entry = sum_by_push (λ (one : Entry). cond (is_struck one) 1 0) journal entry

uncut_is : (asked : Asked) → asked ≢ Cut → is_cut asked ≡ false
uncut_is (Call request) uncut = refl
uncut_is Poll uncut = refl
uncut_is (Command word) uncut = refl
uncut_is Cut uncut = absurd (uncut refl)

met_more : (plan : PlanData) (before : List Entry) (entry : Entry) → IsPlanned plan before entry → IsMet plan before → IsMet plan (before ++ entry ∷ [])
met_more plan before entry planned met = by (cut_due plan before) refl planned.struck where
  spends : count_by (is_spent before) plan.faults + 1 ≤ count_by (is_spent (before ++ entry ∷ [])) plan.faults → IsMet plan (before ++ entry ∷ [])
  spends more = let one = struck_more before entry in let two = at_most (is_struck entry) in omega (arith, one, two, more, met) where
    at_most : (b : Bool) → cond b 1 0 ≤ 1
    at_most true = omega arith
    at_most false = omega arith

  by : (due : Option Actor) → cut_due plan before ≡ due → IsStruck plan before entry due → IsMet plan (before ++ entry ∷ [])
  by (Some actor) due struck = spends (cut_spends before entry plan.faults actor due)
  by None due struck = side (side_due plan before entry.actor) refl where
    uncut : is_cut entry.asked ≡ false
    uncut = uncut_is entry.asked struck.0

    side : (one : Option Side) → side_due plan before entry.actor ≡ one → IsMet plan (before ++ entry ∷ [])
    side (Some one) is = spends (side_spends before entry uncut plan.faults one is)
    side None is =
        let unstruck : is_struck entry ≡ false = ap (λ (b : Bool). b || is_some entry.side) uncut ∙ ap is_some (struck.1 ∙ is) in
        let one = struck_more before entry ∙ ap (λ (b : Bool). struck_turns before + cond b 1 0) unstruck in
        let stays = all_grow (is_spent before) (is_spent (before ++ entry ∷ [])) (spent_stays before entry) plan.faults in
        omega (arith, one, stays, met)

none_met : (plan : PlanData) → IsMet plan []
none_met plan = omega arith

-- *Losses strike once*
pub losses_strike : LossesStrikeOnce
unfolding KeepsPlan
losses_strike plan journal planned =
    let met = Along-keeps (IsPlanned plan) (IsMet plan) (λ before entry one met. met_more plan before entry one met) [] journal planned (none_met plan) in
    let most = count_by-le-length (is_spent journal) plan.faults in
    omega (arith, met, most)
