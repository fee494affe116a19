-- What is kept of clients, before the first turn and after one turn more.
use Rattle.std.proofs.Common.{◌≡◌, ◌≤◌, ◌<◌, ℕ, zero, suc, ◌+◌, ◌-◌, ◌==◌, Bool, true, false, not, ◌&&◌, List, [], ◌∷◌, ◌++◌, length, drop, get_or, Option, Some, refl, sym, ap, ◌∙◌, subst, length-append, arith}
use Rattle.std.specs.Prelude.{is_some, unwrap_or}
use Rattle.std.specs.List.{AllByRecursion, slice_get, slice_set}
use Rattle.std.proofs.lemmas.List.{drop_all}
use Rattle.std.proofs.lemmas.Option.{slice_get-get_or}
use Rattle.base_script.specs.declared.actor.Actor.{Actor}
use Rattle.base_script.specs.declared.actor.Actor.TheVariants.{Op, Insp, Copy, Apply, Lock, Ren, Client}
use Rattle.base_script.specs.declared.script.ScriptLine.{ScriptLine}
use Rattle.server_model.specs.Entries.{same_actor}
use Rattle.server_model.proofs.LockedRows.Tests.{are_one, same_number}
use Rattle.plan_data.specs.PlanData.{PlanData}
use Rattle.tool_program.specs.JournalWords.Clients.{Reached, client_over, new_client, script_of, with_draw}
use Rattle.run_audit.specs.declared.line.LineAsked.{LineAsked}
use Rattle.run_audit.specs.declared.line.TraceLine.{TraceLine}
use Rattle.run_audit.specs.Audits.{may_draw, reply_turn, reply_turns}
use Rattle.run_audit.specs.Rules.{all_are_over, became_by, client_after_line, client_asks_next, client_reached, is_astray, next_turn, was_lost}
use Rattle.run_judge.specs.declared.trace_client.TraceClient.{TraceClient}
use Rattle.run_auditor.specs.AllClients.{AreFollowed, IsFollowedIn}
use Rattle.run_judge.specs.TraceClients.{IsFollowed}
use Rattle.run_auditor.proofs.AuditedTurns.{lost_followed, other_followed, own_followed}
use Rattle.run_auditor.proofs.EachClient.{each_at, each_changed, each_count, each_first, each_goes, each_of, has_script, kept_within}

-- ---- by their places

pub at_place : (clients : List TraceClient) (i : ℕ) (kept : TraceClient) → i < length clients → kept ≡ get_or clients i kept → slice_get clients i ≡ Some kept
at_place clients i kept within is = slice_get-get_or clients i kept within ∙ ap (λ (k : TraceClient). Some k) (sym is)

pub followed_of : (plan : PlanData) (before : List TraceLine) (number : ℕ) (script : List ScriptLine) (clients : List TraceClient) (kept : TraceClient) → script_of number plan ≡ Some script → length clients ≡ length plan.clients → AreFollowed plan before clients → kept ≡ get_or clients (number - 1) kept
    → IsFollowedIn plan before number script kept
followed_of plan before number script clients kept has count all is =
    each_of (IsFollowedIn plan before) plan number script clients kept has all (at_place clients (number - 1) kept (kept_within plan number script clients count has).1 is)

pub lost_of : (plan : PlanData) (before : List TraceLine) (number : ℕ) (clients : List TraceClient) (kept : TraceClient) → is_some (script_of number plan) ≡ true → length clients ≡ length plan.clients → AreFollowed plan before clients → kept ≡ get_or clients (number - 1) kept
    → kept.state.is_lost ≡ (client_reached plan before number).is_lost
lost_of plan before number clients kept known count all is = let the = has_script plan number known in sym (followed_of plan before number the.0 clients kept the.1 count all is).reached.lost

-- where the actor is no client
pub none_lost : (plan : PlanData) (before : List TraceLine) (actor : Actor) → ((number : ℕ) → actor ≡ Client number → ⊥) → was_lost plan before actor ≡ false
none_lost plan before Op none = refl
none_lost plan before Insp none = refl
none_lost plan before Copy none = refl
none_lost plan before Apply none = refl
none_lost plan before Lock none = refl
none_lost plan before Ren none = refl
none_lost plan before (Client number) none = absurd (none number refl)

pub none_astray : (plan : PlanData) (before : List TraceLine) (asked : LineAsked) (actor : Actor) → ((number : ℕ) → actor ≡ Client number → ⊥) → is_astray plan before asked actor ≡ false
none_astray plan before asked Op none = refl
none_astray plan before asked Insp none = refl
none_astray plan before asked Copy none = refl
none_astray plan before asked Apply none = refl
none_astray plan before asked Lock none = refl
none_astray plan before asked Ren none = refl
none_astray plan before asked (Client number) none = absurd (none number refl)

pub none_draws : (plan : PlanData) (before : List TraceLine) (actor : Actor) → ((number : ℕ) → actor ≡ Client number → ⊥) → may_draw plan before actor ≡ false
none_draws plan before Op none = refl
none_draws plan before Insp none = refl
none_draws plan before Copy none = refl
none_draws plan before Apply none = refl
none_draws plan before Lock none = refl
none_draws plan before Ren none = refl
none_draws plan before (Client number) none = absurd (none number refl)

-- ---- after a turn

pub lost_all : (plan : PlanData) (before : List TraceLine) (line : TraceLine) (number : ℕ) (clients : List TraceClient) → line.actor ≡ Client number → (client_reached plan before number).is_lost ≡ true → AreFollowed plan before clients → AreFollowed plan (before ++ line ∷ []) clients
lost_all plan before line number clients is lost all = each_goes (IsFollowedIn plan before) (IsFollowedIn plan (before ++ line ∷ [])) 1 plan.clients clients (λ n script kept less followed. by n script kept followed (number == n) refl) all where
  by : (n : ℕ) (script : List ScriptLine) (kept : TraceClient) → IsFollowedIn plan before n script kept → (b : Bool) → (number == n) ≡ b → IsFollowedIn plan (before ++ line ∷ []) n script kept
  by n script kept followed true same = lost_followed plan before line n script kept (subst (λ (m : ℕ). (client_reached plan before m).is_lost ≡ true) (are_one number n same) lost) followed
  by n script kept followed false differ = other_followed plan before line n script kept (ap (λ (actor : Actor). same_actor actor (Client n)) is ∙ differ) followed

pub own_all : (plan : PlanData) (before : List TraceLine) (line : TraceLine) (number : ℕ) (script : List ScriptLine) (clients : List TraceClient) (new : TraceClient) → line.actor ≡ Client number → script_of number plan ≡ Some script → (client_reached plan before number).is_lost ≡ false
    → IsFollowed script new (client_after_line (became_by (client_reached plan before number) line) (with_draw line.drawn (client_reached plan before number))) (reply_turns plan before number ++ reply_turn (next_turn before) (became_by (client_reached plan before number) line)) → AreFollowed plan before clients
    → AreFollowed plan (before ++ line ∷ []) (slice_set clients (number - 1) new)
own_all plan before line number script clients new is has lives followed all =
    each_changed (IsFollowedIn plan before) (IsFollowedIn plan (before ++ line ∷ [])) plan number script clients new has
    (λ n other kept differ old. other_followed plan before line n other kept (ap (λ (actor : Actor). same_actor actor (Client n)) is ∙ differ) old)
    (own_followed plan before line number script new (ap (λ (actor : Actor). same_actor actor (Client number)) is ∙ same_number number) lives followed) all

asks_by : (lost asks : Bool) → (not lost && not asks) ≡ false → lost ≡ false → asks ≡ true
asks_by true asks goes lives = absurd (cc)
asks_by false true goes lives = refl
asks_by false false goes lives = absurd (cc)

-- a client that isn't astray asks what is next
pub asks_next_of : (plan : PlanData) (before : List TraceLine) (line : TraceLine) (number : ℕ) → is_astray plan before line.asked (Client number) ≡ false → (client_reached plan before number).is_lost ≡ false → client_asks_next (client_reached plan before number) line.asked ≡ true
asks_next_of plan before line number goes lives = asks_by (client_reached plan before number).is_lost (client_asks_next (client_reached plan before number) line.asked) goes lives

-- ---- before the first turn

begins_reached : (plan : PlanData) (number : ℕ) (script : List ScriptLine) → script_of number plan ≡ Some script → client_reached plan [] number ≡ new_client script
unfolding client_reached
begins_reached plan number script has = ap (λ (found : Option (List ScriptLine)). new_client (unwrap_or found [])) has

begins_turns : (plan : PlanData) (number : ℕ) → reply_turns plan [] number ≡ []
unfolding reply_turns
begins_turns plan number = refl

-- nothing was done yet, whatever the script
abbrev pub IsNew : TraceClient → Type 0
IsNew kept = (script : List ScriptLine) → IsFollowed script kept (new_client script) []

pub count_more : (old now : List TraceClient) (one : TraceClient) (i : ℕ) → now ≡ old ++ one ∷ [] → length old ≡ i → length now ≡ i + 1
count_more old now one i is count = ap (λ (all : List TraceClient). length all) is ∙ length-append old (one ∷ []) ∙ ap (λ (n : ℕ). n + 1) count

pub new_more : (clients : List TraceClient) (one : TraceClient) → AllByRecursion IsNew clients → IsNew one → AllByRecursion IsNew (clients ++ one ∷ [])
new_more [] one all is = (is, tt)
new_more (first ∷ clients) one all is = (all.0, new_more clients one all.1 is)

new_at : (clients : List TraceClient) (i : ℕ) (kept : TraceClient) → AllByRecursion IsNew clients → slice_get clients i ≡ Some kept → IsNew kept
new_at [] zero kept all at = absurd (cc)
new_at [] (suc i) kept all at = absurd (cc)
new_at (first ∷ clients) zero kept all at = let same : first ≡ kept = cc in subst IsNew same all.0
new_at (first ∷ clients) (suc i) kept all at = new_at clients i kept all.1 at

pub new_all : (plan : PlanData) (clients : List TraceClient) → length clients ≡ length plan.clients → AllByRecursion IsNew clients → AreFollowed plan [] clients
new_all plan clients count all = each_first (IsFollowedIn plan []) plan clients count (λ number script i kept has at.
    subst (λ (client : Reached). IsFollowed script kept client (reply_turns plan [] number)) (sym (begins_reached plan number script has)) (subst (IsFollowed script kept (new_client script)) (sym (begins_turns plan number)) (new_at clients i kept all at script)))

-- ---- the clients are over

left_here : {A : Type 0} → (xs : List A) (i : ℕ) (x : A) → slice_get xs i ≡ Some x → drop i xs ≡ x ∷ drop (i + 1) xs
left_here [] zero x is = absurd (cc)
left_here [] (suc i) x is = absurd (cc)
left_here (y ∷ xs) zero x is = let same : y ≡ x = cc in ap (λ z. z ∷ xs) same
left_here (y ∷ xs) (suc i) x is = let next : suc i + 1 ≡ suc (i + 1) = omega arith in rw next (left_here xs i x is)

all_here : (plan : PlanData) (before : List TraceLine) (i : ℕ) (script : List ScriptLine) → slice_get plan.clients i ≡ Some script
    → all_are_over plan before (i + 1) (drop i plan.clients) ≡ (client_over (client_reached plan before (i + 1)) && all_are_over plan before (i + 1 + 1) (drop (i + 1) plan.clients))
unfolding all_are_over
all_here plan before i script is = ap (all_are_over plan before (i + 1)) (left_here plan.clients i script is)

-- how far the client at a place is
pub placed : (plan : PlanData) (before : List TraceLine) (i : ℕ) (script : List ScriptLine) (clients : List TraceClient) (kept : TraceClient) → AreFollowed plan before clients → i < length plan.clients → script ≡ get_or plan.clients i script → kept ≡ get_or clients i kept
    → IsFollowedIn plan before (i + 1) script kept
placed plan before i script clients kept all within its_script its_kept =
    let count : length clients ≡ length plan.clients = each_count (IsFollowedIn plan before) 1 plan.clients clients all in
    let number : 1 + i ≡ i + 1 = omega arith in
    let inside : i < length clients = omega (arith, count, within) in
    subst (λ (n : ℕ). IsFollowedIn plan before n script kept) number
    (each_at (IsFollowedIn plan before) 1 plan.clients clients i script kept all (slice_get-get_or plan.clients i script within ∙ ap (λ (s : List ScriptLine). Some s) (sym its_script)) (at_place clients i kept inside its_kept))

pub over_stops : (plan : PlanData) (before : List TraceLine) (i : ℕ) (script : List ScriptLine) → i < length plan.clients → script ≡ get_or plan.clients i script → client_over (client_reached plan before (i + 1)) ≡ false → all_are_over plan before (i + 1) (drop i plan.clients) ≡ false
over_stops plan before i script within is over =
    all_here plan before i script (slice_get-get_or plan.clients i script within ∙ ap (λ (s : List ScriptLine). Some s) (sym is)) ∙ ap (λ b. b && all_are_over plan before (i + 1 + 1) (drop (i + 1) plan.clients)) over

pub over_goes : (plan : PlanData) (before : List TraceLine) (i : ℕ) (script : List ScriptLine) → i < length plan.clients → script ≡ get_or plan.clients i script → client_over (client_reached plan before (i + 1)) ≡ true
    → all_are_over plan before (i + 1) (drop i plan.clients) ≡ all_are_over plan before (i + 1 + 1) (drop (i + 1) plan.clients)
over_goes plan before i script within is over =
    all_here plan before i script (slice_get-get_or plan.clients i script within ∙ ap (λ (s : List ScriptLine). Some s) (sym is)) ∙ ap (λ b. b && all_are_over plan before (i + 1 + 1) (drop (i + 1) plan.clients)) over

pub over_end : (plan : PlanData) (before : List TraceLine) (i : ℕ) → length plan.clients ≤ i → all_are_over plan before (i + 1) (drop i plan.clients) ≡ true
unfolding all_are_over
over_end plan before i past = ap (all_are_over plan before (i + 1)) (none_left plan.clients i past) where
  none_left : {A : Type 0} → (xs : List A) (n : ℕ) → length xs ≤ n → drop n xs ≡ []
  none_left xs n past = drop_all n xs past
