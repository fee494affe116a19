-- The history, as the code finds it.
use Rattle.std.proofs.Common.{◌≡◌, ℕ, zero, suc, ◌+◌, ◌-◌, ◌<◌, ◌==◌, Bool, true, false, cond, List, [], ◌∷◌, ◌++◌, map, length, take, get_or, Option, Some, None, is_some, option_map, refl, sym, ◌∙◌, ap, ap₂, subst, append-nil, append_assoc, arith}
use Rattle.std.proofs.lemmas.Bool.Decides.{nat_tests}
use Rattle.std.proofs.lemmas.Grind.{flat_map-append}
use Rattle.std.proofs.lemmas.List.{take_more}
use Rattle.std.proofs.lemmas.Option.{slice_get-map}
use Rattle.std.specs.List.{flat_map, list_any, slice_get}
use Rattle.base_script.specs.declared.actor.Actor.{Actor}
use Rattle.base_script.specs.declared.actor.Actor.TheVariants.{Client}
use Rattle.base_script.specs.declared.script.ScriptLine.{ScriptLine}
use Rattle.server_model.specs.declared.entry.Entry.{Entry}
use Rattle.server_model.specs.declared.transaction.Mark.{Mark}
use Rattle.server_model.specs.declared.transaction.Reply.{Reply}
use Rattle.server_model.specs.declared.transaction.TxnEnd.{TxnEnd}
use Rattle.server_model.specs.Along.{gathered-more}
use Rattle.server_model.specs.Entries.{is_client, same_actor}
use Rattle.plan_data.specs.PlanData.{PlanData}
use Rattle.tool_program.specs.JournalWords.Clients.{Became, Nothing, Waits, Marked, Broken, Reached, became, client_at, ends_with, is_inside, number_of, script_of, with_draw}
use Rattle.tool_program.specs.JournalWords.Histories.{HistoryItem, adds, client_ends, ends_so, entry_adds, history, is_alter, line_ends}
use Rattle.run_actors.specs.declared.renaming.Renaming.{Renaming}
use Rattle.run_actors.specs.ClientTurns.ActorStates.{line_outcome_as}
use Rattle.run_actors.specs.Renamings.{AreRenaming, nobody_renames, renaming_after}
use Rattle.run_actors.proofs.AlterTurns.{adds_where, alter_where}
use Rattle.run_actors.proofs.Renamings.{renaming_begins, renaming_more}
use Rattle.top_report.specs.ClientLines.Pasts.{alter_text, item_text, past_text}
use Rattle.top_report.specs.ClientLines.Walks.{Walk, client_added, ended_text, ends_now, is_open, new_walk, number_in, outcome_now, walk_after, walk_at, walk_of, walks_after}
use Rattle.top_report.proofs.ClientLines.Strangers.{stranger_ends}
use Rattle.top_report.proofs.ClientLines.Walking.{at_begin, number_is, open_is, other_turn, own_turn}
use Rattle.top_report.proofs.ClientLines.Numbered.{IsWalk, ended_same, walk_on, walk_self}

-- ---- what a client's turn ends

line_text : (number : ℕ) (client : Reached) (line : ScriptLine) (mark : Mark) (reply : Option Reply) (ended : Option TxnEnd) → flat_map item_text (ends_so number client line mark reply ended) ≡ cond (is_some ended) (past_text number (number_of client)) []
line_text number client line mark reply None = refl
line_text number client line mark reply (Some ended) = append-nil (past_text number (number_of client))

marked_text : (number : ℕ) (client : Reached) (mark : Mark) (reply : Option Reply) (left : List ScriptLine) → flat_map item_text (line_ends number client mark reply left) ≡ cond (ends_now (is_open (walk_of client)) mark left) (past_text number (number_in (walk_of client))) []
marked_text number client mark reply [] = refl
marked_text number client mark reply (line ∷ lines) =
    line_text number client line mark reply (ends_with (is_inside client.lines) line.word mark)
    ∙ ap₂ (λ (inside : Bool) (n : ℕ). cond (is_some (ends_with inside line.word mark)) (past_text number n) []) (sym (open_is client.lines)) (sym (number_is client))

broken_text : (number : ℕ) (client : Reached) (b : Bool) → is_inside client.lines ≡ b → flat_map item_text (client_ends number client Broken) ≡ cond b (past_text number client.begun) []
broken_text number client true is = rw is (append-nil (past_text number client.begun))
broken_text number client false is = rw is refl

ended_is : (number : ℕ) (client : Reached) (what : Became) → flat_map item_text (client_ends number client what) ≡ ended_text number (walk_of client) (line_outcome_as what)
ended_is number client Nothing = refl
ended_is number client Waits = refl
ended_is number client (Marked mark reply) = marked_text number client mark reply client.left
ended_is number client Broken = broken_text number client (is_inside client.lines) refl ∙ ap (λ (b : Bool). cond b (past_text number client.begun) []) (sym (open_is client.lines))

-- ---- the walks of all clients

-- the walk of a client behind a turn
abbrev passed : ℕ → Entry → Walk → Walk
passed number entry walk = cond (same_actor entry.actor (Client number)) (walk_after (outcome_now walk entry) walk) walk

passed_at : (first : ℕ) (entry : Entry) (walks : List Walk) (place : ℕ) → slice_get (walks_after first entry walks) place ≡ option_map (passed (first + place) entry) (slice_get walks place)
unfolding walks_after
passed_at first entry [] place = refl
passed_at first entry (walk ∷ walks) zero = let same : first + 0 ≡ first = omega arith in rw same refl
passed_at first entry (walk ∷ walks) (suc place) = let next : first + suc place ≡ first + 1 + place = omega arith in rw next (passed_at (first + 1) entry walks place)

walk_passed : (number : ℕ) (entry : Entry) (walks : List Walk) (b : Bool) → (number == 0) ≡ b → walk_at number (walks_after 1 entry walks) ≡ option_map (passed number entry) (walk_at number walks)
walk_passed number entry walks true none = rw none refl
walk_passed number entry walks false some =
    let same : 1 + (number - 1) ≡ number = grind (arith, nat_tests) in
    rw some (passed_at 1 entry walks (number - 1) ∙ ap (λ (n : ℕ). option_map (passed n entry) (slice_get walks (number - 1))) same)

-- each client's walk is what is kept of how far it is
abbrev Tracks : Option Walk → Option (List ScriptLine) → Reached → Type 0
Tracks None None client = Unit {0}
Tracks (Some walk) (Some script) client = IsWalk walk client
Tracks walk script client = ⊥

abbrev AreWalks : PlanData → List Entry → List Walk → Type 0
AreWalks plan before walks = (number : ℕ) → Tracks (walk_at number walks) (script_of number plan) (client_at plan before number)

passed_is : (plan : PlanData) (before : List Entry) (entry : Entry) (number : ℕ) (walk : Walk) (b : Bool) → same_actor entry.actor (Client number) ≡ b → IsWalk walk (client_at plan before number) → IsWalk (passed number entry walk) (client_at plan (before ++ entry ∷ []) number)
passed_is plan before entry number walk true is own =
    rw is (subst (IsWalk (walk_after (outcome_now walk entry) walk)) (sym (own_turn plan before entry number is)) (walk_on walk (client_at plan before number) entry own))
passed_is plan before entry number walk false is own = rw is (subst (IsWalk walk) (sym (other_turn plan before entry number is)) own)

tracks_on : (plan : PlanData) (before : List Entry) (entry : Entry) (number : ℕ) (walk : Option Walk) (script : Option (List ScriptLine)) → Tracks walk script (client_at plan before number) → Tracks (option_map (passed number entry) walk) script (client_at plan (before ++ entry ∷ []) number)
tracks_on plan before entry number None None own = tt
tracks_on plan before entry number None (Some script) own = absurd own
tracks_on plan before entry number (Some walk) None own = absurd own
tracks_on plan before entry number (Some walk) (Some script) own = passed_is plan before entry number walk (same_actor entry.actor (Client number)) refl own

walks_more : (plan : PlanData) (before : List Entry) (entry : Entry) (walks : List Walk) → AreWalks plan before walks → AreWalks plan (before ++ entry ∷ []) (walks_after 1 entry walks)
walks_more plan before entry walks are = λ number.
    subst (λ (walk : Option Walk). Tracks walk (script_of number plan) (client_at plan (before ++ entry ∷ []) number)) (sym (walk_passed number entry walks (number == 0) refl))
    (tracks_on plan before entry number (walk_at number walks) (script_of number plan) (are number))

tracks_begin : (plan : PlanData) (number : ℕ) (script : Option (List ScriptLine)) → script_of number plan ≡ script → Tracks (option_map new_walk script) script (client_at plan [] number)
tracks_begin plan number None is = tt
tracks_begin plan number (Some script) is = subst (λ (walk : Walk). IsWalk walk (client_at plan [] number)) (at_begin plan number script is) (walk_self (client_at plan [] number))

scripts_begin : (plan : PlanData) (number : ℕ) (b : Bool) → (number == 0) ≡ b → walk_at number (map new_walk plan.clients) ≡ option_map new_walk (script_of number plan)
scripts_begin plan number true none = rw none refl
scripts_begin plan number false some = rw some (slice_get-map new_walk plan.clients (number - 1))

walks_begin : (plan : PlanData) → AreWalks plan [] (map new_walk plan.clients)
walks_begin plan = λ number.
    subst (λ (walk : Option Walk). Tracks walk (script_of number plan) (client_at plan [] number)) (sym (scripts_begin plan number (number == 0) refl)) (tracks_begin plan number (script_of number plan) refl)

client_text : (plan : PlanData) (before : List Entry) (entry : Entry) (number : ℕ) (walk : Option Walk) (script : Option (List ScriptLine)) → script_of number plan ≡ script → Tracks walk script (client_at plan before number)
    → flat_map item_text (client_ends number (with_draw entry.draw (client_at plan before number)) (became (client_at plan before number) entry)) ≡ client_added number walk entry
client_text plan before entry number None None none own = ap (flat_map item_text) (stranger_ends plan before entry number none)
client_text plan before entry number None (Some script) is own = absurd own
client_text plan before entry number (Some walk) None is own = absurd own
client_text plan before entry number (Some walk) (Some script) is own =
    let client = client_at plan before number in
    ended_is number (with_draw entry.draw client) (became client entry) ∙ ended_same number walk client entry own

-- ---- the ALTER

item_where : (b : Bool) → flat_map item_text (alter_where b) ≡ cond b alter_text []
item_where true = append-nil alter_text
item_where false = refl

-- what a turn of the tool's adds
tool_text : (plan : PlanData) (before : List Entry) (entry : Entry) (b : Bool) → is_client entry.actor ≡ false → b ≡ list_any is_alter (entry_adds plan before entry) → flat_map item_text (entry_adds plan before entry) ≡ cond b alter_text []
tool_text plan before entry b tool is = sym (ap (flat_map item_text) (adds_where plan before entry b tool is)) ∙ item_where b

pub alter_added : (plan : PlanData) (before : List Entry) (entry : Entry) → is_client entry.actor ≡ false → true ≡ list_any is_alter (entry_adds plan before entry) → flat_map item_text (entry_adds plan before entry) ≡ alter_text
alter_added plan before entry tool is = tool_text plan before entry true tool is

pub nothing_added : (plan : PlanData) (before : List Entry) (entry : Entry) → is_client entry.actor ≡ false → false ≡ list_any is_alter (entry_adds plan before entry) → flat_map item_text (entry_adds plan before entry) ≡ []
nothing_added plan before entry tool is = tool_text plan before entry false tool is

-- ---- the history, turn by turn

-- what a turn adds, by what a client's adds and what the tool's adds
turn_text : (plan : PlanData) (before : List Entry) (entry : Entry) (walks : List Walk) (renaming : Renaming) (into after : List ℕ) → AreWalks plan before walks → AreRenaming plan before renaming
    → ((number : ℕ) → entry.actor ≡ Client number → after ≡ into ++ client_added number (walk_at number walks) entry)
    → ((before : List Entry) → is_client entry.actor ≡ false → AreRenaming plan before renaming → after ≡ into ++ flat_map item_text (entry_adds plan before entry))
    → after ≡ into ++ flat_map item_text (entry_adds plan before entry)
turn_text plan before entry walks renaming into after are renames clients tool = go entry.actor refl
  where
    go : (actor : Actor) → entry.actor ≡ actor → after ≡ into ++ flat_map item_text (entry_adds plan before entry)
    go (Client number) is =
        clients number is
        ∙ ap (λ (text : List ℕ). into ++ text) (sym (client_text plan before entry number (walk_at number walks) (script_of number plan) refl (are number)))
        ∙ ap (λ (actor : Actor). into ++ flat_map item_text (adds plan before entry actor)) (sym is)
    go actor is = tool before (ap is_client is) renames

pub history_more : (plan : PlanData) (before : List Entry) (entry : Entry) → history plan (before ++ entry ∷ []) ≡ history plan before ++ entry_adds plan before entry
unfolding history
history_more plan before entry = gathered-more (entry_adds plan) [] before entry

-- the turns so far, and one more
pub turns_more : (journal : List Entry) (place : ℕ) (entry : Entry) → place < length journal → entry ≡ get_or journal place entry → take (place + 1) journal ≡ take place journal ++ entry ∷ []
turns_more journal place entry within at = take_more journal place entry within ∙ ap (λ (next : Entry). take place journal ++ next ∷ []) (sym at)

-- *So far*: what is printed after these turns is their history, and what is kept is how far they left each client and who waits
-- with the RENAME
pub record SoFar (plan : PlanData) (before : List Entry) (walks : List Walk) (renaming : Renaming) (first into : List ℕ) : Type 0 where
  pub walks_are : AreWalks plan before walks
  pub renaming_are : AreRenaming plan before renaming
  pub text : into ≡ first ++ flat_map item_text (history plan before)

pub begins : (plan : PlanData) (walks : List Walk) (renaming : Renaming) (first : List ℕ) → walks ≡ map new_walk plan.clients → renaming ≡ nobody_renames → SoFar plan [] walks renaming first first
unfolding history
begins plan walks renaming first one two = record {
  walks_are = subst (AreWalks plan []) (sym one) (walks_begin plan);
  renaming_are = subst (AreRenaming plan []) (sym two) (renaming_begins plan);
  text = sym (append-nil first);
}

pub next : (plan : PlanData) (journal : List Entry) (place : ℕ) (entry : Entry) (walks passed : List Walk) (renaming after : Renaming) (first into added : List ℕ) → place < length journal → entry ≡ get_or journal place entry
    → ((number : ℕ) → entry.actor ≡ Client number → added ≡ into ++ client_added number (walk_at number walks) entry)
    → ((before : List Entry) → is_client entry.actor ≡ false → AreRenaming plan before renaming → added ≡ into ++ flat_map item_text (entry_adds plan before entry))
    → passed ≡ walks_after 1 entry walks → after ≡ renaming_after plan.table entry renaming → SoFar plan (take place journal) walks renaming first into → SoFar plan (take (place + 1) journal) passed after first added
next plan journal place entry walks passed renaming after first into added within at clients tool moved renamed is =
    let before = take place journal in
    let so_far = flat_map item_text (history plan before) in
    let more = flat_map item_text (entry_adds plan before entry) in
    let now : SoFar plan (before ++ entry ∷ []) passed after first added = record {
      walks_are = subst (AreWalks plan (before ++ entry ∷ [])) (sym moved) (walks_more plan before entry walks is.walks_are);
      renaming_are = subst (AreRenaming plan (before ++ entry ∷ [])) (sym renamed) (renaming_more plan before entry renaming is.renaming_are);
      text =
          turn_text plan before entry walks renaming into added is.walks_are is.renaming_are clients tool
          ∙ ap (λ (text : List ℕ). text ++ more) is.text
          ∙ append_assoc first so_far more
          ∙ ap (λ (text : List ℕ). first ++ text) (sym (flat_map-append item_text (history plan before) (entry_adds plan before entry)))
          ∙ ap (λ (items : List HistoryItem). first ++ flat_map item_text items) (sym (history_more plan before entry));
    } in
    subst (λ (turns : List Entry). SoFar plan turns passed after first added) (sym (turns_more journal place entry within at)) now
