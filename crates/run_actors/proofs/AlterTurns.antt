-- A client's turn ends transactions, and is no ALTER; a turn of the tool's adds the ALTER or nothing.
use Rattle.std.proofs.Common.{◌≡◌, ℕ, Bool, true, false, cond, List, [], ◌∷◌, Option, Some, None, refl, sym, ap, ◌∙◌, true≢false}
use Rattle.std.specs.List.{list_any}
use Rattle.base_script.specs.declared.actor.Actor.{Actor}
use Rattle.base_script.specs.declared.actor.Actor.TheVariants.{Client}
use Rattle.base_script.specs.declared.script.ScriptLine.{ScriptLine}
use Rattle.server_model.specs.declared.lost_calls.LostCall.{LostCall}
use Rattle.server_model.specs.declared.request.Request.{Request}
use Rattle.server_model.specs.declared.request.Request.TheVariants as requests
use Rattle.server_model.specs.declared.answer.Answer.{Answer}
use Rattle.server_model.specs.declared.answer.Answer.TheVariants as answers
use Rattle.server_model.specs.declared.entry.Entry.{Entry}
use Rattle.server_model.specs.declared.transaction.Mark.{Mark}
use Rattle.server_model.specs.declared.transaction.Reply.{Reply}
use Rattle.server_model.specs.declared.transaction.TxnEnd.{TxnEnd}
use Rattle.server_model.specs.Entries.{is_client}
use Rattle.server_model.specs.LostCalls.{lost_of}
use Rattle.plan_data.specs.PlanData.{PlanData}
use Rattle.tool_program.specs.JournalWords.Clients.{Reached, Became, Nothing, Waits, Marked, Broken, became, client_at, is_inside, ends_with, with_draw}
use Rattle.tool_program.specs.JournalWords.Histories.{HistoryItem, Alter, about, adds, alters, answer_in, breaks, client_ends, ends_so, entry_adds, is_alter, line_ends, renames_away}

ends_none : (number : ℕ) (client : Reached) (line : ScriptLine) (mark : Mark) (reply : Option Reply) (ended : Option TxnEnd) → list_any is_alter (ends_so number client line mark reply ended) ≡ false
ends_none number client line mark reply None = refl
ends_none number client line mark reply (Some ended) = refl

line_none : (number : ℕ) (client : Reached) (mark : Mark) (reply : Option Reply) (left : List ScriptLine) → list_any is_alter (line_ends number client mark reply left) ≡ false
line_none number client mark reply [] = refl
line_none number client mark reply (line ∷ lines) = ends_none number client line mark reply (ends_with (is_inside client.lines) line.word mark)

breaks_none : (number : ℕ) (client : Reached) (inside : Bool) → list_any is_alter (breaks number client inside) ≡ false
breaks_none number client false = refl
breaks_none number client true = refl

client_none : (number : ℕ) (client : Reached) (became : Became) → list_any is_alter (client_ends number client became) ≡ false
client_none number client Nothing = refl
client_none number client Waits = refl
client_none number client (Marked mark reply) = line_none number client mark reply client.left
client_none number client Broken = breaks_none number client (is_inside client.lines)

-- what a client's turn adds
pub of_client : (plan : PlanData) (before : List Entry) (entry : Entry) (number : ℕ) → list_any is_alter (adds plan before entry (Client number)) ≡ false
of_client plan before entry number = client_none number (with_draw entry.draw (client_at plan before number)) (became (client_at plan before number) entry)

-- ---- a turn of the tool's

abbrev pub alter_where : Bool → List HistoryItem
alter_where b = cond b (Alter ∷ []) []

alter_if : (b : Bool) → alter_where b ≡ alter_where (list_any is_alter (alter_where b))
alter_if true = refl
alter_if false = refl

alter_alone : (plan : PlanData) (request : Option Request) (chosen : Option Answer) → alters plan request chosen ≡ alter_where (list_any is_alter (alters plan request chosen))
alter_alone plan request (Some (answers.Ok count)) = alter_if (renames_away plan.table request)
alter_alone plan request chosen = refl

tool_adds : (plan : PlanData) (before : List Entry) (entry : Entry) (actor : Actor) → is_client actor ≡ false → adds plan before entry actor ≡ alters plan (about before entry) (answer_in entry.asked entry.side entry.answer entry.missed)
tool_adds plan before entry (Client number) tool = absurd (true≢false tool)
tool_adds plan before entry actor tool = refl

-- a turn of the tool's adds the ALTER or nothing
pub adds_where : (plan : PlanData) (before : List Entry) (entry : Entry) (b : Bool) → is_client entry.actor ≡ false → b ≡ list_any is_alter (entry_adds plan before entry) → alter_where b ≡ entry_adds plan before entry
adds_where plan before entry b tool is =
    let same : entry_adds plan before entry ≡ alters plan (about before entry) (answer_in entry.asked entry.side entry.answer entry.missed) = tool_adds plan before entry entry.actor tool in
    ap alter_where (is ∙ ap (list_any is_alter) same)
    ∙ sym (alter_alone plan (about before entry) (answer_in entry.asked entry.side entry.answer entry.missed))
    ∙ sym same

pub adds_alter : (plan : PlanData) (before : List Entry) (entry : Entry) → is_client entry.actor ≡ false → true ≡ list_any is_alter (entry_adds plan before entry) → Alter ∷ [] ≡ entry_adds plan before entry
adds_alter plan before entry tool is = adds_where plan before entry true tool is

pub adds_nothing : (plan : PlanData) (before : List Entry) (entry : Entry) → is_client entry.actor ≡ false → false ≡ list_any is_alter (entry_adds plan before entry) → [] ≡ entry_adds plan before entry
adds_nothing plan before entry tool is = adds_where plan before entry false tool is

-- a RENAME is kept whole
pub lost_renames : (name : List ℕ) (request : Request) (lost : LostCall) → lost_of request ≡ Some lost → false ≡ renames_away name (Some request)
lost_renames name (requests.Rename pairs) lost is = absurd (cc)
lost_renames name request lost is = refl
