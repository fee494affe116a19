-- Clients that the plan doesn't have end nothing.
use Rattle.std.proofs.Common.{◌≡◌, ℕ, Bool, true, false, List, [], ◌∷◌, Option, Some, None, fold, refl, ap}
use Rattle.std.specs.Prelude.{unwrap_or}
use Rattle.base_script.specs.declared.actor.Actor.TheVariants.{Client}
use Rattle.base_script.specs.declared.script.ScriptLine.{ScriptLine}
use Rattle.server_model.specs.declared.entry.Entry.{Entry}
use Rattle.server_model.specs.declared.transaction.Mark.{Mark}
use Rattle.server_model.specs.declared.transaction.Reply.{Reply}
use Rattle.server_model.specs.Entries.{same_actor}
use Rattle.plan_data.specs.PlanData.{PlanData}
use Rattle.tool_program.specs.JournalWords.Clients.{Became, Nothing, Waits, Marked, Broken, Reached, after_turn, became, client_after, client_at, lines_drawn, marked, new_client, script_of, with_draw}
use Rattle.tool_program.specs.JournalWords.Histories.{client_ends}

-- no line is left and none is open
record IsNobody (client : Reached) : Type 0 where
  left : client.left ≡ []
  lines : client.lines ≡ []

nobody_marked : (client : Reached) (mark : Mark) (reply : Option Reply) (left : List ScriptLine) → left ≡ [] → IsNobody client → IsNobody (marked client mark reply left)
nobody_marked client mark reply [] none is = is
nobody_marked client mark reply (line ∷ lines) none is = absurd (cc)

nobody_goes : (what : Became) (client : Reached) → IsNobody client → IsNobody (client_after what client)
nobody_goes Nothing client is = is
nobody_goes Waits client is = record { left = is.left; lines = is.lines }
nobody_goes (Marked mark reply) client is = nobody_marked client mark reply client.left is.left is
nobody_goes Broken client is = record { left = is.left; lines = refl }

nobody_draws : (draw : Option ℕ) (client : Reached) → IsNobody client → IsNobody (with_draw draw client)
nobody_draws None client is = is
nobody_draws (Some number) client is = record { left = ap (lines_drawn number) is.left; lines = is.lines }

nobody_passes : (number : ℕ) (entry : Entry) (client : Reached) (b : Bool) → same_actor entry.actor (Client number) ≡ b → IsNobody client → IsNobody (after_turn number client entry)
nobody_passes number entry client true is nobody = rw is (nobody_goes (became client entry) (with_draw entry.draw client) (nobody_draws entry.draw client nobody))
nobody_passes number entry client false is nobody = rw is nobody

nobody_folds : (number : ℕ) (entries : List Entry) (client : Reached) → IsNobody client → IsNobody (fold (after_turn number) client entries)
nobody_folds number [] client nobody = nobody
nobody_folds number (entry ∷ entries) client nobody = nobody_folds number entries (after_turn number client entry) (nobody_passes number entry client (same_actor entry.actor (Client number)) refl nobody)

nobody_at : (plan : PlanData) (journal : List Entry) (number : ℕ) → script_of number plan ≡ None → IsNobody (client_at plan journal number)
unfolding client_at
nobody_at plan journal number none = nobody_folds number journal (new_client (unwrap_or (script_of number plan) [])) (rw none (record { left = refl; lines = refl }))

nobody_ends : (number : ℕ) (client : Reached) (what : Became) → IsNobody client → client_ends number client what ≡ []
nobody_ends number client Nothing nobody = refl
nobody_ends number client Waits nobody = refl
nobody_ends number client (Marked mark reply) nobody = rw nobody.left refl
nobody_ends number client Broken nobody = rw nobody.lines refl

-- a turn of such a client
pub stranger_ends : (plan : PlanData) (before : List Entry) (entry : Entry) (number : ℕ) → script_of number plan ≡ None → client_ends number (with_draw entry.draw (client_at plan before number)) (became (client_at plan before number) entry) ≡ []
stranger_ends plan before entry number none = nobody_ends number (with_draw entry.draw (client_at plan before number)) (became (client_at plan before number) entry) (nobody_draws entry.draw (client_at plan before number) (nobody_at plan before number none))
