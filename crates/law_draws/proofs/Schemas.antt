-- Which schema stands under a name, also where others are renamed.
use Rattle.std.proofs.Common.{◌≡◌, ℕ, Bool, true, false, not, List, Option, Some, None, Result, Ok, Err, refl, sym, ap, ◌∙◌, subst}
use Rattle.std.specs.List.{list_any}
use Rattle.std.specs.Option.{option_map}
use Rattle.std.specs.Str.{bytes_eq}
use Rattle.table_store.specs.Databases.{Database, rename_tables}
use Rattle.table_store.specs.declared.renames.NotRenamed.{NotRenamed}
use Rattle.table_store.specs.declared.renames.Pair.{Pair}
use Rattle.server_model.specs.declared.request.Request.{Request}
use Rattle.server_model.specs.declared.request.Request.TheVariants as requests
use Rattle.server_model.specs.declared.session.Waiting.{Waiting}
use Rattle.server_model.specs.Blockers.{blocker, need}
use Rattle.server_model.specs.Effects.{defined, effect_unless, is_outside, renamed_or}
use Rattle.server_model.specs.PlainServer.{Served, called_unless, calls, did, does, done, is_over, polled_of, polled_over, polled_unless, polls, without_waiting}
use Rattle.server_model.specs.States.{State, is_in_transaction, pair_names, session_of, view, waiting_of}
use Rattle.server_model.proofs.LockedRows.Tests.{nor_left, turned_bytes}
use Rattle.proof_journals.specs.Machine.MigrationTables.{schema_of}
use Rattle.proof_journals.specs.Rising.{LeavesName}
use Rattle.proof_journals.specs.Turns.{request_of}
use Rattle.proof_journals.proofs.Machine.Schemas.{called_same, keeps_table, polled_same}
use Rattle.proof_journals.proofs.Moves.{rename_moves}

-- it is as it was
abbrev Same : List ℕ → State → Served → Type 0
Same name state served = schema_of name served.after.tables ≡ schema_of name state.tables

abbrev renames : Request → Bool
renames (requests.Rename pairs) = true
renames request = false

keeps_of : (name : List ℕ) (request : Request) → renames request ≡ false → LeavesName name (Some request) → keeps_table name request ≡ true
keeps_of name (requests.Create schema) other leaves = ap not (turned_bytes name schema.name (nor_left (bytes_eq name schema.name) false leaves))
keeps_of name (requests.Drop dropped) other leaves = ap not (nor_left (bytes_eq name dropped) false leaves)
keeps_of name (requests.Rename pairs) other leaves = absurd cc
keeps_of name request other leaves = refl

renamed_same : (name : List ℕ) (state : State) (number : ℕ) (pairs : List Pair) → list_any (bytes_eq name) (pair_names pairs) ≡ false → Same name state (done state number (requests.Rename pairs))
unfolding did
renamed_same name state number pairs leaves = by (is_outside (session_of number state.sessions) (requests.Rename pairs)) where
  moved : (r : Result Database NotRenamed) → rename_tables pairs state.tables ≡ r → Same name state (does (defined (renamed_or r)) state number)
  moved (Ok tables) is = ap (option_map (λ table. table.schema)) ((rename_moves pairs state.tables tables is).others name leaves)
  moved (Err reason) is = refl

  by : (b : Bool) → Same name state (does (effect_unless b (is_in_transaction (session_of number state.sessions)) (view number state) state (requests.Rename pairs)) state number)
  by true = refl
  by false = moved (rename_tables pairs state.tables) refl

pub called_stays : (name : List ℕ) (state : State) (number : ℕ) (request : Request) → LeavesName name (Some request) → Same name state (calls state number request)
unfolding calls
called_stays name state number (requests.Rename pairs) leaves = by (blocker state number (need state number (requests.Rename pairs))) where
  by : (other : Option ℕ) → Same name state (called_unless other state number (requests.Rename pairs))
  by None = renamed_same name state number pairs leaves
  by (Some other) = refl
called_stays name state number request leaves = called_same name state number request (keeps_of name request refl leaves)

pub polled_stays : (name : List ℕ) (state : State) (number : ℕ) (waiting : Waiting) → waiting_of number state.waiting ≡ Some waiting → LeavesName name (Some waiting.request) → Same name state (polls state number)
unfolding polls
polled_stays name state number waiting waits leaves = by waiting.request refl leaves where
  over : (b : Bool) (other : ℕ) → Same name state (polled_over b other state number)
  over true other = refl
  over false other = refl

  unless : (pairs : List Pair) → list_any (bytes_eq name) (pair_names pairs) ≡ false → (other : Option ℕ) → Same name state (polled_unless other state number (requests.Rename pairs))
  unless pairs leaves None = renamed_same name (without_waiting number state) number pairs leaves
  unless pairs leaves (Some other) = over (is_over state number) other

  by : (request : Request) → waiting.request ≡ request → LeavesName name (Some request) → Same name state (polls state number)
  by (requests.Rename pairs) same leaves =
      subst (λ (w : Option Waiting). Same name state (polled_of w state number)) (sym waits)
      (subst (λ (r : Request). Same name state (polled_unless (blocker state number (need state number r)) state number r)) (sym same)
      (unless pairs leaves (blocker state number (need state number (requests.Rename pairs)))))
  by request same leaves = polled_same name state number request (ap request_of waits ∙ ap Some same) (keeps_of name request refl leaves)
