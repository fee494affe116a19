-- What changes write that were made ready, and the keys that they have.
use Rattle.std.proofs.Common.{◌≡◌, ℕ, List, [], ◌∷◌, map, Option, refl, sym, ap, ◌∙◌, subst}
use Rattle.std.specs.List.{AllByRecursion}
use Rattle.base_values.specs.declared.event.Change.{Change}
use Rattle.base_values.specs.declared.event.Change.TheVariants.{Write, Update, Delete}
use Rattle.table_store.proofs.Orders.{Row}
use Rattle.server_seen.specs.Written.{Written, wrote, wrote_all}
use Rattle.server_seen.proofs.KeyTables.{length_key}
use Rattle.server_transaction.specs.declared.ready_changes.ReadyChange.{ReadyChange}
use Rattle.server_transaction.specs.Events.{gone_key}
use Rattle.server_transaction.specs.Ready.{ready_change, wrote_ready, wrote_each, IsReady}

one_wrote : (places : List ℕ) (change : Change) (written : Written) → wrote_ready places (ready_change places change) written ≡ wrote places change written
unfolding wrote
one_wrote places (Write row) written = refl
one_wrote places (Update before after) written = refl
one_wrote places (Delete row) written = refl

pub each_wrote : (places : List ℕ) (changes : List Change) (written : Written) → wrote_each places (map (ready_change places) changes) written ≡ wrote_all places changes written
unfolding wrote_each wrote_all
each_wrote places [] written = refl
each_wrote places (change ∷ changes) written = each_wrote places changes (wrote_ready places (ready_change places change) written) ∙ ap (wrote_all places changes) (one_wrote places change written)

is_ready : (places : List ℕ) (change : Change) → IsReady places (ready_change places change)
is_ready places (Write row) = record { out = tt; new = refl }
is_ready places (Update before after) = record { out = length_key places before; new = refl }
is_ready places (Delete row) = record { out = length_key places row; new = tt }

are_ready : (places : List ℕ) (changes : List Change) → AllByRecursion (IsReady places) (map (ready_change places) changes)
are_ready places [] = tt
are_ready places (change ∷ changes) = (is_ready places change, are_ready places changes)

pub all_ready : (places : List ℕ) (changes : List Change) (ready : List ReadyChange) → ready ≡ map (ready_change places) changes → AllByRecursion (IsReady places) ready
all_ready places changes ready are = subst (AllByRecursion (IsReady places)) (sym are) (are_ready places changes)

gone_is : (places : List ℕ) (change : Change) → (ready_change places change).gone ≡ gone_key places change
gone_is places (Write row) = refl
gone_is places (Update before after) = refl
gone_is places (Delete row) = refl

gone_each : (places : List ℕ) (changes : List Change) → map (λ (one : ReadyChange). one.gone) (map (ready_change places) changes) ≡ map (gone_key places) changes
gone_each places [] = refl
gone_each places (change ∷ changes) = ap (λ (key : Option Row). key ∷ map (λ (one : ReadyChange). one.gone) (map (ready_change places) changes)) (gone_is places change) ∙ ap (λ (keys : List (Option Row)). gone_key places change ∷ keys) (gone_each places changes)

pub all_gone : (places : List ℕ) (changes : List Change) (ready : List ReadyChange) → ready ≡ map (ready_change places) changes → map (λ one. one.gone) ready ≡ map (gone_key places) changes
all_gone places changes ready are = ap (map (λ (one : ReadyChange). one.gone)) are ∙ gone_each places changes

-- the next of the changes that are left
pub record IsNextReady (places : List ℕ) (next : ReadyChange) (rest : List ReadyChange) : Type 0 where
  pub first : IsReady places next
  pub others : AllByRecursion (IsReady places) rest

pub next_ready : (places : List ℕ) (left : List ReadyChange) (next : ReadyChange) (rest : List ReadyChange) → left ≡ next ∷ rest → AllByRecursion (IsReady places) left → IsNextReady places next rest
next_ready places left next rest step all = let both = subst (AllByRecursion (IsReady places)) step all in record { first = both.0; others = both.1 }

pub wrote_next : (places : List ℕ) (left : List ReadyChange) (next : ReadyChange) (rest : List ReadyChange) (written : Written) → left ≡ next ∷ rest → wrote_each places rest (wrote_ready places next written) ≡ wrote_each places left written
unfolding wrote_each
wrote_next places left next rest written step = ap (λ (all : List ReadyChange). wrote_each places all written) (sym step)

pub wrote_none : (places : List ℕ) (left : List ReadyChange) (written : Written) → left ≡ [] → written ≡ wrote_each places left written
unfolding wrote_each
wrote_none places left written end = ap (λ (all : List ReadyChange). wrote_each places all written) (sym end)
