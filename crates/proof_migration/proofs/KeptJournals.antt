-- What is so after every journal that is kept: each front of one is kept too.
use Rattle.std.proofs.Common.{List, [], ◌∷◌, ◌++◌, sym, subst, append_assoc}
use Rattle.server_model.specs.Along.{Along, Along-keeps}
use Rattle.server_model.specs.declared.entry.Entry.{Entry}
use Rattle.plan_data.specs.PlanData.{PlanData}
use Rattle.proof_journals.specs.Run.Kept.{IsKept}
use Rattle.proof_migration.proofs.Program.Turns.Follows.{kept_front}

pub along_of : (plan : PlanData) (Q : List Entry → Entry → Type 0) → ((before : List Entry) (entry : Entry) → IsKept plan (before ++ entry ∷ []) → Q before entry) → (before entries : List Entry) → IsKept plan (before ++ entries) → Along Q before entries
along_of plan Q each before [] kept = tt
along_of plan Q each before (first ∷ entries) kept =
    let later : IsKept plan ((before ++ first ∷ []) ++ entries) = subst (IsKept plan) (sym (append_assoc before (first ∷ []) entries)) kept in
    (each before first (kept_front plan (before ++ first ∷ []) entries later), along_of plan Q each (before ++ first ∷ []) entries later)

-- *What each turn keeps is so after all*
pub each_kept : (plan : PlanData) (P : List Entry → Type 0) → ((before : List Entry) (entry : Entry) → IsKept plan (before ++ entry ∷ []) → P before → P (before ++ entry ∷ [])) → (journal : List Entry) → IsKept plan journal → P [] → P journal
each_kept plan P step journal kept start =
    Along-keeps (λ before entry. IsKept plan (before ++ entry ∷ [])) P step [] journal (along_of plan (λ before entry. IsKept plan (before ++ entry ∷ [])) (λ before entry one. one) [] journal kept) start
