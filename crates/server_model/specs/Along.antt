-- What is said of a journal entry by entry, each with the entries before it. These words are of all lists; their laws are
-- beside them, since every layer above proves with them.
use Rattle.std.specs.Prelude.{◌≡◌, List, [], ◌∷◌, ◌++◌}
use Rattle.std.proofs.Common.{sym, ◌∙◌, ap, subst, append_assoc, append-nil}

-- each entry keeps the rule, which may ask of the entries before it
abbrev pub Along : {E : Type 0} → (List E → E → Type 0) → List E → List E → Type 0
Along keeps before [] = Unit {0}
Along keeps before (entry ∷ entries) = keeps before entry × Along keeps (before ++ entry ∷ []) entries

-- what each entry adds, one after the other
abbrev pub gathered : {E A : Type 0} → (List E → E → List A) → List E → List E → List A
gathered add before [] = []
gathered add before (entry ∷ entries) = add before entry ++ gathered add (before ++ entry ∷ []) entries

-- one more entry that keeps the rule
pub Along-more : {E : Type 0} (keeps : List E → E → Type 0) (before entries : List E) (entry : E) → Along keeps before entries → keeps (before ++ entries) entry → Along keeps before (entries ++ entry ∷ [])
Along-more keeps before [] entry kept now = (subst (λ all. keeps all entry) (append-nil before) now, tt)
Along-more keeps before (first ∷ entries) entry kept now =
    (kept.0, Along-more keeps (before ++ first ∷ []) entries entry kept.1 (subst (λ all. keeps all entry) (sym (append_assoc before (first ∷ []) entries)) now))

-- what one more entry adds
pub gathered-more : {E A : Type 0} (add : List E → E → List A) (before entries : List E) (entry : E) → gathered add before (entries ++ entry ∷ []) ≡ gathered add before entries ++ add (before ++ entries) entry
gathered-more add before [] entry = append-nil (add before entry) ∙ ap (λ all. add all entry) (sym (append-nil before))
gathered-more add before (first ∷ entries) entry =
    ap (λ more. add before first ++ more) (gathered-more add (before ++ first ∷ []) entries entry)
    ∙ sym (append_assoc (add before first) (gathered add (before ++ first ∷ []) entries) (add (before ++ first ∷ [] ++ entries) entry))
    ∙ ap (λ all. add before first ++ gathered add (before ++ first ∷ []) entries ++ add all entry) (append_assoc before (first ∷ []) entries)

-- what two rules say together
pub Along-both : {E : Type 0} (keeps holds : List E → E → Type 0) (before entries : List E) → Along keeps before entries → Along holds before entries → Along (λ all entry. keeps all entry × holds all entry) before entries
Along-both keeps holds before [] kept held = tt
Along-both keeps holds before (first ∷ entries) kept held = ((kept.0, held.0), Along-both keeps holds (before ++ first ∷ []) entries kept.1 held.1)

-- what each entry that keeps the rule hands on holds at the end
pub Along-keeps : {E : Type 0} (keeps : List E → E → Type 0) (P : List E → Type 0) → ((all : List E) (entry : E) → keeps all entry → P all → P (all ++ entry ∷ [])) → (before entries : List E) → Along keeps before entries → P before → P (before ++ entries)
Along-keeps keeps P step before [] kept now = subst P (sym (append-nil before)) now
Along-keeps keeps P step before (first ∷ entries) kept now =
    subst P (append_assoc before (first ∷ []) entries) (Along-keeps keeps P step (before ++ first ∷ []) entries kept.1 (step before first kept.0 now))

-- of entries after others: the rule along the last of them
pub Along-rest : {E : Type 0} (keeps : List E → E → Type 0) (before some rest : List E) → Along keeps before (some ++ rest) → Along keeps (before ++ some) rest
Along-rest keeps before [] rest kept = subst (λ all. Along keeps all rest) (sym (append-nil before)) kept
Along-rest keeps before (first ∷ some) rest kept = subst (λ all. Along keeps all rest) (append_assoc before (first ∷ []) some) (Along-rest keeps (before ++ first ∷ []) some rest kept.1)

-- and along all of them
pub Along-append : {E : Type 0} (keeps : List E → E → Type 0) (before some rest : List E) → Along keeps before some → Along keeps (before ++ some) rest → Along keeps before (some ++ rest)
Along-append keeps before [] rest kept more = subst (λ all. Along keeps all rest) (append-nil before) more
Along-append keeps before (first ∷ some) rest kept more = (kept.0, Along-append keeps (before ++ first ∷ []) some rest kept.1 (subst (λ all. Along keeps all rest) (sym (append_assoc before (first ∷ []) some)) more))
