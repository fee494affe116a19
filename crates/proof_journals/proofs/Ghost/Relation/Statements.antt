-- The applier's statements apply events.
use Rattle.std.proofs.Common.{◌≡◌, ℕ, ◌+◌, Bool, true, false, Option, Some, None, refl, ◌∙◌, subst, ◌⊎◌, inl, inr}
use Rattle.proof_journals.specs.Ghost.Relation.Timelines.{Timeline}
use Rattle.proof_journals.specs.Ghost.Relation.AppliedEvents.{EventOfKeys, Displaced, Replaced, Deleted, Updated, AppliedAt}
use Rattle.proof_journals.specs.Ghost.Relation.AppliedEvents.AppliedAt.{kept, displaced, written, removed, missed}
use Rattle.proof_journals.specs.Ghost.Relation.Laws.{Decides}

none_of : {M : Type 0} (clash : M → M → Bool) (made : M) (before after : Option M) → before ≡ None → (after ≡ before) ⊎ Displaced clash made before after → after ≡ None
none_of clash made before after none (inl same) = same ∙ none
none_of clash made before after none (inr away) = away.gone

-- REPLACE, of a row whose old key was taken out where it differs
pub replaces : {K R M : Type 0} → Decides K → (timeline : Timeline K R M) (half : K → Bool) (position : ℕ) (old new : K) (row : R) (made : M) (before after : K → Option M) → EventOfKeys timeline position old new → ((key : K) → half key ≡ true → (old ≡ key) ⊎ (new ≡ key))
    → timeline.row_at (position + 1) new ≡ Some row → timeline.converted_row row ≡ Some made → ((new ≡ old → ⊥) → (timeline.row_at (position + 1) old ≡ None) × (before old ≡ None)) → Replaced timeline.converted_rows_clash new made before after
    → (key : K) → AppliedAt timeline half position before after key
replaces {K = K} {R = R} {M = M} decides timeline half position old new row made before after event taken stands imaged left replaced key = at (decides new key) (decides old key)
  where
    whole : (new ≡ key → ⊥) → (old ≡ key → ⊥) → (b : Bool) → half key ≡ b → half key ≡ false
    whole not_new not_old true is = absurd (elim (taken key is) [ inl one ↦ not_old one | inr one ↦ not_new one ])
    whole not_new not_old false is = is

    other : (new ≡ key → ⊥) → (old ≡ key → ⊥) → (after key ≡ before key) ⊎ Displaced timeline.converted_rows_clash made (before key) (after key) → AppliedAt timeline half position before after key
    other not_new not_old (inl same) = kept (whole not_new not_old (half key) refl) (event.untouched key not_old not_new) (event.same key not_old not_new) same
    other not_new not_old (inr gone) = displaced gone.was made row new not_new (event.same key not_old not_new) gone.stood stands imaged gone.clashes gone.gone

    old_one : (new ≡ key → ⊥) → old ≡ key → AppliedAt timeline half position before after key
    old_one not_new is =
        let gone = left (λ same. not_new (same ∙ is)) in
        removed (subst (λ k. timeline.row_at (position + 1) k ≡ None) is gone.0) (none_of timeline.converted_rows_clash made (before key) (after key) (subst (λ k. before k ≡ None) is gone.1) (replaced.others key not_new))

    at : (new ≡ key) ⊎ (new ≡ key → ⊥) → (old ≡ key) ⊎ (old ≡ key → ⊥) → AppliedAt timeline half position before after key
    at (inl is) which = written row made (subst (λ k. timeline.row_at (position + 1) k ≡ Some row) is stands) imaged (subst (λ k. after k ≡ Some made) is replaced.here)
    at (inr not_new) (inl is) = old_one not_new is
    at (inr not_new) (inr not_old) = other not_new not_old (replaced.others key not_new)

-- DELETE
pub deletes : {K R M : Type 0} → Decides K → (timeline : Timeline K R M) (position : ℕ) (key : K) (before after : K → Option M) → EventOfKeys timeline position key key → timeline.row_at (position + 1) key ≡ None → Deleted key before after → (other : K) → AppliedAt timeline (λ _. false) position before after other
deletes {K = K} decides timeline position key before after event none deleted other = at (decides key other)
  where
    at : (key ≡ other) ⊎ (key ≡ other → ⊥) → AppliedAt timeline (λ _. false) position before after other
    at (inl is) = removed (subst (λ k. timeline.row_at (position + 1) k ≡ None) is none) (subst (λ k. after k ≡ None) is deleted.here)
    at (inr differs) = kept refl (event.untouched other differs differs) (event.same other differs differs) (deleted.others other differs)

-- UPDATE in place
pub updates : {K R M : Type 0} → Decides K → (timeline : Timeline K R M) (position : ℕ) (key : K) (row : R) (made : M) (before after : K → Option M) → EventOfKeys timeline position key key → timeline.touches position key ≡ false → timeline.row_at (position + 1) key ≡ Some row → timeline.converted_row row ≡ Some made
    → Updated key made before after → (other : K) → AppliedAt timeline (λ _. false) position before after other
updates {K = K} {M = M} decides timeline position key row made before after event quiet stands imaged updated other = at (decides key other)
  where
    here : key ≡ other → ((before key ≡ None) × (after key ≡ None)) ⊎ (after key ≡ Some made) → AppliedAt timeline (λ _. false) position before after other
    here is (inl none) = missed refl (subst (λ k. timeline.touches position k ≡ false) is quiet) (subst (λ k. before k ≡ None) is none.0) (subst (λ k. after k ≡ None) is none.1)
    here is (inr now) = written row made (subst (λ k. timeline.row_at (position + 1) k ≡ Some row) is stands) imaged (subst (λ k. after k ≡ Some made) is now)

    at : (key ≡ other) ⊎ (key ≡ other → ⊥) → AppliedAt timeline (λ _. false) position before after other
    at (inl is) = here is updated.here
    at (inr differs) = kept refl (event.untouched other differs differs) (event.same other differs differs) (updated.others other differs)
