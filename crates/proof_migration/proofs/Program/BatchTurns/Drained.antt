-- Where all is applied, the applier's reading tells no event of the table.
use Rattle.std.proofs.Common.{◌≡◌, ℕ, Bool, true, false, cond, ◌||◌, List, [], ◌∷◌, ◌++◌, filter, take, drop, refl, sym, ap, ◌∙◌, append_assoc}
use Rattle.std.specs.Str.{bytes_eq}
use Rattle.std.proofs.lemmas.List.{append_cancel_left, take-append-drop}
use Rattle.base_values.specs.declared.event.RowEvent.{RowEvent}
use Rattle.tool_program.specs.EventApplier.Appliers.{events_of}
use Rattle.base_values.specs.ToolNames.{log_name}
use Rattle.proof_journals.proofs.Sentry.Draining.{IsRead, on_both}

none_front : (t : List ℕ) (a b : List RowEvent) → events_of t (a ++ b) ≡ [] → events_of t a ≡ []
none_front t [] b none = refl
none_front t (event ∷ a) b none = by (bytes_eq event.table t) none (none_front t a b) where
  by : (own : Bool) → cond own (event ∷ events_of t (a ++ b)) (events_of t (a ++ b)) ≡ [] → (events_of t (a ++ b) ≡ [] → events_of t a ≡ []) → cond own (event ∷ events_of t a) (events_of t a) ≡ []
  by true none rest = absurd cc
  by false none rest = rest none

none_of_both : (t : List ℕ) (part : List RowEvent) → events_of t part ≡ [] → events_of t (filter (on_both t) part) ≡ []
none_of_both t [] none = refl
none_of_both t (event ∷ part) none = by (bytes_eq event.table t) (bytes_eq event.table (log_name t)) refl none (none_of_both t part) where
  by : (own log : Bool) → bytes_eq event.table t ≡ own → cond own (event ∷ events_of t part) (events_of t part) ≡ [] → (events_of t part ≡ [] → events_of t (filter (on_both t) part) ≡ []) → events_of t (cond (own || log) (event ∷ filter (on_both t) part) (filter (on_both t) part)) ≡ []
  by true log is none rest = absurd cc
  by false true is none rest = rw is (rest none)
  by false false is none rest = rest none

-- *None is told*
pub none_reported : (t : List ℕ) (log : List RowEvent) (position next : ℕ) (events : List RowEvent) → IsRead t log position events next → events_of t (drop position log) ≡ [] → events_of t events ≡ []
none_reported t log position next events is none = ap (events_of t) is.read ∙ none_of_both t is.part (none_front t is.part (drop next log) (ap (events_of t) (sym parts) ∙ none)) where
  parts : drop position log ≡ is.part ++ drop next log
  parts = append_cancel_left (take position log) (drop position log) (is.part ++ drop next log) (take-append-drop position log ∙ sym (take-append-drop next log) ∙ ap (λ (l : List RowEvent). l ++ drop next log) is.joins ∙ append_assoc (take position log) is.part (drop next log))
