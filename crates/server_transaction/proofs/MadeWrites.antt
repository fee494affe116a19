-- What is made ready of changes.
use Rattle.std.proofs.Common.{◌≡◌, ℕ, List, [], ◌∷◌, map, refl, sym, ap, ◌∙◌, subst}
use Rattle.base_values.specs.declared.gho_schema.schema.Schema.{Schema}
use Rattle.base_values.specs.GhoSchema.Rows.{key_places}
use Rattle.base_values.specs.declared.event.Change.{Change}
use Rattle.base_values.specs.declared.event.RowEvent.{RowEvent}
use Rattle.server_model.specs.Operations.{events_of}
use Rattle.server_transaction.specs.declared.ready_changes.ReadyChange.{ReadyChange}
use Rattle.server_transaction.specs.Ready.{ready_change}
use Rattle.server_transaction.specs.Stored.{IsMade}

-- the changes of events
changes_back : (name : List ℕ) (changes : List Change) → map (λ (event : RowEvent). event.change) (events_of name changes) ≡ changes
changes_back name [] = refl
changes_back name (change ∷ changes) = ap (λ (cs : List Change). change ∷ cs) (changes_back name changes)

pub changes_are : (name : List ℕ) (changes : List Change) (events : List RowEvent) → events ≡ events_of name changes → map (λ event. event.change) events ≡ changes
changes_are name changes events is = ap (map (λ (event : RowEvent). event.change)) is ∙ changes_back name changes

pub made : (schema schema' : Schema) (changes : List Change) (places : List ℕ) (events : List RowEvent) (ready : List ReadyChange) → schema' ≡ schema → places ≡ key_places schema → events ≡ events_of schema.name changes → ready ≡ map (ready_change places) changes
    → IsMade (record { schema = schema'; changes = map (λ event. event.change) events }) events ready
made schema schema' changes places events ready same places_are events_are ready_are =
    let back : map (λ (event : RowEvent). event.change) events ≡ changes = changes_are schema.name changes events events_are in
    subst (λ (s : Schema). IsMade (record { schema = s; changes = map (λ event. event.change) events }) events ready) (sym same)
    (subst (λ (cs : List Change). IsMade (record { schema = schema; changes = cs }) events ready) (sym back)
    (record { events_are = events_are; ready_are = ready_are ∙ ap (λ (ps : List ℕ). map (ready_change ps) changes) places_are }))
