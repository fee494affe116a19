use Rattle.std.proofs.Common.{◌≡◌, ◌<◌, ◌∙◌, ℕ, false, true, map, set, remove, length, slice_get, None, IsSome, sym, ap, subst}
use Rattle.std.specs.String.{string_bytes, string_eq}
use Rattle.std.specs.Map.{keys_of, values_of, lookup}
use Rattle.table_store.specs.NameMap.NameMaps.{NamedValues}
use Rattle.std.proofs.lemmas.List.{length-map}
use Rattle.table_store.proofs.NameMap.Entries.{absent, still_absent, name_at, put_at, names_set, values_kept}
use Rattle.table_store.proofs.name_map.map.NameMap.rename.Goals as goal
use Rattle.table_store.proofs.name_map.map.NameMap.rename.Goals.{in-Ok+in-Some-1, in-Ok+in-None-1, in-Err-1}

pub shift_insert-requires-clause-below_len : goal.shift_insert-requires-clause-below_len
shift_insert-requires-clause-below_len g c has =
    let es = c.self.inside.entries.entries in
    let gone : lookup (string_eq c.args.name) c.shift_remove_index.new.self.entries ≡ None = rw c.shift_remove_index.ensures.entries (absent (string_bytes c.args.name) (remove es c.args.place) (still_absent (string_bytes c.args.name) es c.args.place (rw (← c.self.view_is) at c.requires.new))) in
    let no : false ≡ true = subst IsSome gone has in
    absurd (cc)

pub returns-clause-name : goal.returns-clause-name
returns-clause-name g c =
    ap (λ (v : NamedValues _). slice_get v.names c.args.place) (sym c.self.view_is) ∙ name_at c.self.inside.entries.entries c.args.place c.in-Some.old c.in-Some.value (sym c.in-Some.ensures.entry)

pub returns-clause-names : goal.returns-clause-names
returns-clause-names g c =
    let lt : c.args.place < length c.self.inside.entries.entries = subst (λ (n : ℕ). c.args.place < n) (length-map c.self.inside.entries.entries (λ e. e.1)) (rw (← c.self.view_is) at c.requires.within) in
    let put : c.shift_insert.new.self.entries ≡ set c.self.inside.entries.entries c.args.place (c.args.name, c.in-Some.value) = c.in-Ok.ensures.entries ∙ put_at c.shift_remove_index.new.self c.self.inside.entries.entries c.args.place c.args.name c.in-Some.value lt c.shift_remove_index.ensures.entries (rw (← c.self.view_is) at c.requires.new) in
    let named : map string_bytes (keys_of c.shift_insert.new.self.entries) ≡ set c.args.self.now.names c.args.place (string_bytes c.args.name) = ap (λ fs. map string_bytes (keys_of fs)) put ∙ names_set c.self.inside.entries.entries c.args.place c.args.name c.in-Some.value ∙ ap (λ (v : NamedValues _). set v.names c.args.place (string_bytes c.args.name)) c.self.view_is in
    elim c.match-this.branch [
      | in-Ok+in-Some-1 w ↦ ap (λ (v : NamedValues _). v.names) w.self-is ∙ named
      | in-Ok+in-None-1 w ↦ ap (λ (v : NamedValues _). v.names) w.self-is ∙ named
      | in-Err-1 w ↦ ap (λ (v : NamedValues _). v.names) w.self-is ∙ named
    ]

pub returns-clause-values : goal.returns-clause-values
returns-clause-values g c =
    let lt : c.args.place < length c.self.inside.entries.entries = subst (λ (n : ℕ). c.args.place < n) (length-map c.self.inside.entries.entries (λ e. e.1)) (rw (← c.self.view_is) at c.requires.within) in
    let put : c.shift_insert.new.self.entries ≡ set c.self.inside.entries.entries c.args.place (c.args.name, c.in-Some.value) = c.in-Ok.ensures.entries ∙ put_at c.shift_remove_index.new.self c.self.inside.entries.entries c.args.place c.args.name c.in-Some.value lt c.shift_remove_index.ensures.entries (rw (← c.self.view_is) at c.requires.new) in
    let kept : values_of c.shift_insert.new.self.entries ≡ c.args.self.now.values = ap values_of put ∙ values_kept c.self.inside.entries.entries c.args.place c.in-Some.old c.args.name c.in-Some.value (sym c.in-Some.ensures.entry) ∙ ap (λ (v : NamedValues _). v.values) c.self.view_is in
    elim c.match-this.branch [
      | in-Ok+in-Some-1 w ↦ ap (λ (v : NamedValues _). v.values) w.self-is ∙ kept
      | in-Ok+in-None-1 w ↦ ap (λ (v : NamedValues _). v.values) w.self-is ∙ kept
      | in-Err-1 w ↦ ap (λ (v : NamedValues _). v.values) w.self-is ∙ kept
    ]
