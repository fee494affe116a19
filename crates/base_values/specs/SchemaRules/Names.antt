-- Names of columns and keys: which are one, which are free, and the places that the names of a key's columns stand for.
use Rattle.std.specs.Prelude.{codes, ℕ, zero, suc, ◌+◌, Bool, true, not, ◌&&◌, ◌==◌, if◌then◌else◌, List, [], ◌∷◌, ◌++◌, length, find, position, unwrap_or, Option}
use Rattle.std.specs.Fmt.{decimal}
use Rattle.std.specs.List.{filter_map, list_any}
use Rattle.base_values.specs.GhoSchema.Names.{same_name}

-- one of the names is this one, whatever the case of letters
unfoldable pub is_among : List (List ℕ) → List ℕ → Bool
is_among names name = list_any (λ known. same_name known name) names

-- none of the names is one before it
unfoldable pub differ_from : List (List ℕ) → List (List ℕ) → Bool
differ_from before [] = true
differ_from before (name ∷ names) = not (is_among before name) && differ_from (before ++ name ∷ []) names

-- no two of the names are one
abbrev pub names_differ : List (List ℕ) → Bool
names_differ names = differ_from [] names

-- the first place at which the name is
unfoldable pub place_of : List (List ℕ) → List ℕ → Option ℕ
place_of names name = position (λ known. same_name known name) names

-- the places of a key's columns
unfoldable pub places_of : List (List ℕ) → List (List ℕ) → List ℕ
places_of names columns = filter_map (place_of names) columns

-- a name as the column that has it spells it
unfoldable pub spelled : List (List ℕ) → List ℕ → List ℕ
spelled names name = unwrap_or (find (λ known. same_name known name) names) name

-- the name itself, and then with _2, _3 and so on after it
unfoldable pub numbered : List ℕ → ℕ → List ℕ
numbered base number = if number == 1 then base else base ++ codes "_" ++ decimal number

-- the first numbered name that isn't among the others, of this many more
unfoldable pub first_free : List (List ℕ) → List ℕ → ℕ → ℕ → List ℕ
first_free taken base zero number = numbered base number
first_free taken base (suc most) number = if is_among taken (numbered base number) then first_free taken base most (number + 1) else numbered base number

-- The name of a key without one: that of its first column, numbered where it is taken ("CREATE TABLE Statement"). Among one more name than are taken one is free.
abbrev pub free_name : List (List ℕ) → List ℕ → List ℕ
free_name taken base = first_free taken base (length taken) 1

-- the first of a key's columns, as the column is spelled
unfoldable pub first_column : List (List ℕ) → List (List ℕ) → List ℕ
first_column names [] = []
first_column names (column ∷ columns) = spelled names column
