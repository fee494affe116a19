-- The clauses of a text of bytes write names without backquotes and sound defaults.
use Rattle.std.proofs.Common.{◌≡◌, ℕ, Bool, true, false, ◌||◌, cond, List, [], ◌∷◌, length, Option, Some, None, Result, Ok, Err, refl, subst, codes}
use Rattle.std.specs.List.{AllByRecursion}
use Rattle.std.specs.Str.{bytes_eq}
use Rattle.base_values.specs.declared.kind.Kind.{Kind}
use Rattle.base_values.specs.declared.row_conversion.clause.Clause.{Clause}
use Rattle.base_values.specs.declared.row_conversion.clause.Clause.TheVariants.{Add, Drop, Rename, Change, AddIndex, DropIndex}
use Rattle.base_values.specs.declared.row_conversion.clause.NewColumn.{NewColumn}
use Rattle.base_values.specs.declared.row_conversion.clause.ColumnPosition.{ColumnPosition}
use Rattle.base_values.specs.declared.row_conversion.clause.ColumnPosition.TheVariants.{Unsaid, First, After}
use Rattle.sql_grammar.specs.declared.attributes.Attribute.{Attribute}
use Rattle.sql_grammar.specs.declared.attributes.Attribute.TheVariants.{Nullable, Default, AutoIncrement, Passed}
use Rattle.sql_grammar.specs.declared.attributes.Attributes.{Attributes}
use Rattle.sql_grammar.specs.declared.code.SchemaCode.{SchemaCode}
use Rattle.sql_grammar.specs.declared.token.Token.{Token}
use Rattle.sql_grammar.specs.Attributes.{unwritten, with_attribute, attribute_at}
use Rattle.sql_grammar.specs.Keys.{key_at}
use Rattle.sql_grammar.specs.Kinds.{kind_at}
use Rattle.sql_grammar.specs.Pieces.{after_keyword, keyword_at, name_at}
use Rattle.base_values.specs.SchemaRules.Results.{◌>>=◌}
use Rattle.sql_grammar.specs.Tokens.{is_keyword, same_sign, text_words}
use Rattle.sql_change.specs.declared.code.AlterCode.{AlterCode}
use Rattle.sql_change.specs.declared.code.AlterCode.TheVariants as refusals
use Rattle.base_values.proofs.SchemaRules.Steps.{bind_ok, ok_is}
use Rattle.sql_alter.specs.Additions.{add_column_at, add_index_at, add_at, change_at, modify_at}
use Rattle.sql_alter.specs.Clauses.{clause_at, alone, list_at, clauses_at, of_table, after_table, after_alter, front_at, unless_faulty, read}
use Rattle.sql_alter.specs.Column.{primary_at, new_attribute_at, new_attributes_at, new_column_at, after_at, column_position_of, column_position_at}
use Rattle.sql_alter.specs.Pieces.{in_alter, without, after_column, is_index_word, is_out_of_scope}
use Rattle.sql_alter.specs.AlterText.{alter_at}
use Rattle.sql_alter.specs.Removals.{drop_column_at, drop_index_at, drop_at, rename_column_at, rename_at}
use Rattle.proof_schemas.specs.Printed.Laws.{CanQuote}
use Rattle.proof_schemas.proofs.ReadAgain.Sound.{AreBytes, AreSound, text-sound}
use Rattle.proof_schemas.proofs.ReadAgain.SoundReaders.{Leaves, LeavesWords, LeavesSome, Anything, leaves-bind, words-bind, leaves-ok, leaves-err, leaves-cond, some-none, some-err, some-cond, SomeSound, after_keyword-sound, keyword-sound, name_at-sound, listed-sound, gathered-sound, kind_at-sound, SoundAttribute, attribute-sound, SoundName, SoundKey, key_at-sound}
use Rattle.proof_schemas.proofs.ReadAgain.SoundTables.{SoundDefault}
use Rattle.proof_schemas.proofs.Alters.Clauses.{in_alter-ok, never, faultless-is, alone-is}

-- ---- pieces

alter-leaves : {A : Type 0} (P : A → Type 0) (r : Result (A × List Token) SchemaCode) → Leaves P r → Leaves P (in_alter r)
alter-leaves P r leaves x e = leaves x (in_alter-ok r x e)

alter-words : (r : Result (List Token) SchemaCode) → LeavesWords r → LeavesWords (in_alter r)
alter-words r leaves x e = leaves x (in_alter-ok r x e)

alter-some : {A : Type 0} (P : A → Type 0) (r : Result (Option (A × List Token)) SchemaCode) → LeavesSome P r → LeavesSome P (in_alter r)
alter-some P r leaves x e = leaves x (in_alter-ok r (Some x) e)

alter-name : (words : List Token) → AreSound words → Leaves CanQuote (in_alter (name_at words))
alter-name words sound = alter-leaves CanQuote (name_at words) (name_at-sound words sound)

without-sound : (words : List Token) (o : Option (List Token)) → AreSound words → SomeSound o → AreSound (without words o)
without-sound words (Some rest) sound following = following rest refl
without-sound words None sound following = sound

after_column-sound : (words : List Token) → AreSound words → AreSound (after_column words)
unfolding after_column
after_column-sound words sound = without-sound words (after_keyword (codes "COLUMN") words) sound (after_keyword-sound (codes "COLUMN") words sound)

-- ---- columns

abbrev SoundOwn : Attributes → Type 0
SoundOwn attributes = SoundDefault attributes.default

abbrev chosen : (A : Type 0) → AlterCode → Result (Option A) AlterCode
chosen A code = Err code

refused_some : {A : Type 0} (code : AlterCode) (x : A) → chosen A code ≡ Ok (Some x) → ⊥
refused_some code x e = absurd cc

primary-some : {A : Type 0} (P : A → Type 0) (words : List Token) → LeavesSome {C = AlterCode} P (primary_at words)
primary-some {A} P words x e =
    let b = bind_ok (in_alter (keyword_at (codes "KEY") words)) (λ rest. Err refusals.ClusteredKeyChange) (Some x) e in
    absurd (refused_some {A = A × List Token} refusals.ClusteredKeyChange x b.2)

attribute_at-sound : (version : ℕ) (words : List Token) → AreSound words → LeavesSome (SoundAttribute version) (new_attribute_at version words)
unfolding new_attribute_at
attribute_at-sound version [] sound = some-none {C = AlterCode} (SoundAttribute version)
attribute_at-sound version (word ∷ rest) sound =
    some-cond (SoundAttribute version) (is_keyword word (codes "UNIQUE")) _ _ (some-err {C = AlterCode} (SoundAttribute version) refusals.AddUnique)
    (some-cond (SoundAttribute version) (is_keyword word (codes "PRIMARY")) _ _ (primary-some (SoundAttribute version) rest) (alter-some (SoundAttribute version) (attribute_at version (word ∷ rest)) (attribute-sound version (word ∷ rest) sound)))

with-own : (version : ℕ) (so_far : Attributes) (attribute : Attribute) → SoundOwn so_far → SoundAttribute version attribute → SoundOwn (with_attribute so_far attribute)
with-own version so_far (Nullable nullable) is own = is
with-own version so_far (Default value) is own = own
with-own version so_far AutoIncrement is own = is
with-own version so_far Passed is own = is

attributes_at-sound : (version : ℕ) (words : List Token) → AreSound words → Leaves SoundOwn (new_attributes_at version words)
unfolding new_attributes_at
attributes_at-sound version words sound = gathered-sound SoundOwn (SoundAttribute version) (new_attribute_at version) with_attribute (attribute_at-sound version) (with-own version) (length words) unwritten words tt sound

abbrev pub SoundNew : NewColumn → Type 0
SoundNew column = CanQuote column.name × SoundDefault column.default

new_column-sound : (version : ℕ) (words : List Token) → AreSound words → Leaves SoundNew (new_column_at version words)
unfolding new_column_at
new_column-sound version words sound =
    leaves-bind CanQuote SoundNew (in_alter (name_at words)) (λ name. in_alter (kind_at name.1) >>= λ kind. new_attributes_at version kind.1 >>= λ attributes. Ok (record { name = name.0; kind = kind.0; nullable = attributes.0.nullable; default = attributes.0.default; auto = attributes.0.auto }, attributes.1)) (alter-name words sound)
    (λ name is left. leaves-bind {A = Kind} Anything SoundNew (in_alter (kind_at name.1)) (λ kind. new_attributes_at version kind.1 >>= λ attributes. Ok (record { name = name.0; kind = kind.0; nullable = attributes.0.nullable; default = attributes.0.default; auto = attributes.0.auto }, attributes.1)) (alter-leaves {A = Kind} Anything (kind_at name.1) (kind_at-sound name.1 left))
    (λ kind u left. leaves-bind SoundOwn SoundNew (new_attributes_at version kind.1) (λ attributes. Ok (record { name = name.0; kind = kind.0; nullable = attributes.0.nullable; default = attributes.0.default; auto = attributes.0.auto }, attributes.1)) (attributes_at-sound version kind.1 left)
    (λ attributes own left. leaves-ok {C = AlterCode} SoundNew (record { name = name.0; kind = kind.0; nullable = attributes.0.nullable; default = attributes.0.default; auto = attributes.0.auto }) attributes.1 (is, own) left)))

after-sound : (words : List Token) → AreSound words → Leaves {A = ColumnPosition} Anything (after_at words)
after-sound words sound = leaves-bind {B = ColumnPosition} CanQuote Anything (in_alter (name_at words)) (λ name. Ok (After name.0, name.1)) (alter-name words sound) (λ name is left. leaves-ok {A = ColumnPosition} {C = AlterCode} Anything (After name.0) name.1 tt left)

column_position_of-sound : (words : List Token) (first following : Option (List Token)) → AreSound words → SomeSound first → SomeSound following → Leaves {A = ColumnPosition} Anything (column_position_of words first following)
column_position_of-sound words (Some rest) following sound first second = leaves-ok {A = ColumnPosition} {C = AlterCode} Anything First rest tt (first rest refl)
column_position_of-sound words None (Some rest) sound first second = after-sound rest (second rest refl)
column_position_of-sound words None None sound first second = leaves-ok {A = ColumnPosition} {C = AlterCode} Anything Unsaid words tt sound

column_position-sound : (words : List Token) → AreSound words → Leaves {A = ColumnPosition} Anything (column_position_at words)
unfolding column_position_at
column_position-sound words sound = column_position_of-sound words (after_keyword (codes "FIRST") words) (after_keyword (codes "AFTER") words) sound (after_keyword-sound (codes "FIRST") words sound) (after_keyword-sound (codes "AFTER") words sound)

-- ---- clauses

abbrev pub SoundClause : Clause → Type 0
SoundClause (Add column column_position) = SoundNew column
SoundClause (Drop name) = Unit {0}
SoundClause (Rename old new) = CanQuote new
SoundClause (Change old column column_position) = SoundNew column
SoundClause (AddIndex name columns) = SoundName name
SoundClause (DropIndex name) = Unit {0}

add_column-sound : (version : ℕ) (words : List Token) → AreSound words → Leaves SoundClause (add_column_at version words)
unfolding add_column_at
add_column-sound version words sound =
    leaves-bind SoundNew SoundClause (new_column_at version words) (λ column. column_position_at column.1 >>= λ column_position. Ok (Add column.0 column_position.0, column_position.1)) (new_column-sound version words sound)
    (λ column is left. leaves-bind {A = ColumnPosition} Anything SoundClause (column_position_at column.1) (λ column_position. Ok (Add column.0 column_position.0, column_position.1)) (column_position-sound column.1 left) (λ column_position u left. leaves-ok {C = AlterCode} SoundClause (Add column.0 column_position.0) column_position.1 is left))

add_index-sound : (words : List Token) → AreSound words → Leaves SoundClause (add_index_at words)
unfolding add_index_at
add_index-sound words sound =
    leaves-bind SoundKey SoundClause (in_alter (key_at words)) (λ key. Ok (AddIndex key.0.name key.0.columns, key.1)) (alter-leaves SoundKey (key_at words) (key_at-sound words sound)) (λ key is left. leaves-ok {C = AlterCode} SoundClause (AddIndex key.0.name key.0.columns) key.1 is.0 left)

change-sound : (version : ℕ) (words : List Token) → AreSound words → Leaves SoundClause (change_at version words)
unfolding change_at
change-sound version words sound =
    leaves-bind CanQuote SoundClause (in_alter (name_at (after_column words))) (λ old. new_column_at version old.1 >>= λ column. column_position_at column.1 >>= λ column_position. Ok (Change old.0 column.0 column_position.0, column_position.1)) (alter-name (after_column words) (after_column-sound words sound))
    (λ old n left. leaves-bind SoundNew SoundClause (new_column_at version old.1) (λ column. column_position_at column.1 >>= λ column_position. Ok (Change old.0 column.0 column_position.0, column_position.1)) (new_column-sound version old.1 left)
    (λ column is left. leaves-bind {A = ColumnPosition} Anything SoundClause (column_position_at column.1) (λ column_position. Ok (Change old.0 column.0 column_position.0, column_position.1)) (column_position-sound column.1 left) (λ column_position u left. leaves-ok {C = AlterCode} SoundClause (Change old.0 column.0 column_position.0) column_position.1 is left)))

modify-sound : (version : ℕ) (words : List Token) → AreSound words → Leaves SoundClause (modify_at version words)
unfolding modify_at
modify-sound version words sound =
    leaves-bind SoundNew SoundClause (new_column_at version (after_column words)) (λ column. column_position_at column.1 >>= λ column_position. Ok (Change column.0.name column.0 column_position.0, column_position.1)) (new_column-sound version (after_column words) (after_column-sound words sound))
    (λ column is left. leaves-bind {A = ColumnPosition} Anything SoundClause (column_position_at column.1) (λ column_position. Ok (Change column.0.name column.0 column_position.0, column_position.1)) (column_position-sound column.1 left) (λ column_position u left. leaves-ok {C = AlterCode} SoundClause (Change column.0.name column.0 column_position.0) column_position.1 is left))

drop_column-sound : (words : List Token) → AreSound words → Leaves SoundClause (drop_column_at words)
unfolding drop_column_at
drop_column-sound words sound = leaves-bind CanQuote SoundClause (in_alter (name_at words)) (λ name. Ok (Drop name.0, name.1)) (alter-name words sound) (λ name is left. leaves-ok {C = AlterCode} SoundClause (Drop name.0) name.1 tt left)

drop_index-sound : (words : List Token) → AreSound words → Leaves SoundClause (drop_index_at words)
unfolding drop_index_at
drop_index-sound words sound = leaves-bind CanQuote SoundClause (in_alter (name_at words)) (λ name. Ok (DropIndex name.0, name.1)) (alter-name words sound) (λ name is left. leaves-ok {C = AlterCode} SoundClause (DropIndex name.0) name.1 tt left)

rename_column-sound : (words : List Token) → AreSound words → Leaves SoundClause (rename_column_at words)
unfolding rename_column_at
rename_column-sound words sound =
    leaves-bind CanQuote SoundClause (in_alter (name_at words)) (λ old. in_alter (keyword_at (codes "TO") old.1) >>= λ rest. in_alter (name_at rest) >>= λ new. Ok (Rename old.0 new.0, new.1)) (alter-name words sound)
    (λ old n left. words-bind SoundClause (in_alter (keyword_at (codes "TO") old.1)) (λ rest. in_alter (name_at rest) >>= λ new. Ok (Rename old.0 new.0, new.1)) (alter-words (keyword_at (codes "TO") old.1) (keyword-sound (codes "TO") old.1 left))
    (λ rest left. leaves-bind CanQuote SoundClause (in_alter (name_at rest)) (λ new. Ok (Rename old.0 new.0, new.1)) (alter-name rest left) (λ new is left. leaves-ok {C = AlterCode} SoundClause (Rename old.0 new.0) new.1 is left)))

refused : (code : AlterCode) → Leaves SoundClause (Err code)
refused code = leaves-err {C = AlterCode} SoundClause code

primary-sound : (words : List Token) → Leaves SoundClause (primary_at words)
primary-sound words x e =
    let b = bind_ok (in_alter (keyword_at (codes "KEY") words)) (λ rest. Err refusals.ClusteredKeyChange) x e in
    absurd (never refusals.ClusteredKeyChange x b.2)

add-sound : (version : ℕ) (words : List Token) → AreSound words → Leaves SoundClause (add_at version words)
unfolding add_at
add-sound version [] sound = refused refusals.Syntax
add-sound version (word ∷ rest) sound =
    leaves-cond SoundClause (is_out_of_scope word) _ _ (refused refusals.Scope)
    (leaves-cond SoundClause (is_keyword word (codes "UNIQUE")) _ _ (refused refusals.AddUnique)
    (leaves-cond SoundClause (is_keyword word (codes "PRIMARY")) _ _ (primary-sound rest)
    (leaves-cond SoundClause (is_index_word word) _ _ (add_index-sound rest sound.1) (add_column-sound version (after_column (word ∷ rest)) (after_column-sound (word ∷ rest) sound)))))

drop-sound : (words : List Token) → AreSound words → Leaves SoundClause (drop_at words)
unfolding drop_at
drop-sound [] sound = refused refusals.Syntax
drop-sound (word ∷ rest) sound =
    leaves-cond SoundClause (is_out_of_scope word) _ _ (refused refusals.Scope)
    (leaves-cond SoundClause (is_keyword word (codes "PRIMARY")) _ _ (primary-sound rest)
    (leaves-cond SoundClause (is_index_word word) _ _ (drop_index-sound rest sound.1) (drop_column-sound (after_column (word ∷ rest)) (after_column-sound (word ∷ rest) sound))))

rename-sound : (words : List Token) → AreSound words → Leaves SoundClause (rename_at words)
unfolding rename_at
rename-sound [] sound = refused refusals.Syntax
rename-sound (word ∷ rest) sound =
    leaves-cond SoundClause (is_keyword word (codes "COLUMN")) _ _ (rename_column-sound rest sound.1)
    (leaves-cond SoundClause (is_keyword word (codes "TO") || is_keyword word (codes "AS")) _ _ (refused refusals.RenameTable)
    (leaves-cond SoundClause (is_index_word word) _ _ (refused refusals.Scope) (refused refusals.Syntax)))

clause-sound : (version : ℕ) (words : List Token) → AreSound words → Leaves SoundClause (clause_at version words)
unfolding clause_at
clause-sound version [] sound = refused refusals.Syntax
clause-sound version (word ∷ rest) sound =
    leaves-cond SoundClause (is_keyword word (codes "ADD")) _ _ (add-sound version rest sound.1)
    (leaves-cond SoundClause (is_keyword word (codes "DROP")) _ _ (drop-sound rest sound.1)
    (leaves-cond SoundClause (is_keyword word (codes "RENAME")) _ _ (rename-sound rest sound.1)
    (leaves-cond SoundClause (is_keyword word (codes "CHANGE")) _ _ (change-sound version rest sound.1)
    (leaves-cond SoundClause (is_keyword word (codes "MODIFY")) _ _ (modify-sound version rest sound.1)
    (leaves-cond SoundClause (same_sign word (codes ",")) _ _ (refused refusals.Syntax) (refused refusals.Scope))))))

-- ---- the whole text

list-sound : (version : ℕ) (words : List Token) → AreSound words → Leaves (AllByRecursion SoundClause) (list_at version words)
unfolding list_at
list-sound version words sound = listed-sound SoundClause (clause_at version) refusals.Syntax (clause-sound version) (length words) words sound

clauses-sound : (version : ℕ) (words : List Token) (clauses : List Clause) → AreSound words → clauses_at version words ≡ Ok clauses → AllByRecursion SoundClause clauses
unfolding clauses_at
clauses-sound version words clauses sound e =
    let a = bind_ok (list_at version words) (λ clauses. alone clauses.0 clauses.1) clauses e in
    subst (AllByRecursion SoundClause) (alone-is a.0.0 clauses a.0.1 a.2) (list-sound version words sound a.0 a.1).0

of_table-by : (b : Bool) (code : AlterCode) (rest words : List Token) → AreSound rest → cond b (Ok rest) (Err code) ≡ Ok words → AreSound words
of_table-by true code rest words sound e = subst AreSound (ok_is {C = AlterCode} rest words e) sound
of_table-by false code rest words sound e = absurd cc

after_table-sound : (table : List ℕ) (words : List Token) (o : Option (List Token)) → AreSound words → SomeSound o → LeavesWords (after_table table words o)
after_table-sound table words None sound following left e = subst AreSound (ok_is {C = AlterCode} words left e) sound
after_table-sound table words (Some rest) sound following left e =
    let b = bind_ok (in_alter (name_at rest)) (of_table table) left e in
    of_table-by (bytes_eq b.0.0 table) refusals.Syntax b.0.1 left (alter-name rest (following rest refl) b.0 b.1).1 b.2

after_alter-sound : (table : List ℕ) (words : List Token) (o : Option (List Token)) → AreSound words → SomeSound o → LeavesWords (after_alter table words o)
after_alter-sound table words None sound following left e = subst AreSound (ok_is {C = AlterCode} words left e) sound
after_alter-sound table words (Some rest) sound following left e = after_table-sound table words (after_keyword (codes "TABLE") rest) sound (after_keyword-sound (codes "TABLE") rest (following rest refl)) left e

front-sound : (table : List ℕ) (words : List Token) → AreSound words → LeavesWords (front_at table words)
unfolding front_at
front-sound table words sound = after_alter-sound table words (after_keyword (codes "ALTER") words) sound (after_keyword-sound (codes "ALTER") words sound)

-- the clauses of a text of bytes are sound
pub read-sound : (version : ℕ) (table text : List ℕ) (clauses : List Clause) → AreBytes text → alter_at version table text ≡ Ok clauses → AllByRecursion SoundClause clauses
unfolding read
read-sound version table text clauses are e =
    let words = text_words text in
    let a = bind_ok (front_at table words.words) (λ rest. clauses_at version rest >>= λ clauses. unless_faulty words.is_faulty clauses) clauses e in
    let b = bind_ok (clauses_at version a.0) (λ clauses. unless_faulty words.is_faulty clauses) clauses a.2 in
    subst (AllByRecursion SoundClause) (faultless-is words.is_faulty b.0 clauses b.2) (clauses-sound version a.0 b.0 (front-sound table words.words (text-sound text are) a.0 a.1) b.1)
