-- The clauses of a text write kinds of this program.
use Rattle.std.proofs.Common.{ℕ, ◌≡◌, Bool, true, false, ◌||◌, cond, List, [], ◌∷◌, length, Result, Ok, Err, ap, subst, codes}
use Rattle.std.specs.List.{AllByRecursion}
use Rattle.base_values.specs.declared.row_conversion.clause.Clause.{Clause}
use Rattle.base_values.specs.declared.row_conversion.clause.Clause.TheVariants.{Add, Drop, Rename, Change, AddIndex, DropIndex}
use Rattle.base_values.specs.declared.row_conversion.clause.NewColumn.{NewColumn}
use Rattle.sql_grammar.specs.declared.code.SchemaCode.{SchemaCode}
use Rattle.sql_grammar.specs.declared.token.Token.{Token}
use Rattle.sql_grammar.specs.Keys.{key_at}
use Rattle.sql_grammar.specs.Kinds.{kind_at}
use Rattle.sql_grammar.specs.Pieces.{keyword_at, name_at}
use Rattle.base_values.specs.SchemaRules.Results.{◌>>=◌}
use Rattle.sql_grammar.specs.Tokens.{is_keyword, same_sign, text_words}
use Rattle.base_values.specs.SchemaRules.Valid.{is_kind}
use Rattle.proof_schemas.proofs.Grammar.{kind_at-is, listed-all}
use Rattle.sql_change.specs.declared.code.AlterCode.{AlterCode}
use Rattle.sql_change.specs.declared.code.AlterCode.TheVariants as refusals
use Rattle.base_values.proofs.SchemaRules.Steps.{bind_ok, ok_is}
use Rattle.sql_alter.specs.Additions.{add_column_at, add_index_at, add_at, change_at, modify_at}
use Rattle.sql_alter.specs.Clauses.{clause_at, alone, list_at, clauses_at, front_at, unless_faulty, read}
use Rattle.sql_alter.specs.Column.{primary_at, new_attributes_at, new_column_at, column_position_at}
use Rattle.sql_alter.specs.Pieces.{Read, in_alter, after_column, is_index_word, is_out_of_scope}
use Rattle.sql_alter.specs.Removals.{drop_column_at, drop_index_at, drop_at, rename_column_at, rename_at}
use Rattle.proof_schemas.specs.Alters.Laws.{IsClause, ReadClausesWriteKinds}

-- what each that is read has
abbrev AllRead : {A : Type 0} → (A → Type 0) → Read A → Type 0
AllRead {A} P read = (x : A × List Token) → read ≡ Ok x → P x.0

pub in_alter-ok : {A : Type 0} (r : Result A SchemaCode) (x : A) → in_alter r ≡ Ok x → r ≡ Ok x
in_alter-ok {A} (Ok y) x e = let same : y ≡ x = cc in ap (λ (z : A). Ok z) same
in_alter-ok (Err code) x e = absurd cc

abbrev HasKind : NewColumn → Type 0
HasKind column = is_kind column.kind ≡ true

new_column_at-has : (version : ℕ) (ws : List Token) → AllRead HasKind (new_column_at version ws)
unfolding new_column_at
new_column_at-has version ws x e =
    let a = bind_ok (in_alter (name_at ws)) (λ name. in_alter (kind_at name.1) >>= λ kind. new_attributes_at version kind.1 >>= λ attributes. Ok (record { name = name.0; kind = kind.0; nullable = attributes.0.nullable; default = attributes.0.default; auto = attributes.0.auto }, attributes.1)) x e in
    let b = bind_ok (in_alter (kind_at a.0.1)) (λ kind. new_attributes_at version kind.1 >>= λ attributes. Ok (record { name = a.0.0; kind = kind.0; nullable = attributes.0.nullable; default = attributes.0.default; auto = attributes.0.auto }, attributes.1)) x a.2 in
    let c = bind_ok (new_attributes_at version b.0.1) (λ attributes. Ok (record { name = a.0.0; kind = b.0.0; nullable = attributes.0.nullable; default = attributes.0.default; auto = attributes.0.auto }, attributes.1)) x b.2 in
    subst (λ (y : NewColumn × List Token). HasKind y.0) (ok_is {C = AlterCode} (record { name = a.0.0; kind = b.0.0; nullable = c.0.0.nullable; default = c.0.0.default; auto = c.0.0.auto }, c.0.1) x c.2) (kind_at-is a.0.1 b.0 (in_alter-ok (kind_at a.0.1) b.0 b.1))

abbrev AreClauses : Read Clause → Type 0
AreClauses = AllRead IsClause

add_column_at-is : (version : ℕ) (ws : List Token) → AreClauses (add_column_at version ws)
unfolding add_column_at
add_column_at-is version ws x e =
    let a = bind_ok (new_column_at version ws) (λ column. column_position_at column.1 >>= λ column_position. Ok (Add column.0 column_position.0, column_position.1)) x e in
    let b = bind_ok (column_position_at a.0.1) (λ column_position. Ok (Add a.0.0 column_position.0, column_position.1)) x a.2 in
    subst (λ (y : Clause × List Token). IsClause y.0) (ok_is {C = AlterCode} (Add a.0.0 b.0.0, b.0.1) x b.2) (new_column_at-has version ws a.0 a.1)

add_index_at-is : (ws : List Token) → AreClauses (add_index_at ws)
unfolding add_index_at
add_index_at-is ws x e =
    let a = bind_ok (in_alter (key_at ws)) (λ key. Ok (AddIndex key.0.name key.0.columns, key.1)) x e in
    subst (λ (y : Clause × List Token). IsClause y.0) (ok_is {C = AlterCode} (AddIndex a.0.0.name a.0.0.columns, a.0.1) x a.2) tt

change_at-is : (version : ℕ) (ws : List Token) → AreClauses (change_at version ws)
unfolding change_at
change_at-is version ws x e =
    let a = bind_ok (in_alter (name_at (after_column ws))) (λ old. new_column_at version old.1 >>= λ column. column_position_at column.1 >>= λ column_position. Ok (Change old.0 column.0 column_position.0, column_position.1)) x e in
    let b = bind_ok (new_column_at version a.0.1) (λ column. column_position_at column.1 >>= λ column_position. Ok (Change a.0.0 column.0 column_position.0, column_position.1)) x a.2 in
    let c = bind_ok (column_position_at b.0.1) (λ column_position. Ok (Change a.0.0 b.0.0 column_position.0, column_position.1)) x b.2 in
    subst (λ (y : Clause × List Token). IsClause y.0) (ok_is {C = AlterCode} (Change a.0.0 b.0.0 c.0.0, c.0.1) x c.2) (new_column_at-has version a.0.1 b.0 b.1)

modify_at-is : (version : ℕ) (ws : List Token) → AreClauses (modify_at version ws)
unfolding modify_at
modify_at-is version ws x e =
    let b = bind_ok (new_column_at version (after_column ws)) (λ column. column_position_at column.1 >>= λ column_position. Ok (Change column.0.name column.0 column_position.0, column_position.1)) x e in
    let c = bind_ok (column_position_at b.0.1) (λ column_position. Ok (Change b.0.0.name b.0.0 column_position.0, column_position.1)) x b.2 in
    subst (λ (y : Clause × List Token). IsClause y.0) (ok_is {C = AlterCode} (Change b.0.0.name b.0.0 c.0.0, c.0.1) x c.2) (new_column_at-has version (after_column ws) b.0 b.1)

drop_column_at-is : (ws : List Token) → AreClauses (drop_column_at ws)
unfolding drop_column_at
drop_column_at-is ws x e =
    let a = bind_ok (in_alter (name_at ws)) (λ name. Ok (Drop name.0, name.1)) x e in
    subst (λ (y : Clause × List Token). IsClause y.0) (ok_is {C = AlterCode} (Drop a.0.0, a.0.1) x a.2) tt

drop_index_at-is : (ws : List Token) → AreClauses (drop_index_at ws)
unfolding drop_index_at
drop_index_at-is ws x e =
    let a = bind_ok (in_alter (name_at ws)) (λ name. Ok (DropIndex name.0, name.1)) x e in
    subst (λ (y : Clause × List Token). IsClause y.0) (ok_is {C = AlterCode} (DropIndex a.0.0, a.0.1) x a.2) tt

rename_column_at-is : (ws : List Token) → AreClauses (rename_column_at ws)
unfolding rename_column_at
rename_column_at-is ws x e =
    let a = bind_ok (in_alter (name_at ws)) (λ old. in_alter (keyword_at (codes "TO") old.1) >>= λ rest. in_alter (name_at rest) >>= λ new. Ok (Rename old.0 new.0, new.1)) x e in
    let b = bind_ok (in_alter (keyword_at (codes "TO") a.0.1)) (λ rest. in_alter (name_at rest) >>= λ new. Ok (Rename a.0.0 new.0, new.1)) x a.2 in
    let c = bind_ok (in_alter (name_at b.0)) (λ new. Ok (Rename a.0.0 new.0, new.1)) x b.2 in
    subst (λ (y : Clause × List Token). IsClause y.0) (ok_is {C = AlterCode} (Rename a.0.0 c.0.0, c.0.1) x c.2) tt

-- ---- which clause it is

either : (b : Bool) (x y : Read Clause) → AreClauses x → AreClauses y → AreClauses (cond b x y)
either true x y first second = first
either false x y first second = second

refused : (code : AlterCode) → AreClauses (Err code)
refused code x e = absurd cc

abbrev refusal : AlterCode → Read Clause
refusal code = Err code

pub never : (code : AlterCode) (x : Clause × List Token) → refusal code ≡ Ok x → ⊥
never code x e = absurd cc

primary_at-is : (ws : List Token) → AreClauses (primary_at ws)
primary_at-is ws x e =
    let a = bind_ok (in_alter (keyword_at (codes "KEY") ws)) (λ rest. Err refusals.ClusteredKeyChange) x e in
    absurd (never (refusals.ClusteredKeyChange) x a.2)

add_at-is : (version : ℕ) (ws : List Token) → AreClauses (add_at version ws)
unfolding add_at
add_at-is version [] = refused refusals.Syntax
add_at-is version (word ∷ rest) =
    either (is_out_of_scope word) _ _ (refused refusals.Scope)
    (either (is_keyword word (codes "UNIQUE")) _ _ (refused refusals.AddUnique)
    (either (is_keyword word (codes "PRIMARY")) _ _ (primary_at-is rest)
    (either (is_index_word word) _ _ (add_index_at-is rest) (add_column_at-is version (after_column (word ∷ rest))))))

drop_at-is : (ws : List Token) → AreClauses (drop_at ws)
unfolding drop_at
drop_at-is [] = refused refusals.Syntax
drop_at-is (word ∷ rest) =
    either (is_out_of_scope word) _ _ (refused refusals.Scope)
    (either (is_keyword word (codes "PRIMARY")) _ _ (primary_at-is rest)
    (either (is_index_word word) _ _ (drop_index_at-is rest) (drop_column_at-is (after_column (word ∷ rest)))))

rename_at-is : (ws : List Token) → AreClauses (rename_at ws)
unfolding rename_at
rename_at-is [] = refused refusals.Syntax
rename_at-is (word ∷ rest) =
    either (is_keyword word (codes "COLUMN")) _ _ (rename_column_at-is rest)
    (either (is_keyword word (codes "TO") || is_keyword word (codes "AS")) _ _ (refused refusals.RenameTable)
    (either (is_index_word word) _ _ (refused refusals.Scope) (refused refusals.Syntax)))

clause_at-is : (version : ℕ) (ws : List Token) → AreClauses (clause_at version ws)
unfolding clause_at
clause_at-is version [] = refused refusals.Syntax
clause_at-is version (word ∷ rest) =
    either (is_keyword word (codes "ADD")) _ _ (add_at-is version rest)
    (either (is_keyword word (codes "DROP")) _ _ (drop_at-is rest)
    (either (is_keyword word (codes "RENAME")) _ _ (rename_at-is rest)
    (either (is_keyword word (codes "CHANGE")) _ _ (change_at-is version rest)
    (either (is_keyword word (codes "MODIFY")) _ _ (modify_at-is version rest)
    (either (same_sign word (codes ",")) _ _ (refused refusals.Syntax) (refused refusals.Scope))))))

-- ---- the whole text

list_at-are : (version : ℕ) (ws : List Token) → AllRead (AllByRecursion IsClause) (list_at version ws)
unfolding list_at
list_at-are version ws x e = (listed-all IsClause (clause_at version) refusals.Syntax (clause_at-is version) (length ws) ws x e).0

pub alone-is : (clauses all : List Clause) (ws : List Token) → alone clauses ws ≡ Ok all → clauses ≡ all
alone-is clauses all [] e = cc
alone-is clauses all (word ∷ rest) e = absurd cc

pub faultless-is : (b : Bool) (clauses all : List Clause) → unless_faulty b clauses ≡ Ok all → clauses ≡ all
faultless-is true clauses all e = absurd cc
faultless-is false clauses all e = cc

clauses_at-are : (version : ℕ) (ws : List Token) (clauses : List Clause) → clauses_at version ws ≡ Ok clauses → AllByRecursion IsClause clauses
unfolding clauses_at
clauses_at-are version ws clauses e =
    let a = bind_ok (list_at version ws) (λ clauses. alone clauses.0 clauses.1) clauses e in
    subst (AllByRecursion IsClause) (alone-is a.0.0 clauses a.0.1 a.2) (list_at-are version ws a.0 a.1)

pub read-clauses : ReadClausesWriteKinds
unfolding read
read-clauses version table text clauses e =
    let words = text_words text in
    let a = bind_ok (front_at table words.words) (λ rest. clauses_at version rest >>= λ clauses. unless_faulty words.is_faulty clauses) clauses e in
    let b = bind_ok (clauses_at version a.0) (λ clauses. unless_faulty words.is_faulty clauses) clauses a.2 in
    subst (AllByRecursion IsClause) (faultless-is words.is_faulty b.0 clauses b.2) (clauses_at-are version a.0 b.0 b.1)
