-- What the grammar gives: kinds of this program, and keys with columns.
use Rattle.std.proofs.Common.{◌≡◌, ℕ, zero, suc, ◌<◌, Bool, true, false, ◌&&◌, ◌||◌, cond, List, [], ◌∷◌, length, Option, Some, None, Result, Ok, Err, refl, subst, arith, codes}
use Rattle.std.specs.Prelude.{ℤ, pos, negsuc, nat_le}
use Rattle.std.specs.List.{AllByRecursion}
use Rattle.std.proofs.lemmas.Option.{cond_some}
use Rattle.base_values.specs.declared.kind.Kind.{Kind}
use Rattle.base_values.specs.declared.kind.Kind.TheVariants.{Int, VarChar, VarBinary}
use Rattle.sql_grammar.specs.declared.code.SchemaCode.{SchemaCode}
use Rattle.sql_grammar.specs.declared.code.SchemaCode.TheVariants.{Syntax, Scope}
use Rattle.sql_grammar.specs.declared.keys.KeyText.{KeyText}
use Rattle.sql_grammar.specs.declared.kinds.KindWord.{KindWord}
use Rattle.sql_grammar.specs.declared.kinds.KindWord.TheVariants as words
use Rattle.sql_grammar.specs.declared.token.Token.{Token}
use Rattle.sql_grammar.specs.declared.tokens.TextWords.{TextWords}
use Rattle.sql_grammar.specs.Keys.{closed, names_at, key_columns_at, key_name_at, key_at}
use Rattle.sql_grammar.specs.Kinds.{kind_word, width_at, signed_kind, length_of, length_within, length_at, kind_after, kind_of, kind_at}
use Rattle.sql_grammar.specs.Listed.{with_others, listed}
use Rattle.sql_grammar.specs.Pieces.{after_keyword, after_sign, keyword_at, sign_at, number_at, name_at}
use Rattle.base_values.specs.SchemaRules.Results.{◌>>=◌}
use Rattle.sql_grammar.specs.Reads.{Read}
use Rattle.sql_grammar.specs.Scope.{begins_no_item}
use Rattle.sql_grammar.specs.Tokens.{is_keyword}
use Rattle.sql_create.specs.declared.written.Item.{Item}
use Rattle.sql_create.specs.declared.written.Item.TheVariants as items
use Rattle.sql_create.specs.declared.written.WrittenColumn.{WrittenColumn}
use Rattle.sql_create.specs.declared.written.TableOptions.{TableOptions}
use Rattle.sql_create.specs.declared.written.WrittenTable.{WrittenTable}
use Rattle.sql_create.specs.Columns.{column_attributes_at, column_at}
use Rattle.base_values.specs.SchemaRules.Valid.{is_kind}
use Rattle.sql_create.specs.Options.{options_at}
use Rattle.sql_create.specs.Written.{primary_item_at, key_item_at, after_key_word, column_item_at, item_at, items_at, last_words, alone, table_at, unless_faulty, refused_in, written}
use Rattle.base_values.proofs.SchemaRules.Steps.{bind_ok, ok_is, some_is}

-- ---- lists

-- what each item that is read has
abbrev AllRead : {A C : Type 0} → (A → Type 0) → Result (A × List Token) C → Type 0
AllRead {A} {C} P read = (x : A × List Token) → read ≡ Ok x → P x.0

-- at least one item, each with the property
abbrev SomeAll : {A : Type 0} → (A → Type 0) → List A → Type 0
SomeAll P xs = AllByRecursion P xs × (0 < length xs)

module _ {A C : Type 0} (P : A → Type 0) (item : List Token → Result (A × List Token) C) (ended : C) (each : (ws : List Token) → AllRead P (item ws)) where
  others-all : (others : List Token → Result (List A × List Token) C) (first : A × List Token) (o : Option (List Token)) → ((ws : List Token) → AllRead (SomeAll P) (others ws)) → P first.0 → AllRead (SomeAll P) (with_others others first o)
  others-all others first None rest p x e = subst (λ (y : List A × List Token). SomeAll P y.0) (ok_is {C = C} (first.0 ∷ [], first.1) x e) ((p, tt), omega arith)
  others-all others first (Some ws) rest p x e =
      let b = bind_ok (others ws) (λ more. Ok (first.0 ∷ more.0, more.1)) x e in
      subst (λ (y : List A × List Token). SomeAll P y.0) (ok_is {C = C} (first.0 ∷ b.0.0, b.0.1) x b.2) ((p, (rest ws b.0 b.1).0), omega arith)

  pub listed-all : (most : ℕ) (ws : List Token) → AllRead (SomeAll P) (listed item ended most ws)
  unfolding listed
  listed-all zero ws x e = absurd cc
  listed-all (suc most) ws x e =
      let b = bind_ok (item ws) (λ first. with_others (listed item ended most) first (after_sign (codes ",") first.1)) x e in
      others-all (listed item ended most) b.0 (after_sign (codes ",") b.0.1) (listed-all most) (each ws b.0 b.1) x b.2

-- ---- kinds

abbrev IsKindWord : KindWord → Type 0
IsKindWord (words.Integer bytes) = is_kind (Int bytes false) ≡ true
IsKindWord words.VarChar = Unit {0}
IsKindWord words.VarBinary = Unit {0}

abbrev AllKinds : Option KindWord → Type 0
AllKinds o = (kind : KindWord) → o ≡ Some kind → IsKindWord kind

AllKinds-cond : (b : Bool) (x y : Option KindWord) → AllKinds x → AllKinds y → AllKinds (cond b x y)
AllKinds-cond true x y first second = first
AllKinds-cond false x y first second = second

AllKinds-some : (kind : KindWord) → IsKindWord kind → AllKinds (Some kind)
AllKinds-some kind is other e = subst IsKindWord (some_is kind other e) is

AllKinds-none : AllKinds None
AllKinds-none kind e = absurd cc

kind_word-all : (word : Token) → AllKinds (kind_word word)
unfolding kind_word
kind_word-all word =
    AllKinds-cond (is_keyword word (codes "TINYINT")) _ _ (AllKinds-some (words.Integer 1) refl)
    (AllKinds-cond (is_keyword word (codes "SMALLINT")) _ _ (AllKinds-some (words.Integer 2) refl)
    (AllKinds-cond (is_keyword word (codes "MEDIUMINT")) _ _ (AllKinds-some (words.Integer 3) refl)
    (AllKinds-cond (is_keyword word (codes "INT") || is_keyword word (codes "INTEGER")) _ _ (AllKinds-some (words.Integer 4) refl)
    (AllKinds-cond (is_keyword word (codes "BIGINT")) _ _ (AllKinds-some (words.Integer 8) refl)
    (AllKinds-cond (is_keyword word (codes "VARCHAR")) _ _ (AllKinds-some words.VarChar tt)
    (AllKinds-cond (is_keyword word (codes "VARBINARY")) _ _ (AllKinds-some words.VarBinary tt) AllKinds-none))))))

signed_kind-is : (bytes : ℕ) (ws : List Token) (o : Option (List Token)) → is_kind (Int bytes false) ≡ true → is_kind (signed_kind bytes ws o).0 ≡ true
signed_kind-is bytes ws None is = is
signed_kind-is bytes ws (Some rest) is = is

abbrev IsLength : ℕ → Type 0
IsLength n = (nat_le 1 n && nat_le n 1000) ≡ true

length_of-is : (z : ℤ) (n : ℕ) → length_of z ≡ Some n → IsLength n
length_of-is (pos k) n e = let p = cond_some (nat_le 1 k && nat_le k 1000) k n e in subst IsLength p.1 p.0
length_of-is (negsuc k) n e = absurd cc

length_within-is : (rest : List Token) (z : ℤ) (o : Option ℕ) → length_of z ≡ o → AllRead IsLength (length_within rest o)
length_within-is rest z (Some n) e x h = subst (λ (y : ℕ × List Token). IsLength y.0) (ok_is {C = SchemaCode} (n, rest) x h) (length_of-is z n e)
length_within-is rest z None e x h = absurd cc

length_at-is : (ws : List Token) → AllRead IsLength (length_at ws)
unfolding length_at
length_at-is ws x e =
    let a = bind_ok (sign_at (codes "(") ws) (λ rest. number_at rest >>= λ number. length_within number.1 (length_of number.0) >>= λ length. sign_at (codes ")") length.1 >>= λ rest. Ok (length.0, rest)) x e in
    let b = bind_ok (number_at a.0) (λ number. length_within number.1 (length_of number.0) >>= λ length. sign_at (codes ")") length.1 >>= λ rest. Ok (length.0, rest)) x a.2 in
    let c = bind_ok (length_within b.0.1 (length_of b.0.0)) (λ length. sign_at (codes ")") length.1 >>= λ rest. Ok (length.0, rest)) x b.2 in
    let d = bind_ok (sign_at (codes ")") c.0.1) (λ rest. Ok (c.0.0, rest)) x c.2 in
    subst (λ (y : ℕ × List Token). IsLength y.0) (ok_is {C = SchemaCode} (c.0.0, d.0) x d.2) (length_within-is b.0.1 b.0.0 (length_of b.0.0) refl c.0 c.1)

abbrev IsKind : Kind → Type 0
IsKind kind = is_kind kind ≡ true

kind_after-is : (kind : KindWord) (ws : List Token) → IsKindWord kind → AllRead IsKind (kind_after kind ws)
unfolding kind_after
kind_after-is (words.Integer bytes) ws is x e =
    let a = bind_ok (width_at ws) (λ rest. Ok (signed_kind bytes rest (after_keyword (codes "UNSIGNED") rest))) x e in
    subst (λ (y : Kind × List Token). IsKind y.0) (ok_is {C = SchemaCode} (signed_kind bytes a.0 (after_keyword (codes "UNSIGNED") a.0)) x a.2) (signed_kind-is bytes a.0 (after_keyword (codes "UNSIGNED") a.0) is)
kind_after-is words.VarChar ws is x e =
    let a = bind_ok (length_at ws) (λ length. Ok (VarChar length.0, length.1)) x e in
    subst (λ (y : Kind × List Token). IsKind y.0) (ok_is {C = SchemaCode} (VarChar a.0.0, a.0.1) x a.2) (length_at-is ws a.0 a.1)
kind_after-is words.VarBinary ws is x e =
    let a = bind_ok (length_at ws) (λ length. Ok (VarBinary length.0, length.1)) x e in
    subst (λ (y : Kind × List Token). IsKind y.0) (ok_is {C = SchemaCode} (VarBinary a.0.0, a.0.1) x a.2) (length_at-is ws a.0 a.1)

kind_of-is : (ws rest : List Token) (o : Option KindWord) → AllKinds o → AllRead IsKind (kind_of ws rest o)
kind_of-is ws rest (Some kind) all x e = kind_after-is kind rest (all kind refl) x e
kind_of-is ws rest None all x e = absurd cc

pub kind_at-is : (ws : List Token) → AllRead IsKind (kind_at ws)
unfolding kind_at
kind_at-is [] x e = absurd cc
kind_at-is (word ∷ rest) x e = kind_of-is (word ∷ rest) rest (kind_word word) (kind_word-all word) x e

-- ---- keys

-- there is a column
abbrev pub HasColumns : List (List ℕ) → Type 0
HasColumns names = 0 < length names

closed-has : (names : List (List ℕ)) (ws : List Token) (o : Option (List Token)) → HasColumns names → AllRead HasColumns (closed names ws o)
closed-has names ws None has x e = absurd cc
closed-has names ws (Some rest) has x e = subst (λ (y : List (List ℕ) × List Token). HasColumns y.0) (ok_is {C = SchemaCode} (names, rest) x e) has

names_at-has : (ws : List Token) → AllRead HasColumns (names_at ws)
unfolding names_at
names_at-has ws x e = (listed-all (λ (name : List ℕ). Unit {0}) name_at Syntax (λ us y h. tt) (length ws) ws x e).1

key_columns_at-has : (ws : List Token) → AllRead HasColumns (key_columns_at ws)
unfolding key_columns_at
key_columns_at-has ws x e =
    let a = bind_ok (sign_at (codes "(") ws) (λ rest. names_at rest >>= λ names. closed names.0 names.1 (after_sign (codes ")") names.1)) x e in
    let b = bind_ok (names_at a.0) (λ names. closed names.0 names.1 (after_sign (codes ")") names.1)) x a.2 in
    closed-has b.0.0 b.0.1 (after_sign (codes ")") b.0.1) (names_at-has a.0 b.0 b.1) x b.2

abbrev pub KeyHasColumns : KeyText → Type 0
KeyHasColumns key = HasColumns key.columns

key_at-has : (ws : List Token) → AllRead KeyHasColumns (key_at ws)
unfolding key_at
key_at-has ws x e =
    let a = bind_ok (key_name_at ws) (λ name. key_columns_at name.1 >>= λ columns. Ok (record { name = name.0; columns = columns.0 }, columns.1)) x e in
    let b = bind_ok (key_columns_at a.0.1) (λ columns. Ok (record { name = a.0.0; columns = columns.0 }, columns.1)) x a.2 in
    subst (λ (y : KeyText × List Token). KeyHasColumns y.0) (ok_is {C = SchemaCode} (record { name = a.0.0; columns = b.0.0 }, b.0.1) x b.2) (key_columns_at-has a.0.1 b.0 b.1)

-- ---- items

-- a column's kind is one of this program's, and a key has columns
abbrev pub IsItem : Item → Type 0
IsItem (items.Column column) = is_kind column.kind ≡ true
IsItem (items.Primary names) = HasColumns names
IsItem (items.Key key) = HasColumns key.text.columns

column_item_at-is : (version : ℕ) (ws : List Token) → AllRead IsItem (column_item_at version ws)
unfolding column_at
column_item_at-is version ws x e =
    let a = bind_ok (column_at version ws) (λ column. Ok (items.Column column.0, column.1)) x e in
    let b = bind_ok (name_at ws) (λ name. kind_at name.1 >>= λ kind. column_attributes_at version kind.1 >>= λ attributes. Ok (record { name = name.0; kind = kind.0; attributes = attributes.0 }, attributes.1)) a.0 a.1 in
    let c = bind_ok (kind_at b.0.1) (λ kind. column_attributes_at version kind.1 >>= λ attributes. Ok (record { name = b.0.0; kind = kind.0; attributes = attributes.0 }, attributes.1)) a.0 b.2 in
    let d = bind_ok (column_attributes_at version c.0.1) (λ attributes. Ok (record { name = b.0.0; kind = c.0.0; attributes = attributes.0 }, attributes.1)) a.0 c.2 in
    let column : is_kind a.0.0.kind ≡ true = subst (λ (y : WrittenColumn × List Token). is_kind y.0.kind ≡ true) (ok_is {C = SchemaCode} (record { name = b.0.0; kind = c.0.0; attributes = d.0.0 }, d.0.1) a.0 d.2) (kind_at-is b.0.1 c.0 c.1) in
    subst (λ (y : Item × List Token). IsItem y.0) (ok_is {C = SchemaCode} (items.Column a.0.0, a.0.1) x a.2) column

primary_item_at-is : (ws : List Token) → AllRead IsItem (primary_item_at ws)
unfolding primary_item_at
primary_item_at-is ws x e =
    let a = bind_ok (keyword_at (codes "KEY") ws) (λ rest. key_columns_at rest >>= λ columns. Ok (items.Primary columns.0, columns.1)) x e in
    let b = bind_ok (key_columns_at a.0) (λ columns. Ok (items.Primary columns.0, columns.1)) x a.2 in
    subst (λ (y : Item × List Token). IsItem y.0) (ok_is {C = SchemaCode} (items.Primary b.0.0, b.0.1) x b.2) (key_columns_at-has a.0 b.0 b.1)

key_item_at-is : (unique : Bool) (ws : List Token) → AllRead IsItem (key_item_at unique ws)
key_item_at-is unique ws x e =
    let a = bind_ok (key_at ws) (λ key. Ok (items.Key (record { is_unique = unique; text = key.0 }), key.1)) x e in
    subst (λ (y : Item × List Token). IsItem y.0) (ok_is {C = SchemaCode} (items.Key (record { is_unique = unique; text = a.0.0 }), a.0.1) x a.2) (key_at-has ws a.0 a.1)

AllRead-cond : (b : Bool) (x y : Read Item) → AllRead IsItem x → AllRead IsItem y → AllRead IsItem (cond b x y)
AllRead-cond true x y first second = first
AllRead-cond false x y first second = second

AllRead-err : (code : SchemaCode) → AllRead {A = Item} IsItem (Err code)
AllRead-err code x e = absurd cc

item_at-is : (version : ℕ) (ws : List Token) → AllRead IsItem (item_at version ws)
unfolding item_at
item_at-is version [] = λ x e. absurd cc
item_at-is version (word ∷ rest) =
    AllRead-cond (is_keyword word (codes "PRIMARY")) _ _ (primary_item_at-is rest)
    (AllRead-cond (is_keyword word (codes "UNIQUE")) _ _ (key_item_at-is true (after_key_word rest))
    (AllRead-cond (is_keyword word (codes "KEY") || is_keyword word (codes "INDEX")) _ _ (key_item_at-is false rest)
    (AllRead-cond (begins_no_item version word) _ _ (AllRead-err Scope) (column_item_at-is version (word ∷ rest)))))

items_at-are : (version : ℕ) (ws : List Token) → AllRead (AllByRecursion IsItem) (items_at version ws)
unfolding items_at
items_at-are version ws x e = (listed-all IsItem (item_at version) Syntax (item_at-is version) (length ws) ws x e).0

-- ---- tables

alone-is : (table made : WrittenTable) (ws : List Token) → alone table ws ≡ Ok made → table ≡ made
alone-is table made [] e = cc
alone-is table made (word ∷ rest) e = absurd cc

pub faultless-is : (b : Bool) (table made : WrittenTable) → unless_faulty b table ≡ Ok made → table ≡ made
faultless-is true table made e = absurd cc
faultless-is false table made e = cc

table_at-are : (version : ℕ) (ws : List Token) (table : WrittenTable) → table_at version ws ≡ Ok table → AllByRecursion IsItem table.items
unfolding table_at
table_at-are version ws table e =
    let end : List ℕ → List Item → TableOptions × List Token → Result WrittenTable SchemaCode = λ name items options. alone (record { name = name; items = items; options = options.0 }) (last_words options.1 (after_sign (codes ";") options.1)) in
    let a = bind_ok (keyword_at (codes "CREATE") ws) (λ rest. keyword_at (codes "TABLE") rest >>= λ rest. name_at rest >>= λ name. sign_at (codes "(") name.1 >>= λ rest. items_at version rest >>= λ items. sign_at (codes ")") items.1 >>= λ rest. options_at version rest >>= λ options. end name.0 items.0 options) table e in
    let b = bind_ok (keyword_at (codes "TABLE") a.0) (λ rest. name_at rest >>= λ name. sign_at (codes "(") name.1 >>= λ rest. items_at version rest >>= λ items. sign_at (codes ")") items.1 >>= λ rest. options_at version rest >>= λ options. end name.0 items.0 options) table a.2 in
    let c = bind_ok (name_at b.0) (λ name. sign_at (codes "(") name.1 >>= λ rest. items_at version rest >>= λ items. sign_at (codes ")") items.1 >>= λ rest. options_at version rest >>= λ options. end name.0 items.0 options) table b.2 in
    let d = bind_ok (sign_at (codes "(") c.0.1) (λ rest. items_at version rest >>= λ items. sign_at (codes ")") items.1 >>= λ rest. options_at version rest >>= λ options. end c.0.0 items.0 options) table c.2 in
    let f = bind_ok (items_at version d.0) (λ items. sign_at (codes ")") items.1 >>= λ rest. options_at version rest >>= λ options. end c.0.0 items.0 options) table d.2 in
    let g = bind_ok (sign_at (codes ")") f.0.1) (λ rest. options_at version rest >>= λ options. end c.0.0 f.0.0 options) table f.2 in
    let h = bind_ok (options_at version g.0) (λ options. end c.0.0 f.0.0 options) table g.2 in
    subst (λ (t : WrittenTable). AllByRecursion IsItem t.items) (alone-is (record { name = c.0.0; items = f.0.0; options = h.0.0 }) table (last_words h.0.1 (after_sign (codes ";") h.0.1)) h.2) (items_at-are version d.0 f.0 f.1)

-- a table that was read wasn't refused
pub refused_in-ok : {A : Type 0} (version : ℕ) (r : Result A SchemaCode) (x : A) → refused_in version r ≡ Ok x → r ≡ Ok x
refused_in-ok version (Ok y) x e = cc
refused_in-ok version (Err code) x e = absurd cc

-- each item of a text is one of this program's
pub written-are : (version : ℕ) (read : TextWords) (table : WrittenTable) → written version read ≡ Ok table → AllByRecursion IsItem table.items
unfolding written
written-are version read table e =
    let a = bind_ok (refused_in version (table_at version read.words)) (unless_faulty read.is_faulty) table e in
    subst (λ (t : WrittenTable). AllByRecursion IsItem t.items) (faultless-is read.is_faulty a.0 table a.2) (table_at-are version read.words a.0 (refused_in-ok version (table_at version read.words) a.0 a.1))
