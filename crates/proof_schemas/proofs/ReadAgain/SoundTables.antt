-- What a text of sound words writes: names without backquotes, and sound defaults.
use Rattle.std.proofs.Common.{◌≡◌, ℕ, Bool, true, false, ◌||◌, List, [], ◌∷◌, length, Option, Some, None, Result, Ok, refl, ap, subst, ◌∙◌, codes}
use Rattle.std.specs.List.{AllByRecursion}
use Rattle.base_values.specs.declared.kind.Kind.{Kind}
use Rattle.base_values.specs.declared.value.Value.{Value}
use Rattle.sql_grammar.specs.declared.attributes.Attribute.{Attribute}
use Rattle.sql_grammar.specs.declared.attributes.Attribute.TheVariants as attributes
use Rattle.sql_grammar.specs.declared.code.SchemaCode.{SchemaCode}
use Rattle.sql_grammar.specs.declared.code.SchemaCode.TheVariants.{Syntax, Scope}
use Rattle.sql_grammar.specs.declared.token.Token.{Token}
use Rattle.sql_grammar.specs.declared.tokens.TextWords.{TextWords}
use Rattle.sql_grammar.specs.Attributes.{attribute_at}
use Rattle.sql_grammar.specs.Keys.{key_columns_at, key_at}
use Rattle.sql_grammar.specs.Kinds.{kind_at}
use Rattle.sql_grammar.specs.Pieces.{after_keyword, after_sign, keyword_at, sign_at, name_at}
use Rattle.base_values.specs.SchemaRules.Results.{◌>>=◌}
use Rattle.sql_grammar.specs.Scope.{begins_no_item, mismatch}
use Rattle.sql_grammar.specs.Tokens.{is_keyword}
use Rattle.sql_create.specs.declared.written.ColumnAttribute.{ColumnAttribute}
use Rattle.sql_create.specs.declared.written.ColumnAttribute.TheVariants.{Primary, Unique, Plain}
use Rattle.sql_create.specs.declared.written.ColumnAttributes.{ColumnAttributes}
use Rattle.sql_create.specs.declared.written.Item.{Item}
use Rattle.sql_create.specs.declared.written.Item.TheVariants as items
use Rattle.sql_create.specs.declared.written.WrittenColumn.{WrittenColumn}
use Rattle.sql_create.specs.declared.written.TableOptions.{TableOptions}
use Rattle.sql_create.specs.declared.written.WrittenTable.{WrittenTable}
use Rattle.sql_create.specs.Columns.{unwritten_column, with_column_attribute, primary_at, unique_after, plain_of, plain_at, column_attribute_at, column_attributes_at, column_at}
use Rattle.sql_create.specs.Options.{options_at}
use Rattle.sql_create.specs.Written.{primary_item_at, key_item_at, key_word, after_key_word, column_item_at, item_at, items_at, last_words, alone, table_at, unless_faulty, refused_in, written}
use Rattle.base_values.proofs.SchemaRules.Steps.{bind_ok}
use Rattle.proof_schemas.specs.Printed.Laws.{CanQuote, MayCountIn}
use Rattle.proof_schemas.proofs.ReadAgain.Sound.{AreSound}
use Rattle.proof_schemas.proofs.ReadAgain.SoundValues.{SoundValue}
use Rattle.proof_schemas.proofs.ReadAgain.SoundReaders.{Leaves, LeavesSome, Anything, leaves-bind, words-bind, words-some, leaves-ok, leaves-err, leaves-cond, some-ok, some-none, some-cond, SomeSound, after_keyword-sound, keyword-sound, sign-sound, name_at-sound, listed-sound, gathered-sound, kind_at-sound, SoundAttribute, attribute-sound, AreNames, key_columns-sound, SoundKey, key_at-sound}
use Rattle.proof_schemas.proofs.Grammar.{faultless-is, refused_in-ok}

-- ---- columns

abbrev pub SoundDefault : Option Value → Type 0
SoundDefault None = Unit {0}
SoundDefault (Some value) = SoundValue value

module _ (version : ℕ) where
  abbrev SoundOwn : ColumnAttribute → Type 0
  SoundOwn Primary = Unit {0}
  SoundOwn Unique = Unit {0}
  SoundOwn (Plain attribute) = SoundAttribute version attribute

  abbrev SoundAttributes : ColumnAttributes → Type 0
  SoundAttributes own = SoundDefault own.plain.default × MayCountIn version own.plain.auto

  primary-sound : (words : List Token) → AreSound words → LeavesSome SoundOwn (primary_at words)
  primary-sound words sound = words-some SoundOwn (keyword_at (codes "KEY") words) (λ rest. Ok (Some (Primary, rest))) (keyword-sound (codes "KEY") words sound) (λ rest left. some-ok {C = SchemaCode} SoundOwn Primary rest tt left)

  unique-sound : (words : List Token) (o : Option (List Token)) → AreSound words → SomeSound o → LeavesSome {C = SchemaCode} SoundOwn (Ok (unique_after words o))
  unique-sound words (Some rest) sound following = some-ok {C = SchemaCode} SoundOwn Unique rest tt (following rest refl)
  unique-sound words None sound following = some-ok {C = SchemaCode} SoundOwn Unique words tt sound

  plain-some : (read : Option (Attribute × List Token)) → ((x : Attribute × List Token) → read ≡ Some x → SoundAttribute version x.0 × AreSound x.1) → LeavesSome {C = SchemaCode} SoundOwn (Ok (plain_of read))
  plain-some None is = some-none {C = SchemaCode} SoundOwn
  plain-some (Some x) is = let here = is x refl in some-ok {C = SchemaCode} SoundOwn (Plain x.0) x.1 here.0 here.1

  plain-sound : (words : List Token) → AreSound words → LeavesSome SoundOwn (plain_at version words)
  plain-sound words sound y e =
      let b = bind_ok (attribute_at version words) (λ read. Ok (plain_of read)) (Some y) e in
      plain-some b.0 (λ x is. attribute-sound version words sound x (b.1 ∙ ap (λ (o : Option (Attribute × List Token)). Ok o) is)) y b.2

  own-sound : (words : List Token) → AreSound words → LeavesSome SoundOwn (column_attribute_at version words)
  unfolding column_attribute_at
  own-sound [] sound = some-none {C = SchemaCode} SoundOwn
  own-sound (word ∷ rest) sound =
      some-cond SoundOwn (is_keyword word (codes "PRIMARY")) _ _ (primary-sound rest sound.1)
      (some-cond SoundOwn (is_keyword word (codes "UNIQUE")) _ _ (unique-sound rest (after_keyword (codes "KEY") rest) sound.1 (after_keyword-sound (codes "KEY") rest sound.1)) (plain-sound (word ∷ rest) sound))

  with-own : (so_far : ColumnAttributes) (own : ColumnAttribute) → SoundAttributes so_far → SoundOwn own → SoundAttributes (with_column_attribute so_far own)
  with-own so_far Primary is own = is
  with-own so_far Unique is own = is
  with-own so_far (Plain (attributes.Nullable nullable)) is own = is
  with-own so_far (Plain (attributes.Default value)) is own = (own, is.1)
  with-own so_far (Plain attributes.AutoIncrement) is own = (is.0, λ on. own)
  with-own so_far (Plain attributes.Passed) is own = is

  no-auto : MayCountIn version false
  no-auto on = absurd cc

  attributes-sound : (words : List Token) → AreSound words → Leaves SoundAttributes (column_attributes_at version words)
  unfolding column_attributes_at
  attributes-sound words sound = gathered-sound SoundAttributes SoundOwn (column_attribute_at version) with_column_attribute own-sound with-own (length words) unwritten_column words (tt, no-auto) sound

  abbrev pub SoundColumn : WrittenColumn → Type 0
  SoundColumn column = CanQuote column.name × (SoundDefault column.attributes.plain.default × MayCountIn version column.attributes.plain.auto)

  column-sound : (words : List Token) → AreSound words → Leaves SoundColumn (column_at version words)
  unfolding column_at
  column-sound words sound =
      leaves-bind CanQuote SoundColumn (name_at words) (λ name. kind_at name.1 >>= λ kind. column_attributes_at version kind.1 >>= λ own. Ok (record { name = name.0; kind = kind.0; attributes = own.0 }, own.1)) (name_at-sound words sound)
      (λ name is left. leaves-bind {A = Kind} Anything SoundColumn (kind_at name.1) (λ kind. column_attributes_at version kind.1 >>= λ own. Ok (record { name = name.0; kind = kind.0; attributes = own.0 }, own.1)) (kind_at-sound name.1 left)
      (λ kind u left. leaves-bind SoundAttributes SoundColumn (column_attributes_at version kind.1) (λ own. Ok (record { name = name.0; kind = kind.0; attributes = own.0 }, own.1)) (attributes-sound kind.1 left)
      (λ own default left. leaves-ok {C = SchemaCode} SoundColumn (record { name = name.0; kind = kind.0; attributes = own.0 }) own.1 (is, default) left)))

  -- ---- items

  abbrev pub SoundItem : Item → Type 0
  SoundItem (items.Column column) = SoundColumn column
  SoundItem (items.Primary columns) = AreNames columns
  SoundItem (items.Key key) = SoundKey key.text

  primary_item-sound : (words : List Token) → AreSound words → Leaves SoundItem (primary_item_at words)
  unfolding primary_item_at
  primary_item-sound words sound =
      words-bind SoundItem (keyword_at (codes "KEY") words) (λ rest. key_columns_at rest >>= λ columns. Ok (items.Primary columns.0, columns.1)) (keyword-sound (codes "KEY") words sound)
      (λ rest left. leaves-bind AreNames SoundItem (key_columns_at rest) (λ columns. Ok (items.Primary columns.0, columns.1)) (key_columns-sound rest left) (λ columns are left. leaves-ok {C = SchemaCode} SoundItem (items.Primary columns.0) columns.1 are left))

  key_item-sound : (is_unique : Bool) (words : List Token) → AreSound words → Leaves SoundItem (key_item_at is_unique words)
  key_item-sound is_unique words sound =
      leaves-bind SoundKey SoundItem (key_at words) (λ key. Ok (items.Key (record { is_unique = is_unique; text = key.0 }), key.1)) (key_at-sound words sound) (λ key is left. leaves-ok {C = SchemaCode} SoundItem (items.Key (record { is_unique = is_unique; text = key.0 })) key.1 is left)

  key_word-sound : (words : List Token) (key index : Option (List Token)) → AreSound words → SomeSound key → SomeSound index → AreSound (key_word words key index)
  key_word-sound words (Some rest) index sound first second = first rest refl
  key_word-sound words None (Some rest) sound first second = second rest refl
  key_word-sound words None None sound first second = sound

  after_key-sound : (words : List Token) → AreSound words → AreSound (after_key_word words)
  unfolding after_key_word
  after_key-sound words sound = key_word-sound words (after_keyword (codes "KEY") words) (after_keyword (codes "INDEX") words) sound (after_keyword-sound (codes "KEY") words sound) (after_keyword-sound (codes "INDEX") words sound)

  column_item-sound : (words : List Token) → AreSound words → Leaves SoundItem (column_item_at version words)
  column_item-sound words sound = leaves-bind SoundColumn SoundItem (column_at version words) (λ column. Ok (items.Column column.0, column.1)) (column-sound words sound) (λ column is left. leaves-ok {C = SchemaCode} SoundItem (items.Column column.0) column.1 is left)

  item-sound : (words : List Token) → AreSound words → Leaves SoundItem (item_at version words)
  unfolding item_at
  item-sound [] sound = leaves-err SoundItem (mismatch [])
  item-sound (word ∷ rest) sound =
      leaves-cond SoundItem (is_keyword word (codes "PRIMARY")) _ _ (primary_item-sound rest sound.1)
      (leaves-cond SoundItem (is_keyword word (codes "UNIQUE")) _ _ (key_item-sound true (after_key_word rest) (after_key-sound rest sound.1))
      (leaves-cond SoundItem (is_keyword word (codes "KEY") || is_keyword word (codes "INDEX")) _ _ (key_item-sound false rest sound.1)
      (leaves-cond SoundItem (begins_no_item version word) _ _ (leaves-err SoundItem Scope) (column_item-sound (word ∷ rest) sound))))

  items-sound : (words : List Token) → AreSound words → Leaves (AllByRecursion SoundItem) (items_at version words)
  unfolding items_at
  items-sound words sound = listed-sound SoundItem (item_at version) Syntax item-sound (length words) words sound

  -- ---- the table

  pub record SoundTable (table : WrittenTable) : Type 0 where
    pub name : CanQuote table.name
    pub items : AllByRecursion SoundItem table.items

  alone-is : (table made : WrittenTable) (words : List Token) → alone table words ≡ Ok made → table ≡ made
  alone-is table made [] e = cc
  alone-is table made (word ∷ rest) e = absurd cc

  table-sound : (words : List Token) (table : WrittenTable) → AreSound words → table_at version words ≡ Ok table → SoundTable table
  unfolding table_at
  table-sound words table sound e =
      let end : List ℕ → List Item → TableOptions × List Token → Result WrittenTable SchemaCode = λ name items options. alone (record { name = name; items = items; options = options.0 }) (last_words options.1 (after_sign (codes ";") options.1)) in
      let a = bind_ok (keyword_at (codes "CREATE") words) (λ rest. keyword_at (codes "TABLE") rest >>= λ rest. name_at rest >>= λ name. sign_at (codes "(") name.1 >>= λ rest. items_at version rest >>= λ items. sign_at (codes ")") items.1 >>= λ rest. options_at version rest >>= λ options. end name.0 items.0 options) table e in
      let b = bind_ok (keyword_at (codes "TABLE") a.0) (λ rest. name_at rest >>= λ name. sign_at (codes "(") name.1 >>= λ rest. items_at version rest >>= λ items. sign_at (codes ")") items.1 >>= λ rest. options_at version rest >>= λ options. end name.0 items.0 options) table a.2 in
      let c = bind_ok (name_at b.0) (λ name. sign_at (codes "(") name.1 >>= λ rest. items_at version rest >>= λ items. sign_at (codes ")") items.1 >>= λ rest. options_at version rest >>= λ options. end name.0 items.0 options) table b.2 in
      let d = bind_ok (sign_at (codes "(") c.0.1) (λ rest. items_at version rest >>= λ items. sign_at (codes ")") items.1 >>= λ rest. options_at version rest >>= λ options. end c.0.0 items.0 options) table c.2 in
      let f = bind_ok (items_at version d.0) (λ items. sign_at (codes ")") items.1 >>= λ rest. options_at version rest >>= λ options. end c.0.0 items.0 options) table d.2 in
      let g = bind_ok (sign_at (codes ")") f.0.1) (λ rest. options_at version rest >>= λ options. end c.0.0 f.0.0 options) table f.2 in
      let h = bind_ok (options_at version g.0) (λ options. end c.0.0 f.0.0 options) table g.2 in
      let first = keyword-sound (codes "CREATE") words sound a.0 a.1 in
      let second = keyword-sound (codes "TABLE") a.0 first b.0 b.1 in
      let name = name_at-sound b.0 second c.0 c.1 in
      let opened = sign-sound (codes "(") c.0.1 name.1 d.0 d.1 in
      let items = items-sound d.0 opened f.0 f.1 in
      subst SoundTable (alone-is (record { name = c.0.0; items = f.0.0; options = h.0.0 }) table (last_words h.0.1 (after_sign (codes ";") h.0.1)) h.2) (record { name = name.0; items = items.0 })

  -- what sound words write is sound
  pub written-sound : (read : TextWords) (table : WrittenTable) → AreSound read.words → written version read ≡ Ok table → SoundTable table
  unfolding written
  written-sound read table sound e =
      let a = bind_ok (refused_in version (table_at version read.words)) (unless_faulty read.is_faulty) table e in
      subst SoundTable (faultless-is read.is_faulty a.0 table a.2) (table-sound read.words a.0 sound (refused_in-ok version (table_at version read.words) a.0 a.1))
