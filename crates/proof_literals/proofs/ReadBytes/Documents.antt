-- The texts of a TOML document of bytes have bytes. (The TOML specification, as the library `toml` states it.)
use Rattle.std.proofs.Common.{ℕ, zero, suc, Bool, true, false, cond, ◌&&◌, ◌==◌, List, [], ◌∷◌, ◌++◌, length, drop, take, Option, Some, None}
use Rattle.std.specs.Prelude.{option_and_then, option_map, slice_index}
use Rattle.std.specs.Cmp.Lexicographic.{slice_cmp}
use Rattle.std.specs.declared.cmp.Ordering.{Ordering}
use Rattle.std.specs.declared.cmp.Ordering.TheVariants.{Less, Equal, Greater}
use Rattle.std.specs.Option.{IfSome}
use Rattle.std.specs.Ordering.{match_ordering, nat_cmp}
use Rattle.toml.specs.Data.{Data, string, integer, float, boolean, datetime, array, table, Items, no_items, item, Members, no_members, member, push_item, same_key}
use Rattle.toml.specs.Parse.{after_byte, after_element, atom, ends_line, expression, header_key, items, key_equals, keyval, line, lines, members, parse_document, scalar_data, skip_bom, val}
use Rattle.toml.specs.Tables.{Definition, Document, Edit, Expression, Node, Nodes, along_dots, along_header, array_table, at_found, at_key, by_dot, by_header, close, close_node, define, define_as, dot_node, dotted, get_node, header, header_node, implicit, insert, key_value, new_node, no_nodes, node, open_array, open_table, put, redefine, replace, std_table, value}
use Rattle.toml_parser.specs.declared.scalar.Scalar.{Scalar}
use Rattle.toml_parser.specs.declared.scalar.Scalar.TheVariants as scalars
use Rattle.toml_parser.specs.Lexical.{Read, comma, equals, first, left_brace, left_bracket, right_brace, right_bracket, skip_blank, skip_ws}
use Rattle.toml_parser.specs.Numbers.{unquoted, word_len, word_value}
use Rattle.toml_parser.specs.Strings.{Key, key, quoted, recursion_limit, starts_string}
use Rattle.proof_plain.specs.Plain.{AreBytes}
use Rattle.proof_literals.proofs.ReadBytes.Strings.{Anything, Leaves, after_key, blank_bytes, bytes_drop, leaves_if, leaves_map, leaves_then, quoted_leaves, ws_bytes}

-- ---- values

-- each text of a value has bytes
abbrev mutual
  pub BytesData : Data → Type 0
  BytesData (string text) = AreBytes text
  BytesData (integer number) = Unit {0}
  BytesData (float number) = Unit {0}
  BytesData (boolean truth) = Unit {0}
  BytesData (datetime moment) = Unit {0}
  BytesData (array own) = BytesItems own
  BytesData (table own) = BytesMembers own

  pub BytesItems : Items → Type 0
  BytesItems no_items = Unit {0}
  BytesItems (item one others) = BytesData one × BytesItems others

  pub BytesMembers : Members → Type 0
  BytesMembers no_members = Unit {0}
  BytesMembers (member name one others) = BytesData one × BytesMembers others

-- and so does each text of a table that is being read
abbrev mutual
  BytesNode : Node → Type 0
  BytesNode (value data_of) = BytesData data_of
  BytesNode (open_table origin nodes) = BytesNodes nodes
  BytesNode (open_array done last) = BytesItems done × BytesNodes last

  BytesNodes : Nodes → Type 0
  BytesNodes no_nodes = Unit {0}
  BytesNodes (node name one others) = BytesNode one × BytesNodes others

pushed_bytes : (front : Items) (last : Data) → BytesItems front → BytesData last → BytesItems (push_item front last)
pushed_bytes no_items last are is = (is, tt)
pushed_bytes (item one others) last are is = (are.0, pushed_bytes others last are.1 is)

mutual
  closed_node : (one : Node) → BytesNode one → BytesData (close_node one)
  closed_node (value data_of) is = is
  closed_node (open_table origin nodes) is = closed_bytes nodes is
  closed_node (open_array done last) is = pushed_bytes done (table (close last)) is.0 (closed_bytes last is.1)

  closed_bytes : (nodes : Nodes) → BytesNodes nodes → BytesMembers (close nodes)
  closed_bytes no_nodes are = tt
  closed_bytes (node name one others) are = (closed_node one are.0, closed_bytes others are.1)

-- ---- tables

found_bytes : (name : List ℕ) (nodes : Nodes) → BytesNodes nodes → IfSome (get_node name nodes) BytesNode
found_bytes name no_nodes are = tt
found_bytes name (node own one nodes) are = by (same_key name own) (found_bytes name nodes are.1) where
  by : (b : Bool) → IfSome (get_node name nodes) BytesNode → IfSome (cond b (Some one) (get_node name nodes)) BytesNode
  by true rest = are.0
  by false rest = rest

inserted_bytes : (name : List ℕ) (new : Node) (nodes : Nodes) → BytesNode new → BytesNodes nodes → BytesNodes (insert name new nodes)
inserted_bytes name new no_nodes is are = (is, tt)
inserted_bytes name new (node own one nodes) is are = by (slice_cmp nat_cmp name own) (inserted_bytes name new nodes is are.1) where
  by : (o : Ordering) → BytesNodes (insert name new nodes) → BytesNodes (match_ordering o (node name new (node own one nodes)) (node own new nodes) (node own one (insert name new nodes)))
  by Less rest = (is, are)
  by Equal rest = (is, are.1)
  by Greater rest = (are.0, rest)

replaced_bytes : (name : List ℕ) (new : Node) (nodes : Nodes) → BytesNode new → BytesNodes nodes → BytesNodes (replace name new nodes)
replaced_bytes name new no_nodes is are = tt
replaced_bytes name new (node own one nodes) is are = by (same_key name own) (replaced_bytes name new nodes is are.1) where
  by : (b : Bool) → BytesNodes (replace name new nodes) → BytesNodes (cond b (node own new nodes) (node own one (replace name new nodes)))
  by true rest = (is, are.1)
  by false rest = (are.0, rest)

some_map : {A B : Type 0} (P : A → Type 0) (Q : B → Type 0) (f : A → B) (o : Option A) → IfSome o P → ((x : A) → P x → Q (f x)) → IfSome (option_map f o) Q
some_map P Q f None first next = tt
some_map P Q f (Some x) first next = next x first

-- a change of a table after which its texts have bytes, where they had
abbrev KeepsBytes : Edit → Type 0
KeepsBytes edit = (nodes : Nodes) → BytesNodes nodes → IfSome (edit nodes) BytesNodes

module _ (edit : Edit) (keeps : KeepsBytes edit) where
  header_bytes : (one : Node) → BytesNode one → IfSome (header_node edit one) BytesNode
  header_bytes (value data_of) is = tt
  header_bytes (open_table origin inner) is = some_map BytesNodes BytesNode (open_table origin) (edit inner) (keeps inner is) (λ nodes are. are)
  header_bytes (open_array done last) is = some_map BytesNodes BytesNode (open_array done) (edit last) (keeps last is.1) (λ nodes are. (is.0, are))

  dot_bytes : (one : Node) → BytesNode one → IfSome (dot_node edit one) BytesNode
  dot_bytes (value data_of) is = tt
  dot_bytes (open_table header inner) is = tt
  dot_bytes (open_table implicit inner) is = some_map BytesNodes BytesNode (open_table dotted) (edit inner) (keeps inner is) (λ nodes are. are)
  dot_bytes (open_table dotted inner) is = some_map BytesNodes BytesNode (open_table dotted) (edit inner) (keeps inner is) (λ nodes are. are)
  dot_bytes (open_array done last) is = tt

  by_header_bytes : (name : List ℕ) (nodes : Nodes) (found : Option Node) → BytesNodes nodes → IfSome found BytesNode → IfSome (by_header name edit nodes found) BytesNodes
  by_header_bytes name nodes None are is = some_map BytesNodes BytesNodes (λ new. insert name (open_table implicit new) nodes) (edit no_nodes) (keeps no_nodes tt) (λ new own. inserted_bytes name (open_table implicit new) nodes own are)
  by_header_bytes name nodes (Some one) are is = some_map BytesNode BytesNodes (λ new. replace name new nodes) (header_node edit one) (header_bytes one is) (λ new own. replaced_bytes name new nodes own are)

  by_dot_bytes : (name : List ℕ) (nodes : Nodes) (found : Option Node) → BytesNodes nodes → IfSome found BytesNode → IfSome (by_dot name edit nodes found) BytesNodes
  by_dot_bytes name nodes None are is = some_map BytesNodes BytesNodes (λ new. insert name (open_table dotted new) nodes) (edit no_nodes) (keeps no_nodes tt) (λ new own. inserted_bytes name (open_table dotted new) nodes own are)
  by_dot_bytes name nodes (Some one) are is = some_map BytesNode BytesNodes (λ new. replace name new nodes) (dot_node edit one) (dot_bytes one is) (λ new own. replaced_bytes name new nodes own are)

along_header_bytes : (path : List (List ℕ)) (edit : Edit) → KeepsBytes edit → KeepsBytes (along_header path edit)
unfolding along_header
along_header_bytes [] edit keeps nodes are = keeps nodes are
along_header_bytes (name ∷ path) edit keeps nodes are = by_header_bytes (along_header path edit) (along_header_bytes path edit keeps) name nodes (get_node name nodes) are (found_bytes name nodes are)

along_dots_bytes : (path : List (List ℕ)) (edit : Edit) → KeepsBytes edit → KeepsBytes (along_dots path edit)
unfolding along_dots
along_dots_bytes [] edit keeps nodes are = keeps nodes are
along_dots_bytes (name ∷ path) edit keeps nodes are = by_dot_bytes (along_dots path edit) (along_dots_bytes path edit keeps) name nodes (get_node name nodes) are (found_bytes name nodes are)

abbrev BytesDefinition : Definition → Type 0
BytesDefinition (key_value data_of) = BytesData data_of
BytesDefinition std_table = Unit {0}
BytesDefinition array_table = Unit {0}

new_bytes : (what : Definition) → BytesDefinition what → BytesNode (new_node what)
new_bytes (key_value data_of) is = is
new_bytes std_table is = tt
new_bytes array_table is = (tt, tt)

redefined_bytes : (what : Definition) (one : Node) → BytesNode one → IfSome (redefine what one) BytesNode
redefined_bytes std_table (open_table implicit inner) is = is
redefined_bytes std_table (open_table dotted inner) is = tt
redefined_bytes std_table (open_table header inner) is = tt
redefined_bytes std_table (value data_of) is = tt
redefined_bytes std_table (open_array done last) is = tt
redefined_bytes array_table (open_array done last) is = (pushed_bytes done (table (close last)) is.0 (closed_bytes last is.1), tt)
redefined_bytes array_table (open_table origin inner) is = tt
redefined_bytes array_table (value data_of) is = tt
redefined_bytes (key_value data_of) one is = tt

at_key_bytes : (key : List ℕ) (what : Definition) → BytesDefinition what → KeepsBytes (at_key key what)
unfolding at_key
at_key_bytes key what is nodes are = by (get_node key nodes) (found_bytes key nodes are) where
  by : (found : Option Node) → IfSome found BytesNode → IfSome (at_found key what nodes found) BytesNodes
  by None own = inserted_bytes key (new_node what) nodes (new_bytes what is) are
  by (Some one) own = some_map BytesNode BytesNodes (λ new. replace key new nodes) (redefine what one) (redefined_bytes what one own) (λ new fine. replaced_bytes key new nodes fine are)

put_bytes : (key : Key) (data_of : Data) → BytesData data_of → KeepsBytes (put key data_of)
put_bytes key data_of is = along_dots_bytes key.0 (at_key key.1 (key_value data_of)) (at_key_bytes key.1 (key_value data_of) is)

-- ---- the document so far

abbrev BytesDocument : Document → Type 0
BytesDocument document = BytesNodes document.0

abbrev BytesExpression : Expression → Type 0
BytesExpression expression = BytesDefinition expression.1

defined_as : (document : Document) (key : Key) (what : Definition) → BytesDocument document → BytesDefinition what → IfSome (define_as document key what) BytesDocument
defined_as document key (key_value data_of) are is = some_map BytesNodes BytesDocument (λ root. (root, document.1)) (along_header document.1 (put key data_of) document.0) (along_header_bytes document.1 (put key data_of) (put_bytes key data_of is) document.0 are) (λ root own. own)
defined_as document key std_table are is = some_map BytesNodes BytesDocument (λ root. (root, key.0 ++ key.1 ∷ [])) (along_header key.0 (at_key key.1 std_table) document.0) (along_header_bytes key.0 (at_key key.1 std_table) (at_key_bytes key.1 std_table tt) document.0 are) (λ root own. own)
defined_as document key array_table are is = some_map BytesNodes BytesDocument (λ root. (root, key.0 ++ key.1 ∷ [])) (along_header key.0 (at_key key.1 array_table) document.0) (along_header_bytes key.0 (at_key key.1 array_table) (at_key_bytes key.1 array_table tt) document.0 are) (λ root own. own)

defined_bytes : (document : Document) (one : Expression) → BytesDocument document → BytesExpression one → IfSome (define document one) BytesDocument
unfolding define
defined_bytes document one are is = defined_as document one.0 one.1 are is

-- ---- what is read

some_then : {A B : Type 0} (P : A → Type 0) (Q : B → Type 0) (o : Option A) (f : A → Option B) → IfSome o P → ((x : A) → P x → IfSome (f x) Q) → IfSome (option_and_then f o) Q
some_then P Q None f first next = tt
some_then P Q (Some x) f first next = next x first

-- where something was read, what follows it has bytes
after_leaves : {A B : Type 0} (P : A → Type 0) (Q : B → Type 0) (o : Option A) (f : A → Read B) → IfSome o P → ((x : A) → P x → Leaves Q (f x)) → Leaves Q (option_and_then f o)
after_leaves P Q None f first next = tt
after_leaves P Q (Some x) f first next = next x first

after_byte_bytes : (byte : ℕ) (text : List ℕ) → AreBytes text → IfSome (after_byte byte text) AreBytes
after_byte_bytes byte text are = by (first text == byte) where
  by : (b : Bool) → IfSome (cond b (Some (drop 1 text)) None) AreBytes
  by true = bytes_drop 1 text are
  by false = tt

after_element_bytes : (closing : ℕ) (text : List ℕ) → AreBytes text → IfSome (after_element closing text) AreBytes
unfolding after_element
after_element_bytes closing text are = by (first (skip_blank text) == comma) (first (skip_blank text) == closing) where
  by : (one two : Bool) → IfSome (cond one (Some (drop 1 (skip_blank text))) (cond two (Some (skip_blank text)) None)) AreBytes
  by true two = bytes_drop 1 (skip_blank text) (blank_bytes text are)
  by false true = blank_bytes text are
  by false false = tt

-- the key of a pair or a header stays, and what follows the byte after it has bytes
key_rest : (key : Key) (o : Option (List ℕ)) (f : List ℕ → List ℕ) → IfSome o AreBytes → ((rest : List ℕ) → AreBytes rest → AreBytes (f rest)) → Leaves {A = Key} Anything (option_map (λ rest. (key, f rest)) o)
key_rest key None f is each = tt
key_rest key (Some rest) f is each = (tt, each rest is)

key_equals_leaves : (text : List ℕ) → AreBytes text → Leaves {A = Key} Anything (key_equals text)
unfolding key_equals
key_equals_leaves text are = leaves_then {A = Key} {B = Key} Anything Anything (key text) _ (after_key text are) (λ key u rest. key_rest key.0 (after_byte equals key.1) skip_ws (after_byte_bytes equals key.1 rest) ws_bytes)

module _ (own : List ℕ → Read Data) (each : (text : List ℕ) → AreBytes text → Leaves BytesData (own text)) where
  pair_leaves : (text : List ℕ) → AreBytes text → Leaves {A = Key × Data} (λ pair. BytesData pair.1) (keyval own text)
  pair_leaves text are =
      leaves_then {A = Key} {B = Key × Data} Anything (λ pair. BytesData pair.1) (key_equals text) _ (key_equals_leaves text are)
      (λ key u rest. leaves_map {A = Data} {B = Key × Data} BytesData (λ pair. BytesData pair.1) (λ one. (key.0, one)) (own key.1) (each key.1 rest) (λ one is. is))

  items_leave : (n : ℕ) (found : Items) (text : List ℕ) → BytesItems found → AreBytes text → Leaves BytesItems (items own n found text)
  unfolding items
  items_leave zero found text is are = tt
  items_leave (suc n) found text is are =
      let start = blank_bytes text are in
      leaves_if BytesItems (first (skip_blank text) == right_bracket) (Some (found, drop 1 (skip_blank text))) _ (is, bytes_drop 1 (skip_blank text) start)
      (leaves_then BytesData BytesItems (own (skip_blank text)) _ (each (skip_blank text) start)
      (λ one fine rest. after_leaves AreBytes BytesItems (after_element right_bracket one.1) _ (after_element_bytes right_bracket one.1 rest) (λ left all. items_leave n (push_item found one.0) left (pushed_bytes found one.0 is fine) all)))

  members_leave : (n : ℕ) (found : Nodes) (text : List ℕ) → BytesNodes found → AreBytes text → Leaves BytesMembers (members own n found text)
  unfolding members
  members_leave zero found text is are = tt
  members_leave (suc n) found text is are =
      let start = blank_bytes text are in
      leaves_if BytesMembers (first (skip_blank text) == right_brace) (Some (close found, drop 1 (skip_blank text))) _ (closed_bytes found is, bytes_drop 1 (skip_blank text) start)
      (leaves_then {A = Key × Data} (λ pair. BytesData pair.1) BytesMembers (keyval own (skip_blank text)) _ (pair_leaves (skip_blank text) start)
      (λ pair fine rest. after_leaves BytesNodes BytesMembers (put pair.0.0 pair.0.1 found) _ (put_bytes pair.0.0 pair.0.1 fine found is)
      (λ more kept. after_leaves AreBytes BytesMembers (after_element right_brace pair.1) _ (after_element_bytes right_brace pair.1 rest) (λ left all. members_leave n more left kept all))))

scalar_bytes : (scalar : Scalar) → BytesData (scalar_data scalar)
scalar_bytes (scalars.Boolean truth) = tt
scalar_bytes (scalars.Integer number) = tt
scalar_bytes (scalars.Float number) = tt
scalar_bytes (scalars.Datetime moment) = tt

unquoted_leaves : (text : List ℕ) → AreBytes text → Leaves {A = Scalar} Anything (unquoted text)
unfolding unquoted
unquoted_leaves text are = leaves_if {A = Scalar} Anything (word_len text == 0) None _ tt (by (word_value (take (word_len text) text))) where
  by : (o : Option Scalar) → Leaves {A = Scalar} Anything (option_map (λ d. (d, drop (word_len text) text)) o)
  by None = tt
  by (Some scalar) = (tt, bytes_drop (word_len text) text are)

atom_leaves : (text : List ℕ) → AreBytes text → Leaves BytesData (atom text)
unfolding atom
atom_leaves text are =
    leaves_if BytesData (starts_string text) _ _ (leaves_map {A = List ℕ} AreBytes BytesData string (quoted text) (quoted_leaves text are) (λ own is. is))
    (leaves_map {A = Scalar} Anything BytesData scalar_data (unquoted text) (unquoted_leaves text are) (λ scalar u. scalar_bytes scalar))

val_leaves : (depth : ℕ) (text : List ℕ) → AreBytes text → Leaves BytesData (val depth text)
unfolding val
val_leaves zero text are = atom_leaves text are
val_leaves (suc depth) text are =
    leaves_if BytesData (first text == left_bracket) _ _ (leaves_map BytesItems BytesData array (items (val depth) (length text) no_items (drop 1 text)) (items_leave (val depth) (val_leaves depth) (length text) no_items (drop 1 text) tt (bytes_drop 1 text are)) (λ own is. is))
    (leaves_if BytesData (first text == left_brace) _ _ (leaves_map BytesMembers BytesData table (members (val depth) (length text) no_nodes (drop 1 text)) (members_leave (val depth) (val_leaves depth) (length text) no_nodes (drop 1 text) tt (bytes_drop 1 text are)) (λ own is. is))
    (atom_leaves text are))

-- ---- the lines

header_leaves : (text : List ℕ) → AreBytes text → Leaves {A = Key} Anything (header_key text)
unfolding header_key
header_leaves text are = leaves_then {A = Key} {B = Key} Anything Anything (key (skip_ws text)) _ (after_key (skip_ws text) (ws_bytes text are)) (λ key u rest. key_rest key.0 (after_byte right_bracket key.1) (λ left. left) (after_byte_bytes right_bracket key.1 rest) (λ left all. all))

array_leaves : (key : Key) (o : Option (List ℕ)) → IfSome o AreBytes → Leaves BytesExpression (option_map (λ rest. ((key, array_table), rest)) o)
array_leaves key None is = tt
array_leaves key (Some rest) is = (tt, is)

expression_leaves : (text : List ℕ) → AreBytes text → Leaves BytesExpression (expression text)
unfolding expression
expression_leaves text are =
    leaves_if BytesExpression (first text == left_bracket && slice_index text 1 == left_bracket) _ _
    (leaves_then {A = Key} Anything BytesExpression (header_key (drop 2 text)) _ (header_leaves (drop 2 text) (bytes_drop 2 text are)) (λ key u rest. array_leaves key.0 (after_byte right_bracket key.1) (after_byte_bytes right_bracket key.1 rest)))
    (leaves_if BytesExpression (first text == left_bracket) _ _ (leaves_map {A = Key} Anything BytesExpression (λ key. (key, std_table)) (header_key (drop 1 text)) (header_leaves (drop 1 text) (bytes_drop 1 text are)) (λ key u. tt))
    (leaves_map {A = Key × Data} (λ pair. BytesData pair.1) BytesExpression (λ pair. (pair.0, key_value pair.1)) (keyval (val recursion_limit) text) (pair_leaves (val recursion_limit) (val_leaves recursion_limit) text are) (λ pair is. is)))

line_leaves : (text : List ℕ) → AreBytes text → Leaves BytesExpression (line text)
unfolding line
line_leaves text are = leaves_then BytesExpression BytesExpression (expression text) _ (expression_leaves text are) (λ one is rest. leaves_if BytesExpression (ends_line (skip_ws one.1)) (Some one) None (is, rest) tt)

abbrev BytesLine : Expression × List ℕ → Type 0
BytesLine read = BytesExpression read.0 × AreBytes read.1

document_if : (b : Bool) (document : Document) (rest : Option Document) → BytesDocument document → IfSome rest BytesDocument → IfSome (cond b (Some document) rest) BytesDocument
document_if true document rest is others = is
document_if false document rest is others = others

lines_bytes : (n : ℕ) (document : Document) (text : List ℕ) → BytesDocument document → AreBytes text → IfSome (lines n document text) BytesDocument
unfolding lines
lines_bytes zero document text is are = tt
lines_bytes (suc n) document text is are =
    document_if (length (skip_blank text) == 0) document _ is
    (some_then BytesLine BytesDocument (line (skip_blank text)) _ (line_leaves (skip_blank text) (blank_bytes text are))
    (λ one fine. some_then BytesDocument BytesDocument (define document one.0) _ (defined_bytes document one.0 is fine.0) (λ next kept. lines_bytes n next one.1 kept fine.1)))

bom_bytes : (text : List ℕ) → AreBytes text → AreBytes (skip_bom text)
unfolding skip_bom
bom_bytes text are = by ((first text == 239 && slice_index text 1 == 187) && slice_index text 2 == 191) where
  by : (b : Bool) → AreBytes (cond b (drop 3 text) text)
  by true = bytes_drop 3 text are
  by false = are

-- *Documents of bytes have texts of bytes*
pub document_bytes : (bytes : List ℕ) → AreBytes bytes → IfSome (parse_document bytes) BytesMembers
unfolding parse_document
document_bytes bytes are =
    some_map BytesDocument BytesMembers (λ document. close document.0) (lines (suc (length bytes)) (no_nodes, []) (skip_bom bytes)) (lines_bytes (suc (length bytes)) (no_nodes, []) (skip_bom bytes) tt (bom_bytes bytes are)) (λ document own. closed_bytes document.0 own)
