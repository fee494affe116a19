-- A workload's CREATE TABLE and ALTER, which are the same for each number: what they are read as is computed.
use Rattle.std.proofs.Common.{◌≡◌, false, Ok, refl, arith}
use Rattle.base_values.specs.StoredValues as s1
use Rattle.base_values.specs.GhoSchema.ClusteredKey as s2
use Rattle.base_values.specs.GhoSchema.Names as s3
use Rattle.sql_words.specs.Front as w1
use Rattle.sql_words.specs.Quoted as w2
use Rattle.sql_words.specs.Readings as w3
use Rattle.sql_grammar.specs.Attributes as t1
use Rattle.sql_grammar.specs.Keys as t2
use Rattle.sql_grammar.specs.Kinds as t3
use Rattle.sql_grammar.specs.Listed as t4
use Rattle.sql_grammar.specs.Pieces as t5
use Rattle.sql_grammar.specs.Scope as t6
use Rattle.sql_grammar.specs.Tokens as t7
use Rattle.base_values.specs.SchemaRules.Defaults as r1
use Rattle.base_values.specs.SchemaRules.Limits as r2
use Rattle.base_values.specs.ToolNames as r4
use Rattle.base_values.specs.SchemaRules.Names as r3
use Rattle.base_values.specs.SchemaRules.Valid.{IsValid}
use Rattle.sql_create.specs.Columns as c1
use Rattle.sql_create.specs.DeclaredSchema as c2
use Rattle.sql_create.specs.Keys as c3
use Rattle.sql_create.specs.Options as c4
use Rattle.sql_create.specs.Parts as c5
use Rattle.sql_create.specs.CreateText as c6
use Rattle.sql_create.specs.Written as c7
use Rattle.sql_alter.specs.Additions as a1
use Rattle.sql_alter.specs.Clauses as a2
use Rattle.sql_alter.specs.Column as a3
use Rattle.sql_alter.specs.Pieces as a4
use Rattle.sql_alter.specs.AlterText.{alter_at}
use Rattle.sql_change.specs.AlteredSchema as b1
use Rattle.sql_change.specs.ClauseResults as b2
use Rattle.sql_change.specs.Columns as b3
use Rattle.sql_change.specs.Places as b4
use Rattle.sql_change.specs.AlteredSoFar as b5
use Rattle.law_texts.specs.Workloads.Alters.{clauses, altered_schema, altered_map}
use Rattle.law_texts.specs.Workloads.Rows.{table_schema}
use Rattle.law_texts.specs.Workloads.Document.Texts.{alter_text, table_name, create_text}

pub schema_read : c6.schema_at 1 table_name create_text ≡ Ok table_schema
unfolding s1.half s1.text_number s1.character_count s1.in_range s1.text_within s1.stores s2.clustered_among s3.same_name w1.front_at w2.text_inside w2.name_inside w3.words_after t1.attribute_at t1.passed_at t2.key_mismatch t2.names_at t2.key_columns_at t2.key_name_at t2.key_at t3.kind_word t3.width_at t3.length_at t3.kind_after t3.kind_at t4.listed t4.gathered t5.after_keyword t5.after_sign t5.keyword_at t5.sign_at t5.after_name t5.name_at t5.number_at t5.text_at t5.literal_at t5.any_word_at t6.is_other_kind t6.is_no_item t6.mismatch t7.is_keyword t7.same_sign t7.text_words r1.defaults_fit r2.is_name_length r4.ghost_name r4.log_name r4.old_name r3.is_among r3.differ_from r3.place_of r3.places_of r3.spelled r3.numbered r3.first_free r3.first_column c1.column_attribute_at c1.column_attributes_at c1.column_at c2.declared_column c2.declared_columns c2.schema_of c2.declared c3.named_keys c4.value_words c4.passed_at c4.set_at c4.comment_at c4.charset_at c4.default_charset_at c4.option_at c4.options_at c5.parts_of c6.schema_at c7.primary_item_at c7.after_key_word c7.item_at c7.items_at c7.table_at c7.written
schema_read = refl

pub alter_read : alter_at 1 table_name alter_text ≡ Ok clauses
unfolding s3.same_name w1.front_at w2.text_inside w2.name_inside w3.words_after t1.attribute_at t1.passed_at t3.kind_word t3.width_at t3.length_at t3.kind_after t3.kind_at t4.listed t4.gathered t5.after_keyword t5.after_sign t5.keyword_at t5.sign_at t5.after_name t5.name_at t5.number_at t5.text_at t5.literal_at t5.any_word_at t6.is_other_kind t6.is_no_item t6.mismatch t7.is_keyword t7.same_sign t7.text_words a1.add_column_at a1.add_at a1.modify_at a2.clause_at a2.list_at a2.clauses_at a2.front_at a2.read a3.new_attribute_at a3.new_attributes_at a3.new_column_at a3.column_position_at a4.after_column a4.is_out_of_scope
alter_read = refl

pub alter_taken : b1.altered false table_schema clauses ≡ Ok (altered_schema, altered_map)
unfolding s1.half s1.text_number s1.character_count s1.in_range s1.text_within s1.stores s2.clustered_among s3.same_name r1.defaults_fit r2.is_name_length r3.is_among b1.step b1.steps b1.same_columns b1.map_of b1.altered b2.added b2.renamed_in b2.changed b3.column_place b3.column_named b3.is_in_keys b3.is_in_primary b3.column_position_place b3.column_of b4.place_after b4.index_after b5.places_from b5.with_columns b5.put_in b5.taken_out b5.moved_to
alter_taken = refl

pub table_valid : IsValid table_schema
unfolding s1.half s1.character_count s1.in_range s1.text_within s1.stores s2.clustered_among s3.same_name r3.is_among r3.differ_from
table_valid = record {
  some = omega arith;
  few = omega arith;
  names = refl;
  columns = (record { kind = refl; default = tt }, (record { kind = refl; default = refl }, (record { kind = refl; default = refl }, tt)));
  uniques = (record { some = omega arith; within = (omega arith, tt) }, (record { some = omega arith; within = (omega arith, tt) }, tt));
  indexes = tt;
  clustered = refl;
}

pub altered_valid : IsValid altered_schema
unfolding s1.half s1.character_count s1.in_range s1.text_within s1.stores s2.clustered_among s3.same_name r3.is_among r3.differ_from
altered_valid = record {
  some = omega arith;
  few = omega arith;
  names = refl;
  columns = (record { kind = refl; default = tt }, (record { kind = refl; default = refl }, (record { kind = refl; default = refl }, (record { kind = refl; default = refl }, tt))));
  uniques = (record { some = omega arith; within = (omega arith, tt) }, (record { some = omega arith; within = (omega arith, tt) }, tt));
  indexes = tt;
  clustered = refl;
}
