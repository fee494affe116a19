-- One worked run of an alterable plan, that a client waits in behind a chunk's lock: all that the law over journals asks holds of its
-- journal until the RENAME is done, so by the law its new table is then the altered one.
use Rattle.std.proofs.Common.{pos, true, false, ◌≡◌, List, [], ◌∷◌, take, None, Some, Ok, refl, arith}
use Rattle.std.specs.Prelude.{codes}
use Rattle.base_values.specs.declared.kind.Kind.TheVariants.{Int}
use Rattle.base_values.specs.declared.value.Value.TheVariants.{Null, Num}
use Rattle.base_values.specs.declared.gho_schema.schema.Schema.{Schema}
use Rattle.base_values.specs.SchemaRules.Valid.{IsValid}
use Rattle.base_values.specs.declared.row_conversion.clause.Clause.{Clause}
use Rattle.base_values.specs.declared.row_conversion.clause.Clause.TheVariants as clauses
use Rattle.base_values.specs.declared.row_conversion.clause.ColumnPosition.TheVariants.{Unsaid}
use Rattle.base_values.specs.declared.row_conversion.map.Origin.TheVariants as from
use Rattle.sql_change.specs.AlteredSchema.{altered}
use Rattle.proof_schemas.proofs.Alters.ConvertedRowTables.{clustered_keys_kept}
use Rattle.proof_schemas.proofs.Alters.KeepingKeys.{stay_apart}
use Rattle.proof_schemas.proofs.Alters.TableNames.{keep_names}
use Rattle.table_store.specs.Databases.{TableRows}
use Rattle.server_model.specs.declared.entry.Entry.{Entry}
use Rattle.plan_data.specs.PlanData.{Altered}
use Rattle.tool_program.specs.JournalWords.Journals.{IsFaithful, state_at}
use Rattle.tool_program.specs.JournalWords.KeptPlans.{KeepsPlan}
use Rattle.tool_program.specs.JournalWords.Sessions.{KeepsSessions}
use Rattle.tool_program.specs.Programs.{Follows}
use Rattle.tool_program.specs.Tools.{ToolPhase, Migrating, Work, moment, new_work}
use Rattle.proof_journals.specs.Plans as plans
use Rattle.proof_journals.specs.Plans.{IsSerialPlan}
use Rattle.proof_journals.specs.Ghost.Copies.{IsAltered}
use Rattle.proof_migration.specs.Migration.Planning.{migration_of}
use Rattle.proof_journals.specs.Run.Kept.{IsKept}
use Rattle.proof_migration.specs.ToolPhase.Runnable.{IsAlterable, IsWorded}
use Rattle.proof_migration.specs.Program.Turns.Laws.{IsMark}
use Rattle.proof_migration.specs.Program.Laws.{FollowersAlter}
use Rattle.test_worked.proofs.Computing.{computing}
use Rattle.test_worked.proofs.SmallPlans1.{plan_after_chunk, journal_after_chunk}

infixr 5 ◌▸◌
-- one turn, and those behind it
abbrev ◌▸◌ : {A B : Type 0} → A → B → A × B
first ▸ others = (first, others)

-- the journal until the RENAME is done
abbrev journal_to_mark : List Entry
journal_to_mark = take 25 journal_after_chunk

-- THE PLAN

abbrev old_schema : Schema
old_schema = record { name = codes "t"; columns = (record { name = codes "id"; kind = Int 4 false; nullable = false; default = None; auto = false } ∷ []); uniques = (record { name = None; places = (0 ∷ []) } ∷ []); indexes = []; comment = []; start = None }

abbrev old_table : TableRows
old_table = record { schema = old_schema; rows = (((Num (pos 1)) ∷ []) ∷ ((Num (pos 2)) ∷ []) ∷ []) }

abbrev made_schema : Schema
made_schema = record { name = codes "t"; columns = (record { name = codes "id"; kind = Int 4 false; nullable = false; default = None; auto = false } ∷ record { name = codes "b"; kind = Int 4 false; nullable = true; default = (Some Null); auto = false } ∷ []); uniques = (record { name = None; places = (0 ∷ []) } ∷ []); indexes = []; comment = []; start = None }

abbrev new_table : Altered
new_table = (made_schema, (record { kind = Int 4 false; nullable = false; origin = from.Old 0 } ∷ record { kind = Int 4 false; nullable = true; origin = from.Added Null } ∷ []))

abbrev alter : List Clause
alter = (clauses.Add (record { name = codes "b"; kind = Int 4 false; nullable = None; default = None; auto = false }) Unsaid ∷ [])

valid : IsValid old_schema
unfolding computing
valid = record {
  some = grind (arith);
  few = grind (arith);
  names = refl;
  columns = (record { kind = refl; default = tt }, tt);
  uniques = (record { some = grind (arith); within = (grind (arith), tt) }, tt);
  indexes = tt;
  clustered = refl;
}

altered_so : altered false old_schema alter ≡ Ok new_table
unfolding computing
altered_so = refl

alterable : IsAlterable plan_after_chunk
unfolding computing
alterable = record {
  tables = (record { keyed = record { some = grind (arith); not_null = (refl, tt) }; defaults = (tt, tt); is_table = record { rows_fit = ((refl, tt), ((refl, tt), tt)); ascends = ((refl, tt), (tt, tt)); apart = ((refl, tt), (tt, tt)) } }, tt);
  table = old_table;
  found = refl;
  is_table = record { rows_fit = ((refl, tt), ((refl, tt), tt)); ascends = ((refl, tt), (tt, tt)); apart = ((refl, tt), (tt, tt)) };
  valid = valid;
  new = new_table;
  alters = refl;
  keeps = record {
    name = keep_names false old_schema alter new_table altered_so;
    key = λ row made fits converted_row_is. clustered_keys_kept false old_schema alter new_table row made valid altered_so fits converted_row_is;
    apart = λ row other made others fits too converted_row_is other_is clashes. stay_apart false old_schema alter new_table row other made others valid altered_so fits too converted_row_is other_is clashes;
  };
}

worded : IsWorded plan_after_chunk
unfolding computing
worded = record {
  scripts = ((tt, tt), tt);
  names = (
    record { some = grind (arith); characters = grind (arith); bytes = grind (arith) },
    (record { some = grind (arith); characters = grind (arith); bytes = grind (arith) }, (record { some = grind (arith); characters = grind (arith); bytes = grind (arith) }, (record { some = grind (arith); characters = grind (arith); bytes = grind (arith) }, tt))),
  );
  chunk = grind (arith);
  commands = tt;
  batch = grind (arith);
  clauses = (refl, tt);
}

serial : IsSerialPlan plan_after_chunk
unfolding computing plans.client_names plans.client_tables plans.script_names
serial = record {
  tables = (record { keyed = record { some = grind (arith); not_null = (refl, tt) }; defaults = (tt, tt); is_table = record { rows_fit = ((refl, tt), ((refl, tt), tt)); ascends = ((refl, tt), (tt, tt)); apart = ((refl, tt), (tt, tt)) } }, tt);
  scripts = (refl, tt);
}

-- THE JOURNAL

faithful : IsFaithful plan_after_chunk journal_to_mark
unfolding computing
faithful =
    record { sides = λ is. refl; answer = refl; missed = refl; draw = refl }
    ▸ record { sides = λ is. refl; answer = refl; missed = refl; draw = refl }
    ▸ record { sides = λ is. refl; answer = refl; missed = refl; draw = refl }
    ▸ record { sides = λ is. refl; answer = refl; missed = refl; draw = refl }
    ▸ record { sides = λ is. refl; answer = refl; missed = refl; draw = refl }
    ▸ record { sides = λ is. refl; answer = refl; missed = refl; draw = refl }
    ▸ record { sides = λ is. refl; answer = refl; missed = refl; draw = refl }
    ▸ record { sides = λ is. refl; answer = refl; missed = refl; draw = refl }
    ▸ record { sides = λ is. refl; answer = refl; missed = refl; draw = refl }
    ▸ record { sides = λ is. refl; answer = refl; missed = refl; draw = refl }
    ▸ record { sides = λ is. refl; answer = refl; missed = refl; draw = refl }
    ▸ record { sides = λ is. refl; answer = refl; missed = refl; draw = refl }
    ▸ record { sides = λ is. refl; answer = refl; missed = refl; draw = refl }
    ▸ record { sides = λ is. refl; answer = refl; missed = refl; draw = refl }
    ▸ record { sides = λ is. refl; answer = refl; missed = refl; draw = refl }
    ▸ record { sides = λ is. refl; answer = refl; missed = refl; draw = refl }
    ▸ record { sides = λ is. refl; answer = refl; missed = refl; draw = refl }
    ▸ record { sides = λ is. refl; answer = refl; missed = refl; draw = refl }
    ▸ record { sides = λ is. refl; answer = refl; missed = refl; draw = refl }
    ▸ record { sides = λ is. refl; answer = refl; missed = refl; draw = refl }
    ▸ record { sides = λ is. refl; answer = refl; missed = refl; draw = refl }
    ▸ record { sides = λ is. refl; answer = refl; missed = refl; draw = refl }
    ▸ record { sides = λ is. refl; answer = refl; missed = refl; draw = refl }
    ▸ record { sides = λ is. refl; answer = refl; missed = refl; draw = refl }
    ▸ record { sides = λ is. refl; answer = refl; missed = refl; draw = refl }
    ▸ tt

planned : KeepsPlan plan_after_chunk journal_to_mark
unfolding computing KeepsPlan
planned =
    record { next = refl; struck = (λ is. cc, refl) }
    ▸ record { next = refl; struck = (λ is. cc, refl) }
    ▸ record { next = refl; struck = (λ is. cc, refl) }
    ▸ record { next = refl; struck = (λ is. cc, refl) }
    ▸ record { next = refl; struck = (λ is. cc, refl) }
    ▸ record { next = refl; struck = (λ is. cc, refl) }
    ▸ record { next = refl; struck = (λ is. cc, refl) }
    ▸ record { next = refl; struck = (λ is. cc, refl) }
    ▸ record { next = refl; struck = (λ is. cc, refl) }
    ▸ record { next = refl; struck = (λ is. cc, refl) }
    ▸ record { next = refl; struck = (λ is. cc, refl) }
    ▸ record { next = refl; struck = (λ is. cc, refl) }
    ▸ record { next = refl; struck = (λ is. cc, refl) }
    ▸ record { next = refl; struck = (λ is. cc, refl) }
    ▸ record { next = refl; struck = (λ is. cc, refl) }
    ▸ record { next = refl; struck = (λ is. cc, refl) }
    ▸ record { next = refl; struck = (λ is. cc, refl) }
    ▸ record { next = refl; struck = (λ is. cc, refl) }
    ▸ record { next = refl; struck = (λ is. cc, refl) }
    ▸ record { next = refl; struck = (λ is. cc, refl) }
    ▸ record { next = refl; struck = (λ is. cc, refl) }
    ▸ record { next = refl; struck = (λ is. cc, refl) }
    ▸ record { next = refl; struck = (λ is. cc, refl) }
    ▸ record { next = refl; struck = (λ is. cc, refl) }
    ▸ record { next = refl; struck = (λ is. cc, refl) }
    ▸ tt

follows : Follows plan_after_chunk journal_to_mark
unfolding computing Follows
follows =
    record { given = refl; session = grind (arith) }
    ▸ record { given = refl; session = refl }
    ▸ record { given = refl; session = refl }
    ▸ record { given = refl; session = refl }
    ▸ record { given = refl; session = refl }
    ▸ record { given = refl; session = grind (arith) }
    ▸ record { given = refl; session = refl }
    ▸ record { given = refl; session = refl }
    ▸ record { given = refl; session = grind (arith) }
    ▸ record { given = refl; session = refl }
    ▸ record { given = refl; session = refl }
    ▸ record { given = refl; session = refl }
    ▸ record { given = refl; session = grind (arith) }
    ▸ record { given = refl; session = refl }
    ▸ record { given = refl; session = refl }
    ▸ record { given = refl; session = refl }
    ▸ record { given = refl; session = grind (arith) }
    ▸ record { given = refl; session = refl }
    ▸ record { given = refl; session = refl }
    ▸ record { given = refl; session = refl }
    ▸ record { given = refl; session = grind (arith) }
    ▸ record { given = refl; session = refl }
    ▸ record { given = refl; session = refl }
    ▸ record { given = refl; session = refl }
    ▸ record { given = refl; session = refl }
    ▸ tt

seated : KeepsSessions journal_to_mark
unfolding computing KeepsSessions
seated =
    record { session = grind (arith) }
    ▸ record { session = refl }
    ▸ record { session = refl }
    ▸ record { session = refl }
    ▸ record { session = refl }
    ▸ record { session = grind (arith) }
    ▸ record { session = refl }
    ▸ record { session = refl }
    ▸ record { session = grind (arith) }
    ▸ record { session = refl }
    ▸ record { session = refl }
    ▸ record { session = refl }
    ▸ record { session = grind (arith) }
    ▸ record { session = refl }
    ▸ record { session = refl }
    ▸ record { session = refl }
    ▸ record { session = grind (arith) }
    ▸ record { session = refl }
    ▸ record { session = refl }
    ▸ record { session = refl }
    ▸ record { session = grind (arith) }
    ▸ record { session = refl }
    ▸ record { session = refl }
    ▸ record { session = refl }
    ▸ record { session = refl }
    ▸ tt

kept : IsKept plan_after_chunk journal_to_mark
kept = record { faithful = faithful; planned = planned; follows = follows; sessions = seated }

-- THE MARK

abbrev work_of : ToolPhase → Work
work_of (Migrating work) = work
work_of tool_phase = new_work plan_after_chunk 0 0 None

mark : IsMark plan_after_chunk journal_to_mark
unfolding computing
mark = record {
  work = work_of (moment plan_after_chunk journal_to_mark).tool.tool_phase;
  tool_phase = refl;
  going = refl;
  unaltered = refl;
  copied = refl;
  idle = refl;
  applied = refl;
}

-- *By the law the new table is the altered one when the RENAME comes.*
altered_by_then : FollowersAlter → IsAltered (migration_of old_schema new_table) (state_at plan_after_chunk journal_to_mark).tables
unfolding alterable
altered_by_then followers_alter = followers_alter plan_after_chunk alterable worded serial journal_to_mark kept mark
