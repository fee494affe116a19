-- One worked run of a plan, with all that the law of journals asks of it; so its history is serial by the law.
use Rattle.base_values.specs.declared.value.Value.TheVariants.{Null, Num, Text}
use Rattle.base_values.specs.declared.kind.Kind.TheVariants.{Int, VarChar}
use Rattle.std.proofs.Common.{pos, true, None, ◌≡◌, ◌≢◌, ◌≤◌, ℕ, false, [], ◌∷◌, Some, refl, sym, ap, ◌∙◌, inr, arith}
use Rattle.std.specs.Prelude.{count_by, codes}
use Rattle.std.specs.List.{AllByRecursion}
use Rattle.std.proofs.lemmas.Bool.{false≢true}
use Rattle.base_script.specs.declared.operator.OperatorWord.TheVariants as commanded
use Rattle.base_values.specs.declared.gho_schema.schema.Schema.{Schema}
use Rattle.table_store.specs.ClusteredKeys.{HasClusteredKey}
use Rattle.server_model.specs.Along.{Along}
use Rattle.server_model.specs.Answers.{ok}
use Rattle.server_model.specs.Entries.{is_cut}
use Rattle.server_model.specs.declared.answer.Answer.TheVariants as answers
use Rattle.server_model.specs.declared.entry.Asked.{Asked}
use Rattle.server_model.specs.declared.entry.Asked.TheVariants.{Cut}
use Rattle.tool_program.specs.JournalWords.Journals.{IsFaithful}
use Rattle.tool_program.specs.JournalWords.KeptPlans.{KeepsPlan}
use Rattle.tool_program.specs.JournalWords.Sessions.{KeepsSessions, NumbersSessions}
use Rattle.tool_program.specs.Programs.{Follows}
use Rattle.tool_program.specs.Orders.{ReplayOrder, IsReplay}
use Rattle.tool_program.specs.JournalWords.Histories.{history, is_alter}
use Rattle.tool_program.specs.JournalWords.Serials.{IsSerial}
use Rattle.base_values.specs.SchemaRules.Valid.{StoresDefault}
use Rattle.server_model.specs.LockedRows.Coverage.{IsWellFormedTable}
use Rattle.proof_journals.specs.Plans as plans
use Rattle.proof_journals.specs.Plans.{scene_of, KeepsAway, IsSerialPlan, IsPlanRun}
use Rattle.proof_journals.proofs.PlanJournals.{journals_are_serial, takes_lines}
use Rattle.proof_journals.proofs.Exchanging.{exchange_alters}
use Rattle.test_worked.proofs.Computing.{computing}
use Rattle.test_worked.proofs.Plans1.{plan_101, journal_101}

infixr 5 ◌▸◌
-- one turn, and those behind it
abbrev ◌▸◌ : {A B : Type 0} → A → B → A × B
first ▸ others = (first, others)

-- a wait is not done
waits_no_ok : (by : ℕ) → Some (answers.Waits by) ≡ Some ok → ⊥
waits_no_ok by same = cc

not_cut : (asked : Asked) → is_cut asked ≡ false → asked ≢ Cut
not_cut asked other same = absurd (false≢true (sym other ∙ ap is_cut same))

-- a table without rows is one
empty_well_formed : (schema : Schema) → HasClusteredKey schema → AllByRecursion (λ column. StoresDefault column column.default) schema.columns → IsWellFormedTable (record { schema = schema; rows = [] })
empty_well_formed schema keyed defaults = record { keyed = keyed; defaults = defaults; is_table = record { rows_fit = tt; ascends = tt; apart = tt } }

opening : IsSerialPlan plan_101
unfolding computing plans.client_names plans.client_tables plans.script_names
opening = record {
  tables = (
    record { keyed = record { some = grind (arith); not_null = (refl, tt) }; defaults = (tt, (refl, (refl, tt))); is_table = record { rows_fit = ((refl, (refl, (refl, tt))), tt); ascends = (tt, tt); apart = (tt, tt) } },
    (record { keyed = record { some = grind (arith); not_null = (refl, tt) }; defaults = (tt, tt); is_table = record { rows_fit = ((refl, tt), tt); ascends = (tt, tt); apart = (tt, tt) } }, tt),
  );
  scripts = (refl, (refl, (refl, tt)));
}

faithful : IsFaithful plan_101 journal_101
unfolding computing
faithful =
    record { sides = λ is. refl; answer = refl; missed = refl; draw = refl }
    ▸ record { sides = λ is. refl; answer = refl; missed = refl; draw = refl }
    ▸ record { sides = λ is. refl; answer = refl; missed = refl; draw = refl }
    ▸ record { sides = λ is. refl; answer = refl; missed = refl; draw = refl }
    ▸ record { sides = λ is. refl; answer = refl; missed = refl; draw = refl }
    ▸ record { sides = λ is. refl; answer = refl; missed = refl; draw = refl }
    ▸ record { sides = λ is. refl; answer = refl; missed = refl; draw = refl }
    ▸ record { sides = λ is. refl; answer = refl; missed = refl; draw = refl }
    ▸ record { sides = λ is. refl; answer = refl; missed = refl; draw = refl }
    ▸ record { sides = λ is. refl; answer = refl; missed = refl; draw = refl }
    ▸ record { sides = λ is. refl; answer = refl; missed = refl; draw = refl }
    ▸ record { sides = λ is. refl; answer = refl; missed = refl; draw = refl }
    ▸ record { sides = λ is. refl; answer = refl; missed = refl; draw = refl }
    ▸ record { sides = λ is. refl; answer = refl; missed = refl; draw = refl }
    ▸ record { sides = λ is. refl; answer = refl; missed = refl; draw = refl }
    ▸ record { sides = λ is. refl; answer = refl; missed = refl; draw = refl }
    ▸ record { sides = λ is. refl; answer = refl; missed = refl; draw = refl }
    ▸ record { sides = λ is. refl; answer = refl; missed = refl; draw = refl }
    ▸ record { sides = λ is. refl; answer = refl; missed = refl; draw = refl }
    ▸ record { sides = λ is. refl; answer = refl; missed = refl; draw = refl }
    ▸ record { sides = λ is. refl; answer = refl; missed = refl; draw = refl }
    ▸ record { sides = λ is. refl; answer = refl; missed = refl; draw = refl }
    ▸ record { sides = λ is. refl; answer = refl; missed = refl; draw = refl }
    ▸ record { sides = λ is. refl; answer = refl; missed = refl; draw = refl }
    ▸ record { sides = λ is. refl; answer = refl; missed = refl; draw = refl }
    ▸ record { sides = λ is. refl; answer = refl; missed = refl; draw = refl }
    ▸ record { sides = λ is. refl; answer = refl; missed = refl; draw = refl }
    ▸ record { sides = λ is. refl; answer = refl; missed = refl; draw = refl }
    ▸ record { sides = λ is. refl; answer = refl; missed = refl; draw = refl }
    ▸ record { sides = λ is. refl; answer = refl; missed = refl; draw = refl }
    ▸ record { sides = λ is. refl; answer = refl; missed = refl; draw = refl }
    ▸ record { sides = λ is. refl; answer = refl; missed = refl; draw = refl }
    ▸ record { sides = λ is. refl; answer = refl; missed = refl; draw = refl }
    ▸ record { sides = λ is. refl; answer = refl; missed = refl; draw = refl }
    ▸ record { sides = λ is. refl; answer = refl; missed = refl; draw = refl }
    ▸ record { sides = λ is. refl; answer = refl; missed = refl; draw = refl }
    ▸ record { sides = λ is. refl; answer = refl; missed = refl; draw = refl }
    ▸ record { sides = λ is. refl; answer = refl; missed = refl; draw = refl }
    ▸ record { sides = λ is. refl; answer = refl; missed = refl; draw = refl }
    ▸ record { sides = λ is. refl; answer = refl; missed = refl; draw = refl }
    ▸ record { sides = λ is. refl; answer = refl; missed = refl; draw = refl }
    ▸ record { sides = λ is. refl; answer = refl; missed = refl; draw = refl }
    ▸ record { sides = λ is. refl; answer = refl; missed = refl; draw = refl }
    ▸ record { sides = λ is. refl; answer = refl; missed = refl; draw = refl }
    ▸ record { sides = λ is. refl; answer = refl; missed = refl; draw = refl }
    ▸ record { sides = λ is. refl; answer = refl; missed = refl; draw = refl }
    ▸ record { sides = λ is. refl; answer = refl; missed = refl; draw = refl }
    ▸ record { sides = λ is. refl; answer = refl; missed = refl; draw = refl }
    ▸ record { sides = λ is. refl; answer = refl; missed = refl; draw = refl }
    ▸ record { sides = λ is. refl; answer = refl; missed = refl; draw = refl }
    ▸ tt

planned : KeepsPlan plan_101 journal_101
unfolding computing KeepsPlan
planned =
    record { next = refl; struck = (not_cut _ refl, refl) }
    ▸ record { next = refl; struck = (not_cut _ refl, refl) }
    ▸ record { next = refl; struck = (not_cut _ refl, refl) }
    ▸ record { next = refl; struck = (not_cut _ refl, refl) }
    ▸ record { next = refl; struck = (not_cut _ refl, refl) }
    ▸ record { next = (commanded.NoThrottle, refl, refl); struck = (not_cut _ refl, refl) }
    ▸ record { next = (commanded.Unpostpone, refl, refl); struck = (not_cut _ refl, refl) }
    ▸ record { next = ((commanded.ChunkSize 1), refl, refl); struck = (not_cut _ refl, refl) }
    ▸ record { next = (commanded.Wait, refl, refl); struck = (not_cut _ refl, refl) }
    ▸ record { next = (commanded.Wait, refl, refl); struck = (not_cut _ refl, refl) }
    ▸ record { next = (commanded.Wait, refl, refl); struck = (not_cut _ refl, refl) }
    ▸ record { next = (commanded.Wait, refl, refl); struck = (not_cut _ refl, refl) }
    ▸ record { next = refl; struck = (not_cut _ refl, refl) }
    ▸ record { next = refl; struck = (not_cut _ refl, refl) }
    ▸ record { next = refl; struck = (not_cut _ refl, refl) }
    ▸ record { next = refl; struck = (not_cut _ refl, refl) }
    ▸ record { next = refl; struck = (not_cut _ refl, refl) }
    ▸ record { next = refl; struck = (not_cut _ refl, refl) }
    ▸ record { next = refl; struck = (not_cut _ refl, refl) }
    ▸ record { next = refl; struck = (not_cut _ refl, refl) }
    ▸ record { next = refl; struck = (not_cut _ refl, refl) }
    ▸ record { next = refl; struck = (not_cut _ refl, refl) }
    ▸ record { next = refl; struck = (not_cut _ refl, refl) }
    ▸ record { next = refl; struck = (not_cut _ refl, refl) }
    ▸ record { next = (commanded.Wait, refl, refl); struck = (not_cut _ refl, refl) }
    ▸ record { next = (commanded.Wait, refl, refl); struck = (not_cut _ refl, refl) }
    ▸ record { next = (commanded.Wait, refl, refl); struck = (not_cut _ refl, refl) }
    ▸ record { next = (commanded.Wait, refl, refl); struck = (not_cut _ refl, refl) }
    ▸ record { next = refl; struck = (not_cut _ refl, refl) }
    ▸ record { next = refl; struck = (not_cut _ refl, refl) }
    ▸ record { next = refl; struck = (not_cut _ refl, refl) }
    ▸ record { next = refl; struck = (not_cut _ refl, refl) }
    ▸ record { next = refl; struck = (not_cut _ refl, refl) }
    ▸ record { next = refl; struck = (not_cut _ refl, refl) }
    ▸ record { next = refl; struck = (not_cut _ refl, refl) }
    ▸ record { next = refl; struck = (not_cut _ refl, refl) }
    ▸ record { next = refl; struck = (not_cut _ refl, refl) }
    ▸ record { next = refl; struck = (not_cut _ refl, refl) }
    ▸ record { next = refl; struck = (not_cut _ refl, refl) }
    ▸ record { next = refl; struck = (not_cut _ refl, refl) }
    ▸ record { next = refl; struck = (not_cut _ refl, refl) }
    ▸ record { next = refl; struck = (not_cut _ refl, refl) }
    ▸ record { next = refl; struck = (not_cut _ refl, refl) }
    ▸ record { next = refl; struck = (not_cut _ refl, refl) }
    ▸ record { next = refl; struck = (not_cut _ refl, refl) }
    ▸ record { next = refl; struck = (not_cut _ refl, refl) }
    ▸ record { next = refl; struck = (not_cut _ refl, refl) }
    ▸ record { next = refl; struck = (not_cut _ refl, refl) }
    ▸ record { next = refl; struck = (not_cut _ refl, refl) }
    ▸ record { next = refl; struck = (not_cut _ refl, refl) }
    ▸ tt

seated : KeepsSessions journal_101
unfolding computing KeepsSessions
seated =
    record { session = grind (arith) }
    ▸ record { session = refl }
    ▸ record { session = refl }
    ▸ record { session = refl }
    ▸ record { session = refl }
    ▸ record { session = refl }
    ▸ record { session = refl }
    ▸ record { session = refl }
    ▸ record { session = refl }
    ▸ record { session = refl }
    ▸ record { session = refl }
    ▸ record { session = refl }
    ▸ record { session = grind (arith) }
    ▸ record { session = refl }
    ▸ record { session = refl }
    ▸ record { session = refl }
    ▸ record { session = refl }
    ▸ record { session = refl }
    ▸ record { session = grind (arith) }
    ▸ record { session = grind (arith) }
    ▸ record { session = refl }
    ▸ record { session = refl }
    ▸ record { session = refl }
    ▸ record { session = refl }
    ▸ record { session = refl }
    ▸ record { session = refl }
    ▸ record { session = refl }
    ▸ record { session = refl }
    ▸ record { session = refl }
    ▸ record { session = refl }
    ▸ record { session = refl }
    ▸ record { session = refl }
    ▸ record { session = refl }
    ▸ record { session = refl }
    ▸ record { session = grind (arith) }
    ▸ record { session = refl }
    ▸ record { session = refl }
    ▸ record { session = refl }
    ▸ record { session = grind (arith) }
    ▸ record { session = refl }
    ▸ record { session = refl }
    ▸ record { session = refl }
    ▸ record { session = refl }
    ▸ record { session = refl }
    ▸ record { session = refl }
    ▸ record { session = refl }
    ▸ record { session = refl }
    ▸ record { session = refl }
    ▸ record { session = refl }
    ▸ record { session = refl }
    ▸ tt

away : Along (λ before entry. KeepsAway plan_101 before entry entry.actor) [] journal_101
unfolding computing plans.client_names plans.client_tables plans.script_names
away =
    record { asks = tt; idle = refl; rests = tt; exchanges = λ reported. tt }
    ▸ record { asks = refl; idle = refl; rests = refl; exchanges = λ reported. tt }
    ▸ record { asks = (refl, empty_well_formed _ (record { some = grind (arith); not_null = (refl, tt) }) (tt, (tt, (tt, tt)))); idle = refl; rests = refl; exchanges = λ reported. tt }
    ▸ record { asks = (refl, empty_well_formed _ (record { some = grind (arith); not_null = (refl, tt) }) (refl, (tt, (refl, (refl, tt))))); idle = refl; rests = refl; exchanges = λ reported. tt }
    ▸ record { asks = tt; idle = refl; rests = tt; exchanges = λ reported. tt }
    ▸ record { asks = tt; idle = tt; rests = tt; exchanges = λ reported. tt }
    ▸ record { asks = tt; idle = tt; rests = tt; exchanges = λ reported. tt }
    ▸ record { asks = tt; idle = tt; rests = tt; exchanges = λ reported. tt }
    ▸ record { asks = tt; idle = tt; rests = tt; exchanges = λ reported. tt }
    ▸ record { asks = tt; idle = tt; rests = tt; exchanges = λ reported. tt }
    ▸ record { asks = tt; idle = tt; rests = tt; exchanges = λ reported. tt }
    ▸ record { asks = tt; idle = tt; rests = tt; exchanges = λ reported. tt }
    ▸ tt
    ▸ tt
    ▸ tt
    ▸ tt
    ▸ tt
    ▸ record { asks = tt; idle = refl; rests = tt; exchanges = λ reported. tt }
    ▸ record { asks = tt; idle = refl; rests = tt; exchanges = λ reported. tt }
    ▸ record { asks = tt; idle = refl; rests = tt; exchanges = λ reported. tt }
    ▸ record { asks = tt; idle = refl; rests = tt; exchanges = λ reported. tt }
    ▸ record { asks = refl; idle = refl; rests = tt; exchanges = λ reported. tt }
    ▸ record { asks = tt; idle = refl; rests = tt; exchanges = λ reported. tt }
    ▸ record { asks = tt; idle = refl; rests = tt; exchanges = λ reported. tt }
    ▸ record { asks = tt; idle = tt; rests = tt; exchanges = λ reported. tt }
    ▸ record { asks = tt; idle = tt; rests = tt; exchanges = λ reported. tt }
    ▸ record { asks = tt; idle = tt; rests = tt; exchanges = λ reported. tt }
    ▸ record { asks = tt; idle = tt; rests = tt; exchanges = λ reported. tt }
    ▸ record { asks = refl; idle = refl; rests = tt; exchanges = λ reported. tt }
    ▸ record { asks = tt; idle = refl; rests = tt; exchanges = λ reported. tt }
    ▸ record { asks = tt; idle = refl; rests = tt; exchanges = λ reported. tt }
    ▸ record { asks = tt; idle = refl; rests = tt; exchanges = λ reported. tt }
    ▸ record { asks = refl; idle = refl; rests = tt; exchanges = λ reported. tt }
    ▸ record { asks = tt; idle = refl; rests = tt; exchanges = λ reported. tt }
    ▸ record { asks = (refl, empty_well_formed _ (record { some = grind (arith); not_null = (refl, tt) }) (tt, tt)); idle = refl; rests = refl; exchanges = λ reported. tt }
    ▸ record { asks = tt; idle = refl; rests = tt; exchanges = λ reported. tt }
    ▸ record { asks = refl; idle = refl; rests = tt; exchanges = λ reported. tt }
    ▸ record { asks = tt; idle = refl; rests = tt; exchanges = λ reported. tt }
    ▸ record { asks = inr (refl, refl); idle = refl; rests = refl; exchanges = λ reported. absurd (waits_no_ok _ reported) }
    ▸ record { asks = tt; idle = tt; rests = refl; exchanges = λ reported. absurd (waits_no_ok _ reported) }
    ▸ record { asks = tt; idle = tt; rests = refl; exchanges = λ reported. absurd (waits_no_ok _ reported) }
    ▸ record { asks = tt; idle = tt; rests = refl; exchanges = λ reported. absurd (waits_no_ok _ reported) }
    ▸ record { asks = tt; idle = tt; rests = refl; exchanges = λ reported. absurd (waits_no_ok _ reported) }
    ▸ record { asks = tt; idle = refl; rests = tt; exchanges = λ reported. tt }
    ▸ record { asks = refl; idle = refl; rests = refl; exchanges = λ reported. tt }
    ▸ record { asks = tt; idle = tt; rests = refl; exchanges = λ reported. absurd (waits_no_ok _ reported) }
    ▸ record { asks = tt; idle = refl; rests = tt; exchanges = λ reported. tt }
    ▸ record {
      asks = tt;
      idle = tt;
      rests = refl;
      exchanges = λ reported. exchange_alters (scene_of plan_101 []) _ _ refl (record {
        ghost = codes "_t_gho";
        kept = codes "_t_del";
        pairs_are = refl;
        ghost_other = refl;
        kept_other = refl;
        was = refl;
        stands = refl;
        made = refl;
        old = record { schema = record { name = codes "t"; columns = (record { name = codes "id"; kind = Int 1 false; nullable = false; default = None; auto = false } ∷ record { name = codes "m0"; kind = Int 4 false; nullable = true; default = (Some Null); auto = false } ∷ record { name = codes "v"; kind = Int 4 false; nullable = true; default = (Some Null); auto = false } ∷ []); uniques = (record { name = None; places = (0 ∷ []) } ∷ record { name = (Some (codes "u0")); places = (1 ∷ []) } ∷ []); indexes = []; comment = []; start = None }; rows = (Num (pos 5) ∷ Num (pos 2) ∷ Num (pos 6) ∷ []) ∷ (Num (pos 7) ∷ Num (pos 6) ∷ Null ∷ []) ∷ [] };
        new = record { schema = record { name = codes "_t_gho"; columns = (record { name = codes "b"; kind = VarChar 4; nullable = true; default = (Some (Text (codes "n"))); auto = false } ∷ record { name = codes "id"; kind = Int 1 false; nullable = false; default = None; auto = false } ∷ record { name = codes "m0"; kind = Int 4 false; nullable = true; default = (Some Null); auto = false } ∷ record { name = codes "v"; kind = Int 4 false; nullable = true; default = (Some Null); auto = false } ∷ []); uniques = (record { name = None; places = (1 ∷ []) } ∷ record { name = (Some (codes "u0")); places = (2 ∷ []) } ∷ []); indexes = []; comment = []; start = None }; rows = (Text (codes "n") ∷ Num (pos 5) ∷ Num (pos 2) ∷ Num (pos 6) ∷ []) ∷ (Text (codes "n") ∷ Num (pos 7) ∷ Num (pos 6) ∷ Null ∷ []) ∷ [] };
      });
    }
    ▸ record { asks = tt; idle = refl; rests = tt; exchanges = λ reported. tt }
    ▸ record { asks = refl; idle = refl; rests = refl; exchanges = λ reported. tt }
    ▸ tt

-- *The run is one of its plan*, and so its history is serial
pub run_101 : IsPlanRun plan_101 journal_101
run_101 = record { serial = opening; faithful = faithful; lines = takes_lines plan_101 journal_101 planned; seated = seated; away = away }

follows : Follows plan_101 journal_101
unfolding computing Follows
follows =
    record { given = refl; session = grind (arith) }
    ▸ record { given = refl; session = refl }
    ▸ record { given = refl; session = refl }
    ▸ record { given = refl; session = refl }
    ▸ record { given = refl; session = refl }
    ▸ record { given = refl; session = refl }
    ▸ record { given = refl; session = refl }
    ▸ record { given = refl; session = refl }
    ▸ record { given = refl; session = refl }
    ▸ record { given = refl; session = refl }
    ▸ record { given = refl; session = refl }
    ▸ record { given = refl; session = refl }
    ▸ record { given = refl; session = grind (arith) }
    ▸ record { given = refl; session = refl }
    ▸ record { given = refl; session = refl }
    ▸ record { given = refl; session = refl }
    ▸ record { given = refl; session = refl }
    ▸ record { given = refl; session = refl }
    ▸ record { given = refl; session = grind (arith) }
    ▸ record { given = refl; session = grind (arith) }
    ▸ record { given = refl; session = refl }
    ▸ record { given = refl; session = refl }
    ▸ record { given = refl; session = refl }
    ▸ record { given = refl; session = refl }
    ▸ record { given = refl; session = refl }
    ▸ record { given = refl; session = refl }
    ▸ record { given = refl; session = refl }
    ▸ record { given = refl; session = refl }
    ▸ record { given = refl; session = refl }
    ▸ record { given = refl; session = refl }
    ▸ record { given = refl; session = refl }
    ▸ record { given = refl; session = refl }
    ▸ record { given = refl; session = refl }
    ▸ record { given = refl; session = refl }
    ▸ record { given = refl; session = grind (arith) }
    ▸ record { given = refl; session = refl }
    ▸ record { given = refl; session = refl }
    ▸ record { given = refl; session = refl }
    ▸ record { given = refl; session = grind (arith) }
    ▸ record { given = refl; session = refl }
    ▸ record { given = refl; session = refl }
    ▸ record { given = refl; session = refl }
    ▸ record { given = refl; session = refl }
    ▸ record { given = refl; session = refl }
    ▸ record { given = refl; session = refl }
    ▸ record { given = refl; session = refl }
    ▸ record { given = refl; session = refl }
    ▸ record { given = refl; session = refl }
    ▸ record { given = refl; session = refl }
    ▸ record { given = refl; session = refl }
    ▸ tt

order : ReplayOrder plan_101 journal_101
unfolding computing ReplayOrder
order =
    refl
    ▸ refl
    ▸ refl
    ▸ refl
    ▸ refl
    ▸ refl
    ▸ refl
    ▸ refl
    ▸ refl
    ▸ refl
    ▸ refl
    ▸ refl
    ▸ refl
    ▸ refl
    ▸ refl
    ▸ refl
    ▸ refl
    ▸ refl
    ▸ refl
    ▸ refl
    ▸ refl
    ▸ refl
    ▸ refl
    ▸ refl
    ▸ refl
    ▸ refl
    ▸ refl
    ▸ refl
    ▸ refl
    ▸ refl
    ▸ refl
    ▸ refl
    ▸ refl
    ▸ refl
    ▸ refl
    ▸ refl
    ▸ refl
    ▸ refl
    ▸ refl
    ▸ refl
    ▸ refl
    ▸ refl
    ▸ refl
    ▸ refl
    ▸ refl
    ▸ refl
    ▸ refl
    ▸ refl
    ▸ refl
    ▸ refl
    ▸ tt

numbered : NumbersSessions journal_101
unfolding computing NumbersSessions
numbered =
    refl
    ▸ tt
    ▸ tt
    ▸ tt
    ▸ tt
    ▸ tt
    ▸ tt
    ▸ tt
    ▸ tt
    ▸ tt
    ▸ tt
    ▸ tt
    ▸ refl
    ▸ tt
    ▸ tt
    ▸ tt
    ▸ tt
    ▸ tt
    ▸ refl
    ▸ refl
    ▸ tt
    ▸ tt
    ▸ tt
    ▸ tt
    ▸ tt
    ▸ tt
    ▸ tt
    ▸ tt
    ▸ tt
    ▸ tt
    ▸ tt
    ▸ tt
    ▸ tt
    ▸ tt
    ▸ refl
    ▸ tt
    ▸ tt
    ▸ tt
    ▸ refl
    ▸ tt
    ▸ tt
    ▸ tt
    ▸ tt
    ▸ tt
    ▸ tt
    ▸ tt
    ▸ tt
    ▸ tt
    ▸ tt
    ▸ tt
    ▸ tt

-- *It is a replay of its plan*
replay_101 : IsReplay plan_101 journal_101
replay_101 = record { faithful = faithful; planned = planned; follows = follows; order = order; numbered = numbered }

once : count_by is_alter (history plan_101 journal_101) ≤ 1
unfolding computing
once = grind (arith)

serial_101 : IsSerial plan_101 journal_101
serial_101 = journals_are_serial plan_101 journal_101 run_101 once
