-- The entries of a faithful journal have the server's answers, heard or missed; and a serial history leads from tables to
-- tables, the log aside.
use Rattle.std.proofs.Common.{◌≡◌, ℕ, true, false, List, [], ◌∷◌, ◌++◌, Option, Some, None, refl, sym, ap, ◌∙◌}
use Rattle.base_script.specs.declared.actor.Side.{Side}
use Rattle.base_script.specs.declared.actor.Side.TheVariants.{Before, After}
use Rattle.server_model.specs.declared.session.Limits.{Limits}
use Rattle.server_model.specs.Along.{Along}
use Rattle.server_model.specs.declared.entry.Asked.{Asked}
use Rattle.server_model.specs.declared.entry.Asked.TheVariants.{Call, Poll, Command, Cut}
use Rattle.server_model.specs.declared.entry.Entry.{Entry}
use Rattle.server_model.specs.Entries.{is_cut}
use Rattle.server_model.specs.States.{State}
use Rattle.server_model.specs.PlainServer.{serves}
use Rattle.table_store.specs.Databases.{TableRows, Database, find_table, with_change}
use Rattle.proof_journals.specs.Scenes.{Scene, Stored, PlainItem, Txn, Alter, LeadsTo, SerialHistory}
use Rattle.server_model.specs.Alone.{alone}
use Rattle.proof_journals.specs.Turns.{scene_state, inner, answer_at, missed_at, drawn_side, drawn_at, IsReported}
use Rattle.server_model.specs.PlainServer.{drawn_in, given_at}
use Rattle.tool_program.specs.JournalWords.Journals.{opens, heard, missed, may_lose, inner_answer, IsAnswered}
use Rattle.std.proofs.lemmas.Bool.{false≢true}

heard_is : (side : Option Side) (state : State) (number : ℕ) (asked : Asked) → (is_cut asked ≡ true → side ≡ None) → heard side (given_at side asked (serves state number asked).answer) ≡ answer_at side (serves state number asked).answer
heard_is None state number (Call request) cuts = refl
heard_is None state number Poll cuts = refl
heard_is None state number (Command word) cuts = refl
heard_is None state number Cut cuts = refl
heard_is (Some Before) state number (Call request) cuts = refl
heard_is (Some Before) state number Poll cuts = refl
heard_is (Some Before) state number (Command word) cuts = refl
heard_is (Some Before) state number Cut cuts = refl
heard_is (Some After) state number (Call request) cuts = refl
heard_is (Some After) state number Poll cuts = refl
heard_is (Some After) state number (Command word) cuts = refl
heard_is (Some After) state number Cut cuts = refl

missed_is : (side : Option Side) (state : State) (number : ℕ) (asked : Asked) → (is_cut asked ≡ true → side ≡ None) → missed side (given_at side asked (serves state number asked).answer) ≡ missed_at side (serves state number asked).answer
missed_is None state number asked cuts = refl
missed_is (Some Before) state number asked cuts = refl
missed_is (Some After) state number (Call request) cuts = refl
missed_is (Some After) state number Poll cuts = refl
missed_is (Some After) state number (Command word) cuts = refl
missed_is (Some After) state number Cut cuts = absurd (none (cuts refl)) where
  none : Some After ≡ None → ⊥
  none same = cc

cut_sides : (entry : Entry) → (may_lose entry.asked ≡ false → entry.side ≡ None) → is_cut entry.asked ≡ true → entry.side ≡ None
cut_sides entry sides is = sides (by entry.asked is) where
  by : (asked : Asked) → is_cut asked ≡ true → may_lose asked ≡ false
  by Cut is = refl
  by (Call request) is = absurd (false≢true is)
  by Poll is = absurd (false≢true is)
  by (Command word) is = absurd (false≢true is)

-- the entry has the server's answer, heard or missed
pub reported_answer : (state : State) (entry : Entry) → IsAnswered state entry → entry.answer ≡ answer_at entry.side (inner state entry)
unfolding inner_answer
reported_answer state entry is = is.answer ∙ heard_is entry.side (opens entry state) entry.session entry.asked (cut_sides entry is.sides)

pub reported_missed : (state : State) (entry : Entry) → IsAnswered state entry → entry.missed ≡ missed_at entry.side (inner state entry)
unfolding inner_answer
reported_missed state entry is = is.missed ∙ missed_is entry.side (opens entry state) entry.session entry.asked (cut_sides entry is.sides)

drawn_is : (side : Option Side) (state : State) (number : ℕ) (asked : Asked) → drawn_in state number asked (given_at side asked (serves state number asked).answer) ≡ drawn_side side state number asked
drawn_is None state number (Call request) = refl
drawn_is None state number Poll = refl
drawn_is None state number (Command word) = refl
drawn_is None state number Cut = refl
drawn_is (Some Before) state number (Call request) = refl
drawn_is (Some Before) state number Poll = refl
drawn_is (Some Before) state number (Command word) = refl
drawn_is (Some Before) state number Cut = refl
drawn_is (Some After) state number (Call request) = refl
drawn_is (Some After) state number Poll = refl
drawn_is (Some After) state number (Command word) = refl
drawn_is (Some After) state number Cut = refl

pub reported_draw : (state : State) (entry : Entry) → IsAnswered state entry → entry.draw ≡ drawn_at entry.side state entry
unfolding inner_answer
reported_draw state entry is = is.draw ∙ drawn_is entry.side (opens entry state) entry.session entry.asked

-- a faithful journal's entries have them
pub faithful_reported : (limits : Limits) (scene : Scene) (before journal : List Entry) → Along (λ some entry. IsAnswered (scene_state limits scene some) entry) before journal → Along (IsReported limits scene) before journal
faithful_reported limits scene before [] all = tt
faithful_reported limits scene before (entry ∷ journal) all =
    (record { answer = reported_answer (scene_state limits scene before) entry all.0; missed = reported_missed (scene_state limits scene before) entry all.0; draw = reported_draw (scene_state limits scene before) entry all.0 }, faithful_reported limits scene (before ++ entry ∷ []) journal all.1)

-- SERIAL, OF TABLES ALONE: the ALTER by a function of databases

abbrev pub LeadsPlain : (Database → Option Database) → PlainItem → Database → Database → Type 0
LeadsPlain alter (Txn past) before after = (past.replies ≡ (alone before past.txn.lines).replies) × (after ≡ (alone before past.txn.lines).tables)
LeadsPlain alter Alter before after = alter before ≡ Some after

abbrev pub SerialPlain : (Database → Option Database) → Database → List PlainItem → Database → Type 0
SerialPlain alter before [] after = after ≡ before
SerialPlain alter before (item ∷ items) after = (between : Database) × LeadsPlain alter item before between × SerialPlain alter between items after

-- the function alters the migrated table as the scene says
abbrev pub AltersAs : Scene → (Database → Option Database) → Type 0
AltersAs scene alter = (before : Database) (old new : TableRows) → find_table scene.migrated before ≡ Some old → scene.altered old ≡ Some new → alter before ≡ Some (with_change scene.migrated (λ table. new) before)

leads_plain : (scene : Scene) (alter : Database → Option Database) → AltersAs scene alter → (item : PlainItem) (before after : Stored) → LeadsTo scene item before after → LeadsPlain alter item before.tables after.tables
leads_plain scene alter so (Txn past) before after leads = (leads.0, leads.1)
leads_plain scene alter so Alter before after leads = so before.tables leads.1.old leads.1.new leads.1.was leads.1.made ∙ ap (λ (d : Database). let o : Option Database = Some d in o) (sym leads.1.is)

pub serial_plain : (scene : Scene) (alter : Database → Option Database) → AltersAs scene alter → (before : Stored) (items : List PlainItem) (after : Stored) → SerialHistory scene before items after → SerialPlain alter before.tables items after.tables
serial_plain scene alter so before [] after serial = ap (λ (s : Stored). s.tables) serial
serial_plain scene alter so before (item ∷ items) after serial =
    (serial.0.tables, leads_plain scene alter so item before serial.0 serial.1, serial_plain scene alter so serial.0 items after serial.2)
