-- What the lines of a journal that is kept tell of clients is serial.
use Rattle.std.proofs.Common.{◌≡◌, ◌≢◌, ℕ, ◌||◌, Bool, true, false, not, cond, List, [], ◌∷◌, ◌++◌, map, Option, Some, None, refl, sym, ap, ◌∙◌, subst, ◌⊎◌, inl, inr, append_assoc}
use Rattle.std.proofs.lemmas.List.{map-append}
use Rattle.table_store.specs.Databases.{Database}
use Rattle.base_script.specs.declared.actor.Actor.{Actor}
use Rattle.base_script.specs.declared.actor.Actor.TheVariants.{Op, Insp, Copy, Apply, Lock, Ren, Client}
use Rattle.base_script.specs.declared.actor.Side.{Side}
use Rattle.base_script.specs.declared.actor.Side.TheVariants.{Before, After}
use Rattle.base_script.specs.declared.script.ScriptLine.{ScriptLine}
use Rattle.base_script.specs.declared.script.ScriptWord.{ScriptWord}
use Rattle.server_model.specs.declared.transaction.Mark.{Mark}
use Rattle.server_model.specs.declared.transaction.Mark.TheVariants as marks
use Rattle.server_model.specs.declared.transaction.Reply.{Reply}
use Rattle.server_model.specs.declared.transaction.TxnEnd.{TxnEnd}
use Rattle.server_model.specs.declared.transaction.TxnEnd.TheVariants as ends
use Rattle.server_model.specs.declared.answer.Answer.{Answer}
use Rattle.server_model.specs.declared.answer.Answer.TheVariants as answers
use Rattle.server_model.specs.declared.entry.Asked.{Asked}
use Rattle.server_model.specs.declared.entry.Asked.TheVariants.{Call, Poll, Command, Cut}
use Rattle.server_model.specs.declared.entry.Entry.{Entry}
use Rattle.server_model.specs.Along.{Along, Along-keeps, gathered, gathered-more}
use Rattle.server_model.specs.Entries.{is_client}
use Rattle.server_model.specs.PlainServer.{drawn_in, given_at, serves}
use Rattle.server_model.specs.States.{State}
use Rattle.plan_data.specs.PlanData.{PlanData}
use Rattle.tool_program.specs.JournalWords.Clients.{Became, Nothing, Waits, Marked, Broken, Reached, became_in, client_at, is_inside, ends_with, lines_drawn, number_of, with_draw, with_line, with_reply, word_numbered}
use Rattle.tool_program.specs.JournalWords.Histories.{HistoryItem, Txn, Past, adds, breaks, client_ends, ends_so, entry_adds, history, line_ends}
use Rattle.tool_program.specs.JournalWords.Journals.{IsAnswered, inner_answer, missed, opens, state_at}
use Rattle.tool_program.specs.JournalWords.Serials.{IsSerial, Leads, Serial, tables_left}
use Rattle.proof_journals.specs.Machine.Scripts.{ScriptsFit}
use Rattle.run_audit.specs.declared.line.LineAsked.{LineAsked}
use Rattle.run_audit.specs.declared.line.LineAsked.TheVariants as asks
use Rattle.run_audit.specs.declared.line.LineAnswer.{LineAnswer}
use Rattle.run_audit.specs.declared.line.LineAnswer.TheVariants as line_answers
use Rattle.run_audit.specs.declared.line.TraceLine.{TraceLine}
use Rattle.run_audit.specs.Audits.{Judged, item_of, first_other, judged, judged_in, judged_of, opening_tables, reply_turns, straight_lines}
use Rattle.run_audit.specs.Lines.{asked_of, drawn_shown, line_answer, line_of, lines_of, printed_table}
use Rattle.run_audit.specs.Rules.{became_of_line, is_astray, was_lost}
use Rattle.proof_audit.proofs.Clients.{IsClientTurn, IsClients, became_side, before_alike, heard_alike, heard_shown, request_not_cut, side_alike}
use Rattle.proof_audit.proofs.Judging.{serial_is_judged}
use Rattle.proof_audit.proofs.Losing.{leads_to_one, refused_leads}
use Rattle.proof_audit.proofs.Printing.{no_other}
use Rattle.proof_audit.specs.Laws.{WholesAreSerial, LinesAreSerial, MarksAgree, RefusalsKeepTables}
use Rattle.proof_audit.proofs.Kept.{client_turn_next, tell_clients}
use Rattle.proof_audit.proofs.Rules.{keep_rules}
use Rattle.proof_audit.proofs.Wholes.{IsTurn, turn_next, whole_before}
use Rattle.proof_audit.specs.Wholes.{IsWhole}

-- ---- serial histories

serial_split : (plan : PlanData) (a b c : Database) (xs ys : List HistoryItem) → Serial plan a xs b → Serial plan a (xs ++ ys) c → Serial plan b ys c
serial_split plan a b c [] ys is more = subst (λ (tables : Database). Serial plan tables ys c) (sym is) more
serial_split plan a b c (item ∷ xs) ys is more =
    let between : is.0 ≡ more.0 = leads_to_one plan item a is.0 more.0 is.1 more.1 in
    serial_split plan more.0 b c xs ys (subst (λ (tables : Database). Serial plan tables xs b) between is.2) more.2

serial_join : (plan : PlanData) (a b c : Database) (xs ys : List HistoryItem) → Serial plan a xs b → Serial plan b ys c → Serial plan a (xs ++ ys) c
serial_join plan a b c [] ys is later = subst (λ (tables : Database). Serial plan tables ys c) is later
serial_join plan a b c (item ∷ xs) ys is later = (is.0, is.1, serial_join plan is.0 b c xs ys is.2 later)

-- ---- what a client's line ends

ends_items : (turns : List ℕ) (number : ℕ) (client : Reached) (line : ScriptLine) (mark : Mark) (reply : Option Reply) (ended : Option TxnEnd) → map item_of (judged_of turns (ends_so number client line mark reply ended)) ≡ ends_so number client line mark reply ended
ends_items turns number client line mark reply None = refl
ends_items turns number client line mark reply (Some ended) = refl

line_items : (turns : List ℕ) (number : ℕ) (client : Reached) (mark : Mark) (reply : Option Reply) (left : List ScriptLine) → map item_of (judged_of turns (line_ends number client mark reply left)) ≡ line_ends number client mark reply left
line_items turns number client mark reply [] = refl
line_items turns number client mark reply (line ∷ lines) = ends_items turns number client line mark reply (ends_with (is_inside client.lines) line.word mark)

break_items : (turns : List ℕ) (number : ℕ) (client : Reached) (b : Bool) → map item_of (judged_of turns (breaks number client b)) ≡ breaks number client b
break_items turns number client true = refl
break_items turns number client false = refl

client_items : (turns : List ℕ) (number : ℕ) (client : Reached) (became : Became) → map item_of (judged_of turns (client_ends number client became)) ≡ client_ends number client became
client_items turns number client (Marked mark reply) = line_items turns number client mark reply client.left
client_items turns number client Broken = break_items turns number client (is_inside client.lines)
client_items turns number client Nothing = refl
client_items turns number client Waits = refl

-- ---- what becomes of a client's line

lost_kind : (waits : Bool) (kind : LineAsked) → kind ≢ asks.Cut → (became_of_line waits kind line_answers.LostWaited ≡ Marked (marks.Lost Before) None) × (became_of_line waits kind line_answers.LostRefused ≡ Marked (marks.Lost Before) None) × (became_of_line waits kind line_answers.LostDone ≡ Marked (marks.Lost After) None)
lost_kind waits asks.Cut other = absurd (other refl)
lost_kind waits asks.Call other = (refl, refl, refl)
lost_kind waits asks.Rename other = (refl, refl, refl)
lost_kind waits asks.Poll other = (refl, refl, refl)
lost_kind waits asks.Word other = (refl, refl, refl)

-- a call that was refused and then lost: the line says that it wasn't done, the journal that it was
record IsRefusedLoss (said became : Became) (side : Option Side) (missed : Option Answer) : Type 0 where
  pub number : ℕ
  pub column : Option ℕ
  pub at : side ≡ Some After
  pub refused : missed ≡ Some (answers.Refused number column)
  pub said_is : said ≡ Marked (marks.Lost Before) None
  pub became_is : became ≡ Marked (marks.Lost After) None

-- the line says what became of it, and shows its number
abbrev IsAlike : Option ℕ → Became → Became → Option Side → Answer → Option Answer → Type 0
IsAlike draw said became side answer missed = (said ≡ became) × (drawn_shown draw (line_answer true side answer missed) ≡ draw)

shown_waited : (draw : Option ℕ) → drawn_shown draw line_answers.LostWaited ≡ draw
shown_waited None = refl
shown_waited (Some number) = refl

shown_done : (draw : Option ℕ) → drawn_shown draw line_answers.LostDone ≡ draw
shown_done None = refl
shown_done (Some number) = refl

shown_none : (draw : Option ℕ) (said : LineAnswer) → draw ≡ None → drawn_shown draw said ≡ draw
shown_none draw said none = subst (λ (one : Option ℕ). drawn_shown one said ≡ one) (sym none) refl

call_so : (draw : Option ℕ) (client : Reached) (kind : LineAsked) (side : Option Side) (answer : Answer) (missed : Option Answer) → kind ≢ asks.Cut → (side ≡ None → IsClients answer) → (side ≡ Some Before → answer ≡ answers.Lost) → (side ≡ Some After → missed ≢ None)
    → ((waited : ℕ) → side ≡ Some After → missed ≡ Some (answers.TimedOut waited) → draw ≡ None)
    → IsAlike draw (became_of_line client.waits kind (line_answer true side answer missed)) (became_side side answer missed) side answer missed ⊎ IsRefusedLoss (became_of_line client.waits kind (line_answer true side answer missed)) (became_side side answer missed) side missed
call_so draw client kind None answer missed other heard lost some over = inl (heard_alike client.waits answer kind other (heard refl), heard_shown draw answer)
call_so draw client kind (Some Before) answer missed other heard lost some over = inl (before_alike client.waits answer missed kind other (lost refl), heard_shown draw answer)
call_so draw client kind (Some After) answer None other heard lost some over = absurd (some refl refl)
call_so draw client kind (Some After) answer (Some (answers.Refused number column)) other heard lost some over =
    inr (record { number = number; column = column; at = refl; refused = refl; said_is = (lost_kind client.waits kind other).1; became_is = refl })
call_so draw client kind (Some After) answer (Some (answers.Waits by)) other heard lost some over = inl ((lost_kind client.waits kind other).0, shown_waited draw)
call_so draw client kind (Some After) answer (Some (answers.TimedOut waited)) other heard lost some over = inl ((lost_kind client.waits kind other).1, shown_none draw line_answers.LostRefused (over waited refl refl))
call_so draw client kind (Some After) answer (Some missed) other heard lost some over = inl ((lost_kind client.waits kind other).2, shown_done draw)

-- the same of what the journal says
as_asked : (draw : Option ℕ) (client : Reached) (asked : Asked) (side : Option Side) (answer : Answer) (missed : Option Answer) (said : Became) → asked ≢ Cut → IsAlike draw said (became_side side answer missed) side answer missed ⊎ IsRefusedLoss said (became_side side answer missed) side missed
    → IsAlike draw said (became_in client.waits asked side answer missed) side answer missed ⊎ IsRefusedLoss said (became_in client.waits asked side answer missed) side missed
as_asked draw client asked side answer missed said uncut is =
    subst (λ (b : Became). IsAlike draw said b side answer missed ⊎ IsRefusedLoss said b side missed) (side_alike client asked side answer missed uncut) is

turn_so : (draw : Option ℕ) (client : Reached) (asked : Asked) (side : Option Side) (answer : Answer) (missed : Option Answer) → (asked ≢ Cut → side ≡ None → IsClients answer) → (side ≡ Some Before → answer ≡ answers.Lost) → (asked ≢ Cut → side ≡ Some After → missed ≢ None)
    → ((waited : ℕ) → side ≡ Some After → missed ≡ Some (answers.TimedOut waited) → draw ≡ None) → (asked ≡ Cut → draw ≡ None)
    → IsAlike draw (became_of_line client.waits (asked_of asked) (line_answer true side answer missed)) (became_in client.waits asked side answer missed) side answer missed
    ⊎ IsRefusedLoss (became_of_line client.waits (asked_of asked) (line_answer true side answer missed)) (became_in client.waits asked side answer missed) side missed
turn_so draw client Cut side answer missed heard lost some over uncut = inl (refl, shown_none draw (line_answer true side answer missed) (uncut refl))
turn_so draw client (Call request) side answer missed heard lost some over uncut =
    as_asked draw client (Call request) side answer missed (became_of_line client.waits (asked_of (Call request)) (line_answer true side answer missed)) (λ is. absurd cc)
    (call_so draw client (asked_of (Call request)) side answer missed (request_not_cut request) (heard (λ is. absurd cc)) lost (some (λ is. absurd cc)) over)
turn_so draw client Poll side answer missed heard lost some over uncut =
    as_asked draw client Poll side answer missed (became_of_line client.waits asks.Poll (line_answer true side answer missed)) (λ is. absurd cc)
    (call_so draw client asks.Poll side answer missed (λ is. absurd cc) (heard (λ is. absurd cc)) lost (some (λ is. absurd cc)) over)
turn_so draw client (Command word) side answer missed heard lost some over uncut =
    as_asked draw client (Command word) side answer missed (became_of_line client.waits asks.Word (line_answer true side answer missed)) (λ is. absurd cc)
    (call_so draw client asks.Word side answer missed (λ is. absurd cc) (heard (λ is. absurd cc)) lost (some (λ is. absurd cc)) over)

-- none is shown of a call that was refused and lost
none_shown : (draw : Option ℕ) (answer : Answer) (number : ℕ) (column : Option ℕ) → drawn_shown draw (line_answer true (Some After) answer (Some (answers.Refused number column))) ≡ None
none_shown None answer number column = refl
none_shown (Some drawn) answer number column = refl

-- what was missed of a call is there
missed_some : (state : State) (entry : Entry) → IsAnswered state entry → entry.asked ≢ Cut → entry.side ≡ Some After → entry.missed ≢ None
unfolding inner_answer
missed_some state entry is other at none = by entry.asked refl where
  said : Answer
  said = (serves (opens entry state) entry.session entry.asked).answer

  whole : None ≡ given_at (Some After) entry.asked said
  whole = sym none ∙ is.missed ∙ ap (λ (side : Option Side). missed side (given_at side entry.asked said)) at

  by : (asked : Asked) → entry.asked ≡ asked → ⊥
  by Cut same = other same
  by (Call request) same = let some : None ≡ Some said = whole ∙ ap (λ (asked : Asked). given_at (Some After) asked said) same in absurd (cc some)
  by Poll same = let some : None ≡ Some said = whole ∙ ap (λ (asked : Asked). given_at (Some After) asked said) same in absurd (cc some)
  by (Command word) same = let some : None ≡ Some said = whole ∙ ap (λ (asked : Asked). given_at (Some After) asked said) same in absurd (cc some)

-- nothing is drawn where the wait was over
over_undrawn : (state : State) (entry : Entry) → IsAnswered state entry → (waited : ℕ) → entry.side ≡ Some After → entry.missed ≡ Some (answers.TimedOut waited) → entry.draw ≡ None
over_undrawn state entry is waited at over =
    is.draw ∙ ap (drawn_in (opens entry state) entry.session entry.asked) (sym (ap (λ (side : Option Side). missed side (inner_answer state entry)) at) ∙ sym is.missed ∙ over)

-- ---- one turn

-- the transaction that a lost line ends
abbrev lost_past : ℕ → Reached → ScriptWord → Side → Past
lost_past number client word side = record { client = number; number = number_of client; txn = record { lines = with_line client word (marks.Lost side); ended = ends.Lost }; replies = with_reply client None }

refused_line : (plan : PlanData) (number : ℕ) (client : Reached) (drawn word : ScriptWord) (tables after : Database) → after ≡ tables → Serial plan tables (Txn (lost_past number client drawn After) ∷ []) after → Serial plan tables (Txn (lost_past number client word Before) ∷ []) after
refused_line plan number client drawn word tables after same is =
    let between : is.0 ≡ tables = sym is.2 ∙ same in
    let one : Past = lost_past number client drawn After in
    let other : Past = lost_past number client word Before in
    (tables, refused_leads plan one other tables client.lines drawn word refl refl refl (subst (λ (d : Database). Leads plan (Txn one) tables d) between is.1), same)

refused_items : (plan : PlanData) (number : ℕ) (client : Reached) (left : List ScriptLine) (tables after : Database) → after ≡ tables → Serial plan tables (line_ends number client (marks.Lost After) None left) after
    → Serial plan tables (line_ends number client (marks.Lost Before) None left) after
refused_items plan number client [] tables after same is = is
refused_items plan number client (line ∷ lines) tables after same is = refused_line plan number client line.word line.word tables after same is

-- whether its line drew, or not
drawn_items : (plan : PlanData) (number : ℕ) (draw : Option ℕ) (client : Reached) (tables after : Database) → after ≡ tables → Serial plan tables (line_ends number (with_draw draw client) (marks.Lost After) None (with_draw draw client).left) after
    → Serial plan tables (line_ends number client (marks.Lost Before) None client.left) after
drawn_items plan number None client tables after same is = refused_items plan number client client.left tables after same is
drawn_items plan number (Some drawn) client tables after same is = by client.left is where
  by : (left : List ScriptLine) → Serial plan tables (line_ends number (with_draw (Some drawn) client) (marks.Lost After) None (lines_drawn drawn left)) after → Serial plan tables (line_ends number client (marks.Lost Before) None left) after
  by [] is = is
  by (line ∷ lines) is = refused_line plan number client (word_numbered (Some drawn) line.word) line.word tables after same is

client_serial : (plan : PlanData) (before : List Entry) (entry : Entry) (c : ℕ) → ScriptsFit plan → RefusalsKeepTables plan → IsWhole plan (before ++ entry ∷ []) → entry.actor ≡ Client c
    → Serial plan (tables_left plan (state_at plan before).tables) (entry_adds plan before entry) (tables_left plan (state_at plan (before ++ entry ∷ [])).tables)
    → Serial plan (tables_left plan (state_at plan before).tables) (map item_of (judged_in plan (lines_of before) (line_of entry) entry.actor)) (tables_left plan (state_at plan (before ++ entry ∷ [])).tables)
client_serial plan before entry c fit keep kept same is =
    by (turn_so entry.draw client entry.asked entry.side entry.answer entry.missed turn.heard turn.lost (missed_some (state_at plan before) entry run.answered) (over_undrawn (state_at plan before) entry run.answered) turn.uncut) where
      client : Reached
      client = client_at plan before c

      run : IsTurn plan before entry
      run = turn_next plan before entry [] kept

      turn : IsClientTurn plan before entry c
      turn = client_turn_next plan before entry c fit kept same

      turns : List ℕ
      turns = reply_turns plan (lines_of before ++ line_of entry ∷ []) c

      now : Database
      now = tables_left plan (state_at plan before).tables

      later : Database
      later = tables_left plan (state_at plan (before ++ entry ∷ [])).tables

      said : Became
      said = became_of_line client.waits (asked_of entry.asked) (line_answer true entry.side entry.answer entry.missed)

      became : Became
      became = became_in client.waits entry.asked entry.side entry.answer entry.missed

      -- with the number that its line drew; and that the trace's line shows
      drawn : Reached
      drawn = with_draw entry.draw client

      shown : Reached → Bool → Reached
      shown r b = with_draw (drawn_shown entry.draw (line_answer b entry.side entry.answer entry.missed)) r

      judged_is : map item_of (judged_in plan (lines_of before) (line_of entry) entry.actor) ≡ client_ends c (shown client true) said
      judged_is =
          ap (λ (a : Actor). map item_of (judged_in plan (lines_of before) (line_of entry) a)) same
          ∙ ap (λ (r : Reached). map item_of (cond r.is_lost [] (judged_of turns (client_ends c (shown r (is_client entry.actor)) (became_of_line r.waits (asked_of entry.asked) (line_answer (is_client entry.actor) entry.side entry.answer entry.missed)))))) (tell_clients plan before c fit (whole_before plan before (entry ∷ []) kept))
          ∙ ap (λ (b : Bool). map item_of (cond b [] (judged_of turns (client_ends c (shown client (is_client entry.actor)) (became_of_line client.waits (asked_of entry.asked) (line_answer (is_client entry.actor) entry.side entry.answer entry.missed)))))) turn.lives
          ∙ ap (λ (b : Bool). map item_of (judged_of turns (client_ends c (shown client b) (became_of_line client.waits (asked_of entry.asked) (line_answer b entry.side entry.answer entry.missed))))) (ap is_client same)
          ∙ client_items turns c (shown client true) said

      adds_is : entry_adds plan before entry ≡ client_ends c drawn became
      adds_is = ap (adds plan before entry) same

      added : Serial plan now (client_ends c drawn became) later
      added = subst (λ (items : List HistoryItem). Serial plan now items later) adds_is is

      loss_shown : IsRefusedLoss said became entry.side entry.missed → drawn_shown entry.draw (line_answer true entry.side entry.answer entry.missed) ≡ None
      loss_shown loss =
          ap (λ (side : Option Side). drawn_shown entry.draw (line_answer true side entry.answer entry.missed)) loss.at
          ∙ ap (λ (one : Option Answer). drawn_shown entry.draw (line_answer true (Some After) entry.answer one)) loss.refused
          ∙ none_shown entry.draw entry.answer loss.number loss.column

      Goal : Type 0
      Goal = Serial plan now (map item_of (judged_in plan (lines_of before) (line_of entry) entry.actor)) later

      by : IsAlike entry.draw said became entry.side entry.answer entry.missed ⊎ IsRefusedLoss said became entry.side entry.missed → Goal
      by (inl alike) = subst (λ (items : List HistoryItem). Serial plan now items later) (sym (judged_is ∙ ap (λ (draw : Option ℕ). client_ends c (with_draw draw client) said) alike.1 ∙ ap (client_ends c drawn) alike.0)) added
      by (inr loss) =
          subst (λ (items : List HistoryItem). Serial plan now items later)
          (sym (judged_is ∙ ap (λ (draw : Option ℕ). client_ends c (with_draw draw client) said) (loss_shown loss) ∙ ap (client_ends c client) loss.said_is))
          (drawn_items plan c entry.draw client now later (ap (tables_left plan) (keep before entry loss.number loss.column kept loss.at loss.refused))
          (subst (λ (b : Became). Serial plan now (client_ends c drawn b) later) loss.became_is added))

one_serial : (plan : PlanData) (before : List Entry) (entry : Entry) → ScriptsFit plan → MarksAgree plan → RefusalsKeepTables plan → IsWhole plan (before ++ entry ∷ [])
    → Serial plan (tables_left plan (state_at plan before).tables) (entry_adds plan before entry) (tables_left plan (state_at plan (before ++ entry ∷ [])).tables)
    → Serial plan (tables_left plan (state_at plan before).tables) (map item_of (judged_in plan (lines_of before) (line_of entry) entry.actor)) (tables_left plan (state_at plan (before ++ entry ∷ [])).tables)
one_serial plan before entry fit marks keep kept is = by entry.actor refl where
  tool : is_client entry.actor ≡ false → Serial plan (tables_left plan (state_at plan before).tables) (map item_of (judged_in plan (lines_of before) (line_of entry) entry.actor)) (tables_left plan (state_at plan (before ++ entry ∷ [])).tables)
  tool not_client = subst (λ (items : List HistoryItem). Serial plan (tables_left plan (state_at plan before).tables) items (tables_left plan (state_at plan (before ++ entry ∷ [])).tables)) (sym (marks before entry kept not_client)) is

  by : (actor : Actor) → entry.actor ≡ actor → Serial plan (tables_left plan (state_at plan before).tables) (map item_of (judged_in plan (lines_of before) (line_of entry) entry.actor)) (tables_left plan (state_at plan (before ++ entry ∷ [])).tables)
  by (Client c) same = client_serial plan before entry c fit keep kept same is
  by Op same = tool (ap is_client same)
  by Insp same = tool (ap is_client same)
  by Copy same = tool (ap is_client same)
  by Apply same = tool (ap is_client same)
  by Lock same = tool (ap is_client same)
  by Ren same = tool (ap is_client same)

-- ---- all turns

not_second : (a b : Bool) → not (a || b) ≡ true → b ≡ false
not_second true b is = absurd cc
not_second false true is = absurd cc
not_second false false is = refl

straight_all : (plan : PlanData) (before lines : List TraceLine) → Along (λ some line. is_astray plan some line.asked line.actor ≡ false) before lines → straight_lines plan before lines ≡ lines
unfolding straight_lines
straight_all plan before [] all = refl
straight_all plan before (line ∷ lines) all = rw all.0 (ap (λ (rest : List TraceLine). line ∷ rest) (straight_all plan (before ++ line ∷ []) lines all.1))

lines_straight : (plan : PlanData) (before journal : List Entry) → ScriptsFit plan → IsWhole plan (before ++ journal) → Along (λ some line. is_astray plan some line.asked line.actor ≡ false) (lines_of before) (lines_of journal)
lines_straight plan before [] fit kept = tt
lines_straight plan before (entry ∷ journal) fit kept = (
  not_second (was_lost plan (lines_of before) entry.actor) (is_astray plan (lines_of before) (asked_of entry.asked) entry.actor) (keep_rules plan before entry journal fit kept).script,
  subst (λ (some : List TraceLine). Along (λ some line. is_astray plan some line.asked line.actor ≡ false) some (lines_of journal)) (map-append line_of before (entry ∷ []))
      (lines_straight plan (before ++ entry ∷ []) journal fit (subst (IsWhole plan) (sym (append_assoc before (entry ∷ []) journal)) kept)),
)

abbrev added_by : PlanData → List TraceLine → TraceLine → List Judged
added_by plan before line = judged_in plan before line line.actor

judged_all : (plan : PlanData) (journal : List Entry) → ScriptsFit plan → IsWhole plan journal → judged plan (lines_of journal) ≡ gathered (added_by plan) [] (lines_of journal)
unfolding judged
judged_all plan journal fit kept = ap (gathered (added_by plan) []) (straight_all plan [] (lines_of journal) (lines_straight plan [] journal fit kept))

judged_more : (plan : PlanData) (before : List Entry) (entry : Entry) → ScriptsFit plan → IsWhole plan (before ++ entry ∷ []) → judged plan (lines_of (before ++ entry ∷ [])) ≡ judged plan (lines_of before) ++ judged_in plan (lines_of before) (line_of entry) entry.actor
judged_more plan before entry fit kept =
    judged_all plan (before ++ entry ∷ []) fit kept
    ∙ ap (gathered (added_by plan) []) (map-append line_of before (entry ∷ []))
    ∙ gathered-more (added_by plan) [] (lines_of before) (line_of entry)
    ∙ ap (λ (items : List Judged). items ++ judged_in plan (lines_of before) (line_of entry) entry.actor) (sym (judged_all plan before fit (whole_before plan before (entry ∷ []) kept)))

pub whole_prefixes : (plan : PlanData) (before journal : List Entry) → IsWhole plan (before ++ journal) → Along (λ some entry. IsWhole plan (some ++ entry ∷ [])) before journal
whole_prefixes plan before [] kept = tt
whole_prefixes plan before (entry ∷ journal) kept =
    let regrouped : IsWhole plan ((before ++ entry ∷ []) ++ journal) = subst (IsWhole plan) (sym (append_assoc before (entry ∷ []) journal)) kept in
    (whole_before plan (before ++ entry ∷ []) journal regrouped, whole_prefixes plan (before ++ entry ∷ []) journal regrouped)

abbrev IsJudged : PlanData → List Entry → Type 0
IsJudged plan journal = Serial plan (opening_tables plan) (map item_of (judged plan (lines_of journal))) (tables_left plan (state_at plan journal).tables)

judged_begins : (plan : PlanData) → IsSerial plan [] → IsJudged plan []
unfolding judged straight_lines history
judged_begins plan is = is.leads

judged_step : (plan : PlanData) (before : List Entry) (entry : Entry) → ScriptsFit plan → WholesAreSerial plan → MarksAgree plan → RefusalsKeepTables plan → IsWhole plan (before ++ entry ∷ []) → IsJudged plan before → IsJudged plan (before ++ entry ∷ [])
unfolding history
judged_step plan before entry fit serial marks keep kept is =
    let now : Database = tables_left plan (state_at plan before).tables in
    let later : Database = tables_left plan (state_at plan (before ++ entry ∷ [])).tables in
    let front : IsSerial plan before = serial before (whole_before plan before (entry ∷ []) kept) in
    let whole : IsSerial plan (before ++ entry ∷ []) = serial (before ++ entry ∷ []) kept in
    let one : Serial plan now (entry_adds plan before entry) later =
    serial_split plan (opening_tables plan) now later (history plan before) (entry_adds plan before entry) front.leads
    (subst (λ (items : List HistoryItem). Serial plan (opening_tables plan) items later) (gathered-more (entry_adds plan) [] before entry) whole.leads) in
    subst (λ (items : List HistoryItem). Serial plan (opening_tables plan) items later)
    (sym (ap (map item_of) (judged_more plan before entry fit kept) ∙ map-append item_of (judged plan (lines_of before)) (judged_in plan (lines_of before) (line_of entry) entry.actor)))
    (serial_join plan (opening_tables plan) now later (map item_of (judged plan (lines_of before))) (map item_of (judged_in plan (lines_of before) (line_of entry) entry.actor)) is (one_serial plan before entry fit marks keep kept one))

all_judged : (plan : PlanData) (journal : List Entry) → ScriptsFit plan → WholesAreSerial plan → MarksAgree plan → RefusalsKeepTables plan → IsWhole plan journal → IsJudged plan journal
all_judged plan journal fit serial marks keep kept =
    Along-keeps (λ some entry. IsWhole plan (some ++ entry ∷ [])) (IsJudged plan) (λ before entry whole is. judged_step plan before entry fit serial marks keep whole is) [] journal (whole_prefixes plan [] journal kept)
    (judged_begins plan (serial [] (whole_before plan [] journal kept)))

-- *The lines are serial*
pub are_serial : LinesAreSerial
are_serial plan journal fit serial marks keep kept =
    let is : IsJudged plan journal = all_judged plan journal fit serial marks keep kept in
    let found = serial_is_judged plan (opening_tables plan) (judged plan (lines_of journal)) (tables_left plan (state_at plan journal).tables) is in
    record {
      turns = found.0;
      reached = found.1;
      printed = ap (first_other (map printed_table (tables_left plan (state_at plan journal).tables))) found.1 ∙ no_other (tables_left plan (state_at plan journal).tables);
    }
