-- Each line of a client's script takes one turn and as many more as the plan lets it wait.
use Rattle.proof_bounds.proofs.Drawn.{drawn_front, drawn_length}
use Rattle.std.proofs.Common.{◌≡◌, ◌⊎◌, inl, inr, ◌≤◌, ◌<◌, ℕ, zero, suc, ◌+◌, ◌*◌, ◌-◌, ◌==◌, Bool, true, false, cond, not, ◌&&◌, List, [], ◌∷◌, ◌++◌, length, Option, Some, None, refl, sym, ap, ◌∙◌, subst, arith, mul-le-mul_right}
use Rattle.std.specs.Prelude.{sum, map, unwrap_or}
use Rattle.std.specs.List.{slice_get}
use Rattle.std.proofs.lemmas.Bool.{true≢false, false≢true}
use Rattle.std.proofs.lemmas.Bool.Decides.{nat_tests}
use Rattle.std.proofs.lemmas.List.Sums.{sum_by-cons, sum_by_push}
use Rattle.std.proofs.lemmas.Option.{slice_get_within}
use Rattle.base_script.specs.declared.actor.Actor.{Actor}
use Rattle.base_script.specs.declared.actor.Actor.TheVariants.{Op, Insp, Copy, Apply, Lock, Ren, Client}
use Rattle.base_script.specs.declared.actor.Side.{Side}
use Rattle.base_script.specs.declared.actor.Side.TheVariants.{Before}
use Rattle.base_script.specs.declared.script.ScriptLine.{ScriptLine}
use Rattle.base_script.specs.declared.script.ScriptWord.{ScriptWord}
use Rattle.base_script.specs.declared.script.ScriptWord.TheVariants as words
use Rattle.server_model.specs.Along.{Along-keeps}
use Rattle.server_model.specs.declared.answer.Answer.{Answer}
use Rattle.server_model.specs.declared.answer.Answer.TheVariants as answers
use Rattle.server_model.specs.declared.entry.Asked.{Asked}
use Rattle.server_model.specs.declared.entry.Asked.TheVariants.{Call, Poll, Command, Cut}
use Rattle.server_model.specs.declared.entry.Entry.{Entry}
use Rattle.server_model.specs.declared.transaction.Mark.{Mark}
use Rattle.server_model.specs.declared.transaction.Mark.TheVariants as marks
use Rattle.server_model.specs.declared.transaction.Reply.{Reply}
use Rattle.server_model.specs.Entries.{same_actor, is_command, is_cut}
use Rattle.plan_data.specs.PlanData.{PlanData}
use Rattle.server_model.specs.Alone.{reply_of}
use Rattle.tool_program.specs.JournalWords.Journals.{turns_of, state_at, IsFaithful}
use Rattle.tool_program.specs.JournalWords.Clients.{Reached, Became, Marked, lost_side, is_inside, left_after, marked, client_after, became, became_of, became_in, script_of, client_at, client_asks, word_asks, with_draw}
use Rattle.tool_program.specs.JournalWords.Sessions.{live_session}
use Rattle.tool_program.specs.declared.cutover_core.cutover.Phase.{Phase}
use Rattle.tool_program.specs.declared.cutover_core.cutover.Phase.TheVariants.{Resting, Attempting, Ending, Finishing, Finished}
use Rattle.tool_program.specs.Tools.{ToolPhase, SettingUp, Migrating, moment}
use Rattle.tool_program.specs.Programs.{given, IsGiven, Follows}
use Rattle.proof_journals.specs.Machine.Scripts.{ScriptsFit}
use Rattle.proof_journals.specs.Machine.Standings.{serves_to, IsAbout, is_called, is_polled, standing_of}
use Rattle.proof_journals.proofs.Actors.{same_actor_is, same_actor_itself}
use Rattle.proof_journals.proofs.Linking.{client_more}
use Rattle.proof_journals.proofs.Machine.Clients.{Next, calls_line, polls_line, client_next}
use Rattle.proof_journals.proofs.Machine.Journals.{IsRun, all_runs, client_commands}
use Rattle.proof_journals.proofs.Machine.Seated.{IsServed, own_heard, own_missed}
use Rattle.proof_bounds.specs.Laws.{MayWait, ClientTurnsAreFew}
use Rattle.tool_program.specs.JournalWords.Bounds.{measures}
use Rattle.proof_bounds.specs.Terms.{term_of}
use Rattle.proof_bounds.specs.Parts.{Part, OfClients, OfChunks, OfBatches, OfAttempts, OfClearing, rolls_back, work_part, is_again, ending_part, phase_part, inspector_part, part_by, part_of, same_part, turns_of_part}
use Rattle.proof_bounds.proofs.Counting.{count_yes, count_no, count_none}
use Rattle.proof_bounds.proofs.Waits.{waited_by, IsCounted, counted_more, counted_begins, waits_on, waits_end, waits_cut, others_wait, waits_short, idle_waited}
use Rattle.proof_bounds.proofs.Volumes.Lines.{left_short}

-- WHAT IS LEFT OF A SCRIPT

-- a line that got a mark is gone
mark_takes : (client : Reached) (mark : Mark) (reply : Option Reply) (line : ScriptLine) (lines : List ScriptLine) → client.left ≡ line ∷ lines → length (client_after (Marked mark reply) client).left + 1 ≤ length client.left
mark_takes client mark reply line lines is =
    let short = left_short (is_inside client.lines) mark line lines in
    let one : length (client_after (Marked mark reply) client).left ≡ length (left_after (is_inside client.lines) mark line lines) = ap (λ (left : List ScriptLine). length (marked client mark reply left).left) is in
    let two : length client.left ≡ suc (length lines) = ap length is in
    omega (arith, short, one, two)

-- a turn in which the line was answered, or its session lost
answered_takes : (client : Reached) (line : ScriptLine) (lines : List ScriptLine) → client.left ≡ line ∷ lines → (word : ScriptWord) (answer : Answer) → serves_to (word_asks word) answer ≡ true → ((one : ℕ) → answer ≡ answers.Waits one → ⊥) → length (client_after (became_of answer) client).left + 1 ≤ length client.left
answered_takes client line lines is = by where
  by : (word : ScriptWord) (answer : Answer) → serves_to (word_asks word) answer ≡ true → ((one : ℕ) → answer ≡ answers.Waits one → ⊥) → length (client_after (became_of answer) client).left + 1 ≤ length client.left
  by word (answers.Ok count) fits heard = mark_takes client marks.Answered (reply_of (answers.Ok count)) line lines is
  by word (answers.Rows rows) fits heard = mark_takes client marks.Answered (reply_of (answers.Rows rows)) line lines is
  by word (answers.Refused number column) fits heard = mark_takes client marks.Answered (reply_of (answers.Refused number column)) line lines is
  by word (answers.TimedOut waited) fits heard = mark_takes client marks.TimedOut (reply_of (answers.TimedOut waited)) line lines is
  by word (answers.Waits one) fits heard = absurd (heard one refl)
  by words.Begin answer fits heard = absurd (false≢true fits)
  by words.Commit answer fits heard = absurd (false≢true fits)
  by words.Rollback answer fits heard = absurd (false≢true fits)
  by (words.Do statement) answer fits heard = absurd (false≢true fits)

-- ONE CLIENT

abbrev turns_by : ℕ → List Entry → ℕ
turns_by c journal = turns_of (Client c) journal

abbrev all_lines : PlanData → ℕ → ℕ
all_lines plan c = length (unwrap_or (script_of c plan) [])

-- its turns so far are those of the lines that are gone, and of its wait
abbrev IsSpent : PlanData → ℕ → List Entry → Type 0
IsSpent plan c journal = turns_by c journal + length (client_at plan journal c).left * (1 + plan.options.client_wait) ≤ all_lines plan c * (1 + plan.options.client_wait) + waited_by plan journal (Client c)

turns_more : (c : ℕ) (journal : List Entry) (entry : Entry) → turns_by c (journal ++ entry ∷ []) ≡ turns_by c journal + cond (same_actor entry.actor (Client c) && not (is_cut entry.asked)) 1 0
turns_more c journal entry = sum_by_push (λ (one : Entry). cond (same_actor one.actor (Client c) && not (is_cut one.asked)) 1 0) journal entry

times_less : (a b m : ℕ) → a + 1 ≤ b → a * m + m ≤ b * m
times_less a b m less = grind (arith, less)

module _ (plan : PlanData) (may : MayWait plan) (c : ℕ) (journal : List Entry) (entry : Entry) (run : IsRun plan journal entry) (is : IsCounted plan journal) (spent : IsSpent plan c journal) where
  abbrev more : List Entry
  more = journal ++ entry ∷ []

  abbrev client : Reached
  client = client_at plan journal c

  -- with the number that its line drew
  abbrev drawn : Reached
  drawn = with_draw entry.draw client

  same_long : length drawn.left ≡ length client.left
  same_long = drawn_length entry.draw client

  abbrev each : ℕ
  each = 1 + plan.options.client_wait

  served : IsServed plan journal entry
  served = record { answered = run.answered; seated = record { session = run.followed.session } }

  -- ANOTHER ACTOR'S TURN

  other_spent : same_actor entry.actor (Client c) ≡ false → IsSpent plan c more
  other_spent differ =
      let turns : turns_by c more ≡ turns_by c journal + 0 = turns_more c journal entry ∙ ap (λ (b : Bool). turns_by c journal + cond (b && not (is_cut entry.asked)) 1 0) differ in
      let left : (client_at plan more c).left ≡ client.left = ap (λ (r : Reached). r.left) (client_more plan journal entry c ∙ ap (λ (b : Bool). cond b (client_after (became client entry) drawn) client) differ) in
      let waits : waited_by plan more (Client c) ≡ waited_by plan journal (Client c) = others_wait plan may journal entry is.together is.clients is.both.living run is.few (Client c) differ in
      subst (λ (n : ℕ). n + length (client_at plan more c).left * each ≤ all_lines plan c * each + waited_by plan more (Client c)) (sym (turns ∙ none (turns_by c journal)))
      (subst (λ (l : List ScriptLine). turns_by c journal + length l * each ≤ all_lines plan c * each + waited_by plan more (Client c)) (sym left)
      (subst (λ (w : ℕ). turns_by c journal + length client.left * each ≤ all_lines plan c * each + w) (sym waits) spent)) where
        none : (n : ℕ) → n + 0 ≡ n
        none n = omega arith

  -- ITS OWN

  module _ (who : entry.actor ≡ Client c) where
    itself : same_actor entry.actor (Client c) ≡ true
    itself = ap (λ (a : Actor). same_actor a (Client c)) who ∙ same_actor_itself (Client c)

    client_is : client_at plan more c ≡ client_after (became client entry) drawn
    client_is = client_more plan journal entry c ∙ ap (λ (b : Bool). cond b (client_after (became client entry) drawn) client) itself

    turns_are : (b : Bool) → is_cut entry.asked ≡ b → turns_by c more ≡ turns_by c journal + cond (not b) 1 0
    turns_are b cut = turns_more c journal entry ∙ ap (λ (s : Bool). turns_by c journal + cond (s && not (is_cut entry.asked)) 1 0) itself ∙ ap (λ (s : Bool). turns_by c journal + cond (not s) 1 0) cut

    most : waited_by plan journal (Client c) ≤ plan.options.client_wait
    most = waits_short plan journal is.few (Client c)

    -- the line is gone, and nothing waits
    gone : is_cut entry.asked ≡ false → length (client_after (became client entry) drawn).left + 1 ≤ length drawn.left → waited_by plan more (Client c) ≡ 0 → IsSpent plan c more
    gone uncut less idle =
        let turns = turns_are false uncut in
        let left : length (client_at plan more c).left + 1 ≤ length client.left = subst (λ (n : ℕ). length (client_at plan more c).left + 1 ≤ n) same_long (subst (λ (r : Reached). length r.left + 1 ≤ length drawn.left) (sym client_is) less) in
        let times = times_less (length (client_at plan more c).left) (length client.left) each left in
        let short = most in
        join (turns_by c more) (turns_by c journal) (length (client_at plan more c).left * each) (length client.left * each) (all_lines plan c * each) (waited_by plan journal (Client c)) (waited_by plan more (Client c)) plan.options.client_wait turns times short spent where
          join : (t old l before all waits now v : ℕ) → t ≡ old + 1 → l + (1 + v) ≤ before → waits ≤ v → old + before ≤ all + waits → t + l ≤ all + now
          join t old l before all waits now v turns times short spent = omega (arith, turns, times, short, spent)

    -- the line waits
    waits : is_cut entry.asked ≡ false → (client_after (became client entry) drawn).left ≡ drawn.left → waited_by plan more (Client c) ≡ waited_by plan journal (Client c) + 1 → IsSpent plan c more
    waits uncut same once =
        let turns = turns_are false uncut in
        let left : length (client_at plan more c).left ≡ length client.left = ap (λ (r : Reached). length r.left) client_is ∙ ap length same ∙ same_long in
        let times : length (client_at plan more c).left * each ≡ length client.left * each = ap (λ (n : ℕ). n * each) left in
        join (turns_by c more) (turns_by c journal) (length (client_at plan more c).left * each) (length client.left * each) (all_lines plan c * each) (waited_by plan journal (Client c)) (waited_by plan more (Client c)) turns times once spent where
          join : (t old l before all waits now : ℕ) → t ≡ old + 1 → l ≡ before → now ≡ waits + 1 → old + before ≤ all + waits → t + l ≤ all + now
          join t old l before all waits now turns times once spent = omega (arith, turns, times, once, spent)

    -- the session is lost between calls: no turn of its own, and a line that waited is gone
    cut_spent : entry.asked ≡ Cut → IsSpent plan c more
    cut_spent cut = by client.waits refl where
      turns : turns_by c more ≡ turns_by c journal + 0
      turns = turns_are true (ap is_cut cut)

      idle : waited_by plan more (Client c) ≡ 0
      idle = subst (λ (a : Actor). waited_by plan more a ≡ 0) who (waits_cut plan may journal entry is.together is.clients is.both.living run is.few cut)

      client_cut : (b : Bool) → client.waits ≡ b → client_at plan more c ≡ client_after (became_in b Cut entry.side entry.answer entry.missed) drawn
      client_cut b waits = client_is ∙ ap (λ (a : Asked). client_after (became_in client.waits a entry.side entry.answer entry.missed) drawn) cut ∙ ap (λ (w : Bool). client_after (became_in w Cut entry.side entry.answer entry.missed) drawn) waits

      by : (b : Bool) → client.waits ≡ b → IsSpent plan c more
      by true waits =
          let held = (is.clients.each c).held waits in
          let front = drawn_front entry.draw client held.0 held.1 held.2 in
          let less : length (client_at plan more c).left + 1 ≤ length client.left =
          subst (λ (n : ℕ). length (client_at plan more c).left + 1 ≤ n) same_long (subst (λ (r : Reached). length r.left + 1 ≤ length drawn.left) (sym (client_cut true waits)) (mark_takes drawn (marks.Lost Before) None front.0 held.1 front.1)) in
          let times = times_less (length (client_at plan more c).left) (length client.left) each less in
          let short = most in
          join (turns_by c more) (turns_by c journal) (length (client_at plan more c).left * each) (length client.left * each) (all_lines plan c * each) (waited_by plan journal (Client c)) (waited_by plan more (Client c)) plan.options.client_wait turns times short spent where
            join : (t old l before all waits now v : ℕ) → t ≡ old + 0 → l + (1 + v) ≤ before → waits ≤ v → old + before ≤ all + waits → t + l ≤ all + now
            join t old l before all waits now v turns times short spent = omega (arith, turns, times, short, spent)
      by false off =
          let left : length (client_at plan more c).left ≡ length client.left = ap (λ (r : Reached). length r.left) (client_cut false off) ∙ same_long in
          let times : length (client_at plan more c).left * each ≡ length client.left * each = ap (λ (n : ℕ). n * each) left in
          join (turns_by c more) (turns_by c journal) (length (client_at plan more c).left * each) (length client.left * each) (all_lines plan c * each) (waited_by plan journal (Client c)) (waited_by plan more (Client c)) turns times no_wait spent where
            no_wait : waited_by plan journal (Client c) ≡ 0
            no_wait = idle_waited (state_at plan journal) (live_session journal (Client c)) ((is.clients.each c).free off)

            join : (t old l before all waits now : ℕ) → t ≡ old + 0 → l ≡ before → waits ≡ 0 → old + before ≤ all + waits → t + l ≤ all + now
            join t old l before all waits now turns times none spent = omega (arith, turns, times, none, spent)

    -- a call or a poll of a line
    line_spent : is_command entry.asked ≡ false → is_cut entry.asked ≡ false → (line : ScriptLine) (lines : List ScriptLine) → client.left ≡ line ∷ lines → IsAbout (word_asks line.word) (standing_of plan journal entry.actor) entry.asked → IsSpent plan c more
    line_spent called uncut line lines left about = by entry.side refl where
      became_is : (side : Option Side) → entry.side ≡ side → became client entry ≡ became_in client.waits entry.asked side entry.answer entry.missed
      became_is side at = ap (λ (s : Option Side). became_in client.waits entry.asked s entry.answer entry.missed) at

      front : (first : ScriptLine) × (drawn.left ≡ first ∷ lines)
      front = drawn_front entry.draw client line lines left

      lost_is : (asked : Asked) (side : Side) → is_cut asked ≡ false → length (client_after (became_in client.waits asked (Some side) entry.answer entry.missed) drawn).left + 1 ≤ length drawn.left
      lost_is (Call request) side uncut = mark_takes drawn (marks.Lost (lost_side (Some side) entry.missed)) None front.0 lines front.1
      lost_is Poll side uncut = mark_takes drawn (marks.Lost (lost_side (Some side) entry.missed)) None front.0 lines front.1
      lost_is (Command word) side uncut = mark_takes drawn (marks.Lost (lost_side (Some side) entry.missed)) None front.0 lines front.1
      lost_is Cut side uncut = absurd (true≢false uncut)

      heard_is : (asked : Asked) → is_cut asked ≡ false → became_in client.waits asked None entry.answer entry.missed ≡ became_of entry.answer
      heard_is (Call request) uncut = refl
      heard_is Poll uncut = refl
      heard_is (Command word) uncut = refl
      heard_is Cut uncut = absurd (true≢false uncut)

      ends : ((one : ℕ) → entry.answer ≡ answers.Waits one → ⊥) → waited_by plan more (Client c) ≡ 0
      ends heard = subst (λ (a : Actor). waited_by plan more a ≡ 0) who (waits_end plan may journal entry is.together is.clients is.both.living run is.few called uncut heard)

      heard : entry.side ≡ None → (answer : Answer) → entry.answer ≡ answer → IsSpent plan c more
      heard no_side (answers.Waits one) waits_so =
          waits uncut
          (ap (λ (b : Became). (client_after b drawn).left) (became_is None no_side ∙ heard_is entry.asked uncut ∙ ap became_of waits_so))
          (subst (λ (a : Actor). waited_by plan more a ≡ waited_by plan journal a + 1) who (waits_on plan may journal entry is.together is.clients is.both.living run is.few one called uncut waits_so).counts)
      heard no_side answer answer_so = done_so (λ one same. let bad : answer ≡ answers.Waits one = sym answer_so ∙ same in cc) where
        done_so : ((one : ℕ) → entry.answer ≡ answers.Waits one → ⊥) → IsSpent plan c more
        done_so heard =
            gone uncut
            (subst (λ (b : Became). length (client_after b drawn).left + 1 ≤ length drawn.left) (sym (became_is None no_side ∙ heard_is entry.asked uncut))
            (answered_takes drawn front.0 lines front.1 line.word entry.answer (own_heard plan journal entry is.together.known served (word_asks line.word) about no_side) heard))
            (ends heard)

      by : (side : Option Side) → entry.side ≡ side → IsSpent plan c more
      by None no_side = heard no_side entry.answer refl
      by (Some side) at =
          gone uncut (subst (λ (b : Became). length (client_after b drawn).left + 1 ≤ length drawn.left) (sym (became_is (Some side) at)) (lost_is entry.asked side uncut))
          (ends (λ one same. let lost = own_missed plan journal entry is.together.known served side at in never lost same)) where
            never : {one : ℕ} → entry.answer ≡ answers.Lost → entry.answer ≡ answers.Waits one → ⊥
            never lost waits = no (sym lost ∙ waits) where
              no : {one : ℕ} → answers.Lost ≡ answers.Waits one → ⊥
              no same = cc

    next_spent : is_command entry.asked ≡ false → is_cut entry.asked ≡ false → Next client entry.asked → IsSpent plan c more
    next_spent called uncut (calls_line line lines going off left same) = line_spent called uncut line lines left (subst (λ (a : Actor). IsAbout (word_asks line.word) (standing_of plan journal a) entry.asked) (sym who) (is_called same ((is.clients.each c).free off)))
    next_spent called uncut (polls_line going on same) =
        let held = (is.clients.each c).held on in
        line_spent called uncut held.0 held.1 held.2 (subst (λ (a : Actor). IsAbout (word_asks held.0.word) (standing_of plan journal a) entry.asked) (sym who) (is_polled same held.3))

    own_spent : (asked : Asked) → entry.asked ≡ asked → IsGiven plan journal entry asked → IsSpent plan c more
    unfolding given
    own_spent Cut asks gives = cut_spent asks
    own_spent (Command word) asks gives = absurd (client_commands plan journal c word (subst (λ (a : Actor). given plan journal a ≡ Some (Command word)) who gives))
    own_spent (Call request) asks gives = next_spent (ap is_command asks) (ap is_cut asks) (client_next plan journal c entry.asked (subst (λ (a : Actor). given plan journal a ≡ Some entry.asked) who (gives ∙ ap Some (sym asks))))
    own_spent Poll asks gives = next_spent (ap is_command asks) (ap is_cut asks) (client_next plan journal c entry.asked (subst (λ (a : Actor). given plan journal a ≡ Some entry.asked) who (gives ∙ ap Some (sym asks))))

  pub spent_more : IsSpent plan c more
  spent_more = by (same_actor entry.actor (Client c)) refl where
    by : (b : Bool) → same_actor entry.actor (Client c) ≡ b → IsSpent plan c more
    by false differ = other_spent differ
    by true same = own_spent (same_actor_is entry.actor (Client c) same) entry.asked refl run.followed.given

-- ALL CLIENTS

-- a sum over the clients from this number on
abbrev sum_from : (ℕ → ℕ) → ℕ → List (List ScriptLine) → ℕ
sum_from f n [] = 0
sum_from f n (script ∷ scripts) = f n + sum_from f (n + 1) scripts

sum_less : (f g : ℕ → ℕ) → ((c : ℕ) → f c ≤ g c) → (n : ℕ) (scripts : List (List ScriptLine)) → sum_from f n scripts ≤ sum_from g n scripts
sum_less f g less n [] = omega arith
sum_less f g less n (script ∷ scripts) = let a = less n in let b = sum_less f g less (n + 1) scripts in omega (arith, a, b)

sum_rises : (f g : ℕ → ℕ) → ((c : ℕ) → f c ≤ g c) → (n i : ℕ) (scripts : List (List ScriptLine)) → i < length scripts → f (n + i) + 1 ≤ g (n + i) → sum_from f n scripts + 1 ≤ sum_from g n scripts
sum_rises f g less n i [] within more = absurd (never i within) where
  never : (i : ℕ) → i < 0 → ⊥
  never i within = omega (arith, within)
sum_rises f g less n zero (script ∷ scripts) within more =
    let a = sum_less f g less (n + 1) scripts in
    let b = subst (λ (k : ℕ). f k + 1 ≤ g k) (none n) more in
    omega (arith, a, b) where
      none : (n : ℕ) → n + 0 ≡ n
      none n = omega arith
sum_rises f g less n (suc i) (script ∷ scripts) within more =
    let a = less n in
    let b = sum_rises f g less (n + 1) i scripts (below i (length scripts) within) (subst (λ (k : ℕ). f k + 1 ≤ g k) (next n i) more) in
    omega (arith, a, b) where
      next : (n i : ℕ) → n + suc i ≡ n + 1 + i
      next n i = omega arith

      below : (i m : ℕ) → suc i < suc m → i < m
      below i m less = omega (arith, less)

sum_most : (f : ℕ → ℕ) (m n : ℕ) (scripts : List (List ScriptLine)) → ((i : ℕ) (script : List ScriptLine) → slice_get scripts i ≡ Some script → f (n + i) ≤ length script * m) → sum_from f n scripts ≤ sum (map (λ (script : List ScriptLine). length script) scripts) * m
sum_most f m n [] each = omega arith
sum_most f m n (script ∷ scripts) each =
    let a = subst (λ (k : ℕ). f k ≤ length script * m) (none n) (each 0 script refl) in
    let b = sum_most f m (n + 1) scripts (λ i one is. subst (λ (k : ℕ). f k ≤ length one * m) (next n i) (each (suc i) one is)) in
    let c = sum_by-cons (λ (k : ℕ). k) (length script) (map (λ (script : List ScriptLine). length script) scripts) in
    join (f n) (length script) (sum_from f (n + 1) scripts) (sum (map (λ (script : List ScriptLine). length script) scripts)) (sum (map (λ (script : List ScriptLine). length script) (script ∷ scripts))) m a b c where
      none : (n : ℕ) → n + 0 ≡ n
      none n = omega arith

      next : (n i : ℕ) → n + suc i ≡ n + 1 + i
      next n i = omega arith

      join : (one len rest lines all m : ℕ) → one ≤ len * m → rest ≤ lines * m → all ≡ len + lines → one + rest ≤ all * m
      join one len rest lines all m a b c = subst (λ (k : ℕ). one + rest ≤ k * m) (sym c) (grind (arith, a, b))

-- WHOSE TURN IT IS

again_not : (b : Bool) → same_part OfClients (cond b OfClearing OfAttempts) ≡ false
again_not true = refl
again_not false = refl

ending_not : (live : Option ℕ) (side : Option Side) (asked : Asked) → same_part OfClients (ending_part live side asked) ≡ false
ending_not live side Poll = refl
ending_not live side (Call request) = again_not (is_again live side)
ending_not live side (Command word) = again_not (is_again live side)
ending_not live side Cut = again_not (is_again live side)

phase_not : (live : Option ℕ) (side : Option Side) (asked : Asked) (phase : Phase) → same_part OfClients (phase_part live side asked phase) ≡ false
phase_not live side asked Resting = refl
phase_not live side asked (Attempting stage) = refl
phase_not live side asked (Ending clearing) = ending_not live side asked
phase_not live side asked (Finishing clearing) = refl
phase_not live side asked Finished = refl

inspector_not : (live : Option ℕ) (side : Option Side) (asked : Asked) (tool_phase : ToolPhase) → same_part OfClients (inspector_part live side asked tool_phase) ≡ false
inspector_not live side asked (SettingUp setup tries) = refl
inspector_not live side asked (Migrating work) = phase_not live side asked work.cutover.phase

work_not : (part : Part) → same_part OfClients part ≡ false → (asked : Asked) → same_part OfClients (work_part part asked) ≡ false
work_not part other asked = by (rolls_back asked) where
  by : (b : Bool) → same_part OfClients (cond b OfClearing part) ≡ false
  by true = refl
  by false = other

pub record ClientTurn (actor : Actor) (asked : Asked) : Type 0 where
  pub client : ℕ
  pub who : actor ≡ Client client
  pub called : is_command asked ≡ false
  pub uncut : is_cut asked ≡ false

client_turn : (tool_phase : ToolPhase) (live : Option ℕ) (side : Option Side) (actor : Actor) (asked : Asked) → same_part OfClients (part_by tool_phase live side actor asked) ≡ true → ClientTurn actor asked
client_turn tool_phase live side actor (Command word) is = absurd (false≢true is)
client_turn tool_phase live side actor Cut is = absurd (false≢true is)
client_turn tool_phase live side Op (Call request) is = absurd (false≢true is)
client_turn tool_phase live side Insp (Call request) is = absurd (false≢true (sym (inspector_not live side (Call request) tool_phase) ∙ is))
client_turn tool_phase live side Copy (Call request) is = absurd (false≢true (sym (work_not OfChunks refl (Call request)) ∙ is))
client_turn tool_phase live side Apply (Call request) is = absurd (false≢true (sym (work_not OfBatches refl (Call request)) ∙ is))
client_turn tool_phase live side Lock (Call request) is = absurd (false≢true is)
client_turn tool_phase live side Ren (Call request) is = absurd (false≢true is)
client_turn tool_phase live side (Client c) (Call request) is = record { client = c; who = refl; called = refl; uncut = refl }
client_turn tool_phase live side Op Poll is = absurd (false≢true is)
client_turn tool_phase live side Insp Poll is = absurd (false≢true (sym (inspector_not live side Poll tool_phase) ∙ is))
client_turn tool_phase live side Copy Poll is = absurd (false≢true is)
client_turn tool_phase live side Apply Poll is = absurd (false≢true is)
client_turn tool_phase live side Lock Poll is = absurd (false≢true is)
client_turn tool_phase live side Ren Poll is = absurd (false≢true is)
client_turn tool_phase live side (Client c) Poll is = record { client = c; who = refl; called = refl; uncut = refl }

-- THE JOURNAL

abbrev all_turns : PlanData → List Entry → ℕ
all_turns plan journal = sum_from (λ (c : ℕ). turns_by c journal) 1 plan.clients

record AreSpent (plan : PlanData) (journal : List Entry) : Type 0 where
  counted : IsCounted plan journal
  each : (c : ℕ) → IsSpent plan c journal
  all : turns_of_part OfClients plan journal ≤ all_turns plan journal

turns_grow : (journal : List Entry) (entry : Entry) (c : ℕ) → turns_by c journal ≤ turns_by c (journal ++ entry ∷ [])
turns_grow journal entry c = let more = turns_more c journal entry in omega (arith, more)

module _ (plan : PlanData) (may : MayWait plan) (journal : List Entry) (entry : Entry) (run : IsRun plan journal entry) (is : AreSpent plan journal) where
  abbrev after : List Entry
  after = journal ++ entry ∷ []

  -- a client that asks has a line, so it is one of the plan's
  record OneOf (c : ℕ) : Type 0 where
    i : ℕ
    is_next : c ≡ 1 + i
    within : i < length plan.clients

  has_line : (c : ℕ) (asked : Asked) → Next (client_at plan journal c) asked → 1 ≤ length (client_at plan journal c).left
  has_line c asked (calls_line line lines going off left same) = let long : length (client_at plan journal c).left ≡ suc (length lines) = ap length left in omega (arith, long)
  has_line c asked (polls_line going on same) = let held = (is.counted.clients.each c).held on in let long : length (client_at plan journal c).left ≡ suc (length held.1) = ap length held.2 in omega (arith, long)

  some_lines : (c : ℕ) → 1 ≤ length (client_at plan journal c).left → 1 ≤ all_lines plan c
  some_lines c line =
      let spent = is.each c in
      let short : waited_by plan journal (Client c) ≤ plan.options.client_wait = waits_short plan journal is.counted.few (Client c) in
      join (turns_by c journal) (length (client_at plan journal c).left) (all_lines plan c) (waited_by plan journal (Client c)) plan.options.client_wait line spent short where
        zero_no : (t left w v : ℕ) → 1 ≤ left → t + left * (1 + v) ≤ 0 * (1 + v) + w → w ≤ v → ⊥
        zero_no t left w v line spent short = let one : 1 * (1 + v) ≤ left * (1 + v) = mul-le-mul_right (1 + v) line in omega (arith, one, spent, short)

        join : (t left all w v : ℕ) → 1 ≤ left → t + left * (1 + v) ≤ all * (1 + v) + w → w ≤ v → 1 ≤ all
        join t left zero w v line spent short = absurd (zero_no t left w v line spent short)
        join t left (suc all) w v line spent short = omega arith

  one_of : (c : ℕ) → 1 ≤ all_lines plan c → OneOf c
  one_of zero lines = absurd (no lines) where
    no : 1 ≤ 0 → ⊥
    no less = omega (arith, less)
  one_of (suc i) lines = by (slice_get plan.clients i) refl where
    here : script_of (suc i) plan ≡ slice_get plan.clients i
    here = ap (λ (b : Bool). cond {A = Option (List ScriptLine)} b None (slice_get plan.clients (suc i - 1))) (not_zero i) ∙ ap (slice_get plan.clients) (less i) where
      not_zero : (i : ℕ) → (suc i == 0) ≡ false
      not_zero i = grind (arith, nat_tests)

      less : (i : ℕ) → suc i - 1 ≡ i
      less i = omega arith

    by : (script : Option (List ScriptLine)) → slice_get plan.clients i ≡ script → OneOf (suc i)
    by None none = absurd (no (subst (λ (s : Option (List ScriptLine)). 1 ≤ length (unwrap_or s [])) (here ∙ none) lines)) where
      no : 1 ≤ 0 → ⊥
      no less = omega (arith, less)
    by (Some script) some = record { i = i; is_next = (let same : suc i ≡ 1 + i = omega arith in same); within = slice_get_within plan.clients i script some }

  rises : ClientTurn entry.actor entry.asked → turns_of_part OfClients plan journal + 1 ≤ all_turns plan after
  unfolding given
  rises turn =
      let one = one_of turn.client (some_lines turn.client (has_line turn.client entry.asked (client_next plan journal turn.client entry.asked asks))) in
      let turns : turns_by turn.client after ≡ turns_by turn.client journal + 1 =
      turns_more turn.client journal entry ∙ ap (λ (b : Bool). turns_by turn.client journal + cond (b && not (is_cut entry.asked)) 1 0) (ap (λ (a : Actor). same_actor a (Client turn.client)) turn.who ∙ same_actor_itself (Client turn.client))
      ∙ ap (λ (b : Bool). turns_by turn.client journal + cond (not b) 1 0) turn.uncut in
      let more = sum_rises (λ (c : ℕ). turns_by c journal) (λ (c : ℕ). turns_by c after) (turns_grow journal entry) 1 one.i plan.clients one.within
      (subst (λ (c : ℕ). turns_by c journal + 1 ≤ turns_by c after) one.is_next (omega (arith, turns))) in
      let before = is.all in
      omega (arith, more, before) where
        given_is : (asked : Asked) → entry.asked ≡ asked → is_command asked ≡ false → is_cut asked ≡ false → IsGiven plan journal entry asked → given plan journal entry.actor ≡ Some entry.asked
        given_is (Call request) asks called uncut gives = gives ∙ ap Some (sym asks)
        given_is Poll asks called uncut gives = gives ∙ ap Some (sym asks)
        given_is (Command word) asks called uncut gives = absurd (true≢false called)
        given_is Cut asks called uncut gives = absurd (true≢false uncut)

        asks : client_asks plan journal turn.client ≡ Some entry.asked
        asks = subst (λ (a : Actor). given plan journal a ≡ Some entry.asked) turn.who (given_is entry.asked refl turn.called turn.uncut run.followed.given)

  all_more : turns_of_part OfClients plan after ≤ all_turns plan after
  unfolding part_of
  all_more = by (same_part OfClients (part_of plan journal entry)) refl where
    turn : same_part OfClients (part_of plan journal entry) ≡ true → ClientTurn entry.actor entry.asked
    turn is = client_turn (moment plan journal).tool.tool_phase (live_session journal entry.actor) entry.side entry.actor entry.asked is

    by : (b : Bool) → same_part OfClients (part_of plan journal entry) ≡ b → turns_of_part OfClients plan after ≤ all_turns plan after
    by true own = subst (λ (n : ℕ). n ≤ all_turns plan after) (sym (count_yes OfClients plan journal entry own)) (rises (turn own))
    by false other =
        let grows = sum_less (λ (c : ℕ). turns_by c journal) (λ (c : ℕ). turns_by c after) (turns_grow journal entry) 1 plan.clients in
        let before = is.all in
        subst (λ (n : ℕ). n ≤ all_turns plan after) (sym (count_no OfClients plan journal entry other)) (omega (arith, grows, before))

  are_more : AreSpent plan after
  are_more = record { counted = counted_more plan may journal entry run is.counted; each = λ c. spent_more plan may c journal entry run is.counted (is.each c); all = all_more }

are_begun : (plan : PlanData) → ScriptsFit plan → AreSpent plan []
unfolding client_at
are_begun plan fit = record { counted = counted_begins plan fit; each = λ c. none c; all = subst (λ (n : ℕ). n ≤ all_turns plan []) (sym (count_none OfClients plan)) (omega arith) } where
  none : (c : ℕ) → IsSpent plan c []
  none c = omega arith

all_spent : (plan : PlanData) (journal : List Entry) → MayWait plan → ScriptsFit plan → IsFaithful plan journal → Follows plan journal → AreSpent plan journal
unfolding Follows
all_spent plan journal may fit faithful follows = Along-keeps (IsRun plan) (AreSpent plan) (λ before entry run is. are_more plan may before entry run is) [] journal (all_runs plan [] journal faithful follows) (are_begun plan fit)

-- *The clients' turns are few*
pub client_few : ClientTurnsAreFew
unfolding term_of measures
client_few plan journal may fit faithful follows =
    let spent = all_spent plan journal may fit faithful follows in
    let all = spent.all in
    let most = sum_most (λ (c : ℕ). turns_by c journal) (1 + plan.options.client_wait) 1 plan.clients (λ i script is. one i script is (spent.each (1 + i)) (waits_short plan journal spent.counted.few (Client (1 + i)))) in
    omega (arith, all, most) where
      here : (i : ℕ) → script_of (1 + i) plan ≡ slice_get plan.clients i
      here i = ap (λ (b : Bool). cond {A = Option (List ScriptLine)} b None (slice_get plan.clients (1 + i - 1))) (not_zero i) ∙ ap (slice_get plan.clients) (less i) where
        not_zero : (i : ℕ) → (1 + i == 0) ≡ false
        not_zero i = grind (arith, nat_tests)

        less : (i : ℕ) → 1 + i - 1 ≡ i
        less i = omega arith

      join : (t left all w v : ℕ) (journal_left : List ScriptLine) → length journal_left ≡ left → t + left * (1 + v) ≤ all * (1 + v) + w → w ≤ v → (w ≡ 0) ⊎ (1 ≤ left) → t ≤ all * (1 + v)
      join t left all w v lines same spent short (inl none) = omega (arith, spent, none)
      join t left all w v lines same spent short (inr some) = let one : 1 * (1 + v) ≤ left * (1 + v) = mul-le-mul_right (1 + v) some in omega (arith, one, spent, short)

      waits_with : (c : ℕ) → IsCounted plan journal → (waited_by plan journal (Client c) ≡ 0) ⊎ (1 ≤ length (client_at plan journal c).left)
      waits_with c counted = by (client_at plan journal c).waits refl where
        by : (b : Bool) → (client_at plan journal c).waits ≡ b → (waited_by plan journal (Client c) ≡ 0) ⊎ (1 ≤ length (client_at plan journal c).left)
        by false off = inl (idle_waited (state_at plan journal) (live_session journal (Client c)) ((counted.clients.each c).free off))
        by true on = inr (let held = (counted.clients.each c).held on in let long : length (client_at plan journal c).left ≡ suc (length held.1) = ap length held.2 in omega (arith, long))

      one : (i : ℕ) (script : List ScriptLine) → slice_get plan.clients i ≡ Some script → IsSpent plan (1 + i) journal → waited_by plan journal (Client (1 + i)) ≤ plan.options.client_wait → turns_by (1 + i) journal ≤ length script * (1 + plan.options.client_wait)
      one i script is spent short =
          subst (λ (s : Option (List ScriptLine)). turns_by (1 + i) journal ≤ length (unwrap_or s []) * (1 + plan.options.client_wait)) (here i ∙ is)
          (join (turns_by (1 + i) journal) (length (client_at plan journal (1 + i)).left) (all_lines plan (1 + i)) (waited_by plan journal (Client (1 + i))) plan.options.client_wait (client_at plan journal (1 + i)).left refl spent short (waits_with (1 + i) (all_spent plan journal may fit faithful follows).counted))
