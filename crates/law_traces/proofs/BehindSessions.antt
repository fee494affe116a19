-- The sessions of a new tool have small numbers, where the server numbers its sessions so.
use Rattle.std.proofs.Common.{◌≡◌, ◌<◌, ◌≤◌, ◌^◌, ℕ, Bool, true, false, cond, max, List, [], ◌∷◌, ◌++◌, length, sym, subst, arith}
use Rattle.std.specs.List.{AllByRecursion}
use Rattle.base_values.proofs.SchemaRules.Lists.{All-append, All-weaker}
use Rattle.server_model.specs.Along.{Along-keeps}
use Rattle.server_model.specs.declared.entry.Entry.{Entry}
use Rattle.server_model.specs.Entries.{is_command}
use Rattle.plan_data.specs.PlanData.{PlanData}
use Rattle.tool_program.specs.JournalWords.Journals.{IsFaithful, state_at}
use Rattle.tool_program.specs.JournalWords.Sessions.{IsSeated, KeepsSessions, NumbersSessions, sessions_named}
use Rattle.tool_finish.specs.Finishes.{IsFinish}
use Rattle.proof_journals.specs.Machine.Laws.{IsNumberedBy}
use Rattle.proof_journals.specs.Run.Kept.{IsKept}
use Rattle.proof_journals.proofs.Actors.{Begins, Commands, GoesOn, Placed, SessionsKnown, placed, sessions_begin, sessions_more}
use Rattle.proof_journals.proofs.Machine.Numbering.{sessions_numbered}
use Rattle.proof_journals.proofs.Sentry.Sessions.{named_more}
use Rattle.proof_plain.specs.Plans.{IsShort}
use Rattle.proof_plain.proofs.Sessions.{FewSessions, few_sessions}
use Rattle.proof_resume.proofs.Finish.Prompt.{finishes_keep_sessions}

-- no turn is in a session above the greatest that is named
record Named (journal : List Entry) : Type 0 where
  known : SessionsKnown journal
  each : AllByRecursion (λ entry. entry.session ≤ sessions_named journal) journal

one_more : (before : List Entry) (entry : Entry) → IsSeated before entry → Named before → Named (before ++ entry ∷ [])
one_more before entry seated was = record {
  known = sessions_more before entry was.known at;
  each = All-append Within before (entry ∷ []) (All-weaker (λ one. one.session ≤ sessions_named before) Within (λ one least. omega (arith, least, grows)) before was.each) (own, tt);
} where
  Within : Entry → Type 0
  Within one = one.session ≤ sessions_named (before ++ entry ∷ [])

  at : Placed before entry
  at = placed before entry seated

  named : Bool → ℕ
  named command = cond command (sessions_named before) (max (sessions_named before) entry.session)

  same : sessions_named (before ++ entry ∷ []) ≡ named (is_command entry.asked)
  same = named_more before entry

  grows : sessions_named before ≤ sessions_named (before ++ entry ∷ [])
  grows = subst (λ (n : ℕ). sessions_named before ≤ n) (sym same) (by (is_command entry.asked)) where
    by : (command : Bool) → sessions_named before ≤ named command
    by true = omega arith
    by false = omega arith

  own : Within entry
  own = by at where
    begun : (command : Bool) → command ≡ false → entry.session ≤ named command
    begun true calls = absurd cc
    begun false calls = omega arith

    by : Placed before entry → Within entry
    by (Commands command zero) = omega (arith, zero)
    by (GoesOn calls live) = let below : entry.session ≤ sessions_named before = (was.known.own entry.actor entry.session live).1 in omega (arith, below, grows)
    by (Begins calls uncut live more) = subst (λ (n : ℕ). entry.session ≤ n) (sym same) (begun (is_command entry.asked) calls)

all_named : (journal : List Entry) → KeepsSessions journal → Named journal
unfolding KeepsSessions sessions_named
all_named journal keeps = Along-keeps IsSeated Named one_more [] journal keeps (record { known = sessions_begin; each = tt })

back_of : (P : Entry → Type 0) (front back : List Entry) → AllByRecursion P (front ++ back) → AllByRecursion P back
back_of P [] back all = all
back_of P (entry ∷ front) back all = back_of P front back all.1

-- *A new tool's sessions are small*
pub small_behind : (plan : PlanData) (run turns : List Entry) → KeepsSessions run → IsFinish plan run turns → IsFaithful plan (run ++ turns) → (state_at plan (run ++ turns)).made < 2 ^ 32 → AllByRecursion (λ entry. entry.session < 2 ^ 64) turns
small_behind plan run turns kept finish faithful few =
    let keeps : KeepsSessions (run ++ turns) = finishes_keep_sessions plan run turns kept finish in
    let numbered : IsNumberedBy plan (run ++ turns) = sessions_numbered plan (run ++ turns) faithful keeps in
    let same : (state_at plan (run ++ turns)).made ≡ sessions_named (run ++ turns) = numbered.made in
    All-weaker (λ (entry : Entry). entry.session ≤ sessions_named (run ++ turns)) (λ (entry : Entry). entry.session < 2 ^ 64) (λ entry least. omega (arith, least, same, few)) turns
    (back_of (λ (entry : Entry). entry.session ≤ sessions_named (run ++ turns)) run turns (all_named (run ++ turns) keeps).each)

-- a run that numbers its sessions one by one makes no more than it has turns
pub run_made : (plan : PlanData) (journal : List Entry) → IsKept plan journal → NumbersSessions journal → IsShort journal → (state_at plan journal).made < 2 ^ 32
run_made plan journal kept numbers short =
    let numbered : IsNumberedBy plan journal = sessions_numbered plan journal kept.faithful kept.sessions in
    let same : (state_at plan journal).made ≡ sessions_named journal = numbered.made in
    let sessions : FewSessions journal = few_sessions journal kept.sessions numbers in
    let few : sessions_named journal ≤ length journal = sessions.few in
    let turns : length journal ≤ 2 ^ 31 = short.turns in omega (arith, same, few, turns)
