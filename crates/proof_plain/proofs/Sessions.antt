-- Where a journal numbers its sessions one by one, no number is above that of its turns.
use Rattle.std.proofs.Common.{◌≡◌, ℕ, ◌+◌, ◌≤◌, Bool, true, false, cond, max, List, [], ◌∷◌, ◌++◌, length, Option, Some, None, sym, subst, arith}
use Rattle.std.specs.List.{AllByRecursion}
use Rattle.std.proofs.lemmas.List.{length-append}
use Rattle.base_values.proofs.SchemaRules.Lists.{All-append, All-weaker}
use Rattle.server_model.specs.Along.{Along-both, Along-keeps}
use Rattle.server_model.specs.declared.entry.Asked.{Asked}
use Rattle.server_model.specs.declared.entry.Asked.TheVariants.{Call, Poll, Command, Cut}
use Rattle.server_model.specs.declared.entry.Entry.{Entry}
use Rattle.server_model.specs.Entries.{is_command, is_cut}
use Rattle.tool_program.specs.JournalWords.Sessions.{IsNumbered, IsSeated, KeepsSessions, NumbersSessions, live_session, sessions_named}
use Rattle.proof_journals.proofs.Actors.{Commands, GoesOn, Begins, Placed, SessionsKnown, placed, sessions_begin, sessions_more}
use Rattle.proof_journals.proofs.Sentry.Sessions.{named_more}

-- a turn that begins a session has the number next to the greatest before it
next_number : (before : List Entry) (entry : Entry) (asked : Asked) (live : Option ℕ) → is_command asked ≡ false → is_cut asked ≡ false → live ≡ None → IsNumbered before entry asked live → entry.session ≡ sessions_named before + 1
next_number before entry (Call request) None called uncut none numbered = numbered
next_number before entry (Call request) (Some session) called uncut none numbered = absurd cc
next_number before entry Poll None called uncut none numbered = numbered
next_number before entry Poll (Some session) called uncut none numbered = absurd cc
next_number before entry (Command word) live called uncut none numbered = absurd cc
next_number before entry Cut live called uncut none numbered = absurd cc

abbrev IsNext : List Entry → Entry → Type 0
IsNext before entry = IsNumbered before entry entry.asked (live_session before entry.actor)

-- no more sessions are named than there are turns, and each turn is in one of these
pub record FewSessions (journal : List Entry) : Type 0 where
  pub known : SessionsKnown journal
  pub few : sessions_named journal ≤ length journal
  pub each : AllByRecursion (λ entry. entry.session ≤ length journal) journal

few_more : (before : List Entry) (entry : Entry) → IsSeated before entry × IsNext before entry → FewSessions before → FewSessions (before ++ entry ∷ [])
few_more before entry is was = record {
  known = sessions_more before entry was.known at;
  few = subst (λ (n : ℕ). n ≤ length (before ++ entry ∷ [])) (sym (named_more before entry)) (subst (λ (n : ℕ). cond (is_command entry.asked) (sessions_named before) (max (sessions_named before) entry.session) ≤ n) (sym longer) (grown (is_command entry.asked)));
  each = All-append Within before (entry ∷ []) (All-weaker (λ one. one.session ≤ length before) Within (λ one least. omega (arith, least, longer)) before was.each) (omega (arith, next, longer, old), tt);
}
  where
    Within : Entry → Type 0
    Within one = one.session ≤ length (before ++ entry ∷ [])

    longer : length (before ++ entry ∷ []) ≡ length before + 1
    longer = length-append before (entry ∷ [])

    at : Placed before entry
    at = placed before entry is.0

    old : sessions_named before ≤ length before
    old = was.few

    next : entry.session ≤ sessions_named before + 1
    next = by at where
      by : Placed before entry → entry.session ≤ sessions_named before + 1
      by (Commands command zero) = omega (arith, zero)
      by (GoesOn calls live) = let below : entry.session ≤ sessions_named before = (was.known.own entry.actor entry.session live).1 in omega (arith, below)
      by (Begins calls uncut live more) = let same : entry.session ≡ sessions_named before + 1 = next_number before entry entry.asked (live_session before entry.actor) calls uncut live is.1 in omega (arith, same)

    grown : (b : Bool) → cond b (sessions_named before) (max (sessions_named before) entry.session) ≤ length before + 1
    grown true = omega (arith, old)
    grown false = omega (arith, old, next)

-- *Sessions are few*
pub few_sessions : (journal : List Entry) → KeepsSessions journal → NumbersSessions journal → FewSessions journal
unfolding KeepsSessions NumbersSessions sessions_named
few_sessions journal keeps numbers =
    Along-keeps (λ before entry. IsSeated before entry × IsNext before entry) FewSessions few_more [] journal (Along-both IsSeated IsNext [] journal keeps numbers) (record { known = sessions_begin; few = omega arith; each = tt })
