use Rattle.std.proofs.Common.{◌≡◌, ℕ, ◌+◌, List, ◌++◌, drop}
use Rattle.server_model.specs.declared.entry.Entry.{Entry}
use Rattle.run_audit.specs.Lines.{lines_of}
use Rattle.top_trace.specs.Texts.{turns_text}
use Rattle.top_trace.proofs.turns.push_turns.Given as goal

pub record Printing (journal : List Entry) (turn index : ℕ) (text first : List ℕ) : Type 0 where
  pub text_is : text ++ turns_text turn (lines_of (drop index journal)) ≡ first ++ turns_text 1 (lines_of journal)
  pub turn_is : turn ≡ index + 1

-- what is printed with the turns that are left is all
abbrev pub invariant-loop-entry : goal.invariant-loop-entry
invariant-loop-entry l = Printing l.journal l.turn l.entry-index l.into l.fn.into
