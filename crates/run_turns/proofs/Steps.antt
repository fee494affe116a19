-- What a step reads of the server that stands behind the journal.
use Rattle.std.proofs.Common.{◌≡◌, ◌<◌, ℕ, ◌+◌, Bool, true, false, ◌||◌, List, length, Option, None, sym, ap, ◌∙◌, subst, arith}
use Rattle.std.specs.Prelude.{option_map, nat_le}
use Rattle.std.proofs.lemmas.Bool.{true≢false, leb-false}
use Rattle.server_model.specs.declared.entry.Entry.{Entry}
use Rattle.server_model.specs.States.{State}
use Rattle.plan_data.specs.PlanData.{PlanData}
use Rattle.tool_program.specs.JournalWords.Journals.{state_at}
use Rattle.tool_program.specs.Programs.{waits}
use Rattle.tool_program.specs.Tools.{moment}
use Rattle.tool_program.specs.Verdicts.{has_ended}
use Rattle.proof_journals.specs.Run.Counts.{IsAfter}
use Rattle.proof_journals.proofs.Run.Taking.{server_is}
use Rattle.run_state.proofs.Givens.{waits_same}
use Rattle.run_turns.specs.Runs.{is_over}

-- it stands behind the moment's
pub after_moment : (plan : PlanData) (journal : List Entry) (server : State) → IsAfter (state_at plan journal) server → IsAfter (moment plan journal).server server
after_moment plan journal server following = subst (λ (s : State). IsAfter s server) (sym (server_is plan journal)) following

-- the same sessions wait
pub waits_after : (reported server : State) (session : Option ℕ) → IsAfter reported server → waits server session ≡ waits reported session
waits_after reported server session following = ap (λ (s : State). waits s session) following.same ∙ waits_same server.made reported session

-- nothing is due where no turn comes next
pub none_due : {A B : Type 0} (f : A → B) (next : Option A) (due : Option B) → option_map f next ≡ due → next ≡ None → due ≡ None
none_due f next due is none = sym is ∙ ap (option_map f) none

-- a run that isn't over has room for a turn more
room_at : (ended : Bool) (count limit : ℕ) → (ended || nat_le limit count) ≡ false → count < limit
room_at true count limit is = absurd (true≢false is)
room_at false count limit is = leb-false limit count is

pub has_room : (plan : PlanData) (journal : List Entry) → is_over plan journal ≡ false → length journal < plan.options.turn_limit
unfolding is_over
has_room plan journal is = room_at (has_ended plan journal) (length journal) plan.options.turn_limit is

pub few_more : (count limit : ℕ) → limit < 4294967296 → nat_le limit count ≡ false → count + 1 < 4294967296
few_more count limit few less = let below : count < limit = leb-false limit count less in omega (arith, few, below)
