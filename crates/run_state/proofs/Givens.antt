-- What is given doesn't turn on the numbers of sessions that were made besides; and what comes next is what is given.
use Rattle.std.proofs.Common.{◌≡◌, ℕ, List, Option, Some, None, refl, ap, ◌∙◌}
use Rattle.std.specs.Prelude.{if◌then◌else◌}
use Rattle.std.specs.Option.{option_map}
use Rattle.base_script.specs.declared.actor.Actor.{Actor}
use Rattle.base_script.specs.declared.operator.OperatorWord.{OperatorWord}
use Rattle.base_script.specs.declared.actor.Actor.TheVariants.{Op, Insp, Copy, Apply, Lock, Ren, Client}
use Rattle.base_script.specs.declared.script.ScriptWord.{ScriptWord}
use Rattle.base_script.specs.declared.script.ScriptWord.TheVariants as words
use Rattle.server_model.specs.declared.entry.Asked.{Asked}
use Rattle.server_model.specs.declared.entry.Asked.TheVariants.{Call, Command}
use Rattle.server_model.specs.declared.entry.Asked.TheVariants as asked
use Rattle.server_model.specs.declared.entry.Entry.{Entry}
use Rattle.server_model.specs.States.{State, unread}
use Rattle.plan_data.specs.PlanData.{PlanData}
use Rattle.tool_program.specs.JournalWords.Sessions.{live_session}
use Rattle.tool_program.specs.JournalWords.Clients.{word_asks}
use Rattle.tool_program.specs.Tools.{Work, ToolPhase, SettingUp, Migrating, Tool, is_reverting, moment}
use Rattle.tool_program.specs.Programs.{waits, rolls_back, copy_call, tool_call, tool_asks}
use Rattle.tool_program.specs.Programs as programs
use Rattle.tool_state.specs.Feeds.{feed_call}
use Rattle.tool_state.specs.declared.feed_call.FeedCall.TheVariants.{Free}
use Rattle.tool_state.specs.NextCalls as calls
use Rattle.tool_state.specs.declared.next_call.NextCall.{NextCall}
use Rattle.run_actors.specs.ClientTurns.ClientCalls as clients
use Rattle.run_actors.specs.declared.client_turns.requests.ClientCall.{ClientCall}
use Rattle.run_actors.specs.declared.client_turns.requests.ClientCall.TheVariants.{Poll, Line}
use Rattle.run_state.specs.declared.next_asked.NextAsked.TheVariants as next
use Rattle.run_state.specs.NextAsked.{asked_in}
use Rattle.proof_journals.specs.Run.Counts.{numbered, IsAfter}

pub waits_same : (made : ℕ) (state : State) (session : Option ℕ) → waits (numbered made state) session ≡ waits state session
waits_same made state None = refl
waits_same made state (Some session) = refl

rolls_same : (made : ℕ) (state : State) (session : Option ℕ) → rolls_back (numbered made state) session ≡ rolls_back state session
rolls_same made state None = refl
rolls_same made state (Some session) = refl

call_same : (plan : PlanData) (made : ℕ) (state : State) (journal : List Entry) (tool : Tool) (tool_phase : ToolPhase) (actor : Actor) → tool_call plan (numbered made state) journal tool tool_phase actor ≡ tool_call plan state journal tool tool_phase actor
unfolding unread
call_same plan made state journal tool (SettingUp setup tries) Op = refl
call_same plan made state journal tool (SettingUp setup tries) Insp = refl
call_same plan made state journal tool (SettingUp setup tries) Copy = refl
call_same plan made state journal tool (SettingUp setup tries) Apply = refl
call_same plan made state journal tool (SettingUp setup tries) Lock = refl
call_same plan made state journal tool (SettingUp setup tries) Ren = refl
call_same plan made state journal tool (SettingUp setup tries) (Client client) = refl
call_same plan made state journal tool (Migrating work) Op = refl
call_same plan made state journal tool (Migrating work) Insp = refl
call_same plan made state journal tool (Migrating work) Copy = ap (λ request. if is_reverting tool.reason then request else copy_call plan state journal tool work) (rolls_same made state (live_session journal Copy))
call_same plan made state journal tool (Migrating work) Apply =
    ap (λ request. if is_reverting tool.reason then request else programs.apply_call plan state journal tool work) (rolls_same made state (live_session journal Apply))
call_same plan made state journal tool (Migrating work) Lock = refl
call_same plan made state journal tool (Migrating work) Ren = refl
call_same plan made state journal tool (Migrating work) (Client client) = refl

asks_same : (plan : PlanData) (made : ℕ) (state : State) (journal : List Entry) (tool : Tool) (actor : Actor) → tool_asks plan journal (record { server = numbered made state; tool = tool }) actor ≡ tool_asks plan journal (record { server = state; tool = tool }) actor
asks_same plan made state journal tool actor =
    ap (λ b. if b then Some asked.Poll else programs.calls (tool_call plan (numbered made state) journal tool tool.tool_phase actor)) (waits_same made state (live_session journal actor))
    ∙ ap (λ request. if waits state (live_session journal actor) then Some asked.Poll else programs.calls request) (call_same plan made state journal tool tool.tool_phase actor)

-- what an actor of the tool asks, by the server as it is and the tool's record
pub asks_is : (plan : PlanData) (journal : List Entry) (state : State) (tool : Tool) (actor : Actor) → IsAfter (moment plan journal).server state → tool ≡ (moment plan journal).tool
    → tool_asks plan journal (record { server = state; tool = tool }) actor ≡ tool_asks plan journal (moment plan journal) actor
asks_is plan journal state tool actor following is =
    ap (λ (s : State). tool_asks plan journal (record { server = s; tool = tool }) actor) following.same
    ∙ asks_same plan state.made (moment plan journal).server journal tool actor
    ∙ ap (λ (t : Tool). tool_asks plan journal (record { server = (moment plan journal).server; tool = t }) actor) is

-- WHAT COMES NEXT

module _ (plan : PlanData) (journal : List Entry) (work : Work) where
  pub client_asks_so : (call : Option ClientCall) (given : Option Asked) → option_map clients.asked_in call ≡ given → option_map (asked_in plan journal work) (option_map next.Client call) ≡ given
  client_asks_so None given is = is
  client_asks_so (Some call) given is = is

  pub tool_asks_so : (call : Option NextCall) (given : Option Asked) → option_map (calls.asked_in plan journal work) call ≡ given → option_map (asked_in plan journal work) (option_map next.Tool call) ≡ given
  tool_asks_so None given is = is
  tool_asks_so (Some call) given is = is

-- WHAT NO REPLICA HOLDS BACK

word_is_free : (actor : Actor) (word : ScriptWord) → Free ≡ feed_call actor (Call (word_asks word))
word_is_free Copy words.Begin = refl
word_is_free Copy words.Commit = refl
word_is_free Copy words.Rollback = refl
word_is_free Copy (words.Do statement) = refl
word_is_free Apply words.Begin = refl
word_is_free Apply words.Commit = refl
word_is_free Apply words.Rollback = refl
word_is_free Apply (words.Do statement) = refl
word_is_free Lock words.Begin = refl
word_is_free Lock words.Commit = refl
word_is_free Lock words.Rollback = refl
word_is_free Lock (words.Do statement) = refl
word_is_free actor word = refl

pub client_is_free : (actor : Actor) (call : ClientCall) → Free ≡ feed_call actor (clients.asked_in call)
client_is_free actor (Line word) = word_is_free actor word.now
client_is_free Copy Poll = refl
client_is_free Apply Poll = refl
client_is_free Lock Poll = refl
client_is_free actor Poll = refl

pub command_is_free : (actor : Actor) (word : OperatorWord) → Free ≡ feed_call actor (Command word)
command_is_free Copy word = refl
command_is_free Apply word = refl
command_is_free Lock word = refl
command_is_free actor word = refl
