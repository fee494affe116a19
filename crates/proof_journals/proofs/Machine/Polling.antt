-- What waits was called, and stays well formed.
use Rattle.std.proofs.Common.{◌≡◌, ℕ, Bool, true, false, cond, List, [], ◌∷◌, ◌++◌, Option, Some, None, refl, sym, ap, ◌∙◌, subst}
use Rattle.std.specs.List.{slice_get}
use Rattle.std.proofs.lemmas.Bool.{true≢false}
use Rattle.base_script.specs.declared.actor.Actor.{Actor}
use Rattle.base_script.specs.declared.actor.Actor.TheVariants.{Op, Insp, Copy, Apply, Lock, Ren, Client}
use Rattle.base_script.specs.declared.operator.OperatorWord.{OperatorWord}
use Rattle.table_store.specs.Databases.{Database}
use Rattle.server_model.specs.Along.{Along-keeps}
use Rattle.server_model.specs.Conditions.{IsWellFormed, MayPoll}
use Rattle.server_model.specs.declared.answer.Answer.{Answer}
use Rattle.server_model.specs.declared.answer.Answer.TheVariants as answers
use Rattle.server_model.specs.declared.entry.Asked.{Asked}
use Rattle.server_model.specs.declared.entry.Asked.TheVariants.{Call, Poll, Command, Cut}
use Rattle.server_model.specs.declared.entry.Entry.{Entry}
use Rattle.server_model.specs.declared.request.Request.{Request}
use Rattle.server_model.specs.declared.session.Waiting.{Waiting}
use Rattle.server_model.specs.Entries.{same_actor, is_command}
use Rattle.server_model.specs.States.{waiting_of}
use Rattle.plan_data.specs.PlanData.{PlanData}
use Rattle.tool_program.specs.JournalWords.Clients.{client_at, client_asks}
use Rattle.tool_program.specs.JournalWords.Journals.{state_at, IsFaithful}
use Rattle.tool_program.specs.JournalWords.KeptPlans.{words_of}
use Rattle.tool_program.specs.JournalWords.Sessions.{session_left, live_session}
use Rattle.tool_program.specs.Programs.{commands, tool_asks, given, IsGiven, Follows}
use Rattle.tool_program.specs.Tools.{moment}
use Rattle.tool_program.specs.CutoverCore.CutOvers.{is_wait}
use Rattle.proof_journals.specs.Turns.{request_of}
use Rattle.proof_journals.proofs.Actors.{same_actor_is, same_actor_itself, live_more}
use Rattle.proof_journals.specs.Machine.Standings.{Standing, free, standing_in, standing_of, answered, IsAbout, is_called, is_polled}
use Rattle.proof_journals.specs.Machine.FormedPlans.{IsFitting}
use Rattle.proof_journals.specs.Machine.Laws.{has_keys, GivenPollsMayBeMade}
use Rattle.proof_journals.proofs.Machine.Seated.{IsServed, others_stand, own_stands, own_lost}
use Rattle.proof_journals.proofs.Machine.Asking.{WaitsWith, some_request}
use Rattle.proof_journals.proofs.Machine.Clients.{Next, calls_line, polls_line, client_next}
use Rattle.proof_journals.proofs.Machine.ClientJournals.{ClientsTogether, clients_more, clients_begin}
use Rattle.proof_journals.proofs.Machine.Journals.{IsRun, all_runs, IsTogether, together_more, together_begins, Asking, calls_so, polls_so, asking}
use Rattle.proof_journals.proofs.Machine.Making.{given_formed}

-- all that goes together
pub record AllTogether (plan : PlanData) (journal : List Entry) : Type 0 where
  pub tool : IsTogether plan journal
  pub clients : ClientsTogether plan journal

-- WHAT IS GIVEN TO WHOM

tool_idle : (plan : PlanData) (journal : List Entry) (actor : Actor) (request : Request) → IsTogether plan journal → tool_asks plan journal (moment plan journal) actor ≡ Some (Call request) → (standing_of plan journal actor).waits ≡ None
tool_idle plan journal actor request is gives = by (asking plan journal actor (Call request) is.server gives) where
  by : Asking plan journal actor (Call request) → (standing_of plan journal actor).waits ≡ None
  by (calls_so other same idle call) = idle
  by (polls_so other same some) = absurd (no same) where
    no : Call request ≡ Poll → ⊥
    no both = cc

tool_waits : (plan : PlanData) (journal : List Entry) (actor : Actor) → IsTogether plan journal → tool_asks plan journal (moment plan journal) actor ≡ Some Poll → WaitsWith (standing_of plan journal actor).waits
tool_waits plan journal actor is gives = by (asking plan journal actor Poll is.server gives) where
  by : Asking plan journal actor Poll → WaitsWith (standing_of plan journal actor).waits
  by (polls_so request same some) = record { request = request; is = some }
  by (calls_so request same idle call) = absurd (no same) where
    no : Poll ≡ Call request → ⊥
    no both = cc

client_idle : (plan : PlanData) (journal : List Entry) (c : ℕ) (request : Request) → ClientsTogether plan journal → client_asks plan journal c ≡ Some (Call request) → (standing_of plan journal (Client c)).waits ≡ None
client_idle plan journal c request is gives = by (client_next plan journal c (Call request) gives) where
  by : Next (client_at plan journal c) (Call request) → (standing_of plan journal (Client c)).waits ≡ None
  by (calls_line line lines going off left same) = (is.each c).free off
  by (polls_line going on same) = absurd (no same) where
    no : Call request ≡ Poll → ⊥
    no both = cc

client_waits : (plan : PlanData) (journal : List Entry) (c : ℕ) → ClientsTogether plan journal → client_asks plan journal c ≡ Some Poll → WaitsWith (standing_of plan journal (Client c)).waits
client_waits plan journal c is gives = by (client_next plan journal c Poll gives) where
  by : Next (client_at plan journal c) Poll → WaitsWith (standing_of plan journal (Client c)).waits
  by (polls_line going on same) = let held = (is.each c).held on in record { request = _; is = held.3 }
  by (calls_line line lines going off left same) = absurd (no _ same) where
    no : (request : Request) → Poll ≡ Call request → ⊥
    no request both = cc

pub no_word : (word : Option OperatorWord) (asked : Asked) → is_command asked ≡ false → commands word ≡ Some asked → ⊥
no_word None asked is same = cc
no_word (Some word) asked is same = by asked is (let one : asked ≡ Command word = cc in one) where
  by : (asked : Asked) → is_command asked ≡ false → asked ≡ Command word → ⊥
  by asked is one = no (sym is ∙ ap is_command one) where
    no : false ≡ true → ⊥
    no both = cc

pub given_idle : (plan : PlanData) (journal : List Entry) (actor : Actor) (request : Request) → AllTogether plan journal → given plan journal actor ≡ Some (Call request) → (standing_of plan journal actor).waits ≡ None
unfolding given
given_idle plan journal (Client c) request is gives = client_idle plan journal c request is.clients gives
given_idle plan journal Op request is gives = absurd (no_word (slice_get (words_of plan) (moment plan journal).tool.operator.taken) (Call request) refl gives)
given_idle plan journal Insp request is gives = tool_idle plan journal Insp request is.tool gives
given_idle plan journal Copy request is gives = tool_idle plan journal Copy request is.tool gives
given_idle plan journal Apply request is gives = tool_idle plan journal Apply request is.tool gives
given_idle plan journal Lock request is gives = tool_idle plan journal Lock request is.tool gives
given_idle plan journal Ren request is gives = tool_idle plan journal Ren request is.tool gives

pub given_waits : (plan : PlanData) (journal : List Entry) (actor : Actor) → AllTogether plan journal → given plan journal actor ≡ Some Poll → WaitsWith (standing_of plan journal actor).waits
unfolding given
given_waits plan journal (Client c) is gives = client_waits plan journal c is.clients gives
given_waits plan journal Op is gives = absurd (no_word (slice_get (words_of plan) (moment plan journal).tool.operator.taken) Poll refl gives)
given_waits plan journal Insp is gives = tool_waits plan journal Insp is.tool gives
given_waits plan journal Copy is gives = tool_waits plan journal Copy is.tool gives
given_waits plan journal Apply is gives = tool_waits plan journal Apply is.tool gives
given_waits plan journal Lock is gives = tool_waits plan journal Lock is.tool gives
given_waits plan journal Ren is gives = tool_waits plan journal Ren is.tool gives

-- WHAT WAITS

-- each request that waits is one that its actor may wait with
abbrev pub AllWaits : (Actor → Request → Type 0) → PlanData → List Entry → Type 0
AllWaits P plan journal = (a : Actor) (request : Request) → (standing_of plan journal a).waits ≡ Some request → P a request

-- behind an answer the same request waits, or none
pub waits_same : (P : Request → Type 0) (about request : Request) (answer : Answer) (old : Standing) → P about → (answered about answer old).waits ≡ Some request → P request
waits_same P about request (answers.Waits by) old is some = some_request P about request some is
waits_same P about request answers.Lost old is some = absurd cc
waits_same P about request (answers.TimedOut waited) old is some = absurd cc
waits_same P about request answer old is some = absurd cc

-- an answer that is no wait leaves none
pub answered_idle : (request : Request) (answer : Answer) (old : Standing) → is_wait answer ≡ false → (answered request answer old).waits ≡ None
answered_idle request answers.Lost old unwaits = refl
answered_idle request (answers.Waits by) old unwaits = absurd (true≢false unwaits)
answered_idle request (answers.TimedOut waited) old unwaits = refl
answered_idle request answer old unwaits = refl

module _ (P : Actor → Request → Type 0) (plan : PlanData) (journal : List Entry) (entry : Entry) (is : AllTogether plan journal) (waits : AllWaits P plan journal) (run : IsRun plan journal entry) (called_so : (request : Request) → entry.asked ≡ Call request → given plan journal entry.actor ≡ Some (Call request) → P entry.actor request) where
  abbrev more : List Entry
  more = journal ++ entry ∷ []

  served : IsServed plan journal entry
  served = record { answered = run.answered; seated = record { session = run.followed.session } }

  nothing_waits : (request : Request) → standing_of plan more entry.actor ≡ free → (standing_of plan more entry.actor).waits ≡ Some request → P entry.actor request
  nothing_waits request none some = absurd (no (sym (ap (λ (s : Standing). s.waits) none) ∙ some)) where
    no : None ≡ Some request → ⊥
    no same = cc

  commanded : (word : OperatorWord) → entry.asked ≡ Command word → standing_of plan more entry.actor ≡ free
  commanded word asks =
      ap (standing_in (state_at plan more)) (live_more journal entry entry.actor ∙ ap (λ (b : Bool). cond b (session_left entry.asked entry.answer entry.session) (live_session journal entry.actor)) (same_actor_itself entry.actor)
      ∙ ap (λ (a : Asked). session_left a entry.answer entry.session) asks)

  own_waits : (asked : Asked) → entry.asked ≡ asked → IsGiven plan journal entry asked → (request : Request) → (standing_of plan more entry.actor).waits ≡ Some request → P entry.actor request
  own_waits (Command word) asks gives request some = nothing_waits request (commanded word asks) some
  own_waits Cut asks gives request some = nothing_waits request (own_lost plan journal entry is.tool.known served asks) some
  own_waits (Call called) asks gives request some =
      let about : IsAbout called (standing_of plan journal entry.actor) entry.asked = is_called asks (given_idle plan journal entry.actor called is gives) in
      waits_same (P entry.actor) called request entry.answer (standing_of plan journal entry.actor) (called_so called asks gives) (ap (λ (s : Standing). s.waits) (sym (own_stands plan journal entry is.tool.known served called about)) ∙ some)
  own_waits Poll asks gives request some =
      let with : WaitsWith (standing_of plan journal entry.actor).waits = given_waits plan journal entry.actor is gives in
      waits_same (P entry.actor) with.request request entry.answer (standing_of plan journal entry.actor) (waits entry.actor with.request with.is)
      (ap (λ (s : Standing). s.waits) (sym (own_stands plan journal entry is.tool.known served with.request (is_polled asks with.is))) ∙ some)

  -- *What waits was called*, and stays what it is
  pub waits_more : AllWaits P plan more
  waits_more a request some = by (same_actor entry.actor a) refl where
    by : (b : Bool) → same_actor entry.actor a ≡ b → P a request
    by false differ = waits a request (ap (λ (s : Standing). s.waits) (sym (others_stand plan journal entry is.tool.known served a differ)) ∙ some)
    by true same =
        let one : entry.actor ≡ a = same_actor_is entry.actor a same in
        subst (λ (b : Actor). P b request) one (own_waits entry.asked refl run.followed.given request (ap (λ (b : Actor). (standing_of plan more b).waits) one ∙ some))

pub together_more_all : (plan : PlanData) (journal : List Entry) (entry : Entry) → AllTogether plan journal → IsRun plan journal entry → AllTogether plan (journal ++ entry ∷ [])
together_more_all plan journal entry is run = record { tool = together_more plan journal entry is.tool run; clients = clients_more plan journal entry is.clients run }

pub together_begins_all : (plan : PlanData) → IsFitting plan → AllTogether plan []
together_begins_all plan fit = record { tool = together_begins plan; clients = clients_begin plan fit.scripts }

pub waits_begin : (P : Actor → Request → Type 0) (plan : PlanData) → AllWaits P plan []
unfolding live_session
waits_begin P plan a request some = absurd cc

-- POLLS

-- well formed on any tables, but for the three with keys
abbrev pub FormedAny : Actor → Request → Type 0
FormedAny actor request = has_keys request ≡ false → (tables : Database) → IsWellFormed tables request

pub record WaitsFormed (plan : PlanData) (journal : List Entry) : Type 0 where
  pub all : AllTogether plan journal
  pub waits : AllWaits FormedAny plan journal

formed_more : (plan : PlanData) → IsFitting plan → (journal : List Entry) (entry : Entry) → IsRun plan journal entry → WaitsFormed plan journal → WaitsFormed plan (journal ++ entry ∷ [])
formed_more plan fit journal entry run is = record {
  all = together_more_all plan journal entry is.all run;
  waits = waits_more FormedAny plan journal entry is.all is.waits run (λ request asks gives none tables. given_formed plan journal tables fit entry.actor request (λ same has. absurd (true≢false (sym has ∙ none))) gives);
}

pub all_formed : (plan : PlanData) (journal : List Entry) → IsFitting plan → IsFaithful plan journal → Follows plan journal → WaitsFormed plan journal
unfolding Follows
all_formed plan journal fit faithful follows =
    Along-keeps (IsRun plan) (WaitsFormed plan) (formed_more plan fit) [] journal (all_runs plan [] journal faithful follows) (record { all = together_begins_all plan fit; waits = waits_begin FormedAny plan })

-- a session whose request waits may poll it
pub may_poll : (plan : PlanData) (journal : List Entry) (actor : Actor) (request : Request) → AllTogether plan journal → (live : Option ℕ) → live_session journal actor ≡ live → (standing_in (state_at plan journal) live).waits ≡ Some request → IsWellFormed (state_at plan journal).tables request
    → (n : ℕ) × (live_session journal actor ≡ Some n) × MayPoll (state_at plan journal) n
may_poll plan journal actor request is None lives some formed = absurd cc
may_poll plan journal actor request is (Some n) lives some formed = (n, lives, by (waiting_of n (state_at plan journal).waiting) refl some) where
  by : (found : Option Waiting) → waiting_of n (state_at plan journal).waiting ≡ found → request_of found ≡ Some request → MayPoll (state_at plan journal) n
  by None none same = absurd cc
  by (Some waiting) there same =
      let one : waiting.request ≡ request = cc in
      record { live = is.tool.known.live actor n lives; waiting = waiting; waits = there; formed = subst (IsWellFormed (state_at plan journal).tables) (sym one) formed }

-- *Given polls may be made*
pub given_polls : GivenPollsMayBeMade
given_polls plan journal actor fit faithful follows gives none =
    let is : WaitsFormed plan journal = all_formed plan journal fit faithful follows in
    let with : WaitsWith (standing_of plan journal actor).waits = given_waits plan journal actor is.all gives in
    may_poll plan journal actor with.request is.all (live_session journal actor) refl with.is (is.waits actor with.request with.is (none with.request with.is) (state_at plan journal).tables)
