-- The setup takes eight turns a try at most, and another try only after a loss.
use Rattle.std.proofs.Common.{◌≡◌, ◌≤◌, ◌<◌, ℕ, ◌+◌, ◌*◌, Bool, true, false, cond, ◌||◌, List, [], ◌∷◌, ◌++◌, Option, Some, None, refl, sym, ap, ◌∙◌, subst, arith}
use Rattle.std.specs.Prelude.{is_some}
use Rattle.std.proofs.lemmas.Bool.{true≢false, false≢true}
use Rattle.base_script.specs.declared.actor.Actor.{Actor}
use Rattle.base_script.specs.declared.actor.Actor.TheVariants.{Op, Insp, Copy, Apply, Lock, Ren, Client}
use Rattle.base_script.specs.declared.actor.Side.{Side}
use Rattle.base_script.specs.declared.operator.OperatorWord.{OperatorWord}
use Rattle.base_script.specs.declared.operator.OperatorWord.TheVariants.{Throttle, NoThrottle, ChunkSize, Unpostpone, Panic, Wait}
use Rattle.server_model.specs.Along.{Along-keeps}
use Rattle.server_model.specs.declared.answer.Answer.{Answer}
use Rattle.server_model.specs.declared.entry.Asked.{Asked}
use Rattle.server_model.specs.declared.entry.Asked.TheVariants.{Call, Poll, Command, Cut}
use Rattle.server_model.specs.declared.entry.Entry.{Entry}
use Rattle.server_model.specs.declared.outcome.Task.TheVariants as tasks
use Rattle.server_model.specs.Entries.{is_command, is_cut}
use Rattle.plan_data.specs.PlanData.{PlanData}
use Rattle.tool_program.specs.JournalWords.Sessions.{live_session}
use Rattle.tool_program.specs.declared.cutover_core.cutover.Phase.{Phase}
use Rattle.tool_program.specs.declared.cutover_core.cutover.Phase.TheVariants.{Resting, Attempting, Ending, Finishing, Finished}
use Rattle.tool_program.specs.declared.cutover_core.cutover.Role.{Role}
use Rattle.tool_program.specs.declared.cutover_core.cutover.Role.TheVariants.{Inspector, Locker, Renamer}
use Rattle.tool_program.specs.ChunkCopier.Copiers as copiers
use Rattle.tool_program.specs.EventApplier.Appliers as appliers
use Rattle.tool_program.specs.CutoverCore.CutOvers as cutovers
use Rattle.tool_program.specs.CutoverCore.CutOvers.{is_bad}
use Rattle.tool_program.specs.Operators.{commanded}
use Rattle.tool_program.specs.Setups.{Setup, Listing, Clearing, MakingLog, MakingGhost, Marking, Reaching, Ready, setup_after}
use Rattle.tool_program.specs.Tools.{ToolPhase, SettingUp, Migrating, Panicked, Tool, Moment, Work, tool_phase_of, spends, is_reverting, is_failure, stopped, resizes, actor_took, copy_took, apply_took, cutover_took, setup_took, turn_counts, command_took, asked_took, took, moment}
use Rattle.proof_journals.proofs.Machine.Lifting.{reverts_keeps, spends_keeps, attempt_keeps, copy_keeps, apply_keeps, drains_keeps}
use Rattle.proof_journals.proofs.Sentry.Inductions.{moment_more}
use Rattle.proof_bounds.specs.Laws.{is_struck, struck_turns}
use Rattle.proof_bounds.specs.Parts.{Part, OfSetup, OfChunks, OfBatches, OfAttempts, OfClearing, rolls_back, work_part, is_again, ending_part, phase_part, inspector_part, part_by, part_of, same_part, turns_of_part}
use Rattle.proof_bounds.specs.Setups.{setup_left, tool_phase_left, SetupGoes, SetupTurnsAreFew}
use Rattle.tool_program.specs.JournalWords.Bounds.{measures}
use Rattle.proof_bounds.specs.Terms.{term_of}
use Rattle.proof_bounds.proofs.Counting.{count_yes, count_no, count_none}
use Rattle.proof_bounds.proofs.Losses.{losses_strike, struck_more}

-- WHAT IS LEFT, AT MOST

-- so many turns are left of the course
abbrev AtMost : ℕ → Bool → ToolPhase → Type 0
AtMost most reverting tool_phase = tool_phase_left tool_phase ≤ most

stopped_most : (most : ℕ) (b : Bool) (tool_phase : ToolPhase) → AtMost most b tool_phase → AtMost most true (stopped tool_phase)
stopped_most most b (SettingUp setup tries) is = is
stopped_most most b (Migrating work) is = omega arith

abbrev Most : ℕ → Tool → Type 0
Most most tool = tool_phase_left tool.tool_phase ≤ most

unless_most : (most : ℕ) (b : Bool) (tool other : Tool) → Most most tool → Most most other → Most most (cond b tool other)
unless_most most true tool other is more = is
unless_most most false tool other is more = more

cut_most : (plan : PlanData) (most : ℕ) (role : Role) (answer : Answer) (work : Work) (tool : Tool) → Most most (cutover_took plan role answer work tool)
cut_most plan most role answer work tool =
    attempt_keeps (AtMost most) (stopped_most most) plan (is_failure work.cutover.phase (cutovers.took role work.cutover answer).phase) work (cutovers.took role work.cutover answer) tool (λ tries. omega arith)

copy_most : (plan : PlanData) (most : ℕ) (answer : Answer) (work : Work) (tool : Tool) → Most most tool → Most most (copy_took plan answer work tool)
copy_most plan most answer work tool is = copy_keeps (AtMost most) (stopped_most most) plan work (copiers.progress work.copier answer) (copiers.took tool.turns work.copier answer) tool (λ place number same. is) (λ tries. omega arith)

apply_most : (plan : PlanData) (most : ℕ) (answer : Answer) (work : Work) (tool : Tool) → Most most tool → Most most (apply_took plan answer work tool)
apply_most plan most answer work tool is = apply_keeps (AtMost most) (stopped_most most) plan work (appliers.progress work.applier answer) (appliers.took tool.turns work.applier answer) tool (λ place number same. is) (λ tries. omega arith)

of_most : (plan : PlanData) (size most : ℕ) (setup : Setup) (tries : List ℕ) → setup_left setup ≤ most → tool_phase_left (tool_phase_of plan size setup tries) ≤ most
of_most plan size most Listing tries is = is
of_most plan size most (Clearing left) tries is = is
of_most plan size most MakingLog tries is = is
of_most plan size most MakingGhost tries is = is
of_most plan size most Marking tries is = is
of_most plan size most (Reaching position) tries is = is
of_most plan size most (Ready position range) tries is = omega arith

-- the setup's answer: it is at its next step, or begins again
setup_most : (plan : PlanData) (most : ℕ) (setup : Setup) (tries : List ℕ) (answer : Answer) (tool : Tool) → (is_bad answer ≡ true → 8 ≤ most) → (is_bad answer ≡ false → setup_left (setup_after plan.table setup answer) ≤ most) → Most most (setup_took plan setup tries answer tool)
setup_most plan most setup tries answer tool again on = by (is_bad answer) refl where
  by : (b : Bool) → is_bad answer ≡ b
      → Most most (cond b (spends plan tasks.Setup (tries ++ tool.turns ∷ []) (record tool { tool_phase = SettingUp Listing (tries ++ tool.turns ∷ []) })) (record tool { tool_phase = tool_phase_of plan tool.operator.size (setup_after plan.table setup answer) tries }))
  by true bad = spends_keeps (AtMost most) (stopped_most most) plan tasks.Setup (tries ++ tool.turns ∷ []) (record tool { tool_phase = SettingUp Listing (tries ++ tool.turns ∷ []) }) (again bad)
  by false good = of_most plan tool.operator.size most (setup_after plan.table setup answer) tries (on good)

counts_most : (plan : PlanData) (most : ℕ) (actor : Actor) (tool : Tool) → Most most tool → Most most (turn_counts plan actor tool)
counts_most plan most Apply tool is = drains_keeps (AtMost most) (stopped_most most) plan tool.tool_phase tool refl (λ b work tries is. omega arith) is
counts_most plan most Op tool is = is
counts_most plan most Insp tool is = is
counts_most plan most Copy tool is = is
counts_most plan most Lock tool is = is
counts_most plan most Ren tool is = is
counts_most plan most (Client c) tool is = is

command_most : (most : ℕ) (word : OperatorWord) (tool : Tool) → Most most tool → Most most (command_took word tool)
command_most most Panic tool is = reverts_keeps (AtMost most) (stopped_most most) (Panicked tool.turns) (record tool { operator = commanded Panic tool.operator; tool_phase = resizes Panic tool.tool_phase }) is
command_most most Throttle tool is = is
command_most most NoThrottle tool is = is
command_most most Unpostpone tool is = is
command_most most Wait tool is = is
command_most most (ChunkSize size) tool is = by tool.tool_phase is where
  by : (tool_phase : ToolPhase) → tool_phase_left tool_phase ≤ most → tool_phase_left (resizes (ChunkSize size) tool_phase) ≤ most
  by (SettingUp setup tries) is = is
  by (Migrating work) is = omega arith

-- an actor's answer, where it isn't the setup's own
actor_most : (plan : PlanData) (most : ℕ) (actor : Actor) (answer : Answer) (tool_phase : ToolPhase) (tool : Tool) → Most most tool → ((setup : Setup) (tries : List ℕ) → actor ≡ Insp → tool_phase ≡ SettingUp setup tries → Most most (setup_took plan setup tries answer tool)) → Most most (actor_took plan actor answer tool_phase tool)
actor_most plan most Insp answer (SettingUp setup tries) tool is own = unless_most most (is_reverting tool.reason) tool (setup_took plan setup tries answer tool) is (own setup tries refl refl)
actor_most plan most Insp answer (Migrating work) tool is own = cut_most plan most Inspector answer work tool
actor_most plan most Copy answer (SettingUp setup tries) tool is own = is
actor_most plan most Copy answer (Migrating work) tool is own = unless_most most (is_reverting tool.reason) tool (copy_took plan answer work tool) is (copy_most plan most answer work tool is)
actor_most plan most Apply answer (SettingUp setup tries) tool is own = is
actor_most plan most Apply answer (Migrating work) tool is own = unless_most most (is_reverting tool.reason) tool (apply_took plan answer work tool) is (apply_most plan most answer work tool is)
actor_most plan most Lock answer (SettingUp setup tries) tool is own = is
actor_most plan most Lock answer (Migrating work) tool is own = cut_most plan most Locker answer work tool
actor_most plan most Ren answer (SettingUp setup tries) tool is own = is
actor_most plan most Ren answer (Migrating work) tool is own = cut_most plan most Renamer answer work tool
actor_most plan most Op answer tool_phase tool is own = is
actor_most plan most (Client c) answer tool_phase tool is own = is

-- WHOSE TURN IT IS

not_setup_again : (b : Bool) → same_part OfSetup (cond b OfClearing OfAttempts) ≡ false
not_setup_again true = refl
not_setup_again false = refl

not_setup_ending : (live : Option ℕ) (side : Option Side) (asked : Asked) → same_part OfSetup (ending_part live side asked) ≡ false
not_setup_ending live side Poll = refl
not_setup_ending live side (Call request) = not_setup_again (is_again live side)
not_setup_ending live side (Command word) = not_setup_again (is_again live side)
not_setup_ending live side Cut = not_setup_again (is_again live side)

not_setup_phase : (live : Option ℕ) (side : Option Side) (asked : Asked) (phase : Phase) → same_part OfSetup (phase_part live side asked phase) ≡ false
not_setup_phase live side asked Resting = refl
not_setup_phase live side asked (Attempting stage) = refl
not_setup_phase live side asked (Ending clearing) = not_setup_ending live side asked
not_setup_phase live side asked (Finishing clearing) = refl
not_setup_phase live side asked Finished = refl

not_setup_work : (part : Part) → same_part OfSetup part ≡ false → (asked : Asked) → same_part OfSetup (work_part part asked) ≡ false
not_setup_work part other asked = by (rolls_back asked) where
  by : (b : Bool) → same_part OfSetup (cond b OfClearing part) ≡ false
  by true = refl
  by false = other

pub record SetupTurn (tool_phase : ToolPhase) (actor : Actor) (asked : Asked) : Type 0 where
  pub setup : Setup
  pub tries : List ℕ
  pub at : tool_phase ≡ SettingUp setup tries
  pub who : actor ≡ Insp
  pub called : is_command asked ≡ false
  pub uncut : is_cut asked ≡ false

inspector_setup : (live : Option ℕ) (side : Option Side) (asked : Asked) (tool_phase : ToolPhase) → is_command asked ≡ false → is_cut asked ≡ false → same_part OfSetup (inspector_part live side asked tool_phase) ≡ true → SetupTurn tool_phase Insp asked
inspector_setup live side asked (SettingUp setup tries) called uncut is = record { setup = setup; tries = tries; at = refl; who = refl; called = called; uncut = uncut }
inspector_setup live side asked (Migrating work) called uncut is = absurd (false≢true (sym (not_setup_phase live side asked work.cutover.phase) ∙ is))

setup_turn : (tool_phase : ToolPhase) (live : Option ℕ) (side : Option Side) (actor : Actor) (asked : Asked) → same_part OfSetup (part_by tool_phase live side actor asked) ≡ true → SetupTurn tool_phase actor asked
setup_turn tool_phase live side actor (Command word) is = absurd (false≢true is)
setup_turn tool_phase live side actor Cut is = absurd (false≢true is)
setup_turn tool_phase live side Insp (Call request) is = inspector_setup live side (Call request) tool_phase refl refl is
setup_turn tool_phase live side Op (Call request) is = absurd (false≢true is)
setup_turn tool_phase live side Copy (Call request) is = absurd (false≢true (sym (not_setup_work OfChunks refl (Call request)) ∙ is))
setup_turn tool_phase live side Apply (Call request) is = absurd (false≢true (sym (not_setup_work OfBatches refl (Call request)) ∙ is))
setup_turn tool_phase live side Lock (Call request) is = absurd (false≢true is)
setup_turn tool_phase live side Ren (Call request) is = absurd (false≢true is)
setup_turn tool_phase live side (Client c) (Call request) is = absurd (false≢true is)
setup_turn tool_phase live side Insp Poll is = inspector_setup live side Poll tool_phase refl refl is
setup_turn tool_phase live side Op Poll is = absurd (false≢true is)
setup_turn tool_phase live side Copy Poll is = absurd (false≢true is)
setup_turn tool_phase live side Apply Poll is = absurd (false≢true is)
setup_turn tool_phase live side Lock Poll is = absurd (false≢true is)
setup_turn tool_phase live side Ren Poll is = absurd (false≢true is)
setup_turn tool_phase live side (Client c) Poll is = absurd (false≢true is)

-- ONE TURN

eight_most : (setup : Setup) → setup_left setup ≤ 8
eight_most Listing = omega arith
eight_most (Clearing left) = by left.log left.new_table left.old where
  by : (a b c : Bool) → cond a 1 0 + cond b 1 0 + cond c 1 0 + 4 ≤ 8
  by true true true = omega arith
  by true true false = omega arith
  by true false true = omega arith
  by true false false = omega arith
  by false true true = omega arith
  by false true false = omega arith
  by false false true = omega arith
  by false false false = omega arith
eight_most MakingLog = omega arith
eight_most MakingGhost = omega arith
eight_most Marking = omega arith
eight_most (Reaching position) = omega arith
eight_most (Ready position range) = omega arith

tool_phase_eight : (tool_phase : ToolPhase) → tool_phase_left tool_phase ≤ 8
tool_phase_eight (SettingUp setup tries) = eight_most setup
tool_phase_eight (Migrating work) = omega arith

module _ (plan : PlanData) (before : List Entry) (entry : Entry) (goes : SetupGoes plan before entry) where
  abbrev more : List Entry
  more = before ++ entry ∷ []

  abbrev was : ℕ
  was = tool_phase_left (moment plan before).tool.tool_phase

  abbrev tool : Tool
  tool = record (moment plan before).tool { turns = (moment plan before).tool.turns + 1 }

  -- after a turn that isn't the setup's own and isn't lost no more is left
  module _ (own : entry.actor ≡ Insp → (setup : Setup) (tries : List ℕ) → (moment plan before).tool.tool_phase ≡ SettingUp setup tries → is_command entry.asked ≡ false → is_cut entry.asked ≡ false → ⊥) (whole : is_struck entry ≡ false) where
    heard_most : (asked : Asked) → entry.asked ≡ asked → Most was (asked_took plan (moment plan before).server entry asked tool)
    heard_most (Command word) asks = command_most was word tool (omega arith)
    heard_most Cut asks = absurd (true≢false (sym (ap (λ (a : Asked). is_cut a || is_some entry.side) asks) ∙ whole))
    heard_most (Call request) asks =
        counts_most plan was entry.actor (actor_took plan entry.actor entry.answer tool.tool_phase tool)
        (actor_most plan was entry.actor entry.answer tool.tool_phase tool (omega arith) (λ setup tries who at. absurd (own who setup tries at (ap is_command asks) (ap is_cut asks))))
    heard_most Poll asks =
        counts_most plan was entry.actor (actor_took plan entry.actor entry.answer tool.tool_phase tool)
        (actor_most plan was entry.actor entry.answer tool.tool_phase tool (omega arith) (λ setup tries who at. absurd (own who setup tries at (ap is_command asks) (ap is_cut asks))))

    pub others_most : tool_phase_left (moment plan more).tool.tool_phase ≤ was
    unfolding took
    others_most = subst (λ (m : Moment). tool_phase_left m.tool.tool_phase ≤ was) (sym (moment_more plan before entry)) (heard_most entry.asked refl)

  -- after any turn eight are left at most
  pub any_most : tool_phase_left (moment plan more).tool.tool_phase ≤ 8
  any_most = tool_phase_eight (moment plan more).tool.tool_phase

  -- after a turn of the setup that isn't lost fewer are
  module _ (turn : SetupTurn (moment plan before).tool.tool_phase entry.actor entry.asked) (no_side : entry.side ≡ None) where
    less : setup_left (setup_after plan.table turn.setup entry.answer) < setup_left turn.setup
    less = goes.on turn.setup turn.tries turn.at turn.who turn.called turn.uncut no_side

    good : is_bad entry.answer ≡ false
    good = by (is_bad entry.answer) refl where
      again : is_bad entry.answer ≡ true → ⊥
      again bad =
          let eight = eight_most turn.setup in
          let fewer : 8 < setup_left turn.setup = subst (λ (s : Setup). setup_left s < setup_left turn.setup) (ap (λ (b : Bool). cond b Listing (Rattle.tool_program.specs.Setups.setup_step plan.table turn.setup entry.answer)) bad) less in
          omega (arith, eight, fewer)

      by : (b : Bool) → is_bad entry.answer ≡ b → b ≡ false
      by false is = refl
      by true bad = absurd (again bad)

    own_most : Most (setup_left (setup_after plan.table turn.setup entry.answer)) (setup_took plan turn.setup turn.tries entry.answer tool)
    own_most = setup_most plan (setup_left (setup_after plan.table turn.setup entry.answer)) turn.setup turn.tries entry.answer tool (λ bad. absurd (true≢false (sym bad ∙ good))) (λ same. omega arith)

    going : is_reverting tool.reason ≡ false
    going = goes.going turn.setup turn.tries turn.at turn.who turn.called turn.uncut

    took_most : Most (setup_left (setup_after plan.table turn.setup entry.answer)) (actor_took plan entry.actor entry.answer tool.tool_phase tool)
    took_most =
        subst (λ (a : Actor). Most (setup_left (setup_after plan.table turn.setup entry.answer)) (actor_took plan a entry.answer tool.tool_phase tool)) (sym turn.who)
        (subst (λ (c : ToolPhase). Most (setup_left (setup_after plan.table turn.setup entry.answer)) (actor_took plan Insp entry.answer c tool)) (sym turn.at)
        (subst (λ (b : Bool). Most (setup_left (setup_after plan.table turn.setup entry.answer)) (cond b tool (setup_took plan turn.setup turn.tries entry.answer tool))) (sym going) own_most))

    asked_most : (asked : Asked) → entry.asked ≡ asked → Most (setup_left (setup_after plan.table turn.setup entry.answer)) (asked_took plan (moment plan before).server entry asked tool)
    asked_most (Command word) asks = absurd (true≢false (sym (ap is_command asks) ∙ turn.called))
    asked_most Cut asks = absurd (true≢false (sym (ap is_cut asks) ∙ turn.uncut))
    asked_most (Call request) asks = counts_most plan (setup_left (setup_after plan.table turn.setup entry.answer)) entry.actor (actor_took plan entry.actor entry.answer tool.tool_phase tool) took_most
    asked_most Poll asks = counts_most plan (setup_left (setup_after plan.table turn.setup entry.answer)) entry.actor (actor_took plan entry.actor entry.answer tool.tool_phase tool) took_most

    pub own_less : tool_phase_left (moment plan more).tool.tool_phase < was
    unfolding took
    own_less =
        let most : tool_phase_left (moment plan more).tool.tool_phase ≤ setup_left (setup_after plan.table turn.setup entry.answer) =
        subst (λ (m : Moment). tool_phase_left m.tool.tool_phase ≤ setup_left (setup_after plan.table turn.setup entry.answer)) (sym (moment_more plan before entry)) (asked_most entry.asked refl) in
        let fewer = less in
        let same : was ≡ setup_left turn.setup = ap tool_phase_left turn.at in
        omega (arith, most, fewer, same)

-- THE JOURNAL

abbrev IsLeft : PlanData → List Entry → Type 0
IsLeft plan journal = turns_of_part OfSetup plan journal + tool_phase_left (moment plan journal).tool.tool_phase ≤ 8 + 8 * struck_turns journal

left_more : (plan : PlanData) (before : List Entry) (entry : Entry) → SetupGoes plan before entry → IsLeft plan before → IsLeft plan (before ++ entry ∷ [])
unfolding part_of
left_more plan before entry goes left = by (same_part OfSetup (part_of plan before entry)) refl (is_struck entry) refl where
  count : (b : Bool) → is_struck entry ≡ b → struck_turns (before ++ entry ∷ []) ≡ struck_turns before + cond b 1 0
  count b is = struck_more before entry ∙ ap (λ (c : Bool). struck_turns before + cond c 1 0) is

  turn : same_part OfSetup (part_of plan before entry) ≡ true → SetupTurn (moment plan before).tool.tool_phase entry.actor entry.asked
  turn own_is = setup_turn (moment plan before).tool.tool_phase (live_session before entry.actor) entry.side entry.actor entry.asked own_is

  -- another turn is none of the setup's
  not_own : same_part OfSetup (part_of plan before entry) ≡ false → entry.actor ≡ Insp → (setup : Setup) (tries : List ℕ) → (moment plan before).tool.tool_phase ≡ SettingUp setup tries → is_command entry.asked ≡ false → is_cut entry.asked ≡ false → ⊥
  not_own other who setup tries at called uncut = true≢false (sym (own_is entry.asked called uncut) ∙ sym same ∙ other) where
    own_is : (asked : Asked) → is_command asked ≡ false → is_cut asked ≡ false → same_part OfSetup (part_by (SettingUp setup tries) (live_session before entry.actor) entry.side Insp asked) ≡ true
    own_is (Call request) called uncut = refl
    own_is Poll called uncut = refl
    own_is (Command word) called uncut = absurd (true≢false called)
    own_is Cut called uncut = absurd (true≢false uncut)

    same : same_part OfSetup (part_by (moment plan before).tool.tool_phase (live_session before entry.actor) entry.side entry.actor entry.asked) ≡ same_part OfSetup (part_by (SettingUp setup tries) (live_session before entry.actor) entry.side Insp entry.asked)
    same =
        ap (λ (c : ToolPhase). same_part OfSetup (part_by c (live_session before entry.actor) entry.side entry.actor entry.asked)) at
        ∙ ap (λ (a : Actor). same_part OfSetup (part_by (SettingUp setup tries) (live_session before entry.actor) entry.side a entry.asked)) who

  none_side : (side : Option Side) → is_some side ≡ false → side ≡ None
  none_side None is = refl
  none_side (Some side) is = absurd (true≢false is)

  second_no : (a b : Bool) → (a || b) ≡ false → b ≡ false
  second_no true b is = absurd (true≢false is)
  second_no false b is = is

  by : (a : Bool) → same_part OfSetup (part_of plan before entry) ≡ a → (b : Bool) → is_struck entry ≡ b → IsLeft plan (before ++ entry ∷ [])
  by true own_is false whole =
      let turns = count_yes OfSetup plan before entry own_is in
      let struck = count false whole in
      let fewer = own_less plan before entry goes (turn own_is) (none_side entry.side (second_no (is_cut entry.asked) (is_some entry.side) whole)) in
      omega (arith, turns, struck, fewer, left)
  by true own_is true lost =
      let turns = count_yes OfSetup plan before entry own_is in
      let struck = count true lost in
      let some = goes.lost (turn own_is).setup (turn own_is).tries (turn own_is).at (turn own_is).who (turn own_is).called (turn own_is).uncut in
      let same : tool_phase_left (moment plan before).tool.tool_phase ≡ setup_left (turn own_is).setup = ap tool_phase_left (turn own_is).at in
      let eight = any_most plan before entry goes in
      omega (arith, turns, struck, some, same, eight, left)
  by false other false whole =
      let turns = count_no OfSetup plan before entry other in
      let struck = count false whole in
      let most = others_most plan before entry goes (not_own other) whole in
      omega (arith, turns, struck, most, left)
  by false other true lost =
      let turns = count_no OfSetup plan before entry other in
      let struck = count true lost in
      let eight = any_most plan before entry goes in
      omega (arith, turns, struck, eight, left)

none_left : (plan : PlanData) → IsLeft plan []
unfolding moment
none_left plan = let none = count_none OfSetup plan in omega (arith, none)

-- *The setup's turns are few*
pub setup_few : SetupTurnsAreFew
unfolding term_of measures
setup_few plan journal planned goes =
    let left = Along-keeps (SetupGoes plan) (IsLeft plan) (λ before entry one left. left_more plan before entry one left) [] journal goes (none_left plan) in
    let struck = losses_strike plan journal planned in
    omega (arith, left, struck)
