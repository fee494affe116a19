-- What comes of the words and the source.
use Rattle.std.proofs.Common.{◌≡◌, ℕ, Bool, true, false, nat_lt, length, if◌then◌else◌, List, [], Option, Some, None, IfSome, Result, Ok, Err, inl, inr, refl, sym, ap, subst}
use Rattle.std.specs.Str.{is_utf8}
use Rattle.base_values.specs.SchemaRules.Results.{◌>>=◌}
use Rattle.std.specs.Io.KnownBytes.{Consumes}
use Rattle.base_edges.specs.Edges.{Rose}
use Rattle.base_edges.specs.Whole.{ReadsWhole}
use Rattle.tool_program.specs.Orders.{WorkerTurn}
use Rattle.server_model.specs.declared.entry.Entry.{Entry}
use Rattle.plan_data.specs.PlanData.{PlanData}
use Rattle.plan_reader.specs.declared.fault.PlanRefusal.{PlanRefusal}
use Rattle.plan_reader.specs.declared.fault.PlanRefusal.TheVariants.{TooLong, NotToml}
use Rattle.plan_reader.specs.Refusals.{or_refused}
use Rattle.plan_reader.specs.declared.limits.TheConstants.{PLAN_LIMIT}
use Rattle.plan_reader.specs.Plans.{document, plan_at, read}
use Rattle.top_words.specs.Commands.{command}
use Rattle.top_words.specs.declared.command.Command.{Command}
use Rattle.top_words.specs.declared.command.Command.TheVariants.{Check, Replay, Run, Generate, Trace, Audit, Rebuild}
use Rattle.top_endings.specs.declared.command.PlanCommand.{PlanCommand}
use Rattle.top_endings.specs.declared.command.PlanCommand.TheVariants as plans
use Rattle.top_endings.specs.declared.printed.Printed.{Printed}
use Rattle.top_endings.specs.declared.refusals.Refusal.TheVariants as refusals
use Rattle.top_endings.specs.declared.status.Status.TheVariants as statuses
use Rattle.top_endings.specs.Endings.{Taking, IsUsage, IsReadFault}
use Rattle.top_endings.specs.Checks.{IsSchema}
use Rattle.top_endings.specs.Rebuilt.{has_second_unique}
use Rattle.top_endings.specs.Texts.{IsRefusal, usage_text, read_fault_text}
use Rattle.top_workload.specs.Workloads.{workload}
use Rattle.top_trace_reader.specs.declared.whole.TheConstants.{TRACE_LIMIT}
use Rattle.top_trace_reader.specs.Traces.{read_trace}
use Rattle.top_call.specs.Audits.{IsAuditPrinted, TellsTrace}
use Rattle.top_call.specs.Comings.{ComesTo, HasNoPlan, IsAccepted, LeavesSource, TellsPlan}
use Rattle.top_call.specs.Outcomes.{Comes, IsTaken, IsUntaken, RebuildComes, TakesNone, rebuild_at, report_at, trace_at}

no_turn : IsUntaken [] []
no_turn = record { no_turns = refl; no_journal = refl }

nothing_shown : (Shows : Printed → Type 0) → TakesNone Shows None [] []
nothing_shown Shows = record { untaken = no_turn; shows = tt }

-- A SOURCE THAT A PLAN IS READ FROM

-- nothing is printed, since memory ran out
pub nothing_reported : (source : Taking) → HasNoPlan source None [] []
nothing_reported source = λ chosen. inr (nothing_shown (IsReadFault source))

fault_shown : (source : Taking) (printed : Printed) → printed ≡ record { status = statuses.ReadFault; text = read_fault_text } → Rose source.faults_before source.faults_after → TakesNone (IsReadFault source) (Some printed) [] []
fault_shown source printed is rose = record { untaken = no_turn; shows = record { status_is = ap (λ (one : Printed). one.status) is; text_is = ap (λ (one : Printed). one.text) is; rose = rose } }

-- the source failed
pub fault_reported : (source : Taking) (printed : Option Printed) → IfSome printed (λ one. one ≡ record { status = statuses.ReadFault; text = read_fault_text }) → Rose source.faults_before source.faults_after → HasNoPlan source printed [] []
fault_reported source None is rose = nothing_reported source
fault_reported source (Some printed) is rose = λ chosen. inr (fault_shown source printed is rose)

refusal_comes : (chosen : PlanCommand) (bytes : List ℕ) (refusal : PlanRefusal) (printed : Option Printed) → IfSome printed (IsRefusal (refusals.Plan refusal)) → Comes chosen bytes (Err refusal) printed [] []
refusal_comes plans.Check bytes refusal printed shows = record { untaken = no_turn; shows = shows }
refusal_comes plans.Replay bytes refusal printed shows = record { untaken = no_turn; shows = shows }
refusal_comes (plans.Run workers) bytes refusal printed shows = record { untaken = no_turn; shows = shows }
refusal_comes plans.Trace bytes refusal printed shows = record { untaken = no_turn; shows = shows }
refusal_comes (plans.Rebuild workers) bytes refusal printed shows = record { untaken = no_turn; shows = shows }

-- its bytes are refused
pub refusal_reported : (source : Taking) (printed : Option Printed) (bytes : List ℕ) (refusal : PlanRefusal) → ReadsWhole PLAN_LIMIT source.before source.after bytes → read bytes ≡ Err refusal → IfSome printed (IsRefusal (refusals.Plan refusal)) → HasNoPlan source printed [] []
refusal_reported source printed bytes refusal whole refused shows = λ chosen. inl (record {
  bytes = bytes;
  whole = whole;
  comes = subst (λ (said : Result PlanData PlanRefusal). Comes chosen bytes said printed [] []) (sym refused) (refusal_comes chosen bytes refusal printed shows);
})

pub accepted_by : (source : Taking) (plan : PlanData) (bytes : List ℕ) → ReadsWhole PLAN_LIMIT source.before source.after bytes → read bytes ≡ Ok plan → IsAccepted source bytes plan
accepted_by source plan bytes whole accepted = record { whole = whole; accepted = accepted }

-- its bytes are a plan, of which this comes under the command
of_plan : (chosen : PlanCommand) (source : Taking) (bytes : List ℕ) (plan : PlanData) (printed : Option Printed) (turns : List WorkerTurn) (journal : List Entry) → IsAccepted source bytes plan → Comes chosen bytes (Ok plan) printed turns journal → TellsPlan chosen source printed turns journal
of_plan chosen source bytes plan printed turns journal was comes = inl (record {
  bytes = bytes;
  whole = was.whole;
  comes = subst (λ (said : Result PlanData PlanRefusal). Comes chosen bytes said printed turns journal) (sym was.accepted) comes;
})

pub schema_reported : (source : Taking) (bytes : List ℕ) (plan : PlanData) (printed : Option Printed) → IsAccepted source bytes plan → IfSome printed (IsSchema plan) → TellsPlan plans.Check source printed [] []
schema_reported source bytes plan printed was shows = of_plan plans.Check source bytes plan printed [] [] was (record { untaken = no_turn; shows = shows })

pub replay_reported : (source : Taking) (bytes : List ℕ) (plan : PlanData) (printed : Option Printed) (turns : List WorkerTurn) (journal : List Entry) → IsAccepted source bytes plan → IsTaken plans.Replay plan (report_at plan journal) printed turns journal → TellsPlan plans.Replay source printed turns journal
replay_reported source bytes plan printed turns journal was taken = of_plan plans.Replay source bytes plan printed turns journal was taken

pub run_reported : (workers : ℕ) (source : Taking) (bytes : List ℕ) (plan : PlanData) (printed : Option Printed) (turns : List WorkerTurn) (journal : List Entry) → IsAccepted source bytes plan → IsTaken (plans.Run workers) plan (report_at plan journal) printed turns journal → TellsPlan (plans.Run workers) source printed turns journal
run_reported workers source bytes plan printed turns journal was taken = of_plan (plans.Run workers) source bytes plan printed turns journal was taken

pub trace_reported : (source : Taking) (bytes : List ℕ) (plan : PlanData) (printed : Option Printed) (turns : List WorkerTurn) (journal : List Entry) → IsAccepted source bytes plan → IsTaken plans.Trace plan (trace_at bytes plan journal) printed turns journal → TellsPlan plans.Trace source printed turns journal
trace_reported source bytes plan printed turns journal was taken = of_plan plans.Trace source bytes plan printed turns journal was taken

-- a rebuild refuses a plan whose altered schema has a second unique key, and takes another
pub second_unique_reported : (workers : ℕ) (source : Taking) (bytes : List ℕ) (plan : PlanData) (printed : Option Printed) → IsAccepted source bytes plan → has_second_unique plan ≡ true → IfSome printed (IsRefusal refusals.SecondUnique) → TellsPlan (plans.Rebuild workers) source printed [] []
second_unique_reported workers source bytes plan printed was more shows =
    of_plan (plans.Rebuild workers) source bytes plan printed [] [] was (subst (λ (b : Bool). RebuildComes b workers bytes plan printed [] []) (sym more) (record { untaken = no_turn; shows = shows }))

pub rebuild_reported : (workers : ℕ) (source : Taking) (bytes : List ℕ) (plan : PlanData) (printed : Option Printed) (turns : List WorkerTurn) (journal : List Entry) → IsAccepted source bytes plan → has_second_unique plan ≡ false → IsTaken (plans.Rebuild workers) plan (rebuild_at plan journal) printed turns journal → TellsPlan (plans.Rebuild workers) source printed turns journal
rebuild_reported workers source bytes plan printed turns journal was one taken =
    of_plan (plans.Rebuild workers) source bytes plan printed turns journal was (subst (λ (b : Bool). RebuildComes b workers bytes plan printed turns journal) (sym one) taken)

-- bytes that are a plan are UTF-8
pub plans_are_utf8 : (bytes : List ℕ) (plan : PlanData) → read bytes ≡ Ok plan → is_utf8 bytes ≡ true
unfolding read document
plans_are_utf8 bytes plan is = by _ plan_at (is_utf8 bytes) (nat_lt PLAN_LIMIT (length bytes)) is where
  by : {A : Type 0} (document : Option A) (plan_of : A → Result PlanData PlanRefusal) (utf8 long : Bool) → (if long then Err TooLong else (or_refused NotToml (if utf8 then document else None) >>= plan_of)) ≡ Ok plan → utf8 ≡ true
  by document plan_of true long is = refl
  by document plan_of false true is = absurd cc
  by document plan_of false false is = absurd cc

-- A SOURCE THAT A TRACE IS READ FROM

-- nothing is printed, since memory ran out
pub no_trace_reported : (source : Taking) → TellsTrace source None [] []
no_trace_reported source = inr (nothing_shown (IsReadFault source))

-- the source failed
pub trace_fault_reported : (source : Taking) (printed : Option Printed) → IfSome printed (λ one. one ≡ record { status = statuses.ReadFault; text = read_fault_text }) → Rose source.faults_before source.faults_after → TellsTrace source printed [] []
trace_fault_reported source None is rose = no_trace_reported source
trace_fault_reported source (Some printed) is rose = inr (fault_shown source printed is rose)

-- its bytes were judged, or refused
pub audit_reported : (source : Taking) (printed : Option Printed) (bytes : List ℕ) → ReadsWhole TRACE_LIMIT source.before source.after bytes → IfSome printed (IsAuditPrinted (read_trace bytes)) → TellsTrace source printed [] []
audit_reported source printed bytes whole shows = inl (record { bytes = bytes; whole = whole; comes = record { untaken = no_turn; shows = shows } })

-- THE WORDS

takes_nothing : (left : Option (List ℕ)) → Consumes left left []
takes_nothing None = tt
takes_nothing (Some bytes) = refl

abbrev Unmoved : Option (List ℕ) → ℕ → Taking
Unmoved left faults = record { before = left; after = left; faults_before = faults; faults_after = faults }

-- a source that wasn't asked is as it was
left_as_it_was : (left : Option (List ℕ)) (faults : ℕ) (Shows : Printed → Type 0) (printed : Option Printed) → TakesNone Shows printed [] [] → LeavesSource (Unmoved left faults) Shows printed [] []
left_as_it_was left faults Shows printed comes = record { takes_none = takes_nothing left; comes = comes }

-- nothing is printed, whatever the command is, and the source wasn't asked
pub nothing_comes : (chosen : Option Command) (left : Option (List ℕ)) (faults : ℕ) → ComesTo chosen (Unmoved left faults) None [] []
unfolding ComesTo
nothing_comes None left faults = left_as_it_was left faults _ None (nothing_shown _)
nothing_comes (Some Check) left faults = nothing_reported (Unmoved left faults) plans.Check
nothing_comes (Some Replay) left faults = nothing_reported (Unmoved left faults) plans.Replay
nothing_comes (Some (Run workers)) left faults = nothing_reported (Unmoved left faults) (plans.Run workers)
nothing_comes (Some (Generate number)) left faults = left_as_it_was left faults _ None (nothing_shown _)
nothing_comes (Some Trace) left faults = nothing_reported (Unmoved left faults) plans.Trace
nothing_comes (Some Audit) left faults = no_trace_reported (Unmoved left faults)
nothing_comes (Some (Rebuild workers)) left faults = nothing_reported (Unmoved left faults) (plans.Rebuild workers)

-- what comes under the commands that read a plan
pub check_comes : (source : Taking) (printed : Option Printed) (turns : List WorkerTurn) (journal : List Entry) → TellsPlan plans.Check source printed turns journal → ComesTo (Some Check) source printed turns journal
unfolding ComesTo
check_comes source printed turns journal tells = tells

pub replay_comes : (source : Taking) (printed : Option Printed) (turns : List WorkerTurn) (journal : List Entry) → TellsPlan plans.Replay source printed turns journal → ComesTo (Some Replay) source printed turns journal
unfolding ComesTo
replay_comes source printed turns journal tells = tells

pub trace_comes : (source : Taking) (printed : Option Printed) (turns : List WorkerTurn) (journal : List Entry) → TellsPlan plans.Trace source printed turns journal → ComesTo (Some Trace) source printed turns journal
unfolding ComesTo
trace_comes source printed turns journal tells = tells

pub audit_comes : (source : Taking) (printed : Option Printed) (turns : List WorkerTurn) (journal : List Entry) → TellsTrace source printed turns journal → ComesTo (Some Audit) source printed turns journal
unfolding ComesTo
audit_comes source printed turns journal tells = tells

pub rebuild_comes : (workers : ℕ) (source : Taking) (printed : Option Printed) (turns : List WorkerTurn) (journal : List Entry) → TellsPlan (plans.Rebuild workers) source printed turns journal → ComesTo (Some (Rebuild workers)) source printed turns journal
unfolding ComesTo
rebuild_comes workers source printed turns journal tells = tells

-- under words that ask for a run
pub run_comes : (words : List (List ℕ)) (workers : ℕ) (source : Taking) (printed : Option Printed) (turns : List WorkerTurn) (journal : List Entry) → command words ≡ Some (Run workers) → TellsPlan (plans.Run workers) source printed turns journal → ComesTo (command words) source printed turns journal
unfolding ComesTo
run_comes words workers source printed turns journal is tells = subst (λ (chosen : Option Command). ComesTo chosen source printed turns journal) (sym is) tells

usage_shown : (left : Option (List ℕ)) (faults : ℕ) (printed : Option Printed) → IfSome printed (λ one. one ≡ record { status = statuses.Usage; text = usage_text }) → TakesNone (IsUsage (Unmoved left faults)) printed [] []
usage_shown left faults None is = nothing_shown _
usage_shown left faults (Some printed) is = record { untaken = no_turn; shows = record { status_is = ap (λ (one : Printed). one.status) is; text_is = ap (λ (one : Printed). one.text) is; takes_none = takes_nothing left } }

-- the usage, where the words are no command
pub faulty_comes : (left : Option (List ℕ)) (faults : ℕ) (printed : Option Printed) → IfSome printed (λ one. one ≡ record { status = statuses.Usage; text = usage_text }) → ComesTo None (Unmoved left faults) printed [] []
unfolding ComesTo
faulty_comes left faults printed is = left_as_it_was left faults _ printed (usage_shown left faults printed is)

-- the plan of a number
pub workload_comes : (number : ℕ) (left : Option (List ℕ)) (faults : ℕ) (printed : Option Printed) → IfSome printed (λ one. one ≡ record { status = statuses.Done; text = workload number }) → ComesTo (Some (Generate number)) (Unmoved left faults) printed [] []
unfolding ComesTo
workload_comes number left faults None is = left_as_it_was left faults _ None (nothing_shown _)
workload_comes number left faults (Some printed) is =
    left_as_it_was left faults _ (Some printed) (record { untaken = no_turn; shows = record { status_is = ap (λ (one : Printed). one.status) is; text_is = ap (λ (one : Printed). one.text) is; takes_none = takes_nothing left } })
