-- The range that the setup reads; how the turns in which tasks failed become more, and that there is room for them.
use Rattle.std.proofs.Common.{◌≡◌, ◌<◌, ◌≤◌, ◌+◌, ℕ, Option, Some, None, refl, sym, ◌∙◌, subst, length, arith}
use Rattle.server_model.specs.declared.answer.Answer.{Answer}
use Rattle.server_model.specs.declared.answer.Answer.TheVariants.{Lost}
use Rattle.server_model.specs.declared.answer.KeyRange.{KeyRange}
use Rattle.tool_program.specs.ToolSetup.Meanings.{range_reported}
use Rattle.tool_program.specs.declared.tool_setup.setup.Setup.{Setup}
use Rattle.tool_program.specs.declared.tool_setup.setup.Setup.TheVariants.{Listing, Clearing, MakingLog, MakingGhost, Marking, Reaching}
use Rattle.tool_state.specs.ToolState.TryTurns.{TryTurns}
use Rattle.tool_state.specs.declared.tool_state.tool.Tool.{Tool}
use Rattle.tool_state.specs.ToolState.Sound.{IsRoomy, HasRoom, IsRead, HasSpaceFor, HasSpace, Grows, IsAttemptMore, TriesGrow}

-- a lost session reads no range
pub read_lost : (setup : Option Setup) → IsRead setup None Lost
read_lost None = tt
read_lost (Some Listing) = tt
read_lost (Some (Clearing left)) = tt
read_lost (Some MakingLog) = tt
read_lost (Some MakingGhost) = tt
read_lost (Some Marking) = tt
read_lost (Some (Reaching position)) = refl

-- the range that is read once the setup is over
pub read_over : (setup : Setup) (position : ℕ) (range : Option KeyRange) (answer : Answer) → setup ≡ Reaching position → IsRead (Some setup) range answer → range ≡ range_reported answer
read_over setup position range answer is read = subst (λ (s : Setup). IsRead (Some s) range answer) is read

-- a turn of the applier's that drains
pub tries_drained : (before middle after : Tool) → TriesGrow before middle → middle.work.attempt_tries ≡ before.work.attempt_tries → IsAttemptMore middle after → TriesGrow before after
tries_drained before middle after grows same more = record {
  setup = subst (Grows before.setup_tries) (sym more.setup) grows.setup;
  chunk = subst (Grows before.work.chunk_tries) (sym more.chunk) grows.chunk;
  batch = subst (Grows before.work.batch_tries) (sym more.batch) grows.batch;
  attempt = subst (λ (tries : TryTurns). Grows tries after.work.attempt_tries) same more.attempt;
  spent = more.spent ∙ grows.spent;
}

space_for_more : (limit count : ℕ) (before after : TryTurns) → Grows before after → HasSpaceFor limit count before → HasSpaceFor limit (count + 1) after
space_for_more limit count before after grows space = record {
  room = subst (λ (n : ℕ). limit ≤ n) (sym grows.room) space.room;
  few = let few : length before.turns ≤ count = space.few in let more : length after.turns ≤ length before.turns + 1 = grows.turns in omega (arith, few, more);
}

-- *Space with one turn more*
pub space_more : (limit count : ℕ) (before after : Tool) → TriesGrow before after → HasSpace limit count before → HasSpace limit (count + 1) after
space_more limit count before after grows space = record {
  setup = space_for_more limit count before.setup_tries after.setup_tries grows.setup space.setup;
  chunk = space_for_more limit count before.work.chunk_tries after.work.chunk_tries grows.chunk space.chunk;
  batch = space_for_more limit count before.work.batch_tries after.work.batch_tries grows.batch space.batch;
  attempt = space_for_more limit count before.work.attempt_tries after.work.attempt_tries grows.attempt space.attempt;
  spent = subst (λ (n : ℕ). limit ≤ n) (sym grows.spent) space.spent;
}

roomy : (limit count room : ℕ) (tries : TryTurns) → limit ≤ room → count < limit → HasSpaceFor limit count tries → IsRoomy room tries
roomy limit count room tries most less space =
    let few : length tries.turns ≤ count = space.few in let wide : limit ≤ tries.room = space.room in
    record { own = omega (arith, few, wide, less); spent = omega (arith, few, most, less) }

-- *Space is room* for a turn of those that there is space for
pub has_room : (limit count : ℕ) (tool : Tool) → count < limit → HasSpace limit count tool → HasRoom tool
has_room limit count tool less space = record {
  setup = roomy limit count tool.spent.room tool.setup_tries space.spent less space.setup;
  chunk = roomy limit count tool.spent.room tool.work.chunk_tries space.spent less space.chunk;
  batch = roomy limit count tool.spent.room tool.work.batch_tries space.spent less space.batch;
  attempt = roomy limit count tool.spent.room tool.work.attempt_tries space.spent less space.attempt;
}

-- the count of turns is no part of it
pub tries_counted : (before : Tool) (turns : ℕ) (after : Tool) → TriesGrow (record before { turns = turns }) after → TriesGrow before after
tries_counted before turns after grows = record { setup = grows.setup; chunk = grows.chunk; batch = grows.batch; attempt = grows.attempt; spent = grows.spent }

stays : (tries : TryTurns) → Grows tries tries
stays tries = record { room = refl; turns = omega arith }

-- nothing failed
pub tries_stay : (before : Tool) (turns : ℕ) → TriesGrow before (record before { turns = turns })
tries_stay before turns = record { setup = stays before.setup_tries; chunk = stays before.work.chunk_tries; batch = stays before.work.batch_tries; attempt = stays before.work.attempt_tries; spent = refl }
