-- The sentry is listed where it exists.
use Rattle.std.proofs.Common.{◌≡◌, false, sym, ◌∙◌, inl, inr}
use Rattle.std.proofs.lemmas.Bool.{true≢false}
use Rattle.table_store.specs.Databases.{Database}
use Rattle.server_model.specs.Listings.{tables_shown}
use Rattle.plan_data.specs.PlanData.{PlanData}
use Rattle.tool_program.specs.CutoverCore.Attempts.{has_sentry}
use Rattle.proof_migration.proofs.Attempt.InspectorAnswers.{sentry_listed}
use Rattle.proof_migration.proofs.Attempt.Stages.{IsFree, SentryAtMost}

-- *Where no sentry is listed the old table's name is free*
pub unlisted_free : (plan : PlanData) (tables : Database) → SentryAtMost plan tables → has_sentry plan.table (tables_shown tables) ≡ false → IsFree plan tables
unlisted_free plan tables (inl free) none = free
unlisted_free plan tables (inr sentry) none = absurd (true≢false (sym (sentry_listed plan.table tables sentry) ∙ none))
