-- The applier's statements by key, where the place of the clustered key is told.
use Rattle.std.proofs.Common.{◌≡◌, ℕ, Some, sym, ◌∙◌, subst}
use Rattle.base_values.specs.declared.gho_schema.schema.Schema.{Schema}
use Rattle.base_values.specs.GhoSchema.ClusteredKey.{clustered_place}
use Rattle.base_values.specs.GhoSchema.Rows.{key_of, key_places}
use Rattle.base_values.specs.declared.mysql_errors.TheConstants.{ER_DUP_ENTRY}
use Rattle.server_model.specs.Answers.{refuses}
use Rattle.server_model.specs.StatementResults.{only, tells}
use Rattle.proof_journals.specs.Ghost.Rows.Moments.{Row}
use Rattle.proof_journals.specs.Ghost.Rows.Views.{view_of}
use Rattle.proof_journals.specs.Ghost.HeldKeys.{Clustered}
use Rattle.proof_journals.specs.Ghost.Laws.{CommitsFit, RowIsRemoved, RowIsChanged, UnfitRowIsMissed, RefusedRowIsRemoved}
use Rattle.proof_journals.specs.Ghost.Statements.{DoesWork, delete_at, update_at, unfit_at}
use Rattle.proof_journals.specs.Ghost.Tool.{AfterStatement, AfterRemoval}
use Rattle.proof_journals.specs.Ghost.Tool.ApplyState.{Whole, Half}
use Rattle.proof_journals.proofs.Ghost.Fitting.{events_lead, found_behind}
use Rattle.proof_journals.proofs.Ghost.Keys.{clustered}
use Rattle.proof_journals.proofs.Ghost.Tooling.{tool_removes, tool_changes, tool_changes_none, tool_removes_again}

pub commits_fit : CommitsFit
commits_fit name events tables table is fits found = (events_lead name events tables table is fits found, found_behind name events tables table is fits found)

one_place : (schema : Schema) (at : Clustered schema) (place : ℕ) → clustered_place schema ≡ Some place → at.place ≡ place
one_place schema at place is = let both : Some at.place ≡ Some place = sym at.at ∙ is in cc

pub row_is_removed : RowIsRemoved
row_is_removed m at rows copy progress ghost copier applier now hold holds own operation next row rest place plan is served tool does given besides =
    let key : Row = key_of (key_places m.schema) row in
    subst (λ (p : ℕ). DoesWork m operation (delete_at p key) → AfterRemoval m at rows copy progress ghost (tells m.new (view_of m ghost) (delete_at p key)).changes copier applier now holds own next row rest) (one_place m.new (clustered m.new plan.new_key) place is)
    (λ work. tool_removes m at rows copy progress ghost copier applier now hold holds own operation next row rest plan served tool work given besides) does

pub row_is_changed : RowIsChanged
row_is_changed m at rows copy progress ghost copier applier now hold holds own operation next before row made rest place plan is served tool imaged does given besides done =
    let key : Row = key_of (key_places m.schema) before in
    subst (λ (p : ℕ). DoesWork m operation (update_at p key made) → (tells m.new (view_of m ghost) (update_at p key made) ≡ only (refuses ER_DUP_ENTRY) → ⊥) → AfterStatement m at rows copy (Whole next rest) progress ghost (tells m.new (view_of m ghost) (update_at p key made)).changes copier applier now holds own)
    (one_place m.new (clustered m.new plan.new_key) place is)
    (λ work not_refused. tool_changes m at rows copy progress ghost copier applier now hold holds own operation next before row made rest plan served tool imaged work given besides not_refused) does done

pub unfit_row_is_missed : UnfitRowIsMissed
unfit_row_is_missed m at rows copy progress ghost copier applier now hold holds own operation next before row fault rest place plan is served tool does given besides none =
    let key : Row = key_of (key_places m.schema) before in
    subst (λ (p : ℕ). DoesWork m operation (unfit_at p key fault) → AfterStatement m at rows copy (Whole next rest) progress ghost (tells m.new (view_of m ghost) (unfit_at p key fault)).changes copier applier now holds own) (one_place m.new (clustered m.new plan.new_key) place is)
    (λ work. tool_changes_none m at rows copy progress ghost copier applier now hold holds own operation next before row fault rest plan served tool work given besides none) does

pub refused_row_is_removed : RefusedRowIsRemoved
refused_row_is_removed m at rows copy progress ghost copier applier now hold holds own operation next before row rest place plan is served tool does given besides =
    let key : Row = key_of (key_places m.schema) before in
    subst (λ (p : ℕ). DoesWork m operation (delete_at p key) → AfterStatement m at rows copy (Half next before row rest) progress ghost (tells m.new (view_of m ghost) (delete_at p key)).changes copier applier now holds own) (one_place m.new (clustered m.new plan.new_key) place is)
    (λ work. tool_removes_again m at rows copy progress ghost copier applier now hold holds own operation next before row rest plan served tool work given besides) does
