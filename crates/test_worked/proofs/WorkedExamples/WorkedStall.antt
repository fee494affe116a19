-- A worked example of why someone is ready only where no script leaves a transaction open: a run that stalls, computed by the
-- logic. There is no code; the check of `proofs/` is all that it is for.
pub mod OpenScript
