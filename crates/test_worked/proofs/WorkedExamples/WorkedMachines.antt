-- Worked rows of the tool's machines at their starts, computed by the logic. There is no code; the check of `proofs/` is all
-- that it is for.
pub mod Starts
