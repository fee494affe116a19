-- A worked example of the law over journals: one run of a plan, whose premises are computed by the logic. There is no code; the check of
-- `proofs/` is all that it is for.
pub mod Copy101
