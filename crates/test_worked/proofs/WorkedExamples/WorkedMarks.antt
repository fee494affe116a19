-- A worked example of the law over journals that follow the program: one run of an alterable plan until its RENAME is done, whose premises
-- are computed by the logic. There is no code; the check of `proofs/` is all that it is for.
pub mod AfterChunk
