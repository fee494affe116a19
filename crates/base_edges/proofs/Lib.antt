pub mod Buffers
pub mod WholeTexts
