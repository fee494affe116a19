pub mod DeclaredColumns
pub mod Reasons
