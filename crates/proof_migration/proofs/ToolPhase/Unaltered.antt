-- Until the RENAME is done every journal that follows the program is a run of its plan, of which the laws of histories hold.
pub mod Asking
pub mod Away
pub mod Runs
