-- Each turn of a journal that follows the program is one of the migration's, so that the ghost relation goes on to the mark.
pub mod Goes
pub mod Laws
