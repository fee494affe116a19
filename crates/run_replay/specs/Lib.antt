pub mod WholeReplay
