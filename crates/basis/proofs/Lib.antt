pub mod Pairing
