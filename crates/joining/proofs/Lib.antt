-- Laws that the proofs share.
mod Combining
