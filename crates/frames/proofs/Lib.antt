-- Laws that the proofs share.
mod Walks
