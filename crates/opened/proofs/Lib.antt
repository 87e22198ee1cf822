-- Laws that the proofs share.
mod Lines
