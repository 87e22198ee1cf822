-- Laws that the proofs share.
mod Finding
