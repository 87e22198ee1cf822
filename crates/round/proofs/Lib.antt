-- Laws that the proofs share.
mod Reading
