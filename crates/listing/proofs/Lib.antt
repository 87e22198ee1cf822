-- Laws that the proofs share.
mod Standing
mod Answers
