-- Laws that the proofs share.
mod AtRow
mod Looking
mod Starts
