-- Laws that the proofs share.
mod Frames
