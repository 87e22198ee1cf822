pub mod AtFront
