pub mod Tables
mod One
mod Ways
