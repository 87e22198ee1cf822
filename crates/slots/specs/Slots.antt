-- Rows of a structure in a table, as they are numbered.
pub use Rattle.numbering.specs.declared.Code.{Code}
pub use Rattle.numbering.specs.Rows.{Small, Coded, Says, Slots, Rows, Offsets}
unfoldable pub use Rattle.numbering.specs.Rows.{number}
