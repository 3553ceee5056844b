pub mod Cells
pub mod FillNumbers
pub mod Fills
pub mod Slots
pub mod Totals
