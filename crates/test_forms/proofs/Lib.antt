pub mod Table
pub mod Ways
pub mod Depths
pub mod WordsTable
pub mod TextWays
pub mod WordsWritten
