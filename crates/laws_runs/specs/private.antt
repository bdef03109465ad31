pub mod Examples
pub mod Headline
pub mod Worked
