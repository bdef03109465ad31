pub mod Rounding
pub mod Signs
pub mod HalfLaw
pub mod HalfLawZ
pub mod Digits
pub mod Dropping
pub mod Scaling
pub mod Printing
pub mod RoundTrip
pub mod Parts
pub mod Algebra
pub mod Floors
pub mod FormTexts
pub mod FormsOnly
pub mod Ascii
mod Computing
