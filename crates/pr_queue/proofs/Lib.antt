pub mod Lists
pub mod Rings
pub mod Stands
pub use Rattle.spec_alerts.proofs.Offers as AlertsOffers
