mod Reading
mod Moments
mod Each
mod Asked
mod Costs
mod Taking
mod Trees
mod Answering
mod Fronts
mod Operands
mod Plainly
mod Inside
mod EachTime
mod Gathering
mod Subqueries
mod RangeAsks
mod RangeCalls
mod RangeOperands
mod RangeKinds
mod Sizes
mod NoRange
mod Operations
mod TextLists
mod Stamps
mod Absences
pub mod Choosing
pub mod AskedSeries
pub mod Named
pub mod ToldApart
pub mod SubquerySteps
pub mod SeriesGathered
pub mod Numbers
pub mod SubqueryAnswers
pub use Rattle.spec_meaning.proofs.TypesParts
pub use Rattle.pr_range.proofs.HeadArrivals
pub use Rattle.pr_range.proofs.HeadIntakeIntake
pub use Rattle.pr_range.proofs.HeadNewest
pub use Rattle.pr_range.proofs.HeadSimulation
pub use Rattle.pr_fn.proofs.Twice as FnTwice
