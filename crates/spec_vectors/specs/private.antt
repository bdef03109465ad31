pub mod AggregationExamples
pub mod Examples
pub mod FunctionExamples
pub mod RangeExamples
pub mod Laws
