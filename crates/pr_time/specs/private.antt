pub mod SpanParts
pub mod SpanReader
