-- The crate's definitions.
pub mod Results
