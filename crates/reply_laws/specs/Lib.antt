pub mod Result
pub mod Results
