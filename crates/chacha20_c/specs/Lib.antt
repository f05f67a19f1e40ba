pub mod Results
pub mod Files
