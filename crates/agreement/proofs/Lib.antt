mod WriterRuns
mod WriterMeans
pub mod WritersAgree
pub mod WritersEnd
