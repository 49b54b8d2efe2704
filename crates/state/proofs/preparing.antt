pub mod TablesReady
pub mod Complete
