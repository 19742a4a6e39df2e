pub mod Ends
pub mod Stand
pub mod Served
pub mod Serves
pub mod Rounds
pub mod Asking
pub mod Report
