pub mod Out
pub mod Changed
pub mod Room
