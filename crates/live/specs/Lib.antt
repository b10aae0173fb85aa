pub mod Tables
pub mod Steps
pub mod Walk
pub mod Near
pub mod Apart
