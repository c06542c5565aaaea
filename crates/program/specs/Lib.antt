pub mod Answering
pub mod Causes
pub mod Endings
pub mod Explaining
pub mod Hosts
pub mod Journals
pub mod Performing
pub mod Requests
