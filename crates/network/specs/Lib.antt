pub mod Accepting
pub mod Closing
pub mod Opening
pub mod Ports
pub mod Sockets
pub mod Times
