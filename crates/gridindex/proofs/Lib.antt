pub mod Covering
pub mod Hits
pub mod Orders
pub mod Rising
pub mod InOrder
pub mod Lesser
