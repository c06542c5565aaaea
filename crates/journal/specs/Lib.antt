pub mod Slip
pub mod Record
pub mod Reading
pub mod Law
pub mod Fingerprint
pub mod Name
pub mod Header
pub mod Texts
