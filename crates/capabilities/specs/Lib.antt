pub mod Boxes
pub mod Document
pub mod Element
pub mod Layer
pub mod Markup
pub mod Texts
pub mod World
