pub mod Beginning
pub mod Lives
