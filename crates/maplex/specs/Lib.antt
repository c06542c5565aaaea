pub mod Byte
pub mod ByteFault
pub mod Grammar
pub mod Lexed
pub mod Logic
pub mod Position
pub mod Token
