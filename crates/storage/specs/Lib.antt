pub mod Sink
pub mod Store
pub mod StoreLaws
pub mod Window
