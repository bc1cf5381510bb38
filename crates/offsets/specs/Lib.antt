pub mod Head
pub mod Strides
pub mod StridesLaws
pub mod Form
