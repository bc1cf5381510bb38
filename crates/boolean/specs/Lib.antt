pub mod Bools
pub mod BoolsLaws
pub mod Tail
pub mod Form
