pub mod Admission
pub mod Form
pub mod FormLaws
