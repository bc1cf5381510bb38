pub mod Column
pub mod Element
pub mod Kind
pub mod Run
pub mod RunLaws
pub mod KindLemmas
