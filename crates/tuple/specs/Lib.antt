pub mod Empties
pub mod EmptiesLaws
pub mod Pair
pub mod PairLaws
pub mod Form
pub mod Sides
