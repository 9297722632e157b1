pub mod Cell
pub mod Object
