pub mod Reading
pub mod Chosen
pub mod FirstFault
pub mod Used
pub mod Evaluated
pub mod Soundness
