-- What the contracts of the library for C cite.
pub mod Refusing
pub mod Said
pub mod Words
pub mod Compiling
pub mod Running
pub mod Texts
pub mod Held
pub mod Lent
pub mod Lasting
pub mod Feeding
pub mod Asking
