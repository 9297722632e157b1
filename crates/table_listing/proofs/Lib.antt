mod Again
mod Letters
mod Listed
mod Meaning
mod Reading
mod Trees
