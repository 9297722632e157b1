mod Besides
mod Names
mod Spoken
