mod Firsts
mod StoredFiles
mod Handles
mod Installed
mod Sound
mod Named
