mod WithStock
mod Undisturbed
mod LowVolts
mod TwoTexts
