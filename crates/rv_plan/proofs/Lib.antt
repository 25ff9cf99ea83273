pub mod Lemmas
mod Answering
mod Fronts
mod Plans
mod Parts
mod Running
mod WordDigits
