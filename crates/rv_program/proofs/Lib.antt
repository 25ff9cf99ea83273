pub mod Fronts
pub mod FrontChecks
pub mod InitialValues
