-- draws
pub mod Draws
-- words that spell instructions
pub mod Words
-- generated programs
pub mod Programs
-- how their runs end
pub mod Runs
