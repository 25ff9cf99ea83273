pub mod ByteLanes
