pub mod Board
pub mod Journal
pub mod Book
pub mod BoardLaws
