pub mod RowChecking
