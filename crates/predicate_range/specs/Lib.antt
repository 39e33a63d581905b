pub mod Range
