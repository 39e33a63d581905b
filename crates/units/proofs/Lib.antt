pub mod SizeLaws
pub mod UnitOperations
pub mod FigureLaws
pub mod SpreadLaws
pub mod CountLaws
pub mod TameLaws
pub mod ScalarLaws
