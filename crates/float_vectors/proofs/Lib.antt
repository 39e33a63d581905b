pub mod TenLaws
