pub mod EstimateLaws
