pub mod OutsideLaws
