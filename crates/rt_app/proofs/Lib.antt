pub mod EmptyTexts
