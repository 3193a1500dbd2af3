pub mod AnswerLaws
pub mod Cutting
pub mod Rebuild
pub mod Rebuilt
pub mod TextsTell
