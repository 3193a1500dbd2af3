pub mod LineByLine
pub mod OneEndpoint
