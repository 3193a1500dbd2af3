mod PrefixComes
pub mod Numbered
pub mod Turning
