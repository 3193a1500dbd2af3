pub mod Beginnings
pub mod Histories
pub mod Shares
pub mod Views
pub mod Steps
pub mod Laying
pub mod Below
pub mod Serving
