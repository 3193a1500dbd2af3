mod Lines
mod Left
mod Cut
mod Ends
