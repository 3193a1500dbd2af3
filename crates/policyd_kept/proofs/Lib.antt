mod Newlines
mod Streams
mod Serving
mod Ending
mod Reading
mod Opening
mod Acknowledged
