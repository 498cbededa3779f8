mod Entries
mod Elements
mod Frames
