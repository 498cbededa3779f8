mod Settling
mod Emitting
