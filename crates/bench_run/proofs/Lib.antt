mod Stepping
mod Looping
mod Turning
