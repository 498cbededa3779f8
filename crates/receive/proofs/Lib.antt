mod Faulty
mod Learnt
mod Judging
mod Calling
mod Taken
