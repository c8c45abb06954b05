mod Lanes
mod Gates
mod Filling
mod Blocks
mod Exchanging
mod Rounds
