mod Lanes
mod Writing
