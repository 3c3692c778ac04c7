mod Feeding
mod Reported
