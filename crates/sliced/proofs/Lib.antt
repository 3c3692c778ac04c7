mod Circuits
mod Ends
mod OneRound
