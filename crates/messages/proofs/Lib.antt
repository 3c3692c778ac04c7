mod Grown
mod Marks
