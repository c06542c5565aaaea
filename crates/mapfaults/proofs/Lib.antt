mod Explaining
mod Marks
