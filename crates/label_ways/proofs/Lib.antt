mod Adding
mod Noting
