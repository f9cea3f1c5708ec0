mod Examples
mod Matches
mod Numbers
