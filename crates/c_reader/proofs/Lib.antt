mod Depths
mod Fronts
mod Levels
mod Refused
mod Texts
mod Whole
