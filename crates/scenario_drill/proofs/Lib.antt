mod Drilling
mod Spelling
mod Numbers
mod Gathered
mod Beginning
mod Events
mod Texts
