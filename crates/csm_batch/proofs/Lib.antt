mod Short
mod Walking
mod Judged
mod Back
mod Front
