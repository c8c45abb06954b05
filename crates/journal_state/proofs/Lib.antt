mod Leading
mod Frames
mod Loaded
mod Carried
mod Begun
mod Findings
mod Nothing
