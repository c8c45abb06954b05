mod Moments
mod Copies
mod Opened
mod Created
mod Turned
mod Recovery
mod Compared
mod Fitting
