mod Books
mod Acted
mod Around
mod Single
mod Calling
mod Following
