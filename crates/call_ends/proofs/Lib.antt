mod Transfers
mod Arrivals
mod Decisions
mod Endings
mod KeyRead
