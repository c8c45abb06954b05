mod Tests
mod Records
mod Running
mod Counting
mod Meant
mod Judging
mod StartLists
mod StartLines
mod StartLoads
mod StartMembers
mod StartOrder
mod StartEnds
mod StartWhole
pub mod LiveText
pub mod LiveCourse
