pub mod Plans
pub mod Contents
pub mod ContentLaws
pub mod Spools
pub mod Beginning
pub mod Committing
pub mod Opening
