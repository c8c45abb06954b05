pub mod Translated
pub mod TranslatedKept
pub mod TranslatedApart
pub mod Early
pub mod Serving
pub mod Refusals
pub mod Ordered
pub mod TranslatedRanged
