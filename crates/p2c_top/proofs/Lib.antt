pub mod Clauses
pub mod Executions
pub mod FrontLemmas
pub mod Outcomes
pub mod PlaceLine
pub mod Translations
