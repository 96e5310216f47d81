pub mod OwnRule
pub mod OwnRuleLemmas
