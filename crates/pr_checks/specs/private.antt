pub mod RulesFound
pub mod RulesTaken
