pub mod FileRules
