pub mod Operations
pub mod CodeOfStatements
pub mod Views
pub mod Limits
pub mod Legal
pub mod LegalSteps
