pub mod Chains
pub mod Findings
