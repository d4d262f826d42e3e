pub mod LegalBooks
pub mod BagBooks
pub mod ClosedTables
pub mod EvidenceBooks
pub mod RuleBooks
