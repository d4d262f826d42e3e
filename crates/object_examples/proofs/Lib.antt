pub mod WordHistories
pub mod TallyTranscripts
pub mod FaultyTranscripts
