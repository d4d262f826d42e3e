pub mod TallyRuns
pub mod LogRuns
pub mod OneLog
pub mod WordHistories
pub mod Transcripts
pub mod FaultyTranscripts
