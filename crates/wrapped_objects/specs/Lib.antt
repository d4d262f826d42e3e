pub mod Replies
pub mod Tickets
pub mod TicketLaws
