pub mod OpenedLemmas
pub mod ServingLemmas
pub mod MemberLemmas
mod KeepingLemmas
mod HeadlineLemmas
mod LifeLemmas
mod TurnLives
mod WholeLives
mod VisitLaws
mod ServedLemmas
mod ListeningLemmas
mod ClientLemmas
mod MemberTurns
mod PortLemmas
mod HomeLemmas
mod TradeLemmas
mod RunLemmas
