mod MemWireLemmas
mod BufferLemmas
mod PortLemmas
mod StreamLemmas
mod GatheringLemmas
